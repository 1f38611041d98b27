-- A sheet is accepted exactly if it is valid.
use Rattle.std.proofs.Common.{◌≡◌, ℕ, zero, suc, ◌+◌, ◌<◌, ◌≤◌, Bool, true, false, cond, eqb, List, [], ◌∷◌, length, get_or, Some, None, Ok, Result, sym, refl, ap, ◌∙◌, inl, inr, arith}
use Rattle.std.proofs.lemmas.List.{get_or_default}
use Rattle.std.proofs.lemmas.Bool.{cases_Bool, cases_eq, cases_lt, cases_order, eqb-true, eq-eqb, ltb-true, lt-ltb, and_parts, or_from, or_parts, not-true, ne_eqb, eqb-false}
use Rattle.refusals.specs.declared.Refusal.{Refusal}
use Rattle.lists.specs.Format.{fault, lists_of, number_at, unless}
use Rattle.theory.specs.Promise.{Distinct, Proper, rank_in, rank}
use Rattle.theory.specs.Trade.{Lists}
use Rattle.theory.specs.Statements.{ValidSheetIsTheResult}
use Rattle.lists.proofs.Accepted.{no_fault_both, accepted_proper}
use Rattle.lists.proofs.Faults.{no_fault, refused_fault}
use Rattle.lists.proofs.Positions.{count_of_lists}
use Rattle.theory.proofs.Results.{valid_sheet_is_the_result}
use Rattle.sheet.specs.Check.{Checked}
use Rattle.sheet.specs.Sheet.{stand_in, round_in, got_before, dearer_fault, entry_fault, trader_fault, traders_fault, length_fault, sheet_fault, check_fault, Valid, AcceptsExactly, IsAccepted}

-- a test that finds no fault, and one that finds none where it holds
pub no_fault_test : (b : Bool) (f : Refusal) → cond b None (Some f) ≡ None → b ≡ true
no_fault_test true f e = refl
no_fault_test false f e = cc

-- ---- stands got before

pub got_before_is : (sheet : List ℕ) (k t j : ℕ) → got_before sheet k t ≡ false → j < k → stand_in sheet j ≡ t → ⊥
unfolding got_before
got_before_is sheet zero t j e h is = omega arith
got_before_is sheet (suc k) t j e h is =
    let p = or_parts (eqb (stand_in sheet k) t) (got_before sheet k t) e in
    elim (cases_eq j k) [
      | inl same ↦ eqb-false (stand_in sheet k) t p.0 (sym (ap (stand_in sheet) same) ∙ is)
      | inr other ↦ got_before_is sheet k t j p.1 (omega arith) is
    ]

pub is_got_before : (sheet : List ℕ) (k t : ℕ) → ((j : ℕ) → j < k → stand_in sheet j ≡ t → ⊥) → got_before sheet k t ≡ false
unfolding got_before
is_got_before sheet zero t f = refl
is_got_before sheet (suc k) t f =
    or_from (eqb (stand_in sheet k) t) (got_before sheet k t) (ne_eqb (stand_in sheet k) t (f k (omega arith)))
    (is_got_before sheet k t (λ j h. f j (omega arith)))

-- ---- dearer stands

pub dearer_right : (sheet : List ℕ) (i : ℕ) (ts : List ℕ) (place t : ℕ) → dearer_fault sheet i ts place ≡ None →
    rank_in ts i t < rank_in ts i (stand_in sheet i) → round_in sheet t < round_in sheet i
unfolding dearer_fault rank_in
dearer_right sheet i [] place t e d =
    let own = eqb-true (stand_in sheet i) i (no_fault_test _ _ e) in
    let same : eqb i (stand_in sheet i) ≡ true = eq-eqb i (stand_in sheet i) (sym own) in
    absurd (let z : rank_in [] i t < 0 = rw same at d in omega arith)
dearer_right sheet i (u ∷ us) place t e d =
    elim (cases_Bool (eqb u (stand_in sheet i))) [
      | inl g ↦ absurd (let z : rank_in (u ∷ us) i t < 0 = rw g at d in omega arith)
      | inr g ↦
          (let p = no_fault_both _ _ (rw g at e) in
          let before = ltb-true (round_in sheet u) (round_in sheet i) (no_fault_test _ _ p.0) in
          elim (cases_Bool (eqb u t)) [
            | inl same ↦ (let is = eqb-true u t same in rw (sym is) before)
            | inr other ↦
                (let d' : suc (rank_in us i t) < suc (rank_in us i (stand_in sheet i)) = rw (g, other) at d in
                dearer_right sheet i us (suc place) t p.1 (omega arith))
          ])
    ]

pub right_dearer : (sheet : List ℕ) (n i : ℕ) (ts : List ℕ) (place : ℕ) → ((j : ℕ) → j < length ts → get_or ts j 0 < n) →
    rank_in ts i (stand_in sheet i) ≤ rank_in ts i i →
    ((t : ℕ) → t < n → rank_in ts i t < rank_in ts i (stand_in sheet i) → round_in sheet t < round_in sheet i) →
    dearer_fault sheet i ts place ≡ None
unfolding dearer_fault rank_in
right_dearer sheet n i [] place below own right =
    let same : eqb (stand_in sheet i) i ≡ true = grind arith in
    rw same
right_dearer sheet n i (u ∷ us) place below own right =
    elim (cases_Bool (eqb u (stand_in sheet i))) [
      | inl g ↦ rw g
      | inr g ↦
          (let first : rank_in (u ∷ us) i u < rank_in (u ∷ us) i (stand_in sheet i) = rw (g, eq-eqb u u refl) (omega arith) in
          let before = lt-ltb (round_in sheet u) (round_in sheet i) (right u (below 0 (omega arith)) first) in
          let own' : rank_in us i (stand_in sheet i) ≤ rank_in us i i = grind arith in
          let more : (t : ℕ) → rank_in us i t < rank_in us i (stand_in sheet i) → rank_in (u ∷ us) i t < rank_in (u ∷ us) i (stand_in sheet i) =
          λ t d. grind arith in
          rw (g, before) (right_dearer sheet n i us (suc place) (λ j h. below (suc j) (omega arith)) own' (λ t b d. right t b (more t d))))
    ]

-- ---- one trader, and all

pub record Fine (ls : Lists) (sheet : List ℕ) (i : ℕ) : Type 0 where
  pub exists : stand_in sheet i < length ls
  pub fresh : got_before sheet i (stand_in sheet i) ≡ false
  pub dearer : dearer_fault sheet i (get_or ls i []) 0 ≡ None
  pub together : round_in sheet (stand_in sheet i) ≡ round_in sheet i

pub fine_trader : (ls : Lists) (sheet : List ℕ) (i : ℕ) → trader_fault ls sheet i ≡ None → Fine ls sheet i
unfolding trader_fault entry_fault
fine_trader ls sheet i e =
    let p = no_fault_both _ _ e in
    let q = no_fault_both _ _ p.1 in
    let r = and_parts _ _ (no_fault_test _ _ p.0) in
    record {
      exists = ltb-true _ _ r.0;
      fresh = not-true _ r.1;
      dearer = q.0;
      together = eqb-true _ _ (no_fault_test _ _ q.1);
    }

pub trader_fine : (ls : Lists) (sheet : List ℕ) (i : ℕ) → Fine ls sheet i → trader_fault ls sheet i ≡ None
unfolding trader_fault entry_fault
trader_fine ls sheet i f =
    let a = lt-ltb _ _ f.exists in
    let b = eq-eqb _ _ f.together in
    rw (a, f.fresh, f.dearer, b)

pub all_fine : (ls : Lists) (sheet : List ℕ) (i k : ℕ) → traders_fault ls sheet i k ≡ None → (j : ℕ) → i ≤ j → j < i + k → Fine ls sheet j
unfolding traders_fault
all_fine ls sheet i zero e j low high = absurd (omega arith)
all_fine ls sheet i (suc k) e j low high =
    let p = no_fault_both (trader_fault ls sheet i) (traders_fault ls sheet (suc i) k) e in
    elim (cases_lt i j) [
      | inl more ↦ all_fine ls sheet (suc i) k p.1 j (omega arith) (omega arith)
      | inr same ↦ let is : j ≡ i = omega arith in rw is (fine_trader ls sheet i p.0)
    ]

pub fine_all : (ls : Lists) (sheet : List ℕ) (i k : ℕ) → ((j : ℕ) → i ≤ j → j < i + k → Fine ls sheet j) → traders_fault ls sheet i k ≡ None
unfolding traders_fault
fine_all ls sheet i zero f = refl
fine_all ls sheet i (suc k) f =
    let here = trader_fine ls sheet i (f i (omega arith) (omega arith)) in
    rw here (fine_all ls sheet (suc i) k (λ j low high. f j (omega arith) (omega arith)))

-- ---- both directions

pub accepted_valid : (ls : Lists) (sheet : List ℕ) → sheet_fault ls sheet ≡ None → Valid ls sheet
unfolding rank
accepted_valid ls sheet e =
    let p = no_fault_both (length_fault (length ls) sheet) (traders_fault ls sheet 0 (length ls)) e in
    let fine : (i : ℕ) → i < length ls → Fine ls sheet i = λ i h. all_fine ls sheet 0 (length ls) p.1 i (omega arith) (omega arith) in (
      eqb-true _ _ (no_fault_test _ _ p.0),
      record {
        exists = λ i h. (fine i h).exists;
        apart = λ i j hi hj same. elim (cases_order i j) [
          | inl is ↦ is
          | inr other ↦ absurd (elim other [
            | inl less ↦ got_before_is sheet j (stand_in sheet j) i (fine j hj).fresh less same
            | inr more ↦ got_before_is sheet i (stand_in sheet i) j (fine i hi).fresh more (sym same)
          ])
        ];
        dearer = λ i t hi ht d. dearer_right sheet i (get_or ls i []) 0 t (fine i hi).dearer d;
        together = λ i h. (fine i h).together;
      },
    )

pub valid_accepted : (ls : Lists) (sheet : List ℕ) → Proper ls → Valid ls sheet → sheet_fault ls sheet ≡ None
unfolding rank Proper Distinct
valid_accepted ls sheet proper (size, v) =
    let right : length_fault (length ls) sheet ≡ None = rw (eq-eqb _ _ size) in
    let n = length ls in
    let fine : (i : ℕ) → i < n → Fine ls sheet i = λ i h. record {
      exists = v.exists i h;
      fresh = is_got_before sheet i (stand_in sheet i)
          (λ j less same. let z = v.apart j i (omega arith) h same in omega arith);
      dearer = right_dearer sheet n i (get_or ls i []) 0
          (λ j hj. rw (get_or_default (get_or ls i []) j 0 n hj) ((proper i h).0.1 j hj))
          (elim (cases_lt (rank ls i i) (rank ls i (stand_in sheet i))) [
            | inl less ↦ absurd (let z = v.dearer i i h h less in omega arith)
            | inr own ↦ own
          ])
          (λ t b d. v.dearer i t h b d);
      together = v.together i h;
    } in
    rw right (fine_all ls sheet 0 n (λ j low high. fine j (omega arith)))

pub accepts_exactly : AcceptsExactly
unfolding AcceptsExactly
accepts_exactly ls sheet proper = (accepted_valid ls sheet, valid_accepted ls sheet proper)

-- ---- the outcome of a check

pub checked : (bs sheet : List ℕ) (r : Result ℕ Refusal) → r ≡ unless (check_fault bs sheet) (number_at bs 0) → Checked bs sheet r
unfolding ValidSheetIsTheResult
checked bs sheet r e =
    let fine : (n : ℕ) → r ≡ Ok n → (check_fault bs sheet ≡ None) × (n ≡ number_at bs 0) = λ n is. no_fault _ _ _ (sym is ∙ e) in
    let parts : (n : ℕ) → r ≡ Ok n → (fault bs ≡ None) × (sheet_fault (lists_of bs) sheet ≡ None) =
    λ n is. no_fault_both (fault bs) (sheet_fault (lists_of bs) sheet) (fine n is).0 in
    record {
      proper = λ n is. accepted_proper bs (parts n is).0;
      valid = λ n is. accepted_valid (lists_of bs) sheet (parts n is).1;
      right = λ n is i h.
          (let count = count_of_lists bs in
          valid_sheet_is_the_result (lists_of bs) (stand_in sheet) (round_in sheet) (accepted_valid (lists_of bs) sheet (parts n is).1).1 i
          (omega (arith, (fine n is).1)));
      wrong = λ f is good v.
          (let bad = refused_fault (check_fault bs sheet) (number_at bs 0) f (sym is ∙ e) in
          let none = valid_accepted (lists_of bs) sheet (accepted_proper bs good) v in
          let all : check_fault bs sheet ≡ None = rw (good, none) in
          cc);
    }

-- a sheet that is accepted
pub accepted_sheet : (ls : Lists) (sheet : List ℕ) (n : ℕ) (u v : Unit {0}) → n ≡ length ls → ◌≡◌ {A = Result (Unit {0}) Refusal} (Ok u) (unless (length_fault n sheet) tt) →
    ◌≡◌ {A = Result (Unit {0}) Refusal} (Ok v) (unless (traders_fault ls sheet 0 (length ls)) tt) → IsAccepted ls sheet
accepted_sheet ls sheet n u v count sized fine =
    let size : length_fault (length ls) sheet ≡ None = rw count at (no_fault (length_fault n sheet) tt u sized).0 in
    let all = (no_fault (traders_fault ls sheet 0 (length ls)) tt v fine).0 in
    let right : sheet_fault ls sheet ≡ None = rw (size, all) in
    let valid = accepted_valid ls sheet right in
    record { right = right; size = valid.0; exists = valid.1.exists }
