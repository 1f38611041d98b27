-- How the first fault of all traders is found a trader at a time.
use Rattle.std.proofs.Common.{◌≡◌, ℕ, zero, suc, ◌+◌, ◌<◌, ◌≤◌, Bool, true, false, cond, ltb, List, [], ◌∷◌, length, get_or, set, drop, replicate, Some, None, Option, sym, refl, ap, ◌∙◌, inl, inr, add-one, arith, length-set}
use Rattle.std.proofs.lemmas.Bool.{cases_Bool, cases_eq, eq-eqb, ne_eqb}
use Rattle.std.proofs.lemmas.List.{get_or-set_other, get_or-set_same}
use Rattle.std.specs.Option.{option_or}
use Rattle.refusals.specs.declared.Refusal.{Refusal}
use Rattle.refusals.specs.declared.Refusal.TheVariants.{StandTaken}
use Rattle.theory.specs.Trade.{Lists}
use Rattle.sheet.specs.Sheet.{stand_in, got_before, entry_fault, trader_fault, traders_fault}
use Rattle.sheet.proofs.Checked.{fine_trader}
use Rattle.sheet.proofs.Rest.{rest_here, rest_next}

-- the marks of the stands got before: none, and one more
pub no_marks : (n t : ℕ) → get_or (replicate n false) t false ≡ false
no_marks zero t = refl
no_marks (suc n) zero = refl
no_marks (suc n) (suc t) = no_marks n t

taken_none : (sheet : List ℕ) (n t : ℕ) → get_or (replicate n false) t false ≡ got_before sheet 0 t
unfolding got_before
taken_none sheet n t = no_marks n t

taken_more : (sheet : List ℕ) (taken : List Bool) (i got : ℕ) → got ≡ stand_in sheet i → got < length taken →
    ((t : ℕ) → get_or taken t false ≡ got_before sheet i t) →
    (t : ℕ) → get_or (set taken got true) t false ≡ got_before sheet (i + 1) t
unfolding got_before
taken_more sheet taken i got is h m t =
    elim (cases_eq t got) [
      | inl e ↦ rw (add-one i, ← is, e, eq-eqb got got refl) (get_or-set_same taken got true false h)
      | inr ne ↦ rw (add-one i, ← is, ne_eqb got t (λ e. ne (sym e))) (get_or-set_other taken got t true false ne ∙ m t)
    ]

-- the first fault of the traders whose lists are left, of n traders; the first of them is trader i, and the stands got before are taken
unfoldable pub left_fault : ℕ → List ℕ → List Bool → ℕ → Lists → Option Refusal
left_fault n sheet taken i [] = None
left_fault n sheet taken i (l ∷ ls) =
    option_or (entry_fault sheet n i l (get_or taken (stand_in sheet i) false)) (left_fault n sheet (set taken (stand_in sheet i) true) (i + 1) ls)

-- what follows a fault doesn't matter
after_none : (o a b : Option Refusal) → (o ≡ None → a ≡ b) → option_or o a ≡ option_or o b
after_none None a b same = same refl
after_none (Some f) a b same = refl

left_is : (ls : Lists) (sheet : List ℕ) (taken : List Bool) (i : ℕ) (rest : Lists) → rest ≡ drop i ls → length ls ≤ length taken →
    ((t : ℕ) → get_or taken t false ≡ got_before sheet i t) → traders_fault ls sheet i (length rest) ≡ left_fault (length ls) sheet taken i rest
unfolding left_fault trader_fault traders_fault
left_is ls sheet taken i [] left room marks = refl
left_is ls sheet taken i (l ∷ others) left room marks =
    let first : trader_fault ls sheet i ≡ entry_fault sheet (length ls) i l (get_or taken (stand_in sheet i) false) =
    rw (rest_here ls (l ∷ others) others i l left refl [], marks (stand_in sheet i)) refl in
    let next = rest_next ls (l ∷ others) others i l left refl in
    let room' : length ls ≤ length (set taken (stand_in sheet i) true) = rw length-set room in
    let more = λ (e : trader_fault ls sheet i ≡ None). taken_more sheet taken i (stand_in sheet i) refl (omega (arith, (fine_trader ls sheet i e).exists)) marks in
    after_none (trader_fault ls sheet i) _ _
    (λ e. rw (sym (add-one i)) (left_is ls sheet (set taken (stand_in sheet i) true) (i + 1) others next room' (more e)))
    ∙ ap (λ o. option_or o (left_fault (length ls) sheet (set taken (stand_in sheet i) true) (i + 1) others)) first

pub all_left : (ls : Lists) (sheet : List ℕ) (n i : ℕ) (rest : Lists) → n ≡ length ls → n ≤ 4000 → i ≡ 0 → rest ≡ ls →
    left_fault n sheet (replicate 4000 false) i rest ≡ traders_fault ls sheet 0 (length ls)
all_left ls sheet n i rest count few start all =
    rw (count, start, all) (sym (left_is ls sheet (replicate 4000 false) 0 ls refl (omega arith) (taken_none sheet 4000)))

-- without a fault the stand got exists
pub entry_exists : (sheet : List ℕ) (n i : ℕ) (ts : List ℕ) (again : Bool) →
    entry_fault sheet n i ts again ≡ cond (ltb (stand_in sheet i) n) (entry_fault sheet n i ts again) (Some (StandTaken i))
unfolding entry_fault
entry_exists sheet n i ts again = elim (cases_Bool (ltb (stand_in sheet i) n)) [ inl e ↦ rw e | inr e ↦ rw e ]
