-- Every paper that is written from an accepted sheet passes.
use Rattle.std.proofs.Common.{◌≡◌, ℕ, zero, suc, ◌+◌, ◌*◌, ◌<◌, ◌≤◌, Bool, true, false, cond, not, ◌&&◌, ◌||◌, eqb, ltb, List, [], ◌∷◌, length, get_or, take, drop, None, Option, sym, refl, ap, ◌∙◌, inl, inr, arith}
use Rattle.std.proofs.lemmas.List.{append-nil, drop_more}
use Rattle.std.proofs.lemmas.Bool.{and_from, and_parts, cases_Bool, cases_eq, eq-eqb, eqb-true, le-ltb, lt-ltb, ltb-true, ne_eqb}
use Rattle.std.specs.Option.{option_or}
use Rattle.refusals.specs.declared.Refusal.{Refusal}
use Rattle.theory.specs.Certificate.{steps}
use Rattle.lists.specs.Format as format
use Rattle.lists.specs.Format.{encode_stands, list_bytes, lists_of, member, number_at, numbers, own_list_fault, start}
use Rattle.lists.proofs.Accepted.{all_may, good_numbers, list_good, list_good_at, no_fault_both}
use Rattle.lists.proofs.Encoding.{length_of_stands, proper_may, stands_written, written_good, written_list}
use Rattle.lists.proofs.Faults.{may_list}
use Rattle.lists.proofs.Positions.{count_of_numbers, list_is, numbers_from}
use Rattle.sheet.specs.Sheet as sheets
use Rattle.sheet.specs.Sheet.{ring_of, round_in, sheet_of, stand_in}
use Rattle.sheet.proofs.Checked.{accepted_valid, all_fine, no_fault_test}
use Rattle.sheet.proofs.Written.{written_accepted}
use Rattle.papers.specs.Faults.{dearer_fault, field_fault, fields_fault, gone_fault, head_fault, holder_fault, in_place, length_fault, member_fault, own_fault, owner, ring_fault, round_fault, stand_fault, tail_fault}
use Rattle.papers.specs.Paper.{count_on, count_place, dearer_than, gone_on, holder_on, own_on, paper_for, ring_length, ring_on, round_on, stand_on}
use Rattle.papers.specs.Trust.{OwnListsStandThere, PapersOfTheExchangePass, PapersPass, own_list}
use Rattle.papers.proofs.Fields.{count_written, gone_written, holder_written, own_written, ring_length_written, ring_written, round_written, stand_written}
use Rattle.papers.proofs.Orbits.{Ring, ring_around}
use Rattle.papers.proofs.Places.{dearer_few, dearer_more}
use Rattle.papers.proofs.Writes.{length_paper}

-- ---- the list by itself

may_larger : (n m own t : ℕ) (before : List ℕ) → n ≤ m → may_list n own before t ≡ true → may_list m own before t ≡ true
may_larger n m own t before h e = grind arith

all_may_larger : (n m own : ℕ) (before ts : List ℕ) → n ≤ m → all_may n own before ts ≡ true → all_may m own before ts ≡ true
all_may_larger n m own before [] h e = refl
all_may_larger n m own before (t ∷ ts) h e =
    let p = and_parts (may_list n own before t) (all_may n own (t ∷ before) ts) e in
    and_from _ _ (may_larger n m own t before h p.0) (all_may_larger n m own (t ∷ before) ts h p.1)

module _ (l : List ℕ) (own : ℕ) (few : length l ≤ 40) (may : all_may 4000 own [] l ≡ true) where
  list_passes : own_list_fault (length l ∷ encode_stands l) own ≡ None
  unfolding format.list_fault
  list_passes =
      let bs = length l ∷ encode_stands l in
      let here = sym (append-nil (length l ∷ encode_stands l)) in
      let good = written_good bs 0 l [] here 4000 own few may in
      let both = no_fault_both (format.length_fault bs 0) (format.stands_fault bs 4000 own [] (get_or bs 0 0) 1) (list_good bs 4000 own 0 good) in
      let size = length_of_stands l in
      rw (both.0, both.1, le-ltb (0 + 1 + 2 * length l) (suc (length (encode_stands l))) (omega arith))

  list_read : numbers (list_bytes (length l ∷ encode_stands l) 0) ≡ l
  list_read = written_list (length l ∷ encode_stands l) 0 l [] (sym (append-nil (length l ∷ encode_stands l)))

-- ---- a paper, field by field

field_fine : (paper : List ℕ) (f end : ℕ) (right : Bool) → end ≤ length paper → right ≡ true → field_fault paper f end right ≡ None
field_fine paper f end right h e = rw (le-ltb (length paper) end h, e)

-- the ring
module _ (paper : List ℕ) (m : ℕ) (there : (j : ℕ) → j < m → 10 + 2 * j ≤ length paper)
    (right : (j : ℕ) → j < m → (ltb (ring_on paper j) 4000 && in_place paper j) ≡ true)
    (once : (a b : ℕ) → a < m → b < m → ring_on paper a ≡ ring_on paper b → a ≡ b) where
  not_again : (before : List ℕ) (k : ℕ) → k < m → ((t : ℕ) → member t before ≡ true → (j : ℕ) × (j < k) × (ring_on paper j ≡ t)) →
      member (ring_on paper k) before ≡ false
  not_again before k h earlier = elim (cases_Bool (member (ring_on paper k) before)) [
    | inl e ↦ absurd (let w = earlier (ring_on paper k) e in let same = once w.0 k (omega (arith, w.1)) h w.2 in omega (arith, w.1))
    | inr e ↦ e
  ]

  one_more : (before : List ℕ) (k : ℕ) → ((t : ℕ) → member t before ≡ true → (j : ℕ) × (j < k) × (ring_on paper j ≡ t)) →
      (t : ℕ) → member t (ring_on paper k ∷ before) ≡ true → (j : ℕ) × (j < suc k) × (ring_on paper j ≡ t)
  one_more before k earlier t e = elim (cases_Bool (eqb (ring_on paper k) t)) [
    | inl same ↦ (k, omega arith, eqb-true (ring_on paper k) t same)
    | inr other ↦ (let w = earlier t (rw other at e) in (w.0, omega (arith, w.1), w.2))
  ]

  right_member : (k : ℕ) (again : Bool) → k < m → again ≡ false → member_fault paper k again ≡ None
  right_member k again h e =
      let p = and_parts (ltb (ring_on paper k) 4000) (in_place paper k) (right k h) in
      field_fine paper (4 + k) (10 + 2 * k) _ (there k h) (and_from _ _ p.0 (and_from _ _ p.1 (rw e)))

  ring_fine : (before : List ℕ) (left k : ℕ) → k + left ≡ m → ((t : ℕ) → member t before ≡ true → (j : ℕ) × (j < k) × (ring_on paper j ≡ t)) →
      ring_fault paper before left k ≡ None
  unfolding ring_fault
  ring_fine before zero k is earlier = refl
  ring_fine before (suc left) k is earlier =
      let none = right_member k (member (ring_on paper k) before) (omega arith) (not_again before k (omega arith) earlier) in
      ap (λ o. option_or o (ring_fault paper (ring_on paper k ∷ before) left (suc k))) none
      ∙ ring_fine (ring_on paper k ∷ before) left (suc k) (omega arith) (one_more before k earlier)

-- the dearer stands
dearer_fine : (paper ts : List ℕ) (j : ℕ) →
    ((k q : ℕ) → q ≡ j + k → k < length ts →
    (count_place paper + 5 + 4 * q ≤ length paper) × (holder_on paper q ≡ get_or ts k 0) × (gone_on paper q < round_on paper)) →
    length paper ≤ count_place paper + 1 + 4 * (j + length ts) → dearer_fault paper ts j ≡ None
unfolding dearer_fault
dearer_fine paper [] j right end =
    let e : count_place paper + 1 + 4 * (j + 0) ≡ count_place paper + 1 + 4 * j = omega arith in
    rw (le-ltb (count_place paper + 1 + 4 * j) (length paper) (omega arith))
dearer_fine paper (t ∷ ts) j right end =
    let here = right 0 j (omega arith) (omega arith) in
    let held : holder_fault paper j t ≡ None =
    field_fine paper (5 + ring_length paper + 2 * j) (count_place paper + 3 + 4 * j) _ (omega (arith, here.0)) (eq-eqb (holder_on paper j) t here.1) in
    let gone : gone_fault paper j ≡ None =
    field_fine paper (6 + ring_length paper + 2 * j) (count_place paper + 5 + 4 * j) _ here.0 (lt-ltb (gone_on paper j) (round_on paper) here.2) in
    let more = dearer_fine paper ts (suc j) (λ k q is h. right (suc k) q (omega arith) (omega arith)) (omega arith) in
    ap (λ o. option_or o (option_or (gone_fault paper j) (dearer_fault paper ts (suc j)))) held ∙ (ap (λ o. option_or o (dearer_fault paper ts (suc j))) gone ∙ more)

-- ---- what an accepted sheet says of a trader's list

listed_or_own : (sheet : List ℕ) (i : ℕ) (ts : List ℕ) (place : ℕ) → sheets.dearer_fault sheet i ts place ≡ None →
    (eqb (stand_in sheet i) i || member (stand_in sheet i) ts) ≡ true
unfolding sheets.dearer_fault
listed_or_own sheet i [] place e = rw (no_fault_test _ _ e)
listed_or_own sheet i (t ∷ ts) place e = elim (cases_Bool (eqb t (stand_in sheet i))) [
  | inl same ↦ (let a = same in grind arith)
  | inr other ↦ (let ih = listed_or_own sheet i ts (suc place) (no_fault_both _ _ (rw other at e)).1 in rw other ih)
]

at_place : (sheet : List ℕ) (u r : ℕ) (us : List ℕ) (j : ℕ) → j < suc (length us) → round_in sheet u < r →
    ((k : ℕ) → k < length us → round_in sheet (get_or us k 0) < r) → round_in sheet (get_or (u ∷ us) j 0) < r
at_place sheet u r us zero h first rest = first
at_place sheet u r us (suc k) h first rest = rest k (omega arith)

gone_before : (sheet : List ℕ) (i : ℕ) (ts : List ℕ) (place : ℕ) → sheets.dearer_fault sheet i ts place ≡ None →
    (j : ℕ) → j < length (dearer_than (stand_in sheet i) ts) → round_in sheet (get_or (dearer_than (stand_in sheet i) ts) j 0) < round_in sheet i
unfolding sheets.dearer_fault
gone_before sheet i [] place e j h = absurd (omega (arith, dearer_few (stand_in sheet i) []))
gone_before sheet i (t ∷ ts) place e j h = elim (cases_Bool (eqb t (stand_in sheet i))) [
  | inl same ↦ absurd (let z : j < 0 = rw (dearer_more, same) at h in omega arith)
  | inr other ↦ (let both = no_fault_both _ _ (rw other at e) in
      let z : j < suc (length (dearer_than (stand_in sheet i) ts)) = rw (dearer_more, other) at h in
      rw (dearer_more, other) (at_place sheet t (round_in sheet i) (dearer_than (stand_in sheet i) ts) j z (ltb-true _ _ (no_fault_test _ _ both.0)) (gone_before sheet i ts (suc place) both.1)))
]

-- ---- a paper from an accepted sheet

none_both : (a b : Option Refusal) → a ≡ None → b ≡ None → option_or a b ≡ None
none_both a b p q = rw p q

module _ (sheet : List ℕ) (n i : ℕ) (l : List ℕ) (h : i < n) (most : n ≤ 4000) (ring : Ring sheet n i)
    (fine : sheets.dearer_fault sheet i l 0 ≡ None) where
  own_fine : own_fault (paper_for sheet n i l) ≡ None
  own_fine =
      let size = length_paper sheet n i l in
      let is = own_written sheet n i l in
      field_fine (paper_for sheet n i l) 0 2 _ (omega arith) (lt-ltb (own_on (paper_for sheet n i l)) 4000 (omega arith))

  round_fine : round_fault (paper_for sheet n i l) ≡ None
  round_fine = let size = length_paper sheet n i l in field_fine (paper_for sheet n i l) 1 4 true (omega arith) refl

  stand_fine : stand_fault l (paper_for sheet n i l) ≡ None
  stand_fine =
      let size = length_paper sheet n i l in
      let listed : (eqb (stand_on (paper_for sheet n i l)) (own_on (paper_for sheet n i l)) || member (stand_on (paper_for sheet n i l)) l) ≡ true =
      rw (stand_written sheet n i l, own_written sheet n i l) (listed_or_own sheet i l 0 fine) in
      field_fine (paper_for sheet n i l) 2 6 _ (omega arith) listed

  right_length : (m g : ℕ) → m ≡ length (ring_of sheet n i) → g ≡ stand_in sheet i →
      (ltb 0 m && (ltb m 4001 && cond (eqb g i) (eqb m 1) (not (eqb m 1)))) ≡ true
  right_length m g is got =
      let some : 0 < m = omega (arith, ring.some) in
      let few : m < 4001 = omega (arith, ring.few) in
      let last : cond (eqb g i) (eqb m 1) (not (eqb m 1)) ≡ true =
      elim (cases_eq g i) [
        | inl e ↦ rw (eq-eqb g i e) (eq-eqb m 1 (is ∙ ring.alone (sym got ∙ e)))
        | inr e ↦ rw (ne_eqb g i e, ne_eqb m 1 (λ one. ring.not_alone (λ s. e (got ∙ s)) (sym is ∙ one)))
      ] in
      and_from _ _ (lt-ltb 0 m some) (and_from _ _ (lt-ltb m 4001 few) last)

  length_fine : length_fault (paper_for sheet n i l) ≡ None
  length_fine =
      let size = length_paper sheet n i l in
      field_fine (paper_for sheet n i l) 3 8 _ (omega arith)
      (rw (own_written sheet n i l) (right_length (ring_length (paper_for sheet n i l)) (stand_on (paper_for sheet n i l)) (ring_length_written sheet n i l) (stand_written sheet n i l)))

  head_fine : head_fault l (paper_for sheet n i l) ≡ None
  head_fine = none_both _ _ own_fine (none_both _ _ round_fine (none_both _ _ stand_fine length_fine))

  step_there : (k : ℕ) → k < length (ring_of sheet n i) → ring_on (paper_for sheet n i l) k ≡ steps (stand_in sheet) k i
  step_there k g = ring_written sheet n i l k g ∙ ring.there k g

  placed : (k : ℕ) → k < length (ring_of sheet n i) → in_place (paper_for sheet n i l) k ≡ true
  placed zero g = eq-eqb (ring_on (paper_for sheet n i l) 0) (own_on (paper_for sheet n i l)) (step_there 0 g ∙ sym (own_written sheet n i l))
  placed (suc zero) g = eq-eqb (ring_on (paper_for sheet n i l) 1) (stand_on (paper_for sheet n i l)) (step_there 1 g ∙ sym (stand_written sheet n i l))
  placed (suc (suc k)) g = rw (ne_eqb (suc (suc k)) 0 (λ e. omega arith), ne_eqb (suc (suc k)) 1 (λ e. omega arith))

  all_ring_fine : ring_fault (paper_for sheet n i l) [] (ring_length (paper_for sheet n i l)) 0 ≡ None
  all_ring_fine =
      let P = paper_for sheet n i l in
      let size = length_paper sheet n i l in
      rw (ring_length_written sheet n i l)
      (ring_fine (paper_for sheet n i l) (length (ring_of sheet n i)) (λ j g. omega arith)
      (λ j g. and_from _ _ (lt-ltb (ring_on (paper_for sheet n i l) j) 4000 (rw (ring_written sheet n i l j g) (let b = ring.below j g in omega arith))) (placed j g))
      (λ a b ga gb e. ring.once a b ga gb (sym (ring_written sheet n i l a ga) ∙ (e ∙ ring_written sheet n i l b gb)))
      [] (length (ring_of sheet n i)) 0 (omega arith) (λ t e. absurd (let z : ◌≡◌ {A = ℕ} 0 1 = cc in omega arith)))

  tail_fine : tail_fault (paper_for sheet n i l) (dearer_than (stand_on (paper_for sheet n i l)) l) ≡ None
  tail_fine =
      let ts = dearer_than (stand_in sheet i) l in
      let size = length_paper sheet n i l in
      let m = ring_length_written sheet n i l in
      let r = round_written sheet n i l in
      rw (stand_written sheet n i l)
      (none_both _ _
      (field_fine (paper_for sheet n i l) (4 + ring_length (paper_for sheet n i l)) (count_place (paper_for sheet n i l) + 1) _ (omega arith)
      (eq-eqb (count_on (paper_for sheet n i l)) (length (dearer_than (stand_in sheet i) l)) (count_written sheet n i l)))
      (dearer_fine (paper_for sheet n i l) (dearer_than (stand_in sheet i) l) 0
      (λ k q is g. (let e : q ≡ k = omega arith in (
        omega arith,
        rw e (holder_written sheet n i l k g),
        rw (e, gone_written sheet n i l k g, r) (gone_before sheet i l 0 fine k g),
      )))
      (omega arith)))

  fields_fine : fields_fault l (paper_for sheet n i l) ≡ None
  fields_fine = none_both _ _ head_fine (none_both _ _ all_ring_fine tail_fine)

  owner_is : owner (paper_for sheet n i l) ≡ i
  owner_is = let size = length_paper sheet n i l in rw (le-ltb (length (paper_for sheet n i l)) 2 (omega arith)) (own_written sheet n i l)

pub papers_pass : PapersPass
unfolding PapersPass
papers_pass ls sheet i enc ok h =
    let n = length ls in
    let l = get_or ls i [] in
    let valid = accepted_valid ls sheet ok in
    let fine = all_fine ls sheet 0 (length ls) (no_fault_both _ _ ok).1 i (omega arith) (omega arith) in
    let ring = ring_around sheet (length ls) valid.1.exists valid.1.apart i h in
    let few = enc.short i h in
    let may = all_may_larger (length ls) 4000 i [] (get_or ls i []) enc.most (proper_may ls enc.proper i h) in
    let list : own_list_fault (own_list ls i) (owner (paper_for sheet (length ls) i (get_or ls i []))) ≡ None =
    ap (own_list_fault (own_list ls i)) (owner_is sheet (length ls) i (get_or ls i []) h enc.most ring fine.dearer) ∙ list_passes (get_or ls i []) i few may in
    let fields : fields_fault (numbers (list_bytes (own_list ls i) 0)) (paper_for sheet (length ls) i (get_or ls i [])) ≡ None =
    ap (λ (stands : List ℕ). fields_fault stands (paper_for sheet (length ls) i (get_or ls i []))) (list_read (get_or ls i []) i few may)
    ∙ fields_fine sheet (length ls) i (get_or ls i []) h enc.most ring fine.dearer in
    none_both _ _ list fields

pub papers_of_the_exchange_pass : PapersOfTheExchangePass
unfolding PapersOfTheExchangePass PapersPass
papers_of_the_exchange_pass ls i enc h = papers_pass ls (sheet_of ls) i enc (written_accepted ls enc.proper) h

pub own_lists_stand_there : OwnListsStandThere
unfolding OwnListsStandThere
own_lists_stand_there bs i bytes accepted h =
    let p = start bs i in
    let c = get_or bs (start bs i) 0 in
    let good = list_good_at bs accepted i h in
    let within = good.within in
    let l : get_or (lists_of bs) i [] ≡ numbers_from bs (get_or bs (start bs i) 0) (start bs i + 1) =
    list_is bs i h ∙ good_numbers bs (number_at bs 0) i (start bs i) good in
    let count : length (get_or (lists_of bs) i []) ≡ get_or bs (start bs i) 0 = ap length l ∙ count_of_numbers bs (get_or bs (start bs i) 0) (start bs i + 1) in
    let stands : encode_stands (get_or (lists_of bs) i []) ≡ take (2 * get_or bs (start bs i) 0) (drop (start bs i + 1) bs) =
    ap encode_stands l ∙ stands_written bs bytes (get_or bs (start bs i) 0) (start bs i + 1) within in
    let first = drop_more bs (start bs i) 0 (omega arith) in
    let one : 1 + 2 * get_or bs (start bs i) 0 ≡ suc (2 * get_or bs (start bs i) 0) = omega arith in
    rw (one, first) (sym (cc (count, stands)))
