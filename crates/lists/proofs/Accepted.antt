-- What holds of the bytes of a year that have no fault.
use Rattle.std.proofs.Common.{◌≡◌, ℕ, zero, suc, ◌+◌, ◌*◌, ◌<◌, ◌≤◌, Bool, true, false, cond, ◌&&◌, ltb, List, [], ◌∷◌, length, get_or, Some, None, Option, sym, refl, ap, inl, inr, arith}
use Rattle.std.proofs.lemmas.List.{get_or_default}
use Rattle.std.proofs.lemmas.Bool.{and_parts, and_from, le-ltb, lt-ltb, ltb-true, ltb-false, cases_lt}
use Rattle.std.specs.Option.{option_or}
use Rattle.refusals.specs.declared.Refusal.{Refusal}
use Rattle.theory.specs.Promise.{Distinct, Proper}
use Rattle.lists.proofs.Faults.{may_list}
use Rattle.lists.specs.Format.{number_at, numbers, list_bytes, next_start, start, lists_of, stands_fault, count_fault, end_fault, list_fault, lists_fault, fault, Begins, Encodable}
use Rattle.lists.proofs.Positions.{numbers_from, count_of_numbers, numbers_are, count_of_lists, list_is}

-- the stands ts may all be listed by trader own, one after the other, after the stands `before`
abbrev pub all_may : ℕ → ℕ → List ℕ → List ℕ → Bool
all_may n own before [] = true
all_may n own before (t ∷ ts) = may_list n own before t && all_may n own (t ∷ before) ts

module _ (n own t u : ℕ) (before : List ℕ) where
  may_fewer : may_list n own (u ∷ before) t ≡ true → may_list n own before t ≡ true
  may_fewer m = grind arith

  may_other : may_list n own (u ∷ before) t ≡ true → u ≡ t → ⊥
  may_other m e = grind arith

  pub may_more : may_list n own before t ≡ true → (u ≡ t → ⊥) → may_list n own (u ∷ before) t ≡ true
  may_more m ne = grind arith

module _ (n own t : ℕ) (before : List ℕ) (m : may_list n own before t ≡ true) where
  may_below : t < n
  may_below = grind arith

  may_not_own : t ≡ own → ⊥
  may_not_own e = grind arith

module _ (n own : ℕ) where
  pub each_may : (before ts : List ℕ) (j : ℕ) → all_may n own before ts ≡ true → j < length ts →
      may_list n own before (get_or ts j 0) ≡ true
  each_may before [] j f h = absurd (omega arith)
  each_may before (t ∷ ts) zero f h = (and_parts _ _ f).0
  each_may before (t ∷ ts) (suc j) f h =
      may_fewer n own _ t before (each_may (t ∷ before) ts j (and_parts _ _ f).1 (omega arith))

  pub all_apart : (before ts : List ℕ) (j k : ℕ) → all_may n own before ts ≡ true → j < length ts → k < length ts →
      get_or ts j 0 ≡ get_or ts k 0 → j ≡ k
  all_apart before [] j k f hj hk e = absurd (omega arith)
  all_apart before (t ∷ ts) zero zero f hj hk e = refl
  all_apart before (t ∷ ts) zero (suc k) f hj hk e =
      absurd (may_other n own _ t before (each_may (t ∷ before) ts k (and_parts _ _ f).1 (omega arith)) e)
  all_apart before (t ∷ ts) (suc j) zero f hj hk e =
      absurd (may_other n own _ t before (each_may (t ∷ before) ts j (and_parts _ _ f).1 (omega arith)) (sym e))
  all_apart before (t ∷ ts) (suc j) (suc k) f hj hk e =
      ap suc (all_apart (t ∷ before) ts j k (and_parts _ _ f).1 (omega arith) (omega arith) e)

  pub all_distinct : (ts : List ℕ) → all_may n own [] ts ≡ true →
      Distinct n ts × ((j : ℕ) → j < length ts → get_or ts j 0 ≡ own → ⊥)
  unfolding Distinct
  all_distinct ts f = (
    (
      λ j k. all_apart [] ts j k f,
      λ j h. rw (get_or_default ts j n 0 h) (may_below n own (get_or ts j 0) [] (each_may [] ts j f h)),
    ),
    λ j h. may_not_own n own (get_or ts j 0) [] (each_may [] ts j f h),
  )

-- a step that finds no fault
no_fault_left : (b : Bool) (f : Refusal) (o : Option Refusal) → cond b (Some f) o ≡ None → (b ≡ false) × (o ≡ None)
no_fault_left true f o e = absurd (let z : ◌≡◌ {A = ℕ} 0 1 = cc in omega arith)
no_fault_left false f o e = (refl, e)

no_fault_right : (b : Bool) (f : Refusal) (o : Option Refusal) → cond b o (Some f) ≡ None → (b ≡ true) × (o ≡ None)
no_fault_right true f o e = (refl, e)
no_fault_right false f o e = absurd (let z : ◌≡◌ {A = ℕ} 0 1 = cc in omega arith)

pub no_fault_both : (o later : Option Refusal) → option_or o later ≡ None → (o ≡ None) × (later ≡ None)
no_fault_both (Some f) later e = absurd (let z : ◌≡◌ {A = ℕ} 0 1 = cc in omega arith)
no_fault_both None later e = (refl, e)

-- the stands of a list have no fault just where they all stand there and may all be listed
pub good_stands : (bs : List ℕ) (n own : ℕ) (before : List ℕ) (k p : ℕ) → p ≤ length bs →
    stands_fault bs n own before k p ≡ None →
    (p + 2 * k ≤ length bs) × (all_may n own before (numbers_from bs k p) ≡ true)
unfolding stands_fault
good_stands bs n own before zero p h e = (omega arith, refl)
good_stands bs n own before (suc k) p h e =
    let both = no_fault_both _ _ e in
    let there = no_fault_left _ _ _ both.0 in
    let fine = no_fault_right _ _ _ there.1 in
    let enough = ltb-false _ _ there.0 in
    let rest = good_stands bs n own (number_at bs p ∷ before) k (p + 2) enough both.1 in
    (omega arith, and_from _ _ fine.0 rest.1)

pub stands_good : (bs : List ℕ) (n own : ℕ) (before : List ℕ) (k p : ℕ) → p + 2 * k ≤ length bs →
    all_may n own before (numbers_from bs k p) ≡ true → stands_fault bs n own before k p ≡ None
unfolding stands_fault
stands_good bs n own before zero p h f = refl
stands_good bs n own before (suc k) p h f =
    let enough = le-ltb (length bs) (p + 2) (omega arith) in
    let parts = and_parts (may_list n own before (number_at bs p)) (all_may n own (number_at bs p ∷ before) (numbers_from bs k (p + 2))) f in
    rw (enough, parts.0) (stands_good bs n own (number_at bs p ∷ before) k (p + 2) (omega arith) parts.1)

one_more : (a b : ℕ) → ltb a b ≡ true → a + 1 ≤ b
one_more a b e = omega (arith, ltb-true a b e)

-- A list that begins at p and has no fault, for trader own.
pub record Good (bs : List ℕ) (n own p : ℕ) : Type 0 where
  pub short : get_or bs p 0 ≤ 40
  pub within : next_start bs p ≤ length bs
  pub may : all_may n own [] (numbers_from bs (get_or bs p 0) (p + 1)) ≡ true

pub good_list : (bs : List ℕ) (n own p : ℕ) → list_fault bs n own p ≡ None → Good bs n own p
unfolding list_fault
good_list bs n own p e =
    let both = no_fault_both _ _ e in
    let there = no_fault_right _ _ _ both.0 in
    let few = no_fault_left _ _ _ there.1 in
    let stands = good_stands bs n own [] (get_or bs p 0) (p + 1) (one_more _ _ there.0) both.1 in
    record { short = ltb-false _ _ few.0; within = stands.0; may = stands.1 }

pub list_good : (bs : List ℕ) (n own p : ℕ) → Good bs n own p → list_fault bs n own p ≡ None
unfolding list_fault
list_good bs n own p g =
    let inside = lt-ltb p (length bs) (omega (arith, g.within)) in
    let few = le-ltb 40 (get_or bs p 0) g.short in
    rw (inside, few) (stands_good bs n own [] (get_or bs p 0) (p + 1) g.within g.may)

module _ (bs : List ℕ) (n own p : ℕ) (g : Good bs n own p) where
  pub good_numbers : numbers (list_bytes bs p) ≡ numbers_from bs (get_or bs p 0) (p + 1)
  good_numbers = numbers_are bs (get_or bs p 0) (p + 1) g.within

  pub good_length : length (numbers (list_bytes bs p)) ≡ get_or bs p 0
  good_length = rw good_numbers (count_of_numbers bs (get_or bs p 0) (p + 1))

pub no_more : (bs : List ℕ) (p : ℕ) → end_fault bs p ≡ None → length bs ≤ p
no_more bs p e = ltb-false _ _ (no_fault_left _ _ _ e).0

-- all lists without a fault
pub good_end : (bs : List ℕ) (n own p : ℕ) → lists_fault bs n own 0 p ≡ None → length bs ≤ p
unfolding lists_fault
good_end bs n own p = no_more bs p

pub good_lists : (bs : List ℕ) (n own k p : ℕ) → p ≡ start bs own → p ≤ length bs → lists_fault bs n own k p ≡ None →
    ((i : ℕ) → own ≤ i → i < own + k → Good bs n i (start bs i)) × ((m : ℕ) → m ≡ own + k → start bs m ≡ length bs)
unfolding lists_fault
good_lists bs n own zero p at h e =
    let end = good_end bs n own p e in (
      λ i low high. absurd (omega arith),
      λ m is. let same : m ≡ own = omega arith in rw (same, ← at) (omega arith),
    )
good_lists bs n own (suc k) p at h e =
    let both = no_fault_both _ _ e in
    let here = good_list bs n own p both.0 in
    let rest = good_lists bs n (suc own) k (next_start bs p) (ap (next_start bs) at) here.within both.1 in (
      λ i low high. elim (cases_lt own i) [
        | inl more ↦ rest.0 i (omega arith) (omega arith)
        | inr same ↦ let is : i ≡ own = omega arith in rw (is, ← at) here
      ],
      λ m is. rest.1 m (omega arith),
    )

few_traders : (bs : List ℕ) → count_fault bs ≡ None → (0 < number_at bs 0) × (number_at bs 0 ≤ 4000)
few_traders bs e =
    let fine : (ltb 0 (number_at bs 0) && ltb (number_at bs 0) 4001) ≡ true = (no_fault_right _ _ _ (no_fault_left _ _ _ e).1).0 in
    let low : 0 < number_at bs 0 = ltb-true _ _ (and_parts _ _ fine).0 in
    let high : number_at bs 0 < 4001 = ltb-true _ _ (and_parts _ _ fine).1 in
    (low, omega arith)

-- Bytes that are accepted.
module _ (bs : List ℕ) (accepted : fault bs ≡ None) where
  both_good : (count_fault bs ≡ None) × (lists_fault bs (number_at bs 0) 0 (number_at bs 0) 2 ≡ None)
  both_good = no_fault_both (count_fault bs) (lists_fault bs (number_at bs 0) 0 (number_at bs 0) 2) accepted

  pub two_there : 2 ≤ length bs
  two_there = ltb-false _ _ (no_fault_left _ _ _ both_good.0).0

  pub some_traders : (0 < number_at bs 0) × (number_at bs 0 ≤ 4000)
  some_traders = few_traders bs both_good.0

  pub lists_good : lists_fault bs (number_at bs 0) 0 (number_at bs 0) 2 ≡ None
  lists_good = both_good.1

  pub list_good_at : (i : ℕ) → i < number_at bs 0 → Good bs (number_at bs 0) i (start bs i)
  list_good_at i h = (good_lists bs (number_at bs 0) 0 (number_at bs 0) 2 refl two_there lists_good).0 i (omega arith) (omega arith)

  pub ends_exactly : start bs (number_at bs 0) ≡ length bs
  ends_exactly = (good_lists bs (number_at bs 0) 0 (number_at bs 0) 2 refl two_there lists_good).1 (number_at bs 0) (omega arith)

  pub list_within : (i : ℕ) → i < number_at bs 0 → next_start bs (start bs i) ≤ length bs
  list_within i h = (list_good_at i h).within

  pub short_list : (i : ℕ) → i < number_at bs 0 → get_or bs (start bs i) 0 ≤ 40
  short_list i h = (list_good_at i h).short

  pub list_length : (i : ℕ) → i < number_at bs 0 → length (numbers (list_bytes bs (start bs i))) ≡ get_or bs (start bs i) 0
  list_length i h = good_length bs (number_at bs 0) i (start bs i) (list_good_at i h)

  pub list_distinct : (i : ℕ) → i < number_at bs 0 →
      Distinct (number_at bs 0) (numbers (list_bytes bs (start bs i)))
      × ((j : ℕ) → j < length (numbers (list_bytes bs (start bs i))) → get_or (numbers (list_bytes bs (start bs i))) j 0 ≡ i → ⊥)
  list_distinct i h =
      let g = list_good_at i h in
      rw (good_numbers bs (number_at bs 0) i (start bs i) g) (all_distinct (number_at bs 0) i _ g.may)

  pub accepted_proper : Proper (lists_of bs)
  unfolding Proper
  accepted_proper i h =
      let n = count_of_lists bs in
      let below : i < number_at bs 0 = omega arith in
      rw (n, list_is bs i below) (list_distinct i below)

  pub accepted_encodable : Encodable (lists_of bs)
  accepted_encodable =
      let n = count_of_lists bs in
      let some = some_traders in
      record {
        somebody = omega arith;
        most = omega arith;
        short = λ i h. let below : i < number_at bs 0 = omega arith in rw (list_is bs i below, list_length i below) (short_list i below);
        proper = accepted_proper;
      }

-- the part where the list of a trader begins: it lies within the bytes, and it is that list
module _ (bs : List ℕ) (i p : ℕ) (begins : Begins bs i p) where
  pub begins_within : next_start bs p ≤ length bs
  begins_within = rw begins.2 (list_within bs begins.0 i begins.1)

  pub begins_list : numbers (list_bytes bs p) ≡ get_or (lists_of bs) i []
  begins_list = rw begins.2 (sym (list_is bs i begins.1))
