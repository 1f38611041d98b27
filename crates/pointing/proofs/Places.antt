-- That the stand pointed to is the exchange's.
use Rattle.std.proofs.Common.{◌≡◌, ℕ, zero, suc, ◌+◌, ◌<◌, ◌≤◌, false, eqb, List, [], ◌∷◌, length, get_or, refl, inl, inr, arith}
use Rattle.std.proofs.lemmas.Bool.{cases_Bool, cases_lt, le-ltb, lt-ltb}
use Rattle.std.proofs.lemmas.List.{get_or_past}
use Rattle.lists.specs.Format.{numbers}
use Rattle.theory.specs.Trade.{Standing, is_in, first_in}
use Rattle.pointing.specs.declared.Pointing.{Pointing}
use Rattle.pointing.specs.declared.Pointing.TheVariants.{Listed, Own}
use Rattle.pointing.specs.Pointing.{holder_in, points_from, stand_of, FirstAt, IsFirst, FirstIsPointedTo}

-- a stand past the last trader's has no holder
pub holder_is : (inside : List ℕ) (t : ℕ) → holder_in inside t ≡ eqb (get_or inside t 0) 1
holder_is inside t =
    elim (cases_lt t (length inside)) [
      | inl below ↦ rw (lt-ltb t (length inside) below)
      | inr past ↦ rw (le-ltb t (length inside) past, get_or_past inside t 0 past)
    ]

-- each number has bytes of its own
pub no_more_numbers : (xs : List ℕ) → length (numbers xs) ≤ length xs
unfolding numbers
no_more_numbers [] = omega arith
no_more_numbers (x ∷ []) = omega arith
no_more_numbers (x ∷ y ∷ xs) = let ih = no_more_numbers xs in omega arith

-- the stand pointed to is the exchange's
pub exchange_points : (s : Standing) (ts : List ℕ) (own p : ℕ) → stand_of own (points_from s.inside ts p) ≡ first_in s ts own
unfolding points_from first_in is_in
exchange_points s [] own p = refl
exchange_points s (t ∷ ts) own p =
    let h = holder_is s.inside t in
    elim (cases_Bool (eqb (get_or s.inside t 0) 1)) [ inl e ↦ rw (h, e) | inr e ↦ rw (h, e) (exchange_points s ts own (suc p)) ]

-- the same as `IsFirst`, with the places counted from `from` on
abbrev FirstFrom : Standing → List ℕ → ℕ → Pointing → Type 0
FirstFrom s ts from (Listed p t) = (j : ℕ) × (p ≡ from + j) × FirstAt s ts j t
FirstFrom s ts from Own = (k : ℕ) → k < length ts → is_in s (get_or ts k 0) ≡ false

later : (s : Standing) (t : ℕ) (ts : List ℕ) (from : ℕ) (r : Pointing) → is_in s t ≡ false → FirstFrom s ts (suc from) r →
    FirstFrom s (t ∷ ts) from r
later s t ts from (Listed p u) e (j, is, f) = (
  suc j,
  omega arith,
  record {
    within = omega arith;
    there = f.there;
    still_in = f.still_in;
    before_out = λ k. elim k as (λ k. k < suc j → is_in s (get_or (t ∷ ts) k 0) ≡ false) [ zero ↦ λ _. e | suc k ↦ λ h. f.before_out k (omega arith) ];
  },
)
later s t ts from Own e f = λ k. elim k as (λ k. k < length (t ∷ ts) → is_in s (get_or (t ∷ ts) k 0) ≡ false) [ zero ↦ λ _. e | suc k ↦ λ h. f k (omega arith) ]

first_from : (s : Standing) (ts : List ℕ) (from : ℕ) → FirstFrom s ts from (points_from s.inside ts from)
unfolding points_from is_in
first_from s [] from = λ k h. absurd (omega arith)
first_from s (t ∷ ts) from =
    let h = holder_is s.inside t in
    elim (cases_Bool (eqb (get_or s.inside t 0) 1)) [
      | inl e ↦ rw (h, e) (0, omega arith, record { within = omega arith; there = refl; still_in = e; before_out = λ k h. absurd (omega arith) })
      | inr e ↦ rw (h, e) (later s t ts from (points_from s.inside ts (suc from)) e (first_from s ts (suc from)))
    ]

from_zero : (s : Standing) (ts : List ℕ) (r : Pointing) → FirstFrom s ts 0 r → IsFirst s ts r
from_zero s ts (Listed p t) (j, is, f) = let e : j ≡ p = omega arith in rw e at f
from_zero s ts Own f = f

pub points_first : FirstIsPointedTo
points_first s ts own = (exchange_points s ts own 0, from_zero s ts (points_from s.inside ts 0) (first_from s ts 0))
