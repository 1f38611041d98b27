-- The stands of a list by their places, and those that are dearer than one of them.
use Rattle.std.proofs.Common.{◌≡◌, ℕ, ◌<◌, ◌≤◌, cond, not, eqb, List, [], ◌∷◌, length, get_or, take, sym, refl, inl, inr, arith, one-add}
use Rattle.std.specs.List.{list_any, position, position_or_len}
use Rattle.std.specs.Option.{unwrap_or}
use Rattle.std.proofs.lemmas.Bool.{cases_Bool, cases_lt, lt-ltb, le-ltb}
use Rattle.std.proofs.lemmas.List.{get_or-take}
use Rattle.std.proofs.lemmas.List.Folds.{length-prefix_len}
use Rattle.std.proofs.lemmas.List.Sums.{prefix_len-le-length}
use Rattle.lists.specs.Format.{member}
use Rattle.papers.specs.Paper.{dearer_than}

-- ---- the stands dearer than t

-- one stand, and those after it
pub dearer_more : (t u : ℕ) (us : List ℕ) → dearer_than t (u ∷ us) ≡ cond (eqb u t) [] (u ∷ dearer_than t us)
unfolding dearer_than
dearer_more t u us = elim (cases_Bool (eqb u t)) [ inl e ↦ rw e | inr e ↦ rw (e, one-add) ]

pub count_of_dearer : (t : ℕ) (l : List ℕ) → length (dearer_than t l) ≡ position_or_len (λ u. eqb u t) l
unfolding dearer_than
count_of_dearer t l = length-prefix_len (λ u. not (eqb u t)) l

-- they are the first ones of the list
pub dearer_first : (t : ℕ) (l : List ℕ) (count : ℕ) → count ≡ length (dearer_than t l) → take count l ≡ dearer_than t l
unfolding dearer_than
dearer_first t l count is = rw (is, count_of_dearer t l)

pub dearer_few : (t : ℕ) (l : List ℕ) → length (dearer_than t l) ≤ length l
dearer_few t l = rw (count_of_dearer t l) (prefix_len-le-length (λ u. not (eqb u t)) l)

pub dearer_there : (t : ℕ) (l : List ℕ) (j : ℕ) → j < length (dearer_than t l) → get_or (dearer_than t l) j 0 ≡ get_or l j 0
unfolding dearer_than
dearer_there t l j h = let count = count_of_dearer t l in get_or-take (position_or_len (λ u. eqb u t) l) l j 0 (omega arith)

-- where t stands in the list
pub place_dearer : (t : ℕ) (l : List ℕ) → unwrap_or (position (λ u. eqb u t) l) (length l) ≡ length (dearer_than t l)
place_dearer t l =
    let few = dearer_few t l in
    let count = count_of_dearer t l in
    elim (cases_lt (position_or_len (λ u. eqb u t) l) (length l)) [
      | inl h ↦ rw (lt-ltb (position_or_len (λ u. eqb u t) l) (length l) h) (sym count)
      | inr h ↦ rw (le-ltb (position_or_len (λ u. eqb u t) l) (length l) h) (omega arith)
    ]

-- the library's word
pub any_member : (t : ℕ) (l : List ℕ) → list_any (λ u. eqb u t) l ≡ member t l
any_member t [] = refl
any_member t (u ∷ us) = rw (any_member t us)
