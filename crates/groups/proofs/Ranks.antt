-- The rank of a stand, by its place in the list.
use Rattle.std.proofs.Common.{◌≡◌, ℕ, ◌+◌, cond, eqb, ltb, List, [], ◌∷◌, length, sym, zero-add, arith}
use Rattle.std.specs.List.{position_or_len}
use Rattle.std.proofs.lemmas.Bool.Decides.{nat_tests}
use Rattle.theory.specs.Promise.{rank_in}

-- the place, or what comes after all that are listed
pub rank_by_place : (ts : List ℕ) (own t : ℕ) →
    rank_in ts own t
    ≡ cond (ltb (position_or_len (λ u. eqb u t) ts) (length ts)) (position_or_len (λ u. eqb u t) ts) (length ts + cond (eqb own t) 0 1)
unfolding rank_in
rank_by_place [] own t = sym (zero-add _)
rank_by_place (u ∷ us) own t = let ih = rank_by_place us own t in grind (arith, nat_tests)
