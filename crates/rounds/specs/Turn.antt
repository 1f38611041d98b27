-- What the private functions promise one another: one trader's pointing, and everybody's.
use Rattle.std.specs.Prelude.{ℕ, suc, cond, List, [], ◌∷◌, ◌==◌, slice_index, slice_set}
use Rattle.theory.specs.Trade.{Lists}
use Rattle.pointing.specs.Pointing.{points_from, stand_of}

-- the results after trader i has pointed, with this list, if it is in
abbrev pub one_pointed : List ℕ → ℕ → List ℕ → List ℕ → List ℕ
one_pointed list i inside results =
    cond (slice_index inside i == 1) (slice_set results i (stand_of i (points_from inside list 0))) results

-- the results after the traders with these lists, from trader i on, have pointed
unfoldable pub all_pointed : Lists → ℕ → List ℕ → List ℕ → List ℕ
all_pointed [] i inside results = results
all_pointed (list ∷ ls) i inside results = all_pointed ls (suc i) inside (one_pointed list i inside results)
