-- The parts of a paper, one place after another.
use Rattle.std.proofs.Common.{◌≡◌, ℕ, suc, ◌+◌, ◌-◌, ◌<◌, ◌≤◌, [], ◌∷◌, length, arith}
use Rattle.std.proofs.lemmas.List.FromFn.{length-map-range_with_len}
use Rattle.papers.specs.Paper.{from_place}

module _ {A : Type 0} (at : ℕ → A) (k end : ℕ) where
  pub places_more : k < end → from_place at k end ≡ at k ∷ from_place at (k + 1) end
  places_more h = let one : end - k ≡ suc (end - (k + 1)) = omega arith in rw one

  pub places_done : end ≤ k → from_place at k end ≡ []
  places_done h = let none : end - k ≡ 0 = omega arith in rw none

  pub count_of_places : length (from_place at k end) ≡ end - k
  count_of_places = length-map-range_with_len at k (end - k)
