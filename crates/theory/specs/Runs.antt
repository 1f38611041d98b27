-- The exchange with the rings taken out one at a time, in any order.
use Rattle.std.specs.Prelude.{◌≡◌, ℕ, zero, suc, Bool, true, false, cond, List, [], ◌∷◌, length, ◌==◌}
use Rattle.theory.specs.Trade.{Lists, Standing, is_in, points, walk, on_ring}

-- a list, numbered from i, in which each entry whose number passes the test is replaced by the number's value
unfoldable pub change : (ℕ → Bool) → (ℕ → ℕ) → ℕ → List ℕ → List ℕ
change test value i [] = []
change test value i (x ∷ xs) = cond (test i) (value i) x ∷ change test value (suc i) xs

-- some walk of 1 to k steps from trader j reaches trader i
unfoldable pub reaches : Lists → Standing → ℕ → ℕ → ℕ → Bool
reaches ls s j i zero = false
reaches ls s j i (suc k) = cond (walk ls s (suc k) j == i) true (reaches ls s j i k)

-- trader i is a member of the ring that trader j is on
unfoldable pub same_ring : Lists → Standing → ℕ → ℕ → Bool
same_ring ls s j i = reaches ls s j i (length ls)

-- The ring of trader j is taken out: its members get what they point to and are out.
unfoldable pub take_ring : Lists → Standing → ℕ → Standing
take_ring ls s j =
    record { inside = change (same_ring ls s j) (λ i. 0) 0 s.inside; got = change (same_ring ls s j) (points ls s) 0 s.got }

-- A run from a standing to the end: one ring after another, each that of any trader who is then on a ring, until nobody is in.
pub data Run (ls : Lists) (end : Standing) : Standing → Type 0 where
  over : ((i : ℕ) → is_in end i ≡ false) → Run ls end end
  ring : (s : Standing) (j : ℕ) → on_ring ls s j ≡ true → Run ls end (take_ring ls s j) → Run ls end s
