use Rattle.std.proofs.Common.{◌≡◌, ℕ, ◌-◌, false, List, [], length, get_or}
use Rattle.lists.specs.Format.{member}
use Rattle.papers.specs.Faults.{ring_fault}
use Rattle.papers.specs.Paper.{ring_length}
use Rattle.papers.proofs.paper.Paper.check_ring.Given as goal

abbrev pub invariant-loop-k : goal.invariant-loop-k
invariant-loop-k l =
    (before : List ℕ)
    × (ring_fault l.self before (l.k-end - l.k) l.k ≡ ring_fault l.self [] (ring_length l.self) 0)
    × ((t : ℕ) → get_or l.named t false ≡ member t before)
    × (length l.named ≡ 4000)
