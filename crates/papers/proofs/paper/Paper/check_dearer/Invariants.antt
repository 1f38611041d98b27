use Rattle.std.proofs.Common.{◌≡◌, ◌-◌, ◌≤◌, take, length}
use Rattle.std.specs.Iterator.Adapters.{zip_first, zip_second}
use Rattle.lists.specs.Format.{numbers}
use Rattle.papers.specs.Paper.{count_on, dearer_than, stand_on}
use Rattle.papers.specs.Faults.{dearer_fault}
use Rattle.papers.proofs.paper.Paper.check_dearer.Given as goal

abbrev pub invariant-loop-j : goal.invariant-loop-j
invariant-loop-j l =
    let places = zip_first l.j-iterator in
    let left = numbers (zip_second l.j-iterator).bytes.now in
    (goal.iterator-loop-j).can_next l.j-iterator
    × (goal.iterator-loop-j).is_finite l.j-iterator
    × (places.end ≡ count_on l.self)
    × (places.start ≤ places.end)
    × (places.end - places.start ≤ length left)
    × (dearer_fault l.self (take (places.end - places.start) left) places.start
    ≡ dearer_fault l.self (dearer_than (stand_on l.self) l.list) 0)
