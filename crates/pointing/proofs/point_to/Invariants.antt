use Rattle.std.proofs.Common.{◌≡◌, ◌+◌, ◌≤◌, length}
use Rattle.lists.specs.Format.{numbers}
use Rattle.pointing.specs.Pointing.{points_from}
use Rattle.pointing.proofs.point_to.Given as goal

-- the stands that are left give the same, and there are no more places than bytes
abbrev pub invariant-loop-place : goal.invariant-loop-place
invariant-loop-place l =
    (points_from l.inside (numbers l.place-iterator.iter.bytes.now) l.place-iterator.count ≡ points_from l.inside (numbers l.list) 0)
    × (l.place-iterator.count + length (numbers l.place-iterator.iter.bytes.now) ≤ length l.list)
