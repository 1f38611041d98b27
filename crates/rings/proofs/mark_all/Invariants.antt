use Rattle.std.proofs.Common.{length}
use Rattle.rings.proofs.Found.{Done}
use Rattle.rings.proofs.Around.{OnWay, to_go}
use Rattle.rings.proofs.mark_all.Given as goal

abbrev pub invariant-traders : goal.invariant-traders
invariant-traders l = Done l.next l.marks l.start

abbrev pub invariant-ring : goal.invariant-ring
invariant-ring l = OnWay l.next l.initial.marks l.marks l.met l.at

-- one step fewer to the trader with whom it began
abbrev pub decreases-ring : goal.decreases-ring
decreases-ring l = to_go l.next l.met l.at (length l.next)
