use Rattle.std.proofs.Common.{◌≡◌, ◌+◌, length}
use Rattle.rounds.specs.Turn.{all_pointed}
use Rattle.rounds.proofs.running.point_all.Given as goal

-- the traders that are left, pointing from here on, give the same
abbrev pub invariant-loop-i : goal.invariant-loop-i
invariant-loop-i l =
    (all_pointed l.i-iterator.b l.i-iterator.a.start l.inside l.results ≡ all_pointed l.year 0 l.inside l.initial.results)
    × (l.i-iterator.a.start + length l.i-iterator.b ≡ length l.year)
    × (l.i-iterator.a.end ≡ length l.year)
