use Rattle.std.proofs.Common.{◌-◌, length}
use Rattle.groups.proofs.Prefixes.{HopelessUntil}
use Rattle.groups.proofs.Search.+complete.Given as goal

abbrev pub decreases-complete : goal.decreases-complete
decreases-complete l = length l.self.now.results.now - l.trader

-- no turn so far serves
abbrev pub invariant-loop-turn : goal.invariant-loop-turn
invariant-loop-turn l = HopelessUntil l.self l.chosen l.trader l.turn
