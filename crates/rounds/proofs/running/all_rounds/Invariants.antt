use Rattle.std.proofs.Common.{◌-◌, length}
use Rattle.rounds.proofs.Stands.{Changed, Stands}
use Rattle.rounds.proofs.running.all_rounds.Given as goal

abbrev pub invariant-traders : goal.invariant-traders
invariant-traders l =
    Changed l.flag-items 0 l.initial.inside l.inside l.i
    × Changed l.flag-items l.round l.initial.outs l.outs l.i

abbrev pub invariant-rounds : goal.invariant-rounds
invariant-rounds l = Stands l.year l.n l.round l.results l.work l.outs

abbrev pub decreases-rounds : goal.decreases-rounds
decreases-rounds l = length l.year - l.round
