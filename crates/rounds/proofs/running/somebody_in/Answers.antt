use Rattle.std.proofs.Common.{◌∙◌}
use Rattle.rounds.proofs.Stands.{some_in_any}
use Rattle.rounds.proofs.running.somebody_in.Goals as goal

pub returns : goal.returns
returns c = c.contains.ensures.value ∙ some_in_any c.args.inside.now
