use Rattle.std.proofs.Common.{rules}
use Rattle.pointing.proofs.Places.{no_more_numbers}
use Rattle.pointing.proofs.point_to.Goals as goal

pub loop-place-init-whole : goal.loop-place-init-whole
loop-place-init-whole c = let few = no_more_numbers c.args.list.now in search rules
