use Rattle.pointing.proofs.Places.{points_first}
use Rattle.pointing.proofs.first_is_pointed_to.Goals as goal

pub returns : goal.returns
returns c = points_first
