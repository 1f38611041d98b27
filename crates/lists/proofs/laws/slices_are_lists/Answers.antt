use Rattle.lists.proofs.Accepted.{begins_within, begins_list}
use Rattle.lists.proofs.laws.slices_are_lists.Goals as goal

pub returns : goal.returns
returns c = λ bs i p begins. (begins_within bs i p begins, begins_list bs i p begins)
