use Rattle.lists.proofs.Encoding.{writes_what_was_read}
use Rattle.lists.proofs.laws.writes_what_was_read.Goals as goal

pub returns : goal.returns
returns c = writes_what_was_read
