use Rattle.lists.proofs.Encoding.{reads_what_was_written}
use Rattle.lists.proofs.laws.reads_what_was_written.Goals as goal

pub returns : goal.returns
returns c = reads_what_was_written
