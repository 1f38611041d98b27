-- Reading the options ends: each word is taken once.
use Rattle.std.specs.Vec.Iter.{into_iter_len}
use Rattle.exchange.proofs.options.read_options.Given as goal

abbrev pub decreases-loop-word : goal.decreases-loop-word
decreases-loop-word l = into_iter_len l.words
