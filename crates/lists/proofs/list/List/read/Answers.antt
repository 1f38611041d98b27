use Rattle.std.proofs.Common.{arith}
use Rattle.lists.proofs.Faults.{no_marks}
use Rattle.lists.proofs.list.List.read.Goals as goal

pub list-requires : goal.list-requires
list-requires c = record { fresh = λ t. let none = no_marks 4000 t in rw c.new-reader.ensures.3 (omega arith) }
