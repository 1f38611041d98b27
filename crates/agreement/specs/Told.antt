-- How a fault of papers is told.
use Rattle.std.specs.Prelude.{ℕ, List, ◌++◌, codes, decimal}
use Rattle.refusals.specs.Refusals.{refusal_text}
use Rattle.agreement.specs.declared.Fault.{Fault}
use Rattle.agreement.specs.declared.Fault.TheVariants.{Refused, Paper}

abbrev pub fault_text : Fault → List ℕ
fault_text (Refused refusal) = refusal_text refusal
fault_text (Paper trader refusal) = codes "paper of trader " ++ (decimal trader ++ (codes ": " ++ refusal_text refusal))
