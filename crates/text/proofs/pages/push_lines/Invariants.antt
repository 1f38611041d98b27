use Rattle.std.proofs.Common.{◌≡◌, ◌++◌, string_bytes}
use Rattle.text.proofs.PageText.{lines}
use Rattle.text.proofs.pages.push_lines.Given as goal

abbrev pub invariant-loop-holder : goal.invariant-loop-holder
invariant-loop-holder l = string_bytes l.text ++ lines l.holder-iterator ≡ string_bytes l.initial.text ++ lines l.initial.holder-iterator
