use Rattle.std.proofs.Common.{◌≡◌, ◌++◌, string_bytes}
use Rattle.text.specs.Report.{lines_of}
use Rattle.text.proofs.report.push_lines.Given as goal

abbrev pub invariant-loop-trader : goal.invariant-loop-trader
invariant-loop-trader l = string_bytes l.text ≡ string_bytes l.initial.text ++ lines_of l.results l.trader
