use Rattle.std.proofs.Common.{◌≡◌, ◌*◌, ◌≤◌, ◌++◌, drop}
use Rattle.std.specs.Iterator.Adapters.{zip_first, zip_second}
use Rattle.papers.proofs.Splits.{from_paper}
use Rattle.agreement.specs.Agreement.{sheet_on}
use Rattle.agreement.proofs.together.write_sheet.Given as goal

-- the entries of the traders before are written, and the papers of the others are left
abbrev pub invariant-loop-trader : goal.invariant-loop-trader
invariant-loop-trader l = record {
  written : l.sheet ≡ sheet_on l.papers (zip_first l.trader-iterator).start ++ drop (4 * (zip_first l.trader-iterator).start) l.initial.sheet;
  papers : zip_second l.trader-iterator ≡ from_paper l.papers (zip_first l.trader-iterator).start;
  within : (zip_first l.trader-iterator).start ≤ l.n;
  end : (zip_first l.trader-iterator).end ≡ l.n;
}
