use Rattle.std.proofs.Common.{◌≡◌, ℕ, ◌<◌, length, None}
use Rattle.std.specs.Iterator.Adapters.{zip_first, zip_second}
use Rattle.papers.proofs.Splits.{from_paper}
use Rattle.agreement.specs.Agreement.{agree_fault}
use Rattle.agreement.proofs.together.check_papers_written.Given as goal

-- the papers of the traders before are those for the sheet, and the papers of the others are left
abbrev pub invariant-loop-trader : goal.invariant-loop-trader
invariant-loop-trader l = record {
  fine : (i : ℕ) → i < (zip_first l.trader-iterator).start → agree_fault l.sheet.lists l.papers l.sheet.bytes i ≡ None;
  papers : zip_second l.trader-iterator ≡ from_paper l.papers (zip_first l.trader-iterator).start;
  end : (zip_first l.trader-iterator).end ≡ length l.sheet.lists;
}
