use Rattle.std.proofs.Common.{◌≡◌, ℕ, ◌<◌, ◌≤◌, length, drop, None}
use Rattle.std.specs.Iterator.Adapters.{zip_first, zip_second}
use Rattle.papers.proofs.Splits.{from_paper}
use Rattle.agreement.specs.Agreement.{place_fault}
use Rattle.agreement.proofs.each.check_each.Given as goal

-- the papers of the traders before are without a fault, and the lists and papers of the others are left
abbrev pub invariant-loop-trader : goal.invariant-loop-trader
invariant-loop-trader l = record {
  fine : (i : ℕ) → i < (zip_first l.trader-iterator).start → place_fault l.year l.papers i ≡ None;
  lists : zip_second l.trader-iterator ≡ drop (zip_first l.trader-iterator).start l.year;
  papers : l.rest ≡ from_paper l.papers (zip_first l.trader-iterator).start;
  within : (zip_first l.trader-iterator).start ≤ length l.year;
  end : (zip_first l.trader-iterator).end ≡ length l.year;
}
