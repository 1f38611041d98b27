use Rattle.std.proofs.Common.{◌≡◌, ◌+◌, length}
use Rattle.std.specs.Iterator.Adapters.{zip_first, zip_second}
use Rattle.sheet.specs.Sheet.{traders_fault}
use Rattle.sheet.proofs.Traders.{left_fault}
use Rattle.sheet.proofs.checking.check_traders.Given as goal

-- the traders left have the same first fault as all
abbrev pub invariant-loop-trader : goal.invariant-loop-trader
invariant-loop-trader l = record {
  so_far : left_fault l.n l.sheet l.taken (zip_first l.trader-iterator).start (zip_second l.trader-iterator) ≡ traders_fault l.year l.sheet 0 (length l.year);
  left : (zip_first l.trader-iterator).start + length (zip_second l.trader-iterator) ≡ (zip_first l.trader-iterator).end;
  end : (zip_first l.trader-iterator).end ≡ l.n;
  room : length l.taken ≡ 4000;
}
