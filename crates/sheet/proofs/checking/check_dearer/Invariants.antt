use Rattle.std.proofs.Common.{◌≡◌, ◌+◌, length}
use Rattle.std.specs.Iterator.Adapters.{zip_first, zip_second}
use Rattle.lists.specs.Format.{numbers}
use Rattle.sheet.specs.Sheet.{dearer_fault}
use Rattle.sheet.proofs.checking.check_dearer.Given as goal

-- what is left of the list has the same first fault as the whole
abbrev pub invariant-loop-place : goal.invariant-loop-place
invariant-loop-place l = record {
  so_far : dearer_fault l.sheet l.trader (numbers (zip_second l.place-iterator).bytes.now) (zip_first l.place-iterator).start ≡ dearer_fault l.sheet l.trader l.list 0;
  left : (zip_first l.place-iterator).start + length (numbers (zip_second l.place-iterator).bytes.now) ≡ (zip_first l.place-iterator).end;
  count : (zip_first l.place-iterator).end ≡ length l.list;
}
