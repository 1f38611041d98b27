use Rattle.std.proofs.Common.{◌≡◌, ◌+◌, ◌*◌, ◌++◌, length, take}
use Rattle.std.specs.Iterator.Adapters.{zip_first, zip_second}
use Rattle.std.specs.Slice.Iter.{iter_rest}
use Rattle.sheet.specs.Exchange.{entries}
use Rattle.sheet.proofs.Writing.{entries_left}
use Rattle.sheet.proofs.exchanging.write_sheet.Given as goal

-- what is written, and the entries of the others
abbrev pub invariant-loop-i : goal.invariant-loop-i
invariant-loop-i l = record {
  written : take (4 * l.i-iterator.count) l.sheet ++ entries_left (iter_rest (zip_first l.i-iterator.iter)) (iter_rest (zip_second l.i-iterator.iter))
      ≡ entries l.results l.work (length l.results) (length l.results);
  left : l.i-iterator.count + length (iter_rest (zip_first l.i-iterator.iter)) ≡ length l.results;
  same : length (iter_rest (zip_second l.i-iterator.iter)) ≡ length (iter_rest (zip_first l.i-iterator.iter));
}
