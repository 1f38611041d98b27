use Rattle.std.proofs.Common.{◌≡◌, ℕ, ◌+◌, get_or, length, []}
use Rattle.groups.proofs.Tables.{Rows}
use Rattle.groups.proofs.Search.of.Given as goal

-- the lists that are left, and the rows so far
abbrev pub invariant-loop-own : goal.invariant-loop-own
invariant-loop-own l =
    record {
      number : l.own-iterator.count + length l.own-iterator.iter ≡ length l.year;
      left : (j : ℕ) → get_or l.own-iterator.iter j [] ≡ get_or l.year (l.own-iterator.count + j) [];
      size : length l.table ≡ 8;
      rows : Rows l.year l.results l.own-iterator.count l.table;
    }
