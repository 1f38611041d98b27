use Rattle.std.proofs.Common.{◌≡◌, ◌+◌, ◌*◌, ◌≤◌, length}
use Rattle.lists.specs.Format.{encode_stands}
use Rattle.papers.specs.Paper.{written}
use Rattle.papers.proofs.writer.Writer.ring.Given as goal

abbrev pub invariant-loop-trader : goal.invariant-loop-trader
invariant-loop-trader l =
    (goal.iterator-loop-trader).can_next l.trader-iterator
    × (goal.iterator-loop-trader).is_finite l.trader-iterator
    × (l.self.out.ghost_name ≡ l.initial.self.out.ghost_name)
    × (l.self.at + 2 * length l.trader-iterator ≡ l.initial.self.at + 2 * length l.initial.trader-iterator)
    × (l.self.at + 2 * length l.trader-iterator ≤ length l.self.out.now)
    × (written l.self.at (encode_stands l.trader-iterator) l.self.out.now
    ≡ written l.initial.self.at (encode_stands l.initial.trader-iterator) l.initial.self.out.now)
