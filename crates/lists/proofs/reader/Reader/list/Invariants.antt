use Rattle.std.proofs.Common.{◌≡◌, ◌-◌}
use Rattle.lists.proofs.Within.{Within}
use Rattle.lists.proofs.reader.Reader.list.Given as goal

abbrev pub invariant-loop : goal.invariant-loop
invariant-loop l =
    (l.self.bytes ≡ l.fn.self.bytes)
    × (l.self.stands ≡ l.fn.self.stands)
    × Within l.fn.self.bytes.now l.fn.self.stands l.own l.fn.self.at l.self.marks l.mark (l.count - l.counter) l.self.at
