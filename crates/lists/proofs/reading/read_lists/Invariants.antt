use Rattle.std.proofs.Common.{◌≡◌, ℕ, ◌-◌, ◌≤◌, get_or}
use Rattle.lists.specs.Format.{lists_fault}
use Rattle.lists.proofs.reading.read_lists.Given as goal

abbrev pub invariant-loop-own : goal.invariant-loop-own
invariant-loop-own l =
    (l.reader.bytes.now ≡ l.bytes)
    × (l.reader.stands ≡ l.traders)
    × (lists_fault l.bytes l.traders l.own (l.traders - l.own) l.reader.at ≡ lists_fault l.bytes l.traders 0 l.traders 2)
    × ((t : ℕ) → get_or l.reader.marks t 0 ≤ l.own)
