use Rattle.std.proofs.Common.{◌≡◌, ◌+◌, ◌*◌, ◌≤◌, length, take}
use Rattle.std.specs.Iterator.Adapters.{take_count, take_source}
use Rattle.lists.specs.Format.{numbers}
use Rattle.papers.specs.Paper.{gone_bytes, written}
use Rattle.papers.proofs.writer.Writer.gone.Given as goal

abbrev pub invariant-loop-holder : goal.invariant-loop-holder
invariant-loop-holder l =
    let left = take (take_count l.holder-iterator) (numbers (take_source l.holder-iterator).bytes.now) in
    (goal.iterator-loop-holder).can_next l.holder-iterator
    × (goal.iterator-loop-holder).is_finite l.holder-iterator
    × (l.self.out.ghost_name ≡ l.initial.self.out.ghost_name)
    × (l.self.at + 4 * length left ≡ l.initial.self.at + 4 * l.dearer)
    × (l.self.at + 4 * length left ≤ length l.self.out.now)
    × (written l.self.at (gone_bytes l.sheet.bytes left) l.self.out.now
    ≡ written l.initial.self.at (gone_bytes l.sheet.bytes (take l.dearer l.list)) l.initial.self.out.now)
