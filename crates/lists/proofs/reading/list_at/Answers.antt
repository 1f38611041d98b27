use Rattle.std.proofs.Common.{◌+◌, sym, ◌∙◌, arith}
use Rattle.std.proofs.lemmas.List.{take_rest}
use Rattle.lists.proofs.Positions.{part_past, part_short}
use Rattle.lists.proofs.reading.list_at.Goals as goal

pub returns-then-at-bytes : goal.returns-then-at-bytes
returns-then-at-bytes c = sym (part_past c.args.bytes.now c.args.at c.if-at-bytes.true)

pub returns-then-bytes-at : goal.returns-then-bytes-at
returns-then-bytes-at c =
    let bs = c.args.bytes.now in
    take_rest bs (c.args.at + 1) ∙ sym (part_short bs c.args.at (omega arith))
