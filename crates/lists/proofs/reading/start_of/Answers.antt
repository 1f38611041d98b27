use Rattle.std.proofs.Common.{◌≡◌, ◌≤◌, ap, arith, rules}
use Rattle.lists.specs.Format.{start, next_start}
use Rattle.lists.proofs.Positions.{start_more}
use Rattle.lists.proofs.reading.start_of.Goals as goal

pub loop-i-preserved : goal.loop-i-preserved
loop-i-preserved c =
    let bs = c.args.bytes.now in
    let small : c.byte_at.result ≤ 255 = search rules in
    let next = start_more bs c.loop-i.i in
    let here : next_start bs c.loop-i.position ≡ next_start bs (start bs c.loop-i.i) = ap (next_start bs) c.loop-i.invariant.0 in
    (omega (arith, c.byte_at.ensures), omega arith)
