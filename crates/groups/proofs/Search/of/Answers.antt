use Rattle.std.proofs.Common.{◌≡◌, ◌+◌, get_or, arith, []}
use Rattle.std.proofs.lemmas.Grind.{common_steps}
use Rattle.groups.proofs.Tables.{rows_more}
use Rattle.groups.proofs.Search.of.Goals as goal

pub loop-own-preserved : goal.loop-own-preserved
loop-own-preserved c =
    let first = c.loop-own.invariant.left 0 in
    let place : c.in-Some.own ≡ c.loop-own.own-iterator.count = grind (arith, common_steps) in
    let list : c.in-Some.list ≡ get_or c.args.year.now c.in-Some.own [] = grind (arith, common_steps) in
    record {
      number = grind (arith, common_steps);
      left = λ j. let next = c.loop-own.invariant.left (j + 1) in grind (arith, common_steps);
      size = grind (arith, common_steps);
      rows = rows_more c.args.year.now _ c.in-Some.own c.next.new.self.count c.loop-own.table c.no_less_dear.result
          (grind (arith, common_steps)) (grind (arith, common_steps)) (rw (← list) c.no_less_dear.ensures) (rw (← place) at c.loop-own.invariant.rows);
    }
