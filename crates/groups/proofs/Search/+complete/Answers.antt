use Rattle.std.proofs.Common.{arith}
use Rattle.groups.proofs.Prefixes.{all_tried, not_had, one_more}
use Rattle.groups.proofs.Firsts.{found_in_turn}
use Rattle.groups.proofs.Search.+complete.Goals as goal
use Rattle.groups.proofs.Search.+complete.Goals.{then-may_have+in_default, else-may_have}

pub loop-turn-preserved : goal.loop-turn-preserved
loop-turn-preserved t c =
    one_more c.args.self.now c.args.chosen c.args.trader c.loop-turn.turn c.choice_in-choice.result c.choice_in-choice.ensures c.loop-turn.invariant
    (elim c.if-may_have.branch [
      | then-may_have+in_default w ↦ w.in_default.ensures
      | else-may_have w ↦ not_had c.args.self.now c.args.chosen c.args.trader (omega arith) (omega arith) c.choice_in-choice.result w.if-may_have.ensures
    ])

pub returns-in-Some : goal.returns-in-Some
returns-in-Some t c =
    found_in_turn c.args.self.now c.args.chosen c.args.trader (omega arith) (omega arith) c.in-Some.share c.loop-turn.turn
    c.choice_in-choice.result c.choice_in-choice.ensures c.in-Some.ensures c.loop-turn.invariant

pub returns : goal.returns
returns t c =
    all_tried c.args.self.now c.args.chosen c.args.trader (omega arith) (omega arith) (λ u h. c.loop-turn.invariant u (omega arith))
