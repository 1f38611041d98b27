use Rattle.std.proofs.Common.{◌+◌, string_bytes, drop, ap, ◌∙◌, rules}
use Rattle.text.proofs.PageText.{rest_left, ring_done, steps_done, steps_more}
use Rattle.text.proofs.pages.push_ring.Goals as goal

pub loop-member-preserved : goal.loop-member-preserved
loop-member-preserved c =
    let wrote = c.in_ok-column.ensures in (
      wrote.2,
      steps_more c.own-own.result c.loop-member.column c.in-Some.member c.in_ok-column.column _ c.next.new.self (string_bytes c.loop-member.text)
          (string_bytes c.push_step.new.text) _ c.in-Some.ensures.steps wrote.0 wrote.1 c.loop-member.invariant.1,
    )

pub returns : goal.returns
returns c =
    let rest = rest_left c.next-own.result c.ring-others.result c.next-own.new.self c.next-own.ensures.steps in
    let others = c.into_iter-member-iterator.ensures.into_iter_gives ∙ rest ∙ ap (drop 1) c.ring-others.ensures.ring in
    let done = steps_done c.own-own.result c.loop-member.column _ (string_bytes c.loop-member.text) (string_bytes c.push_step-2.new.text) _ c.in-None.ensures.steps.0
    c.in_ok-push_step.ensures.0 c.loop-member.invariant.1 in
    let whole = ring_done c.args.paper.now (string_bytes c.args.text.now) (string_bytes c.push_word.new.text) c.into_iter-member-iterator.result _ c.own-own.result
    (6 + c.width-column.result) c.own-own.ensures c.in_ok-push_word.ensures (ap (λ x. 6 + x) c.width-column.ensures.answer) others done in
    search rules
