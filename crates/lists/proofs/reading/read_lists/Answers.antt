use Rattle.std.proofs.Common.{◌≡◌, ◌+◌, ◌-◌, ◌<◌, refl, ◌∙◌, arith}
use Rattle.std.proofs.lemmas.Result.{err_from_is_err_and}
use Rattle.lists.specs.Format.{next_start}
use Rattle.lists.proofs.Faults.{lists_done, lists_next, lists_wrong, no_fault, no_marks, refused_fault}
use Rattle.lists.proofs.reading.read_lists.Goals as goal

pub loop-own-init : goal.loop-own-init
loop-own-init c =
    let new = c.new-reader.ensures in
    let all : c.args.traders - 0 ≡ c.args.traders = omega arith in
    (new.0, new.2, rw (new.1, all) refl, rw new.3 (no_marks 4000))

pub returns-in_err-list : goal.returns-in_err-list
returns-in_err-list c =
    let i = c.loop-own.invariant in
    let p = err_from_is_err_and c.from_residual.result c.from_residual.ensures.1 in
    let more : 0 < c.args.traders - c.loop-own.own = omega arith in
    let bad = refused_fault _ _ _ c.in_err-list.ensures.answer in
    let wrong = lists_wrong c.args.bytes.now c.args.traders c.loop-own.own _ c.loop-own.reader.at _ i.2 _ more (rw (i.0, i.1) at bad) in
    rw (p.1, p.2) wrong

pub loop-own-preserved : goal.loop-own-preserved
loop-own-preserved c =
    let i = c.loop-own.invariant in
    let read = c.in_ok-list.ensures.next in
    let one : c.args.traders - c.loop-own.own ≡ c.args.traders - (c.loop-own.own + 1) + 1 = omega arith in
    let ok = no_fault _ _ _ c.in_ok-list.ensures.answer in
    let on : c.list.new.self.at ≡ next_start c.args.bytes.now c.loop-own.reader.at = read.at ∙ rw i.0 in (
      rw read.bytes i.0,
      read.stands ∙ i.1,
      lists_next c.args.bytes.now c.args.traders c.loop-own.own _ c.loop-own.reader.at _ i.2 (c.loop-own.own + 1) _ _ refl one (rw (i.0, i.1) at ok.0) on,
      read.most,
    )

pub returns : goal.returns
returns c =
    let none : c.args.traders - c.loop-own.own ≡ 0 = omega arith in
    lists_done c.args.bytes.now c.args.traders c.loop-own.own _ c.loop-own.reader.at _ c.loop-own.invariant.2 none
