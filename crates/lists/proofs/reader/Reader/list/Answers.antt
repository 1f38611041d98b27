use Rattle.std.proofs.Common.{◌≡◌, ◌+◌, ◌-◌, ◌<◌, ◌≤◌, length, get_or, refl, ◌∙◌, arith}
use Rattle.std.proofs.lemmas.Result.{err_from_is_err_and}
use Rattle.lists.proofs.Faults.{long_wrong, no_fault, refused_fault}
use Rattle.lists.proofs.Within.{all_read, begun, stand_read, stand_wrong}
use Rattle.lists.proofs.reader.Reader.list.Goals as goal

pub returns-in_err-count-clause-answer : goal.returns-in_err-count-clause-answer
returns-in_err-count-clause-answer c =
    let r = c.args.self.now in
    let p = err_from_is_err_and c.from_residual.result c.from_residual.ensures.1 in
    let bad = long_wrong r.bytes.now r.stands c.args.own r.at _ (refused_fault _ _ _ c.in_err-count.ensures.answer) in
    rw (p.1, p.2) (simp bad)

pub loop-init : goal.loop-init
loop-init c =
    let r = c.args.self.now in
    let ok = no_fault _ _ _ c.in_ok-count.ensures.answer in
    let read = c.in_ok-count.ensures.next in
    let all : c.in_ok-count.count - 0 ≡ get_or c.args.self.now.bytes.now c.args.self.now.at 0 = omega (arith, ok.1) in
    (read.bytes, read.stands, rw (read.marks, read.at, all) (begun r.bytes.now r.stands c.args.own r.at r.marks c.args.mark ok.0 c.requires.fresh))

pub returns-in_err-stand-clause-answer : goal.returns-in_err-stand-clause-answer
returns-in_err-stand-clause-answer c =
    let r = c.args.self.now in
    let p = err_from_is_err_and c.from_residual-in_err-stand.result c.from_residual-in_err-stand.ensures.1 in
    let more : 0 < c.in_ok-count.count - c.loop.counter = omega arith in
    let bad = refused_fault _ _ _ c.in_err-stand.ensures.answer in
    let wrong = stand_wrong r.bytes.now r.stands c.args.own r.at c.loop.self.marks c.args.mark _ c.loop.self.at c.loop.invariant.2 _ more (rw (c.loop.invariant.0, c.loop.invariant.1) at bad) in
    rw (p.1, p.2) (simp wrong)

pub loop-preserved : goal.loop-preserved
loop-preserved c =
    let r = c.args.self.now in
    let one : c.in_ok-count.count - c.loop.counter ≡ c.in_ok-count.count - (c.loop.counter + 1) + 1 = omega arith in
    let read = c.in_ok-stand.ensures.next in
    let ok = no_fault _ _ _ c.in_ok-stand.ensures.answer in
    let room : c.args.self.now.stands ≤ length c.loop.self.marks = omega (arith, c.loop.self.room, c.loop.invariant.1) in
    let on = stand_read r.bytes.now r.stands c.args.own r.at c.loop.self.marks c.args.mark _ c.loop.self.at c.loop.invariant.2 (c.in_ok-count.count - (c.loop.counter + 1)) one room
    (rw (c.loop.invariant.0, c.loop.invariant.1) at ok.0) in
    (read.bytes ∙ c.loop.invariant.0, read.stands ∙ c.loop.invariant.1, rw (read.marks, read.at, c.loop.invariant.0) on)

pub returns-clause-answer : goal.returns-clause-answer
returns-clause-answer c =
    let r = c.args.self.now in
    let none : c.in_ok-count.count - c.loop.counter ≡ 0 = omega arith in
    simp (all_read r.bytes.now r.stands c.args.own r.at c.loop.self.marks c.args.mark _ c.loop.self.at c.loop.invariant.2 none).0 refl
