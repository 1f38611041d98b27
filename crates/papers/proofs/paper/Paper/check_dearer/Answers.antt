use Rattle.std.proofs.Common.{◌≡◌, ◌-◌, length, take, arith, refl, sym, ap, inl, inr, ◌∙◌}
use Rattle.std.proofs.lemmas.Result.{err_from_is_err_and}
use Rattle.std.specs.Iterator.Adapters.{zip_first, zip_second}
use Rattle.std.specs.Option.{option_or}
use Rattle.lists.specs.Format.{numbers}
use Rattle.lists.proofs.Faults.{no_fault, refused_fault}
use Rattle.papers.specs.Faults.{dearer_fault, gone_fault, holder_fault}
use Rattle.papers.specs.Paper.{count_on, dearer_than, stand_on}
use Rattle.papers.proofs.Places.{dearer_few, dearer_first}
use Rattle.papers.proofs.Rings.{dearer_end, dearer_step}
use Rattle.papers.proofs.paper.Paper.check_dearer.Goals as goal
use Rattle.papers.proofs.paper.Paper.check_dearer.Goals.{In-Some}

more : (c : In-Some) →
    dearer_fault c.args.self.now (dearer_than (stand_on c.args.self.now) c.args.list.now) 0
    ≡ option_or (holder_fault c.args.self.now c.in-Some.j c.in-Some.stand)
    (option_or (gone_fault c.args.self.now c.in-Some.j)
    (dearer_fault c.args.self.now (take ((zip_first c.next.new.self).end - (zip_first c.next.new.self).start) (numbers (zip_second c.next.new.self).bytes.now)) (zip_first c.next.new.self).start))
more c =
    let e = c.in-Some.ensures.steps in
    sym c.loop-j.invariant.5 ∙ dearer_step c.args.self.now c.in-Some.stand c.in-Some.j _ _ _ _ _ _ e.0.0 e.0.1.0 e.0.1.1 e.0.1.2 e.1

pub loop-j-init : goal.loop-j-init
loop-j-init c =
    let t = stand_on c.args.self.now in
    let all = c.count.ensures ∙ c.requires in
    let first = ap zip_first c.into_iter-j-iterator.ensures.into_iter_gives ∙ c.zip-j-items.ensures.first in
    let second = ap zip_second c.into_iter-j-iterator.ensures.into_iter_gives ∙ c.zip-j-items.ensures.second in
    let few = dearer_few t c.args.list.now in
    rw (first, second, c.stands.ensures, dearer_first t c.args.list.now (c.count.result - 0) (omega arith)) ((tt, tt), tt, c.count.ensures, omega arith, omega arith, refl)

pub returns-in_err-check_holder : goal.returns-in_err-check_holder
returns-in_err-check_holder c =
    let p = err_from_is_err_and c.from_residual.result c.from_residual.ensures.1 in
    rw (p.1, p.2, more (goal.at.returns-in_err-check_holder c).In-Some, refused_fault _ _ _ c.in_err-check_holder.ensures)

pub loop-j-preserved : goal.loop-j-preserved
loop-j-preserved c =
    let e = c.in-Some.ensures.steps in
    let i = c.loop-j.invariant in
    let held = (no_fault _ _ _ c.in_ok-check_holder.ensures).0 in
    let gone = (no_fault _ _ _ c.in_ok-check_gone.ensures).0 in
    ((tt, tt), tt, e.0.0 ∙ i.2, omega arith, omega (arith, ap length e.1), sym (rw (held, gone) at (more (goal.at.loop-j-preserved c).In-Some)))

pub returns-in_err-check_gone : goal.returns-in_err-check_gone
returns-in_err-check_gone c =
    let p = err_from_is_err_and c.from_residual-in_err-check_gone.result c.from_residual-in_err-check_gone.ensures.1 in
    let held = (no_fault _ _ _ c.in_ok-check_holder.ensures).0 in
    rw (p.1, p.2, more (goal.at.returns-in_err-check_gone c).In-Some, held, refused_fault _ _ _ c.in_err-check_gone.ensures)

pub returns : goal.returns
returns c =
    let i = c.loop-j.invariant in
    let none : (zip_first c.loop-j.j-iterator).end - (zip_first c.loop-j.j-iterator).start ≡ 0 =
    elim c.in-None.ensures.steps [ inl w ↦ w.1.1.0 | inr w ↦ omega (arith, ap length w.1.0) ] in
    let done : (zip_first c.loop-j.j-iterator).start ≡ count_on c.args.self.now = omega (arith, i.2, i.3) in
    rw (← i.5, dearer_end c.args.self.now _ _ _ none, done) c.check_end.ensures
