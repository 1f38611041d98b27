use Rattle.std.proofs.Common.{◌≡◌, ◌-◌, ◌<◌, inl, inr, length, ap, ◌∙◌, arith, length-drop, rules}
use Rattle.std.proofs.lemmas.Result.{err_from_is_err_and}
use Rattle.std.specs.Iterator.Adapters.{zip_first, zip_second}
use Rattle.papers.proofs.Splits.{start_is}
use Rattle.agreement.specs.Agreement.{place_fault}
use Rattle.agreement.proofs.Places.{lists_after, papers_after, place_is}
use Rattle.agreement.proofs.Steps.{none_found, turn_fine, turn_wrong}
use Rattle.agreement.proofs.each.check_each.Goals as goal

pub loop-trader-preserved : goal.loop-trader-preserved
loop-trader-preserved c =
    let inv = c.loop-trader.invariant in
    let steps = c.in-Some.ensures.steps in
    let i = (zip_first c.loop-trader.trader-iterator).start in
    let lists = zip_second c.loop-trader.trader-iterator in
    let papers = c.loop-trader.rest in
    let next = c.next_paper-paper.ensures in
    let here = place_is c.args.year.now lists _ c.args.papers.now papers _ i _ _ steps.0.1.1 inv.lists steps.1 inv.papers next.paper in
    record {
      fine = turn_fine _ i _ inv.fine steps.0.1.1 _ here _ _ c.check_own.ensures c.map_err.ensures.cases (λ f g k. search rules) _ c.in_ok-map_err.was _ steps.0.1.2;
      lists = lists_after c.args.year.now lists _ i _ inv.lists steps.1 _ steps.0.1.2;
      papers = papers_after c.args.papers.now papers _ i inv.papers next.paper _ next.left _ steps.0.1.2;
      within = omega arith;
      end = omega arith;
    }

pub returns-in_err-map_err : goal.returns-in_err-map_err
returns-in_err-map_err c =
    let p = err_from_is_err_and c.from_residual.result c.from_residual.ensures.1 in
    let inv = c.loop-trader.invariant in
    let steps = c.in-Some.ensures.steps in
    let i = (zip_first c.loop-trader.trader-iterator).start in
    let lists = zip_second c.loop-trader.trader-iterator in
    let papers = c.loop-trader.rest in
    let here = place_is c.args.year.now lists _ c.args.papers.now papers _ i _ _ steps.0.1.1 inv.lists steps.1 inv.papers c.next_paper-paper.ensures.paper in
    let below : c.in-Some.trader < length c.args.year.now = omega arith in
    rw (p.1, p.2, turn_wrong (place_fault c.args.year.now c.args.papers.now) i _ inv.fine steps.0.1.1 _ here _ _ c.check_own.ensures c.map_err.ensures.cases (λ f g k. search rules) _ below _ c.in_err-map_err.was)

pub returns : goal.returns
returns c =
    let inv = c.loop-trader.invariant in
    let ls = c.args.year.now in
    let ps = c.args.papers.now in
    let left : length (zip_second c.loop-trader.trader-iterator) ≡ length c.args.year.now - (zip_first c.loop-trader.trader-iterator).start =
    ap length inv.lists ∙ length-drop (zip_first c.loop-trader.trader-iterator).start ls in
    let all : (zip_first c.loop-trader.trader-iterator).start ≡ length c.args.year.now =
    elim c.in-None.ensures.steps [ inl n ↦ omega arith | inr n ↦ (let none = ap length n.1.0 in omega arith) ] in
    rw (none_found (place_fault ls ps) 0 (length ls) (λ j h. inv.fine j (omega arith)), c.left.ensures, inv.papers, all, start_is ps (length ls))
