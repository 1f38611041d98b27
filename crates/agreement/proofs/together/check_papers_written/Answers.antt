use Rattle.std.proofs.Common.{◌≤◌, ◌<◌, inl, inr, length, arith, rules}
use Rattle.std.proofs.lemmas.Result.{err_from_is_err_and}
use Rattle.std.specs.Iterator.Adapters.{zip_first, zip_second}
use Rattle.agreement.specs.Agreement.{agree_fault}
use Rattle.agreement.proofs.Places.{paper_here, papers_after}
use Rattle.agreement.proofs.Steps.{none_found, turn_fine, turn_wrong}
use Rattle.agreement.proofs.Written.{beside_is}
use Rattle.agreement.proofs.together.check_papers_written.Goals as goal

pub loop-trader-preserved : goal.loop-trader-preserved
loop-trader-preserved c =
    let inv = c.loop-trader.invariant in
    let steps = c.in-Some.ensures.steps in
    let i = (zip_first c.loop-trader.trader-iterator).start in
    let left = zip_second c.loop-trader.trader-iterator in
    let own = paper_here c.args.papers.now left _ i inv.papers steps.1.0 in
    let here = beside_is c.args.sheet.now.lists c.args.papers.now c.args.sheet.now.bytes _ i _ steps.0.1.1 (rw c.year.ensures at c.traders.ensures.lists) (omega arith) own in
    record {
      fine = turn_fine _ i _ inv.fine steps.0.1.1 _ here _ _ c.check_written.ensures c.map_err.ensures.cases (λ f g k. search rules) _ c.in_ok-map_err.was _ steps.0.1.2;
      papers = papers_after c.args.papers.now left _ i inv.papers steps.1.0 _ steps.1.1 _ steps.0.1.2;
      end = omega arith;
    }

pub returns-in_err-map_err : goal.returns-in_err-map_err
returns-in_err-map_err c =
    let p = err_from_is_err_and c.from_residual.result c.from_residual.ensures.1 in
    let inv = c.loop-trader.invariant in
    let steps = c.in-Some.ensures.steps in
    let i = (zip_first c.loop-trader.trader-iterator).start in
    let left = zip_second c.loop-trader.trader-iterator in
    let sheet = c.args.sheet.now in
    let own = paper_here c.args.papers.now left _ i inv.papers steps.1.0 in
    let here = beside_is c.args.sheet.now.lists c.args.papers.now c.args.sheet.now.bytes _ i _ steps.0.1.1 (rw c.year.ensures at c.traders.ensures.lists) (omega arith) own in
    let below : c.in-Some.trader < length c.args.sheet.now.lists = omega arith in
    rw (p.1, p.2, turn_wrong (agree_fault sheet.lists c.args.papers.now sheet.bytes) i _ inv.fine steps.0.1.1 _ here _ _ c.check_written.ensures c.map_err.ensures.cases (λ f g k. search rules) _ below _ c.in_err-map_err.was)

pub returns : goal.returns
returns c =
    let sheet = c.args.sheet.now in
    let all : length c.args.sheet.now.lists ≤ (zip_first c.loop-trader.trader-iterator).start = elim c.in-None.ensures.steps [ inl n ↦ omega arith | inr n ↦ absurd n.1 ] in
    rw (none_found (agree_fault sheet.lists c.args.papers.now sheet.bytes) 0 (length sheet.lists) (λ j h. c.loop-trader.invariant.fine j (omega arith)))
