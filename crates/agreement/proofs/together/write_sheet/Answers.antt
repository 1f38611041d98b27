use Rattle.std.proofs.Common.{◌+◌, ◌*◌, ◌≤◌, length, ◌∙◌, arith, rules}
use Rattle.std.specs.Iterator.Adapters.{zip_first, zip_second}
use Rattle.agreement.specs.Agreement.{sheet_on}
use Rattle.agreement.proofs.Places.{paper_here, papers_after}
use Rattle.agreement.proofs.Sheets.{entry_more}
use Rattle.agreement.proofs.together.write_sheet.Goals as goal

pub loop-trader-init : goal.loop-trader-init
unfolding sheet_on
loop-trader-init c = search rules

pub loop-trader-preserved : goal.loop-trader-preserved
loop-trader-preserved c =
    let inv = c.loop-trader.invariant in
    let steps = c.in-Some.ensures.steps in
    let i = (zip_first c.loop-trader.trader-iterator).start in
    let left = zip_second c.loop-trader.trader-iterator in
    let here = paper_here c.args.papers.now left _ i inv.papers steps.1.0 in
    let room : 4 * (zip_first c.loop-trader.trader-iterator).start + 4 ≤ length c.args.sheet.now = omega arith in
    record {
      written = c.write_entry.ensures
          ∙ rw (c.stand.ensures, c.round.ensures, c.of-paper.ensures) (entry_more _ c.args.sheet.now _ _ i here inv.written c.loop-trader.auto.sheet room _ _ steps.0.1.1 steps.0.1.2);
      papers = papers_after c.args.papers.now left _ i inv.papers steps.1.0 _ steps.1.1 _ steps.0.1.2;
      within = omega arith;
      end = omega arith;
    }
