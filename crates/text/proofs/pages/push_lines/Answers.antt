use Rattle.std.proofs.Common.{string_bytes}
use Rattle.text.proofs.PageText.{lines_more}
use Rattle.text.proofs.pages.push_lines.Goals as goal

pub loop-holder-preserved : goal.loop-holder-preserved
loop-holder-preserved c =
    lines_more c.in-Some.holder c.in-Some.round _ _ (string_bytes c.loop-holder.text) (string_bytes c.push_gone.new.text) _ c.in-Some.ensures.steps
    c.in_ok-push_gone.ensures c.loop-holder.invariant
