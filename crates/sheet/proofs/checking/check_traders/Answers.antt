use Rattle.std.proofs.Common.{false, rules}
use Rattle.std.proofs.lemmas.List.{length-replicate}
use Rattle.sheet.proofs.Traders.{all_left}
use Rattle.sheet.proofs.checking.check_traders.Goals as goal

pub loop-trader-init : goal.loop-trader-init
loop-trader-init c = record {
  so_far = all_left c.args.year.now _ _ _ _ c.traders-n.ensures.count c.traders-n.ensures.most (search rules) (search rules);
  left = search rules;
  end = search rules;
  room = length-replicate 4000 false;
}
