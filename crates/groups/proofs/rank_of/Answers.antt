use Rattle.std.proofs.Common.{◌≡◌, eqb, arith, rules, tests}
use Rattle.std.specs.List.{position}
use Rattle.std.proofs.lemmas.Bool.Decides.{nat_tests}
use Rattle.std.proofs.lemmas.Iterator.Consumers.{YieldsList-from_first}
use Rattle.std.proofs.lemmas.Iterator.Search.{position_from_yields_List}
use Rattle.lists.specs.Format.{numbers}
use Rattle.groups.proofs.Ranks.{rank_by_place}
use Rattle.groups.proofs.rank_of.Goals as goal

pub returns : goal.returns
returns c =
    let place : c.position.result ≡ position (λ u. eqb u c.args.stand) c.args.list.now =
    position_from_yields_List (λ u. eqb u c.args.stand) c.position.new.self _ c.position.result c.position.ensures.ran
    (YieldsList-from_first (λ x. x) (λ left. numbers left.bytes.now) c.args.list.now c.stands.ensures) (λ x b q k. search (rules, tests)) in
    let rank = rank_by_place c.args.list.now c.args.own c.args.stand in
    grind (arith, nat_tests)
