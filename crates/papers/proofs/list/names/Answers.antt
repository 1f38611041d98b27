use Rattle.std.proofs.Common.{eqb, ◌∙◌, rules}
use Rattle.std.proofs.lemmas.Iterator.Consumers.{YieldsList-from_first}
use Rattle.std.proofs.lemmas.Iterator.Search.{any_from_yields_List}
use Rattle.lists.specs.Format.{numbers}
use Rattle.papers.proofs.Places.{any_member}
use Rattle.papers.proofs.list.names.Goals as goal

pub returns : goal.returns
returns c =
    let t = c.args.stand in
    let left = YieldsList-from_first (λ x. x) (λ left. numbers left.bytes.now) {s = c.stands.result} c.args.list.now c.stands.ensures in
    any_from_yields_List (λ u. eqb u t) c.any.new.self _ c.any.result c.any.ensures.ran left (λ x b q k. search rules) ∙ any_member t c.args.list.now
