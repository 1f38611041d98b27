use Rattle.std.proofs.Common.{◌≡◌, eqb, ◌∙◌, arith, length, rules}
use Rattle.std.proofs.lemmas.Iterator.Consumers.{YieldsList-from_first}
use Rattle.std.proofs.lemmas.Iterator.Search.{position_from_yields_List}
use Rattle.lists.specs.Format.{numbers}
use Rattle.papers.specs.Paper.{dearer_than}
use Rattle.papers.proofs.Places.{dearer_few, place_dearer}
use Rattle.papers.proofs.list.dearer_count.Goals as goal
use Rattle.papers.proofs.list.dearer_count.Goals.{After-unwrap_or}

count : (c : After-unwrap_or) → c.unwrap_or.result ≡ length (dearer_than c.args.stand c.args.list.now)
count c =
    let t = c.args.stand in
    let left = YieldsList-from_first (λ x. x) (λ left. numbers left.bytes.now) {s = c.stands.result} c.args.list.now c.stands.ensures in
    let place = position_from_yields_List (λ u. eqb u t) c.position-place.new.self _ c.position-place.result c.position-place.ensures.ran left (λ x b q k. search rules) in
    c.unwrap_or.ensures ∙ rw (place, c.len-all.ensures) (place_dearer t c.args.list.now)

pub overflow_cast-result : goal.overflow_cast-result
overflow_cast-result c = let e = count c in let few = dearer_few c.args.stand c.args.list.now in omega arith

pub returns : goal.returns
returns c = record { answer = count c; few = omega (arith, count c, dearer_few c.args.stand c.args.list.now) }
