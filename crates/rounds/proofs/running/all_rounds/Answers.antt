use Rattle.std.proofs.Common.{sym}
use Rattle.std.proofs.lemmas.Bool.{not-true}
use Rattle.rounds.proofs.Stands.{stands_next}
use Rattle.rounds.proofs.running.all_rounds.Goals as goal

pub rounds-preserved : goal.rounds-preserved
rounds-preserved c =
    let marks = c.in_ok-find_rings.ensures in
    let parts = c.split_at_mut-inside.ensures in
    let some = not-true _ (sym (c.if-not-somebody_in.ensures)) in
    stands_next _ _ _ _ _ _ c.rounds.invariant _ marks.pointed _ _ _ marks.work parts.front parts.back _ _ _ c.traders.invariant.0 c.traders.invariant.1
    c.traders-test.false some c.traders.auto.inside c.traders.auto.outs
