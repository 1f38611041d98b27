use Rattle.std.proofs.Common.{◌≡◌, ◌-◌, ◌<◌, [], ◌∷◌, length, refl, sym, ap, ◌∙◌, arith, length-set}
use Rattle.std.proofs.lemmas.Result.{err_from_is_err_and}
use Rattle.lists.proofs.Faults.{no_fault, refused_fault}
use Rattle.sheet.proofs.Traders.{no_marks}
use Rattle.papers.specs.Faults.{ring_fault}
use Rattle.papers.specs.Paper.{ring_length, ring_on}
use Rattle.papers.proofs.Rings.{member_below, named_more, ring_done, ring_more}
use Rattle.papers.proofs.paper.Paper.check_ring.Goals as goal

pub loop-k-init : goal.loop-k-init
loop-k-init c =
    let all : c.ring_length-k-end.result - 0 ≡ ring_length c.args.self.now = omega (arith, c.ring_length-k-end.ensures) in
    ([], ap (λ m. ring_fault c.args.self.now [] m 0) all, no_marks 4000, refl)

pub returns-in_err-trader : goal.returns-in_err-trader
returns-in_err-trader c =
    let paper = c.args.self.now in
    let k = c.loop-k.k in
    let p = err_from_is_err_and c.from_residual.result c.from_residual.ensures.1 in
    let more = ring_more paper c.loop-k.invariant.0 k c.ring_length-k-end.result _ (c.loop-k.invariant.2 (ring_on paper k)) c.loop-k-test.true in
    let bad = refused_fault _ _ _ c.in_err-trader.ensures in
    rw (p.1, p.2, ← c.loop-k.invariant.1, more, bad)

pub loop-k-preserved : goal.loop-k-preserved
loop-k-preserved c =
    let paper = c.args.self.now in
    let k = c.loop-k.k in
    let t = c.in_ok-trader.trader in
    let more = ring_more paper c.loop-k.invariant.0 k c.ring_length-k-end.result _ (c.loop-k.invariant.2 (ring_on paper k)) c.loop-k-test.true in
    let ok = no_fault _ _ _ c.in_ok-trader.ensures in
    let below = member_below paper k _ ok.0 in
    let on = rw ok.0 at more in
    let within : t < length c.loop-k.named = omega (arith, ok.1, c.loop-k.invariant.3) in (
      t ∷ c.loop-k.invariant.0,
      rw ok.1 (sym on ∙ c.loop-k.invariant.1),
      named_more c.loop-k.named t c.loop-k.invariant.0 within c.loop-k.invariant.2,
      simp length-set c.loop-k.invariant.3,
    )

pub returns : goal.returns
returns c = rw (← c.loop-k.invariant.1, ring_done c.args.self.now c.loop-k.invariant.0 c.loop-k.k c.ring_length-k-end.result c.loop-k-test.false)
