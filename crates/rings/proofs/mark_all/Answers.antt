-- One trader's walk after another: each leaves the marks as `Done` says, with those on the ring that it found marked.
use Rattle.std.proofs.Common.{refl, arith}
use Rattle.std.proofs.lemmas.Bool.{false≢true}
use Rattle.rings.proofs.Around.{OnRing, going_back, going_falls, going_more}
use Rattle.rings.proofs.Found.{ring_found, done_elsewhere, done_ring, done_told}
use Rattle.rings.proofs.mark_all.Goals as goal
use Rattle.rings.proofs.mark_all.Goals.{Else-not-has_mark-2}

pub traders-preserved-then-not-has_mark-2 : goal.traders-preserved-then-not-has_mark-2
traders-preserved-then-not-has_mark-2 c =
    done_elsewhere _ _ _ _ _ _ c.traders.invariant c.walk-met.ensures c.traders-test.true c.requires.most (λ h. false≢true (c.if-not-has_mark-2.ensures.1 h))

-- the walk has found a ring
found : (c : Else-not-has_mark-2) → OnRing c.args.next.now c.walk-met.result
found c = ring_found _ _ _ _ _ _ c.traders.invariant c.walk-met.ensures (omega arith) c.requires.most c.traders-test.true (c.if-not-has_mark-2.ensures.0 refl)

pub ring-smaller : goal.ring-smaller
ring-smaller c = going_falls _ _ _ _ _ (found (goal.at.ring-smaller c).Else-not-has_mark-2) (omega arith) c.ring.invariant c.if-at-met.false

pub ring-preserved : goal.ring-preserved
ring-preserved c = going_more _ _ _ _ _ (found (goal.at.ring-preserved c).Else-not-has_mark-2) (omega arith) c.ring.invariant c.if-at-met.false

pub traders-preserved : goal.traders-preserved
traders-preserved c =
    done_ring _ _ _ _ _ _ c.traders.invariant c.walk-met.ensures _ c.traders-test.true c.requires.most
    (going_back _ _ _ _ _ (found (goal.at.traders-preserved c).Else-not-has_mark-2) (omega arith) c.ring.invariant c.if-at-met.true)

pub returns : goal.returns
returns c = done_told _ _ _ c.traders-test.false c.traders.invariant
