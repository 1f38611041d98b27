-- Rings taken out one at a time, in any order: every run gives a certificate.
use Rattle.std.proofs.Common.{◌≡◌, ℕ, suc, true, false, cond, length, get_or, refl, ◌∙◌}
use Rattle.theory.specs.Trade.{Lists, Standing, is_in, on_ring}
use Rattle.theory.specs.Promise.{rank}
use Rattle.theory.specs.Runs.{same_ring, take_ring, Run, over, ring}
use Rattle.theory.proofs.Certificates.{Certificate}
use Rattle.theory.proofs.Walks.{ring_in, ring_apart, same_ring_on, same_ring_next}
use Rattle.theory.proofs.Leaving.{Sized, Leaves, left, left_leaves, rest_out, whole, nobody}

pub take_ring_leaves : (ls : Lists) (s : Standing) (j : ℕ) → Sized ls s → on_ring ls s j ≡ true → Leaves ls s (take_ring ls s j) (same_ring ls s j)
unfolding take_ring left
take_ring_leaves ls s j z e =
    left_leaves ls s (same_ring ls s j) z (λ i m. ring_in ls s i (same_ring_on ls s j i e m)) (λ i. same_ring_next ls s j i e)
    (λ i k m n. ring_apart ls s i k (same_ring_on ls s j i e m) (same_ring_on ls s j k e n))

-- whoever is out keeps what it has
pub run_keeps : (ls : Lists) (end s : Standing) → Run ls end s → Sized ls s → (i : ℕ) → is_in s i ≡ false → get_or end.got i i ≡ get_or s.got i i
run_keeps ls end s (over f) z i e = refl
run_keeps ls end s (ring t j on r) z i e =
    let V = take_ring_leaves ls t j z on in
    let o = rest_out V i e in
    run_keeps ls end (take_ring ls t j) r V.sized i o.1 ∙ V.keeps i o.0

-- the step of the run, from 0, in which a trader goes out
unfoldable pub run_out : (ls : Lists) (end s : Standing) → Run ls end s → ℕ → ℕ
run_out ls end s (over f) i = 0
run_out ls end s (ring t j on r) i = cond (same_ring ls t j i) 0 (suc (run_out ls end (take_ring ls t j) r i))

pub run_certificate : (ls : Lists) (end s : Standing) (r : Run ls end s) → Sized ls s →
    Certificate (rank ls) (length ls) (is_in s) (is_in s) (λ i. get_or end.got i i) (run_out ls end s r)
unfolding run_out
run_certificate ls end s (over f) z = nobody ls end (λ i. get_or end.got i i) (λ i. 0) f
run_certificate ls end s (ring t j on r) z =
    let V = take_ring_leaves ls t j z on in
    let C = run_certificate ls end (take_ring ls t j) r V.sized in
    whole V z C
    (λ i m. (run_keeps ls end (take_ring ls t j) r V.sized i (V.leaves i m) ∙ V.takes i m, rw m))
    (λ i m p. (refl, rw m))
