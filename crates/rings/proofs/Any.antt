-- A trader whom any walk of one or more steps brings back is on a ring: as many steps as there are traders are enough.
use Rattle.std.proofs.Common.{◌≡◌, ℕ, zero, suc, ◌+◌, ◌-◌, ◌<◌, ◌≤◌, true, List, length, get_or, set, replicate, sym, ap, ◌∙◌, inl, inr, arith, length-set}
use lib.ListN.{length-replicate, get_or-replicate}
use Rattle.std.proofs.lemmas.Grind.{common_steps}
use Rattle.std.proofs.lemmas.Bool.{cases_eq, cases_lt}
use Rattle.rings.specs.Ring.{step, walk_along, on_ring_of}
use Rattle.rings.specs.Walk.{Walked, unmet}
use Rattle.rings.proofs.Steps.{walk_next, walk_then, came_in, ring_within, back_from}
use Rattle.rings.proofs.Marks.{walked_none, walked_more}

-- a walk that goes on until it comes to nobody or to somebody met before
walk_exists : (next : List ℕ) (k : ℕ) (m : List ℕ) (at : ℕ) → length m ≡ length next → unmet m ≤ k →
    (m' : List ℕ) × (e : ℕ) × Walked next m m' 1 at e k
walk_exists next zero m at len few = (m, at, walked_none next m 1 at 0 (λ l z. grind (arith, common_steps)))
walk_exists next (suc k) m at len few =
    elim (cases_lt at (length next)) [
      | inr l ↦ (m, at, walked_none next m 1 at (suc k) (λ b. absurd (omega arith)))
      | inl l ↦ elim (cases_eq (get_or m at 0) 0) [
        | inr h ↦ (m, at, walked_none next m 1 at (suc k) (λ b. h))
        | inl h ↦
            let t = walk_exists next k (set m at 1) (step next at) (length-set m at 1 ∙ len) (grind (arith, common_steps)) in
            (t.0, t.1, walked_more next m t.0 1 at t.1 k (suc k) len l h (omega arith) (omega arith) t.2)
      ]
    ]

-- a trader who comes back after any number of steps does so after at most as many as there are traders
soon_back : (next : List ℕ) (i k : ℕ) → i < length next → walk_along next (suc k) i ≡ i →
    (j : ℕ) × (j < length next) × (walk_along next (suc j) i ≡ i)
soon_back next i k l b =
    let n = length next in
    let zeros = replicate (length next) 0 in
    let len : length zeros ≡ n = length-replicate {A = ℕ} n 0 in
    let t = walk_exists next n zeros i len (grind (arith, common_steps)) in
    go t.0 t.1 t.2
  where
    go : (m' : List ℕ) (e : ℕ) → Walked next (replicate (length next) 0) m' 1 i e (length next) →
        (j : ℕ) × (j < length next) × (walk_along next (suc j) i ≡ i)
    go m' e W =
        let el : e < length next = rw W.ends at (ring_within next k W.count i b l) in
        elim (W.each e) [
          | inr q ↦ absurd (W.stops el (q ∙ get_or-replicate {A = ℕ} (length next) e 0 0 el))
          | inl t ↦
              let h = t.1 in
              let f = W.few in
              let p : ℕ = W.count - t.0 - 1 in
              let c : W.count ≡ suc p + t.0 = omega arith in
              let Again : ℕ → Type 0 = λ y. walk_along next (suc p) y ≡ y in
              let again : Again (walk_along next t.0 i) =
              sym (walk_then next (suc p) t.0 i W.count c) ∙ W.ends ∙ sym t.2
              in
              (p, omega arith, came_in next Again (λ y r. walk_next next (suc p) y ∙ ap (step next) r) k t.0 i b again)
        ]

pub ring_any : (next : List ℕ) (i k : ℕ) → i < length next → walk_along next (suc k) i ≡ i → on_ring_of next i ≡ true
unfolding on_ring_of
ring_any next i k l b =
    let t = soon_back next i k l b in grind (arith, back_from next i (length next) t.0 t.1 t.2)
