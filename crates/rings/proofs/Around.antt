-- Once around a ring, with a mark for each trader on it.
use Rattle.std.proofs.Common.{◌≡◌, ℕ, zero, suc, ◌-◌, ◌<◌, ◌≤◌, cond, eqb, ◌⊎◌, List, length, get_or, set, sym, refl, ap, ◌∙◌, inl, inr, arith}
use Rattle.std.proofs.lemmas.List.{get_or_default, length-set}
use Rattle.std.proofs.lemmas.Grind.{common_steps}
use Rattle.rings.specs.Ring.{step, walk_along}
use Rattle.rings.proofs.Steps.{walk_suc, walk_then, ring_within}

-- a walk of `last` + 1 steps brings trader e back to itself
pub record OnRing (next : List ℕ) (e : ℕ) : Type 0 where
  pub within : e < length next
  pub last : ℕ
  pub few : last < length next
  pub back : walk_along next (suc last) e ≡ e

-- those to whom fewer than k steps from e lead are marked, and all other marks are as they were
pub record MarkedFrom (next m m' : List ℕ) (e k : ℕ) : Type 0 where
  pub same_length : length m' ≡ length next
  pub new : (j : ℕ) → j < k → get_or m' (walk_along next j e) 0 ≡ 65535
  pub each : (y : ℕ) → ((j : ℕ) × (j < k) × (walk_along next j e ≡ y)) ⊎ (get_or m' y 0 ≡ get_or m y 0)

-- the ring of e, all on the way from e to `at` marked
pub record Going (next m m' : List ℕ) (e at : ℕ) : Type 0 where
  pub ring : OnRing next e
  pub count : ℕ
  pub few : count ≤ ring.last
  pub here : walk_along next count e ≡ at
  pub marked : MarkedFrom next m m' e count

-- the same for the loop: at the start there is nothing to know but the two values
abbrev pub OnWay : List ℕ → List ℕ → List ℕ → ℕ → ℕ → Type 0
OnWay next m m' e at = (at < length next) × (((at ≡ e) × (m' ≡ m)) ⊎ Going next m m' e at)

-- once around, and back at e
pub record Ringed (next m m' : List ℕ) (e : ℕ) : Type 0 where
  pub ring : OnRing next e
  pub marked : MarkedFrom next m m' e (suc ring.last)

-- at the start no step is taken
going_on : (next m m' : List ℕ) (e at : ℕ) → OnRing next e → length m ≡ length next → OnWay next m m' e at → Going next m m' e at
unfolding walk_along
going_on next m m' e at ring len on =
    elim on.1 [
      | inr G ↦ G
      | inl q ↦ rw (q.0, q.1) (record {
        ring = ring;
        count = 0;
        few = omega arith;
        here = refl;
        marked = record {
          same_length = len;
          new = λ j h. absurd (omega arith);
          each = λ y. inr refl;
        };
      })
    ]

marked_more : (next m m' : List ℕ) (e k at : ℕ) → walk_along next k e ≡ at → at < length next → MarkedFrom next m m' e k →
    MarkedFrom next m (set m' at 65535) e (suc k)
marked_more next m m' e k at here within M = record {
  same_length = length-set m' at 65535 ∙ M.same_length;
  new = λ j h. grind (arith, common_steps);
  each = λ y. grind (arith, common_steps);
}

-- a step as the code takes it
step_is : (next : List ℕ) (at : ℕ) → at < length next → step next at ≡ get_or next at 0
unfolding step
step_is next at l = get_or_default next at (length next) 0 l

-- how many steps lead on from `at` before one leads to e, at most k
unfoldable pub to_go : List ℕ → ℕ → ℕ → ℕ → ℕ
to_go next e at zero = 0
to_go next e at (suc k) = cond (eqb (step next at) e) 0 (suc (to_go next e (step next at) k))

-- where a step leads to e within k, it is the same with a larger bound
to_go_within : (next : List ℕ) (e k at p : ℕ) → walk_along next (suc p) at ≡ e → p < k → to_go next e at (suc k) ≡ to_go next e at k
unfolding to_go walk_along
to_go_within next e zero at p b l = absurd (omega arith)
to_go_within next e (suc k) at zero b l = grind arith
to_go_within next e (suc k) at (suc p) b l = let h = to_go_within next e k (step next at) p b (omega arith) in grind arith

to_go_falls : (next : List ℕ) (e k at p : ℕ) → walk_along next (suc p) at ≡ e → p < k → (step next at ≡ e → ⊥) →
    to_go next e (step next at) k < to_go next e at k
unfolding to_go walk_along
to_go_falls next e zero at p b l other = absurd (omega arith)
to_go_falls next e (suc k) at zero b l other = absurd (other b)
to_go_falls next e (suc k) at (suc p) b l other = let h = to_go_within next e k (step next at) p b (omega arith) in grind (arith, other)

module _ (next m m' : List ℕ) (e at : ℕ) (ring : OnRing next e) (len : length m ≡ length next) (on : OnWay next m m' e at) where
  G : Going next m m' e at
  G = going_on next m m' e at ring len on

  one_more : walk_along next (suc G.count) e ≡ get_or next at 0
  one_more = walk_suc next G.count e ∙ ap (step next) G.here ∙ step_is next at on.0

  -- the last step of the ring leads back
  not_last : (get_or next at 0 ≡ e → ⊥) → suc G.count ≤ G.ring.last
  not_last other = grind (arith, one_more, G.few, G.ring.back)

  pub going_more : (get_or next at 0 ≡ e → ⊥) → OnWay next m (set m' at 65535) e (get_or next at 0)
  going_more other = (
    rw one_more at (ring_within next G.ring.last (suc G.count) e G.ring.back G.ring.within),
    inr (record {
      ring = G.ring;
      count = suc G.count;
      few = not_last other;
      here = one_more;
      marked = marked_more next m m' e G.count at G.here on.0 G.marked;
    }),
  )

  pub going_back : get_or next at 0 ≡ e → Ringed next m (set m' at 65535) e
  going_back q = record {
    ring = record { within = G.ring.within; last = G.count; few = omega (arith, G.few, G.ring.few); back = one_more ∙ q };
    marked = marked_more next m m' e G.count at G.here on.0 G.marked;
  }

  pub going_falls : (get_or next at 0 ≡ e → ⊥) → to_go next e (get_or next at 0) (length next) < to_go next e at (length next)
  going_falls other =
      let s = step_is next at on.0 in
      let p : ℕ = G.ring.last - G.count in
      let b : walk_along next (suc p) at ≡ e =
      ap (walk_along next (suc p)) (sym G.here) ∙ sym (walk_then next (suc p) G.count e (suc G.ring.last) (omega (arith, G.few))) ∙ G.ring.back
      in
      rw s at (to_go_falls next e (length next) at p b (omega (arith, G.ring.few)) (λ q. other (sym s ∙ q)))
