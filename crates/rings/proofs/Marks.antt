-- The marks that a walk makes, one trader after another.
use Rattle.std.proofs.Common.{◌≡◌, ℕ, zero, suc, ◌<◌, ◌⊎◌, List, length, get_or, set, sym, refl, ◌∙◌, subst, inl, inr, arith}
use Rattle.std.proofs.lemmas.List.{get_or_default, get_or-set_other, length-set}
use Rattle.std.proofs.lemmas.Bool.{cases_eq}
use Rattle.std.proofs.lemmas.Grind.{common_steps}
use Rattle.rings.specs.Ring.{step, walk_along}
use Rattle.rings.specs.Walk.{Walked}

-- a walk of no steps
pub walked_none : (next m : List ℕ) (w at k : ℕ) → (at < length next → get_or m at 0 ≡ 0 → ⊥) → Walked next m m w at at k
unfolding walk_along
walked_none next m w at k stop = record {
  count = 0;
  few = omega arith;
  same_length = refl;
  ends = refl;
  way = λ j h. absurd (omega arith);
  each = λ y. inr refl;
  stops = stop;
}

-- the mark of the trader with whom a walk begins
first_mark : (next m m' : List ℕ) (w at e k : ℕ) → length m ≡ length next → at < length next → 0 < w →
    Walked next (set m at w) m' w (step next at) e k → get_or m' at 0 ≡ w
first_mark next m m' w at e k len below pos W = grind (arith, common_steps)

was_unmet : (m : List ℕ) (at x w : ℕ) → at < length m → 0 < w → get_or (set m at w) x 0 ≡ 0 → get_or m x 0 ≡ 0
was_unmet m at x w below pos h = grind (arith, common_steps)

-- one step, and then a walk
pub walked_more : (next m m' : List ℕ) (w at e k k' : ℕ) → length m ≡ length next → at < length next → get_or m at 0 ≡ 0 → 0 < w → k < k' →
    Walked next (set m at w) m' w (step next at) e k → Walked next m m' w at e k'
unfolding walk_along
walked_more next m m' w at e k k' len below zero_mark pos less W = record {
  count = suc W.count;
  few = omega arith;
  same_length = W.same_length ∙ length-set m at w;
  ends = W.ends;
  way = way';
  each = each';
  stops = W.stops;
}
  where
    way' : (j : ℕ) → j < suc W.count →
        (walk_along next j at < length next) × (get_or m (walk_along next j at) 0 ≡ 0) × (get_or m' (walk_along next j at) 0 ≡ w)
    way' zero h = (below, zero_mark, first_mark next m m' w at e k len below pos W)
    way' (suc j) h =
        let t = W.way j (omega arith) in
        (t.0, was_unmet m at (walk_along next j (step next at)) w (omega arith) pos t.1, t.2)

    each' : (y : ℕ) → ((j : ℕ) × (j < suc W.count) × (walk_along next j at ≡ y)) ⊎ (get_or m' y 0 ≡ get_or m y 0)
    each' y =
        elim (cases_eq y at) [
          | inl q ↦ inl (0, omega arith, sym q)
          | inr q ↦ elim (W.each y) [
            | inl t ↦ inl (suc t.0, omega (arith, t.1), t.2)
            | inr s ↦ inr (s ∙ get_or-set_other m at y w 0 q)
          ]
        ]

-- the same, with the step as the code takes it
pub walked_on : (next m m' : List ℕ) (w at e k k' : ℕ) → length m ≡ length next → at < length next → get_or m at 0 ≡ 0 → 0 < w → k < k' →
    Walked next (set m at w) m' w (get_or next at 0) e k → Walked next m m' w at e k'
unfolding step
walked_on next m m' w at e k k' len below zero_mark pos less W =
    walked_more next m m' w at e k k' len below zero_mark pos less
    (subst (λ to. Walked next (set m at w) m' w to e k) (get_or_default next at 0 (length next) below) W)

-- what the check needs of a walk's steps
pub ruleset walk_steps = (walked_none, walked_on, common_steps)
