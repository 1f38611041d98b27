-- What the marks say between two walks: who is marked, and that those on rings are told apart.
use Rattle.std.proofs.Common.{◌≡◌, ℕ, zero, suc, ◌+◌, ◌-◌, ◌<◌, ◌≤◌, eqb, List, length, get_or, sym, refl, ap, ◌∙◌, subst, inl, inr, arith}
use Rattle.std.proofs.lemmas.Bool.{cases_lt}
use Rattle.rings.specs.Ring.{step, walk_along, on_ring_of}
use Rattle.rings.specs.Walk.{HasMark, Walked, Told}
use Rattle.rings.proofs.Steps.{walk_suc, walk_then, came_in, step_past, back_from, back_gives}
use Rattle.rings.proofs.Around.{OnRing, Ringed}

-- the marks after the walks from the traders below i: they are marked, with them all to whom their walks lead, and nobody
-- who is on no ring has the mark of a ring
pub record Half (next m : List ℕ) (i : ℕ) : Type 0 where
  pub same_length : length m ≡ length next
  pub met : (j : ℕ) → j < i → get_or m j 0 ≡ 0 → ⊥
  pub closed : (y : ℕ) → y < length next → step next y < length next → (get_or m y 0 ≡ 0 → ⊥) → get_or m (step next y) 0 ≡ 0 → ⊥
  pub ring : (y : ℕ) → y < length next → get_or m y 0 ≡ 65535 → (k : ℕ) × (k < length next) × (walk_along next (suc k) y ≡ y)
  pub small : (y : ℕ) → y < length next → (get_or m y 0 ≡ 65535 → ⊥) → get_or m y 0 ≤ i

-- and everybody marked who is on a ring has that mark
pub record Done (next m : List ℕ) (i : ℕ) : Type 0 where
  pub half : Half next m i
  pub none : (y : ℕ) → y < length next → (get_or m y 0 ≡ 0 → ⊥) → (get_or m y 0 ≡ 65535 → ⊥) → (k : ℕ) → walk_along next (suc k) y ≡ y → ⊥

-- Everything below is about one walk from i, with the mark i + 1.
module _ (next m m' : List ℕ) (i e s : ℕ) (D : Done next m i) (W : Walked next m m' (i + 1) i e s) where
  way_mark : (y : ℕ) → ((j : ℕ) × (j < W.count) × (walk_along next j i ≡ y)) → get_or m' y 0 ≡ i + 1
  way_mark y t = rw t.2 at (W.way t.0 t.1).2

  way_was : (y : ℕ) → ((j : ℕ) × (j < W.count) × (walk_along next j i ≡ y)) → get_or m y 0 ≡ 0
  way_was y t = rw t.2 at (W.way t.0 t.1).1

  -- the walk goes on from a trader on its way to its end
  way_end : (y : ℕ) → (t : (j : ℕ) × (j < W.count) × (walk_along next j i ≡ y)) → walk_along next (W.count - t.0) y ≡ e
  way_end y t =
      let l = t.1 in
      let h : W.count ≡ (W.count - t.0) + t.0 = omega arith in
      ap (walk_along next (W.count - t.0)) (sym t.2) ∙ sym (walk_then next (W.count - t.0) t.0 i W.count h) ∙ W.ends

  start_met : i < length next → get_or m' i 0 ≡ 0 → ⊥
  unfolding walk_along
  start_met below h = go W.count refl
    where
      go : (d : ℕ) → W.count ≡ d → ⊥
      go zero q = let u : i ≡ e = sym (ap (λ k. walk_along next k i) q) ∙ W.ends in grind (arith, W.stops)
      go (suc d) q = let u = (W.way 0 (omega arith)).2 in omega arith

  walked_closed : (y : ℕ) → y < length next → step next y < length next → (get_or m' y 0 ≡ 0 → ⊥) → get_or m' (step next y) 0 ≡ 0 → ⊥
  walked_closed y l sl h z =
      elim (W.each (step next y)) [
        | inl t ↦ let u = way_mark (step next y) t in omega arith
        | inr q ↦ elim (W.each y) [
          | inr r ↦ D.half.closed y l sl (λ v. h (r ∙ v)) (sym q ∙ z)
          | inl t ↦ on_way t
        ]
      ]
    where
      on_way : ((j : ℕ) × (j < W.count) × (walk_along next j i ≡ y)) → ⊥
      on_way t =
          let b = t.1 in
          let st : walk_along next (suc t.0) i ≡ step next y = walk_suc next t.0 i ∙ ap (step next) t.2 in
          let w = W.way (suc t.0) in
          grind (arith, W.ends, W.stops)

  pub walked_half : i < length next → length next ≤ 4000 → Half next m' (i + 1)
  walked_half below most = record {
    same_length = W.same_length ∙ D.half.same_length;
    met = λ j l z. let s = start_met below in grind (arith, way_mark, W.each j, D.half.met j);
    closed = walked_closed;
    ring = λ y l h. D.half.ring y l (grind (arith, way_mark, W.each y));
    small = λ y l h. grind (arith, way_mark, W.each y, D.half.small y);
  }

  -- a walk that ended at nobody, or on the way of a walk before, met nobody on a ring
  pub done_elsewhere : i < length next → length next ≤ 4000 → (HasMark m' e (i + 1) → ⊥) → Done next m' (i + 1)
  done_elsewhere below most other = record {
    half = walked_half below most;
    none = λ y l h r k b. elim (W.each y) [
      | inr q ↦ grind (arith, D.none y l)
      | inl t ↦ came_in next Marked steps_marked k (W.count - t.0) y b (end_marked y t) l (way_was y t)
    ];
  }
    where
      Marked : ℕ → Type 0
      Marked z = z < length next → get_or m z 0 ≡ 0 → ⊥

      steps_marked : (z : ℕ) → Marked z → Marked (step next z)
      steps_marked z p sl v = grind (arith, D.half.closed z, step_past)

      met_marked : Marked e
      met_marked l v = grind (arith, W.each e, way_mark, W.stops, W.same_length, D.half.same_length, other)

      end_marked : (y : ℕ) → (t : (j : ℕ) × (j < W.count) × (walk_along next j i ≡ y)) → Marked (walk_along next (W.count - t.0) y)
      end_marked y t = subst Marked (sym (way_end y t)) met_marked

  -- a walk that ended on its own way has found a ring
  pub ring_found : s ≤ length next → length next ≤ 4000 → i < length next → HasMark m' e (i + 1) → OnRing next e
  ring_found few most below h =
      elim (W.each e) [
        | inl t ↦
            let b = t.1 in
            let c : W.count - t.0 ≡ suc (W.count - t.0 - 1) = omega arith in
            record {
              within = omega (arith, W.same_length, D.half.same_length);
              last = W.count - t.0 - 1;
              few = omega (arith, W.few);
              back = rw c at (way_end e t);
            }
        | inr q ↦ absurd (grind (arith, D.half.small e, W.same_length, D.half.same_length))
      ]

  -- and nobody else whom it met is on one
  pub done_ring : (m'' : List ℕ) → i < length next → length next ≤ 4000 → Ringed next m' m'' e → Done next m'' (i + 1)
  unfolding walk_along
  done_ring m'' below most R = record {
    half = ringed_half;
    none = λ y l h r k b. elim (R.marked.each y) [
      | inl t ↦ r (ring_mark y t)
      | inr q ↦ elim (W.each y) [
        | inr u ↦ grind (arith, D.none y l)
        | inl t ↦ r (ring_mark y (came_in next OnIt steps_on_it k (W.count - t.0) y b (subst OnIt (sym (way_end y t)) met_on_it)))
      ]
    ];
  }
    where
      OnIt : ℕ → Type 0
      OnIt y = (j : ℕ) × (j < suc R.ring.last) × (walk_along next j e ≡ y)

      ring_mark : (y : ℕ) → OnIt y → get_or m'' y 0 ≡ 65535
      ring_mark y t = rw t.2 at (R.marked.new t.0 t.1)

      met_on_it : OnIt e
      met_on_it = (0, omega arith, refl)

      steps_on_it : (y : ℕ) → OnIt y → OnIt (step next y)
      steps_on_it y t =
          let b = t.1 in
          let st : walk_along next (suc t.0) e ≡ step next y = walk_suc next t.0 e ∙ ap (step next) t.2 in
          elim (cases_lt (suc t.0) (suc R.ring.last)) [
            | inl k ↦ (suc t.0, k, st)
            | inr k ↦ (0, omega arith, grind (arith, R.ring.back))
          ]

      -- a trader on the ring comes back to itself as the one met does
      comes_round : (y : ℕ) → OnIt y → walk_along next (suc R.ring.last) y ≡ y
      comes_round y t =
          ap (walk_along next (suc R.ring.last)) (sym t.2)
          ∙ sym (walk_then next (suc R.ring.last) t.0 e (suc R.ring.last + t.0) refl)
          ∙ walk_then next t.0 (suc R.ring.last) e (suc R.ring.last + t.0) (omega arith)
          ∙ ap (walk_along next t.0) R.ring.back
          ∙ t.2

      H : Half next m' (i + 1)
      H = walked_half below most

      ringed_half : Half next m'' (i + 1)
      ringed_half = record {
        same_length = R.marked.same_length;
        met = λ j l z. grind (arith, R.marked.each j, ring_mark, H.met j);
        closed = λ y l sl h z. elim (R.marked.each y) [
          | inl t ↦ let u = ring_mark (step next y) (steps_on_it y t) in omega arith
          | inr q ↦ grind (arith, R.marked.each (step next y), ring_mark, H.closed y)
        ];
        ring = λ y l h. elim (R.marked.each y) [
          | inl t ↦ (R.ring.last, R.ring.few, comes_round y t)
          | inr q ↦ H.ring y l (sym q ∙ h)
        ];
        small = λ y l h. grind (arith, R.marked.each y, ring_mark, H.small y);
      }

-- once all are marked, the marks tell who is on a ring
pub done_told : (next m : List ℕ) (i : ℕ) → length next ≤ i → Done next m i → Told next m
unfolding on_ring_of
done_told next m i all D = record { same_length = D.half.same_length; tells = tells' }
  where
    tells' : (y : ℕ) → y < length next → eqb (get_or m y 0) 65535 ≡ on_ring_of next y
    tells' y l = grind (arith, back_from, back_gives, D.none y, D.half.met y, D.half.ring y)
