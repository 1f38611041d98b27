-- Walks along `next`: how their steps add up, and what a walk that comes back cannot leave.
use Rattle.std.proofs.Common.{◌≡◌, ℕ, zero, suc, ◌+◌, ◌<◌, ◌≤◌, true, List, length, refl, ap, ◌∙◌, subst, arith}
use Rattle.std.proofs.lemmas.List.{get_or_past}
use Rattle.rings.specs.Ring.{step, walk_along, back}

pub walk_next : (next : List ℕ) (k i : ℕ) → walk_along next k (step next i) ≡ step next (walk_along next k i)
unfolding walk_along
walk_next next zero i = refl
walk_next next (suc k) i = walk_next next k (step next i)

pub walk_suc : (next : List ℕ) (k i : ℕ) → walk_along next (suc k) i ≡ step next (walk_along next k i)
unfolding walk_along
walk_suc next k i = walk_next next k i

-- a walk of c steps is one of b steps, and then one of a steps
pub walk_then : (next : List ℕ) (a b i c : ℕ) → c ≡ a + b → walk_along next c i ≡ walk_along next a (walk_along next b i)
unfolding walk_along
walk_then next a zero i c e = grind arith
walk_then next a (suc b) i c e =
    let h : c ≡ suc (a + b) = omega arith in
    ap (λ m. walk_along next m i) h ∙ walk_then next a b (step next i) (a + b) refl

-- a walk does not leave what no step leaves
pub stays : (next : List ℕ) (P : ℕ → Type 0) → ((y : ℕ) → P y → P (step next y)) → (k y : ℕ) → P y → P (walk_along next k y)
unfolding walk_along
stays next P f zero y p = p
stays next P f (suc k) y p = stays next P f k (step next y) (f y p)

-- what no step leaves, and a walk that comes back to x enters, holds x
pub came_in : (next : List ℕ) (P : ℕ → Type 0) → ((y : ℕ) → P y → P (step next y)) → (k c x : ℕ) →
    walk_along next (suc k) x ≡ x → P (walk_along next c x) → P x
unfolding walk_along
came_in next P f k zero x e p = p
came_in next P f k (suc c) x e p =
    let e' : walk_along next (suc k) (step next x) ≡ step next x = walk_next next (suc k) x ∙ ap (step next) e in
    let q : P (step next x) = came_in next P f k c (step next x) e' p in
    subst P e (stays next P f k (step next x) q)

-- from nobody a step leads to nobody
pub step_past : (next : List ℕ) (y : ℕ) → length next ≤ y → length next ≤ step next y
unfolding step
step_past next y h = omega (arith, get_or_past next y (length next) h)

-- a walk around a ring never comes to nobody
pub ring_within : (next : List ℕ) (k c x : ℕ) → walk_along next (suc k) x ≡ x → x < length next → walk_along next c x < length next
ring_within next k c x e h =
    let q = came_in next (λ y. length next ≤ y) (step_past next) k c x e in grind arith

pub back_from : (next : List ℕ) (i k j : ℕ) → j < k → walk_along next (suc j) i ≡ i → back next i k ≡ true
unfolding back
back_from next i zero j h e = absurd (omega arith)
back_from next i (suc k) j h e = let ih = back_from next i k j in grind arith

pub back_gives : (next : List ℕ) (i k : ℕ) → back next i k ≡ true → (j : ℕ) × (j < k) × (walk_along next (suc j) i ≡ i)
unfolding back
back_gives next i zero h = absurd (grind arith)
back_gives next i (suc k) h = let ih = back_gives next i k in grind arith
