-- Walks and rings in one standing.
use Rattle.std.proofs.Common.{◌≡◌, ℕ, zero, suc, ◌+◌, ◌<◌, ◌≤◌, true, false, cond, eqb, List, [], ◌∷◌, length, get_or, sym, refl, ap, ◌∙◌, inl, inr, arith}
use Rattle.std.proofs.lemmas.Bool.{cases_Bool, cases_lt, eqb-true, eq-eqb, and_parts, and_from, and_left, both_ways}
use Rattle.std.proofs.lemmas.List.{get_or_past}
use Rattle.theory.specs.Trade.{Lists, Standing, is_in, points, walk, comes_back, on_ring, none_in}
use Rattle.theory.specs.Certificate.{steps}
use Rattle.theory.specs.Runs.{reaches, same_ring}
use Rattle.theory.proofs.Finite.{steps_out, steps_add, Returns, returns_next, returns_apart, returns_back, returns_within, stays, meets}
use Rattle.theory.proofs.Ranks.{points_in}

-- ---- who is in

pub in_below : (s : Standing) (i : ℕ) → is_in s i ≡ true → i < length s.inside
unfolding is_in
in_below s i e =
    elim (cases_lt i (length s.inside)) [
      | inl l ↦ l
      | inr l ↦ absurd (both_ways (eqb (get_or s.inside i 0) 1) (rw (get_or_past s.inside i 0 l)) e)
    ]

pub out_past : (s : Standing) (i : ℕ) → length s.inside ≤ i → is_in s i ≡ false
unfolding is_in
out_past s i l = rw (get_or_past s.inside i 0 l)

none_in_of : (xs : List ℕ) → none_in xs ≡ true → (i : ℕ) → eqb (get_or xs i 0) 1 ≡ false
unfolding none_in
none_in_of [] e i = refl
none_in_of (x ∷ xs) e zero = elim (cases_Bool (eqb x 1)) [ inl d ↦ absurd (both_ways true (sym (rw d at e)) refl) | inr d ↦ d ]
none_in_of (x ∷ xs) e (suc i) =
    elim (cases_Bool (eqb x 1)) [ inl d ↦ absurd (both_ways true (sym (rw d at e)) refl) | inr d ↦ none_in_of xs (rw d at e) i ]

some_in_of : (xs : List ℕ) → none_in xs ≡ false → (i : ℕ) × (eqb (get_or xs i 0) 1 ≡ true)
unfolding none_in
some_in_of [] e = absurd (both_ways true e refl)
some_in_of (x ∷ xs) e =
    elim (cases_Bool (eqb x 1)) [ inl d ↦ (0, d) | inr d ↦ (let w = some_in_of xs (rw d at e) in (suc w.0, w.1)) ]

-- nobody is in, as a test and for each trader
pub none_in_all : (s : Standing) → none_in s.inside ≡ true → (i : ℕ) → is_in s i ≡ false
unfolding is_in
none_in_all s e i = none_in_of s.inside e i

pub some_in : (s : Standing) → none_in s.inside ≡ false → (i : ℕ) × (is_in s i ≡ true)
unfolding is_in
some_in s e = some_in_of s.inside e

pub none_in_from : (s : Standing) → ((i : ℕ) → is_in s i ≡ false) → none_in s.inside ≡ true
none_in_from s f =
    elim (cases_Bool (none_in s.inside)) [ inl e ↦ e | inr e ↦ absurd (let w = some_in s e in both_ways (is_in s w.0) (f w.0) w.1) ]

pub none_in_false : (s : Standing) (i : ℕ) → is_in s i ≡ true → none_in s.inside ≡ false
none_in_false s i e =
    elim (cases_Bool (none_in s.inside)) [ inl d ↦ absurd (both_ways (is_in s i) (none_in_all s d i) e) | inr d ↦ d ]

-- ---- walks

module _ (ls : Lists) (s : Standing) where
  pub walk_steps : (k i : ℕ) → walk ls s k i ≡ steps (points ls s) k i
  unfolding walk
  walk_steps zero i = refl
  walk_steps (suc k) i = walk_steps k (points ls s i) ∙ steps_out (points ls s) k i

  pub reaches_from : (j i m k : ℕ) → k < m → steps (points ls s) (suc k) j ≡ i → reaches ls s j i m ≡ true
  unfolding reaches
  reaches_from j i zero k l e = absurd (omega arith)
  reaches_from j i (suc m) k l e =
      elim (cases_Bool (eqb (walk ls s (suc m) j) i)) [
        | inl d ↦ rw d
        | inr d ↦ rw d (elim (cases_lt k m) [
          | inl b ↦ reaches_from j i m k b e
          | inr b ↦ absurd (let q : m ≡ k = omega arith in
              both_ways (eqb (walk ls s (suc m) j) i) d (eq-eqb (walk ls s (suc m) j) i (walk_steps (suc m) j ∙ rw q e)))
        ])
      ]

  pub reaches_to : (j i m : ℕ) → reaches ls s j i m ≡ true → (k : ℕ) × (k < m) × (steps (points ls s) (suc k) j ≡ i)
  unfolding reaches
  reaches_to j i zero e = absurd (both_ways true (sym e) refl)
  reaches_to j i (suc m) e =
      elim (cases_Bool (eqb (walk ls s (suc m) j) i)) [
        | inl d ↦ (m, omega arith, sym (walk_steps (suc m) j) ∙ eqb-true (walk ls s (suc m) j) i d)
        | inr d ↦ (let w = reaches_to j i m (rw d at e) in (w.0, omega (arith, w.1), w.2))
      ]

  pub comes_back_reaches : (i m : ℕ) → comes_back ls s i m ≡ reaches ls s i i m
  unfolding comes_back reaches
  comes_back_reaches i zero = refl
  comes_back_reaches i (suc m) = ap (cond (eqb (walk ls s (suc m) i) i) true) (comes_back_reaches i m)

  -- ---- rings

  pub ring_in : (i : ℕ) → on_ring ls s i ≡ true → is_in s i ≡ true
  unfolding on_ring
  ring_in i e = (and_parts (is_in s i) (comes_back ls s i (length ls)) e).0

  pub ring_returns : (i : ℕ) → on_ring ls s i ≡ true → (k : ℕ) × (k < length ls) × (steps (points ls s) (suc k) i ≡ i)
  unfolding on_ring
  ring_returns i e =
      let b = (and_parts (is_in s i) (comes_back ls s i (length ls)) e).1 in
      reaches_to i i (length ls) (sym (comes_back_reaches i (length ls)) ∙ b)

  pub ring_from : (i k : ℕ) → is_in s i ≡ true → k < length ls → steps (points ls s) (suc k) i ≡ i → on_ring ls s i ≡ true
  unfolding on_ring
  ring_from i k e l r =
      and_from (is_in s i) (comes_back ls s i (length ls)) e (comes_back_reaches i (length ls) ∙ reaches_from i i (length ls) k l r)

  pub out_no_ring : (i : ℕ) → is_in s i ≡ false → on_ring ls s i ≡ false
  unfolding on_ring
  out_no_ring i e = and_left (is_in s i) (comes_back ls s i (length ls)) e

  pub ring_next : (i : ℕ) → on_ring ls s i ≡ true → on_ring ls s (points ls s i) ≡ true
  ring_next i e =
      let w = ring_returns i e in
      ring_from (points ls s i) w.0 (points_in ls s i (ring_in i e)) w.1 (returns_next (points ls s) w.0 i w.2)

  ring_return : (i : ℕ) → on_ring ls s i ≡ true → Returns (points ls s) i
  ring_return i e = let w = ring_returns i e in (w.0, w.2)

  pub ring_apart : (i j : ℕ) → on_ring ls s i ≡ true → on_ring ls s j ≡ true → points ls s i ≡ points ls s j → i ≡ j
  ring_apart i j a b e = returns_apart (points ls s) i j (ring_return i a) (ring_return j b) e

  -- whoever is in points to the stand of a trader
  pub points_below : length s.inside ≤ length ls → (i : ℕ) → is_in s i ≡ true → points ls s i < length ls
  points_below l i e = let b = in_below s (points ls s i) (points_in ls s i e) in omega arith

  -- where somebody is in, somebody is on a ring
  pub somebody_on_ring : length s.inside ≤ length ls → (i : ℕ) → is_in s i ≡ true → (j : ℕ) × (on_ring ls s j ≡ true)
  somebody_on_ring l i e =
      let below : (x : ℕ) → is_in s x ≡ true → x < length ls = λ x p. (let b = in_below s x p in omega arith) in
      let w = meets (length ls) (is_in s) (points ls s) below (points_in ls s) i e in
      let x = steps (points ls s) w.0 i in
      (x, ring_from x w.1 (stays (is_in s) (points ls s) (points_in ls s) i e w.0) w.2 w.3)

  -- from every place that a ring member's walk reaches, a walk leads back to it
  walk_back : (i a : ℕ) → on_ring ls s i ≡ true → (c : ℕ) × (steps (points ls s) c (steps (points ls s) a i) ≡ i)
  walk_back i a e = returns_back (points ls s) i (ring_return i e) a

  -- two ring members whose walks meet reach each other
  pub rings_meet : (i j a b : ℕ) → on_ring ls s i ≡ true → walk ls s a i ≡ walk ls s b j → (k : ℕ) × (walk ls s k j ≡ i)
  rings_meet i j a b e m =
      let w = walk_back i a e in
      let m' : steps (points ls s) a i ≡ steps (points ls s) b j = sym (walk_steps a i) ∙ m ∙ walk_steps b j in
      (w.0 + b, walk_steps (w.0 + b) j ∙ steps_add (points ls s) w.0 b j ∙ ap (steps (points ls s) w.0) (sym m') ∙ w.1)

  -- ---- the members of one ring

  pub same_ring_to : (j i : ℕ) → same_ring ls s j i ≡ true → (k : ℕ) × (k < length ls) × (steps (points ls s) (suc k) j ≡ i)
  unfolding same_ring
  same_ring_to j i e = reaches_to j i (length ls) e

  pub same_ring_self : (j : ℕ) → on_ring ls s j ≡ true → same_ring ls s j j ≡ true
  unfolding same_ring
  same_ring_self j e = let w = ring_returns j e in reaches_from j j (length ls) w.0 w.1 w.2

  -- every member is on a ring itself
  pub same_ring_on : (j i : ℕ) → on_ring ls s j ≡ true → same_ring ls s j i ≡ true → on_ring ls s i ≡ true
  same_ring_on j i e m =
      let w = same_ring_to j i m in
      rw (← w.2) (stays (on_ring ls s) (points ls s) ring_next j e (suc w.0))

  pub same_ring_from : (j m : ℕ) → on_ring ls s j ≡ true → same_ring ls s j (steps (points ls s) (suc m) j) ≡ true
  unfolding same_ring
  same_ring_from j m e =
      let p = ring_returns j e in
      let w = returns_within (points ls s) p.0 j p.2 m in
      reaches_from j (steps (points ls s) (suc m) j) (length ls) w.0 (omega (arith, w.1, p.1)) w.2

  pub same_ring_next : (j i : ℕ) → on_ring ls s j ≡ true → same_ring ls s j i ≡ true → same_ring ls s j (points ls s i) ≡ true
  same_ring_next j i e m =
      let w = same_ring_to j i m in
      rw (← w.2) (same_ring_from j (suc w.0) e)
