-- A trader's ring as it is written: it is the ring on which the exchange's results lead around, and how its text grows.
use Rattle.std.proofs.Common.{◌≡◌, ℕ, zero, suc, ◌+◌, ◌-◌, ◌<◌, ◌≤◌, true, false, cond, eqb, ltb, List, [], ◌∷◌, ◌++◌, length, get_or, take, decimal, sym, refl, ap, ◌∙◌, append_assoc, inl, inr, arith}
use Rattle.std.proofs.lemmas.List.{get_or_default}
use Rattle.std.proofs.lemmas.Bool.{cases_order, eqb-true, eqb-false, eq-eqb, ne_eqb, ltb-true, lt-ltb}
use Rattle.theory.specs.Certificate.{steps}
use Rattle.theory.specs.Trade.{Lists, result}
use Rattle.theory.proofs.Finite.{Turning, stays, orbit, least_true, steps_add}
use Rattle.theory.proofs.Promises.{result_below, result_apart}
use Rattle.text.specs.Report.{stand_got, more, ring_on, ring_from, spaced, Ring, RingWritten}

-- no more traders are on a ring than it may have
pub ring_few : (rs : List ℕ) (home k at : ℕ) → length (ring_on rs home k at) ≤ k
unfolding ring_on
ring_few rs home zero at = omega arith
ring_few rs home (suc k) at =
    let few = ring_few rs home k (stand_got rs at) in grind arith

-- where i traders of a ring are written and one more is: what is written, with what is left to write, stays the same
pub one_written : (i x : ℕ) (text ring : List ℕ) → i < 20 →
    (text ++ (32 ∷ decimal x)) ++ (spaced (take (20 - (i + 1)) ring) ++ more (length ring - (20 - (i + 1))))
    ≡ text ++ (spaced (take (20 - i) (x ∷ ring)) ++ more (length (x ∷ ring) - (20 - i)))
unfolding spaced
one_written i x text ring l =
    let left : 20 - i ≡ suc (20 - (i + 1)) = omega arith in
    let rest : suc (length ring) - suc (20 - (i + 1)) ≡ length ring - (20 - (i + 1)) = omega arith in
    let others = spaced (take (20 - (i + 1)) ring) in
    let end = more (length ring - (20 - (i + 1))) in
    rw (left, rest) (append_assoc text (32 ∷ decimal x) (others ++ end) ∙ ap (λ t. text ++ (32 ∷ t)) (sym (append_assoc (decimal x) others end)))

-- and where as many are written as are shown, the number of the others is left to write
pub rest_written : (i : ℕ) (ring : List ℕ) → 20 ≤ i → spaced (take (20 - i) ring) ++ more (length ring - (20 - i)) ≡ more (length ring)
unfolding spaced
rest_written i ring l =
    let none : 20 - i ≡ 0 = omega arith in
    let all : length ring - 0 ≡ length ring = omega arith in
    rw (none, all)

-- a ring's first trader, and the others
ring_on_more : (rs : List ℕ) (home k at : ℕ) →
    ring_on rs home (suc k) at ≡ at ∷ cond (eqb (stand_got rs at) home) [] (ring_on rs home k (stand_got rs at))
unfolding ring_on
ring_on_more rs home k at = refl

module _ (rs : List ℕ) (f : ℕ → ℕ) (i j : ℕ) (goes : (k : ℕ) → k ≤ j → stand_got rs (steps f k i) ≡ steps f (suc k) i) (home : steps f (suc j) i ≡ i) (not_yet : (h : ℕ) → h < j → steps f (suc h) i ≡ i → ⊥) where
  -- from the a-th of the ring on, d more come before it is back
  pub ring_is : (m d a : ℕ) → d + a ≡ j → d < m →
      (length (ring_on rs i m (steps f a i)) ≡ suc d) × ((k : ℕ) → k ≤ d → get_or (ring_on rs i m (steps f a i)) k 0 ≡ steps f (k + a) i)
  ring_is zero d a e l = absurd (omega arith)
  ring_is (suc m) zero a e l =
      let q : a ≡ j = omega arith in
      let back : eqb (stand_got rs (steps f a i)) i ≡ true =
      eq-eqb (stand_got rs (steps f a i)) i (goes a (omega arith) ∙ ap (λ z. steps f (suc z) i) q ∙ home) in
      let one : ring_on rs i (suc m) (steps f a i) ≡ steps f a i ∷ [] = ring_on_more rs i m (steps f a i) ∙ rw back in
      rw one (refl, λ k h. let z : k ≡ 0 = omega arith in let y : 0 + a ≡ a = omega arith in rw (z, y))
  ring_is (suc m) (suc d) a e l =
      let on : stand_got rs (steps f a i) ≡ steps f (suc a) i = goes a (omega arith) in
      let far : eqb (steps f (suc a) i) i ≡ false = ne_eqb (steps f (suc a) i) i (not_yet a (omega arith)) in
      let more : ring_on rs i (suc m) (steps f a i) ≡ steps f a i ∷ ring_on rs i m (steps f (suc a) i) =
      ring_on_more rs i m (steps f a i) ∙ rw (on, far) in
      let ih = ring_is m d (suc a) (omega arith) (omega arith) in
      rw more (ap suc ih.0, further ih)
    where
      further : (length (ring_on rs i m (steps f (suc a) i)) ≡ suc d) × ((k : ℕ) → k ≤ d → get_or (ring_on rs i m (steps f (suc a) i)) k 0 ≡ steps f (k + suc a) i) →
          (k : ℕ) → k ≤ suc d → get_or (steps f a i ∷ ring_on rs i m (steps f (suc a) i)) k 0 ≡ steps f (k + a) i
      further ih zero h = let y : 0 + a ≡ a = omega arith in rw y
      further ih (suc k) h = let y : k + suc a ≡ suc k + a = omega arith in ih.1 k (omega arith) ∙ ap (λ z. steps f z i) y

  -- no two of them are the same: the rest of the way around would lead back too early
  pub apart_lt : (a b : ℕ) → a < b → b ≤ j → steps f a i ≡ steps f b i → ⊥
  apart_lt a b l m e =
      let p : steps f (suc j - b) (steps f a i) ≡ i =
      ap (steps f (suc j - b)) e ∙ sym (steps_add f (suc j - b) b i) ∙ (let y : suc j - b + b ≡ suc j = omega arith in rw y home) in
      let y : suc j - b + a ≡ suc (j - b + a) = omega arith in
      not_yet (j - b + a) (omega arith) (sym (ap (λ z. steps f z i) y) ∙ steps_add f (suc j - b) a i ∙ p)

  pub apart : (a b : ℕ) → a ≤ j → b ≤ j → steps f a i ≡ steps f b i → a ≡ b
  apart a b l m e =
      elim (cases_order a b) [ inl q ↦ q | inr (inl q) ↦ absurd (apart_lt a b q m e) | inr (inr q) ↦ absurd (apart_lt b a q l (sym e)) ]

pub turning : (ls : Lists) → Turning (length ls) (λ x. ltb x (length ls)) (result ls)
turning ls =
    record {
      below = λ x p. ltb-true x (length ls) p;
      into = λ x p. lt-ltb (result ls x) (length ls) (result_below ls x (ltb-true x (length ls) p));
      apart = λ x y p q. result_apart ls x y (ltb-true x (length ls) p) (ltb-true y (length ls) q);
    }

-- a list with those places is a ring
pub ring_from_steps : (ls : Lists) (i j : ℕ) (ring : List ℕ) → j < length ls → length ring ≡ suc j →
    ((k : ℕ) → k ≤ j → get_or ring k 0 ≡ steps (result ls) k i) → ((k : ℕ) → steps (result ls) k i < length ls) → steps (result ls) (suc j) i ≡ i →
    ((a b : ℕ) → a ≤ j → b ≤ j → steps (result ls) a i ≡ steps (result ls) b i → a ≡ b) → Ring ls i ring
ring_from_steps ls i j ring l long at below home alone =
    record {
      some = omega arith;
      few = omega arith;
      first = at 0 (omega arith);
      next = λ k h. at (suc k) (omega arith) ∙ ap (result ls) (sym (at k (omega arith)));
      last = let e : length ring - 1 ≡ j = omega arith in rw (e, at j (omega arith)) home;
      traders = λ k h. let b = below k in let e = at k (omega arith) in omega arith;
      apart = λ a b h g e. alone a b (omega arith) (omega arith) (sym (at a (omega arith)) ∙ e ∙ at b (omega arith));
    }

pub ring_written : RingWritten
unfolding RingWritten
ring_written ls rs same are i l =
    let f = result ls in
    let T = turning ls in
    let p : ltb i (length ls) ≡ true = lt-ltb i (length ls) l in
    let o = orbit T i p in
    let t = least_true (λ k. eqb (steps f (suc k) i) i) o.0 (eq-eqb (steps f (suc o.0) i) i o.2) in
    let j : ℕ = t.0 in
    let home : steps f (suc j) i ≡ i = eqb-true (steps f (suc j) i) i t.2 in
    let not_yet : (h : ℕ) → h < j → steps f (suc h) i ≡ i → ⊥ = λ h g. eqb-false (steps f (suc h) i) i (t.3 h g) in
    let below : (k : ℕ) → steps f k i < length ls = λ k. ltb-true (steps f k i) (length ls) (stays (λ x. ltb x (length ls)) f T.into i p k) in
    let goes : (k : ℕ) → k ≤ j → stand_got rs (steps f k i) ≡ steps f (suc k) i =
    λ k h. let b = below k in get_or_default rs (steps f k i) (steps f k i) 0 (omega arith) ∙ are (steps f k i) b in
    let short : j < length ls = omega (arith, t.1, o.1) in
    let r = ring_is rs f i j goes home not_yet (length rs) j 0 (omega arith) (omega arith) in
    ring_from_steps ls i j (ring_from rs i) short r.0 (λ k h. r.1 k h ∙ (let y : k + 0 ≡ k = omega arith in rw y)) below home
    (apart rs f i j goes home not_yet)
