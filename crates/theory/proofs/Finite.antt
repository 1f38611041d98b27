-- Finite sets of numbers, as tests: what is found below a bound, how many there are, and functions that map such a set into itself.
use Rattle.std.proofs.Common.{◌≡◌, ℕ, zero, suc, ◌+◌, ◌-◌, ◌<◌, ◌≤◌, Bool, true, false, cond, ◌&&◌, eqb, ltb, ◌⊎◌, sym, refl, ap, ◌∙◌, subst, inl, inr, arith}
use Rattle.std.proofs.lemmas.Bool.{cases_Bool, cases_eq, cases_lt, eqb-true, eqb-false, eq-eqb, ne_eqb, both_ways}
use Rattle.theory.specs.Certificate.{steps}

-- the numbers of P whose value h is below r, and those whose value is r
abbrev pub before : (ℕ → Bool) → (ℕ → ℕ) → ℕ → ℕ → Bool
before P h r i = P i && ltb (h i) r

abbrev pub level : (ℕ → Bool) → (ℕ → ℕ) → ℕ → ℕ → Bool
level P h r i = P i && eqb (h i) r

-- the least number below n that passes, or that none does
pub first : (p : ℕ → Bool) (n : ℕ) → ((k : ℕ) × (k < n) × (p k ≡ true) × ((h : ℕ) → h < k → p h ≡ false)) ⊎ ((k : ℕ) → k < n → p k ≡ false)
first p zero = inr (λ k h. absurd (omega arith))
first p (suc n) = go (first p n) (cases_Bool (p n))
  where
    go : ((k : ℕ) × (k < n) × (p k ≡ true) × ((h : ℕ) → h < k → p h ≡ false)) ⊎ ((k : ℕ) → k < n → p k ≡ false) → (p n ≡ true) ⊎ (p n ≡ false) → ((k : ℕ) × (k < suc n) × (p k ≡ true) × ((h : ℕ) → h < k → p h ≡ false)) ⊎ ((k : ℕ) → k < suc n → p k ≡ false)
    go (inl f) b = inl (f.0, omega (arith, f.1), f.2, f.3)
    go (inr g) (inl e) = inl (n, omega arith, e, g)
    go (inr g) (inr e) = inr (λ k h. elim (cases_lt k n) [ inl l ↦ g k l | inr l ↦ (let q : k ≡ n = omega arith in rw q e) ])

pub find : (p : ℕ → Bool) (n : ℕ) → ((k : ℕ) × (k < n) × (p k ≡ true)) ⊎ ((k : ℕ) → k < n → p k ≡ false)
find p n = elim (first p n) [ inl f ↦ inl (f.0, f.1, f.2) | inr f ↦ inr f ]

-- the same where each number has one thing or the other
pub find_either : {A B : ℕ → Type 0} (n : ℕ) → ((k : ℕ) → A k ⊎ B k) → ((k : ℕ) × (k < n) × A k) ⊎ ((k : ℕ) → k < n → B k)
find_either zero f = inr (λ k h. absurd (omega arith))
find_either {A} {B} (suc n) f = go (find_either n f) (f n)
  where
    go : ((k : ℕ) × (k < n) × A k) ⊎ ((k : ℕ) → k < n → B k) → A n ⊎ B n → ((k : ℕ) × (k < suc n) × A k) ⊎ ((k : ℕ) → k < suc n → B k)
    go (inl w) b = inl (w.0, omega (arith, w.1), w.2)
    go (inr g) (inl a) = inl (n, omega arith, a)
    go (inr g) (inr b) = inr (λ k h. elim (cases_lt k n) [ inl l ↦ g k l | inr l ↦ (let q : n ≡ k = omega arith in subst B q b) ])

-- the least number that passes, where k does
pub least_true : (p : ℕ → Bool) (k : ℕ) → p k ≡ true → (j : ℕ) × (j ≤ k) × (p j ≡ true) × ((h : ℕ) → h < j → p h ≡ false)
least_true p k e =
    elim (first p (suc k)) [
      | inl f ↦ (f.0, omega (arith, f.1), f.2, f.3)
      | inr f ↦ absurd (both_ways (p k) (f k (omega arith)) e)
    ]

-- how many numbers below n pass
abbrev pub size : (ℕ → Bool) → ℕ → ℕ
size p zero = 0
size p (suc n) = cond (p n) (suc (size p n)) (size p n)

pub size_bound : (p : ℕ → Bool) (n : ℕ) → size p n ≤ n
size_bound p zero = omega arith
size_bound p (suc n) = let h = size_bound p n in elim (cases_Bool (p n)) [ inl e ↦ rw e (omega arith) | inr e ↦ rw e (omega arith) ]

pub size_none : (p : ℕ → Bool) (n : ℕ) → size p n ≤ 0 → (k : ℕ) → k < n → p k ≡ false
size_none p zero h k l = absurd (omega arith)
size_none p (suc n) h k l =
    elim (cases_Bool (p n)) [
      | inl e ↦ absurd (let z : suc (size p n) ≤ 0 = rw e at h in omega arith)
      | inr e ↦ elim (cases_lt k n) [ inl m ↦ size_none p n (rw e at h) k m | inr m ↦ (let q : k ≡ n = omega arith in rw q e) ]
    ]

pub size_mono : (p q : ℕ → Bool) (n : ℕ) → ((k : ℕ) → k < n → q k ≡ true → p k ≡ true) → size q n ≤ size p n
size_mono p q zero h = omega arith
size_mono p q (suc n) h =
    let m = size_mono p q n (λ k l. h k (omega arith)) in
    elim (cases_Bool (q n)) [
      | inl e ↦ rw (e, h n (omega arith) e) (omega arith)
      | inr e ↦ rw e (elim (cases_Bool (p n)) [ inl d ↦ rw d (omega arith) | inr d ↦ rw d m ])
    ]

pub size_false : (n : ℕ) → size (λ k. false) n ≡ 0
size_false zero = refl
size_false (suc n) = size_false n

pub size_smaller : (p q : ℕ → Bool) (n : ℕ) → ((k : ℕ) → k < n → q k ≡ true → p k ≡ true) → (j : ℕ) → j < n → p j ≡ true → q j ≡ false → size q n < size p n
size_smaller p q zero h j l a b = absurd (omega arith)
size_smaller p q (suc n) h j l a b =
    elim (cases_lt j n) [
      | inl m ↦
          (let s = size_smaller p q n (λ k l. h k (omega arith)) j m a b in
          elim (cases_Bool (q n)) [
            | inl e ↦ rw (e, h n (omega arith) e) (omega arith)
            | inr e ↦ rw e (elim (cases_Bool (p n)) [ inl d ↦ rw d (omega arith) | inr d ↦ rw d s ])
          ])
      | inr m ↦
          (let e : j ≡ n = omega arith in
          let s = size_mono p q n (λ k l. h k (omega arith)) in
          let a' : p n ≡ true = rw e at a in
          let b' : q n ≡ false = rw e at b in
          rw (a', b') (omega arith))
    ]

-- ---- more values than room for them: two are equal

squeeze : ℕ → ℕ → ℕ → ℕ
squeeze n v x = cond (eqb x n) v x

squeeze_below : (n v x : ℕ) → v < suc n → x < suc n → (x ≡ v → ⊥) → squeeze n v x < n
unfolding squeeze
squeeze_below n v x a b c = elim (cases_eq x n) [
  | inl e ↦ rw (eq-eqb x n e) (let d : v ≡ n → ⊥ = λ q. c (e ∙ sym q) in omega arith)
  | inr e ↦ rw (ne_eqb x n e) (omega arith)
]

squeeze_same : (n v x y : ℕ) → (x ≡ v → ⊥) → (y ≡ v → ⊥) → squeeze n v x ≡ squeeze n v y → x ≡ y
unfolding squeeze
squeeze_same n v x y a b c = grind arith

pub pigeonhole : (n : ℕ) (g : ℕ → ℕ) → ((k : ℕ) → k ≤ n → g k < n) → (a : ℕ) × (b : ℕ) × (a < b) × (b ≤ n) × (g a ≡ g b)
pigeonhole zero g h = absurd (let z : g 0 < 0 = h 0 (omega arith) in omega arith)
pigeonhole (suc n) g h =
    elim (find (λ k. eqb (g k) (g (suc n))) (suc n)) [
      | inl f ↦ (f.0, suc n, f.1, omega arith, eqb-true (g f.0) (g (suc n)) f.2)
      | inr f ↦
          (let ne : (k : ℕ) → k < suc n → g k ≡ g (suc n) → ⊥ = λ k l. eqb-false (g k) (g (suc n)) (f k l) in
          let small : (k : ℕ) → k ≤ n → squeeze n (g (suc n)) (g k) < n =
          λ k l. squeeze_below n (g (suc n)) (g k) (h (suc n) (omega arith)) (h k (omega arith)) (ne k (omega arith)) in
          let w = pigeonhole n (λ k. squeeze n (g (suc n)) (g k)) small in
          let l1 : w.0 < suc n = omega (arith, w.2, w.3) in
          let l2 : w.1 < suc n = omega (arith, w.3) in
          (w.0, w.1, w.2, omega (arith, w.3), squeeze_same n (g (suc n)) (g w.0) (g w.1) (ne w.0 l1) (ne w.1 l2) w.4))
    ]

-- ---- steps of a function

pub steps_out : (f : ℕ → ℕ) (k x : ℕ) → steps f k (f x) ≡ f (steps f k x)
steps_out f zero x = refl
steps_out f (suc k) x = ap f (steps_out f k x)

pub steps_add : (f : ℕ → ℕ) (k m x : ℕ) → steps f (k + m) x ≡ steps f k (steps f m x)
steps_add f zero m x = let e : 0 + m ≡ m = omega arith in rw e
steps_add f (suc k) m x = let e : suc k + m ≡ suc (k + m) = omega arith in rw e (ap f (steps_add f k m x))

pub steps_swap : (f : ℕ → ℕ) (k m x : ℕ) → steps f k (steps f m x) ≡ steps f m (steps f k x)
steps_swap f zero m x = refl
steps_swap f (suc k) m x = ap f (steps_swap f k m x) ∙ sym (steps_out f m (steps f k x))

-- x comes back to itself after one step or more
abbrev pub Returns : (ℕ → ℕ) → ℕ → Type 0
Returns f x = (k : ℕ) × (steps f (suc k) x ≡ x)

pub returns_next : (f : ℕ → ℕ) (k x : ℕ) → steps f (suc k) x ≡ x → steps f (suc k) (f x) ≡ f x
returns_next f k x e = steps_out f (suc k) x ∙ ap f e

pub returns_steps : (f : ℕ → ℕ) (k m x : ℕ) → steps f (suc k) x ≡ x → steps f (suc k) (steps f m x) ≡ steps f m x
returns_steps f k m x e = steps_swap f (suc k) m x ∙ ap (steps f m) e

-- of two that come back and have the same next, each is the other
pub returns_apart : (f : ℕ → ℕ) (x y : ℕ) → Returns f x → Returns f y → f x ≡ f y → x ≡ y
returns_apart f x y (k, p) (m, q) e =
    let a : x ≡ steps f (suc k) y = sym p ∙ sym (steps_out f k x) ∙ ap (steps f k) e ∙ steps_out f k y in
    let b : steps f (suc m) x ≡ x = ap (steps f (suc m)) a ∙ steps_swap f (suc m) (suc k) y ∙ ap (steps f (suc k)) q ∙ sym a in
    let c : y ≡ steps f (suc m) x = sym q ∙ sym (steps_out f m y) ∙ ap (steps f m) (sym e) ∙ steps_out f m x in
    sym (c ∙ b)

-- from everywhere on the way some further steps lead back to the start
pub returns_back : (f : ℕ → ℕ) (x : ℕ) → Returns f x → (a : ℕ) → (c : ℕ) × (steps f c (steps f a x) ≡ x)
returns_back f x r zero = (0, refl)
returns_back f x r (suc a) =
    let w = returns_back f x r a in
    let e : steps f r.0 (f (steps f a x)) ≡ steps f a x = steps_out f r.0 (steps f a x) ∙ returns_steps f r.0 a x r.1 in
    (w.0 + r.0, steps_add f w.0 r.0 (f (steps f a x)) ∙ ap (steps f w.0) e ∙ w.1)

-- whatever the steps reach, no more steps than lead back to the start reach it
pub returns_within : (f : ℕ → ℕ) (k x : ℕ) → steps f (suc k) x ≡ x → (m : ℕ) → (c : ℕ) × (c ≤ k) × (steps f (suc c) x ≡ steps f (suc m) x)
returns_within f k x e zero = (0, omega arith, refl)
returns_within f k x e (suc m) =
    let w = returns_within f k x e m in
    elim (cases_lt w.0 k) [
      | inl l ↦ (suc w.0, l, ap f w.2)
      | inr l ↦ (0, omega arith, (let q : k ≡ w.0 = omega (arith, w.1) in ap f (sym e ∙ ap (λ z. steps f (suc z) x) q ∙ w.2)))
    ]

-- ---- a function that maps a set below n into itself, no two to the same

pub record Turning (n : ℕ) (P : ℕ → Bool) (f : ℕ → ℕ) : Type 0 where
  pub below : (x : ℕ) → P x ≡ true → x < n
  pub into : (x : ℕ) → P x ≡ true → P (f x) ≡ true
  pub apart : (x y : ℕ) → P x ≡ true → P y ≡ true → f x ≡ f y → x ≡ y

-- a set that a function maps into itself holds all steps
pub stays : (P : ℕ → Bool) (f : ℕ → ℕ) → ((x : ℕ) → P x ≡ true → P (f x) ≡ true) → (x : ℕ) → P x ≡ true → (k : ℕ) → P (steps f k x) ≡ true
stays P f h x p zero = p
stays P f h x p (suc k) = h (steps f k x) (stays P f h x p k)

-- from any start in such a set the steps come to a place to which they come again, within n steps
pub meets : (n : ℕ) (P : ℕ → Bool) (f : ℕ → ℕ) → ((x : ℕ) → P x ≡ true → x < n) → ((x : ℕ) → P x ≡ true → P (f x) ≡ true) → (x : ℕ) → P x ≡ true → (a : ℕ) × (k : ℕ) × (k < n) × (steps f (suc k) (steps f a x) ≡ steps f a x)
meets n P f below into x p =
    let w = pigeonhole n (λ k. steps f k x) (λ k l. below (steps f k x) (stays P f into x p k)) in
    let l : w.0 < w.1 = w.2 in
    let m : w.1 ≤ n = w.3 in
    let e : suc (w.1 - w.0 - 1) + w.0 ≡ w.1 = omega arith in
    (w.0, w.1 - w.0 - 1, omega arith, sym (steps_add f (suc (w.1 - w.0 - 1)) w.0 x) ∙ ap (λ z. steps f z x) e ∙ sym w.4)

module _ {n : ℕ} {P : ℕ → Bool} {f : ℕ → ℕ} (T : Turning n P f) where
  cancel : (a d x : ℕ) → P x ≡ true → steps f d (steps f a x) ≡ steps f a x → steps f d x ≡ x
  cancel zero d x p e = e
  cancel (suc a) d x p e =
      let in_a = stays P f T.into x p a in
      let in_d = stays P f T.into (steps f a x) in_a d in
      cancel a d x p (T.apart (steps f d (steps f a x)) (steps f a x) in_d in_a (sym (steps_out f d (steps f a x)) ∙ e))

  -- everybody comes back
  pub orbit : (x : ℕ) → P x ≡ true → (k : ℕ) × (k < n) × (steps f (suc k) x ≡ x)
  orbit x p =
      let w = meets n P f T.below T.into x p in
      (w.1, w.2, cancel w.0 (suc w.1) x p w.3)

  -- everybody is the next of somebody
  pub preimage : (x : ℕ) → P x ≡ true → (y : ℕ) × (P y ≡ true) × (f y ≡ x)
  preimage x p = let w = orbit x p in (steps f w.0 x, stays P f T.into x p w.0, w.2)

  falls : (h : ℕ → ℕ) → ((x : ℕ) → P x ≡ true → h (f x) ≤ h x) → (x : ℕ) → P x ≡ true → (k : ℕ) → h (steps f k x) ≤ h x
  falls h d x p zero = omega arith
  falls h d x p (suc k) = let a = falls h d x p k in let b = d (steps f k x) (stays P f T.into x p k) in omega arith

  -- what never rises along the steps stays the same
  pub ring_mono : (h : ℕ → ℕ) → ((x : ℕ) → P x ≡ true → h (f x) ≤ h x) → (x : ℕ) → P x ≡ true → h (f x) ≡ h x
  ring_mono h d x p =
      let w = orbit x p in
      let a : h (steps f w.0 (f x)) ≤ h (f x) = falls h d (f x) (T.into x p) w.0 in
      let b : h (steps f w.0 (f x)) ≡ h x = ap h (steps_out f w.0 x ∙ w.2) in
      let c = d x p in
      omega arith
