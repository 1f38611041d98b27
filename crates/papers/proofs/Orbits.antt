-- The ring of a trader on an accepted sheet: it comes back to the trader, and names nobody twice.
use Rattle.std.proofs.Common.{◌≡◌, ℕ, zero, suc, ◌+◌, ◌-◌, ◌<◌, ◌≤◌, Bool, true, false, eqb, ltb, List, length, get_or, refl, sym, ap, ◌∙◌, inl, inr, arith}
use Rattle.std.proofs.lemmas.Bool.{both_ways, cases_Bool, cases_lt, cases_order, eq-eqb, eqb-true, lt-ltb, ltb-true}
use Rattle.theory.specs.Certificate.{steps}
use Rattle.theory.proofs.Finite.{Turning, least_true, orbit, returns_back, steps_add, steps_out, steps_swap}
use Rattle.sheet.specs.Sheet.{ring_from, ring_of, stand_in}

-- who stands at place j of the ring
ring_steps : (sheet : List ℕ) (own k t j : ℕ) → j < length (ring_from sheet own k t) →
    get_or (ring_from sheet own k t) j 0 ≡ steps (stand_in sheet) j t
unfolding ring_from
ring_steps sheet own zero t j h = absurd (omega arith)
ring_steps sheet own (suc k) t zero h = refl
ring_steps sheet own (suc k) t (suc j) h =
    elim (cases_Bool (eqb (stand_in sheet t) own)) [
      | inl e ↦ absurd (let z : suc j < suc 0 = rw e at h in omega arith)
      | inr e ↦
          (let z : suc j < suc (length (ring_from sheet own k (stand_in sheet t))) = rw e at h in
          rw e (ring_steps sheet own k (stand_in sheet t) j (omega arith) ∙ steps_out (stand_in sheet) j t))
    ]

-- nobody is met twice before a walk is back where it began, for the first time after k + 1 steps
module _ (f : ℕ → ℕ) (x k : ℕ) (back : steps f (suc k) x ≡ x) (before : (h : ℕ) → h < k → eqb (steps f (suc h) x) x ≡ false) where
  early : (a b : ℕ) → a < b → b < suc k → steps f a x ≡ steps f b x → ⊥
  early a b less last e =
      let d : b ≡ suc (b - a - 1) + a = omega arith in
      let h = b - a - 1 in
      let again : steps f (suc h) (steps f a x) ≡ steps f a x = sym (steps_add f (suc h) a x) ∙ (ap (λ m. steps f m x) (sym d) ∙ sym e) in
      let w = returns_back f x (k, back) a in
      let home : steps f (suc h) x ≡ x =
      ap (steps f (suc h)) (sym w.1) ∙ (steps_swap f (suc h) w.0 (steps f a x) ∙ (ap (steps f w.0) again ∙ w.1)) in
      both_ways (eqb (steps f (suc h) x) x) (before h (omega arith)) (eq-eqb (steps f (suc h) x) x home)

  pub met_once : (a b : ℕ) → a < suc k → b < suc k → steps f a x ≡ steps f b x → a ≡ b
  met_once a b ha hb e = elim (cases_order a b) [
    | inl same ↦ same
    | inr other ↦ elim other [ inl less ↦ absurd (early a b less hb e) | inr more ↦ absurd (early b a more ha (sym e)) ]
  ]

stays_below : (f : ℕ → ℕ) (n : ℕ) → ((t : ℕ) → t < n → f t < n) → (x : ℕ) → x < n → (j : ℕ) → steps f j x < n
stays_below f n into x l zero = l
stays_below f n into x l (suc j) = into (steps f j x) (stays_below f n into x l j)

-- how long the ring is
module _ (sheet : List ℕ) (own k : ℕ) (back : steps (stand_in sheet) (suc k) own ≡ own)
    (before : (h : ℕ) → h < k → eqb (steps (stand_in sheet) (suc h) own) own ≡ false) where
  ring_long : (d a fuel : ℕ) → a + d ≡ k → d < fuel → length (ring_from sheet own fuel (steps (stand_in sheet) a own)) ≡ suc d
  unfolding ring_from
  ring_long d a zero is h = absurd (omega arith)
  ring_long zero a (suc fuel) is h =
      let e : a ≡ k = omega arith in
      let home : eqb (stand_in sheet (steps (stand_in sheet) a own)) own ≡ true = eq-eqb _ _ (rw e back) in
      rw home
  ring_long (suc d) a (suc fuel) is h =
      let on : eqb (stand_in sheet (steps (stand_in sheet) a own)) own ≡ false = before a (omega arith) in
      rw on (ap suc (ring_long d (suc a) fuel (omega arith) (omega arith)))

-- The ring of trader i among n.
pub record Ring (sheet : List ℕ) (n i : ℕ) : Type 0 where
  pub some : 0 < length (ring_of sheet n i)
  pub few : length (ring_of sheet n i) ≤ n
  pub there : (k : ℕ) → k < length (ring_of sheet n i) → get_or (ring_of sheet n i) k 0 ≡ steps (stand_in sheet) k i
  pub below : (k : ℕ) → k < length (ring_of sheet n i) → get_or (ring_of sheet n i) k 0 < n
  pub once : (a b : ℕ) → a < length (ring_of sheet n i) → b < length (ring_of sheet n i) →
      get_or (ring_of sheet n i) a 0 ≡ get_or (ring_of sheet n i) b 0 → a ≡ b
  pub alone : stand_in sheet i ≡ i → length (ring_of sheet n i) ≡ 1
  pub not_alone : (stand_in sheet i ≡ i → ⊥) → length (ring_of sheet n i) ≡ 1 → ⊥

pub ring_around : (sheet : List ℕ) (n : ℕ) → ((t : ℕ) → t < n → stand_in sheet t < n) →
    ((t u : ℕ) → t < n → u < n → stand_in sheet t ≡ stand_in sheet u → t ≡ u) → (i : ℕ) → i < n → Ring sheet n i
ring_around sheet n below apart i h =
    let got = stand_in sheet in
    let P : ℕ → Bool = λ x. ltb x n in
    let T : Turning n P got = record {
      below = λ x p. ltb-true x n p;
      into = λ x p. lt-ltb (stand_in sheet x) n (below x (ltb-true x n p));
      apart = λ x y p q. apart x y (ltb-true x n p) (ltb-true y n q);
    } in
    let o = orbit T i (lt-ltb i n h) in
    let w = least_true (λ k. eqb (steps (stand_in sheet) (suc k) i) i) o.0 (eq-eqb (steps (stand_in sheet) (suc o.0) i) i o.2) in
    let k = w.0 in
    let back = eqb-true (steps (stand_in sheet) (suc w.0) i) i w.2 in
    let short : w.0 < n = omega (arith, w.1, o.1) in
    let long : length (ring_of sheet n i) ≡ suc w.0 = ring_long sheet i w.0 back w.3 w.0 0 n (omega arith) short in
    let at : (j : ℕ) → j < length (ring_of sheet n i) → get_or (ring_of sheet n i) j 0 ≡ steps (stand_in sheet) j i =
    λ j. ring_steps sheet i n i j in
    let stay : (j : ℕ) → steps (stand_in sheet) j i < n = stays_below got n below i h in
    record {
      some = omega arith;
      few = omega arith;
      there = at;
      below = λ j l. rw (at j l) (stay j);
      once = λ a b la lb e. met_once got i w.0 back w.3 a b (omega arith) (omega arith) (sym (at a la) ∙ (e ∙ at b lb));
      alone = λ e. elim (cases_lt 0 w.0) [
        | inl more ↦ absurd (both_ways (eqb (stand_in sheet i) i) (w.3 0 more) (eq-eqb (stand_in sheet i) i e))
        | inr none ↦ omega arith
      ];
      not_alone = λ ne one. ne (let z : w.0 ≡ 0 = omega arith in rw z at back);
    }
