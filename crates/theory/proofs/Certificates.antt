-- Certificates: a stand and a round for each of a set of traders, by which the exchange can be checked. They are over any ranks.
use Rattle.std.proofs.Common.{◌≡◌, ℕ, zero, suc, ◌<◌, ◌≤◌, Bool, true, eqb, ltb, sym, refl, ap, ◌∙◌, inl, inr, arith}
use Rattle.std.proofs.lemmas.Bool.{cases_lt, eqb-true, eq-eqb, ltb-true, lt-ltb, and_parts, and_from}
use Rattle.theory.proofs.Finite.{before, level, Turning, preimage, ring_mono}
use Rattle.theory.proofs.Ranks.{Tieless}

-- P are some of the participants S, all below n, and every stand that is dearer to one of P than the one it got, if its
-- holder takes part, is that of one of P with a lower round.
pub record Certificate (rk : ℕ → ℕ → ℕ) (n : ℕ) (S P : ℕ → Bool) (got out : ℕ → ℕ) : Type 0 where
  pub below : (i : ℕ) → P i ≡ true → i < n
  pub part : (i : ℕ) → P i ≡ true → S i ≡ true
  pub into : (i : ℕ) → P i ≡ true → P (got i) ≡ true
  pub apart : (i j : ℕ) → P i ≡ true → P j ≡ true → got i ≡ got j → i ≡ j
  pub together : (i : ℕ) → P i ≡ true → out (got i) ≡ out i
  pub dearer : (i t : ℕ) → P i ≡ true → S t ≡ true → rk i t < rk i (got i) → (P t ≡ true) × (out t < out i)

module _ {rk : ℕ → ℕ → ℕ} {n : ℕ} {S P : ℕ → Bool} {got out : ℕ → ℕ} (C : Certificate rk n S P got out) where
  -- nobody has a stand less dear than the own one
  pub own_or_dearer : (i : ℕ) → P i ≡ true → rk i (got i) ≤ rk i i
  own_or_dearer i p =
      elim (cases_lt (rk i i) (rk i (got i))) [ inl l ↦ absurd (let h = C.dearer i i p (C.part i p) l in omega arith) | inr l ↦ l ]

  pub turns : Turning n P got
  turns = record { below = C.below; into = C.into; apart = C.apart }

  pub before_turns : (r : ℕ) → Turning n (before P out r) got
  before_turns r = record {
    below = λ x p. C.below x (and_parts (P x) (ltb (out x) r) p).0;
    into = λ x p. (let h = and_parts (P x) (ltb (out x) r) p in
        and_from (P (got x)) (ltb (out (got x)) r) (C.into x h.0) (rw (C.together x h.0) h.1));
    apart = λ x y p q. C.apart x y (and_parts (P x) (ltb (out x) r) p).0 (and_parts (P y) (ltb (out y) r) q).0;
  }

  pub level_turns : (r : ℕ) → Turning n (level P out r) got
  level_turns r = record {
    below = λ x p. C.below x (and_parts (P x) (eqb (out x) r) p).0;
    into = λ x p. (let h = and_parts (P x) (eqb (out x) r) p in
        and_from (P (got x)) (eqb (out (got x)) r) (C.into x h.0) (rw (C.together x h.0) h.1));
    apart = λ x y p q. C.apart x y (and_parts (P x) (eqb (out x) r) p).0 (and_parts (P y) (eqb (out y) r) q).0;
  }

  -- those of lower rounds alone
  pub earlier : (r : ℕ) → Certificate rk n S (before P out r) got out
  earlier r = record {
    below = (before_turns r).below;
    part = λ i p. C.part i (and_parts (P i) (ltb (out i) r) p).0;
    into = (before_turns r).into;
    apart = (before_turns r).apart;
    together = λ i p. C.together i (and_parts (P i) (ltb (out i) r) p).0;
    dearer = λ i t p s l. (let h = and_parts (P i) (ltb (out i) r) p in
        let d = C.dearer i t h.0 s l in
        let b = ltb-true (out i) r h.1 in
        (and_from (P t) (ltb (out t) r) d.0 (lt-ltb (out t) r (omega arith)), d.1));
  }

  -- other ranks by which no more stands are dearer than those got
  pub reranked : (rk' : ℕ → ℕ → ℕ) → ((i t : ℕ) → P i ≡ true → rk' i t < rk' i (got i) → rk i t < rk i (got i)) → Certificate rk' n S P got out
  reranked rk' f = record {
    below = C.below;
    part = C.part;
    into = C.into;
    apart = C.apart;
    together = C.together;
    dearer = λ i t p s l. C.dearer i t p s (f i t p l);
  }

  -- a stand got by one of a lower round is got by nobody of this round or later, whatever σ gives the rest
  pub not_theirs : (σ : ℕ → ℕ) (r : ℕ) → ((x : ℕ) → P x ≡ true → out x < r → σ x ≡ got x) → (j t : ℕ) → P t ≡ true → out t < r → r ≤ out j →
      ((x : ℕ) → P x ≡ true → σ x ≡ σ j → x ≡ j) → σ j ≡ t → ⊥
  not_theirs σ r same j t p l m apart e =
      let w = preimage (before_turns r) t (and_from (P t) (ltb (out t) r) p (lt-ltb (out t) r l)) in
      let h = and_parts (P w.0) (ltb (out w.0) r) w.1 in
      let b = ltb-true (out w.0) r h.1 in
      let q : w.0 ≡ j = apart w.0 h.0 (same w.0 h.0 b ∙ w.2 ∙ sym e) in
      let q' = ap out q in
      omega arith

-- ---- a certificate is unique

module _ {rk : ℕ → ℕ → ℕ} {n : ℕ} {S P : ℕ → Bool} {got out got' out' : ℕ → ℕ} (tie : Tieless rk) (C : Certificate rk n S P got out) (D : Certificate rk n S S got' out') where
  -- one round, where all lower rounds agree
  level_agrees : (r : ℕ) → ((i : ℕ) → P i ≡ true → out i < r → got' i ≡ got i) → (j : ℕ) → P j ≡ true → out j ≡ r → got' j ≡ got j
  level_agrees r ih j p o =
      let not_dearer : (x : ℕ) → P x ≡ true → out x ≡ r → rk x (got x) ≤ rk x (got' x) =
      λ x p o. elim (cases_lt (rk x (got' x)) (rk x (got x))) [
        | inl l ↦ absurd (let d = C.dearer x (got' x) p (D.into x (C.part x p)) l in
            not_theirs C got' r ih x (got' x) d.0 (omega arith) (omega arith) (λ y q. D.apart y x (C.part y q) (C.part x p)) refl)
        | inr l ↦ l
      ] in
      let falls : (x : ℕ) → level P out r x ≡ true → out' (got x) ≤ out' x =
      λ x q. (let h = and_parts (P x) (eqb (out x) r) q in
      let m = not_dearer x h.0 (eqb-true (out x) r h.1) in
      elim (cases_lt (rk x (got x)) (rk x (got' x))) [
        | inl l ↦ (let d = D.dearer x (got x) (C.part x h.0) (C.part (got x) (C.into x h.0)) l in omega arith)
        | inr l ↦ (let e : got x ≡ got' x = tie x (got x) (got' x) (own_or_dearer C x h.0) (omega arith) in
            let t = ap out' e in let u = D.together x (C.part x h.0) in omega arith)
      ]) in
      let same : out' (got j) ≡ out' j = ring_mono (level_turns C r) out' falls j (and_from (P j) (eqb (out j) r) p (eq-eqb (out j) r o)) in
      let m = not_dearer j p o in
      elim (cases_lt (rk j (got j)) (rk j (got' j))) [
        | inl l ↦ absurd (let d = D.dearer j (got j) (C.part j p) (C.part (got j) (C.into j p)) l in omega arith)
        | inr l ↦ sym (tie j (got j) (got' j) (own_or_dearer C j p) (omega arith))
      ]

  agrees : (r : ℕ) (i : ℕ) → P i ≡ true → out i < r → got' i ≡ got i
  agrees zero i p l = absurd (omega arith)
  agrees (suc r) i p l = elim (cases_lt (out i) r) [ inl m ↦ agrees r i p m | inr m ↦ level_agrees r (agrees r) i p (omega arith) ]

  pub segment : (i : ℕ) → P i ≡ true → got' i ≡ got i
  segment i p = agrees (suc (out i)) i p (omega arith)

-- ---- no group does better, and of no other sharing this is so

module _ {rk : ℕ → ℕ → ℕ} {n : ℕ} {S : ℕ → Bool} {got out : ℕ → ℕ} (tie : Tieless rk) (C : Certificate rk n S S got out) where
  module _ (G : ℕ → Bool) (share : ℕ → ℕ) (T : Turning n G share) (part : (i : ℕ) → G i ≡ true → S i ≡ true) (well : (i : ℕ) → G i ≡ true → rk i (share i) ≤ rk i (got i)) where
    level_keeps : (r : ℕ) → ((i : ℕ) → G i ≡ true → out i < r → share i ≡ got i) → (j : ℕ) → G j ≡ true → out j ≡ r → share j ≡ got j
    level_keeps r ih j g o =
        let T' : Turning n (before G out r) share = record {
          below = λ x p. T.below x (and_parts (G x) (ltb (out x) r) p).0;
          into = λ x p. (let h = and_parts (G x) (ltb (out x) r) p in
              and_from (G (share x)) (ltb (out (share x)) r) (T.into x h.0)
              (rw (ih x h.0 (ltb-true (out x) r h.1), C.together x (part x h.0)) h.1));
          apart = λ x y p q. T.apart x y (and_parts (G x) (ltb (out x) r) p).0 (and_parts (G y) (ltb (out y) r) q).0;
        } in
        let w = well j g in
        elim (cases_lt (rk j (share j)) (rk j (got j))) [
          | inl l ↦ absurd (let d = C.dearer j (share j) (part j g) (part (share j) (T.into j g)) l in
              let y = preimage T' (share j) (and_from (G (share j)) (ltb (out (share j)) r) (T.into j g) (lt-ltb (out (share j)) r (omega arith))) in
              let h = and_parts (G y.0) (ltb (out y.0) r) y.1 in
              let b = ltb-true (out y.0) r h.1 in
              let q = ap out (T.apart y.0 j h.0 g y.2) in
              omega arith)
          | inr l ↦ sym (tie j (got j) (share j) (own_or_dearer C j (part j g)) (omega arith))
        ]

    keeps : (r : ℕ) (i : ℕ) → G i ≡ true → out i < r → share i ≡ got i
    keeps zero i g l = absurd (omega arith)
    keeps (suc r) i g l = elim (cases_lt (out i) r) [ inl m ↦ keeps r i g m | inr m ↦ level_keeps r (keeps r) i g (omega arith) ]

    pub no_group_betters : (i : ℕ) → G i ≡ true → share i ≡ got i
    no_group_betters i g = keeps (suc (out i)) i g (omega arith)

  -- another sharing that agrees on all lower rounds gives nobody of round r anything dearer
  pub level_well : (σ : ℕ → ℕ) → Turning n S σ → (r : ℕ) → ((i : ℕ) → S i ≡ true → out i < r → σ i ≡ got i) → (x : ℕ) → level S out r x ≡ true → rk x (got x) ≤ rk x (σ x)
  level_well σ T r ih x q =
      let h = and_parts (S x) (eqb (out x) r) q in
      let o = eqb-true (out x) r h.1 in
      elim (cases_lt (rk x (σ x)) (rk x (got x))) [
        | inl l ↦ absurd (let d = C.dearer x (σ x) h.0 (T.into x h.0) l in
            not_theirs C σ r ih x (σ x) d.0 (omega arith) (omega arith) (λ y q. T.apart y x q h.0) refl)
        | inr l ↦ l
      ]

  module _ (σ : ℕ → ℕ) (T : Turning n S σ)
      (unbettered : (G : ℕ → Bool) (share : ℕ → ℕ) → Turning n G share → ((i : ℕ) → G i ≡ true → S i ≡ true) → ((i : ℕ) → G i ≡ true → rk i (share i) ≤ rk i (σ i)) → (i : ℕ) → G i ≡ true → share i ≡ σ i) where
    level_only : (r : ℕ) → ((i : ℕ) → S i ≡ true → out i < r → σ i ≡ got i) → (j : ℕ) → S j ≡ true → out j ≡ r → σ j ≡ got j
    level_only r ih j p o =
        sym (unbettered (level S out r) got (level_turns C r) (λ x q. (and_parts (S x) (eqb (out x) r) q).0) (level_well σ T r ih) j
        (and_from (S j) (eqb (out j) r) p (eq-eqb (out j) r o)))

    only : (r : ℕ) (i : ℕ) → S i ≡ true → out i < r → σ i ≡ got i
    only zero i p l = absurd (omega arith)
    only (suc r) i p l = elim (cases_lt (out i) r) [ inl m ↦ only r i p m | inr m ↦ level_only r (only r) i p (omega arith) ]

    pub only_unbettered : (i : ℕ) → S i ≡ true → σ i ≡ got i
    only_unbettered i p = only (suc (out i)) i p (omega arith)

-- ---- other lists of one trader

-- Ranks that differ for trader i alone: what i gets by the other ranks is not dearer by its own.
pub no_gain : {rk rk' : ℕ → ℕ → ℕ} {n : ℕ} {S : ℕ → Bool} {got out got' out' : ℕ → ℕ} → Tieless rk' →
    Certificate rk n S S got out → Certificate rk' n S S got' out' → (i : ℕ) → S i ≡ true →
    ((j t : ℕ) → (j ≡ i → ⊥) → rk' j t ≡ rk j t) → rk i (got i) ≤ rk i (got' i)
no_gain {rk = rk} {rk' = rk'} {S = S} {got = got} {out = out} {got' = got'} tie C D i p same =
    let E = earlier C (out i) in
    let others : (x : ℕ) → before S out (out i) x ≡ true → x ≡ i → ⊥ =
    λ x q e. (let b = ltb-true (out x) (out i) (and_parts (S x) (ltb (out x) (out i)) q).1 in let z = ap out e in omega arith) in
    let E' = reranked E rk' (λ x t q l. (let a = same x t (others x q) in let b = same x (got x) (others x q) in omega arith)) in
    let ih : (x : ℕ) → S x ≡ true → out x < out i → got' x ≡ got x =
    λ x s l. segment tie E' D x (and_from (S x) (ltb (out x) (out i)) s (lt-ltb (out x) (out i) l)) in
    elim (cases_lt (rk i (got' i)) (rk i (got i))) [
      | inl l ↦ absurd (let d = C.dearer i (got' i) p (D.into i p) l in
          not_theirs C got' (out i) ih i (got' i) d.0 d.1 (omega arith) (λ y q. D.apart y i q p) refl)
      | inr l ↦ l
    ]
