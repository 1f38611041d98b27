-- Where everybody points.
use Rattle.std.proofs.Common.{◌≡◌, ℕ, zero, suc, ◌+◌, ◌<◌, cond, eqb, List, [], ◌∷◌, length, get_or, refl, ap, ◌∙◌, inl, inr, arith}
use Rattle.std.proofs.lemmas.Bool.{cases_Bool}
use Rattle.std.proofs.lemmas.List.{get_or-set_same, get_or-set_other, length-set}
use Rattle.theory.specs.Trade.{Lists}
use Rattle.pointing.specs.Pointing.{points_from, stand_of}
use Rattle.rounds.specs.Turn.{all_pointed, one_pointed}

module _ (inside : List ℕ) where
  -- the entry of trader i after it has pointed, if it is in
  abbrev pointed_at : List ℕ → ℕ → List ℕ → ℕ
  pointed_at list i results = cond (eqb (get_or inside i 0) 1) (stand_of i (points_from inside list 0)) (get_or results i 0)

  one_length : (list : List ℕ) (i : ℕ) (results : List ℕ) → length (one_pointed list i inside results) ≡ length results
  one_length list i results = elim (cases_Bool (eqb (get_or inside i 0) 1)) [ inl e ↦ rw e (length-set results i _) | inr e ↦ rw e ]

  one_here : (list : List ℕ) (i : ℕ) (results : List ℕ) → i < length results → get_or (one_pointed list i inside results) i 0 ≡ pointed_at list i results
  one_here list i results h = elim (cases_Bool (eqb (get_or inside i 0) 1)) [ inl e ↦ rw e (get_or-set_same results i _ 0 h) | inr e ↦ rw e ]

  one_other : (list : List ℕ) (i j : ℕ) (results : List ℕ) → (j ≡ i → ⊥) → get_or (one_pointed list i inside results) j 0 ≡ get_or results j 0
  one_other list i j results h = elim (cases_Bool (eqb (get_or inside i 0) 1)) [ inl e ↦ rw e (get_or-set_other results i j _ 0 h) | inr e ↦ rw e ]

  pub all_length : (ls : Lists) (k : ℕ) (results : List ℕ) → length (all_pointed ls k inside results) ≡ length results
  unfolding all_pointed
  all_length [] k results = refl
  all_length (list ∷ ls) k results = all_length ls (suc k) (one_pointed list k inside results) ∙ one_length list k results

  all_before : (ls : Lists) (k j : ℕ) (results : List ℕ) → j < k → get_or (all_pointed ls k inside results) j 0 ≡ get_or results j 0
  unfolding all_pointed
  all_before [] k j results h = refl
  all_before (list ∷ ls) k j results h =
      all_before ls (suc k) j (one_pointed list k inside results) (omega arith) ∙ one_other list k j results (λ e. omega arith)

  pub all_at : (ls : Lists) (k i j : ℕ) (results : List ℕ) → j ≡ k + i → i < length ls → j < length results →
      get_or (all_pointed ls k inside results) j 0 ≡ pointed_at (get_or ls i []) j results
  unfolding all_pointed
  all_at [] k i j results at h room = absurd (omega arith)
  all_at (list ∷ ls) k zero j results at h room =
      let same : j ≡ k = omega arith in
      all_before ls (suc k) j (one_pointed list k inside results) (omega arith) ∙ rw same (one_here list k results (omega arith))
  all_at (list ∷ ls) k (suc i) j results at h room =
      let rest = all_at ls (suc k) i j (one_pointed list k inside results) (omega arith) (omega arith) (rw (one_length list k results) room) in
      rest ∙ ap (cond (eqb (get_or inside j 0) 1) (stand_of j (points_from inside (get_or ls i []) 0))) (one_other list k j results (λ e. omega arith))
