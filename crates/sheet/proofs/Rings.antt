-- A ring, a trader at a time.
use Rattle.std.proofs.Common.{◌≡◌, ℕ, zero, suc, ◌-◌, ◌≤◌, eqb, List, [], ◌∷◌, length, refl, ap, ◌∙◌, inl, inr, arith}
use Rattle.std.proofs.lemmas.Bool.{cases_Bool, eq-eqb, ne_eqb}
use Rattle.sheet.specs.Sheet.{ring_from, stand_in}

pub ring_none : (sheet : List ℕ) (own k t : ℕ) → k ≡ 0 → ring_from sheet own k t ≡ []
unfolding ring_from
ring_none sheet own k t none = rw none refl

module _ (sheet : List ℕ) (own k t : ℕ) (some : k ≡ 0 → ⊥) where
  one_more : k ≡ suc (k - 1)
  one_more = omega arith

  -- the own trader comes next
  pub ring_last : stand_in sheet t ≡ own → ring_from sheet own k t ≡ t ∷ ring_from sheet own 0 (stand_in sheet t)
  unfolding ring_from
  ring_last e = rw (one_more, eq-eqb (stand_in sheet t) own e) refl

  -- another trader comes next
  pub ring_more : (stand_in sheet t ≡ own → ⊥) → ring_from sheet own k t ≡ t ∷ ring_from sheet own (k - 1) (stand_in sheet t)
  unfolding ring_from
  ring_more other = ap (λ m. ring_from sheet own m t) one_more ∙ rw (ne_eqb (stand_in sheet t) own other) refl

-- no ring has more traders than there may be
pub ring_most : (sheet : List ℕ) (own k t : ℕ) → length (ring_from sheet own k t) ≤ k
unfolding ring_from
ring_most sheet own zero t = omega arith
ring_most sheet own (suc k) t =
    let ih = ring_most sheet own k (stand_in sheet t) in
    elim (cases_Bool (eqb (stand_in sheet t) own)) [
      | inl e ↦ rw e (omega arith)
      | inr e ↦ rw e (omega arith)
    ]
