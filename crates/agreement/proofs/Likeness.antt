-- Where two byte strings first differ.
use Rattle.std.proofs.Common.{◌≡◌, ℕ, suc, ◌+◌, min, not, eqb, List, [], ◌∷◌, length, Some, None, Option, sym, refl, ap, ◌∙◌, inl, inr, add-one, arith}
use Rattle.std.proofs.lemmas.Option.{none-some}
use Rattle.std.proofs.lemmas.Bool.{cases_Bool, eqb-true}
use Rattle.std.proofs.lemmas.Iterator.Adapters.{position_from-zero}
use Rattle.std.specs.List.{position, position_from, zip}
use Rattle.std.specs.Option.{option_or}
use Rattle.agreement.specs.Agreement.{difference}

-- the first byte that differs, of those that both have
abbrev pub apart_from : List ℕ → List ℕ → ℕ → Option ℕ
apart_from xs ys p = position_from (λ q. not (eqb q.0 q.1)) p (zip xs ys)

-- one of them ends, or both
one_ends : (xs ys : List ℕ) (p : ℕ) → (length xs ≡ length ys → ⊥) → difference xs ys p ≡ option_or (apart_from xs ys p) (Some (p + min (length xs) (length ys)))
unfolding difference
one_ends [] [] p other = absurd (other refl)
one_ends [] (y ∷ ys) p other = grind arith
one_ends (x ∷ xs) [] p other = grind arith
one_ends (x ∷ xs) (y ∷ ys) p other =
    let ih = one_ends xs ys (suc p) (λ e. other (ap suc e)) in
    elim (cases_Bool (eqb x y)) [
      | inl e ↦ rw (e, ih, add-one) (ap (λ k. option_or (apart_from xs ys (suc p)) (Some k)) (omega arith))
      | inr e ↦ rw e
    ]

both_end : (xs ys : List ℕ) (p : ℕ) → length xs ≡ length ys → difference xs ys p ≡ apart_from xs ys p
unfolding difference
both_end [] [] p same = refl
both_end [] (y ∷ ys) p same = absurd (omega arith)
both_end (x ∷ xs) [] p same = absurd (omega arith)
both_end (x ∷ xs) (y ∷ ys) p same =
    let ih = both_end xs ys (suc p) (omega arith) in
    elim (cases_Bool (eqb x y)) [ inl e ↦ rw (e, ih, add-one) | inr e ↦ rw e ]

module _ (xs ys : List ℕ) where
  abbrev apart : Option ℕ
  apart = position (λ q. not (eqb q.0 q.1)) (zip xs ys)

  pub ends_apart : (length xs ≡ length ys → ⊥) → difference xs ys 0 ≡ option_or apart (Some (min (length xs) (length ys)))
  ends_apart other =
      let none : 0 + min (length xs) (length ys) ≡ min (length xs) (length ys) = omega arith in
      one_ends xs ys 0 other ∙ rw (none, position_from-zero (λ q. not (eqb q.0 q.1)) (zip xs ys))

  pub ends_together : length xs ≡ length ys → difference xs ys 0 ≡ apart
  ends_together same = both_end xs ys 0 same ∙ sym (position_from-zero (λ q. not (eqb q.0 q.1)) (zip xs ys))

-- where they do not differ, they are the same
pub alike : (xs ys : List ℕ) (p : ℕ) → difference xs ys p ≡ None → xs ≡ ys
unfolding difference
alike [] [] p e = refl
alike [] (y ∷ ys) p e = grind arith
alike (x ∷ xs) [] p e = grind arith
alike (x ∷ xs) (y ∷ ys) p e =
    elim (cases_Bool (eqb x y)) [
      | inl same ↦ (let head = eqb-true x y same in let tail = alike xs ys (suc p) (rw same at e) in cc)
      | inr other ↦ absurd (none-some p (sym (rw other at e)))
    ]
