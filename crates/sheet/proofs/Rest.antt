-- What is left of a list, from its i-th item on: that item, and the others.
use Rattle.std.proofs.Common.{◌≡◌, ℕ, ◌+◌, List, ◌∷◌, get_or, drop, sym, ap, ◌∙◌, arith}
use Rattle.std.proofs.lemmas.List.{drop-drop, get_or-drop}

module _ {X : Type 0} (all rest others : List X) (i : ℕ) (item : X) (left : rest ≡ drop i all) (more : rest ≡ item ∷ others) where
  pub rest_next : others ≡ drop (i + 1) all
  rest_next = ap (drop 1) (sym more ∙ left) ∙ drop-drop 1 i all

  pub rest_here : (d : X) → get_or all i d ≡ item
  rest_here d =
      let at : i + 0 ≡ i = omega arith in
      rw at at (sym (get_or-drop i all 0 d)) ∙ ap (λ xs. get_or xs 0 d) (sym left ∙ more)
