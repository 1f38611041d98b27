-- The lists and the papers that are left, from trader i on: the first of them, and the others.
use Rattle.std.proofs.Common.{◌≡◌, ℕ, ◌+◌, List, [], ◌∷◌, length, get_or, drop, sym, ap, ◌∙◌, arith}
use Rattle.std.proofs.lemmas.List.{drop-drop, get_or-drop}
use Rattle.theory.specs.Trade.{Lists}
use Rattle.lists.specs.Format.{encode_list}
use Rattle.papers.specs.Papers.{nth_paper, paper_at}
use Rattle.papers.specs.Trust.{own_list}
use Rattle.papers.proofs.Splits.{from_paper, next_from}
use Rattle.agreement.specs.Agreement.{on_paper, own_fault, place_fault}

module _ (ls ts us : Lists) (i : ℕ) (l : List ℕ) (left : ts ≡ drop i ls) (more : ts ≡ l ∷ us) where
  list_here : own_list ls i ≡ encode_list l
  list_here =
      let at : i + 0 ≡ i = omega arith in
      ap encode_list (rw at at (sym (get_or-drop i ls 0 [])) ∙ ap (λ xs. get_or xs 0 []) (sym left ∙ more))

  pub lists_after : (k : ℕ) → k ≡ i + 1 → us ≡ drop k ls
  lists_after k next = rw next (ap (drop 1) (sym more ∙ left) ∙ drop-drop 1 i ls)

module _ (ps rest paper : List ℕ) (i : ℕ) (left : rest ≡ from_paper ps i) (first : paper ≡ paper_at rest 0) where
  pub paper_here : nth_paper ps i ≡ paper
  paper_here = sym (first ∙ ap (λ xs. paper_at xs 0) left)

  pub papers_after : (more : List ℕ) → more ≡ drop (length paper) rest → (k : ℕ) → k ≡ i + 1 → more ≡ from_paper ps k
  papers_after more after k next = after ∙ rw (next, left, ← paper_here) (next_from ps i)

-- what is checked of the first paper is that of the trader's
pub place_is : (ls ts us : Lists) (ps rest paper : List ℕ) (i trader : ℕ) (l : List ℕ) → trader ≡ i → ts ≡ drop i ls → ts ≡ l ∷ us →
    rest ≡ from_paper ps i → paper ≡ paper_at rest 0 → place_fault ls ps trader ≡ on_paper trader (own_fault (encode_list l) paper trader)
place_is ls ts us ps rest paper i trader l at lists more papers first =
    let list : own_list ls trader ≡ encode_list l = rw at (list_here ls ts us i l lists more) in
    let own : nth_paper ps trader ≡ paper = rw at (paper_here ps rest paper i papers first) in
    ap (λ xs. on_paper trader (own_fault xs (nth_paper ps trader) trader)) list ∙ ap (λ xs. on_paper trader (own_fault (encode_list l) xs trader)) own
