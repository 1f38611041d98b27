-- The text of a page, over what its paper's iterators give.
use Rattle.std.proofs.Common.{◌≡◌, ℕ, zero, suc, ◌+◌, ◌-◌, List, [], ◌∷◌, ◌++◌, map, drop, Some, None, Option, MatchOption, sym, refl, ap, ◌∙◌, append_assoc, append-nil, codes, decimal, arith}
use Rattle.std.specs.List.{range_with_len}
use Rattle.std.proofs.lemmas.List.FromFn.{map-range_with_len_more}
use Rattle.text.specs.Page.{gone_lines, gone_text, ring_text, step_column, step_text, steps_text, width}
use Rattle.papers.specs.Paper.{all_gone_on, count_on, from_place, holder_and_round, own_on, ring_length, ring_on, traders_on}
use Rattle.papers.proofs.Parts.{places_more}

-- a line for each dearer stand
unfoldable pub lines : List (ℕ × ℕ) → List ℕ
lines [] = []
lines (p ∷ ps) = gone_text p.0 p.1 ++ lines ps

lines_both : (ps qs : List (ℕ × ℕ)) → lines (ps ++ qs) ≡ lines ps ++ lines qs
unfolding lines
lines_both [] qs = refl
lines_both (p ∷ ps) qs = rw (lines_both ps qs) (sym (append_assoc (gone_text p.0 p.1) (lines ps) (lines qs)))

lines_of : (paper : List ℕ) (k : ℕ) → lines (map (holder_and_round paper) (range_with_len 0 k)) ≡ gone_lines paper k
unfolding lines gone_lines
lines_of paper zero = refl
lines_of paper (suc k) =
    let f = holder_and_round paper in
    let one : suc k ≡ k + 1 = omega arith in
    let more = ap (λ m. map (holder_and_round paper) (range_with_len 0 m)) one ∙ map-range_with_len_more (holder_and_round paper) 0 k k (omega arith) in
    ap lines more ∙ lines_both (map (holder_and_round paper) (range_with_len 0 k)) (holder_and_round paper k ∷ []) ∙ rw (lines_of paper k, append-nil) refl

pub lines_are : (paper : List ℕ) → lines (all_gone_on paper) ≡ gone_lines paper (count_on paper)
lines_are paper =
    let all : count_on paper - 0 ≡ count_on paper = omega arith in
    rw all (lines_of paper (count_on paper))

-- the steps to these traders, and then the step back to the own one
unfoldable pub steps : ℕ → ℕ → List ℕ → List ℕ
steps own col [] = step_text col own ++ codes "\n"
steps own col (x ∷ xs) = step_text col x ++ steps own (step_column col x) xs

steps_of : (paper : List ℕ) (left col k : ℕ) → steps (own_on paper) col (map (ring_on paper) (range_with_len k left)) ≡ steps_text paper col left k
unfolding steps steps_text
steps_of paper zero col k = refl
steps_of paper (suc left) col k =
    let next = step_column col (ring_on paper k) in
    let on : k + 1 ≡ suc k = omega arith in
    ap (λ xs. step_text col (ring_on paper k) ++ xs) (steps_of paper left next (k + 1) ∙ ap (steps_text paper next left) on)

-- the traders of the ring but the first
others : (at : ℕ → ℕ) (end : ℕ) → drop 1 (from_place at 0 end) ≡ from_place at 1 end
others at zero = refl
others at (suc m) = ap (drop 1) (places_more at 0 (suc m) (omega arith))

steps_are : (paper xs : List ℕ) (col : ℕ) → xs ≡ drop 1 (traders_on paper) → steps (own_on paper) col xs ≡ steps_text paper col (ring_length paper - 1) 1
steps_are paper xs col is = rw (is, others (ring_on paper) (ring_length paper)) (steps_of paper (ring_length paper - 1) col 1)

-- what is left of a list after its first item was asked for
pub rest_left : {A : Type 0} (r : Option A) (xs ys : List A) → MatchOption r ((xs ≡ []) × (ys ≡ [])) (λ x. xs ≡ x ∷ ys) → ys ≡ drop 1 xs
rest_left (Some x) xs ys m = rw m refl
rest_left None xs ys m = rw (m.0, m.1) refl

pub steps_more : (own col x col' : ℕ) (all xs text new whole : List ℕ) → all ≡ x ∷ xs → new ≡ text ++ step_text col x → col' ≡ step_column col x →
    text ++ steps own col all ≡ whole → new ++ steps own col' xs ≡ whole
unfolding steps
steps_more own col x col' all xs text new whole is wrote column so_far =
    rw (wrote, column) (append_assoc text (step_text col x) (steps own (step_column col x) xs) ∙ rw is at so_far)

pub steps_done : (own col : ℕ) (all text new whole : List ℕ) → all ≡ [] → new ≡ text ++ step_text col own → text ++ steps own col all ≡ whole →
    new ++ codes "\n" ≡ whole
unfolding steps
steps_done own col all text new whole is wrote so_far = rw wrote (append_assoc text (step_text col own) (codes "\n") ∙ rw is at so_far)

pub lines_more : (holder round : ℕ) (all ps : List (ℕ × ℕ)) (text new whole : List ℕ) → all ≡ (holder, round) ∷ ps → new ≡ text ++ gone_text holder round →
    text ++ lines all ≡ whole → new ++ lines ps ≡ whole
unfolding lines
lines_more holder round all ps text new whole is wrote so_far = rw wrote (append_assoc text (gone_text holder round) (lines ps) ∙ rw is at so_far)

pub no_lines : (text whole : List ℕ) → text ++ lines [] ≡ whole → text ≡ whole
unfolding lines
no_lines text whole so_far = rw append-nil at so_far

pub ring_done : (paper text text' others new : List ℕ) (own col : ℕ) → own ≡ own_on paper → text' ≡ text ++ decimal own → col ≡ 6 + width own →
    others ≡ drop 1 (traders_on paper) → new ≡ text' ++ steps own col others → new ≡ text ++ ring_text paper
unfolding ring_text
ring_done paper text text' others new own col whose began column left wrote =
    let all = steps_are paper others col left in
    let all' : steps own col others ≡ steps_text paper (6 + width (own_on paper)) (ring_length paper - 1) 1 = ap (λ x. steps x col others) whose ∙ all ∙ rw (column, whose) refl in
    wrote ∙ rw (began, all', whose) (append_assoc text (decimal (own_on paper)) (steps_text paper (6 + width (own_on paper)) (ring_length paper - 1) 1))
