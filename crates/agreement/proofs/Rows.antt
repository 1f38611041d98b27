-- The papers of a sheet, one after another: each is found again in its place, and they make that sheet.
use Rattle.std.proofs.Common.{◌≡◌, ℕ, zero, suc, ◌+◌, ◌-◌, ◌*◌, ◌<◌, ◌≤◌, List, [], ◌∷◌, ◌++◌, length, get_or, take, drop, sym, refl, ap, ◌∙◌, arith}
use Rattle.std.proofs.lemmas.List.{append_assoc, append-nil, drop_all, drop_at, drop-drop, get_or_append_left, length-drop, take_at}
use Rattle.lists.specs.Format.{bytes_of, number_at}
use Rattle.lists.proofs.Encoding.{bytes_of_number}
use Rattle.lists.proofs.Positions.{two_bytes}
use Rattle.theory.specs.Trade.{Lists}
use Rattle.sheet.specs.Sheet.{round_in, stand_in}
use Rattle.papers.specs.Paper.{count_on, count_place, paper_for, paper_of, round_on, stand_on}
use Rattle.papers.proofs.Fields.{count_written, ring_length_written, round_written, stand_written}
use Rattle.papers.proofs.Writes.{length_paper}
use Rattle.papers.specs.Papers.{nth_paper, paper_at, paper_start}
use Rattle.agreement.specs.Agreement.{all_papers, entry_on, papers_from, sheet_on}

-- a paper that is as long as its own numbers say, and what follows it
module _ (paper rest : List ℕ) (size : length paper ≡ count_place paper + 1 + 4 * count_on paper) where
  same_place : count_place (paper ++ rest) ≡ count_place paper
  same_place =
      let low : 6 < length paper = omega arith in
      let high : 7 < length paper = omega arith in
      rw (get_or_append_left paper rest 0 6 low, get_or_append_left paper rest 0 7 high)

  same_count : count_on (paper ++ rest) ≡ count_on paper
  same_count =
      let within : count_place paper < length paper = omega arith in
      ap (λ p. get_or (paper ++ rest) p 0) same_place ∙ get_or_append_left paper rest 0 (count_place paper) within

  first_paper : take (count_place (paper ++ rest) + 1 + 4 * count_on (paper ++ rest)) (paper ++ rest) ≡ paper
  first_paper =
      let place = same_place in
      let count = same_count in
      take_at paper rest (count_place (paper ++ rest) + 1 + 4 * count_on (paper ++ rest)) (omega arith)

  module _ (ps : List ℕ) (q : ℕ) (here : drop q ps ≡ paper ++ rest) where
    paper_here : paper_at ps q ≡ paper
    paper_here = ap (λ xs. take (count_place xs + 1 + 4 * count_on xs) xs) here ∙ first_paper

    rest_here : drop (q + length (paper_at ps q)) ps ≡ rest
    rest_here =
        ap (λ xs. drop (q + length xs) ps) paper_here
        ∙ (sym (drop-drop (length paper) q ps) ∙ (ap (drop (length paper)) here ∙ drop_at paper rest (length paper) refl))

paper_size : (sheet : List ℕ) (n i : ℕ) (l : List ℕ) →
    length (paper_for sheet n i l) ≡ count_place (paper_for sheet n i l) + 1 + 4 * count_on (paper_for sheet n i l)
paper_size sheet n i l =
    let long = length_paper sheet n i l in
    let ring = ring_length_written sheet n i l in
    let dearer = count_written sheet n i l in
    omega arith

module _ (ls : Lists) (sheet : List ℕ) where
  -- from the place of trader i on stand the papers of the traders from i on
  papers_there : (ps : List ℕ) (n : ℕ) → ps ≡ papers_from ls sheet 0 n → (i k : ℕ) → i + k ≡ n → drop (paper_start ps i) ps ≡ papers_from ls sheet i k
  unfolding papers_from
  papers_there ps n is zero k all = let same : k ≡ n = omega arith in is ∙ ap (papers_from ls sheet 0) (sym same)
  papers_there ps n is (suc i) k all =
      rest_here (paper_of ls sheet i) (papers_from ls sheet (suc i) k) (paper_size sheet (length ls) i (get_or ls i [])) ps (paper_start ps i)
      (papers_there ps n is i (suc k) (omega arith))

  nth_there : (ps : List ℕ) (n : ℕ) → ps ≡ papers_from ls sheet 0 n → (i k : ℕ) → i + suc k ≡ n → nth_paper ps i ≡ paper_of ls sheet i
  unfolding papers_from
  nth_there ps n is i k all =
      paper_here (paper_of ls sheet i) (papers_from ls sheet (suc i) k) (paper_size sheet (length ls) i (get_or ls i [])) ps (paper_start ps i)
      (papers_there ps n is i (suc k) all)

  -- the paper in trader i's place is that trader's
  pub nth_is : (i : ℕ) → i < length ls → nth_paper (all_papers ls sheet) i ≡ paper_of ls sheet i
  nth_is i h = nth_there (all_papers ls sheet) (length ls) refl i (length ls - suc i) (omega arith)

  -- and nothing follows the last
  pub last_ends : length (all_papers ls sheet) ≤ paper_start (all_papers ls sheet) (length ls)
  unfolding papers_from
  last_ends =
      let ps = all_papers ls sheet in
      let none : drop (paper_start ps (length ls)) ps ≡ [] = papers_there ps (length ls) refl (length ls) 0 (omega arith) in
      let left = length-drop (paper_start ps (length ls)) ps in
      let zero_left : length (drop (paper_start ps (length ls)) ps) ≡ 0 = ap length none in
      omega arith

-- ---- the sheet that they make

-- the two numbers whose first byte is byte p, written before what follows them
four_bytes : (sheet : List ℕ) (p : ℕ) → p + 4 ≤ length sheet → ((k : ℕ) → k < length sheet → get_or sheet k 0 < 256) →
    (bytes_of (number_at sheet p) ++ bytes_of (number_at sheet (p + 2))) ++ drop (p + 4) sheet ≡ drop p sheet
four_bytes sheet p room bytes =
    let stand = bytes_of_number (get_or sheet p 0) (get_or sheet (p + 1) 0) (bytes p (omega arith)) in
    let round = bytes_of_number (get_or sheet (p + 2) 0) (get_or sheet (p + 2 + 1) 0) (bytes (p + 2) (omega arith)) in
    let on : p + 4 ≡ p + 2 + 2 = omega arith in
    let one = two_bytes sheet p (omega arith) in
    let two = two_bytes sheet (p + 2) (omega arith) in
    ap (λ xs. (xs ++ bytes_of (number_at sheet (p + 2))) ++ drop (p + 4) sheet) stand
    ∙ (ap (λ ys. ((get_or sheet p 0 ∷ get_or sheet (p + 1) 0 ∷ []) ++ ys) ++ drop (p + 4) sheet) round
    ∙ (ap (λ q. get_or sheet p 0 ∷ get_or sheet (p + 1) 0 ∷ get_or sheet (p + 2) 0 ∷ get_or sheet (p + 2 + 1) 0 ∷ drop q sheet) on
    ∙ sym (one ∙ ap (λ zs. get_or sheet p 0 ∷ get_or sheet (p + 1) 0 ∷ zs) two)))

module _ (ps sheet : List ℕ) (n : ℕ) (long : length sheet ≡ 4 * n) (bytes : (k : ℕ) → k < length sheet → get_or sheet k 0 < 256)
    (stands : (i : ℕ) → i < n → stand_on (nth_paper ps i) ≡ stand_in sheet i) (rounds : (i : ℕ) → i < n → round_on (nth_paper ps i) ≡ round_in sheet i) where
  entry_is : (k : ℕ) → k < n → entry_on ps k ++ drop (4 * k + 4) sheet ≡ drop (4 * k) sheet
  entry_is k h =
      ap (λ s. (bytes_of s ++ bytes_of (round_on (nth_paper ps k))) ++ drop (4 * k + 4) sheet) (stands k h)
      ∙ (ap (λ r. (bytes_of (stand_in sheet k) ++ bytes_of r) ++ drop (4 * k + 4) sheet) (rounds k h) ∙ four_bytes sheet (4 * k) (omega arith) bytes)

  sheet_so_far : (k : ℕ) → k ≤ n → sheet_on ps k ++ drop (4 * k) sheet ≡ sheet
  unfolding sheet_on
  sheet_so_far zero h = refl
  sheet_so_far (suc k) h =
      let four : 4 * suc k ≡ 4 * k + 4 = omega arith in
      ap (λ p. (sheet_on ps k ++ entry_on ps k) ++ drop p sheet) four
      ∙ (append_assoc (sheet_on ps k) (entry_on ps k) (drop (4 * k + 4) sheet)
      ∙ (ap (λ xs. sheet_on ps k ++ xs) (entry_is k (omega arith)) ∙ sheet_so_far k (omega arith)))

  sheet_again : sheet_on ps n ≡ sheet
  sheet_again =
      let none : drop (4 * n) sheet ≡ [] = drop_all (4 * n) sheet (omega arith) in
      sym (append-nil (sheet_on ps n)) ∙ (ap (λ xs. sheet_on ps n ++ xs) (sym none) ∙ sheet_so_far n (omega arith))

-- the papers of a sheet make that sheet
pub sheet_made : (ls : Lists) (sheet : List ℕ) → length sheet ≡ 4 * length ls → ((k : ℕ) → k < length sheet → get_or sheet k 0 < 256) →
    sheet_on (all_papers ls sheet) (length ls) ≡ sheet
sheet_made ls sheet long bytes =
    sheet_again (all_papers ls sheet) sheet (length ls) long bytes
    (λ i h. ap stand_on (nth_is ls sheet i h) ∙ stand_written sheet (length ls) i (get_or ls i []))
    (λ i h. ap round_on (nth_is ls sheet i h) ∙ round_written sheet (length ls) i (get_or ls i []))
