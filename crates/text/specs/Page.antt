-- The readable page of a paper, as bytes, and how wide its lines are.
use Rattle.std.specs.Prelude.{◌≡◌, ℕ, zero, suc, ◌+◌, ◌-◌, ◌<◌, ◌≤◌, Bool, cond, List, [], ◌++◌, length, None, codes, decimal, ◌==◌, ◌≢◌, nat_lt, slice_index}
use Rattle.papers.specs.Faults.{paper_check_fault}
use Rattle.papers.specs.Paper.{count_on, gone_on, holder_on, own_on, ring_length, ring_on, round_on, stand_on}

-- how many columns a number takes
abbrev pub width : ℕ → ℕ
width x = length (decimal x)

-- what is got, or that the own stand is kept
abbrev pub got_text : ℕ → ℕ → List ℕ
got_text own stand = cond (stand == own) (codes "You keep your stand") (codes "You get stand " ++ decimal stand)

-- the lines before the ring
abbrev pub head_text : ℕ → ℕ → ℕ → List ℕ
head_text own round stand =
    codes "Trader " ++ (decimal own ++ (codes "\n" ++ (got_text own stand ++ (codes ", in round " ++ (decimal round ++ codes ".\nRing: ")))))

-- the next trader still fits on a line on which `col` columns are taken
abbrev pub fits : ℕ → ℕ → Bool
fits col x = nat_lt (col + 4 + width x) 73

-- one step along the ring, on the same line or on a new one, and the columns taken then
abbrev pub step_text : ℕ → ℕ → List ℕ
step_text col x = cond (fits col x) (codes " -> " ++ decimal x) (codes "\n-> " ++ decimal x)

abbrev pub step_column : ℕ → ℕ → ℕ
step_column col x = cond (fits col x) (col + 4 + width x) (3 + width x)

-- the steps from place k of the ring on, of which there are `left`, and then the step back to the own trader
unfoldable pub steps_text : List ℕ → ℕ → ℕ → ℕ → List ℕ
steps_text paper col zero k = step_text col (own_on paper) ++ codes "\n"
steps_text paper col (suc left) k = step_text col (ring_on paper k) ++ steps_text paper (step_column col (ring_on paper k)) left (suc k)

-- the ring: the own trader, the others, and the own trader again
unfoldable pub ring_text : List ℕ → List ℕ
ring_text paper = decimal (own_on paper) ++ steps_text paper (6 + width (own_on paper)) (ring_length paper - 1) 1

-- why a dearer stand was not to be had
abbrev pub gone_text : ℕ → ℕ → List ℕ
gone_text holder round =
    codes "Stand " ++ (decimal holder ++ (codes ", held by trader " ++ (decimal holder ++ (codes ", was gone: they went out in round " ++ (decimal round ++ codes ".\n")))))

-- the lines of the first j dearer stands
unfoldable pub gone_lines : List ℕ → ℕ → List ℕ
gone_lines paper zero = []
gone_lines paper (suc j) = gone_lines paper j ++ gone_text (holder_on paper j) (gone_on paper j)

-- The page of a paper.
unfoldable pub page_of : List ℕ → List ℕ
page_of paper = head_text (own_on paper) (round_on paper) (stand_on paper) ++ (ring_text paper ++ gone_lines paper (count_on paper))

-- ---- the width of its lines

-- each is a byte
abbrev pub Bytes : List ℕ → Type 0
Bytes bs = (k : ℕ) → k < length bs → slice_index bs k < 256

-- it has no newline, the byte 10
abbrev pub NoNewline : List ℕ → Type 0
NoNewline part = (k : ℕ) → k < length part → slice_index part k ≢ 10

-- No line of a text has more than `most` columns: no part of it without a newline is longer.
abbrev pub Narrow : ℕ → List ℕ → Type 0
Narrow most text = (before part after : List ℕ) → text ≡ before ++ (part ++ after) → NoNewline part → length part ≤ most

-- No line of the page of a paper that passes has more than 72 columns, whatever list it passes with.
unfoldable pub PagesAreNarrow : Type 0
PagesAreNarrow = (list paper : List ℕ) → Bytes paper → paper_check_fault list paper ≡ None → Narrow 72 (page_of paper)

-- The page of any bytes has no line of more than 74: a holder's number, which a line names twice, may then have five digits.
unfoldable pub PagesOfAnyBytes : Type 0
PagesOfAnyBytes = (paper : List ℕ) → Bytes paper → Narrow 74 (page_of paper)
