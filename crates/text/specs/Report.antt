-- The text of an exchange's results, as bytes: a first line, and a line for each trader. Each ends with a newline, the byte 10.
use Rattle.std.specs.Prelude.{◌≡◌, ℕ, zero, suc, ◌-◌, ◌<◌, ◌≤◌, Bool, cond, not, List, [], ◌∷◌, ◌++◌, length, count_by, get_or, take, codes, decimal, ◌==◌, slice_index, slice_index_or}
use Rattle.std.specs.List.{enumerate_from}
use Rattle.theory.specs.Trade.{Lists, result}

-- the stand that trader i has got; a number past the last trader's gets nothing and stays what it is
abbrev pub stand_got : List ℕ → ℕ → ℕ
stand_got results i = slice_index_or results i i

-- trader i keeps the own stand
abbrev pub keeps : List ℕ → ℕ → Bool
keeps results i = stand_got results i == i

-- how many traders do not have the own stand; `i` is the number of the first whose stand is given
abbrev pub moved_from : ℕ → List ℕ → ℕ
moved_from i stands = count_by (λ (trader, stand). not (stand == trader)) (enumerate_from i stands)

-- How many traders move.
abbrev pub moved : List ℕ → ℕ
moved results = moved_from 0 results

-- The traders from `at` on, after each the holder of the stand that it got, until the next would be `home`; at most k.
unfoldable pub ring_on : List ℕ → ℕ → ℕ → ℕ → List ℕ
ring_on results home zero at = []
ring_on results home (suc k) at =
    at ∷ cond (stand_got results at == home) [] (ring_on results home k (stand_got results at))

-- The ring of trader i, written from i on; at most as many as there are traders.
abbrev pub ring_from : List ℕ → ℕ → List ℕ
ring_from results i = ring_on results i (length results) i

-- numbers, with a space before each
unfoldable pub spaced : List ℕ → List ℕ
spaced [] = []
spaced (x ∷ xs) = codes " " ++ (decimal x ++ spaced xs)

-- what is said of the traders of a ring that are not written, by how many they are
abbrev pub more : ℕ → List ℕ
more rest = cond (rest == 0) [] (codes " and " ++ (decimal rest ++ codes " more"))

-- a ring: 20 traders of it, and how many more there are
unfoldable pub ring_text : List ℕ → List ℕ
ring_text ring = spaced (take 20 ring) ++ more (length ring - 20)

-- the end of every line
abbrev pub newline : List ℕ
newline = 10 ∷ []

-- The line of trader i.
unfoldable pub line_of : List ℕ → ℕ → List ℕ
line_of results i =
    codes "trader " ++
    (decimal i ++
    (cond (keeps results i) (codes " keeps")
    (codes " gets " ++ (decimal (stand_got results i) ++ (codes " ring" ++ ring_text (ring_from results i)))) ++
    newline))

-- The first line: in how many rounds the exchange ended, and how many traders moved.
unfoldable pub head_of : ℕ → List ℕ → List ℕ
head_of rounds results = codes "rounds " ++ (decimal rounds ++ (codes " moved " ++ (decimal (moved results) ++ newline)))

-- The lines of the first k traders.
unfoldable pub lines_of : List ℕ → ℕ → List ℕ
lines_of results zero = []
lines_of results (suc k) = lines_of results k ++ line_of results k

-- The whole text: the first line, and a line for each trader.
abbrev pub report_of : ℕ → List ℕ → List ℕ
report_of rounds results = head_of rounds results ++ lines_of results (length results)

-- A ring of the exchange's results from trader i on: i is the first, each next is the holder of the stand that the one before
-- gets, the last gets stand i, and nobody is there twice.
pub record Ring (ls : Lists) (i : ℕ) (ring : List ℕ) : Type 0 where
  pub some : 0 < length ring
  pub few : length ring ≤ length ls
  pub first : get_or ring 0 0 ≡ i
  pub next : (k : ℕ) → suc k < length ring → slice_index ring (suc k) ≡ result ls (slice_index ring k)
  pub last : result ls (slice_index ring (length ring - 1)) ≡ i
  pub traders : (k : ℕ) → k < length ring → slice_index ring k < length ls
  pub apart : (j k : ℕ) → j < length ring → k < length ring → slice_index ring j ≡ slice_index ring k → j ≡ k

-- Of the exchange's results, what is written as a trader's ring is its ring.
unfoldable pub RingWritten : Type 0
RingWritten =
    (ls : Lists) (results : List ℕ) → length results ≡ length ls →
    ((j : ℕ) → j < length ls → slice_index results j ≡ result ls j) →
    (i : ℕ) → i < length ls → Ring ls i (ring_from results i)
