-- A paper shows one trader what it got, the ring by which it got it, and that nobody passed it over. All numbers have two
-- bytes, low byte first, but for the count of the dearer stands, which has one.
use Rattle.std.specs.Prelude.{ℕ, ◌+◌, ◌-◌, ◌*◌, cond, List, [], ◌∷◌, ◌++◌, length, take, drop, map, Some, None, Ok, Err, Option, Result, ◌==◌, nat_lt, slice_index, slice_index_or}
use Rattle.std.specs.List.{before_first, range_with_len}
use Rattle.std.specs.Option.{option_or}
use Rattle.refusals.specs.declared.Lent.TheVariants.{Results}
use Rattle.refusals.specs.declared.Refusal.{Refusal}
use Rattle.refusals.specs.declared.Refusal.TheVariants.{PaperFault, TooShort}
use Rattle.lists.specs.Format.{bytes_of, encode_stands, lists_of, number_at}
use Rattle.theory.specs.Trade.{Lists}
use Rattle.sheet.specs.Sheet.{check_fault, ring_of, round_in, stand_in}

-- ---- what stands on a paper, by the bytes

-- whose paper it is, the round in which that trader went out, and the stand that it got
abbrev pub own_on : List ℕ → ℕ
own_on paper = number_at paper 0

abbrev pub round_on : List ℕ → ℕ
round_on paper = number_at paper 2

abbrev pub stand_on : List ℕ → ℕ
stand_on paper = number_at paper 4

-- the ring: how many traders are on it, and the one at place k, the own trader at place 0
abbrev pub ring_length : List ℕ → ℕ
ring_length paper = number_at paper 6

abbrev pub ring_on : List ℕ → ℕ → ℕ
ring_on paper k = number_at paper (8 + 2 * k)

-- where the count of the dearer stands is, and the count
abbrev pub count_place : List ℕ → ℕ
count_place paper = 8 + 2 * ring_length paper

abbrev pub count_on : List ℕ → ℕ
count_on paper = slice_index paper (count_place paper)

-- who holds the dearer stand at place j of the list, and the round in which that holder went out
abbrev pub holder_on : List ℕ → ℕ → ℕ
holder_on paper j = number_at paper (count_place paper + 1 + 4 * j)

abbrev pub gone_on : List ℕ → ℕ → ℕ
gone_on paper j = number_at paper (count_place paper + 3 + 4 * j)

-- what stands at the places from k up to `end`
abbrev pub from_place : {A : Type 0} → (ℕ → A) → ℕ → ℕ → List A
from_place at k end = map at (range_with_len k (end - k))

-- the traders of the ring, and the dearer stands, each with its holder and the holder's round
abbrev pub traders_on : List ℕ → List ℕ
traders_on paper = from_place (ring_on paper) 0 (ring_length paper)

abbrev pub holder_and_round : List ℕ → ℕ → ℕ × ℕ
holder_and_round paper j = (holder_on paper j, gone_on paper j)

abbrev pub all_gone_on : List ℕ → List (ℕ × ℕ)
all_gone_on paper = from_place (holder_and_round paper) 0 (count_on paper)

-- ---- the paper of a trader, by the lists and a sheet

-- the stands of a list that are dearer than stand t: those before it
unfoldable pub dearer_than : ℕ → List ℕ → List ℕ
dearer_than t l = before_first (λ u. u == t) l

-- for each of some stands its holder and the round in which that holder went out
unfoldable pub gone_bytes : List ℕ → List ℕ → List ℕ
gone_bytes sheet [] = []
gone_bytes sheet (t ∷ ts) = bytes_of t ++ (bytes_of (round_in sheet t) ++ gone_bytes sheet ts)

-- the four numbers before the ring's traders
abbrev pub head_bytes : List ℕ → ℕ → ℕ → List ℕ
head_bytes sheet n i = bytes_of i ++ (bytes_of (round_in sheet i) ++ (bytes_of (stand_in sheet i) ++ bytes_of (length (ring_of sheet n i))))

-- the dearer stands of a paper: how many there are, and each
abbrev pub dearer_bytes : List ℕ → List ℕ → List ℕ
dearer_bytes sheet ts = length ts ∷ gone_bytes sheet ts

-- the paper of trader i among n traders, whose list names the stands l
unfoldable pub paper_for : List ℕ → ℕ → ℕ → List ℕ → List ℕ
paper_for sheet n i l = head_bytes sheet n i ++ (encode_stands (ring_of sheet n i) ++ dearer_bytes sheet (dearer_than (stand_in sheet i) l))

-- The paper of trader i.
abbrev pub paper_of : Lists → List ℕ → ℕ → List ℕ
paper_of ls sheet i = paper_for sheet (length ls) i (slice_index_or ls i [])

-- ---- writing

-- what a slice holds after xs is written into it from byte `at` on
abbrev pub written : ℕ → List ℕ → List ℕ → List ℕ
written at xs before = take at before ++ (xs ++ drop (at + length xs) before)

-- ---- why no paper is written

-- a trader who does not exist has no paper
abbrev pub trader_fault : ℕ → ℕ → Option Refusal
trader_fault n i = cond (nat_lt i n) None (Some (PaperFault 0))

-- the slice that is written has room for the paper
abbrev pub room_fault : ℕ → List ℕ → Option Refusal
room_fault room paper = cond (nat_lt room (length paper)) (Some (TooShort Results)) None

-- The first fault of what a paper is to be written from, for trader i and a slice of `room` bytes.
abbrev pub paper_fault : List ℕ → List ℕ → ℕ → ℕ → Option Refusal
paper_fault bs sheet i room =
    option_or (check_fault bs sheet) (option_or (trader_fault (number_at bs 0) i) (room_fault room (paper_of (lists_of bs) sheet i)))

-- what the slice that is written holds then: the paper and after it what was there; after a refusal all that was there
abbrev pub left_by : Result ℕ Refusal → List ℕ → List ℕ → List ℕ
left_by (Ok n) paper before = paper ++ drop n before
left_by (Err f) paper before = before
