-- What papers are good for: every paper that the office writes passes, and traders whose papers pass and agree with each
-- other need not believe the office.
use Rattle.std.specs.Prelude.{◌≡◌, ℕ, suc, ◌+◌, ◌*◌, ◌<◌, cond, List, [], ◌∷◌, length, take, drop, None, ◌==◌, slice_index, slice_index_or}
use Rattle.theory.specs.Certificate.{ValidSheet}
use Rattle.lists.specs.Format.{Encodable, encode_stands, fault, lists_of, number_at, start}
use Rattle.theory.specs.Trade.{Lists, result}
use Rattle.sheet.specs.Sheet.{sheet_fault, sheet_of}
use Rattle.papers.specs.Faults.{paper_check_fault}
use Rattle.papers.specs.Paper.{count_on, gone_on, holder_on, own_on, paper_of, ring_length, ring_on, round_on, stand_on}

-- the bytes of trader i's list, as they stand in the lists of the year: its count and its stands
abbrev pub own_list : Lists → ℕ → List ℕ
own_list ls i = length (slice_index_or ls i []) ∷ encode_stands (slice_index_or ls i [])

-- In the accepted bytes of a year they stand where trader i's list begins.
unfoldable pub OwnListsStandThere : Type 0
OwnListsStandThere =
    (bs : List ℕ) (i : ℕ) → ((k : ℕ) → k < length bs → slice_index bs k < 256) → fault bs ≡ None → i < number_at bs 0 →
    take (1 + 2 * slice_index bs (start bs i)) (drop (start bs i) bs) ≡ own_list (lists_of bs) i

-- Every paper that is written from an accepted sheet passes with that trader's list.
unfoldable pub PapersPass : Type 0
PapersPass =
    (ls : Lists) (sheet : List ℕ) (i : ℕ) → Encodable ls → sheet_fault ls sheet ≡ None → i < length ls →
    paper_check_fault (own_list ls i) (paper_of ls sheet i) ≡ None

-- So every paper of the exchange passes.
unfoldable pub PapersOfTheExchangePass : Type 0
PapersOfTheExchangePass =
    (ls : Lists) (i : ℕ) → Encodable ls → i < length ls → paper_check_fault (own_list ls i) (paper_of ls (sheet_of ls) i) ≡ None

-- who comes after the trader at place k of a paper's ring: the next place, and the first after the last
abbrev pub next_on : List ℕ → ℕ → ℕ
next_on paper k = cond (suc k == ring_length paper) (ring_on paper 0) (ring_on paper (suc k))

-- Papers, one for each trader, that pass and agree with each other.
pub record Agreeing (ls : Lists) (papers : ℕ → List ℕ) : Type 0 where
  -- each trader has a paper with the own number, and it passes with the own list
  pub own : (i : ℕ) → i < length ls → own_on (papers i) ≡ i
  pub passes : (i : ℕ) → i < length ls → paper_check_fault (own_list ls i) (papers i) ≡ None
  -- the round that a paper gives for the holder of a dearer stand is the round on that holder's own paper
  pub gone : (i j : ℕ) → i < length ls → j < count_on (papers i) → gone_on (papers i) j ≡ round_on (papers (holder_on (papers i) j))
  -- everybody on a paper's ring has that paper's round, by the own paper
  pub rounds : (i k : ℕ) → i < length ls → k < ring_length (papers i) → round_on (papers (ring_on (papers i) k)) ≡ round_on (papers i)
  -- and gets the stand of the one who comes next on it
  pub stands : (i k : ℕ) → i < length ls → k < ring_length (papers i) → stand_on (papers (ring_on (papers i) k)) ≡ next_on (papers i) k

-- Papers that pass and agree make a valid sheet, whoever wrote them.
unfoldable pub AgreeingPapersMakeASheet : Type 0
AgreeingPapersMakeASheet =
    (ls : Lists) (papers : ℕ → List ℕ) → Encodable ls → Agreeing ls papers →
    ValidSheet ls (λ i. stand_on (papers i)) (λ i. round_on (papers i))

-- So everybody has got what the exchange gives.
unfoldable pub AgreeingPapersAreRight : Type 0
AgreeingPapersAreRight =
    (ls : Lists) (papers : ℕ → List ℕ) → Encodable ls → Agreeing ls papers →
    (i : ℕ) → i < length ls → stand_on (papers i) ≡ result ls i
