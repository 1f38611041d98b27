-- The papers of all traders, one after another in the order of their numbers: each passes with its trader's list, and all are
-- papers of one sheet, which is valid for the lists.
use Rattle.std.specs.Prelude.{◌≡◌, ℕ, zero, suc, ◌+◌, ◌/◌, ◌<◌, cond, List, [], ◌∷◌, ◌++◌, length, Some, None, Ok, Err, Option, Result, ◌==◌, nat_lt, slice_index}
use Rattle.std.specs.Option.{option_map, option_or}
use Rattle.refusals.specs.declared.Refusal.{Refusal}
use Rattle.refusals.specs.declared.Refusal.TheVariants.{PaperFault}
use Rattle.lists.specs.Format.{bytes_of, end_fault, fault, lists_of}
use Rattle.theory.specs.Trade.{Lists, result}
use Rattle.sheet.specs.Sheet as sheets
use Rattle.sheet.specs.Sheet.{Valid, check_fault, sheet_of}
use Rattle.papers.specs.Faults.{paper_check_fault}
use Rattle.papers.specs.Paper.{count_place, own_on, paper_of, round_on, stand_on}
use Rattle.papers.specs.Papers.{nth_paper, paper_start}
use Rattle.papers.specs.Trust.{own_list}
use Rattle.agreement.specs.declared.Fault.{Fault}
use Rattle.agreement.specs.declared.Fault.TheVariants.{Refused, Paper}

-- ---- faults

-- a fault of the lists, of all the papers' bytes or of the sheet that they make
abbrev pub refused : Option Refusal → Option Fault
refused = option_map (λ f. Refused f)

-- a fault of the paper of trader i
abbrev pub on_paper : ℕ → Option Refusal → Option Fault
on_paper i = option_map (λ f. Paper i f)

-- the first fault of k traders from trader i on, of whom `of` says each one's
unfoldable pub first_fault : (ℕ → Option Fault) → ℕ → ℕ → Option Fault
first_fault of i zero = None
first_fault of i (suc k) = option_or (of i) (first_fault of (suc i) k)

-- ---- each paper by itself

-- the paper passes with the list, and it is trader i's
abbrev pub own_fault : List ℕ → List ℕ → ℕ → Option Refusal
own_fault list paper i = option_or (paper_check_fault list paper) (cond (own_on paper == i) None (Some (PaperFault 0)))

-- the paper in trader i's place, with the bytes of that trader's list
abbrev pub place_fault : Lists → List ℕ → ℕ → Option Fault
place_fault ls ps i = on_paper i (own_fault (own_list ls i) (nth_paper ps i) i)

-- ---- the sheet that the papers make

-- the stand and the round on trader i's paper, as on a sheet
abbrev pub entry_on : List ℕ → ℕ → List ℕ
entry_on ps i = bytes_of (stand_on (nth_paper ps i)) ++ bytes_of (round_on (nth_paper ps i))

-- the sheet of the first k traders
unfoldable pub sheet_on : List ℕ → ℕ → List ℕ
sheet_on ps zero = []
sheet_on ps (suc k) = sheet_on ps k ++ entry_on ps k

-- ---- the papers beside those of that sheet

-- where two byte strings first differ, from byte p on: a byte, or the end of one of them
unfoldable pub difference : List ℕ → List ℕ → ℕ → Option ℕ
difference [] [] p = None
difference [] (y ∷ ys) p = Some p
difference (x ∷ xs) [] p = Some p
difference (x ∷ xs) (y ∷ ys) p = cond (x == y) (difference xs ys (suc p)) (Some p)

-- the field to which byte p of a paper belongs: each has two bytes but for the count of the dearer stands, which has one
abbrev pub field_at : List ℕ → ℕ → ℕ
field_at paper p = cond (nat_lt (count_place paper) p) ((p + 1) / 2) (p / 2)

abbrev pub at_field : List ℕ → Option ℕ → Option Refusal
at_field paper = option_map (λ p. PaperFault (field_at paper p))

-- the first field of a paper that is not as on the right one
abbrev pub unlike_fault : List ℕ → List ℕ → Option Refusal
unlike_fault paper right = at_field paper (difference paper right 0)

abbrev pub agree_fault : Lists → List ℕ → List ℕ → ℕ → Option Fault
agree_fault ls ps sheet i = on_paper i (unlike_fault (nth_paper ps i) (paper_of ls sheet i))

-- the first fault of the sheet that the papers of all traders make, and then of each paper beside that of the sheet
abbrev pub sheet_fault : Lists → List ℕ → Option Fault
sheet_fault ls ps =
    let sheet = sheet_on ps (length ls) in
    option_or (refused (sheets.sheet_fault ls sheet)) (first_fault (agree_fault ls ps sheet) 0 (length ls))

-- The first fault of the papers for the lists of a year: trader after trader, of each paper by itself; of what follows the last;
-- of the sheet that they make; trader after trader, of each paper beside that of the sheet.
unfoldable pub year_fault : Lists → List ℕ → Option Fault
year_fault ls ps =
    option_or (first_fault (place_fault ls ps) 0 (length ls))
    (option_or (refused (end_fault ps (paper_start ps (length ls)))) (sheet_fault ls ps))

-- The first fault of the lists of a year, and then of the papers for it.
abbrev pub papers_fault : List ℕ → List ℕ → Option Fault
papers_fault bs ps = option_or (refused (fault bs)) (year_fault (lists_of bs) ps)

-- ---- what accepted papers say

-- The papers of n traders were accepted.
pub record Agreed (bs ps : List ℕ) (n : ℕ) : Type 0 where
  -- there is one for each trader
  pub all : n ≡ length (lists_of bs)
  -- each trader has by the own paper what the exchange gives
  pub right : (i : ℕ) → i < n → stand_on (nth_paper ps i) ≡ result (lists_of bs) i
  -- the stands and rounds on the papers are a valid sheet, and each paper is the one for that sheet
  pub valid : Valid (lists_of bs) (sheet_on ps n)
  pub papers : (i : ℕ) → i < n → nth_paper ps i ≡ paper_of (lists_of bs) (sheet_on ps n) i

abbrev pub AgreedBy : Result ℕ Fault → List ℕ → List ℕ → Type 0
AgreedBy (Err f) bs ps = Unit {0}
AgreedBy (Ok n) bs ps = Agreed bs ps n

-- ---- the papers of a sheet are accepted

-- the papers of k traders from trader i on, one after another
unfoldable pub papers_from : Lists → List ℕ → ℕ → ℕ → List ℕ
papers_from ls sheet i zero = []
papers_from ls sheet i (suc k) = paper_of ls sheet i ++ papers_from ls sheet (suc i) k

-- the papers of all traders, by the lists and a sheet
abbrev pub all_papers : Lists → List ℕ → List ℕ
all_papers ls sheet = papers_from ls sheet 0 (length ls)

-- Of every sheet that the checker accepts, the papers of all traders are accepted together.
unfoldable pub PapersOfASheetAgree : Type 0
PapersOfASheetAgree =
    (bs sheet : List ℕ) → ((k : ℕ) → k < length bs → slice_index bs k < 256) → ((k : ℕ) → k < length sheet → slice_index sheet k < 256) →
    check_fault bs sheet ≡ None → papers_fault bs (all_papers (lists_of bs) sheet) ≡ None

-- So are the papers of the exchange, for all accepted lists.
unfoldable pub PapersOfTheExchangeAgree : Type 0
PapersOfTheExchangeAgree =
    (bs : List ℕ) → ((k : ℕ) → k < length bs → slice_index bs k < 256) → fault bs ≡ None →
    papers_fault bs (all_papers (lists_of bs) (sheet_of (lists_of bs))) ≡ None
