-- What the public exchange promises of the lists that it read, the results and the sheet.
use Rattle.std.specs.Prelude.{◌≡◌, ℕ, ◌+◌, ◌*◌, ◌/◌, ◌%◌, ◌<◌, ◌≤◌, Bool, true, cond, List, ◌++◌, length, drop, replicate, Some, None, Ok, Err, Option, Result, nat_lt, slice_index, slice_set}
use Rattle.std.specs.List.{range_with_len, flat_map}
use Rattle.std.specs.Option.{option_or}
use Rattle.refusals.specs.declared.Lent.TheVariants.{Results, Sheet, Work}
use Rattle.refusals.specs.declared.Refusal.{Refusal}
use Rattle.refusals.specs.declared.Refusal.TheVariants.{TooShort}
use Rattle.lists.specs.Format.{bytes_of, encode, fault, lists_of, number_at}
use Rattle.theory.specs.Promise.{Proper, rank}
use Rattle.theory.specs.Trade.{Lists, out, result}
use Rattle.sheet.specs.Sheet.{round_in, sheet_of, stand_in}

-- The promise, whole: about the lists that the bytes bs encode, the results and the sheet that were written.
pub record Promised (bs results sheet : List ℕ) : Type 0 where
  -- the lists are those that these very bytes encode, and they are proper
  pub encoded : encode (lists_of bs) ≡ bs
  pub proper : Proper (lists_of bs)
  -- each result, and each stand and round of the sheet, is that of the exchange
  pub stands : (i : ℕ) → i < length (lists_of bs) → slice_index results i ≡ result (lists_of bs) i
  pub sheet_stands : (i : ℕ) → i < length (lists_of bs) → stand_in sheet i ≡ result (lists_of bs) i
  pub sheet_rounds : (i : ℕ) → i < length (lists_of bs) → round_in sheet i ≡ out (lists_of bs) i
  -- one stand for each trader, and one trader for each stand
  pub one_stand : (i : ℕ) → i < length (lists_of bs) → slice_index results i < length (lists_of bs)
  pub one_trader : (t : ℕ) → t < length (lists_of bs) →
      (i : ℕ) × (i < length (lists_of bs)) × (slice_index results i ≡ t)
      × ((j : ℕ) → j < length (lists_of bs) → slice_index results j ≡ t → j ≡ i)
  -- nobody has a stand less dear than the own one
  pub not_below : (i : ℕ) → i < length (lists_of bs) → rank (lists_of bs) i (slice_index results i) ≤ rank (lists_of bs) i i
  -- however a group shares its stands among itself so that nobody of it has a less dear stand, everybody has the same one
  pub no_group : (group : ℕ → Bool) (share : ℕ → ℕ) →
      ((i : ℕ) → i < length (lists_of bs) → group i ≡ true → (share i < length (lists_of bs)) × (group (share i) ≡ true)) →
      ((i j : ℕ) → i < length (lists_of bs) → j < length (lists_of bs) → group i ≡ true → group j ≡ true → share i ≡ share j → i ≡ j) →
      ((i : ℕ) → i < length (lists_of bs) → group i ≡ true → rank (lists_of bs) i (share i) ≤ rank (lists_of bs) i (slice_index results i)) →
      (i : ℕ) → i < length (lists_of bs) → group i ≡ true → share i ≡ slice_index results i
  -- whatever other proper list a trader had given, what it had got is not dearer by the list that it gave
  pub no_gain : (i : ℕ) (other : List ℕ) → i < length (lists_of bs) → Proper (slice_set (lists_of bs) i other) →
      rank (lists_of bs) i (slice_index results i) ≤ rank (lists_of bs) i (result (slice_set (lists_of bs) i other) i)

-- the first lent slice that is too short for n traders
abbrev pub lent_fault : ℕ → ℕ → ℕ → ℕ → Option Refusal
lent_fault n results sheet work =
    cond (nat_lt results n) (Some (TooShort Results))
    (cond (nat_lt sheet (4 * n)) (Some (TooShort Sheet)) (cond (nat_lt work (3 * n)) (Some (TooShort Work)) None))

-- The fault by which the exchange is refused, if there is one: of the bytes, and then of the lent slices, by their lengths.
abbrev pub exchange_fault : List ℕ → ℕ → ℕ → ℕ → Option Refusal
exchange_fault bs results sheet work = option_or (fault bs) (lent_fault (number_at bs 0) results sheet work)

-- How the sheet's slice is left: a refusal changes nothing, and else the sheet stands in front.
abbrev pub sheet_left : {A : Type 0} → Result A Refusal → Lists → List ℕ → List ℕ
sheet_left (Err f) ls xs = xs
sheet_left (Ok a) ls xs = sheet_of ls ++ drop (4 * length ls) xs

-- How the work slice is left: a refusal changes nothing, and else its 3 n entries are cleared.
abbrev pub work_cleared : {A : Type 0} → Result A Refusal → Lists → List ℕ → List ℕ
work_cleared (Err f) ls xs = xs
work_cleared (Ok a) ls xs = replicate (3 * length ls) 0 ++ drop (3 * length ls) xs

-- What is promised where the exchange was done.
abbrev pub PromisedBy : {A : Type 0} → Result A Refusal → List ℕ → List ℕ → List ℕ → Type 0
PromisedBy (Err f) bs results sheet = Unit {0}
PromisedBy (Ok a) bs results sheet = Promised bs results sheet

-- the sheet with one entry written at p
abbrev pub put_entry : List ℕ → ℕ → ℕ → ℕ → List ℕ
put_entry sheet p stand round =
    slice_set (slice_set (slice_set (slice_set sheet p (stand % 256)) (p + 1) (stand / 256)) (p + 2) (round % 256)) (p + 3) (round / 256)

-- the same, where there is room for the entry
abbrev pub entry_put : List ℕ → ℕ → ℕ → ℕ → List ℕ
entry_put sheet p stand round = cond (nat_lt (length sheet) (p + 4)) sheet (put_entry sheet p stand round)

-- the first k entries of the sheet of n traders, from the results and from the rounds in the third part of the work slice
abbrev pub entries : List ℕ → List ℕ → ℕ → ℕ → List ℕ
entries results work n k =
    flat_map (λ i. bytes_of (slice_index results i) ++ bytes_of (slice_index work (2 * n + i))) (range_with_len 0 k)
