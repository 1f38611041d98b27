-- A sheet says for each trader, in the order of numbers, the stand that it got and the round in which it went out, from 0:
-- two bytes each, low byte first. It shows that an exchange went right, to anybody who has the lists.
use Rattle.std.specs.Prelude.{◌≡◌, ℕ, zero, suc, ◌+◌, ◌*◌, ◌<◌, Bool, false, cond, not, ◌&&◌, ◌||◌, List, [], ◌∷◌, ◌++◌, length, Some, None, Option, ◌==◌, nat_lt, slice_index, slice_index_or}
use Rattle.std.specs.List.{range_with_len, flat_map}
use Rattle.std.specs.Option.{option_or}
use Rattle.refusals.specs.declared.Refusal.{Refusal}
use Rattle.refusals.specs.declared.Refusal.TheVariants.{SheetLength, StandTaken, DearerLater, HolderElsewhere}
use Rattle.theory.specs.Certificate.{ValidSheet}
use Rattle.lists.specs.Format.{Encodable, bytes_of, encode, fault, lists_of, number_at}
use Rattle.theory.specs.Promise.{Proper}
use Rattle.theory.specs.Trade.{Lists, out, result}

-- the stand that trader i got, and the round in which it went out
abbrev pub stand_in : List ℕ → ℕ → ℕ
stand_in sheet i = number_at sheet (4 * i)

abbrev pub round_in : List ℕ → ℕ → ℕ
round_in sheet i = number_at sheet (4 * i + 2)

-- the sheet of the exchange
abbrev pub entry : Lists → ℕ → List ℕ
entry ls i = bytes_of (result ls i) ++ bytes_of (out ls i)

unfoldable pub sheet_of : Lists → List ℕ
sheet_of ls = flat_map (entry ls) (range_with_len 0 (length ls))

-- one of the first k traders got stand t
unfoldable pub got_before : List ℕ → ℕ → ℕ → Bool
got_before sheet zero t = false
got_before sheet (suc k) t = stand_in sheet k == t || got_before sheet k t

-- the stand that trader i got exists, and it was not got `again`
abbrev pub taken_fault : List ℕ → ℕ → ℕ → Bool → Option Refusal
taken_fault sheet n i again = cond (nat_lt (stand_in sheet i) n && not again) None (Some (StandTaken i))

-- the holder of stand t, at a place of trader i's list, went out before trader i
abbrev pub later_fault : List ℕ → ℕ → ℕ → ℕ → Option Refusal
later_fault sheet i t place = cond (nat_lt (round_in sheet t) (round_in sheet i)) None (Some (DearerLater i place))

-- Past its list trader i can only have got the own stand: one that is not listed is less dear than the own one, whose
-- holder, trader i, did not go out before itself.
abbrev pub own_fault : List ℕ → ℕ → ℕ → Option Refusal
own_fault sheet i place = cond (stand_in sheet i == i) None (Some (DearerLater i place))

-- the holders of the stands ts of trader i's list, from `place` on, went out before trader i, up to the stand that it got
unfoldable pub dearer_fault : List ℕ → ℕ → List ℕ → ℕ → Option Refusal
dearer_fault sheet i [] place = own_fault sheet i place
dearer_fault sheet i (t ∷ ts) place =
    cond (t == stand_in sheet i) None (option_or (later_fault sheet i t place) (dearer_fault sheet i ts (suc place)))

-- the holder of the stand that trader i got went out in the same round
abbrev pub holder_fault : List ℕ → ℕ → Option Refusal
holder_fault sheet i =
    cond (round_in sheet (stand_in sheet i) == round_in sheet i) None (Some (HolderElsewhere i))

-- the first fault of trader i with the list ts, whose stand was got `again`
unfoldable pub entry_fault : List ℕ → ℕ → ℕ → List ℕ → Bool → Option Refusal
entry_fault sheet n i ts again =
    option_or (taken_fault sheet n i again) (option_or (dearer_fault sheet i ts 0) (holder_fault sheet i))

-- the first fault of trader i; a trader before may have got its stand
unfoldable pub trader_fault : Lists → List ℕ → ℕ → Option Refusal
trader_fault ls sheet i = entry_fault sheet (length ls) i (slice_index_or ls i []) (got_before sheet i (stand_in sheet i))

-- the first fault of k traders from trader i on
unfoldable pub traders_fault : Lists → List ℕ → ℕ → ℕ → Option Refusal
traders_fault ls sheet i zero = None
traders_fault ls sheet i (suc k) = option_or (trader_fault ls sheet i) (traders_fault ls sheet (suc i) k)

-- the sheet has an entry for each trader, and no more
abbrev pub length_fault : ℕ → List ℕ → Option Refusal
length_fault n sheet = cond (length sheet == 4 * n) None (Some (SheetLength (length sheet)))

-- The first fault of a sheet for the lists ls; None where it is accepted.
abbrev pub sheet_fault : Lists → List ℕ → Option Refusal
sheet_fault ls sheet = option_or (length_fault (length ls) sheet) (traders_fault ls sheet 0 (length ls))

-- The first fault of the bytes of a year and of a sheet for it.
abbrev pub check_fault : List ℕ → List ℕ → Option Refusal
check_fault bs sheet = option_or (fault bs) (sheet_fault (lists_of bs) sheet)

-- the stands and the rounds of a sheet of the right length are valid for the lists
abbrev pub Valid : Lists → List ℕ → Type 0
Valid ls sheet = (length sheet ≡ 4 * length ls) × ValidSheet ls (stand_in sheet) (round_in sheet)

-- A sheet that was accepted, with the lists for which it was.
pub record Accepted : Type 0 where
  pub lists : Lists
  pub bytes : List ℕ

-- The sheet is accepted for the lists ls: so it has an entry for each trader, whose stand exists.
pub record IsAccepted (ls : Lists) (sheet : List ℕ) : Type 0 where
  pub right : sheet_fault ls sheet ≡ None
  pub size : length sheet ≡ 4 * length ls
  pub exists : (i : ℕ) → i < length ls → stand_in sheet i < length ls

-- the traders from t on, each followed by the holder of the stand that it got, until trader own comes next; at most k
unfoldable pub ring_from : List ℕ → ℕ → ℕ → ℕ → List ℕ
ring_from sheet own zero t = []
ring_from sheet own (suc k) t = t ∷ cond (stand_in sheet t == own) [] (ring_from sheet own k (stand_in sheet t))

-- the ring of trader i, among n traders
abbrev pub ring_of : List ℕ → ℕ → ℕ → List ℕ
ring_of sheet n i = ring_from sheet i n i

-- A sheet is accepted exactly if it is valid.
unfoldable pub AcceptsExactly : Type 0
AcceptsExactly =
    (ls : Lists) (sheet : List ℕ) → Proper ls →
    (sheet_fault ls sheet ≡ None → Valid ls sheet) × (Valid ls sheet → sheet_fault ls sheet ≡ None)

-- What the exchange writes of lists that can be written down are bytes, and the checker accepts them.
unfoldable pub AcceptsWhatWasWritten : Type 0
AcceptsWhatWasWritten =
    (ls : Lists) → Encodable ls →
    (sheet_fault ls (sheet_of ls) ≡ None)
    × (check_fault (encode ls) (sheet_of ls) ≡ None)
    × ((k : ℕ) → slice_index (sheet_of ls) k < 256)
