-- The bytes of the lists of a year: the number n of traders (two bytes, low byte first), then for each trader from 0 on the
-- count of its list (one byte) and the list's stands (two bytes each, low byte first), the dearest first.
use Rattle.std.specs.Prelude.{◌≡◌, ℕ, zero, suc, ◌+◌, ◌*◌, ◌/◌, ◌%◌, ◌<◌, ◌≤◌, Bool, false, cond, not, ◌&&◌, ◌||◌, List, [], ◌∷◌, ◌++◌, length, take, drop, Some, None, Ok, Err, Option, Result, ◌==◌, nat_lt, slice_index, slice_index_or}
use Rattle.std.specs.Option.{option_or}
use Rattle.refusals.specs.declared.Refusal.{Refusal}
use Rattle.refusals.specs.declared.Refusal.TheVariants.{WrongLength, WrongCount, LongList, WrongStand}
use Rattle.theory.specs.Promise.{Proper}
use Rattle.theory.specs.Trade.{Lists}

-- the two-byte number whose first byte is byte p
abbrev pub number_at : List ℕ → ℕ → ℕ
number_at bs p = slice_index bs p + 256 * slice_index bs (p + 1)

-- the two-byte numbers of a part, one after the other
unfoldable pub numbers : List ℕ → List ℕ
numbers [] = []
numbers (low ∷ []) = []
numbers (low ∷ high ∷ bs) = (low + 256 * high) ∷ numbers bs

-- the bytes of the stands of the list whose count is byte p: a part of the whole that starts in the middle
abbrev pub list_bytes : List ℕ → ℕ → List ℕ
list_bytes bs p = take (2 * slice_index bs p) (drop (p + 1) bs)

-- where the list after the one at p begins
abbrev pub next_start : List ℕ → ℕ → ℕ
next_start bs p = p + 1 + 2 * slice_index bs p

-- where the list of trader i begins: its count's byte
abbrev pub start : List ℕ → ℕ → ℕ
start bs zero = 2
start bs (suc i) = next_start bs (start bs i)

-- k lists, the first of which begins at p
unfoldable pub lists_from : List ℕ → ℕ → ℕ → Lists
lists_from bs zero p = []
lists_from bs (suc k) p = numbers (list_bytes bs p) ∷ lists_from bs k (next_start bs p)

-- The lists that the bytes of a year give.
unfoldable pub lists_of : List ℕ → Lists
lists_of bs = lists_from bs (number_at bs 0) 2

abbrev pub member : ℕ → List ℕ → Bool
member t [] = false
member t (u ∷ us) = u == t || member t us

-- the fault of the number of traders
abbrev pub count_fault : List ℕ → Option Refusal
count_fault bs =
    cond (nat_lt (length bs) 2) (Some (WrongLength (length bs)))
    (cond (nat_lt 0 (number_at bs 0) && nat_lt (number_at bs 0) 4001) None (Some WrongCount))

-- the fault of the count of the list that begins at p
abbrev pub length_fault : List ℕ → ℕ → Option Refusal
length_fault bs p =
    cond (nat_lt p (length bs)) (cond (nat_lt 40 (slice_index bs p)) (Some (LongList p)) None) (Some (WrongLength (length bs)))

-- the fault of the stand at byte p of trader own's list: it exists, is not the own one, and is not named `again`
abbrev pub stand_fault : List ℕ → ℕ → ℕ → ℕ → Bool → Option Refusal
stand_fault bs n own p again =
    cond (nat_lt (length bs) (p + 2)) (Some (WrongLength (length bs)))
    (cond (nat_lt (number_at bs p) n && (not (number_at bs p == own) && not again)) None (Some (WrongStand p)))

-- the first fault in k stands of trader own's list, from byte p on; `before` are the stands listed already, the last first
unfoldable pub stands_fault : List ℕ → ℕ → ℕ → List ℕ → ℕ → ℕ → Option Refusal
stands_fault bs n own before zero p = None
stands_fault bs n own before (suc k) p =
    option_or (stand_fault bs n own p (member (number_at bs p) before)) (stands_fault bs n own (number_at bs p ∷ before) k (p + 2))

-- the first fault in the list that begins at p
unfoldable pub list_fault : List ℕ → ℕ → ℕ → ℕ → Option Refusal
list_fault bs n own p = option_or (length_fault bs p) (stands_fault bs n own [] (slice_index bs p) (p + 1))

-- nothing may follow the lists
abbrev pub end_fault : List ℕ → ℕ → Option Refusal
end_fault bs p = cond (nat_lt p (length bs)) (Some (WrongLength p)) None

-- the first fault in k lists from p on, and then in what follows them
unfoldable pub lists_fault : List ℕ → ℕ → ℕ → ℕ → ℕ → Option Refusal
lists_fault bs n own zero p = end_fault bs p
lists_fault bs n own (suc k) p = option_or (list_fault bs n own p) (lists_fault bs n (suc own) k (next_start bs p))

-- The first fault of one trader's list by itself, as in a year of 4,000 traders, the most there can be, and then of what follows it.
abbrev pub own_list_fault : List ℕ → ℕ → Option Refusal
own_list_fault list own = option_or (list_fault list 4000 own 0) (end_fault list (next_start list 0))

-- The first fault of the bytes of a year, from front to back; None where they are accepted.
abbrev pub fault : List ℕ → Option Refusal
fault bs = option_or (count_fault bs) (lists_fault bs (number_at bs 0) 0 (number_at bs 0) 2)

-- in accepted bytes, the list of trader i begins at p
abbrev pub Begins : List ℕ → ℕ → ℕ → Type 0
Begins bs i p = (fault bs ≡ None) × (i < number_at bs 0) × (p ≡ start bs i)

-- the answer of a call that is refused by a fault, if there is one
abbrev pub unless : {A E : Type 0} → Option E → A → Result A E
unless (Some f) a = Err f
unless None a = Ok a

-- Lists that can be written down: 1 to 4,000 traders, proper lists of at most 40 stands.
pub record Encodable (ls : Lists) : Type 0 where
  pub somebody : 0 < length ls
  pub most : length ls ≤ 4000
  pub short : (i : ℕ) → i < length ls → length (slice_index_or ls i []) ≤ 40
  pub proper : Proper ls

abbrev pub bytes_of : ℕ → List ℕ
bytes_of x = x % 256 ∷ x / 256 ∷ []

unfoldable pub encode_stands : List ℕ → List ℕ
encode_stands [] = []
encode_stands (t ∷ ts) = bytes_of t ++ encode_stands ts

-- the bytes of one list: its count and its stands
abbrev pub encode_list : List ℕ → List ℕ
encode_list ts = length ts ∷ encode_stands ts

unfoldable pub encode_lists : Lists → List ℕ
encode_lists [] = []
encode_lists (l ∷ ls) = encode_list l ++ encode_lists ls

-- the bytes that lists are written as
unfoldable pub encode : Lists → List ℕ
encode ls = bytes_of (length ls) ++ encode_lists ls

-- The bytes are those of one list of at most 40 stands.
pub record IsList (bs : List ℕ) : Type 0 where
  pub short : length (numbers (list_bytes bs 0)) ≤ 40
  pub whole : bs ≡ encode_list (numbers (list_bytes bs 0))

-- The bytes are those of k such lists.
pub record AreLists (bs : List ℕ) (k : ℕ) : Type 0 where
  pub short : (i : ℕ) → i < k → length (slice_index_or (lists_from bs k 0) i []) ≤ 40
  pub whole : bs ≡ encode_lists (lists_from bs k 0)

-- The bytes are those of a year of n traders, whose lists can be written down.
pub record IsYear (bs : List ℕ) (n : ℕ) : Type 0 where
  pub count : n ≡ length (lists_of bs)
  pub can : Encodable (lists_of bs)
  pub whole : bs ≡ encode (lists_of bs)

-- In accepted bytes, the slice that is handed out for a trader's list is that trader's list.
abbrev pub SlicesAreLists : Type 0
SlicesAreLists =
    (bs : List ℕ) (i p : ℕ) → Begins bs i p →
    (next_start bs p ≤ length bs) × (numbers (list_bytes bs p) ≡ slice_index_or (lists_of bs) i [])

-- The accepted bytes are exactly the encodings of encodable lists: what is encoded is accepted and read as the same lists,
-- and what is accepted gives encodable lists whose encoding is those very bytes.
abbrev pub ReadsWhatWasWritten : Type 0
ReadsWhatWasWritten =
    (ls : Lists) → Encodable ls →
    (fault (encode ls) ≡ None) × (lists_of (encode ls) ≡ ls) × ((k : ℕ) → slice_index (encode ls) k < 256)

abbrev pub WritesWhatWasRead : Type 0
WritesWhatWasRead =
    (bs : List ℕ) → ((k : ℕ) → k < length bs → slice_index bs k < 256) → fault bs ≡ None →
    Encodable (lists_of bs) × (encode (lists_of bs) ≡ bs)
