-- A group of traders that could do better among themselves, and what the search for one answers.
use Rattle.std.specs.Prelude.{◌≡◌, ℕ, ◌<◌, ◌≤◌, Bool, true, false, cond, ◌⊎◌, List, length, Some, None, Ok, Err, Option, Result, ◌≢◌, nat_lt, is_some, option_map, slice_index, slice_index_or, unwrap_or}
use Rattle.std.specs.Option.{option_or}
use Rattle.refusals.specs.declared.Lent.TheVariants.{Results}
use Rattle.refusals.specs.declared.Refusal.TheVariants.{TooShort}
use Rattle.lists.specs.Format.{fault, lists_of, number_at}
use Rattle.theory.specs.Promise.{rank}
use Rattle.theory.specs.Trade.{Lists}
use Rattle.groups.specs.declared.Unsearched.{Unsearched}
use Rattle.groups.specs.declared.Unsearched.TheVariants.{Refused, TooMany}

-- A group that could do better among themselves than what everybody got, by a share of the stands that it brought: each
-- member has the stand of a member, no two the same, none a stand less dear than the one got, and some member another.
pub record Betters (ls : Lists) (got : ℕ → ℕ) (group : ℕ → Bool) (share : ℕ → ℕ) : Type 0 where
  pub among : (i : ℕ) → i < length ls → group i ≡ true → (share i < length ls) × (group (share i) ≡ true)
  pub apart : (i j : ℕ) → i < length ls → j < length ls → group i ≡ true → group j ≡ true → share i ≡ share j → i ≡ j
  pub no_less_dear : (i : ℕ) → i < length ls → group i ≡ true → rank ls i (share i) ≤ rank ls i (got i)
  pub another : (i : ℕ) × (i < length ls) × (group i ≡ true) × (share i ≢ got i)

-- a share as it is answered: for each trader the stand, or None for who is not in the group
abbrev pub Choices : Type 0
Choices = List (Option ℕ)

-- what trader i has by the share
abbrev pub choice_of : Choices → ℕ → Option ℕ
choice_of share i = slice_index_or share i None

-- the stand that trader i of the group has
abbrev pub stand_of : Choices → ℕ → ℕ
stand_of share i = unwrap_or (choice_of share i) 0

-- who is in the group
abbrev pub in_group : Choices → ℕ → Bool
in_group share i = is_some (choice_of share i)

-- Why no search is made: the first fault of the lists; else more than 8 traders; else fewer results than traders. None
-- where one is made.
abbrev pub unsearched : List ℕ → List ℕ → Option Unsearched
unsearched bs results =
    option_or (option_map Refused (fault bs))
    (cond (nat_lt 8 (number_at bs 0)) (Some TooMany)
    (cond (nat_lt (length results) (number_at bs 0)) (Some (Refused (TooShort Results))) None))

-- two shares have the same for trader j: j is in neither group, or has the same stand by both
abbrev pub SameAt : (ℕ → Bool) → (ℕ → ℕ) → (ℕ → Bool) → (ℕ → ℕ) → ℕ → Type 0
SameAt group share group' share' j = (group j ≡ group' j) × (group j ≡ true → share j ≡ share' j)

-- a share is earlier than another by trader j: j is not in its group but in the other's, or is in both groups and has the lower
-- stand by it
abbrev pub EarlierAt : (ℕ → Bool) → (ℕ → ℕ) → (ℕ → Bool) → (ℕ → ℕ) → ℕ → Type 0
EarlierAt group share group' share' j =
    ((group j ≡ false) × (group' j ≡ true)) ⊎ ((group j ≡ true) × (group' j ≡ true) × (share j < share' j))

-- The order of the search. A share comes before another if it is earlier by one of the n traders, and the two have the same for
-- all traders before that one.
pub record Before (n : ℕ) (group : ℕ → Bool) (share : ℕ → ℕ) (group' : ℕ → Bool) (share' : ℕ → ℕ) : Type 0 where
  pub first : ℕ
  pub within : first < n
  pub same : (j : ℕ) → j < first → SameAt group share group' share' j
  pub earlier : EarlierAt group share group' share' first

-- The first share, in the order of the search, that betters the results: no other that does comes before it. It has 8 places,
-- and those past the last trader hold None. So there is only one.
pub record FirstShare (ls : Lists) (results : List ℕ) (share : Choices) : Type 0 where
  pub betters : Betters ls (slice_index results) (in_group share) (stand_of share)
  pub none_before : (group : ℕ → Bool) (other : ℕ → ℕ) → Betters ls (slice_index results) group other →
      Before (length ls) group other (in_group share) (stand_of share) → ⊥
  pub places : length share ≡ 8
  pub past : (j : ℕ) → length ls ≤ j → j < 8 → choice_of share j ≡ None

-- What an answer says: the first share that betters the results; or that none does, whatever the group and its share.
abbrev pub RightAnswer : Lists → List ℕ → Option Choices → Type 0
RightAnswer ls results (Some share) = FirstShare ls results share
RightAnswer ls results None = (group : ℕ → Bool) (share : ℕ → ℕ) → Betters ls (slice_index results) group share → ⊥

-- What the search answers: why none is made, or what it found.
abbrev pub Outcome : List ℕ → List ℕ → Result (Option Choices) Unsearched → Type 0
Outcome bs results (Err e) = unsearched bs results ≡ Some e
Outcome bs results (Ok answer) = (unsearched bs results ≡ None) × RightAnswer (lists_of bs) results answer

-- Two answers that are both right for the same lists and results are the same one.
abbrev pub AnswerDetermined : Type 0
AnswerDetermined =
    (ls : Lists) (results : List ℕ) (a b : Option Choices) → RightAnswer ls results a → RightAnswer ls results b → a ≡ b

-- So for all bytes and results there is only one outcome.
abbrev pub OutcomeDetermined : Type 0
OutcomeDetermined =
    (bs results : List ℕ) (r s : Result (Option Choices) Unsearched) → Outcome bs results r → Outcome bs results s → r ≡ s
