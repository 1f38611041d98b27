-- What the search for a group goes by: a table of what may be given, and choices made for the first traders.
use Rattle.std.specs.Prelude.{◌≡◌, ℕ, ◌-◌, ◌<◌, ◌≤◌, Bool, true, false, cond, [], length, Some, None, Option, ◌==◌, ◌≢◌, nat_le, slice_index, slice_index_or, All, IfSome, IsSomeAnd}
use Rattle.theory.specs.Promise.{rank}
use Rattle.theory.specs.Trade.{Lists}
use Rattle.groups.specs.Groups.{Before, Choices, SameAt, choice_of, in_group, stand_of}
use Rattle.groups.specs.declared.Search.{Search}

-- how many traders a search is for
abbrev pub size : Search → ℕ
size given = length given.results.now

-- the stand that trader i got
abbrev pub got : Search → ℕ → ℕ
got given i = slice_index given.results.now i

-- stand t may be given to trader i
abbrev pub may : Search → ℕ → ℕ → Bool
may given i t = slice_index_or (slice_index_or given.table i []) t false

-- the table has what is no less dear than the stand got
abbrev pub Right : Lists → Search → Type 0
Right ls given = (i t : ℕ) → i < size given → t < size given → may given i t ≡ nat_le (rank ls i t) (rank ls i (got given i))

-- a group that could do better, by the table
pub record Sharing (given : Search) (group : ℕ → Bool) (share : ℕ → ℕ) : Type 0 where
  pub among : (i : ℕ) → i < size given → group i ≡ true → (share i < size given) × (group (share i) ≡ true)
  pub apart : (i j : ℕ) → i < size given → j < size given → group i ≡ true → group j ≡ true → share i ≡ share j → i ≡ j
  pub fine : (i : ℕ) → i < size given → group i ≡ true → may given i (share i) ≡ true
  pub another : (i : ℕ) × (i < size given) × (group i ≡ true) × (share i ≢ got given i)

-- what is tried for a trader, turn by turn: to stay out of the group, and then the stands from 0 on
abbrev pub choice_in : ℕ → Option ℕ
choice_in turn = cond (turn == 0) None (Some (turn - 1))

-- none of the first i traders has the stand by the choices
abbrev pub Free : Choices → ℕ → ℕ → Type 0
Free chosen i stand = (j : ℕ) → j < i → choice_of chosen j ≢ Some stand

-- trader i may stay out, or have a stand that may be given and is free
abbrev pub MayHave : Search → Choices → ℕ → Option ℕ → Type 0
MayHave given chosen i choice = IfSome choice (λ stand. (may given i stand ≡ true) × Free chosen i stand)

-- the choice is a stand that may not be given, or that one of the first i traders has
abbrev pub MayNotHave : Search → Choices → ℕ → Option ℕ → Type 0
MayNotHave given chosen i choice =
    IsSomeAnd choice (λ stand. may given i stand ≡ true → (j : ℕ) × (j < i) × (choice_of chosen j ≡ Some stand))

-- the choices for the first i traders break nothing, and nobody else has one
pub record Sound (given : Search) (chosen : Choices) (i : ℕ) : Type 0 where
  pub within : i ≤ size given
  pub below : All (λ choice. IfSome choice (λ stand. stand < size given)) chosen
  pub fine : (j : ℕ) → j < i → in_group chosen j ≡ true → may given j (stand_of chosen j) ≡ true
  pub apart : (j k : ℕ) → j < i → k < i → in_group chosen j ≡ true → in_group chosen k ≡ true → stand_of chosen j ≡ stand_of chosen k → j ≡ k
  pub past : (j : ℕ) → i ≤ j → choice_of chosen j ≡ None

-- a group and its share go by the choices for the first i traders
abbrev pub Agrees : Choices → ℕ → (ℕ → Bool) → (ℕ → ℕ) → Type 0
Agrees chosen i group share = (j : ℕ) → j < i → SameAt group share (in_group chosen) (stand_of chosen) j

-- no group that goes by the choices for the first i traders could do better
abbrev pub Hopeless : Search → Choices → ℕ → Type 0
Hopeless given chosen i = (group : ℕ → Bool) (share : ℕ → ℕ) → Agrees chosen i group share → Sharing given group share → ⊥

-- a share that goes by the choices for the first i traders, and of all those the first by which a group could do better
pub record Found (given : Search) (chosen : Choices) (i : ℕ) (share : Choices) : Type 0 where
  pub serves : Sharing given (in_group share) (stand_of share)
  pub none_before : (group : ℕ → Bool) (other : ℕ → ℕ) → Agrees chosen i group other → Sharing given group other →
      Before (size given) group other (in_group share) (stand_of share) → ⊥
  pub kept : (j : ℕ) → j < i → choice_of share j ≡ choice_of chosen j
  pub past : (j : ℕ) → size given ≤ j → choice_of share j ≡ choice_of chosen j

-- every stand chosen is one that the group brought
abbrev pub Brought : ℕ → Choices → Type 0
Brought n chosen = (j : ℕ) → j < n → in_group chosen j ≡ true → in_group chosen (stand_of chosen j) ≡ true

-- some stand chosen is one that the group did not bring
abbrev pub Unbrought : ℕ → Choices → Type 0
Unbrought n chosen = (j : ℕ) × (j < n) × (in_group chosen j ≡ true) × (in_group chosen (stand_of chosen j) ≡ false)

-- somebody in the group has another stand than the one got
abbrev pub Differs : Search → Choices → Type 0
Differs given chosen = (j : ℕ) × (j < size given) × (in_group chosen j ≡ true) × (stand_of chosen j ≢ got given j)

-- everybody in the group has the stand got
abbrev pub Same : Search → Choices → Type 0
Same given chosen = (j : ℕ) → j < size given → in_group chosen j ≡ true → stand_of chosen j ≡ got given j
