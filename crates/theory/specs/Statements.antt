-- What else holds of the exchange. Each statement is a type; a function's contract names it, and its proof is in proofs/theory.
-- They hold for all lists, proper or not.
use Rattle.std.specs.Prelude.{◌≡◌, ℕ, suc, ◌<◌, ◌≤◌, Bool, true, false, List, [], ◌∷◌, ◌++◌, length, ◌≢◌, slice_index_or, slice_set}
use Rattle.theory.specs.Trade.{Lists, Standing, is_in, walk, on_ring, all_in, rounds, result, out, round_count}
use Rattle.theory.specs.Promise.{rank}
use Rattle.theory.specs.Certificate.{ValidSheet, steps}
use Rattle.theory.specs.Runs.{Run}

-- ---- rings

-- In every standing, whoever takes part, where somebody is in somebody is on a ring.
unfoldable pub SomebodyOnARing : Type 0
SomebodyOnARing =
    (ls : Lists) (s : Standing) (i : ℕ) → length s.inside ≡ length ls → is_in s i ≡ true → (j : ℕ) × (on_ring ls s j ≡ true)

-- Two rings have nobody in common: if a walk from one trader on a ring and a walk from another reach the same trader, then
-- each of the two is reached by a walk from the other, so they are on one ring.
unfoldable pub RingsApart : Type 0
RingsApart =
    (ls : Lists) (s : Standing) (i j a b : ℕ) → on_ring ls s i ≡ true → on_ring ls s j ≡ true → walk ls s a i ≡ walk ls s b j →
    ((k : ℕ) × (walk ls s k i ≡ j)) × ((k : ℕ) × (walk ls s k j ≡ i))

-- ---- rounds

-- In every round before nobody is in, somebody goes out.
unfoldable pub EveryRoundSomebodyLeaves : Type 0
EveryRoundSomebodyLeaves =
    (ls : Lists) (k i : ℕ) → is_in (rounds ls k) i ≡ true →
    (j : ℕ) × (is_in (rounds ls k) j ≡ true) × (is_in (rounds ls (suc k)) j ≡ false)

-- The number of rounds is at most that of the traders; after that many rounds, and after more, nobody is in; before, somebody is.
unfoldable pub RoundsCounted : Type 0
RoundsCounted =
    (ls : Lists) →
    (round_count ls ≤ length ls)
    × ((k i : ℕ) → round_count ls ≤ k → is_in (rounds ls k) i ≡ false)
    × ((k : ℕ) → k < round_count ls → (i : ℕ) × (is_in (rounds ls k) i ≡ true))

-- Whoever goes out in a round has the dearest of all stands whose holders were in when the round began.
unfoldable pub DearestOfThoseIn : Type 0
DearestOfThoseIn =
    (ls : Lists) (k i : ℕ) → is_in (rounds ls k) i ≡ true → is_in (rounds ls (suc k)) i ≡ false →
    (is_in (rounds ls k) (result ls i) ≡ true) × ((t : ℕ) → is_in (rounds ls k) t ≡ true → rank ls i (result ls i) ≤ rank ls i t)

-- ---- results

-- Nobody has a stand less dear than the own one.
unfoldable pub NeverLessDear : Type 0
NeverLessDear = (ls : Lists) (i : ℕ) → i < length ls → rank ls i (result ls i) ≤ rank ls i i

-- Rings may be taken out one at a time, in any order: every run gives everybody the result.
unfoldable pub AnyOrder : Type 0
AnyOrder = (ls : Lists) (end : Standing) → Run ls end (all_in ls) → (i : ℕ) → i < length ls → slice_index_or end.got i i ≡ result ls i

-- And there is such a run.
unfoldable pub SomeOrder : Type 0
SomeOrder = (ls : Lists) → (end : Standing) × Run ls end (all_in ls)

-- What a list says after the stand that its trader gets does not matter: whatever else stands there, everybody gets the same.
-- (The own stand comes after the last one listed. A trader who keeps it has nothing after the stand got.)
unfoldable pub OnlyTheTopMatters : Type 0
OnlyTheTopMatters =
    (ls : Lists) (i : ℕ) (top rest other : List ℕ) → i < length ls → slice_index_or ls i [] ≡ top ++ (result ls i ∷ rest) →
    (j : ℕ) → j < length ls → result (slice_set ls i (top ++ (result ls i ∷ other))) j ≡ result ls j

-- ---- groups

-- `share` gives each of a group a stand of the group, all different, and none less dear to its trader than what σ gives.
pub record GroupShare (ls : Lists) (σ : ℕ → ℕ) (group : ℕ → Bool) (share : ℕ → ℕ) : Type 0 where
  pub within : (i : ℕ) → i < length ls → group i ≡ true → (share i < length ls) × (group (share i) ≡ true)
  pub apart : (i j : ℕ) → i < length ls → j < length ls → group i ≡ true → group j ≡ true → share i ≡ share j → i ≡ j
  pub no_worse : (i : ℕ) → i < length ls → group i ≡ true → rank ls i (share i) ≤ rank ls i (σ i)

-- A group does better than by σ: such a share, by which somebody of the group has a dearer stand.
unfoldable pub Bettered : Lists → (ℕ → ℕ) → (ℕ → Bool) → Type 0
Bettered ls σ group =
    (share : ℕ → ℕ) × GroupShare ls σ group share × ((i : ℕ) × (i < length ls) × (group i ≡ true) × (rank ls i (share i) < rank ls i (σ i)))

-- No group could do better than by σ: every such share is that of σ.
unfoldable pub Unbettered : Lists → (ℕ → ℕ) → Type 0
Unbettered ls σ =
    (group : ℕ → Bool) (share : ℕ → ℕ) → GroupShare ls σ group share → (i : ℕ) → i < length ls → group i ≡ true → share i ≡ σ i

-- σ gives each trader a stand, all different
unfoldable pub Sharing : Lists → (ℕ → ℕ) → Type 0
Sharing ls σ =
    ((i : ℕ) → i < length ls → σ i < length ls) × ((i j : ℕ) → i < length ls → j < length ls → σ i ≡ σ j → i ≡ j)

-- No group could do better than by the result.
unfoldable pub ResultUnbettered : Type 0
ResultUnbettered = (ls : Lists) → Sharing ls (result ls) × Unbettered ls (result ls)

-- And of no other sharing of the stands this is so.
unfoldable pub CoreUnique : Type 0
CoreUnique = (ls : Lists) (σ : ℕ → ℕ) → Sharing ls σ → Unbettered ls σ → (i : ℕ) → i < length ls → σ i ≡ result ls i

-- No group does better than by the result, not even where only one of it has a dearer stand.
unfoldable pub NoGroupDoesBetter : Type 0
NoGroupDoesBetter = (ls : Lists) (group : ℕ → Bool) → Bettered ls (result ls) group → ⊥

-- By every other sharing of the stands some group does better.
unfoldable pub OthersAreBettered : Type 0
OthersAreBettered =
    (ls : Lists) (σ : ℕ → ℕ) → Sharing ls σ → (i : ℕ) → i < length ls → (σ i ≢ result ls i) → (group : ℕ → Bool) × Bettered ls σ group

-- ---- sheets

-- The results and the rounds of the exchange are a valid sheet.
unfoldable pub OwnSheetValid : Type 0
OwnSheetValid = (ls : Lists) → ValidSheet ls (result ls) (out ls)

-- Every valid sheet has the results of the exchange.
unfoldable pub ValidSheetIsTheResult : Type 0
ValidSheetIsTheResult = (ls : Lists) (got later : ℕ → ℕ) → ValidSheet ls got later → (i : ℕ) → i < length ls → got i ≡ result ls i

-- In a valid sheet nobody has a lower round than in the exchange.
unfoldable pub LeastRounds : Type 0
LeastRounds = (ls : Lists) (got later : ℕ → ℕ) → ValidSheet ls got later → (i : ℕ) → i < length ls → out ls i ≤ later i

-- the trader who stands m places after trader i on i's ring: each got the stand of the next
abbrev pub along : Lists → ℕ → ℕ → ℕ
along ls i m = steps (result ls) m i

-- stand t is dearer to trader j than the one that j got
abbrev pub DearerThanGot : Lists → ℕ → ℕ → Type 0
DearerThanGot ls j t = (t < length ls) × (rank ls j t < rank ls j (result ls j))

-- A trader's round is one more than the highest round among the holders of the stands that are dearer to the members of its
-- ring than those they got, or 0 where there are none: all of those holders have a lower round, and if the trader's round is
-- not 0, one of them has the round just before.
unfoldable pub RoundsByRings : Type 0
RoundsByRings =
    (ls : Lists) (i : ℕ) → i < length ls →
    ((m t : ℕ) → DearerThanGot ls (along ls i m) t → out ls t < out ls i)
    × ((r : ℕ) → out ls i ≡ suc r → (m : ℕ) × (t : ℕ) × DearerThanGot ls (along ls i m) t × (out ls t ≡ r))
