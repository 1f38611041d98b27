-- What the exchange promises. Each statement is a type whose proof is owed; a function's contract names it.
use Rattle.std.specs.Prelude.{◌≡◌, ℕ, suc, ◌<◌, ◌≤◌, Bool, true, false, cond, List, [], ◌∷◌, length, ◌==◌, ◌≢◌, slice_index, slice_index_or, slice_set}
use Rattle.theory.specs.Trade.{Lists, is_in, rounds, result}

-- the numbers of a list are all different, and below n
unfoldable pub Distinct : ℕ → List ℕ → Type 0
Distinct n cs =
    ((j k : ℕ) → j < length cs → k < length cs → slice_index cs j ≡ slice_index cs k → j ≡ k)
    × ((j : ℕ) → j < length cs → slice_index_or cs j n < n)

-- Proper lists: every listed stand exists, and nobody lists a stand twice or the own one.
unfoldable pub Proper : Lists → Type 0
Proper ls =
    (i : ℕ) → i < length ls →
    Distinct (length ls) (slice_index_or ls i []) × ((j : ℕ) → j < length (slice_index_or ls i []) → slice_index (slice_index_or ls i []) j ≢ i)

-- the rank of stand t for trader i, by a list: its place in it; then comes the own stand, and then all others
unfoldable pub rank_in : List ℕ → ℕ → ℕ → ℕ
rank_in [] i t = cond (i == t) 0 1
rank_in (u ∷ us) i t = cond (u == t) 0 (suc (rank_in us i t))

-- The rank of stand t for trader i: a lower rank is dearer.
unfoldable pub rank : Lists → ℕ → ℕ → ℕ
rank ls i t = rank_in (slice_index_or ls i []) i t

-- Nobody gains by a list that is not true: whatever other list trader i might give, what it then gets is not dearer to it,
-- by its true list, than what the true list gets.
unfoldable pub Truthful : Type 0
Truthful =
    (ls : Lists) (i : ℕ) (honest other : List ℕ) → i < length ls → Proper (slice_set ls i honest) → Proper (slice_set ls i other) →
    rank_in honest i (result (slice_set ls i honest) i) ≤ rank_in honest i (result (slice_set ls i other) i)

-- No group could do better among themselves: whoever shares a group's stands among the group so that none of them has a
-- stand less dear than the result gives, gives each of them the result.
unfoldable pub Core : Type 0
Core =
    (ls : Lists) (group : ℕ → Bool) (share : ℕ → ℕ) → Proper ls →
    ((i : ℕ) → i < length ls → group i ≡ true → (share i < length ls) × (group (share i) ≡ true)) →
    ((i j : ℕ) → i < length ls → j < length ls → group i ≡ true → group j ≡ true → share i ≡ share j → i ≡ j) →
    ((i : ℕ) → i < length ls → group i ≡ true → rank ls i (share i) ≤ rank ls i (result ls i)) →
    (i : ℕ) → i < length ls → group i ≡ true → share i ≡ result ls i

-- Everybody has one stand, all different, and nobody has a stand less dear than the own one.
unfoldable pub Shared : Type 0
Shared =
    (ls : Lists) → Proper ls →
    ((i : ℕ) → i < length ls → result ls i < length ls)
    × ((i j : ℕ) → i < length ls → j < length ls → result ls i ≡ result ls j → i ≡ j)
    × ((i : ℕ) → i < length ls → rank ls i (result ls i) ≤ rank ls i i)

-- After as many rounds as there are traders, nobody is in.
unfoldable pub Ends : Type 0
Ends = (ls : Lists) (i : ℕ) → Proper ls → i < length ls → is_in (rounds ls (length ls)) i ≡ false
