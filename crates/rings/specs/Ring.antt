-- Who is on a ring: n traders, of whom trader i points to the stand that the trader with the number next[i] holds.
use Rattle.std.specs.Prelude.{ℕ, zero, suc, ◌*◌, Bool, true, false, cond, ◌&&◌, ◌||◌, List, ◌++◌, map, length, take, drop, Ok, Err, Result, ◌==◌, nat_lt, slice_index, slice_index_or}
use Rattle.std.specs.Fn.{iterate}
use Rattle.std.specs.List.{range_with_len}
use Rattle.refusals.specs.declared.Lent.TheVariants.{Work}
use Rattle.refusals.specs.declared.Refusal.{Refusal}
use Rattle.refusals.specs.declared.Refusal.TheVariants.{WrongCount, TooShort}

-- the trader to whom one step leads; a number of n or more is nobody, and from nobody a step leads to nobody
unfoldable pub step : List ℕ → ℕ → ℕ
step next i = slice_index_or next i (length next)

-- the trader whom a walk of k steps reaches
unfoldable pub walk_along : List ℕ → ℕ → ℕ → ℕ
walk_along next k i = iterate (step next) k i

-- some walk of 1 to k steps comes back to trader i
unfoldable pub back : List ℕ → ℕ → ℕ → Bool
back next i zero = false
back next i (suc k) = cond (walk_along next (suc k) i == i) true (back next i k)

-- Trader i is on a ring: a walk of one or more steps, and at most as many as there are traders, brings it back to itself.
unfoldable pub on_ring_of : List ℕ → ℕ → Bool
on_ring_of next i = nat_lt i (length next) && back next i (length next)

-- 1 for a trader who is in and on a ring, and else 0
unfoldable pub flag : List ℕ → List ℕ → ℕ → ℕ
flag inside next i = cond (slice_index inside i == 1 && on_ring_of next i) 1 0

-- The flags of all traders, in the order of their numbers.
unfoldable pub ring_flags : List ℕ → List ℕ → List ℕ
ring_flags inside next = map (flag inside next) (range_with_len 0 (length next))

-- What the call answers: there are 1 to 4,000 traders, and the work slice has an entry and a flag for each.
abbrev pub answer : List ℕ → List ℕ → Result Unit Refusal
answer next work =
    cond (length next == 0 || nat_lt 4000 (length next)) (Err WrongCount)
    (cond (nat_lt (length work) (2 * length next)) (Err (TooShort Work)) (Ok tt))

-- the work slice with the flags behind the n entries
abbrev pub with_flags : List ℕ → List ℕ → List ℕ
with_flags next work = take (length next) work ++ (ring_flags (take (length next) work) next ++ drop (2 * length next) work)

-- How the call leaves the work slice: a refusal changes nothing.
abbrev pub left_by : Result Unit Refusal → List ℕ → List ℕ → List ℕ
left_by (Err e) next work = work
left_by (Ok u) next work = with_flags next work
