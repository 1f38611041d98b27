-- The exchange by top trading rings: n traders, numbered from 0, of whom trader i holds stand i at first.
-- Everything here is a definition; nothing is assumed.
use Rattle.std.specs.Prelude.{ℕ, zero, suc, Bool, true, false, cond, ◌&&◌, List, [], ◌∷◌, length, replicate, ◌==◌, slice_index, slice_index_or}

-- A list names the stands that are dearer to a trader than the own one, the dearest first. The own stand comes after the
-- last one listed, and a stand that is not listed is less dear than the own one. A year has one list for each trader.
abbrev pub Lists : Type 0
Lists = List (List ℕ)

-- Where an exchange stands: who is still in (1) or out (0), and the stand that each trader who is out has got.
pub record Standing : Type 0 where
  pub inside : List ℕ
  pub got : List ℕ

unfoldable pub is_in : Standing → ℕ → Bool
is_in s i = slice_index s.inside i == 1

-- the dearest stand of a list whose holder is in; the own one where there is none
unfoldable pub first_in : Standing → List ℕ → ℕ → ℕ
first_in s [] i = i
first_in s (t ∷ ts) i = cond (is_in s t) t (first_in s ts i)

-- the stand that trader i points to
unfoldable pub points : Lists → Standing → ℕ → ℕ
points ls s i = first_in s (slice_index_or ls i []) i

-- the trader whom a walk of k steps reaches: each step goes from a trader to the holder of the stand that it points to
unfoldable pub walk : Lists → Standing → ℕ → ℕ → ℕ
walk ls s zero i = i
walk ls s (suc k) i = walk ls s k (points ls s i)

-- some walk of 1 to k steps comes back to trader i
unfoldable pub comes_back : Lists → Standing → ℕ → ℕ → Bool
comes_back ls s i zero = false
comes_back ls s i (suc k) = cond (walk ls s (suc k) i == i) true (comes_back ls s i k)

-- A ring: traders each of whom points to the stand of the next, and the last to that of the first. Trader i is on one
-- if it is in and a walk of one or more steps brings it back to itself.
unfoldable pub on_ring : Lists → Standing → ℕ → Bool
on_ring ls s i = is_in s i && comes_back ls s i (length ls)

-- who is in after the round: all but those on rings
unfoldable pub gone : Lists → Standing → ℕ → List ℕ → List ℕ
gone ls s i [] = []
gone ls s i (x ∷ xs) = cond (on_ring ls s i) 0 x ∷ gone ls s (suc i) xs

-- who has what after the round: those on rings have what they point to
unfoldable pub taken : Lists → Standing → ℕ → List ℕ → List ℕ
taken ls s i [] = []
taken ls s i (x ∷ xs) = cond (on_ring ls s i) (points ls s i) x ∷ taken ls s (suc i) xs

-- A round: everybody who is in points; all traders on rings get what they point to and are out.
unfoldable pub round : Lists → Standing → Standing
round ls s = record { inside = gone ls s 0 s.inside; got = taken ls s 0 s.got }

-- k rounds from any standing, so with any set of participants
unfoldable pub rounds_from : Lists → Standing → ℕ → Standing
rounds_from ls s zero = s
rounds_from ls s (suc k) = round ls (rounds_from ls s k)

-- all traders are in, and nobody has got a stand yet
unfoldable pub all_in : Lists → Standing
all_in ls = record { inside = replicate (length ls) 1; got = replicate (length ls) 0 }

-- k rounds of the exchange
unfoldable pub rounds : Lists → ℕ → Standing
rounds ls k = rounds_from ls (all_in ls) k

-- The stand that trader i has at the end: as many rounds as there are traders are enough.
unfoldable pub result : Lists → ℕ → ℕ
result ls i = slice_index_or (rounds ls (length ls)).got i i

-- the round in which trader i goes out, counted from 0 at the standing s; at most k are looked at
unfoldable pub out_from : Lists → Standing → ℕ → ℕ → ℕ
out_from ls s zero i = 0
out_from ls s (suc k) i = cond (on_ring ls s i) 0 (suc (out_from ls (round ls s) k i))

-- The round, from 0, in which trader i goes out.
unfoldable pub out : Lists → ℕ → ℕ
out ls i = out_from ls (all_in ls) (length ls) i

-- nobody is in
unfoldable pub none_in : List ℕ → Bool
none_in [] = true
none_in (x ∷ xs) = cond (x == 1) false (none_in xs)

-- how many rounds it takes from the standing s until nobody is in; at most k are looked at
unfoldable pub count_from : Lists → Standing → ℕ → ℕ
count_from ls s zero = 0
count_from ls s (suc k) = cond (none_in s.inside) 0 (suc (count_from ls (round ls s) k))

-- The number of rounds of the exchange.
unfoldable pub round_count : Lists → ℕ
round_count ls = count_from ls (all_in ls) (length ls)
