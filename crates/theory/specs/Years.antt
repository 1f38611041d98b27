-- Years worked by hand: the lists, what each trader got, and the number of rounds.
use Rattle.std.specs.Prelude.{◌≡◌, ℕ, ◌<◌, true, List, [], ◌∷◌, length, ◌≢◌, slice_index, slice_index_or}
use Rattle.theory.specs.Trade.{Lists, result, round_count}
use Rattle.theory.specs.Promise.{rank}
use Rattle.theory.specs.Statements.{Bettered}

pub record Year : Type 0 where
  pub lists : Lists
  pub got : List ℕ
  pub count : ℕ

-- three traders on one ring
abbrev pub ring_of_three : Lists
ring_of_three = (1 ∷ 2 ∷ []) ∷ (2 ∷ 0 ∷ []) ∷ (0 ∷ 1 ∷ []) ∷ []

-- a ring of three that trader 0 points into
abbrev pub beside_a_ring : Lists
beside_a_ring = (1 ∷ []) ∷ (2 ∷ []) ∷ (3 ∷ []) ∷ (1 ∷ []) ∷ []

abbrev pub years : List Year
years =
    record { lists = ring_of_three; got = 1 ∷ 2 ∷ 0 ∷ []; count = 1 }
    ∷ record { lists = (1 ∷ []) ∷ (0 ∷ []) ∷ (0 ∷ 1 ∷ []) ∷ []; got = 1 ∷ 0 ∷ 2 ∷ []; count = 2 }
    ∷ record { lists = [] ∷ [] ∷ []; got = 0 ∷ 1 ∷ []; count = 1 }
    ∷ record { lists = (1 ∷ []) ∷ (2 ∷ []) ∷ (1 ∷ 0 ∷ []) ∷ []; got = 0 ∷ 2 ∷ 1 ∷ []; count = 2 }
    ∷ record { lists = beside_a_ring; got = 0 ∷ 2 ∷ 3 ∷ 1 ∷ []; count = 2 }
    ∷ record { lists = [] ∷ []; got = 0 ∷ []; count = 1 }
    ∷ []

-- the exchange gives what the year says
abbrev pub Right : Year → Type 0
Right y =
    (length y.got ≡ length y.lists)
    × ((i : ℕ) → i < length y.lists → result y.lists i ≡ slice_index y.got i)
    × (round_count y.lists ≡ y.count)

abbrev pub no_year : Year
no_year = record { lists = []; got = []; count = 0 }

-- The exchange gives in every year of the table what the table says.
unfoldable pub WorkedYears : Type 0
WorkedYears = (k : ℕ) → k < length years → Right (slice_index_or years k no_year)

-- Where three traders form a ring and all keep their own stands, all three together could do better.
unfoldable pub KeepingIsBettered : Type 0
KeepingIsBettered = Bettered ring_of_three (λ i. i) (λ i. true)

-- Where a ring has three members, exchanges of two are not enough: no two traders both list the other's stand, so that with
-- such exchanges alone everybody keeps the own stand; but that is not the result.
unfoldable pub PairsAreNotEnough : Type 0
PairsAreNotEnough =
    ((i j : ℕ) → i < 4 → j < 4 → rank beside_a_ring i j < rank beside_a_ring i i → rank beside_a_ring j i < rank beside_a_ring j j → ⊥)
    × ((i : ℕ) × (i < 4) × (result beside_a_ring i ≢ i))
