-- When a paper hangs together, by itself and the trader's list. Its fields are numbered from 0: 0 own number, 1 round,
-- 2 stand got, 3 length of the ring, then the traders of the ring, then the count of the dearer stands, then the holder and
-- the round of each. The first field in fault is told; what goes on after the last field counts as one more.
use Rattle.std.specs.Prelude.{ℕ, zero, suc, ◌+◌, ◌*◌, Bool, true, cond, not, ◌&&◌, ◌||◌, List, [], ◌∷◌, length, Some, None, Option, ◌==◌, nat_lt}
use Rattle.std.specs.Option.{option_or}
use Rattle.refusals.specs.declared.Refusal.{Refusal}
use Rattle.refusals.specs.declared.Refusal.TheVariants.{PaperFault}
use Rattle.lists.specs.Format.{list_bytes, member, numbers, own_list_fault}
use Rattle.papers.specs.Paper.{count_on, count_place, dearer_than, gone_on, holder_on, own_on, ring_length, ring_on, round_on, stand_on}

-- field f is in fault where the paper ends before byte `end`, or where it is not right
abbrev pub field_fault : List ℕ → ℕ → ℕ → Bool → Option Refusal
field_fault paper f end right = cond (nat_lt (length paper) end) (Some (PaperFault f)) (cond right None (Some (PaperFault f)))

-- no year has a trader 4,000
abbrev pub own_fault : List ℕ → Option Refusal
own_fault paper = field_fault paper 0 2 (nat_lt (own_on paper) 4000)

abbrev pub round_fault : List ℕ → Option Refusal
round_fault paper = field_fault paper 1 4 true

-- the stand got is the own one or listed
abbrev pub stand_fault : List ℕ → List ℕ → Option Refusal
stand_fault l paper = field_fault paper 2 6 (stand_on paper == own_on paper || member (stand_on paper) l)

-- a ring has 1 to 4,000 traders: one just where the stand got is the own one
abbrev pub length_fault : List ℕ → Option Refusal
length_fault paper =
    field_fault paper 3 8
    (nat_lt 0 (ring_length paper) && (nat_lt (ring_length paper) 4001 && cond (stand_on paper == own_on paper) (ring_length paper == 1) (not (ring_length paper == 1))))

-- the ring begins with the own trader and goes on with the holder of the stand got
abbrev pub in_place : List ℕ → ℕ → Bool
in_place paper k = cond (k == 0) (ring_on paper k == own_on paper) (cond (k == 1) (ring_on paper k == stand_on paper) true)

-- the trader at place k of the ring can exist, is the right one, and was not named `again`
abbrev pub member_fault : List ℕ → ℕ → Bool → Option Refusal
member_fault paper k again = field_fault paper (4 + k) (10 + 2 * k) (nat_lt (ring_on paper k) 4000 && (in_place paper k && not again))

-- the first fault in the traders of the ring from place k on, of whom there are `left`; `before` are those before, the last first
unfoldable pub ring_fault : List ℕ → List ℕ → ℕ → ℕ → Option Refusal
ring_fault paper before zero k = None
ring_fault paper before (suc left) k =
    option_or (member_fault paper k (member (ring_on paper k) before)) (ring_fault paper (ring_on paper k ∷ before) left (suc k))

-- the count is that of the listed stands before the one got
abbrev pub count_fault : List ℕ → ℕ → Option Refusal
count_fault paper dearer = field_fault paper (4 + ring_length paper) (count_place paper + 1) (count_on paper == dearer)

-- the holder at place j is that of the list's stand t at that place
abbrev pub holder_fault : List ℕ → ℕ → ℕ → Option Refusal
holder_fault paper j t = field_fault paper (5 + ring_length paper + 2 * j) (count_place paper + 3 + 4 * j) (holder_on paper j == t)

-- and went out in an earlier round than the own trader
abbrev pub gone_fault : List ℕ → ℕ → Option Refusal
gone_fault paper j = field_fault paper (6 + ring_length paper + 2 * j) (count_place paper + 5 + 4 * j) (nat_lt (gone_on paper j) (round_on paper))

-- nothing follows the j dearer stands
abbrev pub end_fault : List ℕ → ℕ → Option Refusal
end_fault paper j = cond (nat_lt (count_place paper + 1 + 4 * j) (length paper)) (Some (PaperFault (5 + ring_length paper + 2 * j))) None

-- the first fault in the dearer stands ts from place j on, and then in what follows them
unfoldable pub dearer_fault : List ℕ → List ℕ → ℕ → Option Refusal
dearer_fault paper [] j = end_fault paper j
dearer_fault paper (t ∷ ts) j = option_or (holder_fault paper j t) (option_or (gone_fault paper j) (dearer_fault paper ts (suc j)))

-- the first fault of the four fields before the ring's traders
abbrev pub head_fault : List ℕ → List ℕ → Option Refusal
head_fault l paper = option_or (own_fault paper) (option_or (round_fault paper) (option_or (stand_fault l paper) (length_fault paper)))

-- the first fault of the count and of what follows it, where the stands ts are dearer
abbrev pub tail_fault : List ℕ → List ℕ → Option Refusal
tail_fault paper ts = option_or (count_fault paper (length ts)) (dearer_fault paper ts 0)

-- the first fault of a paper, for the trader whose list names the stands l
abbrev pub fields_fault : List ℕ → List ℕ → Option Refusal
fields_fault l paper =
    option_or (head_fault l paper) (option_or (ring_fault paper [] (ring_length paper) 0) (tail_fault paper (dearer_than (stand_on paper) l)))

-- the trader whose list it has to be: nobody where the paper ends before its number does
abbrev pub owner : List ℕ → ℕ
owner paper = cond (nat_lt (length paper) 2) 4000 (own_on paper)

-- The first fault of a trader's list and then of its paper; None where the paper is accepted.
abbrev pub paper_check_fault : List ℕ → List ℕ → Option Refusal
paper_check_fault list paper = option_or (own_list_fault list (owner paper)) (fields_fault (numbers (list_bytes list 0)) paper)
