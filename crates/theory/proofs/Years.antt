-- The worked years, by computing the definitions.
use Rattle.std.proofs.Common.{◌≡◌, ℕ, zero, suc, ◌<◌, Bool, true, not, ◌&&◌, eqb, ltb, List, [], ◌∷◌, length, get_or, sym, refl, ap, ◌∙◌, inl, inr, arith}
use Rattle.std.proofs.lemmas.Bool.{cases_lt, eqb-true, ltb-true, lt-ltb, and_parts, and_from, not-true, both_ways}
use Rattle.theory.specs.Trade.{is_in, first_in, points, walk, comes_back, on_ring, gone, taken, round, rounds_from, all_in, rounds, result, none_in, count_from, round_count}
use Rattle.theory.specs.Promise.{rank_in, rank}
use Rattle.theory.specs.Statements.{Bettered}
use Rattle.theory.specs.Years.{Year, years, no_year, Right, ring_of_three, beside_a_ring, WorkedYears, KeepingIsBettered, PairsAreNotEnough}

-- the test passes for all numbers below n
abbrev all_below : ℕ → (ℕ → Bool) → Bool
all_below zero p = true
all_below (suc n) p = p n && all_below n p

all_below_at : (n : ℕ) (p : ℕ → Bool) → all_below n p ≡ true → (i : ℕ) → i < n → p i ≡ true
all_below_at zero p e i l = absurd (omega arith)
all_below_at (suc n) p e i l =
    let h = and_parts (p n) (all_below n p) e in
    elim (cases_lt i n) [ inl m ↦ all_below_at n p h.1 i m | inr m ↦ (let q : i ≡ n = omega arith in rw q h.0) ]

-- a year as a test
right : Year → Bool
right y =
    eqb (length y.got) (length y.lists)
    && (all_below (length y.lists) (λ i. eqb (result y.lists i) (get_or y.got i 0)) && eqb (round_count y.lists) y.count)

all_right : List Year → Bool
unfolding right
all_right [] = true
all_right (y ∷ ys) = right y && all_right ys

right_is : (y : Year) → right y ≡ true → Right y
unfolding right
right_is y e =
    let a = and_parts (eqb (length y.got) (length y.lists))
    (all_below (length y.lists) (λ i. eqb (result y.lists i) (get_or y.got i 0)) && eqb (round_count y.lists) y.count) e in
    let b = and_parts (all_below (length y.lists) (λ i. eqb (result y.lists i) (get_or y.got i 0))) (eqb (round_count y.lists) y.count) a.1 in (
      eqb-true (length y.got) (length y.lists) a.0,
      λ i l. eqb-true (result y.lists i) (get_or y.got i 0) (all_below_at (length y.lists) (λ i. eqb (result y.lists i) (get_or y.got i 0)) b.0 i l),
      eqb-true (round_count y.lists) y.count b.1,
    )

all_right_at : (ys : List Year) → all_right ys ≡ true → (k : ℕ) → k < length ys → Right (get_or ys k no_year)
unfolding all_right
all_right_at [] e k l = absurd (omega arith)
all_right_at (y ∷ ys) e zero l = right_is y (and_parts (right y) (all_right ys) e).0
all_right_at (y ∷ ys) e (suc k) l = all_right_at ys (and_parts (right y) (all_right ys) e).1 k (omega arith)

-- the whole table, computed
years_right : all_right years ≡ true
unfolding all_right is_in first_in points walk comes_back on_ring gone taken round rounds_from all_in rounds result none_in count_from round_count
years_right = refl

pub worked_years : WorkedYears
unfolding WorkedYears
worked_years k l = all_right_at years years_right k l

-- ---- two years at closer sight

-- what each of the ring of three gets
turn : ℕ → ℕ
turn i = get_or (1 ∷ 2 ∷ 0 ∷ []) i 0

turn_below : (i : ℕ) → i < 3 → turn i < 3
unfolding turn
turn_below i l = ltb-true (turn i) 3 (all_below_at 3 (λ i. ltb (turn i) 3) refl i l)

turn_apart : (i j : ℕ) → i < 3 → j < 3 → turn i ≡ turn j → i ≡ j
unfolding turn
turn_apart i j l m e =
    let back : (i : ℕ) → i < 3 → get_or (2 ∷ 0 ∷ 1 ∷ []) (turn i) 0 ≡ i =
    λ i l. eqb-true (get_or (2 ∷ 0 ∷ 1 ∷ []) (turn i) 0) i (all_below_at 3 (λ i. eqb (get_or (2 ∷ 0 ∷ 1 ∷ []) (turn i) 0) i) refl i l) in
    sym (back i l) ∙ ap (λ x. get_or (2 ∷ 0 ∷ 1 ∷ []) x 0) e ∙ back j m

turn_dearer : (i : ℕ) → i < 3 → rank ring_of_three i (turn i) < rank ring_of_three i i
unfolding turn rank rank_in
turn_dearer i l = ltb-true (rank ring_of_three i (turn i)) (rank ring_of_three i i) (all_below_at 3 (λ i. ltb (rank ring_of_three i (turn i)) (rank ring_of_three i i)) refl i l)

pub keeping_is_bettered : KeepingIsBettered
unfolding KeepingIsBettered Bettered
keeping_is_bettered = (
  turn,
  record {
    within = λ i l g. (turn_below i l, refl);
    apart = λ i j l m g h. turn_apart i j l m;
    no_worse = λ i l g. (let d = turn_dearer i l in omega arith);
  },
  (0, omega arith, refl, turn_dearer 0 (omega arith)),
)

-- the two do not both gain by an exchange between them
apart_pair : ℕ → ℕ → Bool
apart_pair i j = not (ltb (rank beside_a_ring i j) (rank beside_a_ring i i) && ltb (rank beside_a_ring j i) (rank beside_a_ring j j))

no_pair : (i j : ℕ) → i < 4 → j < 4 → apart_pair i j ≡ true
unfolding apart_pair rank rank_in
no_pair i j l m = all_below_at 4 (apart_pair i) (all_below_at 4 (λ x. all_below 4 (apart_pair x)) refl i l) j m

pub pairs_are_not_enough : PairsAreNotEnough
unfolding PairsAreNotEnough apart_pair
pairs_are_not_enough = (
  λ i j l m a b. both_ways (ltb (rank beside_a_ring i j) (rank beside_a_ring i i) && ltb (rank beside_a_ring j i) (rank beside_a_ring j j))
      (not-true (ltb (rank beside_a_ring i j) (rank beside_a_ring i i) && ltb (rank beside_a_ring j i) (rank beside_a_ring j j)) (no_pair i j l m))
      (and_from (ltb (rank beside_a_ring i j) (rank beside_a_ring i i)) (ltb (rank beside_a_ring j i) (rank beside_a_ring j j))
      (lt-ltb (rank beside_a_ring i j) (rank beside_a_ring i i) a) (lt-ltb (rank beside_a_ring j i) (rank beside_a_ring j j) b)),
  (1, omega arith, λ e. (let h : result beside_a_ring 1 ≡ 2 = (all_right_at years years_right 4 (omega arith)).1 1 (omega arith) in omega arith)),
)
