-- Where the lists of a year begin, and the numbers that stand there.
use Rattle.std.proofs.Common.{◌≡◌, ℕ, zero, suc, ◌+◌, ◌-◌, ◌*◌, ◌<◌, ◌≤◌, List, [], ◌∷◌, length, get_or, take, drop, refl, ap, ◌∙◌, add-one, arith}
use Rattle.std.proofs.lemmas.List.{drop_all, drop_more, length-drop, take_all}
use Rattle.lists.specs.Format.{start, next_start, number_at, numbers, list_bytes, lists_from, lists_of}

pub start_more : (bs : List ℕ) (i : ℕ) → start bs (i + 1) ≡ next_start bs (start bs i)
start_more bs i = rw (add-one i)

-- k two-byte numbers, the first of which begins at p
abbrev pub numbers_from : List ℕ → ℕ → ℕ → List ℕ
numbers_from bs zero p = []
numbers_from bs (suc k) p = number_at bs p ∷ numbers_from bs k (p + 2)

pub count_of_numbers : (bs : List ℕ) (k p : ℕ) → length (numbers_from bs k p) ≡ k
count_of_numbers bs zero p = refl
count_of_numbers bs (suc k) p = ap suc (count_of_numbers bs k (p + 2))

-- the bytes from p on begin with the two bytes of a number
pub two_bytes : (bs : List ℕ) (p : ℕ) → p + 2 ≤ length bs → drop p bs ≡ get_or bs p 0 ∷ get_or bs (p + 1) 0 ∷ drop (p + 2) bs
two_bytes bs p h =
    let one = drop_more bs p 0 (omega arith) in
    let next = drop_more bs (p + 1) 0 (omega arith) in
    let on : p + 1 + 1 ≡ p + 2 = omega arith in
    let next' : drop (p + 1) bs ≡ get_or bs (p + 1) 0 ∷ drop (p + 2) bs = rw on at next in
    one ∙ ap (◌∷◌ (get_or bs p 0)) next'

-- fewer than two bytes give no number
pub numbers_none : (xs : List ℕ) → length xs < 2 → numbers xs ≡ []
unfolding numbers
numbers_none [] h = refl
numbers_none (x ∷ []) h = refl
numbers_none (x ∷ y ∷ xs) h = absurd (omega arith)

-- two bytes and more give a number, and then those of the rest
pub numbers_more : (xs : List ℕ) → 2 ≤ length xs → numbers xs ≡ number_at xs 0 ∷ numbers (take (length xs - 2) (drop 2 xs))
unfolding numbers
numbers_more [] h = absurd (omega arith)
numbers_more (x ∷ []) h = absurd (omega arith)
numbers_more (x ∷ y ∷ xs) h =
    let rest : length (x ∷ y ∷ xs) - 2 ≡ length xs = omega arith in
    let all = take_all (length xs) xs (omega arith) in
    rw (rest, all)

pub numbers_fewer : (xs : List ℕ) → 2 ≤ length xs → length (numbers (take (length xs - 2) (drop 2 xs))) < length (numbers xs)
numbers_fewer xs h = rw (numbers_more xs h) (omega arith)

-- a part of the bytes that holds k numbers, read as numbers
pub numbers_are : (bs : List ℕ) (k p : ℕ) → p + 2 * k ≤ length bs → numbers (take (2 * k) (drop p bs)) ≡ numbers_from bs k p
unfolding numbers
numbers_are bs zero p h = refl
numbers_are bs (suc k) p h =
    let two : 2 * suc k ≡ suc (suc (2 * k)) = omega arith in
    let ih = numbers_are bs k (p + 2) (omega arith) in
    rw (two, two_bytes bs p (omega arith), ih)

-- where bytes are missing, the part is what is there
pub part_past : (bs : List ℕ) (p : ℕ) → length bs ≤ p → list_bytes bs p ≡ []
part_past bs p h = ap (take (2 * get_or bs p 0)) (drop_all (p + 1) bs (omega arith)) ∙ take_all (2 * get_or bs p 0) [] (omega arith)

pub part_short : (bs : List ℕ) (p : ℕ) → length bs < next_start bs p → list_bytes bs p ≡ drop (p + 1) bs
part_short bs p h = let left = length-drop (p + 1) bs in take_all (2 * get_or bs p 0) (drop (p + 1) bs) (omega arith)

-- the lists, one for each trader
pub count_from : (bs : List ℕ) (k p : ℕ) → length (lists_from bs k p) ≡ k
unfolding lists_from
count_from bs zero p = refl
count_from bs (suc k) p = ap suc (count_from bs k (next_start bs p))

pub count_of_lists : (bs : List ℕ) → length (lists_of bs) ≡ number_at bs 0
unfolding lists_of
count_of_lists bs = count_from bs (number_at bs 0) 2

pub list_is_from : (bs : List ℕ) (k i p j m : ℕ) → p ≡ start bs i → m ≡ i + j → j < k →
    get_or (lists_from bs k p) j [] ≡ numbers (list_bytes bs (start bs m))
unfolding lists_from
list_is_from bs zero i p j m at is h = absurd (omega arith)
list_is_from bs (suc k) i p zero m at is h = let same : m ≡ i = omega arith in rw (same, at)
list_is_from bs (suc k) i p (suc j) m at is h =
    list_is_from bs k (suc i) (next_start bs p) j m (ap (next_start bs) at) (omega arith) (omega arith)

pub list_is : (bs : List ℕ) (i : ℕ) → i < number_at bs 0 → get_or (lists_of bs) i [] ≡ numbers (list_bytes bs (start bs i))
unfolding lists_of
list_is bs i h = list_is_from bs (number_at bs 0) 0 2 i i refl (omega arith) h
