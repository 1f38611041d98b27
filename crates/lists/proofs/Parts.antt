-- The bytes of an accepted year, taken apart list by list.
use Rattle.std.proofs.Common.{◌≡◌, ℕ, zero, suc, ◌+◌, ◌-◌, ◌*◌, ◌<◌, ◌≤◌, List, [], ◌∷◌, ◌++◌, length, get_or, take, drop, None, Ok, Result, sym, refl, ap, ◌∙◌, arith}
use Rattle.std.proofs.lemmas.List.{length-append, length-drop, drop_more, take_at, drop_at, take_all, take_rest}
use Rattle.theory.specs.Trade.{Lists}
use Rattle.refusals.specs.declared.Refusal.{Refusal}
use Rattle.lists.specs.Format.{AreLists, IsList, IsYear, count_fault, end_fault, lists_fault, unless, encode, encode_list, encode_lists, encode_stands, fault, list_bytes, list_fault, lists_from, lists_of, next_start, number_at, numbers}
use Rattle.lists.proofs.Accepted.{good_length, good_list, good_numbers}
use Rattle.lists.proofs.Faults.{count_right, no_fault}
use Rattle.lists.proofs.Encoding.{length_of_stands, lists_again, stands_again, stands_written, writes_what_was_read}
use Rattle.lists.proofs.Positions.{count_from, count_of_lists}

-- one list by itself
pub list_of_stands : (ts : List ℕ) → numbers (list_bytes (encode_list ts) 0) ≡ ts
list_of_stands ts = rw (take_all (2 * length ts) (encode_stands ts) (omega (arith, length_of_stands ts))) (stands_again ts)

pub one_list : (bs ts : List ℕ) → bs ≡ encode_list ts → length ts ≤ 40 → IsList bs
one_list bs ts is few = rw is (record { short = rw (list_of_stands ts) few; whole = ap encode_list (sym (list_of_stands ts)) })

-- a list that was accepted by itself
pub accepted_list : (bs : List ℕ) (own : ℕ) → list_fault bs 4000 own 0 ≡ None → length bs ≤ next_start bs 0 →
    ((k : ℕ) → k < length bs → get_or bs k 0 < 256) → IsList bs
accepted_list bs own right end bytes =
    let good = good_list bs 4000 own 0 right in
    let c = get_or bs 0 0 in
    let stands : encode_stands (numbers (list_bytes bs 0)) ≡ take (2 * c) (drop 1 bs) =
    rw (good_numbers bs 4000 own 0 good) (stands_written bs bytes c 1 good.within) in
    let rest = length-drop 1 bs in
    let all = take_all (2 * c) (drop 1 bs) (omega arith) in
    let whole = drop_more bs 0 0 (omega (arith, good.within)) in
    one_list bs (numbers (list_bytes bs 0)) (whole ∙ sym (cc (good_length bs 4000 own 0 good, stands, all)))
    (rw (good_length bs 4000 own 0 good) good.short)

-- the lists ls that are left, each short, are those that their bytes give
pub lists_are : (bs : List ℕ) (ls : Lists) (k : ℕ) → bs ≡ encode_lists ls → length ls ≡ k → lists_from bs k 0 ≡ ls
lists_are bs ls k is count = rw (← count) (lists_again bs ls 0 is)

pub all_lists : (bs : List ℕ) (ls : Lists) (k : ℕ) → bs ≡ encode_lists ls → length ls ≡ k →
    ((i : ℕ) → i < k → length (get_or ls i []) ≤ 40) → AreLists bs k
all_lists bs ls k is count few =
    let are = lists_are bs ls k is count in
    record { short = λ i h. rw are (few i h); whole = rw are is }

-- the first of them, and the others
module _ (bs : List ℕ) (k : ℕ) (left : AreLists bs (suc k)) where
  abbrev first : List ℕ
  first = numbers (list_bytes bs 0)

  abbrev others : Lists
  others = lists_from bs k (next_start bs 0)

  both : bs ≡ encode_list first ++ encode_lists others
  unfolding lists_from encode_lists
  both = left.whole

  first_count : get_or bs 0 0 ≡ length first
  first_count = ap (λ xs. get_or xs 0 0) both

  first_size : length (encode_list first) ≡ 1 + 2 * get_or bs 0 0
  first_size =
      let stands = length_of_stands first in
      let count = first_count in
      omega arith

  pub first_within : 1 + 2 * get_or bs 0 0 ≤ length bs
  first_within =
      let whole = ap length both ∙ length-append (encode_list first) (encode_lists others) in
      let size = first_size in
      omega arith

  first_part : take (1 + 2 * get_or bs 0 0) bs ≡ encode_list first
  first_part = ap (take (1 + 2 * get_or bs 0 0)) both ∙ take_at (encode_list first) (encode_lists others) _ first_size

  other_part : drop (1 + 2 * get_or bs 0 0) bs ≡ encode_lists others
  other_part = ap (drop (1 + 2 * get_or bs 0 0)) both ∙ drop_at (encode_list first) (encode_lists others) _ first_size

  pub first_is : numbers (list_bytes (take (1 + 2 * get_or bs 0 0) bs) 0) ≡ first
  first_is = rw first_part (list_of_stands first)

  pub first_list : IsList (take (1 + 2 * get_or bs 0 0) bs)
  unfolding lists_from
  first_list = one_list _ first first_part (left.short 0 (omega arith))

  pub others_are : lists_from (drop (1 + 2 * get_or bs 0 0) bs) k 0 ≡ others
  others_are = lists_are _ others k other_part (count_from bs k (next_start bs 0))

  pub other_lists : AreLists (drop (1 + 2 * get_or bs 0 0) bs) k
  unfolding lists_from
  other_lists = all_lists _ others k other_part (count_from bs k (next_start bs 0)) (λ i h. left.short (suc i) (omega arith))

  pub first_of_all : lists_from bs (suc k) 0 ≡ numbers (list_bytes (take (1 + 2 * get_or bs 0 0) bs) 0) ∷ lists_from (drop (1 + 2 * get_or bs 0 0) bs) k 0
  unfolding lists_from
  first_of_all = rw (first_is, others_are) refl

-- accepted bytes
pub accepted_year : (bs : List ℕ) → fault bs ≡ None → ((k : ℕ) → k < length bs → get_or bs k 0 < 256) → IsYear bs (number_at bs 0)
accepted_year bs accepted bytes =
    let both = writes_what_was_read bs bytes accepted in
    record { count = sym (count_of_lists bs); can = both.0; whole = sym both.1 }

-- what is read: the count, as many lists, and nothing after them
pub read_year : (bs : List ℕ) (n end : ℕ) (u : Unit {0}) → ◌≡◌ {A = Result ℕ Refusal} (Ok n) (unless (count_fault bs) (number_at bs 0)) →
    lists_fault bs n 0 n 2 ≡ end_fault bs end → ◌≡◌ {A = Result (Unit {0}) Refusal} (Ok u) (unless (end_fault bs end) tt) →
    ((k : ℕ) → k < length bs → get_or bs k 0 < 256) → IsYear bs n
read_year bs n end u count lists ends bytes =
    let c = no_fault (count_fault bs) _ _ count in
    let all : fault bs ≡ None = count_right bs c.0 ∙ rw (← c.1) (lists ∙ (no_fault (end_fault bs end) _ _ ends).0) in
    rw c.1 (accepted_year bs all bytes)

-- the bytes of a year, past the count of its traders
module _ (bs : List ℕ) (n : ℕ) (year : IsYear bs n) where
  rest_of_year : take (length bs - 2) (drop 2 bs) ≡ encode_lists (lists_of bs)
  unfolding encode
  rest_of_year = take_rest bs 2 ∙ ap (drop 2) year.whole

  pub year_are : lists_from (take (length bs - 2) (drop 2 bs)) n 0 ≡ lists_of bs
  year_are = lists_are _ (lists_of bs) n rest_of_year (sym year.count)

  pub year_lists : AreLists (take (length bs - 2) (drop 2 bs)) n
  year_lists = all_lists _ (lists_of bs) n rest_of_year (sym year.count) (λ i h. year.can.short i (omega (arith, year.count)))

  pub year_begins : 2 ≤ length bs
  unfolding encode
  year_begins = let whole = ap length year.whole in omega arith

-- where some bytes are left, some lists are
pub some_left : (bs : List ℕ) (k : ℕ) → AreLists bs k → 0 < length bs → 0 < k
unfolding lists_from encode_lists
some_left bs zero left h = absurd (omega (arith, ap length left.whole))
some_left bs (suc k) left h = omega arith

pub none_left : (bs : List ℕ) (k : ℕ) → AreLists bs k → length bs ≤ 0 → lists_from bs k 0 ≡ []
unfolding lists_from encode_lists
none_left bs zero left h = refl
none_left bs (suc k) left h = absurd (omega (arith, first_within bs k left))

-- where some bytes are left: the first of them, and the others
module _ (bs : List ℕ) (k : ℕ) (left : AreLists bs k) (some : 0 < length bs) where
  one_more : k ≡ suc (k - 1)
  one_more = omega (arith, some_left bs k left some)

  left_more : AreLists bs (suc (k - 1))
  left_more = rw (← one_more) left

  pub part_within : 1 + 2 * get_or bs 0 0 ≤ length bs
  part_within = first_within bs (k - 1) left_more

  pub part_is_list : IsList (take (1 + 2 * get_or bs 0 0) bs)
  part_is_list = first_list bs (k - 1) left_more

  pub rest_are_lists : AreLists (drop (1 + 2 * get_or bs 0 0) bs) (k - 1)
  rest_are_lists = other_lists bs (k - 1) left_more

  pub part_and_rest : lists_from bs k 0 ≡ numbers (list_bytes (take (1 + 2 * get_or bs 0 0) bs) 0) ∷ lists_from (drop (1 + 2 * get_or bs 0 0) bs) (k - 1) 0
  part_and_rest = ap (λ m. lists_from bs m 0) one_more ∙ first_of_all bs (k - 1) left_more
