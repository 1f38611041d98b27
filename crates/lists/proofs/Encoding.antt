-- What is written is read again, and what is read is written again.
use Rattle.std.proofs.Common.{◌≡◌, ℕ, zero, suc, ◌+◌, ◌*◌, ◌/◌, ◌%◌, ◌<◌, ◌≤◌, true, List, [], ◌∷◌, ◌++◌, length, get_or, take, drop, None, sym, refl, ◌∙◌, mod-eq_of_lt, arith}
use native.Mathlib.Nat.{mod-add-div, add-mul-mod_self_left}
use Rattle.std.proofs.lemmas.List.{length-append, length-drop, get_or-append-add, get_or_default, get_or-drop, drop-drop, drop_more, drop_all, take_at, drop_at, take-append-drop}
use Rattle.std.proofs.lemmas.Bool.{and_from, le-ltb, lt-ltb}
use Rattle.theory.specs.Promise.{Distinct, Proper}
use Rattle.theory.specs.Trade.{Lists}
use Rattle.lists.proofs.Faults.{may_list}
use Rattle.lists.specs.Format.{number_at, numbers, list_bytes, next_start, lists_from, lists_of, list_fault, lists_fault, Encodable, bytes_of, encode_stands, encode_lists, encode, ReadsWhatWasWritten, WritesWhatWasRead}
use Rattle.lists.proofs.Faults.{listable}
use Rattle.lists.proofs.Positions.{numbers_from, two_bytes, numbers_are, count_of_lists}
use Rattle.lists.proofs.Accepted.{all_may, may_more, Good, good_list, list_good, good_numbers, good_length, good_end, no_fault_both, two_there, lists_good, accepted_encodable}

-- a number's two bytes give the number, and two bytes are the bytes of their number
pub number_of_bytes : (x : ℕ) → x % 256 + 256 * (x / 256) ≡ x
number_of_bytes x = mod-add-div x 256

pub bytes_of_number : (low high : ℕ) → low < 256 → bytes_of (low + 256 * high) ≡ low ∷ high ∷ []
bytes_of_number low high h =
    let first : (low + 256 * high) % 256 ≡ low = add-mul-mod_self_left low 256 high ∙ mod-eq_of_lt h in
    let second : (low + 256 * high) / 256 ≡ high = omega arith in
    rw (first, second)

-- a byte and a number past a first part
pub byte_after : (xs ys : List ℕ) (p q : ℕ) → q ≡ length xs + p → get_or (xs ++ ys) q 0 ≡ get_or ys p 0
byte_after xs ys p q is = rw is (get_or-append-add xs ys p 0)

pub number_after : (xs ys : List ℕ) (p q : ℕ) → q ≡ length xs + p → number_at (xs ++ ys) q ≡ number_at ys p
number_after xs ys p q is =
    let e : length xs + p + 1 ≡ length xs + (p + 1) = omega arith in
    rw (is, e, get_or-append-add xs ys p 0, get_or-append-add xs ys (p + 1) 0)

-- what is written of a list, and what is read of that
pub length_of_stands : (ts : List ℕ) → length (encode_stands ts) ≡ 2 * length ts
unfolding encode_stands
length_of_stands [] = refl
length_of_stands (t ∷ ts) = let ih = length_of_stands ts in omega arith

pub stands_again : (ts : List ℕ) → numbers (encode_stands ts) ≡ ts
unfolding encode_stands numbers
stands_again [] = refl
stands_again (t ∷ ts) = rw (number_of_bytes t, stands_again ts)

-- the bytes from p on are those of a list and of what follows
module _ (bs : List ℕ) (p : ℕ) (l : List ℕ) (rest : List ℕ)
    (here : drop p bs ≡ (length l ∷ encode_stands l) ++ rest) where
  pub written_count : get_or bs p 0 ≡ length l
  written_count =
      let e : p + 0 ≡ p = omega arith in
      let first : get_or (drop p bs) 0 0 ≡ get_or bs (p + 0) 0 = get_or-drop p bs 0 0 in
      sym (rw e at first) ∙ rw here

  written_after : drop (p + 1) bs ≡ encode_stands l ++ rest
  written_after = sym (drop-drop 1 p bs) ∙ rw here

  pub written_bytes : list_bytes bs p ≡ encode_stands l
  written_bytes = rw (written_count, written_after) (take_at (encode_stands l) rest _ (length_of_stands l))

  pub written_list : numbers (list_bytes bs p) ≡ l
  written_list = rw written_bytes (stands_again l)

  pub written_rest : drop (next_start bs p) bs ≡ rest
  written_rest =
      rw written_count (sym (drop-drop (2 * length l) (p + 1) bs) ∙ rw written_after (drop_at (encode_stands l) rest _ (length_of_stands l)))

  pub written_within : next_start bs p ≤ length bs
  written_within =
      let all : length (drop p bs) ≡ suc (length (encode_stands l ++ rest)) = rw here in
      let parts = length-append (encode_stands l) rest in
      let stands = length_of_stands l in
      let left = length-drop p bs in
      rw written_count (omega arith)

  pub written_good : (n own : ℕ) → length l ≤ 40 → all_may n own [] l ≡ true → Good bs n own p
  written_good n own few may =
      let within = written_within in
      let same = sym (numbers_are bs (get_or bs p 0) (p + 1) within) ∙ written_list in
      record { short = rw written_count few; within = within; may = rw same may }

pub lists_again : (bs : List ℕ) (ls : Lists) (p : ℕ) → drop p bs ≡ encode_lists ls → lists_from bs (length ls) p ≡ ls
unfolding encode_lists lists_from
lists_again bs [] p here = refl
lists_again bs (l ∷ ls) p here =
    let one = written_list bs p l (encode_lists ls) here in
    let more = lists_again bs ls (next_start bs p) (written_rest bs p l (encode_lists ls) here) in
    cc (one, more)

pub lists_accepted : (bs : List ℕ) (n : ℕ) (ls : Lists) (own p : ℕ) → drop p bs ≡ encode_lists ls →
    ((i j : ℕ) → j ≡ own + i → i < length ls → (length (get_or ls i []) ≤ 40) × (all_may n j [] (get_or ls i []) ≡ true)) →
    lists_fault bs n own (length ls) p ≡ None
unfolding encode_lists lists_fault
lists_accepted bs n [] own p here good =
    let left : length (drop p bs) ≡ 0 = rw here in
    let end = length-drop p bs in
    rw (le-ltb p (length bs) (omega arith))
lists_accepted bs n (l ∷ ls) own p here good =
    let first = good 0 own (omega arith) (omega arith) in
    let none = list_good bs n own p (written_good bs p l (encode_lists ls) here n own first.0 first.1) in
    let more = lists_accepted bs n ls (suc own) (next_start bs p) (written_rest bs p l (encode_lists ls) here)
    (λ i j is h. good (suc i) j (omega arith) (omega arith)) in
    rw none more

-- stands that exist, all different and none the own one, may all be listed
pub all_may_from : (n own : ℕ) (before ts : List ℕ) →
    ((j : ℕ) → j < length ts → may_list n own before (get_or ts j 0) ≡ true) →
    ((j k : ℕ) → j < length ts → k < length ts → get_or ts j 0 ≡ get_or ts k 0 → j ≡ k) →
    all_may n own before ts ≡ true
all_may_from n own before [] each apart = refl
all_may_from n own before (t ∷ ts) each apart =
    and_from _ _ (each 0 (omega arith))
    (
    all_may_from n own (t ∷ before) ts
    (
    λ j h. may_more n own (get_or ts j 0) t before (each (suc j) (omega arith))
    (λ e. let z : 0 ≡ suc j = apart 0 (suc j) (omega arith) (omega arith) e in omega arith)
    )
    (λ j k hj hk e. let up : suc j ≡ suc k = apart (suc j) (suc k) (omega arith) (omega arith) e in omega arith)
    )

pub proper_may : (ls : Lists) → Proper ls → (i : ℕ) → i < length ls → all_may (length ls) i [] (get_or ls i []) ≡ true
unfolding Proper Distinct
proper_may ls proper i h =
    let l = get_or ls i [] in
    all_may_from (length ls) i [] l
    (
    λ j hj. listable (length ls) i (get_or l j 0) []
    (rw (get_or_default l j 0 (length ls) hj) ((proper i h).0.1 j hj)) ((proper i h).1 j hj) refl
    )
    (proper i h).0.0

-- what is read of bytes, written again
module _ (bs : List ℕ) (bytes : (k : ℕ) → k < length bs → get_or bs k 0 < 256) where
  pub stands_written : (k p : ℕ) → p + 2 * k ≤ length bs → encode_stands (numbers_from bs k p) ≡ take (2 * k) (drop p bs)
  unfolding encode_stands
  stands_written zero p h = refl
  stands_written (suc k) p h =
      let two : 2 * suc k ≡ suc (suc (2 * k)) = omega arith in
      let ih = stands_written k (p + 2) (omega arith) in
      let number = bytes_of_number (get_or bs p 0) (get_or bs (p + 1) 0) (bytes p (omega arith)) in
      rw (two, two_bytes bs p (omega arith)) (cc (number, ih))

  pub lists_written : (n own k p : ℕ) → lists_fault bs n own k p ≡ None → encode_lists (lists_from bs k p) ≡ drop p bs
  unfolding encode_lists lists_from lists_fault
  lists_written n own zero p e = sym (drop_all p bs (good_end bs n own p e))
  lists_written n own (suc k) p e =
      let both = no_fault_both (list_fault bs n own p) (lists_fault bs n (suc own) k (next_start bs p)) e in
      let g = good_list bs n own p both.0 in
      let c = get_or bs p 0 in
      let ih = lists_written n (suc own) k (next_start bs p) both.1 in
      let stands : encode_stands (numbers (list_bytes bs p)) ≡ take (2 * c) (drop (p + 1) bs) =
      rw (good_numbers bs n own p g) (stands_written c (p + 1) g.within) in
      let split = take-append-drop (2 * c) (drop (p + 1) bs) in
      let rest = drop-drop (2 * c) (p + 1) bs in
      let whole = drop_more bs p 0 (omega (arith, g.within)) in
      rw (good_length bs n own p g, stands, ih, whole, ← rest, split)

pub writes_what_was_read : WritesWhatWasRead
unfolding encode lists_of
writes_what_was_read bs bytes accepted =
    let two = two_there bs accepted in
    let n = count_of_lists bs in
    let number = bytes_of_number (get_or bs 0 0) (get_or bs 1 0) (bytes 0 (omega arith)) in
    let rest = lists_written bs bytes (number_at bs 0) 0 (number_at bs 0) 2 (lists_good bs accepted) in
    let whole : bs ≡ get_or bs 0 0 ∷ get_or bs 1 0 ∷ drop 2 bs = two_bytes bs 0 two in
    (accepted_encodable bs accepted, cc (n, number, rest, whole))

-- What is written of encodable lists are bytes.
abbrev pub Bytes : List ℕ → Type 0
Bytes xs = (k : ℕ) → get_or xs k 0 < 256

bytes_more : (x : ℕ) (xs : List ℕ) → x < 256 → Bytes xs → Bytes (x ∷ xs)
bytes_more x xs h all zero = h
bytes_more x xs h all (suc k) = all k

bytes_none : Bytes []
bytes_none k = omega arith

bytes_both : (xs ys : List ℕ) → Bytes xs → Bytes ys → Bytes (xs ++ ys)
bytes_both [] ys left right = right
bytes_both (x ∷ xs) ys left right = bytes_more x (xs ++ ys) (left 0) (bytes_both xs ys (λ k. left (suc k)) right)

bytes_of_one : (x : ℕ) (xs : List ℕ) → x < 65536 → Bytes xs → Bytes (bytes_of x ++ xs)
bytes_of_one x xs h all =
    bytes_more (x % 256) (x / 256 ∷ xs) (omega arith) (bytes_more (x / 256) xs (omega arith) all)

stands_bytes : (ts : List ℕ) → ((j : ℕ) → j < length ts → get_or ts j 0 < 65536) → Bytes (encode_stands ts)
unfolding encode_stands
stands_bytes [] small = bytes_none
stands_bytes (t ∷ ts) small =
    bytes_of_one t (encode_stands ts) (small 0 (omega arith)) (stands_bytes ts (λ j h. small (suc j) (omega arith)))

lists_bytes : (ls : Lists) →
    ((i : ℕ) → i < length ls → (length (get_or ls i []) ≤ 40) × ((j : ℕ) → j < length (get_or ls i []) → get_or (get_or ls i []) j 0 < 65536)) →
    Bytes (encode_lists ls)
unfolding encode_lists
lists_bytes [] small = bytes_none
lists_bytes (l ∷ ls) small =
    let first = small 0 (omega arith) in
    let stands = stands_bytes l first.1 in
    let rest = lists_bytes ls (λ i h. small (suc i) (omega arith)) in
    bytes_more (length l) (encode_stands l ++ encode_lists ls) (omega (arith, first.0)) (bytes_both (encode_stands l) (encode_lists ls) stands rest)

pub writes_bytes : (ls : Lists) → Encodable ls → (k : ℕ) → get_or (encode ls) k 0 < 256
unfolding encode Proper Distinct
writes_bytes ls can =
    bytes_of_one (length ls) (encode_lists ls) (omega (arith, can.most))
    (
    lists_bytes ls
    (
    λ i h. (
      can.short i h,
      λ j hj. let below = (can.proper i h).0.1 j hj in
          rw (get_or_default (get_or ls i []) j 0 (length ls) hj) (omega (arith, below, can.most)),
    )
    )
    )

pub reads_what_was_written : ReadsWhatWasWritten
unfolding encode lists_of
reads_what_was_written ls can =
    let n = number_of_bytes (length ls) in
    let two = le-ltb (length (encode ls)) 2 (omega arith) in
    let some = lt-ltb 0 (length ls) can.somebody in
    let most = lt-ltb (length ls) 4001 (omega (arith, can.most)) in
    let accepted = lists_accepted (encode ls) (length ls) ls 0 2 refl
    (λ i j is h. let same : j ≡ i = omega arith in rw same (can.short i h, proper_may ls can.proper i h)) in
    (rw (two, n, some, most) accepted, rw n (lists_again (encode ls) ls 2 refl), writes_bytes ls can)
