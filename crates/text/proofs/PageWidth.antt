-- How wide the lines of a page are.
use Rattle.std.proofs.Common.{◌≡◌, ℕ, zero, suc, ◌+◌, ◌-◌, ◌*◌, ◌<◌, ◌≤◌, true, eqb, List, ◌++◌, length, get_or, None, codes, decimal, refl, ◌∙◌, inl, inr, arith}
use Rattle.std.proofs.lemmas.Fmt.{length-decimal-le}
use Rattle.std.proofs.lemmas.List.{get_or_default, get_or_past}
use Rattle.std.proofs.lemmas.Bool.{cases_Bool, cases_lt, ltb-true}
use Rattle.theory.specs.Promise.{Distinct}
use Rattle.lists.specs.Format.{end_fault, list_bytes, list_fault, next_start, number_at, numbers, own_list_fault}
use Rattle.lists.proofs.Accepted.{all_distinct, good_list, good_numbers, no_fault_both}
use Rattle.lists.proofs.Positions.{numbers_from}
use Rattle.papers.specs.Faults.{fields_fault, owner, paper_check_fault}
use Rattle.papers.specs.Paper.{count_on, dearer_than, gone_on, holder_on, own_on, ring_length, ring_on, round_on, stand_on}
use Rattle.papers.proofs.Agrees.{whole}
use Rattle.papers.proofs.Places.{dearer_few, dearer_there}
use Rattle.text.specs.Page.{Bytes, Narrow, PagesAreNarrow, PagesOfAnyBytes, fits, gone_lines, gone_text, got_text, head_text, page_of, ring_text, step_column, step_text, steps_text, width}
use Rattle.text.proofs.Columns.{Goes, goes_number, goes_on, goes_plain, goes_word, narrow, plain, plain_both, plain_decimal}

-- ---- numbers

byte_small : (paper : List ℕ) → Bytes paper → (p : ℕ) → get_or paper p 0 < 256
byte_small paper bytes p = elim (cases_lt p (length paper)) [ inl h ↦ bytes p h | inr h ↦ rw (get_or_past paper p 0 h) (omega arith) ]

number_small : (paper : List ℕ) → Bytes paper → (p : ℕ) → number_at paper p < 65536
number_small paper bytes p =
    let low = byte_small paper bytes p in
    let high = byte_small paper bytes (p + 1) in
    omega arith

five : (n : ℕ) → n < 65536 → width n ≤ 5
five n h = length-decimal-le 5 n (omega arith) (omega arith) (omega arith)

four : (n : ℕ) → n < 4000 → width n ≤ 4
four n h = length-decimal-le 4 n (omega arith) (omega arith) (omega arith)

-- ---- the parts of a page

got_plain : (own stand : ℕ) → stand < 65536 → (plain (got_text own stand) ≡ true) × (length (got_text own stand) ≤ 19)
got_plain own stand small = elim (cases_Bool (eqb stand own)) [
  | inl same ↦ rw same (refl, omega arith)
  | inr other ↦
      (let short = five stand small in
      rw other (plain_both (codes "You get stand ") (decimal stand) refl (plain_decimal stand (omega arith)), omega arith))
]

head_goes : (most own round stand : ℕ) → 72 ≤ most → own < 65536 → round < 65536 → stand < 65536 → Goes most 0 (head_text own round stand) 6
head_goes most own round stand wide small_own small_round small_stand =
    let o = five own small_own in
    let r = five round small_round in
    let got = got_plain own stand small_stand in
    let n = length (got_text own stand) in
    let m = n + 11 + width round in
    let ring : Goes most (n + 11 + width round) (codes ".\nRing: ") 6 = (omega arith, (omega arith, goes_plain most 0 6 (codes "Ring: ") refl refl (omega arith))) in
    let told : Goes most n (codes ", in round " ++ (decimal round ++ codes ".\nRing: ")) 6 =
    goes_word most n m 6 round (codes ", in round ") (codes ".\nRing: ") refl small_round refl (omega arith) ring in
    goes_word most 0 (7 + width own) 6 own (codes "Trader ") (codes "\n" ++ (got_text own stand ++ (codes ", in round " ++ (decimal round ++ codes ".\nRing: ")))) refl small_own refl (omega arith) (
      omega arith,
      goes_on most 0 n 6 (got_text own stand) (codes ", in round " ++ (decimal round ++ codes ".\nRing: "))
          (goes_plain most 0 n (got_text own stand) got.0 (omega arith) (omega arith)) told,
    )

step_goes : (most col x : ℕ) → 72 ≤ most → x < 65536 → col ≤ 72 → Goes most col (step_text col x) (step_column col x) × (step_column col x ≤ 72)
step_goes most col x wide small low = elim (cases_Bool (fits col x)) [
  | inl room_left ↦
      (let room = ltb-true (col + 4 + width x) 73 room_left in
      rw room_left (
        goes_on most col (col + 4) (col + 4 + width x) (codes " -> ") (decimal x) (goes_plain most col (col + 4) (codes " -> ") refl refl (omega arith))
            (goes_plain most (col + 4) (col + 4 + width x) (decimal x) (plain_decimal x (omega arith)) refl (omega arith)),
        omega arith,
      ))
  | inr full ↦
      (let short = five x small in
      rw full (
        (
          omega arith,
          goes_on most 0 3 (3 + width x) (codes "-> ") (decimal x) (goes_plain most 0 3 (codes "-> ") refl refl (omega arith))
              (goes_plain most 3 (3 + width x) (decimal x) (plain_decimal x (omega arith)) refl (omega arith)),
        ),
        omega arith,
      ))
]

module _ (most : ℕ) (paper : List ℕ) (wide : 72 ≤ most) (small : (p : ℕ) → number_at paper p < 65536) where
  steps_go : (left k col : ℕ) → col ≤ 72 → Goes most col (steps_text paper col left k) 0
  unfolding steps_text
  steps_go zero k col low =
      let step = step_goes most col (own_on paper) wide (small 0) low in
      goes_on most col (step_column col (own_on paper)) 0 (step_text col (own_on paper)) (codes "\n") step.0 (omega (arith, step.1), (omega arith, refl))
  steps_go (suc left) k col low =
      let step = step_goes most col (ring_on paper k) wide (small (8 + 2 * k)) low in
      goes_on most col (step_column col (ring_on paper k)) 0 (step_text col (ring_on paper k)) (steps_text paper (step_column col (ring_on paper k)) left (suc k)) step.0
      (steps_go left (suc k) (step_column col (ring_on paper k)) step.1)

  ring_goes : Goes most 6 (ring_text paper) 0
  unfolding ring_text
  ring_goes =
      let short = five (own_on paper) (small 0) in
      goes_number most 6 (6 + width (own_on paper)) 0 (own_on paper) (steps_text paper (6 + width (own_on paper)) (ring_length paper - 1) 1) (small 0) refl (omega arith)
      (steps_go (ring_length paper - 1) 1 (6 + width (own_on paper)) (omega arith))

gone_goes : (most holder round : ℕ) → holder < 65536 → round < 65536 → 64 + 2 * width holder ≤ most → Goes most 0 (gone_text holder round) 0
gone_goes most holder round small_holder small_round fit =
    let r = five round small_round in
    let end : Goes most (58 + 2 * width holder + width round) (codes ".\n") 0 = (omega arith, (omega arith, (omega arith, refl))) in
    goes_word most 0 (6 + width holder) 0 holder (codes "Stand ") _ refl small_holder refl (omega arith)
    (goes_word most (6 + width holder) (23 + 2 * width holder) 0 holder (codes ", held by trader ") _ refl small_holder (omega arith) (omega arith)
    (goes_word most (23 + 2 * width holder) (58 + 2 * width holder + width round) 0 round (codes ", was gone: they went out in round ") (codes ".\n") refl small_round (omega arith) (omega arith) end))

-- ---- the page

module _ (most : ℕ) (paper : List ℕ) (wide : 72 ≤ most) (bytes : Bytes paper) (fit : (j : ℕ) → j < count_on paper → 64 + 2 * width (holder_on paper j) ≤ most) where
  lines_go : (j : ℕ) → j ≤ count_on paper → Goes most 0 (gone_lines paper j) 0
  unfolding gone_lines
  lines_go zero few = (omega arith, refl)
  lines_go (suc j) few =
      goes_on most 0 0 0 (gone_lines paper j) (gone_text (holder_on paper j) (gone_on paper j)) (lines_go j (omega arith))
      (gone_goes most (holder_on paper j) (gone_on paper j) (number_small paper bytes _) (number_small paper bytes _) (fit j (omega arith)))

  page_narrow : Narrow most (page_of paper)
  unfolding page_of
  page_narrow =
      let small = number_small paper bytes in
      let head = head_goes most (own_on paper) (round_on paper) (stand_on paper) wide (small 0) (small 2) (small 4) in
      let rest = goes_on most 6 0 0 (ring_text paper) (gone_lines paper (count_on paper)) (ring_goes most paper wide small) (lines_go (count_on paper) (omega arith)) in
      narrow most 0 (page_of paper) (goes_on most 0 6 0 (head_text (own_on paper) (round_on paper) (stand_on paper)) (ring_text paper ++ gone_lines paper (count_on paper)) head rest)

-- ---- a paper that passes

-- every stand of an accepted list can exist
listed_exist : (list : List ℕ) (own : ℕ) → own_list_fault list own ≡ None → (j : ℕ) → j < length (numbers (list_bytes list 0)) →
    get_or (numbers (list_bytes list 0)) j 0 < 4000
unfolding Distinct
listed_exist list own e j h =
    let good = good_list list 4000 own 0 (no_fault_both (list_fault list 4000 own 0) (end_fault list (next_start list 0)) e).0 in
    let same = good_numbers list 4000 own 0 good in
    let h' : j < length (numbers_from list (get_or list 0 0) 1) = rw same at h in
    let apart = all_distinct 4000 own (numbers_from list (get_or list 0 0) 1) good.may in
    rw (same, get_or_default (numbers_from list (get_or list 0 0) 1) j 0 4000 h') (apart.0.1 j h')

-- so the holders on a paper that passes can exist: their stands are listed
holders_exist : (list paper : List ℕ) → paper_check_fault list paper ≡ None → (j : ℕ) → j < count_on paper → holder_on paper j < 4000
holders_exist list paper passes j h =
    let parts = no_fault_both (own_list_fault list (owner paper)) (fields_fault (numbers (list_bytes list 0)) paper) passes in
    let hangs = whole (numbers (list_bytes list 0)) paper parts.1 in
    let h' : j < length (dearer_than (stand_on paper) (numbers (list_bytes list 0))) = omega (arith, hangs.count) in
    let few = dearer_few (stand_on paper) (numbers (list_bytes list 0)) in
    let low = listed_exist list (owner paper) parts.0 j (omega arith) in
    let held = (hangs.dearer j h').0 ∙ dearer_there (stand_on paper) (numbers (list_bytes list 0)) j h' in
    rw held low

pub pages_are_narrow : PagesAreNarrow
unfolding PagesAreNarrow
pages_are_narrow list paper bytes passes =
    page_narrow 72 paper (omega arith) bytes (λ j h. let short = four (holder_on paper j) (holders_exist list paper passes j h) in omega arith)

pub pages_of_any_bytes : PagesOfAnyBytes
unfolding PagesOfAnyBytes
pages_of_any_bytes paper bytes =
    page_narrow 74 paper (omega arith) bytes (λ j h. let short = five (holder_on paper j) (number_small paper bytes _) in omega arith)
