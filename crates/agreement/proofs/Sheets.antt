-- The sheet that the papers make: how it is written, and what is read on it.
use Rattle.std.proofs.Common.{◌≡◌, ℕ, zero, suc, ◌+◌, ◌*◌, ◌<◌, ◌≤◌, List, ◌++◌, length, drop, refl, ◌∙◌, inl, inr, add-one, arith, length-append}
use Rattle.std.proofs.lemmas.List.{get_or_append_left}
use Rattle.std.proofs.lemmas.Bool.{cases_eq}
use Rattle.lists.specs.Format.{number_at}
use Rattle.lists.proofs.Encoding.{number_after, number_of_bytes}
use Rattle.sheet.specs.Exchange.{entry_put}
use Rattle.sheet.specs.Sheet.{stand_in}
use Rattle.sheet.proofs.Writing.{put_behind, put_there}
use Rattle.papers.specs.Paper.{round_on, stand_on}
use Rattle.papers.specs.Papers.{nth_paper}
use Rattle.agreement.specs.Agreement.{entry_on, sheet_on}

pub length_sheet_on : (ps : List ℕ) (k : ℕ) → length (sheet_on ps k) ≡ 4 * k
unfolding sheet_on
length_sheet_on ps zero = refl
length_sheet_on ps (suc k) =
    let ih = length_sheet_on ps k in
    let both = length-append (sheet_on ps k) (entry_on ps k) in
    omega arith

-- one entry more
pub entry_more : (ps d sheet paper : List ℕ) (k : ℕ) → nth_paper ps k ≡ paper → sheet ≡ sheet_on ps k ++ drop (4 * k) d → length sheet ≡ length d → 4 * k + 4 ≤ length d →
    (trader next : ℕ) → trader ≡ k → next ≡ k + 1 →
    entry_put sheet (4 * trader) (stand_on paper) (round_on paper) ≡ sheet_on ps next ++ drop (4 * next) d
unfolding sheet_on
entry_more ps d sheet paper k is so_far long room trader next at more =
    let four : 4 * suc k ≡ 4 * k + 4 = omega arith in
    rw (at, more)
    (put_there sheet (4 * k) (stand_on paper) (round_on paper) (omega arith)
    ∙ rw (add-one k, four, ← is, so_far) (put_behind (sheet_on ps k) d (4 * k) (stand_on (nth_paper ps k)) (round_on (nth_paper ps k)) (length_sheet_on ps k) room))

-- a number within the first part
number_left : (xs ys : List ℕ) (p : ℕ) → p + 1 < length xs → number_at (xs ++ ys) p ≡ number_at xs p
number_left xs ys p h =
    let low : p < length xs = omega arith in
    rw (get_or_append_left xs ys 0 p low, get_or_append_left xs ys 0 (p + 1) h)

-- the stand on a paper is the stand on the sheet
pub stand_read : (ps : List ℕ) (k i : ℕ) → i < k → stand_in (sheet_on ps k) i ≡ stand_on (nth_paper ps i)
unfolding sheet_on
stand_read ps zero i h = absurd (omega arith)
stand_read ps (suc k) i h =
    let size = length_sheet_on ps k in
    elim (cases_eq i k) [
      | inl same ↦
          rw same (number_after (sheet_on ps k) (entry_on ps k) 0 (4 * k) (omega arith) ∙ number_of_bytes (stand_on (nth_paper ps k)))
      | inr other ↦
          (let below : i < k = omega arith in
          number_left (sheet_on ps k) (entry_on ps k) (4 * i) (omega arith) ∙ stand_read ps k i below)
    ]
