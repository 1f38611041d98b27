-- What the exchange writes is read again as its results and rounds, and is accepted.
use Rattle.std.proofs.Common.{◌≡◌, ℕ, zero, suc, ◌+◌, ◌*◌, ◌/◌, ◌%◌, ◌<◌, ◌≤◌, List, ◌∷◌, length, get_or, None, sym, refl, ◌∙◌, arith}
use Rattle.std.specs.List.{range_with_len, flat_map}
use Rattle.theory.specs.Certificate.{ValidSheet}
use Rattle.lists.specs.Format.{number_at}
use Rattle.theory.specs.Promise.{Proper}
use Rattle.theory.specs.Statements.{OwnSheetValid}
use Rattle.theory.specs.Trade.{Lists, all_in, out, result}
use Rattle.lists.proofs.Encoding.{number_after, number_of_bytes, reads_what_was_written}
use Rattle.theory.proofs.Exchange.{all_in_sized, all_in_in}
use Rattle.theory.proofs.Rounds.{out_bound}
use Rattle.theory.proofs.Promises.{result_below}
use Rattle.theory.proofs.Results.{own_sheet_valid}
use Rattle.sheet.specs.Sheet.{stand_in, round_in, entry, sheet_of, sheet_fault, Valid, AcceptsWhatWasWritten}
use Rattle.sheet.proofs.Checked.{valid_accepted}

-- the entries of k traders from trader a on
abbrev pub entries : Lists → ℕ → ℕ → List ℕ
entries ls a k = flat_map (entry ls) (range_with_len a k)

pub length_entries : (ls : Lists) (a k : ℕ) → length (entries ls a k) ≡ 4 * k
length_entries ls a zero = refl
length_entries ls a (suc k) = let ih = length_entries ls (a + 1) k in omega arith

pub stand_entry : (ls : Lists) (a k i j p : ℕ) → i < k → j ≡ a + i → p ≡ 4 * i → number_at (entries ls a k) p ≡ result ls j
stand_entry ls a zero i j p h is at = absurd (omega arith)
stand_entry ls a (suc k) zero j p h is at =
    let p' : p ≡ 0 = omega arith in
    let j' : j ≡ a = omega arith in
    rw (p', j') (number_of_bytes (result ls a))
stand_entry ls a (suc k) (suc i) j p h is at =
    number_after (entry ls a) (entries ls (a + 1) k) (4 * i) p (omega arith) ∙ stand_entry ls (a + 1) k i j (4 * i) (omega arith) (omega arith) refl

pub round_entry : (ls : Lists) (a k i j p : ℕ) → i < k → j ≡ a + i → p ≡ 4 * i + 2 → number_at (entries ls a k) p ≡ out ls j
round_entry ls a zero i j p h is at = absurd (omega arith)
round_entry ls a (suc k) zero j p h is at =
    let p' : p ≡ 2 = omega arith in
    let j' : j ≡ a = omega arith in
    rw (p', j') (number_of_bytes (out ls a))
round_entry ls a (suc k) (suc i) j p h is at =
    number_after (entry ls a) (entries ls (a + 1) k) (4 * i + 2) p (omega arith) ∙ round_entry ls (a + 1) k i j (4 * i + 2) (omega arith) (omega arith) refl

-- ---- the sheet of the exchange

pub length_sheet : (ls : Lists) → length (sheet_of ls) ≡ 4 * length ls
unfolding sheet_of
length_sheet ls = length_entries ls 0 (length ls)

pub stand_written : (ls : Lists) (i : ℕ) → i < length ls → stand_in (sheet_of ls) i ≡ result ls i
unfolding sheet_of
stand_written ls i h = stand_entry ls 0 (length ls) i i (4 * i) h (omega arith) refl

pub round_written : (ls : Lists) (i : ℕ) → i < length ls → round_in (sheet_of ls) i ≡ out ls i
unfolding sheet_of
round_written ls i h = round_entry ls 0 (length ls) i i (4 * i + 2) h (omega arith) refl

-- rules that hold of stands and rounds hold of equal ones
same_valid : (ls : Lists) (got later got' later' : ℕ → ℕ) → ValidSheet ls got later →
    ((i : ℕ) → i < length ls → got' i ≡ got i) → ((i : ℕ) → i < length ls → later' i ≡ later i) → ValidSheet ls got' later'
same_valid ls got later got' later' v g l = record {
  exists = λ i h. rw (g i h) (v.exists i h);
  apart = λ i j hi hj e. v.apart i j hi hj (sym (g i hi) ∙ e ∙ g j hj);
  dearer = λ i t hi ht d. rw (l t ht, l i hi) (v.dearer i t hi ht (rw (g i hi) at d));
  together = λ i h. rw (g i h, l (got i) (v.exists i h), l i h) (v.together i h);
}

pub written_valid : (ls : Lists) → Valid ls (sheet_of ls)
unfolding OwnSheetValid
written_valid ls = (
  length_sheet ls,
  same_valid ls (result ls) (out ls) (stand_in (sheet_of ls)) (round_in (sheet_of ls)) (own_sheet_valid ls) (stand_written ls) (round_written ls),
)

pub written_accepted : (ls : Lists) → Proper ls → sheet_fault ls (sheet_of ls) ≡ None
written_accepted ls proper = valid_accepted ls (sheet_of ls) proper (written_valid ls)

-- ---- bytes

pub out_below : (ls : Lists) (i : ℕ) → i < length ls → out ls i < length ls
unfolding out
out_below ls i h = out_bound ls (all_in ls) (all_in_sized ls) i (all_in_in ls i h)

abbrev Bytes : List ℕ → Type 0
Bytes xs = (k : ℕ) → get_or xs k 0 < 256

four_more : (a b c d : ℕ) (xs : List ℕ) → a < 256 → b < 256 → c < 256 → d < 256 → Bytes xs → Bytes (a ∷ b ∷ c ∷ d ∷ xs)
four_more a b c d xs ha hb hc hd all zero = ha
four_more a b c d xs ha hb hc hd all (suc zero) = hb
four_more a b c d xs ha hb hc hd all (suc (suc zero)) = hc
four_more a b c d xs ha hb hc hd all (suc (suc (suc zero))) = hd
four_more a b c d xs ha hb hc hd all (suc (suc (suc (suc k)))) = all k

entries_bytes : (ls : Lists) (a k : ℕ) → a + k ≤ length ls → length ls ≤ 65536 → Bytes (entries ls a k)
entries_bytes ls a zero h few = λ k. omega arith
entries_bytes ls a (suc k) h few =
    let r = result_below ls a (omega arith) in
    let o = out_below ls a (omega arith) in
    four_more (result ls a % 256) (result ls a / 256) (out ls a % 256) (out ls a / 256) (entries ls (a + 1) k)
    (omega arith) (omega arith) (omega arith) (omega arith) (entries_bytes ls (a + 1) k (omega arith) few)

pub written_bytes : (ls : Lists) → length ls ≤ 65536 → (k : ℕ) → get_or (sheet_of ls) k 0 < 256
unfolding sheet_of
written_bytes ls few = entries_bytes ls 0 (length ls) (omega arith) few

pub accepts_what_was_written : AcceptsWhatWasWritten
unfolding AcceptsWhatWasWritten
accepts_what_was_written ls can =
    let fine = written_accepted ls can.proper in
    let read = reads_what_was_written ls can in
    (fine, rw (read.0, read.1) fine, written_bytes ls (omega (arith, can.most)))
