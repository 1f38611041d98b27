-- What a slice holds after numbers were written into it one after the other.
use Rattle.std.proofs.Common.{◌≡◌, ℕ, zero, suc, ◌+◌, ◌*◌, ◌<◌, ◌≤◌, List, [], ◌∷◌, ◌++◌, length, take, drop, sym, refl, ap, ◌∙◌, arith, length-append}
use lib.Seq.{paste}
use Rattle.std.proofs.lemmas.List.Edits.{paste_all, paste-paste}
use Rattle.std.proofs.lemmas.List.{append_assoc, take-append-drop}
use Rattle.lists.specs.Format.{bytes_of, encode_stands}
use Rattle.lists.proofs.Encoding.{length_of_stands}
use Rattle.sheet.specs.Sheet.{ring_of, round_in, stand_in}
use Rattle.papers.proofs.Places.{dearer_first}
use Rattle.papers.specs.Paper.{dearer_bytes, dearer_than, gone_bytes, head_bytes, paper_for, written}

written_is : (at : ℕ) (xs d : List ℕ) → written at xs d ≡ paste d at xs (length xs)
written_is at xs d = sym (paste_all d at xs (length xs) refl)

-- nothing, and one after the other
pub written_none : (at : ℕ) (d : List ℕ) → written at [] d ≡ d
written_none at d = let e : at + 0 ≡ at = omega arith in rw e (take-append-drop at d)

pub written_more : (at next : ℕ) (xs ys d : List ℕ) → next ≡ at + length xs → at ≤ length d → written next ys (written at xs d) ≡ written at (xs ++ ys) d
written_more at next xs ys d is room =
    let both = length-append xs ys in
    rw (is, written_is at xs d, written_is (at + length xs) ys (paste d at xs (length xs)), written_is at (xs ++ ys) d, both)
    (paste-paste d at xs ys (length xs) (length ys) refl refl room)

pub written_next : (at next : ℕ) (xs ys d e f : List ℕ) → e ≡ written at xs d → f ≡ written next ys e → next ≡ at + length xs → at ≤ length d →
    f ≡ written at (xs ++ ys) d
written_next at next xs ys d e f one two is room = two ∙ (ap (written next ys) one ∙ written_more at next xs ys d is room)

-- ---- the parts of a paper

-- the four numbers before the ring's traders
pub head_written : (own round stand members : ℕ) (d : List ℕ) → 8 ≤ length d →
    written 6 (bytes_of members) (written 4 (bytes_of stand) (written 2 (bytes_of round) (written 0 (bytes_of own) d)))
    ≡ written 0 (bytes_of own ++ (bytes_of round ++ (bytes_of stand ++ bytes_of members))) d
head_written own round stand members d room =
    let two = written_more 0 2 (bytes_of own) (bytes_of round) d refl (omega arith) in
    let three = written_more 0 4 (bytes_of own ++ bytes_of round) (bytes_of stand) d refl (omega arith) in
    let four = written_more 0 6 (bytes_of own ++ bytes_of round ++ bytes_of stand) (bytes_of members) d refl (omega arith) in
    ap (λ w. written 6 (bytes_of members) (written 4 (bytes_of stand) w)) two ∙ (ap (written 6 (bytes_of members)) three ∙ four)

-- a trader, and those after it
pub ring_written : (at next t : ℕ) (ts left d e : List ℕ) → left ≡ t ∷ ts → e ≡ written at (bytes_of t) d → next ≡ at + 2 → at ≤ length d →
    written at (encode_stands left) d ≡ written next (encode_stands ts) e
unfolding encode_stands
ring_written at next t ts left d e is one on room =
    rw (is, one) (sym (written_more at next (bytes_of t) (encode_stands ts) d on room))

pub ring_none : (at : ℕ) (left d : List ℕ) → left ≡ [] → written at (encode_stands left) d ≡ d
unfolding encode_stands
ring_none at left d none = rw none (written_none at d)

-- the first of some stands that are left, and none of them
pub first_taken : (n n' t : ℕ) (ts left : List ℕ) → left ≡ t ∷ ts → n' + 1 ≡ n → take n left ≡ t ∷ take n' ts
first_taken n n' t ts left is more = let one : n ≡ suc n' = omega arith in rw (one, is)

pub none_taken : (n : ℕ) (left : List ℕ) → (0 < n → left ≡ []) → take n left ≡ []
none_taken zero left none = refl
none_taken (suc n) left none = rw (none (omega arith))

-- a holder and its round, and those after it
pub gone_written : (sheet : List ℕ) (at next last t r : ℕ) (ts left d e f : List ℕ) → left ≡ t ∷ ts → r ≡ round_in sheet t →
    e ≡ written at (bytes_of t) d → f ≡ written next (bytes_of r) e → next ≡ at + 2 → last ≡ at + 4 → at ≤ length d →
    written at (gone_bytes sheet left) d ≡ written last (gone_bytes sheet ts) f
unfolding gone_bytes
gone_written sheet at next last t r ts left d e f is of one two on end room =
    let both = written_next at next (bytes_of t) (bytes_of r) d e f one two on room in
    rw (is, both, of) (sym (written_more at last (bytes_of t ++ bytes_of (round_in sheet t)) (gone_bytes sheet ts) d end room))

pub gone_none : (sheet : List ℕ) (at : ℕ) (left d : List ℕ) → left ≡ [] → written at (gone_bytes sheet left) d ≡ d
unfolding gone_bytes
gone_none sheet at left d none = rw none (written_none at d)

-- ---- a whole paper

pub length_gone : (sheet ts : List ℕ) → length (gone_bytes sheet ts) ≡ 4 * length ts
unfolding gone_bytes
length_gone sheet [] = refl
length_gone sheet (t ∷ ts) = let ih = length_gone sheet ts in omega arith

pub length_paper : (sheet : List ℕ) (n i : ℕ) (l : List ℕ) →
    length (paper_for sheet n i l) ≡ 9 + 2 * length (ring_of sheet n i) + 4 * length (dearer_than (stand_in sheet i) l)
unfolding paper_for
length_paper sheet n i l =
    let ring = ring_of sheet n i in
    let ts = dearer_than (stand_in sheet i) l in
    let a = length-append (head_bytes sheet n i) (encode_stands ring ++ dearer_bytes sheet ts) in
    let b = length-append (encode_stands ring) (dearer_bytes sheet ts) in
    let c = length_of_stands ring in
    let d = length_gone sheet ts in
    omega arith

-- the head, the ring, the count and the dearer stands, one after the other
module _ (sheet : List ℕ) (n i members round stand dearer : ℕ) (l d : List ℕ) (m : members ≡ length (ring_of sheet n i))
    (o : round ≡ round_in sheet i) (s : stand ≡ stand_in sheet i) (k : dearer ≡ length (dearer_than stand l)) where
  dearer_is : dearer ≡ length (dearer_than (stand_in sheet i) l)
  dearer_is = k ∙ ap (λ t. length (dearer_than t l)) s

  pub paper_size : length (paper_for sheet n i l) ≡ 8 + 2 * members + 1 + 4 * dearer
  paper_size = let size = length_paper sheet n i l in let count = dearer_is in omega arith

  module _ (room : 8 + 2 * members + 1 + 4 * dearer ≤ length d) (head ring count all : List ℕ) (p q r : ℕ)
      (one : head ≡ written 6 (bytes_of members) (written 4 (bytes_of stand) (written 2 (bytes_of round) (written 0 (bytes_of i) d))))
      (two : ring ≡ written p (encode_stands (ring_of sheet n i)) head) (p_is : p ≡ 8)
      (three : count ≡ written q (dearer ∷ []) ring) (q_is : q ≡ 8 + 2 * members)
      (four : all ≡ written r (gone_bytes sheet (take dearer l)) count) (r_is : r ≡ 8 + 2 * members + 1) where
    parts_done : all ≡ written 0 (((head_bytes sheet n i ++ encode_stands (ring_of sheet n i)) ++ (dearer ∷ [])) ++ gone_bytes sheet (take dearer l)) d
    parts_done =
        let H = head_bytes sheet n i in
        let R = encode_stands (ring_of sheet n i) in
        let stands = length_of_stands (ring_of sheet n i) in
        let both = length-append (head_bytes sheet n i) (encode_stands (ring_of sheet n i)) in
        let more = length-append (head_bytes sheet n i ++ encode_stands (ring_of sheet n i)) (dearer ∷ []) in
        let head_done : head ≡ written 0 (head_bytes sheet n i) d = one ∙ (head_written i round stand members d (omega arith) ∙ rw (o, s, m)) in
        let ring_done = written_next 0 p H R d head ring head_done two (omega arith) (omega arith) in
        let count_done = written_next 0 q (H ++ R) (dearer ∷ []) d ring count ring_done three (omega arith) (omega arith) in
        written_next 0 r ((H ++ R) ++ (dearer ∷ [])) (gone_bytes sheet (take dearer l)) d count all count_done four (omega arith) (omega arith)

    parts : ((head_bytes sheet n i ++ encode_stands (ring_of sheet n i)) ++ (dearer ∷ [])) ++ gone_bytes sheet (take dearer l) ≡ paper_for sheet n i l
    unfolding paper_for
    parts = simp append_assoc (rw (dearer_first (stand_in sheet i) l dearer dearer_is, dearer_is))

    pub paper_written : all ≡ paper_for sheet n i l ++ drop (8 + 2 * members + 1 + 4 * dearer) d
    paper_written =
        let size = paper_size in
        let end : 0 + length (paper_for sheet n i l) ≡ 8 + 2 * members + 1 + 4 * dearer = omega arith in
        parts_done ∙ (ap (λ (xs : List ℕ). written 0 xs d) parts ∙ ap (λ w. paper_for sheet n i l ++ drop w d) end)
