-- What stands at each place of a paper that was written.
use Rattle.std.proofs.Common.{◌≡◌, ℕ, zero, suc, ◌+◌, ◌*◌, ◌<◌, List, [], ◌∷◌, ◌++◌, length, get_or, refl, ap, ◌∙◌, arith}
use Rattle.lists.specs.Format.{bytes_of, encode_stands, number_at}
use Rattle.lists.proofs.Encoding.{byte_after, length_of_stands, number_after, number_of_bytes}
use Rattle.sheet.specs.Sheet.{ring_of, round_in, stand_in}
use Rattle.papers.specs.Paper.{count_on, count_place, dearer_bytes, dearer_than, gone_bytes, gone_on, head_bytes, holder_on, own_on, paper_for, ring_length, ring_on, round_on, stand_on}

number_of_stands : (ts rest : List ℕ) (k : ℕ) → k < length ts → number_at (encode_stands ts ++ rest) (2 * k) ≡ get_or ts k 0
unfolding encode_stands
number_of_stands [] rest k h = absurd (omega arith)
number_of_stands (t ∷ ts) rest zero h = number_of_bytes t
number_of_stands (t ∷ ts) rest (suc k) h =
    number_after (bytes_of t) (encode_stands ts ++ rest) (2 * k) (2 * suc k) (omega arith) ∙ number_of_stands ts rest k (omega arith)

number_of_holder : (sheet ts : List ℕ) (j : ℕ) → j < length ts → number_at (gone_bytes sheet ts) (4 * j) ≡ get_or ts j 0
unfolding gone_bytes
number_of_holder sheet [] j h = absurd (omega arith)
number_of_holder sheet (t ∷ ts) zero h = number_of_bytes t
number_of_holder sheet (t ∷ ts) (suc j) h =
    number_after (bytes_of t ++ bytes_of (round_in sheet t)) (gone_bytes sheet ts) (4 * j) (4 * suc j) (omega arith) ∙ number_of_holder sheet ts j (omega arith)

number_of_gone : (sheet ts : List ℕ) (j : ℕ) → j < length ts → number_at (gone_bytes sheet ts) (4 * j + 2) ≡ round_in sheet (get_or ts j 0)
unfolding gone_bytes
number_of_gone sheet [] j h = absurd (omega arith)
number_of_gone sheet (t ∷ ts) zero h = number_of_bytes (round_in sheet t)
number_of_gone sheet (t ∷ ts) (suc j) h =
    number_after (bytes_of t ++ bytes_of (round_in sheet t)) (gone_bytes sheet ts) (4 * j + 2) (4 * suc j + 2) (omega arith) ∙ number_of_gone sheet ts j (omega arith)

module _ (sheet : List ℕ) (n i : ℕ) (l : List ℕ) where
  pub own_written : own_on (paper_for sheet n i l) ≡ i
  unfolding paper_for
  own_written = number_of_bytes i

  pub round_written : round_on (paper_for sheet n i l) ≡ round_in sheet i
  unfolding paper_for
  round_written = number_of_bytes (round_in sheet i)

  pub stand_written : stand_on (paper_for sheet n i l) ≡ stand_in sheet i
  unfolding paper_for
  stand_written = number_of_bytes (stand_in sheet i)

  pub ring_length_written : ring_length (paper_for sheet n i l) ≡ length (ring_of sheet n i)
  unfolding paper_for
  ring_length_written = number_of_bytes (length (ring_of sheet n i))

  pub ring_written : (k : ℕ) → k < length (ring_of sheet n i) → ring_on (paper_for sheet n i l) k ≡ get_or (ring_of sheet n i) k 0
  unfolding paper_for
  ring_written k h =
      number_after (head_bytes sheet n i) (encode_stands (ring_of sheet n i) ++ dearer_bytes sheet (dearer_than (stand_in sheet i) l)) (2 * k) (8 + 2 * k) refl
      ∙ number_of_stands (ring_of sheet n i) (dearer_bytes sheet (dearer_than (stand_in sheet i) l)) k h

  place_written : count_place (paper_for sheet n i l) ≡ 8 + 2 * length (ring_of sheet n i)
  place_written = ap (λ m. 8 + 2 * m) ring_length_written

  tail_number : (p q : ℕ) → q ≡ 8 + 2 * length (ring_of sheet n i) + p → number_at (paper_for sheet n i l) q ≡ number_at (dearer_bytes sheet (dearer_than (stand_in sheet i) l)) p
  unfolding paper_for
  tail_number p q is =
      let ring = ring_of sheet n i in
      let tail = dearer_bytes sheet (dearer_than (stand_in sheet i) l) in
      let size = length_of_stands ring in
      number_after (head_bytes sheet n i) (encode_stands ring ++ tail) (2 * length ring + p) q (omega arith)
      ∙ number_after (encode_stands ring) tail p (2 * length ring + p) (omega arith)

  pub count_written : count_on (paper_for sheet n i l) ≡ length (dearer_than (stand_in sheet i) l)
  unfolding paper_for
  count_written =
      let ring = ring_of sheet n i in
      let tail = dearer_bytes sheet (dearer_than (stand_in sheet i) l) in
      let size = length_of_stands ring in
      ap (λ m. get_or (paper_for sheet n i l) m 0) place_written
      ∙ (byte_after (head_bytes sheet n i) (encode_stands ring ++ tail) (2 * length ring) (8 + 2 * length ring) refl
      ∙ byte_after (encode_stands ring) tail 0 (2 * length ring) (omega arith))

  pub holder_written : (j : ℕ) → j < length (dearer_than (stand_in sheet i) l) → holder_on (paper_for sheet n i l) j ≡ get_or (dearer_than (stand_in sheet i) l) j 0
  holder_written j h =
      let at = place_written in
      tail_number (1 + 4 * j) (count_place (paper_for sheet n i l) + 1 + 4 * j) (omega arith)
      ∙ (number_after (length (dearer_than (stand_in sheet i) l) ∷ []) (gone_bytes sheet (dearer_than (stand_in sheet i) l)) (4 * j) (1 + 4 * j) refl
      ∙ number_of_holder sheet (dearer_than (stand_in sheet i) l) j h)

  pub gone_written : (j : ℕ) → j < length (dearer_than (stand_in sheet i) l) → gone_on (paper_for sheet n i l) j ≡ round_in sheet (get_or (dearer_than (stand_in sheet i) l) j 0)
  gone_written j h =
      let at = place_written in
      tail_number (3 + 4 * j) (count_place (paper_for sheet n i l) + 3 + 4 * j) (omega arith)
      ∙ (number_after (length (dearer_than (stand_in sheet i) l) ∷ []) (gone_bytes sheet (dearer_than (stand_in sheet i) l)) (4 * j + 2) (3 + 4 * j) (omega arith)
      ∙ number_of_gone sheet (dearer_than (stand_in sheet i) l) j h)
