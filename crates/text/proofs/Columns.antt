-- How many columns of a line are taken while a text is written.
use Rattle.std.proofs.Common.{◌≡◌, ℕ, suc, ◌+◌, ◌%◌, ◌^◌, ◌<◌, ◌≤◌, Bool, true, false, cond, not, eqb, ◌==◌, List, [], ◌∷◌, ◌++◌, length, decimal, refl, ◌∙◌, arith}
use Rattle.std.specs.List.{list_all}
use Rattle.std.proofs.lemmas.Fmt.{decimal_by_steps}
use Rattle.std.proofs.lemmas.List.Folds.{list_all-append}
use Rattle.std.proofs.lemmas.Bool.{and_parts, ne_eqb, not-true}
use Rattle.text.specs.Page.{Narrow, NoNewline}

-- A text that begins where c columns are taken ends where d are, and never takes more than `most`.
abbrev pub Goes : ℕ → ℕ → List ℕ → ℕ → Type 0
Goes most c [] d = (c ≤ most) × (c ≡ d)
Goes most c (x ∷ xs) d = (c ≤ most) × Goes most (cond (eqb x 10) 0 (suc c)) xs d

pub goes_on : (most c d e : ℕ) (xs ys : List ℕ) → Goes most c xs d → Goes most d ys e → Goes most c (xs ++ ys) e
goes_on most c d e [] ys (h, s) g = rw s g
goes_on most c d e (x ∷ xs) ys (h, r) g = (h, goes_on most (cond (eqb x 10) 0 (suc c)) d e xs ys r g)

-- ---- text without a newline

abbrev pub plain : List ℕ → Bool
plain xs = list_all (λ x. not (x == 10)) xs

pub plain_both : (xs ys : List ℕ) → plain xs ≡ true → plain ys ≡ true → plain (xs ++ ys) ≡ true
plain_both xs ys p q = list_all-append (λ x. not (x == 10)) xs ys ∙ rw (p, q)

plain_digit : (d : ℕ) → plain ((48 + d) ∷ []) ≡ true
plain_digit d = let other : eqb (48 + d) 10 ≡ false = ne_eqb (48 + d) 10 (λ e. omega arith) in rw other

pub plain_decimal : (n : ℕ) → n < 2 ^ 64 → plain (decimal n) ≡ true
plain_decimal n h =
    decimal_by_steps (λ n ds. plain ds ≡ true) (λ n l. plain_digit n) (λ n ds l p. plain_both ds ((48 + n % 10) ∷ []) p (plain_digit (n % 10))) n h

pub goes_plain : (most c d : ℕ) (xs : List ℕ) → plain xs ≡ true → d ≡ c + length xs → d ≤ most → Goes most c xs d
goes_plain most c d [] p e h = (omega arith, omega arith)
goes_plain most c d (x ∷ xs) p e h =
    let both = and_parts (not (eqb x 10)) (plain xs) p in
    let other : eqb x 10 ≡ false = not-true (eqb x 10) both.0 in
    (omega arith, rw other (goes_plain most (suc c) d xs both.1 (omega arith) h))

-- a number, and a word and a number, with what follows them
pub goes_number : (most c d e n : ℕ) (rest : List ℕ) → n < 65536 → d ≡ c + length (decimal n) → d ≤ most → Goes most d rest e →
    Goes most c (decimal n ++ rest) e
goes_number most c d e n rest small is low g =
    goes_on most c d e (decimal n) rest (goes_plain most c d (decimal n) (plain_decimal n (omega arith)) is low) g

pub goes_word : (most c d e n : ℕ) (word rest : List ℕ) → plain word ≡ true → n < 65536 → d ≡ c + length word + length (decimal n) → d ≤ most →
    Goes most d rest e → Goes most c (word ++ (decimal n ++ rest)) e
goes_word most c d e n word rest clear small is low g =
    goes_on most c (c + length word) e word (decimal n ++ rest) (goes_plain most c (c + length word) word clear refl (omega arith))
    (goes_number most (c + length word) d e n rest small is low g)

-- ---- what that says of a line

from_here : (most c d : ℕ) (before rest : List ℕ) → Goes most c (before ++ rest) d → (b : ℕ) × Goes most b rest d
from_here most c d [] rest g = (c, g)
from_here most c d (x ∷ before) rest (h, g) = from_here most (cond (eqb x 10) 0 (suc c)) d before rest g

starts_low : (most c d : ℕ) (rest : List ℕ) → Goes most c rest d → c ≤ most
starts_low most c d [] (h, e) = h
starts_low most c d (x ∷ rest) (h, g) = h

stays_low : (most c d : ℕ) (part rest : List ℕ) → NoNewline part → Goes most c (part ++ rest) d → c + length part ≤ most
stays_low most c d [] rest none g = let low = starts_low most c d rest g in omega arith
stays_low most c d (x ∷ part) rest none (h, g) =
    let other : eqb x 10 ≡ false = ne_eqb x 10 (none 0 (omega arith)) in
    let low = stays_low most (suc c) d part rest (λ k l. none (suc k) (omega arith)) (rw other at g) in
    omega arith

pub narrow : (most d : ℕ) (text : List ℕ) → Goes most 0 text d → Narrow most text
narrow most d text g before part rest is none =
    let here = from_here most 0 d before (part ++ rest) (rw is at g) in
    let low = stays_low most here.0 d part rest none here.1 in
    omega arith
