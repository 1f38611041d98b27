-- A number of two digits, pushed one after the other.
use Rattle.std.proofs.Common.{◌≡◌, ℕ, ◌/◌, ◌%◌, ◌<◌, ◌≤◌, List, ◌++◌, decimal, arith, append_assoc, ap, sym, ◌∙◌}
use Rattle.std.proofs.lemmas.Fmt.{decimal_digit, decimal_step}

pub two_digits : (n : ℕ) → 10 ≤ n → n < 100 → decimal n ≡ decimal (n / 10) ++ decimal (n % 10)
two_digits n low high =
    decimal_step n low (omega arith) ∙ ap (λ (ds : List ℕ). decimal (n / 10) ++ ds) (sym (decimal_digit (n % 10) (omega arith)))

pub digits_pushed : (text one two : List ℕ) (n : ℕ) → 10 ≤ n → n < 100 → one ≡ text ++ decimal (n / 10) → two ≡ one ++ decimal (n % 10) →
    two ≡ text ++ decimal n
digits_pushed text one two n low high first last = rw (last, first, two_digits n low high) (append_assoc text (decimal (n / 10)) (decimal (n % 10)))
