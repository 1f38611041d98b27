-- What the outcome of a check says of the sheet.
use Rattle.std.specs.Prelude.{◌≡◌, ℕ, ◌<◌, List, None, Ok, Err, Result}
use Rattle.refusals.specs.declared.Refusal.{Refusal}
use Rattle.lists.specs.Format.{fault, lists_of}
use Rattle.theory.specs.Promise.{Proper}
use Rattle.theory.specs.Trade.{result}
use Rattle.sheet.specs.Sheet.{Valid, stand_in}

-- What is known of the bytes of a year and of a sheet for it, once a check has answered r.
pub record Checked (bs sheet : List ℕ) (r : Result ℕ Refusal) : Type 0 where
  -- accepted: the lists are proper, and the sheet is valid for them
  pub proper : (n : ℕ) → r ≡ Ok n → Proper (lists_of bs)
  pub valid : (n : ℕ) → r ≡ Ok n → Valid (lists_of bs) sheet
  -- accepted: each of the n traders has on the sheet what the exchange gives
  pub right : (n : ℕ) → r ≡ Ok n → (i : ℕ) → i < n → stand_in sheet i ≡ result (lists_of bs) i
  -- refused, and the lists were accepted: the sheet is not valid
  pub wrong : (f : Refusal) → r ≡ Err f → fault bs ≡ None → Valid (lists_of bs) sheet → ⊥
