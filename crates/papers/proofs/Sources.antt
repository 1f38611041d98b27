-- What holds of the lists and the sheet that a paper is written from.
use Rattle.std.proofs.Common.{◌≡◌, ℕ, ◌<◌, ◌≤◌, List, length, Ok, Err, Result, arith}
use Rattle.std.proofs.lemmas.Bool.{lt-ltb, le-ltb}
use Rattle.refusals.specs.declared.Lent.TheVariants.{Results}
use Rattle.refusals.specs.declared.Refusal.{Refusal}
use Rattle.refusals.specs.declared.Refusal.TheVariants.{TooShort}
use Rattle.lists.specs.Format.{unless}
use Rattle.papers.specs.Paper.{room_fault}

-- the room for a paper of that length
pub no_room : (room size : ℕ) (paper : List ℕ) → length paper ≡ size → room < size →
    ◌≡◌ {A = Result ℕ Refusal} (Err (TooShort Results)) (unless (room_fault room paper) (length paper))
no_room room size paper e h = rw (lt-ltb room (length paper) (omega arith))

pub enough_room : (room size : ℕ) (paper : List ℕ) → length paper ≡ size → size ≤ room →
    ◌≡◌ {A = Result ℕ Refusal} (Ok size) (unless (room_fault room paper) (length paper))
enough_room room size paper e h = rw (le-ltb room (length paper) (omega arith), e)
