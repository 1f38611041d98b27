-- The number and the place of each refusal, as they are printed and handed on.
use Rattle.std.specs.Prelude.{ℕ, ◌+◌, ◌*◌, List, ◌++◌, codes, decimal}
use Rattle.refusals.specs.declared.Lent.{Lent}
use Rattle.refusals.specs.declared.Lent.TheVariants.{Results, Sheet, Work}
use Rattle.refusals.specs.declared.Refusal.{Refusal}
use Rattle.refusals.specs.declared.Refusal.TheVariants.{WrongLength, WrongCount, LongList, WrongStand, TooShort, SheetLength, StandTaken, DearerLater, HolderElsewhere, PaperFault}

-- which lent slice is too short
abbrev pub lent_place : Lent → ℕ
lent_place Results = 0
lent_place Sheet = 1
lent_place Work = 2

abbrev pub number : Refusal → ℕ
number (WrongLength at) = 1
number WrongCount = 2
number (LongList at) = 3
number (WrongStand at) = 4
number (TooShort lent) = 5
number (SheetLength len) = 6
number (StandTaken trader) = 7
number (DearerLater trader place) = 8
number (HolderElsewhere trader) = 9
number (PaperFault field) = 10

abbrev pub place : Refusal → ℕ
place (WrongLength at) = at
place WrongCount = 0
place (LongList at) = at
place (WrongStand at) = at
place (TooShort lent) = lent_place lent
place (SheetLength len) = len
place (StandTaken trader) = trader
place (DearerLater trader rank) = trader * 64 + rank
place (HolderElsewhere trader) = trader
place (PaperFault field) = field

-- How a refusal is told.
abbrev pub refusal_text : Refusal → List ℕ
refusal_text refusal = codes "refused " ++ (decimal (number refusal) ++ (codes " at " ++ decimal (place refusal)))
