-- What a trader who is in points to, and the place of that stand in the list.
use Rattle.std.specs.Prelude.{◌≡◌, ℕ, suc, ◌<◌, Bool, true, false, cond, ◌&&◌, List, [], ◌∷◌, length, ◌==◌, nat_lt, slice_index, slice_index_or}
use Rattle.theory.specs.Trade.{Standing, is_in, first_in}
use Rattle.pointing.specs.declared.Pointing.{Pointing}
use Rattle.pointing.specs.declared.Pointing.TheVariants.{Listed, Own}

-- the holder of stand t is in: there is such a trader, and its mark is 1
abbrev pub holder_in : List ℕ → ℕ → Bool
holder_in inside t = nat_lt t (length inside) && slice_index inside t == 1

-- the first stand of a list whose holder is in, the places counted from `place` on
unfoldable pub points_from : List ℕ → List ℕ → ℕ → Pointing
points_from inside [] place = Own
points_from inside (t ∷ ts) place = cond (holder_in inside t) (Listed place t) (points_from inside ts (suc place))

-- the stand pointed to by the trader who holds stand own
abbrev pub stand_of : ℕ → Pointing → ℕ
stand_of own (Listed place t) = t
stand_of own Own = own

-- stand t is at place p of the list, its holder is in, and the holders of all stands before it are out
pub record FirstAt (s : Standing) (ts : List ℕ) (p t : ℕ) : Type 0 where
  pub within : p < length ts
  pub there : slice_index_or ts p 0 ≡ t
  pub still_in : is_in s t ≡ true
  pub before_out : (k : ℕ) → k < p → is_in s (slice_index ts k) ≡ false

-- what is pointed to is the first listed stand whose holder is in; it is the own one where no such stand is listed
abbrev pub IsFirst : Standing → List ℕ → Pointing → Type 0
IsFirst s ts (Listed p t) = FirstAt s ts p t
IsFirst s ts Own = (k : ℕ) → k < length ts → is_in s (slice_index ts k) ≡ false

-- A trader points to the stand that the exchange says, and its place is right.
abbrev pub FirstIsPointedTo : Type 0
FirstIsPointedTo =
    (s : Standing) (ts : List ℕ) (own : ℕ) →
    (stand_of own (points_from s.inside ts 0) ≡ first_in s ts own) × IsFirst s ts (points_from s.inside ts 0)
