-- What a sheet with everybody's stand and round has to show so that it can be trusted without doing the exchange again.
use Rattle.std.specs.Prelude.{◌≡◌, ℕ, zero, suc, ◌<◌, length}
use Rattle.theory.specs.Trade.{Lists}
use Rattle.theory.specs.Promise.{rank}

-- f taken k times, from x
abbrev pub steps : (ℕ → ℕ) → ℕ → ℕ → ℕ
steps f zero x = x
steps f (suc k) x = f (steps f k x)

-- A valid sheet says for each trader which stand it got and in which round it went out, so that these four rules hold.
pub record ValidSheet (ls : Lists) (got out : ℕ → ℕ) : Type 0 where
  -- every stand got exists
  pub exists : (i : ℕ) → i < length ls → got i < length ls
  -- no stand was got twice
  pub apart : (i j : ℕ) → i < length ls → j < length ls → got i ≡ got j → i ≡ j
  -- the holder of a stand that is dearer to a trader than the one it got went out in a lower round
  pub dearer : (i t : ℕ) → i < length ls → t < length ls → rank ls i t < rank ls i (got i) → out t < out i
  -- the holder of the stand that a trader got went out in the same round
  pub together : (i : ℕ) → i < length ls → out (got i) ≡ out i
