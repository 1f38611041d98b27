-- Where no group does better than the exchange, none betters its results.
use Rattle.std.proofs.Common.{ℕ, Bool}
use Rattle.theory.specs.Promise.{Core, Proper}
use Rattle.theory.specs.Trade.{Lists, result}
use Rattle.groups.specs.Groups.{Betters}

pub nobody_betters : Core → (ls : Lists) → Proper ls → (group : ℕ → Bool) (share : ℕ → ℕ) → Betters ls (result ls) group share → ⊥
unfolding Core
nobody_betters core ls proper group share b =
    let other = b.another in
    other.3 (core ls group share proper b.among b.apart b.no_less_dear other.0 other.1 other.2)
