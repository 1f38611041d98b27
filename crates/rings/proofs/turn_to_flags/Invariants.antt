use Rattle.std.proofs.Common.{◌≡◌, ℕ, ◌<◌, ◌≤◌, get_or}
use Rattle.rings.specs.Walk.{flag_of}
use Rattle.rings.proofs.turn_to_flags.Given as goal

abbrev pub invariant-loop-trader : goal.invariant-loop-trader
invariant-loop-trader l =
    ((k : ℕ) → k < l.trader → get_or l.marks k 0 ≡ flag_of (get_or l.inside k 0) (get_or l.initial.marks k 0))
    × ((k : ℕ) → l.trader ≤ k → get_or l.marks k 0 ≡ get_or l.initial.marks k 0)
