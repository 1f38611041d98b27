use Rattle.std.proofs.Common.{◌≡◌, ℕ, ◌<◌, false, get_or, leb}
use Rattle.theory.specs.Promise.{rank_in}
use Rattle.groups.proofs.no_less_dear.Given as goal

-- the entries so far
abbrev pub invariant-loop-stand : goal.invariant-loop-stand
invariant-loop-stand l =
    (t : ℕ) → t < l.stand → get_or l.entry-items t false ≡ leb (rank_in l.list l.own t) (rank_in l.list l.own l.got)
