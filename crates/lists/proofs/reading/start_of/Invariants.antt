use Rattle.std.proofs.Common.{◌≡◌, ◌+◌, ◌*◌, ◌≤◌}
use Rattle.lists.specs.Format.{start}
use Rattle.lists.proofs.reading.start_of.Given as goal

abbrev pub invariant-loop-i : goal.invariant-loop-i
invariant-loop-i l = (l.position ≡ start l.bytes l.i) × (l.position ≤ 2 + 511 * l.i)
