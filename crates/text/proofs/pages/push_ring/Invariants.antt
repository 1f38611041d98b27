use Rattle.std.proofs.Common.{◌≡◌, ◌≤◌, ◌++◌, string_bytes}
use Rattle.text.proofs.PageText.{steps}
use Rattle.text.proofs.pages.push_ring.Given as goal

abbrev pub invariant-loop-member : goal.invariant-loop-member
invariant-loop-member l =
    (l.column ≤ 72)
    × (string_bytes l.text ++ steps l.own l.column l.member-iterator ≡ string_bytes l.initial.text ++ steps l.own l.initial.column l.initial.member-iterator)
