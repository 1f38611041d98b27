use Rattle.std.proofs.Common.{◌≡◌, ◌-◌, ◌^◌, ◌<◌, ◌++◌, length, take, string_bytes}
use Rattle.text.specs.Report.{more, ring_from, ring_text, spaced}
use Rattle.text.proofs.report.push_ring.Given as goal

abbrev pub invariant-loop : goal.invariant-loop
invariant-loop l =
    (length l.ring < 2 ^ 64)
    × (string_bytes l.text ++ (spaced (take (20 - l.counter) l.ring) ++ more (length l.ring - (20 - l.counter)))
    ≡ string_bytes l.initial.text ++ ring_text (ring_from l.results l.trader))
