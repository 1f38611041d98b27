-- The marks turned into flags.
use Rattle.std.proofs.Common.{◌≡◌, ℕ, ◌<◌, eqb, List, length, get_or, ◌∙◌, arith}
use Rattle.std.proofs.lemmas.List.FromFn.{fill_by_all}
use Rattle.rings.specs.Ring.{flag, ring_flags, on_ring_of}
use Rattle.rings.specs.Walk.{flag_of, Told}

-- the flags that the marks lead to, where the marks tell who is on a ring, are those of the rings
pub flags_are : (inside next marks flags : List ℕ) → Told next marks → length flags ≡ length marks →
    ((i : ℕ) → i < length flags → get_or flags i 0 ≡ flag_of (get_or inside i 0) (get_or marks i 0)) →
    flags ≡ ring_flags inside next
unfolding flag ring_flags
flags_are inside next marks flags T len each =
    fill_by_all (flag inside next) flags (length next) 0 (len ∙ T.same_length)
    (λ i l. let n = T.same_length in let t : eqb (get_or marks i 0) 65535 ≡ on_ring_of next i = T.tells i l in rw t at (each i (omega arith)))
