-- Papers that stand one after another, taken from the front.
use Rattle.std.proofs.Common.{◌≡◌, ℕ, zero, suc, ◌+◌, ◌-◌, ◌*◌, ◌≤◌, List, length, drop, add-one, arith}
use Rattle.std.proofs.lemmas.List.{drop-drop, length-drop, length-take}
use Rattle.papers.specs.Paper.{count_on, count_place}
use Rattle.papers.specs.Papers.{nth_paper, paper_start}

-- the bytes from the paper of trader i on
abbrev pub from_paper : List ℕ → ℕ → List ℕ
from_paper ps i = drop (paper_start ps i) ps

-- past the paper of trader i comes that of the next trader
pub next_from : (ps : List ℕ) (i : ℕ) → drop (length (nth_paper ps i)) (from_paper ps i) ≡ from_paper ps (i + 1)
next_from ps i = rw (add-one i, drop-drop)

-- no paper begins past the bytes
pub starts_within : (ps : List ℕ) (i : ℕ) → paper_start ps i ≤ length ps
starts_within ps zero = omega arith
starts_within ps (suc i) =
    let ih = starts_within ps i in
    let few = length-take (count_place (from_paper ps i) + 1 + 4 * count_on (from_paper ps i)) (from_paper ps i) in
    let left = length-drop (paper_start ps i) ps in
    omega arith

-- and so the bytes that are left say where it begins
pub start_is : (ps : List ℕ) (i : ℕ) → length ps - length (from_paper ps i) ≡ paper_start ps i
start_is ps i =
    let within = starts_within ps i in
    let left = length-drop (paper_start ps i) ps in
    omega arith
