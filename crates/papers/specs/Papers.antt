-- Papers that stand one after another, in the order of their traders' numbers.
use Rattle.std.specs.Prelude.{◌≡◌, ℕ, zero, suc, ◌+◌, ◌*◌, List, length, take, drop, Option, MatchOption}
use Rattle.std.specs.Borrow.{Bor}
use Rattle.papers.specs.Paper.{count_on, count_place}

-- the paper that begins at byte q: as long as its own numbers say, and cut where the bytes end
abbrev pub paper_at : List ℕ → ℕ → List ℕ
paper_at ps q = take (count_place (drop q ps) + 1 + 4 * count_on (drop q ps)) (drop q ps)

-- where the paper of trader i begins: where the one before it ends
abbrev pub paper_start : List ℕ → ℕ → ℕ
paper_start ps zero = 0
paper_start ps (suc i) = paper_start ps i + length (paper_at ps (paper_start ps i))

-- the paper of trader i
abbrev pub nth_paper : List ℕ → ℕ → List ℕ
nth_paper ps i = paper_at ps (paper_start ps i)

-- of the bytes ps that are left the next paper is given, and the bytes after it are left
abbrev pub GivesPaper : List ℕ → Option (Bor (List ℕ)) → List ℕ → Type 0
GivesPaper ps given left = MatchOption given ⊥ (λ paper. (paper.now ≡ paper_at ps 0) × (left ≡ drop (length paper.now) ps))
