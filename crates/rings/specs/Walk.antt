-- What the private functions promise one another: the marks of a walk, and of the traders around a ring.
use Rattle.std.specs.Prelude.{◌≡◌, ℕ, ◌<◌, ◌≤◌, cond, ◌&&◌, ◌⊎◌, List, length, count_by, ◌==◌, ◌≢◌, slice_index}
use Rattle.rings.specs.Ring.{walk_along, on_ring_of}

-- trader t exists, and has the mark k
abbrev pub HasMark : List ℕ → ℕ → ℕ → Type 0
HasMark marks t k = (t < length marks) × (slice_index marks t ≡ k)

-- how many traders nobody has met: those whose mark is 0
abbrev pub unmet : List ℕ → ℕ
unmet marks = count_by (λ mark. mark == 0) marks

-- A walk from the trader `from`, in as many steps as `count` says: it ended at `met`, who is nobody or was met before;
-- each trader on the way was unmet and now has the walker's mark, and all other marks are as they were.
pub record Walked (next was marks : List ℕ) (walker from met steps : ℕ) : Type 0 where
  pub count : ℕ
  pub few : count ≤ steps
  pub same_length : length marks ≡ length was
  pub ends : walk_along next count from ≡ met
  pub way : (j : ℕ) → j < count →
      (walk_along next j from < length next) × (slice_index was (walk_along next j from) ≡ 0) × (slice_index marks (walk_along next j from) ≡ walker)
  pub each : (y : ℕ) → ((j : ℕ) × (j < count) × (walk_along next j from ≡ y)) ⊎ (slice_index marks y ≡ slice_index was y)
  pub stops : met < length next → slice_index marks met ≢ 0

-- the marks tell exactly who is on a ring: they have the mark 65535
pub record Told (next marks : List ℕ) : Type 0 where
  pub same_length : length marks ≡ length next
  pub tells : (i : ℕ) → i < length next → (slice_index marks i == 65535) ≡ on_ring_of next i

-- the flag that a trader's entry and mark lead to
abbrev pub flag_of : ℕ → ℕ → ℕ
flag_of entry mark = cond (entry == 1 && mark == 65535) 1 0
