-- What is read of lists from front to back.
use Rattle.std.specs.Prelude.{◌≡◌, ℕ, ◌+◌, ◌≤◌, Bool, List, ◌==◌, slice_index}
use Rattle.lists.specs.Format.{next_start}
use Rattle.lists.specs.declared.reader.Reader.{Reader}

-- a list with this mark has named the stand
abbrev pub is_marked : Reader → ℕ → ℕ → Bool
is_marked reader mark stand = slice_index reader.marks stand == mark

-- `size` bytes more were read, and the marks are these now
pub record Read (old new : Reader) (size : ℕ) (named : List ℕ) : Type 0 where
  pub bytes : new.bytes ≡ old.bytes
  pub stands : new.stands ≡ old.stands
  pub at : new.at ≡ old.at + size
  pub marks : new.marks ≡ named

-- one list more was read, and no stand has a mark above this one
pub record ReadList (old new : Reader) (mark : ℕ) : Type 0 where
  pub bytes : new.bytes ≡ old.bytes
  pub stands : new.stands ≡ old.stands
  pub at : new.at ≡ next_start old.bytes.now old.at
  pub most : (t : ℕ) → slice_index new.marks t ≤ mark
