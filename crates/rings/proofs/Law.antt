-- Where `next` says to whom each trader who is in points, the rings of `next` are the rings of the exchange.
use Rattle.std.proofs.Common.{◌≡◌, ℕ, zero, suc, ◌<◌, true, cond, ltb, List, length, get_or, refl, ap, ◌∙◌, inl, inr, arith}
use Rattle.std.proofs.lemmas.List.{get_or_default}
use Rattle.std.proofs.lemmas.List.FromFn.{get_or-map-range_with_len}
use Rattle.std.proofs.lemmas.Bool.{cases_Bool, lt-ltb}
use Rattle.theory.proofs.Ranks.{points_in}
use Rattle.theory.proofs.Walks.{in_below}
use Rattle.theory.specs.Trade.{Lists, Standing, is_in, points, walk, comes_back, on_ring}
use Rattle.rings.specs.Ring.{step, walk_along, back, on_ring_of, flag, ring_flags}

-- `next` says to whom each trader who is in points
abbrev pub Follows : Lists → Standing → List ℕ → Type 0
Follows ls s next = (i : ℕ) → i < length ls → is_in s i ≡ true → get_or next i 0 ≡ points ls s i

module _ (ls : Lists) (s : Standing) (next : List ℕ) (n_next : length next ≡ length ls) (n_in : length s.inside ≡ length ls) (F : Follows ls s next) where
  step_same : (i : ℕ) → is_in s i ≡ true → step next i ≡ points ls s i
  unfolding step
  step_same i h =
      let l : i < length ls = let b = in_below s i h in omega arith in
      get_or_default next i (length next) 0 (omega arith) ∙ F i l h

  walk_same : (k i : ℕ) → is_in s i ≡ true → walk_along next k i ≡ walk ls s k i
  unfolding walk_along walk
  walk_same zero i h = refl
  walk_same (suc k) i h = ap (walk_along next k) (step_same i h) ∙ walk_same k (points ls s i) (points_in ls s i h)

  back_same : (k i : ℕ) → is_in s i ≡ true → back next i k ≡ comes_back ls s i k
  unfolding back comes_back
  back_same zero i h = refl
  back_same (suc k) i h = let ih = back_same k i h in let w = walk_same (suc k) i h in rw (w, ih)

  pub ring_law : (i : ℕ) → i < length ls → is_in s i ≡ true → on_ring_of next i ≡ comes_back ls s i (length ls)
  unfolding on_ring_of
  ring_law i l h =
      let b : ltb i (length next) ≡ true = lt-ltb i (length next) (omega arith) in
      rw b (ap (back next i) n_next ∙ back_same (length ls) i h)

  pub flag_law : (i : ℕ) → i < length ls → get_or (ring_flags s.inside next) i 0 ≡ cond (on_ring ls s i) 1 0
  unfolding ring_flags flag on_ring is_in
  flag_law i l =
      get_or-map-range_with_len (flag s.inside next) 0 (length next) i i 0 (omega arith) (omega arith)
      ∙ elim (cases_Bool (is_in s i)) [
        | inl h ↦ let r = ring_law i l h in rw (h, r)
        | inr h ↦ rw h
      ]
