-- The share that a search hands on is the first one of those that go by the choices so far.
use Rattle.std.proofs.Common.{◌≡◌, ℕ, ◌+◌, ◌<◌, ◌≤◌, Bool, length, set, ◌∙◌, inl, inr, arith}
use Rattle.std.specs.Prelude.{Option}
use Rattle.std.proofs.lemmas.Bool.{cases_lt}
use Rattle.groups.specs.declared.Search.{Search}
use Rattle.groups.specs.Groups.{Before, Choices, choice_of, in_group, stand_of}
use Rattle.groups.specs.Sharings.{Agrees, Found, choice_in, size}
use Rattle.groups.proofs.Orders.{next_same_or_earlier, no_later_turn}
use Rattle.groups.proofs.Prefixes.{HopelessUntil, agrees_next, new_is, old_is, turn_of}

-- the turn in which a choice is tried
turn_is : (chosen : Choices) (i t : ℕ) → choice_of chosen i ≡ choice_in t → turn_of (in_group chosen) (stand_of chosen) i ≡ t
turn_is chosen i t e = grind arith

-- what is found in a turn, where no earlier turn serves
module _ (given : Search) (chosen : Choices) (i : ℕ) (room : i < length chosen) (more : i < size given)
    (share : Choices) (t : ℕ) (x : Option ℕ) (choice : x ≡ choice_in t) (f : Found given (set chosen i x) (i + 1) share) where
  kept : (j : ℕ) → j < i → choice_of share j ≡ choice_of chosen j
  kept j h = f.kept j (omega arith) ∙ old_is chosen i x j (omega arith)

  no_later : (group : ℕ → Bool) (other : ℕ → ℕ) → Agrees chosen i group other → Before (size given) group other (in_group share) (stand_of share) →
      turn_of group other i ≤ t
  no_later group other agrees b =
      let agrees' : Agrees share i group other = λ j h. let e = kept j h in rw e (agrees j h) in
      let turn = turn_is share i t (f.kept i (omega arith) ∙ (new_is chosen i x room ∙ choice)) in
      let way = next_same_or_earlier (size given) i group other share agrees' b in
      let bound = no_later_turn group other (in_group share) (stand_of share) i way in
      omega arith

  pub found_in_turn : HopelessUntil given chosen i t → Found given chosen i share
  found_in_turn until =
      record {
        serves = f.serves;
        none_before = λ group other agrees s b.
            let next = agrees_next chosen i room group other agrees in
            elim (cases_lt (turn_of group other i) t) [
              | inl lt ↦ until (turn_of group other i) lt group other next s
              | inr ge ↦
                  let bound = no_later group other agrees b in
                  let is : turn_of group other i ≡ t = omega arith in
                  f.none_before group other (rw (is, ← choice) at next) s b
            ];
        kept = kept;
        past = λ j h. f.past j h ∙ old_is chosen i x j (omega arith);
      }
