-- How the choices for the first traders go on with one more, and why a way that is cut off could not serve.
use Rattle.std.proofs.Common.{◌≡◌, ℕ, ◌+◌, ◌<◌, Bool, true, cond, ◌⊎◌, length, set, inl, inr, arith, below_more}
use Rattle.std.specs.Prelude.{Option, Some, None}
use Rattle.std.proofs.lemmas.List.{get_or-set_same, get_or-set_other}
use Rattle.std.proofs.lemmas.Bool.{cases_eq}
use Rattle.groups.specs.declared.Search.{Search}
use Rattle.groups.specs.Groups.{Choices, choice_of}
use Rattle.groups.specs.Sharings.{size, choice_in, MayNotHave, Agrees, Hopeless}

-- one more choice: the new one, and those before
module _ (chosen : Choices) (i : ℕ) (x : Option ℕ) where
  pub new_is : i < length chosen → choice_of (set chosen i x) i ≡ x
  new_is room = get_or-set_same chosen i x None room

  pub old_is : (j : ℕ) → (j ≡ i → ⊥) → choice_of (set chosen i x) j ≡ choice_of chosen j
  old_is j ne = get_or-set_other chosen i j x None ne

  split : (j : ℕ) → j < i + 1 → (j ≡ i) ⊎ (j < i)
  split j h = elim (cases_eq j i) [ inl e ↦ inl e | inr ne ↦ inr (omega arith) ]

-- the turn in which what a group and its share do with trader i is tried
abbrev pub turn_of : (ℕ → Bool) → (ℕ → ℕ) → ℕ → ℕ
turn_of group share i = cond (group i) (share i + 1) 0

-- a group that goes by the choices for the first i traders goes by one more, that of its own turn
pub agrees_next : (chosen : Choices) (i : ℕ) → i < length chosen → (group : ℕ → Bool) (share : ℕ → ℕ) → Agrees chosen i group share →
    Agrees (set chosen i (choice_in (turn_of group share i))) (i + 1) group share
agrees_next chosen i room group share agrees j h =
    let new = new_is chosen i (choice_in (turn_of group share i)) room in
    let old = old_is chosen i (choice_in (turn_of group share i)) j in
    let so_far = agrees j in
    grind arith

-- a stand that is less dear, or that another has, cannot serve
pub not_had : (given : Search) (chosen : Choices) (i : ℕ) → i < length chosen → i < size given → (x : Option ℕ) → MayNotHave given chosen i x →
    Hopeless given (set chosen i x) (i + 1)
not_had given chosen i room more None refused group share agrees s = refused
not_had given chosen i room more (Some t) refused group share agrees s =
    let new = new_is chosen i (Some t) room in
    let here = agrees i (omega arith) in
    let is : (group i ≡ true) × (share i ≡ t) = grind arith in
    let taken = refused (rw is.1 at (s.fine i more is.0)) in
    let old = old_is chosen i (Some t) taken.0 in
    let there = agrees taken.0 (omega arith) in
    let same = s.apart taken.0 i (omega arith) more in
    grind arith

-- no turn of trader i before this one serves
abbrev pub HopelessUntil : Search → Choices → ℕ → ℕ → Type 0
HopelessUntil given chosen i turn = (u : ℕ) → u < turn → Hopeless given (set chosen i (choice_in u)) (i + 1)

pub one_more : (given : Search) (chosen : Choices) (i turn : ℕ) (x : Option ℕ) → x ≡ choice_in turn →
    HopelessUntil given chosen i turn → Hopeless given (set chosen i x) (i + 1) → HopelessUntil given chosen i (turn + 1)
one_more given chosen i turn x is until here =
    below_more (λ u. Hopeless given (set chosen i (choice_in u)) (i + 1)) turn until (rw is at here)

-- where no turn serves, none is left
pub all_tried : (given : Search) (chosen : Choices) (i : ℕ) → i < length chosen → i < size given →
    HopelessUntil given chosen i (size given + 1) → Hopeless given chosen i
all_tried given chosen i room more all group share agrees s =
    all (turn_of group share i) turn group share (agrees_next chosen i room group share agrees) s
  where
    turn : turn_of group share i < size given + 1
    turn = let below = s.among i more in grind arith
