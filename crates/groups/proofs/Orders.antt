-- The order of the search: where two shares part, and that only one of them comes first.
use Rattle.std.proofs.Common.{◌≡◌, ℕ, zero, suc, ◌<◌, ◌≤◌, Bool, ◌⊎◌, List, length, sym, refl, ap, ◌∙◌, inl, inr, arith}
use Rattle.std.specs.Prelude.{Some, None, Ok, Err, is_some, unwrap_or}
use Rattle.std.proofs.lemmas.List.{ext_get_or}
use Rattle.std.proofs.lemmas.Bool.{cases_eq, cases_lt}
use Rattle.lists.specs.Format.{lists_of}
use Rattle.theory.specs.Trade.{Lists}
use Rattle.groups.specs.Groups.{AnswerDetermined, Before, Choices, EarlierAt, FirstShare, OutcomeDetermined, SameAt, choice_of, in_group, stand_of}
use Rattle.groups.specs.Sharings.{Agrees}
use Rattle.groups.proofs.Prefixes.{turn_of}

-- what is the same or earlier for a trader is tried in no later turn
pub no_later_turn : (group : ℕ → Bool) (share : ℕ → ℕ) (group' : ℕ → Bool) (share' : ℕ → ℕ) (j : ℕ) →
    SameAt group share group' share' j ⊎ EarlierAt group share group' share' j → turn_of group share j ≤ turn_of group' share' j
no_later_turn group share group' share' j way = grind arith

-- a share that comes before another, and has the same for the first i traders, has the same for trader i or is earlier by it
pub next_same_or_earlier : (n i : ℕ) (group : ℕ → Bool) (other : ℕ → ℕ) (share : Choices) →
    Agrees share i group other → Before n group other (in_group share) (stand_of share) →
    SameAt group other (in_group share) (stand_of share) i ⊎ EarlierAt group other (in_group share) (stand_of share) i
next_same_or_earlier n i group other share agrees b =
    elim (cases_eq b.first i) [
      | inl e ↦ inr (rw e at b.earlier)
      | inr ne ↦ elim (cases_lt i b.first) [
        | inl lt ↦ inl (b.same i lt)
        | inr ge ↦ let same = agrees b.first (omega arith) in let earlier = b.earlier in absurd (grind arith)
      ]
    ]

-- two shares have the same at place j, or one of them is earlier by it
same_or_earlier : (a b : Choices) (j : ℕ) →
    (choice_of a j ≡ choice_of b j)
    ⊎ (EarlierAt (in_group a) (stand_of a) (in_group b) (stand_of b) j ⊎ EarlierAt (in_group b) (stand_of b) (in_group a) (stand_of a) j)
same_or_earlier a b j = grind arith

parts_at : (n : ℕ) (a b : Choices) (m : ℕ) → m < n → ((j : ℕ) → j < m → choice_of a j ≡ choice_of b j) →
    EarlierAt (in_group a) (stand_of a) (in_group b) (stand_of b) m → Before n (in_group a) (stand_of a) (in_group b) (stand_of b)
parts_at n a b m h so_far e =
    record {
      first = m;
      within = h;
      same = λ j lt. (ap is_some (so_far j lt), λ _. ap (λ x. unwrap_or x 0) (so_far j lt));
      earlier = e;
    }

-- two first shares, trader by trader
module _ (ls : Lists) (results : List ℕ) (a b : Choices) (fa : FirstShare ls results a) (fb : FirstShare ls results b) where
  next_same : (m : ℕ) → m < length ls → ((j : ℕ) → j < m → choice_of a j ≡ choice_of b j) → choice_of a m ≡ choice_of b m
  next_same m h so_far =
      elim (same_or_earlier a b m) [
        | inl e ↦ e
        | inr parted ↦ absurd (elim parted [
          | inl e ↦ fb.none_before (in_group a) (stand_of a) fa.betters (parts_at (length ls) a b m h so_far e)
          | inr e ↦ fa.none_before (in_group b) (stand_of b) fb.betters (parts_at (length ls) b a m h (λ j lt. sym (so_far j lt)) e)
        ])
      ]

  same_before : (m : ℕ) → m ≤ length ls → (j : ℕ) → j < m → choice_of a j ≡ choice_of b j
  same_before zero h j lt = absurd (omega arith)
  same_before (suc m) h j lt =
      elim (cases_eq j m) [
        | inl e ↦ rw e (next_same m (omega arith) (same_before m (omega arith)))
        | inr ne ↦ same_before m (omega arith) j (omega arith)
      ]

  pub one_first_share : a ≡ b
  one_first_share =
      ext_get_or None a b (fa.places ∙ sym fb.places) (λ j lt. elim (cases_lt j (length ls)) [
        | inl trader ↦ same_before (length ls) (omega arith) j trader
        | inr past ↦ let few : j < 8 = omega (arith, fa.places) in fa.past j past few ∙ sym (fb.past j past few)
      ])

pub answer_determined : AnswerDetermined
answer_determined ls results (Some a) (Some b) fa fb = ap Some (one_first_share ls results a b fa fb)
answer_determined ls results (Some a) None fa none = absurd (none (in_group a) (stand_of a) fa.betters)
answer_determined ls results None (Some b) none fb = absurd (none (in_group b) (stand_of b) fb.betters)
answer_determined ls results None None none none' = refl

pub outcome_determined : OutcomeDetermined
outcome_determined bs results (Ok a) (Ok b) ra rb = ap Ok (answer_determined (lists_of bs) results a b ra.1 rb.1)
outcome_determined bs results (Ok a) (Err f) ra e = cc
outcome_determined bs results (Err e) (Ok b) r rb = cc
outcome_determined bs results (Err e) (Err f) r s = cc
