-- How the first fault of a paper's ring, and of its dearer stands, is found a step at a time.
use Rattle.std.proofs.Common.{◌≡◌, ℕ, suc, ◌+◌, ◌-◌, ◌<◌, ◌≤◌, Bool, true, false, List, ◌∷◌, length, get_or, set, take, None, Ok, Result, sym, ap, ◌∙◌, add-one, inl, inr, arith}
use Rattle.std.specs.Option.{option_or}
use Rattle.std.proofs.lemmas.Bool.{cases_eq}
use Rattle.std.proofs.lemmas.List.{get_or-set_same, get_or-set_other}
use Rattle.refusals.specs.declared.Refusal.{Refusal}
use Rattle.lists.proofs.Faults.{no_fault}
use Rattle.lists.specs.Format.{list_bytes, member, numbers, own_list_fault, unless}
use Rattle.papers.specs.Paper.{ring_on}
use Rattle.papers.specs.Faults.{fields_fault, member_fault, owner, paper_check_fault, ring_fault, holder_fault, gone_fault, end_fault, dearer_fault}

-- one trader of the ring, of whom `again` says whether it was named before, and the traders after it
module _ (paper before : List ℕ) (k end : ℕ) where
  pub ring_more : (again : Bool) → again ≡ member (ring_on paper k) before → k < end →
      ring_fault paper before (end - k) k ≡ option_or (member_fault paper k again) (ring_fault paper (ring_on paper k ∷ before) (end - (k + 1)) (k + 1))
  unfolding ring_fault
  ring_more again is h = let one : end - k ≡ suc (end - (k + 1)) = omega arith in rw (one, is, add-one k)

  pub ring_done : end ≤ k → ring_fault paper before (end - k) k ≡ None
  unfolding ring_fault
  ring_done h = let none : end - k ≡ 0 = omega arith in rw none

-- a trader of the ring without a fault has a number below 4,000
pub member_below : (paper : List ℕ) (k : ℕ) (again : Bool) → member_fault paper k again ≡ None → ring_on paper k < 4000
member_below paper k again e = grind arith

-- those who are named, and one more
pub named_more : (named : List Bool) (t : ℕ) (before : List ℕ) → t < length named → ((u : ℕ) → get_or named u false ≡ member u before) →
    (u : ℕ) → get_or (set named t true) u false ≡ member u (t ∷ before)
named_more named t before h m u =
    elim (cases_eq u t) [
      | inl e ↦ let same = get_or-set_same named t true false h in grind arith
      | inr ne ↦ let other = get_or-set_other named t u true false ne in let mu = m u in grind arith
    ]

-- the first of the dearer stands that are left from place j on, and those after it
pub dearer_step : (paper : List ℕ) (t k j end j' end' : ℕ) (left rest : List ℕ) → end' ≡ end → 0 < end - j → k ≡ j → j' ≡ j + 1 → left ≡ t ∷ rest →
    dearer_fault paper (take (end - j) left) j
    ≡ option_or (holder_fault paper k t) (option_or (gone_fault paper k) (dearer_fault paper (take (end' - j') rest) j'))
unfolding dearer_fault
dearer_step paper t k j end j' end' left rest same h at next is =
    let one : end - j ≡ suc (end' - j') = omega arith in
    let up : j' ≡ suc j = omega arith in
    rw (one, at, up, is)

pub dearer_end : (paper left : List ℕ) (j end : ℕ) → end - j ≡ 0 → dearer_fault paper (take (end - j) left) j ≡ end_fault paper j
unfolding dearer_fault
dearer_end paper left j end none = rw none

-- where the list by itself is right, only its paper can be in fault
pub list_right : (list paper stands : List ℕ) (own : ℕ) → own ≡ owner paper →
    ◌≡◌ {A = Result (List ℕ) Refusal} (Ok stands) (unless (own_list_fault list own) (numbers (list_bytes list 0))) →
    fields_fault stands paper ≡ paper_check_fault list paper
list_right list paper stands own who right =
    let list_is = no_fault (own_list_fault list own) _ _ right in
    rw list_is.1 (ap (λ o. option_or o (fields_fault (numbers (list_bytes list 0)) paper)) (sym list_is.0 ∙ ap (own_list_fault list) who))
