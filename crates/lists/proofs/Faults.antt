-- How the first fault of a list, and of all lists, is found a step at a time.
use Rattle.std.proofs.Common.{◌≡◌, ℕ, zero, suc, ◌+◌, ◌<◌, ◌≤◌, Bool, true, false, not, ◌&&◌, ◌||◌, eqb, ltb, List, [], ◌∷◌, length, get_or, set, replicate, Some, None, Ok, Err, Option, Result, sym, refl, ap, ◌∙◌, inl, inr, arith}
use Rattle.std.proofs.lemmas.Bool.{cases_eq, ne_eqb}
use Rattle.std.proofs.lemmas.List.{get_or-set_same, get_or-set_other}
use Rattle.std.specs.Option.{option_or}
use Rattle.refusals.specs.declared.Refusal.{Refusal}
use Rattle.lists.specs.Format.{number_at, next_start, member, count_fault, length_fault, end_fault, stand_fault, stands_fault, list_fault, lists_fault, fault, unless}

-- stand t may be listed by trader own after the stands `before`
abbrev pub may_list : ℕ → ℕ → List ℕ → ℕ → Bool
may_list n own before t = ltb t n && (not (eqb t own) && not (member t before))

pub stands_none : (bs : List ℕ) (n own : ℕ) (before : List ℕ) (left p : ℕ) (whole : Option Refusal) →
    stands_fault bs n own before left p ≡ whole → left ≡ 0 → whole ≡ None
unfolding stands_fault
stands_none bs n own before left p whole so_far h = sym so_far ∙ rw h

-- one stand of a list, of which `again` says whether it was named before
module _ (bs : List ℕ) (n own : ℕ) (before : List ℕ) (left p : ℕ) (whole : Option Refusal)
    (so_far : stands_fault bs n own before left p ≡ whole) (again : Bool) (is : again ≡ member (number_at bs p) before) where
  pub stands_wrong : (f : Refusal) → 0 < left → stand_fault bs n own p again ≡ Some f → whole ≡ Some f
  unfolding stands_fault
  stands_wrong f more e = sym so_far ∙ step left more
    where
      step : (k : ℕ) → 0 < k → stands_fault bs n own before k p ≡ Some f
      step zero h = absurd (omega arith)
      step (suc k) h =
          let e' : stand_fault bs n own p (member (number_at bs p) before) ≡ Some f = rw is at e in
          ap (λ o. option_or o (stands_fault bs n own (number_at bs p ∷ before) k (p + 2))) e'

  pub stands_next : (t rest : ℕ) → t ≡ number_at bs p → left ≡ rest + 1 → stand_fault bs n own p again ≡ None →
      stands_fault bs n own (t ∷ before) rest (p + 2) ≡ whole
  unfolding stands_fault
  stands_next t rest at one e =
      let l : left ≡ suc rest = omega arith in
      let whole_is : stands_fault bs n own before (suc rest) p ≡ whole = rw l at so_far in
      let e' : stand_fault bs n own p (member (number_at bs p) before) ≡ None = rw is at e in
      rw at (sym (ap (λ o. option_or o (stands_fault bs n own (number_at bs p ∷ before) rest (p + 2))) e') ∙ whole_is)

-- a stand that may be listed
module _ (n own t : ℕ) (before : List ℕ) where
  pub listable : t < n → (t ≡ own → ⊥) → member t before ≡ false → may_list n own before t ≡ true
  listable h o m = grind arith

-- the marks of those of whom a test holds, and one more
module _ (seen : List ℕ) (mark t : ℕ) (below : t < length seen) where
  pub marks_set : (test : ℕ → Bool) → ((u : ℕ) → eqb (get_or seen u 0) mark ≡ test u) →
      (u : ℕ) → eqb (get_or (set seen t mark) u 0) mark ≡ (eqb t u || test u)
  marks_set test m u =
      elim (cases_eq u t) [
        | inl e ↦ let same = get_or-set_same seen t mark 0 below in grind arith
        | inr ne ↦ let other = get_or-set_other seen t u mark 0 ne in let mu = m u in grind arith
      ]

  -- the stands of one list
  pub marks_more : (before : List ℕ) → ((u : ℕ) → eqb (get_or seen u 0) mark ≡ member u before) →
      (u : ℕ) → eqb (get_or (set seen t mark) u 0) mark ≡ member u (t ∷ before)
  marks_more before = marks_set (λ u. member u before)

  pub marks_bound : ((u : ℕ) → get_or seen u 0 ≤ mark) → (u : ℕ) → get_or (set seen t mark) u 0 ≤ mark
  marks_bound m u =
      elim (cases_eq u t) [
        | inl e ↦ let same = get_or-set_same seen t mark 0 below in grind arith
        | inr ne ↦ let other = get_or-set_other seen t u mark 0 ne in let mu = m u in grind arith
      ]

-- smaller marks are those of lists before
pub marks_none : (seen : List ℕ) (mark : ℕ) → ((u : ℕ) → get_or seen u 0 < mark) → (u : ℕ) → eqb (get_or seen u 0) mark ≡ member u []
marks_none seen mark m u = let less = m u in ne_eqb (get_or seen u 0) mark (λ e. omega arith)

-- one list, and the end of all lists
module _ (bs : List ℕ) (n own left p : ℕ) (whole : Option Refusal) (so_far : lists_fault bs n own left p ≡ whole) where
  pub lists_wrong : (f : Refusal) → 0 < left → list_fault bs n own p ≡ Some f → whole ≡ Some f
  unfolding lists_fault
  lists_wrong f more e = sym so_far ∙ lists_step left more
    where
      lists_step : (k : ℕ) → 0 < k → lists_fault bs n own k p ≡ Some f
      lists_step zero h = absurd (omega arith)
      lists_step (suc k) h = rw e

  pub lists_next : (own' rest q : ℕ) → own' ≡ own + 1 → left ≡ rest + 1 → list_fault bs n own p ≡ None → q ≡ next_start bs p →
      lists_fault bs n own' rest q ≡ whole
  unfolding lists_fault
  lists_next own' rest q o one e at =
      let up : own' ≡ suc own = omega arith in
      let l : left ≡ suc rest = omega arith in
      let whole_is : lists_fault bs n own (suc rest) p ≡ whole = rw l at so_far in
      rw (up, at) (sym (rw e) ∙ whole_is)

  pub lists_done : left ≡ 0 → whole ≡ end_fault bs p
  unfolding lists_fault
  lists_done h = sym so_far ∙ rw h

-- one list: its count, and then its stands
module _ (bs : List ℕ) (n own p : ℕ) where
  pub long_wrong : (f : Refusal) → length_fault bs p ≡ Some f → list_fault bs n own p ≡ Some f
  unfolding list_fault
  long_wrong f e = ap (λ o. option_or o (stands_fault bs n own [] (get_or bs p 0) (p + 1))) e

  pub list_right : (o : Option Refusal) → length_fault bs p ≡ None → stands_fault bs n own [] (get_or bs p 0) (p + 1) ≡ o → list_fault bs n own p ≡ o
  unfolding list_fault
  list_right o e stands = ap (λ q. option_or q (stands_fault bs n own [] (get_or bs p 0) (p + 1))) e ∙ stands

  -- a stand without a fault exists
  pub stand_below : (again : Bool) → stand_fault bs n own p again ≡ None → number_at bs p < n
  stand_below again e = grind arith

-- what a call that is refused, or hands on a value, says of the fault
pub refused_fault : {A : Type 0} (o : Option Refusal) (a : A) (f : Refusal) → ◌≡◌ {A = Result A Refusal} (Err f) (unless o a) → o ≡ Some f
refused_fault (Some g) a f e = cc
refused_fault None a f e = absurd (let z : ◌≡◌ {A = ℕ} 0 1 = cc in omega arith)

pub no_fault : {A : Type 0} (o : Option Refusal) (a b : A) → ◌≡◌ {A = Result A Refusal} (Ok b) (unless o a) → (o ≡ None) × (b ≡ a)
no_fault (Some g) a b e = absurd (let z : ◌≡◌ {A = ℕ} 0 1 = cc in omega arith)
no_fault None a b e = (refl, cc)

-- a list of zeros has no mark
pub no_marks : (n t : ℕ) → get_or (replicate n 0) t 0 ≤ 0
no_marks zero t = omega arith
no_marks (suc n) zero = omega arith
no_marks (suc n) (suc t) = no_marks n t

-- all bytes: the count, and then the lists
pub count_right : (bs : List ℕ) → count_fault bs ≡ None → fault bs ≡ lists_fault bs (number_at bs 0) 0 (number_at bs 0) 2
count_right bs e = ap (λ o. option_or o (lists_fault bs (number_at bs 0) 0 (number_at bs 0) 2)) e
