-- How the first fault of the traders is found, one after another.
use Rattle.std.proofs.Common.{◌≡◌, ℕ, zero, suc, ◌+◌, ◌<◌, ◌≤◌, Some, None, Ok, Err, Option, Result, sym, refl, ap, ◌∙◌, inl, inr, arith}
use Rattle.std.proofs.lemmas.Bool.{cases_eq}
use Rattle.std.proofs.lemmas.Result.{MatchResult-at_err, MatchResult-at_ok, err_from_is_err_and}
use Rattle.std.specs.Option.{option_map, option_or}
use Rattle.std.specs.Result.{IsErrAnd, MatchResult}
use Rattle.refusals.specs.declared.Refusal.{Refusal}
use Rattle.lists.specs.Format.{unless}
use Rattle.agreement.specs.declared.Fault.{Fault}
use Rattle.agreement.specs.declared.Fault.TheVariants.{Paper}
use Rattle.agreement.specs.Agreement.{first_fault, on_paper}

-- what a call that is refused, or hands on a value, says of the fault
pub refused_by : {A E : Type 0} (o : Option E) (a : A) (f : E) → ◌≡◌ {A = Result A E} (Err f) (unless o a) → o ≡ Some f
refused_by (Some g) a f e = cc
refused_by None a f e = grind arith

pub accepted_by : {A E : Type 0} (o : Option E) (a b : A) → ◌≡◌ {A = Result A E} (Ok b) (unless o a) → (o ≡ None) × (b ≡ a)
accepted_by (Some g) a b e = grind arith
accepted_by None a b e = (refl, cc)

-- no fault in either of two, or by its variant
pub neither : {E : Type 0} (a b : Option E) → option_or a b ≡ None → (a ≡ None) × (b ≡ None)
neither (Some f) b e = grind arith
neither None b e = (refl, e)

pub none_mapped : {D E : Type 0} (f : D → E) (o : Option D) → option_map f o ≡ None → o ≡ None
none_mapped f (Some d) e = grind arith
none_mapped f None e = refl

-- the first fault of k traders from trader p on, where those before trader i have none
first_wrong : (of : ℕ → Option Fault) (p k i : ℕ) (f : Fault) → ((j : ℕ) → j < i → of j ≡ None) → p ≤ i → i < p + k → of i ≡ Some f →
    first_fault of p k ≡ Some f
unfolding first_fault
first_wrong of p zero i f fine low high e = absurd (omega arith)
first_wrong of p (suc k) i f fine low high e =
    elim (cases_eq p i) [
      | inl same ↦ rw (same, e)
      | inr other ↦ rw (fine p (omega arith)) (first_wrong of (suc p) k i f fine (omega arith) (omega arith) e)
    ]

-- where nobody has one, none is found
pub none_found : (of : ℕ → Option Fault) (p k : ℕ) → ((j : ℕ) → j < p + k → of j ≡ None) → first_fault of p k ≡ None
unfolding first_fault
none_found of p zero fine = refl
none_found of p (suc k) fine = rw (fine p (omega arith)) (none_found of (suc p) k (λ j h. fine j (omega arith)))

-- and where none is found, nobody has one
pub nobody : (of : ℕ → Option Fault) (p k : ℕ) → first_fault of p k ≡ None → (j : ℕ) → p ≤ j → j < p + k → of j ≡ None
unfolding first_fault
nobody of p zero e j low high = absurd (omega arith)
nobody of p (suc k) e j low high =
    let both = neither (of p) (first_fault of (suc p) k) e in
    elim (cases_eq p j) [
      | inl same ↦ rw (← same) both.0
      | inr other ↦ nobody of (suc p) k both.1 j (omega arith) (omega arith)
    ]

-- a check whose refusal is told as that of a trader's paper
told_as : {told : Refusal → Fault → Type 0} (trader : ℕ) (o : Option Refusal) (was : Result (Unit {0}) Refusal) (r : Result (Unit {0}) Fault) →
    was ≡ unless o tt → MatchResult was (λ x. r ≡ Ok x) (λ f. IsErrAnd r (told f)) → ((f : Refusal) (g : Fault) → told f g → g ≡ Paper trader f) →
    r ≡ unless (on_paper trader o) tt
told_as {told} trader (Some f) was r is cases tells =
    let p = err_from_is_err_and r (MatchResult-at_err (λ x. r ≡ Ok x) (λ f. IsErrAnd r (told f)) f is cases) in
    p.1 ∙ ap Err (tells f p.0 p.2)
told_as {told} trader None was r is cases tells = MatchResult-at_ok (λ x. r ≡ Ok x) (λ f. IsErrAnd r (told f)) tt is cases

-- the check of one trader's paper, where the traders before have no fault: it finds the first fault, or there is still none
module _ {told : Refusal → Fault → Type 0} (of : ℕ → Option Fault) (i trader : ℕ) (fine : (j : ℕ) → j < i → of j ≡ None) (at : trader ≡ i)
    (o : Option Refusal) (here : of trader ≡ on_paper trader o) (was : Result (Unit {0}) Refusal) (r : Result (Unit {0}) Fault) (is : was ≡ unless o tt)
    (cases : MatchResult was (λ x. r ≡ Ok x) (λ f. IsErrAnd r (told f))) (tells : (f : Refusal) (g : Fault) → told f g → g ≡ Paper trader f) where
  pub turn_wrong : (n : ℕ) → trader < n → (f : Fault) → r ≡ Err f → first_fault of 0 n ≡ Some f
  turn_wrong n h f e =
      let wrong = refused_by (on_paper trader o) tt f (sym e ∙ told_as trader o was r is cases tells) in
      first_wrong of 0 n trader f (λ j low. fine j (omega arith)) (omega arith) (omega arith) (here ∙ wrong)

  pub turn_fine : (x : Unit {0}) → r ≡ Ok x → (k : ℕ) → k ≡ i + 1 → (j : ℕ) → j < k → of j ≡ None
  turn_fine x e k next j h =
      let right = (accepted_by (on_paper trader o) tt x (sym e ∙ told_as trader o was r is cases tells)).0 in
      elim (cases_eq j trader) [ inl same ↦ rw same (here ∙ right) | inr other ↦ fine j (omega arith) ]
