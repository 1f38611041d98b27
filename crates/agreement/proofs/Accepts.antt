-- The papers of an accepted sheet are accepted.
use Rattle.std.proofs.Common.{◌≡◌, ℕ, suc, ◌<◌, ◌≤◌, cond, eqb, List, [], ◌∷◌, length, get_or, Some, None, Option, refl, ap, ◌∙◌, arith}
use Rattle.std.proofs.lemmas.Bool.{eq-eqb, le-ltb}
use Rattle.std.specs.Option.{option_or}
use Rattle.refusals.specs.declared.Refusal.TheVariants.{PaperFault}
use Rattle.lists.specs.Format.{Encodable, end_fault, fault, lists_of}
use Rattle.theory.specs.Trade.{Lists}
use Rattle.lists.proofs.Accepted.{accepted_encodable, no_fault_both}
use Rattle.sheet.specs.Sheet as sheets
use Rattle.sheet.specs.Sheet.{sheet_of}
use Rattle.sheet.proofs.Checked.{accepted_valid}
use Rattle.sheet.proofs.Written.{written_accepted, written_bytes}
use Rattle.papers.specs.Faults.{paper_check_fault}
use Rattle.papers.specs.Paper.{own_on, paper_of}
use Rattle.papers.specs.Papers.{nth_paper, paper_start}
use Rattle.papers.specs.Trust.{PapersPass, own_list}
use Rattle.papers.proofs.Fields.{own_written}
use Rattle.papers.proofs.Passes.{papers_pass}
use Rattle.agreement.specs.declared.Fault.{Fault}
use Rattle.agreement.specs.Agreement.{PapersOfASheetAgree, PapersOfTheExchangeAgree, agree_fault, all_papers, at_field, difference, first_fault, on_paper, own_fault, papers_fault, place_fault, refused, sheet_fault, sheet_on, unlike_fault, year_fault}
use Rattle.agreement.proofs.Rows.{last_ends, nth_is, sheet_made}
use Rattle.agreement.proofs.Steps.{none_found}

-- ---- where there is no fault

-- bytes do not differ from themselves
same_bytes : (xs : List ℕ) (p : ℕ) → difference xs xs p ≡ None
unfolding difference
same_bytes [] p = refl
same_bytes (x ∷ xs) p = rw (eq-eqb x x refl) (same_bytes xs (suc p))

none_of_two : {a b : Option Fault} → a ≡ None → b ≡ None → option_or a b ≡ None
none_of_two {a} {b} p q = rw (p, q)

no_more : (ps : List ℕ) (q : ℕ) → length ps ≤ q → end_fault ps q ≡ None
no_more ps q end = rw (le-ltb q (length ps) end)

-- ---- one trader's paper

own_none : (list paper : List ℕ) (i : ℕ) → paper_check_fault list paper ≡ None → own_on paper ≡ i → own_fault list paper i ≡ None
own_none list paper i passes own =
    ap (λ o. option_or o (cond (eqb (own_on paper) i) None (Some (PaperFault 0)))) passes ∙ ap (λ b. cond b None (Some (PaperFault 0))) (eq-eqb (own_on paper) i own)

unlike_none : (paper right : List ℕ) → paper ≡ right → unlike_fault paper right ≡ None
unlike_none paper right same = ap (λ xs. unlike_fault xs right) same ∙ ap (at_field right) (same_bytes right 0)

-- ---- all of them

module _ (ls : Lists) (sheet : List ℕ) (can : Encodable ls) (right : sheets.sheet_fault ls sheet ≡ None)
    (bytes : (k : ℕ) → k < length sheet → get_or sheet k 0 < 256) where
  abbrev ps : List ℕ
  ps = all_papers ls sheet

  each_none : (i : ℕ) → i < length ls → place_fault ls ps i ≡ None
  unfolding PapersPass
  each_none i h =
      let passes = papers_pass ls sheet i can right h in
      let own = own_written sheet (length ls) i (get_or ls i []) in
      ap (λ xs. on_paper i (own_fault (own_list ls i) xs i)) (nth_is ls sheet i h) ∙ ap (on_paper i) (own_none (own_list ls i) (paper_of ls sheet i) i passes own)

  end_none : refused (end_fault ps (paper_start ps (length ls))) ≡ None
  end_none = ap refused (no_more ps (paper_start ps (length ls)) (last_ends ls sheet))

  made : sheet_on ps (length ls) ≡ sheet
  made = sheet_made ls sheet (accepted_valid ls sheet right).0 bytes

  beside_none : (i : ℕ) → i < length ls → agree_fault ls ps sheet i ≡ None
  beside_none i h = ap (on_paper i) (unlike_none (nth_paper ps i) (paper_of ls sheet i) (nth_is ls sheet i h))

  together_none : sheet_fault ls ps ≡ None
  together_none =
      ap (λ xs. option_or (refused (sheets.sheet_fault ls xs)) (first_fault (agree_fault ls ps xs) 0 (length ls))) made
      ∙ none_of_two (ap refused right)
      (none_found (agree_fault ls ps sheet) 0 (length ls) (λ j h. beside_none j (omega arith)))

  year_none : year_fault ls ps ≡ None
  unfolding year_fault
  year_none =
      let each = none_found (place_fault ls ps) 0 (length ls) (λ j h. each_none j (omega arith)) in
      none_of_two each (none_of_two end_none together_none)

papers_none : (bs sheet : List ℕ) → fault bs ≡ None → sheets.sheet_fault (lists_of bs) sheet ≡ None → ((k : ℕ) → k < length sheet → get_or sheet k 0 < 256) →
    papers_fault bs (all_papers (lists_of bs) sheet) ≡ None
papers_none bs sheet accepted right bytes =
    none_of_two (ap refused accepted) (year_none (lists_of bs) sheet (accepted_encodable bs accepted) right bytes)

pub papers_of_a_sheet_agree : PapersOfASheetAgree
unfolding PapersOfASheetAgree
papers_of_a_sheet_agree bs sheet bytes also ok =
    let both = no_fault_both (fault bs) (sheets.sheet_fault (lists_of bs) sheet) ok in
    papers_none bs sheet both.0 both.1 also

pub papers_of_the_exchange_agree : PapersOfTheExchangeAgree
unfolding PapersOfTheExchangeAgree
papers_of_the_exchange_agree bs bytes accepted =
    let can = accepted_encodable bs accepted in
    let written = written_bytes (lists_of bs) (omega (arith, can.most)) in
    papers_none bs (sheet_of (lists_of bs)) accepted (written_accepted (lists_of bs) can.proper) (λ k h. written k)
