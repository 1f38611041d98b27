-- What is known once the sheet that the papers make was checked, and each paper beside it.
use Rattle.std.proofs.Common.{◌≡◌, ℕ, List, length, None, Ok, Err, Result, sym, refl, ap, ◌∙◌, arith}
use Rattle.std.specs.Option.{option_or}
use Rattle.lists.specs.Format.{fault, lists_of, number_at, unless}
use Rattle.lists.proofs.Positions.{count_of_lists}
use Rattle.sheet.specs.Sheet as sheets
use Rattle.sheet.specs.Sheet.{check_fault}
use Rattle.sheet.proofs.Checked.{checked}
use Rattle.papers.specs.Paper.{paper_of}
use Rattle.papers.specs.Papers.{nth_paper}
use Rattle.agreement.specs.declared.Fault.{Fault}
use Rattle.agreement.specs.Agreement.{Agreed, AgreedBy, agree_fault, year_fault, sheet_fault, sheet_on}
use Rattle.agreement.proofs.Likeness.{alike}
use Rattle.agreement.proofs.Sheets.{stand_read}
use Rattle.agreement.proofs.Steps.{accepted_by, neither, nobody, none_mapped}

module _ (bs ps : List ℕ) (accepted : fault bs ≡ None) where
  agreed : sheet_fault (lists_of bs) ps ≡ None → Agreed bs ps (length (lists_of bs))
  agreed e =
      let ls = lists_of bs in
      let sheet = sheet_on ps (length ls) in
      let n = count_of_lists bs in
      let both = neither _ _ e in
      let right : sheets.sheet_fault (lists_of bs) (sheet_on ps (length (lists_of bs))) ≡ None = none_mapped _ _ both.0 in
      let fine : check_fault bs (sheet_on ps (length (lists_of bs))) ≡ None = ap (λ o. option_or o (sheets.sheet_fault ls sheet)) accepted ∙ right in
      let known = checked bs sheet (Ok (number_at bs 0)) (sym (ap (λ o. unless o (number_at bs 0)) fine)) in
      record {
        all = refl;
        right = λ i h. sym (stand_read ps (length ls) i h) ∙ known.right (number_at bs 0) refl i (omega arith);
        valid = known.valid (number_at bs 0) refl;
        papers = λ i h.
            let here = nobody (agree_fault ls ps sheet) 0 (length ls) both.1 i (omega arith) (omega arith) in
            alike (nth_paper ps i) (paper_of ls sheet i) 0 (none_mapped _ _ (none_mapped _ _ here));
      }

  pub agreed_by : (r : Result ℕ Fault) → r ≡ unless (year_fault (lists_of bs) ps) (length (lists_of bs)) → AgreedBy r bs ps
  unfolding year_fault
  agreed_by (Err f) e = tt
  agreed_by (Ok m) e =
      let done = accepted_by (year_fault (lists_of bs) ps) (length (lists_of bs)) m e in
      let each = neither _ _ done.0 in
      let end = neither _ _ each.1 in
      rw done.1 (agreed end.1)
