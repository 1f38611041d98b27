use Rattle.std.proofs.Common.{◌≡◌, ℕ, ◌*◌, ◌<◌, length, get_or, replicate, refl, ap, ◌∙◌, rules}
use Rattle.std.proofs.lemmas.Result.{err_from_is_err_and}
use Rattle.lists.specs.Format.{lists_of}
use Rattle.lists.proofs.Faults.{no_fault}
use Rattle.sheet.proofs.Promise.{promised, results_end, room_enough, sheet_end}
use Rattle.sheet.proofs.exchanging.exchange_whole.Goals as goal

pub returns-in_err-exchanged-clause-answer : goal.returns-in_err-exchanged-clause-answer
returns-in_err-exchanged-clause-answer c =
    let bs = c.args.bytes.now in
    let p = err_from_is_err_and c.from_residual.result c.from_residual.ensures.1 in
    let room = room_enough bs _ _ c.requires.results c.requires.work in
    rw (p.1, p.2) (c.in_err-exchanged.ensures.answer ∙ rw room)

pub returns-clause-left : goal.returns-clause-left
returns-clause-left c =
    let ls = lists_of c.args.bytes.now in
    let ran = c.in_ok-exchanged.ensures in
    let n = c.requires.results in
    let results = results_end ls _ _ _ _ _ n refl ran.results ran.work in
    let filled : c.fill.new.self ≡ replicate (3 * length (lists_of c.args.bytes.now)) 0 =
    c.fill.ensures.after (λ y e. e) ∙ ap (λ k. replicate k 0) (c.run_rounds.auto.work ∙ c.requires.work ∙ ap (λ k. 3 * k) n) in
    (results, sheet_end ls _ _ _ _ _ n refl ran.results ran.work _ _ c.run_rounds.auto.results c.write_sheet.ensures, filled)

pub returns-clause-promise : goal.returns-clause-promise
returns-clause-promise c xs ys =
    let bs = c.args.bytes.now in
    let ran = c.in_ok-exchanged.ensures in
    let ls = lists_of bs in
    let n = c.requires.results in
    let room = room_enough bs _ _ c.requires.results c.requires.work in
    let results = results_end ls _ _ _ _ _ n refl ran.results ran.work in
    let sheet = sheet_end ls _ _ _ _ _ n refl ran.results ran.work _ _ c.run_rounds.auto.results c.write_sheet.ensures in
    let bytes : (k : ℕ) → k < length c.args.bytes.now → get_or c.args.bytes.now k 0 < 256 = λ k h. search rules in
    rw (results, sheet) (promised bs xs ys bytes (no_fault _ _ _ (rw room at ran.answer)).0)
