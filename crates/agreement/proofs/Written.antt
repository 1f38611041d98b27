-- The paper that is written for a sheet has room in the slice that it is written into.
use Rattle.std.proofs.Common.{◌≡◌, ℕ, ◌<◌, ◌≤◌, List, [], length, get_or, None, sym, ap, ◌∙◌, arith}
use Rattle.std.proofs.lemmas.Bool.{le-ltb, lt-ltb}
use Rattle.std.specs.Option.{option_or}
use Rattle.lists.specs.Format.{Encodable}
use Rattle.sheet.specs.Sheet.{stand_in}
use Rattle.sheet.proofs.Rings.{ring_most}
use Rattle.theory.specs.Trade.{Lists}
use Rattle.papers.specs.Paper.{paper_for, paper_of, room_fault, trader_fault}
use Rattle.papers.specs.Papers.{nth_paper}
use Rattle.papers.proofs.Places.{dearer_few}
use Rattle.papers.proofs.Writes.{length_paper}
use Rattle.agreement.specs.Agreement.{agree_fault, on_paper, unlike_fault}

paper_short : (sheet : List ℕ) (n i : ℕ) (l : List ℕ) → n ≤ 4000 → length l ≤ 40 → length (paper_for sheet n i l) ≤ 8169
paper_short sheet n i l most short =
    let long = length_paper sheet n i l in
    let ring = ring_most sheet i n i in
    let few = dearer_few (stand_in sheet i) l in
    omega arith

-- so all that is found of a trader's paper is that it is unlike the one for the sheet
pub beside_is : (ls : Lists) (ps sheet paper : List ℕ) (i trader : ℕ) → trader ≡ i → Encodable ls → i < length ls → nth_paper ps i ≡ paper →
    agree_fault ls ps sheet trader
    ≡ on_paper trader (option_or (trader_fault (length ls) trader) (option_or (room_fault 8169 (paper_of ls sheet trader)) (unlike_fault paper (paper_of ls sheet trader))))
beside_is ls ps sheet paper i trader at can h is =
    let right = paper_of ls sheet trader in
    let below : trader < length ls = omega arith in
    let short = paper_short sheet (length ls) trader (get_or ls trader []) can.most (can.short trader below) in
    let room : room_fault 8169 (paper_of ls sheet trader) ≡ None = rw (le-ltb 8169 (length (paper_of ls sheet trader)) short) in
    let known : trader_fault (length ls) trader ≡ None = rw (lt-ltb trader (length ls) below) in
    let own : nth_paper ps trader ≡ paper = rw at is in
    ap (λ xs. on_paper trader (unlike_fault xs right)) own
    ∙ (ap (λ o. on_paper trader (option_or o (unlike_fault paper right))) (sym room)
    ∙ ap (λ o. on_paper trader (option_or o (option_or (room_fault 8169 right) (unlike_fault paper right)))) (sym known))
