use Rattle.std.proofs.Common.{◌≡◌, length, refl, ap, ◌∙◌, arith, rules}
use Rattle.lists.specs.Format.{bytes_of, encode_stands}
use Rattle.papers.specs.Paper.{paper_for, written}
use Rattle.papers.proofs.Sources.{no_room, enough_room}
use Rattle.papers.proofs.Writes.{paper_size, paper_written}
use Rattle.papers.proofs.writing.write_for.Goals as goal

pub returns-then-out-length-clause-answer : goal.returns-then-out-length-clause-answer
returns-then-out-length-clause-answer c =
    let sheet = c.args.sheet.now.bytes in
    let n = length c.args.sheet.now.lists in
    let size = paper_size sheet n c.args.trader c.args.members _ c.stand-stand.result c.dearer_count-dearer.result c.args.list.now c.args.out.now c.requires refl
    c.stand-stand.ensures.stand c.dearer_count-dearer.ensures.answer in
    no_room (length c.args.out.now) _ (paper_for sheet n c.args.trader c.args.list.now) size c.if-out-length.true

pub returns : goal.returns
returns c =
    let sheet = c.args.sheet.now.bytes in
    let n = length c.args.sheet.now.lists in
    let i = c.args.trader in
    let members = c.args.members in
    let round = c.round.result in
    let stand = c.stand-stand.result in
    let dearer = c.dearer_count-dearer.result in
    let l = c.args.list.now in
    let before = c.args.out.now in
    let size = paper_size sheet n i members round stand dearer l before c.requires c.round.ensures c.stand-stand.ensures.stand c.dearer_count-dearer.ensures.answer in
    let one : c.head.new.self.out.now
    ≡ written 6 (bytes_of c.args.members) (written 4 (bytes_of c.stand-stand.result) (written 2 (bytes_of c.round.result) (written 0 (bytes_of c.args.trader) c.args.out.now))) =
    c.head.ensures.out ∙ rw (c.over-writer.ensures.at, c.over-writer.ensures.out) in
    let two = c.ring-2.ensures.out ∙ ap (λ ring. written c.head.new.self.at (encode_stands ring) c.head.new.self.out.now) c.ring.ensures.ring in
    let ring = ap length c.ring.ensures.ring in
    let done = paper_written sheet n i members round stand dearer l before c.requires c.round.ensures c.stand-stand.ensures.stand c.dearer_count-dearer.ensures.answer c.if-out-length.false
    _ _ _ _ _ _ _ one two (omega arith) c.byte.ensures.out (omega arith) c.gone.ensures.out (omega arith) in
    record {
      answer = enough_room (length before) _ (paper_for sheet n i l) size c.if-out-length.false;
      out = search rules;
    }
