-- Papers that pass and agree with each other make a valid sheet.
use Rattle.std.proofs.Common.{◌≡◌, ℕ, zero, suc, ◌+◌, ◌-◌, ◌*◌, ◌<◌, ◌≤◌, Bool, true, false, cond, not, ◌&&◌, eqb, ltb, ◌⊎◌, List, [], ◌∷◌, length, get_or, None, sym, refl, ap, ◌∙◌, inl, inr, arith}
use Rattle.std.proofs.lemmas.List.{append-nil, get_or_default}
use Rattle.std.proofs.lemmas.Bool.{and_parts, both_ways, cases_Bool, cases_eq, eq-eqb, eqb-true, ltb-true, ne_eqb, or_cases, not-true}
use Rattle.std.specs.Option.{option_or}
use Rattle.theory.specs.Certificate.{ValidSheet, steps}
use Rattle.lists.specs.Format.{Encodable, list_bytes, member, numbers, own_list_fault}
use Rattle.theory.specs.Promise.{Distinct, Proper, rank, rank_in}
use Rattle.theory.specs.Statements.{ValidSheetIsTheResult}
use Rattle.theory.specs.Trade.{Lists}
use Rattle.lists.proofs.Accepted.{no_fault_both}
use Rattle.lists.proofs.Encoding.{written_list}
use Rattle.theory.proofs.Finite.{Returns, returns_apart}
use Rattle.theory.proofs.Results.{valid_sheet_is_the_result}
use Rattle.papers.specs.Faults.{count_fault, dearer_fault, field_fault, fields_fault, gone_fault, head_fault, holder_fault, in_place, length_fault, own_fault, owner, ring_fault, round_fault, stand_fault, tail_fault}
use Rattle.papers.specs.Paper.{count_on, dearer_than, gone_on, holder_on, own_on, ring_length, ring_on, round_on, stand_on}
use Rattle.papers.proofs.Places.{dearer_more}
use Rattle.papers.specs.Trust.{Agreeing, AgreeingPapersAreRight, AgreeingPapersMakeASheet, next_on, own_list}

-- ---- what a paper that passes says

field_right : (paper : List ℕ) (f end : ℕ) (right : Bool) → field_fault paper f end right ≡ None → right ≡ true
field_right paper f end right e = grind arith

ring_right : (paper before : List ℕ) (left k j : ℕ) → ring_fault paper before left k ≡ None → k ≤ j → j < k + left → in_place paper j ≡ true
unfolding ring_fault
ring_right paper before zero k j e low high = absurd (omega arith)
ring_right paper before (suc left) k j e low high =
    let both = no_fault_both _ _ e in
    let here = field_right paper (4 + k) (10 + 2 * k) _ both.0 in
    elim (cases_eq k j) [
      | inl is ↦ rw (sym is) (and_parts _ _ (and_parts _ _ here).1).0
      | inr other ↦ ring_right paper (ring_on paper k ∷ before) left (suc k) j both.1 (omega arith) (omega arith)
    ]

dearer_right : (paper ts : List ℕ) (j k q : ℕ) → dearer_fault paper ts j ≡ None → k < length ts → q ≡ j + k →
    (holder_on paper q ≡ get_or ts k 0) × (gone_on paper q < round_on paper)
unfolding dearer_fault
dearer_right paper [] j k q e h is = absurd (omega arith)
dearer_right paper (t ∷ ts) j zero q e h is =
    let both = no_fault_both (holder_fault paper j t) (option_or (gone_fault paper j) (dearer_fault paper ts (suc j))) e in
    let rest = no_fault_both (gone_fault paper j) (dearer_fault paper ts (suc j)) both.1 in
    let same : q ≡ j = omega arith in
    let held = eqb-true (holder_on paper j) t (field_right paper _ _ (eqb (holder_on paper j) t) both.0) in
    let gone = ltb-true (gone_on paper j) (round_on paper) (field_right paper _ _ (ltb (gone_on paper j) (round_on paper)) rest.0) in
    rw same (held, gone)
dearer_right paper (t ∷ ts) j (suc k) q e h is =
    let both = no_fault_both (holder_fault paper j t) (option_or (gone_fault paper j) (dearer_fault paper ts (suc j))) e in
    let rest = no_fault_both (gone_fault paper j) (dearer_fault paper ts (suc j)) both.1 in
    dearer_right paper ts (suc j) k q rest.1 (omega arith) (omega arith)

-- A paper that hangs together, for a list with the stands l.
pub record Whole (l paper : List ℕ) : Type 0 where
  pub listed : (stand_on paper ≡ own_on paper) ⊎ (member (stand_on paper) l ≡ true)
  pub some : 0 < ring_length paper
  pub alone : (stand_on paper ≡ own_on paper → ⊥) → ring_length paper ≡ 1 → ⊥
  pub placed : (k : ℕ) → k < ring_length paper → in_place paper k ≡ true
  pub count : count_on paper ≡ length (dearer_than (stand_on paper) l)
  pub dearer : (j : ℕ) → j < length (dearer_than (stand_on paper) l) →
      (holder_on paper j ≡ get_or (dearer_than (stand_on paper) l) j 0) × (gone_on paper j < round_on paper)

pub whole : (l paper : List ℕ) → fields_fault l paper ≡ None → Whole l paper
whole l paper e =
    let parts = no_fault_both (head_fault l paper) (option_or (ring_fault paper [] (ring_length paper) 0) (tail_fault paper (dearer_than (stand_on paper) l))) e in
    let front = no_fault_both (own_fault paper) (option_or (round_fault paper) (option_or (stand_fault l paper) (length_fault paper))) parts.0 in
    let more = no_fault_both (round_fault paper) (option_or (stand_fault l paper) (length_fault paper)) front.1 in
    let third = no_fault_both (stand_fault l paper) (length_fault paper) more.1 in
    let back = no_fault_both (ring_fault paper [] (ring_length paper) 0) (tail_fault paper (dearer_than (stand_on paper) l)) parts.1 in
    let end = no_fault_both (count_fault paper (length (dearer_than (stand_on paper) l))) (dearer_fault paper (dearer_than (stand_on paper) l) 0) back.1 in
    let long = field_right paper 3 8 (ltb 0 (ring_length paper) && (ltb (ring_length paper) 4001 && cond (eqb (stand_on paper) (own_on paper)) (eqb (ring_length paper) 1) (not (eqb (ring_length paper) 1)))) third.1 in
    let one = cond (eqb (stand_on paper) (own_on paper)) (eqb (ring_length paper) 1) (not (eqb (ring_length paper) 1)) in
    let bounds = and_parts (ltb 0 (ring_length paper)) (ltb (ring_length paper) 4001 && one) long in
    let kept = and_parts (ltb (ring_length paper) 4001) one bounds.1 in
    record {
      listed = elim (or_cases (eqb (stand_on paper) (own_on paper)) (member (stand_on paper) l) (field_right paper 2 6 _ third.0)) [
        | inl own ↦ inl (eqb-true (stand_on paper) (own_on paper) own)
        | inr there ↦ inr there
      ];
      some = ltb-true 0 (ring_length paper) bounds.0;
      alone = λ other single. both_ways (eqb (ring_length paper) 1)
          (not-true (eqb (ring_length paper) 1) (rw (ne_eqb (stand_on paper) (own_on paper) other) at kept.1))
          (eq-eqb (ring_length paper) 1 single);
      placed = λ k h. ring_right paper [] (ring_length paper) 0 k back.0 (omega arith) (omega arith);
      count = eqb-true (count_on paper) (length (dearer_than (stand_on paper) l)) (field_right paper _ _ _ end.0);
      dearer = λ j h. dearer_right paper (dearer_than (stand_on paper) l) 0 j j end.1 h (omega arith);
    }

-- ---- a list

member_place : (t : ℕ) (l : List ℕ) → member t l ≡ true → (j : ℕ) × (j < length l) × (get_or l j 0 ≡ t)
member_place t [] e = absurd (both_ways false refl e)
member_place t (u ∷ us) e = elim (cases_Bool (eqb u t)) [
  | inl same ↦ (0, omega arith, eqb-true u t same)
  | inr other ↦ (let w = member_place t us (rw other at e) in (suc w.0, omega (arith, w.1), w.2))
]

-- a stand that is dearer than g, which is listed or the own one, stands before it in the list
before_it : (l : List ℕ) (i g t : ℕ) → (g ≡ i) ⊎ (member g l ≡ true) → rank_in l i t < rank_in l i g →
    (j : ℕ) × (j < length (dearer_than g l)) × (get_or (dearer_than g l) j 0 ≡ t)
unfolding rank_in
before_it [] i g t (inl e) d = absurd (let z : cond (eqb i t) 0 1 < 0 = rw (eq-eqb i g (sym e)) at d in omega arith)
before_it [] i g t (inr e) d = absurd (both_ways false refl e)
before_it (u ∷ us) i g t own d = elim (cases_Bool (eqb u g)) [
  | inl same ↦ absurd (let z : cond (eqb u t) 0 (suc (rank_in us i t)) < 0 = rw same at d in omega arith)
  | inr other ↦ elim (cases_Bool (eqb u t)) [
    | inl here ↦ rw (dearer_more, other) (0, omega arith, eqb-true u t here)
    | inr there ↦
        (let d' : suc (rank_in us i t) < suc (rank_in us i g) = rw (other, there) at d in
        let own' : (g ≡ i) ⊎ (member g us ≡ true) = elim own [ inl e ↦ inl e | inr e ↦ inr (rw other at e) ] in
        let w = before_it us i g t own' (omega arith) in
        rw (dearer_more, other) (suc w.0, omega (arith, w.1), w.2))
  ]
]

-- ---- all papers

module _ (ls : Lists) (papers : ℕ → List ℕ) (enc : Encodable ls) (agree : Agreeing ls papers) where
  got : ℕ → ℕ
  got i = stand_on (papers i)

  hangs : (i : ℕ) → i < length ls → Whole (get_or ls i []) (papers i)
  hangs i h =
      let l = get_or ls i [] in
      let list : numbers (list_bytes (own_list ls i) 0) ≡ get_or ls i [] =
      written_list (own_list ls i) 0 (get_or ls i []) [] (sym (append-nil (own_list ls i))) in
      let fields = (no_fault_both (own_list_fault (own_list ls i) (owner (papers i))) (fields_fault (numbers (list_bytes (own_list ls i) 0)) (papers i)) (agree.passes i h)).1 in
      whole (get_or ls i []) (papers i) (rw list at fields)

  own_or_listed : (i : ℕ) → i < length ls → (stand_on (papers i) ≡ i) ⊎ (member (stand_on (papers i)) (get_or ls i []) ≡ true)
  own_or_listed i h = elim (hangs i h).listed [ inl e ↦ inl (e ∙ agree.own i h) | inr e ↦ inr e ]

  below : (i : ℕ) → i < length ls → stand_on (papers i) < length ls
  unfolding Proper Distinct
  below i h = elim (own_or_listed i h) [
    | inl e ↦ rw e h
    | inr e ↦
        (let w = member_place (stand_on (papers i)) (get_or ls i []) e in
        let there = (enc.proper i h).0.1 w.0 w.1 in
        let same = get_or_default (get_or ls i []) w.0 0 (length ls) w.1 in
        omega (arith, w.2))
  ]

  first : (i : ℕ) → i < length ls → ring_on (papers i) 0 ≡ i
  first i h = eqb-true (ring_on (papers i) 0) (own_on (papers i)) ((hangs i h).placed 0 (hangs i h).some) ∙ agree.own i h

  second : (i : ℕ) → i < length ls → 1 < ring_length (papers i) → ring_on (papers i) 1 ≡ stand_on (papers i)
  second i h more = eqb-true (ring_on (papers i) 1) (stand_on (papers i)) ((hangs i h).placed 1 more)

  same_round : (i : ℕ) → i < length ls → round_on (papers (stand_on (papers i))) ≡ round_on (papers i)
  same_round i h = elim (cases_eq (stand_on (papers i)) i) [
    | inl e ↦ ap (λ j. round_on (papers j)) e
    | inr e ↦
        (let some = (hangs i h).some in
        let long = (hangs i h).alone (λ q. e (q ∙ agree.own i h)) in
        let more : 1 < ring_length (papers i) = omega (arith, long) in
        ap (λ j. round_on (papers j)) (sym (second i h more)) ∙ agree.rounds i 1 h more)
  ]

  around : (i k : ℕ) → i < length ls → k < ring_length (papers i) → steps got k i ≡ ring_on (papers i) k
  unfolding got
  around i zero h less = sym (first i h)
  around i (suc k) h less =
      let on = agree.stands i k h (omega arith) in
      ap got (around i k h (omega arith)) ∙ (on ∙ rw (ne_eqb (suc k) (ring_length (papers i)) (λ e. omega arith)))

  comes_back : (i : ℕ) → i < length ls → Returns got i
  unfolding got
  comes_back i h =
      let m = ring_length (papers i) in
      let some = (hangs i h).some in
      let k = ring_length (papers i) - 1 in
      let on = agree.stands i (ring_length (papers i) - 1) h (omega arith) in
      let last : eqb (suc (ring_length (papers i) - 1)) (ring_length (papers i)) ≡ true = eq-eqb _ _ (omega arith) in
      let closed : next_on (papers i) (ring_length (papers i) - 1) ≡ ring_on (papers i) 0 = rw last in
      (ring_length (papers i) - 1, ap got (around i (ring_length (papers i) - 1) h (omega arith)) ∙ (on ∙ (closed ∙ first i h)))

  earlier : (i t : ℕ) → i < length ls → rank ls i t < rank ls i (stand_on (papers i)) → round_on (papers t) < round_on (papers i)
  unfolding rank
  earlier i t h d =
      let w = before_it (get_or ls i []) i (stand_on (papers i)) t (own_or_listed i h) d in
      let one = (hangs i h).dearer w.0 w.1 in
      let counted = (hangs i h).count in
      let gone = agree.gone i w.0 h (omega (arith, w.1)) in
      let who : round_on (papers (holder_on (papers i) w.0)) ≡ round_on (papers t) = ap (λ j. round_on (papers j)) (one.0 ∙ w.2) in
      omega (arith, one.1)

  makes_a_sheet : ValidSheet ls (λ i. stand_on (papers i)) (λ i. round_on (papers i))
  unfolding got
  makes_a_sheet = record {
    exists = below;
    apart = λ i j hi hj e. returns_apart (λ x. stand_on (papers x)) i j (comes_back i hi) (comes_back j hj) e;
    dearer = λ i t h b d. earlier i t h d;
    together = same_round;
  }

pub agreeing_papers_make_a_sheet : AgreeingPapersMakeASheet
unfolding AgreeingPapersMakeASheet
agreeing_papers_make_a_sheet ls papers enc agree = makes_a_sheet ls papers enc agree

pub agreeing_papers_are_right : AgreeingPapersAreRight
unfolding AgreeingPapersAreRight ValidSheetIsTheResult
agreeing_papers_are_right ls papers enc agree i h =
    valid_sheet_is_the_result ls (λ i. stand_on (papers i)) (λ i. round_on (papers i)) (makes_a_sheet ls papers enc agree) i h
