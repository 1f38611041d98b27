-- The other statements about the exchange.
use Rattle.std.proofs.Common.{◌≡◌, ℕ, zero, suc, ◌-◌, ◌<◌, ◌≤◌, Bool, true, false, not, ◌&&◌, eqb, ltb, List, [], ◌∷◌, ◌++◌, length, get_or, take, set, sym, refl, ap, subst, inl, inr, arith, length-set}
use Rattle.std.proofs.lemmas.Bool.{cases_Bool, cases_eq, cases_lt, ltb-true, lt-ltb, both_ways, eq-eqb, eqb-true, eqb-false, ne_eqb, and_parts, and_from, not-true, not_from_false}
use Rattle.theory.specs.Trade.{Lists, Standing, is_in, rounds, all_in, result, out, none_in}
use Rattle.theory.specs.Promise.{rank_in, rank}
use Rattle.theory.specs.Certificate.{ValidSheet}
use Rattle.theory.specs.Runs.{Run, over, ring, take_ring}
use Rattle.theory.specs.Statements.{SomebodyOnARing, RingsApart, EveryRoundSomebodyLeaves, RoundsCounted, DearestOfThoseIn, NeverLessDear, AnyOrder, SomeOrder, OnlyTheTopMatters, GroupShare, Unbettered, Sharing, ResultUnbettered, CoreUnique, OwnSheetValid, ValidSheetIsTheResult, LeastRounds, along, DearerThanGot, RoundsByRings, Bettered, NoGroupDoesBetter, OthersAreBettered}
use Rattle.theory.proofs.Finite.{size, size_none, size_bound, Turning, find, size_mono, size_false, least_true, level}
use Rattle.theory.proofs.Ranks.{rank_tie, rank_top, points_in, points_dearest}
use Rattle.theory.proofs.Certificates.{reranked, segment, only_unbettered, level_turns, level_well}
use Rattle.theory.proofs.Walks.{in_below, out_past, none_in_all, some_in, somebody_on_ring, rings_meet, ring_in, same_ring_self}
use Rattle.theory.proofs.Leaving.{Sized, rest_fewer}
use Rattle.theory.proofs.Runs.{take_ring_leaves, run_certificate}
use Rattle.theory.proofs.Rounds.{own_unique, least, ring_later, ring_just_later}
use Rattle.theory.proofs.Exchange.{everyone, all_in_sized, all_in_in, all_in_below, certificate, certificate_of, sheet_certificate, certificate_start, certificate_result, rounds_leaves_ring, rounds_somebody_leaves, rounds_out_later, ring_got, count_first}
use Rattle.theory.proofs.Promises.{rank_set_same, rank_set_other, result_below, result_apart, result_own, result_unbettered}

-- ---- rings and rounds

pub somebody_on_a_ring : SomebodyOnARing
unfolding SomebodyOnARing
somebody_on_a_ring ls s i l e = somebody_on_ring ls s (omega arith) i e

pub rings_apart : RingsApart
unfolding RingsApart
rings_apart ls s i j a b p q e = (rings_meet ls s j i b a q (sym e), rings_meet ls s i j a b p e)

pub every_round_somebody_leaves : EveryRoundSomebodyLeaves
unfolding EveryRoundSomebodyLeaves
every_round_somebody_leaves ls k i e = rounds_somebody_leaves ls k i e

pub rounds_counted : RoundsCounted
unfolding RoundsCounted
rounds_counted ls =
    let w = count_first ls in
    (w.0, λ k i l. rounds_out_later ls k _ i l (none_in_all (rounds ls _) w.1 i), λ k l. some_in (rounds ls k) (w.2 k l))

pub dearest_of_those_in : DearestOfThoseIn
unfolding DearestOfThoseIn
dearest_of_those_in ls k i a b =
    let e = ring_got ls k i (rounds_leaves_ring ls k i a b) in (
      rw e (points_in ls (rounds ls k) i a),
      λ t p. elim (cases_lt (rank ls i t) (rank ls i (result ls i))) [
        | inl l ↦ absurd (both_ways (is_in (rounds ls k) t) (points_dearest ls (rounds ls k) i t (rw e at l)) p)
        | inr l ↦ l
      ],
    )

-- ---- results

pub never_less_dear : NeverLessDear
unfolding NeverLessDear
never_less_dear ls i l = result_own ls i l

pub any_order : AnyOrder
unfolding AnyOrder result rounds
any_order ls end r i l = own_unique ls (all_in ls) (all_in_sized ls) (run_certificate ls end (all_in ls) r (all_in_sized ls)) i (all_in_in ls i l)

-- a run from any standing: where somebody is in, the ring of somebody can be taken out, and fewer are in then
some_run : (ls : Lists) (k : ℕ) (s : Standing) → Sized ls s → size (is_in s) (length ls) ≤ k → (end : Standing) × Run ls end s
some_run ls zero s z h = (
  s,
  over (λ i. elim (cases_lt i (length ls)) [
    | inl l ↦ size_none (is_in s) (length ls) h i l
    | inr l ↦ out_past s i (omega (arith, z.inside_length))
  ]),
)
some_run ls (suc k) s z h =
    elim (cases_Bool (none_in s.inside)) [
      | inl e ↦ (s, over (none_in_all s e))
      | inr e ↦
          (let w = some_in s e in
          let j = somebody_on_ring ls s (omega (arith, z.inside_length)) w.0 w.1 in
          let V = take_ring_leaves ls s j.0 z j.1 in
          let b = in_below s j.0 (ring_in ls s j.0 j.1) in
          let f = rest_fewer V (length ls) j.0 (omega (arith, z.inside_length)) (same_ring_self ls s j.0 j.1) in
          let r = some_run ls k (take_ring ls s j.0) V.sized (omega arith) in
          (r.0, ring s j.0 j.1 r.1))
    ]

pub some_order : SomeOrder
unfolding SomeOrder
some_order ls = some_run ls (length ls) (all_in ls) (all_in_sized ls) (size_bound (is_in (all_in ls)) (length ls))

-- two lists that begin alike up to a stand
top_same : (top rest other : List ℕ) (i g : ℕ) →
    take (suc (rank_in (top ++ (g ∷ rest)) i g)) (top ++ (g ∷ other)) ≡ take (suc (rank_in (top ++ (g ∷ rest)) i g)) (top ++ (g ∷ rest))
unfolding rank_in
top_same [] rest other i g = rw (eq-eqb g g refl)
top_same (u ∷ us) rest other i g =
    elim (cases_Bool (eqb u g)) [
      | inl e ↦ rw e
      | inr e ↦ rw e (ap (λ xs. u ∷ xs) (top_same us rest other i g))
    ]

top_dearer : (ls : Lists) (i : ℕ) (top rest other : List ℕ) → i < length ls → (g : ℕ) → get_or ls i [] ≡ top ++ (g ∷ rest) →
    (t : ℕ) → rank (set ls i (top ++ (g ∷ other))) i t < rank (set ls i (top ++ (g ∷ other))) i g → rank ls i t < rank ls i g
unfolding rank
top_dearer ls i top rest other l g e t d =
    let a = rank_set_same ls i (top ++ (g ∷ other)) t l in
    let b = rank_set_same ls i (top ++ (g ∷ other)) g l in
    let h : rank_in (top ++ (g ∷ rest)) i t < rank_in (top ++ (g ∷ rest)) i g =
    rank_top (top ++ (g ∷ rest)) (top ++ (g ∷ other)) i g t (top_same top rest other i g) (rw (a, b) at d) in
    rw e h

pub only_the_top_matters : OnlyTheTopMatters
unfolding OnlyTheTopMatters
only_the_top_matters ls i top rest other l e j m =
    let new = set ls i (top ++ (result ls i ∷ other)) in
    let less : (x t : ℕ) → rank new x t < rank new x (result ls x) → rank ls x t < rank ls x (result ls x) =
    λ x t d. elim (cases_eq x i) [
      | inl q ↦ subst (λ y. rank new y t < rank new y (result ls y) → rank ls y t < rank ls y (result ls y)) (sym q) (top_dearer ls i top rest other l (result ls i) e t) d
      | inr q ↦ (let a = rank_set_other ls i (top ++ (result ls i ∷ other)) x t q in
          let b = rank_set_other ls i (top ++ (result ls i ∷ other)) x (result ls x) q in omega arith)
    ] in
    segment (rank_tie new) (reranked (certificate ls) (rank new) (λ x t p. less x t))
    (certificate_of new (length ls) (length-set ls i (top ++ (result ls i ∷ other)))) j (lt-ltb j (length ls) m)

-- ---- groups

pub result_is_unbettered : ResultUnbettered
unfolding ResultUnbettered Sharing Unbettered
result_is_unbettered ls =
    ((result_below ls, result_apart ls), λ group share h. result_unbettered ls group share h.within h.apart h.no_worse)

-- a sharing maps all traders to all, no two to the same
sharing_turns : (ls : Lists) (σ : ℕ → ℕ) → ((i : ℕ) → i < length ls → σ i < length ls) → ((i j : ℕ) → i < length ls → j < length ls → σ i ≡ σ j → i ≡ j) →
    Turning (length ls) (everyone (length ls)) σ
sharing_turns ls σ below apart = record {
  below = λ x p. ltb-true x (length ls) p;
  into = λ x p. lt-ltb (σ x) (length ls) (below x (ltb-true x (length ls) p));
  apart = λ x y p q. apart x y (ltb-true x (length ls) p) (ltb-true y (length ls) q);
}

pub core_unique : CoreUnique
unfolding CoreUnique Sharing Unbettered
core_unique ls σ (below, apart) u i l =
    only_unbettered (rank_tie ls) (certificate ls) σ (sharing_turns ls σ below apart)
    (λ G share t part well. (let share_of : GroupShare ls σ G share = record {
      within = λ x b g. (t.below (share x) (t.into x g), t.into x g);
      apart = λ x y b c. t.apart x y;
      no_worse = λ x b. well x;
    } in λ x g. u G share share_of x (t.below x g) g))
    i (lt-ltb i (length ls) l)

pub no_group_does_better : NoGroupDoesBetter
unfolding NoGroupDoesBetter Bettered
no_group_does_better ls group b =
    let w = b.2 in
    let i = w.0 in
    let h = b.1 in
    let e = result_unbettered ls group b.0 h.within h.apart h.no_worse i w.1 w.2 in
    let q : rank ls i (b.0 i) ≡ rank ls i (result ls i) = ap (rank ls i) e in
    omega (arith, w.3)

-- σ and the result differ for somebody of round r
differ : Lists → (ℕ → ℕ) → ℕ → ℕ → Bool
differ ls σ r x = eqb (out ls x) r && not (eqb (σ x) (result ls x))

differ_at : (ls : Lists) (σ : ℕ → ℕ) (i : ℕ) → (σ i ≡ result ls i → ⊥) → differ ls σ (out ls i) i ≡ true
unfolding differ
differ_at ls σ i ne =
    and_from (eqb (out ls i) (out ls i)) (not (eqb (σ i) (result ls i))) (eq-eqb (out ls i) (out ls i) refl) (not_from_false (eqb (σ i) (result ls i)) (ne_eqb (σ i) (result ls i) ne))

differ_to : (ls : Lists) (σ : ℕ → ℕ) (r x : ℕ) → differ ls σ r x ≡ true → (out ls x ≡ r) × (σ x ≡ result ls x → ⊥)
unfolding differ
differ_to ls σ r x e =
    let h = and_parts (eqb (out ls x) r) (not (eqb (σ x) (result ls x))) e in
    (eqb-true (out ls x) r h.0, eqb-false (σ x) (result ls x) (not-true (eqb (σ x) (result ls x)) h.1))

-- the first round in which they differ
first_differ : (ls : Lists) (σ : ℕ → ℕ) (i : ℕ) → i < length ls → (σ i ≡ result ls i → ⊥) →
    (x : ℕ) × (x < length ls) × (σ x ≡ result ls x → ⊥) × ((y : ℕ) → everyone (length ls) y ≡ true → out ls y < out ls x → σ y ≡ result ls y)
first_differ ls σ i l ne =
    let n = length ls in
    let some : (r x : ℕ) → x < n → differ ls σ r x ≡ true → ltb 0 (size (differ ls σ r) n) ≡ true =
    λ r x b e. elim (cases_lt 0 (size (differ ls σ r) n)) [
      | inl m ↦ lt-ltb 0 (size (differ ls σ r) n) m
      | inr m ↦ absurd (both_ways (differ ls σ r x) (size_none (differ ls σ r) n m x b) e)
    ] in
    let w = least_true (λ r. ltb 0 (size (differ ls σ r) n)) (out ls i) (some (out ls i) i l (differ_at ls σ i ne)) in
    elim (find (differ ls σ w.0) n) [
      | inl f ↦
          (let d = differ_to ls σ w.0 f.0 f.2 in (
            f.0,
            f.1,
            d.1,
            λ y p m. elim (cases_eq (σ y) (result ls y)) [
              | inl e ↦ e
              | inr e ↦ absurd (both_ways (ltb 0 (size (differ ls σ (out ls y)) n)) (w.3 (out ls y) (omega (arith, d.0)))
                  (some (out ls y) y (ltb-true y n p) (differ_at ls σ y e)))
            ],
          ))
      | inr f ↦ absurd (let z = size_mono (λ x. false) (differ ls σ w.0) n (λ x b e. absurd (both_ways (differ ls σ w.0 x) (f x b) e)) in
          let o = size_false n in let p = ltb-true 0 (size (differ ls σ w.0) n) w.2 in omega arith)
    ]

-- the group of that round, who would share its stands as the result does
pub others_are_bettered : OthersAreBettered
unfolding OthersAreBettered Sharing Bettered
others_are_bettered ls σ (below, apart) i l ne =
    let n = length ls in
    let C = certificate ls in
    let T = sharing_turns ls σ below apart in
    let w = first_differ ls σ i l ne in
    let x = w.0 in
    let r = out ls x in
    let t = level_turns C r in
    let well = level_well (rank_tie ls) C σ T r w.3 in
    let inside : level (everyone n) (out ls) r x ≡ true = and_from (everyone n x) (eqb (out ls x) r) (lt-ltb x n w.1) (eq-eqb (out ls x) r refl) in (
      level (everyone n) (out ls) r,
      (
        result ls,
        record {
          within = λ y b g. (t.below (result ls y) (t.into y g), t.into y g);
          apart = λ y z b c. t.apart y z;
          no_worse = λ y b. well y;
        },
        (
          x,
          w.1,
          inside,
          elim (cases_lt (rank ls x (result ls x)) (rank ls x (σ x))) [
            | inl m ↦ m
            | inr m ↦ absurd (let h = well x inside in
                w.2 (sym (rank_tie ls x (result ls x) (σ x) (result_own ls x w.1) (omega arith))))
          ],
        ),
      ),
    )

-- ---- sheets

pub own_sheet_valid : OwnSheetValid
unfolding OwnSheetValid
own_sheet_valid ls = record {
  exists = result_below ls;
  apart = result_apart ls;
  dearer = λ i t l m d. ((certificate ls).dearer i t (lt-ltb i (length ls) l) (lt-ltb t (length ls) m) d).1;
  together = λ i l. (certificate ls).together i (lt-ltb i (length ls) l);
}

pub valid_sheet_is_the_result : ValidSheetIsTheResult
unfolding ValidSheetIsTheResult
valid_sheet_is_the_result ls got later v i l = certificate_result ls (sheet_certificate ls v) i l

pub least_rounds : LeastRounds
unfolding LeastRounds out
least_rounds ls got later v i l = least ls (all_in ls) (all_in_sized ls) (certificate_start ls (sheet_certificate ls v)) i (all_in_in ls i l)

pub rounds_by_rings : RoundsByRings
unfolding RoundsByRings out result rounds
rounds_by_rings ls i l =
    let z = all_in_sized ls in
    let p = all_in_in ls i l in (
      λ m t d. ring_later ls (all_in ls) z i p m t (all_in_in ls t d.0) d.1,
      λ r e. (let w = ring_just_later ls (all_in ls) z i r p e in
          (w.0, w.1, (all_in_below ls w.1 w.2, w.3), w.4)),
    )

no_later : (ls : Lists) (later : ℕ → ℕ) →
    ((i r : ℕ) → i < length ls → later i ≡ suc r → (m : ℕ) × (t : ℕ) × DearerThanGot ls (along ls i m) t × (later t ≡ r)) →
    (b i : ℕ) → i < length ls → later i < b → later i ≤ out ls i
unfolding RoundsByRings
no_later ls later just zero i l h = absurd (omega arith)
no_later ls later just (suc b) i l h =
    elim (cases_eq (later i) 0) [
      | inl e ↦ omega arith
      | inr e ↦
          (let q : later i ≡ suc (later i - 1) = omega arith in
          let w = just i (later i - 1) l q in
          let x = (rounds_by_rings ls i l).0 w.0 w.1 w.2 in
          let y = no_later ls later just b w.1 w.2.0 (omega (arith, w.3)) in
          omega (arith, w.3))
    ]

-- The rounds of a valid sheet are those of the exchange where each ring of a round other than 0 has a member with a dearer
-- stand whose holder has the round just before: so rounds can be found ring by ring.
pub rounds_determined : (ls : Lists) (got later : ℕ → ℕ) → ValidSheet ls got later →
    ((i r : ℕ) → i < length ls → later i ≡ suc r → (m : ℕ) × (t : ℕ) × DearerThanGot ls (along ls i m) t × (later t ≡ r)) →
    (i : ℕ) → i < length ls → later i ≡ out ls i
unfolding RoundsByRings LeastRounds
rounds_determined ls got later v just i l =
    let a = least_rounds ls got later v i l in
    let b = no_later ls later just (suc (later i)) i l (omega arith) in
    omega arith
