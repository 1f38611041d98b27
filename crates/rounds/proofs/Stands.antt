-- The slices after k rounds, and that one more round of the code is one round of the exchange.
use Rattle.std.proofs.Common.{◌≡◌, ℕ, suc, ◌+◌, ◌-◌, ◌*◌, ◌<◌, ◌≤◌, true, false, cond, not, ◌&&◌, eqb, ltb, List, [], ◌∷◌, ◌++◌, length, get_or, take, drop, replicate, sym, refl, ap, ◌∙◌, inl, inr, add-one, arith}
use Rattle.std.specs.List.{list_any}
use Rattle.std.proofs.lemmas.Bool.{cases_Bool, cond-true, cond-false, both_ways, lt-ltb}
use Rattle.std.proofs.lemmas.List.{append-nil, drop_all, drop_at, take_at, ext_get_or, length-append, length-drop, length-replicate, length-take-le}
use Rattle.std.proofs.lemmas.List.FromFn.{fill_by_all, length-map-range_with_len}
use Rattle.theory.specs.Trade.{Lists, is_in, points, on_ring, rounds, all_in, result, out, none_in, count_from, round_count}
use Rattle.theory.proofs.Walks.{none_in_all, ring_in}
use Rattle.theory.proofs.Exchange.{rounds_start, rounds_inside_length, rounds_inside_next, all_in_in, ring_out, ring_got, count_start, count_more, count_end, some_in_bound}
use Rattle.pointing.proofs.Places.{exchange_points}
use Rattle.rings.specs.Ring.{ring_flags, with_flags}
use Rattle.rings.proofs.Law.{flag_law}
use Rattle.rounds.specs.Run.{results_of, outs_of}
use Rattle.rounds.specs.Turn.{all_pointed}
use Rattle.rounds.proofs.Pointed.{all_at, all_length}

pub some_in_any : (inside : List ℕ) → list_any (λ x. eqb x 1) inside ≡ not (none_in inside)
unfolding none_in
some_in_any [] = refl
some_in_any (x ∷ xs) = let ih = some_in_any xs in grind arith

-- The slices of n traders after k rounds: who is in, and for everybody who is out the result and its round; those rounds and
-- the rounds to come are all.
pub record Stands (ls : Lists) (n k : ℕ) (results work outs : List ℕ) : Type 0 where
  pub size : n ≡ length ls
  pub results_size : length results ≡ n
  pub work_size : length work ≡ 2 * n
  pub outs_size : length outs ≡ n
  pub inside : take n work ≡ (rounds ls k).inside
  pub got : (j : ℕ) → j < n → is_in (rounds ls k) j ≡ false → get_or results j 0 ≡ result ls j
  pub went : (j : ℕ) → j < n → is_in (rounds ls k) j ≡ false → get_or outs j 0 ≡ out ls j
  pub count : round_count ls ≡ k + count_from ls (rounds ls k) (length ls - k)

-- ---- the start

start_all : (ls : Lists) (j : ℕ) → j < length ls → is_in (rounds ls 0) j ≡ true
start_all ls j h = ap (λ s. is_in s j) (rounds_start ls) ∙ all_in_in ls j h

pub stands_start : (ls : Lists) (n : ℕ) (results work outs front : List ℕ) → n ≡ length ls → length results ≡ n → length work ≡ 2 * n → length outs ≡ n →
    front ≡ replicate (length (take n work)) 1 → Stands ls n 0 results (front ++ drop n work) outs
unfolding all_in
stands_start ls n results work outs front n_is results_size work_size outs_size ones =
    let size : length front ≡ n = ap length ones ∙ length-replicate {A = ℕ} (length (take n work)) 1 ∙ length-take-le n work (omega arith) in
    record {
      size = n_is;
      results_size = results_size;
      work_size = length-append front (drop n work) ∙ omega (arith, length-drop n work);
      outs_size = outs_size;
      inside = take_at front _ n size ∙ ones ∙ rw (length-take-le n work (omega arith), n_is) (sym (ap (λ s. s.inside) (rounds_start ls)));
      got = λ j h e. absurd (both_ways (is_in (rounds ls 0) j) e (start_all ls j (omega arith)));
      went = λ j h e. absurd (both_ways (is_in (rounds ls 0) j) e (start_all ls j (omega arith)));
      count = count_start ls;
    }

-- ---- one round

-- where one of the first i flags says ring, the entry is v, and all others are as they were
pub record Changed (flags : List ℕ) (v : ℕ) (was now : List ℕ) (i : ℕ) : Type 0 where
  pub each : (j : ℕ) → get_or now j 0 ≡ cond (ltb j i && eqb (get_or flags j 0) 1) v (get_or was j 0)

-- somebody is in only in fewer rounds than there are traders
pub stands_bound : (ls : Lists) (n k : ℕ) (results work outs : List ℕ) → Stands ls n k results work outs → none_in (take n work) ≡ false → k < length ls
stands_bound ls n k results work outs S some = some_in_bound ls k (rw (← S.inside) some)

module _ (ls : Lists) (n k : ℕ) (results work outs : List ℕ) (S : Stands ls n k results work outs)
    (pointed : List ℕ) (P : pointed ≡ all_pointed ls 0 (take (length ls) work) results) where
  pointed_is : (j : ℕ) → j < n → get_or pointed j 0 ≡ cond (is_in (rounds ls k) j) (points ls (rounds ls k) j) (get_or results j 0)
  unfolding is_in points
  pointed_is j h =
      ap (λ xs. get_or xs j 0) (P ∙ ap (λ inside. all_pointed ls 0 inside results) (rw (← S.size) S.inside))
      ∙ all_at (rounds ls k).inside ls 0 j j results (omega arith) (omega (arith, S.size)) (omega (arith, S.results_size))
      ∙ ap (λ x. cond (eqb (get_or (rounds ls k).inside j 0) 1) x (get_or results j 0)) (exchange_points (rounds ls k) (get_or ls j []) j 0)

  pointed_in : (j : ℕ) → j < length ls → is_in (rounds ls k) j ≡ true → get_or pointed j 0 ≡ points ls (rounds ls k) j
  pointed_in j h e = pointed_is j (omega (arith, S.size)) ∙ cond-true _ _ _ e

  pointed_out : (j : ℕ) → j < n → is_in (rounds ls k) j ≡ false → get_or pointed j 0 ≡ get_or results j 0
  pointed_out j h e = pointed_is j h ∙ cond-false _ _ _ e

  pointed_size : length pointed ≡ length ls
  pointed_size = ap length P ∙ all_length _ ls 0 results ∙ S.results_size ∙ S.size

  in_size : length (rounds ls k).inside ≡ n
  in_size = rounds_inside_length ls k ∙ sym S.size

  -- the rings are looked for: who is in, and the flags
  module _ (marked was flags : List ℕ) (M : marked ≡ with_flags pointed work) (W : was ≡ take n marked) (F : flags ≡ drop n marked) where
    marked_is : marked ≡ (rounds ls k).inside ++ ring_flags (rounds ls k).inside pointed
    marked_is =
        let none : drop (2 * n) work ≡ [] = drop_all (2 * n) work (omega (arith, S.work_size)) in
        let n_is : length pointed ≡ n = pointed_size ∙ sym S.size in
        M ∙ rw (n_is, none, S.inside, append-nil (ring_flags (rounds ls k).inside pointed)) refl

    was_is : was ≡ (rounds ls k).inside
    was_is = W ∙ rw marked_is (take_at (rounds ls k).inside _ n in_size)

    flags_are : flags ≡ ring_flags (rounds ls k).inside pointed
    flags_are = F ∙ rw marked_is (drop_at (rounds ls k).inside _ n in_size)

    flags_size : length flags ≡ n
    unfolding ring_flags
    flags_size = ap length flags_are ∙ length-map-range_with_len _ 0 (length pointed) ∙ pointed_size ∙ sym S.size

    flag_is : (j : ℕ) → j < n → eqb (get_or flags j 0) 1 ≡ on_ring ls (rounds ls k) j
    flag_is j h =
        let law = flag_law ls (rounds ls k) pointed pointed_size (rounds_inside_length ls k) pointed_in j (omega (arith, S.size)) in
        ap (λ xs. eqb (get_or xs j 0) 1) flags_are
        ∙ ap (λ x. eqb x 1) law
        ∙ elim (cases_Bool (on_ring ls (rounds ls k) j)) [ inl e ↦ rw e | inr e ↦ rw e ]

    -- all on rings are taken out
    module _ (inside outs' : List ℕ) (i : ℕ) (I : Changed flags 0 was inside i) (O : Changed flags k outs outs' i) (all : length flags ≤ i) where
      goes : (j : ℕ) → j < n → (ltb j i && eqb (get_or flags j 0) 1) ≡ on_ring ls (rounds ls k) j
      goes j h = rw (lt-ltb j i (omega (arith, flags_size))) (flag_is j h)

      inside_next : length inside ≡ n → inside ≡ (rounds ls (suc k)).inside
      inside_next size =
          ext_get_or 0 inside (rounds ls (suc k)).inside (size ∙ S.size ∙ sym (rounds_inside_length ls (suc k)))
          (λ j h. let h' : j < n = omega arith in I.each j ∙ rw (goes j h', was_is) (sym (rounds_inside_next ls k j 0 (omega (arith, S.size)))))

      out_before : (j : ℕ) → j < n → on_ring ls (rounds ls k) j ≡ false → is_in (rounds ls (suc k)) j ≡ false → is_in (rounds ls k) j ≡ false
      unfolding is_in
      out_before j h stays e =
          let same : get_or (rounds ls (suc k)).inside j 0 ≡ get_or (rounds ls k).inside j 0 =
          rounds_inside_next ls k j 0 (omega (arith, S.size)) ∙ cond-false _ _ _ stays
          in
          rw same at e

      pub stands_next : none_in (take n work) ≡ false → length inside ≡ length was → length outs' ≡ length outs → Stands ls n (k + 1) pointed (inside ++ flags) outs'
      stands_next some inside_size outs_size =
          let size : length inside ≡ n = inside_size ∙ ap length was_is ∙ in_size in
          let some' : none_in (rounds ls k).inside ≡ false = rw (← S.inside) some in
          rw (add-one k) (record {
            size = S.size;
            results_size = pointed_size ∙ sym S.size;
            work_size = length-append inside flags ∙ omega (arith, flags_size);
            outs_size = outs_size ∙ S.outs_size;
            inside = take_at inside flags n size ∙ inside_next size;
            got = λ j h e. elim (cases_Bool (on_ring ls (rounds ls k) j)) [
              | inl on ↦ pointed_in j (omega (arith, S.size)) (ring_in ls (rounds ls k) j on) ∙ sym (ring_got ls k j on)
              | inr stays ↦ (let before = out_before j h stays e in pointed_out j h before ∙ S.got j h before)
            ];
            went = λ j h e. elim (cases_Bool (on_ring ls (rounds ls k) j)) [
              | inl on ↦ O.each j ∙ rw (goes j h, on) (sym (ring_out ls k j on))
              | inr stays ↦ O.each j ∙ rw (goes j h, stays) (S.went j h (out_before j h stays e))
            ];
            count = count_more ls k (some_in_bound ls k some') some' S.count;
          })

-- ---- the end

module _ (ls : Lists) (n k : ℕ) (results work outs : List ℕ) (S : Stands ls n k results work outs) (nobody : none_in (take n work) ≡ true) where
  nobody_in : none_in (rounds ls k).inside ≡ true
  nobody_in = rw (← S.inside) nobody

  pub count_at_end : round_count ls ≡ k
  count_at_end = count_end ls k nobody_in S.count

  pub results_at_end : results ≡ results_of ls
  unfolding results_of
  results_at_end = rw (← S.size) (fill_by_all (result ls) results n 0 S.results_size (λ j h. S.got j h (none_in_all (rounds ls k) nobody_in j)))

  pub outs_at_end : outs ≡ outs_of ls
  unfolding outs_of
  outs_at_end = rw (← S.size) (fill_by_all (out ls) outs n 0 S.outs_size (λ j h. S.went j h (none_in_all (rounds ls k) nobody_in j)))
