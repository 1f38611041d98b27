-- The exchange in which all traders take part: its rounds, results and counts.
use Rattle.std.proofs.Common.{◌≡◌, ℕ, zero, suc, ◌+◌, ◌-◌, ◌<◌, ◌≤◌, Bool, true, false, cond, ltb, ◌⊎◌, length, get_or, sym, ap, ◌∙◌, subst, inl, inr, arith}
use mathlib.Core.Path.{fun_ext}
use lib.ListN.{length-replicate, get_or-replicate}
use Rattle.std.proofs.lemmas.Bool.{cases_Bool, cases_lt, cond-true, cond-false, ltb-true, lt-ltb, le-ltb}
use Rattle.std.proofs.lemmas.List.{get_or_past}
use Rattle.theory.specs.Trade.{Lists, is_in, points, on_ring, round, rounds, all_in, result, out, none_in, count_from, round_count}
use Rattle.theory.specs.Promise.{rank}
use Rattle.theory.specs.Certificate.{ValidSheet}
use Rattle.theory.proofs.Certificates.{Certificate, own_or_dearer, segment}
use Rattle.theory.proofs.Ranks.{rank_tie}
use Rattle.theory.proofs.Walks.{in_below, out_past, some_in, none_in_from}
use Rattle.theory.proofs.Leaving.{Sized, round_inside_at, round_got_at}
use Rattle.theory.proofs.Rounds.{rounds_more, rounds_none, rounds_sized, in_earlier, out_later, ring_leaves, leaves_ring, somebody_leaves, all_out, in_bound, own_certificate, out_of_ring, got_of_ring, in_since, in_until, count_over, count_on, count_at_from, first_empty}

-- all traders, by number
abbrev pub everyone : ℕ → ℕ → Bool
everyone n i = ltb i n

-- ---- the start

pub all_in_sized : (ls : Lists) → Sized ls (all_in ls)
unfolding all_in
all_in_sized ls = record { inside_length = length-replicate (length ls) 1; got_length = length-replicate (length ls) 0 }

pub all_in_in : (ls : Lists) (i : ℕ) → i < length ls → is_in (all_in ls) i ≡ true
unfolding all_in is_in
all_in_in ls i l = rw (get_or-replicate {A = ℕ} (length ls) i 1 0 l)

pub all_in_below : (ls : Lists) (i : ℕ) → is_in (all_in ls) i ≡ true → i < length ls
all_in_below ls i e = let b = in_below (all_in ls) i e in omega (arith, (all_in_sized ls).inside_length)

pub all_in_everyone : (ls : Lists) (i : ℕ) → is_in (all_in ls) i ≡ everyone (length ls) i
all_in_everyone ls i =
    elim (cases_lt i (length ls)) [
      | inl l ↦ all_in_in ls i l ∙ sym (lt-ltb i (length ls) l)
      | inr l ↦ out_past (all_in ls) i (omega (arith, (all_in_sized ls).inside_length)) ∙ sym (le-ltb i (length ls) l)
    ]

-- ---- the standing after k rounds

module _ (ls : Lists) where
  pub rounds_start : rounds ls 0 ≡ all_in ls
  unfolding rounds
  rounds_start = rounds_none ls (all_in ls)

  pub rounds_next : (k : ℕ) → rounds ls (suc k) ≡ round ls (rounds ls k)
  unfolding rounds
  rounds_next k = rounds_more ls (all_in ls) k

  rounds_of_sized : (k : ℕ) → Sized ls (rounds ls k)
  unfolding rounds
  rounds_of_sized k = rounds_sized ls (all_in ls) (all_in_sized ls) k

  pub rounds_inside_length : (k : ℕ) → length (rounds ls k).inside ≡ length ls
  rounds_inside_length k = (rounds_of_sized k).inside_length

  pub rounds_got_length : (k : ℕ) → length (rounds ls k).got ≡ length ls
  rounds_got_length k = (rounds_of_sized k).got_length

  pub rounds_inside_next : (k i d : ℕ) → i < length ls → get_or (rounds ls (suc k)).inside i d ≡ cond (on_ring ls (rounds ls k) i) 0 (get_or (rounds ls k).inside i d)
  rounds_inside_next k i d l =
      ap (λ t. get_or t.inside i d) (rounds_next k) ∙ round_inside_at ls (rounds ls k) i d (omega (arith, rounds_inside_length k))

  pub rounds_got_next : (k i d : ℕ) → i < length ls → get_or (rounds ls (suc k)).got i d ≡ cond (on_ring ls (rounds ls k) i) (points ls (rounds ls k) i) (get_or (rounds ls k).got i d)
  rounds_got_next k i d l =
      ap (λ t. get_or t.got i d) (rounds_next k) ∙ round_got_at ls (rounds ls k) i d (omega (arith, rounds_got_length k))

  -- every entry that says who is in is 0 or 1
  pub rounds_inside_bits : (k i : ℕ) → (get_or (rounds ls k).inside i 0 ≡ 0) ⊎ (get_or (rounds ls k).inside i 0 ≡ 1)
  unfolding all_in
  rounds_inside_bits zero i =
      elim (cases_lt i (length ls)) [
        | inl l ↦ inr (ap (λ t. get_or t.inside i 0) rounds_start ∙ get_or-replicate {A = ℕ} (length ls) i 1 0 l)
        | inr l ↦ inl (get_or_past (rounds ls 0).inside i 0 (omega (arith, rounds_inside_length 0)))
      ]
  rounds_inside_bits (suc k) i =
      elim (cases_lt i (length ls)) [
        | inl l ↦ elim (cases_Bool (on_ring ls (rounds ls k) i)) [
          | inl d ↦ inl (rounds_inside_next k i 0 l ∙ cond-true (on_ring ls (rounds ls k) i) 0 (get_or (rounds ls k).inside i 0) d)
          | inr d ↦ (let e = rounds_inside_next k i 0 l ∙ cond-false (on_ring ls (rounds ls k) i) 0 (get_or (rounds ls k).inside i 0) d in
              elim (rounds_inside_bits k i) [ inl h ↦ inl (e ∙ h) | inr h ↦ inr (e ∙ h) ])
        ]
        | inr l ↦ inl (get_or_past (rounds ls (suc k)).inside i 0 (omega (arith, rounds_inside_length (suc k))))
      ]

  -- nobody who is in has a number past the last trader's
  pub rounds_in_below : (k i : ℕ) → is_in (rounds ls k) i ≡ true → i < length ls
  rounds_in_below k i e = let b = in_below (rounds ls k) i e in omega (arith, rounds_inside_length k)

  -- whoever is out stays out, and whoever is in was in
  pub rounds_out_later : (k j i : ℕ) → j ≤ k → is_in (rounds ls j) i ≡ false → is_in (rounds ls k) i ≡ false
  unfolding rounds
  rounds_out_later = out_later ls (all_in ls) (all_in_sized ls)

  pub rounds_in_earlier : (k j i : ℕ) → j ≤ k → is_in (rounds ls k) i ≡ true → is_in (rounds ls j) i ≡ true
  unfolding rounds
  rounds_in_earlier = in_earlier ls (all_in ls) (all_in_sized ls)

  -- somebody is in only for fewer rounds than there are traders
  pub rounds_in_bound : (k i : ℕ) → is_in (rounds ls k) i ≡ true → k < length ls
  unfolding rounds
  rounds_in_bound = in_bound ls (all_in ls) (all_in_sized ls)

  pub rounds_ring_leaves : (k i : ℕ) → on_ring ls (rounds ls k) i ≡ true → is_in (rounds ls (suc k)) i ≡ false
  unfolding rounds
  rounds_ring_leaves = ring_leaves ls (all_in ls) (all_in_sized ls)

  pub rounds_leaves_ring : (k i : ℕ) → is_in (rounds ls k) i ≡ true → is_in (rounds ls (suc k)) i ≡ false → on_ring ls (rounds ls k) i ≡ true
  unfolding rounds
  rounds_leaves_ring = leaves_ring ls (all_in ls) (all_in_sized ls)

  pub rounds_somebody_leaves : (k i : ℕ) → is_in (rounds ls k) i ≡ true → (j : ℕ) × (is_in (rounds ls k) j ≡ true) × (is_in (rounds ls (suc k)) j ≡ false)
  unfolding rounds
  rounds_somebody_leaves = somebody_leaves ls (all_in ls) (all_in_sized ls)

  pub rounds_all_out : (i : ℕ) → is_in (rounds ls (length ls)) i ≡ false
  unfolding rounds
  rounds_all_out = all_out ls (all_in ls) (all_in_sized ls)

  -- ---- rounds and stands of the traders

  -- whoever is on a ring in a round goes out in it
  pub ring_out : (k i : ℕ) → on_ring ls (rounds ls k) i ≡ true → out ls i ≡ k
  unfolding rounds out
  ring_out = out_of_ring ls (all_in ls) (all_in_sized ls)

  pub out_at : (k i : ℕ) → k < length ls → on_ring ls (rounds ls k) i ≡ true → out ls i ≡ k
  out_at k i l e = ring_out k i e

  -- and has at the end what it then points to
  pub ring_got : (k i : ℕ) → on_ring ls (rounds ls k) i ≡ true → result ls i ≡ points ls (rounds ls k) i
  unfolding rounds result
  ring_got = got_of_ring ls (all_in ls) (all_in_sized ls)

  pub got_at : (k i : ℕ) → k < length ls → i < length ls → on_ring ls (rounds ls k) i ≡ true → result ls i ≡ points ls (rounds ls k) i
  got_at k i l m e = ring_got k i e

  -- who is in after k rounds: those who go out in round k or later
  pub out_since : (k i : ℕ) → is_in (rounds ls k) i ≡ true → k ≤ out ls i
  unfolding rounds out
  out_since = in_since ls (all_in ls) (all_in_sized ls)

  pub out_until : (k i : ℕ) → i < length ls → k ≤ out ls i → is_in (rounds ls k) i ≡ true
  unfolding rounds out
  out_until k i l = in_until ls (all_in ls) (all_in_sized ls) k i (all_in_in ls i l)

  -- ---- the certificate

  pub certificate : Certificate (rank ls) (length ls) (everyone (length ls)) (everyone (length ls)) (result ls) (out ls)
  unfolding rounds result out
  certificate =
      subst (λ (S : ℕ → Bool). Certificate (rank ls) (length ls) S S (result ls) (out ls)) (fun_ext (all_in_everyone ls))
      (own_certificate ls (all_in ls) (all_in_sized ls))

  -- the same with the number of traders under another name
  pub certificate_of : (n : ℕ) → length ls ≡ n → Certificate (rank ls) n (everyone n) (everyone n) (result ls) (out ls)
  certificate_of n e = subst (λ (m : ℕ). Certificate (rank ls) m (everyone m) (everyone m) (result ls) (out ls)) e certificate

  -- a valid sheet is a certificate
  pub sheet_certificate : {got out : ℕ → ℕ} → ValidSheet ls got out → Certificate (rank ls) (length ls) (everyone (length ls)) (everyone (length ls)) got out
  sheet_certificate {got} {out} v = record {
    below = λ i p. ltb-true i (length ls) p;
    part = λ i p. p;
    into = λ i p. lt-ltb (got i) (length ls) (v.exists i (ltb-true i (length ls) p));
    apart = λ i j p q. v.apart i j (ltb-true i (length ls) p) (ltb-true j (length ls) q);
    together = λ i p. v.together i (ltb-true i (length ls) p);
    dearer = λ i t p q l. (q, v.dearer i t (ltb-true i (length ls) p) (ltb-true t (length ls) q) l);
  }

  -- all traders are those who are in at the start
  pub certificate_start : {got out : ℕ → ℕ} → Certificate (rank ls) (length ls) (everyone (length ls)) (everyone (length ls)) got out →
      Certificate (rank ls) (length ls) (is_in (all_in ls)) (is_in (all_in ls)) got out
  certificate_start {got} {out} C = subst (λ (S : ℕ → Bool). Certificate (rank ls) (length ls) S S got out) (sym (fun_ext (all_in_everyone ls))) C

  -- by a valid sheet nobody has a stand less dear than the own one
  pub sheet_own : {got out : ℕ → ℕ} → ValidSheet ls got out → (i : ℕ) → i < length ls → rank ls i (got i) ≤ rank ls i i
  sheet_own v i l = own_or_dearer (sheet_certificate v) i (lt-ltb i (length ls) l)

  -- every certificate of all traders gives the results
  pub certificate_result : {got out : ℕ → ℕ} → Certificate (rank ls) (length ls) (everyone (length ls)) (everyone (length ls)) got out → (i : ℕ) → i < length ls → got i ≡ result ls i
  certificate_result C i l = segment (rank_tie ls) certificate C i (lt-ltb i (length ls) l)

  -- ---- how many rounds

  pub count_at : (k : ℕ) → k ≤ length ls → none_in (rounds ls k).inside ≡ true → ((j : ℕ) → j < k → none_in (rounds ls j).inside ≡ false) → round_count ls ≡ k
  unfolding rounds round_count
  count_at k l e f = count_at_from ls k (length ls) (all_in ls) l e f

  -- For a loop over the rounds k = 0, 1, ..: what is counted plus what is still to come. Where it begins, its step, and its end.
  pub count_start : round_count ls ≡ 0 + count_from ls (rounds ls 0) (length ls - 0)
  unfolding round_count
  count_start =
      let e : length ls - 0 ≡ length ls = omega arith in
      rw (e, rounds_start) (omega arith)

  pub count_more : (k : ℕ) → k < length ls → none_in (rounds ls k).inside ≡ false → round_count ls ≡ k + count_from ls (rounds ls k) (length ls - k) →
      round_count ls ≡ suc k + count_from ls (rounds ls (suc k)) (length ls - suc k)
  count_more k l e h =
      let m : length ls - k ≡ suc (length ls - suc k) = omega arith in
      let c : count_from ls (rounds ls k) (length ls - k) ≡ suc (count_from ls (rounds ls (suc k)) (length ls - suc k)) =
      rw (m, rounds_next k) (count_on ls (rounds ls k) (length ls - suc k) e) in
      omega arith

  pub count_end : (k : ℕ) → none_in (rounds ls k).inside ≡ true → round_count ls ≡ k + count_from ls (rounds ls k) (length ls - k) → round_count ls ≡ k
  count_end k e h = let c = count_over ls (rounds ls k) (length ls - k) e in omega arith

  -- after as many rounds as there are traders nobody is in; so a loop that finds somebody in after k rounds has k below that
  pub none_in_end : none_in (rounds ls (length ls)).inside ≡ true
  none_in_end = none_in_from (rounds ls (length ls)) rounds_all_out

  pub some_in_bound : (k : ℕ) → none_in (rounds ls k).inside ≡ false → k < length ls
  some_in_bound k e = let w = some_in (rounds ls k) e in rounds_in_bound k w.0 w.1

  -- The count is the first number of rounds after which nobody is in.
  pub count_first : (round_count ls ≤ length ls) × (none_in (rounds ls (round_count ls)).inside ≡ true) × ((j : ℕ) → j < round_count ls → none_in (rounds ls j).inside ≡ false)
  unfolding rounds
  count_first =
      let w = first_empty ls (all_in ls) (length ls) none_in_end in
      let e : round_count ls ≡ w.0 = count_at w.0 w.1 w.2 w.3 in
      (rw e w.1, rw e w.2, rw e w.3)
