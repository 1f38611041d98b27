-- The promise of the public exchange, from the theory of the exchange and from what was written.
use Rattle.std.proofs.Common.{◌≡◌, ℕ, zero, suc, ◌+◌, ◌*◌, ◌<◌, ◌≤◌, List, [], ◌++◌, length, get_or, drop, set, replicate, None, Some, Option, sym, refl, ap, ◌∙◌, arith}
use Rattle.std.specs.List.{range_with_len, flat_map}
use Rattle.std.proofs.lemmas.Bool.{lt-ltb, ltb-true}
use Rattle.std.proofs.lemmas.List.{get_or_append_left, set-get_or, append-nil, drop_all}
use Rattle.lists.specs.Format.{bytes_of, fault, lists_of, number_at}
use Rattle.theory.specs.Promise.{rank}
use Rattle.theory.specs.Trade.{Lists, out, result}
use Rattle.std.specs.Option.{option_or}
use Rattle.refusals.specs.declared.Refusal.{Refusal}
use Rattle.lists.proofs.Accepted.{accepted_proper}
use Rattle.lists.proofs.Positions.{count_of_lists}
use Rattle.lists.proofs.Encoding.{writes_what_was_read}
use Rattle.theory.proofs.Certificates.{turns}
use Rattle.theory.proofs.Exchange.{certificate}
use Rattle.theory.proofs.Finite.{preimage}
use Rattle.theory.proofs.Promises.{result_apart, result_below, result_own, result_truthful, result_unbettered}
use Rattle.rounds.proofs.Law.{out_at, result_at}
use Rattle.rounds.specs.Run.{outs_of, results_of, room_fault, run_fault}
use Rattle.sheet.specs.Exchange.{Promised, entries}
use Rattle.sheet.specs.Sheet.{entry, sheet_of}
use Rattle.sheet.proofs.Written.{length_sheet, round_written, stand_written}

-- a number within the front of what was written
number_in_front : (front rest : List ℕ) (p : ℕ) → p + 1 < length front → number_at (front ++ rest) p ≡ number_at front p
number_in_front front rest p h =
    let low = get_or_append_left front rest 0 p (omega arith) in
    let high = get_or_append_left front rest 0 (p + 1) h in
    rw (low, high)

-- the entries that are written are those of the exchange's sheet
joined_same : (f g : ℕ → List ℕ) (a k : ℕ) → ((j : ℕ) → a ≤ j → j < a + k → f j ≡ g j) →
    flat_map f (range_with_len a k) ≡ flat_map g (range_with_len a k)
joined_same f g a zero same = refl
joined_same f g a (suc k) same =
    let one = same a (omega arith) (omega arith) in
    let more = joined_same f g (a + 1) k (λ j low high. same j (omega arith) (omega arith)) in
    cc (one, more)

pub entries_are : (ls : Lists) (results work : List ℕ) → ((i : ℕ) → i < length ls → get_or results i 0 ≡ result ls i) →
    ((i : ℕ) → i < length ls → get_or work (2 * length ls + i) 0 ≡ out ls i) → entries results work (length ls) (length ls) ≡ sheet_of ls
unfolding sheet_of
entries_are ls results work stands rounds =
    joined_same (λ i. bytes_of (get_or results i 0) ++ bytes_of (get_or work (2 * length ls + i) 0)) (entry ls) 0 (length ls)
    (λ j low high. let a = stands j (omega arith) in let b = rounds j (omega arith) in rw (a, b))

-- each stand has one trader
pub one_trader : (ls : Lists) (t : ℕ) → t < length ls →
    (i : ℕ) × (i < length ls) × (result ls i ≡ t) × ((j : ℕ) → j < length ls → result ls j ≡ t → j ≡ i)
one_trader ls t h =
    let w = preimage (turns (certificate ls)) t (lt-ltb t (length ls) h) in
    let below = ltb-true w.0 (length ls) w.1 in
    (w.0, below, w.2, λ j l e. result_apart ls j w.0 l below (e ∙ sym w.2))

-- nobody gains by another list
pub no_gain : (ls : Lists) (i : ℕ) (other : List ℕ) → i < length ls → rank ls i (result ls i) ≤ rank ls i (result (set ls i other) i)
unfolding rank
no_gain ls i other h =
    let own = get_or ls i [] in
    let same = set-get_or ls i [] in
    rw same at (result_truthful ls i own other h)

pub promised : (bs : List ℕ) (results_rest sheet_rest : List ℕ) → ((k : ℕ) → k < length bs → get_or bs k 0 < 256) → fault bs ≡ None →
    Promised bs (results_of (lists_of bs) ++ results_rest) (sheet_of (lists_of bs) ++ sheet_rest)
promised bs xs ys bytes accepted =
    let ls = lists_of bs in
    let at : (i : ℕ) → i < length (lists_of bs) → get_or (results_of (lists_of bs) ++ xs) i 0 ≡ result (lists_of bs) i = result_at ls xs in
    let size = length_sheet ls in
    record {
      encoded = (writes_what_was_read bs bytes accepted).1;
      proper = accepted_proper bs accepted;
      stands = at;
      sheet_stands = λ i h. number_in_front (sheet_of ls) ys (4 * i) (omega arith) ∙ stand_written ls i h;
      sheet_rounds = λ i h. number_in_front (sheet_of ls) ys (4 * i + 2) (omega arith) ∙ round_written ls i h;
      one_stand = λ i h. rw (at i h) (result_below ls i h);
      one_trader = λ t h. let w = one_trader ls t h in (w.0, w.1, at w.0 w.1 ∙ w.2, λ j l e. w.3 j l (sym (at j l) ∙ e));
      not_below = λ i h. rw (at i h) (result_own ls i h);
      no_group = λ group share within apart well i h g.
          result_unbettered ls group share within apart (λ j l m. rw (at j l) at (well j l m)) i h g ∙ sym (at i h);
      no_gain = λ i other h _. rw (at i h) (no_gain ls i other h);
    }

-- slices that are just long enough leave the bytes alone to be refused
pub room_enough : (bs : List ℕ) (results work : ℕ) → results ≡ length (lists_of bs) → work ≡ 3 * results → run_fault bs results work ≡ fault bs
room_enough bs results work r w =
    let count = count_of_lists bs in
    let none : room_fault (number_at bs 0) results work ≡ None = grind arith in
    rw none (option_or_none (fault bs))
  where
    option_or_none : (o : Option Refusal) → option_or o None ≡ o
    option_or_none (Some f) = refl
    option_or_none None = refl

-- What stands in the lent slices at the end, of which n traders use all.
module _ (ls : Lists) (n : ℕ) (results₀ work₀ results work : List ℕ) (traders : n ≡ length ls) (room : length results₀ ≡ n)
    (results_are : results ≡ results_of ls ++ drop (length ls) results₀)
    (work_is : work ≡ replicate (2 * length ls) 0 ++ (outs_of ls ++ drop (3 * length ls) work₀)) where
  pub results_end : results ≡ results_of ls
  results_end = results_are ∙ rw (drop_all (length ls) results₀ (omega arith), append-nil)

  pub sheet_end : (sheet : List ℕ) (m : ℕ) → m ≡ n → sheet ≡ entries results work m m → sheet ≡ sheet_of ls
  sheet_end sheet m all is =
      let same : m ≡ length ls = omega arith in
      is
      ∙ rw same
      (entries_are ls results work (λ i h. ap (λ xs. get_or xs i 0) results_are ∙ result_at ls (drop (length ls) results₀) i h)
      (λ i h. ap (λ xs. get_or xs (2 * length ls + i) 0) work_is ∙ out_at ls (drop (3 * length ls) work₀) i h))
