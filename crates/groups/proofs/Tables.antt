-- The table of what may be given, filled row by row, and what a search by it says of the lists.
use Rattle.std.proofs.Common.{◌≡◌, ℕ, ◌+◌, ◌<◌, ◌≤◌, Bool, false, leb, List, [], replicate, length, get_or, set, take, sym, ap, ◌∙◌, inl, inr, arith}
use Rattle.std.specs.Prelude.{Option, Some, None, IfSome, MatchOption, slice_index}
use Rattle.std.proofs.lemmas.List.{get_or-take, length-take-le, get_or-set_same, get_or-set_other}
use lib.ListN.{get_or-replicate}
use Rattle.std.proofs.lemmas.Bool.{cases_eq, leb-true, le-leb}
use Rattle.theory.specs.Promise.{rank, rank_in}
use Rattle.theory.specs.Trade.{Lists}
use Rattle.groups.specs.declared.Search.{Search}
use Rattle.groups.specs.Groups.{Betters, Choices, RightAnswer, in_group, stand_of}
use Rattle.groups.specs.Sharings.{Found, Hopeless, Right, Sharing, got, may, size}

-- the rows of the first k traders say what is no less dear than the stands got
abbrev pub Rows : Lists → List ℕ → ℕ → List (List Bool) → Type 0
Rows ls results k table =
    (i t : ℕ) → i < k → t < 8 → get_or (get_or table i []) t false ≡ leb (rank ls i t) (rank ls i (get_or results i 0))

-- one more row, by the list of its trader
pub rows_more : (ls : Lists) (results : List ℕ) (k next : ℕ) (table : List (List Bool)) (row : List Bool) → k < length table → next ≡ k + 1 →
    ((t : ℕ) → t < 8 → get_or row t false ≡ leb (rank_in (get_or ls k []) k t) (rank_in (get_or ls k []) k (get_or results k 0))) →
    Rows ls results k table → Rows ls results next (set table k row)
unfolding rank
rows_more ls results k next table row room up right rows i t hi ht =
    elim (cases_eq i k) [
      | inl e ↦ rw (e, get_or-set_same table k row [] room) (right t ht)
      | inr ne ↦ rw (get_or-set_other table k i row [] ne) (rows i t (omega arith) ht)
    ]

-- a search by the lists and the results of their traders
module _ (ls : Lists) (results : List ℕ) (given : Search) (enough : length ls ≤ length results) (are : given.results.now ≡ take (length ls) results)
    (right : Right ls given) where
  count : size given ≡ length ls
  count = ap length are ∙ length-take-le (length ls) results enough

  got_is : (i : ℕ) → i < length ls → got given i ≡ get_or results i 0
  got_is i h = rw are (get_or-take (length ls) results i 0 h)

  may_is : (i t : ℕ) → i < length ls → t < length ls → may given i t ≡ leb (rank ls i t) (rank ls i (get_or results i 0))
  may_is i t hi ht = rw (← got_is i hi) (right i t (rw count hi) (rw count ht))

  betters_by_lists : (group : ℕ → Bool) (share : ℕ → ℕ) → Sharing given group share → Betters ls (slice_index results) group share
  betters_by_lists group share s =
      record {
        among = λ i h m. rw (← count) (s.among i (rw count h) m);
        apart = λ i j hi hj. s.apart i j (rw count hi) (rw count hj);
        no_less_dear = λ i h m.
            let there : share i < length ls = rw (← count) (s.among i (rw count h) m).0 in
            leb-true _ _ (sym (may_is i (share i) h there) ∙ s.fine i (rw count h) m);
        another =
            let i = s.another.0 in
            let below : i < length ls = rw (← count) s.another.1 in
            (i, below, s.another.2, λ e. s.another.3 (e ∙ sym (got_is i below)));
      }

  betters_by_table : (group : ℕ → Bool) (share : ℕ → ℕ) → Betters ls (slice_index results) group share → Sharing given group share
  betters_by_table group share b =
      record {
        among = λ i h m. rw count (b.among i (rw (← count) h) m);
        apart = λ i j hi hj. b.apart i j (rw (← count) hi) (rw (← count) hj);
        fine = λ i h m.
            let below : i < length ls = rw (← count) h in
            may_is i (share i) below (b.among i below m).0 ∙ le-leb _ _ (b.no_less_dear i below m);
        another =
            let i = b.another.0 in
            (i, rw count b.another.1, b.another.2, λ e. b.another.3 (e ∙ got_is i b.another.1));
      }

  -- what is found when nobody has a choice yet
  pub answer_by_search : (answer : Option Choices) → IfSome answer (λ share. length share ≡ 8) →
      MatchOption answer (Hopeless given (replicate 8 None) 0) (Found given (replicate 8 None) 0) → RightAnswer ls results answer
  answer_by_search (Some share) places f =
      record {
        betters = betters_by_lists (in_group share) (stand_of share) f.serves;
        none_before = λ group other b before.
            f.none_before group other (λ j h. absurd (omega arith)) (betters_by_table group other b) (rw count before);
        places = places;
        past = λ j h lt. f.past j (rw count h) ∙ get_or-replicate 8 j None None lt;
      }
  answer_by_search None places none = λ group share b. none group share (λ j h. absurd (omega arith)) (betters_by_table group share b)
