-- One step of an exchange: some of those on rings leave a standing with what they point to. All of them leave in a round.
use Rattle.std.proofs.Common.{◌≡◌, ℕ, zero, suc, ◌+◌, ◌<◌, ◌≤◌, Bool, true, false, cond, List, [], ◌∷◌, length, get_or, sym, refl, ap, ◌∙◌, inl, inr, arith}
use Rattle.std.proofs.lemmas.Bool.{cases_Bool, cases_lt, both_ways}
use Rattle.std.proofs.lemmas.List.{get_or_past}
use Rattle.theory.specs.Trade.{Lists, Standing, is_in, points, on_ring, gone, taken, round}
use Rattle.theory.specs.Promise.{rank}
use Rattle.theory.specs.Runs.{change}
use Rattle.theory.proofs.Finite.{size, size_smaller, size_mono}
use Rattle.theory.proofs.Ranks.{points_dearest}
use Rattle.theory.proofs.Certificates.{Certificate}
use Rattle.theory.proofs.Walks.{in_below, ring_in, ring_next, ring_apart}

-- ---- lists with some entries replaced

pub change_length : (test : ℕ → Bool) (value : ℕ → ℕ) (i : ℕ) (xs : List ℕ) → length (change test value i xs) ≡ length xs
unfolding change
change_length test value i [] = refl
change_length test value i (x ∷ xs) = ap suc (change_length test value (suc i) xs)

-- the entry at k, which has the number j
pub change_at : (test : ℕ → Bool) (value : ℕ → ℕ) (i : ℕ) (xs : List ℕ) (k j d : ℕ) → j ≡ k + i → k < length xs →
    get_or (change test value i xs) k d ≡ cond (test j) (value j) (get_or xs k d)
unfolding change
change_at test value i [] k j d e l = absurd (omega arith)
change_at test value i (x ∷ xs) zero j d e l = let q : j ≡ i = omega arith in rw q
change_at test value i (x ∷ xs) (suc k) j d e l = change_at test value (suc i) xs k j d (omega arith) (omega arith)

pub change_here : (test : ℕ → Bool) (value : ℕ → ℕ) (xs : List ℕ) (k d : ℕ) → k < length xs →
    get_or (change test value 0 xs) k d ≡ cond (test k) (value k) (get_or xs k d)
change_here test value xs k d l = change_at test value 0 xs k k d (omega arith) l

pub gone_change : (ls : Lists) (s : Standing) (i : ℕ) (xs : List ℕ) → gone ls s i xs ≡ change (on_ring ls s) (λ j. 0) i xs
unfolding gone change
gone_change ls s i [] = refl
gone_change ls s i (x ∷ xs) = ap (λ ys. cond (on_ring ls s i) 0 x ∷ ys) (gone_change ls s (suc i) xs)

pub taken_change : (ls : Lists) (s : Standing) (i : ℕ) (xs : List ℕ) → taken ls s i xs ≡ change (on_ring ls s) (points ls s) i xs
unfolding taken change
taken_change ls s i [] = refl
taken_change ls s i (x ∷ xs) = ap (λ ys. cond (on_ring ls s i) (points ls s i) x ∷ ys) (taken_change ls s (suc i) xs)

pub gone_length : (ls : Lists) (s : Standing) (i : ℕ) (xs : List ℕ) → length (gone ls s i xs) ≡ length xs
gone_length ls s i xs = ap length (gone_change ls s i xs) ∙ change_length (on_ring ls s) (λ j. 0) i xs

pub taken_length : (ls : Lists) (s : Standing) (i : ℕ) (xs : List ℕ) → length (taken ls s i xs) ≡ length xs
taken_length ls s i xs = ap length (taken_change ls s i xs) ∙ change_length (on_ring ls s) (points ls s) i xs

pub gone_at : (ls : Lists) (s : Standing) (xs : List ℕ) (i d : ℕ) → i < length xs → get_or (gone ls s 0 xs) i d ≡ cond (on_ring ls s i) 0 (get_or xs i d)
gone_at ls s xs i d l = ap (λ ys. get_or ys i d) (gone_change ls s 0 xs) ∙ change_here (on_ring ls s) (λ j. 0) xs i d l

pub taken_at : (ls : Lists) (s : Standing) (xs : List ℕ) (i d : ℕ) → i < length xs → get_or (taken ls s 0 xs) i d ≡ cond (on_ring ls s i) (points ls s i) (get_or xs i d)
taken_at ls s xs i d l = ap (λ ys. get_or ys i d) (taken_change ls s 0 xs) ∙ change_here (on_ring ls s) (points ls s) xs i d l

-- ---- a standing of as many traders as there are lists

pub record Sized (ls : Lists) (s : Standing) : Type 0 where
  pub inside_length : length s.inside ≡ length ls
  pub got_length : length s.got ≡ length ls

-- The set L leaves the standing s, and s' is what is left: L is a set of those in, closed under pointing, no two of whom
-- point to the same stand.
pub record Leaves (ls : Lists) (s s' : Standing) (L : ℕ → Bool) : Type 0 where
  pub sized : Sized ls s'
  pub part : (i : ℕ) → L i ≡ true → is_in s i ≡ true
  pub into : (i : ℕ) → L i ≡ true → L (points ls s i) ≡ true
  pub apart : (i j : ℕ) → L i ≡ true → L j ≡ true → points ls s i ≡ points ls s j → i ≡ j
  pub leaves : (i : ℕ) → L i ≡ true → is_in s' i ≡ false
  pub still : (i : ℕ) → L i ≡ false → is_in s' i ≡ is_in s i
  pub takes : (i : ℕ) → L i ≡ true → get_or s'.got i i ≡ points ls s i
  pub keeps : (i : ℕ) → L i ≡ false → get_or s'.got i i ≡ get_or s.got i i

-- such a set with the two lists changed accordingly
unfoldable pub left : Lists → Standing → (ℕ → Bool) → Standing
left ls s L = record { inside = change L (λ j. 0) 0 s.inside; got = change L (points ls s) 0 s.got }

module _ (ls : Lists) (s : Standing) (L : ℕ → Bool) (z : Sized ls s) (part : (i : ℕ) → L i ≡ true → is_in s i ≡ true) where
  left_out : (i : ℕ) → L i ≡ true → is_in (left ls s L) i ≡ false
  unfolding left is_in
  left_out i e =
      let b = in_below s i (part i e) in
      rw (change_here L (λ j. 0) s.inside i 0 b, e)

  left_still : (i : ℕ) → L i ≡ false → is_in (left ls s L) i ≡ is_in s i
  unfolding left is_in
  left_still i e =
      elim (cases_lt i (length s.inside)) [
        | inl b ↦ rw (change_here L (λ j. 0) s.inside i 0 b, e)
        | inr b ↦ (let b' : length (change L (λ j. 0) 0 s.inside) ≤ i = rw (change_length L (λ j. 0) 0 s.inside) b in
            rw (get_or_past (change L (λ j. 0) 0 s.inside) i 0 b', get_or_past s.inside i 0 b))
      ]

  left_takes : (i : ℕ) → L i ≡ true → get_or (left ls s L).got i i ≡ points ls s i
  unfolding left
  left_takes i e =
      let b = in_below s i (part i e) in
      let b' : i < length s.got = omega (arith, z.inside_length, z.got_length) in
      rw (change_here L (points ls s) s.got i i b', e)

  left_keeps : (i : ℕ) → L i ≡ false → get_or (left ls s L).got i i ≡ get_or s.got i i
  unfolding left
  left_keeps i e =
      elim (cases_lt i (length s.got)) [
        | inl b ↦ rw (change_here L (points ls s) s.got i i b, e)
        | inr b ↦ (let b' : length (change L (points ls s) 0 s.got) ≤ i = rw (change_length L (points ls s) 0 s.got) b in
            get_or_past (change L (points ls s) 0 s.got) i i b' ∙ sym (get_or_past s.got i i b))
      ]

  pub left_sized : Sized ls (left ls s L)
  unfolding left
  left_sized = record {
    inside_length = change_length L (λ j. 0) 0 s.inside ∙ z.inside_length;
    got_length = change_length L (points ls s) 0 s.got ∙ z.got_length;
  }

  pub left_leaves : ((i : ℕ) → L i ≡ true → L (points ls s i) ≡ true) → ((i j : ℕ) → L i ≡ true → L j ≡ true → points ls s i ≡ points ls s j → i ≡ j) → Leaves ls s (left ls s L) L
  left_leaves into apart = record {
    sized = left_sized;
    part = part;
    into = into;
    apart = apart;
    leaves = left_out;
    still = left_still;
    takes = left_takes;
    keeps = left_keeps;
  }

-- ---- all on rings leave: a round

pub round_left : (ls : Lists) (s : Standing) → round ls s ≡ left ls s (on_ring ls s)
unfolding round left
round_left ls s = λ i. record { inside = gone_change ls s 0 s.inside i; got = taken_change ls s 0 s.got i }

pub round_leaves : (ls : Lists) (s : Standing) → Sized ls s → Leaves ls s (round ls s) (on_ring ls s)
round_leaves ls s z = rw (round_left ls s) (left_leaves ls s (on_ring ls s) z (ring_in ls s) (ring_next ls s) (ring_apart ls s))

-- who is in after a round, and who has what, entry by entry
pub round_inside_at : (ls : Lists) (s : Standing) (i d : ℕ) → i < length s.inside → get_or (round ls s).inside i d ≡ cond (on_ring ls s i) 0 (get_or s.inside i d)
unfolding round
round_inside_at ls s i d l = gone_at ls s s.inside i d l

pub round_got_at : (ls : Lists) (s : Standing) (i d : ℕ) → i < length s.got → get_or (round ls s).got i d ≡ cond (on_ring ls s i) (points ls s i) (get_or s.got i d)
unfolding round
round_got_at ls s i d l = taken_at ls s s.got i d l

-- ---- what is known of the rest is known of the whole

module _ {ls : Lists} {s s' : Standing} {L : ℕ → Bool} (V : Leaves ls s s' L) where
  -- whoever is in afterwards was in, and did not leave
  pub rest_in : (i : ℕ) → is_in s' i ≡ true → (L i ≡ false) × (is_in s i ≡ true)
  rest_in i e =
      elim (cases_Bool (L i)) [
        | inl d ↦ absurd (both_ways (is_in s' i) (V.leaves i d) e)
        | inr d ↦ (d, sym (V.still i d) ∙ e)
      ]

  pub rest_out : (i : ℕ) → is_in s i ≡ false → (L i ≡ false) × (is_in s' i ≡ false)
  rest_out i e =
      elim (cases_Bool (L i)) [
        | inl d ↦ absurd (both_ways (is_in s i) e (V.part i d))
        | inr d ↦ (d, V.still i d ∙ e)
      ]

  pub rest_fewer : (n j : ℕ) → j < n → L j ≡ true → size (is_in s') n < size (is_in s) n
  rest_fewer n j l e = size_smaller (is_in s) (is_in s') n (λ k b p. (rest_in k p).1) j l (V.part j e) (V.leaves j e)

  pub rest_no_more : (n : ℕ) → size (is_in s') n ≤ size (is_in s) n
  rest_no_more n = size_mono (is_in s) (is_in s') n (λ k b p. (rest_in k p).1)

  -- those who leave come first, in round 0, and the rest a round later than by themselves
  module _ {got out got' out' : ℕ → ℕ} (z : Sized ls s) (C : Certificate (rank ls) (length ls) (is_in s') (is_in s') got out)
      (new : (i : ℕ) → L i ≡ true → (got' i ≡ points ls s i) × (out' i ≡ 0)) (old : (i : ℕ) → L i ≡ false → is_in s i ≡ true → (got' i ≡ got i) × (out' i ≡ suc (out i))) where
    now_in : (i : ℕ) → L i ≡ false → is_in s i ≡ true → is_in s' i ≡ true
    now_in i d e = V.still i d ∙ e

    both_into : (i : ℕ) → is_in s i ≡ true → is_in s (got' i) ≡ true
    both_into i e =
        elim (cases_Bool (L i)) [
          | inl d ↦ rw (new i d).0 (V.part (points ls s i) (V.into i d))
          | inr d ↦ rw (old i d e).0 (rest_in (got i) (C.into i (now_in i d e))).1
        ]

    clash : (i j : ℕ) → L i ≡ true → L j ≡ false → is_in s j ≡ true → got' i ≡ got' j → ⊥
    clash i j a b q e =
        let p : points ls s i ≡ got j = sym (new i a).0 ∙ e ∙ (old j b q).0 in
        let x : L (got j) ≡ false = (rest_in (got j) (C.into j (now_in j b q))).0 in
        both_ways (L (got j)) x (rw p at (V.into i a))

    both_apart : (i j : ℕ) → is_in s i ≡ true → is_in s j ≡ true → got' i ≡ got' j → i ≡ j
    both_apart i j p q e =
        elim (cases_Bool (L i)) [
          | inl a ↦ elim (cases_Bool (L j)) [
            | inl b ↦ V.apart i j a b (sym (new i a).0 ∙ e ∙ (new j b).0)
            | inr b ↦ absurd (clash i j a b q e)
          ]
          | inr a ↦ elim (cases_Bool (L j)) [
            | inl b ↦ absurd (clash j i b a p (sym e))
            | inr b ↦ C.apart i j (now_in i a p) (now_in j b q) (sym (old i a p).0 ∙ e ∙ (old j b q).0)
          ]
        ]

    both_together : (i : ℕ) → is_in s i ≡ true → out' (got' i) ≡ out' i
    both_together i e =
        elim (cases_Bool (L i)) [
          | inl d ↦ rw (new i d).0 ((new (points ls s i) (V.into i d)).1 ∙ sym (new i d).1)
          | inr d ↦ (let r = rest_in (got i) (C.into i (now_in i d e)) in
              rw (old i d e).0 ((old (got i) r.0 r.1).1 ∙ ap suc (C.together i (now_in i d e)) ∙ sym (old i d e).1))
        ]

    both_dearer : (i t : ℕ) → is_in s i ≡ true → is_in s t ≡ true → rank ls i t < rank ls i (got' i) → out' t < out' i
    both_dearer i t e f l =
        elim (cases_Bool (L i)) [
          | inl d ↦ absurd (both_ways (is_in s t) (points_dearest ls s i t (rw (new i d).0 at l)) f)
          | inr d ↦ elim (cases_Bool (L t)) [
            | inl b ↦ (let x = (new t b).1 in let y = (old i d e).1 in omega arith)
            | inr b ↦ (let x = (old t b f).1 in let y = (old i d e).1 in
                let h = (C.dearer i t (now_in i d e) (now_in t b f) (rw (old i d e).0 at l)).1 in omega arith)
          ]
        ]

    pub whole : Certificate (rank ls) (length ls) (is_in s) (is_in s) got' out'
    whole = record {
      below = λ i p. (let b = in_below s i p in omega (arith, z.inside_length));
      part = λ i p. p;
      into = both_into;
      apart = both_apart;
      together = both_together;
      dearer = λ i t p q l. (q, both_dearer i t p q l);
    }

-- where nobody is in there is nothing to show
pub nobody : (ls : Lists) (s : Standing) (got out : ℕ → ℕ) → ((i : ℕ) → is_in s i ≡ false) → Certificate (rank ls) (length ls) (is_in s) (is_in s) got out
nobody ls s got out f = record {
  below = λ i p. absurd (both_ways (is_in s i) (f i) p);
  part = λ i p. p;
  into = λ i p. absurd (both_ways (is_in s i) (f i) p);
  apart = λ i j p q e. absurd (both_ways (is_in s i) (f i) p);
  together = λ i p. absurd (both_ways (is_in s i) (f i) p);
  dearer = λ i t p q l. absurd (both_ways (is_in s i) (f i) p);
}
