-- Rounds from any standing: they end, they give a certificate, and who is in says when a trader goes out.
use Rattle.std.proofs.Common.{◌≡◌, ℕ, zero, suc, ◌<◌, ◌≤◌, Bool, true, false, ◌&&◌, eqb, ltb, length, get_or, sym, refl, ap, ◌∙◌, inl, inr, arith}
use Rattle.std.proofs.lemmas.Bool.{cases_Bool, cases_lt, eqb-true, eq-eqb, ltb-true, lt-ltb, and_parts, and_from, both_ways}
use Rattle.theory.specs.Trade.{Lists, Standing, is_in, points, on_ring, round, rounds_from, out_from, none_in, count_from}
use Rattle.theory.specs.Promise.{rank}
use Rattle.theory.specs.Certificate.{steps}
use Rattle.theory.proofs.Finite.{find, find_either, least_true, size, size_none, size_bound, size_mono, size_false, orbit}
use Rattle.theory.proofs.Ranks.{rank_tie, points_is}
use Rattle.theory.proofs.Certificates.{Certificate, turns, segment}
use Rattle.theory.proofs.Walks.{in_below, out_past, ring_in, ring_from, somebody_on_ring}
use Rattle.theory.proofs.Leaving.{Sized, Leaves, round_leaves, rest_in, rest_out, rest_fewer, whole, nobody}

module _ (ls : Lists) where
  pub round_sized : (s : Standing) → Sized ls s → Sized ls (round ls s)
  round_sized s z = (round_leaves ls s z).sized

  -- the first round may be split off
  pub rounds_later : (s : Standing) (k : ℕ) → rounds_from ls (round ls s) k ≡ rounds_from ls s (suc k)
  unfolding rounds_from
  rounds_later s zero = refl
  rounds_later s (suc k) = ap (round ls) (rounds_later s k)

  pub rounds_more : (s : Standing) (k : ℕ) → rounds_from ls s (suc k) ≡ round ls (rounds_from ls s k)
  unfolding rounds_from
  rounds_more s k = refl

  pub rounds_none : (s : Standing) → rounds_from ls s 0 ≡ s
  unfolding rounds_from
  rounds_none s = refl

  module _ (s : Standing) (z : Sized ls s) where
    pub rounds_sized : (k : ℕ) → Sized ls (rounds_from ls s k)
    unfolding rounds_from
    rounds_sized zero = z
    rounds_sized (suc k) = round_sized (rounds_from ls s k) (rounds_sized k)

    pub rounds_leave : (k : ℕ) → Leaves ls (rounds_from ls s k) (rounds_from ls s (suc k)) (on_ring ls (rounds_from ls s k))
    rounds_leave k = rw (rounds_more s k) (round_leaves ls (rounds_from ls s k) (rounds_sized k))

    -- whoever is in was in before
    pub in_earlier : (k j i : ℕ) → j ≤ k → is_in (rounds_from ls s k) i ≡ true → is_in (rounds_from ls s j) i ≡ true
    in_earlier zero j i l e = let q : j ≡ 0 = omega arith in rw q e
    in_earlier (suc k) j i l e =
        elim (cases_lt k j) [
          | inl m ↦ (let q : j ≡ suc k = omega arith in rw q e)
          | inr m ↦ in_earlier k j i m (rest_in (rounds_leave k) i e).1
        ]

    -- whoever is out stays out
    pub out_later : (k j i : ℕ) → j ≤ k → is_in (rounds_from ls s j) i ≡ false → is_in (rounds_from ls s k) i ≡ false
    out_later k j i l e =
        elim (cases_Bool (is_in (rounds_from ls s k) i)) [
          | inl d ↦ absurd (both_ways (is_in (rounds_from ls s j) i) e (in_earlier k j i l d))
          | inr d ↦ d
        ]

    -- and keeps what it has
    pub got_later : (k j i : ℕ) → j ≤ k → is_in (rounds_from ls s j) i ≡ false → get_or (rounds_from ls s k).got i i ≡ get_or (rounds_from ls s j).got i i
    got_later zero j i l e = let q : j ≡ 0 = omega arith in rw q
    got_later (suc k) j i l e =
        elim (cases_lt k j) [
          | inl m ↦ (let q : j ≡ suc k = omega arith in rw q)
          | inr m ↦ (rounds_leave k).keeps i (rest_out (rounds_leave k) i (out_later k j i m e)).0 ∙ got_later k j i m e
        ]

    -- those on rings are out after the round, with what they pointed to
    pub ring_leaves : (k i : ℕ) → on_ring ls (rounds_from ls s k) i ≡ true → is_in (rounds_from ls s (suc k)) i ≡ false
    ring_leaves k i e = (rounds_leave k).leaves i e

    -- only those on rings go out
    pub leaves_ring : (k i : ℕ) → is_in (rounds_from ls s k) i ≡ true → is_in (rounds_from ls s (suc k)) i ≡ false → on_ring ls (rounds_from ls s k) i ≡ true
    leaves_ring k i a b =
        elim (cases_Bool (on_ring ls (rounds_from ls s k) i)) [
          | inl d ↦ d
          | inr d ↦ absurd (both_ways (is_in (rounds_from ls s k) i) (sym ((rounds_leave k).still i d) ∙ b) a)
        ]

    -- in every round before nobody is in, somebody goes out
    pub somebody_leaves : (k i : ℕ) → is_in (rounds_from ls s k) i ≡ true → (j : ℕ) × (is_in (rounds_from ls s k) j ≡ true) × (is_in (rounds_from ls s (suc k)) j ≡ false)
    somebody_leaves k i e =
        let l : length (rounds_from ls s k).inside ≤ length ls = omega (arith, (rounds_sized k).inside_length) in
        let w = somebody_on_ring ls (rounds_from ls s k) l i e in
        (w.0, ring_in ls (rounds_from ls s k) w.0 w.1, ring_leaves k w.0 w.1)

  -- ---- the rounds end

  round_size : (s : Standing) (k : ℕ) → Sized ls s → size (is_in s) (length ls) ≤ suc k → size (is_in (round ls s)) (length ls) ≤ k
  round_size s k z h =
      let V = round_leaves ls s z in
      elim (find (is_in (round ls s)) (length ls)) [
        | inl f ↦ (let l : length s.inside ≤ length ls = omega (arith, z.inside_length) in
            let w = somebody_on_ring ls s l f.0 (rest_in V f.0 f.2).1 in
            let b : w.0 < length ls = (let b = in_below s w.0 (ring_in ls s w.0 w.1) in omega (arith, z.inside_length)) in
            let m = rest_fewer V (length ls) w.0 b w.1 in omega arith)
        | inr f ↦ (let m = size_mono (λ i. false) (is_in (round ls s)) (length ls) (λ i l e. absurd (both_ways (is_in (round ls s) i) (f i l) e)) in
            let o = size_false (length ls) in omega arith)
      ]

  pub rounds_end : (k : ℕ) (s : Standing) → Sized ls s → size (is_in s) (length ls) ≤ k → (i : ℕ) → is_in (rounds_from ls s k) i ≡ false
  rounds_end zero s z h i =
      rw (rounds_none s) (elim (cases_lt i (length ls)) [
        | inl l ↦ size_none (is_in s) (length ls) h i l
        | inr l ↦ out_past s i (omega (arith, z.inside_length))
      ])
  rounds_end (suc k) s z h i = rw (← (rounds_later s k)) (rounds_end k (round ls s) (round_sized s z) (round_size s k z h) i)

  -- as many rounds as there are traders are enough, whoever takes part
  pub all_out : (s : Standing) → Sized ls s → (i : ℕ) → is_in (rounds_from ls s (length ls)) i ≡ false
  all_out s z = rounds_end (length ls) s z (size_bound (is_in s) (length ls))

  -- ---- they give a certificate

  pub rounds_certificate : (k : ℕ) (s : Standing) → Sized ls s → size (is_in s) (length ls) ≤ k →
      Certificate (rank ls) (length ls) (is_in s) (is_in s) (λ i. get_or (rounds_from ls s k).got i i) (out_from ls s k)
  unfolding out_from
  rounds_certificate zero s z h = nobody ls s (λ i. get_or (rounds_from ls s 0).got i i) (λ i. 0) (λ i. rw (rounds_none s) at (rounds_end zero s z h i))
  rounds_certificate (suc k) s z h =
      let V = round_leaves ls s z in
      let C = rounds_certificate k (round ls s) V.sized (round_size s k z h) in
      let same = rounds_later s k in
      whole V z C
      (λ i m. (ap (λ t. get_or t.got i i) (sym same) ∙ got_later (round ls s) V.sized k 0 i (omega arith) (rw (rounds_none (round ls s)) (V.leaves i m)) ∙ ap (λ t. get_or t.got i i) (rounds_none (round ls s)) ∙ V.takes i m, rw m))
      (λ i m p. (ap (λ t. get_or t.got i i) (sym same), rw m))

  -- ---- the round in which a trader goes out

  -- whoever is in after k rounds goes out in round k or later
  pub in_out : (k m : ℕ) (s : Standing) (i : ℕ) → Sized ls s → k ≤ m → is_in (rounds_from ls s k) i ≡ true → k ≤ out_from ls s m i
  unfolding out_from
  in_out zero m s i z l e = omega arith
  in_out (suc k) zero s i z l e = absurd (omega arith)
  in_out (suc k) (suc m) s i z l e =
      let e' : is_in (rounds_from ls (round ls s) k) i ≡ true = rw (rounds_later s k) e in
      let e₀ : is_in (round ls s) i ≡ true = rw (rounds_none (round ls s)) at (in_earlier (round ls s) (round_sized s z) k 0 i (omega arith) e') in
      let d = (rest_in (round_leaves ls s z) i e₀).0 in
      let h = in_out k m (round ls s) i (round_sized s z) (omega arith) e' in
      rw d (omega arith)

  -- whoever was in and is out after k rounds went out before round k
  pub out_in : (k m : ℕ) (s : Standing) (i : ℕ) → Sized ls s → k ≤ m → is_in s i ≡ true → is_in (rounds_from ls s k) i ≡ false → out_from ls s m i < k
  unfolding out_from
  out_in zero m s i z l p e = absurd (both_ways (is_in s i) (rw (rounds_none s) at e) p)
  out_in (suc k) zero s i z l p e = absurd (omega arith)
  out_in (suc k) (suc m) s i z l p e =
      let e' : is_in (rounds_from ls (round ls s) k) i ≡ false = rw (rounds_later s k) e in
      elim (cases_Bool (on_ring ls s i)) [
        | inl d ↦ rw d (omega arith)
        | inr d ↦ rw d (let h = out_in k m (round ls s) i (round_sized s z) (omega arith) ((round_leaves ls s z).still i d ∙ p) e' in omega arith)
      ]

  module _ (s : Standing) (z : Sized ls s) where
    -- whoever is on a ring in round k goes out in it
    pub out_at_from : (m k i : ℕ) → k < m → on_ring ls (rounds_from ls s k) i ≡ true → out_from ls s m i ≡ k
    out_at_from m k i l e =
        let p = ring_in ls (rounds_from ls s k) i e in
        let a = in_out k m s i z (omega arith) p in
        let b = out_in (suc k) m s i z l (rw (rounds_none s) at (in_earlier s z k 0 i (omega arith) p)) (ring_leaves s z k i e) in
        omega arith

    -- and has at the end what it then points to
    pub got_at_from : (m k i : ℕ) → k < m → on_ring ls (rounds_from ls s k) i ≡ true → get_or (rounds_from ls s m).got i i ≡ points ls (rounds_from ls s k) i
    got_at_from m k i l e = got_later s z m (suc k) i l (ring_leaves s z k i e) ∙ (rounds_leave s z k).takes i e

    -- nobody is in for as many rounds as there are traders
    pub in_bound : (k i : ℕ) → is_in (rounds_from ls s k) i ≡ true → k < length ls
    in_bound k i e =
        elim (cases_lt k (length ls)) [
          | inl l ↦ l
          | inr l ↦ absurd (both_ways (is_in (rounds_from ls s k) i) (out_later s z k (length ls) i l (all_out s z i)) e)
        ]

    -- Traders who each got the next one's stand and the last the first one's, all in after k rounds, when the holders of all
    -- stands dearer to them are out: they are a ring of round k.
    pub closes : (k : ℕ) (got : ℕ → ℕ) (i p : ℕ) → p < length ls → steps got (suc p) i ≡ i →
        ((m : ℕ) → m ≤ suc p → is_in (rounds_from ls s k) (steps got m i) ≡ true) →
        ((m t : ℕ) → m < suc p → is_in (rounds_from ls s k) t ≡ true → rank ls (steps got m i) t < rank ls (steps got m i) (steps got (suc m) i) → ⊥) →
        on_ring ls (rounds_from ls s k) i ≡ true
    closes k got i p l e inside dearest =
        ring_from ls (rounds_from ls s k) i p (inside 0 (omega arith)) l (same (suc p) (omega arith) ∙ e)
      where
        next : (m : ℕ) → m < suc p → points ls (rounds_from ls s k) (steps got m i) ≡ steps got (suc m) i
        next m b = points_is ls (rounds_from ls s k) (steps got m i) (steps got (suc m) i) (inside m (omega arith)) (inside (suc m) b) (λ t. dearest m t b)

        same : (m : ℕ) → m ≤ suc p → steps (points ls (rounds_from ls s k)) m i ≡ steps got m i
        same zero b = refl
        same (suc m) b = ap (points ls (rounds_from ls s k)) (same m (omega arith)) ∙ next m b

    -- ---- the certificate of the rounds themselves

    abbrev pub own_got : ℕ → ℕ
    own_got i = get_or (rounds_from ls s (length ls)).got i i

    abbrev pub own_out : ℕ → ℕ
    own_out i = out_from ls s (length ls) i

    pub own_certificate : Certificate (rank ls) (length ls) (is_in s) (is_in s) own_got own_out
    own_certificate = rounds_certificate (length ls) s z (size_bound (is_in s) (length ls))

    -- every other certificate of all who take part gives the same stands
    pub own_unique : {got out : ℕ → ℕ} → Certificate (rank ls) (length ls) (is_in s) (is_in s) got out → (i : ℕ) → is_in s i ≡ true → got i ≡ own_got i
    own_unique C = segment (rank_tie ls) own_certificate C

    pub out_bound : (i : ℕ) → is_in s i ≡ true → own_out i < length ls
    out_bound i p = out_in (length ls) (length ls) s i z (omega arith) p (all_out s z i)

    -- who is in after k rounds: those who go out in round k or later
    pub in_since : (k i : ℕ) → is_in (rounds_from ls s k) i ≡ true → k ≤ own_out i
    in_since k i e = let b = in_bound k i e in in_out k (length ls) s i z (omega arith) e

    pub in_until : (k i : ℕ) → is_in s i ≡ true → k ≤ own_out i → is_in (rounds_from ls s k) i ≡ true
    in_until k i p l =
        elim (cases_Bool (is_in (rounds_from ls s k) i)) [
          | inl e ↦ e
          | inr e ↦ absurd (let b = out_bound i p in let h = out_in k (length ls) s i z (omega arith) p e in omega arith)
        ]

    pub out_of_ring : (k i : ℕ) → on_ring ls (rounds_from ls s k) i ≡ true → own_out i ≡ k
    out_of_ring k i e = let b = in_bound k i (ring_in ls (rounds_from ls s k) i e) in out_at_from (length ls) k i b e

    pub got_of_ring : (k i : ℕ) → on_ring ls (rounds_from ls s k) i ≡ true → own_got i ≡ points ls (rounds_from ls s k) i
    got_of_ring k i e = let b = in_bound k i (ring_in ls (rounds_from ls s k) i e) in got_at_from (length ls) k i b e

    -- all of a ring go out in the same round
    pub own_ring_out : (i : ℕ) → is_in s i ≡ true → (m : ℕ) → (is_in s (steps own_got m i) ≡ true) × (own_out (steps own_got m i) ≡ own_out i)
    own_ring_out i p zero = (p, refl)
    own_ring_out i p (suc m) =
        let h = own_ring_out i p m in
        (own_certificate.into (steps own_got m i) h.0, own_certificate.together (steps own_got m i) h.0 ∙ h.1)

    -- A trader whose ring is in after k rounds goes out in round k, if the holders of all stands dearer to the ring's members are out.
    pub out_when : (k i p : ℕ) → is_in s i ≡ true → k ≤ own_out i → p < length ls → steps own_got (suc p) i ≡ i →
        ((m t : ℕ) → m < suc p → is_in (rounds_from ls s k) t ≡ true → rank ls (steps own_got m i) t < rank ls (steps own_got m i) (steps own_got (suc m) i) → ⊥) →
        own_out i ≡ k
    out_when k i p e l b back dearest =
        out_of_ring k i (closes k own_got i p b back
        (λ m d. (let h = own_ring_out i e m in in_until k (steps own_got m i) h.0 (omega (arith, h.1)))) dearest)

    -- ---- least rounds

    module _ {got out : ℕ → ℕ} (C : Certificate (rank ls) (length ls) (is_in s) (is_in s) got out) where
      ring_level : (i : ℕ) → is_in s i ≡ true → (m : ℕ) → out (steps own_got m i) ≡ out i
      ring_level i p zero = refl
      ring_level i p (suc m) =
          let x = (own_ring_out i p m).0 in
          ap out (sym (own_unique C (steps own_got m i) x)) ∙ C.together (steps own_got m i) x ∙ ring_level i p m

      -- round r, where nobody of a lower round goes out later than the certificate says
      least_step : (r : ℕ) → ((x : ℕ) → is_in s x ≡ true → out x < r → own_out x ≤ out x) → (i : ℕ) → is_in s i ≡ true → out i ≡ r → own_out i ≤ r
      least_step r ih i p o =
          let w = orbit (turns own_certificate) i p in
          let same : (m : ℕ) → out (steps own_got m i) ≡ r = λ m. ring_level i p m ∙ o in
          elim (cases_lt (own_out i) r) [
            | inl l ↦ omega arith
            | inr l ↦
                (let h = out_when r i w.0 p l w.1 w.2 (λ m t b e d. (let x = (own_ring_out i p m).0 in
                let f = C.dearer (steps own_got m i) t x (rw (rounds_none s) at (in_earlier s z r 0 t (omega arith) e)) (rw (own_unique C (steps own_got m i) x) d) in
                let g = ih t f.0 (omega (arith, f.1, same m)) in
                let y = in_since r t e in omega (arith, f.1, same m))) in omega arith)
          ]

      least_below : (r : ℕ) (i : ℕ) → is_in s i ≡ true → out i < r → own_out i ≤ out i
      least_below zero i p l = absurd (omega arith)
      least_below (suc r) i p l =
          elim (cases_lt (out i) r) [
            | inl m ↦ least_below r i p m
            | inr m ↦ (let h = least_step r (least_below r) i p (omega arith) in omega arith)
          ]

      -- a certificate has for nobody a lower round than the rounds themselves
      pub least : (i : ℕ) → is_in s i ≡ true → own_out i ≤ out i
      least i p = least_below (suc (out i)) i p (omega arith)

    -- ---- a ring's round, from the holders of the dearer stands of its members

    pub ring_later : (i : ℕ) → is_in s i ≡ true → (m t : ℕ) → is_in s t ≡ true → rank ls (steps own_got m i) t < rank ls (steps own_got m i) (steps own_got (suc m) i) → own_out t < own_out i
    ring_later i p m t q l =
        let h = own_ring_out i p m in
        let d = (own_certificate.dearer (steps own_got m i) t h.0 q l).1 in
        omega (arith, h.1)

    pub ring_just_later : (i r : ℕ) → is_in s i ≡ true → own_out i ≡ suc r →
        (m : ℕ) × (t : ℕ) × (is_in s t ≡ true) × (rank ls (steps own_got m i) t < rank ls (steps own_got m i) (steps own_got (suc m) i)) × (own_out t ≡ r)
    ring_just_later i r p o =
        let w = orbit (turns own_certificate) i p in
        let test : ℕ → ℕ → Bool = λ m t. is_in s t && (ltb (rank ls (steps own_got m i) t) (rank ls (steps own_got m i) (steps own_got (suc m) i)) && eqb (own_out t) r) in
        elim (find_either {A = λ m. (t : ℕ) × (t < length ls) × (test m t ≡ true)} {B = λ m. (t : ℕ) → t < length ls → test m t ≡ false} (suc w.0) (λ m. find (test m) (length ls))) [
          | inl f ↦
              (let m = f.0 in let t = f.2.0 in
              let a = and_parts (is_in s t) (ltb (rank ls (steps own_got m i) t) (rank ls (steps own_got m i) (steps own_got (suc m) i)) && eqb (own_out t) r) f.2.2 in
              let b = and_parts (ltb (rank ls (steps own_got m i) t) (rank ls (steps own_got m i) (steps own_got (suc m) i))) (eqb (own_out t) r) a.1 in
              (m, t, a.0, ltb-true (rank ls (steps own_got m i) t) (rank ls (steps own_got m i) (steps own_got (suc m) i)) b.0, eqb-true (own_out t) r b.1))
          | inr f ↦ absurd
              (let h = out_when r i w.0 p (omega arith) w.1 w.2 (λ m t b e d.
              (let q : is_in s t ≡ true = rw (rounds_none s) at (in_earlier s z r 0 t (omega arith) e) in
              let x = ring_later i p m t q d in
              let y = in_since r t e in
              both_ways (test m t) (f m b t (own_certificate.below t q))
              (and_from (is_in s t) (ltb (rank ls (steps own_got m i) t) (rank ls (steps own_got m i) (steps own_got (suc m) i)) && eqb (own_out t) r) q
              (and_from (ltb (rank ls (steps own_got m i) t) (rank ls (steps own_got m i) (steps own_got (suc m) i))) (eqb (own_out t) r)
              (lt-ltb (rank ls (steps own_got m i) t) (rank ls (steps own_got m i) (steps own_got (suc m) i)) d) (eq-eqb (own_out t) r (omega arith)))))) in omega arith)
        ]

  -- ---- how many rounds

  -- the count from a standing on, where nobody is in and where somebody is
  pub count_over : (s : Standing) (m : ℕ) → none_in s.inside ≡ true → count_from ls s m ≡ 0
  unfolding count_from
  count_over s zero e = refl
  count_over s (suc m) e = rw e

  pub count_on : (s : Standing) (m : ℕ) → none_in s.inside ≡ false → count_from ls s (suc m) ≡ suc (count_from ls (round ls s) m)
  unfolding count_from
  count_on s m e = rw e

  pub count_at_from : (k m : ℕ) (s : Standing) → k ≤ m → none_in (rounds_from ls s k).inside ≡ true → ((j : ℕ) → j < k → none_in (rounds_from ls s j).inside ≡ false) → count_from ls s m ≡ k
  count_at_from zero m s l e f = count_over s m (rw (rounds_none s) at e)
  count_at_from (suc k) zero s l e f = absurd (omega arith)
  count_at_from (suc k) (suc m) s l e f =
      let h = count_at_from k m (round ls s) (omega arith) (rw (rounds_later s k) e) (λ j b. rw (rounds_later s j) (f (suc j) (omega arith))) in
      count_on s m (rw (rounds_none s) at (f 0 (omega arith))) ∙ ap suc h

  -- the first of the rounds up to k after which nobody is in
  pub first_empty : (s : Standing) (k : ℕ) → none_in (rounds_from ls s k).inside ≡ true →
      (j : ℕ) × (j ≤ k) × (none_in (rounds_from ls s j).inside ≡ true) × ((h : ℕ) → h < j → none_in (rounds_from ls s h).inside ≡ false)
  first_empty s k e = least_true (λ j. none_in (rounds_from ls s j).inside) k e
