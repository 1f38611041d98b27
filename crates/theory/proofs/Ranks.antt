-- Ranks of stands by a list, and the stand that a trader points to.
use Rattle.std.proofs.Common.{◌≡◌, ℕ, zero, suc, ◌<◌, ◌≤◌, true, false, cond, eqb, List, [], ◌∷◌, length, get_or, take, drop, refl, ap, inl, inr, arith}
use Rattle.std.proofs.lemmas.Bool.{cases_Bool, cases_eq, cases_lt, cases_order, eqb-true, eq-eqb, ne_eqb, both_ways}
use Rattle.theory.specs.Trade.{Lists, Standing, is_in, first_in, points}
use Rattle.theory.specs.Promise.{Distinct, Proper, rank_in, rank}

-- No two stands that are at least as dear as the own one have the same rank.
abbrev pub Tieless : (ℕ → ℕ → ℕ) → Type 0
Tieless rk = (i t u : ℕ) → rk i t ≤ rk i i → rk i t ≡ rk i u → t ≡ u

pub rank_in_tie : (ts : List ℕ) (i t u : ℕ) → rank_in ts i t ≤ rank_in ts i i → rank_in ts i t ≡ rank_in ts i u → t ≡ u
unfolding rank_in
rank_in_tie [] i t u a b = grind arith
rank_in_tie (v ∷ vs) i t u a b = let h = rank_in_tie vs i t u in grind arith

pub rank_tie : (ls : Lists) → Tieless (rank ls)
unfolding rank
rank_tie ls i t u a b = rank_in_tie (get_or ls i []) i t u a b

-- ---- ranks and places in the list

-- the rank of a listed stand is the first place where it stands
pub rank_listed : (ts : List ℕ) (i t p : ℕ) → p < length ts → get_or ts p 0 ≡ t → ((q : ℕ) → q < p → get_or ts q 0 ≡ t → ⊥) → rank_in ts i t ≡ p
unfolding rank_in
rank_listed [] i t p l e f = absurd (omega arith)
rank_listed (u ∷ us) i t zero l e f = rw (eq-eqb u t e)
rank_listed (u ∷ us) i t (suc p) l e f =
    let h = rank_listed us i t p (omega arith) e (λ q m. f (suc q) (omega arith)) in
    rw (ne_eqb u t (f 0 (omega arith))) (ap suc h)

-- the own stand, where the list does not hold it, comes after the last one listed
pub rank_own : (ts : List ℕ) (i : ℕ) → ((q : ℕ) → q < length ts → get_or ts q 0 ≡ i → ⊥) → rank_in ts i i ≡ length ts
unfolding rank_in
rank_own [] i f = rw (eq-eqb i i refl)
rank_own (u ∷ us) i f =
    let h = rank_own us i (λ q m. f (suc q) (omega arith)) in
    rw (ne_eqb u i (f 0 (omega arith))) (ap suc h)

-- any other stand that is not listed comes after the own one
pub rank_unlisted : (ts : List ℕ) (i t : ℕ) → ((q : ℕ) → q < length ts → get_or ts q 0 ≡ t → ⊥) → (i ≡ t → ⊥) → rank_in ts i t ≡ suc (length ts)
unfolding rank_in
rank_unlisted [] i t f ne = rw (ne_eqb i t ne)
rank_unlisted (u ∷ us) i t f ne =
    let h = rank_unlisted us i t (λ q m. f (suc q) (omega arith)) ne in
    rw (ne_eqb u t (f 0 (omega arith))) (ap suc h)

pub rank_own_bound : (ts : List ℕ) (i : ℕ) → rank_in ts i i ≤ length ts
unfolding rank_in
rank_own_bound [] i = rw (eq-eqb i i refl) (omega arith)
rank_own_bound (u ∷ us) i = let h = rank_own_bound us i in grind arith

-- a rank within the list is a place of the stand
pub rank_place : (ts : List ℕ) (i t : ℕ) → rank_in ts i t < length ts → get_or ts (rank_in ts i t) 0 ≡ t
unfolding rank_in
rank_place [] i t l = absurd (omega arith)
rank_place (u ∷ us) i t l =
    elim (cases_Bool (eqb u t)) [
      | inl e ↦ rw e (eqb-true u t e)
      | inr e ↦ rw e (let l' : suc (rank_in us i t) < suc (length us) = rw e at l in rank_place us i t (omega arith))
    ]

-- the stand at a place has at most that rank
pub rank_at_most : (ts : List ℕ) (i p : ℕ) → p < length ts → rank_in ts i (get_or ts p 0) ≤ p
unfolding rank_in
rank_at_most [] i p l = absurd (omega arith)
rank_at_most (u ∷ us) i zero l = rw (eq-eqb u u refl) (omega arith)
rank_at_most (u ∷ us) i (suc p) l = let h = rank_at_most us i p (omega arith) in grind arith

-- Of proper lists: the stand at a place has that rank, and the own one has the length.
pub rank_proper : (ls : Lists) → Proper ls → (i p : ℕ) → i < length ls → p < length (get_or ls i []) → rank ls i (get_or (get_or ls i []) p 0) ≡ p
unfolding Proper Distinct rank
rank_proper ls h i p l m =
    rank_listed (get_or ls i []) i (get_or (get_or ls i []) p 0) p m refl
    (λ q b e. (let z = (h i l).0.0 q p (omega arith) m e in omega arith))

pub rank_proper_own : (ls : Lists) → Proper ls → (i : ℕ) → i < length ls → rank ls i i ≡ length (get_or ls i [])
unfolding Proper rank
rank_proper_own ls h i l = rank_own (get_or ls i []) i (h i l).1

-- the stands dearer than one that is listed or the own one: they stand in the list, at places below its rank
pub dearer_place : (ls : Lists) (i g t : ℕ) → rank ls i g ≤ rank ls i i → rank ls i t < rank ls i g →
    (rank ls i t < length (get_or ls i [])) × (get_or (get_or ls i []) (rank ls i t) 0 ≡ t)
unfolding rank
dearer_place ls i g t own l =
    let b = rank_own_bound (get_or ls i []) i in
    let m : rank_in (get_or ls i []) i t < length (get_or ls i []) = omega arith in
    (m, rank_place (get_or ls i []) i t m)

-- and every stand at such a place is dearer
pub place_dearer : (ls : Lists) (i g p : ℕ) → p < length (get_or ls i []) → p < rank ls i g → rank ls i (get_or (get_or ls i []) p 0) < rank ls i g
unfolding rank
place_dearer ls i g p m l = let h = rank_at_most (get_or ls i []) i p m in omega arith

-- what is dearer than a stand by one list is dearer by another that is the same up to that stand
pub rank_top : (us vs : List ℕ) (i g t : ℕ) → take (suc (rank_in us i g)) vs ≡ take (suc (rank_in us i g)) us → rank_in vs i t < rank_in vs i g → rank_in us i t < rank_in us i g
unfolding rank_in
rank_top [] [] i g t e l = l
rank_top [] (v ∷ vs) i g t e l = absurd (let z : suc (length (take (cond (eqb i g) 0 1) vs)) ≡ 0 = ap length e in omega arith)
rank_top (u ∷ us) [] i g t e l = absurd (let z : 0 ≡ suc (length (take (cond (eqb u g) 0 (suc (rank_in us i g))) us)) = ap length e in omega arith)
rank_top (u ∷ us) (v ∷ vs) i g t e l =
    let same : v ≡ u = ap (λ xs. get_or xs 0 0) e in
    elim (cases_Bool (eqb u g)) [
      | inl d ↦ absurd (let d' : eqb v g ≡ true = rw same d in let z : rank_in (v ∷ vs) i t < 0 = rw d' at l in omega arith)
      | inr d ↦
          (let d' : eqb v g ≡ false = rw same d in
          let e' : take (suc (rank_in us i g)) vs ≡ take (suc (rank_in us i g)) us = ap (drop 1) (rw d at e) in
          let h = rank_top us vs i g t e' in grind arith)
    ]

-- ---- pointing

-- nobody who is out has a stand that is pointed to, if the pointing trader is in
pub first_in_in : (s : Standing) (ts : List ℕ) (i : ℕ) → is_in s i ≡ true → is_in s (first_in s ts i) ≡ true
unfolding first_in
first_in_in s [] i e = e
first_in_in s (u ∷ us) i e = elim (cases_Bool (is_in s u)) [ inl d ↦ rw d d | inr d ↦ rw d (first_in_in s us i e) ]

-- the holders of all stands dearer than the one pointed to are out
pub first_in_dearest : (s : Standing) (ts : List ℕ) (i t : ℕ) → rank_in ts i t < rank_in ts i (first_in s ts i) → is_in s t ≡ false
unfolding first_in rank_in
first_in_dearest s [] i t l = absurd (let z : cond (eqb i t) 0 1 < 0 = rw (eq-eqb i i refl) at l in omega arith)
first_in_dearest s (u ∷ us) i t l =
    elim (cases_Bool (is_in s u)) [
      | inl d ↦ absurd (let z : rank_in (u ∷ us) i t < rank_in (u ∷ us) i u = rw d at l in
          let z' : rank_in (u ∷ us) i t < 0 = rw (eq-eqb u u refl) at z in omega arith)
      | inr d ↦
          (let z : rank_in (u ∷ us) i t < rank_in (u ∷ us) i (first_in s us i) = rw d at l in
          let h = first_in_dearest s us i t in
          elim (cases_eq u t) [ inl e ↦ rw (← e) d | inr e ↦ h (let ne = ne_eqb u t e in grind arith) ])
    ]

-- the stand at the first place whose holder is in, or the own one where there is none
pub first_in_listed : (s : Standing) (ts : List ℕ) (i p : ℕ) → p < length ts → is_in s (get_or ts p 0) ≡ true → ((q : ℕ) → q < p → is_in s (get_or ts q 0) ≡ false) → first_in s ts i ≡ get_or ts p 0
unfolding first_in
first_in_listed s [] i p l e f = absurd (omega arith)
first_in_listed s (u ∷ us) i zero l e f = rw e
first_in_listed s (u ∷ us) i (suc p) l e f =
    rw (f 0 (omega arith)) (first_in_listed s us i p (omega arith) e (λ q m. f (suc q) (omega arith)))

pub first_in_own : (s : Standing) (ts : List ℕ) (i : ℕ) → ((q : ℕ) → q < length ts → is_in s (get_or ts q 0) ≡ false) → first_in s ts i ≡ i
unfolding first_in
first_in_own s [] i f = refl
first_in_own s (u ∷ us) i f = rw (f 0 (omega arith)) (first_in_own s us i (λ q m. f (suc q) (omega arith)))

pub points_in : (ls : Lists) (s : Standing) (i : ℕ) → is_in s i ≡ true → is_in s (points ls s i) ≡ true
unfolding points
points_in ls s i e = first_in_in s (get_or ls i []) i e

pub points_dearest : (ls : Lists) (s : Standing) (i t : ℕ) → rank ls i t < rank ls i (points ls s i) → is_in s t ≡ false
unfolding points rank
points_dearest ls s i t l = first_in_dearest s (get_or ls i []) i t l

-- a stand whose holder is in and that is dearer than all others of those in is the one pointed to
pub points_is : (ls : Lists) (s : Standing) (i t : ℕ) → is_in s i ≡ true → is_in s t ≡ true → ((u : ℕ) → is_in s u ≡ true → rank ls i u < rank ls i t → ⊥) → points ls s i ≡ t
points_is ls s i t a b f =
    let p = points_in ls s i a in
    let own : rank ls i (points ls s i) ≤ rank ls i i = elim (cases_lt (rank ls i i) (rank ls i (points ls s i))) [
      | inl l ↦ absurd (both_ways (is_in s i) (points_dearest ls s i i l) a)
      | inr l ↦ l
    ] in
    elim (cases_order (rank ls i (points ls s i)) (rank ls i t)) [
      | inl e ↦ rank_tie ls i (points ls s i) t own e
      | inr d ↦ elim d [
        | inl l ↦ absurd (f (points ls s i) p l)
        | inr l ↦ absurd (both_ways (is_in s t) (points_dearest ls s i t l) b)
      ]
    ]
