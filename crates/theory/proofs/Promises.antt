-- The promises of the exchange, from its certificate.
use Rattle.std.proofs.Common.{◌≡◌, ℕ, ◌<◌, ◌≤◌, Bool, true, ◌&&◌, ltb, List, [], length, set, sym, ap, ◌∙◌, arith, length-set}
use Rattle.std.proofs.lemmas.Bool.{ltb-true, lt-ltb, and_parts, and_from}
use Rattle.std.proofs.lemmas.List.{get_or-set_same, get_or-set_other}
use Rattle.theory.specs.Trade.{Lists, result}
use Rattle.theory.specs.Promise.{rank_in, rank, Truthful, Core, Shared, Ends}
use Rattle.theory.proofs.Finite.{Turning}
use Rattle.theory.proofs.Ranks.{rank_tie}
use Rattle.theory.proofs.Certificates.{own_or_dearer, no_group_betters, no_gain}
use Rattle.theory.proofs.Exchange.{certificate, certificate_of, rounds_all_out}

-- ---- ranks where one list is replaced

pub rank_set_same : (ls : Lists) (i : ℕ) (ts : List ℕ) (t : ℕ) → i < length ls → rank (set ls i ts) i t ≡ rank_in ts i t
unfolding rank
rank_set_same ls i ts t l = ap (λ us. rank_in us i t) (get_or-set_same ls i ts [] l)

pub rank_set_other : (ls : Lists) (i : ℕ) (ts : List ℕ) (j t : ℕ) → (j ≡ i → ⊥) → rank (set ls i ts) j t ≡ rank ls j t
unfolding rank
rank_set_other ls i ts j t ne = ap (λ us. rank_in us j t) (get_or-set_other ls i j ts [] ne)

-- ---- without a word of proper lists

pub result_below : (ls : Lists) (i : ℕ) → i < length ls → result ls i < length ls
result_below ls i l = ltb-true (result ls i) (length ls) ((certificate ls).into i (lt-ltb i (length ls) l))

pub result_apart : (ls : Lists) (i j : ℕ) → i < length ls → j < length ls → result ls i ≡ result ls j → i ≡ j
result_apart ls i j l m = (certificate ls).apart i j (lt-ltb i (length ls) l) (lt-ltb j (length ls) m)

pub result_own : (ls : Lists) (i : ℕ) → i < length ls → rank ls i (result ls i) ≤ rank ls i i
result_own ls i l = own_or_dearer (certificate ls) i (lt-ltb i (length ls) l)

-- whoever shares a group's stands among the group, none of them worse off, gives each of them the result
pub result_unbettered : (ls : Lists) (group : ℕ → Bool) (share : ℕ → ℕ) →
    ((i : ℕ) → i < length ls → group i ≡ true → (share i < length ls) × (group (share i) ≡ true)) →
    ((i j : ℕ) → i < length ls → j < length ls → group i ≡ true → group j ≡ true → share i ≡ share j → i ≡ j) →
    ((i : ℕ) → i < length ls → group i ≡ true → rank ls i (share i) ≤ rank ls i (result ls i)) →
    (i : ℕ) → i < length ls → group i ≡ true → share i ≡ result ls i
result_unbettered ls group share within apart well i l g =
    let G : ℕ → Bool = λ x. group x && ltb x (length ls) in
    let parts : (x : ℕ) → G x ≡ true → (group x ≡ true) × (x < length ls) =
    λ x p. (let h = and_parts (group x) (ltb x (length ls)) p in (h.0, ltb-true x (length ls) h.1)) in
    let T : Turning (length ls) G share = record {
      below = λ x p. (parts x p).1;
      into = λ x p. (let h = parts x p in let w = within x h.1 h.0 in
          and_from (group (share x)) (ltb (share x) (length ls)) w.1 (lt-ltb (share x) (length ls) w.0));
      apart = λ x y p q. apart x y (parts x p).1 (parts y q).1 (parts x p).0 (parts y q).0;
    } in
    no_group_betters (rank_tie ls) (certificate ls) G share T (λ x p. (and_parts (group x) (ltb x (length ls)) p).1) (λ x p. well x (parts x p).1 (parts x p).0)
    i (and_from (group i) (ltb i (length ls)) g (lt-ltb i (length ls) l))

pub result_truthful : (ls : Lists) (i : ℕ) (honest other : List ℕ) → i < length ls →
    rank_in honest i (result (set ls i honest) i) ≤ rank_in honest i (result (set ls i other) i)
result_truthful ls i honest other l =
    let C = certificate_of (set ls i honest) (length ls) (length-set ls i honest) in
    let D = certificate_of (set ls i other) (length ls) (length-set ls i other) in
    let h = no_gain (rank_tie (set ls i other)) C D i (lt-ltb i (length ls) l)
    (λ j t ne. rank_set_other ls i other j t ne ∙ sym (rank_set_other ls i honest j t ne)) in
    let a = rank_set_same ls i honest (result (set ls i honest) i) l in
    let b = rank_set_same ls i honest (result (set ls i other) i) l in
    omega arith

-- ---- the statements

pub truthful : Truthful
unfolding Truthful
truthful ls i honest other l p q = result_truthful ls i honest other l

pub core : Core
unfolding Core
core ls group share p = result_unbettered ls group share

pub shared : Shared
unfolding Shared
shared ls p = (result_below ls, result_apart ls, result_own ls)

pub ends : Ends
unfolding Ends
ends ls i p l = rounds_all_out ls i
