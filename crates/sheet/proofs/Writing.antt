-- How the sheet is written, an entry at a time.
use Rattle.std.proofs.Common.{◌≡◌, ℕ, suc, ◌+◌, ◌*◌, ◌/◌, ◌%◌, ◌<◌, ◌≤◌, List, [], ◌∷◌, ◌++◌, length, get_or, take, drop, sym, refl, ap, ◌∙◌, append_assoc, arith, length-append, length-drop}
use Rattle.std.specs.List.{range_with_len, flat_map}
use Rattle.std.proofs.lemmas.List.{length-take-le, take-append-drop, take_at}
use Rattle.std.proofs.lemmas.Slice.{put_mid-paste}
use Rattle.std.proofs.lemmas.Bool.{le-ltb}
use Rattle.lists.proofs.Positions.{two_bytes}
use Rattle.lists.specs.Format.{bytes_of}
use borrow.Rule.Slice.PartMut.{put_mid}
use Rattle.sheet.proofs.Rest.{rest_here, rest_next}
use Rattle.sheet.specs.Exchange.{entries, entry_put, put_entry}

-- writing four bytes behind a front
put_here : (pre rest : List ℕ) (a b c e stand round : ℕ) →
    put_entry (pre ++ (a ∷ b ∷ c ∷ e ∷ rest)) (length pre) stand round ≡ pre ++ ((bytes_of stand ++ bytes_of round) ++ rest)
put_here [] rest a b c e stand round = refl
put_here (x ∷ pre) rest a b c e stand round =
    let n = length pre in
    let one : suc (length pre) + 1 ≡ suc (length pre + 1) = omega arith in
    let two : suc (length pre) + 2 ≡ suc (length pre + 2) = omega arith in
    let three : suc (length pre) + 3 ≡ suc (length pre + 3) = omega arith in
    rw (one, two, three) (ap (λ xs. x ∷ xs) (put_here pre rest a b c e stand round))

four_bytes : (d : List ℕ) (p : ℕ) → p + 4 ≤ length d →
    drop p d ≡ get_or d p 0 ∷ get_or d (p + 1) 0 ∷ get_or d (p + 2) 0 ∷ get_or d (p + 3) 0 ∷ drop (p + 4) d
four_bytes d p room =
    let second : p + 2 + 1 ≡ p + 3 = omega arith in
    let fourth : p + 2 + 2 ≡ p + 4 = omega arith in
    let low = two_bytes d p (omega arith) in
    let high = two_bytes d (p + 2) (omega arith) in
    low ∙ ap (λ xs. get_or d p 0 ∷ get_or d (p + 1) 0 ∷ xs) (high ∙ rw (second, fourth))

pub put_there : (d : List ℕ) (p stand round : ℕ) → p + 4 ≤ length d → entry_put d p stand round ≡ put_entry d p stand round
put_there d p stand round room = rw (le-ltb (length d) (p + 4) room)

pub put_behind : (pre d : List ℕ) (p stand round : ℕ) → length pre ≡ p → p + 4 ≤ length d →
    put_entry (pre ++ drop p d) p stand round ≡ (pre ++ (bytes_of stand ++ bytes_of round)) ++ drop (p + 4) d
put_behind pre d p stand round is room =
    ap (λ ys. put_entry (pre ++ ys) p stand round) (four_bytes d p room)
    ∙ (rw (← is) (put_here pre _ _ _ _ _ stand round) ∙ sym (append_assoc pre (bytes_of stand ++ bytes_of round) (drop (p + 4) d)))

-- an entry that is copied in at p
pub entry_copied : (d bytes : List ℕ) (p k stand round : ℕ) → k ≡ 4 → p + 4 ≤ length d → bytes ≡ bytes_of stand ++ bytes_of round →
    put_mid p k d bytes ≡ entry_put d p stand round
entry_copied d bytes p k stand round four room are =
    put_mid-paste p k d bytes (bytes_of stand ++ bytes_of round) 4 are (sym four) refl
    ∙ sym (put_there d p stand round room
    ∙ ap (λ xs. put_entry xs p stand round) (sym (take-append-drop p d))
    ∙ put_behind (take p d) d p stand round (length-take-le p d (omega arith)) room)

-- the bytes of a number
pub low_byte_first : (x : ℕ) → x < 65536 → x / 256 % 256 ≡ x / 256
low_byte_first x h = omega arith

-- what is written up to the end of an entry
pub written_more : (d rest : List ℕ) (p q stand round : ℕ) → q ≡ p + 4 → p + 4 ≤ length d →
    take q (entry_put d p stand round) ++ rest ≡ take p d ++ ((bytes_of stand ++ bytes_of round) ++ rest)
written_more d rest p q stand round end room =
    let front = length-take-le p d (omega arith) in
    let size : length (take p d ++ (bytes_of stand ++ bytes_of round)) ≡ p + 4 = length-append (take p d) (bytes_of stand ++ bytes_of round) ∙ omega arith in
    let all = put_there d p stand round room
    ∙ ap (λ xs. put_entry xs p stand round) (sym (take-append-drop p d))
    ∙ put_behind (take p d) d p stand round front room in
    ap (λ xs. take q xs ++ rest) all
    ∙ rw end (ap (λ xs. xs ++ rest) (take_at (take p d ++ (bytes_of stand ++ bytes_of round)) (drop (p + 4) d) (p + 4) size)
    ∙ append_assoc (take p d) (bytes_of stand ++ bytes_of round) rest)

-- the entries of the stands and rounds that are left
unfoldable pub entries_left : List ℕ → List ℕ → List ℕ
entries_left [] rounds = []
entries_left (t ∷ ts) [] = []
entries_left (t ∷ ts) (r ∷ rs) = (bytes_of t ++ bytes_of r) ++ entries_left ts rs

left_is : (results work : List ℕ) (n i : ℕ) (ts rs : List ℕ) → ts ≡ drop i results → rs ≡ drop (2 * n + i) work → length rs ≡ length ts →
    flat_map (λ j. bytes_of (get_or results j 0) ++ bytes_of (get_or work (2 * n + j) 0)) (range_with_len i (length ts)) ≡ entries_left ts rs
unfolding entries_left
left_is results work n i [] rs stands rounds same = refl
left_is results work n i (t ∷ ts) [] stands rounds same = absurd (omega arith)
left_is results work n i (t ∷ ts) (r ∷ rs) stands rounds same =
    let on : 2 * n + i + 1 ≡ 2 * n + (i + 1) = omega arith in
    let stand = rest_here results (t ∷ ts) ts i t stands refl 0 in
    let round = rest_here work (r ∷ rs) rs (2 * n + i) r rounds refl 0 in
    let next = rw on at (rest_next work (r ∷ rs) rs (2 * n + i) r rounds refl) in
    let more = left_is results work n (i + 1) ts rs (rest_next results (t ∷ ts) ts i t stands refl) next (omega arith) in
    rw (stand, round, more) refl

pub all_entries : (results work : List ℕ) → length work ≡ 3 * length results →
    entries results work (length results) (length results) ≡ entries_left results (drop (2 * length results) work)
all_entries results work size =
    let n = length results in
    let from : 2 * length results + 0 ≡ 2 * length results = omega arith in
    let rounds : drop (2 * n) work ≡ drop (2 * n + 0) work = rw from refl in
    left_is results work n 0 results (drop (2 * n) work) refl rounds (length-drop (2 * n) work ∙ omega arith)
