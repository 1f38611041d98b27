-- One list, read stand by stand.
use Rattle.std.proofs.Common.{◌≡◌, ℕ, ◌+◌, ◌*◌, ◌<◌, ◌≤◌, eqb, List, [], ◌∷◌, length, get_or, set, Some, None, sym, refl, arith}
use Rattle.refusals.specs.declared.Refusal.{Refusal}
use Rattle.lists.specs.Format.{length_fault, list_fault, member, next_start, number_at, stand_fault, stands_fault}
use Rattle.lists.proofs.Faults.{list_right, marks_bound, marks_more, marks_none, stand_below, stands_next, stands_none, stands_wrong}

-- Of trader own's list, which begins at byte `at`, `left` stands are still to be read, from byte p on.
pub record Within (bs : List ℕ) (n own at : ℕ) (marks : List ℕ) (mark left p : ℕ) : Type 0 where
  -- the stands that were read, the last first
  pub before : List ℕ
  pub so_far : stands_fault bs n own before left p ≡ list_fault bs n own at
  pub marked : (t : ℕ) → eqb (get_or marks t 0) mark ≡ member t before
  pub most : (t : ℕ) → get_or marks t 0 ≤ mark
  pub ends : p + 2 * left ≡ next_start bs at

module _ (bs : List ℕ) (n own at : ℕ) (marks : List ℕ) (mark : ℕ) where
  pub begun : length_fault bs at ≡ None → ((t : ℕ) → get_or marks t 0 < mark) → Within bs n own at marks mark (get_or bs at 0) (at + 1)
  begun short fresh =
      record {
        before = [];
        so_far = sym (list_right bs n own at _ short refl);
        marked = marks_none marks mark fresh;
        most = λ t. let less = fresh t in omega arith;
        ends = refl;
      }

  module _ (left p : ℕ) (within : Within bs n own at marks mark left p) where
    pub stand_wrong : (f : Refusal) → 0 < left → stand_fault bs n own p (eqb (get_or marks (number_at bs p) 0) mark) ≡ Some f →
        list_fault bs n own at ≡ Some f
    stand_wrong f more e =
        stands_wrong bs n own within.before left p (list_fault bs n own at) within.so_far _ (within.marked (number_at bs p)) f more e

    pub stand_read : (rest : ℕ) → left ≡ rest + 1 → n ≤ length marks →
        stand_fault bs n own p (eqb (get_or marks (number_at bs p) 0) mark) ≡ None →
        Within bs n own at (set marks (number_at bs p) mark) mark rest (p + 2)
    stand_read rest one room e =
        let t = number_at bs p in
        let below = stand_below bs n own p _ e in
        let there : number_at bs p < length marks = omega arith in
        record {
          before = t ∷ within.before;
          so_far = stands_next bs n own within.before left p (list_fault bs n own at) within.so_far _ (within.marked t) t rest refl one e;
          marked = marks_more marks mark t there within.before within.marked;
          most = marks_bound marks mark t there within.most;
          ends = let all = within.ends in omega arith;
        }

    pub all_read : left ≡ 0 → (list_fault bs n own at ≡ None) × (p ≡ next_start bs at)
    all_read none =
        let all = within.ends in
        (stands_none bs n own within.before left p (list_fault bs n own at) within.so_far none, omega arith)
