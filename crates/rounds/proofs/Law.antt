-- What the slices hold after a run, trader by trader.
use Rattle.std.proofs.Common.{◌≡◌, ℕ, ◌+◌, ◌-◌, ◌*◌, ◌<◌, List, ◌++◌, length, get_or, replicate, ◌∙◌, arith}
use Rattle.std.proofs.lemmas.List.{get_or_append_left, get_or-append_right, length-replicate}
use Rattle.std.proofs.lemmas.List.FromFn.{get_or-map-range_with_len, length-map-range_with_len}
use Rattle.theory.specs.Trade.{Lists, result, out}
use Rattle.rounds.specs.Run.{results_of, outs_of}

module _ (ls : Lists) (rest : List ℕ) (i : ℕ) (below : i < length ls) where
  -- the slice of the results: what trader i has at the end
  pub result_at : get_or (results_of ls ++ rest) i 0 ≡ result ls i
  unfolding results_of
  result_at =
      let size : length (results_of ls) ≡ length ls = length-map-range_with_len (result ls) 0 (length ls) in
      get_or_append_left (results_of ls) rest 0 i (omega arith)
      ∙ get_or-map-range_with_len (result ls) 0 (length ls) i i 0 below (omega arith)

  -- the work slice: the round in which trader i went out
  pub out_at : get_or (replicate (2 * length ls) 0 ++ (outs_of ls ++ rest)) (2 * length ls + i) 0 ≡ out ls i
  unfolding outs_of
  out_at =
      let size : length (outs_of ls) ≡ length ls = length-map-range_with_len (out ls) 0 (length ls) in
      let zeros : length (replicate {A = ℕ} (2 * length ls) 0) ≡ 2 * length ls = length-replicate {A = ℕ} (2 * length ls) 0 in
      let at : 2 * length ls + i - 2 * length ls ≡ i = omega arith in
      get_or-append_right (replicate {A = ℕ} (2 * length ls) 0) (outs_of ls ++ rest) (2 * length ls) (2 * length ls + i) 0 zeros (omega arith)
      ∙ rw at (get_or_append_left (outs_of ls) rest 0 i (omega arith))
      ∙ get_or-map-range_with_len (out ls) 0 (length ls) i i 0 below (omega arith)
