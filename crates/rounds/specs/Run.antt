-- What a run of the exchange over lent slices answers, and how it leaves them.
use Rattle.std.specs.Prelude.{ℕ, ◌*◌, cond, List, ◌++◌, map, length, drop, replicate, Some, None, Ok, Err, Option, Result, nat_lt}
use Rattle.std.specs.List.{range_with_len}
use Rattle.std.specs.Option.{option_or}
use Rattle.refusals.specs.declared.Lent.TheVariants.{Results, Work}
use Rattle.refusals.specs.declared.Refusal.{Refusal}
use Rattle.refusals.specs.declared.Refusal.TheVariants.{TooShort}
use Rattle.lists.specs.Format.{fault, number_at}
use Rattle.theory.specs.Trade.{Lists, result, out, round_count}
use Rattle.rounds.specs.declared.running.Exchanged.{Exchanged}

-- the stands that all traders have at the end, in the order of their numbers
unfoldable pub results_of : Lists → List ℕ
results_of ls = map (result ls) (range_with_len 0 (length ls))

-- the rounds, from 0, in which all traders go out, in the order of their numbers
unfoldable pub outs_of : Lists → List ℕ
outs_of ls = map (out ls) (range_with_len 0 (length ls))

-- the fault of the lent slices, of which n traders use n entries and 3 n entries
abbrev pub room_fault : ℕ → ℕ → ℕ → Option Refusal
room_fault n results_length work_length =
    cond (nat_lt results_length n) (Some (TooShort Results)) (cond (nat_lt work_length (3 * n)) (Some (TooShort Work)) None)

-- The first fault: that of the bytes, and then that of the lent slices, by their lengths.
abbrev pub run_fault : List ℕ → ℕ → ℕ → Option Refusal
run_fault bs results_length work_length = option_or (fault bs) (room_fault (number_at bs 0) results_length work_length)

-- The answer: how many traders there are, and how many rounds it took.
abbrev pub exchanged : Lists → Exchanged
exchanged ls = record { traders = length ls; rounds = round_count ls }

-- How the slice of the results is left: a refusal changes nothing, and else the n results stand in front.
abbrev pub results_left : Result Exchanged Refusal → Lists → List ℕ → List ℕ
results_left (Err e) ls xs = xs
results_left (Ok x) ls xs = results_of ls ++ drop (length ls) xs

-- How the work slice is left: a refusal changes nothing, and else 2 n entries are cleared, and the n rounds stand behind them.
abbrev pub work_left : Result Exchanged Refusal → Lists → List ℕ → List ℕ
work_left (Err e) ls xs = xs
work_left (Ok x) ls xs = replicate (2 * length ls) 0 ++ (outs_of ls ++ drop (3 * length ls) xs)
