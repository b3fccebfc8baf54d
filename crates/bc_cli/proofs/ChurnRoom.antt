-- The output of `churn` is short.
use Rattle.std.proofs.Common.{ℕ, ◌+◌, ◌*◌, ◌^◌, ◌<◌, ◌≤◌, inl, inr, List, [], ◌∷◌, ◌++◌, codes, length, slice_index, suc, arith, length-append}
use Rattle.std.specs.List.{sum, sum_by}
use Rattle.std.specs.Fmt.{decimal}
use Rattle.std.proofs.lemmas.Bool.{cases_lt}
use Rattle.std.proofs.lemmas.Fmt.{length-decimal-le}
use Rattle.std.proofs.lemmas.List.{get_or_past}
use Rattle.std.proofs.lemmas.List.Sums.{get_or-le-sum_by, sum_by-cons}
use Rattle.bc_model.specs.Run.{replies_of}
use Rattle.bc_churn.specs.Churn.{churn_trace}
use Rattle.bc_churn.specs.Counts.{churn_line, churn_text, count_line, count_lines, kind_names, run_counts}
use Rattle.bc_trace.specs.Replies.{done_text}
use Rattle.bc_churn.proofs.ChurnSums.{counted-churn}
use Rattle.bc_cli.specs.Churns.{summary}

count_line-short : (name : List ℕ) (n : ℕ) → n < 1000000 → length (count_line name n) ≤ length name + 8
unfolding count_line
count_line-short name n h =
    let digits = length-decimal-le 6 n (omega arith) (omega (arith, h)) (omega (arith, h)) in
    omega (arith, digits, length-append (name ++ 32 ∷ decimal n) (10 ∷ []), length-append name (32 ∷ decimal n))

count_lines-short : (names : List (List ℕ)) (cs : List ℕ) (k : ℕ) → ((k : ℕ) → slice_index cs k < 1000000) → length (count_lines names cs k) ≤ sum_by length names + 8 * length names
count_lines-short [] cs k few = omega arith
count_lines-short (name ∷ names) cs k few =
    omega (
      arith,
      count_line-short name (slice_index cs k) (few k),
      count_lines-short names cs (suc k) few,
      length-append (count_line name (slice_index cs k)) (count_lines names cs (suc k)),
      sum_by-cons (length {A = ℕ}) name names,
    )

-- no count is above the number of replies
count-below : (cs : List ℕ) (k most : ℕ) → sum cs < most → slice_index cs k < most
count-below cs k most h =
    elim (cases_lt k (length cs)) [
      | inl within ↦ omega (arith, h, get_or-le-sum_by (λ x. x) cs k 0 within)
      | inr past ↦ omega (arith, h, get_or_past cs k 0 past)
    ]

churn_line-short : (start ops : ℕ) → start < 2 ^ 63 → ops ≤ 100000 → length (churn_line start ops) ≤ 33
unfolding churn_line
churn_line-short start ops small few =
    let starts = length-decimal-le 19 start (omega arith) (omega (arith, small)) (omega (arith, small)) in
    let counts = length-decimal-le 6 ops (omega arith) (omega (arith, few)) (omega (arith, few)) in
    omega (
      arith,
      starts,
      counts,
      length-append (codes "churn " ++ decimal start ++ 32 ∷ decimal ops) (10 ∷ []),
      length-append (codes "churn " ++ decimal start) (32 ∷ decimal ops),
      length-append (codes "churn ") (decimal start),
    )

pub summary-short : (start ops : ℕ) → start < 2 ^ 63 → ops ≤ 100000 → length (summary start ops) ≤ 200
unfolding churn_text done_text
summary-short start ops small few =
    let cs = run_counts (replies_of (churn_trace start ops)) in
    let all : sum cs < 1000000 = omega (arith, few, counted-churn start ops) in
    omega (
      arith,
      churn_line-short start ops small few,
      count_lines-short kind_names cs 0 (λ k. count-below cs k 1000000 all),
      length-append (churn_line start ops ++ count_lines kind_names cs 0) done_text,
      length-append (churn_line start ops) (count_lines kind_names cs 0),
    )
