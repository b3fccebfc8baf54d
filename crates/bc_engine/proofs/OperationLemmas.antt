-- How many operations the lanes of a phase have.
use Rattle.std.proofs.Common.{Vec, Global, vec_len, ◌≡◌, ℕ, ◌+◌, ◌-◌, ◌^◌, ◌<◌, ◌≤◌, length, drop, get_or, List, [], min, arith}
use Rattle.std.specs.Prelude.{sum_by}
use Rattle.std.proofs.lemmas.List.{at_drop_all, length-map}
use Rattle.std.proofs.lemmas.List.Sums.{sum_by-drop_more}
use Rattle.bc_model.specs.Rows.{lists_of}
use Rattle.bc_model.specs.declared.operations.Op.{Op}
use Rattle.bc_engine.proofs.RunLemmas.{of_lane-long}

-- those of one lane more are counted
pub operations-more : (vs : List (Vec Op Global)) (i all more n : ℕ) (v : Vec Op Global) → i < length vs → v ≡ get_or vs i v → n ≡ vec_len v → more ≡ min (all + n) (2 ^ 64 - 1)
    → min (all + sum_by length (drop i (lists_of vs))) (2 ^ 64 - 1) ≡ min (sum_by length (lists_of vs)) (2 ^ 64 - 1)
    → min (more + sum_by length (drop (i + 1) (lists_of vs))) (2 ^ 64 - 1) ≡ min (sum_by length (lists_of vs)) (2 ^ 64 - 1)
operations-more vs i all more n v lt is count sum before =
    let long : length (lists_of vs) ≡ length vs = length-map vs (λ (x : Vec Op Global). x.items) in
    let here : length (get_or (lists_of vs) i []) ≡ n = of_lane-long vs i n v lt is count in
    let next = sum_by-drop_more length (lists_of vs) i [] (omega (arith, lt, long)) in
    omega (arith, before, next, here, sum)

pub operations-all : (vs : List (Vec Op Global)) (i all : ℕ) → length vs ≤ i → all < 2 ^ 64
    → min (all + sum_by length (drop i (lists_of vs))) (2 ^ 64 - 1) ≡ min (sum_by length (lists_of vs)) (2 ^ 64 - 1)
    → all ≡ min (sum_by length (lists_of vs)) (2 ^ 64 - 1)
operations-all vs i all past few before =
    let none : sum_by length (drop i (lists_of vs)) ≡ 0 = at_drop_all (sum_by length) (lists_of vs) i (omega (arith, past, length-map vs (λ (x : Vec Op Global). x.items))) in
    omega (arith, before, none, few)
