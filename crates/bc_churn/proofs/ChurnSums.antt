-- How many operations the churn has, and how many replies of all kinds.
use Rattle.std.proofs.Common.{◌≡◌, ℕ, ◌+◌, ◌-◌, ◌*◌, ◌<◌, ◌≤◌, ◌==◌, Bool, true, false, if◌then◌else◌, List, [], ◌∷◌, map, min, zero, suc, length, get_or, take, inl, inr, refl, ap, ◌∙◌, arith, length-append}
use Rattle.std.specs.List.{sum_by, sum}
use Rattle.std.proofs.lemmas.List.{length-map, map-append}
use Rattle.std.proofs.lemmas.List.Sums.{sum_by-cons, sum_by-append}
use Rattle.bc_model.specs.Lists.{PhaseLists, TraceLists}
use Rattle.bc_model.specs.Run.{opening, after_ops, after_phase, replies_to, replies_to_lanes, replies_of_phases, replies_of}
use Rattle.bc_model.specs.RunLengths.{ops_of, all_ops_of}
use Rattle.bc_model.specs.State.{State, holder_of, lets_write, numbers_below}
use Rattle.bc_model.specs.Step.{step}
use Rattle.bc_model.specs.WellFormed.{IsTrace}
use Rattle.bc_model.specs.declared.operations.Op.{Op}
use Rattle.bc_model.specs.declared.operations.Reply.{Reply}
use Rattle.bc_model.specs.declared.operations.Reply.TheVariants as replies
use Rattle.bc_model.specs.declared.values.Holder.{Holder}
use Rattle.bc_model.proofs.Openings.{length-numbers_below}
use Rattle.bc_churn.specs.Draws.{drawn_op, number_after_ops}
use Rattle.bc_churn.specs.Churn.{churn_lane, churn_phase, churn_trace, clears_below, domain_clears, drawn_ops, holders_before, lane_clears, number_before, number_before_lane, ops_in, phase_from, phases_of}
use Rattle.bc_churn.specs.Counts.{all_replies, count_of_kind, counts, kind_names, kind_of_reply, phase_replies, run_counts}
use Rattle.bc_churn.proofs.ChurnNeed.{holders-two, version-is}
use Rattle.bc_churn.proofs.Cleared.{IsOfTwo}
use Rattle.bc_churn.proofs.Counting.{counts-at}
use Rattle.bc_churn.proofs.Formed.{churn-formed}
use Rattle.bc_churn.proofs.Unfrozen.{frozen-none}
use Rattle.bc_churn.proofs.Drawing.{clears-none, clears-suc}

-- ---- operations

clears-if : (b : Bool) (d : ℕ) → length (if b then domain_clears d else []) ≡ (if b then 8 else 0)
unfolding domain_clears
clears-if true d = refl
clears-if false d = refl

either-holds : (x : Holder) → IsOfTwo x → (if lets_write x 0 then 8 else 0) + (if lets_write x 1 then 8 else 0) ≡ 8
either-holds x (inl e) = rw e refl
either-holds x (inr e) = rw e refl

clears-count : (holders : List Holder) (n : ℕ) → n ≤ 4 → ((d : ℕ) → d < 4 → IsOfTwo (holder_of holders d)) → length (clears_below holders 0 n) + length (clears_below holders 1 n) ≡ 8 * n
clears-count holders zero few two = omega (arith, ap length (clears-none holders 0), ap length (clears-none holders 1))
clears-count holders (suc n) few two =
    let first = ap length (clears-suc holders 0 n) ∙ length-append (clears_below holders 0 n) _ in
    let second = ap length (clears-suc holders 1 n) ∙ length-append (clears_below holders 1 n) _ in
    let one = either-holds (holder_of holders n) (two n (omega (arith, few))) in
    omega (arith, first, second, one, clears-count holders n (omega (arith, few)) two, clears-if (lets_write (holder_of holders n) 0) n, clears-if (lets_write (holder_of holders n) 1) n)

drawn-length : (n x : ℕ) → length (drawn_ops n x) ≡ n
drawn-length n x = length-map (numbers_below n) (λ i. drawn_op (number_after_ops i x)) ∙ length-numbers_below n

lane-length : (n x : ℕ) (holders : List Holder) (j : ℕ) → length (churn_lane n x holders j) ≡ length (lane_clears holders j) + n
lane-length n x holders j = length-append (lane_clears holders j) (drawn_ops n (number_before_lane n x j)) ∙ ap (λ m. length (lane_clears holders j) + m) (drawn-length n (number_before_lane n x j))

pub phase-ops : (start ops k : ℕ) → ops_of (churn_phase start ops k) ≡ 2 * ops_in ops k + 32
unfolding phase_from
phase-ops start ops k =
    let n = ops_in ops k in
    let x = number_before start ops k in
    let h = holders_before start ops k in
    omega (arith, lane-length n x h 0, lane-length n x h 1, clears-count h 4 (omega arith) (holders-two start ops k))

sum-phases : (start ops n : ℕ) → sum_by ops_of (map (churn_phase start ops) (numbers_below n)) ≡ 2 * min (1000 * n) ops + 32 * n
sum-phases start ops zero = omega arith
sum-phases start ops (suc n) =
    let split = ap (sum_by ops_of) (map-append (churn_phase start ops) (numbers_below n) (n ∷ [])) ∙ sum_by-append ops_of (map (churn_phase start ops) (numbers_below n)) (churn_phase start ops n ∷ []) in
    let last = sum_by-cons ops_of (churn_phase start ops n) [] in
    go (sum_by ops_of (map (churn_phase start ops) (numbers_below (suc n)))) (sum_by ops_of (map (churn_phase start ops) (numbers_below n))) (sum_by ops_of (churn_phase start ops n ∷ [])) (ops_of (churn_phase start ops n)) split last (phase-ops start ops n) (sum-phases start ops n)
  where
    go : (all front last one : ℕ) → all ≡ front + last → last ≡ one + 0 → one ≡ 2 * min 1000 (ops - 1000 * n) + 32 → front ≡ 2 * min (1000 * n) ops + 32 * n → all ≡ 2 * min (1000 * suc n) ops + 32 * suc n
    go all front last one a b c d = omega (arith, a, b, c, d)

pub trace-ops : (start ops : ℕ) → all_ops_of (churn_trace start ops) ≡ 2 * ops + 32 * phases_of ops
unfolding churn_trace
trace-ops start ops = go (all_ops_of (churn_trace start ops)) (phases_of ops) refl (sum-phases start ops (phases_of ops))
  where
    go : (all n : ℕ) → n ≡ phases_of ops → all ≡ 2 * min (1000 * n) ops + 32 * n → all ≡ 2 * ops + 32 * phases_of ops
    go all n e h = omega (arith, e, h)

-- ---- replies

replies-length : (s : State) (j : ℕ) (os : List Op) → length (replies_to s j os) ≡ length os
unfolding replies_to
replies-length s j [] = refl
replies-length s j (o ∷ os) = ap suc (replies-length (step s j o).0 j os)

lanes-replies : (s : State) (j : ℕ) (lanes : List (List Op)) → length (phase_replies (replies_to_lanes s j lanes)) ≡ sum_by length lanes
unfolding replies_to_lanes
lanes-replies s j [] = refl
lanes-replies s j (os ∷ lanes) =
    omega (arith, length-append (replies_to s j os) (phase_replies (replies_to_lanes (after_ops s j os) (j + 1) lanes)), replies-length s j os, lanes-replies (after_ops s j os) (j + 1) lanes, sum_by-cons (length {A = Op}) os lanes)

phases-replies : (s : State) (phases : List PhaseLists) → length (all_replies (replies_of_phases s phases)) ≡ sum_by ops_of phases
unfolding replies_of_phases
phases-replies s [] = refl
phases-replies s (p ∷ ps) =
    omega (arith, length-append (phase_replies (replies_to_lanes s 0 p.lanes)) (all_replies (replies_of_phases (after_phase s p) ps)), lanes-replies s 0 p.lanes, phases-replies (after_phase s p) ps, sum_by-cons ops_of p ps)

-- ---- counts

one-kind : (r : Reply) → sum (map (λ k. if kind_of_reply r == k then 1 else 0) (numbers_below 12)) ≡ 1
unfolding kind_of_reply
one-kind (replies.Obj b) = refl
one-kind replies.Done = refl
one-kind replies.Nil = refl
one-kind (replies.Num v) = refl
one-kind replies.Ref = refl
one-kind (replies.Len n) = refl
one-kind replies.Yes = refl
one-kind replies.No = refl
one-kind replies.NotObj = refl
one-kind replies.Range = refl
one-kind replies.Foreign = refl
one-kind replies.Frozen = refl

-- sums of a list of counts, one reply more
sum-more : (f g h : ℕ → ℕ) (ks : List ℕ) → ((k : ℕ) → f k ≡ g k + h k) → sum (map f ks) ≡ sum (map g ks) + sum (map h ks)
sum-more f g h [] e = refl
sum-more f g h (k ∷ ks) e =
    omega (arith, e k, sum-more f g h ks e, sum_by-cons (λ x. x) (f k) (map f ks), sum_by-cons (λ x. x) (g k) (map g ks), sum_by-cons (λ x. x) (h k) (map h ks))

sum-nil : (ks : List ℕ) → sum (map (λ k. count_of_kind k []) ks) ≡ 0
sum-nil [] = refl
sum-nil (k ∷ ks) = omega (arith, sum-nil ks, sum_by-cons (λ x. x) (count_of_kind k []) (map (λ k. count_of_kind k []) ks))

sum-counts : (rs : List Reply) → sum (counts rs) ≡ length rs
unfolding counts
sum-counts [] = sum-nil (numbers_below 12)
sum-counts (r ∷ rs) =
    let more = sum-more (λ k. count_of_kind k (r ∷ rs)) (λ k. if kind_of_reply r == k then 1 else 0) (λ k. count_of_kind k rs) (numbers_below 12) (λ k. sum_by-cons (λ (x : Reply). if kind_of_reply x == k then 1 else 0) r rs) in
    go _ _ _ (length rs) more (one-kind r) (sum-counts rs)
  where
    go : (all one rest n : ℕ) → all ≡ one + rest → one ≡ 1 → rest ≡ n → all ≡ suc n
    go all one rest n a b c = omega (arith, a, b, c)

pub counted-once : (phases : List (List (List Reply))) → sum (run_counts phases) ≡ length (all_replies phases)
counted-once phases = sum-counts (all_replies phases)

pub counted-run : (t : TraceLists) → sum (run_counts (replies_of t)) ≡ all_ops_of t
counted-run t = counted-once (replies_of t) ∙ phases-replies (opening t.setup) t.phases

pub counted-churn : (start ops : ℕ) → sum (run_counts (replies_of (churn_trace start ops))) ≡ 2 * ops + 32 * phases_of ops
counted-churn start ops = counted-run (churn_trace start ops) ∙ trace-ops start ops

-- ---- the counts that are printed

pub counted-frozen : (t : TraceLists) → IsTrace t → t.version ≡ 1 → get_or (run_counts (replies_of t)) (kind_of_reply replies.Frozen) 0 ≡ 0
unfolding kind_of_reply
counted-frozen t h first = counts-at (all_replies (replies_of t)) 11 (omega arith) ∙ frozen-none t h first

printed-sum : (rs : List Reply) → sum (counts rs) ≡ sum (take (length kind_names) (counts rs)) + count_of_kind 11 rs
unfolding counts
printed-sum rs =
    let last : sum (count_of_kind 11 rs ∷ []) ≡ count_of_kind 11 rs = omega (arith, sum_by-cons (λ x. x) (count_of_kind 11 rs) []) in
    omega (arith, sum_by-append (λ x. x) (map (λ k. count_of_kind k rs) (numbers_below 11)) (count_of_kind 11 rs ∷ []), last)

pub counted-printed : (start ops : ℕ) → sum (take (length kind_names) (run_counts (replies_of (churn_trace start ops)))) ≡ 2 * ops + 32 * phases_of ops
counted-printed start ops =
    let t = churn_trace start ops in
    omega (arith, printed-sum (all_replies (replies_of t)), frozen-none t (churn-formed start ops) (version-is start ops), counted-churn start ops)
