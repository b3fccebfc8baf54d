use Rattle.std.proofs.Common.{[], ◌++◌, List, Vec, Global, length, map, ap, ◌∙◌, length-append, arith}
use Rattle.std.specs.List.{sum}
use Rattle.bc_model.specs.declared.operations.Reply.{Reply}
use Rattle.bc_churn.specs.Counts.{phase_replies}
use Rattle.bc_churn.proofs.ChurnSums.{counted-once}
use Rattle.edge_tests.proofs.trace_language.replies_are_counted_by_their_kinds.Goals as goal

pub add-requires : goal.add-requires
add-requires g c =
    let second = c.in_ok-from_slice-2.field-0.items in
    let none = ap sum c.new-counts.ensures ∙ counted-once [] in
    let lanes = ap (λ (vs : List (Vec Reply Global)). length (phase_replies (map (λ v. v.items) vs))) c.in_ok-lanes.ensures.items in
    let first = ap (λ (rs : List Reply). length (rs ++ (second ++ []))) c.in_ok-from_slice.ensures.items in
    omega (arith, none, lanes, first, length-append second [], ap length c.in_ok-from_slice-2.ensures.items)
