-- What the lanes did is a cut of the phase: the replies and the state are those of lane after lane.
use Rattle.std.proofs.Common.{◌≡◌, ℕ, ◌<◌, List, [], length, take, map, sym, ap, subst, ◌∙◌, arith}
use Rattle.std.proofs.Math.ListN.{get_or-map}
use Rattle.std.proofs.lemmas.List.{ext_get_or, take_all}
use Rattle.std.specs.List.{AllByRecursion}
use Rattle.bc_model.specs.Consistent.{IsState}
use Rattle.bc_model.specs.StateSizes.{sizes_of}
use Rattle.bc_model.specs.Interleaving.{LaneOp, after_steps, replies_by, ops_by, IsInterleaving}
use Rattle.bc_model.specs.Run.{after_lanes, replies_to_lanes, cut_lanes}
use Rattle.bc_model.specs.State.{State}
use Rattle.bc_model.specs.WellFormed.{IsOp}
use Rattle.bc_model.specs.declared.operations.Op.{Op}
use Rattle.bc_model.specs.declared.operations.Reply.{Reply}
use Rattle.bc_model.proofs.AnyOrder.{as_in_order}
use Rattle.bc_model.proofs.CutFronts.{cut_lanes-at, length-replies_to_lanes}
use Rattle.bc_model.proofs.RunStates.{fits-cut, length-cut_lanes}
use Rattle.bc_engine.specs.Lanes.{of_lane, AreDone}

-- what lanes that began with no reply have done
pub record IsRun (s : State) (lanes : List (List Op)) (answers : List (List Reply)) (steps : List LaneOp) : Type 0 where
  pub replies : answers ≡ replies_to_lanes s 0 lanes
  pub state : after_steps s steps ≡ after_lanes s 0 lanes

pub run-lanes : (s : State) (lanes : List (List Op)) (answers : List (List Reply)) (steps : List LaneOp) → IsState s → IsInterleaving s lanes steps → length answers ≡ length lanes → ((j : ℕ) → of_lane answers j ≡ replies_by s j steps) → IsRun s lanes answers steps
run-lanes s lanes answers steps hs mixed long told =
    let order = as_in_order s lanes steps hs mixed in
    record {
      replies = ext_get_or [] answers (replies_to_lanes s 0 lanes) (long ∙ sym (length-replies_to_lanes s 0 lanes)) (λ j lt. told j ∙ order.replies j (omega (arith, lt, long)));
      state = order.state;
    }

pub mixed-cut : (s : State) (lanes : List (List Op)) (answers : List (List Reply)) (steps : List LaneOp) → length lanes ≡ length s.made → AllByRecursion (AllByRecursion (IsOp (sizes_of s))) lanes → AllByRecursion (λ (x : LaneOp). x.lane < length lanes) steps → ((j : ℕ) → ops_by j steps ≡ take (length (of_lane answers j)) (of_lane lanes j)) → IsInterleaving s (cut_lanes (map length answers) lanes) steps
mixed-cut s lanes answers steps each fits below ops =
    let long = length-cut_lanes (map length answers) lanes in
    record {
      each = long ∙ each;
      fits = fits-cut (IsOp (sizes_of s)) (map length answers) lanes fits;
      below = subst (λ (n : ℕ). AllByRecursion (λ (x : LaneOp). x.lane < n) steps) each below;
      ops = λ j lt. ops j ∙ ap (λ (n : ℕ). take n (of_lane lanes j)) (sym (get_or-map length answers j [])) ∙ sym (cut_lanes-at (map length answers) lanes j);
    }

pub mixed-whole : (s : State) (lanes : List (List Op)) (answers : List (List Reply)) (steps : List LaneOp) → length lanes ≡ length s.made → AllByRecursion (AllByRecursion (IsOp (sizes_of s))) lanes → AllByRecursion (λ (x : LaneOp). x.lane < length lanes) steps → AreDone lanes answers → ((j : ℕ) → ops_by j steps ≡ take (length (of_lane answers j)) (of_lane lanes j)) → IsInterleaving s lanes steps
mixed-whole s lanes answers steps each fits below done ops = record {
  each = each;
  fits = fits;
  below = subst (λ (n : ℕ). AllByRecursion (λ (x : LaneOp). x.lane < n) steps) each below;
  ops = λ j lt. ops j ∙ take_all (length (of_lane answers j)) (of_lane lanes j) (done j);
}
