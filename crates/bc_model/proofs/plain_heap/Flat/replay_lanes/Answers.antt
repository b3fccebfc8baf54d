use Rattle.std.proofs.Common.{◌+◌, ◌<◌, ◌≤◌, List, ◌++◌, length, drop, sym, ap, subst, ◌∙◌, append-nil, arith}
use Rattle.std.specs.List.{AllByRecursion}
use Rattle.std.proofs.lemmas.List.{length-map, map_push}
use Rattle.std.proofs.lemmas.List.Sums.{sum_by_more, sum_by_more_le}
use Rattle.bc_model.specs.StateSizes.{sizes_of}
use Rattle.bc_model.specs.Rows.{lists_of}
use Rattle.bc_model.specs.Run.{replies_to_lanes}
use Rattle.bc_model.specs.WellFormed.{IsOp}
use Rattle.bc_model.specs.declared.operations.Op.{Op}
use Rattle.bc_model.specs.declared.operations.Reply.{Reply}
use Rattle.bc_model.specs.declared.traces.Setup.{Setup}
use Rattle.bc_model.proofs.Runs.{at-index, lists_of-at, lane-state, lane-replies, after_lanes-end, replies_to_lanes-end}
use Rattle.bc_model.proofs.plain_heap.Flat.replay_lanes.Goals as goal

pub replay-requires-clause-ops : goal.replay-requires-clause-ops
replay-requires-clause-ops c =
    let lanes = lists_of c.args.lanes.now in
    let j = c.loop-lane.lane in
    let ops = c.deref.result.now in
    let within : j < length c.args.lanes.now = omega arith in
    let is = lists_of-at c.args.lanes.now j c.index-lanes-lane.result ops within c.index-lanes-lane.is c.deref.ensures.value in
    let inside : j < length lanes = omega (arith, within, length-map c.args.lanes.now (λ v. v.items)) in
    let fits = at-index (AllByRecursion (IsOp (sizes_of c.args.self.now))) lanes j ops c.requires.ops inside in
    subst (λ (z : Setup). AllByRecursion (IsOp z) ops) (sym c.loop-lane.invariant.sizes)
    (subst (λ (xs : List Op). AllByRecursion (IsOp (sizes_of c.args.self.now)) xs) (sym is) fits)

pub replay-requires-clause-serials : goal.replay-requires-clause-serials
replay-requires-clause-serials c =
    let lanes = lists_of c.args.lanes.now in
    let j = c.loop-lane.lane in
    let ops = c.deref.result.now in
    let within : j < length c.args.lanes.now = omega arith in
    let is = lists_of-at c.args.lanes.now j c.index-lanes-lane.result ops within c.index-lanes-lane.is c.deref.ensures.value in
    let inside : j < length lanes = omega (arith, within, length-map c.args.lanes.now (λ v. v.items)) in
    omega (arith, c.loop-lane.invariant.more j, c.requires.serials.below j, sum_by_more_le length lanes j ops inside, ap length is)

pub loop-lane-preserved : goal.loop-lane-preserved
loop-lane-preserved c =
    let lanes = lists_of c.args.lanes.now in
    let j = c.loop-lane.lane in
    let ops = c.deref.result.now in
    let within : j < length c.args.lanes.now = omega arith in
    let is = lists_of-at c.args.lanes.now j c.index-lanes-lane.result ops within c.index-lanes-lane.is c.deref.ensures.value in
    let inside : j < length lanes = omega (arith, within, length-map c.args.lanes.now (λ v. v.items)) in
    let ensures' = c.in_ok-of_lane.ensures in
    record {
      state = lane-state c.loop-lane.self c.replay.new.self j lanes ops inside is ensures'.state ∙ c.loop-lane.invariant.state;
      replies =
          ap (λ (rs : List (List Reply)). rs ++ replies_to_lanes c.replay.new.self (j + 1) (drop (j + 1) lanes))
          (ap lists_of c.in_ok-push.ensures.items ∙ map_push (λ v. v.items) c.loop-lane.replies.items c.in_ok-of_lane.of_lane)
          ∙ lane-replies c.loop-lane.self c.replay.new.self j lanes ops c.in_ok-of_lane.of_lane.items (lists_of c.loop-lane.replies.items) inside is ensures'.state ensures'.replies
          ∙ c.loop-lane.invariant.replies;
      sizes = ensures'.sizes ∙ c.loop-lane.invariant.sizes;
      more = λ k. omega (arith, ensures'.more k, c.loop-lane.invariant.more k, sum_by_more length lanes j ops inside, ap length is);
    }

pub returns-clause-replies : goal.returns-clause-replies
returns-clause-replies c =
    let rs = lists_of c.loop-lane.replies.items in
    let past : length (lists_of c.args.lanes.now) ≤ c.loop-lane.lane = omega (arith, length-map c.args.lanes.now (λ v. v.items)) in
    sym (append-nil rs)
    ∙ ap (λ (xs : List (List Reply)). rs ++ xs) (sym (replies_to_lanes-end c.loop-lane.self c.loop-lane.lane (lists_of c.args.lanes.now) c.loop-lane.lane past))
    ∙ c.loop-lane.invariant.replies

pub returns-clause-state : goal.returns-clause-state
returns-clause-state c =
    let past : length (lists_of c.args.lanes.now) ≤ c.loop-lane.lane = omega (arith, length-map c.args.lanes.now (λ v. v.items)) in
    sym (after_lanes-end c.loop-lane.self c.loop-lane.lane (lists_of c.args.lanes.now) c.loop-lane.lane past) ∙ c.loop-lane.invariant.state
