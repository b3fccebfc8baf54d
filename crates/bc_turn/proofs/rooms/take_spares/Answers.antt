use Rattle.std.proofs.Common.{rules, ◌≡◌, ℕ, ◌+◌, List, [], length, Vec, ap, sym, subst, ◌∙◌, arith}
use Rattle.std.specs.declared.alloc.Global.{Global}
use Rattle.std.proofs.lemmas.List.{length-map}
use Rattle.bc_model.specs.Rows.{lists_of}
use Rattle.bc_model.specs.declared.operations.Op.{Op}
use Rattle.bc_turn.specs.declared.rooms.Spare.{Spare}
use Rattle.bc_turn.specs.Taking.{AreSparesOf, spare_lanes}
use Rattle.bc_turn.proofs.TakingLemmas.{AreBusyBelow, busy-none, busy-more, busy-same, busy-all, lanes-more, list-long, spares-more}
use Rattle.bc_turn.proofs.rooms.take_spares.Goals as goal

pub loop-number-init : goal.loop-number-init
loop-number-init c =
    let none : c.new-spares.result.items ≡ [] = search rules in
    let zero = ap length none in
    record {
      busy = subst (λ (ss : List Spare). AreBusyBelow (lists_of c.args.lanes.now) (lists_of c.args.replies.now) 0 (spare_lanes ss)) (sym none) (busy-none (lists_of c.args.lanes.now) (lists_of c.args.replies.now));
      spares = λ i lt d. absurd (omega arith);
    }

pub loop-number-preserved-then-len : goal.loop-number-preserved-then-len
loop-number-preserved-then-len c =
    let sizes = c.requires.sizes.0 in
    let test = c.loop-number-test.true in
    let told = list-long c.args.replies.now c.loop-number.number c.len.result c.index-replies-number.result (omega arith) c.index-replies-number.is c.len.ensures in
    let ops = list-long c.args.lanes.now c.loop-number.number c.len-in-loop-number.result c.index-lanes-number.result test c.index-lanes-number.is c.len-in-loop-number.ensures in
    let past = c.if-len.true in
    record {
      busy = busy-same (lists_of c.args.lanes.now) (lists_of c.args.replies.now) c.loop-number.number (spare_lanes c.loop-number.spares.items) c.loop-number.invariant.busy (λ left. absurd (omega arith));
      spares = c.loop-number.invariant.spares;
    }

pub loop-number-preserved : goal.loop-number-preserved
loop-number-preserved c =
    let sizes = c.requires.sizes.0 in
    let test = c.loop-number-test.true in
    let told = list-long c.args.replies.now c.loop-number.number c.len.result c.index-replies-number.result (omega arith) c.index-replies-number.is c.len.ensures in
    let ops = list-long c.args.lanes.now c.loop-number.number c.len-in-loop-number.result c.index-lanes-number.result test c.index-lanes-number.is c.len-in-loop-number.ensures in
    let less = c.if-len.false in
    let items = c.in_ok-push.ensures.items in
    record {
      busy = subst (AreBusyBelow (lists_of c.args.lanes.now) (lists_of c.args.replies.now) (c.loop-number.number + 1)) (sym (ap spare_lanes items ∙ lanes-more c.loop-number.spares.items c.in_ok-spare.spare c.loop-number.number c.in_ok-spare.ensures.lane))
          (busy-more (lists_of c.args.lanes.now) (lists_of c.args.replies.now) c.loop-number.number (spare_lanes c.loop-number.spares.items) c.loop-number.invariant.busy (omega arith));
      spares = subst (AreSparesOf c.args.holders.now c.args.slots) (sym items) (spares-more c.args.holders.now c.args.slots c.loop-number.spares.items c.in_ok-spare.spare c.loop-number.invariant.spares c.in_ok-spare.ensures.spare);
    }

pub returns-clause-busy : goal.returns-clause-busy
returns-clause-busy c =
    let test = c.loop-number-test.false in
    let end = c.loop-number.auto.number-end in
    let long = length-map c.args.lanes.now (λ (v : Vec Op Global). v.items) in
    busy-all (lists_of c.args.lanes.now) (lists_of c.args.replies.now) (spare_lanes c.loop-number.spares.items)
    (subst (λ (n : ℕ). AreBusyBelow (lists_of c.args.lanes.now) (lists_of c.args.replies.now) n (spare_lanes c.loop-number.spares.items)) (omega arith) c.loop-number.invariant.busy)
