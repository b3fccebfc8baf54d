use Rattle.std.proofs.Common.{◌≡◌, List, length, get_or, ap, sym, subst, ◌∙◌, arith}
use denote.Param.Send.{IsSend, IsSync, param_sync, sendable}
use denote.Param.SendFields.{declared_send}
use Rattle.std.proofs.Crossing.{crosses}
use Rattle.std.specs.contracts.alloc.Global as global
use Rattle.std.specs.contracts.impls.GlobalAllocator as allocator
use Rattle.std.specs.contracts.vec.Vec as vec
use Rattle.bc_model.specs.Rows.{lists_of}
use Rattle.bc_lane.specs.contracts.parts.LanePart as part
use Rattle.bc_lane.specs.contracts.turns.LaneTurn as turn
use Rattle.bc_model.specs.contracts.operations.Op as op
use Rattle.bc_turn.specs.contracts.runs.Run as run
use Rattle.bc_turn.proofs.runs.run_all.Lts as lts
use Rattle.bc_pins.proofs.SharedLemmas.{pins_sync}
use Rattle.bc_pins.proofs.pins.Seat.TheSendSync as seat
use Rattle.bc_superpages.specs.contracts.roots.Roots as roots
use Rattle.bc_turn.specs.declared.runs.Run.{Run}
use Rattle.bc_turn.specs.Taking.{CanRun, LaneHasRun}
use Rattle.bc_turn.proofs.TakingLemmas.{written-back}
use Rattle.bc_turn.proofs.runs.run_all.Goals as goal

-- threads may share the lists of operations
op_sync : IsSync op.the_row
op_sync = search sendable depth 20

ops_sync : IsSync (vec.the_row op.the_row global.the_row allocator.TheImpl.ghosts)
ops_sync = search (sendable, crosses, op_sync) depth 20

-- and the root slots
roots_sync : IsSync roots.the_row
roots_sync = search (sendable, crosses) depth 20

-- a lane's part may go to another thread
part_send : IsSend part.the_row
part_send = declared_send part.the_type (search sendable depth 8, (search (sendable, crosses) depth 12, (search (sendable, crosses) depth 12, (search sendable depth 8, (search (sendable, crosses) depth 12, (search (sendable, crosses) depth 12, (search (sendable, crosses) depth 12, (search (sendable, crosses) depth 40, (search (sendable, crosses) depth 40, (search sendable depth 8, tt))))))))))

turn_send : IsSend turn.the_row
turn_send = declared_send turn.the_type (search (sendable, part_send) depth 8, (search sendable depth 8, (search (sendable, crosses) depth 20, (search sendable depth 8, tt))))

run_send : IsSend run.the_row
run_send = declared_send run.the_type (search (sendable, seat.the_send) depth 8, (search (sendable, turn_send) depth 12, (search sendable depth 8, tt)))

pub for_each_mut-requires-send-T : goal.for_each_mut-requires-send-T
for_each_mut-requires-send-T g c κs within = search (sendable, run_send) depth 12

pub for_each_mut-requires-sync-F : goal.for_each_mut-requires-sync-F
for_each_mut-requires-sync-F g c κs within = param_sync 2 (lts.arg-3-2 g.row.R g.row.G g.R.laws g.G.laws g.R.Threads-dict g.G.Gate-dict κs) (search (sendable, pins_sync, ops_sync, roots_sync) depth 20)

pub for_each_mut-requires-clause-accepts : goal.for_each_mut-requires-clause-accepts
for_each_mut-requires-clause-accepts g c κs within i p lt e =
    let value = c.as_mut_slice.ensures.value in
    let long = ap length value in
    let at : p.now ≡ get_or c.args.runs.now.items i p.now = e ∙ ap (λ (xs : List Run). get_or xs i p.now) value in
    subst (CanRun c.args.pins.now (lists_of c.args.lanes.now) c.args.shared.now) (sym at) (c.requires.can i p.now (omega arith))

pub returns : goal.returns
returns g c =
    let value = c.as_mut_slice.ensures.value in
    let long = ap length value in
    let same = c.for_each_mut.auto.s in
    let len = c.args.runs.now.ok.0 in
    let back = written-back c.args.runs.now.items c.for_each_mut.new.s c.args.runs.now.len (omega arith) (omega arith) in
    record {
      ran = record {
        long = ap length back ∙ same ∙ long;
        each = λ i d lt.
            let ran = (c.for_each_mut.ensures i d (omega arith)).1 in
            let call : LaneHasRun (lists_of c.args.lanes.now) ran.argument.now ran.after_call.now = ran.call in
            let first : ran.argument.now ≡ get_or c.args.runs.now.items i d = ran.argument_is ∙ ap (λ (xs : List Run). get_or xs i d) value in
            let last : ran.after_call.now ≡ get_or c.for_each_mut.new.s i d = ran.left in
            subst (λ (xs : List Run). LaneHasRun (lists_of c.args.lanes.now) (get_or c.args.runs.now.items i d) (get_or xs i d)) (sym back)
            (subst (λ (r : Run). LaneHasRun (lists_of c.args.lanes.now) r (get_or c.for_each_mut.new.s i d)) first
            (subst (λ (r : Run). LaneHasRun (lists_of c.args.lanes.now) ran.argument.now r) last call));
      };
    }
