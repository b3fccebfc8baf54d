use Rattle.std.proofs.Common.{◌≡◌, ◌<◌, length, get_or, refl, sym, ap, inl, inr, ◌∙◌, arith, ◌++◌, ◌∷◌, [], Vec, Global, vec_capacity, vec_len, Err}
use Rattle.std.proofs.lemmas.List.{length-map}
use Rattle.bc_model.specs.Rows.{lists_of}
use Rattle.bc_model.specs.declared.operations.Op.{Op}
use Rattle.bc_model.specs.declared.operations.Reply.{Reply}
use Rattle.bc_engine.specs.Lanes.{of_lane, Does}
use Rattle.bc_engine.proofs.AttemptLemmas.{attempts-done, attempts-none, attempts-one, stops-told}
use Rattle.bc_engine.proofs.Attempts.{does-step, ready-sound, ready-step, never-stops, still-stops, unrecorded-kept, why-stopped}
use Rattle.bc_engine.proofs.RunLemmas.{IsKept, of_lane-long, of_lane-at, op-fits, runs-step, runs-moved, runs-same, one-more, told-other, cells-same, leaves-moved, leaves-same}
use Rattle.bc_engine.proofs.Sizes.{op-of_heap}
use Rattle.bc_engine.proofs.lanes.advance.Goals as goal

pub returns-then-done-len-clause-runs : goal.returns-then-done-len-clause-runs
returns-then-done-len-clause-runs c =
    runs-same (lists_of c.args.lanes.now) c.args.running.now c.args.running.now c.args.replies.now refl

pub returns-then-done-len-clause-stopped : goal.returns-then-done-len-clause-stopped
returns-then-done-len-clause-stopped c = λ e.
    let lane = c.args.lane in
    let lanes = c.args.lanes.now in
    let vs = c.args.replies.now in
    let u = c.requires.underway.1 in
    let lt = c.requires.lane in
    let there : lane < length vs = omega (arith, u.each, u.long, length-map lanes (λ (v : Vec Op Global). v.items)) in
    let done = of_lane-long vs lane c.len-done.result c.index-replies-index.result there c.index-replies-index.is (c.len-done.ensures ∙ ap vec_len (sym c.index-replies-index.is)) in
    let long = of_lane-long lanes lane c.len.result c.index-lanes-index.result lt c.index-lanes-index.is c.len.ensures in
    let past = c.if-done-len.true in
    inl (omega arith)

pub returns-then-done-len-clause-others : goal.returns-then-done-len-clause-others
returns-then-done-len-clause-others c = leaves-same c.args.lane c.args.running.now c.args.running.now (lists_of c.args.replies.now) refl

-- the operation is the next one of the lane
next_op : (c : goal.After-index) → (c.len-done.result < length (of_lane (lists_of c.args.lanes.now) c.args.lane)) × (c.index.result.now ≡ get_or (of_lane (lists_of c.args.lanes.now) c.args.lane) c.len-done.result c.index.result.now)
next_op c =
    let lane = c.args.lane in
    let lanes = c.args.lanes.now in
    let long = of_lane-long lanes lane c.len.result c.index-lanes-index.result c.requires.lane c.index-lanes-index.is c.len.ensures in
    let less = c.if-done-len.false in
    (omega arith, of_lane-at lanes lane c.len-done.result c.index-lanes-index-2.result c.index.result.now c.requires.lane c.index-lanes-index-2.is c.index.ensures)

pub operate-requires-clause-sound : goal.operate-requires-clause-sound
operate-requires-clause-sound c = ready-sound c.requires.underway.1.ready

pub operate-requires-clause-lane : goal.operate-requires-clause-lane
operate-requires-clause-lane c =
    let u = c.requires.underway.1 in
    omega (arith, c.requires.lane, u.each, u.ready.lanes, length-map c.args.lanes.now (λ (v : Vec Op Global). v.items))

pub operate-requires-clause-op : goal.operate-requires-clause-op
operate-requires-clause-op c =
    let setup = c.requires.underway.0 in
    let u = c.requires.underway.1 in
    let lanes = lists_of c.args.lanes.now in
    let within : c.args.lane < length lanes = (let lt = c.requires.lane in omega (arith, length-map c.args.lanes.now (λ (v : Vec Op Global). v.items))) in
    let op = next_op c in
    op-of_heap setup c.args.running.now.heap c.index.result.now u.ready.fits (op-fits setup lanes c.args.lane c.len-done.result c.index.result.now u.ops within op.0 op.1)

-- and its reply is kept
kept : (c : goal.After-push_reserved) → IsKept (lists_of c.args.lanes.now) c.args.lane c.index.result.now c.in-Ok.reply c.args.replies.now c.push_reserved.new.self
kept c =
    let lane = c.args.lane in
    let lanes = c.args.lanes.now in
    let vs = c.args.replies.now in
    let u = c.requires.underway.1 in
    let lt = c.requires.lane in
    let within : lane < length (lists_of lanes) = omega (arith, length-map lanes (λ (v : Vec Op Global). v.items)) in
    let there : lane < length vs = omega (arith, u.each, u.long, length-map lanes (λ (v : Vec Op Global). v.items)) in
    let done = of_lane-long vs lane c.len-done.result c.index-replies-index.result there c.index-replies-index.is (c.len-done.ensures ∙ ap vec_len (sym c.index-replies-index.is)) in
    let long = of_lane-long lanes lane c.len.result c.index-lanes-index.result lt c.index-lanes-index.is c.len.ensures in
    let less = c.if-done-len.false in
    let before = c.index-replies-index-in-Ok.result in
    record {
      within = within;
      there = there;
      less = omega arith;
      at =
          of_lane-at lanes lane c.len-done.result c.index-lanes-index-2.result c.index.result.now lt c.index-lanes-index-2.is c.index.ensures
          ∙ ap (λ n. get_or (of_lane (lists_of lanes) lane) n c.index.result.now) (sym done);
      before = before;
      is = c.index-replies-index-in-Ok.is;
      pushed = c.push_reserved.ensures.items ∙ ap (λ (v : Vec Reply Global). v.items ++ c.in-Ok.reply ∷ []) (sym c.index-replies-index-in-Ok.is);
      capacity = c.push_reserved.ensures.capacity ∙ ap vec_capacity (sym c.index-replies-index-in-Ok.is);
    }

-- the lane did it
done : (c : goal.After-push_reserved) → Does c.args.lane c.index.result.now c.args.running.now c.in-Ok.reply c.operate.new.self
done c =
    let u = c.requires.underway.1 in
    let lanes = lists_of c.args.lanes.now in
    let within : c.args.lane < length lanes = (let lt = c.requires.lane in omega (arith, length-map c.args.lanes.now (λ (v : Vec Op Global). v.items))) in
    let op = (kept c).at in
    does-step c.args.lane c.index.result.now c.in-Ok.reply u.ready (omega (arith, within, u.each, u.ready.lanes))
    (op-of_heap c.requires.underway.0 c.args.running.now.heap c.index.result.now u.ready.fits (op-fits c.requires.underway.0 lanes c.args.lane _ c.index.result.now u.ops within (kept c).less op))
    c.operate.ensures.stays c.in-Ok.ensures.step

pub returns-in-Ok-clause-runs : goal.returns-in-Ok-clause-runs
returns-in-Ok-clause-runs c = runs-step (kept c) (done c) (λ setup ready. ready-step setup c.args.lane c.index.result.now c.operate.result c.operate.ensures.stays c.operate.ensures.sound c.operate.ensures.step c.operate.ensures.stopped ready)

pub returns-in-Ok-clause-further : goal.returns-in-Ok-clause-further
returns-in-Ok-clause-further c = λ e. one-more (kept c)

pub returns-in-Err-clause-runs : goal.returns-in-Err-clause-runs
returns-in-Err-clause-runs c = runs-moved (lists_of c.args.lanes.now) c.args.running.now c.operate.new.self c.args.replies.now c.in-Err.ensures.stopped

pub returns-in-Err-clause-alone : goal.returns-in-Err-clause-alone
returns-in-Err-clause-alone c = λ none unrecorded is.
    let u = c.requires.underway.1 in
    let lt = c.requires.lane in
    absurd (never-stops c.args.lane c.index.result.now (Err c.in-Err.field-0) u.ready (omega (arith, u.each, length-map c.args.lanes.now (λ (v : Vec Op Global). v.items))) none c.in-Err.ensures.nursery.0 c.in-Err.ensures.buffer (λ frame. c.in-Err.ensures.finds frame unrecorded.remembered))

pub returns-in-Ok-clause-unrecorded : goal.returns-in-Ok-clause-unrecorded
returns-in-Ok-clause-unrecorded c = λ none unrecorded. unrecorded-kept (c.operate.ensures.unrecorded none) c.operate.ensures.stays unrecorded

pub returns-in-Err-clause-unrecorded : goal.returns-in-Err-clause-unrecorded
returns-in-Err-clause-unrecorded c = λ none unrecorded. unrecorded-kept (c.operate.ensures.unrecorded none) c.operate.ensures.stays unrecorded

pub returns-in-Ok-clause-others : goal.returns-in-Ok-clause-others
returns-in-Ok-clause-others c = record {
  chunk = λ l ne. (c.operate.ensures.stays.others l ne).0;
  buffer = λ l ne. (c.operate.ensures.stays.others l ne).1;
  replies = λ l ne. told-other c.args.replies.now c.args.lane l c.push_reserved.new.self ne;
  held = c.operate.ensures.stays.holders;
}

pub returns-in-Err-clause-others : goal.returns-in-Err-clause-others
returns-in-Err-clause-others c = leaves-moved c.args.lane c.args.running.now c.operate.new.self (lists_of c.args.replies.now) c.in-Err.ensures.stopped

pub returns-in-Err-clause-stopped : goal.returns-in-Err-clause-stopped
returns-in-Err-clause-stopped c = λ e.
    let lane = c.args.lane in
    let lanes = c.args.lanes.now in
    let vs = c.args.replies.now in
    let u = c.requires.underway.1 in
    let lt = c.requires.lane in
    let there : lane < length vs = omega (arith, u.each, u.long, length-map lanes (λ (v : Vec Op Global). v.items)) in
    let done = of_lane-long vs lane c.len-done.result c.index-replies-index.result there c.index-replies-index.is (c.len-done.ensures ∙ ap vec_len (sym c.index-replies-index.is)) in
    let long = of_lane-long lanes lane c.len.result c.index-lanes-index.result lt c.index-lanes-index.is c.len.ensures in
    let less = c.if-done-len.false in
    let op = c.index.result.now in
    inr (
      op,
      omega arith,
      of_lane-at lanes lane c.len-done.result c.index-lanes-index-2.result op lt c.index-lanes-index-2.is c.index.ensures ∙ ap (λ n. get_or (of_lane (lists_of lanes) lane) n op) (sym done),
      still-stops lane op c.in-Err.ensures.stopped (why-stopped _ _ _ (Err c.in-Err.field-0) c.in-Err.ensures.nursery.0 c.in-Err.ensures.buffer
          (λ stopped. let wants = c.in-Err.ensures.frame.0 stopped in (wants.0, wants.1, c.in-Err.ensures.kept stopped))),
    )

pub returns-then-done-len-clause-attempts : goal.returns-then-done-len-clause-attempts
returns-then-done-len-clause-attempts c = attempts-none (lists_of c.args.lanes.now) c.args.running.now (lists_of c.args.replies.now)

-- nothing else was done
pub returns-in-Ok-clause-attempts : goal.returns-in-Ok-clause-attempts
returns-in-Ok-clause-attempts c =
    attempts-done (kept c) (record { does = done c; records = c.in-Ok.ensures.recorded; memory = c.in-Ok.ensures.memory; stays = c.operate.ensures.stays })

pub returns-in-Err-clause-attempts : goal.returns-in-Err-clause-attempts
returns-in-Err-clause-attempts c =
    let lane = c.args.lane in
    let lanes = c.args.lanes.now in
    let vs = c.args.replies.now in
    let u = c.requires.underway.1 in
    let lt = c.requires.lane in
    let there : lane < length vs = omega (arith, u.each, u.long, length-map lanes (λ (v : Vec Op Global). v.items)) in
    let done = of_lane-long vs lane c.len-done.result c.index-replies-index.result there c.index-replies-index.is (c.len-done.ensures ∙ ap vec_len (sym c.index-replies-index.is)) in
    let long = of_lane-long lanes lane c.len.result c.index-lanes-index.result lt c.index-lanes-index.is c.len.ensures in
    let less = c.if-done-len.false in
    let op = c.index.result.now in
    attempts-one (record {
      lane = lane;
      op = op;
      less = omega arith;
      next = of_lane-at lanes lane c.len-done.result c.index-lanes-index-2.result op lt c.index-lanes-index-2.is c.index.ensures ∙ ap (λ n. get_or (of_lane (lists_of lanes) lane) n op) (sym done);
      way = inr (
        stops-told (Err c.in-Err.field-0) c.in-Err.ensures.nursery.0 c.in-Err.ensures.full c.in-Err.ensures.buffer c.in-Err.ensures.brings c.in-Err.ensures.frame.0 c.in-Err.ensures.kept c.in-Err.ensures.stopped.1,
        refl,
      );
    })

pub returns-then-done-len-clause-leaves : goal.returns-then-done-len-clause-leaves
returns-then-done-len-clause-leaves c = cells-same c.args.running.now

pub returns-in-Ok-clause-leaves : goal.returns-in-Ok-clause-leaves
returns-in-Ok-clause-leaves c = record { space = c.operate.ensures.stays.space; roots = c.operate.ensures.stays.roots }

pub returns-in-Err-clause-leaves : goal.returns-in-Err-clause-leaves
returns-in-Err-clause-leaves c = record { space = c.operate.ensures.stays.space; roots = c.operate.ensures.stays.roots }
