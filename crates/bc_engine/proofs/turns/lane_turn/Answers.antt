use Rattle.std.proofs.Common.{Vec, Global, List, ap, refl, subst, sym, ◌∙◌}
use Rattle.bc_model.specs.Rows.{lists_of}
use Rattle.bc_model.specs.declared.operations.Reply.{Reply}
use Rattle.bc_pager.specs.declared.answers.Answer.{Answer}
use Rattle.bc_running.specs.Running.{RunningView}
use Rattle.bc_engine.specs.Lanes.{LanesRan}
use Rattle.bc_engine.proofs.Attempts.{ready-sound}
use Rattle.bc_engine.proofs.BesideLemmas.{RanAbreast, together-leaves, together-runs, together-stopped}
use Rattle.bc_engine.proofs.RunLemmas.{runs-moved, runs-then}
use Rattle.bc_engine.proofs.Sizes.{lanes-of_heap}
use Rattle.bc_engine.proofs.TurnLemmas.{kept-later, turn-same, turn-together, turn-unfed}
use Rattle.bc_engine.proofs.turns.lane_turn.Given.{Over}
use Rattle.bc_engine.proofs.turns.lane_turn.Goals as goal
use Rattle.bc_engine.proofs.turns.lane_turn.Goals.{In-Ok}

-- no table was worth while, and no notice may come
pub returns-in-Plain-clause-turn : goal.returns-in-Plain-clause-turn
returns-in-Plain-clause-turn g c = turn-unfed refl refl (c.turn_alone.ensures.turn c.args.live_answers.now.items)

pub returns-in-Plain-clause-kept : goal.returns-in-Plain-clause-kept
returns-in-Plain-clause-kept g c =
    kept-later (lists_of c.args.lanes.now) (lists_of c.args.replies.now) (lists_of c.turn_alone.new.replies) c.args.room.now refl refl c.turn_alone.ensures.runs.goes.more c.requires.kept

pub take_turn-requires-clause-sound : goal.take_turn-requires-clause-sound
take_turn-requires-clause-sound g c κs within = ready-sound c.requires.underway.ready

pub take_turn-requires-clause-ops : goal.take_turn-requires-clause-ops
take_turn-requires-clause-ops g c κs within = lanes-of_heap c.args.setup.now c.args.running.now.heap (lists_of c.args.lanes.now) c.requires.underway.ready.fits c.requires.underway.ops

-- the lanes ran side by side
abreast : (g : Over) (c : In-Ok g) → RanAbreast (lists_of c.args.lanes.now) c.args.running.now c.args.replies.now c.take_turn.new.self c.take_turn.new.replies
abreast g c =
    let e = c.in-Ok.ensures in
    let u = c.requires.underway in
    record { ran = e.ran; held = e.holders; roomy = u.room; room = e.room; each = u.each ∙ sym u.ready.lanes; long = u.long ∙ sym u.each }

pub returns-in-Ok-clause-runs : goal.returns-in-Ok-clause-runs
returns-in-Ok-clause-runs g c =
    let here = goal.at.returns-in-Ok-clause-runs g c in
    let settled = c.settle.ensures in
    runs-then (together-runs (abreast g here.In-Ok)) (runs-moved (lists_of c.args.lanes.now) c.take_turn.new.self c.settle.new.self c.take_turn.new.replies (settled.moves, settled.rest))

pub returns-in-Ok-clause-turn : goal.returns-in-Ok-clause-turn
returns-in-Ok-clause-turn g c =
    let here = goal.at.returns-in-Ok-clause-turn g c in
    let settled = c.settle.ensures in
    let side = abreast g here.In-Ok in
    let answered = c.in-Ok.ensures.answered in
    (answered.0, answered.1, turn-together (together-runs side) (together-leaves side) side.ran (together-stopped side) answered.2 settled.settled settled.rest)

-- there was no memory for it, and nothing had changed
pub returns-in-Err-clause-turn : goal.returns-in-Err-clause-turn
returns-in-Err-clause-turn g c =
    let same = c.in-Err.ensures.same in
    turn-unfed (ap (λ x. g.N.Notices.taken x) same.3) (ap (λ (v : Vec Answer Global). v.items) same.4)
    (turn-same same.0 same.1 (ap (λ (v : Vec Answer Global). v.items) same.2) (c.turn_alone-in-Err.ensures.turn c.args.live_answers.now.items))

pub returns-in-Err-clause-runs : goal.returns-in-Err-clause-runs
returns-in-Err-clause-runs g c =
    let same = c.in-Err.ensures.same in
    let lanes = lists_of c.args.lanes.now in
    let e = c.turn_alone-in-Err in
    subst (λ (r : RunningView). LanesRan lanes r c.args.replies.now e.new.running e.new.replies) same.0
    (subst (λ (vs : List (Vec Reply Global)). LanesRan lanes c.take_turn.new.self vs e.new.running e.new.replies) same.1 e.ensures.runs)

pub returns-in-Err-clause-kept : goal.returns-in-Err-clause-kept
returns-in-Err-clause-kept g c =
    kept-later (lists_of c.args.lanes.now) (lists_of c.take_turn.new.replies) (lists_of c.turn_alone-in-Err.new.replies) c.take_turn.new.room refl refl c.turn_alone-in-Err.ensures.runs.goes.more c.take_turn.ensures.kept
