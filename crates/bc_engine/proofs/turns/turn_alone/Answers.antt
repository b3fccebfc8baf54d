use Rattle.bc_model.specs.Rows.{lists_of}
use Rattle.bc_engine.proofs.Attempts.{ready-sound}
use Rattle.bc_engine.proofs.RunLemmas.{runs-moved, runs-then}
use Rattle.bc_engine.proofs.TurnLemmas.{each-stopped, turn-alone}
use Rattle.bc_engine.proofs.turns.turn_alone.Goals as goal

pub answer-requires-clause-sound : goal.answer-requires-clause-sound
answer-requires-clause-sound c =
    let u = c.requires.underway in
    ready-sound (c.run_lanes.ensures.runs.underway u.0 u.1).ready

pub returns-clause-runs : goal.returns-clause-runs
returns-clause-runs c =
    let lanes = lists_of c.args.lanes.now in
    let vs = c.run_lanes.new.replies in
    let answered = c.answer.ensures in
    let settled = c.settle.ensures in
    runs-then c.run_lanes.ensures.runs
    (runs-then (runs-moved lanes c.run_lanes.new.running c.answer.new.self vs (answered.moves, answered.rest)) (runs-moved lanes c.answer.new.self c.settle.new.self vs (settled.moves, settled.rest)))

pub returns-clause-turn : goal.returns-clause-turn
returns-clause-turn c = λ lived.
    let ran = c.run_lanes.ensures in
    let answered = c.answer.ensures in
    let settled = c.settle.ensures in
    turn-alone lived ran.runs ran.leaves ran.attempts (each-stopped c.args.lanes.now ran.stopped) answered.answered answered.rest settled.settled settled.rest
