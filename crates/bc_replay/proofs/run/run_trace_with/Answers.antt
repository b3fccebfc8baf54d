use Rattle.std.proofs.Common.{◌≡◌, Option, ap, ◌∙◌, inr, subst, sym}
use Rattle.std.specs.Prelude.{IfSome}
use Rattle.bc_engine.specs.EngineFacts.{new_engine}
use Rattle.bc_engine.specs.Engines.{EngineView}
use Rattle.bc_model.specs.Lists.{TraceLists}
use Rattle.bc_model.specs.Run.{opening}
use Rattle.bc_model.specs.declared.traces.Setup.{Setup}
use Rattle.bc_replay.specs.Feeding.{FedRun}
use Rattle.bc_replay.specs.BetweenPhases.{HasRun}
use Rattle.bc_replay.specs.Courses.{whole_course}
use Rattle.bc_replay.proofs.Feeds.{run-none}
use Rattle.bc_replay.proofs.Finishing.{HasRun-opened}
use Rattle.bc_replay.proofs.run.run_trace_with.Goals as goal

pub replay_with-requires-clause-opened : goal.replay_with-requires-clause-opened
replay_with-requires-clause-opened g c κs within =
    let ready : HasRun (whole_course c.args.trace.now) 0 c.in-Ok.engine = HasRun-opened c.args.trace.now _ c.in-Ok.engine (ap (λ (x : TraceLists). x.setup) c.trace.view_is) c.requires.ops c.in-Ok.ensures.opening
    (c.in-Ok.ensures.setup.0, c.in-Ok.ensures.setup.1, c.in-Ok.ensures.setup.2) in
    let s = opening c.args.trace.now.setup in
    (s, ready, c.requires.room)

pub returns-clause-done : goal.returns-clause-done
returns-clause-done g c =
    let ready : HasRun (whole_course c.args.trace.now) 0 c.in-Ok.engine = HasRun-opened c.args.trace.now _ c.in-Ok.engine (ap (λ (x : TraceLists). x.setup) c.trace.view_is) c.requires.ops c.in-Ok.ensures.opening
    (c.in-Ok.ensures.setup.0, c.in-Ok.ensures.setup.1, c.in-Ok.ensures.setup.2) in
    let s = opening c.args.trace.now.setup in
    c.replay_with.ensures.done s ready

pub returns-clause-out_of_heap : goal.returns-clause-out_of_heap
returns-clause-out_of_heap g c =
    let ready : HasRun (whole_course c.args.trace.now) 0 c.in-Ok.engine = HasRun-opened c.args.trace.now _ c.in-Ok.engine (ap (λ (x : TraceLists). x.setup) c.trace.view_is) c.requires.ops c.in-Ok.ensures.opening
    (c.in-Ok.ensures.setup.0, c.in-Ok.ensures.setup.1, c.in-Ok.ensures.setup.2) in
    let s = opening c.args.trace.now.setup in
    c.replay_with.ensures.out_of_heap s ready

pub returns-clause-write_fault : goal.returns-clause-write_fault
returns-clause-write_fault g c =
    let ready : HasRun (whole_course c.args.trace.now) 0 c.in-Ok.engine = HasRun-opened c.args.trace.now _ c.in-Ok.engine (ap (λ (x : TraceLists). x.setup) c.trace.view_is) c.requires.ops c.in-Ok.ensures.opening
    (c.in-Ok.ensures.setup.0, c.in-Ok.ensures.setup.1, c.in-Ok.ensures.setup.2) in
    let s = opening c.args.trace.now.setup in
    λ e. (c.replay_with.ensures.cause e, c.replay_with.ensures.write_fault s ready e)

pub returns-clause-no_memory : goal.returns-clause-no_memory
returns-clause-no_memory g c =
    let ready : HasRun (whole_course c.args.trace.now) 0 c.in-Ok.engine = HasRun-opened c.args.trace.now _ c.in-Ok.engine (ap (λ (x : TraceLists). x.setup) c.trace.view_is) c.requires.ops c.in-Ok.ensures.opening
    (c.in-Ok.ensures.setup.0, c.in-Ok.ensures.setup.1, c.in-Ok.ensures.setup.2) in
    let s = opening c.args.trace.now.setup in
    λ e. inr (c.replay_with.ensures.no_memory s ready e)

pub returns-clause-fed : goal.returns-clause-fed
returns-clause-fed g c =
    let is : c.in-Ok.engine ≡ new_engine c.args.trace.now.setup c.args.workers = c.in-Ok.ensures.new ∙ ap (λ (z : Setup). new_engine z c.args.workers) (ap (λ (x : TraceLists). x.setup) c.trace.view_is) in
    let h = c.replay_with.ensures.fed in
    (h.0, subst (λ (e : EngineView). FedRun c.args.trace.now.phases e h.0 (g.N.Notices.taken c.args.live.now) (g.N.Notices.taken c.replay_with.new.live) c.args.answers.now.items c.replay_with.new.answers.items) is h.1, h.2)

pub returns-in_default-clause-fed : goal.returns-in_default-clause-fed
returns-in_default-clause-fed g c =
    let e = new_engine c.args.trace.now.setup c.args.workers in
    (e, run-none _ _ _ _, subst (λ (h : Option EngineView). IfSome h (λ heap. heap ≡ e)) (sym c.without_heap.ensures.heap) tt)
