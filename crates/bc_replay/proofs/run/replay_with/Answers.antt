use Rattle.std.proofs.Common.{◌≡◌, rules, Err, Option, refl, ap, sym, subst, inl, inr}
use Rattle.std.specs.Prelude.{IfSome}
use Rattle.bc_engine.specs.Engines.{EngineView}
use Rattle.bc_io.proofs.Telling.{IsPrefix-refl}
use Rattle.bc_trace.specs.Replies.{done_text}
use Rattle.bc_replay.specs.Courses.{course_from}
use Rattle.bc_replay.specs.Endings.{EndsDone, EndsInFault}
use Rattle.bc_replay.specs.Output.{all_texts}
use Rattle.bc_replay.proofs.Alive.{need-alive, going-alive, fault-alive}
use Rattle.bc_replay.proofs.Finishing.{ends-done, fails-at_done}
use Rattle.bc_replay.proofs.Pieces.{Rose-since, room-for-next, front-taken}
use Rattle.bc_replay.proofs.run.replay_with.Goals as goal

pub write_all-requires : goal.write_all-requires
unfolding done_text
write_all-requires g c =
    let s = c.requires.opened.0 in
    room-for-next _ _ (all_texts (course_from c.args.trace.now s c.args.first)) done_text _ c.requires.opened.2.whole (c.in-Ok.ensures.filled s c.requires.opened.1) (IsPrefix-refl _)

pub returns-in-Ok-write_all-clause-done : goal.returns-in-Ok-write_all-clause-done
unfolding done_text
returns-in-Ok-write_all-clause-done g c = λ s run _.
    subst (EndsDone (course_from c.args.trace.now s c.args.first) _ _) (sym c.with_heap.ensures.heap)
    (ends-done (course_from c.args.trace.now s c.args.first) c.write_phases.new.engine _ _ _ (c.in-Ok.ensures.run s run) (c.in-Ok.ensures.written s run) c.in-Ok-write_all.ensures.all)

pub returns-in-Err-clause-cause : goal.returns-in-Err-clause-cause
returns-in-Err-clause-cause g c = λ _. Rose-since _ _ _ (c.in-Ok.ensures.firm (λ e. cc)) c.in-Err.ensures.cause

pub returns-in-Err-clause-write_fault : goal.returns-in-Err-clause-write_fault
unfolding done_text
returns-in-Err-clause-write_fault g c = λ s run _.
    subst (EndsInFault (course_from c.args.trace.now s c.args.first) _ _) (sym c.with_heap-in-Err.ensures.heap)
    (inr (inl (fails-at_done (course_from c.args.trace.now s c.args.first) c.write_phases.new.engine _ _ _ (c.in-Ok.ensures.run s run) (c.in-Ok.ensures.written s run)
    (front-taken _ _ _ _ done_text c.in-Err.ensures.front))))

pub returns-in-Err-WriteFault-clause-write_fault : goal.returns-in-Err-WriteFault-clause-write_fault
returns-in-Err-WriteFault-clause-write_fault g c = λ s run _.
    subst (EndsInFault (course_from c.args.trace.now s c.args.first) _ _) (sym c.with_heap-in-Err-WriteFault.ensures.heap) (c.in-Err-WriteFault.ensures.write_fault s run (ap Err c.in-Err-WriteFault.field-0-is))

pub with_heap-requires-in-Err-OutOfHeap : goal.with_heap-requires-in-Err-OutOfHeap
with_heap-requires-in-Err-OutOfHeap g c =
    let s = c.requires.opened.0 in
    record {
      alive = need-alive (course_from c.args.trace.now s c.args.first) _ _ _ c.in-Err-OutOfHeap.need (c.in-Err-OutOfHeap.ensures.out_of_heap s c.requires.opened.1 c.in-Err-OutOfHeap.need (search rules));
    }

pub with_heap-requires : goal.with_heap-requires
with_heap-requires g c =
    let s = c.requires.opened.0 in
    let run = c.requires.opened.1 in
    record { alive = going-alive c.write_phases.new.engine (c.in-Ok.ensures.run s run).going }

pub with_heap-requires-in-Err : goal.with_heap-requires-in-Err
with_heap-requires-in-Err g c =
    let s = c.requires.opened.0 in
    let run = c.requires.opened.1 in
    record { alive = going-alive c.write_phases.new.engine (c.in-Ok.ensures.run s run).going }

pub with_heap-requires-in-Err-WriteFault : goal.with_heap-requires-in-Err-WriteFault
with_heap-requires-in-Err-WriteFault g c =
    let s = c.requires.opened.0 in
    let run = c.requires.opened.1 in
    record { alive = fault-alive (course_from c.args.trace.now s c.args.first) _ _ _ (c.in-Err-WriteFault.ensures.write_fault s run (ap Err c.in-Err-WriteFault.field-0-is)) }

pub returns-in-Err-OutOfHeap-clause-out_of_heap : goal.returns-in-Err-OutOfHeap-clause-out_of_heap
returns-in-Err-OutOfHeap-clause-out_of_heap g c =
    let told = c.with_heap-in-Err-OutOfHeap.ensures in
    let need = c.in-Err-OutOfHeap.need in
    rw (told.status, told.heap) (λ s run. c.in-Err-OutOfHeap.ensures.out_of_heap s run need (search rules))

pub returns-in-Err-NoMemory-clause-no_memory : goal.returns-in-Err-NoMemory-clause-no_memory
returns-in-Err-NoMemory-clause-no_memory g c = λ s run _. (c.in-Err-NoMemory.ensures.no_memory s run (search rules)).stops

-- the answers are those of the phases that were run, and a heap that is handed back is the one that they left
pub returns-in-Ok-write_all-clause-fed : goal.returns-in-Ok-write_all-clause-fed
returns-in-Ok-write_all-clause-fed g c = (c.write_phases.new.engine, c.in-Ok.ensures.fed, subst (λ (h : Option EngineView). IfSome h (λ heap. heap ≡ c.write_phases.new.engine)) (sym c.with_heap.ensures.heap) refl)

pub returns-in-Err-clause-fed : goal.returns-in-Err-clause-fed
returns-in-Err-clause-fed g c = (c.write_phases.new.engine, c.in-Ok.ensures.fed, subst (λ (h : Option EngineView). IfSome h (λ heap. heap ≡ c.write_phases.new.engine)) (sym c.with_heap-in-Err.ensures.heap) refl)

pub returns-in-Err-WriteFault-clause-fed : goal.returns-in-Err-WriteFault-clause-fed
returns-in-Err-WriteFault-clause-fed g c = (c.write_phases.new.engine, c.in-Err-WriteFault.ensures.fed, subst (λ (h : Option EngineView). IfSome h (λ heap. heap ≡ c.write_phases.new.engine)) (sym c.with_heap-in-Err-WriteFault.ensures.heap) refl)

pub returns-in-Err-OutOfHeap-clause-fed : goal.returns-in-Err-OutOfHeap-clause-fed
returns-in-Err-OutOfHeap-clause-fed g c = (c.write_phases.new.engine, c.in-Err-OutOfHeap.ensures.fed, subst (λ (h : Option EngineView). IfSome h (λ heap. heap ≡ c.write_phases.new.engine)) (sym c.with_heap-in-Err-OutOfHeap.ensures.heap) refl)

pub returns-in-Err-NoMemory-clause-fed : goal.returns-in-Err-NoMemory-clause-fed
returns-in-Err-NoMemory-clause-fed g c = (c.write_phases.new.engine, c.in-Err-NoMemory.ensures.fed, subst (λ (h : Option EngineView). IfSome h (λ heap. heap ≡ c.write_phases.new.engine)) (sym c.without_heap.ensures.heap) tt)
