use Rattle.std.proofs.Common.{◌≡◌, ◌+◌, [], Some, refl, ap, inl, inr, subst, sym}
use Rattle.std.specs.Prelude.{IsErr}
use Rattle.std.proofs.lemmas.Result.{err_from_is_err_and}
use Rattle.bc_pager.proofs.ServeLemmas.{told-none}
use Rattle.bc_model.specs.Lists.{TraceLists}
use Rattle.bc_model.specs.Run.{phase_at as phase_of}
use Rattle.bc_replay.proofs.PhaseEnds.{HasTexts, ran-on, texts-room, texts-fault, texts-written, texts-filled, need-written}
use Rattle.bc_replay.proofs.Running.{err-same, phase-read, phase-of}
use Rattle.bc_replay.proofs.TextsFit.{phase-few, texts-fit}
use Rattle.bc_replay.proofs.phases.write_phase.Goals as goal

pub texts_room-requires-clause-ops : goal.texts_room-requires-clause-ops
texts_room-requires-clause-ops g c =
    let at : phase_of c.args.trace.now (c.args.index + c.args.first) ≡ c.index.result.now = phase-read c.args.trace.now _ _ _ (ap (λ (x : TraceLists). x.phases) c.trace.view_is) c.requires.index c.index.ensures in
    (phase-few _ _ _ _ _ _ c.requires.trace c.requires.index at c.requires.opened.1).1

pub run_phase_with-requires-clause-opened : goal.run_phase_with-requires-clause-opened
run_phase_with-requires-clause-opened g c κs within = (c.requires.opened.0, c.requires.opened.1)

pub put_texts-requires-clause-replies : goal.put_texts-requires-clause-replies
put_texts-requires-clause-replies g c =
    let at : phase_of c.args.trace.now (c.args.index + c.args.first) ≡ c.index.result.now = phase-read c.args.trace.now _ _ _ (ap (λ (x : TraceLists). x.phases) c.trace.view_is) c.requires.index c.index.ensures in
    let end = c.in_ok-end in
    texts-fit _ _ _ _ _ _ _ _ (phase-of c.args.trace.now c.requires.opened.0 c.args.first c.args.index _ at) (end.ensures.ran c.requires.opened.0 c.requires.opened.1) c.in_ok-texts.ensures.replies

pub write_texts-requires : goal.write_texts-requires
write_texts-requires g c =
    let end = c.in_ok-end in
    let texts : HasTexts (c.args.index + c.args.first) end.end.replies end.end.need c.put_texts.new.texts.replies.items c.put_texts.new.texts.need.items = record { told = c.put_texts.ensures.replies; line = c.put_texts.ensures.need } in
    texts-room _ _ _ _ _ _ _ _ _ (end.ensures.ran c.requires.opened.0 c.requires.opened.1) texts c.requires.opened.2

pub returns-in_err-write_texts-clause-write_fault : goal.returns-in_err-write_texts-clause-write_fault
returns-in_err-write_texts-clause-write_fault g c =
    let end = c.in_ok-end in
    let texts : HasTexts (c.args.index + c.args.first) end.end.replies end.end.need c.put_texts.new.texts.replies.items c.put_texts.new.texts.need.items = record { told = c.put_texts.ensures.replies; line = c.put_texts.ensures.need } in
    λ s run _ start held. texts-fault _ _ _ _ _ _ _ _ _ _ _ (end.ensures.ran s run) texts c.in_err-write_texts.ensures.front held

pub returns-in-Some-clause-out_of_heap : goal.returns-in-Some-clause-out_of_heap
returns-in-Some-clause-out_of_heap g c =
    let end = c.in_ok-end in
    let texts : HasTexts (c.args.index + c.args.first) end.end.replies end.end.need c.put_texts.new.texts.replies.items c.put_texts.new.texts.need.items = record { told = c.put_texts.ensures.replies; line = c.put_texts.ensures.need } in
    λ s run need e start held.
    let told = err-same _ _ _ refl e in
    let some : end.end.need ≡ Some need = cc (c.in-Some.is, told) in
    need-written _ _ _ _ _ _ _ _ _ _ _ _ some (end.ensures.ran s run) texts c.in_ok-write_texts.ensures.all held

pub returns-in-None-clause-run : goal.returns-in-None-clause-run
returns-in-None-clause-run g c =
    let end = c.in_ok-end in
    λ s run. ran-on _ _ _ _ _ _ c.in-None.is (end.ensures.ran s run)

pub returns-in-None-clause-written : goal.returns-in-None-clause-written
returns-in-None-clause-written g c =
    let end = c.in_ok-end in
    let texts : HasTexts (c.args.index + c.args.first) end.end.replies end.end.need c.put_texts.new.texts.replies.items c.put_texts.new.texts.need.items = record { told = c.put_texts.ensures.replies; line = c.put_texts.ensures.need } in
    λ s run start held. texts-written _ _ _ _ _ _ _ _ _ _ _ c.in-None.is (end.ensures.ran s run) texts c.in_ok-write_texts.ensures.all held

pub returns-in-None-clause-filled : goal.returns-in-None-clause-filled
returns-in-None-clause-filled g c =
    let end = c.in_ok-end in
    let texts : HasTexts (c.args.index + c.args.first) end.end.replies end.end.need c.put_texts.new.texts.replies.items c.put_texts.new.texts.need.items = record { told = c.put_texts.ensures.replies; line = c.put_texts.ensures.need } in
    λ s run start room. texts-filled _ _ _ _ _ _ _ _ _ _ _ c.in-None.is (end.ensures.ran s run) texts c.in_ok-write_texts.ensures.filled room

pub returns-in_err-texts-clause-fed : goal.returns-in_err-texts-clause-fed
returns-in_err-texts-clause-fed g c =
    let p = err_from_is_err_and c.from_residual.result c.from_residual.ensures.1 in
    ([], told-none _, inr (subst (λ r. IsErr r) (sym p.1) refl, refl, refl, refl))

pub returns-in_err-end-clause-fed : goal.returns-in_err-end-clause-fed
returns-in_err-end-clause-fed g c = let h = c.in_err-end.ensures.fed in (h.0, h.1, inl (h.2, h.3))

pub returns-in_err-write_texts-clause-fed : goal.returns-in_err-write_texts-clause-fed
returns-in_err-write_texts-clause-fed g c = let h = c.in_ok-end.ensures.fed in (h.0, h.1, inl (h.2, h.3))

pub returns-in-Some-clause-fed : goal.returns-in-Some-clause-fed
returns-in-Some-clause-fed g c = let h = c.in_ok-end.ensures.fed in (h.0, h.1, inl (h.2, h.3))

pub returns-in-None-clause-fed : goal.returns-in-None-clause-fed
returns-in-None-clause-fed g c = let h = c.in_ok-end.ensures.fed in (h.0, h.1, inl (h.2, h.3))
