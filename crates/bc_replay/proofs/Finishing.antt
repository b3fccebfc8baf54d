-- The first and the last step of a replay, and what its ending says of a run.
use Rattle.std.proofs.Common.{◌≡◌, ◌≢◌, ℕ, ◌+◌, ◌^◌, ◌<◌, ◌≤◌, List, ◌++◌, length, Option, Some, None, refl, sym, ap, ◌∙◌, append_assoc, arith, subst, inl, inr, take_all}
use Rattle.bc_engine.specs.Engines.{EngineView, EngineStands, HasEmptyChunks}
use Rattle.bc_engine.proofs.Births.{births-opened}
use Rattle.bc_io.specs.Told.{HeldGrows, IsPrefix}
use Rattle.bc_io.specs.Pieces.{RoomFalls}
use Rattle.bc_io.proofs.Telling.{HeldGrows-more, IsPrefix-refl, IsPrefix-trans, IsPrefix-append}
use Rattle.bc_model.specs.Lists.{TraceLists}
use Rattle.bc_model.specs.Run.{opening, after_phases}
use Rattle.bc_model.specs.RunLengths.{all_ops_of}
use Rattle.bc_model.specs.WellFormed.{IsSetup, IsTrace}
use Rattle.bc_model.specs.declared.traces.Setup.{Setup}
use Rattle.bc_trace.specs.Replies.{done_text, out_of_heap_text}
use Rattle.bc_replay.specs.Endings.{WritesFront, FitsThroughout, HasRunRoom, EndsDone, EndsOutOfHeap, FailsAtDone}
use Rattle.bc_replay.specs.BetweenPhases.{HasRun, HasPhaseRoom}
use Rattle.bc_replay.specs.Courses.{Course, whole_course, before, final_state}
use Rattle.bc_replay.specs.Outcomes.{IfStatusOutOfHeap, IsOrNoMemory}
use Rattle.bc_replay.specs.PartEndings.{IsEnding}
use Rattle.bc_replay.specs.Output.{texts_from, texts_before, all_texts, whole_text, text_at, need_text, cut_text}
use Rattle.bc_replay.specs.declared.status.Status.{Status}
use Rattle.bc_replay.specs.declared.status.Status.TheVariants.{Done, BadWords, BadTrace, TooLong, ReadFault, WriteFault, OutOfHeap, NoMemory, BadImage, Mismatch}
use Rattle.bc_replay.proofs.Pieces.{state-none, texts_before-front, room-for-next, front-behind}
use Rattle.bc_replay.proofs.Running.{texts_before-next}

-- ---- the engine that was opened

pub HasRun-opened : (t : TraceLists) (setup : Setup) (e : EngineView) → setup ≡ t.setup → all_ops_of t < 2 ^ 32 → EngineStands e (opening setup) → (e.setup ≡ setup) × (e.ended ≡ None) × HasEmptyChunks e.running.heap → HasRun (whole_course t) 0 e
HasRun-opened t setup e is small stands h = record {
  setup = h.0 ∙ is;
  going = h.1;
  empty = h.2;
  stands = subst (EngineStands e) (ap opening is ∙ state-none (opening t.setup)) stands;
  births = births-opened setup e _ small stands;
  fits = λ k lt. absurd (omega arith);
}

pub setup-fits : (t : TraceLists) (setup : Setup) → setup ≡ t.setup → IsTrace t → IsSetup setup
setup-fits t setup is h = subst IsSetup (sym is) h.setup

-- ---- all phases are done

pub texts_before-all : (t : Course) (k : ℕ) → length t.phases ≤ k → texts_before t k ≡ all_texts t
texts_before-all t k past = ap (texts_from (t.first + 1) t.start) (take_all k t.phases past)

pub final-before : (t : Course) → before t (length t.phases) ≡ final_state t
final-before t = ap (after_phases t.start) (take_all (length t.phases) t.phases (omega arith))

pub ends-done : (t : Course) (e : EngineView) (a b c : Option (List ℕ)) → HasRun t (length t.phases) e → HeldGrows a b (all_texts t) → HeldGrows b c done_text → EndsDone t a c (Some e)
ends-done t e a b c h texts last = record {
  written = HeldGrows-more a b c (all_texts t) done_text texts last;
  handed = record { setup = h.setup; ended = h.going; stands = subst (EngineStands e) (final-before t) h.stands };
  empty = h.empty;
  fits = h.fits;
}

pub fails-at_done : (t : Course) (e : EngineView) (a b c : Option (List ℕ)) → HasRun t (length t.phases) e → HeldGrows a b (all_texts t) → WritesFront b c done_text → FailsAtDone t a c (Some e)
fails-at_done t e a b c h texts front = record {
  written = front-behind a b c (all_texts t) done_text texts front;
  handed = record { setup = h.setup; ended = h.going; stands = subst (EngineStands e) (final-before t) h.stands };
}

-- ---- room

-- the line of the need stands after all
cut-whole : (xs ys zs : List ℕ) → IsPrefix (xs ++ (ys ++ zs)) (xs ++ ys ++ zs)
cut-whole xs ys zs = subst (λ all. IsPrefix (xs ++ (ys ++ zs)) all) (sym (append_assoc xs ys zs)) (IsPrefix-refl (xs ++ (ys ++ zs)))

pub phase-room : (t : Course) (k : ℕ) (a b : Option ℕ) → k < length t.phases → HasRunRoom a t → RoomFalls a b (length (texts_before t k)) → HasPhaseRoom b t k
phase-room t k a b lt h fell =
    let front : IsPrefix (texts_before t k ++ text_at t k) (all_texts t) = subst (λ xs. IsPrefix xs (all_texts t)) (texts_before-next t k lt) (texts_before-front (t.first + 1) t.start t.phases (k + 1)) in
    record {
      whole = room-for-next a b (texts_before t k) (text_at t k) (whole_text t) h.whole fell (IsPrefix-trans _ _ _ front (IsPrefix-append (all_texts t) done_text));
      cut_short = λ cut need needs.
          room-for-next a b (texts_before t k) (need_text t k cut need) (cut_text t k cut ++ out_of_heap_text need) (h.cut_short k cut need needs) fell
          (cut-whole (texts_before t k) _ (out_of_heap_text need));
    }

-- ---- what an ending says of a status

-- where all states fit and no write fails the replay is done
pub complete-ending : (s : Status) (t : TraceLists) (held held' : Option (List ℕ)) (heap : Option EngineView) → IsEnding s → IfStatusOutOfHeap s (EndsOutOfHeap (whole_course t) held held' heap) → FitsThroughout t → s ≢ WriteFault → IsOrNoMemory s Done
complete-ending Done t held held' heap h need fits firm = inl refl
complete-ending BadWords t held held' heap h need fits firm = absurd h
complete-ending (BadTrace line cause) t held held' heap h need fits firm = absurd h
complete-ending TooLong t held held' heap h need fits firm = absurd h
complete-ending ReadFault t held held' heap h need fits firm = absurd h
complete-ending WriteFault t held held' heap h need fits firm = absurd (firm refl)
complete-ending (OutOfHeap n) t held held' heap h need fits firm =
    absurd (let most = fits need.phase n need.cut need.needs.within need.needs.counted in omega (arith, most, need.needs.above))
complete-ending NoMemory t held held' heap h need fits firm = inr refl
complete-ending (BadImage at cause) t held held' heap h need fits firm = absurd h
complete-ending Mismatch t held held' heap h need fits firm = absurd h
