-- A run whose last phase ends at a cut writes at most four times as many bytes as its trace has, and the line of the need.
use Rattle.std.proofs.Common.{◌≡◌, ℕ, ◌+◌, ◌*◌, ◌^◌, ◌<◌, ◌≤◌, zero, suc, List, [], ◌∷◌, ◌++◌, length, take, drop, length-drop, get_or, arith, map, ap, refl, length-append, Option, Some, codes}
use Rattle.std.specs.List.{AllByRecursion, flat_map}
use Rattle.std.specs.Fmt.{decimal}
use Rattle.std.proofs.lemmas.Fmt.{length-decimal-le}
use Rattle.bc_model.specs.Lists.{PhaseLists, TraceLists}
use Rattle.bc_model.specs.Run.{opening, after_phase, after_phases, replies_to_lanes, replies_of_phases, cut_lanes, no_phase}
use Rattle.bc_model.specs.State.{State}
use Rattle.bc_model.specs.WellFormed.{IsOp, IsSetup, IsPhase, IsTrace}
use Rattle.bc_model.specs.declared.operations.Op.{Op}
use Rattle.bc_model.specs.declared.traces.Setup.{Setup}
use Rattle.bc_model.proofs.RunStates.{fits-cut, length-cut_lanes}
use Rattle.bc_trace.specs.Lines.{op, line_text, lane_lines, phase_lines, trace_text, Spells}
use Rattle.bc_trace.specs.Replies.{phase_text, phases_text, out_of_heap_text}
use Rattle.bc_trace.proofs.Fitting.{AreShort, short-phases}
use Rattle.bc_replay.specs.Courses.{after_cut, course_from, whole_course}
use Rattle.bc_replay.specs.Endings.{HasRunRoom, NeedsMore}
use Rattle.bc_replay.specs.Outcomes.{HasRoomFor, longest_trace}
use Rattle.bc_replay.specs.Output.{texts_from, cut_text}
use Rattle.bc_replay.proofs.CourseStates.{CanRun, can-open, short-cut, state-cut}
use Rattle.bc_replay.proofs.Incoming.{length-lane_lines, length-phase_lines, trace_frame, length-trace_text}
use Rattle.bc_replay.proofs.NeedRoom.{need_small}
use Rattle.bc_replay.proofs.Room.{drop-lines, lanes_room, length-whole_text, phase_told, phase_room}

-- the first operations of a lane take no more
take-lines : (n : ℕ) (ops : List Op) → length (flat_map line_text (map op (take n ops))) ≤ length (flat_map line_text (map op ops))
take-lines zero ops = omega arith
take-lines (suc n) [] = omega arith
take-lines (suc n) (o ∷ ops) =
    omega (
      arith,
      take-lines n ops,
      length-append (line_text (op o)) (flat_map line_text (map op (take n ops))),
      length-append (line_text (op o)) (flat_map line_text (map op ops)),
    )

-- the lanes up to a cut take no more
cut-lines : (j : ℕ) (cut : List ℕ) (lanes : List (List Op)) → length (flat_map line_text (lane_lines j (cut_lanes cut lanes))) ≤ length (flat_map line_text (lane_lines j lanes))
unfolding cut_lanes
cut-lines j cut [] = omega arith
cut-lines j [] (ops ∷ lanes) =
    omega (arith, cut-lines (suc j) [] lanes, length-lane_lines j [] (cut_lanes [] lanes), length-lane_lines j ops lanes)
cut-lines j (n ∷ cut) (ops ∷ lanes) =
    omega (arith, take-lines n ops, cut-lines (suc j) cut lanes, length-lane_lines j (take n ops) (cut_lanes cut lanes), length-lane_lines j ops lanes)

phase_cut_room : (setup : Setup) (k : ℕ) (s : State) (p : PhaseLists) (cut : List ℕ) → IsSetup setup → k < 2 ^ 32 → IsPhase setup p → AreShort (replies_to_lanes s 0 (cut_lanes cut p.lanes))
    → length (phase_text k (replies_to_lanes s 0 (cut_lanes cut p.lanes))) ≤ 4 * length (flat_map line_text (phase_lines p))
phase_cut_room setup k s p cut hs small ok short =
    let few = cut_lanes cut p.lanes in
    let lanes = lanes_room setup s 0 few hs (omega (arith, ok.lanes, hs.lanes.1, length-cut_lanes cut p.lanes)) (fits-cut (IsOp setup) cut p.lanes ok.ops) short in
    phase_told k p (replies_to_lanes s 0 few) small (omega (arith, lanes, cut-lines 0 cut p.lanes))

-- the texts of k phases, and then that of a phase up to a cut
cut_from : ℕ → State → List PhaseLists → ℕ → List ℕ → List ℕ
cut_from n s ps k cut =
    phases_text n (replies_of_phases s (take k ps)) ++ phase_text (n + k) (replies_to_lanes (after_phases s (take k ps)) 0 (cut_lanes cut (get_or ps k no_phase).lanes))

phases_cut_room : (setup : Setup) (n : ℕ) (s : State) (ps : List PhaseLists) (k : ℕ) (cut : List ℕ) → IsSetup setup → n + length ps ≤ 2 ^ 32 → k < length ps → AllByRecursion (IsPhase setup) ps → AllByRecursion AreShort (replies_of_phases s ps)
    → AreShort (replies_to_lanes (after_phases s (take k ps)) 0 (cut_lanes cut (get_or ps k no_phase).lanes))
    → length (cut_from n s ps k cut) ≤ 4 * length (flat_map line_text (flat_map phase_lines ps))
unfolding cut_from replies_of_phases after_phases phases_text
phases_cut_room setup n s [] k cut hs small lt ok short last = absurd (omega arith)
phases_cut_room setup n s (p ∷ ps) zero cut hs small lt ok short last =
    omega (arith, phase_cut_room setup (n + 0) s p cut hs (omega arith) ok.0 last, length-phase_lines p ps)
phases_cut_room setup n s (p ∷ ps) (suc k) cut hs small lt ok short last =
    let next = after_phase s p in
    let one = phase_room setup n s p hs (omega arith) ok.0 short.0 in
    let rest = phases_cut_room setup (suc n) next ps k cut hs (omega arith) (omega arith) ok.1 short.1 last in
    let told = replies_to_lanes (after_phases next (take k ps)) 0 (cut_lanes cut (get_or ps k no_phase).lanes) in
    let number : n + suc k ≡ suc n + k = omega arith in
    let first = phase_text n (replies_to_lanes s 0 p.lanes) in
    let others = phases_text (suc n) (replies_of_phases next (take k ps)) in
    omega (
      arith,
      one,
      rest,
      ap (λ (m : ℕ). length (phase_text m told)) number,
      length-append (first ++ others) (phase_text (n + suc k) told),
      length-append first others,
      length-append others (phase_text (suc n + k) told),
      length-phase_lines p ps,
    )

length-cut_text : (t : TraceLists) (s : State) (first k : ℕ) (cut : List ℕ) → IsTrace t → first ≤ length t.phases → length t.phases < 2 ^ 32 → k < length (drop first t.phases) → CanRun t.setup s (drop first t.phases)
    → length (cut_text (course_from t s first) k cut) ≤ 4 * length (trace_text t)
unfolding cut_from texts_from
length-cut_text t s first k cut h within few lt can =
    let left = drop first t.phases in
    let phases = phases_cut_room t.setup (first + 1) s left k cut h.setup (omega (arith, length-drop first t.phases)) lt can.fits (short-phases t.setup s left can.state can.fits can.births)
    (short-cut t.setup s left k cut can lt) in
    let told = replies_to_lanes (after_phases s (take k left)) 0 (cut_lanes cut (get_or left k no_phase).lanes) in
    let number : k + first + 1 ≡ first + 1 + k = omega arith in
    let before = phases_text (first + 1) (replies_of_phases s (take k left)) in
    let same : cut_text (course_from t s first) k cut ≡ before ++ phase_text (k + first + 1) told = refl in
    omega (
      arith,
      ap length same,
      phases,
      ap (λ (m : ℕ). length (phase_text m told)) number,
      length-append before (phase_text (k + first + 1) told),
      length-append before (phase_text (first + 1 + k) told),
      drop-lines first t.phases,
      trace_frame t,
    )

cut_need : (t : TraceLists) (s : State) (first k : ℕ) (cut : List ℕ) (need : ℕ) → CanRun t.setup s (drop first t.phases) → NeedsMore (course_from t s first) k cut need → need < 2 ^ 64
cut_need t s first k cut need can needs =
    let at = state-cut t.setup s (drop first t.phases) k cut can needs.within in
    need_small (after_cut (course_from t s first) k cut) need at.state at.births needs.counted

-- twelve letters, at most twenty digits, and a line feed
length-out_of_heap_text : (need : ℕ) → need < 2 ^ 64 → length (out_of_heap_text need) ≤ 33
unfolding out_of_heap_text
length-out_of_heap_text need h =
    let digits = length-decimal-le 20 need (omega arith) (omega arith) (omega arith) in
    omega (
      arith,
      digits,
      length-append (codes "out of heap " ++ decimal need) (10 ∷ []),
      length-append (codes "out of heap ") (decimal need),
    )

-- with the line of the need
length-need_text : (t : TraceLists) (s : State) (first k : ℕ) (cut : List ℕ) (need : ℕ) → IsTrace t → first ≤ length t.phases → length t.phases < 2 ^ 32 → CanRun t.setup s (drop first t.phases)
    → NeedsMore (course_from t s first) k cut need → length (cut_text (course_from t s first) k cut ++ out_of_heap_text need) ≤ 4 * length (trace_text t) + 40
length-need_text t s first k cut need h within few can needs =
    omega (
      arith,
      length-cut_text t s first k cut h within few needs.within can,
      length-out_of_heap_text need (cut_need t s first k cut need can needs),
      length-append (cut_text (course_from t s first) k cut) (out_of_heap_text need),
    )

-- of a whole run, by the bytes that were read
pub cut_short : (bytes : List ℕ) (t : TraceLists) (k : ℕ) (cut : List ℕ) (need : ℕ) → length bytes ≤ longest_trace → Spells bytes t → NeedsMore (whole_course t) k cut need
    → length (cut_text (whole_course t) k cut ++ out_of_heap_text need) ≤ 4 * length bytes + 40
cut_short bytes t k cut need short h needs =
    let size : length bytes ≡ length (trace_text t) = ap length h.text in
    let count = length-trace_text t h.trace in
    omega (arith, size, length-need_text t (opening t.setup) 0 k cut need h.trace (omega arith) (omega arith) (can-open t h.trace (omega arith)) needs)

-- a sink with four times the room of a trace's text, and forty bytes more, has room for each course of the trace
pub course_room : (t : TraceLists) (s : State) (first room : ℕ) → IsTrace t → first ≤ length t.phases → length t.phases < 2 ^ 32 → CanRun t.setup s (drop first t.phases) → 4 * length (trace_text t) + 40 ≤ room
    → HasRunRoom (Some room) (course_from t s first)
course_room t s first room h within few can wide = record {
  whole = omega (arith, length-whole_text t s first h within few can);
  cut_short = λ k cut need needs. omega (arith, length-need_text t s first k cut need h within few can needs);
}

fits_room : (bytes : List ℕ) (t : TraceLists) (room : ℕ) → length bytes ≤ longest_trace → Spells bytes t → 4 * length bytes + 40 ≤ room → HasRunRoom (Some room) (whole_course t)
fits_room bytes t room short h wide =
    let size : length bytes ≡ length (trace_text t) = ap length h.text in
    let count = length-trace_text t h.trace in
    course_room t (opening t.setup) 0 room h.trace (omega arith) (omega arith) (can-open t h.trace (omega arith)) (omega (arith, size))

pub room_enough : (bytes : List ℕ) (room : ℕ) → 4 * length bytes + 40 ≤ room → HasRoomFor (Some bytes) (Some room)
room_enough bytes room wide = λ read t same short h. fits_room read t room short h (omega (arith, ap length same))

pub room_ample : (left : Option (List ℕ)) (room : ℕ) → 4 * longest_trace + 40 ≤ room → HasRoomFor left (Some room)
room_ample left room wide = λ read t given short h. fits_room read t room short h (omega (arith, short))
