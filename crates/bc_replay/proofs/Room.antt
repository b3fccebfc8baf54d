-- A run writes at most four times as many bytes as its trace has.
use Rattle.std.proofs.Common.{◌≡◌, ℕ, ◌+◌, ◌*◌, ◌^◌, ◌<◌, ◌≤◌, List, [], ◌∷◌, ◌++◌, length, drop, length-drop, arith, zero, suc, sym, ap, subst, length-append, codes}
use Rattle.std.specs.List.{AllByRecursion, flat_map}
use Rattle.std.specs.Fmt.{decimal}
use Rattle.std.proofs.lemmas.Fmt.{length-decimal-le}
use Rattle.bc_model.specs.Lists.{PhaseLists, TraceLists}
use Rattle.bc_model.specs.Run.{opening, after_ops, after_phase, replies_to, replies_to_lanes, replies_of_phases}
use Rattle.bc_model.specs.State.{State}
use Rattle.bc_model.specs.WellFormed.{IsOp, IsSetup, IsPhase, IsTrace}
use Rattle.bc_model.specs.declared.operations.Op.{Op}
use Rattle.bc_model.specs.declared.operations.Reply.{Reply}
use Rattle.bc_model.specs.declared.traces.Setup.{Setup}
use Rattle.bc_trace.specs.Lines.{line_text, lane_lines, phase_lines, trace_text, Spells}
use Rattle.bc_trace.specs.Replies.{reply_text, lane_text, lanes_text, phase_text, phases_text, done_text}
use Rattle.bc_trace.proofs.Fitting.{AreShort, short-phases}
use Rattle.bc_replay.specs.Courses.{course_from, whole_course}
use Rattle.bc_replay.specs.Outcomes.{longest_trace}
use Rattle.bc_replay.specs.Output.{texts_from, whole_text}
use Rattle.bc_replay.proofs.CourseStates.{CanRun, can-open}
use Rattle.bc_replay.proofs.Incoming.{length-ops_text, length-lane_text, length-lane_lines, phase_frame, length-phase_lines, trace_frame, length-trace_text}
use Rattle.bc_replay.proofs.Replies.{length-replies_text}

pub lanes_room : (setup : Setup) (s : State) (j : ℕ) (lanes : List (List Op)) → IsSetup setup → j + length lanes ≤ 16 → AllByRecursion (AllByRecursion (IsOp setup)) lanes → AreShort (replies_to_lanes s j lanes)
    → length (lanes_text j (replies_to_lanes s j lanes)) ≤ 4 * length (flat_map line_text (lane_lines j lanes))
unfolding replies_to_lanes lane_text
lanes_room setup s j [] hs few ok short = omega arith
lanes_room setup s j (ops ∷ lanes) hs few ok short =
    let digits = length-decimal-le 10 j (omega arith) (omega arith) (omega arith) in
    let out = length-replies_text s j ops short.0 in
    let into = length-ops_text setup hs ops ok.0 in
    let line = length-lane_text j (omega arith) in
    let next = after_ops s j ops in
    let told = flat_map reply_text (replies_to s j ops) in
    let head = codes "lane " ++ decimal j ++ 10 ∷ [] in
    let e : replies_to_lanes next (j + 1) lanes ≡ replies_to_lanes next (suc j) lanes = ap (λ n. replies_to_lanes next n lanes) (omega arith) in
    let rest = lanes_room setup next (suc j) lanes hs (omega arith) ok.1 (subst AreShort e short.1) in
    let whole : length (lanes_text (suc j) (replies_to_lanes next (j + 1) lanes)) ≤ 4 * length (flat_map line_text (lane_lines (suc j) lanes)) =
    subst (λ rs. length (lanes_text (suc j) rs) ≤ 4 * length (flat_map line_text (lane_lines (suc j) lanes))) (sym e) rest in
    omega (
      arith,
      whole,
      out,
      into,
      line,
      digits,
      length-append (head ++ told) (lanes_text (suc j) (replies_to_lanes next (j + 1) lanes)),
      length-append head told,
      length-append (codes "lane " ++ decimal j) (10 ∷ []),
      length-append (codes "lane ") (decimal j),
      length-lane_lines j ops lanes,
    )

-- a phase's text is short where its lanes' are
pub phase_told : (k : ℕ) (p : PhaseLists) (told : List (List Reply)) → k < 2 ^ 32 → length (lanes_text 0 told) ≤ 4 * length (flat_map line_text (lane_lines 0 p.lanes))
    → length (phase_text k told) ≤ 4 * length (flat_map line_text (phase_lines p))
unfolding phase_text
phase_told k p told small lanes =
    omega (
      arith,
      length-decimal-le 10 k (omega arith) (omega arith) (omega arith),
      lanes,
      phase_frame p,
      length-append ((codes "phase " ++ decimal k) ++ 10 ∷ []) (lanes_text 0 told),
      length-append (codes "phase " ++ decimal k) (10 ∷ []),
      length-append (codes "phase ") (decimal k),
    )

pub phase_room : (setup : Setup) (k : ℕ) (s : State) (p : PhaseLists) → IsSetup setup → k < 2 ^ 32 → IsPhase setup p → AreShort (replies_to_lanes s 0 p.lanes)
    → length (phase_text k (replies_to_lanes s 0 p.lanes)) ≤ 4 * length (flat_map line_text (phase_lines p))
phase_room setup k s p hs small ok short =
    phase_told k p (replies_to_lanes s 0 p.lanes) small (lanes_room setup s 0 p.lanes hs (omega (arith, ok.lanes, hs.lanes.1)) ok.ops short)

phases_room : (setup : Setup) (k : ℕ) (s : State) (ps : List PhaseLists) → IsSetup setup → k + length ps ≤ 2 ^ 32 → AllByRecursion (IsPhase setup) ps → AllByRecursion AreShort (replies_of_phases s ps)
    → length (phases_text k (replies_of_phases s ps)) ≤ 4 * length (flat_map line_text (flat_map phase_lines ps))
unfolding replies_of_phases phases_text
phases_room setup k s [] hs small ok short = omega arith
phases_room setup k s (p ∷ ps) hs small ok short =
    let one = phase_room setup k s p hs (omega arith) ok.0 short.0 in
    let rest = phases_room setup (suc k) (after_phase s p) ps hs (omega arith) ok.1 short.1 in
    omega (
      arith,
      one,
      rest,
      length-append (phase_text k (replies_to_lanes s 0 p.lanes)) (phases_text (suc k) (replies_of_phases (after_phase s p) ps)),
      length-phase_lines p ps,
    )

-- the phases after the first ones take no more lines than all
pub drop-lines : (k : ℕ) (ps : List PhaseLists) → length (flat_map line_text (flat_map phase_lines (drop k ps))) ≤ length (flat_map line_text (flat_map phase_lines ps))
drop-lines zero ps = omega arith
drop-lines (suc k) [] = omega arith
drop-lines (suc k) (p ∷ ps) = omega (arith, drop-lines k ps, length-phase_lines p ps)

-- the whole output of a course is at most four times as long as the text of its trace
pub length-whole_text : (t : TraceLists) (s : State) (first : ℕ) → IsTrace t → first ≤ length t.phases → length t.phases < 2 ^ 32 → CanRun t.setup s (drop first t.phases)
    → length (whole_text (course_from t s first)) ≤ 4 * length (trace_text t)
unfolding texts_from done_text
length-whole_text t s first h within few can =
    let left = drop first t.phases in
    let phases = phases_room t.setup (first + 1) s left h.setup (omega (arith, length-drop first t.phases)) can.fits (short-phases t.setup s left can.state can.fits can.births) in
    omega (
      arith,
      phases,
      drop-lines first t.phases,
      length-append (phases_text (first + 1) (replies_of_phases s left)) done_text,
      trace_frame t,
    )

-- of a whole run, by the bytes that were read
pub output_short : (bytes : List ℕ) (t : TraceLists) → length bytes ≤ longest_trace → Spells bytes t → length (whole_text (whole_course t)) ≤ 4 * length bytes
output_short bytes t short h =
    let size : length bytes ≡ length (trace_text t) = ap length h.text in
    let count = length-trace_text t h.trace in
    omega (arith, size, length-whole_text t (opening t.setup) 0 h.trace (omega arith) (omega arith) (can-open t h.trace (omega arith)))
