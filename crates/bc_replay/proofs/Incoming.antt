-- How long the text of a trace is, by how many operations it has.
use Rattle.std.proofs.Common.{◌≡◌, ℕ, ◌+◌, ◌*◌, ◌^◌, ◌<◌, ◌≤◌, List, [], ◌∷◌, ◌++◌, length, arith, map, suc, ap, length-append}
use Rattle.std.specs.Prelude.{sum_by}
use Rattle.std.proofs.lemmas.List.Concat.{flat_map-append}
use Rattle.std.proofs.lemmas.List.Sums.{sum_by-cons}
use Rattle.bc_model.specs.Lists.{PhaseLists, TraceLists}
use Rattle.bc_model.specs.RunLengths.{ops_of, all_ops_of}
use Rattle.std.specs.List.{AllByRecursion, flat_map}
use Rattle.std.specs.Fmt.{decimal}
use Rattle.std.proofs.lemmas.Fmt.{decimal_nonempty}
use Rattle.bc_model.specs.WellFormed.{IsOp, IsSetup, IsPhase, IsTrace}
use Rattle.bc_model.specs.declared.operations.Op.{Op}
use Rattle.bc_model.specs.declared.operations.Op.TheVariants as ops
use Rattle.bc_model.specs.declared.traces.Setup.{Setup}
use Rattle.bc_trace.specs.Lines.{lane, op, phase, end, done, version, spelling, line_text, change_line, lane_lines, phase_lines, setup_lines, trace_text, turn_lines}
use Rattle.bc_trace.specs.Words.{name, verb_name}
use Rattle.bc_trace.specs.declared.line.Shift.TheVariants as shifts
use Rattle.bc_trace.specs.declared.words.Verb.{Verb}
use Rattle.bc_trace.specs.declared.words.Verb.TheVariants as verbs
use Rattle.bc_trace.specs.declared.words.Keyword.TheVariants as words

-- a verb has three letters at least
verb_length : (v : Verb) → 3 ≤ length (verb_name v)
unfolding verb_name
verb_length verbs.New = omega arith
verb_length verbs.Who = omega arith
verb_length verbs.Len = omega arith
verb_length verbs.Set = omega arith
verb_length verbs.Cut = omega arith
verb_length verbs.Link = omega arith
verb_length verbs.Load = omega arith
verb_length verbs.Copy = omega arith
verb_length verbs.Clear = omega arith
verb_length verbs.Same = omega arith

-- two numbers and their spaces
two_numbers : (m n : ℕ) (ns : List ℕ) → m < 2 ^ 64 → n < 2 ^ 64 → 4 ≤ length (flat_map (λ k. 32 ∷ decimal k) (m ∷ n ∷ ns))
two_numbers m n ns h k =
    omega (
      arith,
      decimal_nonempty m h,
      decimal_nonempty n k,
      length-append (32 ∷ decimal m) ((32 ∷ decimal n) ++ flat_map (λ k. 32 ∷ decimal k) ns),
      length-append (32 ∷ decimal n) (flat_map (λ k. 32 ∷ decimal k) ns),
    )

-- a verb, two numbers and a line feed
op_length : (v : Verb) (m n : ℕ) (ns : List ℕ) → m < 2 ^ 64 → n < 2 ^ 64 → 8 ≤ length (spelling (words.Op v) shifts.Stays (m ∷ n ∷ ns) ++ 10 ∷ [])
unfolding spelling name
op_length v m n ns h k =
    omega (
      arith,
      verb_length v,
      two_numbers m n ns h k,
      length-append (verb_name v ++ flat_map (λ k. 32 ∷ decimal k) (m ∷ n ∷ ns)) (10 ∷ []),
      length-append (verb_name v) (flat_map (λ k. 32 ∷ decimal k) (m ∷ n ∷ ns)),
    )

pub length-op_text : (s : Setup) → IsSetup s → (o : Op) → IsOp s o → 8 ≤ length (line_text (op o))
unfolding line_text
length-op_text s m (ops.New p n) h = op_length _ p.domain p.slot _ (omega (arith, m.domains.1, h.0.0)) (omega (arith, m.slots.1, h.0.1))
length-op_text s m (ops.Who p) h = op_length _ p.domain p.slot _ (omega (arith, m.domains.1, h.0)) (omega (arith, m.slots.1, h.1))
length-op_text s m (ops.Len p) h = op_length _ p.domain p.slot _ (omega (arith, m.domains.1, h.0)) (omega (arith, m.slots.1, h.1))
length-op_text s m (ops.Set p i v) h = op_length _ p.domain p.slot _ (omega (arith, m.domains.1, h.0.0)) (omega (arith, m.slots.1, h.0.1))
length-op_text s m (ops.Cut p i) h = op_length _ p.domain p.slot _ (omega (arith, m.domains.1, h.0.0)) (omega (arith, m.slots.1, h.0.1))
length-op_text s m (ops.Link p i q) h = op_length _ p.domain p.slot _ (omega (arith, m.domains.1, h.0.0)) (omega (arith, m.slots.1, h.0.1))
length-op_text s m (ops.Load p i q) h = op_length _ p.domain p.slot _ (omega (arith, m.domains.1, h.0.0)) (omega (arith, m.slots.1, h.0.1))
length-op_text s m (ops.Copy p q) h = op_length _ p.domain p.slot _ (omega (arith, m.domains.1, h.0.0)) (omega (arith, m.slots.1, h.0.1))
length-op_text s m (ops.Clear p) h = op_length _ p.domain p.slot _ (omega (arith, m.domains.1, h.0)) (omega (arith, m.slots.1, h.1))
length-op_text s m (ops.Same p q) h = op_length _ p.domain p.slot _ (omega (arith, m.domains.1, h.0.0)) (omega (arith, m.slots.1, h.0.1))

pub length-ops_text : (s : Setup) → IsSetup s → (os : List Op) → AllByRecursion (IsOp s) os → 8 * length os ≤ length (flat_map line_text (map op os))
length-ops_text s m [] h = omega arith
length-ops_text s m (o ∷ os) h =
    omega (arith, length-op_text s m o h.0, length-ops_text s m os h.1, length-append (line_text (op o)) (flat_map line_text (map op os)))

-- a word of four letters, a number with its space, and a line feed
pub length-lane_text : (j : ℕ) → j < 2 ^ 64 → 7 ≤ length (line_text (lane j))
unfolding line_text spelling name
length-lane_text j h = omega (
  arith,
  decimal_nonempty j h,
  length-append (name words.Lane ++ flat_map (λ k. 32 ∷ decimal k) (j ∷ [])) (10 ∷ []),
  length-append (name words.Lane) (flat_map (λ k. 32 ∷ decimal k) (j ∷ [])),
  length-append (32 ∷ decimal j) [],
)

-- what the lines of lanes take
pub length-lane_lines : (j : ℕ) (ops : List Op) (lanes : List (List Op)) → length (flat_map line_text (lane_lines j (ops ∷ lanes)))
    ≡ length (line_text (lane j)) + (length (flat_map line_text (map op ops)) + length (flat_map line_text (lane_lines (suc j) lanes)))
length-lane_lines j ops lanes =
    omega (
      arith,
      length-append (line_text (lane j)) (flat_map line_text (map op ops ++ lane_lines (suc j) lanes)),
      ap length (flat_map-append line_text (map op ops) (lane_lines (suc j) lanes)),
      length-append (flat_map line_text (map op ops)) (flat_map line_text (lane_lines (suc j) lanes)),
    )

lanes_in : (s : Setup) → IsSetup s → (j : ℕ) (lanes : List (List Op)) → j + length lanes ≤ 2 ^ 32 → AllByRecursion (AllByRecursion (IsOp s)) lanes → 8 * sum_by length lanes ≤ length (flat_map line_text (lane_lines j lanes))
lanes_in s m j [] small ok = omega arith
lanes_in s m j (os ∷ lanes) small ok =
    omega (
      arith,
      sum_by-cons length os lanes,
      length-ops_text s m os ok.0,
      lanes_in s m (suc j) lanes (omega arith) ok.1,
      length-lane_lines j os lanes,
    )

-- the lines that begin and end a phase
pub phase_frame : (p : PhaseLists) → 10 + length (flat_map line_text (lane_lines 0 p.lanes)) ≤ length (flat_map line_text (phase_lines p))
unfolding line_text spelling name
phase_frame p =
    let lanes = lane_lines 0 p.lanes in
    let tail = map change_line p.gives ++ end ∷ [] in
    omega (
      arith,
      length-append (line_text phase) (flat_map line_text (turn_lines 0 p.turns ++ (lanes ++ tail))),
      ap length (flat_map-append line_text (turn_lines 0 p.turns) (lanes ++ tail)),
      length-append (flat_map line_text (turn_lines 0 p.turns)) (flat_map line_text (lanes ++ tail)),
      ap length (flat_map-append line_text lanes tail),
      length-append (flat_map line_text lanes) (flat_map line_text tail),
      ap length (flat_map-append line_text (map change_line p.gives) (end ∷ [])),
      length-append (flat_map line_text (map change_line p.gives)) (flat_map line_text (end ∷ [])),
    )

pub length-phase_lines : (p : PhaseLists) (ps : List PhaseLists) → length (flat_map line_text (flat_map phase_lines (p ∷ ps))) ≡ length (flat_map line_text (phase_lines p)) + length (flat_map line_text (flat_map phase_lines ps))
length-phase_lines p ps =
    omega (
      arith,
      ap length (flat_map-append line_text (phase_lines p) (flat_map phase_lines ps)),
      length-append (flat_map line_text (phase_lines p)) (flat_map line_text (flat_map phase_lines ps)),
    )

phases_in : (s : Setup) → IsSetup s → (ps : List PhaseLists) → AllByRecursion (IsPhase s) ps → 8 * sum_by ops_of ps + 10 * length ps ≤ length (flat_map line_text (flat_map phase_lines ps))
phases_in s m [] ok = omega arith
phases_in s m (p ∷ ps) ok =
    omega (
      arith,
      sum_by-cons ops_of p ps,
      lanes_in s m 0 p.lanes (omega (arith, ok.0.lanes, m.lanes.1)) ok.0.ops,
      phase_frame p,
      phases_in s m ps ok.1,
      length-phase_lines p ps,
    )

-- the lines before and after the phases
pub trace_frame : (t : TraceLists) → 5 + length (flat_map line_text (flat_map phase_lines t.phases)) ≤ length (trace_text t)
unfolding trace_text line_text spelling name
trace_frame t =
    let lines = flat_map phase_lines t.phases in
    omega (
      arith,
      length-append (line_text (version t.version)) (flat_map line_text (setup_lines t.setup ++ (lines ++ done ∷ []))),
      ap length (flat_map-append line_text (setup_lines t.setup) (lines ++ done ∷ [])),
      length-append (flat_map line_text (setup_lines t.setup)) (flat_map line_text (lines ++ done ∷ [])),
      ap length (flat_map-append line_text lines (done ∷ [])),
      length-append (flat_map line_text lines) (flat_map line_text (done ∷ [])),
    )

-- the text of a trace has more bytes than the trace has operations and phases
pub length-trace_text : (t : TraceLists) → IsTrace t → 8 * all_ops_of t + 10 * length t.phases ≤ length (trace_text t)
length-trace_text t h = omega (arith, phases_in t.setup h.setup t.phases h.phases, trace_frame t)
