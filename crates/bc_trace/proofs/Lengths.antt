-- A text is at least as long as what it spells.
use Rattle.std.proofs.Common.{ℕ, suc, ◌+◌, ◌<◌, ◌≤◌, List, [], ◌∷◌, ◌++◌, length, map, ap, arith}
use Rattle.std.specs.List.{flat_map}
use Rattle.std.specs.Prelude.{sum_by}
use Rattle.std.proofs.lemmas.List.{length-append, length-map}
use Rattle.std.proofs.lemmas.List.Sums.{sum_by-cons}
use Rattle.bc_model.specs.Lists.{PhaseLists, TraceLists}
use Rattle.bc_model.specs.RunLengths.{ops_of, all_ops_of}
use Rattle.bc_model.specs.declared.operations.Op.{Op}
use Rattle.bc_trace.specs.Lines.{Line, op, change_line, end, done, word_of_line, shift_of, operands, turn_lines, lane_lines, phase_lines, trace_lines, trace_text, spelling, line_text, Spells}

pub line_some : (l : Line) → 0 < length (line_text l)
unfolding line_text
line_some l = omega (arith, length-append (spelling (word_of_line l) (shift_of l) (operands l)) (10 ∷ []))

lines_fit : (ls : List Line) → length ls ≤ length (flat_map line_text ls)
lines_fit [] = omega arith
lines_fit (l ∷ ls) = omega (arith, lines_fit ls, line_some l, length-append (line_text l) (flat_map line_text ls))

lanes_fit : (lanes : List (List Op)) (j : ℕ) → sum_by length lanes ≤ length (lane_lines j lanes)
lanes_fit [] j = omega arith
lanes_fit (os ∷ lanes) j = omega (arith, sum_by-cons length os lanes, lanes_fit lanes (suc j), length-append (map op os) (lane_lines (suc j) lanes), length-map os (λ o. op o))

phase_fits : (p : PhaseLists) → ops_of p + 1 ≤ length (phase_lines p)
phase_fits p = omega (arith, lanes_fit p.lanes 0, length-append (turn_lines 0 p.turns) (lane_lines 0 p.lanes ++ (map change_line p.gives ++ end ∷ [])), length-append (lane_lines 0 p.lanes) (map change_line p.gives ++ end ∷ []))

phases_fit : (ps : List PhaseLists) → sum_by ops_of ps + length ps ≤ length (flat_map phase_lines ps)
phases_fit [] = omega arith
phases_fit (p ∷ ps) = omega (arith, sum_by-cons ops_of p ps, phases_fit ps, phase_fits p, length-append (phase_lines p) (flat_map phase_lines ps))

pub text_fits : (bytes : List ℕ) (t : TraceLists) → Spells bytes t → all_ops_of t + length t.phases ≤ length bytes
unfolding trace_text
text_fits bytes t h = omega (arith, ap (λ (bs : List ℕ). length bs) h.text, lines_fit (trace_lines t), phases_fit t.phases, length-append (flat_map phase_lines t.phases) (done ∷ []))
