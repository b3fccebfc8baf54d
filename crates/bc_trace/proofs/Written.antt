-- Texts of lines, joined.
use Rattle.std.proofs.Common.{◌≡◌, ℕ, suc, ◌+◌, ◌<◌, List, [], ◌∷◌, ◌++◌, length, take, get_or, map, refl, sym, ap, ◌∙◌, append_assoc, arith}
use Rattle.std.specs.List.{flat_map}
use Rattle.std.proofs.lemmas.List.{map_more, append-nil, length-map, length-take}
use Rattle.std.proofs.lemmas.List.Concat.{flat_map-append}
use Rattle.bc_model.specs.Lists.{PhaseLists, TraceLists}
use Rattle.bc_model.specs.declared.operations.Op.{Op}
use Rattle.bc_trace.specs.declared.line.Shift.TheVariants as shifts
use Rattle.bc_trace.specs.declared.words.Keyword.TheVariants as words
use Rattle.bc_trace.specs.Lines.{Line, lane, op, change_line, end, done, setup_lines, turn_lines, lane_lines, phase_lines, trace_text, spelling, line_text}

abbrev text_of : List Line → List ℕ
text_of ls = flat_map line_text ls

-- one more piece
pub then : (a b c x y : List ℕ) → b ≡ a ++ x → c ≡ b ++ y → c ≡ a ++ (x ++ y)
then a b c x y p q = q ∙ ap (λ t. t ++ y) p ∙ append_assoc a x y

pub lane_lines-append : (j : ℕ) (xs : List (List Op)) (y : List Op) → lane_lines j (xs ++ y ∷ []) ≡ lane_lines j xs ++ lane (j + length xs) ∷ map op y
lane_lines-append j [] y = ap (λ ls. lane j ∷ ls) (append-nil (map op y)) ∙ ap (λ k. lane k ∷ map op y) (omega arith)
lane_lines-append j (x ∷ xs) y =
    let k : suc j + length xs ≡ j + suc (length xs) = omega arith in
    ap (λ ls. lane j ∷ (map op x ++ ls)) (lane_lines-append (suc j) xs y ∙ rw k refl) ∙ ap (λ ls. lane j ∷ ls) (sym (append_assoc (map op x) (lane_lines (suc j) xs) (lane (j + suc (length xs)) ∷ map op y)))

-- one more lane
pub lanes-more : {V : Type 0} (f : V → List Op) (vs : List V) (i : ℕ) (d : V) (before text new : List ℕ) → i < length vs → text ≡ before ++ flat_map line_text (lane_lines 0 (map f (take i vs))) → new ≡ text ++ (line_text (lane i) ++ flat_map line_text (map op (f (get_or vs i d)))) → new ≡ before ++ flat_map line_text (lane_lines 0 (map f (take (i + 1) vs)))
lanes-more f vs i d before text new lt so_far e =
    let long : 0 + length (map f (take i vs)) ≡ i = simp length-map (omega (arith, length-take i vs)) in
    let one : lane_lines 0 (map f (take (i + 1) vs)) ≡ lane_lines 0 (map f (take i vs)) ++ lane i ∷ map op (f (get_or vs i d)) = rw (map_more f vs i d lt, lane_lines-append 0 (map f (take i vs)) (f (get_or vs i d)), long) refl in
    let all : flat_map line_text (lane_lines 0 (map f (take (i + 1) vs))) ≡ flat_map line_text (lane_lines 0 (map f (take i vs))) ++ (line_text (lane i) ++ flat_map line_text (map op (f (get_or vs i d)))) = ap (λ ls. flat_map line_text ls) one ∙ flat_map-append line_text (lane_lines 0 (map f (take i vs))) (lane i ∷ map op (f (get_or vs i d))) in
    then before text new (flat_map line_text (lane_lines 0 (map f (take i vs)))) (line_text (lane i) ++ flat_map line_text (map op (f (get_or vs i d)))) so_far e ∙ ap (λ t. before ++ t) (sym all)

pub phase_written : (p : PhaseLists) (a b c d e f : List ℕ) → b ≡ a ++ (spelling words.Phase shifts.Stays [] ++ 10 ∷ []) → c ≡ b ++ flat_map line_text (turn_lines 0 p.turns) → d ≡ c ++ flat_map line_text (lane_lines 0 p.lanes) → e ≡ d ++ flat_map line_text (map change_line p.gives) → f ≡ e ++ (spelling words.End shifts.Stays [] ++ 10 ∷ []) → f ≡ a ++ flat_map line_text (phase_lines p)
unfolding line_text
phase_written p a b c d e f h1 h2 h3 h4 h5 =
    rw (h5, h4, h3, h2, h1) (rw (flat_map-append line_text (turn_lines 0 p.turns) (lane_lines 0 p.lanes ++ (map change_line p.gives ++ end ∷ [])), flat_map-append line_text (lane_lines 0 p.lanes) (map change_line p.gives ++ end ∷ []), flat_map-append line_text (map change_line p.gives) (end ∷ [])) (simp (append_assoc, append-nil)))

pub trace_written : (t : TraceLists) (a b c d : List ℕ) → a ≡ spelling words.Version shifts.Stays (t.version ∷ []) ++ 10 ∷ [] → b ≡ a ++ flat_map line_text (setup_lines t.setup) → c ≡ b ++ flat_map line_text (flat_map phase_lines t.phases) → d ≡ c ++ (spelling words.Done shifts.Stays [] ++ 10 ∷ []) → d ≡ trace_text t
unfolding trace_text line_text
trace_written t a b c d h1 h2 h3 h4 =
    rw (h4, h3, h2, h1) (rw (flat_map-append line_text (setup_lines t.setup) (flat_map phase_lines t.phases ++ done ∷ []), flat_map-append line_text (flat_map phase_lines t.phases) (done ∷ [])) (simp (append_assoc, append-nil)))
