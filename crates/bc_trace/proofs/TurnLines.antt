-- The lines of a phase's turns, and how many frames each of them withholds.
use Rattle.std.proofs.Common.{◌≡◌, ℕ, ◌+◌, ◌-◌, ◌<◌, ltb, List, [], ◌∷◌, ◌++◌, length, take, get_or, refl, ap, ◌∙◌, inl, inr, arith}
use Rattle.std.specs.List.{flat_map}
use Rattle.std.proofs.lemmas.Bool.{cases_Bool, ltb-true, ltb-false, lt-ltb, le-ltb}
use Rattle.std.proofs.lemmas.List.{append-nil, take_more}
use Rattle.std.proofs.lemmas.List.Concat.{flat_map-append}
use Rattle.bc_model.specs.Lists.{TurnLists}
use Rattle.bc_trace.specs.declared.grammar.Progress.{Progress}
use Rattle.bc_trace.specs.declared.line.Shift.{Shift}
use Rattle.bc_trace.specs.declared.line.Shift.TheVariants as shifts
use Rattle.bc_trace.specs.Lines.{Line, turn, shift_between, turn_lines, line_text}
use Rattle.bc_trace.specs.Grammar.{ShiftInRange, shifted, ShiftFits}
use Rattle.bc_trace.proofs.Written.{then}

-- how many frames are withheld after the last line, where so many were before the first
abbrev pub last_withheld : ℕ → List TurnLists → ℕ
last_withheld before [] = before
last_withheld before (t ∷ ts) = last_withheld t.withheld ts

pub last_withheld-append : (before : ℕ) (ts : List TurnLists) (t : TurnLists) → last_withheld before (ts ++ t ∷ []) ≡ t.withheld
last_withheld-append before [] t = refl
last_withheld-append before (u ∷ ts) t = last_withheld-append u.withheld ts t

pub turn_lines-append : (before : ℕ) (ts : List TurnLists) (t : TurnLists) → turn_lines before (ts ++ t ∷ []) ≡ turn_lines before ts ++ turn (shift_between (last_withheld before ts) t.withheld) t.hints ∷ []
turn_lines-append before [] t = refl
turn_lines-append before (u ∷ ts) t = ap (λ (ls : List Line). turn (shift_between before u.withheld) u.hints ∷ ls) (turn_lines-append u.withheld ts t)

-- what brings the number to another brings it there
pub shifted-between : (before now : ℕ) → shifted (shift_between before now) before ≡ now
unfolding shift_between
shifted-between before now =
    elim (cases_Bool (ltb before now)) [
      | inl more ↦ rw more (omega (arith, ltb-true before now more))
      | inr isnt ↦ elim (cases_Bool (ltb now before)) [
        | inl less ↦ rw (isnt, less) (omega (arith, ltb-true now before less))
        | inr same ↦ rw (isnt, same) (omega (arith, ltb-false before now isnt, ltb-false now before same))
      ]
    ]

-- and it is the only one that does
pub between-shifted : (s : Progress) (shift : Shift) → ShiftInRange shift → ShiftFits s shift → shift_between s.withheld (shifted shift s.withheld) ≡ shift
unfolding shift_between
between-shifted s shifts.Stays range fits = rw (le-ltb s.withheld s.withheld (omega arith)) refl
between-shifted s (shifts.Withhold k) range fits = rw (lt-ltb s.withheld (s.withheld + k) (omega (arith, range.0))) (ap (λ n. shifts.Withhold n) (omega arith))
between-shifted s (shifts.Return k) range fits = rw (le-ltb s.withheld (s.withheld - k) (omega arith), lt-ltb (s.withheld - k) s.withheld (omega (arith, range.0, fits))) (ap (λ n. shifts.Return n) (omega (arith, fits)))

-- the text of one line more
pub turns-more : (ts : List TurnLists) (i : ℕ) (d : TurnLists) (withheld : ℕ) (before text new : List ℕ) → i < length ts → withheld ≡ last_withheld 0 (take i ts) → text ≡ before ++ flat_map line_text (turn_lines 0 (take i ts)) → new ≡ text ++ line_text (turn (shift_between withheld (get_or ts i d).withheld) (get_or ts i d).hints) → new ≡ before ++ flat_map line_text (turn_lines 0 (take (i + 1) ts))
turns-more ts i d withheld before text new lt is so_far e =
    let t = get_or ts i d in
    let line = turn (shift_between (last_withheld 0 (take i ts)) t.withheld) t.hints in
    let one : turn_lines 0 (take (i + 1) ts) ≡ turn_lines 0 (take i ts) ++ line ∷ [] = ap (λ us. turn_lines 0 us) (take_more ts i d lt) ∙ turn_lines-append 0 (take i ts) t in
    let all : flat_map line_text (turn_lines 0 (take (i + 1) ts)) ≡ flat_map line_text (turn_lines 0 (take i ts)) ++ line_text line = ap (λ ls. flat_map line_text ls) one ∙ flat_map-append line_text (turn_lines 0 (take i ts)) (line ∷ []) ∙ ap (λ (bs : List ℕ). flat_map line_text (turn_lines 0 (take i ts)) ++ bs) (append-nil (line_text line)) in
    let here : new ≡ text ++ line_text line = e ∙ ap (λ n. text ++ line_text (turn (shift_between n t.withheld) t.hints)) is in
    then before text new (flat_map line_text (turn_lines 0 (take i ts))) (line_text line) so_far here ∙ ap (λ bs. before ++ bs) (rw all refl)

-- after it as many are withheld as it says
pub last-more : (ts : List TurnLists) (i : ℕ) (d : TurnLists) → i < length ts → last_withheld 0 (take (i + 1) ts) ≡ (get_or ts i d).withheld
last-more ts i d lt = ap (λ us. last_withheld 0 us) (take_more ts i d lt) ∙ last_withheld-append 0 (take i ts) (get_or ts i d)
