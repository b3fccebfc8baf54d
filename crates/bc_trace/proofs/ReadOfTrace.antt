-- The text of a well-formed trace is read, and gives that trace.
use Rattle.std.proofs.Common.{◌≡◌, ℕ, suc, ◌+◌, ◌-◌, ◌*◌, ◌^◌, ◌<◌, ◌≤◌, true, eqb, ltb, List, [], ◌∷◌, ◌++◌, length, map, Ok, refl, sym, ap, subst, ◌∙◌, append_assoc, inl, inr, arith, add-zero}
use Rattle.std.specs.Prelude.{◌⊎◌}
use Rattle.std.specs.List.{AllByRecursion, flat_map}
use Rattle.std.proofs.lemmas.Bool.{cases_Bool, eq-eqb, ltb-true, ne_eqb}
use Rattle.std.proofs.lemmas.List.{append-nil}
use Rattle.bc_model.specs.Lists.{PhaseLists, TraceLists, TurnLists}
use Rattle.bc_model.specs.WellFormed.{IsSetup, IsNumber, IsWithin, IsOp, FitsChange, KnowsChange, KnowsLine, IsKnown, IsTurn, FitsFrames, IsPhase, IsTrace}
use Rattle.bc_model.specs.declared.operations.Op.{Op}
use Rattle.bc_model.specs.declared.operations.Op.TheVariants as ops
use Rattle.bc_model.specs.declared.traces.Change.{Change}
use Rattle.bc_model.specs.declared.traces.Change.TheVariants as changes
use Rattle.bc_model.specs.declared.traces.Setup.{Setup}
use Rattle.bc_trace.specs.declared.grammar.Stage.{Stage}
use Rattle.bc_trace.specs.declared.grammar.Stage.TheVariants as stages
use Rattle.bc_trace.specs.declared.grammar.Progress.{Progress}
use Rattle.bc_trace.specs.declared.line.Shift.{Shift}
use Rattle.bc_trace.specs.declared.line.Shift.TheVariants as shifts
use Rattle.bc_trace.specs.declared.words.Keyword.TheVariants as words
use Rattle.bc_trace.specs.Lines.{Line, version, phase, turn, lane, op, end, done, change_line, operands_of_op, shift_numbers, setup_lines, shift_between, turn_lines, lane_lines, phase_lines, trace_lines, trace_text, line_text}
use Rattle.bc_trace.specs.Grammar.{start, KnowsShift, may_stand, same_setting, arity, ShiftInRange, ShiftFits, Passes, after, after_all, Follow}
use Rattle.bc_trace.specs.Drafts.{DraftLists, empty_draft, put, put_lists}
use Rattle.bc_trace.specs.Reading.{lines_of, ended, reading, read_of}
use Rattle.bc_trace.proofs.Runs.{reading-end, read_of-is}
use Rattle.bc_trace.proofs.ReadOfFault.{put_all, put_all-state, forward}
use Rattle.bc_trace.proofs.LinesAhead.{count-op}
use Rattle.bc_trace.proofs.TurnLines.{last_withheld, shifted-between}

-- the lines pass, and make one draft of the other
record Runs (d : DraftLists) (ls : List Line) (d' : DraftLists) : Type 0 where
  pass : Follow d.progress ls
  makes : put_all d ls ≡ d'

pub follow-append : (xs ys : List Line) (s : Progress) → Follow s xs → Follow (after_all s xs) ys → Follow s (xs ++ ys)
follow-append [] ys s h g = g
follow-append (x ∷ xs) ys s h g = (h.0, follow-append xs ys (after x s) h.1 g)

pub put_all-append : (xs ys : List Line) (d : DraftLists) → put_all d (xs ++ ys) ≡ put_all (put_all d xs) ys
put_all-append [] ys d = refl
put_all-append (x ∷ xs) ys d = put_all-append xs ys (put x d)

runs-append : (a b c : DraftLists) (xs ys : List Line) → Runs a xs b → Runs b ys c → Runs a (xs ++ ys) c
runs-append a b c xs ys h g =
    let progress : b.progress ≡ after_all a.progress xs = ap (λ d. d.progress) (sym h.makes) ∙ put_all-state xs a in
    record {
      pass = follow-append xs ys a.progress h.pass (subst (λ s. Follow s ys) progress g.pass);
      makes = put_all-append xs ys a ∙ ap (λ d. put_all d ys) h.makes ∙ g.makes;
    }

runs-cons : (a c : DraftLists) (l : Line) (ls : List Line) → Passes a.progress l → Runs (put l a) ls c → Runs a (l ∷ ls) c
runs-cons a c l ls h g = record { pass = (h, g.pass); makes = g.makes }

runs-at : (a b c : DraftLists) (ls : List Line) → b ≡ c → Runs a ls b → Runs a ls c
runs-at a b c ls e h = record { pass = h.pass; makes = h.makes ∙ e }

runs-from : (a b c : DraftLists) (ls : List Line) → a ≡ b → Runs b ls c → Runs a ls c
runs-from a b c ls e h = subst (λ d. Runs d ls c) (sym e) h

abbrev progress : ℕ → Stage → Setup → ℕ → ℕ → Progress
progress v p s k held = record { version = v; stage = p; setup = s; stood = k; withheld = held }

abbrev draft : Progress → List PhaseLists → List TurnLists → List (List Op) → List Op → List Change → DraftLists
draft st ps ts ls os gs = record { progress = st; phases = ps; turns = ts; lanes = ls; ops = os; gives = gs }

-- ---- the header

pub product_small : (a b : ℕ) → a ≤ 16 → b ≤ 16 → a * b ≤ 16 * 16
product_small a b h g = grind arith

frames_small : (s : Setup) → IsSetup s → s.frames < 2 ^ 63
frames_small s h = omega (arith, h.frames, h.superpages, product_small s.lanes s.nursery h.lanes.1 h.nursery.1)

module _ (v : ℕ) (known : IsWithin 1 3 v) (s : Setup) (h : IsSetup s) where
  runs_header : Runs empty_draft (version v ∷ setup_lines s) (draft (progress v stages.Phases s 0 0) [] [] [] [] [])
  unfolding may_stand same_setting arity put_lists
  runs_header = record {
    pass = (record { known = (tt, tt); stands = refl; count = refl; numbers = (omega (arith, known), tt); range = known; frames = tt }, (record { known = (tt, tt); stands = refl; count = refl; numbers = (omega (arith, h.lanes), tt); range = h.lanes; frames = tt }, (record { known = (tt, tt); stands = refl; count = refl; numbers = (omega (arith, h.domains), tt); range = h.domains; frames = tt }, (record { known = (tt, tt); stands = refl; count = refl; numbers = (omega (arith, h.slots), tt); range = h.slots; frames = tt }, (record { known = (tt, tt); stands = refl; count = refl; numbers = (omega (arith, h.superpages), tt); range = h.superpages; frames = tt }, (record { known = (tt, tt); stands = refl; count = refl; numbers = (omega (arith, h.nursery), tt); range = h.nursery; frames = tt }, (record { known = (tt, tt); stands = refl; count = refl; numbers = (omega (arith, h.buffer), tt); range = h.buffer; frames = tt }, (record { known = (tt, tt); stands = refl; count = refl; numbers = (frames_small s h, tt); range = tt; frames = h.frames }, tt))))))));
    makes = refl;
  }

-- ---- turns

hints_numbers : (hints : List ℕ) → AllByRecursion (λ h. h < 2 ^ 32) hints → AllByRecursion IsNumber hints
hints_numbers [] h = tt
hints_numbers (n ∷ ns) h = (omega (arith, h.0), hints_numbers ns h.1)

-- so many frames can be withheld, and a version before 3 withholds none
record Holds (v : ℕ) (s : Setup) (held : ℕ) : Type 0 where
  known : (3 ≤ v) ⊎ (held ≡ 0)
  fits : s.lanes * s.nursery + 2 + held ≤ s.frames

-- a number that isn't 0 is withheld by a version that has signs
later_version : (v held : ℕ) → (3 ≤ v) ⊎ (held ≡ 0) → 0 < held → 3 ≤ v
later_version v held (inl new) some = new
later_version v held (inr none) some = absurd (omega arith)

record Shifts (v : ℕ) (s : Setup) (held : ℕ) (shift : Shift) : Type 0 where
  known : KnowsShift v shift
  number : AllByRecursion IsNumber (shift_numbers shift)
  range : ShiftInRange shift
  fits : ShiftFits (progress v stages.Turns s 0 held) shift

shifts_between : (v : ℕ) (s : Setup) (held now : ℕ) → IsSetup s → Holds v s held → Holds v s now → Shifts v s held (shift_between held now)
unfolding shift_between
shifts_between v s held now h old new =
    let most : s.frames ≤ 16640 = omega (arith, h.frames, h.superpages, product_small s.lanes s.nursery h.lanes.1 h.nursery.1) in
    elim (cases_Bool (ltb held now)) [
      | inl more ↦
          let lt = ltb-true held now more in
          let made : Shifts v s held (shifts.Withhold (now - held)) = record { known = later_version v now new.known (omega arith); number = (omega (arith, new.fits, most), tt); range = (omega arith, omega (arith, new.fits, most)); fits = omega (arith, new.fits) } in
          rw more made
      | inr isnt ↦ elim (cases_Bool (ltb now held)) [
        | inl less ↦
            let lt = ltb-true now held less in
            let made : Shifts v s held (shifts.Return (held - now)) = record { known = later_version v held old.known (omega arith); number = (omega (arith, old.fits, most), tt); range = (omega arith, omega (arith, old.fits, most)); fits = omega arith } in
            rw (isnt, less) made
        | inr same ↦
            let made : Shifts v s held shifts.Stays = record { known = tt; number = tt; range = tt; fits = tt } in
            rw (isnt, same) made
      ]
    ]

numbers_join : (xs ys : List ℕ) → AllByRecursion IsNumber xs → AllByRecursion IsNumber ys → AllByRecursion IsNumber (xs ++ ys)
numbers_join [] ys h g = g
numbers_join (x ∷ xs) ys h g = (h.0, numbers_join xs ys h.1 g)

module _ (v : ℕ) (s : Setup) (setup : IsSetup s) (ps : List PhaseLists) where
  turn_draft : ℕ → List TurnLists → DraftLists
  turn_draft held ts = draft (progress v stages.Turns s 0 held) ps ts [] [] []

  turn_passes : (held : ℕ) (t : TurnLists) → Holds v s held → Holds v s t.withheld → IsTurn t → Passes (progress v stages.Turns s 0 held) (turn (shift_between held t.withheld) t.hints)
  unfolding may_stand
  turn_passes held t old new h =
      let shift = shifts_between v s held t.withheld setup old new in
      record { known = (tt, shift.known); stands = refl; count = h.0; numbers = numbers_join (shift_numbers (shift_between held t.withheld)) t.hints shift.number (hints_numbers t.hints h.1); range = (shift.range, h.1); frames = shift.fits }

  put_turn : (held : ℕ) (t : TurnLists) (ts : List TurnLists) → put (turn (shift_between held t.withheld) t.hints) (turn_draft held ts) ≡ turn_draft t.withheld (ts ++ t ∷ [])
  unfolding put_lists turn_draft
  put_turn held t ts = rw (shifted-between held t.withheld) refl

  runs_turns : (turns : List TurnLists) (held : ℕ) (ts : List TurnLists) → Holds v s held → AllByRecursion IsTurn turns → AllByRecursion (KnowsLine v) turns → AllByRecursion (FitsFrames s) turns → Runs (turn_draft held ts) (turn_lines held turns) (turn_draft (last_withheld held turns) (ts ++ turns))
  unfolding turn_draft
  runs_turns [] held ts old h known fits = record { pass = tt; makes = ap (λ (us : List TurnLists). draft (progress v stages.Turns s 0 held) ps us [] [] []) (sym (append-nil ts)) }
  runs_turns (t ∷ turns) held ts old h known fits =
      let new : Holds v s t.withheld = record { known = known.0; fits = fits.0 } in
      let last = last_withheld t.withheld turns in
      let line = turn (shift_between held t.withheld) t.hints in
      let rest = runs_turns turns t.withheld (ts ++ t ∷ []) new h.1 known.1 fits.1 in
      runs-cons (turn_draft held ts) (turn_draft last (ts ++ t ∷ turns)) line (turn_lines t.withheld turns) (turn_passes held t old new h.0)
      (runs-from (put line (turn_draft held ts)) (turn_draft t.withheld (ts ++ t ∷ [])) (turn_draft last (ts ++ t ∷ turns)) (turn_lines t.withheld turns) (put_turn held t ts)
      (runs-at (turn_draft t.withheld (ts ++ t ∷ [])) (turn_draft last ((ts ++ t ∷ []) ++ turns)) (turn_draft last (ts ++ t ∷ turns)) (turn_lines t.withheld turns) (ap (λ (us : List TurnLists). draft (progress v stages.Turns s 0 last) ps us [] [] []) (append_assoc ts (t ∷ []) turns)) rest))

-- ---- operations and lanes

module _ (s : Setup) (setup : IsSetup s) where
  pub op_numbers : (o : Op) → IsOp s o → AllByRecursion IsNumber (operands_of_op o)
  op_numbers (ops.New p n) h = (omega (arith, h.0, setup.domains), (omega (arith, h.0, setup.slots), (omega (arith, h.1), tt)))
  op_numbers (ops.Who p) h = (omega (arith, h.0, setup.domains), (omega (arith, h.1, setup.slots), tt))
  op_numbers (ops.Len p) h = (omega (arith, h.0, setup.domains), (omega (arith, h.1, setup.slots), tt))
  op_numbers (ops.Set p i v) h = (omega (arith, h.0, setup.domains), (omega (arith, h.0, setup.slots), (omega (arith, h.1), (h.2, tt))))
  op_numbers (ops.Cut p i) h = (omega (arith, h.0, setup.domains), (omega (arith, h.0, setup.slots), (omega (arith, h.1), tt)))
  op_numbers (ops.Link p i q) h = (omega (arith, h.0, setup.domains), (omega (arith, h.0, setup.slots), (omega (arith, h.1), (omega (arith, h.2, setup.domains), (omega (arith, h.2, setup.slots), tt)))))
  op_numbers (ops.Load p i q) h = (omega (arith, h.0, setup.domains), (omega (arith, h.0, setup.slots), (omega (arith, h.1), (omega (arith, h.2, setup.domains), (omega (arith, h.2, setup.slots), tt)))))
  op_numbers (ops.Copy p q) h = (omega (arith, h.0, setup.domains), (omega (arith, h.0, setup.slots), (omega (arith, h.1, setup.domains), (omega (arith, h.1, setup.slots), tt))))
  op_numbers (ops.Clear p) h = (omega (arith, h.0, setup.domains), (omega (arith, h.1, setup.slots), tt))
  op_numbers (ops.Same p q) h = (omega (arith, h.0, setup.domains), (omega (arith, h.0, setup.slots), (omega (arith, h.1, setup.domains), (omega (arith, h.1, setup.slots), tt))))

module _ (v : ℕ) (s : Setup) (setup : IsSetup s) where
  module _ (ps : List PhaseLists) (ts : List TurnLists) (held : ℕ) where
    ops_draft : ℕ → List (List Op) → List Op → DraftLists
    ops_draft k ls os = draft (progress v stages.Ops s k held) ps ts ls os []

    runs_ops : (more : List Op) (k : ℕ) (ls : List (List Op)) (os : List Op) → AllByRecursion (IsOp s) more → Runs (ops_draft k ls os) (map op more) (ops_draft k ls (os ++ more))
    unfolding may_stand put_lists ops_draft
    runs_ops [] k ls os h = record { pass = tt; makes = ap (λ (xs : List Op). draft (progress v stages.Ops s k held) ps ts ls xs []) (sym (append-nil os)) }
    runs_ops (o ∷ more) k ls os h =
        let line : Passes (progress v stages.Ops s k held) (op o) = record { known = (tt, tt); stands = refl; count = count-op o; numbers = op_numbers s setup o h.0; range = h.0; frames = tt } in
        let rest = runs_ops more k ls (os ++ o ∷ []) h.1 in
        runs-cons (ops_draft k ls os) (ops_draft k ls (os ++ o ∷ more)) (op o) (map op more) line
        (runs-at (ops_draft k ls (os ++ o ∷ [])) (ops_draft k ls ((os ++ o ∷ []) ++ more)) (ops_draft k ls (os ++ o ∷ more)) (map op more) (ap (λ (xs : List Op). draft (progress v stages.Ops s k held) ps ts ls xs []) (append_assoc os (o ∷ []) more)) rest)

    -- the lanes after the one that was begun last
    record LanesRun (k : ℕ) (front : List (List Op)) (os : List Op) (lanes : List (List Op)) : Type 0 where
      before : List (List Op)
      last : List Op
      all : before ++ last ∷ [] ≡ front ++ os ∷ lanes
      runs : Runs (ops_draft k front os) (lane_lines k lanes) (ops_draft s.lanes before last)

    lane_line : (k j : ℕ) (front : List (List Op)) (os : List Op) → k ≡ suc j → k < s.lanes → Passes (progress v stages.Ops s k held) (lane k)
    unfolding may_stand arity
    lane_line k j front os e lt = record { known = (tt, tt); stands = rw (ne_eqb k s.lanes (λ h. absurd (omega arith))) refl; count = refl; numbers = (omega (arith, setup.lanes), tt); range = refl; frames = tt }

    put_lane : (j : ℕ) (front : List (List Op)) (os : List Op) → put (lane (suc j)) (ops_draft (suc j) front os) ≡ ops_draft (suc j + 1) (front ++ os ∷ []) []
    unfolding put_lists ops_draft
    put_lane j front os = rw (ne_eqb (suc j) 0 (λ h. absurd (omega arith))) refl

    runs_lanes : (lanes : List (List Op)) (j : ℕ) (front : List (List Op)) (os : List Op) → suc j + length lanes ≡ s.lanes → AllByRecursion (AllByRecursion (IsOp s)) lanes → LanesRun (suc j) front os lanes
    unfolding ops_draft
    runs_lanes [] j front os count h = record { before = front; last = os; all = refl; runs = record { pass = tt; makes = ap (λ k. draft (progress v stages.Ops s k held) ps ts front os []) (sym (add-zero (suc j)) ∙ count) } }
    runs_lanes (more ∷ lanes) j front os count h =
        let rest = runs_lanes lanes (suc j) (front ++ os ∷ []) more (omega arith) h.1 in
        let its = runs_ops more (suc (suc j)) (front ++ os ∷ []) [] h.0 in
        let line = lane_line (suc j) j front os refl (omega arith) in
        let here : put (lane (suc j)) (ops_draft (suc j) front os) ≡ ops_draft (suc (suc j)) (front ++ os ∷ []) [] = put_lane j front os ∙ ap (λ k. draft (progress v stages.Ops s k held) ps ts (front ++ os ∷ []) [] []) (omega arith) in
        record {
          before = rest.before;
          last = rest.last;
          all = rest.all ∙ append_assoc front (os ∷ []) (more ∷ lanes);
          runs = runs-cons (ops_draft (suc j) front os) (ops_draft s.lanes rest.before rest.last) (lane (suc j)) (map op more ++ lane_lines (suc (suc j)) lanes) line
              (runs-from (put (lane (suc j)) (ops_draft (suc j) front os)) (ops_draft (suc (suc j)) (front ++ os ∷ []) []) (ops_draft s.lanes rest.before rest.last) (map op more ++ lane_lines (suc (suc j)) lanes) here
              (runs-append (ops_draft (suc (suc j)) (front ++ os ∷ []) []) (ops_draft (suc (suc j)) (front ++ os ∷ []) more) (ops_draft s.lanes rest.before rest.last) (map op more) (lane_lines (suc (suc j)) lanes) its rest.runs));
        }

    first_lane : Passes (progress v stages.Turns s 0 held) (lane 0)
    unfolding may_stand arity
    first_lane = record { known = (tt, tt); stands = refl; count = refl; numbers = (omega arith, tt); range = refl; frames = tt }

    put_first_lane : put (lane 0) (draft (progress v stages.Turns s 0 held) ps ts [] [] []) ≡ ops_draft 1 [] []
    unfolding put_lists ops_draft
    put_first_lane = refl

    record AllLanesRun (lanes : List (List Op)) : Type 0 where
      before : List (List Op)
      last : List Op
      all : before ++ last ∷ [] ≡ lanes
      runs : Runs (draft (progress v stages.Turns s 0 held) ps ts [] [] []) (lane_lines 0 lanes) (ops_draft s.lanes before last)

    runs_all_lanes : (lanes : List (List Op)) → length lanes ≡ s.lanes → AllByRecursion (AllByRecursion (IsOp s)) lanes → AllLanesRun lanes
    runs_all_lanes [] count h = absurd (omega (arith, setup.lanes))
    runs_all_lanes (os ∷ lanes) count h =
        let rest = runs_lanes lanes 0 [] os (omega arith) h.1 in
        let its = runs_ops os 1 [] [] h.0 in
        record {
          before = rest.before;
          last = rest.last;
          all = rest.all;
          runs = runs-cons (draft (progress v stages.Turns s 0 held) ps ts [] [] []) (ops_draft s.lanes rest.before rest.last) (lane 0) (map op os ++ lane_lines 1 lanes) first_lane
              (runs-from (put (lane 0) (draft (progress v stages.Turns s 0 held) ps ts [] [] [])) (ops_draft 1 [] []) (ops_draft s.lanes rest.before rest.last) (map op os ++ lane_lines 1 lanes) put_first_lane
              (runs-append (ops_draft 1 [] []) (ops_draft 1 [] os) (ops_draft s.lanes rest.before rest.last) (map op os) (lane_lines 1 lanes) its rest.runs));
        }

    -- ---- gives and freezes, and the end of a phase

    module _ (before : List (List Op)) (last : List Op) where
      with_gives : Stage → List Change → DraftLists
      with_gives p gs = draft (progress v p s s.lanes held) ps ts before last gs

      phase_done : List Change → DraftLists
      phase_done gs = draft (progress v stages.Phases s s.lanes held) (ps ++ record { turns = ts; lanes = before ++ last ∷ []; gives = gs } ∷ []) [] [] [] []

      -- a give, a freeze and the end may stand there
      record MayGive (p : Stage) : Type 0 where
        gives : may_stand words.Give p true ≡ true
        freezes : may_stand words.Freeze p true ≡ true
        ends : may_stand words.End p true ≡ true

      all_stood : eqb s.lanes s.lanes ≡ true
      all_stood = eq-eqb s.lanes s.lanes refl

      put_change : Change → Stage → List Change → DraftLists
      put_change c p gs = put (change_line c) (with_gives p gs)

      change_put : (c : Change) (p : Stage) (gs : List Change) → put_change c p gs ≡ with_gives stages.Gives (gs ++ c ∷ [])
      unfolding put_change with_gives put_lists
      change_put (changes.Give g) p gs = refl
      change_put (changes.Freeze domain) p gs = refl

      change_passes : (c : Change) (p : Stage) → MayGive p → KnowsChange v c → FitsChange s c → Passes (progress v p s s.lanes held) (change_line c)
      unfolding arity
      change_passes (changes.Give g) p may known h = record { known = (tt, tt); stands = rw all_stood may.gives; count = refl; numbers = (omega (arith, h.0, setup.domains), (omega (arith, h.1, setup.lanes), tt)); range = h; frames = tt }
      change_passes (changes.Freeze domain) p may known h = record { known = (known, tt); stands = rw all_stood may.freezes; count = refl; numbers = (omega (arith, h, setup.domains), tt); range = h; frames = tt }

      runs_gives : (more : List Change) (p : Stage) (gs : List Change) → MayGive p → AllByRecursion (KnowsChange v) more → AllByRecursion (FitsChange s) more → Runs (with_gives p gs) (map change_line more ++ end ∷ []) (phase_done (gs ++ more))
      unfolding put_change with_gives phase_done put_lists arity may_stand
      runs_gives [] p gs may known h =
          let line : Passes (progress v p s s.lanes held) end = record { known = (tt, tt); stands = rw all_stood may.ends; count = refl; numbers = tt; range = tt; frames = tt } in
          record { pass = (line, tt); makes = ap (λ (xs : List Change). phase_done xs) (sym (append-nil gs)) }
      runs_gives (c ∷ more) p gs may known h =
          let rest = runs_gives more stages.Gives (gs ++ c ∷ []) (record { gives = refl; freezes = refl; ends = refl }) known.1 h.1 in
          runs-cons (with_gives p gs) (phase_done (gs ++ c ∷ more)) (change_line c) (map change_line more ++ end ∷ []) (change_passes c p may known.0 h.0)
          (runs-from (put_change c p gs) (with_gives stages.Gives (gs ++ c ∷ [])) (phase_done (gs ++ c ∷ more)) (map change_line more ++ end ∷ []) (change_put c p gs)
          (runs-at (with_gives stages.Gives (gs ++ c ∷ [])) (phase_done ((gs ++ c ∷ []) ++ more)) (phase_done (gs ++ c ∷ more)) (map change_line more ++ end ∷ []) (ap (λ (xs : List Change). phase_done xs) (append_assoc gs (c ∷ []) more)) rest))

      gives_after_ops : MayGive stages.Ops
      unfolding may_stand
      gives_after_ops = record { gives = refl; freezes = refl; ends = refl }

  -- ---- phases

  phase_line : (k held : ℕ) → Passes (progress v stages.Phases s k held) phase
  unfolding may_stand arity
  phase_line k held = record { known = (tt, tt); stands = refl; count = refl; numbers = tt; range = tt; frames = tt }

  between : ℕ → ℕ → List PhaseLists → DraftLists
  between k held ps = draft (progress v stages.Phases s k held) ps [] [] [] []

  put_phase : (k held : ℕ) (ps : List PhaseLists) → put phase (between k held ps) ≡ draft (progress v stages.Turns s 0 0) ps [] [] [] []
  unfolding put_lists between
  put_phase k held ps = refl

  -- a phase begins with no frame withheld
  none_held : Holds v s 0
  none_held = record { known = inr refl; fits = omega (arith, setup.frames) }

  runs_phase : (p : PhaseLists) (k held : ℕ) (ps : List PhaseLists) → IsKnown v p → AllByRecursion (FitsFrames s) p.turns → IsPhase s p → Runs (between k held ps) (phase_lines p) (between s.lanes (last_withheld 0 p.turns) (ps ++ p ∷ []))
  unfolding turn_draft ops_draft with_gives phase_done between
  runs_phase p k held ps known fits h =
      let last = last_withheld 0 p.turns in
      let start_at = draft (progress v stages.Turns s 0 0) ps [] [] [] [] in
      let turns_at = draft (progress v stages.Turns s 0 last) ps p.turns [] [] [] in
      let lanes = runs_all_lanes ps p.turns last p.lanes h.lanes h.ops in
      let lanes_at = ops_draft ps p.turns last s.lanes lanes.before lanes.last in
      let done_at = phase_done ps p.turns last lanes.before lanes.last p.gives in
      let lane_part = lane_lines 0 p.lanes ++ (map change_line p.gives ++ end ∷ []) in
      let made : done_at ≡ between s.lanes last (ps ++ p ∷ []) = ap (λ (ls : List (List Op)). between s.lanes last (ps ++ record { turns = p.turns; lanes = ls; gives = p.gives } ∷ [])) lanes.all in
      let gives = runs_gives ps p.turns last lanes.before lanes.last p.gives stages.Ops [] (gives_after_ops ps p.turns last lanes.before lanes.last) known.gives h.gives in
      let rest = runs-append turns_at lanes_at done_at (lane_lines 0 p.lanes) (map change_line p.gives ++ end ∷ []) lanes.runs gives in
      let turns = runs_turns v s setup ps p.turns 0 [] none_held h.turns known.turns fits in
      let all = runs-append start_at turns_at done_at (turn_lines 0 p.turns) lane_part turns rest in
      let whole = runs-cons (between k held ps) done_at phase (turn_lines 0 p.turns ++ lane_part) (phase_line k held) (runs-from (put phase (between k held ps)) start_at done_at (turn_lines 0 p.turns ++ lane_part) (put_phase k held ps) all) in
      runs-at (between k held ps) done_at (between s.lanes last (ps ++ p ∷ [])) (phase_lines p) made whole

  -- the lanes that stood, and the frames that were withheld, at the end of a phase
  record PhasesRun (k held : ℕ) (ps : List PhaseLists) (more : List PhaseLists) : Type 0 where
    stood : ℕ
    last : ℕ
    runs : Runs (between k held ps) (flat_map phase_lines more) (between stood last (ps ++ more))

  runs_phases : (more : List PhaseLists) (k held : ℕ) (ps : List PhaseLists) → AllByRecursion (IsKnown v) more → AllByRecursion (λ p. AllByRecursion (FitsFrames s) p.turns) more → AllByRecursion (IsPhase s) more → PhasesRun k held ps more
  unfolding between
  runs_phases [] k held ps known fits h = record { stood = k; last = held; runs = record { pass = tt; makes = ap (λ (xs : List PhaseLists). between k held xs) (sym (append-nil ps)) } }
  runs_phases (p ∷ more) k held ps known fits h =
      let now = last_withheld 0 p.turns in
      let rest = runs_phases more s.lanes now (ps ++ p ∷ []) known.1 fits.1 h.1 in
      let whole = runs-append (between k held ps) (between s.lanes now (ps ++ p ∷ [])) (between rest.stood rest.last ((ps ++ p ∷ []) ++ more)) (phase_lines p) (flat_map phase_lines more) (runs_phase p k held ps known.0 fits.0 h.0) rest.runs in
      record {
        stood = rest.stood;
        last = rest.last;
        runs = runs-at (between k held ps) (between rest.stood rest.last ((ps ++ p ∷ []) ++ more)) (between rest.stood rest.last (ps ++ p ∷ more)) (flat_map phase_lines (p ∷ more)) (ap (λ (xs : List PhaseLists). between rest.stood rest.last xs) (append_assoc ps (p ∷ []) more)) whole;
      }

  done_line : (k held : ℕ) → Passes (progress v stages.Phases s k held) done
  unfolding may_stand arity
  done_line k held = record { known = (tt, tt); stands = refl; count = refl; numbers = tt; range = tt; frames = tt }

  runs_done : (k held : ℕ) (ps : List PhaseLists) → Runs (between k held ps) (done ∷ []) (draft (progress v stages.Finished s k held) ps [] [] [] [])
  unfolding put_lists between
  runs_done k held ps = record { pass = (done_line k held, tt); makes = refl }

record TraceRuns (t : TraceLists) : Type 0 where
  stood : ℕ
  last : ℕ
  runs : Runs empty_draft (trace_lines t) (draft (progress t.version stages.Finished t.setup stood last) t.phases [] [] [] [])

runs_trace : (t : TraceLists) → IsTrace t → TraceRuns t
unfolding between
runs_trace t h =
    let v = t.version in
    let s = t.setup in
    let phases = runs_phases v s h.setup t.phases 0 0 [] h.known h.budgets h.phases in
    let k = phases.stood in
    let held = phases.last in
    let last = draft (progress v stages.Finished s k held) t.phases [] [] [] [] in
    let rest = runs-append (between v s h.setup 0 0 []) (between v s h.setup k held t.phases) last (flat_map phase_lines t.phases) (done ∷ []) phases.runs (runs_done v s h.setup k held t.phases) in
    record { stood = k; last = held; runs = runs-append empty_draft (between v s h.setup 0 0 []) last (version v ∷ setup_lines s) (flat_map phase_lines t.phases ++ done ∷ []) (runs_header v h.version s h.setup) rest }

pub trace_passes : (t : TraceLists) → IsTrace t → Follow start (trace_lines t)
trace_passes t h = (runs_trace t h).runs.pass

pub trace_read : (t : TraceLists) → IsTrace t → read_of (trace_text t) ≡ Ok t
unfolding trace_text ended
trace_read t h =
    let r = runs_trace t h in
    let last = draft (progress t.version stages.Finished t.setup r.stood r.last) t.phases [] [] [] [] in
    read_of-is (trace_text t)
    ∙ ap (λ (bs : List ℕ). reading empty_draft 0 (lines_of bs)) (sym (append-nil (flat_map line_text (trace_lines t))))
    ∙ forward (trace_lines t) empty_draft 0 [] r.runs.pass
    ∙ reading-end (put_all empty_draft (trace_lines t)) (0 + length (trace_lines t)) []
    ∙ ap (λ d. ended d (0 + length (trace_lines t)) []) r.runs.makes
