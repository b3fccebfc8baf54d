-- Lines that pass up to the end are those of a well-formed trace.
use Rattle.std.proofs.Common.{◌≤◌, ◌≡◌, ◌≢◌, ℕ, ◌+◌, ◌*◌, true, eqb, List, [], ◌∷◌, ◌++◌, length, map, refl, sym, ap, subst, ◌∙◌, append_assoc, inl, inr, arith}
use Rattle.std.specs.Prelude.{◌⊎◌}
use Rattle.std.specs.List.{AllByRecursion, flat_map}
use Rattle.std.proofs.lemmas.Bool.{not-true, eqb-true, eqb-false, eq-eqb, ne_eqb}
use Rattle.std.proofs.lemmas.List.{append-nil, length-append, map-append}
use Rattle.std.proofs.lemmas.List.Concat.{flat_map-append}
use Rattle.bc_model.specs.Lists.{PhaseLists, TurnLists}
use Rattle.bc_model.specs.WellFormed.{IsWithin, IsSetup, IsOp, FitsChange, KnowsChange, KnowsLine, IsKnown, IsTurn, FitsFrames, IsPhase, IsTrace}
use Rattle.bc_model.specs.declared.operations.Op.{Op}
use Rattle.bc_model.specs.declared.traces.Change.{Change}
use Rattle.bc_model.specs.declared.traces.Change.TheVariants as changes
use Rattle.bc_model.specs.declared.traces.Give.{Give}
use Rattle.bc_model.specs.declared.traces.Setup.{Setup}
use Rattle.bc_trace.specs.declared.grammar.Stage.{Stage}
use Rattle.bc_trace.specs.declared.grammar.Stage.TheVariants as stages
use Rattle.bc_trace.specs.declared.line.Shift.{Shift}
use Rattle.bc_trace.specs.declared.line.Shift.TheVariants as shifts
use Rattle.bc_trace.specs.declared.words.Setting.{Setting}
use Rattle.bc_trace.specs.declared.words.Setting.TheVariants as settings
use Rattle.bc_trace.specs.Lines.{Line, version, setting, phase, turn, lane, op, give, freeze, end, done, change_line, word_of_line, operands, setup_lines, shift_between, turn_lines, lane_lines, phase_lines, trace_lines}
use Rattle.bc_trace.specs.Grammar.{start, IsLineOf, KnowsShift, may_stand, same_setting, IsCount, shifted, ShiftFits, InRange, FramesFit, after, Follow}
use Rattle.bc_trace.specs.Drafts.{DraftLists, empty_draft, put, put_lists}
use Rattle.bc_trace.specs.Reading.{trace_of_draft}
use Rattle.bc_trace.proofs.ReadOfFault.{put_all}
use Rattle.bc_trace.proofs.TurnLines.{last_withheld, last_withheld-append, turn_lines-append, between-shifted}
use Rattle.bc_trace.proofs.Written.{lane_lines-append}

all-push : {X : Type 0} (P : X → Type 0) (xs : List X) (x : X) → AllByRecursion P xs → P x → AllByRecursion P (xs ++ x ∷ [])
all-push P [] x h g = (g, tt)
all-push P (y ∷ xs) x h g = (h.0, all-push P xs x h.1 g)

-- nothing was read of a phase
pub record NoPhase (d : DraftLists) : Type 0 where
  pub turns : d.turns ≡ []
  pub lanes : d.lanes ≡ []
  pub ops : d.ops ≡ []
  pub gives : d.gives ≡ []

-- no phase was read either
pub record NoPhases (d : DraftLists) : Type 0 where
  pub phases : d.phases ≡ []
  pub begun : NoPhase d

-- the lines of whole phases
abbrev pub closed_lines : DraftLists → List Line
closed_lines d = version d.progress.version ∷ (setup_lines d.progress.setup ++ flat_map phase_lines d.phases)

-- the header and the phases are well formed
pub record IsClosed (d : DraftLists) : Type 0 where
  pub version : IsWithin 1 3 d.progress.version
  pub known : AllByRecursion (IsKnown d.progress.version) d.phases
  pub budgets : AllByRecursion (λ p. AllByRecursion (FitsFrames d.progress.setup) p.turns) d.phases
  pub setup : IsSetup d.progress.setup
  pub phases : AllByRecursion (IsPhase d.progress.setup) d.phases

-- the turns that were read of a phase are well formed
pub record AreTurns (d : DraftLists) : Type 0 where
  pub formed : AllByRecursion IsTurn d.turns
  pub known : AllByRecursion (KnowsLine d.progress.version) d.turns
  pub budgets : AllByRecursion (FitsFrames d.progress.setup) d.turns

-- as many frames are withheld as the last of these turns says, which the version can say and the setup has
pub record IsHeld (d : DraftLists) : Type 0 where
  pub last : d.progress.withheld ≡ last_withheld 0 d.turns
  pub known : (3 ≤ d.progress.version) ⊎ (d.progress.withheld ≡ 0)
  pub fits : d.progress.setup.lanes * d.progress.setup.nursery + 2 + d.progress.withheld ≤ d.progress.setup.frames

-- what was read of a phase, its gives and freezes aside, is well formed
pub record IsOpen (d : DraftLists) : Type 0 where
  pub closed : IsClosed d
  pub turns : AreTurns d
  pub stood : d.progress.stood ≡ length d.lanes + 1
  pub room : d.progress.stood ≤ d.progress.setup.lanes
  pub lanes : AllByRecursion (AllByRecursion (IsOp d.progress.setup)) d.lanes
  pub ops : AllByRecursion (IsOp d.progress.setup) d.ops

abbrev pub open_lines : DraftLists → List Line
open_lines d = phase ∷ (turn_lines 0 d.turns ++ lane_lines 0 (d.lanes ++ d.ops ∷ []))

pub record AtTurns (d : DraftLists) (ls : List Line) : Type 0 where
  pub lines : ls ≡ closed_lines d ++ phase ∷ turn_lines 0 d.turns
  pub closed : IsClosed d
  pub turns : AreTurns d
  pub held : IsHeld d
  pub stood : d.progress.stood ≡ 0
  pub lanes : d.lanes ≡ []
  pub ops : d.ops ≡ []
  pub gives : d.gives ≡ []

pub record AtOps (d : DraftLists) (ls : List Line) : Type 0 where
  pub lines : ls ≡ closed_lines d ++ open_lines d
  pub begun : IsOpen d
  pub gives : d.gives ≡ []

pub record AtGives (d : DraftLists) (ls : List Line) : Type 0 where
  pub lines : ls ≡ closed_lines d ++ (open_lines d ++ map change_line d.gives)
  pub begun : IsOpen d
  pub all : d.progress.stood ≡ d.progress.setup.lanes
  pub gives : AllByRecursion (FitsChange d.progress.setup) d.gives
  pub known : AllByRecursion (KnowsChange d.progress.version) d.gives

-- what the lines so far make
unfoldable pub Shape : Stage → DraftLists → List Line → Type 0
Shape stages.Start d ls = (ls ≡ []) × NoPhases d
Shape (stages.Awaiting settings.Lanes) d ls = (ls ≡ version d.progress.version ∷ []) × NoPhases d × IsWithin 1 3 d.progress.version
Shape (stages.Awaiting settings.Domains) d ls = (ls ≡ version d.progress.version ∷ setting settings.Lanes d.progress.setup.lanes ∷ []) × NoPhases d × IsWithin 1 3 d.progress.version × IsWithin 1 16 d.progress.setup.lanes
Shape (stages.Awaiting settings.Slots) d ls = (ls ≡ version d.progress.version ∷ setting settings.Lanes d.progress.setup.lanes ∷ setting settings.Domains d.progress.setup.domains ∷ []) × NoPhases d × IsWithin 1 3 d.progress.version × IsWithin 1 16 d.progress.setup.lanes × IsWithin 1 64 d.progress.setup.domains
Shape (stages.Awaiting settings.Superpages) d ls = (ls ≡ version d.progress.version ∷ setting settings.Lanes d.progress.setup.lanes ∷ setting settings.Domains d.progress.setup.domains ∷ setting settings.Slots d.progress.setup.slots ∷ []) × NoPhases d × IsWithin 1 3 d.progress.version × IsWithin 1 16 d.progress.setup.lanes × IsWithin 1 64 d.progress.setup.domains × IsWithin 1 256 d.progress.setup.slots
Shape (stages.Awaiting settings.Nursery) d ls = (ls ≡ version d.progress.version ∷ setting settings.Lanes d.progress.setup.lanes ∷ setting settings.Domains d.progress.setup.domains ∷ setting settings.Slots d.progress.setup.slots ∷ setting settings.Superpages d.progress.setup.superpages ∷ []) × NoPhases d × IsWithin 1 3 d.progress.version × IsWithin 1 16 d.progress.setup.lanes × IsWithin 1 64 d.progress.setup.domains × IsWithin 1 256 d.progress.setup.slots × IsWithin 1 4096 d.progress.setup.superpages
Shape (stages.Awaiting settings.Buffer) d ls = (ls ≡ version d.progress.version ∷ setting settings.Lanes d.progress.setup.lanes ∷ setting settings.Domains d.progress.setup.domains ∷ setting settings.Slots d.progress.setup.slots ∷ setting settings.Superpages d.progress.setup.superpages ∷ setting settings.Nursery d.progress.setup.nursery ∷ []) × NoPhases d × IsWithin 1 3 d.progress.version × IsWithin 1 16 d.progress.setup.lanes × IsWithin 1 64 d.progress.setup.domains × IsWithin 1 256 d.progress.setup.slots × IsWithin 1 4096 d.progress.setup.superpages × IsWithin 1 16 d.progress.setup.nursery
Shape (stages.Awaiting settings.Frames) d ls = (ls ≡ version d.progress.version ∷ setting settings.Lanes d.progress.setup.lanes ∷ setting settings.Domains d.progress.setup.domains ∷ setting settings.Slots d.progress.setup.slots ∷ setting settings.Superpages d.progress.setup.superpages ∷ setting settings.Nursery d.progress.setup.nursery ∷ setting settings.Buffer d.progress.setup.buffer ∷ []) × NoPhases d × IsWithin 1 3 d.progress.version × IsWithin 1 16 d.progress.setup.lanes × IsWithin 1 64 d.progress.setup.domains × IsWithin 1 256 d.progress.setup.slots × IsWithin 1 4096 d.progress.setup.superpages × IsWithin 1 16 d.progress.setup.nursery × IsWithin 1 4096 d.progress.setup.buffer
Shape stages.Phases d ls = (ls ≡ closed_lines d) × IsClosed d × NoPhase d
Shape stages.Turns d ls = AtTurns d ls
Shape stages.Ops d ls = AtOps d ls
Shape stages.Gives d ls = AtGives d ls
Shape stages.Finished d ls = (ls ≡ trace_lines (trace_of_draft d)) × IsTrace (trace_of_draft d)

-- ---- one more line

abbrev pub Step : Line → Stage → DraftLists → List Line → Type 0
Step l p d ls = IsLineOf d.progress.version l → may_stand (word_of_line l) p (eqb d.progress.stood d.progress.setup.lanes) ≡ true → IsCount (word_of_line l) (length (operands l)) → InRange d.progress l → FramesFit d.progress l → Shape p d ls → Shape (after l d.progress).stage (put l d) (ls ++ l ∷ [])

no_phases : (d e : DraftLists) → e.phases ≡ d.phases → e.turns ≡ d.turns → e.lanes ≡ d.lanes → e.ops ≡ d.ops → e.gives ≡ d.gives → NoPhases d → NoPhases e
no_phases d e p1 p2 p3 p4 p5 h = record { phases = p1 ∙ h.phases; begun = record { turns = p2 ∙ h.begun.turns; lanes = p3 ∙ h.begun.lanes; ops = p4 ∙ h.begun.ops; gives = p5 ∙ h.begun.gives } }

on : (xs ys : List Line) (l : Line) → xs ≡ ys → xs ++ l ∷ [] ≡ ys ++ l ∷ []
on xs ys l e = ap (λ (zs : List Line). zs ++ l ∷ []) e

step_version : (n : ℕ) (p : Stage) (d : DraftLists) (ls : List Line) → Step (version n) p d ls
unfolding may_stand put_lists Shape
step_version n stages.Start d ls known stands count range frames h = (on ls [] (version n) h.0, no_phases d (put (version n) d) refl refl refl refl refl h.1, range)
step_version n (stages.Awaiting k) d ls known stands count range frames h = absurd cc
step_version n stages.Phases d ls known stands count range frames h = absurd cc
step_version n stages.Turns d ls known stands count range frames h = absurd cc
step_version n stages.Ops d ls known stands count range frames h = absurd cc
step_version n stages.Gives d ls known stands count range frames h = absurd cc
step_version n stages.Finished d ls known stands count range frames h = absurd cc

first_setting : (k : Setting) (n : ℕ) (p : Stage) (d : DraftLists) (ls : List Line) → Step (setting k n) p d ls
unfolding may_stand same_setting put_lists Shape
first_setting settings.Lanes n (stages.Awaiting settings.Lanes) d ls known stands count range frames h = (on ls (version d.progress.version ∷ []) (setting settings.Lanes n) h.0, no_phases d (put (setting settings.Lanes n) d) refl refl refl refl refl h.1, h.2, range)
first_setting settings.Domains n (stages.Awaiting settings.Domains) d ls known stands count range frames h = (ap (λ (zs : List Line). zs ++ setting settings.Domains n ∷ []) h.0, no_phases d (put (setting settings.Domains n) d) refl refl refl refl refl h.1, h.2, h.3, range)
first_setting settings.Slots n (stages.Awaiting settings.Slots) d ls known stands count range frames h = (ap (λ (zs : List Line). zs ++ setting settings.Slots n ∷ []) h.0, no_phases d (put (setting settings.Slots n) d) refl refl refl refl refl h.1, h.2, h.3, h.4, range)
first_setting settings.Superpages n (stages.Awaiting settings.Superpages) d ls known stands count range frames h = (ap (λ (zs : List Line). zs ++ setting settings.Superpages n ∷ []) h.0, no_phases d (put (setting settings.Superpages n) d) refl refl refl refl refl h.1, h.2, h.3, h.4, h.5, range)
first_setting settings.Nursery n (stages.Awaiting settings.Nursery) d ls known stands count range frames h = (ap (λ (zs : List Line). zs ++ setting settings.Nursery n ∷ []) h.0, no_phases d (put (setting settings.Nursery n) d) refl refl refl refl refl h.1, h.2, h.3, h.4, h.5, h.6, range)
first_setting settings.Buffer n (stages.Awaiting settings.Buffer) d ls known stands count range frames h = (ap (λ (zs : List Line). zs ++ setting settings.Buffer n ∷ []) h.0, no_phases d (put (setting settings.Buffer n) d) refl refl refl refl refl h.1, h.2, h.3, h.4, h.5, h.6, h.7, range)
first_setting settings.Frames n (stages.Awaiting settings.Frames) d ls known stands count range frames h = (
  ap (λ (zs : List Line). zs ++ setting settings.Frames n ∷ []) h.0 ∙ ap (λ (ps : List PhaseLists). version d.progress.version ∷ (setup_lines (record d.progress.setup { frames = n }) ++ flat_map phase_lines ps)) (sym h.1.phases),
  record {
    version = h.2;
    known = subst (λ (ps : List PhaseLists). AllByRecursion (IsKnown d.progress.version) ps) (sym h.1.phases) tt;
    budgets = subst (λ (ps : List PhaseLists). AllByRecursion (λ (p : PhaseLists). AllByRecursion (FitsFrames (record d.progress.setup { frames = n })) p.turns) ps) (sym h.1.phases) tt;
    setup = record { lanes = h.3; domains = h.4; slots = h.5; superpages = h.6; nursery = h.7; buffer = h.8; frames = frames };
    phases = subst (λ (ps : List PhaseLists). AllByRecursion (IsPhase (record d.progress.setup { frames = n })) ps) (sym h.1.phases) tt;
  },
  record { turns = h.1.begun.turns; lanes = h.1.begun.lanes; ops = h.1.begun.ops; gives = h.1.begun.gives },
)
first_setting _ n _ d ls known stands count range frames h = absurd cc

step_phase : (p : Stage) (d : DraftLists) (ls : List Line) → Step phase p d ls
unfolding may_stand put_lists Shape
step_phase stages.Phases d ls known stands count range frames h = record {
  lines = on ls (closed_lines d) phase h.0 ∙ ap (λ (ts : List TurnLists). closed_lines d ++ phase ∷ turn_lines 0 ts) (sym h.2.turns);
  closed = record { version = h.1.version; known = h.1.known; budgets = h.1.budgets; setup = h.1.setup; phases = h.1.phases };
  turns = record {
    formed = subst (λ (ts : List TurnLists). AllByRecursion IsTurn ts) (sym h.2.turns) tt;
    known = subst (λ (ts : List TurnLists). AllByRecursion (KnowsLine d.progress.version) ts) (sym h.2.turns) tt;
    budgets = subst (λ (ts : List TurnLists). AllByRecursion (FitsFrames d.progress.setup) ts) (sym h.2.turns) tt;
  };
  held = record { last = ap (λ (ts : List TurnLists). last_withheld 0 ts) (sym h.2.turns); known = inr refl; fits = omega (arith, h.1.setup.frames) };
  stood = refl;
  lanes = h.2.lanes;
  ops = h.2.ops;
  gives = h.2.gives;
}
step_phase stages.Start d ls known stands count range frames h = absurd cc
step_phase (stages.Awaiting k) d ls known stands count range frames h = absurd cc
step_phase stages.Turns d ls known stands count range frames h = absurd cc
step_phase stages.Ops d ls known stands count range frames h = absurd cc
step_phase stages.Gives d ls known stands count range frames h = absurd cc
step_phase stages.Finished d ls known stands count range frames h = absurd cc

-- as many frames are withheld after the line as can be
shift_known : (v held : ℕ) (shift : Shift) → KnowsShift v shift → (3 ≤ v) ⊎ (held ≡ 0) → (3 ≤ v) ⊎ (shifted shift held ≡ 0)
shift_known v held shifts.Stays known old = old
shift_known v held (shifts.Withhold k) known old = inl known
shift_known v held (shifts.Return k) known old = inl known

shift_left : (d : DraftLists) (shift : Shift) → ShiftFits d.progress shift → IsHeld d → d.progress.setup.lanes * d.progress.setup.nursery + 2 + shifted shift d.progress.withheld ≤ d.progress.setup.frames
shift_left d shifts.Stays fits h = h.fits
shift_left d (shifts.Withhold k) fits h = omega (arith, fits)
shift_left d (shifts.Return k) fits h = omega (arith, h.fits)

step_turn : (shift : Shift) (hints : List ℕ) (p : Stage) (d : DraftLists) (ls : List Line) → Step (turn shift hints) p d ls
unfolding may_stand put_lists Shape
step_turn shift hints stages.Turns d ls known stands count range frames h =
    let now = shifted shift d.progress.withheld in
    let t : TurnLists = record { withheld = now; hints = hints } in
    let new = shift_known d.progress.version d.progress.withheld shift known.1 h.held.known in
    let left = shift_left d shift frames h.held in
    let same : shift_between (last_withheld 0 d.turns) now ≡ shift = ap (λ n. shift_between n now) (sym h.held.last) ∙ between-shifted d.progress shift range.0 frames in
    let more : turn_lines 0 (d.turns ++ t ∷ []) ≡ turn_lines 0 d.turns ++ turn shift hints ∷ [] = turn_lines-append 0 d.turns t ∙ ap (λ (x : Shift). turn_lines 0 d.turns ++ turn x hints ∷ []) same in
    record {
      lines = on ls (closed_lines d ++ phase ∷ turn_lines 0 d.turns) (turn shift hints) h.lines ∙ append_assoc (closed_lines d) (phase ∷ turn_lines 0 d.turns) (turn shift hints ∷ []) ∙ ap (λ (ts : List Line). closed_lines d ++ phase ∷ ts) (sym more);
      closed = record { version = h.closed.version; known = h.closed.known; budgets = h.closed.budgets; setup = h.closed.setup; phases = h.closed.phases };
      turns = record {
        formed = all-push IsTurn d.turns t h.turns.formed (count, range.1);
        known = all-push (KnowsLine d.progress.version) d.turns t h.turns.known new;
        budgets = all-push (FitsFrames d.progress.setup) d.turns t h.turns.budgets left;
      };
      held = record { last = sym (last_withheld-append 0 d.turns t); known = new; fits = left };
      stood = h.stood;
      lanes = h.lanes;
      ops = h.ops;
      gives = h.gives;
    }
step_turn shift hints stages.Start d ls known stands count range frames h = absurd cc
step_turn shift hints (stages.Awaiting k) d ls known stands count range frames h = absurd cc
step_turn shift hints stages.Phases d ls known stands count range frames h = absurd cc
step_turn shift hints stages.Ops d ls known stands count range frames h = absurd cc
step_turn shift hints stages.Gives d ls known stands count range frames h = absurd cc
step_turn shift hints stages.Finished d ls known stands count range frames h = absurd cc

-- ---- a lane begins

begun_first : DraftLists → ℕ → DraftLists
begun_first d j = record d { progress = after (lane j) d.progress }

begun_next : DraftLists → ℕ → DraftLists
begun_next d j = record d { progress = after (lane j) d.progress; lanes = d.lanes ++ d.ops ∷ []; ops = [] }

put_first : (d : DraftLists) (j : ℕ) → d.progress.stood ≡ 0 → begun_first d j ≡ put (lane j) d
unfolding put_lists begun_first
put_first d j e = rw (eq-eqb d.progress.stood 0 e) refl

put_next : (d : DraftLists) (j : ℕ) → d.progress.stood ≢ 0 → begun_next d j ≡ put (lane j) d
unfolding put_lists begun_next
put_next d j e = rw (ne_eqb d.progress.stood 0 e) refl

first_lines : (d : DraftLists) (ls : List Line) (j : ℕ) → j ≡ 0 → ls ≡ closed_lines d ++ phase ∷ turn_lines 0 d.turns → (lanes : List (List Op)) (os : List Op) → lanes ≡ [] → os ≡ [] → ls ++ lane j ∷ [] ≡ closed_lines d ++ phase ∷ (turn_lines 0 d.turns ++ lane_lines 0 (lanes ++ os ∷ []))
first_lines d ls j zero-is lines lanes os none no_ops = rw (zero-is, lines, none, no_ops) (append_assoc (closed_lines d) (phase ∷ turn_lines 0 d.turns) (lane 0 ∷ []))

next_lines : (d : DraftLists) (ls : List Line) (j : ℕ) → j ≡ length d.lanes + 1 → ls ≡ closed_lines d ++ open_lines d → ls ++ lane j ∷ [] ≡ closed_lines d ++ phase ∷ (turn_lines 0 d.turns ++ lane_lines 0 ((d.lanes ++ d.ops ∷ []) ++ [] ∷ []))
next_lines d ls j number lines =
    let long : 0 + length (d.lanes ++ d.ops ∷ []) ≡ j = omega (arith, length-append d.lanes (d.ops ∷ [])) in
    let more : lane_lines 0 ((d.lanes ++ d.ops ∷ []) ++ [] ∷ []) ≡ lane_lines 0 (d.lanes ++ d.ops ∷ []) ++ lane j ∷ [] = lane_lines-append 0 (d.lanes ++ d.ops ∷ []) [] ∙ ap (λ k. lane_lines 0 (d.lanes ++ d.ops ∷ []) ++ lane k ∷ []) long in
    rw (lines, more) (append_assoc (closed_lines d) (open_lines d) (lane j ∷ []) ∙ ap (λ (xs : List Line). closed_lines d ++ phase ∷ xs) (append_assoc (turn_lines 0 d.turns) (lane_lines 0 (d.lanes ++ d.ops ∷ [])) (lane j ∷ [])))

step_lane : (j : ℕ) (p : Stage) (d : DraftLists) (ls : List Line) → Step (lane j) p d ls
unfolding may_stand Shape begun_first begun_next
step_lane j stages.Turns d ls known stands count range frames h =
    let made : AtOps (begun_first d j) (ls ++ lane j ∷ []) = record {
      lines = first_lines d ls j (range ∙ h.stood) h.lines d.lanes d.ops h.lanes h.ops;
      begun = record {
        closed = record { version = h.closed.version; known = h.closed.known; budgets = h.closed.budgets; setup = h.closed.setup; phases = h.closed.phases };
        turns = record { formed = h.turns.formed; known = h.turns.known; budgets = h.turns.budgets };
        stood = ap (λ k. k + 1) (h.stood ∙ ap (λ (xs : List (List Op)). length xs) (sym h.lanes));
        room = omega (arith, h.stood, h.closed.setup.lanes);
        lanes = subst (λ (xs : List (List Op)). AllByRecursion (AllByRecursion (IsOp d.progress.setup)) xs) (sym h.lanes) tt;
        ops = subst (λ (xs : List Op). AllByRecursion (IsOp d.progress.setup) xs) (sym h.ops) tt;
      };
      gives = h.gives;
    } in
    subst (λ e. AtOps e (ls ++ lane j ∷ [])) (put_first d j h.stood) made
step_lane j stages.Ops d ls known stands count range frames h =
    let made : AtOps (begun_next d j) (ls ++ lane j ∷ []) = record {
      lines = next_lines d ls j (range ∙ h.begun.stood) h.lines;
      begun = record {
        closed = record { version = h.begun.closed.version; known = h.begun.closed.known; budgets = h.begun.closed.budgets; setup = h.begun.closed.setup; phases = h.begun.closed.phases };
        turns = record { formed = h.begun.turns.formed; known = h.begun.turns.known; budgets = h.begun.turns.budgets };
        stood = ap (λ k. k + 1) (h.begun.stood ∙ sym (length-append d.lanes (d.ops ∷ [])));
        room = omega (arith, h.begun.room, eqb-false d.progress.stood d.progress.setup.lanes (not-true (eqb d.progress.stood d.progress.setup.lanes) stands));
        lanes = all-push (AllByRecursion (IsOp d.progress.setup)) d.lanes d.ops h.begun.lanes h.begun.ops;
        ops = tt;
      };
      gives = h.gives;
    } in
    subst (λ e. AtOps e (ls ++ lane j ∷ [])) (put_next d j (λ z. absurd (omega (arith, h.begun.stood)))) made
step_lane j stages.Start d ls known stands count range frames h = absurd cc
step_lane j (stages.Awaiting k) d ls known stands count range frames h = absurd cc
step_lane j stages.Phases d ls known stands count range frames h = absurd cc
step_lane j stages.Gives d ls known stands count range frames h = absurd cc
step_lane j stages.Finished d ls known stands count range frames h = absurd cc

-- ---- operations, gives, ends

op_lines : (lanes : List (List Op)) (os : List Op) (o : Op) → lane_lines 0 (lanes ++ os ∷ []) ++ op o ∷ [] ≡ lane_lines 0 (lanes ++ (os ++ o ∷ []) ∷ [])
op_lines lanes os o =
    rw (lane_lines-append 0 lanes os, lane_lines-append 0 lanes (os ++ o ∷ []), map-append op os (o ∷ [])) (append_assoc (lane_lines 0 lanes) (lane (0 + length lanes) ∷ map op os) (op o ∷ []))

step_op : (o : Op) (p : Stage) (d : DraftLists) (ls : List Line) → Step (op o) p d ls
unfolding may_stand put_lists Shape
step_op o stages.Ops d ls known stands count range frames h = record {
  lines = on ls (closed_lines d ++ open_lines d) (op o) h.lines ∙ append_assoc (closed_lines d) (open_lines d) (op o ∷ []) ∙ ap (λ (xs : List Line). closed_lines d ++ phase ∷ xs) (append_assoc (turn_lines 0 d.turns) (lane_lines 0 (d.lanes ++ d.ops ∷ [])) (op o ∷ []) ∙ ap (λ (xs : List Line). turn_lines 0 d.turns ++ xs) (op_lines d.lanes d.ops o));
  begun = record {
    closed = record { version = h.begun.closed.version; known = h.begun.closed.known; budgets = h.begun.closed.budgets; setup = h.begun.closed.setup; phases = h.begun.closed.phases };
    turns = record { formed = h.begun.turns.formed; known = h.begun.turns.known; budgets = h.begun.turns.budgets };
    stood = h.begun.stood;
    room = h.begun.room;
    lanes = h.begun.lanes;
    ops = all-push (IsOp d.progress.setup) d.ops o h.begun.ops range;
  };
  gives = h.gives;
}
step_op o stages.Start d ls known stands count range frames h = absurd cc
step_op o (stages.Awaiting k) d ls known stands count range frames h = absurd cc
step_op o stages.Phases d ls known stands count range frames h = absurd cc
step_op o stages.Turns d ls known stands count range frames h = absurd cc
step_op o stages.Gives d ls known stands count range frames h = absurd cc
step_op o stages.Finished d ls known stands count range frames h = absurd cc

change_lines : (d : DraftLists) (c : Change) → (closed_lines d ++ (open_lines d ++ map change_line d.gives)) ++ change_line c ∷ [] ≡ closed_lines d ++ (open_lines d ++ map change_line (d.gives ++ c ∷ []))
change_lines d c = append_assoc (closed_lines d) (open_lines d ++ map change_line d.gives) (change_line c ∷ []) ∙ ap (λ (xs : List Line). closed_lines d ++ xs) (append_assoc (open_lines d) (map change_line d.gives) (change_line c ∷ []) ∙ ap (λ (xs : List Line). open_lines d ++ xs) (sym (map-append change_line d.gives (c ∷ []))))

-- all lanes stood, and no give or freeze yet
as_gives : (d : DraftLists) (ls : List Line) → eqb d.progress.stood d.progress.setup.lanes ≡ true → AtOps d ls → AtGives d ls
as_gives d ls stands h = record {
  lines = h.lines ∙ ap (λ (xs : List Line). closed_lines d ++ xs) (sym (ap (λ (gs : List Change). open_lines d ++ map change_line gs) h.gives ∙ append-nil (open_lines d)));
  begun = h.begun;
  all = eqb-true d.progress.stood d.progress.setup.lanes stands;
  gives = subst (λ (gs : List Change). AllByRecursion (FitsChange d.progress.setup) gs) (sym h.gives) tt;
  known = subst (λ (gs : List Change). AllByRecursion (KnowsChange d.progress.version) gs) (sym h.gives) tt;
}

-- one more of them
changed : DraftLists → Change → DraftLists
changed d c = record { progress = record d.progress { stage = stages.Gives }; phases = d.phases; turns = d.turns; lanes = d.lanes; ops = d.ops; gives = d.gives ++ c ∷ [] }

more_changes : (c : Change) (d : DraftLists) (ls : List Line) → KnowsChange d.progress.version c → FitsChange d.progress.setup c → AtGives d ls → AtGives (changed d c) (ls ++ change_line c ∷ [])
unfolding changed
more_changes c d ls known range h = record {
  lines = on ls (closed_lines d ++ (open_lines d ++ map change_line d.gives)) (change_line c) h.lines ∙ change_lines d c;
  begun = record {
    closed = record { version = h.begun.closed.version; known = h.begun.closed.known; budgets = h.begun.closed.budgets; setup = h.begun.closed.setup; phases = h.begun.closed.phases };
    turns = record { formed = h.begun.turns.formed; known = h.begun.turns.known; budgets = h.begun.turns.budgets };
    stood = h.begun.stood;
    room = h.begun.room;
    lanes = h.begun.lanes;
    ops = h.begun.ops;
  };
  all = h.all;
  gives = all-push (FitsChange d.progress.setup) d.gives c h.gives range;
  known = all-push (KnowsChange d.progress.version) d.gives c h.known known;
}

step_give : (g : Give) (p : Stage) (d : DraftLists) (ls : List Line) → Step (give g) p d ls
unfolding may_stand put_lists changed Shape
step_give g stages.Ops d ls known stands count range frames h = more_changes (changes.Give g) d ls tt range (as_gives d ls stands h)
step_give g stages.Gives d ls known stands count range frames h = more_changes (changes.Give g) d ls tt range h
step_give g stages.Start d ls known stands count range frames h = absurd cc
step_give g (stages.Awaiting k) d ls known stands count range frames h = absurd cc
step_give g stages.Phases d ls known stands count range frames h = absurd cc
step_give g stages.Turns d ls known stands count range frames h = absurd cc
step_give g stages.Finished d ls known stands count range frames h = absurd cc

step_freeze : (domain : ℕ) (p : Stage) (d : DraftLists) (ls : List Line) → Step (freeze domain) p d ls
unfolding may_stand put_lists changed Shape
step_freeze domain stages.Ops d ls known stands count range frames h = more_changes (changes.Freeze domain) d ls known.0 range (as_gives d ls stands h)
step_freeze domain stages.Gives d ls known stands count range frames h = more_changes (changes.Freeze domain) d ls known.0 range h
step_freeze domain stages.Start d ls known stands count range frames h = absurd cc
step_freeze domain (stages.Awaiting k) d ls known stands count range frames h = absurd cc
step_freeze domain stages.Phases d ls known stands count range frames h = absurd cc
step_freeze domain stages.Turns d ls known stands count range frames h = absurd cc
step_freeze domain stages.Finished d ls known stands count range frames h = absurd cc

regroup : (ts ls gs es : List Line) → ((ts ++ ls) ++ gs) ++ es ≡ ts ++ (ls ++ (gs ++ es))
regroup ts ls gs es = simp append_assoc

end_lines : (v : ℕ) (s : Setup) (ps : List PhaseLists) (p : PhaseLists) → ((version v ∷ (setup_lines s ++ flat_map phase_lines ps)) ++ ((phase ∷ (turn_lines 0 p.turns ++ lane_lines 0 p.lanes)) ++ map change_line p.gives)) ++ end ∷ [] ≡ version v ∷ (setup_lines s ++ flat_map phase_lines (ps ++ p ∷ []))
end_lines v s ps p =
    let closed : List Line = version v ∷ (setup_lines s ++ flat_map phase_lines ps) in
    let body : List Line = (phase ∷ (turn_lines 0 p.turns ++ lane_lines 0 p.lanes)) ++ map change_line p.gives in
    let same : body ++ end ∷ [] ≡ phase_lines p = ap (λ (xs : List Line). phase ∷ xs) (regroup (turn_lines 0 p.turns) (lane_lines 0 p.lanes) (map change_line p.gives) (end ∷ [])) in
    let more : flat_map phase_lines (ps ++ p ∷ []) ≡ flat_map phase_lines ps ++ phase_lines p = flat_map-append phase_lines ps (p ∷ []) ∙ ap (λ (xs : List Line). flat_map phase_lines ps ++ xs) (append-nil (phase_lines p)) in
    append_assoc closed body (end ∷ [])
    ∙ ap (λ (xs : List Line). closed ++ xs) same
    ∙ append_assoc (version v ∷ setup_lines s) (flat_map phase_lines ps) (phase_lines p)
    ∙ ap (λ (xs : List Line). version v ∷ (setup_lines s ++ xs)) (sym more)

phase_ends : (d : DraftLists) (ls : List Line) → AtGives d ls → Shape stages.Phases (put end d) (ls ++ end ∷ [])
unfolding put_lists Shape
phase_ends d ls h =
    let p : PhaseLists = record { turns = d.turns; lanes = d.lanes ++ d.ops ∷ []; gives = d.gives } in
    let formed : IsPhase d.progress.setup p = record {
      turns = h.begun.turns.formed;
      lanes = length-append d.lanes (d.ops ∷ []) ∙ sym h.begun.stood ∙ h.all;
      ops = all-push (AllByRecursion (IsOp d.progress.setup)) d.lanes d.ops h.begun.lanes h.begun.ops;
      gives = h.gives;
    } in (
      on ls (closed_lines d ++ (open_lines d ++ map change_line d.gives)) end h.lines ∙ end_lines d.progress.version d.progress.setup d.phases p,
      record {
        version = h.begun.closed.version;
        known = all-push (IsKnown d.progress.version) d.phases p h.begun.closed.known (record { turns = h.begun.turns.known; gives = h.known });
        budgets = all-push (λ (q : PhaseLists). AllByRecursion (FitsFrames d.progress.setup) q.turns) d.phases p h.begun.closed.budgets h.begun.turns.budgets;
        setup = h.begun.closed.setup;
        phases = all-push (IsPhase d.progress.setup) d.phases p h.begun.closed.phases formed;
      },
      record { turns = refl; lanes = refl; ops = refl; gives = refl },
    )

step_end : (p : Stage) (d : DraftLists) (ls : List Line) → Step end p d ls
unfolding may_stand Shape
step_end stages.Ops d ls known stands count range frames h = phase_ends d ls (as_gives d ls stands h)
step_end stages.Gives d ls known stands count range frames h = phase_ends d ls h
step_end stages.Start d ls known stands count range frames h = absurd cc
step_end (stages.Awaiting k) d ls known stands count range frames h = absurd cc
step_end stages.Phases d ls known stands count range frames h = absurd cc
step_end stages.Turns d ls known stands count range frames h = absurd cc
step_end stages.Finished d ls known stands count range frames h = absurd cc

step_done : (p : Stage) (d : DraftLists) (ls : List Line) → Step done p d ls
unfolding may_stand put_lists Shape
step_done stages.Phases d ls known stands count range frames h = (
  on ls (closed_lines d) done h.0 ∙ append_assoc (version d.progress.version ∷ setup_lines d.progress.setup) (flat_map phase_lines d.phases) (done ∷ []),
  record { version = h.1.version; known = h.1.known; budgets = h.1.budgets; setup = h.1.setup; phases = h.1.phases },
)
step_done stages.Start d ls known stands count range frames h = absurd cc
step_done (stages.Awaiting k) d ls known stands count range frames h = absurd cc
step_done stages.Turns d ls known stands count range frames h = absurd cc
step_done stages.Ops d ls known stands count range frames h = absurd cc
step_done stages.Gives d ls known stands count range frames h = absurd cc
step_done stages.Finished d ls known stands count range frames h = absurd cc

pub step : (l : Line) (p : Stage) (d : DraftLists) (ls : List Line) → Step l p d ls
step (version n) p d ls = step_version n p d ls
step (setting k n) p d ls = first_setting k n p d ls
step phase p d ls = step_phase p d ls
step (turn shift hints) p d ls = step_turn shift hints p d ls
step (lane j) p d ls = step_lane j p d ls
step (op o) p d ls = step_op o p d ls
step (give g) p d ls = step_give g p d ls
step (freeze domain) p d ls = step_freeze domain p d ls
step end p d ls = step_end p d ls
step done p d ls = step_done p d ls

pub steps : (more : List Line) (d : DraftLists) (ls : List Line) → Shape d.progress.stage d ls → Follow d.progress more → Shape (put_all d more).progress.stage (put_all d more) (ls ++ more)
steps [] d ls h f = subst (λ (xs : List Line). Shape d.progress.stage d xs) (sym (append-nil ls)) h
steps (l ∷ more) d ls h f =
    let one = step l d.progress.stage d ls f.0.known f.0.stands f.0.count f.0.range f.0.frames h in
    subst (λ (xs : List Line). Shape (put_all d (l ∷ more)).progress.stage (put_all d (l ∷ more)) xs) (append_assoc ls (l ∷ []) more) (steps more (put l d) (ls ++ l ∷ []) one f.1)

pub at_start : Shape stages.Start empty_draft []
unfolding Shape
at_start = (refl, record { phases = refl; begun = record { turns = refl; lanes = refl; ops = refl; gives = refl } })

finished_shape : (d : DraftLists) (ls : List Line) → Shape stages.Finished d ls → (ls ≡ trace_lines (trace_of_draft d)) × IsTrace (trace_of_draft d)
unfolding Shape
finished_shape d ls h = h

-- lines that pass from the first to `done` are those of a well-formed trace
pub passing_lines : (ls : List Line) → Follow start ls → (put_all empty_draft ls).progress.stage ≡ stages.Finished → (ls ≡ trace_lines (trace_of_draft (put_all empty_draft ls))) × IsTrace (trace_of_draft (put_all empty_draft ls))
passing_lines ls f is = finished_shape (put_all empty_draft ls) ls (subst (λ p. Shape p (put_all empty_draft ls) ls) is (steps ls empty_draft [] at_start f))
