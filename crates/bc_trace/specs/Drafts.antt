-- A trace that is being read: the lines so far, put together.
use Rattle.std.specs.Prelude.{◌==◌, if◌then◌else◌, List, [], ◌∷◌, ◌++◌, map}
use Rattle.bc_model.specs.Lists.{PhaseLists, TurnLists}
use Rattle.bc_model.specs.declared.operations.Op.{Op}
use Rattle.bc_model.specs.declared.traces.Change.{Change}
use Rattle.bc_model.specs.declared.traces.Change.TheVariants as changes
use Rattle.bc_trace.specs.declared.draft.Draft.{Draft}
use Rattle.bc_trace.specs.declared.grammar.Progress.{Progress}
use Rattle.bc_trace.specs.Lines.{Line, turn, lane, op, give, freeze, end}
use Rattle.bc_trace.specs.Grammar.{start, shifted, after}

-- the phases that were read, and what was read of the next one: its turns, the lanes before the
-- last one that was begun, that lane's operations, and its gives and freezes
pub record DraftLists : Type 0 where
  pub progress : Progress
  pub phases : List PhaseLists
  pub turns : List TurnLists
  pub lanes : List (List Op)
  pub ops : List Op
  pub gives : List Change

-- what contracts see of a draft
abbrev pub shown : Draft → DraftLists
shown d = record { progress = d.progress; phases = d.phases.items; turns = d.turns.items; lanes = map (λ v. v.items) d.lanes.items; ops = d.ops.items; gives = d.gives.items }

-- a draft without a line
abbrev pub empty_draft : DraftLists
empty_draft = record { progress = start; phases = []; turns = []; lanes = []; ops = []; gives = [] }

-- the lane that was begun last stands among the others
abbrev pub lanes_ended : DraftLists → DraftLists
lanes_ended d = record d { lanes = d.lanes ++ d.ops ∷ []; ops = [] }

-- the phase stands among the others
abbrev pub phase_ended : DraftLists → DraftLists
phase_ended d = record { progress = d.progress; phases = d.phases ++ record { turns = d.turns; lanes = d.lanes ++ d.ops ∷ []; gives = d.gives } ∷ []; turns = []; lanes = []; ops = []; gives = [] }

-- the lists with one more line
unfoldable pub put_lists : Line → DraftLists → DraftLists
put_lists (turn shift hints) d = record d { turns = d.turns ++ record { withheld = shifted shift d.progress.withheld; hints = hints } ∷ [] }
put_lists (lane j) d = if d.progress.stood == 0 then d else lanes_ended d
put_lists (op o) d = record d { ops = d.ops ++ o ∷ [] }
put_lists (give g) d = record d { gives = d.gives ++ changes.Give g ∷ [] }
put_lists (freeze domain) d = record d { gives = d.gives ++ changes.Freeze domain ∷ [] }
put_lists end d = phase_ended d
put_lists l d = d

-- the draft with one more line
abbrev pub put : Line → DraftLists → DraftLists
put l d = record (put_lists l d) { progress = after l d.progress }
