-- In the theorem.
-- A run of the one-thread heap: phase after phase, in each the operations of lane 0, then those of lane 1, and so on, and
-- then the gives and freezes in their order.
use Rattle.std.specs.Prelude.{ℕ, ◌+◌, ◌*◌, ◌%◌, List, [], ◌∷◌, map, replicate, take, slice_index_or}
use Rattle.bc_model.specs.Lists.{PhaseLists, TraceLists}
use Rattle.bc_model.specs.State.{State, changed, numbers_below}
use Rattle.bc_model.specs.Step.{step}
use Rattle.bc_model.specs.declared.operations.Op.{Op}
use Rattle.bc_model.specs.declared.operations.Reply.{Reply}
use Rattle.bc_model.specs.declared.traces.Change.{Change}
use Rattle.bc_model.specs.declared.traces.Setup.{Setup}
use Rattle.bc_model.specs.declared.values.Holder.TheVariants.{Lane}
use Rattle.bc_model.specs.declared.values.Value.TheVariants.{Nil}

-- no object, every slot nil, and domain d held by lane d mod lanes
abbrev pub opening : Setup → State
opening s = record {
  width = s.slots;
  made = replicate s.lanes [];
  slots = replicate (s.slots * s.domains) Nil;
  holders = map (λ d. Lane (d % s.lanes)) (numbers_below s.domains);
}

-- the state after a lane's operations
unfoldable pub after_ops : State → ℕ → List Op → State
after_ops s j [] = s
after_ops s j (o ∷ ops) = after_ops (step s j o).0 j ops

-- the replies to them
unfoldable pub replies_to : State → ℕ → List Op → List Reply
replies_to s j [] = []
replies_to s j (o ∷ ops) = (step s j o).1 ∷ replies_to (step s j o).0 j ops

-- the state after the operations of lane j, then those of lane j + 1, and so on
unfoldable pub after_lanes : State → ℕ → List (List Op) → State
after_lanes s j [] = s
after_lanes s j (ops ∷ lanes) = after_lanes (after_ops s j ops) (j + 1) lanes

-- the replies to each of these lanes
unfoldable pub replies_to_lanes : State → ℕ → List (List Op) → List (List Reply)
replies_to_lanes s j [] = []
replies_to_lanes s j (ops ∷ lanes) = replies_to s j ops ∷ replies_to_lanes (after_ops s j ops) (j + 1) lanes

-- the state after some changes of holders, one after another
unfoldable pub after_changes : State → List Change → State
after_changes s [] = s
after_changes s (c ∷ changes) = after_changes (changed s c) changes

-- the state after a phase: after the operations of all lanes, and then its gives and freezes
abbrev pub after_phase : State → PhaseLists → State
after_phase s p = after_changes (after_lanes s 0 p.lanes) p.gives

-- the state after some phases
unfoldable pub after_phases : State → List PhaseLists → State
after_phases s [] = s
after_phases s (p ∷ phases) = after_phases (after_phase s p) phases

-- the replies of each phase
unfoldable pub replies_of_phases : State → List PhaseLists → List (List (List Reply))
replies_of_phases s [] = []
replies_of_phases s (p ∷ phases) = replies_to_lanes s 0 p.lanes ∷ replies_of_phases (after_phase s p) phases

-- the first operations of each lane, so many as the cut says
unfoldable pub cut_lanes : List ℕ → List (List Op) → List (List Op)
cut_lanes cut [] = []
cut_lanes [] (ops ∷ lanes) = [] ∷ cut_lanes [] lanes
cut_lanes (n ∷ cut) (ops ∷ lanes) = take n ops ∷ cut_lanes cut lanes

-- what stands for a phase after the last one
abbrev pub no_phase : PhaseLists
no_phase = record { turns = []; lanes = []; gives = [] }

-- phase k of a trace, counted from 0
abbrev pub phase_at : TraceLists → ℕ → PhaseLists
phase_at t k = slice_index_or t.phases k no_phase

-- the state before phase k, counted from 0
abbrev pub before : TraceLists → ℕ → State
before t k = after_phases (opening t.setup) (take k t.phases)

-- the state in phase k after the first cut[0] operations of lane 0, the first cut[1] of lane 1, and so on
abbrev pub after_cut : TraceLists → ℕ → List ℕ → State
after_cut t k cut = after_lanes (before t k) 0 (cut_lanes cut (phase_at t k).lanes)

-- what each lane was answered in that part of phase k
abbrev pub replies_of_cut : TraceLists → ℕ → List ℕ → List (List Reply)
replies_of_cut t k cut = replies_to_lanes (before t k) 0 (cut_lanes cut (phase_at t k).lanes)

-- the state after the whole trace
abbrev pub final_state : TraceLists → State
final_state t = after_phases (opening t.setup) t.phases

-- what each lane is answered in each phase of a whole run
abbrev pub replies_of : TraceLists → List (List (List Reply))
replies_of t = replies_of_phases (opening t.setup) t.phases
