-- Steps of several lanes in any order.
use Rattle.std.specs.Prelude.{◌≡◌, ℕ, ◌<◌, ◌==◌, if◌then◌else◌, List, [], ◌∷◌, length, map, filter, slice_index_or}
use Rattle.std.specs.List.{AllByRecursion}
use Rattle.bc_model.specs.StateSizes.{sizes_of}
use Rattle.bc_model.specs.Run.{after_lanes, replies_to_lanes}
use Rattle.bc_model.specs.State.{State}
use Rattle.bc_model.specs.Step.{step}
use Rattle.bc_model.specs.WellFormed.{IsOp}
use Rattle.bc_model.specs.declared.operations.Op.{Op}
use Rattle.bc_model.specs.declared.operations.Reply.{Reply}

-- an operation and the lane that does it
pub record LaneOp : Type 0 where
  pub lane : ℕ
  pub op : Op

-- the state after all of them, one after another
unfoldable pub after_steps : State → List LaneOp → State
after_steps s [] = s
after_steps s (x ∷ xs) = after_steps (step s x.lane x.op).0 xs

-- what a lane is answered among them
unfoldable pub replies_by : State → ℕ → List LaneOp → List Reply
replies_by s j [] = []
replies_by s j (x ∷ xs) =
    if x.lane == j
    then (step s x.lane x.op).1 ∷ replies_by (step s x.lane x.op).0 j xs
    else replies_by (step s x.lane x.op).0 j xs

-- the operations of a lane among them, in their order
abbrev pub ops_by : ℕ → List LaneOp → List Op
ops_by j xs = map (λ x. x.op) (filter (λ x. x.lane == j) xs)

-- each is an operation of a lane of the state, and fits its sizes
abbrev pub FitSteps : State → List LaneOp → Type 0
FitSteps s xs = AllByRecursion (λ x. (x.lane < length s.made) × IsOp (sizes_of s) x.op) xs

-- the steps are the operations of the lanes, those of each lane in their order: there is a list for each lane of the
-- state, of operations that fit its sizes
pub record IsInterleaving (s : State) (lanes : List (List Op)) (xs : List LaneOp) : Type 0 where
  pub each : length lanes ≡ length s.made
  pub fits : AllByRecursion (AllByRecursion (IsOp (sizes_of s))) lanes
  pub below : AllByRecursion (λ x. x.lane < length s.made) xs
  pub ops : (j : ℕ) → j < length lanes → ops_by j xs ≡ slice_index_or lanes j []

-- the state and the replies are those of lane after lane
pub record IsAsInOrder (s : State) (lanes : List (List Op)) (xs : List LaneOp) : Type 0 where
  pub state : after_steps s xs ≡ after_lanes s 0 lanes
  pub replies : (j : ℕ) → j < length lanes → replies_by s j xs ≡ slice_index_or (replies_to_lanes s 0 lanes) j []

-- two steps in either order: one state, and each gets the reply that it gets alone
pub record Commute (s : State) (j : ℕ) (o : Op) (k : ℕ) (p : Op) : Type 0 where
  pub state : (step (step s j o).0 k p).0 ≡ (step (step s k p).0 j o).0
  pub first : (step (step s k p).0 j o).1 ≡ (step s j o).1
  pub second : (step (step s j o).0 k p).1 ≡ (step s k p).1
