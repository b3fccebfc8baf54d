-- In the theorem.
-- The workload of `churn`: the trace, of version 1, of a starting number and of so many drawn operations for each of its two lanes.
use Rattle.std.specs.Prelude.{ℕ, ◌+◌, ◌-◌, ◌*◌, ◌/◌, ◌%◌, min, List, [], ◌∷◌, ◌++◌, map, filter, zero, suc}
use Rattle.std.specs.List.{flat_map}
use Rattle.bc_model.specs.Lists.{PhaseLists, TraceLists, TurnLists}
use Rattle.bc_model.specs.Run.{opening, after_changes}
use Rattle.bc_model.specs.State.{holder_of, lets_write, numbers_below}
use Rattle.bc_model.specs.declared.operations.Op.{Op}
use Rattle.bc_model.specs.declared.operations.Op.TheVariants as ops
use Rattle.bc_model.specs.declared.traces.Change.{Change}
use Rattle.bc_model.specs.declared.traces.Change.TheVariants as changes
use Rattle.bc_model.specs.declared.traces.Give.{Give}
use Rattle.bc_model.specs.declared.traces.Setup.{Setup}
use Rattle.bc_model.specs.declared.values.Holder.{Holder}
use Rattle.bc_churn.specs.Draws.{draw, draws, next_number, number_after, drawn_op, number_after_ops}

-- two lanes, four domains of eight slots, 32 superpages
abbrev pub churn_setup : Setup
churn_setup = record { lanes = 2; domains = 4; slots = 8; superpages = 32; nursery = 2; buffer = 64; frames = 24 }

-- ---- a phase, from the number and the holders before it

-- the three hints of a turn
abbrev pub drawn_hints : ℕ → List ℕ
drawn_hints x = draws x (128 ∷ 128 ∷ 128 ∷ [])

-- a turn's line, which withholds nothing
abbrev pub drawn_turn : ℕ → TurnLists
drawn_turn x = record { withheld = 0; hints = drawn_hints x }

-- the number before lane j's draws: after six hints, and n operations of each lane before it
abbrev pub number_before_lane : ℕ → ℕ → ℕ → ℕ
number_before_lane n x zero = number_after 6 x
number_before_lane n x (suc j) = number_after_ops n (number_before_lane n x j)

-- n operations, drawn one after another
abbrev pub drawn_ops : ℕ → ℕ → List Op
drawn_ops n x = map (λ i. drawn_op (number_after_ops i x)) (numbers_below n)

-- those of the first n domains that lane j holds
abbrev pub held_below : List Holder → ℕ → ℕ → List ℕ
held_below holders j n = filter (λ d. lets_write (holder_of holders d) j) (numbers_below n)

-- a clear of each slot of a domain
unfoldable pub domain_clears : ℕ → List Op
domain_clears d = map (λ s. ops.Clear (record { domain = d; slot = s })) (numbers_below 8)

-- a clear of each slot of those of the first n domains that the lane holds
unfoldable pub clears_below : List Holder → ℕ → ℕ → List Op
clears_below holders j n = flat_map domain_clears (held_below holders j n)

-- what each lane begins a phase with: a clear of each slot of each domain that it holds
abbrev pub lane_clears : List Holder → ℕ → List Op
lane_clears holders j = clears_below holders j 4

-- the operations of a lane: its clears, and then n drawn ones
abbrev pub churn_lane : ℕ → ℕ → List Holder → ℕ → List Op
churn_lane n x holders j = lane_clears holders j ++ drawn_ops n (number_before_lane n x j)

-- the last draw of phase k, which counts from 0
abbrev pub churn_give : ℕ → ℕ → ℕ → Give
churn_give k n x = record { domain = (k + 1) % 4; lane = draw (number_before_lane n x 2) 2 }

-- phase k with n drawn operations a lane, from the number x before it and who holds the domains then
unfoldable pub phase_from : ℕ → ℕ → ℕ → List Holder → PhaseLists
phase_from k n x holders = record {
  turns = drawn_turn x ∷ drawn_turn (number_after 3 x) ∷ [];
  lanes = churn_lane n x holders 0 ∷ churn_lane n x holders 1 ∷ [];
  gives = changes.Give (churn_give k n x) ∷ [];
}

-- the number after a phase's draws, of which the give is the last
unfoldable pub number_after_phase : ℕ → ℕ → ℕ
number_after_phase n x = next_number (number_before_lane n x 2)

-- ---- the trace

-- a phase for each thousand drawn operations of a lane, or part of it
abbrev pub phases_of : ℕ → ℕ
phases_of ops = (ops + 999) / 1000

-- a thousand of them in each phase, and what is left in the last one
abbrev pub ops_in : ℕ → ℕ → ℕ
ops_in ops k = min 1000 (ops - 1000 * k)

-- the number before phase k
abbrev pub number_before : ℕ → ℕ → ℕ → ℕ
number_before start ops zero = start
number_before start ops (suc k) = number_after_phase (ops_in ops k) (number_before start ops k)

-- the give at the end of phase k
abbrev pub phase_give : ℕ → ℕ → ℕ → Give
phase_give start ops k = churn_give k (ops_in ops k) (number_before start ops k)

-- as one of the changes that a phase ends with
abbrev pub phase_change : ℕ → ℕ → ℕ → Change
phase_change start ops k = changes.Give (phase_give start ops k)

-- whose each domain is in phase k, by the gives of the phases before it
abbrev pub holders_before : ℕ → ℕ → ℕ → List Holder
holders_before start ops k = (after_changes (opening churn_setup) (map (phase_change start ops) (numbers_below k))).holders

-- phase k of the trace
abbrev pub churn_phase : ℕ → ℕ → ℕ → PhaseLists
churn_phase start ops k = phase_from k (ops_in ops k) (number_before start ops k) (holders_before start ops k)

-- the trace that `bc churn start ops` replays
unfoldable pub churn_trace : ℕ → ℕ → TraceLists
churn_trace start ops = record { version = 1; setup = churn_setup; phases = map (churn_phase start ops) (numbers_below (phases_of ops)) }
