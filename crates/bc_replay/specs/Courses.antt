-- In the theorem.
-- A course: phases that are run from a state, the first of them with a number. A whole run of a trace is the course of all its
-- phases from the opening state, and what bc_model says of a trace is what is said here of that course.
use Rattle.std.specs.Prelude.{ℕ, List, drop, take, slice_index_or}
use Rattle.bc_model.specs.Lists.{PhaseLists, TraceLists}
use Rattle.bc_model.specs.Run.{opening, no_phase, after_phases, after_lanes, cut_lanes, replies_to_lanes}
use Rattle.bc_model.specs.State.{State}
use Rattle.bc_model.specs.declared.operations.Reply.{Reply}
use Rattle.bc_model.specs.declared.traces.Setup.{Setup}

-- the setup, the state before the first phase, how many phases stand before it, and the phases
pub record Course : Type 0 where
  pub setup : Setup
  pub start : State
  pub first : ℕ
  pub phases : List PhaseLists

-- the phases of a trace after its first k, from this state
abbrev pub course_from : TraceLists → State → ℕ → Course
course_from t s k = record { setup = t.setup; start = s; first = k; phases = drop k t.phases }

-- all phases of a trace, from the opening state
abbrev pub whole_course : TraceLists → Course
whole_course t = course_from t (opening t.setup) 0

-- phase k of a course, counted from 0 at its first
abbrev pub phase_at : Course → ℕ → PhaseLists
phase_at c k = slice_index_or c.phases k no_phase

-- the state before phase k, counted from 0 at the course's first
abbrev pub before : Course → ℕ → State
before c k = after_phases c.start (take k c.phases)

-- the state in phase k after the first cut[0] operations of lane 0, the first cut[1] of lane 1, and so on
abbrev pub after_cut : Course → ℕ → List ℕ → State
after_cut c k cut = after_lanes (before c k) 0 (cut_lanes cut (phase_at c k).lanes)

-- what each lane was answered in that part of phase k
abbrev pub replies_of_cut : Course → ℕ → List ℕ → List (List Reply)
replies_of_cut c k cut = replies_to_lanes (before c k) 0 (cut_lanes cut (phase_at c k).lanes)

-- the state after the last phase of a course
abbrev pub final_state : Course → State
final_state c = after_phases c.start c.phases
