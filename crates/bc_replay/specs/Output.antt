-- In the theorem.
-- What a run writes.
use Rattle.std.specs.Prelude.{ℕ, ◌+◌, List, ◌++◌, take}
use Rattle.bc_model.specs.Lists.{PhaseLists}
use Rattle.bc_model.specs.Run.{replies_of_phases, replies_to_lanes}
use Rattle.bc_model.specs.State.{State}
use Rattle.bc_trace.specs.Replies.{phase_text, phases_text, done_text, out_of_heap_text}
use Rattle.bc_replay.specs.Courses.{Course, before, phase_at, replies_of_cut}

-- the texts of phases that are run from this state, the first of them with this number
unfoldable pub texts_from : ℕ → State → List PhaseLists → List ℕ
texts_from n s phases = phases_text n (replies_of_phases s phases)

-- the texts of the first k phases of a course
abbrev pub texts_before : Course → ℕ → List ℕ
texts_before c k = texts_from (c.first + 1) c.start (take k c.phases)

-- the texts of all phases
abbrev pub all_texts : Course → List ℕ
all_texts c = texts_from (c.first + 1) c.start c.phases

-- the whole output of a run that is done
abbrev pub whole_text : Course → List ℕ
whole_text c = all_texts c ++ done_text

-- the whole text of phase k, counted from 0: its number in the trace is k + first + 1
abbrev pub text_at : Course → ℕ → List ℕ
text_at c k = phase_text (k + c.first + 1) (replies_to_lanes (before c k) 0 (phase_at c k).lanes)

-- the text of phase k up to a cut, and then the line of the need
abbrev pub need_text : Course → ℕ → List ℕ → ℕ → List ℕ
need_text c k cut need = phase_text (k + c.first + 1) (replies_of_cut c k cut) ++ out_of_heap_text need

-- the texts of the phases before phase k, and then that of phase k up to a cut
abbrev pub cut_text : Course → ℕ → List ℕ → List ℕ
cut_text c k cut = texts_before c k ++ phase_text (k + c.first + 1) (replies_of_cut c k cut)
