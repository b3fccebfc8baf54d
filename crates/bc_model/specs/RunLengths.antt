-- How many operations a phase and a trace have, and all replies of a run.
use Rattle.std.specs.Prelude.{ℕ, length, sum_by}
use Rattle.bc_model.specs.Lists.{PhaseLists, TraceLists}

-- how many operations a phase has, and a whole trace
abbrev pub ops_of : PhaseLists → ℕ
ops_of p = sum_by length p.lanes

-- how many operations a trace has
abbrev pub all_ops_of : TraceLists → ℕ
all_ops_of t = sum_by ops_of t.phases
