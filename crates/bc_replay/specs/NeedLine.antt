-- The line of the need.
use Rattle.std.specs.Prelude.{ℕ, List, [], take, Option, Some, None}
use Rattle.bc_model.specs.Lists.{TraceLists}
use Rattle.bc_model.specs.Run.{opening, replies_of_phases}
use Rattle.bc_model.specs.declared.operations.Reply.{Reply}
use Rattle.bc_trace.specs.Replies.{out_of_heap_text}

-- the line of the need, where there is one
abbrev pub need_line : Option ℕ → List ℕ
need_line None = []
need_line (Some need) = out_of_heap_text need

-- the replies to the first k phases of a run
abbrev pub replies_before : TraceLists → ℕ → List (List (List Reply))
replies_before t k = replies_of_phases (opening t.setup) (take k t.phases)
