-- Which replies have a line, and which line is the last.
use Rattle.std.specs.Prelude.{◌≡◌, ◌⊎◌, ℕ, ◌^◌, ◌<◌, List, []}
use Rattle.std.specs.List.{AllByRecursion}
use Rattle.bc_model.specs.declared.operations.Reply.{Reply}
use Rattle.bc_model.specs.declared.operations.Reply.TheVariants as replies
use Rattle.bc_trace.specs.Replies.{done_text, out_of_heap_text}

-- the numbers in a reply fit a `u64`
abbrev pub FitsReply : Reply → Type 0
FitsReply (replies.Obj b) = (b.lane < 2 ^ 64) × (b.serial < 2 ^ 64)
FitsReply (replies.Num v) = v < 2 ^ 64
FitsReply (replies.Len n) = n < 2 ^ 64
FitsReply _ = Unit {0}

-- the numbers in each reply of each lane of a phase fit a `u64`
abbrev pub FitsPhase : List (List Reply) → Type 0
FitsPhase lanes = AllByRecursion (AllByRecursion FitsReply) lanes

-- what may follow the texts of phases: nothing, or one of the two last lines
abbrev pub IsLastLine : List ℕ → Type 0
IsLastLine text = (text ≡ []) ⊎ (text ≡ done_text) ⊎ ((n : ℕ) × (text ≡ out_of_heap_text n))
