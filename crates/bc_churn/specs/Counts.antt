-- In the theorem.
-- The counts of the replies of a run by their kinds, and the output of `churn`.
use Rattle.std.specs.Prelude.{ℕ, ◌==◌, List, [], ◌∷◌, ◌++◌, codes, map, slice_index, suc}
use Rattle.std.specs.List.{count_by, flat_map}
use Rattle.std.specs.Fmt.{decimal}
use Rattle.bc_model.specs.State.{numbers_below}
use Rattle.bc_model.specs.declared.operations.Reply.{Reply}
use Rattle.bc_model.specs.declared.operations.Reply.TheVariants as replies
use Rattle.bc_trace.specs.Replies.{done_text}

-- the place of a reply's kind among the twelve, of which eleven are printed: no trace of version 1 has a reply of the last
unfoldable pub kind_of_reply : Reply → ℕ
kind_of_reply (replies.Obj b) = 0
kind_of_reply replies.Done = 1
kind_of_reply replies.Nil = 2
kind_of_reply (replies.Num v) = 3
kind_of_reply replies.Ref = 4
kind_of_reply (replies.Len n) = 5
kind_of_reply replies.Yes = 6
kind_of_reply replies.No = 7
kind_of_reply replies.NotObj = 8
kind_of_reply replies.Range = 9
kind_of_reply replies.Foreign = 10
kind_of_reply replies.Frozen = 11

-- how the eleven kinds are written that are printed, each at its place
abbrev pub kind_names : List (List ℕ)
kind_names = codes "obj" ∷ codes "ok" ∷ codes "nil" ∷ codes "num" ∷ codes "ref" ∷ codes "len" ∷ codes "yes" ∷ codes "no" ∷ codes "notobj" ∷ codes "range" ∷ codes "foreign" ∷ []

-- how many of the replies are of the kind
abbrev pub count_of_kind : ℕ → List Reply → ℕ
count_of_kind k rs = count_by (λ r. kind_of_reply r == k) rs

-- the twelve counts, each at the place of its kind
unfoldable pub counts : List Reply → List ℕ
counts rs = map (λ k. count_of_kind k rs) (numbers_below 12)

-- the replies of a phase, lane after lane
abbrev pub phase_replies : List (List Reply) → List Reply
phase_replies lanes = flat_map (λ rs. rs) lanes

-- the replies of phases, one after another
abbrev pub all_replies : List (List (List Reply)) → List Reply
all_replies phases = flat_map phase_replies phases

-- how many of them are of each kind
abbrev pub run_counts : List (List (List Reply)) → List ℕ
run_counts phases = counts (all_replies phases)

-- ---- the output

-- a name and how many
unfoldable pub count_line : List ℕ → ℕ → List ℕ
count_line name n = name ++ 32 ∷ decimal n ++ 10 ∷ []

-- from the count at k on, each after its name, as many as there are names
abbrev pub count_lines : List (List ℕ) → List ℕ → ℕ → List ℕ
count_lines [] cs k = []
count_lines (name ∷ names) cs k = count_line name (slice_index cs k) ++ count_lines names cs (suc k)

-- the first line of the output
unfoldable pub churn_line : ℕ → ℕ → List ℕ
churn_line start ops = codes "churn " ++ decimal start ++ 32 ∷ decimal ops ++ 10 ∷ []

-- the line of the workload, the first eleven counts, and the last line
unfoldable pub churn_text : ℕ → ℕ → List ℕ → List ℕ
churn_text start ops cs = churn_line start ops ++ count_lines kind_names cs 0 ++ done_text
