-- In the theorem.
-- The texts that a replay prints.
use Rattle.std.specs.Prelude.{ℕ, suc, List, [], ◌∷◌, ◌++◌, codes}
use Rattle.std.specs.List.{flat_map}
use Rattle.std.specs.Fmt.{decimal}
use Rattle.bc_model.specs.declared.operations.Reply.{Reply}
use Rattle.bc_model.specs.declared.operations.Reply.TheVariants as replies

-- a reply without its line feed
unfoldable pub reply_word : Reply → List ℕ
reply_word (replies.Obj b) = codes "obj " ++ decimal b.lane ++ codes "." ++ decimal b.serial
reply_word replies.Done = codes "ok"
reply_word replies.Nil = codes "nil"
reply_word (replies.Num v) = codes "num " ++ decimal v
reply_word replies.Ref = codes "ref"
reply_word (replies.Len n) = codes "len " ++ decimal n
reply_word replies.Yes = codes "yes"
reply_word replies.No = codes "no"
reply_word replies.NotObj = codes "notobj"
reply_word replies.Range = codes "range"
reply_word replies.Foreign = codes "foreign"
reply_word replies.Frozen = codes "frozen"

-- the line of a reply
abbrev pub reply_text : Reply → List ℕ
reply_text r = reply_word r ++ 10 ∷ []

-- a lane's line, and its replies
unfoldable pub lane_text : ℕ → List Reply → List ℕ
lane_text j rs = codes "lane " ++ decimal j ++ 10 ∷ [] ++ flat_map reply_text rs

-- the lanes from lane j on
abbrev pub lanes_text : ℕ → List (List Reply) → List ℕ
lanes_text j [] = []
lanes_text j (rs ∷ lanes) = lane_text j rs ++ lanes_text (suc j) lanes

-- the whole text of phase k, by the replies of each lane
unfoldable pub phase_text : ℕ → List (List Reply) → List ℕ
phase_text k lanes = codes "phase " ++ decimal k ++ 10 ∷ [] ++ lanes_text 0 lanes

-- the texts of the phases from phase k on
unfoldable pub phases_text : ℕ → List (List (List Reply)) → List ℕ
phases_text k [] = []
phases_text k (p ∷ ps) = phase_text k p ++ phases_text (suc k) ps

-- the last line of a whole run
unfoldable pub done_text : List ℕ
done_text = codes "done" ++ 10 ∷ []

-- the last line of a run whose heap is too small: it would need n superpages
unfoldable pub out_of_heap_text : ℕ → List ℕ
out_of_heap_text n = codes "out of heap " ++ decimal n ++ 10 ∷ []
