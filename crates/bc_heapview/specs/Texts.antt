-- The texts of the answers.
use Rattle.std.specs.Prelude.{ℕ, List, [], ◌∷◌, ◌++◌, codes, length, Option, Some, None}
use Rattle.std.specs.List.{flat_map}
use Rattle.std.specs.Fmt.{decimal}
use Rattle.bc_model.specs.declared.values.Birth.{Birth}
use Rattle.bc_heapview.specs.PathLists.{PathList}
use Rattle.bc_heapview.specs.declared.tally.Count.{Count}
use Rattle.bc_heapview.specs.declared.steps.Step.{Step}

-- the line of a count
abbrev pub count_text : Count → List ℕ
count_text k =
    codes "domain " ++ decimal k.domain ++ codes " class " ++ decimal k.class ++ codes " objects " ++ decimal k.objects ++ codes " superpages " ++ decimal k.superpages ++ 10 ∷ []

-- the lines of counts, and of the need
abbrev pub counts_text : List Count → ℕ → List ℕ
counts_text counts need = flat_map count_text counts ++ (codes "need " ++ decimal need ++ 10 ∷ [])

-- the birth at the end of a line
abbrev pub birth_text : Birth → List ℕ
birth_text b = decimal b.lane ++ codes "." ++ decimal b.serial ++ 10 ∷ []

-- the line of a way's root slot
abbrev pub root_text : PathList → List ℕ
root_text p = codes "root " ++ decimal p.root.domain ++ codes " " ++ decimal p.root.slot ++ codes " " ++ birth_text p.first

-- the line of a field on a way
abbrev pub step_text : Step → List ℕ
step_text s = codes "field " ++ decimal s.field ++ codes " " ++ birth_text s.birth

-- the lines of a way, or that there is none
abbrev pub path_text : Option PathList → List ℕ
path_text None = codes "none" ++ 10 ∷ []
path_text (Some p) = root_text p ++ flat_map step_text p.steps

-- how many fields a way has
abbrev pub steps_in : Option PathList → ℕ
steps_in None = 0
steps_in (Some p) = length p.steps
