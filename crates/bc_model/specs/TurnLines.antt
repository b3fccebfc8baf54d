-- What the lines of a phase's turns say, line by line.
use Rattle.std.specs.Prelude.{ℕ, List, [], map, slice_index_or}
use Rattle.bc_model.specs.Lists.{TurnLists}

-- the hints of each line
abbrev pub hints_in : List TurnLists → List (List ℕ)
hints_in lines = map (λ line. line.hints) lines

-- the line that withholds nothing and has no hint
abbrev pub no_line : TurnLists
no_line = record { withheld = 0; hints = [] }

-- how many frames are withheld in a turn that uses this line; where there is no such line, none
abbrev pub budget_at : List TurnLists → ℕ → ℕ
budget_at lines line = (slice_index_or lines line no_line).withheld
