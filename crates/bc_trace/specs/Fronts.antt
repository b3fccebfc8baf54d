-- Lines that may begin a trace, and lines that a trace may go on with.
use Rattle.std.specs.Prelude.{◌≡◌, List, [], ◌∷◌, ◌++◌}
use Rattle.bc_model.specs.Lists.{TraceLists}
use Rattle.bc_model.specs.WellFormed.{IsTrace}
use Rattle.bc_trace.specs.declared.words.Keyword.{Keyword}
use Rattle.bc_trace.specs.Lines.{Line, word_of_line, trace_lines}

-- these are the first lines of some well-formed trace
pub record Begins (ls : List Line) : Type 0 where
  pub trace : TraceLists
  pub formed : IsTrace trace
  pub rest : List Line
  pub lines : trace_lines trace ≡ ls ++ rest

-- some well-formed trace goes on after these lines with a line of the word
pub record GoesOnWith (before : List Line) (w : Keyword) : Type 0 where
  pub line : Line
  pub word : word_of_line line ≡ w
  pub begins : Begins (before ++ line ∷ [])
