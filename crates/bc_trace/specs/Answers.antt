-- What the reader answers.
use Rattle.std.specs.Prelude.{◌≡◌, ℕ, ⊤, List, Result, Ok, Err}
use Rattle.bc_model.specs.Lists.{TraceLists}
use Rattle.bc_trace.specs.declared.fault.ReadTrace.{ReadTrace}
use Rattle.bc_trace.specs.declared.fault.ReadTrace.TheVariants as answers
use Rattle.bc_trace.specs.declared.fault.TraceFault.{TraceFault}
use Rattle.bc_trace.specs.Faults.{Fault}

-- this is the text's fault, or memory ran out
abbrev pub TellsFault : List ℕ → ReadTrace → Type 0
TellsFault bytes (answers.Fault f) = Fault bytes f.line f.cause
TellsFault bytes answers.NoMemory = ⊤

-- the answer is this fault, or memory ran out
abbrev pub IsFaultOrMemory : TraceFault → ReadTrace → Type 0
IsFaultOrMemory f (answers.Fault g) = g ≡ f
IsFaultOrMemory f answers.NoMemory = ⊤

-- the answer is the function's, unless memory ran out
abbrev pub Gives : Result TraceLists ReadTrace → Result TraceLists TraceFault → Type 0
Gives (Ok t) read = read ≡ Ok t
Gives (Err (answers.Fault f)) read = read ≡ Err f
Gives (Err answers.NoMemory) read = ⊤
