-- What contracts see of a source and of sinks in memory.
use Rattle.std.specs.Prelude.{ℕ, ◌+◌, ◌-◌, List, ◌++◌, length, take, drop, Contains, Result, Ok, Err}
use Rattle.bc_io.specs.FaultCounts.{counted}

-- a source in memory: the bytes that it has left, how many it gives in a call at most, the numbers of the calls that
-- fail, how many calls were made, and how many of them failed
pub record SourceScript : Type 0 where
  pub left : List ℕ
  pub piece : ℕ
  pub failing : List ℕ
  pub calls : ℕ
  pub faults : ℕ

-- a sink that never fails: the bytes that it holds, and how many more it has room for
pub record Reserved : Type 0 where
  pub held : List ℕ
  pub spare : ℕ

-- a sink in memory: the bytes that it holds, how many more it has room for, how many it takes in a call at most, the
-- numbers of the calls that fail, how many calls were made, and how many of them failed
pub record SinkScript : Type 0 where
  pub held : List ℕ
  pub room : ℕ
  pub piece : ℕ
  pub failing : List ℕ
  pub calls : ℕ
  pub faults : ℕ

-- After this number of calls the next one fails: its number, counted from 1, is in the list.
abbrev pub FailsNext : List ℕ → ℕ → Type 0
FailsNext failing calls = Contains failing (calls + 1)

-- the source after a read that gave n bytes, or that failed
abbrev pub after_read : {E : Type 0} → SourceScript → Result ℕ E → SourceScript
after_read source (Ok n) = record source { left = drop n source.left; calls = counted source.calls }
after_read source (Err _) = record source { calls = counted source.calls; faults = source.faults + 1 }

-- the sink after a write that took the first n of these bytes, or that failed
abbrev pub after_write : {E : Type 0} → SinkScript → List ℕ → Result ℕ E → SinkScript
after_write sink bytes (Ok n) =
    record sink { held = sink.held ++ take n bytes; room = sink.room - n; calls = counted sink.calls }
after_write sink bytes (Err _) = record sink { calls = counted sink.calls; faults = sink.faults + 1 }

-- a sink with room for these bytes takes them all
abbrev pub filled_with : Reserved → List ℕ → Reserved
filled_with sink bytes = record { held = sink.held ++ bytes; spare = sink.spare - length bytes }
