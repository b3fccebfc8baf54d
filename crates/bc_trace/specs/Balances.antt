-- What a line withholds and returns.
use Rattle.std.specs.Prelude.{ℕ}
use Rattle.bc_trace.specs.declared.line.Shift.{Shift}
use Rattle.bc_trace.specs.declared.line.Shift.TheVariants as shifts
use Rattle.bc_trace.specs.Lines.{Line, shift_of}

-- how many frames more are withheld
abbrev pub more_withheld : Shift → ℕ
more_withheld (shifts.Withhold k) = k
more_withheld _ = 0

-- how many frames are returned
abbrev pub returned : Shift → ℕ
returned (shifts.Return k) = k
returned _ = 0

-- how many frames a line withholds
abbrev pub withheld_by : Line → ℕ
withheld_by l = more_withheld (shift_of l)

-- how many frames a line returns
abbrev pub returned_by : Line → ℕ
returned_by l = returned (shift_of l)
