-- What a line of the reader stands for.
use Rattle.std.specs.Prelude.{◌≡◌, ℕ, ◌+◌, ◌<◌, ◌≤◌, ◌^◌, ⊤, List, ◌∷◌, ◌++◌, length, take, slice_index, Result, Ok, Err}
use Rattle.std.specs.List.{flat_map}
use Rattle.std.specs.Fmt.{decimal}
use Rattle.bc_trace.specs.declared.fault.Cause.{Cause}
use Rattle.bc_trace.specs.declared.grammar.Progress.{Progress}
use Rattle.bc_trace.specs.declared.line.Line.{Line as ReadLine}
use Rattle.bc_trace.specs.declared.line.Line.TheVariants as lines
use Rattle.bc_trace.specs.declared.line.Shift.{Shift}
use Rattle.bc_trace.specs.declared.line.Shift.TheVariants as shifts
use Rattle.bc_trace.specs.Lines.{Line, version, setting, phase, turn, lane, op, give, freeze, end, done, line_text}
use Rattle.bc_trace.specs.Grammar.{Passes}

-- by the numbers of the buffer
abbrev pub said : ReadLine → List ℕ → Line
said (lines.Version n) ns = version n
said (lines.Setting k n) ns = setting k n
said lines.Phase ns = phase
said (lines.Turn shift count) ns = turn shift (take count ns)
said (lines.Lane j) ns = lane j
said (lines.Op o) ns = op o
said (lines.Give g) ns = give g
said (lines.Freeze d) ns = freeze d
said lines.End ns = end
said lines.Done ns = done

-- the function's answer is the reader's
abbrev pub Reads : Result Line Cause → Result ReadLine Cause → List ℕ → Type 0
Reads line (Ok l) ns = line ≡ Ok (said l ns)
Reads line (Err cause) ns = line ≡ Err cause

-- all numbers are hints
abbrev pub AreHints : List ℕ → Type 0
AreHints ns = (i : ℕ) → slice_index ns i < 2 ^ 32

-- the hints of a turn are all of these numbers
abbrev pub HoldsAllHints : ReadLine → List ℕ → Type 0
HoldsAllHints (lines.Turn shift count) ns = (count ≡ length ns) × AreHints ns
HoldsAllHints l ns = ⊤

-- the hints of a turn stand in the buffer
abbrev pub FitsBuffer : ReadLine → List ℕ → Type 0
FitsBuffer (lines.Turn shift count) ns = (count ≤ length ns) × AreHints (take count ns)
FitsBuffer l ns = ⊤

-- the number of withheld frames after it can be counted
abbrev pub CanShift : ℕ → Shift → Type 0
CanShift withheld shifts.Stays = ⊤
CanShift withheld (shifts.Withhold k) = withheld + k < 2 ^ 32
CanShift withheld (shifts.Return k) = k ≤ withheld

-- the number of withheld frames after the line can be counted
abbrev pub CanGoOn : Progress → ReadLine → Type 0
CanGoOn s (lines.Turn shift count) = CanShift s.withheld shift
CanGoOn s l = ⊤

-- the setup's numbers are in range, and no more lanes stood than n
pub record IsSmall (s : Progress) (n : ℕ) : Type 0 where
  pub lanes : s.setup.lanes ≤ 16
  pub nursery : s.setup.nursery ≤ 16
  pub superpages : s.setup.superpages ≤ 4096
  pub stood : s.stood ≤ n

-- ---- text that is read ahead

-- each number after a space
unfoldable pub operands_text : List ℕ → List ℕ
operands_text ns = flat_map (λ n. 32 ∷ decimal n) ns

-- the text begins with this line, which passes, and goes on like this
pub record IsAhead (s : Progress) (text : List ℕ) (l : Line) (rest : List ℕ) : Type 0 where
  pub passes : Passes s l
  pub begins : text ≡ line_text l ++ rest
