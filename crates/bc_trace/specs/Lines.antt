-- In the theorem.
-- The lines of a trace, and its one text.
use Rattle.std.specs.Prelude.{◌≡◌, ℕ, suc, ◌-◌, nat_lt, if◌then◌else◌, List, [], ◌∷◌, ◌++◌, map}
use Rattle.std.specs.List.{flat_map}
use Rattle.std.specs.Fmt.{decimal}
use Rattle.bc_model.specs.Lists.{PhaseLists, TraceLists, TurnLists}
use Rattle.bc_model.specs.WellFormed.{IsTrace}
use Rattle.bc_model.specs.declared.operations.Op.{Op}
use Rattle.bc_model.specs.declared.operations.Op.TheVariants as ops
use Rattle.bc_model.specs.declared.traces.Change.{Change}
use Rattle.bc_model.specs.declared.traces.Change.TheVariants as changes
use Rattle.bc_model.specs.declared.traces.Give.{Give}
use Rattle.bc_model.specs.declared.traces.Setup.{Setup}
use Rattle.bc_trace.specs.declared.line.Shift.{Shift}
use Rattle.bc_trace.specs.declared.line.Shift.TheVariants as shifts
use Rattle.bc_trace.specs.declared.words.Setting.{Setting}
use Rattle.bc_trace.specs.declared.words.Setting.TheVariants as settings
use Rattle.bc_trace.specs.declared.words.Verb.{Verb}
use Rattle.bc_trace.specs.declared.words.Verb.TheVariants as verbs
use Rattle.bc_trace.specs.declared.words.Keyword.{Keyword}
use Rattle.bc_trace.specs.declared.words.Keyword.TheVariants as words
use Rattle.bc_trace.specs.Words.{name}

-- a line of a trace, by its word and its operands; a turn's are what becomes of the withheld frames, and its hints
pub data Line : Type 0 where
  version : ℕ → Line
  setting : Setting → ℕ → Line
  phase : Line
  turn : Shift → List ℕ → Line
  lane : ℕ → Line
  op : Op → Line
  give : Give → Line
  freeze : ℕ → Line
  end : Line
  done : Line

-- an operation's word
abbrev pub verb_of_op : Op → Verb
verb_of_op (ops.New p n) = verbs.New
verb_of_op (ops.Who p) = verbs.Who
verb_of_op (ops.Len p) = verbs.Len
verb_of_op (ops.Set p i v) = verbs.Set
verb_of_op (ops.Cut p i) = verbs.Cut
verb_of_op (ops.Link p i q) = verbs.Link
verb_of_op (ops.Load p i q) = verbs.Load
verb_of_op (ops.Copy p q) = verbs.Copy
verb_of_op (ops.Clear p) = verbs.Clear
verb_of_op (ops.Same p q) = verbs.Same

-- the numbers that follow an operation's word
abbrev pub operands_of_op : Op → List ℕ
operands_of_op (ops.New p n) = p.domain ∷ p.slot ∷ n ∷ []
operands_of_op (ops.Who p) = p.domain ∷ p.slot ∷ []
operands_of_op (ops.Len p) = p.domain ∷ p.slot ∷ []
operands_of_op (ops.Set p i v) = p.domain ∷ p.slot ∷ i ∷ v ∷ []
operands_of_op (ops.Cut p i) = p.domain ∷ p.slot ∷ i ∷ []
operands_of_op (ops.Link p i q) = p.domain ∷ p.slot ∷ i ∷ q.domain ∷ q.slot ∷ []
operands_of_op (ops.Load p i q) = p.domain ∷ p.slot ∷ i ∷ q.domain ∷ q.slot ∷ []
operands_of_op (ops.Copy p q) = p.domain ∷ p.slot ∷ q.domain ∷ q.slot ∷ []
operands_of_op (ops.Clear p) = p.domain ∷ p.slot ∷ []
operands_of_op (ops.Same p q) = p.domain ∷ p.slot ∷ q.domain ∷ q.slot ∷ []

-- the word that a line begins with
abbrev pub word_of_line : Line → Keyword
word_of_line (version n) = words.Version
word_of_line (setting s n) = words.Setting s
word_of_line phase = words.Phase
word_of_line (turn shift hints) = words.Turn
word_of_line (lane j) = words.Lane
word_of_line (op o) = words.Op (verb_of_op o)
word_of_line (give g) = words.Give
word_of_line (freeze d) = words.Freeze
word_of_line end = words.End
word_of_line done = words.Done

-- what a line does to the frames that are withheld: only a turn's may change their number
abbrev pub shift_of : Line → Shift
shift_of (turn shift hints) = shift
shift_of _ = shifts.Stays

-- what changes the number is one operand, a sign and a number: a minus where so many frames more are withheld, a plus where so many
-- are returned
abbrev pub shift_words : Shift → List (List ℕ)
shift_words shifts.Stays = []
shift_words (shifts.Withhold k) = (45 ∷ decimal k) ∷ []
shift_words (shifts.Return k) = (43 ∷ decimal k) ∷ []

-- the number after that sign
abbrev pub shift_numbers : Shift → List ℕ
shift_numbers shifts.Stays = []
shift_numbers (shifts.Withhold k) = k ∷ []
shift_numbers (shifts.Return k) = k ∷ []

-- the numbers that follow the word, or the operand with a sign
abbrev pub operands : Line → List ℕ
operands (version n) = n ∷ []
operands (setting s n) = n ∷ []
operands phase = []
operands (turn shift hints) = hints
operands (lane j) = j ∷ []
operands (op o) = operands_of_op o
operands (give g) = g.domain ∷ g.lane ∷ []
operands (freeze d) = d ∷ []
operands end = []
operands done = []

-- all numbers of a line
abbrev pub numbers_of : Line → List ℕ
numbers_of l = shift_numbers (shift_of l) ++ operands l

-- a word, what changes the number of withheld frames, and numbers, single spaces between them
unfoldable pub spelling : Keyword → Shift → List ℕ → List ℕ
spelling w shift ns = name w ++ (flat_map (λ word. 32 ∷ word) (shift_words shift) ++ flat_map (λ n. 32 ∷ decimal n) ns)

-- the bytes of a line, its line feed too
unfoldable pub line_text : Line → List ℕ
line_text l = spelling (word_of_line l) (shift_of l) (operands l) ++ 10 ∷ []

-- the eight lines of a setup
abbrev pub setup_lines : Setup → List Line
setup_lines s = setting settings.Lanes s.lanes ∷ setting settings.Domains s.domains ∷ setting settings.Slots s.slots ∷ setting settings.Superpages s.superpages ∷ setting settings.Nursery s.nursery ∷ setting settings.Buffer s.buffer ∷ setting settings.Frames s.frames ∷ []

-- what brings the number of withheld frames from what it was to what it is now
unfoldable pub shift_between : ℕ → ℕ → Shift
shift_between before now = if nat_lt before now then shifts.Withhold (now - before) else if nat_lt now before then shifts.Return (before - now) else shifts.Stays

-- the lines of a phase's turns, where so many frames were withheld before them
abbrev pub turn_lines : ℕ → List TurnLists → List Line
turn_lines before [] = []
turn_lines before (t ∷ ts) = turn (shift_between before t.withheld) t.hints ∷ turn_lines t.withheld ts

-- the lines of the lanes of a phase from lane j on, each followed by its operations
abbrev pub lane_lines : ℕ → List (List Op) → List Line
lane_lines j [] = []
lane_lines j (os ∷ lanes) = lane j ∷ (map op os ++ lane_lines (suc j) lanes)

-- a domain changes hands, or is frozen
abbrev pub change_line : Change → Line
change_line (changes.Give g) = give g
change_line (changes.Freeze d) = freeze d

-- the lines of a phase: it begins with no frame withheld
abbrev pub phase_lines : PhaseLists → List Line
phase_lines p = phase ∷ (turn_lines 0 p.turns ++ (lane_lines 0 p.lanes ++ (map change_line p.gives ++ end ∷ [])))

-- the lines of a trace
abbrev pub trace_lines : TraceLists → List Line
trace_lines t = version t.version ∷ (setup_lines t.setup ++ (flat_map phase_lines t.phases ++ done ∷ []))

-- the one text of a trace
unfoldable pub trace_text : TraceLists → List ℕ
trace_text t = flat_map line_text (trace_lines t)

-- the bytes are the text of the trace, which is well formed
pub record Spells (bytes : List ℕ) (t : TraceLists) : Type 0 where
  pub trace : IsTrace t
  pub text : bytes ≡ trace_text t
