-- Reading, as a function of the bytes. What it means is said by `Spells` and `Fault`: laws tie it to them.
use Rattle.std.specs.Prelude.{ℕ, ◌+◌, ◌-◌, ◌*◌, ◌^◌, ◌==◌, ◌&&◌, nat_lt, nat_le, Bool, true, false, not, if◌then◌else◌, List, [], ◌∷◌, length, slice_index, Option, Some, None, Result, Ok, Err}
use Rattle.std.specs.List.{list_all, slice_split}
use Rattle.std.specs.Str.{bytes_eq, all_ascii_digits}
use Rattle.bc_model.specs.Lists.{TraceLists}
use Rattle.bc_model.specs.declared.operations.Op.{Op}
use Rattle.bc_model.specs.declared.operations.Op.TheVariants as ops
use Rattle.bc_model.specs.declared.traces.Give.{Give}
use Rattle.bc_model.specs.declared.traces.Setup.{Setup}
use Rattle.bc_model.specs.declared.values.Slot.{Slot}
use Rattle.bc_trace.specs.declared.fault.Cause.{Cause}
use Rattle.bc_trace.specs.declared.fault.Cause.TheVariants as causes
use Rattle.bc_trace.specs.declared.fault.TraceFault.{TraceFault}
use Rattle.bc_trace.specs.declared.grammar.Stage.{Stage}
use Rattle.bc_trace.specs.declared.grammar.Stage.TheVariants as stages
use Rattle.bc_trace.specs.declared.grammar.Progress.{Progress}
use Rattle.bc_trace.specs.declared.line.Shift.{Shift}
use Rattle.bc_trace.specs.declared.line.Shift.TheVariants as shifts
use Rattle.bc_trace.specs.declared.words.Setting.{Setting}
use Rattle.bc_trace.specs.declared.words.Setting.TheVariants as settings
use Rattle.bc_trace.specs.declared.words.Verb.{Verb}
use Rattle.bc_trace.specs.declared.words.Verb.TheVariants as verbs
use Rattle.bc_trace.specs.declared.words.Keyword.{Keyword}
use Rattle.bc_trace.specs.declared.words.Keyword.TheVariants as words
use Rattle.bc_trace.specs.Words.{setting_name, verb_name, name}
use Rattle.bc_trace.specs.Lines.{Line, version, setting, phase, turn, lane, op, give, freeze, end, done}
use Rattle.bc_trace.specs.Grammar.{may_stand, arity}
use Rattle.bc_trace.specs.Drafts.{DraftLists, empty_draft, put}
use Rattle.bc_trace.specs.Faults.{line_words, sign_of, counted, lines_begun}

-- ---- words

-- the number is from the least to the most
abbrev pub is_within : ℕ → ℕ → ℕ → Bool
is_within least most n = nat_le least n && nat_le n most

-- whether a word must begin after this byte, if the byte may stand; fresh where a word must begin at it
unfoldable pub next_fresh : Bool → ℕ → Option Bool
next_fresh fresh b = if b == 32 then (if fresh then None else Some true) else (if is_within 33 126 b then Some false else None)

-- of an optional truth the one that is there passes the test
abbrev pub where_some : Option Bool → (Bool → Bool) → Bool
where_some None next = false
where_some (Some fresh) next = next fresh

-- what is left of a line is formed
unfoldable pub formed_from : Bool → List ℕ → Bool
formed_from fresh [] = not fresh
formed_from fresh (b ∷ bs) = where_some (next_fresh fresh b) (λ f. formed_from f bs)

-- the words of what follows a line's first word, from the space on
abbrev pub words_after : List ℕ → List (List ℕ)
words_after [] = []
words_after (b ∷ bs) = line_words bs

-- the first of these that is written so
abbrev pub named : {W : Type 0} → (W → List ℕ) → List W → List ℕ → Option W
named f [] bytes = None
named f (w ∷ ws) bytes = if bytes_eq bytes (f w) then Some w else named f ws bytes

-- the words of operations
abbrev pub all_verbs : List Verb
all_verbs = verbs.New ∷ verbs.Link ∷ verbs.Load ∷ verbs.Copy ∷ verbs.Set ∷ verbs.Clear ∷ verbs.Who ∷ verbs.Len ∷ verbs.Cut ∷ verbs.Same ∷ []

-- the words of the header
abbrev pub all_settings : List Setting
all_settings = settings.Lanes ∷ settings.Domains ∷ settings.Slots ∷ settings.Superpages ∷ settings.Nursery ∷ settings.Buffer ∷ settings.Frames ∷ []

-- the words of every version that are neither an operation's nor the header's
abbrev pub all_others : List Keyword
all_others = words.Turn ∷ words.Lane ∷ words.Give ∷ words.Phase ∷ words.End ∷ words.Done ∷ words.Version ∷ []

-- the words that a version has besides
abbrev pub later_words : ℕ → List Keyword
later_words v = if nat_le 2 v then words.Freeze ∷ [] else []

-- the first of two words that is there
abbrev pub or_word : Option Keyword → Option Keyword → Option Keyword
or_word None other = other
or_word (Some w) other = Some w

-- an operation's word as a word of the language
abbrev pub op_word : Option Verb → Option Keyword
op_word None = None
op_word (Some v) = Some (words.Op v)

-- a word of the header as a word of the language
abbrev pub setting_word : Option Setting → Option Keyword
setting_word None = None
setting_word (Some s) = Some (words.Setting s)

-- the word of this version of the language that is written so
unfoldable pub word_of : ℕ → List ℕ → Option Keyword
word_of v bytes = or_word (op_word (named verb_name all_verbs bytes)) (or_word (named name all_others bytes) (or_word (setting_word (named setting_name all_settings bytes)) (named name (later_words v) bytes)))

-- ---- numbers

-- the value of these digits after those of n
abbrev pub read_on : ℕ → List ℕ → ℕ
read_on n [] = n
read_on n (c ∷ cs) = read_on (n * 10 + (c - 48)) cs

-- the number that some digits spell
unfoldable pub digits_of : List ℕ → Option ℕ
digits_of word = if all_ascii_digits word && nat_lt (read_on 0 word) (2 ^ 63) then Some (read_on 0 word) else None

-- the number that a word spells, as numbers are written
unfoldable pub number_of : List ℕ → Option ℕ
number_of [] = None
number_of (b ∷ []) = digits_of (b ∷ [])
number_of (b ∷ c ∷ bs) = if b == 48 then None else digits_of (b ∷ c ∷ bs)

-- a number and those that follow it, where all are there
abbrev pub both : Option ℕ → Option (List ℕ) → Option (List ℕ)
both None ns = None
both (Some n) None = None
both (Some n) (Some ns) = Some (n ∷ ns)

-- the numbers that some words spell, where each spells one
unfoldable pub read_numbers : List (List ℕ) → Option (List ℕ)
read_numbers [] = Some []
read_numbers (w ∷ ws) = both (number_of w) (read_numbers ws)

-- what becomes of the withheld frames by a sign and the number after it
abbrev pub shift_by : ℕ → Option ℕ → Option Shift
shift_by b None = None
shift_by b (Some k) = Some (if b == 45 then shifts.Withhold k else shifts.Return k)

-- what the first operand does to the withheld frames, where it has this sign
abbrev pub shift_said : Option ℕ → List (List ℕ) → Option Shift
shift_said None others = Some shifts.Stays
shift_said (Some b) ((c ∷ bs) ∷ others) = shift_by b (number_of bs)
shift_said (Some b) _ = None

-- what a word with these operands does to the withheld frames, where what follows a sign is a number
unfoldable pub read_shift : ℕ → Keyword → List (List ℕ) → Option Shift
read_shift v w others = shift_said (sign_of v w others) others

-- ---- lines

-- so many numbers may follow the word
unfoldable pub has_count : Keyword → ℕ → Bool
has_count words.Turn n = nat_le n 64
has_count w n = n == arity w

-- the slot whose domain is the number at i
abbrev pub slot_at : List ℕ → ℕ → Slot
slot_at ns i = record { domain = slice_index ns i; slot = slice_index ns (i + 1) }

-- the operation of a word with its numbers
abbrev pub op_of : Verb → List ℕ → Op
op_of verbs.New ns = ops.New (slot_at ns 0) (slice_index ns 2)
op_of verbs.Who ns = ops.Who (slot_at ns 0)
op_of verbs.Len ns = ops.Len (slot_at ns 0)
op_of verbs.Set ns = ops.Set (slot_at ns 0) (slice_index ns 2) (slice_index ns 3)
op_of verbs.Cut ns = ops.Cut (slot_at ns 0) (slice_index ns 2)
op_of verbs.Link ns = ops.Link (slot_at ns 0) (slice_index ns 2) (slot_at ns 3)
op_of verbs.Load ns = ops.Load (slot_at ns 0) (slice_index ns 2) (slot_at ns 3)
op_of verbs.Copy ns = ops.Copy (slot_at ns 0) (slot_at ns 2)
op_of verbs.Clear ns = ops.Clear (slot_at ns 0)
op_of verbs.Same ns = ops.Same (slot_at ns 0) (slot_at ns 2)

-- the give of two numbers
abbrev pub give_at : List ℕ → Give
give_at ns = record { domain = slice_index ns 0; lane = slice_index ns 1 }

-- the line that the word, what it does to the withheld frames, and its numbers are
abbrev pub line_of : Keyword → Shift → List ℕ → Line
line_of words.Version shift ns = version (slice_index ns 0)
line_of (words.Setting k) shift ns = setting k (slice_index ns 0)
line_of words.Phase shift ns = phase
line_of words.Turn shift ns = turn shift ns
line_of words.Lane shift ns = lane (slice_index ns 0)
line_of words.Give shift ns = give (give_at ns)
line_of words.Freeze shift ns = freeze (slice_index ns 0)
line_of words.End shift ns = end
line_of words.Done shift ns = done
line_of (words.Op v) shift ns = op (op_of v ns)

-- the setup has the slot
abbrev pub is_slot : Setup → Slot → Bool
is_slot s p = nat_lt p.domain s.domains && nat_lt p.slot s.slots

-- the operation fits the setup
unfoldable pub is_op : Setup → Op → Bool
is_op s (ops.New p n) = is_slot s p && nat_lt n 128
is_op s (ops.Who p) = is_slot s p
is_op s (ops.Len p) = is_slot s p
is_op s (ops.Set p i v) = is_slot s p && (nat_lt i 127 && nat_lt v (2 ^ 63))
is_op s (ops.Cut p i) = is_slot s p && nat_lt i 127
is_op s (ops.Link p i q) = is_slot s p && (nat_lt i 127 && is_slot s q)
is_op s (ops.Load p i q) = is_slot s p && (nat_lt i 127 && is_slot s q)
is_op s (ops.Copy p q) = is_slot s p && is_slot s q
is_op s (ops.Clear p) = is_slot s p
is_op s (ops.Same p q) = is_slot s p && is_slot s q

-- the most that a number of the header may be
abbrev pub most_of : Setting → ℕ
most_of settings.Lanes = 16
most_of settings.Domains = 64
most_of settings.Slots = 256
most_of settings.Superpages = 4096
most_of settings.Nursery = 16
most_of settings.Buffer = 4096
most_of settings.Frames = 0

-- a number of the header is in its range
unfoldable pub is_setting : Setting → ℕ → Bool
is_setting settings.Frames n = true
is_setting k n = is_within 1 (most_of k) n

-- what is withheld or returned is in its range
abbrev pub shift_in_range : Shift → Bool
shift_in_range shifts.Stays = true
shift_in_range (shifts.Withhold k) = is_within 1 16640 k
shift_in_range (shifts.Return k) = is_within 1 16640 k

-- the operands of a line are in their ranges
unfoldable pub in_range : Progress → Line → Bool
in_range s (version n) = is_within 1 3 n
in_range s (setting k n) = is_setting k n
in_range s phase = true
in_range s (turn shift hints) = shift_in_range shift && list_all (λ h. nat_lt h (2 ^ 32)) hints
in_range s (lane j) = j == s.stood
in_range s (op o) = is_op s.setup o
in_range s (give g) = nat_lt g.domain s.setup.domains && nat_lt g.lane s.setup.lanes
in_range s (freeze d) = nat_lt d s.setup.domains
in_range s end = true
in_range s done = true

-- the fewest frames that a setup may have
abbrev pub least_frames : Setup → ℕ
least_frames s = s.lanes * s.nursery + 2

-- the most frames that a setup may have
abbrev pub most_frames : Setup → ℕ
most_frames s = s.lanes * s.nursery + 4 * s.superpages

-- so many frames can be withheld or returned
abbrev pub shift_fits : Progress → Shift → Bool
shift_fits s shifts.Stays = true
shift_fits s (shifts.Withhold k) = nat_le (least_frames s.setup + (s.withheld + k)) s.setup.frames
shift_fits s (shifts.Return k) = nat_le k s.withheld

-- the number of frames fits the setup
unfoldable pub frames_fit : Progress → Line → Bool
frames_fit s (setting settings.Frames n) = is_within (least_frames s.setup) (most_frames s.setup) n
frames_fit s (turn shift hints) = shift_fits s shift
frames_fit s l = true

-- ---- the tests of a line, in their order

-- the line where its operands are in their ranges, and else its fault
unfoldable pub judge_line : Progress → Line → Result Line Cause
judge_line s l = if in_range s l then (if frames_fit s l then Ok l else Err causes.Frames) else Err causes.Range

-- what a word says with what becomes of the withheld frames and these numbers, where each of its words spells one
abbrev pub judge_numbers : Progress → Keyword → Option Shift → Option (List ℕ) → Result Line Cause
judge_numbers s w None ns = Err causes.Number
judge_numbers s w (Some shift) None = Err causes.Number
judge_numbers s w (Some shift) (Some ns) = judge_line s (line_of w shift ns)

-- what a word of the language says with the words after it, or its fault
abbrev pub judge_word : Progress → Option Keyword → List (List ℕ) → Result Line Cause
judge_word s None others = Err causes.Word
judge_word s (Some w) others = if may_stand w s.stage (s.stood == s.setup.lanes) then (if has_count w (length (counted s.version w others)) then judge_numbers s w (read_shift s.version w others) (read_numbers (counted s.version w others)) else Err causes.Form) else Err causes.Order

-- what the words of a line say, or their fault
abbrev pub judge_words : Progress → List (List ℕ) → Result Line Cause
judge_words s [] = Err causes.Form
judge_words s (first ∷ others) = judge_word s (word_of s.version first) others

-- what a line says, or its fault
unfoldable pub line_at : Progress → List ℕ → Result Line Cause
line_at s line = if formed_from true line then judge_words s (line_words line) else Err causes.Form

-- ---- whole texts

-- the whole lines, and then the rest
abbrev pub lines_of : List ℕ → List (List ℕ)
lines_of bytes = slice_split (λ b. b == 10) bytes

-- a fault: its line and its cause
abbrev pub fault : ℕ → Cause → TraceFault
fault line cause = record { line = line; cause = cause }

-- the trace that a draft has read
abbrev pub trace_of_draft : DraftLists → TraceLists
trace_of_draft d = record { version = d.progress.version; setup = d.progress.setup; phases = d.phases }

-- what the text is where it ends after n whole lines and the rest
abbrev pub ended_at : Stage → DraftLists → ℕ → List ℕ → Result TraceLists TraceFault
ended_at stages.Finished d n [] = Ok (trace_of_draft d)
ended_at stages.Finished d n (b ∷ bs) = Err (fault (n + 1) causes.Order)
ended_at _ d n rest = Err (fault (n + lines_begun rest) causes.End)

-- the trace at the end of the text, or the fault there
unfoldable pub ended : DraftLists → ℕ → List ℕ → Result TraceLists TraceFault
ended d n rest = ended_at d.progress.stage d n rest

-- the fault of a line ends the reading, which else goes on with the line
abbrev pub go_on : ℕ → Result Line Cause → (Line → Result TraceLists TraceFault) → Result TraceLists TraceFault
go_on n (Ok l) next = next l
go_on n (Err cause) next = Err (fault n cause)

-- the trace or the fault of the lines that follow the first n
unfoldable pub reading : DraftLists → ℕ → List (List ℕ) → Result TraceLists TraceFault
reading d n [] = ended d n []
reading d n (rest ∷ []) = ended d n rest
reading d n (line ∷ next ∷ parts) = go_on (n + 1) (line_at d.progress line) (λ l. reading (put l d) (n + 1) (next ∷ parts))

-- the trace that bytes spell, or their fault, line after line
unfoldable pub read_of : List ℕ → Result TraceLists TraceFault
read_of bytes = reading empty_draft 0 (lines_of bytes)
