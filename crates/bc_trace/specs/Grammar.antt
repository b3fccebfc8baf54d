-- In the theorem.
-- Which lines may stand where, and what they may say.
use Rattle.std.specs.Prelude.{◌≡◌, ℕ, ◌+◌, ◌-◌, ◌*◌, ◌^◌, ◌<◌, ◌≤◌, ◌==◌, Bool, true, false, not, ⊤, List, [], ◌∷◌, length}
use Rattle.std.specs.List.{AllByRecursion}
use Rattle.bc_model.specs.WellFormed.{IsWithin, IsNumber, IsOp, IsGive}
use Rattle.bc_model.specs.declared.traces.Setup.{Setup}
use Rattle.bc_trace.specs.declared.grammar.Stage.{Stage}
use Rattle.bc_trace.specs.declared.grammar.Stage.TheVariants as stages
use Rattle.bc_trace.specs.declared.grammar.Progress.{Progress}
use Rattle.bc_trace.specs.declared.line.Shift.{Shift}
use Rattle.bc_trace.specs.declared.line.Shift.TheVariants as shifts
use Rattle.bc_trace.specs.declared.words.Setting.{Setting}
use Rattle.bc_trace.specs.declared.words.Setting.TheVariants as settings
use Rattle.bc_trace.specs.declared.words.Verb.TheVariants as verbs
use Rattle.bc_trace.specs.declared.words.Keyword.{Keyword}
use Rattle.bc_trace.specs.declared.words.Keyword.TheVariants as words
use Rattle.bc_trace.specs.Lines.{Line, version, setting, phase, turn, lane, op, give, freeze, end, done, word_of_line, shift_of, operands, numbers_of}

-- before the first line
abbrev pub start : Progress
start = record { version = 0; stage = stages.Start; setup = record { lanes = 0; domains = 0; slots = 0; superpages = 0; nursery = 0; buffer = 0; frames = 0 }; stood = 0; withheld = 0 }

-- two words of the header are the same
unfoldable pub same_setting : Setting → Setting → Bool
same_setting settings.Lanes settings.Lanes = true
same_setting settings.Domains settings.Domains = true
same_setting settings.Slots settings.Slots = true
same_setting settings.Superpages settings.Superpages = true
same_setting settings.Nursery settings.Nursery = true
same_setting settings.Buffer settings.Buffer = true
same_setting settings.Frames settings.Frames = true
same_setting _ _ = false

-- the header's lines stand in one order; in a phase the turns come first, then all lanes, then gives and freezes
unfoldable pub may_stand : Keyword → Stage → Bool → Bool
may_stand words.Version stages.Start all = true
may_stand (words.Setting k) (stages.Awaiting awaited) all = same_setting k awaited
may_stand words.Phase stages.Phases all = true
may_stand words.Done stages.Phases all = true
may_stand words.Turn stages.Turns all = true
may_stand words.Lane stages.Turns all = true
may_stand words.Lane stages.Ops all = not all
may_stand (words.Op v) stages.Ops all = true
may_stand words.Give stages.Ops all = all
may_stand words.Give stages.Gives all = true
may_stand words.Freeze stages.Ops all = all
may_stand words.Freeze stages.Gives all = true
may_stand words.End stages.Ops all = all
may_stand words.End stages.Gives all = true
may_stand _ _ all = false

-- the word may stand next; all lanes have stood where as many have stood as there are lanes
abbrev pub MayStand : Progress → Keyword → Type 0
MayStand s w = may_stand w s.stage (s.stood == s.setup.lanes) ≡ true

-- the words of a version of the language; before its line was read they are those of version 1
abbrev pub KnowsWord : ℕ → Keyword → Type 0
KnowsWord n words.Freeze = 2 ≤ n
KnowsWord n w = ⊤

-- a number of withheld frames may change from version 3 on
abbrev pub KnowsShift : ℕ → Shift → Type 0
KnowsShift n shifts.Stays = ⊤
KnowsShift n _ = 3 ≤ n

-- the version of the language has the line's word, and what the line does to the withheld frames
abbrev pub IsLineOf : ℕ → Line → Type 0
IsLineOf n l = KnowsWord n (word_of_line l) × KnowsShift n (shift_of l)

-- how many numbers follow a word other than `turn`
unfoldable pub arity : Keyword → ℕ
arity words.Version = 1
arity (words.Setting s) = 1
arity words.Phase = 0
arity words.Turn = 0
arity words.Lane = 1
arity words.Give = 2
arity words.Freeze = 1
arity words.End = 0
arity words.Done = 0
arity (words.Op verbs.New) = 3
arity (words.Op verbs.Who) = 2
arity (words.Op verbs.Len) = 2
arity (words.Op verbs.Set) = 4
arity (words.Op verbs.Cut) = 3
arity (words.Op verbs.Link) = 5
arity (words.Op verbs.Load) = 5
arity (words.Op verbs.Copy) = 4
arity (words.Op verbs.Clear) = 2
arity (words.Op verbs.Same) = 4

-- so many numbers may follow the word; the one with a sign isn't counted
abbrev pub IsCount : Keyword → ℕ → Type 0
IsCount words.Turn n = n ≤ 64
IsCount w n = n ≡ arity w

-- from one frame to the most that a setup may have
abbrev pub ShiftInRange : Shift → Type 0
ShiftInRange shifts.Stays = ⊤
ShiftInRange (shifts.Withhold k) = IsWithin 1 16640 k
ShiftInRange (shifts.Return k) = IsWithin 1 16640 k

-- how many frames are withheld after it
abbrev pub shifted : Shift → ℕ → ℕ
shifted shifts.Stays withheld = withheld
shifted (shifts.Withhold k) withheld = withheld + k
shifted (shifts.Return k) withheld = withheld - k

-- no more are returned than are withheld, and two frames are left beyond the nurseries
abbrev pub ShiftFits : Progress → Shift → Type 0
ShiftFits s shifts.Stays = ⊤
ShiftFits s (shifts.Withhold k) = s.setup.lanes * s.setup.nursery + 2 + (s.withheld + k) ≤ s.setup.frames
ShiftFits s (shifts.Return k) = k ≤ s.withheld

-- the numbers are in their ranges, that of frames aside
abbrev pub InRange : Progress → Line → Type 0
InRange s (version n) = IsWithin 1 3 n
InRange s (setting settings.Lanes n) = IsWithin 1 16 n
InRange s (setting settings.Domains n) = IsWithin 1 64 n
InRange s (setting settings.Slots n) = IsWithin 1 256 n
InRange s (setting settings.Superpages n) = IsWithin 1 4096 n
InRange s (setting settings.Nursery n) = IsWithin 1 16 n
InRange s (setting settings.Buffer n) = IsWithin 1 4096 n
InRange s (setting settings.Frames n) = ⊤
InRange s phase = ⊤
InRange s (turn shift hints) = ShiftInRange shift × AllByRecursion (λ h. h < 2 ^ 32) hints
InRange s (lane j) = j ≡ s.stood
InRange s (op o) = IsOp s.setup o
InRange s (give g) = IsGive s.setup g
InRange s (freeze d) = d < s.setup.domains
InRange s end = ⊤
InRange s done = ⊤

-- two frames beyond the nurseries, and at most one for each page; in a turn two beyond the nurseries and the withheld ones
abbrev pub FramesFit : Progress → Line → Type 0
FramesFit s (setting settings.Frames n) = IsWithin (s.setup.lanes * s.setup.nursery + 2) (s.setup.lanes * s.setup.nursery + 4 * s.setup.superpages) n
FramesFit s (turn shift hints) = ShiftFits s shift
FramesFit s l = ⊤

-- the line may stand next, and says what it may say
pub record Passes (s : Progress) (l : Line) : Type 0 where
  pub known : IsLineOf s.version l
  pub stands : MayStand s (word_of_line l)
  pub count : IsCount (word_of_line l) (length (operands l))
  pub numbers : AllByRecursion IsNumber (numbers_of l)
  pub range : InRange s l
  pub frames : FramesFit s l

-- what the header goes on with after one of its settings
abbrev pub stage_after_setting : Setting → Stage
stage_after_setting settings.Lanes = stages.Awaiting settings.Domains
stage_after_setting settings.Domains = stages.Awaiting settings.Slots
stage_after_setting settings.Slots = stages.Awaiting settings.Superpages
stage_after_setting settings.Superpages = stages.Awaiting settings.Nursery
stage_after_setting settings.Nursery = stages.Awaiting settings.Buffer
stage_after_setting settings.Buffer = stages.Awaiting settings.Frames
stage_after_setting settings.Frames = stages.Phases

-- the setup with a number of the header
abbrev pub with_setting : Setting → ℕ → Setup → Setup
with_setting settings.Lanes n s = record s { lanes = n }
with_setting settings.Domains n s = record s { domains = n }
with_setting settings.Slots n s = record s { slots = n }
with_setting settings.Superpages n s = record s { superpages = n }
with_setting settings.Nursery n s = record s { nursery = n }
with_setting settings.Buffer n s = record s { buffer = n }
with_setting settings.Frames n s = record s { frames = n }

-- how far the lines have come after one more
abbrev pub after : Line → Progress → Progress
after (version n) s = record s { version = n; stage = stages.Awaiting settings.Lanes }
after (setting k n) s = record s { stage = stage_after_setting k; setup = with_setting k n s.setup }
after phase s = record s { stage = stages.Turns; stood = 0; withheld = 0 }
after (turn shift hints) s = record s { stage = stages.Turns; withheld = shifted shift s.withheld }
after (lane j) s = record s { stage = stages.Ops; stood = s.stood + 1 }
after (op o) s = record s { stage = stages.Ops }
after (give g) s = record s { stage = stages.Gives }
after (freeze d) s = record s { stage = stages.Gives }
after end s = record s { stage = stages.Phases }
after done s = record s { stage = stages.Finished }

-- how far the lines have come after a list of them
abbrev pub after_all : Progress → List Line → Progress
after_all s [] = s
after_all s (l ∷ ls) = after_all (after l s) ls

-- each line passes, given those before it
abbrev pub Follow : Progress → List Line → Type 0
Follow s [] = ⊤
Follow s (l ∷ ls) = Passes s l × Follow (after l s) ls
