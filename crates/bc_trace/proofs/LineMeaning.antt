-- What the tests of counts and ranges mean.
use Rattle.std.proofs.Common.{◌≡◌, ℕ, ◌+◌, ◌^◌, ◌<◌, true, ◌&&◌, ltb, List, [], ◌∷◌, length, get_or, refl, ap, arith}
use Rattle.std.specs.Bool.{Decides}
use Rattle.std.specs.List.{AllByRecursion, list_all}
use Rattle.std.proofs.lemmas.Bool.{leb-true, le-leb}
use Rattle.std.proofs.lemmas.Bool.Decides.{Decides-eqb, Decides-ltb, Decides-and, Decides-like}
use Rattle.bc_model.specs.WellFormed.{IsSlot, IsOp}
use Rattle.bc_model.specs.declared.operations.Op.{Op}
use Rattle.bc_model.specs.declared.operations.Op.TheVariants as ops
use Rattle.bc_model.specs.declared.traces.Setup.{Setup}
use Rattle.bc_model.specs.declared.values.Slot.{Slot}
use Rattle.bc_trace.specs.declared.grammar.Progress.{Progress}
use Rattle.bc_trace.specs.declared.line.Shift.{Shift}
use Rattle.bc_trace.specs.declared.line.Shift.TheVariants as shifts
use Rattle.bc_trace.specs.declared.words.Setting.TheVariants as settings
use Rattle.bc_trace.specs.declared.words.Verb.TheVariants as verbs
use Rattle.bc_trace.specs.declared.words.Keyword.{Keyword}
use Rattle.bc_trace.specs.declared.words.Keyword.TheVariants as words
use Rattle.bc_trace.specs.Lines.{Line, version, setting, phase, turn, lane, op, give, freeze, end, done, word_of_line, shift_of, operands}
use Rattle.bc_trace.specs.Grammar.{arity, IsCount, ShiftInRange, ShiftFits, InRange, FramesFit}
use Rattle.bc_trace.specs.Reading.{has_count, line_of, is_slot, is_op, is_setting, shift_in_range, in_range, least_frames, most_frames, shift_fits, frames_fit}
use Rattle.bc_trace.proofs.Meaning.{Decides-within}

-- ---- counts

pub Decides-count : (w : Keyword) (n : ℕ) → Decides (has_count w n) (IsCount w n)
unfolding has_count
Decides-count words.Version n = Decides-eqb n (arity words.Version)
Decides-count (words.Setting k) n = Decides-eqb n (arity (words.Setting k))
Decides-count words.Phase n = Decides-eqb n (arity words.Phase)
Decides-count words.Turn n = (leb-true n 64, le-leb n 64)
Decides-count words.Lane n = Decides-eqb n (arity words.Lane)
Decides-count words.Give n = Decides-eqb n (arity words.Give)
Decides-count words.Freeze n = Decides-eqb n (arity words.Freeze)
Decides-count words.End n = Decides-eqb n (arity words.End)
Decides-count words.Done n = Decides-eqb n (arity words.Done)
Decides-count (words.Op v) n = Decides-eqb n (arity (words.Op v))

-- ---- a word and its numbers

abbrev at : List ℕ → ℕ → ℕ
at ns i = get_or ns i 0

numbers_0 : (ns : List ℕ) → length ns ≡ 0 → [] ≡ ns
numbers_0 [] e = refl
numbers_0 (a ∷ ns) e = absurd (omega arith)

numbers_1 : (ns : List ℕ) → length ns ≡ 1 → at ns 0 ∷ [] ≡ ns
numbers_1 [] e = absurd (omega arith)
numbers_1 (a ∷ ns) e = ap (λ (ms : List ℕ). a ∷ ms) (numbers_0 ns (omega arith))

numbers_2 : (ns : List ℕ) → length ns ≡ 2 → at ns 0 ∷ at ns 1 ∷ [] ≡ ns
numbers_2 [] e = absurd (omega arith)
numbers_2 (a ∷ ns) e = ap (λ (ms : List ℕ). a ∷ ms) (numbers_1 ns (omega arith))

numbers_3 : (ns : List ℕ) → length ns ≡ 3 → at ns 0 ∷ at ns 1 ∷ at ns 2 ∷ [] ≡ ns
numbers_3 [] e = absurd (omega arith)
numbers_3 (a ∷ ns) e = ap (λ (ms : List ℕ). a ∷ ms) (numbers_2 ns (omega arith))

numbers_4 : (ns : List ℕ) → length ns ≡ 4 → at ns 0 ∷ at ns 1 ∷ at ns 2 ∷ at ns 3 ∷ [] ≡ ns
numbers_4 [] e = absurd (omega arith)
numbers_4 (a ∷ ns) e = ap (λ (ms : List ℕ). a ∷ ms) (numbers_3 ns (omega arith))

numbers_5 : (ns : List ℕ) → length ns ≡ 5 → at ns 0 ∷ at ns 1 ∷ at ns 2 ∷ at ns 3 ∷ at ns 4 ∷ [] ≡ ns
numbers_5 [] e = absurd (omega arith)
numbers_5 (a ∷ ns) e = ap (λ (ms : List ℕ). a ∷ ms) (numbers_4 ns (omega arith))

pub word_of_line-line_of : (w : Keyword) (shift : Shift) (ns : List ℕ) → word_of_line (line_of w shift ns) ≡ w
word_of_line-line_of words.Version shift ns = refl
word_of_line-line_of (words.Setting k) shift ns = refl
word_of_line-line_of words.Phase shift ns = refl
word_of_line-line_of words.Turn shift ns = refl
word_of_line-line_of words.Lane shift ns = refl
word_of_line-line_of words.Give shift ns = refl
word_of_line-line_of words.Freeze shift ns = refl
word_of_line-line_of words.End shift ns = refl
word_of_line-line_of words.Done shift ns = refl
word_of_line-line_of (words.Op verbs.New) shift ns = refl
word_of_line-line_of (words.Op verbs.Who) shift ns = refl
word_of_line-line_of (words.Op verbs.Len) shift ns = refl
word_of_line-line_of (words.Op verbs.Set) shift ns = refl
word_of_line-line_of (words.Op verbs.Cut) shift ns = refl
word_of_line-line_of (words.Op verbs.Link) shift ns = refl
word_of_line-line_of (words.Op verbs.Load) shift ns = refl
word_of_line-line_of (words.Op verbs.Copy) shift ns = refl
word_of_line-line_of (words.Op verbs.Clear) shift ns = refl
word_of_line-line_of (words.Op verbs.Same) shift ns = refl

pub operands-line_of : (w : Keyword) (shift : Shift) (ns : List ℕ) → IsCount w (length ns) → operands (line_of w shift ns) ≡ ns
unfolding arity
operands-line_of words.Version shift ns e = numbers_1 ns e
operands-line_of (words.Setting k) shift ns e = numbers_1 ns e
operands-line_of words.Phase shift ns e = numbers_0 ns e
operands-line_of words.Turn shift ns e = refl
operands-line_of words.Lane shift ns e = numbers_1 ns e
operands-line_of words.Give shift ns e = numbers_2 ns e
operands-line_of words.Freeze shift ns e = numbers_1 ns e
operands-line_of words.End shift ns e = numbers_0 ns e
operands-line_of words.Done shift ns e = numbers_0 ns e
operands-line_of (words.Op verbs.New) shift ns e = numbers_3 ns e
operands-line_of (words.Op verbs.Who) shift ns e = numbers_2 ns e
operands-line_of (words.Op verbs.Len) shift ns e = numbers_2 ns e
operands-line_of (words.Op verbs.Set) shift ns e = numbers_4 ns e
operands-line_of (words.Op verbs.Cut) shift ns e = numbers_3 ns e
operands-line_of (words.Op verbs.Link) shift ns e = numbers_5 ns e
operands-line_of (words.Op verbs.Load) shift ns e = numbers_5 ns e
operands-line_of (words.Op verbs.Copy) shift ns e = numbers_4 ns e
operands-line_of (words.Op verbs.Clear) shift ns e = numbers_2 ns e
operands-line_of (words.Op verbs.Same) shift ns e = numbers_4 ns e

-- no line but a turn's does anything to the withheld frames
pub shift_of-line_of : (w : Keyword) (ns : List ℕ) → shift_of (line_of w shifts.Stays ns) ≡ shifts.Stays
shift_of-line_of words.Version ns = refl
shift_of-line_of (words.Setting k) ns = refl
shift_of-line_of words.Phase ns = refl
shift_of-line_of words.Turn ns = refl
shift_of-line_of words.Lane ns = refl
shift_of-line_of words.Give ns = refl
shift_of-line_of words.Freeze ns = refl
shift_of-line_of words.End ns = refl
shift_of-line_of words.Done ns = refl
shift_of-line_of (words.Op v) ns = refl

pub line_of-line : (l : Line) → line_of (word_of_line l) (shift_of l) (operands l) ≡ l
line_of-line (version n) = refl
line_of-line (setting k n) = refl
line_of-line phase = refl
line_of-line (turn shift hints) = refl
line_of-line (lane j) = refl
line_of-line (op (ops.New p n)) = refl
line_of-line (op (ops.Who p)) = refl
line_of-line (op (ops.Len p)) = refl
line_of-line (op (ops.Set p i v)) = refl
line_of-line (op (ops.Cut p i)) = refl
line_of-line (op (ops.Link p i q)) = refl
line_of-line (op (ops.Load p i q)) = refl
line_of-line (op (ops.Copy p q)) = refl
line_of-line (op (ops.Clear p)) = refl
line_of-line (op (ops.Same p q)) = refl
line_of-line (give g) = refl
line_of-line (freeze d) = refl
line_of-line end = refl
line_of-line done = refl

-- ---- ranges

Decides-slot : (s : Setup) (p : Slot) → Decides (is_slot s p) (IsSlot s p)
Decides-slot s p = Decides-and (ltb p.domain s.domains) (ltb p.slot s.slots) (Decides-ltb p.domain s.domains) (Decides-ltb p.slot s.slots)

Decides-op : (s : Setup) (o : Op) → Decides (is_op s o) (IsOp s o)
unfolding is_op
Decides-op s (ops.New p n) = Decides-and (is_slot s p) (ltb n 128) (Decides-slot s p) (Decides-like (ltb n 128) (λ h. omega arith) (λ h. omega arith) (Decides-ltb n 128))
Decides-op s (ops.Who p) = Decides-slot s p
Decides-op s (ops.Len p) = Decides-slot s p
Decides-op s (ops.Set p i v) = Decides-like (is_slot s p && (ltb i 127 && ltb v (2 ^ 63))) (λ h. (h.0, h.1.0, h.1.1)) (λ h. (h.0, (h.1, h.2))) (Decides-and (is_slot s p) (ltb i 127 && ltb v (2 ^ 63)) (Decides-slot s p) (Decides-and (ltb i 127) (ltb v (2 ^ 63)) (Decides-ltb i 127) (Decides-ltb v (2 ^ 63))))
Decides-op s (ops.Cut p i) = Decides-and (is_slot s p) (ltb i 127) (Decides-slot s p) (Decides-ltb i 127)
Decides-op s (ops.Link p i q) = Decides-like (is_slot s p && (ltb i 127 && is_slot s q)) (λ h. (h.0, h.1.0, h.1.1)) (λ h. (h.0, (h.1, h.2))) (Decides-and (is_slot s p) (ltb i 127 && is_slot s q) (Decides-slot s p) (Decides-and (ltb i 127) (is_slot s q) (Decides-ltb i 127) (Decides-slot s q)))
Decides-op s (ops.Load p i q) = Decides-like (is_slot s p && (ltb i 127 && is_slot s q)) (λ h. (h.0, h.1.0, h.1.1)) (λ h. (h.0, (h.1, h.2))) (Decides-and (is_slot s p) (ltb i 127 && is_slot s q) (Decides-slot s p) (Decides-and (ltb i 127) (is_slot s q) (Decides-ltb i 127) (Decides-slot s q)))
Decides-op s (ops.Copy p q) = Decides-and (is_slot s p) (is_slot s q) (Decides-slot s p) (Decides-slot s q)
Decides-op s (ops.Clear p) = Decides-slot s p
Decides-op s (ops.Same p q) = Decides-and (is_slot s p) (is_slot s q) (Decides-slot s p) (Decides-slot s q)

Decides-hints : (hints : List ℕ) → Decides (list_all (λ h. ltb h (2 ^ 32)) hints) (AllByRecursion (λ h. h < 2 ^ 32) hints)
Decides-hints [] = (λ e. tt, λ h. refl)
Decides-hints (n ∷ ns) = Decides-and (ltb n (2 ^ 32)) (list_all (λ h. ltb h (2 ^ 32)) ns) (Decides-ltb n (2 ^ 32)) (Decides-hints ns)

always : Decides true (Unit {0})
always = (λ e. tt, λ h. refl)

Decides-shift : (shift : Shift) → Decides (shift_in_range shift) (ShiftInRange shift)
Decides-shift shifts.Stays = always
Decides-shift (shifts.Withhold k) = Decides-within 1 16640 k
Decides-shift (shifts.Return k) = Decides-within 1 16640 k

Decides-fits : (s : Progress) (shift : Shift) → Decides (shift_fits s shift) (ShiftFits s shift)
Decides-fits s shifts.Stays = always
Decides-fits s (shifts.Withhold k) = (leb-true (least_frames s.setup + (s.withheld + k)) s.setup.frames, le-leb (least_frames s.setup + (s.withheld + k)) s.setup.frames)
Decides-fits s (shifts.Return k) = (leb-true k s.withheld, le-leb k s.withheld)

pub Decides-range : (s : Progress) (l : Line) → Decides (in_range s l) (InRange s l)
unfolding in_range is_setting
Decides-range s (version n) = Decides-within 1 3 n
Decides-range s (setting settings.Lanes n) = Decides-within 1 16 n
Decides-range s (setting settings.Domains n) = Decides-within 1 64 n
Decides-range s (setting settings.Slots n) = Decides-within 1 256 n
Decides-range s (setting settings.Superpages n) = Decides-within 1 4096 n
Decides-range s (setting settings.Nursery n) = Decides-within 1 16 n
Decides-range s (setting settings.Buffer n) = Decides-within 1 4096 n
Decides-range s (setting settings.Frames n) = always
Decides-range s phase = always
Decides-range s (turn shift hints) = Decides-and (shift_in_range shift) (list_all (λ h. ltb h (2 ^ 32)) hints) (Decides-shift shift) (Decides-hints hints)
Decides-range s (lane j) = Decides-eqb j s.stood
Decides-range s (op o) = Decides-op s.setup o
Decides-range s (give g) = Decides-and (ltb g.domain s.setup.domains) (ltb g.lane s.setup.lanes) (Decides-ltb g.domain s.setup.domains) (Decides-ltb g.lane s.setup.lanes)
Decides-range s (freeze d) = Decides-ltb d s.setup.domains
Decides-range s end = always
Decides-range s done = always

pub Decides-frames : (s : Progress) (l : Line) → Decides (frames_fit s l) (FramesFit s l)
unfolding frames_fit
Decides-frames s (version n) = always
Decides-frames s (setting settings.Lanes n) = always
Decides-frames s (setting settings.Domains n) = always
Decides-frames s (setting settings.Slots n) = always
Decides-frames s (setting settings.Superpages n) = always
Decides-frames s (setting settings.Nursery n) = always
Decides-frames s (setting settings.Buffer n) = always
Decides-frames s (setting settings.Frames n) = Decides-within (least_frames s.setup) (most_frames s.setup) n
Decides-frames s phase = always
Decides-frames s (turn shift hints) = Decides-fits s shift
Decides-frames s (lane j) = always
Decides-frames s (op o) = always
Decides-frames s (give g) = always
Decides-frames s (freeze d) = always
Decides-frames s end = always
Decides-frames s done = always
