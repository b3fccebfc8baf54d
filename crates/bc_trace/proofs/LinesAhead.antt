-- A line that the text begins with is read, and is what the exact way reads there.
use Rattle.std.proofs.Common.{◌≡◌, ℕ, ◌+◌, ◌<◌, ◌^◌, ◌≤◌, true, eqb, List, [], ◌∷◌, ◌++◌, length, set, take, Ok, refl, sym, ap, ◌∙◌, append_assoc, arith}
use Rattle.std.specs.List.{AllByRecursion}
use Rattle.std.specs.Fmt.{decimal}
use Rattle.std.proofs.lemmas.List.{length-append, take_more_set}
use Rattle.bc_model.specs.WellFormed.{IsNumber, IsOp, IsGive}
use Rattle.bc_model.specs.declared.operations.Op.{Op}
use Rattle.bc_model.specs.declared.operations.Op.TheVariants as ops
use Rattle.bc_model.specs.declared.traces.Give.{Give}
use Rattle.bc_trace.specs.declared.grammar.Stage.TheVariants as stages
use Rattle.bc_trace.specs.declared.grammar.Progress.{Progress}
use Rattle.bc_trace.specs.declared.line.Shift.TheVariants as shifts
use Rattle.bc_trace.specs.declared.words.Verb.{Verb}
use Rattle.bc_trace.specs.declared.words.Keyword.{Keyword}
use Rattle.bc_trace.specs.declared.words.Keyword.TheVariants as words
use Rattle.bc_trace.specs.Words.{name, verb_name}
use Rattle.bc_trace.specs.Lines.{Line, phase, turn, lane, op, give, end, word_of_line, shift_of, operands, verb_of_op, operands_of_op, spelling, line_text}
use Rattle.bc_trace.specs.Grammar.{may_stand, arity, IsCount, Passes}
use Rattle.bc_trace.specs.Drafts.{DraftLists, put}
use Rattle.bc_trace.specs.Reading.{lines_of, reading, line_at}
use Rattle.bc_trace.specs.Said.{IsSmall, operands_text, IsAhead}
use Rattle.bc_trace.proofs.Runs.{went_on, small_on}
use Rattle.bc_trace.proofs.LineAtFails.{read_again}
use Rattle.bc_trace.proofs.ReadOfFault.{lines_of-text}
use Rattle.bc_trace.proofs.Lengths.{line_some}

-- ---- the text of a line, piece by piece

pub text_of : (w : Keyword) (ns : List ℕ) (text operands after rest : List ℕ) → text ≡ name w ++ operands → operands ≡ operands_text ns ++ after → after ≡ 10 ∷ rest → text ≡ (spelling w shifts.Stays ns ++ 10 ∷ []) ++ rest
unfolding spelling operands_text
text_of w ns text operands after rest begins numbers feed =
    begins
    ∙ ap (λ t. name w ++ t) (numbers ∙ ap (λ t. operands_text ns ++ t) feed)
    ∙ sym (append_assoc (name w) (operands_text ns) (10 ∷ rest))
    ∙ sym (append_assoc (name w ++ operands_text ns) (10 ∷ []) rest)

pub line_text_of : (l : Line) (text operands' after rest : List ℕ) → shift_of l ≡ shifts.Stays → text ≡ name (word_of_line l) ++ operands' → operands' ≡ operands_text (operands l) ++ after → after ≡ 10 ∷ rest → text ≡ line_text l ++ rest
unfolding line_text
line_text_of l text operands' after rest stays begins numbers feed = rw stays (text_of (word_of_line l) (operands l) text operands' after rest begins numbers feed)

pub name-verb : (v : Verb) → name (words.Op v) ≡ verb_name v
unfolding name
name-verb v = refl

-- one more operand
operands-more : (ns : List ℕ) (n : ℕ) (rest : List ℕ) → operands_text ns ++ 32 ∷ (decimal n ++ rest) ≡ operands_text (ns ++ n ∷ []) ++ rest
unfolding operands_text
operands-more [] n rest = ap (λ (t : List ℕ). 32 ∷ t) (sym (append_assoc (decimal n) [] rest))
operands-more (m ∷ ns) n rest =
    let more = operands-more ns n rest in
    append_assoc (32 ∷ decimal m) (operands_text ns) (32 ∷ (decimal n ++ rest))
    ∙ ap (λ t. (32 ∷ decimal m) ++ t) more
    ∙ sym (append_assoc (32 ∷ decimal m) (operands_text (ns ++ n ∷ [])) rest)

all-more : (P : ℕ → Type 0) (ns : List ℕ) (n : ℕ) → AllByRecursion P ns → P n → AllByRecursion P (ns ++ n ∷ [])
all-more P [] n h p = (p, tt)
all-more P (m ∷ ns) n h p = (h.0, all-more P ns n h.1 p)

module _ (hints : List ℕ) (count hint : ℕ) (lt : count < length hints) where
  pub hints-small : hint < 2 ^ 32 → AllByRecursion (λ h. h < 2 ^ 32) (take count hints) → AllByRecursion (λ h. h < 2 ^ 32) (take (count + 1) (set hints count hint))
  hints-small small h = rw (take_more_set hints count hint lt) (all-more (λ h. h < 2 ^ 32) (take count hints) hint h small)

  pub hints-begin : (text rest after : List ℕ) → rest ≡ 32 ∷ (decimal hint ++ after) → text ≡ operands_text (take count hints) ++ rest → text ≡ operands_text (take (count + 1) (set hints count hint)) ++ after
  hints-begin text rest after e h = rw (take_more_set hints count hint lt) (h ∙ ap (λ t. operands_text (take count hints) ++ t) e ∙ operands-more (take count hints) hint after)

-- ---- what passes

pub count-op : (o : Op) → IsCount (words.Op (verb_of_op o)) (length (operands_of_op o))
unfolding arity
count-op (ops.New p n) = refl
count-op (ops.Who p) = refl
count-op (ops.Len p) = refl
count-op (ops.Set p i v) = refl
count-op (ops.Cut p i) = refl
count-op (ops.Link p i q) = refl
count-op (ops.Load p i q) = refl
count-op (ops.Copy p q) = refl
count-op (ops.Clear p) = refl
count-op (ops.Same p q) = refl

pub op_passes : (s : Progress) (o : Op) → s.stage ≡ stages.Ops → IsOp s.setup o → AllByRecursion IsNumber (operands_of_op o) → Passes s (op o)
unfolding may_stand
op_passes s o stage range numbers = record { known = (tt, tt); stands = rw stage refl; count = count-op o; numbers = numbers; range = range; frames = tt }

pub turn_passes : (s : Progress) (hints : List ℕ) → s.stage ≡ stages.Turns → length hints ≤ 64 → AllByRecursion (λ h. h < 2 ^ 32) hints → Passes s (turn shifts.Stays hints)
unfolding may_stand
turn_passes s hints stage few range = record { known = (tt, tt); stands = rw stage refl; count = few; numbers = fit hints range; range = (tt, range); frames = tt } where
  fit : (ns : List ℕ) → AllByRecursion (λ h. h < 2 ^ 32) ns → AllByRecursion IsNumber ns
  fit [] h = tt
  fit (n ∷ ns) h = (omega (arith, h.0), fit ns h.1)

-- ---- the lines of a phase

module _ (s : Progress) (text operands after rest : List ℕ) (feed : after ≡ 10 ∷ rest) where
  pub op_is_ahead : (o : Op) (v : Verb) → s.stage ≡ stages.Ops → IsOp s.setup o → verb_of_op o ≡ v → AllByRecursion IsNumber (operands_of_op o) → text ≡ verb_name v ++ operands → operands ≡ operands_text (operands_of_op o) ++ after → IsAhead s text (op o) rest
  op_is_ahead o v stage range verb numbers begins spelled = record {
    passes = op_passes s o stage range numbers;
    begins = line_text_of (op o) text operands after rest refl (rw (name-verb (verb_of_op o), verb) begins) spelled feed;
  }

  pub turn_is_ahead : (hints : List ℕ) → s.stage ≡ stages.Turns → length hints ≤ 64 → AllByRecursion (λ h. h < 2 ^ 32) hints → text ≡ name words.Turn ++ operands → operands ≡ operands_text hints ++ after → IsAhead s text (turn shifts.Stays hints) rest
  turn_is_ahead hints stage few range begins spelled = record {
    passes = turn_passes s hints stage few range;
    begins = line_text_of (turn shifts.Stays hints) text operands after rest refl begins spelled feed;
  }

module _ (s : Progress) (text rest : List ℕ) where
  pub phase_is_ahead : (after : List ℕ) → may_stand words.Phase s.stage (eqb s.stood s.setup.lanes) ≡ true → text ≡ name words.Phase ++ after → after ≡ 10 ∷ rest → IsAhead s text phase rest
  unfolding arity operands_text
  phase_is_ahead after stands begins feed = record {
    passes = record { known = (tt, tt); stands = stands; count = refl; numbers = tt; range = tt; frames = tt };
    begins = line_text_of phase text after after rest refl begins refl feed;
  }

  pub end_is_ahead : (after : List ℕ) → may_stand words.End s.stage (eqb s.stood s.setup.lanes) ≡ true → text ≡ name words.End ++ after → after ≡ 10 ∷ rest → IsAhead s text end rest
  unfolding arity operands_text
  end_is_ahead after stands begins feed = record {
    passes = record { known = (tt, tt); stands = stands; count = refl; numbers = tt; range = tt; frames = tt };
    begins = line_text_of end text after after rest refl begins refl feed;
  }

  pub lane_is_ahead : (j : ℕ) (numbers after : List ℕ) → may_stand words.Lane s.stage (eqb s.stood s.setup.lanes) ≡ true → IsNumber j → j ≡ s.stood → text ≡ name words.Lane ++ numbers → numbers ≡ 32 ∷ (decimal j ++ after) → after ≡ 10 ∷ rest → IsAhead s text (lane j) rest
  unfolding arity operands_text
  lane_is_ahead j numbers after stands number next begins spelled feed = record {
    passes = record { known = (tt, tt); stands = stands; count = refl; numbers = (number, tt); range = next; frames = tt };
    begins = line_text_of (lane j) text numbers after rest refl begins (spelled ∙ operands-more [] j after) feed;
  }

  pub give_is_ahead : (g : Give) (numbers lanes after : List ℕ) → may_stand words.Give s.stage (eqb s.stood s.setup.lanes) ≡ true → IsGive s.setup g → IsNumber g.domain → IsNumber g.lane → text ≡ name words.Give ++ numbers → numbers ≡ 32 ∷ (decimal g.domain ++ lanes) → lanes ≡ 32 ∷ (decimal g.lane ++ after) → after ≡ 10 ∷ rest → IsAhead s text (give g) rest
  unfolding arity operands_text
  give_is_ahead g numbers lanes after stands range small_domain small_lane begins first second feed = record {
    passes = record { known = (tt, tt); stands = stands; count = refl; numbers = (small_domain, (small_lane, tt)); range = range; frames = tt };
    begins = line_text_of (give g) text numbers after rest refl begins (first ∙ operands-more [] g.domain lanes ∙ ap (λ t. operands_text (g.domain ∷ []) ++ t) second ∙ operands-more (g.domain ∷ []) g.lane after) feed;
  }

-- ---- after the line

module _ {s : Progress} {text rest : List ℕ} {l : Line} (h : IsAhead s text l rest) where
  pub shorter_ahead : length rest < length text
  shorter_ahead = omega (arith, ap (λ (bs : List ℕ). length bs) h.begins, length-append (line_text l) rest, line_some l)

module _ (d d' : DraftLists) (n : ℕ) (text rest : List ℕ) (l : Line) (h : IsAhead d.progress text l rest) (is : d' ≡ put l d) where
  says : line_at d.progress (spelling (word_of_line l) (shift_of l) (operands l)) ≡ Ok l
  says = read_again d.progress l h.passes

  -- the reader goes on to the same answer
  pub went_ahead : reading d' (n + 1) (lines_of rest) ≡ reading d n (lines_of text)
  went_ahead = went_on d d' n (spelling (word_of_line l) (shift_of l) (operands l)) text rest l (reading d n (lines_of text)) (ap lines_of h.begins ∙ lines_of-text l rest h.passes.numbers) says is refl

  pub IsSmall-ahead : IsSmall d.progress n → IsSmall d'.progress (n + 1)
  IsSmall-ahead small = small_on d d' n (spelling (word_of_line l) (shift_of l) (operands l)) l says is small

-- more lines may have been read
pub IsSmall-more : (s : Progress) (n m : ℕ) → n ≤ m → IsSmall s n → IsSmall s m
IsSmall-more s n m le h = record { lanes = h.lanes; nursery = h.nursery; superpages = h.superpages; stood = omega (arith, h.stood) }
