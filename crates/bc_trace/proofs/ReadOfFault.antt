-- Whole texts: the reader goes over lines that pass, and stops at the first that doesn't.
use Rattle.std.proofs.Common.{◌≡◌, ◌≢◌, ℕ, suc, ◌+◌, ◌<◌, false, eqb, List, [], ◌∷◌, ◌++◌, length, map, Result, Ok, Err, refl, sym, ap, subst, ◌∙◌, append_assoc, inl, inr, arith, add-zero}
use Rattle.std.specs.Prelude.{◌⊎◌}
use Rattle.std.specs.List.{AllByRecursion, flat_map, onto_first, join_with_byte}
use Rattle.std.specs.Fmt.{decimal}
use Rattle.std.proofs.lemmas.Bool.{cases_Bool, eqb-false, ne_eqb}
use Rattle.std.proofs.lemmas.List.Elements.{All-from_recursion}
use Rattle.std.proofs.lemmas.List.Splits.{slice_split_at, slice_split_none, slice_split-cons_yes, slice_split-cons_no, join_with_byte-slice_split}
use Rattle.bc_model.specs.Lists.{TraceLists}
use Rattle.bc_model.specs.WellFormed.{IsWithin, IsNumber}
use Rattle.bc_trace.specs.declared.fault.Cause.{Cause}
use Rattle.bc_trace.specs.declared.fault.Cause.TheVariants as causes
use Rattle.bc_trace.specs.declared.fault.TraceFault.{TraceFault}
use Rattle.bc_trace.specs.declared.grammar.Stage.{Stage}
use Rattle.bc_trace.specs.declared.grammar.Stage.TheVariants as stages
use Rattle.bc_trace.specs.declared.grammar.Progress.{Progress}
use Rattle.bc_trace.specs.declared.line.Shift.{Shift}
use Rattle.bc_trace.specs.declared.line.Shift.TheVariants as shifts
use Rattle.bc_trace.specs.declared.words.Keyword.{Keyword}
use Rattle.bc_trace.specs.Words.{name}
use Rattle.bc_trace.specs.Lines.{Line, word_of_line, shift_of, shift_words, shift_numbers, operands, numbers_of, spelling, line_text}
use Rattle.bc_trace.specs.Grammar.{start, Passes, after_all, Follow}
use Rattle.bc_trace.specs.Faults.{IsWord, Fails, FaultOfLine, FaultAtEnd, EndFails, lines_begun, Fault}
use Rattle.bc_trace.specs.Drafts.{DraftLists, empty_draft, put}
use Rattle.bc_trace.specs.Reading.{line_at, lines_of, fault, trace_of_draft, ended, ended_at, reading, read_of}
use Rattle.bc_trace.proofs.Runs.{lines_of-some, reading-go, reading-stop, reading-end, read_of-is}
use Rattle.bc_trace.proofs.LineAtFails.{Judgement, visible, IsWord-name, are_words, read_again, judged, fails_read}

-- no line feed among the bytes
abbrev pub IsClear : List ℕ → Type 0
IsClear bytes = AllByRecursion (λ b. b ≢ 10) bytes

clear_tests : (bytes : List ℕ) → IsClear bytes → AllByRecursion (λ b. eqb b 10 ≡ false) bytes
clear_tests [] h = tt
clear_tests (b ∷ bs) h = (ne_eqb b 10 h.0, clear_tests bs h.1)

pub lines_of-line : (line rest : List ℕ) → IsClear line → lines_of (line ++ 10 ∷ rest) ≡ line ∷ lines_of rest
lines_of-line line rest h = slice_split_at (λ b. eqb b 10) line 10 rest (All-from_recursion (λ b. eqb b 10 ≡ false) line (clear_tests line h)) refl

pub lines_of-rest : (rest : List ℕ) → IsClear rest → lines_of rest ≡ rest ∷ []
lines_of-rest rest h = slice_split_none (λ b. eqb b 10) rest (All-from_recursion (λ b. eqb b 10 ≡ false) rest (clear_tests rest h))

clear-append : (xs ys : List ℕ) → IsClear xs → IsClear ys → IsClear (xs ++ ys)
clear-append [] ys h g = g
clear-append (x ∷ xs) ys h g = (h.0, clear-append xs ys h.1 g)

clear_word : (bs : List ℕ) → AllByRecursion (IsWithin 33 126) bs → IsClear bs
clear_word [] h = tt
clear_word (b ∷ bs) h = (λ e. absurd (omega (arith, h.0)), clear_word bs h.1)

clear_operands : (ns : List ℕ) → AllByRecursion IsWord (map decimal ns) → IsClear (flat_map (λ n. 32 ∷ decimal n) ns)
clear_operands [] h = tt
clear_operands (n ∷ ns) h = clear-append (32 ∷ decimal n) (flat_map (λ n. 32 ∷ decimal n) ns) ((λ e. absurd (omega arith)), clear_word (decimal n) (visible (decimal n) h.0)) (clear_operands ns h.1)

clear_shift : (shift : Shift) → AllByRecursion IsNumber (shift_numbers shift) → IsClear (flat_map (λ word. 32 ∷ word) (shift_words shift))
clear_shift shifts.Stays h = tt
clear_shift (shifts.Withhold k) h = (λ e. absurd (omega arith), (λ e. absurd (omega arith), clear-append (decimal k) [] (clear_word (decimal k) (visible (decimal k) (are_words (k ∷ []) h).0)) tt))
clear_shift (shifts.Return k) h = (λ e. absurd (omega arith), (λ e. absurd (omega arith), clear-append (decimal k) [] (clear_word (decimal k) (visible (decimal k) (are_words (k ∷ []) h).0)) tt))

both_parts : (xs ys : List ℕ) → AllByRecursion IsNumber (xs ++ ys) → AllByRecursion IsNumber xs × AllByRecursion IsNumber ys
both_parts [] ys h = (tt, h)
both_parts (x ∷ xs) ys h = let rest = both_parts xs ys h.1 in ((h.0, rest.0), rest.1)

pub clear_spelling : (w : Keyword) (shift : Shift) (ns : List ℕ) → AllByRecursion IsNumber (shift_numbers shift ++ ns) → IsClear (spelling w shift ns)
unfolding spelling
clear_spelling w shift ns h =
    let parts = both_parts (shift_numbers shift) ns h in
    let signed = flat_map (λ word. 32 ∷ word) (shift_words shift) in
    let plain = flat_map (λ n. 32 ∷ decimal n) ns in
    clear-append (name w) (signed ++ plain) (clear_word (name w) (visible (name w) (IsWord-name w))) (clear-append signed plain (clear_shift shift parts.0) (clear_operands ns (are_words ns parts.1)))

pub lines_of-text : (l : Line) (rest : List ℕ) → AllByRecursion IsNumber (numbers_of l) → lines_of (line_text l ++ rest) ≡ spelling (word_of_line l) (shift_of l) (operands l) ∷ lines_of rest
unfolding line_text
lines_of-text l rest h =
    ap lines_of (append_assoc (spelling (word_of_line l) (shift_of l) (operands l)) (10 ∷ []) rest)
    ∙ lines_of-line (spelling (word_of_line l) (shift_of l) (operands l)) rest (clear_spelling (word_of_line l) (shift_of l) (operands l) h)

-- ---- lines that pass are read

abbrev pub put_all : DraftLists → List Line → DraftLists
put_all d [] = d
put_all d (l ∷ ls) = put_all (put l d) ls

pub put_all-state : (ls : List Line) (d : DraftLists) → (put_all d ls).progress ≡ after_all d.progress ls
put_all-state [] d = refl
put_all-state (l ∷ ls) d = put_all-state ls (put l d)

pub forward : (ls : List Line) (d : DraftLists) (n : ℕ) (rest : List ℕ) → Follow d.progress ls → reading d n (lines_of (flat_map line_text ls ++ rest)) ≡ reading (put_all d ls) (n + length ls) (lines_of rest)
forward [] d n rest h = ap (λ k. reading d k (lines_of rest)) (omega arith)
forward (l ∷ ls) d n rest h =
    let more = flat_map line_text ls ++ rest in
    let cut : lines_of (flat_map line_text (l ∷ ls) ++ rest) ≡ spelling (word_of_line l) (shift_of l) (operands l) ∷ lines_of more = ap lines_of (append_assoc (line_text l) (flat_map line_text ls) rest) ∙ lines_of-text l more h.0.numbers in
    let go = reading-go d n (spelling (word_of_line l) (shift_of l) (operands l)) (lines_of more) l (lines_of-some more) (read_again d.progress l h.0) in
    let count : n + 1 + length ls ≡ n + suc (length ls) = omega arith in
    ap (λ (ps : List (List ℕ)). reading d n ps) cut ∙ go ∙ forward ls (put l d) (n + 1) rest h.1 ∙ ap (λ k. reading (put_all (put l d) ls) k (lines_of rest)) count

-- ---- a fault is read

pub fault_of_line_read : (bytes : List ℕ) (line : ℕ) (cause : Cause) → FaultOfLine bytes line cause → read_of bytes ≡ Err (fault line cause)
fault_of_line_read bytes line cause h =
    let d = put_all empty_draft h.before in
    let rest = h.bad ++ 10 ∷ h.rest in
    let here : line_at d.progress h.bad ≡ Err cause = rw (put_all-state h.before empty_draft) (fails_read (after_all start h.before) h.bad cause h.fails) in
    let number : 0 + length h.before + 1 ≡ line = rw h.number (omega arith) in
    read_of-is bytes
    ∙ ap (λ (bs : List ℕ). reading empty_draft 0 (lines_of bs)) h.text
    ∙ forward h.before empty_draft 0 rest h.pass
    ∙ ap (λ (ps : List (List ℕ)). reading d (0 + length h.before) ps) (lines_of-line h.bad h.rest h.whole)
    ∙ reading-stop d (0 + length h.before) h.bad (lines_of h.rest) cause (lines_of-some h.rest) here
    ∙ ap (λ k. Err (fault k cause)) number

not_finished : (d : DraftLists) (stage : Stage) (n : ℕ) (rest : List ℕ) → stage ≢ stages.Finished → ended_at stage d n rest ≡ Err (fault (n + lines_begun rest) causes.End)
not_finished d stages.Start n rest h = refl
not_finished d (stages.Awaiting k) n rest h = refl
not_finished d stages.Phases n rest h = refl
not_finished d stages.Turns n rest h = refl
not_finished d stages.Ops n rest h = refl
not_finished d stages.Gives n rest h = refl
not_finished d stages.Finished n rest h = absurd (h refl)

behind_done : (d : DraftLists) (n : ℕ) (rest : List ℕ) → rest ≢ [] → ended_at stages.Finished d n rest ≡ Err (fault (n + lines_begun rest) causes.Order)
behind_done d n [] h = absurd (h refl)
behind_done d n (b ∷ bs) h = refl

end_fault : (d : DraftLists) (stage : Stage) (n : ℕ) (rest : List ℕ) (cause : Cause) → EndFails stage rest cause → ended_at stage d n rest ≡ Err (fault (n + lines_begun rest) cause)
end_fault d stage n rest causes.Form h = absurd h
end_fault d stage n rest causes.Word h = absurd h
end_fault d stage n rest causes.Order h = rw h.0 (behind_done d n rest h.1)
end_fault d stage n rest causes.Number h = absurd h
end_fault d stage n rest causes.Range h = absurd h
end_fault d stage n rest causes.Frames h = absurd h
end_fault d stage n rest causes.End h = not_finished d stage n rest h

ended-is : (d : DraftLists) (n : ℕ) (rest : List ℕ) → ended d n rest ≡ ended_at d.progress.stage d n rest
unfolding ended
ended-is d n rest = refl

pub fault_at_end_read : (bytes : List ℕ) (line : ℕ) (cause : Cause) → FaultAtEnd bytes line cause → read_of bytes ≡ Err (fault line cause)
fault_at_end_read bytes line cause h =
    let d = put_all empty_draft h.before in
    let stage : (after_all start h.before).stage ≡ d.progress.stage = ap (λ s. s.stage) (sym (put_all-state h.before empty_draft)) in
    let ends : EndFails d.progress.stage h.rest cause = subst (λ p. EndFails p h.rest cause) stage h.ends in
    let number : 0 + length h.before + lines_begun h.rest ≡ line = rw h.number (omega arith) in
    read_of-is bytes
    ∙ ap (λ (bs : List ℕ). reading empty_draft 0 (lines_of bs)) h.text
    ∙ forward h.before empty_draft 0 h.rest h.pass
    ∙ ap (λ (ps : List (List ℕ)). reading d (0 + length h.before) ps) (lines_of-rest h.rest h.begun)
    ∙ reading-end d (0 + length h.before) h.rest
    ∙ ended-is d (0 + length h.before) h.rest
    ∙ end_fault d d.progress.stage (0 + length h.before) h.rest cause ends
    ∙ ap (λ k. Err (fault k cause)) number

pub fault_read : (bytes : List ℕ) (line : ℕ) (cause : Cause) → Fault bytes line cause → read_of bytes ≡ Err (fault line cause)
fault_read bytes line cause (inl h) = fault_of_line_read bytes line cause h
fault_read bytes line cause (inr h) = fault_at_end_read bytes line cause h

-- ---- what was read: lines that pass up to the end, or up to the first fault

-- the same from a progress and a number of lines on
record LineFails (s : Progress) (n : ℕ) (bytes : List ℕ) (f : TraceFault) : Type 0 where
  before : List Line
  bad : List ℕ
  rest : List ℕ
  text : bytes ≡ flat_map line_text before ++ (bad ++ 10 ∷ rest)
  whole : IsClear bad
  pass : Follow s before
  number : f.line ≡ n + length before + 1
  fails : Fails (after_all s before) bad f.cause

record TextEnds (s : Progress) (n : ℕ) (bytes : List ℕ) (f : TraceFault) : Type 0 where
  before : List Line
  rest : List ℕ
  text : bytes ≡ flat_map line_text before ++ rest
  begun : IsClear rest
  pass : Follow s before
  number : f.line ≡ n + length before + lines_begun rest
  ends : EndFails (after_all s before).stage rest f.cause

pub record AllPass (d : DraftLists) (bytes : List ℕ) (t : TraceLists) : Type 0 where
  pub lines : List Line
  pub text : bytes ≡ flat_map line_text lines
  pub pass : Follow d.progress lines
  pub stage : (put_all d lines).progress.stage ≡ stages.Finished
  pub trace : trace_of_draft (put_all d lines) ≡ t

abbrev Verdict : DraftLists → ℕ → List (List ℕ) → Type 0
Verdict d n parts = ((t : TraceLists) × (reading d n parts ≡ Ok t) × AllPass d (join_with_byte 10 parts) t) ⊎ ((f : TraceFault) × (reading d n parts ≡ Err f) × (LineFails d.progress n (join_with_byte 10 parts) f ⊎ TextEnds d.progress n (join_with_byte 10 parts) f))

unfinished : (d : DraftLists) (n : ℕ) (rest : List ℕ) → IsClear rest → d.progress.stage ≢ stages.Finished → reading d n (rest ∷ []) ≡ ended_at d.progress.stage d n rest → Verdict d n (rest ∷ [])
unfinished d n rest clear isnt e = inr (fault (n + lines_begun rest) causes.End, e ∙ not_finished d d.progress.stage n rest isnt, inr (record { before = []; rest = rest; text = refl; begun = clear; pass = tt; number = ap (λ k. k + lines_begun rest) (sym (add-zero n)); ends = isnt }))

verdict_done : (d : DraftLists) (n : ℕ) (rest : List ℕ) → IsClear rest → d.progress.stage ≡ stages.Finished → reading d n (rest ∷ []) ≡ ended_at d.progress.stage d n rest → Verdict d n (rest ∷ [])
verdict_done d n [] clear is e = inl (trace_of_draft d, e ∙ ap (λ p. ended_at p d n []) is, record { lines = []; text = refl; pass = tt; stage = is; trace = refl })
verdict_done d n (b ∷ bs) clear is e = inr (fault (n + 1) causes.Order, e ∙ ap (λ p. ended_at p d n (b ∷ bs)) is, inr (record { before = []; rest = b ∷ bs; text = refl; begun = clear; pass = tt; number = ap (λ k. k + 1) (sym (add-zero n)); ends = (is, λ h. absurd cc) }))

cases_finished : (p : Stage) → (p ≡ stages.Finished) ⊎ (p ≢ stages.Finished)
cases_finished stages.Start = inr (λ h. absurd cc)
cases_finished (stages.Awaiting k) = inr (λ h. absurd cc)
cases_finished stages.Phases = inr (λ h. absurd cc)
cases_finished stages.Turns = inr (λ h. absurd cc)
cases_finished stages.Ops = inr (λ h. absurd cc)
cases_finished stages.Gives = inr (λ h. absurd cc)
cases_finished stages.Finished = inl refl

verdict_end : (d : DraftLists) (n : ℕ) (rest : List ℕ) → IsClear rest → reading d n (rest ∷ []) ≡ ended_at d.progress.stage d n rest → Verdict d n (rest ∷ [])
verdict_end d n rest clear e =
    elim (cases_finished d.progress.stage) [
      | inl is ↦ verdict_done d n rest clear is e
      | inr isnt ↦ unfinished d n rest clear isnt e
    ]

front : (line : List ℕ) (l : Line) (bytes rest : List ℕ) → line ≡ spelling (word_of_line l) (shift_of l) (operands l) → bytes ≡ rest → line ++ 10 ∷ bytes ≡ line_text l ++ rest
unfolding line_text
front line l bytes rest e h = rw (e, h) (sym (append_assoc (spelling (word_of_line l) (shift_of l) (operands l)) (10 ∷ []) rest))

module _ (d : DraftLists) (n : ℕ) (line : List ℕ) (l : Line) (parts : List (List ℕ)) (some : 0 < length parts) (says : line_at d.progress line ≡ Ok l) (text : line ≡ spelling (word_of_line l) (shift_of l) (operands l)) (passes : Passes d.progress l) where
  one_more : line ++ 10 ∷ join_with_byte 10 parts ≡ join_with_byte 10 (line ∷ parts) → Verdict (put l d) (n + 1) parts → Verdict d n (line ∷ parts)
  one_more join (inl (t, e, h)) = inl (
    t,
    reading-go d n line parts l some says ∙ e,
    record {
      lines = l ∷ h.lines;
      text = sym join ∙ front line l (join_with_byte 10 parts) (flat_map line_text h.lines) text h.text;
      pass = (passes, h.pass);
      stage = h.stage;
      trace = h.trace;
    },
  )
  one_more join (inr (f, e, inl h)) = inr (
    f,
    reading-go d n line parts l some says ∙ e,
    inl (record {
      before = l ∷ h.before;
      bad = h.bad;
      rest = h.rest;
      text = sym join ∙ front line l (join_with_byte 10 parts) (flat_map line_text h.before ++ (h.bad ++ 10 ∷ h.rest)) text h.text ∙ sym (append_assoc (line_text l) (flat_map line_text h.before) (h.bad ++ 10 ∷ h.rest));
      whole = h.whole;
      pass = (passes, h.pass);
      number = h.number ∙ omega arith;
      fails = h.fails;
    }),
  )
  one_more join (inr (f, e, inr h)) = inr (
    f,
    reading-go d n line parts l some says ∙ e,
    inr (record {
      before = l ∷ h.before;
      rest = h.rest;
      text = sym join ∙ front line l (join_with_byte 10 parts) (flat_map line_text h.before ++ h.rest) text h.text ∙ sym (append_assoc (line_text l) (flat_map line_text h.before) h.rest);
      begun = h.begun;
      pass = (passes, h.pass);
      number = h.number ∙ omega arith;
      ends = h.ends;
    }),
  )

verdict : (parts : List (List ℕ)) (d : DraftLists) (n : ℕ) → 0 < length parts → AllByRecursion IsClear parts → Verdict d n parts
verdict [] d n some clear = absurd (omega arith)
verdict (rest ∷ []) d n some clear = verdict_end d n rest clear.0 (reading-end d n rest ∙ ended-is d n rest)
verdict (line ∷ next ∷ parts) d n some clear = verdict_line (judged d.progress line) (λ d n. verdict (next ∷ parts) d n (omega arith) clear.1) where
  verdict_line : Judgement d.progress line → ((d : DraftLists) (n : ℕ) → Verdict d n (next ∷ parts)) → Verdict d n (line ∷ next ∷ parts)
  verdict_line (inl (l, e, text, passes)) more = one_more d n line l (next ∷ parts) (omega arith) e text passes refl (more (put l d) (n + 1))
  verdict_line (inr (cause, e, fails)) more = inr (
    fault (n + 1) cause,
    reading-stop d n line (next ∷ parts) cause (omega arith) e,
    inl (record {
      before = [];
      bad = line;
      rest = join_with_byte 10 (next ∷ parts);
      text = refl;
      whole = clear.0;
      pass = tt;
      number = ap (λ k. k + 1) (sym (add-zero n));
      fails = fails;
    }),
  )

-- ---- the same of bytes

onto_clear : (b : ℕ) (ps : List (List ℕ)) → b ≢ 10 → AllByRecursion IsClear ps → AllByRecursion IsClear (onto_first b ps)
onto_clear b [] h hs = ((h, tt), tt)
onto_clear b (p ∷ ps) h hs = ((h, hs.0), hs.1)

lines_clear : (bytes : List ℕ) → AllByRecursion IsClear (lines_of bytes)
lines_clear [] = (tt, tt)
lines_clear (b ∷ bs) =
    elim (cases_Bool (eqb b 10)) [
      | inl is ↦ rw (slice_split-cons_yes (λ b. eqb b 10) b bs is) (tt, lines_clear bs)
      | inr isnt ↦ rw (slice_split-cons_no (λ b. eqb b 10) b bs isnt) (onto_clear b (lines_of bs) (eqb-false b 10 isnt) (lines_clear bs))
    ]

abbrev pub Reading : List ℕ → Type 0
Reading bytes = ((t : TraceLists) × (read_of bytes ≡ Ok t) × AllPass empty_draft bytes t) ⊎ ((f : TraceFault) × (read_of bytes ≡ Err f) × Fault bytes f.line f.cause)

whole_reading : (bytes joined : List ℕ) → joined ≡ bytes → (n : ℕ) → n ≡ 0 → (r : Result TraceLists TraceFault) → read_of bytes ≡ r → ((t : TraceLists) × (r ≡ Ok t) × AllPass empty_draft joined t) ⊎ ((f : TraceFault) × (r ≡ Err f) × (LineFails start n joined f ⊎ TextEnds start n joined f)) → Reading bytes
whole_reading bytes joined same n zero-is r e (inl (t, is, h)) = inl (t, e ∙ is, record { lines = h.lines; text = sym same ∙ h.text; pass = h.pass; stage = h.stage; trace = h.trace })
whole_reading bytes joined same n zero-is r e (inr (f, is, inl h)) = inr (f, e ∙ is, inl (record { before = h.before; bad = h.bad; rest = h.rest; text = sym same ∙ h.text; whole = h.whole; pass = h.pass; number = h.number ∙ omega arith; fails = h.fails }))
whole_reading bytes joined same n zero-is r e (inr (f, is, inr h)) = inr (f, e ∙ is, inr (record { before = h.before; rest = h.rest; text = sym same ∙ h.text; begun = h.begun; pass = h.pass; number = h.number ∙ omega arith; ends = h.ends }))

pub read_means : (bytes : List ℕ) → Reading bytes
read_means bytes = whole_reading bytes (join_with_byte 10 (lines_of bytes)) (join_with_byte-slice_split 10 bytes) 0 refl (reading empty_draft 0 (lines_of bytes)) (read_of-is bytes) (verdict (lines_of bytes) empty_draft 0 (lines_of-some bytes) (lines_clear bytes))
