-- One word more, between two words: where the walk goes, and which fault it has.
use Rattle.std.proofs.Common.{◌≡◌, ◌≢◌, ◌∙◌, ◌&&◌, ◌||◌, ap, sym, refl, Bool, true, false, List, [], ◌∷◌, ◌++◌, Option, Some, None, cond, codes}
use Rattle.std.specs.Str.{bytes_eq}
use Rattle.clap.specs.Lexer.{long_of}
use Rattle.clap.specs.Walk.{Held, Outcome, Row, Rule, Step, after_flag, option_met, Text, Waiting, Walk, idle, option, plain_word, positional, settled_rows, subcommand_met, subcommand_or_other, to_positional, trailing, next, used, value, walked, word_met, after_step, long_met, long_or_other, option_word, pushed}
use Rattle.clap.specs.Kinds.{Kinds, or_else}
use Rattle.clap.specs.Faults.{flag_word_fault, long_fault, option_fault, other_fault, settle_fault, step_fault, turn_fault, use_fault, word_fault}
use Rattle.bc_words.proofs.App.{rules, shape, workers_rule, values_rule, workers-by_id, workers-by_long, workers-id, values-by_index, values-several, workers_id, values_id}
use Rattle.bc_words.proofs.Meets.{IsPlainMet, double_hyphen, hold}

-- where the walk stands between two words
abbrev pub at : List Row → Option (Text × List Text) → Waiting → Bool → Walk
at rows pending waiting is_trailing = record {
  held = hold rows pending;
  waiting = waiting;
  position = 1;
  is_trailing = is_trailing;
  stopped = None;
}

-- no option waits for a value
abbrev pub IsResting : Waiting → Type 0
IsResting waiting = (word : Text) (h : Held) → plain_word rules waiting word h ≡ (h, value)

pub idle-rests : IsResting idle
idle-rests word h = refl

pub positional-rests : IsResting positional
positional-rests word h = refl

no_subcommand : (waiting : Waiting) (word : Text) → subcommand_met [] waiting word ≡ None
no_subcommand idle word = refl
no_subcommand (option id) word = refl
no_subcommand positional word = refl

fault_here : (name : Text) (waiting : Waiting) (word : Text) (h : Held) → word_fault (shape name) [] false waiting word h ≡ other_fault (shape name) None word h
fault_here name waiting word h = ap (λ o. other_fault (shape name) o word h) (no_subcommand waiting word)

met_here : (waiting : Waiting) (word : Text) (h : Held) → word_met rules [] false waiting 1 word h ≡ subcommand_or_other rules None waiting 1 word h
met_here waiting word h = ap (λ o. subcommand_or_other rules o waiting 1 word h) (no_subcommand waiting word)

-- what the turn is, by what the word is found to be
turn_is : (name : Text) (rows : List Row) (pending : Option (Text × List Text)) (waiting : Waiting) (is_trailing : Bool) (word : Text) (fault : Kinds) (met : Held × Step)
    → word_fault (shape name) [] is_trailing waiting word (hold rows pending) ≡ fault → word_met rules [] is_trailing waiting 1 word (hold rows pending) ≡ met
    → (turn_fault (shape name) [] (at rows pending waiting is_trailing) word ≡ or_else fault (step_fault (shape name) 1 met.0 met.1))
    × (walked rules [] (at rows pending waiting is_trailing) word ≡ after_step rules word (at rows pending waiting is_trailing) met.0 met.1)
unfolding walked
turn_is name rows pending waiting is_trailing word fault met e f = (
  ap (λ k. or_else k (step_fault (shape name) 1 (word_met rules [] is_trailing waiting 1 word (hold rows pending)).0 (word_met rules [] is_trailing waiting 1 word (hold rows pending)).1)) e
      ∙ ap (λ (m : Held × Step). or_else fault (step_fault (shape name) 1 m.0 m.1)) f,
  ap (λ (m : Held × Step). after_step rules word (at rows pending waiting is_trailing) m.0 m.1) f,
)

-- ---- a plain value

if_false : (b : Bool) (a k : Kinds) → cond (b && false) a k ≡ k
if_false true a k = refl
if_false false a k = refl

if_held : (b : Bool) (a k : Held) → ◌≡◌ {A = Held} (cond (b && false) a k) k
if_held true a k = refl
if_held false a k = refl

value_step : (name : Text) (rows : List Row) (pending : Option (Text × List Text))
    → step_fault (shape name) 1 (hold rows pending) value ≡ settle_fault rules false (hold rows pending)
value_step name rows pending = rw (values-by_index, values-several) (if_false _ _ _)

or_false : (b : Bool) → (b || false) ≡ b
or_false true = refl
or_false false = refl

value_to : (rows : List Row) (pending : Option (Text × List Text)) (waiting : Waiting) (is_trailing : Bool) (word : Text)
    → to_positional rules (Some values_rule) word (at rows pending waiting is_trailing) (hold rows pending)
    ≡ at (settled_rows rules pending rows) (Some (values_id, word ∷ [])) positional is_trailing
unfolding values_rule
value_to rows pending waiting is_trailing word =
    ap (λ (k : Held). record { held = pushed values_id word k; waiting = positional; position = 1; is_trailing = is_trailing || false; stopped = None }) (if_held _ _ _)
    ∙ ap (λ b. at (settled_rows rules pending rows) (Some (values_id, word ∷ [])) positional b) (or_false is_trailing)

value_walk : (rows : List Row) (pending : Option (Text × List Text)) (waiting : Waiting) (is_trailing : Bool) (word : Text)
    → after_step rules word (at rows pending waiting is_trailing) (hold rows pending) value
    ≡ at (settled_rows rules pending rows) (Some (values_id, word ∷ [])) positional is_trailing
value_walk rows pending waiting is_trailing word =
    ap (λ o. to_positional rules o word (at rows pending waiting is_trailing) (hold rows pending)) values-by_index
    ∙ value_to rows pending waiting is_trailing word

-- a turn: its fault, and where the walk stands after it
pub record Turn (name : Text) (w : Walk) (word : Text) (fault : Kinds) (after : Walk) : Type 0 where
  pub fault_is : turn_fault (shape name) [] w word ≡ fault
  pub after_is : walked rules [] w word ≡ after

or_else_nil : (k : Kinds) → or_else k [] ≡ k
or_else_nil [] = refl
or_else_nil (k ∷ ks) = refl

-- a plain value, once `--` was skipped
pub trailing_turn : (name : Text) (rows : List Row) (pending : Option (Text × List Text)) (waiting : Waiting) (word : Text)
    → Turn name (at rows pending waiting true) word (settle_fault rules false (hold rows pending)) (at (settled_rows rules pending rows) (Some (values_id, word ∷ [])) positional true)
trailing_turn name rows pending waiting word =
    let t = turn_is name rows pending waiting true word [] (hold rows pending, value) refl refl in
    record {
      fault_is = t.0 ∙ value_step name rows pending;
      after_is = t.1 ∙ value_walk rows pending waiting true word;
    }

bare_fault : (name : Text) (waiting : Waiting) (word : Text) (rows : List Row) (pending : Option (Text × List Text)) → IsPlainMet word
    → word_fault (shape name) [] false waiting word (hold rows pending) ≡ []
bare_fault name waiting word rows pending p =
    fault_here name waiting word (hold rows pending)
    ∙ ap (λ b. cond b [] (flag_word_fault rules false (long_of word) word (hold rows pending))) p.no_dashes
    ∙ p.no_fault (hold rows pending) refl

bare_met : (waiting : Waiting) (word : Text) (rows : List Row) (pending : Option (Text × List Text)) → IsPlainMet word
    → word_met rules [] false waiting 1 word (hold rows pending) ≡ plain_word rules waiting word (hold rows pending)
bare_met waiting word rows pending p =
    met_here waiting word (hold rows pending)
    ∙ ap (λ b. cond b (hold rows pending, trailing 1) (long_or_other rules waiting word (long_of word) (hold rows pending))) p.no_dashes
    ∙ p.met waiting (hold rows pending) refl

-- a plain value, before any `--`
pub bare_turn : (name : Text) (rows : List Row) (pending : Option (Text × List Text)) (waiting : Waiting) (word : Text) → IsPlainMet word → IsResting waiting
    → Turn name (at rows pending waiting false) word (settle_fault rules false (hold rows pending)) (at (settled_rows rules pending rows) (Some (values_id, word ∷ [])) positional false)
bare_turn name rows pending waiting word p rests =
    let t = turn_is name rows pending waiting false word [] (hold rows pending, value) (bare_fault name waiting word rows pending p)
    (bare_met waiting word rows pending p ∙ rests word (hold rows pending)) in
    record {
      fault_is = t.0 ∙ value_step name rows pending;
      after_is = t.1 ∙ value_walk rows pending waiting false word;
    }

-- ---- a value of the option

one_value : (rows : List Row) (word : Text)
    → ◌≡◌ {A = Held × Step}
    ((option_word (Some workers_rule) workers_id word (hold rows (Some (workers_id, [])))).0, next (option_word (Some workers_rule) workers_id word (hold rows (Some (workers_id, [])))).1)
    (hold rows (Some (workers_id, word ∷ [])), next idle)
unfolding workers_rule
one_value rows word = refl

option_takes : (rows : List Row) (word : Text)
    → plain_word rules (option workers_id) word (hold rows (Some (workers_id, []))) ≡ (hold rows (Some (workers_id, word ∷ [])), next idle)
option_takes rows word = ap (λ (o : Option Rule).
    ((option_word o workers_id word (hold rows (Some (workers_id, [])))).0, next (option_word o workers_id word (hold rows (Some (workers_id, [])))).1)) workers-by_id
    ∙ one_value rows word

pub value_turn : (name : Text) (rows : List Row) (word : Text) → IsPlainMet word
    → Turn name (at rows (Some (workers_id, [])) (option workers_id) false) word [] (at rows (Some (workers_id, word ∷ [])) idle false)
value_turn name rows word p =
    let t = turn_is name rows (Some (workers_id, [])) (option workers_id) false word [] (hold rows (Some (workers_id, word ∷ [])), next idle)
    (bare_fault name (option workers_id) word rows (Some (workers_id, [])) p) (bare_met (option workers_id) word rows (Some (workers_id, [])) p ∙ option_takes rows word) in
    record { fault_is = t.0; after_is = t.1 }

-- ---- flags

pub dashes_turn : (name : Text) (rows : List Row) (pending : Option (Text × List Text)) (waiting : Waiting)
    → Turn name (at rows pending waiting false) double_hyphen [] (at rows pending waiting true)
dashes_turn name rows pending waiting =
    let t = turn_is name rows pending waiting false double_hyphen [] (hold rows pending, trailing 1)
    (fault_here name waiting double_hyphen (hold rows pending)) (met_here waiting double_hyphen (hold rows pending)) in
    record { fault_is = t.0; after_is = t.1 }

known_fault : (given : Option Text) (h : Held) → long_fault rules false (Some workers_rule) given h ≡ option_fault rules false workers_rule given h
unfolding workers_rule
known_fault given h = refl

known_met : (given : Option Text) (h : Held) → long_met rules (Some workers_rule) given h ≡ option_met rules workers_rule given h
unfolding workers_rule
known_met given h = refl

-- the fault and the step of a word that names the option
named_fault : (name : Text) (waiting : Waiting) (word : Text) (given : Option Text) (h : Held) → bytes_eq word double_hyphen ≡ false → long_of word ≡ Some (workers_id, given)
    → word_fault (shape name) [] false waiting word h ≡ option_fault rules false workers_rule given h
named_fault name waiting word given h other e =
    fault_here name waiting word h
    ∙ ap (λ b. cond b [] (flag_word_fault rules false (long_of word) word h)) other
    ∙ ap (λ l. flag_word_fault rules false l word h) e
    ∙ ap (λ o. long_fault rules false o given h) workers-by_long
    ∙ known_fault given h

named_met : (waiting : Waiting) (word : Text) (given : Option Text) (h : Held) → bytes_eq word double_hyphen ≡ false → long_of word ≡ Some (workers_id, given)
    → word_met rules [] false waiting 1 word h ≡ after_flag rules waiting word (option_met rules workers_rule given h).0 (option_met rules workers_rule given h).1
named_met waiting word given h other e =
    met_here waiting word h
    ∙ ap (λ b. cond b (h, trailing 1) (long_or_other rules waiting word (long_of word) h)) other
    ∙ ap (λ l. long_or_other rules waiting word l h) e
    ∙ ap (λ o. after_flag rules waiting word (long_met rules o given h).0 (long_met rules o given h).1) workers-by_long
    ∙ ap (λ (m : Held × Outcome). after_flag rules waiting word m.0 m.1) (known_met given h)

pub apart_turn : (name : Text) (rows : List Row) (pending : Option (Text × List Text)) (waiting : Waiting)
    → Turn name (at rows pending waiting false) (codes "--workers") (settle_fault rules false (hold rows pending))
    (at (settled_rows rules pending rows) (Some (workers_id, [])) (option workers_id) false)
apart_turn name rows pending waiting =
    let t = turn_is name rows pending waiting false (codes "--workers") (settle_fault rules false (hold rows pending))
    (hold (settled_rows rules pending rows) (Some (workers_id, [])), next (option workers_id))
    (named_fault name waiting (codes "--workers") None (hold rows pending) refl refl)
    (named_met waiting (codes "--workers") None (hold rows pending) refl refl
    ∙ ap (λ (id : Text). (hold (settled_rows rules pending rows) (Some (id, [])), next (option id))) workers-id) in
    record { fault_is = t.0 ∙ or_else_nil _; after_is = t.1 }

pub joined_turn : (name : Text) (rows : List Row) (pending : Option (Text × List Text)) (waiting : Waiting) (v : Text)
    → Turn name (at rows pending waiting false) (codes "--workers=" ++ v)
    (or_else (settle_fault rules false (hold rows pending)) (use_fault false workers_rule (v ∷ []) (settled_rows rules pending rows)))
    (at (used workers_rule (v ∷ []) (settled_rows rules pending rows)) None idle false)
joined_turn name rows pending waiting v =
    let t = turn_is name rows pending waiting false (codes "--workers=" ++ v)
    (or_else (settle_fault rules false (hold rows pending)) (use_fault false workers_rule (v ∷ []) (settled_rows rules pending rows)))
    (hold (used workers_rule (v ∷ []) (settled_rows rules pending rows)) None, next idle)
    (named_fault name waiting (codes "--workers=" ++ v) (Some v) (hold rows pending) refl refl)
    (named_met waiting (codes "--workers=" ++ v) (Some v) (hold rows pending) refl refl) in
    record { fault_is = t.0 ∙ or_else_nil _; after_is = t.1 }

pub first_fails : (a b : Kinds) → a ≢ [] → or_else a b ≢ []
first_fails [] b some e = some refl
first_fails (k ∷ ks) b some e = absurd cc

pub refused_turn : (name : Text) (rows : List Row) (pending : Option (Text × List Text)) (waiting : Waiting) (word : Text)
    → bytes_eq word double_hyphen ≡ false → ((h : Held) → h.skip ≡ 0 → flag_word_fault rules false (long_of word) word h ≢ [])
    → turn_fault (shape name) [] (at rows pending waiting false) word ≢ []
refused_turn name rows pending waiting word other faulty none =
    let here : word_fault (shape name) [] false waiting word (hold rows pending) ≡ flag_word_fault rules false (long_of word) word (hold rows pending) =
    fault_here name waiting word (hold rows pending)
    ∙ ap (λ b. cond b [] (flag_word_fault rules false (long_of word) word (hold rows pending))) other in
    let t = turn_is name rows pending waiting false word _ _ here refl in
    first_fails _ _ (faulty (hold rows pending) refl) (sym t.0 ∙ none)
