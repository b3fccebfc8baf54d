-- From what `clap` keeps to the rules: where it finds no fault, and every plain value begins with no hyphen, the rules read the words
-- as it did.
use Rattle.std.proofs.Common.{◌≡◌, ◌≢◌, ◌∙◌, ap, sym, subst, refl, true, false, List, [], ◌∷◌, ◌++◌, Option, Some, None, codes, append_assoc, append-nil, option_to_list}
use Rattle.std.specs.List.{AllByRecursion}
use Rattle.clap.specs.Walk.{Row, Text, Waiting, Walk, idle, option, positional, settled_rows, used}
use Rattle.clap.specs.Kinds.{Kinds}
use Rattle.clap.specs.Faults.{settle_fault, turn_fault, walk_fault}
use Rattle.bc_words.specs.Commands.{Parts, ended, dashes, apart, joined, bare}
use Rattle.bc_words.proofs.App.{rules, shape, workers_rule, workers-unfinished, workers_id, values_id}
use Rattle.bc_words.proofs.Rows.{Kept, kept-given}
use Rattle.bc_words.proofs.Meets.{Meets, double_hyphen, hold, meets}
use Rattle.bc_words.proofs.Meets as met
use Rattle.bc_words.proofs.Walking.{IsResting, Turn, at, apart_turn, bare_turn, dashes_turn, idle-rests, joined_turn, positional-rests, refused_turn, trailing_turn, value_turn}
use Rattle.bc_words.proofs.Reading.{IsBare, rest_fault, rest_rows, or_else_parts, fault_next, rows_next, fault_ends, workers_settle, values_settle, once, twice, kept_value, kept_workers, trails}

-- what is kept at the end is what the rules read of the words that are left
pub record Tells (name : Text) (w : Walk) (rest : List Text) (given : Option Text) (plain : List Text) : Type 0 where
  pub values : List Text
  pub more : List Text
  pub new : Option Text
  pub kept : Kept (rest_rows w rest) new (plain ++ more)
  pub same : option_to_list given ++ values ≡ option_to_list new
  pub parts : AllByRecursion IsBare more → Parts rest values more

-- the same where the option waits for its value, which is the next word
pub record TellsValue (name : Text) (w : Walk) (rest : List Text) (given : Option Text) (plain : List Text) : Type 0 where
  pub value : Text
  pub tail : List Text
  pub values : List Text
  pub more : List Text
  pub new : Option Text
  pub begins : rest ≡ value ∷ tail
  pub kept : Kept (rest_rows w rest) new (plain ++ more)
  pub first : given ≡ None
  pub same : value ∷ values ≡ option_to_list new
  pub parts : AllByRecursion IsBare more → Parts tail values more

past : (name : Text) (w after : Walk) (word : Text) (rest : List Text) (fault : Kinds) → Turn name w word fault after → rest_fault name w (word ∷ rest) ≡ []
    → (fault ≡ []) × (rest_fault name after rest ≡ [])
past name w after word rest fault t e = or_else_parts fault (rest_fault name after rest) (sym (fault_next name w after word rest fault t) ∙ e)

-- ---- a fault that waits is found

stuck_trailing : (name : Text) (rest : List Text) (rows : List Row) (pending : Option (Text × List Text)) (waiting : Waiting)
    → settle_fault rules false (hold rows pending) ≢ [] → rest_fault name (at rows pending waiting true) rest ≢ []
stuck_trailing name [] rows pending waiting faulty e = faulty (sym (fault_ends name (at rows pending waiting true)) ∙ e)
stuck_trailing name (word ∷ rest) rows pending waiting faulty e =
    faulty (past name _ _ word rest _ (trailing_turn name rows pending waiting word) e).0

refused_here : (name : Text) (word : Text) (rest : List Text) (rows : List Row) (pending : Option (Text × List Text)) (waiting : Waiting)
    → turn_fault (shape name) [] (at rows pending waiting false) word ≢ [] → rest_fault name (at rows pending waiting false) (word ∷ rest) ≢ []
unfolding walk_fault
refused_here name word rest rows pending waiting faulty e = faulty (or_else_parts _ _ (or_else_parts _ _ e).0).0

stuck_first : (name : Text) (word : Text) (rest : List Text) (rows : List Row) (pending : Option (Text × List Text)) (waiting : Waiting)
    → Meets word → IsResting waiting → settle_fault rules false (hold rows pending) ≢ [] → rest_fault name (at rows pending waiting false) (word ∷ rest) ≢ []
stuck_first name word rest rows pending waiting (met.dashes its) rests faulty e =
    let here = subst (λ u. rest_fault name (at rows pending waiting false) (u ∷ rest) ≡ []) its e in
    stuck_trailing name rest rows pending waiting faulty (past name _ _ _ rest _ (dashes_turn name rows pending waiting) here).1
stuck_first name word rest rows pending waiting (met.apart its) rests faulty e =
    let here = subst (λ u. rest_fault name (at rows pending waiting false) (u ∷ rest) ≡ []) its e in
    faulty (past name _ _ _ rest _ (apart_turn name rows pending waiting) here).0
stuck_first name word rest rows pending waiting (met.joined v its) rests faulty e =
    let here = subst (λ u. rest_fault name (at rows pending waiting false) (u ∷ rest) ≡ []) its e in
    faulty (or_else_parts _ _ (past name _ _ _ rest _ (joined_turn name rows pending waiting v) here).0).0
stuck_first name word rest rows pending waiting (met.refused other faults) rests faulty e =
    refused_here name word rest rows pending waiting (refused_turn name rows pending waiting word other faults) e
stuck_first name word rest rows pending waiting (met.bare p) rests faulty e =
    faulty (past name _ _ word rest _ (bare_turn name rows pending waiting word p rests) e).0

stuck : (name : Text) (rest : List Text) (rows : List Row) (pending : Option (Text × List Text)) (waiting : Waiting) → IsResting waiting
    → settle_fault rules false (hold rows pending) ≢ [] → rest_fault name (at rows pending waiting false) rest ≢ []
stuck name [] rows pending waiting rests faulty e = faulty (sym (fault_ends name (at rows pending waiting false)) ∙ e)
stuck name (word ∷ rest) rows pending waiting rests faulty e = stuck_first name word rest rows pending waiting (meets word) rests faulty e

-- ---- the induction

abbrev Resting : Text → List Text → Type 0
Resting name rest = (rows : List Row) → (pending : Option (Text × List Text)) → (waiting : Waiting) → (given : Option Text) → (plain : List Text)
    → IsResting waiting → Kept (settled_rows rules pending rows) given plain → settle_fault rules false (hold rows pending) ≡ []
    → rest_fault name (at rows pending waiting false) rest ≡ [] → Tells name (at rows pending waiting false) rest given plain

abbrev Awaiting : Text → List Text → Type 0
Awaiting name rest = (rows : List Row) → (given : Option Text) → (plain : List Text) → Kept rows given plain
    → rest_fault name (at rows (Some (workers_id, [])) (option workers_id) false) rest ≡ []
    → TellsValue name (at rows (Some (workers_id, [])) (option workers_id) false) rest given plain

-- no value came
unfinished : (rows : List Row) → settle_fault rules false (hold rows (Some (workers_id, []))) ≢ []
unfinished rows e = workers-unfinished rows (sym (workers_settle rows []) ∙ e)

awaits_end : (name : Text) → Awaiting name []
awaits_end name rows given plain k e = absurd (unfinished rows (sym (fault_ends name (at rows (Some (workers_id, [])) (option workers_id) false)) ∙ e))

value_came : (name word : Text) (rest : List Text) → met.IsPlainMet word → Resting name rest → (rows : List Row) (given : Option Text) (plain : List Text) → Kept rows given plain
    → rest_fault name (at rows (Some (workers_id, [])) (option workers_id) false) (word ∷ rest) ≡ []
    → TellsValue name (at rows (Some (workers_id, [])) (option workers_id) false) (word ∷ rest) given plain
value_came name word rest p later rows None plain k e =
    let t = value_turn name rows word p in
    let after = past name _ _ word rest _ t e in
    let told = later rows (Some (workers_id, word ∷ [])) idle (Some word) plain idle-rests (kept_workers word rows plain k)
    (workers_settle rows (word ∷ []) ∙ once word rows plain k) after.1 in
    record {
      value = word;
      tail = rest;
      values = told.values;
      more = told.more;
      new = told.new;
      begins = refl;
      kept = subst (λ rs. Kept rs told.new (plain ++ told.more)) (sym (rows_next name _ _ word rest _ t)) told.kept;
      first = refl;
      same = told.same;
      parts = told.parts;
    }
value_came name word rest p later rows (Some g) plain k e =
    let after = past name _ _ word rest _ (value_turn name rows word p) e in
    absurd (stuck name rest rows (Some (workers_id, word ∷ [])) idle idle-rests (λ z. twice word g rows plain k (sym (workers_settle rows (word ∷ [])) ∙ z)) after.1)

awaits_next : (name word : Text) (rest : List Text) → Meets word → Resting name rest → Awaiting name (word ∷ rest)
awaits_next name word rest (met.dashes its) later rows given plain k e =
    let here = subst (λ u. rest_fault name (at rows (Some (workers_id, [])) (option workers_id) false) (u ∷ rest) ≡ []) its e in
    absurd (stuck_trailing name rest rows (Some (workers_id, [])) (option workers_id) (unfinished rows)
    (past name _ _ _ rest _ (dashes_turn name rows (Some (workers_id, [])) (option workers_id)) here).1)
awaits_next name word rest (met.apart its) later rows given plain k e =
    let here = subst (λ u. rest_fault name (at rows (Some (workers_id, [])) (option workers_id) false) (u ∷ rest) ≡ []) its e in
    absurd (unfinished rows (past name _ _ _ rest _ (apart_turn name rows (Some (workers_id, [])) (option workers_id)) here).0)
awaits_next name word rest (met.joined v its) later rows given plain k e =
    let here = subst (λ u. rest_fault name (at rows (Some (workers_id, [])) (option workers_id) false) (u ∷ rest) ≡ []) its e in
    absurd (unfinished rows (or_else_parts _ _ (past name _ _ _ rest _ (joined_turn name rows (Some (workers_id, [])) (option workers_id) v) here).0).0)
awaits_next name word rest (met.refused other faults) later rows given plain k e =
    absurd (refused_here name word rest rows (Some (workers_id, [])) (option workers_id) (refused_turn name rows (Some (workers_id, [])) (option workers_id) word other faults) e)
awaits_next name word rest (met.bare p) later rows given plain k e = value_came name word rest p later rows given plain k e

rests_end : (name : Text) → Resting name []
rests_end name rows pending waiting given plain rests k e none = record {
  values = [];
  more = [];
  new = given;
  kept = subst (λ ps. Kept (settled_rows rules pending rows) given ps) (sym (append-nil plain)) k;
  same = append-nil (option_to_list given);
  parts = λ all. ended;
}

after_dashes : (name : Text) (rest : List Text) (rows : List Row) (pending : Option (Text × List Text)) (waiting : Waiting) (given : Option Text) (plain : List Text)
    → Kept (settled_rows rules pending rows) given plain → settle_fault rules false (hold rows pending) ≡ []
    → Tells name (at rows pending waiting false) (double_hyphen ∷ rest) given plain
after_dashes name rest rows pending waiting given plain k e =
    let done = trails name rest rows pending waiting given plain k e in
    record {
      values = [];
      more = rest;
      new = given;
      kept = subst (λ rs. Kept rs given (plain ++ rest)) (sym (rows_next name _ _ double_hyphen rest _ (dashes_turn name rows pending waiting))) done.kept;
      same = append-nil (option_to_list given);
      parts = λ all. dashes rest;
    }

after_option : (name : Text) (rest : List Text) → Awaiting name rest → (rows : List Row) (pending : Option (Text × List Text)) (waiting : Waiting) (given : Option Text) (plain : List Text)
    → Kept (settled_rows rules pending rows) given plain → rest_fault name (at rows pending waiting false) (codes "--workers" ∷ rest) ≡ []
    → Tells name (at rows pending waiting false) (codes "--workers" ∷ rest) given plain
after_option name rest later rows pending waiting given plain k none =
    let t = apart_turn name rows pending waiting in
    let told = later (settled_rows rules pending rows) given plain k (past name _ _ _ rest _ t none).1 in
    record {
      values = told.value ∷ told.values;
      more = told.more;
      new = told.new;
      kept = subst (λ rs. Kept rs told.new (plain ++ told.more)) (sym (rows_next name _ _ (codes "--workers") rest _ t)) told.kept;
      same = ap (λ (g : Option Text). option_to_list g ++ told.value ∷ told.values) told.first ∙ told.same;
      parts = λ all. subst (λ r. Parts (codes "--workers" ∷ r) (told.value ∷ told.values) told.more) (sym told.begins) (apart told.value (told.parts all));
    }

after_joined : (name v : Text) (rest : List Text) → Resting name rest → (rows : List Row) (pending : Option (Text × List Text)) (waiting : Waiting) (given : Option Text) (plain : List Text)
    → Kept (settled_rows rules pending rows) given plain → rest_fault name (at rows pending waiting false) ((codes "--workers=" ++ v) ∷ rest) ≡ []
    → Tells name (at rows pending waiting false) ((codes "--workers=" ++ v) ∷ rest) given plain
after_joined name v rest later rows pending waiting None plain k none =
    let t = joined_turn name rows pending waiting v in
    let now = settled_rows rules pending rows in
    let told = later (used workers_rule (v ∷ []) now) None idle (Some v) plain idle-rests (kept-given v now plain k) refl (past name _ _ _ rest _ t none).1 in
    record {
      values = v ∷ told.values;
      more = told.more;
      new = told.new;
      kept = subst (λ rs. Kept rs told.new (plain ++ told.more)) (sym (rows_next name _ _ (codes "--workers=" ++ v) rest _ t)) told.kept;
      same = told.same;
      parts = λ all. joined v (told.parts all);
    }
after_joined name v rest later rows pending waiting (Some g) plain k none =
    absurd (twice v g (settled_rows rules pending rows) plain k (or_else_parts _ _ (past name _ _ _ rest _ (joined_turn name rows pending waiting v) none).0).1)

after_bare : (name word : Text) (rest : List Text) → met.IsPlainMet word → Resting name rest → Resting name (word ∷ rest)
after_bare name word rest p later rows pending waiting given plain rests k e none =
    let t = bare_turn name rows pending waiting word p rests in
    let now = settled_rows rules pending rows in
    let told = later now (Some (values_id, word ∷ [])) positional given (plain ++ word ∷ []) positional-rests (kept_value word now given plain k) (values_settle now word)
    (past name _ _ word rest _ t none).1 in
    let kept = subst (λ ps. Kept (rest_rows (at now (Some (values_id, word ∷ [])) positional false) rest) told.new ps) (append_assoc plain (word ∷ []) told.more) told.kept in
    record {
      values = told.values;
      more = word ∷ told.more;
      new = told.new;
      kept = subst (λ rs. Kept rs told.new (plain ++ word ∷ told.more)) (sym (rows_next name _ _ word rest _ t)) kept;
      same = told.same;
      parts = λ all. bare word all.0 (told.parts all.1);
    }

rests_next : (name word : Text) (rest : List Text) → Meets word → Resting name rest → Awaiting name rest → Resting name (word ∷ rest)
rests_next name word rest (met.dashes its) later waits rows pending waiting given plain rests k e none =
    subst (λ u. Tells name (at rows pending waiting false) (u ∷ rest) given plain) (sym its) (after_dashes name rest rows pending waiting given plain k e)
rests_next name word rest (met.apart its) later waits rows pending waiting given plain rests k e none =
    subst (λ u. Tells name (at rows pending waiting false) (u ∷ rest) given plain) (sym its)
    (after_option name rest waits rows pending waiting given plain k (subst (λ u. rest_fault name (at rows pending waiting false) (u ∷ rest) ≡ []) its none))
rests_next name word rest (met.joined v its) later waits rows pending waiting given plain rests k e none =
    subst (λ u. Tells name (at rows pending waiting false) (u ∷ rest) given plain) (sym its)
    (after_joined name v rest later rows pending waiting given plain k (subst (λ u. rest_fault name (at rows pending waiting false) (u ∷ rest) ≡ []) its none))
rests_next name word rest (met.refused other faults) later waits rows pending waiting given plain rests k e none =
    absurd (refused_here name word rest rows pending waiting (refused_turn name rows pending waiting word other faults) none)
rests_next name word rest (met.bare p) later waits rows pending waiting given plain rests k e none =
    after_bare name word rest p later rows pending waiting given plain rests k e none

both_tell : (name : Text) (rest : List Text) → Resting name rest × Awaiting name rest
both_tell name [] = (rests_end name, awaits_end name)
both_tell name (word ∷ rest) =
    let later = both_tell name rest in
    (rests_next name word rest (meets word) later.0 later.1, awaits_next name word rest (meets word) later.0)

pub tells : (name : Text) (rest : List Text) → Resting name rest
tells name rest = (both_tell name rest).0
