-- All the words after the first: `clap` finds no fault exactly where the rules read them, and keeps what the rules say.
use Rattle.std.proofs.Common.{◌≡◌, ◌≢◌, ◌∙◌, ap, sym, subst, refl, true, false, List, [], ◌∷◌, ◌++◌, Option, Some, None, is_some, append_assoc, append-nil, option_to_list}
use Rattle.std.proofs.Common.{inl, inr}
use Rattle.std.specs.Option.{option_map_or}
use Rattle.std.specs.List.{AllByRecursion, fold}
use Rattle.std.proofs.lemmas.Bool.{cases_eq, ne_eqb}
use Rattle.clap.specs.Lexer.{strip_byte}
use Rattle.clap.specs.Walk.{Row, Text, Waiting, Walk, has_row, idle, positional, settled, settled_rows, used, used_by_id, walked}
use Rattle.clap.specs.Kinds.{Kinds, or_else}
use Rattle.clap.specs.Faults.{settle_fault, turn_fault, use_fault, walk_fault}
use Rattle.bc_words.specs.Commands.{IsHyphened, Parts, ended, dashes, apart, joined, bare}
use Rattle.bc_words.proofs.App.{repeated, rules, shape, workers_rule, values_rule, workers-by_id, workers-fault, values-by_id, values-fault, workers_id, values_id}
use Rattle.bc_words.proofs.Rows.{Kept, has_row-at, kept-given, kept-plain}
use Rattle.bc_words.proofs.Meets.{hold, plain_met}
use Rattle.bc_words.proofs.Walking.{IsResting, Turn, at, apart_turn, bare_turn, dashes_turn, idle-rests, joined_turn, positional-rests, trailing_turn, value_turn}

abbrev pub IsBare : Text → Type 0
IsBare word = ¬ IsHyphened word

-- the fault of the words that are left, and what is kept at their end
abbrev pub rest_fault : Text → Walk → List Text → Kinds
rest_fault name w words = or_else (walk_fault (shape name) [] w words) (settle_fault rules false (fold (walked rules []) w words).held)

abbrev pub rest_rows : Walk → List Text → List Row
rest_rows w words = (settled rules (fold (walked rules []) w words).held).rows

or_else_assoc : (a b c : Kinds) → or_else (or_else a b) c ≡ or_else a (or_else b c)
or_else_assoc [] b c = refl
or_else_assoc (k ∷ ks) b c = refl

pub or_else_parts : (a b : Kinds) → or_else a b ≡ [] → (a ≡ []) × (b ≡ [])
or_else_parts [] b e = (refl, e)
or_else_parts (k ∷ ks) b e = absurd cc

pub fault_next : (name : Text) (w after : Walk) (word : Text) (rest : List Text) (fault : Kinds) → Turn name w word fault after
    → rest_fault name w (word ∷ rest) ≡ or_else fault (rest_fault name after rest)
unfolding walk_fault
fault_next name w after word rest fault t =
    or_else_assoc (turn_fault (shape name) [] w word) (walk_fault (shape name) [] (walked rules [] w word) rest)
    (settle_fault rules false (fold (walked rules []) (walked rules [] w word) rest).held)
    ∙ ap (λ k. or_else k (rest_fault name (walked rules [] w word) rest)) t.fault_is
    ∙ ap (λ u. or_else fault (rest_fault name u rest)) t.after_is

pub rows_next : (name : Text) (w after : Walk) (word : Text) (rest : List Text) (fault : Kinds) → Turn name w word fault after
    → rest_rows w (word ∷ rest) ≡ rest_rows after rest
rows_next name w after word rest fault t = ap (λ u. rest_rows u rest) t.after_is

pub fault_ends : (name : Text) (w : Walk) → rest_fault name w [] ≡ settle_fault rules false w.held
unfolding walk_fault
fault_ends name w = refl

-- ---- what waits to be used

pub workers_settle : (rows : List Row) (vs : List Text) → settle_fault rules false (hold rows (Some (workers_id, vs))) ≡ use_fault false workers_rule vs rows
workers_settle rows vs = ap (λ o. option_map_or (λ a. use_fault false a vs rows) o []) workers-by_id

pub values_settle : (rows : List Row) (v : Text) → settle_fault rules false (hold rows (Some (values_id, v ∷ []))) ≡ []
values_settle rows v = ap (λ o. option_map_or (λ a. use_fault false a (v ∷ []) rows) o []) values-by_id ∙ values-fault v rows

pub workers_settled : (rows : List Row) (vs : List Text) → settled_rows rules (Some (workers_id, vs)) rows ≡ used workers_rule vs rows
workers_settled rows vs = ap (λ o. used_by_id o vs rows) workers-by_id

pub values_settled : (rows : List Row) (vs : List Text) → settled_rows rules (Some (values_id, vs)) rows ≡ used values_rule vs rows
values_settled rows vs = ap (λ o. used_by_id o vs rows) values-by_id

-- the option may be used, once
pub once : (v : Text) (rows : List Row) (plain : List Text) → Kept rows None plain → use_fault false workers_rule (v ∷ []) rows ≡ []
once v rows plain k =
    let none : has_row workers_id rows ≡ false = has_row-at workers_id rows ∙ ap (λ o. is_some o) k.workers in
    let no_fault : repeated rows ≡ [] = rw none refl in
    workers-fault v rows ∙ no_fault

pub twice : (v g : Text) (rows : List Row) (plain : List Text) → Kept rows (Some g) plain → use_fault false workers_rule (v ∷ []) rows ≢ []
twice v g rows plain k none =
    let some : has_row workers_id rows ≡ true = has_row-at workers_id rows ∙ ap (λ o. is_some o) k.workers in
    let bad = rw some at (sym (workers-fault v rows) ∙ none) in
    absurd cc

pub kept_value : (v : Text) (rows : List Row) (given : Option Text) (plain : List Text) → Kept rows given plain
    → Kept (settled_rows rules (Some (values_id, v ∷ [])) rows) given (plain ++ v ∷ [])
kept_value v rows given plain k = subst (λ rs. Kept rs given (plain ++ v ∷ [])) (sym (values_settled rows (v ∷ []))) (kept-plain v rows given plain k)

pub kept_workers : (v : Text) (rows : List Row) (plain : List Text) → Kept rows None plain → Kept (settled_rows rules (Some (workers_id, v ∷ [])) rows) (Some v) plain
kept_workers v rows plain k = subst (λ rs. Kept rs (Some v) plain) (sym (workers_settled rows (v ∷ []))) (kept-given v rows plain k)

-- ---- no fault is found

-- the words that are left have no fault, and this is kept at their end
pub record IsDone (name : Text) (w : Walk) (rest : List Text) (given : Option Text) (plain : List Text) : Type 0 where
  pub no_fault : rest_fault name w rest ≡ []
  pub kept : Kept (rest_rows w rest) given plain

done_next : (name : Text) (w after : Walk) (word : Text) (rest : List Text) (fault : Kinds) (given : Option Text) (plain : List Text)
    → Turn name w word fault after → fault ≡ [] → IsDone name after rest given plain → IsDone name w (word ∷ rest) given plain
done_next name w after word rest fault given plain t e d = record {
  no_fault = fault_next name w after word rest fault t ∙ ap (λ k. or_else k (rest_fault name after rest)) e ∙ d.no_fault;
  kept = subst (λ rs. Kept rs given plain) (sym (rows_next name w after word rest fault t)) d.kept;
}

as_plain : (name : Text) (w : Walk) (rest : List Text) (given : Option Text) (ps qs : List Text) → ps ≡ qs → IsDone name w rest given ps → IsDone name w rest given qs
as_plain name w rest given ps qs e d = subst (λ xs. IsDone name w rest given xs) e d

pub trails : (name : Text) (rest : List Text) (rows : List Row) (pending : Option (Text × List Text)) (waiting : Waiting) (given : Option Text) (plain : List Text)
    → Kept (settled_rows rules pending rows) given plain → settle_fault rules false (hold rows pending) ≡ []
    → IsDone name (at rows pending waiting true) rest given (plain ++ rest)
trails name [] rows pending waiting given plain k e = record {
  no_fault = fault_ends name (at rows pending waiting true) ∙ e;
  kept = subst (λ ps. Kept (settled_rows rules pending rows) given ps) (sym (append-nil plain)) k;
}
trails name (word ∷ rest) rows pending waiting given plain k e =
    as_plain _ _ _ _ _ _ (append_assoc plain (word ∷ []) rest)
    (done_next name _ _ word rest _ given _ (trailing_turn name rows pending waiting word) e
    (trails name rest (settled_rows rules pending rows) (Some (values_id, word ∷ [])) positional given (plain ++ word ∷ [])
    (kept_value word (settled_rows rules pending rows) given plain k) (values_settle (settled_rows rules pending rows) word)))

-- ---- from the rules to `clap`

not_stripped : (word : Text) → IsBare word → strip_byte 45 word ≡ None
not_stripped [] h = refl
not_stripped (x ∷ xs) h = elim (cases_eq x 45) [
  | inl its ↦ absurd (h (xs, ap (λ b. b ∷ xs) its))
  | inr ne ↦ rw (ne_eqb x 45 ne) refl
]

same_given : (given new : Option Text) → option_to_list given ++ [] ≡ option_to_list new → given ≡ new
same_given None None e = refl
same_given None (Some n) e = absurd cc
same_given (Some g) None e = absurd cc
same_given (Some g) (Some n) e = cc

none_given : (given new : Option Text) (v : Text) (ws : List Text) → option_to_list given ++ v ∷ ws ≡ option_to_list new → given ≡ None
none_given None new v ws e = refl
none_given (Some g) None v ws e = absurd cc
none_given (Some g) (Some n) v ws e = absurd cc

from_none : (given new : Option Text) (v : Text) (ws : List Text) → option_to_list given ++ v ∷ ws ≡ option_to_list new → v ∷ ws ≡ option_to_list new
from_none None new v ws e = e
from_none (Some g) None v ws e = absurd cc
from_none (Some g) (Some n) v ws e = absurd cc

pub reads : (name : Text) {rest ws qs : List Text} → Parts rest ws qs
    → (rows : List Row) (pending : Option (Text × List Text)) (waiting : Waiting) (given new : Option Text) (plain : List Text)
    → IsResting waiting → Kept (settled_rows rules pending rows) given plain → settle_fault rules false (hold rows pending) ≡ []
    → option_to_list given ++ ws ≡ option_to_list new → AllByRecursion IsBare ws
    → IsDone name (at rows pending waiting false) rest new (plain ++ qs)
reads name ended rows pending waiting given new plain rests k e same bares = record {
  no_fault = fault_ends name (at rows pending waiting false) ∙ e;
  kept = subst (λ g. Kept (settled_rows rules pending rows) g (plain ++ [])) (same_given given new same)
      (subst (λ ps. Kept (settled_rows rules pending rows) given ps) (sym (append-nil plain)) k);
}
reads name (dashes words) rows pending waiting given new plain rests k e same bares =
    let k' = subst (λ g. Kept (settled_rows rules pending rows) g plain) (same_given given new same) k in
    done_next name _ _ _ words _ new _ (dashes_turn name rows pending waiting) refl (trails name words rows pending waiting new plain k' e)
reads name (apart {rest = rest} {workers = ws} {plain = qs} v p) rows pending waiting given new plain rests k e same bares =
    let k' = subst (λ g. Kept (settled_rows rules pending rows) g plain) (none_given given new v ws same) k in
    let now = settled_rows rules pending rows in
    done_next name _ _ _ (v ∷ rest) _ new _ (apart_turn name rows pending waiting) e
    (done_next name _ _ v rest _ new _ (value_turn name now v (plain_met v (not_stripped v bares.0))) refl
    (reads name p now (Some (workers_id, v ∷ [])) idle (Some v) new plain idle-rests (kept_workers v now plain k') (workers_settle now (v ∷ []) ∙ once v now plain k')
    (from_none given new v ws same) bares.1))
reads name (joined {rest = rest} {workers = ws} {plain = qs} v p) rows pending waiting given new plain rests k e same bares =
    let k' = subst (λ g. Kept (settled_rows rules pending rows) g plain) (none_given given new v ws same) k in
    let now = settled_rows rules pending rows in
    done_next name _ _ _ rest _ new _ (joined_turn name rows pending waiting v) (ap (λ f. or_else f (use_fault false workers_rule (v ∷ []) now)) e ∙ once v now plain k')
    (reads name p (used workers_rule (v ∷ []) now) None idle (Some v) new plain idle-rests (kept-given v now plain k') refl (from_none given new v ws same) bares.1)
reads name (bare {rest = rest} {workers = ws} {plain = qs} word h p) rows pending waiting given new plain rests k e same bares =
    let now = settled_rows rules pending rows in
    as_plain _ _ _ _ _ _ (append_assoc plain (word ∷ []) qs)
    (done_next name _ _ word rest _ new _ (bare_turn name rows pending waiting word (plain_met word (not_stripped word h)) rests) e
    (reads name p now (Some (values_id, word ∷ [])) positional given new (plain ++ word ∷ []) positional-rests (kept_value word now given plain k) (values_settle now word) same bares))
