-- The simple command by which `clap` reads the words after the first: the option `--workers` and any plain values. After this file
-- its rules are known by these facts alone.
use Rattle.std.proofs.Common.{◌≡◌, ◌≢◌, ◌∙◌, ◌&&◌, ◌||◌, ap, ap₂, ℕ, Bool, true, false, List, [], ◌∷◌, Some, None, cond, codes, refl}
use Rattle.std.specs.Str.{bytes_eq}
use Rattle.clap.specs.Walk.{Held, Row, Rule, Text, arg_by_id, arg_by_index, arg_by_long, arg_by_short, has_row, is_multiple, takes_several, takes_values, most_values, used, with_values, without, with_default, finished, settled}
use Rattle.clap.specs.Simple.{App, Shape, app_of, app_of_fields, built, filled, is_simple, new_app, new_rule, new_shape, on_top, with_index, with_rule}
use Rattle.clap.specs.Kinds.{Kinds, or_else}
use Rattle.clap.specs.Faults.{check_fault, default_fault, defaults_fault, is_simple_and_free, use_fault}
use Rattle.clap.specs.declared.builder.action.ArgAction.TheVariants.{Append}
use Rattle.clap.specs.declared.builder.command.Command.{Command}
use Rattle.clap.specs.declared.builder.command.Command.TheViews.{out-Command}
use Rattle.clap.specs.declared.builder.value_parser.Reading.TheVariants.{AsWritten}
use Rattle.clap.specs.declared.error.kind.ErrorKind.{ErrorKind}
use Rattle.clap.specs.declared.error.kind.ErrorKind.TheVariants as kind
use Rattle.clap.specs.declared.parser.matches.ValueSource.TheVariants.{CommandLine}
use Rattle.clap.proofs.OnLiterals.{clap_on_literals}

abbrev pub workers_id : Text
workers_id = codes "workers"

abbrev pub values_id : Text
values_id = codes "values"

abbrev pub workers_arg : Rule
workers_arg = record (new_rule workers_id) { long = Some workers_id }

abbrev pub values_arg : Rule
values_arg = record (new_rule values_id) { action = Some Append }

abbrev pub app : Text → App
app name = with_rule (with_rule (on_top (λ s. record s { disable_help_flag = true; disable_version_flag = true }) (new_app name)) workers_arg) values_arg

-- ---- the same, built

unfoldable pub workers_rule : Rule
workers_rule = with_index 1 (filled workers_arg)

unfoldable pub values_rule : Rule
values_rule = with_index 1 (filled values_arg)

unfoldable pub rules : List Rule
rules = workers_rule ∷ values_rule ∷ []

abbrev pub shape : Text → Shape
shape name = record (new_shape name) {
  rules = rules;
  disable_help_flag = true;
  disable_help_subcommand = true;
  disable_version_flag = true;
  is_built = true;
}

-- the command that the code makes is this one
pub app_made : (new help version one two : Command) (w v : Rule) (name : Text) → app_of new ≡ new_app name
    → out-Command help ≡ record (out-Command new) { disable_help_flag = true } → out-Command version ≡ record (out-Command help) { disable_version_flag = true }
    → app_of one ≡ with_rule (app_of version) w → w ≡ workers_arg → app_of two ≡ with_rule (app_of one) v → v ≡ values_arg → app_of two ≡ app name
app_made new help version one two w v name made no_help no_version first w_is second v_is =
    let helped : app_of help ≡ on_top (λ s. record s { disable_help_flag = true }) (app_of new) = ap app_of_fields no_help in
    let bare : app_of version ≡ on_top (λ s. record s { disable_version_flag = true }) (app_of help) = ap app_of_fields no_version in
    let start : app_of version ≡ on_top (λ s. record s { disable_help_flag = true; disable_version_flag = true }) (new_app name) =
    bare ∙ ap (λ a. on_top (λ s. record s { disable_version_flag = true }) a) (helped ∙ ap (λ a. on_top (λ s. record s { disable_help_flag = true }) a) made) in
    second ∙ ap₂ with_rule (first ∙ ap₂ with_rule start w_is) v_is

pub built_app : (name : Text) → built (app name) ≡ record { top = shape name; subs = [] }
unfolding clap_on_literals rules workers_rule values_rule
built_app name = refl

pub app_is_simple : (name : Text) → is_simple (app name) ≡ true
unfolding clap_on_literals
app_is_simple name = refl

pub app_is_free : (name : Text) → is_simple_and_free (app name) ≡ true
unfolding clap_on_literals
app_is_free name = refl

-- ---- which rule a word names

pub workers-by_long : arg_by_long rules workers_id ≡ Some workers_rule
unfolding rules workers_rule values_rule
workers-by_long = refl

pub other-by_long : (name : Text) → bytes_eq workers_id name ≡ false → arg_by_long rules name ≡ None
unfolding rules workers_rule values_rule
other-by_long name e = rw e refl

pub none-by_short : (x : ℕ) → arg_by_short rules x ≡ None
unfolding rules workers_rule values_rule
none-by_short x = refl

pub values-by_index : arg_by_index rules 1 ≡ Some values_rule
unfolding rules workers_rule values_rule
values-by_index = refl

pub workers-by_id : arg_by_id rules workers_id ≡ Some workers_rule
unfolding rules workers_rule values_rule
workers-by_id = refl

pub values-by_id : arg_by_id rules values_id ≡ Some values_rule
unfolding rules workers_rule values_rule
values-by_id = refl

-- ---- what the rules say

pub workers-id : workers_rule.id ≡ workers_id
unfolding workers_rule
workers-id = refl

pub values-id : values_rule.id ≡ values_id
unfolding values_rule
values-id = refl

pub workers-takes : takes_values workers_rule ≡ true
unfolding workers_rule
workers-takes = refl

pub workers-most : most_values workers_rule ≡ 1
unfolding workers_rule
workers-most = refl

pub values-several : takes_several values_rule ≡ false
unfolding values_rule
values-several = refl

pub values-multiple : is_multiple values_rule ≡ true
unfolding values_rule
values-multiple = refl

pub values-trailing : values_rule.trailing_var_arg ≡ false
unfolding values_rule
values-trailing = refl

-- ---- uses of them

abbrev pub repeated : List Row → Kinds
repeated rows = cond (has_row workers_id rows) (kind.ArgumentConflict ∷ []) []

repeats : (b : Bool) (k : ErrorKind) → or_else (cond (b && true) (k ∷ []) []) [] ≡ cond b (k ∷ []) []
repeats true k = refl
repeats false k = refl

pub workers-fault : (v : Text) (rows : List Row) → use_fault false workers_rule (v ∷ []) rows ≡ repeated rows
unfolding workers_rule
workers-fault v rows = repeats (has_row workers_id rows) kind.ArgumentConflict

pub workers-unfinished : (rows : List Row) → use_fault false workers_rule [] rows ≢ []
unfolding workers_rule
workers-unfinished rows e = absurd cc

pub values-fault : (v : Text) (rows : List Row) → use_fault false values_rule (v ∷ []) rows ≡ []
unfolding values_rule
values-fault v rows = refl

pub workers-used : (v : Text) (rows : List Row) → used workers_rule (v ∷ []) rows ≡ with_values workers_id AsWritten CommandLine (v ∷ []) (without workers_id rows)
unfolding workers_rule
workers-used v rows = refl

pub values-used : (v : Text) (rows : List Row) → used values_rule (v ∷ []) rows ≡ with_values values_id AsWritten CommandLine (v ∷ []) rows
unfolding values_rule
values-used v rows = refl

-- ---- after the words

or_true : (b : Bool) (ks : Kinds) → cond (b || true) [] ks ≡ []
or_true true ks = refl
or_true false ks = refl

workers-default : (rows : List Row) → default_fault rows workers_rule ≡ []
unfolding workers_rule
workers-default rows = or_true (has_row workers_id rows) _

values-default : (rows : List Row) → default_fault rows values_rule ≡ []
unfolding values_rule
values-default rows = or_true (has_row values_id rows) _

pub no_defaults : (rows : List Row) → defaults_fault rows rules ≡ []
unfolding defaults_fault rules
no_defaults rows = rw (workers-default rows, values-default (with_default rows workers_rule)) refl

same_rows : (b : Bool) (rows : List Row) → cond b rows rows ≡ rows
same_rows true rows = refl
same_rows false rows = refl

workers-adds : (rows : List Row) → with_default rows workers_rule ≡ rows
unfolding workers_rule
workers-adds rows = same_rows (has_row workers_id rows) rows

values-adds : (rows : List Row) → with_default rows values_rule ≡ rows
unfolding values_rule
values-adds rows = same_rows (has_row values_id rows) rows

pub finished-is : (h : Held) → finished rules h ≡ (settled rules h).rows
unfolding rules
finished-is h = values-adds _ ∙ workers-adds _

pub no_checks : (name : Text) (rows : List Row) → check_fault (shape name) rows false ≡ []
unfolding rules workers_rule values_rule
no_checks name rows = refl
