-- What a parse of all the words says of the command that they are.
use Rattle.std.proofs.Common.{◌≡◌, ◌∙◌, ap, sym, subst, refl, ℕ, ◌<◌, ◌^◌, true, false, List, [], ◌∷◌, Option, Some, None, Bor, IfNone, IfSome, map, drop, get_or, option_map, option_to_list, inl, inr, arith}
use Rattle.std.specs.Prelude.{option_and_then, slice_get, unwrap_or}
use Rattle.std.specs.List.{AllByRecursion}
use Rattle.std.specs.Fmt.{decimal}
use Rattle.clap.specs.Walk.{Row, Text, Walk, all_of, first_of, finished, idle, nothing_held, rows_of, walk}
use Rattle.clap.specs.Simple.{App, HasMatchesOf, is_simple, matches_of, names_of}
use Rattle.clap.specs.Kinds.{HasKind, Kinds, or_else}
use Rattle.clap.specs.Matches.{first_value, found_of, matched_of, raw_values}
use Rattle.clap.specs.Values.{kind_of}
use Rattle.clap.specs.declared.error.Error.{Error}
use Rattle.clap.specs.declared.error.kind.ErrorKind.TheVariants.{OutOfMemory}
use Rattle.clap.specs.declared.parser.matches.ArgMatches.{ArgMatches}
use Rattle.clap.proofs.WalkLemmas.{first_value-rows, raw_values-rows}
use Rattle.clap.specs.Faults.{built_fault, check_fault, defaults_fault, fault_of, is_simple_and_free}
use Rattle.clap.proofs.FaultLemmas.{leaf_fault}
use Rattle.bc_words.specs.Commands.{AsksFor, GivesWorkers, IsCommandOf, Parts}
use Rattle.bc_words.specs.declared.command.Command.{Command}
use Rattle.bc_words.specs.declared.command.Command.TheVariants.{Run, Churn, Save, Resume}
use Rattle.bc_words.proofs.App.{app, app_is_free, app_is_simple, built_app, finished-is, no_checks, no_defaults, rules, shape, workers_id, values_id}
use Rattle.bc_words.proofs.Lists.{asked_workers, texts}
use Rattle.bc_words.proofs.Numerals.{decimal-begins}
use Rattle.bc_words.proofs.Rows.{Kept, given_row, listed_row}
use Rattle.bc_words.proofs.Walking.{at, idle-rests}
use Rattle.bc_words.proofs.Reading.{IsBare, IsDone, reads, rest_fault, rest_rows}
use Rattle.bc_words.proofs.Telling.{tells}

abbrev pub opening : Walk
opening = at [] None idle false

or_else_nil : (k : Kinds) → or_else k [] ≡ k
or_else_nil [] = refl
or_else_nil (k ∷ ks) = refl

-- after the words nothing more fails
last_checks : (name : Text) (a settle : Kinds) (rows all : List Row)
    → or_else a (or_else [] (or_else settle (or_else (defaults_fault rows (shape name).rules) (check_fault (shape name) all false)))) ≡ or_else a settle
last_checks name a settle rows all =
    ap (λ d. or_else a (or_else [] (or_else settle (or_else d (check_fault (shape name) all false))))) (no_defaults rows)
    ∙ ap (λ d. or_else a (or_else [] (or_else settle d))) (no_checks name all)
    ∙ ap (λ d. or_else a d) (or_else_nil settle)

pub fault_is : (name : Text) (words : List Text) → fault_of (app name) words ≡ rest_fault name opening (drop 1 words)
fault_is name words =
    ap (λ b. built_fault b nothing_held (drop 1 words)) (built_app name)
    ∙ leaf_fault (record { top = shape name; subs = [] }) nothing_held (drop 1 words) refl
    ∙ last_checks name _ _ _ _

pub matches_are : (name : Text) (words : List Text) → matches_of (app name) words ≡ rest_rows opening (drop 1 words)
matches_are name words =
    ap (λ (b : App). finished b.top.rules (walk b.top.rules (names_of b) nothing_held (drop 1 words)).held) (built_app name)
    ∙ finished-is (walk rules [] nothing_held (drop 1 words)).held

-- ---- what the getters give

given_first : (given : Option Text) → option_and_then (λ (r : Row). slice_get r.values 0) (given_row given) ≡ given
given_first None = refl
given_first (Some v) = refl

pub first_kept : (rows : List Row) (given : Option Text) (plain : List Text) → Kept rows given plain → first_of workers_id rows ≡ given
first_kept rows given plain k = ap (λ o. option_and_then (λ (r : Row). slice_get r.values 0) o) k.workers ∙ given_first given

pub all_kept : (rows : List Row) (given : Option Text) (plain : List Text) → Kept rows given plain → all_of values_id rows ≡ option_map (λ (r : Row). r.values) (listed_row plain)
all_kept rows given plain k = ap (λ o. option_map (λ (r : Row). r.values) o) k.listed

pub listed_values : (o : Option (Bor (List (Bor Text)))) (d : Bor (List (Bor Text))) (plain : List Text)
    → option_map (λ s. map (λ v. v.now) s.now) o ≡ option_map (λ (r : Row). r.values) (listed_row plain) → d.now ≡ []
    → map (λ v. v.now) (unwrap_or o d).now ≡ plain
listed_values None d [] e empty = ap (λ vs. map (λ v. v.now) vs) empty
listed_values None d (p ∷ ps) e empty = absurd cc
listed_values (Some s) d [] e empty = absurd cc
listed_values (Some s) d (p ∷ ps) e empty = cc

-- ---- numbers begin with no hyphen

decimal_bare : (n : ℕ) → n < 2 ^ 64 → IsBare (decimal n)
decimal_bare n lt (rest, e) =
    let first = (decimal-begins n lt).0 in
    let is : get_or (decimal n) 0 0 ≡ 45 = ap (λ t. get_or t 0 0) e in
    omega (arith, first, is)

plain_bare : (first : Text) (values plain : List Text) (c : Command) → AsksFor first values plain c → AllByRecursion IsBare plain
plain_bare first values plain (Run workers) a = subst (λ ps. AllByRecursion IsBare ps) (sym a.1) tt
plain_bare first values plain (Churn start ops workers) a =
    subst (λ ps. AllByRecursion IsBare ps) (sym a.1) (decimal_bare start (omega (arith, a.2)), (decimal_bare ops (omega (arith, a.3)), tt))
plain_bare first values plain (Save phases workers) a = subst (λ ps. AllByRecursion IsBare ps) (sym a.1) (decimal_bare phases (omega (arith, a.2)), tt)
plain_bare first values plain (Resume workers) a = subst (λ ps. AllByRecursion IsBare ps) (sym a.1) tt

given_of : (values : List Text) (n : ℕ) → GivesWorkers values n → (new : Option Text) × (values ≡ option_to_list new) × AllByRecursion IsBare values
given_of values n (inl none) = (None, none.0, subst (λ vs. AllByRecursion IsBare vs) (sym none.0) tt)
given_of values n (inr one) = (Some (decimal n), one.0, subst (λ vs. AllByRecursion IsBare vs) (sym one.0) (decimal_bare n (omega (arith, one.2)), tt))

-- ---- both directions

empty_kept : Kept [] None []
empty_kept = record { workers = refl; listed = refl }

-- the words that are a command are read without a fault, and what is kept asks for it
pub record IsRead (first : Text) (rest : List Text) (c : Command) : Type 0 where
  pub new : Option Text
  pub plain : List Text
  pub done : IsDone first opening rest new plain
  pub asked : AsksFor first (option_to_list new) plain c

pub command-read : (first : Text) (rest : List Text) (c : Command) → IsCommandOf (first ∷ rest) c → IsRead first rest c
command-read first rest c command =
    let spelled = command.spelled in
    let is_first : command.first ≡ first = cc in
    let is_rest : command.rest ≡ rest = cc in
    let given = asked_workers _ _ _ c command.asked in
    let new = given_of command.values given.0 given.1 in
    let parts : Parts rest command.values command.plain = subst (λ r. Parts r command.values command.plain) is_rest command.parts in
    let done = reads first parts [] None idle None new.0 [] idle-rests empty_kept refl new.1 new.2 in
    record {
      new = new.0;
      plain = command.plain;
      done = done;
      asked = subst (λ f. AsksFor f (option_to_list new.0) command.plain c) is_first (subst (λ vs. AsksFor command.first vs command.plain c) new.1 command.asked);
    }

-- what is kept without a fault, if it asks for a command, is the command that the words are
pub record IsTold (first : Text) (rest : List Text) : Type 0 where
  pub new : Option Text
  pub plain : List Text
  pub kept : Kept (rest_rows opening rest) new plain
  pub command : (c : Command) → AsksFor first (option_to_list new) plain c → IsCommandOf (first ∷ rest) c

pub command-told : (first : Text) (rest : List Text) → rest_fault first opening rest ≡ [] → IsTold first rest
command-told first rest none =
    let told = tells first rest [] None idle None [] idle-rests empty_kept refl none in
    record {
      new = told.new;
      plain = told.more;
      kept = told.kept;
      command = λ c asked. record {
        first = first;
        rest = rest;
        values = option_to_list told.new;
        plain = told.more;
        spelled = refl;
        parts = subst (λ vs. Parts rest vs told.more) told.same (told.parts (plain_bare first (option_to_list told.new) told.more c asked));
        asked = asked;
      };
    }

-- ---- what the calls of `clap` say

-- the parse that gave these matches had no fault, and they are what is kept
pub ok_parse : (a : App) (m : ArgMatches) (words : List Text) (name : Text) → a ≡ app name
    → (is_simple_and_free a ≡ true → fault_of a words ≡ []) → HasMatchesOf a words m
    → (rest_fault name opening (drop 1 words) ≡ []) × (rows_of (found_of m) ≡ rest_rows opening (drop 1 words))
ok_parse a m words name e kinds matches = (
  sym (fault_is name words) ∙ ap (λ b. fault_of b words) (sym e) ∙ kinds (ap is_simple_and_free e ∙ app_is_free name),
  (matches (ap is_simple e ∙ app_is_simple name)).0 ∙ ap (λ b. matches_of b words) e ∙ matches_are name words,
)

-- the parse that failed with this error, where the words have no fault, had no memory
pub err_parse : (a : App) (error : Error) (words : List Text) (name : Text) → a ≡ app name
    → (is_simple_and_free a ≡ true → HasKind (fault_of a words) error) → rest_fault name opening (drop 1 words) ≡ [] → kind_of error ≡ OutOfMemory
err_parse a error words name e kinds none =
    let no_fault : fault_of a words ≡ [] = ap (λ b. fault_of b words) e ∙ fault_is name words ∙ none in
    elim (subst (λ ks. HasKind ks error) no_fault (kinds (ap is_simple_and_free e ∙ app_is_free name))) [
      | inl memory ↦ memory
      | inr among ↦ absurd among
    ]

-- what the getters give of matches that are kept
pub workers_got : (m : ArgMatches) (rest : List Text) (given : Option Text) (plain : List Text) → rows_of (found_of m) ≡ rest_rows opening rest
    → Kept (rest_rows opening rest) given plain → first_value (found_of m) workers_id ≡ given
workers_got m rest given plain rows k = first_value-rows (found_of m) workers_id ∙ ap (λ rs. first_of workers_id rs) rows ∙ first_kept _ given plain k

pub values_got : (m : ArgMatches) (rest : List Text) (given : Option Text) (plain : List Text) → rows_of (found_of m) ≡ rest_rows opening rest
    → Kept (rest_rows opening rest) given plain → option_map raw_values (matched_of (found_of m) values_id) ≡ option_map (λ (r : Row). r.values) (listed_row plain)
values_got m rest given plain rows k = raw_values-rows (found_of m) values_id ∙ ap (λ rs. all_of values_id rs) rows ∙ all_kept _ given plain k

-- the command that is asked for by what the getters give is the command that the words are
pub ok_command : (words : List Text) (name : Text) → words ≡ name ∷ drop 1 words → (m : ArgMatches) → rest_fault name opening (drop 1 words) ≡ []
    → rows_of (found_of m) ≡ rest_rows opening (drop 1 words)
    → (got : Option (Bor Text)) → option_map (λ w. w.now) got ≡ first_value (found_of m) workers_id
    → (o : Option (Bor (List (Bor Text)))) (d : Bor (List (Bor Text))) → option_map (λ s. map (λ v. v.now) s.now) o ≡ option_map raw_values (matched_of (found_of m) values_id) → d.now ≡ []
    → (u : Bor (List (Bor Text))) → u ≡ unwrap_or o d
    → (c : Command) → (AsksFor name (option_to_list (option_map (λ w. w.now) got)) (texts u.now) c → IsCommandOf words c)
    × (IsCommandOf words c → AsksFor name (option_to_list (option_map (λ w. w.now) got)) (texts u.now) c)
ok_command words name begins m none rows got got_is o d o_is empty u u_is c =
    let rest = drop 1 words in
    let told = command-told name rest none in
    let got_new : option_map (λ w. w.now) got ≡ told.new = got_is ∙ workers_got m rest told.new told.plain rows told.kept in
    let got_plain : texts u.now ≡ told.plain = ap (λ b. texts b.now) u_is ∙ listed_values o d told.plain (o_is ∙ values_got m rest told.new told.plain rows told.kept) empty in (
      λ asked. subst (λ ws. IsCommandOf ws c) (sym begins)
          (told.command c (subst (λ ps. AsksFor name (option_to_list told.new) ps c) got_plain (subst (λ g. AsksFor name (option_to_list g) (texts u.now) c) got_new asked))),
      λ command.
          let read = command-read name rest c (subst (λ ws. IsCommandOf ws c) begins command) in
          let read_new : option_map (λ w. w.now) got ≡ read.new = got_is ∙ workers_got m rest read.new read.plain rows read.done.kept in
          let read_plain : texts u.now ≡ read.plain = ap (λ b. texts b.now) u_is ∙ listed_values o d read.plain (o_is ∙ values_got m rest read.new read.plain rows read.done.kept) empty in
          subst (λ g. AsksFor name (option_to_list g) (texts u.now) c) (sym read_new) (subst (λ ps. AsksFor name (option_to_list read.new) ps c) (sym read_plain) read.asked),
    )

-- where the words are a command, a parse fails out of memory alone
pub err_command : (words : List Text) (name : Text) → words ≡ name ∷ drop 1 words → (a : App) (error : Error) → a ≡ app name
    → (is_simple_and_free a ≡ true → HasKind (fault_of a words) error) → (c : Command) → IsCommandOf words c → kind_of error ≡ OutOfMemory
err_command words name begins a error e kinds c command =
    err_parse a error words name e kinds (command-read name (drop 1 words) c (subst (λ ws. IsCommandOf ws c) begins command)).done.no_fault

pub none_from : {X : Type 0} (r : Option X) (P : X → Type 0) → ((x : X) → P x → r ≡ Some x) → IfNone r ((x : X) → ¬ P x)
none_from None P only = λ x p. let bad = only x p in absurd cc
none_from (Some y) P only = tt

pub some_from : {X : Type 0} (r : Option X) (P Q : X → Type 0) → ((x : X) → P x → Q x) → IfSome r P → IfSome r Q
some_from None P Q step h = tt
some_from (Some x) P Q step h = step x h
