use Rattle.std.proofs.Common.{◌≡◌, ◌∙◌, ◌+◌, ◌≤◌, ◌∷◌, Bor, refl, rules, arith, ap, length, drop}
use Rattle.std.proofs.lemmas.List.{length-map}
use Rattle.bc_words.specs.Commands.{Word}
use Rattle.clap.specs.Walk.{rule_of}
use Rattle.clap.specs.Simple.{app_of}
use Rattle.clap.specs.Values.{kind_of}
use Rattle.clap.specs.declared.error.kind.ErrorKind.TheVariants.{OutOfMemory}
use Rattle.bc_words.proofs.App.{app, app_made, values_arg, workers_arg}
use Rattle.bc_words.proofs.Lists.{leading, leads, texts}
use Rattle.bc_words.proofs.Parsing.{none_from, some_from, ok_parse}
use Rattle.bc_live.specs.Words.{IsLiveWords}
use Rattle.bc_live.specs.declared.words.LiveWords.{LiveWords}
use Rattle.bc_live.proofs.WordLemmas.{ask_words, err_words, read_words, told_words}
use Rattle.bc_live.proofs.words.live_words_of.Goals as goal

ok_app : (c : goal.Joined-matches) → app_of c.in_ok-command.command ≡ app (leading c.args.words.now)
ok_app c =
    let workers_is : rule_of c.long-workers.result ≡ workers_arg = search rules in
    let values_is : rule_of c.action-values.result ≡ values_arg = search rules in
    app_made c.new-3.result c.disable_help_flag.result c.disable_version_flag.result c.in_ok-arg.field-0 c.in_ok-command.command _ _ _
    c.new-3.ensures.app c.disable_help_flag.ensures c.disable_version_flag.ensures
    (c.in_ok-arg.ensures.shape (search rules)) workers_is (c.in_ok-command.ensures.shape (search rules)) values_is

-- where the words give something, the parse failed out of memory
no_memory : (c : goal.Joined-error-2) (w : LiveWords) → IsLiveWords (texts c.args.words.now) w → kind_of c.in-Err.error ≡ OutOfMemory
no_memory c w is =
    let workers_is : rule_of c.long-workers.result ≡ workers_arg = search rules in
    let values_is : rule_of c.action-values.result ≡ values_arg = search rules in
    let made : app_of c.in_ok-command.command ≡ app (leading c.args.words.now) =
    app_made c.new-3.result c.disable_help_flag.result c.disable_version_flag.result c.in_ok-arg.field-0 c.in_ok-command.command _ _ _
    c.new-3.ensures.app c.disable_help_flag.ensures c.disable_version_flag.ensures
    (c.in_ok-arg.ensures.shape (search rules)) workers_is (c.in_ok-command.ensures.shape (search rules)) values_is in
    err_words (texts c.args.words.now) (leading c.args.words.now) (leads c.args.words.now c.in-len1-up.len_at_least)
    (app_of c.in_ok-command.command) c.in-Err.error made c.in-Err.ensures.kinds w is

-- the words that give something are the first word and the values
read_values : (c : goal.Joined-matches) (w : LiveWords) → IsLiveWords (texts c.args.words.now) w → texts c.unwrap_or-values.result.now ≡ drop 1 (texts c.args.words.now)
read_values c w is =
    let words = texts c.args.words.now in
    let name = leading c.args.words.now in
    let begins = leads c.args.words.now c.in-len1-up.len_at_least in
    let parse = ok_parse (app_of c.in_ok-command.command) c.in-Ok.matches words name (ok_app c) c.in-Ok.ensures.kinds c.in-Ok.ensures.matches in
    read_words words name begins c.in-Ok.matches parse.0 parse.1 c.get_strs.result _ c.get_strs.ensures refl c.unwrap_or-values.result c.unwrap_or-values.ensures w is

begins : (c : goal.Joined-matches) → texts c.args.words.now ≡ leading c.args.words.now ∷ drop 1 (texts c.args.words.now)
begins c = leads c.args.words.now c.in-len1-up.len_at_least

-- where a word was skipped they give nothing
pub returns-then-values-words-clause-the_one : goal.returns-then-values-words-clause-the_one
returns-then-values-words-clause-the_one c = λ w is.
    let got = ap length (read_values c w is) in
    let some = ap length (begins c) in
    absurd (omega (arith, got, some, length-map c.unwrap_or-values.result.now (λ (w : Bor Word). w.now), length-map c.args.words.now (λ (w : Bor Word). w.now), c.if-values-words.true))

pub returns-then-values-words-clause-none : goal.returns-then-values-words-clause-none
returns-then-values-words-clause-none c = λ w is.
    let got = ap length (read_values c w is) in
    let some = ap length (begins c) in
    omega (arith, got, some, length-map c.unwrap_or-values.result.now (λ (w : Bor Word). w.now), length-map c.args.words.now (λ (w : Bor Word). w.now), c.if-values-words.true)

-- the same where no word was skipped
ok_app_read : (c : goal.Joined-matches-2) → app_of c.in_ok-command.command ≡ app (leading c.args.words.now)
ok_app_read c =
    let workers_is : rule_of c.long-workers.result ≡ workers_arg = search rules in
    let values_is : rule_of c.action-values.result ≡ values_arg = search rules in
    app_made c.new-3.result c.disable_help_flag.result c.disable_version_flag.result c.in_ok-arg.field-0 c.in_ok-command.command _ _ _
    c.new-3.ensures.app c.disable_help_flag.ensures c.disable_version_flag.ensures
    (c.in_ok-arg.ensures.shape (search rules)) workers_is (c.in_ok-command.ensures.shape (search rules)) values_is

begins_read : (c : goal.Joined-matches-2) → texts c.args.words.now ≡ leading c.args.words.now ∷ drop 1 (texts c.args.words.now)
begins_read c = leads c.args.words.now c.in-len1-up.len_at_least

-- what is asked is what the words give
same_words : (c : goal.Joined-matches-2) → length c.args.words.now ≤ length c.unwrap_or-values.result.now + 1 → (w : LiveWords)
    → (IsLiveWords (leading c.args.words.now ∷ texts c.unwrap_or-values.result.now) w → IsLiveWords (texts c.args.words.now) w)
    × (IsLiveWords (texts c.args.words.now) w → IsLiveWords (leading c.args.words.now ∷ texts c.unwrap_or-values.result.now) w)
same_words c all w =
    let words = texts c.args.words.now in
    let name = leading c.args.words.now in
    let parse = ok_parse (app_of c.in_ok-command.command) c.in-Ok.matches words name (ok_app_read c) c.in-Ok.ensures.kinds c.in-Ok.ensures.matches in (
      λ a. told_words words name (begins_read c) c.in-Ok.matches parse.0 parse.1 c.get_strs.result _ c.get_strs.ensures refl c.unwrap_or-values.result c.unwrap_or-values.ensures w a
          (omega (arith, all, length-map c.args.words.now (λ (w : Bor Word). w.now))),
      λ is. ask_words words name (begins_read c) c.in-Ok.matches parse.0 parse.1 c.get_strs.result _ c.get_strs.ensures refl c.unwrap_or-values.result c.unwrap_or-values.ensures w is,
    )

pub returns-in-Ok-clause-words : goal.returns-in-Ok-clause-words
returns-in-Ok-clause-words c = some_from c.asked.result _ _ (λ w a. (same_words c (omega (arith, c.if-values-words.false)) w).0 a) c.asked.ensures.words

pub returns-in-Ok-clause-the_one : goal.returns-in-Ok-clause-the_one
returns-in-Ok-clause-the_one c = λ w is. c.asked.ensures.the_one w ((same_words c (omega (arith, c.if-values-words.false)) w).1 is)

pub returns-in-Ok-clause-none : goal.returns-in-Ok-clause-none
returns-in-Ok-clause-none c = none_from c.asked.result (IsLiveWords (texts c.args.words.now)) (returns-in-Ok-clause-the_one c)

pub returns : goal.returns
returns c =
    let other = c.in_default-kind.not-OutOfMemory in
    record {
      words = tt;
      none = λ w is. other (c.kind.ensures ∙ no_memory c w is);
      the_one = λ w is. absurd (other (c.kind.ensures ∙ no_memory c w is));
    }
