use Rattle.std.proofs.Common.{◌≡◌, ◌∙◌, refl, rules, option_map, option_to_list}
use Rattle.clap.specs.Walk.{rule_of}
use Rattle.clap.specs.Simple.{app_of}
use Rattle.clap.specs.Values.{kind_of}
use Rattle.clap.specs.declared.error.kind.ErrorKind.TheVariants.{OutOfMemory}
use Rattle.bc_words.specs.Commands.{AsksFor, IsCommandOf}
use Rattle.bc_words.specs.declared.command.Command.{Command}
use Rattle.bc_words.proofs.App.{app, app_made, values_arg, workers_arg}
use Rattle.bc_words.proofs.Lists.{leading, leads, texts}
use Rattle.bc_words.proofs.Parsing.{err_command, none_from, some_from, ok_command, ok_parse}
use Rattle.bc_words.proofs.command.command_of.Goals as goal

ok_app : (c : goal.Joined-matches) → app_of c.in_ok-command.command ≡ app (leading c.args.words.now)
ok_app c =
    let workers_is : rule_of c.long-workers.result ≡ workers_arg = search rules in
    let values_is : rule_of c.action-values.result ≡ values_arg = search rules in
    app_made c.new-3.result c.disable_help_flag.result c.disable_version_flag.result c.in_ok-arg.field-0 c.in_ok-command.command _ _ _
    c.new-3.ensures.app c.disable_help_flag.ensures c.disable_version_flag.ensures
    (c.in_ok-arg.ensures.shape (search rules)) workers_is (c.in_ok-command.ensures.shape (search rules)) values_is

-- where the words are a command, the parse failed out of memory
no_memory : (c : goal.Joined-error-2) (command : Command) → IsCommandOf (texts c.args.words.now) command → kind_of c.in-Err.error ≡ OutOfMemory
no_memory c command is =
    let workers_is : rule_of c.long-workers.result ≡ workers_arg = search rules in
    let values_is : rule_of c.action-values.result ≡ values_arg = search rules in
    let made : app_of c.in_ok-command.command ≡ app (leading c.args.words.now) =
    app_made c.new-3.result c.disable_help_flag.result c.disable_version_flag.result c.in_ok-arg.field-0 c.in_ok-command.command _ _ _
    c.new-3.ensures.app c.disable_help_flag.ensures c.disable_version_flag.ensures
    (c.in_ok-arg.ensures.shape (search rules)) workers_is (c.in_ok-command.ensures.shape (search rules)) values_is in
    err_command (texts c.args.words.now) (leading c.args.words.now) (leads c.args.words.now c.in-len1-up.len_at_least)
    (app_of c.in_ok-command.command) c.in-Err.error made c.in-Err.ensures.kinds command is

-- what is asked for is the command that the words are
same_command : (c : goal.Joined-matches) (command : Command)
    → (AsksFor (leading c.args.words.now) (option_to_list (option_map (λ w. w.now) c.get_str.result)) (texts c.unwrap_or.result.now) command → IsCommandOf (texts c.args.words.now) command)
    × (IsCommandOf (texts c.args.words.now) command → AsksFor (leading c.args.words.now) (option_to_list (option_map (λ w. w.now) c.get_str.result)) (texts c.unwrap_or.result.now) command)
same_command c command =
    let words = texts c.args.words.now in
    let name = leading c.args.words.now in
    let parse = ok_parse (app_of c.in_ok-command.command) c.in-Ok.matches words name (ok_app c) c.in-Ok.ensures.kinds c.in-Ok.ensures.matches in
    ok_command words name (leads c.args.words.now c.in-len1-up.len_at_least) c.in-Ok.matches parse.0 parse.1 c.get_str.result c.get_str.ensures
    c.get_strs.result _ c.get_strs.ensures refl c.unwrap_or.result c.unwrap_or.ensures command

pub returns-in-Ok-clause-command : goal.returns-in-Ok-clause-command
returns-in-Ok-clause-command c = some_from c.asked_for.result _ _ (λ command asked. (same_command c command).0 asked) c.asked_for.ensures.command

pub returns-in-Ok-clause-the_one : goal.returns-in-Ok-clause-the_one
returns-in-Ok-clause-the_one c = λ command is. c.asked_for.ensures.the_one command ((same_command c command).1 is)

pub returns-in-Ok-clause-none : goal.returns-in-Ok-clause-none
returns-in-Ok-clause-none c = none_from c.asked_for.result (IsCommandOf (texts c.args.words.now)) (returns-in-Ok-clause-the_one c)

pub returns : goal.returns
returns c =
    let other = c.in_default-kind.not-OutOfMemory in
    record {
      command = tt;
      none = λ command is. other (c.kind.ensures ∙ no_memory c command is);
      the_one = λ command is. absurd (other (c.kind.ensures ∙ no_memory c command is));
    }
