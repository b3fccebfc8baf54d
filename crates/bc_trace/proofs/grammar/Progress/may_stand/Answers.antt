use Rattle.std.proofs.Common.{rules, ◌≡◌, refl, ◌∙◌}
use denote.Enum.Bare.{sameb}
use Rattle.bc_trace.specs.Grammar.{may_stand, same_setting}
use Rattle.bc_trace.specs.contracts.words.Setting.{the_type}
use Rattle.bc_trace.specs.declared.words.Setting.{Setting}
use Rattle.bc_trace.specs.declared.words.Setting.TheVariants as settings
use Rattle.bc_trace.proofs.grammar.Progress.may_stand.Goals as goal

-- the derived `==` compares the tags alone
same_setting-is : (k j : Setting) → sameb the_type k j ≡ same_setting k j
unfolding same_setting
same_setting-is settings.Lanes settings.Lanes = refl
same_setting-is settings.Domains settings.Domains = refl
same_setting-is settings.Slots settings.Slots = refl
same_setting-is settings.Superpages settings.Superpages = refl
same_setting-is settings.Nursery settings.Nursery = refl
same_setting-is settings.Buffer settings.Buffer = refl
same_setting-is settings.Frames settings.Frames = refl
same_setting-is _ _ = refl

pub returns-in-Awaiting : goal.returns-in-Awaiting
unfolding may_stand
returns-in-Awaiting c = search (rules, c.eq.ensures ∙ same_setting-is c.in-Setting.setting c.in-Awaiting.awaited)
