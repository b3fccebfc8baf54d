-- In the theorem.
-- The words that a line of a trace may begin with, as they are written.
use Rattle.std.specs.Prelude.{ℕ, List, codes}
use Rattle.bc_trace.specs.declared.words.Setting.{Setting}
use Rattle.bc_trace.specs.declared.words.Setting.TheVariants as settings
use Rattle.bc_trace.specs.declared.words.Verb.{Verb}
use Rattle.bc_trace.specs.declared.words.Verb.TheVariants as verbs
use Rattle.bc_trace.specs.declared.words.Keyword.{Keyword}
use Rattle.bc_trace.specs.declared.words.Keyword.TheVariants as words

-- how a word of the header is written
unfoldable pub setting_name : Setting → List ℕ
setting_name settings.Lanes = codes "lanes"
setting_name settings.Domains = codes "domains"
setting_name settings.Slots = codes "slots"
setting_name settings.Superpages = codes "superpages"
setting_name settings.Nursery = codes "nursery"
setting_name settings.Buffer = codes "buffer"
setting_name settings.Frames = codes "frames"

-- how an operation's word is written
unfoldable pub verb_name : Verb → List ℕ
verb_name verbs.New = codes "new"
verb_name verbs.Who = codes "who"
verb_name verbs.Len = codes "len"
verb_name verbs.Set = codes "set"
verb_name verbs.Cut = codes "cut"
verb_name verbs.Link = codes "link"
verb_name verbs.Load = codes "load"
verb_name verbs.Copy = codes "copy"
verb_name verbs.Clear = codes "clear"
verb_name verbs.Same = codes "same"

-- how a word of the language is written
unfoldable pub name : Keyword → List ℕ
name words.Version = codes "bc-trace"
name (words.Setting s) = setting_name s
name words.Phase = codes "phase"
name words.Turn = codes "turn"
name words.Lane = codes "lane"
name words.Give = codes "give"
name words.Freeze = codes "freeze"
name words.End = codes "end"
name words.Done = codes "done"
name (words.Op v) = verb_name v
