-- How the causes of faults are written.
use Rattle.std.specs.Prelude.{ℕ, List, codes}
use Rattle.bc_trace.specs.declared.fault.Cause.{Cause}
use Rattle.bc_trace.specs.declared.fault.Cause.TheVariants as causes

-- how a cause is written
abbrev pub cause_text : Cause → List ℕ
cause_text causes.Form = codes "form"
cause_text causes.Word = codes "word"
cause_text causes.Order = codes "order"
cause_text causes.Number = codes "number"
cause_text causes.Range = codes "range"
cause_text causes.Frames = codes "frames"
cause_text causes.End = codes "end"
