-- Which replies refuse an operation.
use Rattle.std.specs.Prelude.{◌≡◌, ◌⊎◌}
use Rattle.bc_model.specs.declared.operations.Reply.{Reply}
use Rattle.bc_model.specs.declared.operations.Reply.TheVariants as reply

-- the reply says that the operation isn't done: no object, no such field, or a domain that the lane may not read or not write
abbrev pub IsRefusal : Reply → Type 0
IsRefusal r = (r ≡ reply.NotObj) ⊎ (r ≡ reply.Range) ⊎ (r ≡ reply.Foreign) ⊎ (r ≡ reply.Frozen)
