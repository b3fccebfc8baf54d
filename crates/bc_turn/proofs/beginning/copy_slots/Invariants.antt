use Rattle.std.proofs.Common.{◌≡◌, vec_capacity}
use Rattle.bc_turn.specs.Taking.{HasCopied}
use Rattle.bc_turn.proofs.beginning.copy_slots.Given as goal

abbrev pub invariant-loop-slot : goal.invariant-loop-slot
invariant-loop-slot l = record {
  copied : HasCopied l.roots l.domain l.slot l.fn.words.items l.words.items;
  room : vec_capacity l.words ≡ vec_capacity l.fn.words;
}
