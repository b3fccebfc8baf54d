use Rattle.std.proofs.Common.{◌≡◌, vec_capacity}
use Rattle.bc_turn.specs.Taking.{AreFirstWords}
use Rattle.bc_turn.proofs.beginning.copy_words.Given as goal

abbrev pub invariant-loop-domain : goal.invariant-loop-domain
invariant-loop-domain l = record {
  words : AreFirstWords l.roots l.domains l.domain-index l.words.items;
  room : vec_capacity l.words ≡ vec_capacity l.fn.words;
}
