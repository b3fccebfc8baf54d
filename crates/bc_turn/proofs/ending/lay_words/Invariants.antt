use Rattle.bc_turn.specs.Taking.{LaysDomains}
use Rattle.bc_turn.proofs.ending.lay_words.Given as goal

abbrev pub invariant-loop-number : goal.invariant-loop-number
invariant-loop-number l = LaysDomains l.fn.roots l.domains l.words l.number l.roots
