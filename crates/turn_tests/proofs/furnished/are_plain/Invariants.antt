use Rattle.std.specs.Prelude.{ℕ, ◌<◌}
use Rattle.turn_tests.proofs.TestLemmas.{IsPlainAt}
use Rattle.turn_tests.proofs.furnished.are_plain.Given as goal

abbrev pub invariant-loop-superpage : goal.invariant-loop-superpage
invariant-loop-superpage l = (q : ℕ) → q < l.superpage → IsPlainAt l.space q
