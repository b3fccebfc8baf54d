use Rattle.std.specs.Prelude.{◌≡◌, ℕ, ◌<◌, true}
use Rattle.bc_bits.specs.BitChanges.{none_set}
use Rattle.bc_superpages.specs.Layout.{set_of}
use Rattle.heap_tests.proofs.superpages.calls.has_no_object.Given as goal

abbrev pub invariant-loop-superpage : goal.invariant-loop-superpage
invariant-loop-superpage l = (q : ℕ) → q < l.superpage → none_set (set_of l.space.cells q) ≡ true
