use Rattle.std.proofs.Common.{sym}
use Rattle.bc_classes.specs.Classes.{class_of}
use Rattle.heap_tests.proofs.superpages.calls.place_self.Goals as goal

pub place-requires-clause-class : goal.place-requires-clause-class
unfolding class_of
place-requires-clause-class c = sym c.in-Some.ensures.class
