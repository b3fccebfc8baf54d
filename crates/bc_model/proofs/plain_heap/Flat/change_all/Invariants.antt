use Rattle.std.proofs.Common.{◌≡◌, drop}
use Rattle.bc_model.specs.StateSizes.{sizes_of}
use Rattle.bc_model.specs.Run.{after_changes}
use Rattle.bc_model.proofs.plain_heap.Flat.change_all.Given as goal

abbrev pub invariant-loop-change : goal.invariant-loop-change
invariant-loop-change l = record {
  state : after_changes l.self (drop l.change-index l.changes) ≡ after_changes l.fn.self l.changes;
  sizes : sizes_of l.self ≡ sizes_of l.fn.self;
  made : l.self.made ≡ l.fn.self.made;
}
