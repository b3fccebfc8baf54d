use Rattle.std.proofs.Common.{◌≡◌, true, false, sym, ◌∙◌}
use Rattle.bc_cycle.specs.Emptying.{heap_view}
use Rattle.bc_whole_heap.proofs.MovingLemmas.{eligible-named}
use Rattle.bc_running.proofs.serving.withhold_heap.Goals as goal

pub withhold-requires-clause-targets : goal.withhold-requires-clause-targets
withhold-requires-clause-targets c = eligible-named (heap_view c.args.heap.now) c.args.holders.now c.requires.running.closed

pub withhold-requires-clause-leave : goal.withhold-requires-clause-leave
withhold-requires-clause-leave c = record { remembered = c.requires.unrecorded; promised = λ p lt home a on at. absurd (let clash : true ≡ false = sym on ∙ c.requires.running.none_promised a in cc) }
