use Rattle.bc_bookmarks.specs.Moves.{MovesPages}
use Rattle.bc_pins.specs.Opening.{IsOpenable}
use Rattle.bc_running.specs.Serving.{GivesUpFirst}
use Rattle.bc_running.proofs.serving.give_up_all.Given as goal

abbrev pub invariant-loop-hint : goal.invariant-loop-hint
invariant-loop-hint l = record {
  gives : GivesUpFirst l.initial.space l.hints l.hint-index l.space;
  moves : MovesPages l.initial.space l.space;
  openable : IsOpenable l.space;
}
