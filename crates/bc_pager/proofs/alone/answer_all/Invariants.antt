use Rattle.std.proofs.Common.{◌≡◌, ◌+◌, length, take, vec_capacity}
use Rattle.bc_bookmarks.specs.Moves.{MovesPages}
use Rattle.bc_pager.specs.Alone.{AnsweredLeaving}
use Rattle.bc_pager.specs.Leaving.{SameObjects}
use Rattle.bc_pins.specs.Opening.{IsOpenable}
use Rattle.bc_pager.proofs.alone.answer_all.Given as goal

abbrev pub invariant-loop-hint : goal.invariant-loop-hint
invariant-loop-hint l = record {
  answered : AnsweredLeaving l.initial.space (take l.hint-index l.hints) l.initial.answers.items l.answers.items l.space;
  same : SameObjects l.initial.space l.space;
  moves : MovesPages l.initial.space l.space;
  openable : IsOpenable l.space;
  long : length l.answers.items ≡ length l.initial.answers.items + l.hint-index;
  room : vec_capacity l.answers ≡ vec_capacity l.initial.answers;
}
