use Rattle.std.proofs.Common.{sym}
use Rattle.core.specs.Mem.Slots.{slots_items}
use Rattle.bc_pins.proofs.WordLemmas.{at_or}
use Rattle.bc_pins.proofs.LayLemmas.{marks_start, marks_step}
use Rattle.bc_pins.proofs.gathering.set_header_marks.Goals as goal

pub loop-word-init : goal.loop-word-init
loop-word-init c = marks_start _ _ _ _ _ c.requires.sixteen.0 c.requires.sixteen.1

pub loop-word-preserved : goal.loop-word-preserved
loop-word-preserved c = marks_step _ _ _ _ _ c.loop-word.word _ _ _ c.loop-word.invariant c.loop-word-test.true
    (sym (at_or (slots_items c.args.closed.now.words) _ c.word.result 0 c.word.ensures)) c.word.type_inv
    (sym (at_or (slots_items c.args.closed.now.words) _ c.word-in-loop-word.result 0 c.word-in-loop-word.ensures)) c.word-in-loop-word.type_inv
