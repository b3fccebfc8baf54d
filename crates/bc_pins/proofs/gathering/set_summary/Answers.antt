use Rattle.std.proofs.Common.{ℕ, get_or, ap, sym, ◌∙◌}
use Rattle.core.specs.Mem.Slots.{slots_items}
use Rattle.bc_pins.proofs.WordLemmas.{at_or}
use Rattle.bc_pins.proofs.HeaderLemmas.{summary_start, summary_step}
use Rattle.bc_pins.proofs.gathering.set_summary.Goals as goal

pub loop-word-init : goal.loop-word-init
loop-word-init c = summary_start _ _ _ _ _ (sym (ap (λ (i : ℕ). get_or (slots_items c.args.closed.now.words) i 0) (sym c.counter_entry.ensures) ∙ at_or (slots_items c.args.closed.now.words) c.counter_entry.result c.word-header.result 0 c.word-header.ensures)) c.requires.sixteen

pub loop-word-preserved : goal.loop-word-preserved
loop-word-preserved c = summary_step _ _ _ _ c.loop-word.word _ _ c.loop-word.invariant c.loop-word-test.true (sym (ap (λ (i : ℕ). get_or (slots_items c.args.closed.now.words) i 0) (sym c.bookmark_entry.ensures) ∙ at_or (slots_items c.args.closed.now.words) c.bookmark_entry.result c.word.result 0 c.word.ensures)) c.word.type_inv
