use Rattle.bc_pins.proofs.FillLemmas.{mark_words}
use Rattle.bc_pins.proofs.filling.fill_marks.Goals as goal

pub returns : goal.returns
returns c = record { filled = mark_words _ _ _ _ _ _ c.push_sets.ensures.added c.push_sets-2.ensures.added c.push_queues.ensures.added }
