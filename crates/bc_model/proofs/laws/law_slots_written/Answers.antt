use Rattle.bc_model.proofs.Changes.{slot-after-new, slot-after-load, slot-after-copy, slot-after-clear, other-slots}
use Rattle.bc_model.proofs.laws.law_slots_written.Goals as goal

pub returns-clause-new : goal.returns-clause-new
returns-clause-new c = slot-after-new

pub returns-clause-load : goal.returns-clause-load
returns-clause-load c = slot-after-load

pub returns-clause-copy : goal.returns-clause-copy
returns-clause-copy c = slot-after-copy

pub returns-clause-clear : goal.returns-clause-clear
returns-clause-clear c = slot-after-clear

pub returns-clause-others : goal.returns-clause-others
returns-clause-others c = other-slots
