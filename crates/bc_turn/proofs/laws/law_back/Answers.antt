use Rattle.bc_turn.proofs.BackLemmas.{lies-back-running, lies-back-stands}
use Rattle.bc_turn.proofs.laws.law_back.Goals as goal

pub returns-clause-running : goal.returns-clause-running
returns-clause-running c = lies-back-running

pub returns-clause-stands : goal.returns-clause-stands
returns-clause-stands c = lies-back-stands
