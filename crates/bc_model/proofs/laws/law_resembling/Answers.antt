use Rattle.bc_model.proofs.Resembling.{law-resembling}
use Rattle.bc_model.proofs.ResemblingRuns.{resembling-phases}
use Rattle.bc_model.proofs.laws.law_resembling.Goals as goal

pub returns-clause-step : goal.returns-clause-step
returns-clause-step c = law-resembling

pub returns-clause-phases : goal.returns-clause-phases
returns-clause-phases c = λ setup s t phases is sizes fits alike. resembling-phases setup s t phases (record { state = is; sizes = sizes }) fits alike
