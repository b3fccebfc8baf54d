use Rattle.bc_picture.proofs.ListedBack.{listed-memory}
use Rattle.bc_picture.proofs.SavedHeaps.{pictures-listed, built-same, same-states}
use Rattle.bc_picture.proofs.laws.law_saved.Goals as goal

pub returns-clause-memory : goal.returns-clause-memory
returns-clause-memory c = listed-memory

pub returns-clause-pictures : goal.returns-clause-pictures
returns-clause-pictures c = pictures-listed

pub returns-clause-built : goal.returns-clause-built
returns-clause-built c = built-same

pub returns-clause-same : goal.returns-clause-same
returns-clause-same c = same-states
