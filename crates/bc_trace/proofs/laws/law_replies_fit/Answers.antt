use Rattle.bc_trace.proofs.Fitting.{fits-run, fits-cut_of_run}
use Rattle.bc_trace.proofs.laws.law_replies_fit.Goals as goal

pub returns-clause-run : goal.returns-clause-run
returns-clause-run c = fits-run

pub returns-clause-cut : goal.returns-clause-cut
returns-clause-cut c = fits-cut_of_run
