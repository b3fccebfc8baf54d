use Rattle.std.proofs.Common.{ℕ, List, length, ap, sym, subst}
use Rattle.bc_churn.specs.Counts.{churn_text}
use Rattle.bc_io.specs.Told.{HasRoom, HeldGrows}
use Rattle.bc_replay.specs.Endings.{WritesFront}
use Rattle.bc_replay.specs.declared.status.Status.TheVariants.{NoMemory}
use Rattle.bc_cli.specs.Churns.{HasChurned}
use Rattle.bc_cli.proofs.Writing.{written-churn, written-no}
use Rattle.bc_cli.proofs.churn.churn.Goals as goal

pub put_summary-requires-clause-alive : goal.put_summary-requires-clause-alive
put_summary-requires-clause-alive g c = λ gone. let going = c.in-Ok.ensures.heap.handed.ended in cc

pub put_summary-requires-clause-room : goal.put_summary-requires-clause-room
put_summary-requires-clause-room g c =
    subst (λ (counts : List ℕ). HasRoom (g.K.Sink.room c.args.sink.now) (length (churn_text c.args.start c.args.ops counts))) (sym c.in-Ok.ensures.counts) c.requires.room

pub returns-in-Ok-clause-ending : goal.returns-in-Ok-clause-ending
returns-in-Ok-clause-ending g c = written-churn _ c.put_summary.ensures.ending

pub returns-in-Ok-clause-done : goal.returns-in-Ok-clause-done
returns-in-Ok-clause-done g c = λ e. record {
  written = subst (HeldGrows _ _) (ap (churn_text c.args.start c.args.ops) c.in-Ok.ensures.counts) (c.put_summary.ensures.done e);
  churned = subst (HasChurned c.args.start c.args.ops) (sym c.put_summary.ensures.heap) c.in-Ok.ensures.heap;
}

pub returns-in-Ok-clause-write_fault : goal.returns-in-Ok-clause-write_fault
returns-in-Ok-clause-write_fault g c = λ e. (
  c.put_summary.ensures.cause e,
  record {
    written = subst (WritesFront _ _) (ap (churn_text c.args.start c.args.ops) c.in-Ok.ensures.counts) (c.put_summary.ensures.write_fault e);
    churned = subst (HasChurned c.args.start c.args.ops) (sym c.put_summary.ensures.heap) c.in-Ok.ensures.heap;
  },
)

pub returns-in-Ok-clause-no_memory : goal.returns-in-Ok-clause-no_memory
returns-in-Ok-clause-no_memory g c = λ e. absurd (written-no _ NoMemory c.put_summary.ensures.ending (λ e. cc) (λ e. cc) e)
