use Rattle.std.proofs.Common.{length, ap, sym, ◌∙◌}
use Rattle.bc_lane.proofs.looking.cell_looked_at.Goals as goal

pub reads_all-requires : goal.reads_all-requires
reads_all-requires c = let w = c.requires.whole in record { op = (w.2.roots, w.4, ap length c.deref.ensures.value ∙ sym w.3.belongs.roots.domains_are) }
