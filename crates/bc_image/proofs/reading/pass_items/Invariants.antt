use Rattle.bc_image.proofs.ReadLemmas.{IsReading}
use Rattle.bc_image.proofs.reading.pass_items.Given as goal

abbrev pub invariant-loop-number : goal.invariant-loop-number
invariant-loop-number l = IsReading l.bytes l.draft l.number l.count
