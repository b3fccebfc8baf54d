use Rattle.std.proofs.Common.{◌≡◌, ◌*◌, ◌≤◌}
use Rattle.sorvekla.proofs.PairLemmas.{cells_before}
use Rattle.sorvekla.proofs.counters.count_pair.Given as goal

abbrev pub invariant-loop-superpage : goal.invariant-loop-superpage
invariant-loop-superpage l = (l.objects ≡ cells_before l.space l.domain l.class l.superpage) × (l.objects ≤ 1024 * l.superpage)
