use Rattle.std.proofs.Common.{◌-◌, ◌≤◌}
use Rattle.superpages_bench.proofs.filled.Given as goal

abbrev pub invariant-loop-placed : goal.invariant-loop-placed
invariant-loop-placed g l = l.placed ≤ l.objects

abbrev pub decreases-loop-placed : goal.decreases-loop-placed
decreases-loop-placed g l = l.objects - l.placed
