use Rattle.std.proofs.Common.{◌≡◌, ◌-◌, ◌++◌, ◌≤◌, length, true, vec_capacity}
use Rattle.crossbeam_queue.specs.Passes.{view, IsPassOf}
use Rattle.bc_feed.proofs.closing.drain.Given as goal

abbrev pub invariant-loop-hint : goal.invariant-loop-hint
invariant-loop-hint g l = record {
  of : IsPassOf l.queue l.pass;
  pushes : (view l.pass).pushes ≡ true;
  pops : (view l.pass).pops ≡ true;
  most : (view l.pass).most ≡ (view l.initial.pass).most;
  sent : (view l.pass).sent ≡ (view l.initial.pass).sent;
  got : (view l.pass).got ≡ (view l.initial.pass).got ++ l.left.items;
  room : vec_capacity l.left ≡ vec_capacity l.initial.left;
}

abbrev pub decreases-loop-hint : goal.decreases-loop-hint
decreases-loop-hint g l = (view l.pass).most - length (view l.pass).got
