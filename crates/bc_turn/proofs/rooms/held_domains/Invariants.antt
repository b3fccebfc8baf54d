use Rattle.std.proofs.Common.{◌≤◌, length}
use Rattle.bc_turn.specs.Taking.{AreHeldBelow}
use Rattle.bc_turn.proofs.rooms.held_domains.Given as goal

abbrev pub invariant-loop-domain : goal.invariant-loop-domain
invariant-loop-domain l = record {
  few : length l.domains.items ≤ l.domain;
  held : AreHeldBelow l.holders l.lane l.domain l.domains.items;
}
