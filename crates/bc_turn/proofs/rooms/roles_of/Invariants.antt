use Rattle.std.proofs.Common.{◌≡◌, ◌+◌, map, take, vec_capacity, length, ◌≤◌}
use Rattle.bc_pins.specs.declared.key.Role.TheVariants.{Lane}
use Rattle.bc_turn.specs.Taking.{spare_lanes}
use Rattle.bc_turn.proofs.rooms.roles_of.Given as goal

abbrev pub invariant-loop-spare : goal.invariant-loop-spare
invariant-loop-spare l = record {
  roles : l.roles.items ≡ map Lane (spare_lanes (take l.spare-index l.spares));
  room : length l.spares + l.pagers ≤ vec_capacity l.roles;
}
