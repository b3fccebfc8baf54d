-- Threads may share a table: each of its fields may be shared.
use denote.Param.Send.{IsSend, IsSync, sendable}
use denote.Param.SendFields.{declared_sync}
use Rattle.std.proofs.Crossing.{crosses}
use Rattle.atomic_table.proofs.owned.Table.TheSendSync as table
use Rattle.bc_superpages.proofs.parts.SpaceParts.TheSendSync as parts
use Rattle.bc_pins.specs.contracts.pins.Pins as Row
use Rattle.bc_pins.specs.contracts.rest.Rest as Rest
use Rattle.bc_pins.specs.contracts.rest.Rest.TheInside as Inside
use Rattle.bc_pins.specs.contracts.views.Lodged as Lodged

lodged_send : IsSend Lodged.the_row
lodged_send = search (sendable, crosses) depth 20

inside_sync : IsSync Inside.the_row
inside_sync = declared_sync Inside.the_type (search (parts.the_sync) depth 4, (search (sendable, crosses) depth 8, (search sendable, tt)))

rest_sync : IsSync (denote.Hole.as_row Rest.the_field)
rest_sync = search (sendable, inside_sync) depth 8

-- for a caller that shares a table by threads: a search of the whole type gives up
pub pins_sync : IsSync Row.the_row
pins_sync = declared_sync Row.the_type (search (sendable, crosses, table.the_sync, lodged_send) depth 20, (rest_sync, (search sendable, (search sendable, (search sendable, tt)))))
