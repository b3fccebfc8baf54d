use denote.Param.Send.{sendable}
use Rattle.bc_pins.proofs.SharedLemmas.{pins_sync}
use Rattle.bc_pins.proofs.pins.Seat.TheSendSync as seat
use Rattle.turn_tests.proofs.table.writing.are_written.Goals as goal

pub join_mut-one-requires-send-F : goal.join_mut-one-requires-send-F
join_mut-one-requires-send-F g c κs within = search (sendable, pins_sync, seat.the_send) depth 12
