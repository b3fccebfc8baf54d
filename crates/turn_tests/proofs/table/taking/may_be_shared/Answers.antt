use denote.Param.Send.{sendable}
use Rattle.bc_pins.proofs.SharedLemmas.{pins_sync}
use Rattle.turn_tests.proofs.table.taking.may_be_shared.Goals as goal

pub shared-requires-sync-T : goal.shared-requires-sync-T
shared-requires-sync-T c κs = search (sendable, pins_sync) depth 8
