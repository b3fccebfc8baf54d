use denote.Param.Send.{param_send, sendable}
use Rattle.bc_pins.proofs.SharedLemmas.{pins_sync}
use Rattle.bc_turn.proofs.SendLemmas.{paging_send}
use Rattle.bc_turn.proofs.runs.run_live.Lts as lts
use Rattle.bc_turn.proofs.runs.run_live.Goals as goal

pub join_mut-requires-send-F : goal.join_mut-requires-send-F
join_mut-requires-send-F g c κs within =
    param_send 1 (lts.arg-0-1 g.row.R g.row.N g.row.G g.R.laws g.N.laws g.G.laws g.R.Threads-dict g.N.Notices-dict g.G.Gate-dict κs) (search (sendable, pins_sync, paging_send) depth 20)
