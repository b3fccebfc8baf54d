use denote.Param.Send.{IsSync, param_send, sendable}
use Rattle.bc_pins.proofs.SharedLemmas.{pins_sync}
use Rattle.bc_turn.specs.contracts.runs.TurnThreads as threads
use Rattle.bc_turn.proofs.SendLemmas.{pagers_send}
use Rattle.bc_turn.proofs.runs.run_abreast.Lts as lts
use Rattle.bc_turn.proofs.runs.run_abreast.Goals as goal

-- they read there on which threads they work
threads_sync : IsSync threads.the_row
threads_sync = search sendable depth 20

pub join_mut-requires-send-F : goal.join_mut-requires-send-F
join_mut-requires-send-F g c κs within =
    param_send 1 (lts.arg-0-1 g.row.R g.row.G g.R.laws g.G.laws g.R.Threads-dict g.G.Gate-dict κs) (search (sendable, pins_sync, pagers_send, threads_sync) depth 20)
