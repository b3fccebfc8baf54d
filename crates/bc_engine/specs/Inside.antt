-- The engine that contracts see.
use Rattle.std.specs.Prelude.{ℕ, None, Some}
use Rattle.bc_engine.specs.EngineFacts.{with_turns}
use Rattle.bc_engine.specs.Engines.{EngineView}
use Rattle.bc_engine.specs.declared.engines.Ended.TheVariants.{OutOfHeap}
use Rattle.bc_engine.specs.declared.engines.Engine.TheInside.{Inside}
use Rattle.bc_engine.specs.declared.opened.TurnLog.{TurnLog}
use Rattle.bc_engine.specs.declared.players.Player.{Player}

-- an engine as contracts see it, by what it has inside
abbrev pub engine_of : Inside → EngineView
engine_of e = record {
  running = e.player.running;
  setup = e.player.setup;
  workers = e.player.workers;
  ended = e.ended;
  answers = e.answers.items;
  opened = e.opened.items;
  live = e.live.items;
  counters = e.player.counters;
}

-- the engine that plays on this, with these answers and turns, where it hasn't ended
abbrev pub played : Player → TurnLog → EngineView
played p log = record {
  running = p.running;
  setup = p.setup;
  workers = p.workers;
  ended = None;
  answers = log.answers.items;
  opened = log.opened.items;
  live = log.live.items;
  counters = p.counters;
}

-- the engine with the answers and turns of this log
abbrev pub with_log : EngineView → TurnLog → EngineView
with_log e log = with_turns e log.answers.items log.opened.items log.live.items

-- the engine that ended, since what it stands for needs so many superpages
abbrev pub out_of_heap : ℕ → EngineView → EngineView
out_of_heap need e = record e { ended = Some (OutOfHeap need) }
