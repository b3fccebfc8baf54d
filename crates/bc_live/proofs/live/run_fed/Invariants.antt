use Rattle.std.proofs.Common.{Some}
use Rattle.bc_feed.specs.Ends.{channel_id}
use Rattle.bc_live.proofs.live.run_fed.Given as goal

abbrev pub ghosts-run_beside_feeder : goal.ghosts-run_beside_feeder
ghosts-run_beside_feeder g a = record { channel = Some (channel_id a.channel.now) }
