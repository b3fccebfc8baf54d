use Rattle.std.proofs.Common.{◌≡◌}
use Rattle.bc_feed.specs.Ends.{HasHandedIn, feeder_channel, feeder_most, handed_of}
use Rattle.bc_feed.proofs.ends.Feeder.hand_in.Given as goal

abbrev pub invariant-loop : goal.invariant-loop
invariant-loop g l = record {
  of : feeder_channel l.self ≡ feeder_channel l.initial.self;
  most : feeder_most l.self ≡ feeder_most l.initial.self;
  fed : HasHandedIn (handed_of l.initial.self) (g.F.Feed.coming l.initial.feed) (handed_of l.self) (g.F.Feed.coming l.feed);
}
