use Rattle.std.proofs.Common.{◌≡◌, ◌≤◌, ◌-◌, [], ◌++◌, length, vec_capacity}
use Rattle.crossbeam_queue.specs.Passes.{view, IsSamePass}
use Rattle.bc_feed.specs.Accounts.{whole_account}
use Rattle.bc_feed.proofs.opening.push_first.Given as goal

abbrev pub invariant-loop-feed : goal.invariant-loop-feed
invariant-loop-feed g l = record {
  same : IsSamePass l.initial.pass l.pass;
  pushed : view l.pass ≡ whole_account (view l.initial.pass).most l.handed.items [];
  fed : l.handed.items ++ g.F.Feed.coming l.feed ≡ g.F.Feed.coming l.initial.feed;
  many : length l.handed.items ≤ l.count;
  room : vec_capacity l.handed ≡ vec_capacity l.initial.handed;
}

abbrev pub decreases-loop-feed : goal.decreases-loop-feed
decreases-loop-feed g l = l.count - length l.handed.items
