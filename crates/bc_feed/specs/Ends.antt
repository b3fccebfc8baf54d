-- The channel and its ends, as contracts see them: which channel an end is of, what was handed in, and what was taken.
use Rattle.std.specs.Prelude.{◌≡◌, ℕ, List, ◌++◌}
use Rattle.atomic_table.specs.Seated.{TableId}
use Rattle.crossbeam_queue.specs.Passes.{view}
use Rattle.bc_feed.specs.declared.ends.BothEnds.{BothEnds}
use Rattle.bc_feed.specs.declared.ends.Feeder.{Feeder}
use Rattle.bc_feed.specs.declared.ends.Channel.{Channel}
use Rattle.bc_feed.specs.declared.ends.Taker.{Taker}

-- which channel it is
abbrev pub channel_id : Channel → TableId
channel_id l = l.queue.table.shared.table_id

-- the channel of both ends
abbrev pub both_channel : BothEnds → TableId
both_channel b = b.pass.table_id

-- the channel of a feeder
abbrev pub feeder_channel : Feeder → TableId
feeder_channel f = f.pass.table_id

-- the channel of a taker
abbrev pub taker_channel : Taker → TableId
taker_channel t = t.pass.table_id

-- how many hints are handed in at most: of both ends
abbrev pub both_most : BothEnds → ℕ
both_most b = b.most

-- of a feeder
abbrev pub feeder_most : Feeder → ℕ
feeder_most f = f.most

-- of a taker
abbrev pub taker_most : Taker → ℕ
taker_most t = (view t.pass).most

-- the hints that the feed gave, in order: those that were pushed, and one that waits for a place
abbrev pub handed_of : Feeder → List ℕ
handed_of f = f.handed.items

-- the hints that were taken, in order
abbrev pub taken_of : Taker → List ℕ
taken_of t = t.taken.items

-- the hints that were in the queue when the ends were parted
abbrev pub known_of : Taker → List ℕ
known_of t = (view t.pass).sent

-- a feeder has handed in more: the next hints of the feed, in order, and the feed has what comes after them
pub record HasHandedIn (handed coming more_handed still_coming : List ℕ) : Type 0 where
  pub more : List ℕ
  pub given : coming ≡ more ++ still_coming
  pub kept : more_handed ≡ handed ++ more
