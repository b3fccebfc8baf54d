-- What an engine counts.
use Rattle.std.specs.Prelude.{◌≡◌, ℕ, ◌+◌, ◌-◌, ◌%◌, ◌^◌, Bool, true, false, List, drop, sum_by}
use Rattle.bc_frames.specs.Places.{one_more}
use Rattle.bc_pager.specs.declared.answers.Answer.{Answer}
use Rattle.bc_pager.specs.declared.answers.Answer.TheVariants.{Declined, Discarded, Evicted}
use Rattle.bc_cycle.specs.declared.emptying.EmptyingKind.{EmptyingKind}
use Rattle.bc_cycle.specs.declared.emptying.EmptyingKind.TheVariants as emptying
use Rattle.bc_engine.specs.declared.counters.Counters.{Counters}
use Rattle.bc_engine.specs.declared.counters.PageCounts.{PageCounts}

-- a count that goes on by as much as another one did, from one number to another. Both are of 64 bits and go round
abbrev pub gone_on : ℕ → ℕ → ℕ → ℕ
gone_on count before after = (count + (after + (2 ^ 64 - before)) % 2 ^ 64) % 2 ^ 64

-- the answer names a page with objects that left: 1 if it does, else 0
abbrev pub names_left : Answer → ℕ
names_left (Evicted page) = 1
names_left (Discarded page) = 0
names_left Declined = 0

-- how many pages with objects left for the notices whose answers come after so many
abbrev pub left_since : ℕ → List Answer → ℕ
left_since from answers = sum_by names_left (drop from answers)

-- no page was counted
abbrev pub no_pages : PageCounts
no_pages = record { turns = 0; alone = 0; collections = 0; notices = 0 }

-- nothing was counted
abbrev pub no_counts : Counters
no_counts = record {
  turns = 0;
  early = 0;
  promotions = 0;
  collections = 0;
  failsafes = 0;
  earlier = 0;
  reads = no_pages;
  departures = no_pages;
}

-- nothing was counted, of a heap that had read so many pages before
abbrev pub counts_from : ℕ → Counters
counts_from reads = record no_counts { earlier = reads }

-- so many pages more left for notices. How many more left in the other ways isn't said
abbrev pub LeftForNotices : PageCounts → ℕ → PageCounts → Type 0
LeftForNotices p noticed q = q.notices ≡ (p.notices + noticed) % 2 ^ 64

-- a turn was counted, over which the heap's reads went on so, and so many pages left for its notices
abbrev pub CountsTurn : Counters → ℕ → ℕ → ℕ → Counters → Type 0
CountsTurn c before after noticed d =
    (d ≡ record c { turns = one_more c.turns; reads = record (c.reads) { turns = gone_on c.reads.turns before after }; departures = d.departures })
    × LeftForNotices c.departures noticed d.departures

-- a bookmark collection since frames were short was counted, if there was one, and so many pages left for the notices of its mark turns
abbrev pub CountsEarly : Counters → Bool → ℕ → Counters → Type 0
CountsEarly c true noticed d =
    d ≡ record c { early = one_more c.early; departures = record (c.departures) { notices = (c.departures.notices + noticed) % 2 ^ 64 } }
CountsEarly c false noticed d = d ≡ c

-- one more minor collection of this kind
abbrev pub one_of_kind : EmptyingKind → Counters → Counters
one_of_kind emptying.Promotion c = record c { promotions = one_more c.promotions }
one_of_kind emptying.Collection c = record c { collections = one_more c.collections }
one_of_kind emptying.Failsafe c = record c { failsafes = one_more c.failsafes }

-- the reads of a collection were counted, over which the heap's reads went on so, and so many pages that left for the notices of its mark turns
abbrev pub CountsPages : Counters → ℕ → ℕ → ℕ → Counters → Type 0
CountsPages c before after noticed d =
    (d ≡ record c { reads = record (c.reads) { collections = gone_on c.reads.collections before after }; departures = d.departures })
    × LeftForNotices c.departures noticed d.departures

-- a minor collection of this kind was counted, and so were its pages
abbrev pub CountsEmptying : EmptyingKind → Counters → ℕ → ℕ → ℕ → Counters → Type 0
CountsEmptying kind c before after noticed d = CountsPages (one_of_kind kind c) before after noticed d

-- operations that lanes did by themselves were counted by their reads
abbrev pub CountsAlone : Counters → ℕ → ℕ → Counters → Type 0
CountsAlone c before after d =
    (d ≡ record c { reads = record (c.reads) { alone = gone_on c.reads.alone before after }; departures = d.departures })
    × (d.departures.notices ≡ c.departures.notices)

-- all pages that were counted, in a number of 64 bits that goes round
abbrev pub all_pages : PageCounts → ℕ
all_pages p = (p.turns + p.alone + p.collections + p.notices) % 2 ^ 64

-- the reads by their causes add up to the heap's reads, together with those before the engine had the heap
abbrev pub IsCounted : Counters → ℕ → Type 0
IsCounted c reads = (c.earlier + all_pages c.reads) % 2 ^ 64 ≡ reads
