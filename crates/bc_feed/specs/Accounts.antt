-- What the passes of the queue know, and the rule of the queue: what was pushed is what was popped, and then what the queue holds.
use Rattle.std.specs.Prelude.{◌≡◌, ℕ, ◌≤◌, Bool, true, false, List, [], ◌∷◌, ◌++◌, length, Option, Some, None}
use mathlib.Core.Option.{some}
use mathlib.Core.List.{IsPrefix}
use lib.ListN.{get_elem?}
use Rattle.bc_feed.specs.declared.rule.Account.{Account}

-- what a pass knows: how many hints there are at most, whether it pushes, whether it pops, what was pushed and what it popped
abbrev pub account_with : ℕ → Bool → Bool → List ℕ → List ℕ → Account
account_with most pushes pops sent got = record { most = most; pushes = pushes; pops = pops; sent = sent; got = got }

-- the first pass of a new queue, which was told of no hints
abbrev pub untold_account : Account
untold_account = account_with 0 true true [] []

-- the pass of both ends
abbrev pub whole_account : ℕ → List ℕ → List ℕ → Account
whole_account most sent got = account_with most true true sent got

-- the feeder's pass
abbrev pub feeder_account : ℕ → List ℕ → Account
feeder_account most sent = account_with most true false sent []

-- the taker's pass: it knows what was pushed by the time when the ends were parted
abbrev pub taker_account : ℕ → List ℕ → List ℕ → Account
taker_account most known got = account_with most false true known got

-- a pass that was taken back
abbrev pub spent_account : Account
spent_account = account_with 0 false false [] []

-- a pass that has pushed one hint more
abbrev pub with_sent : Account → ℕ → Account
with_sent v hint = account_with v.most v.pushes v.pops (v.sent ++ hint ∷ []) v.got

-- a pass that has popped one hint more
abbrev pub with_got : Account → ℕ → Account
with_got v hint = account_with v.most v.pushes v.pops v.sent (v.got ++ hint ∷ [])

-- one pass at most pushes, and it knows all that was pushed. One pass at most pops, and it knows all that was popped, and of what was
-- pushed a beginning
pub record FitsRoles (most feeder taker : ℕ) (sent got : List ℕ) (port : ℕ) (v : Account) : Type 0 where
  pub feeds : v.pushes ≡ true → (port ≡ feeder) × (v.most ≡ most) × (v.sent ≡ sent)
  pub takes : v.pops ≡ true → (port ≡ taker) × (v.most ≡ most) × (v.got ≡ got)
  pub knows : v.pops ≡ true → IsPrefix v.sent sent

-- the rule of the queue, of what it holds and of all passes, between any two steps: what was pushed is what was popped and then what the
-- queue holds, in order, and no more was pushed than there are hints
pub record PassesInOrder (items : List ℕ) (accounts : List Account) : Type 0 where
  pub most : ℕ
  pub feeder : ℕ
  pub taker : ℕ
  pub sent : List ℕ
  pub got : List ℕ
  pub order : sent ≡ got ++ items
  pub few : length sent ≤ most
  pub each : (port : ℕ) (v : Account) → get_elem? accounts port ≡ some v → FitsRoles most feeder taker sent got port v

-- the step of a push
pub record HasPushedHint (v : Account) (hint : ℕ) (w : Account) : Type 0 where
  pub account : w ≡ with_sent v hint

-- the step of a pop. Never more is popped than there are hints
pub record HasPoppedHint (v : Account) (hint : ℕ) (w : Account) : Type 0 where
  pub account : w ≡ with_got v hint
  pub few : length w.got ≤ w.most

-- what a pass learns from what the queue holds
pub record ShowsHints (v : Account) (items : List ℕ) : Type 0 where
  -- where it pops: what it knows to have been pushed was popped or is in the queue, in this order
  pub known : v.pops ≡ true → IsPrefix v.sent (v.got ++ items)
  -- where it pushes too: this is all that was pushed
  pub all : v.pushes ≡ true → v.pops ≡ true → v.sent ≡ v.got ++ items

-- a list of none or one
abbrev pub listed : Option ℕ → List ℕ
listed None = []
listed (Some hint) = hint ∷ []
