-- The claims of notices: which numbers the views claimed, and what the notice word says of them.
use Rattle.std.specs.Prelude.{◌≡◌, ℕ, ◌^◌, ◌<◌, nat_lt, length}
use Rattle.bc_bits.specs.Counting.{one_if}
use Rattle.bc_pins.specs.declared.views.View.{View}
use Rattle.bc_pins.specs.Key.{Key, notice_at}
use Rattle.bc_pins.specs.Totals.{total, times}
use Rattle.bc_pins.specs.Facts.{Table, word}

-- how many numbers all views claimed
abbrev pub claims_made : Table → ℕ
claims_made s = total (λ (v : View). length v.notices) s.views

-- Notices: the notice word is the next number, and each number below it was claimed by one view, once, and no other number by any.
-- The word counts to 2 ^ 64 alone, and this holds as long as fewer claims were made
pub record Claims (k : Key) (s : Table) : Type 0 where
  pub next : claims_made s < 2 ^ 64 → word s (notice_at k) ≡ claims_made s
  pub once : claims_made s < 2 ^ 64 → (n : ℕ) → total (λ (v : View). times n v.notices) s.views ≡ one_if (nat_lt n (word s (notice_at k)))
