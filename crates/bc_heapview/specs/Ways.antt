-- Ways through a heap: from a root slot on, by fields.
use Rattle.std.specs.Prelude.{◌≡◌, ◌⊎◌, ℕ, ◌<◌}

-- the object that a root slot refers to, or the one that a field of the last object of a way does
pub data Way : Type 0 where
  from_slot : ℕ → Way
  by_field : Way → ℕ → Way

-- shorter ways come first, and among ways of one length the order is that of their slots, and then of their fields from
-- the first on
abbrev pub Before : Way → Way → Type 0
Before (from_slot r) (from_slot s) = r < s
Before (from_slot r) (by_field v j) = Unit {0}
Before (by_field w i) (from_slot s) = ⊥
Before (by_field w i) (by_field v j) = Before w v ⊎ ((w ≡ v) × (i < j))

-- a way is another one, or comes before it
abbrev pub AtMost : Way → Way → Type 0
AtMost w v = (w ≡ v) ⊎ Before w v
