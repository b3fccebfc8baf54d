-- In the theorem.
-- How many numbers below a bound pass a test, and whether one does.
use Rattle.std.specs.Prelude.{ℕ, ◌+◌, Bool, false, ◌||◌, if◌then◌else◌}
use Prim.Native.Nat.{zero, suc}

-- 1 for what is true
abbrev pub one_if : Bool → ℕ
one_if b = if b then 1 else 0

-- how many numbers below the second argument pass the test
unfoldable pub count_below : (ℕ → Bool) → ℕ → ℕ
count_below f zero = 0
count_below f (suc n) = one_if (f n) + count_below f n

-- does some number below the second argument pass the test?
unfoldable pub any_below : (ℕ → Bool) → ℕ → Bool
any_below f zero = false
any_below f (suc n) = f n || any_below f n
