-- How a pool keeps its frames: a bit for each in words of 64, set where the frame isn't free and where there is no frame any more.
use Rattle.std.specs.Prelude.{◌≡◌, ℕ, ◌+◌, ◌*◌, ◌/◌, ◌^◌, ◌<◌, ◌≤◌, Bool, true, false, not, List, length, map}
use Rattle.std.specs.List.{range_with_len}
use Rattle.bc_bits.specs.Bits.{has}
use Rattle.bc_bits.specs.BitChanges.{AreWords}
use Rattle.bc_frames.specs.Pool.{is_free, free_count}

-- the flags of so many frames: free where the bit is clear
unfoldable pub flags_in : List ℕ → ℕ → List Bool
flags_in words frames = map (λ f. not (has words f)) (range_with_len 0 frames)

-- The invariant of a pool: there is a bit for each frame, and the last word's other bits are set. So many frames are free, and none that
-- stands before the first of the words that may have one.
pub record HasFrameBits (words : List ℕ) (frames free first : ℕ) : Type 0 where
  pub long : length words ≡ (frames + 63) / 64
  pub fits : AreWords words
  pub behind : (f : ℕ) → frames ≤ f → f < 64 * length words → has words f ≡ true
  pub count : free ≡ free_count (flags_in words frames)
  pub none : (f : ℕ) → f < 64 * first → is_free (flags_in words frames) f ≡ false
  pub few : frames < 2 ^ 32
