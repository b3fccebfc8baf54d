-- A frame that a seat claims, and what it has read where none is free.
use Rattle.std.specs.Prelude.{◌≡◌, ℕ, ◌/◌, ◌%◌, ◌<◌, ◌≤◌, List, [], ◌∷◌, ◌++◌}
use Rattle.std.specs.Int.{bit_at}
use Rattle.bc_pins.specs.declared.views.View.{View}
use Rattle.bc_pins.specs.Key.{pages_of, page_at, frame_at, frame_words}
use Rattle.bc_pins.specs.Totals.{times}
use Rattle.bc_pins.specs.Views.{reads_of}
use Rattle.bc_evict.specs.Looking.{steps_behind}

-- a frame word without a clear bit
abbrev pub all_bits : ℕ
all_bits = 18446744073709551615

-- the seat has the right to this frame, which is one of the heap's, and to no other. The frame was free: its word was read with its bit
-- clear. Nothing else changed but what was read of frame words
pub record HasClaimed (v : View) (frame : ℕ) (w : View) : Type 0 where
  pub looks : List (ℕ × ℕ)
  pub view : w ≡ record v { rights = frame ∷ []; read = looks ++ v.read }
  pub within : frame < v.about.frames
  pub free : (found : ℕ) × (0 < times found (reads_of (frame_at v.about (frame / 64)) looks)) × (bit_at found (frame % 64) ≡ 0)
  pub pages : (page : ℕ) → page < pages_of v.about → reads_of (page_at page) looks ≡ []

-- of the first frame words, gone round from a start, each was read once and had no clear bit, and of the others none was read. Nothing else
-- changed
pub record FindsNoFrameUpTo (start steps : ℕ) (v w : View) : Type 0 where
  pub looks : List (ℕ × ℕ)
  pub view : w ≡ record v { read = looks ++ v.read }
  pub each : (word : ℕ) → word < frame_words v.about → steps_behind (frame_words v.about) start word < steps → reads_of (frame_at v.about word) looks ≡ all_bits ∷ []
  pub unread : (word : ℕ) → word < frame_words v.about → steps ≤ steps_behind (frame_words v.about) start word → reads_of (frame_at v.about word) looks ≡ []
  pub pages : (page : ℕ) → page < pages_of v.about → reads_of (page_at page) looks ≡ []

-- no frame is free: each frame word was read once, and no word of a page
pub record FindsNoFrame (v w : View) : Type 0 where
  pub looks : List (ℕ × ℕ)
  pub view : w ≡ record v { read = looks ++ v.read }
  pub each : (word : ℕ) → word < frame_words v.about → reads_of (frame_at v.about word) looks ≡ all_bits ∷ []
  pub pages : (page : ℕ) → page < pages_of v.about → reads_of (page_at page) looks ≡ []
