-- A pool of frames is a flag for each frame, by its number: true where the frame is free.
use Rattle.std.specs.Prelude.{ℕ, Bool, false, List, slice_index_or, count_by}

-- is this frame free? No number past the last frame is
abbrev pub is_free : List Bool → ℕ → Bool
is_free pool number = slice_index_or pool number false

-- how many frames are free
abbrev pub free_count : List Bool → ℕ
free_count pool = count_by (λ free. free) pool
