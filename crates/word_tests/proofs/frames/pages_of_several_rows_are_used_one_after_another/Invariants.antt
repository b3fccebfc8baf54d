use Rattle.std.proofs.Common.{◌≡◌, ℕ, ◌<◌, length, IsSome}
use Rattle.bc_frames.specs.Places.{place_at}
use Rattle.word_tests.proofs.frames.pages_of_several_rows_are_used_one_after_another.Given as goal

-- each place is full
abbrev pub invariant-loop-page : goal.invariant-loop-page
invariant-loop-page g l = (length l.store.places ≡ 130) × ((p : ℕ) → p < 130 → IsSome (place_at l.store p))
