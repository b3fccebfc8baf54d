use Rattle.std.proofs.Common.{◌≡◌, ℕ, ◌<◌, length, slice_index, slice_index_or}
use Rattle.bc_superpages.specs.declared.headers.PageState.TheVariants.{Absent}
use Rattle.bc_pins.specs.Views.{state_word}
use Rattle.bc_pins.proofs.filling.page_words.Given as goal

abbrev pub invariant-loop-place : goal.invariant-loop-place
invariant-loop-place l = record { long : length l.words ≡ 16; pages : (i : ℕ) → i < l.place → slice_index l.words i ≡ state_word (slice_index_or l.header.pages i Absent) }
