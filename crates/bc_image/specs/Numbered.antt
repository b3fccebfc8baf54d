-- Words by the numbers of their items, and the first of them that leads nowhere.
use Rattle.std.specs.Prelude.{◌≡◌, ℕ, ◌+◌, ◌≤◌, if◌then◌else◌, List, [], ◌∷◌, ◌++◌, length, slice_index, Option, Some, None}
use Prim.Native.Nat.{zero, suc}
use Rattle.bc_word.specs.Words.{word_of_bits}
use Rattle.bc_image.specs.Bytes.{item_at}
use Rattle.bc_image.specs.Cells.{CellList}
use Rattle.bc_image.specs.Drafts.{ImageDraft}
use Rattle.bc_image.specs.Faults.{leads_nowhere}
use Rattle.bc_image.specs.Items.{advanced, first_progress}
use Rattle.bc_image.specs.Memories.{cell_at}
use Rattle.bc_image.specs.declared.draft.Draft.{Draft}
use Rattle.bc_image.specs.declared.progress.Progress.{Progress}
use Rattle.bc_image.specs.declared.progress.Stage.{Stage}
use Rattle.bc_image.specs.declared.progress.Stage.TheVariants as stages

-- the words with the numbers of their items, of which the first is this
abbrev pub numbered : ℕ → List ℕ → List (ℕ × ℕ)
numbered number [] = []
numbered number (w ∷ ws) = (number, w) ∷ numbered (number + 1) ws

-- the word that an item is, with its number
abbrev pub word_at : Stage → ℕ → ℕ → List (ℕ × ℕ)
word_at stages.Root number n = (number, n) ∷ []
word_at stages.Field number n = (number, n) ∷ []
word_at _ number n = []

-- the words among the next so many items, from this number on and with this progress
unfoldable pub words_from : List ℕ → Progress → ℕ → ℕ → List (ℕ × ℕ)
words_from bytes p number zero = []
words_from bytes p number (suc left) =
    word_at p.stage number (item_at bytes number) ++ words_from bytes (advanced p (item_at bytes number)) (number + 1) left

-- the words of the first so many objects, whose heads have these numbers
abbrev pub words_below : List ℕ → List CellList → ℕ → List (ℕ × ℕ)
words_below heads cells zero = []
words_below heads cells (suc k) = words_below heads cells k ++ numbered (slice_index heads k + 1) (cell_at cells k).fields

-- the words of a draft: its root words, which stand after ten numbers, the holders and the births, those of its objects, and those of the
-- object that was begun
abbrev pub draft_words : List ℕ → ImageDraft → List (ℕ × ℕ)
draft_words heads d =
    numbered (10 + length d.holders + length d.births) d.roots
    ++ (words_below heads d.cells (length d.cells) ++ numbered (slice_index heads (length d.cells) + 1) d.fields)

-- the number of the first word that refers to no object
abbrev pub first_lost : List CellList → List (ℕ × ℕ) → Option ℕ
first_lost cells [] = None
first_lost cells (w ∷ ws) = if leads_nowhere cells (word_of_bits w.1) then Some w.0 else first_lost cells ws

-- the words among the first so many items are the root words of the draft of the code and the fields of its objects
pub record HasWords (bytes : List ℕ) (x : Draft) (count : ℕ) : Type 0 where
  pub few : 10 + length x.holders.items + length x.births.items ≤ count
  pub heads : length x.cells.items ≤ length x.heads.items
  pub words : numbered (10 + length x.holders.items + length x.births.items) x.roots.items ++ words_below x.heads.items x.cells.items (length x.cells.items)
      ≡ words_from bytes first_progress 0 count
