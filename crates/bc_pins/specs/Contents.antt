-- What a page's content keeps in a turn, and what it refers to. The space is the one at the opening.
use Rattle.std.specs.Prelude.{◌≡◌, ℕ, ◌+◌, ◌*◌, ◌<◌, ◌≤◌, ◌⊎◌, Bool, List, length, slice_index, if◌then◌else◌, Some, None}
use Rattle.bc_bookmarks.specs.Targets.{names_cell, some_on}
use Rattle.bc_word.specs.declared.words.Word.{Word}
use Rattle.bc_word.specs.declared.words.Word.TheVariants.{Nil, Num, Ref}
use Rattle.bc_word.specs.Words.{word_of_bits}
use Rattle.bc_word.specs.WordBits.{IsPacked}
use Rattle.bc_word.specs.Addresses.{page_of, offset_of}
use Rattle.bc_superpages.specs.Layout.{Layout, superpages, is_cell}
use Rattle.bc_superpages.specs.LayoutAt.{word_at, IsAllocated}
use Rattle.bc_superpages.specs.Calls.{fields_at}
use Rattle.bc_superpages.specs.Memory.{Memory, cell_on}

-- field i of the allocated cell at an address, where the page's content is c
abbrev pub field_bits : List ℕ → ℕ → ℕ → ℕ
field_bits c cell index = slice_index c (offset_of cell + 1 + index)

-- an allocated cell of the page, and one of its fields
pub record IsFieldOn (s : Layout) (page cell index : ℕ) : Type 0 where
  pub allocated : IsAllocated s cell
  pub on : page_of cell ≡ page
  pub within : index < fields_at s cell

-- a reference names an allocated cell or a nursery address
abbrev pub NamesFixed : Layout → Word → Type 0
NamesFixed s Nil = Unit {0}
NamesFixed s (Num v) = Unit {0}
NamesFixed s (Ref a) = IsAllocated s a.0 ⊎ (2048 * superpages s ≤ a.0)

-- a reference to a nursery
abbrev pub IsYoung : Layout → Word → Type 0
IsYoung s Nil = ⊥
IsYoung s (Num v) = ⊥
IsYoung s (Ref a) = 2048 * superpages s ≤ a.0

-- Fixed: the first word of each allocated cell is the opening's, and its fields are packed words that name allocated cells
-- or nursery addresses
pub record IsContent (s : Layout) (page : ℕ) (c : List ℕ) : Type 0 where
  pub long : length c ≡ 512
  pub heads : (a : ℕ) → IsAllocated s a → page_of a ≡ page → slice_index c (offset_of a) ≡ word_at s.pages a
  pub packed : (a i : ℕ) → IsFieldOn s page a i → IsPacked (field_bits c a i)
  pub names : (a i : ℕ) → IsFieldOn s page a i → NamesFixed s (word_of_bits (field_bits c a i))

-- a field on the page refers to a nursery
pub record RefersYoung (s : Layout) (page : ℕ) (c : List ℕ) : Type 0 where
  pub cell : ℕ
  pub index : ℕ
  pub is : IsFieldOn s page cell index
  pub young : IsYoung s (word_of_bits (field_bits c cell index))

-- the objects of a page whose content is c
abbrev pub objects_in : Layout → List ℕ → Memory
objects_in s c address = if is_cell s.classes s.cells address then Some (cell_on c (offset_of address)) else None

-- is cell b of superpage q a target of the page, where its content is c?
abbrev pub has_target_with : Layout → ℕ → List ℕ → ℕ → ℕ → Bool
has_target_with s page c q b = some_on (names_cell s.classes q b) (objects_in s c) page

-- no allocated cell lies on the page
abbrev pub IsBarePage : Layout → ℕ → Type 0
IsBarePage s page = (a : ℕ) → IsAllocated s a → page_of a ≡ page → ⊥
