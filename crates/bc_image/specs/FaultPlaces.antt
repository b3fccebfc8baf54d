-- Where a fault lies.
use Rattle.std.specs.Prelude.{◌≡◌, ℕ, ◌+◌, ◌*◌, ◌<◌, ◌≤◌, List, ◌∷◌, ◌++◌, length, Ok}
use Rattle.std.specs.List.{AllByRecursion}
use Rattle.bc_word.specs.Words.{word_of_bits}
use Rattle.bc_image.specs.Bytes.{item_at}
use Rattle.bc_image.specs.Drafts.{ImageDraft}
use Rattle.bc_image.specs.Images.{IsLinked}
use Rattle.bc_image.specs.Items.{first_progress}
use Rattle.bc_image.specs.Numbered.{words_from}
use Rattle.bc_image.specs.Reading.{items_of_all}
use Rattle.bc_image.specs.declared.fault.ImageCause.TheVariants.{Short}
use Rattle.bc_image.specs.declared.fault.ImageFault.{ImageFault}

-- the fault lies at the start of an item. The item is there whole, unless the cause is that it isn't
pub record LiesAtItem (bytes : List ℕ) (f : ImageFault) : Type 0 where
  pub number : ℕ
  pub at : f.at ≡ 8 * number
  pub within : f.at ≤ length bytes
  pub short : f.cause ≡ Short → length bytes < f.at + 8
  pub whole : ¬ (f.cause ≡ Short) → f.at + 8 ≤ length bytes

-- all items passed, and the fault lies at the first of the words among them that refers to an address at which no object of the image lies
pub record LeadsNowhere (bytes : List ℕ) (f : ImageFault) : Type 0 where
  pub draft : ImageDraft
  pub count : ℕ
  pub passed : items_of_all bytes ≡ Ok (draft, count)
  pub number : ℕ
  pub at : f.at ≡ 8 * number
  pub front : List (ℕ × ℕ)
  pub behind : List (ℕ × ℕ)
  pub words : words_from bytes first_progress 0 count ≡ front ++ (number, item_at bytes number) ∷ behind
  pub lost : ¬ IsLinked draft.cells (word_of_bits (item_at bytes number))
  pub earlier : AllByRecursion (λ (w : ℕ × ℕ). IsLinked draft.cells (word_of_bits w.1)) front
