-- In the theorem.
-- The bytes of an image, and what it may list.
use Rattle.std.specs.Prelude.{◌≡◌, ℕ, ◌+◌, ◌*◌, ◌/◌, ◌%◌, ◌^◌, ◌<◌, ◌≤◌, ◌==◌, List, [], ◌∷◌, ◌++◌, length, map, filter, slice_index, Some}
use Rattle.std.specs.Int.{bytes_high_first}
use Rattle.std.specs.List.{AllByRecursion, flat_map}
use Rattle.bc_classes.specs.Classes.{class_of}
use Rattle.bc_word.specs.HeadBits.{head_bits, FitsHead}
use Rattle.bc_word.specs.Words.{word_of_bits}
use Rattle.bc_word.specs.declared.words.Word.{Word}
use Rattle.bc_word.specs.declared.words.Word.TheVariants.{Nil, Num, Ref}
use Rattle.bc_model.specs.State.{numbers_below}
use Rattle.bc_model.specs.WellFormed.{IsWithin, IsSetup}
use Rattle.bc_model.specs.declared.values.Holder.{Holder}
use Rattle.bc_model.specs.declared.values.Holder.TheVariants.{Lane, Frozen}
use Rattle.bc_standing.specs.Standing.{birth_of}
use Rattle.bc_image.specs.Cells.{CellList}
use Rattle.bc_image.specs.Items.{magic}
use Rattle.bc_image.specs.Listings.{ListingLists}
use Rattle.bc_image.specs.Memories.{cell_at, number_at}

-- ---- the items of a listing

-- the number of a holder: a lane's own, and for Frozen the number of lanes
abbrev pub holder_number : ℕ → Holder → ℕ
holder_number lanes (Lane j) = j
holder_number lanes Frozen = lanes

-- the items of an object: its address, its head, and its fields
abbrev pub cell_items : CellList → List ℕ
cell_items c = c.address ∷ head_bits c.head ∷ c.fields

-- the items of a superpage with these objects: 0 if there are none, or else its pair, their number, and each of them
abbrev pub group_items : List CellList → List ℕ
group_items [] = 0 ∷ []
group_items (c ∷ cs) =
    (class_of c.head.fields + 256 * c.head.domain) ∷ length (c ∷ cs) ∷ flat_map cell_items (c ∷ cs)

-- the items of superpage q
abbrev pub superpage_items : List CellList → ℕ → List ℕ
superpage_items cells q = group_items (filter (λ c. c.address / 2048 == q) cells)

-- the items of an image in order: the header, the holders, the births, the root slots, and each superpage
abbrev pub image_items : ListingLists → List ℕ
image_items l =
    magic ∷ l.version ∷ l.setup.lanes ∷ l.setup.domains ∷ l.setup.slots ∷ l.setup.superpages ∷ l.setup.nursery ∷ l.setup.buffer ∷ l.setup.frames ∷ l.phases
    ∷ (map (holder_number l.setup.lanes) l.holders ++ l.births ++ l.roots ++ flat_map (superpage_items l.cells) (numbers_below l.setup.superpages))

-- the bytes of an image: eight for each item, the highest first
unfoldable pub image_bytes : ListingLists → List ℕ
image_bytes l = flat_map (bytes_high_first 8) (image_items l)

-- ---- what may be listed

-- a holder that an image may list is one of the lanes, or from version 2 on Frozen
abbrev pub IsImageHolder : ℕ → ℕ → Holder → Type 0
IsImageHolder version lanes (Lane j) = j < lanes
IsImageHolder version lanes Frozen = 2 ≤ version

-- a word names no address, or that of a listed object
abbrev pub IsLinked : List CellList → Word → Type 0
IsLinked cells Nil = Unit {0}
IsLinked cells (Num n) = Unit {0}
IsLinked cells (Ref a) = (k : ℕ) × (number_at cells a.0 ≡ Some k)

-- the numbers are words of 64 bits, each of which names no address, or that of a listed object
abbrev pub AreLinked : List CellList → List ℕ → Type 0
AreLinked cells bits = AllByRecursion (λ n. (n < 2 ^ 64) × IsLinked cells (word_of_bits n)) bits

-- an object at the start of a cell of its class, with a birth of its lane's
pub record IsListed (l : ListingLists) (c : CellList) : Type 0 where
  pub superpage : c.address / 2048 < l.setup.superpages
  pub start : c.address % class_of c.head.fields ≡ 0
  pub head : FitsHead c.head
  pub lane : c.head.lane < l.setup.lanes
  pub positive : 0 < c.head.serial
  pub serial : c.head.serial ≤ slice_index l.births c.head.lane
  pub domain : c.head.domain < l.setup.domains
  pub count : length c.fields ≡ c.head.fields
  pub fields : AreLinked l.cells c.fields

-- what an image may list: a setup and numbers in their ranges, and objects as they may lie in a heap
pub record IsImageListing (l : ListingLists) : Type 0 where
  pub version : IsWithin 1 3 l.version
  pub setup : IsSetup l.setup
  pub phases : l.phases < 2 ^ 32
  pub domains : length l.holders ≡ l.setup.domains
  pub holders : AllByRecursion (IsImageHolder l.version l.setup.lanes) l.holders
  pub lanes : length l.births ≡ l.setup.lanes
  pub births : AllByRecursion (λ n. n ≤ 4000000000) l.births
  pub slots : length l.roots ≡ l.setup.domains * l.setup.slots
  pub roots : AreLinked l.cells l.roots
  pub cells : AllByRecursion (IsListed l) l.cells
  -- by ascending addresses; in a superpage lie objects of one domain and one class; and no two have one birth
  pub rising : (j k : ℕ) → j < k → k < length l.cells → (cell_at l.cells j).address < (cell_at l.cells k).address
  pub alike : (j k : ℕ) → j < length l.cells → k < length l.cells → (cell_at l.cells j).address / 2048 ≡ (cell_at l.cells k).address / 2048
      → ((cell_at l.cells j).head.domain ≡ (cell_at l.cells k).head.domain) × (class_of (cell_at l.cells j).head.fields ≡ class_of (cell_at l.cells k).head.fields)
  pub apart : (j k : ℕ) → j < length l.cells → k < length l.cells → birth_of (cell_at l.cells j).head ≡ birth_of (cell_at l.cells k).head → j ≡ k

-- the bytes begin with the image of the listing, and these follow it
pub record ImageOf (bytes : List ℕ) (l : ListingLists) (rest : List ℕ) : Type 0 where
  pub listing : IsImageListing l
  pub spelled : bytes ≡ image_bytes l ++ rest
