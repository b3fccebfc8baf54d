-- A space that gets the objects of a list: first a promise for each of them, then the objects one after another, page by page.
use Rattle.std.specs.Prelude.{◌≡◌, ◌≢◌, ◌⊎◌, ℕ, ◌+◌, ◌*◌, ◌/◌, ◌%◌, ◌<◌, ◌≤◌, ◌==◌, true, false, if◌then◌else◌, List, length, take, drop, Some, slice_index, slice_index_or}
use Rattle.std.specs.Option.{is_some}
use Rattle.bc_bookmarks.specs.Moves.{PageLeaves}
use Rattle.bc_bookmarks.specs.Summarised.{IsSummarised}
use Rattle.bc_classes.specs.Classes.{class_of}
use Rattle.bc_image.specs.Cells.{CellList}
use Rattle.bc_image.specs.Images.{AreLinked}
use Rattle.bc_image.specs.Listings.{ListingLists}
use Rattle.bc_image.specs.Memories.{cell_at, cell_of, memory_of}
use Rattle.bc_memory.specs.MemoryChanges.{with_cell}
use Rattle.bc_superpages.specs.Calls.{new_space, IsClosed, NamesCell}
use Rattle.bc_superpages.specs.declared.headers.PageState.TheVariants.{Absent, Home, Remembered}
use Rattle.bc_superpages.specs.Headers.{unused_header}
use Rattle.bc_superpages.specs.Layout.{Layout, superpages, is_cell}
use Rattle.bc_superpages.specs.LayoutAt.{header_of, state_at}
use Rattle.bc_superpages.specs.Memory.{memory}
use Rattle.bc_word.specs.Addresses.{page_of}
use Rattle.bc_word.specs.HeadBits.{FitsHead}
use Rattle.bc_word.specs.WordBits.{IsPacked}
use Rattle.bc_word.specs.Words.{word_of_bits}

-- an object at the start of a cell of its class, in one of so many superpages, whose references name objects of the list
pub record IsPlaceable (cells : List CellList) (count : ℕ) (c : CellList) : Type 0 where
  pub superpage : c.address / 2048 < count
  pub start : c.address % class_of c.head.fields ≡ 0
  pub head : FitsHead c.head
  pub fields_long : length c.fields ≡ c.head.fields
  pub fields : AreLinked cells c.fields

-- all of them are so, by ascending addresses, and those of one superpage are of one domain and one class
pub record ArePlaceable (count : ℕ) (cells : List CellList) : Type 0 where
  pub few : count ≤ 4096
  pub each : (k : ℕ) → k < length cells → IsPlaceable cells count (cell_at cells k)
  pub rising : (j k : ℕ) → j < k → k < length cells → (cell_at cells j).address < (cell_at cells k).address
  pub alike : (j k : ℕ) → j < length cells → k < length cells → (cell_at cells j).address / 2048 ≡ (cell_at cells k).address / 2048
      → ((cell_at cells j).head.domain ≡ (cell_at cells k).head.domain) × (class_of (cell_at cells j).head.fields ≡ class_of (cell_at cells k).head.fields)

-- the superpage of the object is of the object's domain and class
pub record HasPairOf (s : Layout) (c : CellList) : Type 0 where
  pub used : slice_index_or s.used (c.address / 2048) false ≡ true
  pub of_domain : slice_index s.domains (c.address / 2048) ≡ c.head.domain
  pub of_class : slice_index s.classes (c.address / 2048) ≡ class_of c.head.fields

-- a new space in which the cells of the first objects, so many, are promised and nothing else is changed
pub record PromisesFirst (s : Layout) (cells : List CellList) (count : ℕ) (t : Layout) : Type 0 where
  pub same : t ≡ record s { used = t.used; domains = t.domains; classes = t.classes; promised = t.promised }
  pub long : superpages t ≡ superpages s
  pub promised : (x : ℕ) → is_cell t.classes t.promised x ≡ is_some (memory_of (take count cells) x)
  pub pair : (k : ℕ) → k < count → k < length cells → HasPairOf t (cell_at cells k)
  pub used : (q : ℕ) → slice_index_or t.used q false ≡ true → (k : ℕ) × (k < count) × (k < length cells) × ((cell_at cells k).address / 2048 ≡ q)
  pub unused : (q : ℕ) → q < superpages s → ((k : ℕ) → k < count → k < length cells → (cell_at cells k).address / 2048 ≢ q) → header_of t q ≡ unused_header

-- the first objects lie in their cells and the others are promised. A page has come home for those that lie on it, the last such page is
-- Home, and none after it was touched
pub record IsPlacing (cells : List CellList) (count : ℕ) (s : Layout) : Type 0 where
  pub memory : memory s ≡ memory_of (take count cells)
  pub promised : (x : ℕ) → is_cell s.classes s.promised x ≡ is_some (memory_of (drop count cells) x)
  pub pair : (k : ℕ) → k < length cells → HasPairOf s (cell_at cells k)
  pub calm : (p : ℕ) → state_at s.states p ≢ Remembered
  pub summarised : IsSummarised s
  pub frames : s.nursery + 1 ≤ s.frames
  pub ahead : (p : ℕ) → ((k : ℕ) → k < count → page_of (cell_at cells k).address < p) → state_at s.states p ≡ Absent
  pub last : (k : ℕ) → k + 1 ≡ count → state_at s.states (page_of (cell_at cells k).address) ≡ Home
  pub closed : IsClosed s

-- a page came home in a frame that was free, or that another page was given up for
pub record BringsPage (s t : Layout) (page : ℕ) : Type 0 where
  pub same : t ≡ record s { bookmarks = t.bookmarks; incoming = t.incoming; states = t.states; pages = t.pages; free = t.free }
  pub same_memory : memory t ≡ memory s
  pub here : state_at t.states page ≡ Home
  pub others : (p : ℕ) → p ≢ page → (state_at t.states p ≡ state_at s.states p) ⊎ PageLeaves s t p
  pub summarised : IsSummarised t
  pub closed : IsClosed s → IsClosed t

-- an object was placed in its promised cell, on a page that may have come home for it
pub record PlacesCell (s t : Layout) (c : CellList) : Type 0 where
  pub same : t ≡ record s {
    cells = t.cells;
    promised = t.promised;
    bookmarks = t.bookmarks;
    incoming = t.incoming;
    states = t.states;
    pages = t.pages;
    free = t.free;
  }
  pub now_memory : memory t ≡ with_cell (memory s) c.address (Some (cell_of c))
  pub promised : (x : ℕ) → is_cell t.classes t.promised x ≡ (if x == c.address then false else is_cell s.classes s.promised x)
  pub here : state_at t.states (page_of c.address) ≡ Home
  pub others : (p : ℕ) → p ≢ page_of c.address → (state_at t.states p ≡ state_at s.states p) ⊎ PageLeaves s t p
  pub summarised : IsSummarised t
  pub closed : IsClosed s → IsClosed t

-- each word is packed, and refers to an allocated or promised cell if it refers to one
abbrev pub MayBeFields : Layout → List ℕ → Type 0
MayBeFields s bits = (k : ℕ) → k < length bits → IsPacked (slice_index bits k) × NamesCell s (word_of_bits (slice_index bits k))

-- the object can be placed: its cell is promised to its domain and class, and its fields are words that may lie there
pub record CanBePlaced (s : Layout) (c : CellList) : Type 0 where
  pub promised : is_cell s.classes s.promised c.address ≡ true
  pub pair : HasPairOf s c
  pub head : FitsHead c.head
  pub fields_long : length c.fields ≡ c.head.fields
  pub fields : MayBeFields s c.fields

-- what is built of a listing, in the parts of a new space: its objects, and beside them only what pages need
pub record IsBuiltIn (l : ListingLists) (s : Layout) : Type 0 where
  pub same : s ≡ record (new_space l.setup.superpages l.setup.frames (l.setup.lanes * l.setup.nursery)) {
    used = s.used;
    domains = s.domains;
    classes = s.classes;
    cells = s.cells;
    promised = s.promised;
    bookmarks = s.bookmarks;
    incoming = s.incoming;
    states = s.states;
    pages = s.pages;
    free = s.free;
  }
  pub long : superpages s ≡ l.setup.superpages
  pub memory : memory s ≡ memory_of l.cells
  pub promised : (x : ℕ) → is_cell s.classes s.promised x ≡ false
  pub calm : (p : ℕ) → state_at s.states p ≢ Remembered
  pub summarised : IsSummarised s
  pub closed : IsClosed s
  pub pairs : (k : ℕ) → k < length l.cells → HasPairOf s (cell_at l.cells k)
  pub used : (q : ℕ) → slice_index_or s.used q false ≡ true → (k : ℕ) × (k < length l.cells) × ((cell_at l.cells k).address / 2048 ≡ q)
