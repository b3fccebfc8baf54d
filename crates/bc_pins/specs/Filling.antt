-- The words of a table at its opening.
use Rattle.std.specs.Prelude.{◌≡◌, ℕ, ◌+◌, ◌*◌, ◌/◌, ◌%◌, ◌<◌, Bool, false, not, List, length, slice_index, slice_index_or}
use Rattle.bc_superpages.specs.declared.headers.Header.{Header}
use Rattle.bc_superpages.specs.Headers.{unused_header}
use Rattle.bc_superpages.specs.Parts.{state_in}
use Rattle.bc_pins.specs.declared.key.Turn.{Turn}
use Rattle.bc_pins.specs.Key.{Key, is_lanes, pages_of, page_at, counter_at, bookmark_at, frame_at, frame_words, notice_at, mark_at, finished_at, queue_at, all_words}
use Rattle.std.specs.Int.{bit_at}
use Rattle.bc_bits.specs.Counting.{one_if}
use Rattle.bc_frames.specs.Pool.{is_free}
use Rattle.bc_pins.specs.Views.{state_word}
use Rattle.bc_pins.specs.declared.filling.CellSet.{CellSet}
use Rattle.bc_pins.specs.declared.filling.CellSet.TheVariants.{Bookmarks, Marks, Finished}

-- the bit of a frame: set where it isn't free
abbrev pub in_use : List Bool → ℕ → ℕ
in_use pool frame = one_if (not (is_free pool frame))

-- a word of 64 frames
abbrev pub IsFrameWord : List Bool → ℕ → ℕ → Type 0
IsFrameWord pool i word = (b : ℕ) → b < 64 → bit_at word b ≡ in_use pool (64 * i + b)

-- a number of words were added, of which this is said by their number
pub record Adds (Said : ℕ → ℕ → Type 0) (old new : List ℕ) (count : ℕ) : Type 0 where
  pub long : length new ≡ length old + count
  pub kept : (i : ℕ) → i < length old → slice_index new i ≡ slice_index old i
  pub added : (i : ℕ) → i < count → Said i (slice_index new (length old + i))

-- a number of words of frames were added
abbrev pub AddsFrames : List Bool → List ℕ → List ℕ → ℕ → Type 0
AddsFrames pool = Adds (IsFrameWord pool)

-- a number of words were added, word i of them f i
pub record Extends (old new : List ℕ) (count : ℕ) (f : ℕ → ℕ) : Type 0 where
  pub long : length new ≡ length old + count
  pub kept : (i : ℕ) → i < length old → slice_index new i ≡ slice_index old i
  pub added : (i : ℕ) → i < count → slice_index new (length old + i) ≡ f i

-- the words of the pages of so many superpages were added
pub record AddsStates (headers : List Header) (old new : List ℕ) (superpages : ℕ) : Type 0 where
  pub long : length new ≡ length old + 16 * superpages
  pub kept : (i : ℕ) → i < length old → slice_index new i ≡ slice_index old i
  pub states : (p : ℕ) → p < 4 * superpages → slice_index new (length old + page_at p) ≡ state_word (state_in headers p)

-- a set of a header
abbrev pub set_in : CellSet → Header → List ℕ
set_in Bookmarks h = h.bookmarks
set_in Marks h = h.marks
set_in Finished h = h.finished

-- a key of this size, pool and turn
pub record IsSized (k : Key) (superpages : ℕ) (flags : List Bool) (turn : Turn) : Type 0 where
  pub supers : k.supers ≡ superpages
  pub all : k.frames ≡ length flags
  pub lanes : k.lanes ≡ is_lanes turn
  pub pool : k.pool ≡ flags

-- the header of a superpage, or that of an unused one after the last
abbrev pub header_in : List Header → ℕ → Header
header_in headers superpage = slice_index_or headers superpage unused_header

-- word w of a set of all superpages
abbrev pub set_word : CellSet → List Header → ℕ → ℕ
set_word set headers w = slice_index (set_in set (header_in headers (w / 16))) (w % 16)

-- the superpage with this header has a gray cell: one that is allocated, marked and not finished
pub record HasGrayBit (h : Header) : Type 0 where
  pub word : ℕ
  pub bit : ℕ
  pub near : word < 16
  pub few : bit < 64
  pub allocated : bit_at (slice_index h.cells word) bit ≡ 1
  pub marked : bit_at (slice_index h.marks word) bit ≡ 1
  pub unfinished : bit_at (slice_index h.finished word) bit ≡ 0

-- a queue word of the superpage with this header: where it has a gray cell, the bits of its four pages are set
abbrev pub QueuesGray : Header → ℕ → Type 0
QueuesGray h queue = HasGrayBit h → (i : ℕ) → i < 4 → bit_at queue i ≡ 1

-- a number of queue words were added
abbrev pub AddsQueues : List Header → List ℕ → List ℕ → ℕ → Type 0
AddsQueues headers = Adds (λ q queue. QueuesGray (header_in headers q) queue)

-- the words of a mark turn were added
pub record HasMarkWords (headers : List Header) (superpages : ℕ) (old new : List ℕ) : Type 0 where
  pub long : length new ≡ length old + 33 * superpages
  pub kept : (i : ℕ) → i < length old → slice_index new i ≡ slice_index old i
  pub marks : (w : ℕ) → w < 16 * superpages → slice_index new (length old + w) ≡ set_word Marks headers w
  pub finished : (w : ℕ) → w < 16 * superpages → slice_index new (length old + (16 * superpages + w)) ≡ set_word Finished headers w
  pub queues : (q : ℕ) → q < superpages → QueuesGray (header_in headers q) (slice_index new (length old + (32 * superpages + q)))

-- the words say what the headers do
pub record IsFilled (k : Key) (headers : List Header) (words : List ℕ) : Type 0 where
  pub long : length words ≡ all_words k
  pub states : (p : ℕ) → p < pages_of k → slice_index words (page_at p) ≡ state_word (state_in headers p)
  pub counters : (q : ℕ) → q < k.supers → slice_index words (counter_at k q) ≡ (header_in headers q).incoming
  pub bookmarks : (w : ℕ) → w < 16 * k.supers → slice_index words (bookmark_at k w) ≡ set_word Bookmarks headers w
  pub frames : (f : ℕ) → f < 64 * frame_words k → bit_at (slice_index words (frame_at k (f / 64))) (f % 64) ≡ in_use k.pool f
  pub notice : slice_index words (notice_at k) ≡ 0
  pub marks : (w : ℕ) → k.lanes ≡ false → w < 16 * k.supers → slice_index words (mark_at k w) ≡ set_word Marks headers w
  pub finished : (w : ℕ) → k.lanes ≡ false → w < 16 * k.supers → slice_index words (finished_at k w) ≡ set_word Finished headers w
  pub queues : (q : ℕ) → k.lanes ≡ false → q < k.supers → QueuesGray (header_in headers q) (slice_index words (queue_at k q))
