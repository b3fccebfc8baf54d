-- What a table needs when it is opened, and what it leaves when it is closed.
use Rattle.std.specs.Prelude.{◌≡◌, ◌≢◌, ℕ, ◌+◌, ◌*◌, ◌^◌, ◌<◌, ◌≤◌, ◌==◌, if◌then◌else◌, true, false, nat_lt, List, [], ◌∷◌, length, vec_capacity, map, slice_index, slice_index_or, Bool, None}
use mathlib.Core.Option.{some}
use lib.ListN.{get_elem?}
use Rattle.atomic_table.specs.Table.{opening}
use Rattle.bc_superpages.specs.declared.headers.PageState.TheVariants as state
use Rattle.bc_superpages.specs.declared.parts.SpaceParts.{SpaceParts}
use Rattle.bc_superpages.specs.Layout.{Layout, content_at, is_cell}
use Rattle.bc_superpages.specs.LayoutAt.{state_at, IsAllocated}
use Rattle.bc_superpages.specs.Collecting.{is_marked, is_finished}
use Rattle.bc_superpages.specs.Calls.{IsClosed}
use Rattle.bc_superpages.specs.Parts.{state_in, AreParts}
use Rattle.bc_bits.specs.Counting.{one_if}
use Rattle.bc_bookmarks.specs.Summarised.{IsSummarised}
use Rattle.bc_model.specs.declared.values.Holder.{Holder}
use Rattle.bc_pins.specs.Lodging.{Replaced, home_of, away_of}
use Rattle.bc_pins.specs.declared.key.Turn.{Turn}
use Rattle.bc_pins.specs.declared.key.Role.{Role}
use Rattle.bc_pins.specs.declared.views.Lodged.{Lodged}
use Rattle.bc_pins.specs.declared.views.Lodged.TheVariants.{Nothing}
use Rattle.bc_pins.specs.declared.views.View.{View}
use Rattle.bc_pins.specs.Key.{Key, pages_of, page_at, counter_at, notice_at, all_words, is_lanes, owner_role, role_number, home_slot, frame_slot, store_slot}
use Rattle.bc_pins.specs.Totals.{times, sum_to}
use Rattle.bc_pins.specs.Contents.{IsContent, RefersYoung, IsBarePage}
use Rattle.bc_pins.specs.Views.{marked_for, opened_content, opened_word, record_of}
use Rattle.bc_pins.specs.Facts.{Table, Lies, Summary, Frames, Counters, Bits, points, Standing, IsUnheld, MarksTargets}
use Rattle.bc_pins.specs.Tracing.{RefersToCell, Tracing, Knows}
use Rattle.bc_pins.specs.Owing.{Owing}
use Rattle.bc_pins.specs.Steps.{fresh}

-- the table as it is opened
abbrev pub opened : Key → List ℕ → List Lodged → Table
opened k words slots = opening words slots (fresh k k.roles)

-- a page: its word is its state and its box lies so; its content keeps what is fixed, refers to no nursery but where the page is
-- Remembered, and where it is Absent it has no allocated cell
pub record OpensPage (k : Key) (words : List ℕ) (slots : List Lodged) (p : ℕ) : Type 0 where
  pub word : slice_index words (page_at p) ≡ opened_word k p
  pub not_held : opened_word k p ≢ 3
  pub lies : Lies (opened_word k p) (get_elem? (map some slots) (frame_slot k p)) (get_elem? (map some slots) (store_slot k p)) (opened_content k p)
  pub fixed : IsContent k.opening p (opened_content k p)
  pub young : RefersYoung k.opening p (opened_content k p) → opened_word k p ≡ 2
  pub bare : opened_word k p ≡ 0 → IsBarePage k.opening p
  pub gone : opened_word k p ≡ 4 → Summary k words p (opened_content k p)

-- a space over which a mark turn may begin: marked cells are allocated, and what a finished one refers to is marked
pub record IsMarkable (s : Layout) : Type 0 where
  pub cells : (a : ℕ) → is_marked s a ≡ true → IsAllocated s a
  pub closed : (a b : ℕ) → is_finished s a ≡ true → RefersToCell s a b → is_marked s b ≡ true

-- words and slots with which a table may be opened
pub record MayOpen (k : Key) (words : List ℕ) (slots : List Lodged) : Type 0 where
  pub words_long : length words ≡ all_words k
  pub slots_long : length slots ≡ pages_of k + pages_of k
  pub few : pages_of k < 2 ^ 32
  pub pages : (p : ℕ) → p < pages_of k → OpensPage k words slots p
  pub apart : (r : ℕ) → times r k.roles ≤ 1
  pub nobody : times 0 k.roles ≡ 0
  pub unheld : IsUnheld k
  pub frames : (f : ℕ) → Frames k (opened k words slots) f
  pub counters : (q : ℕ) → q < k.supers → Counters k (opened k words slots) (opened_content k) q
  pub bits : (w b : ℕ) → w < 16 * k.supers → b < 64 → Bits k (opened k words slots) w b
  pub notice : slice_index words (notice_at k) ≡ 0
  pub tracing : k.lanes ≡ false → Tracing k (opened k words slots)
  pub owing : k.lanes ≡ false → Owing k (opened k words slots)

-- a page of a table that is closed, where v is the view that all others were joined into: its box lies as its word says, with the
-- record as its content
pub record ClosesPage (k : Key) (v : View) (words : List ℕ) (slots : List Lodged) (p : ℕ) : Type 0 where
  pub not_held : slice_index words (page_at p) ≢ 3
  pub lies : Lies (slice_index words (page_at p)) (get_elem? (map some slots) (frame_slot k p)) (get_elem? (map some slots) (store_slot k p)) (record_of v p)
  pub fixed : IsContent k.opening p (record_of v p)
  pub young : RefersYoung k.opening p (record_of v p) → slice_index words (page_at p) ≡ 2
  pub bare : slice_index words (page_at p) ≡ 0 → IsBarePage k.opening p
  pub gone : slice_index words (page_at p) ≡ 4 → Summary k words p (record_of v p)
  pub standing : Standing k (record { words = words; homes = map some slots; views = v ∷ [] }) p

-- words and slots of a table that is closed
pub record HasClosed (k : Key) (v : View) (words : List ℕ) (slots : List Lodged) : Type 0 where
  pub words_long : length words ≡ all_words k
  pub slots_long : length slots ≡ pages_of k + pages_of k
  pub pages : (p : ℕ) → p < pages_of k → ClosesPage k v words slots p
  pub frames : (f : ℕ) → Frames k (record { words = words; homes = map some slots; views = v ∷ [] }) f
  pub counters : (q : ℕ) → q < k.supers → slice_index words (counter_at k q) ≡ sum_to (λ p. if slice_index words (page_at p) == 4 then points k p (record_of v p) q else 0) (pages_of k)
  pub bits : (w b : ℕ) → w < 16 * k.supers → b < 64 → Bits k (record { words = words; homes = map some slots; views = v ∷ [] }) w b
  pub tracing : k.lanes ≡ false → Tracing k (record { words = words; homes = map some slots; views = v ∷ [] })
  pub knows : k.lanes ≡ false → Knows k (record { words = words; homes = map some slots; views = v ∷ [] }) v
  pub marked : (p : ℕ) → 0 < marked_for p v.bookmarked → 0 < times p v.left
  pub targets : MarksTargets k (record { words = words; homes = map some slots; views = v ∷ [] }) (record_of v) v
  -- in a mark turn no page was taken from Gone
  pub unfetched : k.lanes ≡ false → (p : ℕ) → times p v.fetched ≡ 0
  pub gone : (p : ℕ) → 0 < times p v.gone → (p < pages_of k) × (slice_index words (page_at p) ≡ 4)
  -- each number below as many as were claimed was claimed once, and no other
  pub claims : length v.notices < 2 ^ 64 → (n : ℕ) → times n v.notices ≡ one_if (nat_lt n (length v.notices))

-- a space over which a table may be opened: it is summarised and closed, no cell is promised, and no page that is Home refers
-- to a nursery. A closed table gives back such a one
pub record IsOpenable (s : Layout) : Type 0 where
  pub summarised : IsSummarised s
  pub closed : IsClosed s
  pub promised : (a : ℕ) → is_cell s.classes s.promised a ≡ false
  pub home : (p : ℕ) → state_at s.states p ≡ state.Home → RefersYoung s p (content_at s.pages p) → ⊥

-- a space over which a table may be opened, as the rule uses it: a page that refers to a nursery is Remembered
pub record IsReady (s : Layout) : Type 0 where
  pub closed : IsClosed s
  pub promised : (a : ℕ) → is_cell s.classes s.promised a ≡ false
  pub young : (p : ℕ) → RefersYoung s p (content_at s.pages p) → state_at s.states p ≡ state.Remembered

-- the boxes of the first pages are out of their lists, and nothing else of the parts changed
pub record Emptied (whole parts : SpaceParts) (pages : ℕ) : Type 0 where
  pub headers : parts.headers.items ≡ whole.headers.items
  pub pool : parts.pool ≡ whole.pool
  pub nursery : parts.nursery.items ≡ whole.nursery.items
  pub room : vec_capacity parts.nursery ≡ vec_capacity whole.nursery
  pub reads : parts.store.reads ≡ whole.store.reads
  pub end : parts.end ≡ whole.end
  pub boxes : Replaced None whole.boxes.items parts.boxes.items pages (λ p. None)
  pub places : Replaced None whole.store.places parts.store.places pages (λ p. None)

-- what is left of a space's parts while its first pages are in a table: those of the superpages up to the end. The other pages are Absent
pub record IsRest (whole parts : SpaceParts) (pages : ℕ) : Type 0 where
  pub kept : AreParts whole
  pub within : pages ≤ 4 * length whole.headers.items
  pub near : pages < whole.end + 4
  pub behind : (p : ℕ) → pages ≤ p → state_in whole.headers.items p ≡ state.Absent
  pub emptied : Emptied whole parts pages

-- a slot for the frame and one for the store of each page, with the boxes that lay in the lists
pub record AreLodged (whole : SpaceParts) (pages : ℕ) (slots : List Lodged) : Type 0 where
  pub long : length slots ≡ pages + pages
  pub homes : (p : ℕ) → p < pages → slice_index_or slots (home_slot p) Nothing ≡ home_of (slice_index_or whole.boxes.items p None)
  pub aways : (p : ℕ) → p < pages → slice_index_or slots (home_slot p + 4) Nothing ≡ away_of (slice_index_or whole.store.places p None)

-- the parts are the same, as far as a space reads them
pub record SameParts (a b : SpaceParts) : Type 0 where
  pub headers : b.headers.items ≡ a.headers.items
  pub pool : b.pool ≡ a.pool
  pub nursery : b.nursery.items ≡ a.nursery.items
  pub room : vec_capacity b.nursery ≡ vec_capacity a.nursery
  pub reads : b.store.reads ≡ a.store.reads
  pub end : b.end ≡ a.end
  pub boxes : b.boxes.items ≡ a.boxes.items
  pub places : b.store.places ≡ a.store.places

-- the key of a table, by what it was opened with
abbrev pub key_for : ℕ → Turn → Layout → List Bool → List ℕ → List Holder → List Role → Key
key_for superpages turn space pool nursery holders roles = record {
  supers = superpages;
  frames = length pool;
  pool = pool;
  lanes = is_lanes turn;
  opening = space;
  owners = map owner_role holders;
  roles = map role_number roles;
  nursery = nursery;
}
