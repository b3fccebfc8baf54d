-- What a table knows for its whole life, and where its words lie.
use Rattle.std.specs.Prelude.{◌≡◌, ℕ, ◌+◌, ◌*◌, ◌/◌, ◌%◌, Bool, true, false, if◌then◌else◌, List, slice_index}
use Rattle.bc_model.specs.declared.values.Holder.{Holder}
use Rattle.bc_model.specs.declared.values.Holder.TheVariants as holder
use Rattle.bc_pins.specs.declared.key.Turn.{Turn}
use Rattle.bc_pins.specs.declared.key.Turn.TheVariants.{Lanes, Mark}
use Rattle.bc_pins.specs.declared.key.Role.{Role}
use Rattle.bc_pins.specs.declared.key.Role.TheVariants.{Lane, Marker, Pager}
use Rattle.bc_superpages.specs.Layout.{Layout}

-- is it a turn of lanes?
abbrev pub is_lanes : Turn → Bool
is_lanes Lanes = true
is_lanes Mark = false

-- the number of a lane's role
abbrev pub lane_role : ℕ → ℕ
lane_role lane = 3 * lane + 3

-- the number of a role. None is 0, which is nobody's, and no two have the same
abbrev pub role_number : Role → ℕ
role_number (Lane lane) = lane_role lane
role_number (Marker marker) = 3 * marker + 1
role_number (Pager pager) = 3 * pager + 2

-- the role of the lane that holds a domain of this holder, or nobody's where it is frozen
abbrev pub owner_role : Holder → ℕ
owner_role (holder.Lane lane) = lane_role lane
owner_role holder.Frozen = 0

-- what a table keeps for its whole life
pub record Key : Type 0 where
  -- how many superpages the table has: those up to the last that has a page which isn't Absent
  pub supers : ℕ
  -- all frames of the heap
  pub frames : ℕ
  -- which of them are free at the opening
  pub pool : List Bool
  -- is it a turn of lanes, and no mark turn?
  pub lanes : Bool
  -- the space at the opening
  pub opening : Layout
  -- by domain, the role that holds it, or 0 where it is frozen
  pub owners : List ℕ
  -- the roles that are given out
  pub roles : List ℕ
  -- the frames that no page may use: the nurseries' and those withheld
  pub nursery : List ℕ

-- the table's pages. All pages after them are Absent for the whole turn
abbrev pub pages_of : Key → ℕ
pages_of k = 4 * k.supers

-- the role that holds a page's domain, or 0: nobody holds a frozen one, and none in a mark turn
abbrev pub owner : Key → ℕ → ℕ
owner k page = slice_index k.owners (slice_index k.opening.domains (page / 4))

-- in a turn of lanes the page's domain is frozen: nobody holds it, and every lane may read it
abbrev pub IsFrozenIn : Key → ℕ → Type 0
IsFrozenIn k page = (k.lanes ≡ true) × (owner k page ≡ 0)

-- Where the words lie: first sixteen words for each superpage, of which its pages have the first four, then by superpage its
-- counter, then its sixteen bookmark words, then the frame words, then the next notice. A mark turn has besides by superpage
-- sixteen mark words, then sixteen finished words, then its queue word, with a bit for each of its four pages.
-- The words of a superpage's four pages stand together, and twelve that nobody uses follow them. So no two superpages have
-- words of pages in one cache line of eight words, wherever the list begins, and the next one's are two lines away, since a
-- processor may fetch lines in pairs
abbrev pub page_at : ℕ → ℕ
page_at page = 16 * (page / 4) + page % 4

-- where the words of pages end
abbrev pub pages_end : Key → ℕ
pages_end k = 16 * k.supers

-- where the counter of a superpage stands
abbrev pub counter_at : Key → ℕ → ℕ
counter_at k superpage = pages_end k + superpage

-- where a bookmark word stands, counted over all superpages
abbrev pub bookmark_at : Key → ℕ → ℕ
bookmark_at k word = pages_end k + (k.supers + word)

-- where a frame word stands
abbrev pub frame_at : Key → ℕ → ℕ
frame_at k word = pages_end k + (k.supers + (16 * k.supers + word))

-- how many words the frames have: a bit for each, set where the frame is in use
abbrev pub frame_words : Key → ℕ
frame_words k = (k.frames + 63) / 64

-- where the next notice stands
abbrev pub notice_at : Key → ℕ
notice_at k = frame_at k (frame_words k)

-- where a mark word stands, in a mark turn
abbrev pub mark_at : Key → ℕ → ℕ
mark_at k word = notice_at k + 1 + word

-- where a finished word stands, in a mark turn
abbrev pub finished_at : Key → ℕ → ℕ
finished_at k word = notice_at k + 1 + (16 * k.supers + word)

-- where the queue word of a superpage stands, in a mark turn
abbrev pub queue_at : Key → ℕ → ℕ
queue_at k superpage = notice_at k + 1 + (32 * k.supers + superpage)

-- how many words the table has
abbrev pub all_words : Key → ℕ
all_words k = notice_at k + 1 + (if k.lanes then 0 else 33 * k.supers)

-- how many words a table of so many superpages and frames has, by the kind of turn
abbrev pub table_words : ℕ → ℕ → Turn → ℕ
table_words supers frames Lanes = 33 * supers + (frames + 63) / 64 + 1
table_words supers frames Mark = 33 * supers + (frames + 63) / 64 + 1 + 33 * supers

-- the slots of a page. Those of a superpage's pages stand together, first the four for frames and then the four for the store: so
-- frame slots of two superpages lie apart too
abbrev pub home_slot : ℕ → ℕ
home_slot page = 8 * (page / 4) + page % 4

-- the slot of a page for its frame
abbrev pub frame_slot : Key → ℕ → ℕ
frame_slot k page = home_slot page

-- the slot of a page for the store
abbrev pub store_slot : Key → ℕ → ℕ
store_slot k page = home_slot page + 4
