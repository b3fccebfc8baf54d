-- What a page is whose word says Gone, and for what cells are bookmarked and pages counted.
use Rattle.std.specs.Prelude.{◌≡◌, ℕ, ◌<◌, ◌≤◌, ◌⊎◌, List, [], true}
use mathlib.Core.Option.{some}
use mathlib.Core.Option as maybe
use lib.ListN.{get_elem?}
use Rattle.bc_superpages.specs.Paging.{is_bookmarked}
use Rattle.bc_bookmarks.specs.Targets.{is_target, HasCell}
use Rattle.bc_pins.specs.declared.views.Lodged.TheVariants.{Nothing, Home, Away}
use Rattle.bc_pins.specs.declared.views.View.{View}
use Rattle.bc_pins.specs.Key.{Key, pages_of, counter_at, store_slot}
use Rattle.bc_pins.specs.Totals.{times}
use Rattle.bc_pins.specs.Contents.{RefersYoung, objects_in}
use Rattle.bc_pins.specs.Views.{grips, sets_for}
use Rattle.bc_pins.specs.Facts.{Table, Slot, word, slot, points, had_with, HasBookmarkBit}
use Rattle.bc_pins.specs.Tracing.{word_of, place_of}

-- the page's box lies in the store, an allocated cell lies on it, each of its targets has its bookmark bit, it is counted in each
-- superpage that has one, and none of its fields refers to a nursery
pub record IsGoneSummarised (k : Key) (s : Table) (page : ℕ) : Type 0 where
  pub content : List ℕ
  pub lies : slot s (store_slot k page) ≡ some (some (Away content))
  pub there : HasCell k.opening page
  pub targets : (a : ℕ) → is_target (objects_in k.opening content) page a ≡ true → HasBookmarkBit k s.words a
  pub counted : (q : ℕ) → q < k.supers → points k page content q ≤ word s (counter_at k q)
  pub old : RefersYoung k.opening page content → ⊥

-- the content that lies in a slot of the store, where one does
abbrev pub content_in : Slot → List ℕ
content_in maybe.none = []
content_in (maybe.some maybe.none) = []
content_in (maybe.some (maybe.some Nothing)) = []
content_in (maybe.some (maybe.some (Home h))) = []
content_in (maybe.some (maybe.some (Away c))) = c

-- the content of a page that lies in the store
abbrev pub stored_content : Key → Table → ℕ → List ℕ
stored_content k s page = content_in (slot s (store_slot k page))

-- a seat set the bookmark bit of the cell at the address for this page, which had a target there in the turn. That seat has the page in
-- hand, or evicted it
pub record IsBookmarkedBySeat (k : Key) (s : Table) (page a : ℕ) : Type 0 where
  pub inside : page < pages_of k
  pub seat : ℕ
  pub view : View
  pub at : get_elem? s.views seat ≡ some view
  pub set : 0 < sets_for page (word_of k a) (place_of k a) view.bookmarked
  pub had : 0 < had_with k s page (word_of k a) (place_of k a)
  pub whose : (0 < grips page view.hand) ⊎ (0 < times page view.left)

-- the cell at the address was bookmarked at the opening, or for a page in the turn
abbrev pub HasReason : Key → Table → ℕ → Type 0
HasReason k s a = (is_bookmarked k.opening a ≡ true) ⊎ ((page : ℕ) × IsBookmarkedBySeat k s page a)
