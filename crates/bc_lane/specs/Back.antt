-- A space, and a whole heap, as it is when every page that is Gone has come back. Lanes run on it in a turn: what they do is said of the
-- heap with every page back, so that a page that comes back in the turn changes nothing of it. Frames aren't counted anew.
use Rattle.std.specs.Prelude.{ℕ, map}
use Rattle.bc_superpages.specs.declared.headers.PageState.{PageState}
use Rattle.bc_superpages.specs.declared.headers.PageState.TheVariants.{Absent, Home, Remembered, Held, Gone}
use Rattle.bc_superpages.specs.Layout.{Layout}
use Rattle.bc_whole_heap.specs.Heaps.{HeapView}

-- a page that is Gone is Home, and any other as it is
abbrev pub back_state : PageState → PageState
back_state Absent = Absent
back_state Home = Home
back_state Remembered = Remembered
back_state Held = Held
back_state Gone = Home

-- no page is counted
abbrev pub no_count : ℕ → ℕ
no_count n = 0

-- the space with every page back. No page is Gone, so no superpage counts one; bookmark bits stay
abbrev pub all_back : Layout → Layout
all_back s = record s { states = map (map back_state) s.states; incoming = map no_count s.incoming }

-- the heap with every page back
abbrev pub heap_back : HeapView → HeapView
heap_back h = record h { space = all_back h.space }
