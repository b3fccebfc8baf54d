-- A heap after a turn: lanes can run on, and it stands for the same.
use Rattle.std.proofs.Common.{◌≡◌, ℕ, ◌⊎◌, ◌<◌, List, length, get_or, sym, subst}
use Rattle.bc_model.specs.State.{State}
use Rattle.bc_model.specs.declared.values.Holder.{Holder}
use Rattle.bc_nursery.specs.Survivors.{entry_at}
use Rattle.bc_reach.specs.Distinct.{Has}
use Rattle.bc_superpages.specs.declared.headers.PageState.TheVariants.{Remembered}
use Rattle.bc_superpages.specs.Layout.{Layout}
use Rattle.bc_superpages.specs.LayoutAt.{IsAllocated, state_at}
use Rattle.bc_superpages.specs.RootWords.{RootWords}
use Rattle.bc_bookmarks.specs.Summarised.{IsSummarised}
use Rattle.bc_turn.specs.Beside.{IsLaidBack}
use Rattle.bc_whole_heap.specs.Closed.{buffer_of, IsClosedHeap}
use Rattle.bc_whole_heap.specs.Heaps.{HeapView}
use Rattle.bc_whole_heap.specs.HeapFacts.{view_of}
use Rattle.bc_whole_heap.specs.LaneStates.{StandsAs}
use Rattle.bc_whole_heap.specs.Running.{IsRunning}
use Rattle.bc_word.specs.Addresses.{page_of}
use Rattle.bc_word.specs.declared.addresses.Address.{Address}
use Rattle.bc_word.specs.declared.words.Word.TheVariants.{Ref}
use Rattle.bc_word.specs.Words.{word_of_bits}

-- the space s where its pages lie as in t, and the heap with it and these notes
abbrev moved : Layout → Layout → Layout
moved s t = record s { states = t.states; free = t.free; bookmarks = t.bookmarks; incoming = t.incoming; reads = t.reads }

abbrev laid : HeapView → Layout → List ℕ → HeapView
laid h t noted = view_of (moved h.space t) (record (h.roots) { noted = noted }) h.chunks h.buffers

same-view : (h k : HeapView) → (s : Layout) → (r : RootWords) → k.space ≡ s → k.roots ≡ r → k.chunks ≡ h.chunks → k.buffers ≡ h.buffers → k ≡ view_of s r h.chunks h.buffers
same-view h k s r es er ec eb = λ i. record { space = es i; roots = er i; chunks = ec i; buffers = eb i }

back-is : (h k : HeapView) → IsLaidBack h k → k ≡ laid h k.space k.roots.noted
back-is h k back = same-view h k (moved h.space k.space) (record (h.roots) { noted = k.roots.noted }) back.pages.same back.roots back.chunks back.buffers

-- a root slot that refers to an object of a chunk is noted
abbrev AreNoted : HeapView → List ℕ → Type 0
AreNoted h noted = (i : ℕ) → (a : Address) → i < length h.roots.words → word_of_bits (get_or h.roots.words i 0) ≡ Ref a → IsAllocated h.space a.0 ⊎ Has noted i

noted-back : (h k : HeapView) → IsLaidBack h k → AreNoted h k.roots.noted
noted-back h k back =
    subst (λ (x : HeapView). AreNoted x x.roots.noted → AreNoted h x.roots.noted) (sym (back-is h k back)) (λ noted. noted) back.noted

closed-laid : (h : HeapView) (t : Layout) (noted : List ℕ) (hs : List Holder) → ((p : ℕ) → state_at h.space.states p ≡ Remembered → state_at t.states p ≡ Remembered) → AreNoted h noted → IsClosedHeap h hs → IsClosedHeap (laid h t noted) hs
closed-laid h t noted hs still notes c = record {
  lanes = c.lanes;
  domains = c.domains;
  holder = c.holder;
  root = c.root;
  noted = notes;
  young_domain = c.young_domain;
  young = c.young;
  mature_domain = c.mature_domain;
  mature = c.mature;
  entries = λ l i lt less.
      let e = c.entries l i lt less in
      record { object = e.object; there = e.there; field = e.field; held = e.held; remembered = still (page_of (entry_at (buffer_of h.buffers l) i).0.0) e.remembered };
}

running-laid : (h : HeapView) (t : Layout) (noted : List ℕ) (hs : List Holder) → IsSummarised (moved h.space t) → ((p : ℕ) → state_at h.space.states p ≡ Remembered → state_at t.states p ≡ Remembered) → AreNoted h noted → IsRunning h hs → IsRunning (laid h t noted) hs
running-laid h t noted hs summarised still notes run = record {
  summarised = summarised;
  none_promised = run.none_promised;
  laid = run.laid;
  once = run.once;
  closed = closed-laid h t noted hs still notes run.closed;
}

stands-laid : (h : HeapView) (t : Layout) (noted : List ℕ) (hs : List Holder) (serials : List ℕ) (state : State) → StandsAs h hs serials state → StandsAs (laid h t noted) hs serials state
stands-laid h t noted hs serials state stands = record {
  consistent = stands.consistent;
  stands = stands.stands;
  born = stands.born;
  held = stands.held;
  births = stands.births;
  domains = stands.domains;
  slots = stands.slots;
  lanes = stands.lanes;
}

-- lanes can run on where what they took into a turn is laid back
pub lies-back-running : (h k : HeapView) (hs : List Holder) → IsLaidBack h k → IsRunning h hs → IsRunning k hs
lies-back-running h k hs back run =
    subst (λ (x : HeapView). IsRunning x hs) (sym (back-is h k back))
    (running-laid h k.space k.roots.noted hs (subst IsSummarised back.pages.same back.pages.summarised) (λ p. (back.pages.remembered p).0) (noted-back h k back) run)

-- and the heap stands for the same
pub lies-back-stands : (h k : HeapView) (hs : List Holder) (serials : List ℕ) (state : State) → IsLaidBack h k → StandsAs h hs serials state → StandsAs k hs serials state
lies-back-stands h k hs serials state back stands =
    subst (λ (x : HeapView). StandsAs x hs serials state) (sym (back-is h k back)) (stands-laid h k.space k.roots.noted hs serials state stands)
