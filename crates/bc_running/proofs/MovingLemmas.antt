-- What an operation does after the page that it touches came home, said of the heap before.
use Rattle.std.specs.Prelude.{IsErrOf}
use Rattle.std.specs.Result.{OnErr}
use Rattle.std.proofs.Common.{◌≡◌, ◌≢◌, ◌↔◌, ℕ, ◌+◌, ◌/◌, List, get_or, Some, None, Option, Result, Err, refl, sym, ap, subst, ◌∙◌, arith}
use Prim.Native.Nat.{suc}
use Rattle.std.proofs.lemmas.List.{set-get_or}
use Rattle.bc_bookmarks.specs.Changes.{Settled}
use Rattle.bc_bookmarks.specs.Moves.{MovesPages}
use Rattle.bc_bookmarks.specs.Summarised.{IsSummarised}
use Rattle.bc_memory.specs.Memory.{Memory}
use Rattle.bc_model.specs.State.{holder_of}
use Rattle.bc_model.specs.declared.operations.Op.{Op}
use Rattle.bc_model.specs.declared.operations.Op.TheVariants.{New, Who, Len, Set, Cut, Link, Load, Copy, Clear, Same}
use Rattle.bc_model.specs.declared.values.Holder.{Holder}
use Rattle.bc_model.specs.declared.values.Holder.TheVariants.{Lane}
use Rattle.bc_model.specs.declared.values.Slot.{Slot}
use Rattle.bc_mutator.specs.Operations.{NeedsEntry, NoneLater, WantsMore}
use Rattle.bc_mutator.specs.Parts.{touched_slot}
use Rattle.bc_mutator.specs.declared.operations.Stop.{Stop}
use Rattle.bc_mutator.specs.declared.operations.Stop.TheVariants.{NurseryFull, BufferFull, NoFrame}
use Rattle.bc_nursery.specs.Entries.{Entries}
use Rattle.bc_nursery.specs.Nurseries.{Nursery}
use Rattle.bc_standing.specs.Standing.{births}
use Rattle.bc_superpages.specs.declared.headers.PageState.{PageState}
use Rattle.bc_superpages.specs.declared.headers.PageState.TheVariants.{Home}
use Rattle.bc_superpages.specs.Headers.{is_gone}
use Rattle.bc_superpages.specs.Layout.{Layout, content_at}
use Rattle.bc_superpages.specs.LayoutAt.{state_at}
use Rattle.bc_superpages.specs.RootWords.{RootWords}
use Rattle.bc_whole_heap.specs.HeapFacts.{HasTwoFrames}
use Rattle.bc_whole_heap.proofs.MovingLemmas.{memory-moved, running-moved}
use Rattle.bc_word.specs.Addresses.{page_of}
use Rattle.bc_word.specs.declared.addresses.Address.{Address}
use Rattle.bc_running.specs.Running.{RunningView}
use Rattle.bc_running.specs.RunningFacts.{IsSound, StaysBut, with_space}
use Rattle.bc_pager.specs.Alone.{GivesUpFor}
use Rattle.bc_running.specs.Serving.{GivesUpFirst}
use Rattle.bc_running.specs.Touching.{IsTouching, LeadsToPage, TouchesHere}
use Rattle.bc_mutator.proofs.ObjectLemmas.{one_address}

later-moved : {s t : Layout} (cs : List Nursery) (lane serial : ℕ) → MovesPages s t → NoneLater s cs lane serial → NoneLater t cs lane serial
later-moved cs lane serial moves none a b there = none a b (subst (λ (m : Memory). births m a ≡ Some b) (memory-moved cs moves) there)

pub sound-moved : (r : RunningView) (t : Layout) → MovesPages r.heap.space t → IsSound r → IsSound (with_space r t)
sound-moved r t moves h = record {
  running = running-moved r.heap t r.holders moves h.running;
  later = λ l lt. later-moved r.heap.chunks l (get_or r.serials l 0) moves (h.later l lt);
  frames = subst HasTwoFrames (sym moves.same) h.frames;
  lanes = h.lanes;
  few = h.few;
}

pub stays-moved : (lane : ℕ) (r q : RunningView) (t : Layout) → MovesPages r.heap.space t → StaysBut lane (with_space r t) q → StaysBut lane r q
stays-moved lane r q t moves stays = record {
  holders = stays.holders;
  serials = stays.serials;
  others = stays.others;
  space = stays.space
      ∙ ap (λ (x : Layout). record x { states = q.heap.space.states; pages = q.heap.space.pages; free = q.heap.space.free; bookmarks = q.heap.space.bookmarks; incoming = q.heap.space.incoming; reads = q.heap.space.reads }) moves.same;
  pages = subst (λ (x : Layout). (page : ℕ) → holder_of r.holders (get_or x.domains (page / 4) 0) ≢ Lane lane → content_at q.heap.space.pages page ≡ content_at x.pages page) moves.same stays.pages;
  roots = stays.roots;
  slots = stays.slots;
  chunk = stays.chunk;
  chunks = stays.chunks;
  buffers = stays.buffers;
  capacity = stays.capacity;
}

-- an entry is needed where it was, and where it was it is
needs-before : (s : Layout) (states : List (List PageState)) (free : ℕ) (bits : List (List ℕ)) (counters : List ℕ) (reads : ℕ) (hs : List Holder) (lane : ℕ) (r : RootWords) (c : Nursery) (b : Entries) (op : Op) → NeedsEntry hs lane (record s { states = states; free = free; bookmarks = bits; incoming = counters; reads = reads }) r c b op → NeedsEntry hs lane s r c b op
needs-before s states free bits counters reads hs lane r c b (Link p i q) needs =
    let f = needs.0.target in (
      record {
        slots = needs.0.slots;
        target = record { cell = f.cell; to = f.to; mature = f.mature; content = f.content; is = f.is; held = f.held; less = f.less };
        young = needs.0.young;
        stored = needs.0.stored;
        there = needs.0.there;
      },
      needs.1,
    )
needs-before s states free bits counters reads hs lane r c b (New p n) needs = needs
needs-before s states free bits counters reads hs lane r c b (Who p) needs = needs
needs-before s states free bits counters reads hs lane r c b (Len p) needs = needs
needs-before s states free bits counters reads hs lane r c b (Set p i v) needs = needs
needs-before s states free bits counters reads hs lane r c b (Cut p i) needs = needs
needs-before s states free bits counters reads hs lane r c b (Load p i q) needs = needs
needs-before s states free bits counters reads hs lane r c b (Copy p q) needs = needs
needs-before s states free bits counters reads hs lane r c b (Clear p) needs = needs
needs-before s states free bits counters reads hs lane r c b (Same p q) needs = needs

needs-after : (s : Layout) (states : List (List PageState)) (free : ℕ) (bits : List (List ℕ)) (counters : List ℕ) (reads : ℕ) (hs : List Holder) (lane : ℕ) (r : RootWords) (c : Nursery) (b : Entries) (op : Op) → NeedsEntry hs lane s r c b op → NeedsEntry hs lane (record s { states = states; free = free; bookmarks = bits; incoming = counters; reads = reads }) r c b op
needs-after s states free bits counters reads hs lane r c b (Link p i q) needs =
    let f = needs.0.target in (
      record {
        slots = needs.0.slots;
        target = record { cell = f.cell; to = f.to; mature = f.mature; content = f.content; is = f.is; held = f.held; less = f.less };
        young = needs.0.young;
        stored = needs.0.stored;
        there = needs.0.there;
      },
      needs.1,
    )
needs-after s states free bits counters reads hs lane r c b (New p n) needs = needs
needs-after s states free bits counters reads hs lane r c b (Who p) needs = needs
needs-after s states free bits counters reads hs lane r c b (Len p) needs = needs
needs-after s states free bits counters reads hs lane r c b (Set p i v) needs = needs
needs-after s states free bits counters reads hs lane r c b (Cut p i) needs = needs
needs-after s states free bits counters reads hs lane r c b (Load p i q) needs = needs
needs-after s states free bits counters reads hs lane r c b (Copy p q) needs = needs
needs-after s states free bits counters reads hs lane r c b (Clear p) needs = needs
needs-after s states free bits counters reads hs lane r c b (Same p q) needs = needs

pub needs-moved : {s t : Layout} (hs : List Holder) (lane : ℕ) (r : RootWords) (c : Nursery) (b : Entries) (op : Op) → MovesPages s t → NeedsEntry hs lane t r c b op → NeedsEntry hs lane s r c b op
needs-moved {s} {t} hs lane r c b op moves needs =
    needs-before s t.states t.free t.bookmarks t.incoming t.reads hs lane r c b op (subst (λ (x : Layout). NeedsEntry hs lane x r c b op) moves.same needs)

pub needs-kept : {s t : Layout} (hs : List Holder) (lane : ℕ) (r : RootWords) (c : Nursery) (b : Entries) (op : Op) → MovesPages s t → NeedsEntry hs lane s r c b op → NeedsEntry hs lane t r c b op
needs-kept {s} {t} hs lane r c b op moves needs =
    subst (λ (x : Layout). NeedsEntry hs lane x r c b op) (sym moves.same) (needs-after s t.states t.free t.bookmarks t.incoming t.reads hs lane r c b op needs)

-- what a slot leads to isn't Gone where its page is Home
pub here-leads : (t : Layout) (r : RootWords) (slot : Option Slot) (page : ℕ) → LeadsToPage r slot page → state_at t.states page ≡ Home → TouchesHere t r slot
here-leads t r None page leads home = absurd leads
here-leads t r (Some p) page leads home = λ a refers below.
    let same : a ≡ leads.0 = one_address a leads.0 (sym refers ∙ leads.1) in
    ap (λ (x : Address). is_gone (state_at t.states (page_of x.0))) same ∙ ap (λ (x : ℕ). is_gone (state_at t.states x)) leads.2 ∙ ap is_gone home

-- one hint more
pub gives-more : (s u t : Layout) (hints : List ℕ) (n : ℕ) → GivesUpFirst s hints n u → GivesUpFor u (get_or hints n 0) t → GivesUpFirst s hints (n + 1) t
gives-more s u t hints n first more =
    let e : suc n ≡ n + 1 = omega arith in
    subst (λ (m : ℕ). GivesUpFirst s hints m t) e (u, first, more)

-- pages move where the space is settled
pub moves-settled : (s t : Layout) → Settled s t → IsSummarised t → MovesPages s t
moves-settled s t change sum = record {
  same = change.same ∙ sym (ap (λ (l : Layout). record s { states = l.states; free = l.free; bookmarks = l.bookmarks; incoming = l.incoming; reads = l.reads }) change.same);
  remembered = λ p. let same = ap (λ (l : Layout). state_at l.states p) change.same in (λ e. sym same ∙ e, λ e. same ∙ e);
  summarised = sum;
}

pub moves-then : (s u t : Layout) → MovesPages s u → MovesPages u t → MovesPages s t
moves-then s u t h k = record {
  same = k.same ∙ ap (λ (l : Layout). record l { states = t.states; free = t.free; bookmarks = t.bookmarks; incoming = t.incoming; reads = t.reads }) h.same;
  remembered = λ p. (λ e. (h.remembered p).0 ((k.remembered p).0 e), λ e. (k.remembered p).1 ((h.remembered p).1 e));
  summarised = k.summarised;
}

-- a stop for lack of a frame is no other
frame_nursery : {T : Type 0} (stop : Stop) → stop ≡ NoFrame → IsErrOf {T = T} (Err stop) NurseryFull → ⊥
frame_nursery stop is e = cc

frame_buffer : {T : Type 0} (stop : Stop) → stop ≡ NoFrame → IsErrOf {T = T} (Err stop) BufferFull → ⊥
frame_buffer stop is e = cc

wants-none : (hs : List Holder) (lane words : ℕ) (op : Op) → IsTouching (touched_slot op) → WantsMore hs lane words op → ⊥
wants-none hs lane words (New p n) touches wants = touches
wants-none hs lane words (Who p) touches wants = wants
wants-none hs lane words (Len p) touches wants = wants
wants-none hs lane words (Set p i v) touches wants = wants
wants-none hs lane words (Cut p i) touches wants = wants
wants-none hs lane words (Link p i q) touches wants = wants
wants-none hs lane words (Load p i q) touches wants = wants
wants-none hs lane words (Copy p q) touches wants = wants
wants-none hs lane words (Clear p) touches wants = wants
wants-none hs lane words (Same p q) touches wants = wants

pub frame-nursery : (T : Type 0) (hs : List Holder) (lane words : ℕ) (op : Op) (stop : Stop) → stop ≡ NoFrame → IsTouching (touched_slot op) → IsErrOf {T = T} (Err stop) NurseryFull ↔ WantsMore hs lane words op
frame-nursery T hs lane words op stop is touches = (λ e. absurd (frame_nursery {T = T} stop is e), λ wants. absurd (wants-none hs lane words op touches wants))

pub frame-buffer : (T X : Type 0) (stop : Stop) → stop ≡ NoFrame → IsErrOf {T = T} (Err stop) BufferFull → X
frame-buffer T X stop is e = absurd (frame_buffer {T = T} stop is e)

-- what is said of an answer that it stopped so
pub at_err : {T : Type 0} {P : Type 0} (r : Result T Stop) (stop : Stop) → IsErrOf r stop → OnErr r P → P
at_err {T} {P} r stop is told = subst (λ (x : Result T Stop). OnErr x P) is told

-- nothing was done
pub stays-same : (lane : ℕ) (r : RunningView) → StaysBut lane r r
stays-same lane r = record {
  holders = refl;
  serials = sym (set-get_or r.serials lane 0);
  others = λ l ne. (refl, refl);
  space = refl;
  pages = λ page ne. refl;
  roots = refl;
  slots = λ p ne less. refl;
  chunk = refl;
  chunks = refl;
  buffers = refl;
  capacity = refl;
}
