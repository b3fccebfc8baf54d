-- Lanes that ran side by side: the heap that each of them leaves is running and stands for a state, and has the sizes that it had.
use Rattle.std.proofs.Common.{◌≡◌, ℕ, ◌+◌, ◌<◌, ◌≤◌, inl, inr, List, [], ◌∷◌, length, get_or, set, vec_capacity, drop, take, Result, Ok, Err, OnOk, OnErr, refl, sym, ap, subst, ◌∙◌, arith}
use Prim.Native.Nat.{zero, suc}
use Rattle.std.proofs.lemmas.Bool.{cases_eq}
use Rattle.std.proofs.lemmas.List.{get_or-set_same, get_or-set_other, length-set, set-get_or, set-set}
use Rattle.bc_cycle.specs.Emptying.{HasRoomToList}
use Rattle.bc_cycle.specs.declared.heaps.Heap.{Heap}
use Rattle.bc_lane.specs.Doing.{DidAll}
use Rattle.bc_model.specs.State.{State}
use Rattle.bc_model.specs.Step.{step}
use Rattle.bc_model.specs.declared.operations.Op.{Op}
use Rattle.bc_model.specs.declared.operations.Reply.{Reply}
use Rattle.bc_model.specs.declared.values.Holder.{Holder}
use Rattle.bc_mutator.specs.Effects.{Leaves}
use Rattle.bc_mutator.specs.Objects.{own_chunk}
use Rattle.bc_mutator.proofs.NewLemmas.{none-later}
use Rattle.bc_nursery.specs.Entries.{Entries}
use Rattle.bc_nursery.specs.Nurseries.{Nursery}
use Rattle.bc_promotion.proofs.ListingLemmas.{words_in-same}
use Rattle.bc_superpages.specs.Layout.{Layout}
use Rattle.bc_superpages.specs.RootWords.{RootWords}
use Rattle.bc_turn.specs.Beside.{IsLaidBack, PagesMoved, RanBeside}
use Rattle.bc_whole_heap.specs.Closed.{buffer_of, no_buffer}
use Rattle.bc_whole_heap.specs.HeapFacts.{HasTwoFrames}
use Rattle.bc_whole_heap.specs.Heaps.{HeapView, no_chunk}
use Rattle.bc_whole_heap.specs.LaneChunks.{chunk_of}
use Rattle.bc_whole_heap.specs.LaneStates.{StandsAs}
use Rattle.bc_whole_heap.specs.Running.{IsRunning}
use Rattle.bc_running.specs.Running.{RunningView}
use Rattle.bc_running.specs.RunningFacts.{IsSound, running_of}
use Rattle.bc_running.proofs.FirstLists.{with_first, with_first-all, with_first-long, with_first-more, with_first-past}
use Rattle.bc_turn.proofs.BackLemmas.{lies-back-running, lies-back-stands}
use Rattle.bc_whole_heap.proofs.MovingLemmas.{running-moved, stands-moved}

-- lanes can run on the heap, and it stands for a state in which each lane has its number of births
pub record IsInOrder (h : HeapView) (hs : List Holder) (serials : List ℕ) : Type 0 where
  pub running : IsRunning h hs
  pub meant : (state : State) × StandsAs h hs serials state

-- the second heap has the sizes of the first one. What differs of the space are states and contents of pages, free frames, bookmarks,
-- counters and reads, and of the root slots what they hold
pub record KeepsSizesOf (h k : HeapView) : Type 0 where
  pub space : k.space ≡ record h.space {
    states = k.space.states;
    pages = k.space.pages;
    free = k.space.free;
    bookmarks = k.space.bookmarks;
    incoming = k.space.incoming;
    reads = k.space.reads;
  }
  pub roots : k.roots ≡ record h.roots { words = k.roots.words; noted = k.roots.noted }
  pub chunks : length k.chunks ≡ length h.chunks
  pub words : (l : ℕ) → (chunk_of k.chunks l).words ≡ (chunk_of h.chunks l).words
  pub capacity : (l : ℕ) → (buffer_of k.buffers l).capacity ≡ (buffer_of h.buffers l).capacity

pub sizes-same : (h k : HeapView) → k ≡ h → KeepsSizesOf h k
sizes-same h k same = subst (λ (x : HeapView). KeepsSizesOf h x) (sym same) (record { space = refl; roots = refl; chunks = refl; words = λ l. refl; capacity = λ l. refl })

pub sizes-then : {h m k : HeapView} → KeepsSizesOf h m → KeepsSizesOf m k → KeepsSizesOf h k
sizes-then {h} {m} {k} first second = record {
  space =
      second.space
      ∙ ap (λ (s : Layout). record s { states = k.space.states; pages = k.space.pages; free = k.space.free; bookmarks = k.space.bookmarks; incoming = k.space.incoming; reads = k.space.reads }) first.space;
  roots = second.roots ∙ ap (λ (r : RootWords). record r { words = k.roots.words; noted = k.roots.noted }) first.roots;
  chunks = second.chunks ∙ first.chunks;
  words = λ l. second.words l ∙ first.words l;
  capacity = λ l. second.capacity l ∙ first.capacity l;
}

-- an operation keeps them
sizes-left : {hs : List Holder} {lane : ℕ} {h k : HeapView} → Leaves hs lane h k → KeepsSizesOf h k
sizes-left {hs} {lane} {h} {k} leaves = record {
  space =
      leaves.space
      ∙ sym (ap (λ (x : Layout). record h.space { states = x.states; pages = x.pages; free = x.free; bookmarks = x.bookmarks; incoming = x.incoming; reads = x.reads }) leaves.space);
  roots = leaves.roots;
  chunks = ap length leaves.chunks ∙ length-set h.chunks lane (own_chunk k lane);
  words = λ l. elim (cases_eq l lane) [
    | inl e ↦ ap (λ (n : ℕ). (chunk_of k.chunks n).words) e ∙ ap (λ (c : Nursery). c.words) leaves.chunk ∙ ap (λ (n : ℕ). (chunk_of h.chunks n).words) (sym e)
    | inr ne ↦ ap (λ (cs : List Nursery). (chunk_of cs l).words) leaves.chunks ∙ ap (λ (c : Nursery). c.words) (get_or-set_other h.chunks lane l (own_chunk k lane) no_chunk ne)
  ];
  capacity = λ l. elim (cases_eq l lane) [
    | inl e ↦ ap (λ (n : ℕ). (buffer_of k.buffers n).capacity) e ∙ leaves.capacity ∙ ap (λ (n : ℕ). (buffer_of h.buffers n).capacity) (sym e)
    | inr ne ↦ ap (λ (bs : List Entries). (buffer_of bs l).capacity) leaves.buffers ∙ ap (λ (b : Entries). b.capacity) (get_or-set_other h.buffers lane l (buffer_of k.buffers lane) no_buffer ne)
  ];
}

-- so do the operations of a lane, one after another
pub sizes-did : (hs : List Holder) (lane : ℕ) (ops : List Op) (replies : List Reply) {h k : HeapView} (serial next : ℕ) → DidAll hs lane ops replies h serial k next → KeepsSizesOf h k
sizes-did hs lane [] [] {h} {k} serial next did = sizes-same h k did.0
sizes-did hs lane [] (reply ∷ replies) serial next did = absurd did
sizes-did hs lane (op ∷ ops) [] serial next did = absurd did
sizes-did hs lane (op ∷ ops) (reply ∷ replies) serial next did = sizes-then (sizes-left did.2.leaves) (sizes-did hs lane ops replies did.1 next did.3)

-- and each of them leaves the heap in order
pub order-did : (hs : List Holder) (lane : ℕ) (ops : List Op) (replies : List Reply) {h k : HeapView} (serials : List ℕ) (next : ℕ) → lane < length serials → IsInOrder h hs serials → DidAll hs lane ops replies h (get_or serials lane 0) k next → IsInOrder k hs (set serials lane next)
order-did hs lane [] [] {h} {k} serials next within order did =
    let same : set serials lane next ≡ serials = ap (set serials lane) did.1 ∙ set-get_or serials lane 0 in
    subst (λ (x : HeapView). IsInOrder x hs (set serials lane next)) (sym did.0) (subst (λ (ns : List ℕ). IsInOrder h hs ns) (sym same) order)
order-did hs lane [] (reply ∷ replies) serials next within order did = absurd did
order-did hs lane (op ∷ ops) [] serials next within order did = absurd did
order-did hs lane (op ∷ ops) (reply ∷ replies) {h} {k} serials next within order did =
    let m : HeapView = did.0 in
    let n : ℕ = did.1 in
    let state = order.meant.0 in
    let stands = order.meant.1 in
    let later = set serials lane n in
    let mid : IsInOrder m hs later = record {
      running = did.2.running (none-later h hs serials state stands lane);
      meant = ((step state lane op).0, (did.2.step serials state stands refl).1);
    } in
    let rest : DidAll hs lane ops replies m (get_or later lane 0) k next =
    subst (λ (x : ℕ). DidAll hs lane ops replies m x k next) (sym (get_or-set_same serials lane n 0 within)) did.3 in
    subst (λ (ns : List ℕ). IsInOrder k hs ns) (set-set serials lane n next)
    (order-did hs lane ops replies later next (omega (arith, within, length-set serials lane n)) mid rest)

pub order-laid : (h k : HeapView) (hs : List Holder) (serials : List ℕ) → IsLaidBack h k → IsInOrder h hs serials → IsInOrder k hs serials
order-laid h k hs serials laid order = record {
  running = lies-back-running h k hs laid order.running;
  meant = (order.meant.0, lies-back-stands h k hs serials order.meant.0 laid order.meant.1);
}

pub sizes-laid : (h k : HeapView) → IsLaidBack h k → KeepsSizesOf h k
sizes-laid h k laid = record {
  space =
      laid.pages.same
      ∙ sym (ap (λ (x : Layout). record h.space { states = x.states; pages = x.pages; free = x.free; bookmarks = x.bookmarks; incoming = x.incoming; reads = x.reads }) laid.pages.same);
  roots = laid.roots ∙ sym (ap (λ (x : RootWords). record h.roots { words = x.words; noted = x.noted }) laid.roots);
  chunks = ap length laid.chunks;
  words = λ l. ap (λ (cs : List Nursery). (chunk_of cs l).words) laid.chunks;
  capacity = λ l. ap (λ (bs : List Entries). (buffer_of bs l).capacity) laid.buffers;
}

-- so it is where pages moved
order-moved : (h k : HeapView) (hs : List Holder) (serials : List ℕ) → PagesMoved h k → IsInOrder h hs serials → IsInOrder k hs serials
order-moved h k hs serials moved order = subst (λ (x : HeapView). IsInOrder x hs serials) (sym moved.1) (record {
  running = running-moved h k.space hs moved.0 order.running;
  meant = (order.meant.0, stands-moved h k.space hs serials order.meant.0 moved.0 order.meant.1);
})

sizes-moved : (h k : HeapView) → PagesMoved h k → KeepsSizesOf h k
sizes-moved h k moved = subst (λ (x : HeapView). KeepsSizesOf h x) (sym moved.1) (record {
  space =
      moved.0.same
      ∙ sym (ap (λ (x : Layout). record h.space { states = x.states; pages = x.pages; free = x.free; bookmarks = x.bookmarks; incoming = x.incoming; reads = x.reads }) moved.0.same);
  roots = refl;
  chunks = refl;
  words = λ l. refl;
  capacity = λ l. refl;
})

-- the operations that lane n did, of the heap that the lanes before it left
abbrev pub ops_done : List (List Op) → List (List Reply) → ℕ → List Reply → List Op
ops_done lanes before n replies = take (length replies) (drop (length (get_or before n [])) (get_or lanes n []))

-- as many lanes as numbers of births
abbrev pub IsOfLanes : List (List Op) → List ℕ → Type 0
IsOfLanes lanes serials = length lanes ≡ length serials

pub lane-did : {hs : List Holder} {lanes : List (List Op)} {h k : HeapView} {serials nexts : List ℕ} {before after : List (List Reply)} (ran : RanBeside hs lanes h serials before k nexts after) (n : ℕ) → n < length lanes
    → DidAll hs n (ops_done lanes before n (ran.new n)) (ran.new n) (ran.at n) (get_or (with_first n nexts serials) n 0) (ran.at (suc n)) (get_or nexts n 0)
lane-did {hs} {lanes} {h} {k} {serials} {nexts} {before} {after} ran n lt =
    let one : n + 1 ≡ suc n = omega arith in
    let ops = ops_done lanes before n (ran.new n) in
    subst (λ (x : ℕ). DidAll hs n ops (ran.new n) (ran.at n) x (ran.at (suc n)) (get_or nexts n 0)) (sym (with_first-past n nexts serials n 0 (omega arith)))
    (subst (λ (m : ℕ). DidAll hs n ops (ran.new n) (ran.at n) (get_or serials n 0) (ran.at m) (get_or nexts n 0)) one (ran.did n lt))

-- what each lane leaves is in order, and has the sizes
pub order-at : {hs : List Holder} {lanes : List (List Op)} {h k : HeapView} {serials nexts : List ℕ} {before after : List (List Reply)} (ran : RanBeside hs lanes h serials before k nexts after) (n : ℕ) → IsOfLanes lanes serials → n ≤ length lanes → IsInOrder h hs serials → IsInOrder (ran.at n) hs (with_first n nexts serials)
order-at {hs} {lanes} {h} {k} {serials} {nexts} ran zero each le order = order-moved h (ran.at 0) hs serials ran.first order
order-at {hs} {lanes} {h} {k} {serials} {nexts} {before} ran (suc n) each le order =
    let here = order-at ran n each (omega arith) order in
    let within : n < length (with_first n nexts serials) = omega (arith, le, each, with_first-long n nexts serials) in
    subst (λ (ns : List ℕ). IsInOrder (ran.at (suc n)) hs ns) (sym (with_first-more n nexts serials 0 ran.long.0 (omega (arith, le, each))))
    (order-did hs n (ops_done lanes before n (ran.new n)) (ran.new n) (with_first n nexts serials) (get_or nexts n 0) within here (lane-did ran n (omega arith)))

pub sizes-at : {hs : List Holder} {lanes : List (List Op)} {h k : HeapView} {serials nexts : List ℕ} {before after : List (List Reply)} (ran : RanBeside hs lanes h serials before k nexts after) (n : ℕ) → n ≤ length lanes → KeepsSizesOf h (ran.at n)
sizes-at {h = h} ran zero le = sizes-moved h (ran.at 0) ran.first
sizes-at {hs} {lanes} {h} {k} {serials} {nexts} {before} ran (suc n) le =
    sizes-then (sizes-at ran n (omega arith))
    (sizes-did hs n (ops_done lanes before n (ran.new n)) (ran.new n) (get_or (with_first n nexts serials) n 0) (get_or nexts n 0) (lane-did ran n (omega arith)))

-- and so is the heap at the end of the turn
pub order-beside : {hs : List Holder} {lanes : List (List Op)} {h k : HeapView} {serials nexts : List ℕ} {before after : List (List Reply)} (ran : RanBeside hs lanes h serials before k nexts after) → IsOfLanes lanes serials → IsInOrder h hs serials → IsInOrder k hs nexts
order-beside {hs} {lanes} {h} {k} {serials} {nexts} ran each order =
    let n = length lanes in
    subst (λ (ns : List ℕ). IsInOrder k hs ns) (with_first-all n nexts serials each ran.long.0)
    (order-laid (ran.at n) k hs (with_first n nexts serials) ran.back (order-at ran n each (omega arith) order))

pub sizes-beside : {hs : List Holder} {lanes : List (List Op)} {h k : HeapView} {serials nexts : List ℕ} {before after : List (List Reply)} (ran : RanBeside hs lanes h serials before k nexts after) → KeepsSizesOf h k
sizes-beside {lanes = lanes} {k = k} ran = sizes-then (sizes-at ran (length lanes) (omega arith)) (sizes-laid (ran.at (length lanes)) k ran.back)

pub sound-beside : (r : RunningView) (k : HeapView) {lanes : List (List Op)} {nexts : List ℕ} {before after : List (List Reply)} → RanBeside r.holders lanes r.heap r.serials before k nexts after → IsOfLanes lanes r.serials → (state : State) × StandsAs r.heap r.holders r.serials state → IsSound r → IsSound (running_of k r.holders nexts)
sound-beside r k {lanes} {nexts} ran each meant sound =
    let order = order-beside ran each (record { running = sound.running; meant = meant }) in
    let sizes = sizes-beside ran in
    record {
      running = order.running;
      later = λ l lt. none-later k r.holders nexts order.meant.0 order.meant.1 l;
      frames = subst HasTwoFrames (sym sizes.space) sound.frames;
      lanes = sizes.chunks ∙ sound.lanes ∙ sym ran.long.0;
      few = omega (arith, sound.few, ran.long.0);
    }

-- the list of survivors has room still
pub room-beside : (h k : Heap) → k ≡ record h { space = k.space; roots = k.roots; chunks = k.chunks; buffers = k.buffers } → length k.chunks.items ≡ length h.chunks.items → ((l : ℕ) → (chunk_of k.chunks.items l).words ≡ (chunk_of h.chunks.items l).words) → HasRoomToList h → HasRoomToList k
room-beside h k rest long words room =
    let same = words_in-same h.chunks.items k.chunks.items long (λ l lt. words l) in
    let list : vec_capacity k.survivors ≡ vec_capacity h.survivors = ap (λ (x : Heap). vec_capacity x.survivors) rest in
    omega (arith, same, list, room)

-- whichever way a call ended
pub either-way : {T E P : Type 0} (x : Result T E) → OnOk x P → OnErr x P → P
either-way (Ok y) ok err = ok
either-way (Err e) ok err = err

-- where nothing has changed, the heap is sound as it was
pub sound-same : (r : RunningView) (k : HeapView) (nexts : List ℕ) → k ≡ r.heap → nexts ≡ r.serials → IsSound r → IsSound (running_of k r.holders nexts)
sound-same r k nexts heap births sound =
    subst (λ (x : HeapView). IsSound (running_of x r.holders nexts)) (sym heap) (subst (λ (ns : List ℕ). IsSound (running_of r.heap r.holders ns)) (sym births) sound)
