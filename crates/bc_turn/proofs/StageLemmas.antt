-- Lanes that ran side by side, one after another: the heaps between them.
use Rattle.std.proofs.Common.{◌≡◌, ◌≢◌, ◌⊎◌, ℕ, ◌+◌, ◌*◌, ◌/◌, ◌<◌, ◌≤◌, List, [], ◌∷◌, ◌++◌, length, map, get_or, set, take, drop, None, inl, inr, refl, ap, sym, subst, ◌∙◌, arith, length-append, get_or-set_same, get_or-set_other}
use Prim.Native.Nat.{zero, suc}
use Rattle.std.proofs.lemmas.Bool.{cases_eq, cases_lt}
use Rattle.std.specs.List.{AllByRecursion}
use Rattle.bc_lane.specs.Back.{heap_back}
use Rattle.bc_lane.specs.Doing.{DidAll}
use Rattle.bc_lane.specs.Turns.{IsWhole, LaneRan, LooksRightOn, StopsOp, WhyStopped}
use Rattle.bc_lane.specs.declared.parts.LanePart.{LanePart}
use Rattle.bc_lane.specs.declared.stops.Stop.{Stop}
use Rattle.bc_lane.specs.declared.stops.Stop.TheVariants as stop
use Rattle.bc_lane.specs.declared.turns.LaneTurn.{LaneTurn}
use Rattle.bc_model.proofs.Runs.{at-index}
use Rattle.bc_model.specs.State.{State, holder_of}
use Rattle.bc_model.specs.declared.operations.Op.{Op}
use Rattle.bc_model.specs.declared.operations.Reply.{Reply}
use Rattle.bc_model.specs.declared.values.Holder.{Holder}
use Rattle.bc_model.specs.declared.values.Holder.TheVariants.{Frozen}
use Rattle.bc_mutator.specs.Objects.{MayOperate}
use Rattle.bc_mutator.specs.Operations.{IsOpOf, NeedsEntry, WantsMore}
use Rattle.bc_nursery.specs.Entries.{Entries}
use Rattle.bc_nursery.specs.Nurseries.{Nursery}
use Rattle.bc_nursery.specs.Objects.{left_of}
use Rattle.bc_pins.specs.Calls.{view_of}
use Rattle.bc_pins.specs.Key.{Key, lane_role, owner, owner_role}
use Rattle.bc_pins.specs.declared.pins.Pins.{Pins}
use Rattle.bc_pins.specs.declared.pins.Seat.{Seat}
use Rattle.bc_pins.specs.declared.views.View.{View}
use Rattle.bc_reach.specs.Distinct.{Has}
use Rattle.bc_superpages.specs.declared.headers.PageState.TheVariants.{Gone}
use Rattle.bc_superpages.specs.Layout.{Layout}
use Rattle.bc_superpages.specs.LayoutAt.{IsAllocated, state_at}
use Rattle.bc_superpages.specs.RootWords.{RootWords}
use Rattle.bc_turn.proofs.BusyLemmas.{has-left, same-index}
use Rattle.bc_turn.proofs.AwayLemmas.{NotesGone}
use Rattle.bc_turn.proofs.OtherLemmas.{IsSeatOf, frozen-holder, other-whole}
use Rattle.bc_turn.proofs.PassLemmas.{Passed, Passes, passed, passes-none, passes-then, passes-wider, ready-each}
use Rattle.bc_turn.specs.Begun.{AllRan, AreBegun, HasLeft, of_lane}
use Rattle.bc_turn.specs.Beside.{IsAtEndOr, StopsBeside}
use Rattle.bc_turn.specs.Laying.{AreLaidBack}
use Rattle.bc_whole_heap.specs.Closed.{buffer_of}
use Rattle.bc_whole_heap.specs.Heaps.{HeapView, end_of}
use Rattle.bc_whole_heap.specs.LaneStates.{StandsAs}
use Rattle.bc_lane.proofs.WholeLemmas.{lane-serial}
use Rattle.bc_reach.proofs.Pushed.{Has-get_or}

-- the heap that the lanes below n left, the first of them the one with every page back. What each busy lane has belongs to it: what it has after its operations where it is below n,
-- and else what it began with
pub record Stage (h : HeapView) (hs : List Holder) (serials busy : List ℕ) (old : ℕ → LaneTurn) (seat : ℕ → Seat) (new : ℕ → LaneTurn) (after : ℕ → Seat) (n : ℕ) : Type 0 where
  pub heap : HeapView
  pub births : List ℕ
  pub state : State
  pub stands : StandsAs heap hs births state
  pub passes : Passes hs (Has busy) (heap_back h) heap
  pub long : length heap.roots.words ≡ heap.roots.domains * heap.roots.slots
  pub births_are : (j : ℕ) → n ≤ j → get_or births j 0 ≡ get_or serials j 0
  pub born : (i : ℕ) → i < length busy → get_or busy i 0 < n → get_or births (get_or busy i 0) 0 ≡ (new i).part.serial
  pub ready : (i : ℕ) → i < length busy → MayOperate heap hs (get_or busy i 0)
  pub waits : (i : ℕ) → i < length busy → n ≤ get_or busy i 0 → IsWhole (old i).part (view_of (seat i)) None (end_of h.space) heap
  pub done : (i : ℕ) → i < length busy → get_or busy i 0 < n → IsWhole (new i).part (view_of (after i)) None (end_of h.space) heap

-- what one lane did of its operations, from one heap to the next. `t` is the space after the turn
pub record Link (hs : List Holder) (n : ℕ) (ops : List Op) (serial : ℕ) (told : List Reply) (g k : HeapView) (next : ℕ) (after : List Reply) (t : Layout) : Type 0 where
  pub new : List Reply
  pub told_are : after ≡ told ++ new
  pub did : DidAll hs n (take (length new) (drop (length told) ops)) new g serial k next
  pub births : next ≤ serial + length new
  pub stopped : IsAtEndOr ops after (λ op. StopsBeside hs n op k t)

whole-end : (part : LanePart) (v : View) (end : ℕ) (h : HeapView) → IsWhole part v None end h → IsWhole part v None (end_of h.space) h
whole-end part v end h w = subst (λ (n : ℕ). IsWhole part v None n h) w.belongs.space.end_is w

-- a lane that has no operations left does nothing
pub nothing-did : (hs : List Holder) (n : ℕ) (ops : List Op) (h : HeapView) (s : ℕ) → DidAll hs n (take 0 ops) [] h s h s
nothing-did hs n [] h s = (refl, refl)
nothing-did hs n (op ∷ ops) h s = (refl, refl)

pub nothing-more : (xs : List Reply) → xs ≡ xs ++ []
nothing-more [] = refl
nothing-more (x ∷ xs) = ap (λ (l : List Reply). x ∷ l) (nothing-more xs)

-- a page on which an operation looks, and which is Gone after the turn where some lane holds it: or it is frozen
noted-beside : (hs : List Holder) (n page : ℕ) (v : View) (k : HeapView) (t : Layout) (op : Op) → IsSeatOf hs n v → k.space.domains ≡ v.about.opening.domains → LooksRightOn hs n k op page
    → (owner v.about page ≢ 0 → state_at t.states page ≡ Gone)
    → ((q : ℕ) × LooksRightOn hs n k op q × (state_at t.states q ≡ Gone)) ⊎ ((q : ℕ) × LooksRightOn hs n k op q × (holder_of hs (get_or k.space.domains (q / 4) 0) ≡ Frozen))
noted-beside hs n page v k t op seat domains looks gone = elim (cases_eq (owner v.about page) 0) [
  | inl frozen ↦ inr (page, looks, subst (λ (ds : List ℕ). holder_of hs (get_or ds (page / 4) 0) ≡ Frozen) (sym domains) (frozen-holder hs n page v seat frozen))
  | inr owned ↦ inl (page, looks, gone owned)
]

-- why a lane stopped, said of the heap to which belongs what it has and of the space after the turn
stops-beside : (hs : List Holder) (n end : ℕ) (part : LanePart) (u v : View) (k : HeapView) (t : Layout) (op : Op) (why : Stop) → part.holders.items ≡ hs → part.lane ≡ n → IsSeatOf hs n v → IsWhole part v None end k → IsOpOf k.roots op → NotesGone v k.space t → StopsOp u part v None end op why
    → StopsBeside hs n op k t
stops-beside hs n end part u v k t op why eh el seat whole fits notes stops =
    subst (λ (l : ℕ). StopsBeside hs l op k t) el (subst (λ (l : List Holder). StopsBeside l part.lane op k t) eh (go why stops))
  where
    here : IsSeatOf part.holders.items part.lane v
    here = subst (λ (l : ℕ). IsSeatOf part.holders.items l v) (sym el) (subst (λ (l : List Holder). IsSeatOf l n v) (sym eh) seat)

    beside : (page : ℕ) → LooksRightOn part.holders.items part.lane k op page → (owner v.about page ≢ 0 → state_at t.states page ≡ Gone)
        → ((q : ℕ) × LooksRightOn part.holders.items part.lane k op q × (state_at t.states q ≡ Gone)) ⊎ ((q : ℕ) × LooksRightOn part.holders.items part.lane k op q × (holder_of part.holders.items (get_or k.space.domains (q / 4) 0) ≡ Frozen))
    beside page looks gone = noted-beside part.holders.items part.lane page v k t op here (ap (λ (s : Layout). s.domains) whole.belongs.space.same) looks gone

    go : (w : Stop) → StopsOp u part v None end op w → StopsBeside part.holders.items part.lane op k t
    go stop.End s = absurd s
    go stop.NurseryFull s = inl (subst (λ (c : Nursery). WantsMore part.holders.items part.lane (left_of c) op) (sym whole.belongs.chunk_is) s)
    go stop.BufferFull s = inr (inl (subst (λ (c : Nursery). NeedsEntry part.holders.items part.lane k.space k.roots c (buffer_of k.buffers part.lane) op) (sym whole.belongs.chunk_is)
        (subst (λ (b : Entries). NeedsEntry part.holders.items part.lane k.space k.roots part.chunk b op) (sym whole.belongs.buffer_is) (s k whole fits))))
    go (stop.Busy page) s = let looks = s.1 k whole fits in let on = looks.looks in inr (inr (beside page looks (λ owned. elim s.0 [
      | inl reads ↦ notes page on.0.0 on.2 on.3 owned (inr reads.noted)
      | inr reads ↦ absurd (owned reads.frozen)
    ])))
    go stop.NoFrame s = let looks = s.2 k whole fits in let on = looks.looks in inr (inr (beside s.0 looks (λ owned. notes s.0 on.0.0 on.2 on.3 owned (inl s.1.noted))))
    go (stop.Gone page) s = inr (inr (beside page (s.1 k whole fits) (λ owned. absurd (owned s.0.frozen))))
    go (stop.Moved page) s = inr (inr (beside page (s.1 k whole fits) (λ owned. absurd (owned s.0.frozen))))

module _ (pins : Pins) (h : HeapView) (hs : List Holder) (serials : List ℕ) (lanes : List (List Op)) (before : List (List Reply)) (busy : List ℕ) (old : ℕ → LaneTurn) (seat : ℕ → Seat) (new : ℕ → LaneTurn) (after : ℕ → Seat)
    (begun : AreBegun pins h hs serials lanes before busy old seat) (ran : AllRan lanes busy old seat new after) (state : State) (stands : StandsAs (heap_back h) hs serials state)
    (words : length h.roots.words ≡ h.roots.domains * h.roots.slots) (ops : (j : ℕ) → Has busy j → AllByRecursion (IsOpOf h.roots) (of_lane lanes j)) where
  abbrev end : ℕ
  end = end_of h.space

  abbrev At : ℕ → Type 0
  At n = Stage h hs serials busy old seat new after n

  abbrev lane : ℕ → ℕ
  lane i = get_or busy i 0

  -- what a run says of the heap at the beginning
  pub first-ran : (i : ℕ) → i < length busy → LaneRan (of_lane lanes (lane i)) end (old i) (view_of (seat i)) None (new i) (view_of (after i)) None
  first-ran i lt = (ran.each i lt).ran (heap_back h) (begun.each i lt).whole

  pub new-holders : (i : ℕ) → i < length busy → (new i).part.holders.items ≡ hs
  new-holders i lt = ap (λ v. v.items) (first-ran i lt).same.holders ∙ (begun.each i lt).holders_are

  pub new-lane : (i : ℕ) → i < length busy → (new i).part.lane ≡ lane i
  new-lane i lt = (first-ran i lt).same.lane ∙ begun.lane_is i lt

  pub old-seat : (i : ℕ) → i < length busy → IsSeatOf hs (lane i) (view_of (seat i))
  old-seat i lt =
      let b = begun.each i lt in
      record {
        owners = ap (λ (v : View). v.about.owners) b.view ∙ b.going.table.owners ∙ ap (map owner_role) b.holders_are;
        roles = ap (λ (v : View). v.roles) b.view ∙ ap (λ (l : ℕ). lane_role l ∷ []) (begun.lane_is i lt);
      }

  pub new-seat : (i : ℕ) → i < length busy → IsSeatOf hs (lane i) (view_of (after i))
  new-seat i lt =
      let s = (ran.each i lt).seat_is in
      let o = old-seat i lt in
      record { owners = ap (λ (k : Key). k.owners) s.about ∙ o.owners; roles = s.roles ∙ o.roles }

  start : At 0
  start = record {
    heap = heap_back h;
    births = serials;
    state = state;
    stands = stands;
    passes = passes-none hs (Has busy) (heap_back h);
    long = words;
    births_are = λ j le. refl;
    born = λ i lt less. absurd (omega arith);
    ready = λ i lt.
        let b = begun.each i lt in
        subst (λ (l : ℕ). MayOperate (heap_back h) hs l) (begun.lane_is i lt) (subst (λ (l : List Holder). MayOperate (heap_back h) l (old i).part.lane) b.holders_are b.whole.ready);
    waits = λ i lt le. (begun.each i lt).whole;
    done = λ i lt less. absurd (omega arith);
  }

  -- a lane without operations leaves the heap
  module _ (n : ℕ) (s : At n) (none : Has busy n → ⊥) where
    below : (i : ℕ) → i < length busy → lane i < suc n → lane i < n
    below i lt less = elim (cases_eq (lane i) n) [
      | inl e ↦ absurd (none (subst (Has busy) e (Has-get_or busy i lt)))
      | inr ne ↦ elim (cases_lt (lane i) n) [
        | inl l ↦ l
        | inr le ↦ absurd (ne (omega arith))
      ]
    ]

    stage-same : At (suc n)
    stage-same = record {
      heap = s.heap;
      births = s.births;
      state = s.state;
      stands = s.stands;
      passes = s.passes;
      long = s.long;
      births_are = λ j le. s.births_are j (omega arith);
      born = λ i lt less. s.born i lt (below i lt less);
      ready = s.ready;
      waits = λ i lt le. s.waits i lt (omega arith);
      done = λ i lt less. s.done i lt (below i lt less);
    }

    link-same : (next : ℕ) (told : List Reply) (t : Layout) → next ≡ get_or serials n 0 → told ≡ of_lane before n → (HasLeft lanes before n → ⊥) → Link hs n (of_lane lanes n) (get_or serials n 0) (of_lane before n) s.heap s.heap next told t
    link-same next told t en et all = record {
      new = [];
      told_are = et ∙ nothing-more (of_lane before n);
      did = subst (λ (m : ℕ). DidAll hs n (take 0 (drop (length (of_lane before n)) (of_lane lanes n))) [] s.heap (get_or serials n 0) s.heap m) (sym en)
          (nothing-did hs n (drop (length (of_lane before n)) (of_lane lanes n)) s.heap (get_or serials n 0));
      births = omega arith;
      stopped = inl (elim (cases_lt (length (of_lane before n)) (length (of_lane lanes n))) [
        | inl lt ↦ absurd (all lt)
        | inr le ↦ subst (λ (l : List Reply). length (of_lane lanes n) ≤ length l) (sym et) le
      ]);
    }

  -- and a busy one leaves the heap that its operations make
  module _ (n : ℕ) (s : At n) (i : ℕ) (lt : i < length busy) (is : lane i ≡ n) where
    abbrev o : LaneTurn
    o = old i

    abbrev w : LaneTurn
    w = new i

    here : IsWhole o.part (view_of (seat i)) None (end_of s.heap.space) s.heap
    here = whole-end o.part (view_of (seat i)) end s.heap (s.waits i lt (omega arith))

    run : LaneRan (of_lane lanes (lane i)) (end_of s.heap.space) o (view_of (seat i)) None w (view_of (after i)) None
    run = (ran.each i lt).ran s.heap here

    fits-at : (k : HeapView) → Passes hs (Has busy) (heap_back h) k → AllByRecursion (IsOpOf k.roots) (of_lane lanes (lane i))
    fits-at k passes = subst (λ (r : RootWords). AllByRecursion (IsOpOf r) (of_lane lanes (lane i))) (sym passes.roots) (ops (lane i) (Has-get_or busy i lt))

    abbrev Made : Type 0
    Made = (k : HeapView) × IsWhole w.part (view_of (after i)) None (end_of s.heap.space) k
        × DidAll o.part.holders.items o.part.lane (take (length run.replies) (drop o.next (of_lane lanes (lane i)))) run.replies s.heap o.part.serial k w.part.serial

    made : Made
    made = let d = run.done s.heap here (fits-at s.heap s.passes) in (d.0, d.1, d.3)

    abbrev k : HeapView
    k = made.0

    lane-n : o.part.lane ≡ n
    lane-n = begun.lane_is i lt ∙ is

    next-n : o.next ≡ length (of_lane before n)
    next-n = (begun.each i lt).next ∙ ap (λ (l : ℕ). length (of_lane before l)) lane-n

    serial-n : o.part.serial ≡ get_or serials n 0
    serial-n = (begun.each i lt).serial_is ∙ ap (λ (l : ℕ). get_or serials l 0) lane-n

    did : DidAll hs n (take (length run.replies) (drop (length (of_lane before n)) (of_lane lanes n))) run.replies s.heap (get_or serials n 0) k w.part.serial
    did =
        let m : ℕ = length run.replies in
        subst (λ (q : ℕ). DidAll hs n (take m (drop (length (of_lane before n)) (of_lane lanes n))) run.replies s.heap q k w.part.serial) serial-n
        (subst (λ (q : ℕ). DidAll hs n (take m (drop (length (of_lane before n)) (of_lane lanes q))) run.replies s.heap o.part.serial k w.part.serial) is
        (subst (λ (q : ℕ). DidAll hs n (take m (drop q (of_lane lanes (lane i)))) run.replies s.heap o.part.serial k w.part.serial) next-n
        (subst (λ (q : ℕ). DidAll hs q (take m (drop o.next (of_lane lanes (lane i)))) run.replies s.heap o.part.serial k w.part.serial) lane-n
        (subst (λ (l : List Holder). DidAll l o.part.lane (take m (drop o.next (of_lane lanes (lane i)))) run.replies s.heap o.part.serial k w.part.serial) (begun.each i lt).holders_are made.2))))

    within : n < length s.heap.chunks
    within = subst (λ (l : ℕ). l < length s.heap.chunks) is (s.ready i lt).lane_within

    below-births : n < length s.births
    below-births = lane-serial s.heap hs s.births s.state n s.stands within

    passed-n : Passed hs n s.heap k s.births w.part.serial
    passed-n =
        passed hs n (take (length run.replies) (drop (length (of_lane before n)) (of_lane lanes n))) run.replies s.heap k (get_or serials n 0) w.part.serial s.births s.state did s.stands
        (s.births_are n (omega arith)) below-births (subst (λ (l : ℕ). MayOperate s.heap hs l) is (s.ready i lt))

    passes-h : Passes hs (Has busy) (heap_back h) k
    passes-h =
        passes-then hs (Has busy) (heap_back h) s.heap k s.passes
        (passes-wider hs (λ l. l ≡ n) (Has busy) s.heap k (λ l e. subst (Has busy) (is ∙ sym e) (Has-get_or busy i lt)) passed-n.passes)

    abbrev births : List ℕ
    births = set s.births n w.part.serial

    births-other : (l : ℕ) → (l ≡ n → ⊥) → get_or births l 0 ≡ get_or s.births l 0
    births-other l off = get_or-set_other s.births n l w.part.serial 0 off

    births-here : get_or births n 0 ≡ w.part.serial
    births-here = get_or-set_same s.births n w.part.serial 0 below-births

    same-one : (j : ℕ) → j < length busy → lane j ≡ n → i ≡ j
    same-one j lj e = same-index lanes before busy begun.busy_are i j lt lj (is ∙ sym e)

    long-k : length k.roots.words ≡ k.roots.domains * k.roots.slots
    long-k = made.1.belongs.roots.long

    ready-k : (j : ℕ) → j < length busy → MayOperate k hs (lane j)
    ready-k j lj = ready-each k hs n (lane j) passed-n.ready (subst (λ (l : ℕ). lane j < l) (sym passed-n.passes.chunks) (s.ready j lj).lane_within)

    other : (j : ℕ) (part : LanePart) (v : View) → j < length busy → (lane j ≡ n → ⊥) → part.lane ≡ lane j → part.holders.items ≡ hs → IsSeatOf hs (lane j) v → get_or s.births (lane j) 0 ≡ part.serial
        → IsWhole part v None end s.heap → IsWhole part v None end k
    other j part v lj off el eh sv es whole =
        other-whole hs n part v end s.heap k (subst (λ (l : ℕ). IsSeatOf hs l v) (sym el) sv) eh (λ e. off (sym el ∙ e)) whole passed-n.passes long-k
        (subst (λ (l : ℕ). MayOperate k hs l) (sym el) (ready-k j lj))
        (births, passed-n.state, passed-n.stands, ap (λ (l : ℕ). get_or births l 0) el ∙ births-other (lane j) off ∙ es)

    done-k : (j : ℕ) → j < length busy → lane j < suc n → (lane j ≡ n) ⊎ (lane j ≡ n → ⊥) → IsWhole (new j).part (view_of (after j)) None end k
    done-k j lj less (inl e) =
        subst (λ (q : ℕ). IsWhole (new q).part (view_of (after q)) None end k) (same-one j lj e)
        (subst (λ (q : ℕ). IsWhole w.part (view_of (after i)) None q k) (sym (s.waits i lt (omega arith)).belongs.space.end_is) made.1)
    done-k j lj less (inr off) =
        let l : lane j < n = not-this (lane j) off less in
        other j (new j).part (view_of (after j)) lj off (new-lane j lj) (new-holders j lj) (new-seat j lj) (s.born j lj l) (s.done j lj l)
      where
        not-this : (l : ℕ) → (l ≡ n → ⊥) → l < suc n → l < n
        not-this l ne lt = elim (cases_lt l n) [
          | inl x ↦ x
          | inr le ↦ absurd (ne (omega arith))
        ]

    born-k : (j : ℕ) → j < length busy → lane j < suc n → (lane j ≡ n) ⊎ (lane j ≡ n → ⊥) → get_or births (lane j) 0 ≡ (new j).part.serial
    born-k j lj less (inl e) = ap (λ (l : ℕ). get_or births l 0) e ∙ births-here ∙ ap (λ (q : ℕ). (new q).part.serial) (same-one j lj e)
    born-k j lj less (inr off) = births-other (lane j) off ∙ s.born j lj (elim (cases_lt (lane j) n) [
      | inl x ↦ x
      | inr le ↦ absurd (off (omega arith))
    ])

    stage-next : At (suc n)
    stage-next = record {
      heap = k;
      births = births;
      state = passed-n.state;
      stands = passed-n.stands;
      passes = passes-h;
      long = long-k;
      births_are = λ j le. births-other j (λ e. absurd (omega arith)) ∙ s.births_are j (omega arith);
      born = λ j lj less. born-k j lj less (cases_eq (lane j) n);
      ready = ready-k;
      waits = λ j lj le.
          let b = begun.each j lj in
          other j (old j).part (view_of (seat j)) lj (λ e. absurd (omega arith)) (begun.lane_is j lj) b.holders_are (old-seat j lj)
          (s.births_are (lane j) (omega arith) ∙ sym (b.serial_is ∙ ap (λ (l : ℕ). get_or serials l 0) (begun.lane_is j lj))) (s.waits j lj (omega arith));
      done = λ j lj less. done-k j lj less (cases_eq (lane j) n);
    }

    -- its replies, and why it stopped
    replies-are : w.replies.items ≡ of_lane before n ++ run.replies
    replies-are = run.kept ∙ ap (λ (l : List Reply). l ++ run.replies) ((begun.each i lt).replies_are ∙ ap (of_lane before) lane-n)

    next-is : w.next ≡ length (of_lane before n ++ run.replies)
    next-is = run.next ∙ ap (λ (q : ℕ). q + length run.replies) next-n ∙ sym (length-append (of_lane before n) run.replies)

    stopped-n : (told : List Reply) (t : Layout) → told ≡ w.replies.items → NotesGone (view_of (after i)) h.space t → IsAtEndOr (of_lane lanes n) told (λ op. StopsBeside hs n op k t)
    stopped-n told t et notes =
        subst (λ (l : List Reply). IsAtEndOr (of_lane lanes n) l (λ op. StopsBeside hs n op k t)) (sym (et ∙ replies-are))
        (subst (λ (q : ℕ). IsAtEndOr (of_lane lanes q) (of_lane before n ++ run.replies) (λ op. StopsBeside hs n op k t)) is
        (why ((ran.each i lt).stopped s.heap here)))
      where
        why : WhyStopped (view_of (seat i)) (of_lane lanes (lane i)) (end_of s.heap.space) w (view_of (after i)) None (ran.why i) → IsAtEndOr (of_lane lanes (lane i)) (of_lane before n ++ run.replies) (λ op. StopsBeside hs n op k t)
        why (inl e) = inl (subst (λ (q : ℕ). length (of_lane lanes (lane i)) ≤ q) next-is e.1)
        why (inr e) = inr (
          e.0,
          subst (λ (q : ℕ). q < length (of_lane lanes (lane i))) next-is e.1,
          subst (λ (q : ℕ). e.0 ≡ get_or (of_lane lanes (lane i)) q e.0) next-is e.2,
          stops-beside hs n (end_of s.heap.space) w.part (view_of (seat i)) (view_of (after i)) k t e.0 (ran.why i) (new-holders i lt) (new-lane i lt ∙ is) (subst (λ (l : ℕ). IsSeatOf hs l (view_of (after i))) is (new-seat i lt)) made.1
              (subst (IsOpOf k.roots) (sym e.2) (at-index (IsOpOf k.roots) (of_lane lanes (lane i)) w.next e.0 (fits-at k passes-h) e.1))
              (λ page cell there. notes page cell (subst (λ (x : Layout). IsAllocated x cell) passes-h.space there)) e.3,
        )

    link-next : (next : ℕ) (told : List Reply) (t : Layout) → next ≡ w.part.serial → told ≡ w.replies.items → NotesGone (view_of (after i)) h.space t
        → Link hs n (of_lane lanes n) (get_or serials n 0) (of_lane before n) s.heap k next told t
    link-next next told t en et notes = record {
      new = run.replies;
      told_are = et ∙ replies-are;
      did = subst (λ (m : ℕ). DidAll hs n (take (length run.replies) (drop (length (of_lane before n)) (of_lane lanes n))) run.replies s.heap (get_or serials n 0) k m) (sym en) did;
      births = (let few = run.serial in let from = serial-n in omega arith);
      stopped = stopped-n told t et notes;
    }

  -- all of them, where what they took into the turn is laid back so, and pages that stopped them are Gone
  module _ (end_heap : HeapView) (nexts : List ℕ) (told : List (List Reply)) (laid : AreLaidBack hs busy new (length busy) h serials before end_heap nexts told)
      (notes : (i : ℕ) → i < length busy → NotesGone (view_of (after i)) h.space end_heap.space) where
    abbrev Linked : (n : ℕ) → At n → At (suc n) → Type 0
    Linked n s t = Link hs n (of_lane lanes n) (get_or serials n 0) (of_lane before n) s.heap t.heap (get_or nexts n 0) (of_lane told n) end_heap.space

    go-on : (n : ℕ) (s : At n) → (t : At (suc n)) × Linked n s t
    unfolding stage-next stage-same
    go-on n s = elim (cases_lt (length (of_lane before n)) (length (of_lane lanes n))) [
      | inl lt ↦
          let b = begun.busy_are.all n lt in (
            stage-next n s b.0 b.1 b.2,
            link-next n s b.0 b.1 b.2 (get_or nexts n 0) (of_lane told n) end_heap.space
                (ap (λ (l : ℕ). get_or nexts l 0) (sym b.2) ∙ laid.births b.0 b.1) (ap (of_lane told) (sym b.2) ∙ laid.replies b.0 b.1) (notes b.0 b.1),
          )
      | inr le ↦
          let all : HasLeft lanes before n → ⊥ = (λ lt. absurd (omega arith)) in
          let none : Has busy n → ⊥ = (λ has. all (has-left lanes before busy begun.busy_are n has)) in (
            stage-same n s none,
            link-same n s none (get_or nexts n 0) (of_lane told n) end_heap.space (laid.births_else n none) (laid.replies_else n none) all,
          )
    ]

    pub stages : (n : ℕ) → At n
    stages zero = start
    stages (suc n) = (go-on n (stages n)).0

    pub linked : (n : ℕ) → Linked n (stages n) (stages (suc n))
    unfolding stages
    linked n = (go-on n (stages n)).1

    pub first : (stages 0).heap ≡ heap_back h
    unfolding stages start
    first = refl
