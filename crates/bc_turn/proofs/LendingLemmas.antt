-- Lanes take what is their own out of the heap, one after another, the last lane first.
use Rattle.std.proofs.Common.{◌≡◌, ◌≢◌, ℕ, ◌+◌, ◌-◌, ◌<◌, ◌≤◌, List, [], ◌∷◌, ◌++◌, length, set, get_or, Vec, vec_capacity, inl, inr, refl, ap, sym, subst, ◌∙◌, arith, length-set, get_or-set_other, append_assoc}
use Rattle.std.specs.declared.alloc.Global.{Global}
use Rattle.std.proofs.Math.Seq.{get_or-append_seam}
use Rattle.std.proofs.lemmas.Bool.{cases_lt}
use Rattle.std.proofs.lemmas.List.{get_or_push, get_or_append_left, get_or-map, length-map, map-append, map-set, length_push}
use Rattle.bc_model.specs.Rows.{lists_of}
use Rattle.bc_model.specs.declared.operations.Op.{Op}
use Rattle.bc_model.specs.declared.operations.Reply.{Reply}
use Rattle.bc_model.specs.declared.values.Holder.{Holder}
use Rattle.bc_mutator.specs.Objects.{own_chunk}
use Rattle.bc_nursery.specs.Entries.{Entries}
use Rattle.bc_nursery.specs.Nurseries.{Nursery}
use Rattle.bc_pins.specs.declared.pins.Seat.{Seat}
use Rattle.bc_reach.specs.Distinct.{Has}
use Rattle.bc_reach.proofs.Pushed.{Has-front, Has-last, place_of}
use Rattle.bc_lane.specs.Turns.{IsPreparedTurn}
use Rattle.bc_superpages.specs.RootWords.{RootWords}
use Rattle.bc_turn.specs.declared.rooms.Spare.{Spare}
use Rattle.bc_turn.specs.declared.runs.Run.{Run}
use Rattle.bc_turn.specs.Begun.{AreBusyLanes, HasLeft, of_lane}
use Rattle.bc_turn.specs.Taking.{AreAway, AreSparesOf, AreTaken, AreWordsOf, FitsLanes, HasReplyRoom, HasRoomForLane, IsSpareOf, TakesAlong, running_lanes, spare_lanes, turn_at}
use Rattle.bc_whole_heap.specs.Closed.{buffer_of, no_buffer}
use Rattle.bc_whole_heap.specs.Heaps.{HeapView, no_chunk}

-- what is true while the lanes take along what is their own: `spares` and `seats` are those that are left
pub record Lending (hs : List Holder) (serials : List ℕ) (lanes : List (List Op)) (h : HeapView) (before : List (Vec Reply Global)) (spares0 : List Spare) (seats0 : List Seat)
    (spares : List Spare) (seats : List Seat) (k : HeapView) (after : List (Vec Reply Global)) (runs : List Run) : Type 0 where
  pub behind : List Spare
  pub front : spares ++ behind ≡ spares0
  pub seats_behind : List Seat
  pub seats_front : seats ++ seats_behind ≡ seats0
  pub even : length seats ≡ length spares
  pub count : length runs + length spares ≡ length spares0
  pub lanes_are : (r : ℕ) → r < length runs → get_or (running_lanes runs) r 0 ≡ get_or (spare_lanes spares0) (length spares0 - (r + 1)) 0
  pub each : (r : ℕ) → r < length runs → (d : Run) → TakesAlong h hs serials lanes (lists_of before) (get_or (spare_lanes spares0) (length spares0 - (r + 1)) 0) (get_or runs r d).turn
  pub seats_are : (r : ℕ) → r < length runs → (d : Run) → (e : Seat) → (get_or runs r d).seat ≡ get_or seats0 (length spares0 - (r + 1)) e
  pub enough : (r : ℕ) → r < length runs → (d : Run) → HasRoomForLane lanes (get_or runs r d).turn
  pub away : AreAway (running_lanes runs) h (lists_of before) k (lists_of after)
  pub room : HasReplyRoom lanes after (running_lanes runs)

pub lending-none : (hs : List Holder) (serials : List ℕ) (lanes : List (List Op)) (h : HeapView) (before : List (Vec Reply Global)) (spares : List Spare) (seats : List Seat) (runs : List Run)
    → length seats ≡ length spares → runs ≡ [] → HasReplyRoom lanes before [] → Lending hs serials lanes h before spares seats spares seats h before runs
lending-none hs serials lanes h before spares seats runs even none room = record {
  behind = [];
  front = append-nil spares;
  seats_behind = [];
  seats_front = append-nil seats;
  even = even;
  count = let z = ap length none in omega arith;
  lanes_are = λ r lt. absurd (let z = ap length none in omega arith);
  each = λ r lt d. absurd (let z = ap length none in omega arith);
  seats_are = λ r lt d e. absurd (let z = ap length none in omega arith);
  enough = λ r lt d. absurd (let z = ap length none in omega arith);
  away = record { same = refl; chunks_long = refl; buffers_long = refl; replies_long = refl; chunk = λ l off. refl; buffer = λ l off. refl; replies = λ l off. refl };
  room = subst (λ (rs : List Run). HasReplyRoom lanes before (running_lanes rs)) (sym none) room;
}
  where
    append-nil : {X : Type 0} (xs : List X) → xs ++ [] ≡ xs
    append-nil {X = X} [] = refl
    append-nil {X = X} (x ∷ xs) = ap (λ (t : List X). x ∷ t) (append-nil xs)

-- the next room and the next seat
module _ (hs : List Holder) (serials : List ℕ) (lanes : List (List Op)) (h : HeapView) (before : List (Vec Reply Global)) (spares0 : List Spare) (seats0 : List Seat) (spares left : List Spare) (seats places : List Seat)
    (k : HeapView) (after : List (Vec Reply Global)) (runs : List Run) (is : Lending hs serials lanes h before spares0 seats0 spares seats k after runs) (busy : AreBusyLanes lanes (lists_of before) (spare_lanes spares0))
    (spare : Spare) (seat : Seat) (spares_are : spares ≡ left ++ spare ∷ []) (seats_are : seats ≡ places ++ seat ∷ []) where
  spares-split : left ++ spare ∷ is.behind ≡ spares0
  spares-split = sym (append_assoc left (spare ∷ []) is.behind) ∙ ap (λ (xs : List Spare). xs ++ is.behind) (sym spares_are) ∙ is.front

  seats-split : places ++ seat ∷ is.seats_behind ≡ seats0
  seats-split = sym (append_assoc places (seat ∷ []) is.seats_behind) ∙ ap (λ (xs : List Seat). xs ++ is.seats_behind) (sym seats_are) ∙ is.seats_front

  pub left-count : length spares ≡ length left + 1
  left-count = ap length spares_are ∙ length_push left spare

  pub places-count : length seats ≡ length places + 1
  places-count = ap length seats_are ∙ length_push places seat

  pub left-even : length places ≡ length left
  left-even = let a = left-count in let b = places-count in let e = is.even in omega arith

  pub all-count : length spares0 ≡ length runs + (length left + 1)
  all-count = let a = left-count in let c = is.count in omega arith

  pub next-spare : (d : Spare) → get_or spares0 (length left) d ≡ spare
  next-spare d = ap (λ (xs : List Spare). get_or xs (length left) d) (sym spares-split) ∙ get_or-append_seam left spare is.behind d

  pub next-seat : (d : Seat) → get_or seats0 (length left) d ≡ seat
  next-seat d =
      ap (λ (i : ℕ). get_or seats0 i d) (sym left-even) ∙ ap (λ (xs : List Seat). get_or xs (length places) d) (sym seats-split) ∙ get_or-append_seam places seat is.seats_behind d

  pub lane-there : length left < length (spare_lanes spares0)
  lane-there = let a = all-count in let m = length-map spares0 (λ (s : Spare). s.lane) in omega arith

  pub next-lane : get_or (spare_lanes spares0) (length left) 0 ≡ spare.lane
  next-lane = let a = all-count in get_or-map (λ (s : Spare). s.lane) spares0 (length left) spare 0 (omega arith) ∙ ap (λ (s : Spare). s.lane) (next-spare spare)

  pub lane-within : spare.lane < length lanes
  lane-within = subst (λ (x : ℕ). x < length lanes) next-lane (busy.within (length left) lane-there)

  pub spare-is : AreSparesOf hs h.roots.slots spares0 → IsSpareOf hs h.roots.slots spare
  spare-is all = let a = all-count in subst (IsSpareOf hs h.roots.slots) (next-spare spare) (all (length left) (omega arith) spare)

  pub spare-off : (Has (running_lanes runs) spare.lane) → ⊥
  spare-off has =
      let p = place_of (running_lanes runs) spare.lane has in
      let m = length-map runs (λ (run : Run). run.turn.part.lane) in
      let lt : p.0 < length runs = omega (arith, p.1) in
      let e : get_or (spare_lanes spares0) (length spares0 - (p.0 + 1)) 0 ≡ spare.lane = sym (is.lanes_are p.0 lt) ∙ p.2 in
      let a = all-count in
      let ms = length-map spares0 (λ (s : Spare). s.lane) in
      let less = busy.rising (length left) (length spares0 - (p.0 + 1)) (omega arith) (omega arith) in
      omega (arith, e, next-lane, less)

  pub spare-left : HasLeft lanes (lists_of after) spare.lane
  spare-left =
      let more = subst (HasLeft lanes (lists_of before)) next-lane (busy.more (length left) lane-there) in
      subst (λ (rs : List Reply). length rs < length (of_lane lanes spare.lane)) (sym (is.away.replies spare.lane spare-off)) more

  pub spare-fits : (serial_count : ℕ) → FitsLanes (length lanes) h serial_count (length before) → FitsLanes (length lanes) k serial_count (length after)
  spare-fits n fits =
      let a = is.away in
      let b = length-map before (λ (v : Vec Reply Global). v.items) in
      let c = length-map after (λ (v : Vec Reply Global). v.items) in
      let d = a.replies_long in
      record { chunks = a.chunks_long ∙ fits.chunks; buffers = a.buffers_long ∙ fits.buffers; births = fits.births; told = (let t = fits.told in omega arith) }

  pub spare-room : (v : Vec Reply Global) → length before ≡ length lanes → v ≡ get_or after spare.lane v → length (of_lane lanes spare.lane) ≤ vec_capacity v
  spare-room v long e =
      let b = length-map before (λ (u : Vec Reply Global). u.items) in
      let c = length-map after (λ (u : Vec Reply Global). u.items) in
      let d = is.away.replies_long in
      let w = lane-within in
      is.room spare.lane v (omega arith) spare-off e

  -- the lane has taken along what is its own
  module _ (g : HeapView) (told : List (Vec Reply Global)) (run : Run) (takes : TakesAlong k hs serials lanes (lists_of after) spare.lane run.turn) (enough : length (of_lane lanes spare.lane) ≤ vec_capacity run.turn.replies)
      (seat_is : run.seat ≡ seat) (same : g ≡ record k { chunks = g.chunks; buffers = g.buffers }) (chunk : Nursery) (chunks_are : g.chunks ≡ set k.chunks spare.lane chunk) (buffer : Entries) (buffers_are : g.buffers ≡ set k.buffers spare.lane buffer)
      (none : Vec Reply Global) (told_are : told ≡ set after spare.lane none) where
    lane-is : run.turn.part.lane ≡ spare.lane
    lane-is = takes.prepared.lane_is

    lanes-pushed : running_lanes (runs ++ run ∷ []) ≡ running_lanes runs ++ spare.lane ∷ []
    lanes-pushed = map-append (λ (r : Run). r.turn.part.lane) runs (run ∷ []) ∙ ap (λ (x : ℕ). running_lanes runs ++ x ∷ []) lane-is

    runs-pushed : length (runs ++ run ∷ []) ≡ length runs + 1
    runs-pushed = length_push runs run

    lanes-long : length (running_lanes runs) ≡ length runs
    lanes-long = length-map runs (λ (r : Run). r.turn.part.lane)

    place-is : (r : ℕ) → r ≡ length runs → length spares0 - (r + 1) ≡ length left
    place-is r e = let a = all-count in omega arith

    roots-same : k.roots ≡ h.roots
    roots-same = ap (λ (v : HeapView). v.roots) is.away.same

    abbrev prepared : RootWords → Nursery → Entries → Type 0
    prepared r c b = IsPreparedTurn spare.lane hs r.slots r takes.roots c b (get_or serials spare.lane 0) takes.told (length (of_lane lanes spare.lane)) run.turn

    takes-first : TakesAlong h hs serials lanes (lists_of before) spare.lane run.turn
    takes-first = record {
      roots = takes.roots;
      domains = takes.domains;
      words = subst (λ (r : RootWords). AreWordsOf r takes.roots.domains.items takes.roots.words.items) roots-same takes.words;
      told = takes.told;
      told_are = takes.told_are ∙ is.away.replies spare.lane spare-off;
      prepared = subst (λ (r : RootWords). prepared r (own_chunk h spare.lane) (buffer_of h.buffers spare.lane)) roots-same
          (subst (λ (c : Nursery). prepared k.roots c (buffer_of h.buffers spare.lane)) (is.away.chunk spare.lane spare-off)
          (subst (λ (b : Entries). prepared k.roots (own_chunk k spare.lane) b) (is.away.buffer spare.lane spare-off) takes.prepared));
    }

    off-both : (l : ℕ) → (Has (running_lanes (runs ++ run ∷ [])) l → ⊥) → (l ≢ spare.lane) × (Has (running_lanes runs) l → ⊥)
    off-both l off = (
      λ e. off (subst (λ (xs : List ℕ). Has xs l) (sym lanes-pushed) (subst (Has (running_lanes runs ++ spare.lane ∷ [])) (sym e) (Has-last (running_lanes runs) spare.lane))),
      λ has. off (subst (λ (xs : List ℕ). Has xs l) (sym lanes-pushed) (Has-front (running_lanes runs) (spare.lane ∷ []) l has)),
    )

    lists-are : lists_of told ≡ set (lists_of after) spare.lane none.items
    lists-are = ap lists_of told_are ∙ map-set (λ (v : Vec Reply Global). v.items) after spare.lane none

    away-more : AreAway (running_lanes (runs ++ run ∷ [])) h (lists_of before) g (lists_of told)
    away-more = record {
      same = same ∙ ap (λ (v : HeapView). record v { chunks = g.chunks; buffers = g.buffers }) is.away.same;
      chunks_long = ap length chunks_are ∙ length-set k.chunks spare.lane chunk ∙ is.away.chunks_long;
      buffers_long = ap length buffers_are ∙ length-set k.buffers spare.lane buffer ∙ is.away.buffers_long;
      replies_long = ap length lists-are ∙ length-set (lists_of after) spare.lane none.items ∙ is.away.replies_long;
      chunk = λ l off. (let o = off-both l off in ap (λ (cs : List Nursery). get_or cs l no_chunk) chunks_are ∙ get_or-set_other k.chunks spare.lane l chunk no_chunk o.0 ∙ is.away.chunk l o.1);
      buffer = λ l off. (let o = off-both l off in ap (λ (bs : List Entries). get_or bs l no_buffer) buffers_are ∙ get_or-set_other k.buffers spare.lane l buffer no_buffer o.0 ∙ is.away.buffer l o.1);
      replies = λ l off. (let o = off-both l off in ap (λ (ls : List (List Reply)). get_or ls l []) lists-are ∙ get_or-set_other (lists_of after) spare.lane l none.items [] o.0 ∙ is.away.replies l o.1);
    }

    room-more : HasReplyRoom lanes told (running_lanes (runs ++ run ∷ []))
    room-more j v lt off e =
        let o = off-both j off in
        let long : length told ≡ length after = ap length told_are ∙ length-set after spare.lane none in
        is.room j v (omega arith) o.1 (e ∙ ap (λ (vs : List (Vec Reply Global)). get_or vs j v) told_are ∙ get_or-set_other after spare.lane j none v o.0)

    old-run : (r : ℕ) (d : Run) → r < length runs → get_or (runs ++ run ∷ []) r d ≡ get_or runs r d
    old-run r d lt = get_or_append_left runs (run ∷ []) d r lt

    new-run : (r : ℕ) (d : Run) → r ≡ length runs → get_or (runs ++ run ∷ []) r d ≡ run
    new-run r d e = get_or_push runs run d r (sym e)

    pub lending-more : Lending hs serials lanes h before spares0 seats0 left places g told (runs ++ run ∷ [])
    lending-more = record {
      behind = spare ∷ is.behind;
      front = spares-split;
      seats_behind = seat ∷ is.seats_behind;
      seats_front = seats-split;
      even = left-even;
      count = let a = all-count in let p = runs-pushed in omega arith;
      lanes_are = λ r lt. elim (cases_lt r (length runs)) [
        | inl near ↦ ap (λ (xs : List ℕ). get_or xs r 0) lanes-pushed ∙ get_or_append_left (running_lanes runs) (spare.lane ∷ []) 0 r (let l = lanes-long in omega arith) ∙ is.lanes_are r near
        | inr far ↦
            let e : r ≡ length runs = (let p = runs-pushed in omega arith) in
            ap (λ (xs : List ℕ). get_or xs r 0) lanes-pushed ∙ get_or_push (running_lanes runs) spare.lane 0 r (lanes-long ∙ sym e) ∙ sym next-lane ∙ ap (λ (i : ℕ). get_or (spare_lanes spares0) i 0) (sym (place-is r e))
      ];
      each = λ r lt d. elim (cases_lt r (length runs)) [
        | inl near ↦ subst (λ (x : Run). TakesAlong h hs serials lanes (lists_of before) (get_or (spare_lanes spares0) (length spares0 - (r + 1)) 0) x.turn) (sym (old-run r d near)) (is.each r near d)
        | inr far ↦
            let e : r ≡ length runs = (let p = runs-pushed in omega arith) in
            subst (λ (x : Run). TakesAlong h hs serials lanes (lists_of before) (get_or (spare_lanes spares0) (length spares0 - (r + 1)) 0) x.turn) (sym (new-run r d e))
            (subst (λ (l : ℕ). TakesAlong h hs serials lanes (lists_of before) l run.turn) (sym next-lane ∙ ap (λ (i : ℕ). get_or (spare_lanes spares0) i 0) (sym (place-is r e))) takes-first)
      ];
      seats_are = λ r lt d s. elim (cases_lt r (length runs)) [
        | inl near ↦ ap (λ (x : Run). x.seat) (old-run r d near) ∙ is.seats_are r near d s
        | inr far ↦
            let e : r ≡ length runs = (let p = runs-pushed in omega arith) in
            ap (λ (x : Run). x.seat) (new-run r d e) ∙ seat_is ∙ sym (next-seat s) ∙ ap (λ (i : ℕ). get_or seats0 i s) (sym (place-is r e))
      ];
      enough = λ r lt d. elim (cases_lt r (length runs)) [
        | inl near ↦ subst (λ (x : Run). HasRoomForLane lanes x.turn) (sym (old-run r d near)) (is.enough r near d)
        | inr far ↦
            let e : r ≡ length runs = (let p = runs-pushed in omega arith) in
            subst (λ (x : Run). HasRoomForLane lanes x.turn) (sym (new-run r d e)) (subst (λ (l : ℕ). length (of_lane lanes l) ≤ vec_capacity run.turn.replies) (sym lane-is) enough)
      ];
      away = away-more;
      room = room-more;
    }

-- all have
pub all-taken : (hs : List Holder) (serials : List ℕ) (lanes : List (List Op)) (h : HeapView) (before : List (Vec Reply Global)) (spares : List Spare) (seats left : List Seat) (k : HeapView) (after : List (Vec Reply Global)) (runs : List Run)
    → Lending hs serials lanes h before spares seats [] left k after runs → AreTaken h hs serials lanes before (spare_lanes spares) seats k after runs
all-taken hs serials lanes h before spares seats left k after runs is =
    let c = is.count in
    let m = length-map spares (λ (s : Spare). s.lane) in
    record {
      long = omega arith;
      each = λ i lt d. subst (λ (j : ℕ). TakesAlong h hs serials lanes (lists_of before) (get_or (spare_lanes spares) j 0) (turn_at d runs i)) (back i (omega arith)) (is.each (length runs - (i + 1)) (omega arith) d);
      seats_are = λ i lt d e. is.seats_are (length runs - (i + 1)) (omega arith) d e ∙ ap (λ (j : ℕ). get_or seats j e) (back i (omega arith));
      enough = λ i lt d. is.enough (length runs - (i + 1)) (omega arith) d;
      away = is.away;
      room = is.room;
    }
  where
    back : (i : ℕ) → i < length runs → length spares - (length runs - (i + 1) + 1) ≡ i
    back i lt = let c = is.count in omega arith
