-- A turn put together: what its steps say makes the lanes' begin, their runs, and what they lay back.
use Rattle.std.proofs.Common.{◌≡◌, ℕ, ◌+◌, ◌-◌, ◌*◌, ◌<◌, ◌≤◌, ◌==◌, Bool, true, false, List, ◌++◌, length, length-append, map, get_or, Option, None, Vec, vec_capacity, inl, inr, refl, ap, sym, subst, ◌∙◌, arith}
use Prim.Native.Nat.{zero, suc}
use Rattle.std.specs.Prelude.{IfSome, option_to_list}
use Rattle.std.specs.declared.alloc.Global.{Global}
use Rattle.std.specs.List.{AllByRecursion}
use Rattle.std.proofs.lemmas.Bool.{cases_lt, eq-eqb, eqb-true}
use Rattle.std.proofs.lemmas.List.{get_or-map, get_or_append_left, length-map}
use Rattle.bc_lane.specs.Back.{heap_back}
use Rattle.bc_lane.specs.declared.parts.LanePart.{LanePart}
use Rattle.bc_lane.specs.declared.stops.Stop.{Stop}
use Rattle.bc_lane.specs.declared.stops.Stop.TheVariants as stop
use Rattle.bc_lane.specs.Turns.{AreStarts, LaneRan, SlotsOf}
use Rattle.bc_model.specs.Rows.{lists_of}
use Rattle.bc_model.specs.State.{holder_of}
use Rattle.bc_model.specs.declared.operations.Op.{Op}
use Rattle.bc_model.specs.declared.operations.Reply.{Reply}
use Rattle.bc_model.specs.declared.values.Holder.{Holder}
use Rattle.bc_model.specs.declared.values.Holder.TheVariants as holder
use Rattle.bc_mutator.specs.Operations.{IsOpOf}
use Rattle.bc_pager.specs.Feeding.{IsLivePagerReady, ServesLive, answers_of_live}
use Rattle.bc_pager.specs.Serving.{told_with}
use Rattle.bc_pager.specs.declared.answers.Answer.{Answer}
use Rattle.bc_pager.specs.declared.notices.Notice.{Notice}
use Rattle.bc_pins.specs.Calls.{key_of, view_of}
use Rattle.bc_pins.specs.Closing.{AreBack, Closed}
use Rattle.bc_pins.specs.Seating.{IsDealt}
use Rattle.bc_pins.specs.declared.key.Role.TheVariants.{Lane}
use Rattle.bc_pins.specs.declared.pins.Pins.{Pins}
use Rattle.bc_pins.specs.declared.pins.Seat.{Seat}
use Rattle.bc_pins.specs.declared.views.View.{View}
use Rattle.bc_reach.specs.Distinct.{Has}
use Rattle.bc_reach.proofs.Pushed.{Has-get_or, place_of}
use Rattle.bc_superpages.specs.Kept.{IsLayout}
use Rattle.bc_superpages.specs.Layout.{Layout}
use Rattle.bc_superpages.specs.RootWords.{RootWords}
use Rattle.bc_pager.specs.declared.paging.Paging.{Paging}
use Rattle.bc_turn.specs.declared.rooms.TurnRoom.{TurnRoom}
use Rattle.bc_turn.specs.declared.runs.Run.{Run}
use Rattle.bc_turn.specs.declared.turns.OpenTurn.{OpenTurn}
use Rattle.bc_turn.specs.UnderWay.{IsTurnUnderWay}
use Rattle.bc_turn.specs.Answered.{AnsweredBeside}
use Rattle.bc_turn.specs.Looked.{HadInTurn, IsLookedAtInTurn, tried_in_turn}
use Rattle.bc_turn.specs.Begun.{AllRan, AreBegun, AreBusyLanes, IsBegunLane, RanLane, of_lane}
use Rattle.bc_turn.specs.Beside.{RanBeside}
use Rattle.bc_turn.specs.Laying.{AreLaidBack}
use Rattle.bc_pager.specs.Paging.{AllPagersReady, HaveAllPaged, seats_of}
use Rattle.bc_pager.specs.Placing.{AnsweredByPagers, ClaimAsMany, paged_of}
use Rattle.bc_turn.specs.Taking.{AreHeldDomains, AreRunsOf, AreSparesOf, AreTaken, CanAllRun, CanRun, FitsLanes, HasBusyAmong, HasReplyRoom, HasRoomForLane, LaneHasRun, IsRoomKept, LiesRight, running_lanes, seat_at, spare_lanes, turn_at}
use Rattle.bc_turn.proofs.AnsweredLemmas.{AreMoved, answered}
use Rattle.bc_turn.proofs.BegunLemmas.{all-claims, all-fetched, all-homes, all-put, are-back, are-moved, are-recorded, begun-lane, few-fetched, may-operate, ops-each, own-fetched, own-returned}
use Rattle.bc_turn.proofs.BesideLemmas.{ran-beside, turn-table}
use Rattle.bc_turn.proofs.LayingLemmas.{laid-space}
use Rattle.bc_pager.proofs.SeatedLemmas.{ArePagersBack, ArePagersTold, first-of, pagers-back, pagers-told, seats-long}
use Rattle.bc_turn.proofs.LiveLemmas.{IsLiveDealt, back-with, claims-with-live, dealt-later, declined-with-live, live-answered, live-long, told-with-live}
use Rattle.bc_turn.proofs.SeatedLemmas.{lane-dealt, live-dealt, live-ready, pagers-dealt, pagers-ready}
use Rattle.bc_turn.proofs.SumLemmas.{gathered}
use Rattle.bc_turn.proofs.RoomLemmas.{beside-longer, busy-among, busy-later, same-numbers}
use Rattle.bc_turn.proofs.TableLemmas.{IsTurnTable}
use Rattle.bc_whole_heap.specs.Heaps.{HeapView, end_of}

-- there are words for all slots of the lane's domains
pub words-enough : (hs : List Holder) (part : LanePart) (r : RootWords) → SlotsOf part r → part.holders.items ≡ hs → AreHeldDomains hs part.lane part.domains.items → AreStarts part.domains.items part.slots (length hs) part.starts.items
    → length part.domains.items * part.slots ≤ length part.words.items
words-enough hs part r shows holders domains starts = by-count (length part.domains.items) refl
  where
    at : (i : ℕ) → i < length part.domains.items → i * part.slots + part.slots ≤ length part.words.items
    at i lt =
        let d = get_or part.domains.items i 0 in
        let within : d < length part.holders.items = subst (λ (xs : List Holder). d < length xs) (sym holders) (domains.within i lt) in
        let held : holder_of part.holders.items d ≡ holder.Lane part.lane = ap (λ (xs : List Holder). holder_of xs d) holders ∙ domains.held i lt in
        let fits = shows.within d within held in
        let start = starts.1 domains.rising i lt in
        omega arith

    by-count : (n : ℕ) → n ≡ length part.domains.items → n * part.slots ≤ length part.words.items
    by-count zero e = omega arith
    by-count (suc m) e =
        let fits = at m (omega arith) in
        let one : suc m * part.slots ≡ m * part.slots + part.slots = grind arith in
        omega arith

-- the place of a number from the end, counted from the end again
back-place : (n i : ℕ) → i < n → n - (n - (i + 1) + 1) ≡ i
back-place n i lt = omega arith

-- room that came back is kept for the next turn
room-returned : (hs : List Holder) (slots : ℕ) (lanes : List (List Op)) (h : HeapView) (serials : List ℕ) (before : List (List Reply)) (k : HeapView) (nexts : List ℕ) (after : List (List Reply)) (busy : List ℕ) (room : TurnRoom)
    → AreSparesOf hs slots room.spares.items → spare_lanes room.spares.items ≡ busy → AreBusyLanes lanes before busy → length before ≡ length lanes → RanBeside hs lanes h serials before k nexts after → IsRoomKept hs slots lanes after room
room-returned hs slots lanes h serials before k nexts after busy room spares lanes_are busy_are sizes ran =
    inr (
      spares,
      subst (HasBusyAmong lanes after) (sym lanes_are)
          (busy-later lanes before after busy (beside-longer hs lanes h serials before k nexts after sizes ran) (busy-among lanes before busy busy_are)),
    )

-- a turn under way
module _ (hs : List Holder) (lanes : List (List Op)) (h : HeapView) (serials : List ℕ) (before : List (Vec Reply Global)) (hints : List ℕ) (turn : OpenTurn) (k : HeapView) (after : List (Vec Reply Global)) (coming : Bool) (set : IsTurnUnderWay hs lanes h serials before (length hints) turn k after coming) where
  abbrev pins : Pins
  pins = turn.pins

  abbrev busy : List ℕ
  busy = set.busy

  abbrev seats : List Seat
  seats = set.seats

  -- all pagers: those that share the notices, and after them the live one
  abbrev pagers : List Paging
  pagers = turn.pagers.items ++ option_to_list turn.live

  abbrev runs : List Run
  runs = turn.runs.items

  busy_are : AreBusyLanes lanes (lists_of before) busy
  busy_are = set.busy_are

  taken : AreTaken (record h { space = set.hollow }) hs serials lanes before busy seats k after runs
  taken = set.taken

  sizes : length lanes ≡ length h.chunks
  sizes = sym set.fits.chunks

  -- as many lists as lanes stand in the heap meanwhile
  pub fits-meanwhile : FitsLanes (length lanes) k (length serials) (length after)
  fits-meanwhile =
      let away = taken.away in
      let a = length-map after (λ (v : Vec Reply Global). v.items) in
      let b = length-map before (λ (v : Vec Reply Global). v.items) in
      record { chunks = away.chunks_long ∙ set.fits.chunks; buffers = away.buffers_long ∙ set.fits.buffers; births = set.fits.births; told = sym a ∙ away.replies_long ∙ b ∙ set.fits.told }

  roots-same : k.roots ≡ h.roots
  roots-same = ap (λ (v : HeapView). v.roots) taken.away.same

  -- some lane runs
  pub some-runs : 0 < length runs
  some-runs = let all = taken.long in let some = set.some in omega arith

  some-run : Run
  some-run = first-of runs some-runs

  table : IsTurnTable (key_of pins) h.space hs busy (length pagers)
  table = turn-table h.space hs busy (length pagers) pins (seats ++ seats_of pagers) set.opened

  -- the pagers are ready to work
  pub all-ready : AllPagersReady pins hints turn.pagers.items
  all-ready = pagers-ready pins h.space hs busy seats turn.pagers.items turn.live set.opened hints set.rooms

  pub live-begins : IfSome turn.live (IsLivePagerReady pins)
  live-begins = live-ready pins h.space hs busy seats turn.pagers.items turn.live set.opened coming set.lives

  dealt : (i : ℕ) → i < length busy → (d : Run) → IsDealt pins.table.shared.table_id (key_of pins) (Lane (get_or busy i 0)) (seat_at d runs i)
  dealt i lt d =
      let e = seat_at d runs i in
      subst (IsDealt pins.table.shared.table_id (key_of pins) (Lane (get_or busy i 0))) (sym (taken.seats_are i lt d e)) (lane-dealt pins h.space hs busy seats pagers set.opened i lt e)

  begun-at : (i : ℕ) → i < length busy → (d : Run) → IsBegunLane pins h hs serials lanes (lists_of before) (turn_at d runs i) (seat_at d runs i)
  begun-at i lt d =
      let t = taken.each i lt d in
      let lane = get_or busy i 0 in
      let within = busy_are.within i lt in
      let many = set.stands.lanes in
      let most = set.stands.consistent.lanes in
      let long_lanes = sizes in
      begun-lane pins h hs serials lanes (lists_of before) busy t.roots t.told (turn_at d runs i) (seat_at d runs i) lane set.layout set.long (may-operate h hs lane set.running set.layout set.domains set.whole (omega arith)) (set.state, set.stands) (length pagers) table set.opened.lanes
      (dealt i lt d) (record { rising = t.domains.rising; all = t.domains.all; long = t.words.long; each = t.words.each; packed = t.words.packed }) t.told_are t.prepared within (omega arith) (set.births lane)

  begun : (d : Run) → AreBegun pins h hs serials lanes (lists_of before) busy (turn_at d runs) (seat_at d runs)
  begun d = record {
    busy_are = busy_are;
    each = λ i lt. begun-at i lt d;
    lane_is = λ i lt. (taken.each i lt d).prepared.lane_is;
  }

  ops-at : (i : ℕ) → i < length busy → (d : Run) → AllByRecursion (IsOpOf h.roots) (of_lane lanes (turn_at d runs i).part.lane)
  ops-at i lt d = ops-each h.roots lanes (turn_at d runs i).part.lane (begun-at i lt d).within set.ops

  can-run : (r : ℕ) → (d : Run) → r < length runs → CanRun pins lanes h.roots (get_or runs r d)
  can-run r d lt =
      let all = taken.long in
      let i = length runs - (r + 1) in
      let inside : i < length busy = omega arith in
      let b = begun-at i inside d in
      subst (λ (q : ℕ). CanRun pins lanes h.roots (get_or runs q d)) (back-place (length runs) r lt) (record { within = b.within; shares = (taken.each i inside d).prepared.shared_is; going = b.going; heap = heap_back h; whole = b.whole; ops = ops-at i inside d })

  -- all lanes can run
  pub can-all-run : CanAllRun pins lanes k.roots runs
  can-all-run r d lt = subst (λ (x : RootWords). CanRun pins lanes x (get_or runs r d)) (sym roots-same) (can-run r d lt)

  module _ (new : List Run) (ran : (i : ℕ) → (d : Run) → i < length runs → LaneHasRun lanes (get_or runs i d) (get_or new i d)) (new_long : length new ≡ length runs) where
    has-run : (i : ℕ) → i < length busy → (d : Run) → LaneHasRun lanes (get_or runs (length runs - (i + 1)) d) (get_or new (length new - (i + 1)) d)
    has-run i lt d =
        let all = taken.long in
        subst (λ (n : ℕ). LaneHasRun lanes (get_or runs (length runs - (i + 1)) d) (get_or new (n - (i + 1)) d)) (sym new_long) (ran (length runs - (i + 1)) d (omega arith))

    causes : (i : ℕ) → (d : Run) → (why : Stop) × (i < length busy → RanLane (of_lane lanes (get_or busy i 0)) (turn_at d runs i) (seat_at d runs i) (turn_at d new i) (seat_at d new i) why)
    causes i d = elim (cases_lt i (length busy)) [
      | inl lt ↦ (
        (has-run i lt d).why,
        λ _. subst (λ (l : ℕ). RanLane (of_lane lanes l) (turn_at d runs i) (seat_at d runs i) (turn_at d new i) (seat_at d new i) (has-run i lt d).why) (taken.each i lt d).prepared.lane_is (has-run i lt d).ran,
      )
      | inr out ↦ (stop.End, λ lt. absurd (omega arith))
    ]

    all-ran : (d : Run) → AllRan lanes busy (turn_at d runs) (seat_at d runs) (turn_at d new) (seat_at d new)
    all-ran d = record {
      why = λ i. (causes i d).0;
      each = λ i lt. (causes i d).1 lt;
    }

    lane-ran : (i : ℕ) → i < length busy → (d : Run)
        → LaneRan (of_lane lanes (turn_at d runs i).part.lane) (end_of h.space) (turn_at d runs i) (view_of (seat_at d runs i)) None (turn_at d new i) (view_of (seat_at d new i)) None
    lane-ran i lt d = (has-run i lt d).ran.ran (heap_back h) (begun-at i lt d).whole

    lane-is : (i : ℕ) → i < length busy → (d : Run) → (turn_at d new i).part.lane ≡ get_or busy i 0
    lane-is i lt d = (lane-ran i lt d).same.lane ∙ (taken.each i lt d).prepared.lane_is

    holders-are : (i : ℕ) → i < length busy → (d : Run) → (turn_at d new i).part.holders.items ≡ hs
    holders-are i lt d = ap (λ (v : Vec Holder Global). v.items) (lane-ran i lt d).same.holders ∙ (taken.each i lt d).prepared.holders_are

    lies-right : (i : ℕ) → i < length busy → (d : Run) → LiesRight hs k.roots (turn_at d new i).part
    lies-right i lt d =
        let t = taken.each i lt d in
        let r = lane-ran i lt d in
        let part = (turn_at d new i).part in
        let ds : part.domains.items ≡ t.roots.domains.items = ap (λ (v : Vec ℕ Global). v.items) (r.same.domains ∙ t.prepared.domains) in
        let ss : part.starts.items ≡ (turn_at d runs i).part.starts.items = ap (λ (v : Vec ℕ Global). v.items) r.same.starts in
        let slots : part.slots ≡ h.roots.slots = r.same.slots ∙ t.prepared.slots_are in
        let held : AreHeldDomains hs part.lane part.domains.items = subst (λ (l : ℕ). AreHeldDomains hs l part.domains.items) (sym (lane-is i lt d)) (subst (AreHeldDomains hs (get_or busy i 0)) (sym ds) t.domains) in
        let starts : AreStarts part.domains.items part.slots (length hs) part.starts.items =
        subst (λ (xs : List ℕ). AreStarts xs part.slots (length hs) part.starts.items) (sym ds)
        (subst (λ (n : ℕ). AreStarts t.roots.domains.items n (length hs) part.starts.items) (sym slots) (subst (AreStarts t.roots.domains.items h.roots.slots (length hs)) (sym ss) t.prepared.starts)) in
        let done = r.done (heap_back h) (begun-at i lt d).whole (ops-at i lt d) in
        let shows = done.1.belongs.roots in
        let here : part.slots ≡ k.roots.slots = slots ∙ sym (ap (λ (x : RootWords). x.slots) roots-same) in
        record {
          domains = held;
          starts = starts;
          slots = here;
          holders_long = set.running.closed.domains ∙ sym (ap (λ (x : RootWords). x.domains) roots-same);
          long = subst (λ (x : RootWords). length x.words ≡ x.domains * x.slots) (sym roots-same) set.long;
          enough = subst (λ (n : ℕ). length part.domains.items * n ≤ length part.words.items) here (words-enough hs part done.0.roots shows (holders-are i lt d) held starts);
          packed = shows.packed;
        }

    pub runs-of : AreRunsOf hs busy k new
    runs-of = record {
      long = new_long ∙ taken.long;
      rising = busy_are.rising;
      within = λ i lt. (let w = busy_are.within i lt in let c = taken.away.chunks_long in let z = sizes in omega arith);
      lane_is = lane-is;
      holders_are = holders-are;
      right = lies-right;
    }

    pub room-for : (i : ℕ) → (d : Run) → i < length new → HasRoomForLane lanes (get_or new i d).turn
    room-for r d lt =
        let all = taken.long in
        let i = length new - (r + 1) in
        let inside : i < length busy = omega arith in
        let lane : (turn_at d new i).part.lane ≡ (turn_at d runs i).part.lane = (lane-ran i inside d).same.lane in
        let capacity : vec_capacity (turn_at d new i).replies ≡ vec_capacity (turn_at d runs i).replies = (lane-ran i inside d).room in
        subst (λ (q : ℕ). HasRoomForLane lanes (get_or new q d).turn) (back-place (length new) r lt)
        (subst (λ (l : ℕ). length (of_lane lanes l) ≤ vec_capacity (turn_at d new i).replies) (sym lane)
        (subst (λ (c : ℕ). length (of_lane lanes (turn_at d runs i).part.lane) ≤ c) (sym capacity) (taken.enough i inside d)))

    same-lanes : (d : Run) → running_lanes new ≡ running_lanes runs
    same-lanes d =
        let a = length-map new (λ (r : Run). r.turn.part.lane) in
        let b = length-map runs (λ (r : Run). r.turn.part.lane) in
        let all = taken.long in
        same-numbers (running_lanes new) (running_lanes runs) (omega arith)
        (λ r lt.
        let near : r < length new = omega arith in
        let i = length new - (r + 1) in
        let inside : i < length busy = omega arith in
        let place : length new - (i + 1) ≡ r = back-place (length new) r near in
        let old : length runs - (i + 1) ≡ r = omega arith in
        get_or-map (λ (x : Run). x.turn.part.lane) new r d 0 near ∙ ap (λ (q : ℕ). (get_or new q d).turn.part.lane) (sym place) ∙ (lane-ran i inside d).same.lane
        ∙ ap (λ (q : ℕ). (get_or runs q d).turn.part.lane) old ∙ sym (get_or-map (λ (x : Run). x.turn.part.lane) runs r d 0 (omega arith)))

    pub reply-room : HasReplyRoom lanes after (running_lanes new)
    reply-room = subst (HasReplyRoom lanes after) (sym (same-lanes some-run)) taken.room

    -- what is laid back against the heap that was lent is so against the heap before
    to-busy : (d : Run) (l : ℕ) → Has (running_lanes runs) l → Has busy l
    to-busy d l has =
        let p = place_of (running_lanes runs) l has in
        let b = length-map runs (λ (r : Run). r.turn.part.lane) in
        let all = taken.long in
        let near : p.0 < length runs = omega (arith, p.1) in
        let i = length runs - (p.0 + 1) in
        let inside : i < length busy = omega arith in
        let e : get_or busy i 0 ≡ l =
        sym (taken.each i inside d).prepared.lane_is ∙ ap (λ (q : ℕ). (get_or runs q d).turn.part.lane) (back-place (length runs) p.0 near)
        ∙ sym (get_or-map (λ (r : Run). r.turn.part.lane) runs p.0 d 0 near) ∙ p.2 in
        subst (Has busy) e (Has-get_or busy i inside)

    module _ (g : HeapView) (nexts : List ℕ) (told : List (List Reply)) (lays : (r : Run) → AreRunsOf hs busy k new → AreLaidBack hs busy (turn_at r new) (length busy) k serials (lists_of after) g nexts told) where
      abbrev d : Run
      d = some-run

      laid : AreLaidBack hs busy (turn_at d new) (length busy) k serials (lists_of after) g nexts told
      laid = lays d runs-of

      home : AreLaidBack hs busy (turn_at d new) (length busy) h serials (lists_of before) g nexts told
      home =
          let here = subst (λ (v : HeapView). AreLaidBack hs busy (turn_at d new) (length busy) v serials (lists_of after) g nexts told) taken.away.same laid in
          let away = taken.away in
          record {
            chunks_long = laid.chunks_long ∙ away.chunks_long;
            buffers_long = laid.buffers_long ∙ away.buffers_long;
            births_long = laid.births_long;
            replies_long = laid.replies_long ∙ away.replies_long;
            words_long = here.words_long;
            roots = here.roots;
            chunk = laid.chunk;
            buffer = laid.buffer;
            births = laid.births;
            replies = laid.replies;
            words = here.words;
            chunk_else = λ l off. laid.chunk_else l off ∙ away.chunk l (λ has. off (to-busy d l has));
            buffer_else = λ l off. laid.buffer_else l off ∙ away.buffer l (λ has. off (to-busy d l has));
            births_else = laid.births_else;
            replies_else = λ l off. laid.replies_else l off ∙ away.replies l (λ has. off (to-busy d l has));
            words_else = here.words_else;
            kept = here.kept;
            written = here.written;
          }

      module _ (later : List Paging) (paged : HaveAllPaged pins hints turn.pagers.items later) (taken_old taken_new : Option (List Notice)) (since_old since_new : Option (List View)) (new_live : Option Paging)
          (serves : ServesLive pins taken_old taken_new since_old since_new turn.live new_live) where
        abbrev through : List Seat
        through = seats_of (later ++ option_to_list new_live)

        later-long : length through ≡ length pagers
        later-long =
            let long = seats-long (later ++ option_to_list new_live) in
            let now = length-append later (option_to_list new_live) in
            let was = length-append turn.pagers.items (option_to_list turn.live) in
            let one = live-long pins taken_old taken_new since_old since_new turn.live new_live serves in
            let same = paged.long in
            omega arith

        dealt-live : IsLiveDealt pins (length later) turn.live
        dealt-live = dealt-later pins turn.pagers.items later turn.live paged.long (live-dealt pins h.space hs busy seats turn.pagers.items turn.live set.opened)

        back-pagers : ArePagersBack pins through
        back-pagers =
            back-with pins taken_old taken_new since_old since_new later turn.live new_live serves dealt-live
            (pagers-back pins hints turn.pagers.items later (pagers-dealt pins h.space hs busy seats turn.pagers.items turn.live set.opened) paged)

        table-later : IsTurnTable (key_of pins) h.space hs busy (length through)
        table-later = subst (IsTurnTable (key_of pins) h.space hs busy) (sym later-long) table

        module _ (back : List Seat) (back_long : length back ≡ length new) (back_are : (i : ℕ) → (r : Run) → (e : Seat) → i < length new → get_or back i e ≡ seat_at r new i) where
          seats-are : (i : ℕ) → i < length busy → (e : Seat) → get_or back i e ≡ seat_at d new i
          seats-are i lt e = let all = taken.long in back_are i d e (omega arith)

          back-lanes : length back ≡ length busy
          back-lanes = back_long ∙ new_long ∙ taken.long

          abbrev whole-list : List Seat
          whole-list = back ++ through

          all-are : (i : ℕ) → i < length busy → (e : Seat) → get_or whole-list i e ≡ seat_at d new i
          all-are i lt e = let long = back-lanes in get_or_append_left back through e i (omega arith) ∙ seats-are i lt e

          all-long : length busy ≤ length whole-list
          all-long = let long = back-lanes in let both = length-append back through in omega arith

          pub all-back : AreBack pins.table.shared.table_id (key_of pins) whole-list
          all-back =
              are-back pins h hs serials lanes (lists_of before) busy (turn_at d runs) (seat_at d runs) (turn_at d new) (seat_at d new) (begun d) (all-ran d) back through table-later back-lanes seats-are back-pagers
              (let some = set.some in omega arith) (λ i lt. (seat_at d new i).tidy)

          pub beside : (t : Layout) → Closed (key_of pins) whole-list t → IsLayout t → RanBeside hs lanes h serials (lists_of before) (record g { space = t }) nexts told
          beside t closed given =
              ran-beside pins h hs serials lanes (lists_of before) busy (turn_at d runs) (seat_at d runs) (turn_at d new) (seat_at d new) (begun d) (all-ran d) set.state set.stands set.long
              (λ j has. (let p = place_of busy j has in ops-each h.roots lanes j (subst (λ (l : ℕ). l < length lanes) p.2 (busy_are.within p.0 p.1)) set.ops))
              set.running set.layout set.whole set.some whole-list (length through) table-later all-long all-are (record g { space = t }) nexts told closed given
              (laid-space hs busy (turn_at d new) (length busy) h serials (lists_of before) g nexts told t home)
              (are-recorded pins h hs serials lanes (lists_of before) busy (turn_at d runs) (seat_at d runs) (turn_at d new) (seat_at d new) (begun d) (all-ran d) back through table-later back-lanes seats-are back-pagers)
              (own-returned pins h hs serials lanes (lists_of before) busy (turn_at d runs) (seat_at d runs) (turn_at d new) (seat_at d new) (begun d) (all-ran d) back through table-later back-lanes seats-are back-pagers)

          each-fits : (i : ℕ) → i < length busy → AllByRecursion (IsOpOf h.roots) (of_lane lanes (get_or busy i 0))
          each-fits i lt = ops-each h.roots lanes (get_or busy i 0) (busy_are.within i lt) set.ops

          -- all seats claimed what the pagers that share the notices did
          pub as-many : ClaimAsMany whole-list (seats_of later)
          as-many =
              claims-with-live pins taken_old taken_new since_old since_new later turn.live new_live serves whole-list
              (all-claims pins h hs serials lanes (lists_of before) busy (turn_at d runs) (seat_at d runs) (turn_at d new) (seat_at d new) (begun d) (all-ran d) back through table-later back-lanes seats-are back-pagers)

          -- the answers, in their places
          module _ (answers : List Answer) (shared : AnsweredByPagers (key_of pins) hints (map paged_of later) answers) where
            abbrev both : List Answer
            both = answers ++ answers_of_live new_live

            are-told : ArePagersTold pins through both
            are-told = told-with-live pins taken_old taken_new since_old since_new later turn.live new_live serves answers (pagers-told pins hints turn.pagers.items later answers paged shared)

            moved : AreMoved (key_of pins) whole-list both (gathered (λ s. (view_of s).fetched) back) (gathered (λ s. (view_of s).left) back) (gathered (λ s. (view_of s).emptied) back)
            moved =
                are-moved pins h hs serials lanes (lists_of before) busy (turn_at d runs) (seat_at d runs) (turn_at d new) (seat_at d new) (begun d) (all-ran d) back through table-later back-lanes seats-are back-pagers
                both are-told

            abbrev Looked : ℕ → Type 0
            Looked = IsLookedAtInTurn hs lanes h serials (lists_of before) told

            abbrev Had : ℕ → List ℕ → Type 0
            Had = HadInTurn hs lanes h serials (lists_of before) told

            pub answered-beside : (t : Layout) → Closed (key_of pins) whole-list t → IsLayout t → (kept all : List Answer) → all ≡ kept ++ answers → (lived last : List Answer) → last ≡ lived ++ answers_of_live new_live
                → (fed : List Notice) × (taken_new ≡ told_with taken_old fed) × AnsweredBeside Looked Had (tried_in_turn lanes (lists_of before) told) h.space hints kept all t lived fed last
            answered-beside t closed given kept all all_are lived last last_are =
                let took =
                live-answered pins taken_old taken_new since_old since_new (length (map paged_of later)) turn.live new_live (subst (λ (n : ℕ). IsLiveDealt pins n turn.live) (sym (length-map later paged_of)) dealt-live) serves in (
                  took.0,
                  took.1,
                  answered Looked Had (tried_in_turn lanes (lists_of before) told) (key_of pins) h.space t whole-list hints kept all (map paged_of later) answers lived took.0 last (answers_of_live new_live) (gathered (λ s. (view_of s).fetched) back) (gathered (λ s. (view_of s).left) back) (gathered (λ s. (view_of s).emptied) back)
                      set.opened.opening set.opened.frames set.opened.unused closed set.layout given moved all_are shared last_are took.2
                      (few-fetched pins h hs serials lanes (lists_of before) busy (turn_at d runs) (seat_at d runs) (turn_at d new) (seat_at d new) (begun d) (all-ran d) back through table-later back-lanes seats-are back-pagers told home.replies each-fits)
                      (own-fetched pins h hs serials lanes (lists_of before) busy (turn_at d runs) (seat_at d runs) (turn_at d new) (seat_at d new) (begun d) (all-ran d) back through table-later back-lanes seats-are back-pagers told home.replies each-fits)
                      (declined-with-live pins taken_old taken_new since_old since_new later turn.live new_live serves back hints t answers Looked closed given.long.states shared
                      (all-fetched pins h hs serials lanes (lists_of before) busy (turn_at d runs) (seat_at d runs) (turn_at d new) (seat_at d new) (begun d) (all-ran d) back through table-later back-lanes seats-are back-pagers told home.replies each-fits)
                      (all-homes pins h hs serials lanes (lists_of before) busy (turn_at d runs) (seat_at d runs) (turn_at d new) (seat_at d new) (begun d) (all-ran d) back through table-later back-lanes seats-are back-pagers told home.replies each-fits
                      both are-told))
                      (all-put pins h hs serials lanes (lists_of before) busy (turn_at d runs) (seat_at d runs) (turn_at d new) (seat_at d new) (begun d) (all-ran d) back through table-later back-lanes seats-are back-pagers told home.replies each-fits),
                )

          pub room-again : (t : Layout) → Closed (key_of pins) whole-list t → IsLayout t → (room : TurnRoom) → (AreRunsOf hs busy k new → AreSparesOf hs k.roots.slots room.spares.items × (spare_lanes room.spares.items ≡ busy))
              → IsRoomKept hs h.roots.slots lanes told room
          room-again t closed given room spares =
              let again = spares runs-of in
              room-returned hs h.roots.slots lanes h serials (lists_of before) (record g { space = t }) nexts told busy room (subst (λ (n : ℕ). AreSparesOf hs n room.spares.items) (ap (λ (x : RootWords). x.slots) roots-same) again.0) again.1 busy_are
              (length-map before (λ (v : Vec Reply Global). v.items) ∙ set.fits.told) (beside t closed given)

-- whether something is left
pub none-left : (n : ℕ) → (n == 0) ≡ true → n ≡ 0
none-left n e = eqb-true n 0 e

pub some-left : (n : ℕ) → (n == 0) ≡ false → 0 < n
some-left n e = elim (cases_lt 0 n) [
  | inl lt ↦ lt
  | inr le ↦ clash (sym (eq-eqb n 0 (omega arith)) ∙ e)
]
  where
    clash : true ≡ false → 0 < n
    clash q = cc
