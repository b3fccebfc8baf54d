-- Lanes that ran side by side are lanes that ran one after another.
use Rattle.std.proofs.Common.{◌≡◌, ◌≢◌, ℕ, ◌+◌, ◌*◌, ◌<◌, ◌≤◌, List, [], length, get_or, take, drop, None, inl, inr, refl, ap, sym, subst, ◌∙◌, arith}
use Prim.Native.Nat.{suc}
use Rattle.std.proofs.lemmas.Bool.{cases_lt}
use Rattle.std.specs.List.{AllByRecursion}
use Rattle.bc_bookmarks.proofs.MovingLemmas.{MovesPages-none}
use Rattle.bc_lane.specs.Back.{heap_back}
use Rattle.bc_lane.specs.Doing.{DidAll}
use Rattle.bc_lane.specs.Turns.{IsWhole}
use Rattle.bc_lane.specs.declared.turns.LaneTurn.{LaneTurn}
use Rattle.bc_model.specs.State.{State}
use Rattle.bc_model.specs.declared.operations.Op.{Op}
use Rattle.bc_model.specs.declared.operations.Reply.{Reply}
use Rattle.bc_model.specs.declared.values.Holder.{Holder}
use Rattle.bc_mutator.specs.Objects.{AreWhole}
use Rattle.bc_mutator.specs.Operations.{IsOpOf}
use Rattle.bc_pins.specs.Calls.{key_of, view_of}
use Rattle.bc_pins.specs.Closing.{Closed}
use Rattle.bc_pins.specs.Key.{owner, pages_of}
use Rattle.bc_pins.specs.Opened.{Opened}
use Rattle.bc_pins.specs.Totals.{times, total}
use Rattle.bc_pins.specs.Views.{entries}
use Rattle.bc_pins.specs.declared.key.Turn.TheVariants.{Lanes}
use Rattle.bc_pins.specs.declared.pins.Pins.{Pins}
use Rattle.bc_pins.specs.declared.pins.Seat.{Seat}
use Rattle.bc_pins.specs.declared.views.View.{View}
use Rattle.bc_reach.specs.Distinct.{Has}
use Rattle.bc_superpages.specs.Kept.{IsLayout}
use Rattle.bc_superpages.specs.Layout.{Layout}
use Rattle.bc_superpages.specs.LayoutAt.{IsAllocated}
use Rattle.bc_lane.proofs.BackLemmas.{back-moves, back-stands}
use Rattle.bc_turn.proofs.AwayLemmas.{NotesGone, notes-gone}
use Rattle.bc_turn.proofs.HeapLemmas.{laid-back}
use Rattle.bc_turn.proofs.OpenableLemmas.{openable}
use Rattle.bc_turn.proofs.StageLemmas.{Link, Stage, first, first-ran, linked, new-holders, new-lane, new-seat, nothing-did, nothing-more, stages}
use Rattle.bc_turn.proofs.TableLemmas.{AreRecorded, AreSeatsBack, IsTurnTable, lies-back, role-numbers}
use Rattle.bc_turn.specs.Begun.{AllRan, AreBegun, AreBusyLanes, of_lane}
use Rattle.bc_turn.specs.Beside.{IsAtEndOr, IsLaidBack, LiesBack, PagesMoved, RanBeside, StopsBeside}
use Rattle.bc_turn.specs.Laying.{AreLaidBack}
use Rattle.bc_turn.specs.Taking.{turn_roles}
use Rattle.bc_whole_heap.specs.Heaps.{HeapView, end_of}
use Rattle.bc_whole_heap.specs.LaneStates.{StandsAs}
use Rattle.bc_whole_heap.specs.Running.{IsRunning}

-- a table that was opened for the lanes
pub turn-table : (s : Layout) (hs : List Holder) (busy : List ℕ) (pagers : ℕ) (pins : Pins) (seats : List Seat) → Opened s Lanes hs (turn_roles busy pagers) pins seats → IsTurnTable (key_of pins) s hs busy pagers
turn-table s hs busy pagers pins seats opened = record {
  opening = opened.opening;
  owners = opened.owners;
  roles = opened.roles_are ∙ role-numbers busy pagers;
  behind = opened.behind;
}

module _ (pins : Pins) (h : HeapView) (hs : List Holder) (serials : List ℕ) (lanes : List (List Op)) (before : List (List Reply)) (busy : List ℕ) (old : ℕ → LaneTurn) (seat : ℕ → Seat) (new : ℕ → LaneTurn) (after : ℕ → Seat)
    (begun : AreBegun pins h hs serials lanes before busy old seat) (ran : AllRan lanes busy old seat new after) (state : State) (stands : StandsAs h hs serials state)
    (words : length h.roots.words ≡ h.roots.domains * h.roots.slots) (ops : (j : ℕ) → Has busy j → AllByRecursion (IsOpOf h.roots) (of_lane lanes j))
    (running : IsRunning h hs) (layout : IsLayout h.space) (whole : AreWhole h.chunks) (some : 0 < length busy)
    (seats : List Seat) (pagers : ℕ) (table : IsTurnTable (key_of pins) h.space hs busy pagers) (seats_long : length busy ≤ length seats) (seats_are : (i : ℕ) → i < length busy → (d : Seat) → get_or seats i d ≡ after i)
    (k : HeapView) (nexts : List ℕ) (told : List (List Reply)) (closed : Closed (key_of pins) seats k.space) (given : IsLayout k.space)
    (laid : AreLaidBack hs busy new (length busy) h serials before k nexts told) (recorded : AreRecorded (key_of pins) busy after seats) (kept : (p : ℕ) → owner (key_of pins) p ≢ 0 → total (λ (seat : Seat). times p (view_of seat).returned) seats ≡ 0) where
  stands_back : StandsAs (heap_back h) hs serials state
  stands_back = back-stands h hs serials state running stands

  -- a page that stopped a lane is Gone, where some lane holds it
  notes : (i : ℕ) → i < length busy → NotesGone (view_of (after i)) h.space k.space
  notes i lt =
      subst (λ (s : Seat). NotesGone (view_of s) h.space k.space) (seats_are i lt (after i))
      (notes-gone (key_of pins) h.space k.space seats table.opening table.behind closed layout given kept i (after i) (omega arith) (ap (λ (s : Seat). (view_of s).about) (seats_are i lt (after i)) ∙ (ran.each i lt).seat_is.about ∙ ap (λ (v : View). v.about) (begun.each i lt).view))

  abbrev stage : (n : ℕ) → Stage h hs serials busy old seat new after n
  stage n = stages pins h hs serials lanes before busy old seat new after begun ran state stands_back words ops k nexts told laid notes n

  abbrev at : ℕ → HeapView
  at n = (stage n).heap

  abbrev count : ℕ
  count = length lanes

  link : (n : ℕ) → Link hs n (of_lane lanes n) (get_or serials n 0) (of_lane before n) (at n) (at (suc n)) (get_or nexts n 0) (of_lane told n) k.space
  link n = linked pins h hs serials lanes before busy old seat new after begun ran state stands_back words ops k nexts told laid notes n

  one-more : (n : ℕ) → suc n ≡ n + 1
  one-more n = omega arith

  done-all : (i : ℕ) → i < length busy → IsWhole (new i).part (view_of (after i)) None (end_of h.space) (at count)
  done-all i lt = (stage count).done i lt (begun.busy_are.within i lt)

  back : AreSeatsBack (key_of pins) hs busy (at count) after seats
  back = record {
    long = seats_long;
    same = seats_are;
    about = λ i lt. (ran.each i lt).seat_is.about ∙ ap (λ (v : View). v.about) (begun.each i lt).view;
    roles = λ i lt. (new-seat pins h hs serials lanes before busy old seat new after begun ran state stands_back words ops i lt).roles;
    behind = λ i lt p far.
        let reads = (first-ran pins h hs serials lanes before busy old seat new after begun ran state stands_back words ops i lt).reads in
        let view = (begun.each i lt).view in
        let none = reads.behind p (subst (λ (v : View). pages_of v.about ≤ p) (sym view) far) in
        (none.0 ∙ ap (λ (v : View). entries p v.changed) view, none.1 ∙ ap (λ (v : View). times p v.recorded) view);
    shows = λ i lt p own. (done-all i lt).belongs.space.others p own (λ none. none);
    recorded = recorded;
  }

  lies : LiesBack (at count).space k.space
  lies =
      lies-back (key_of pins) h (at count) hs busy pagers after seats k.space table back (stage count).passes closed given (done-all 0 some).ready.layout
      (openable h hs layout whole running)

  laid-all : IsLaidBack (at count) k
  laid-all =
      laid-back h (at count) k hs busy serials nexts before told new (λ i. view_of (after i)) (end_of h.space) running.closed words (stage count).long
      (new-holders pins h hs serials lanes before busy old seat new after begun ran state stands_back words ops)
      (new-lane pins h hs serials lanes before busy old seat new after begun ran state stands_back words ops)
      done-all (stage count).passes laid lies

  pub ran-beside : RanBeside hs lanes h serials before k nexts told
  ran-beside = record {
    at = at;
    first = subst (PagesMoved h) (sym (first pins h hs serials lanes before busy old seat new after begun ran state stands_back words ops k nexts told laid notes)) (back-moves h.space running.summarised, refl);
    new = λ n. (link n).new;
    told = λ n lt. (link n).told_are;
    did = λ n lt.
        subst (λ (q : ℕ). DidAll hs n (take (length (link n).new) (drop (length (of_lane before n)) (of_lane lanes n))) (link n).new (at n) (get_or serials n 0) (at q) (get_or nexts n 0))
        (one-more n) (link n).did;
    births = λ n lt. (link n).births;
    stopped = λ n lt. subst (λ (q : ℕ). IsAtEndOr (of_lane lanes n) (of_lane told n) (λ op. StopsBeside hs n op (at q) k.space)) (one-more n) (link n).stopped;
    back = laid-all;
    long = (laid.births_long, laid.replies_long);
  }

-- no lane has operations left
module _ (h : HeapView) (hs : List Holder) (serials : List ℕ) (lanes : List (List Op)) (before : List (List Reply)) (busy : List ℕ) (are : AreBusyLanes lanes before busy) (none : length busy ≡ 0) (running : IsRunning h hs) where
  all-done : (n : ℕ) → length (of_lane lanes n) ≤ length (of_lane before n)
  all-done n = elim (cases_lt (length (of_lane before n)) (length (of_lane lanes n))) [
    | inl lt ↦ let b = are.all n lt in let there = b.1 in absurd (omega arith)
    | inr le ↦ le
  ]

  -- pagers may have been alone at a table
  module _ (t : Layout) (lies : LiesBack h.space t) where
    abbrev after-all : HeapView
    after-all = record h { space = t }

    still-laid : IsLaidBack h after-all
    still-laid = record {
      pages = lies;
      roots = refl;
      noted = λ i a lt is. elim (running.closed.noted i a lt is) [
        | inl on ↦ inl (subst (λ (s : Layout). IsAllocated s a.0) (sym lies.same) on)
        | inr note ↦ inr note
      ];
      chunks = refl;
      buffers = refl;
    }

    pub ran-none : RanBeside hs lanes h serials before after-all serials before
    ran-none = record {
      at = λ n. h;
      first = (MovesPages-none h.space running.summarised, refl);
      new = λ n. [];
      told = λ n lt. nothing-more (of_lane before n);
      did = λ n lt. nothing-did hs n (drop (length (of_lane before n)) (of_lane lanes n)) h (get_or serials n 0);
      births = λ n lt. omega arith;
      stopped = λ n lt. inl (all-done n);
      back = still-laid;
      long = (refl, refl);
    }
