-- Pagers alone at a table: no lane has operations left.
use Rattle.std.proofs.Common.{◌≡◌, ℕ, ◌<◌, List, [], ◌++◌, length, length-append, map, get_or, Option, refl, ap, sym, subst, ◌∙◌, arith, inl}
use Rattle.std.specs.Prelude.{option_to_list}
use Rattle.std.proofs.lemmas.List.{length-map}
use Rattle.bc_bookmarks.specs.Summarised.{IsSummarised}
use Rattle.bc_lane.specs.Back.{all_back, heap_back}
use Rattle.bc_lane.proofs.BackLemmas.{back-layout, back-moves}
use Rattle.bc_model.specs.declared.values.Holder.{Holder}
use Rattle.bc_pager.specs.Feeding.{ServesLive, answers_of_live}
use Rattle.bc_pager.specs.Paging.{HaveAllPaged, seats_of}
use Rattle.bc_pager.specs.Placing.{AnsweredByPagers, ClaimAsMany, paged_of}
use Rattle.bc_pager.specs.Serving.{told_with}
use Rattle.bc_pager.specs.declared.answers.Answer.{Answer}
use Rattle.bc_pager.specs.declared.notices.Notice.{Notice}
use Rattle.bc_pager.specs.declared.paging.Paging.{Paging}
use Rattle.bc_pins.specs.Calls.{key_of, view_of}
use Rattle.bc_pins.specs.Closing.{AreBack, Closed}
use Rattle.bc_pins.specs.Facts.{puts_with}
use Rattle.bc_pins.specs.Opened.{Opened}
use Rattle.bc_pins.specs.Opening.{IsOpenable}
use Rattle.bc_pins.specs.Totals.{times, total}
use Rattle.bc_pins.specs.Views.{reads_as}
use Rattle.bc_pins.specs.declared.key.Turn.TheVariants.{Lanes}
use Rattle.bc_pins.specs.declared.pins.Pins.{Pins}
use Rattle.bc_pins.specs.declared.pins.Seat.{Seat}
use Rattle.bc_pins.specs.declared.views.View.{View}
use Rattle.bc_reach.specs.Distinct.{Has}
use Rattle.bc_superpages.specs.Kept.{IsLayout}
use Rattle.bc_superpages.specs.Layout.{Layout}
use Rattle.bc_turn.specs.Answered.{AnsweredBeside}
use Rattle.bc_turn.specs.Beside.{LiesBack}
use Rattle.bc_turn.specs.Taking.{spare_lanes, turn_roles}
use Rattle.bc_turn.specs.declared.rooms.Spare.{Spare}
use Rattle.bc_turn.proofs.AnsweredLemmas.{AreMoved, answered}
use Rattle.bc_turn.proofs.BesideLemmas.{turn-table}
use Rattle.bc_turn.proofs.LiveLemmas.{IsLiveDealt, back-with, claims-with-live, dealt-later, declined-with-live, live-answered, live-long, told-with-live}
use Rattle.bc_pager.proofs.SeatedLemmas.{ArePagersBack, ArePagersTold, first-of, pager-counts, pagers-back, pagers-told, seats-long}
use Rattle.bc_turn.proofs.PagersLemmas.{pagers-roles}
use Rattle.bc_turn.proofs.PassLemmas.{passes-none}
use Rattle.bc_turn.proofs.SeatedLemmas.{lane-seats, live-dealt, pagers-dealt}
use Rattle.bc_turn.proofs.SumLemmas.{sum-none}
use Rattle.bc_turn.proofs.TableLemmas.{AreSeatsBack, IsTurnTable, lies-back, pager_numbers}
use Rattle.bc_turn.proofs.TakingLemmas.{no-items}
use Rattle.bc_whole_heap.specs.Heaps.{HeapView}

-- a space that was neither opened nor changed lies as it did
pub lies-still : (s : Layout) → IsOpenable s → LiesBack s s
lies-still s openable = record { same = refl; remembered = λ p. (λ is. is, λ is. is); summarised = openable.summarised }

-- a space lies back against another one where it does so against that one with every page back
lies-from-back : (s t : Layout) → IsSummarised s → LiesBack (all_back s) t → LiesBack s t
lies-from-back s t summarised lies =
    let moves = back-moves s summarised in
    record {
      same = lies.same;
      remembered = λ p. (λ is. (lies.remembered p).0 ((moves.remembered p).1 is), λ is. (moves.remembered p).0 ((lies.remembered p).1 is));
      summarised = lies.summarised;
    }

-- a table that was opened with no room for lanes
pub alone-opened : (space : Layout) (hs : List Holder) (spares : List Spare) (n : ℕ) (pins : Pins) (seats : List Seat) → spares ≡ [] → Opened space Lanes hs (turn_roles (spare_lanes spares) n) pins seats → Opened space Lanes hs (turn_roles [] n) pins seats
alone-opened space hs spares n pins seats none opened = subst (λ (ss : List Spare). Opened space Lanes hs (turn_roles (spare_lanes ss) n) pins seats) none opened

-- all seats are the pagers', and after them the live one's, where there is one
module _ (pins : Pins) (h : HeapView) (hs : List Holder) (hints : List ℕ) (seats : List Seat) (pagers : List Paging) (live : Option Paging)
    (opened : Opened h.space Lanes hs (turn_roles [] (length (pagers ++ option_to_list live))) pins (seats ++ seats_of (pagers ++ option_to_list live))) where
  none-else : seats ≡ []
  none-else = no-items seats (lane-seats pins h.space hs [] seats (pagers ++ option_to_list live) opened)

  table : IsTurnTable (key_of pins) h.space hs [] (length (pagers ++ option_to_list live))
  table = turn-table h.space hs [] (length (pagers ++ option_to_list live)) pins (seats ++ seats_of (pagers ++ option_to_list live)) opened

  module _ (later : List Paging) (paged : HaveAllPaged pins hints pagers later) (told more_told : Option (List Notice)) (given more_given : Option (List View)) (new : Option Paging) (serves : ServesLive pins told more_told given more_given live new) where
    abbrev through : List Seat
    through = seats_of (later ++ option_to_list new)

    abbrev all : List Seat
    all = seats ++ through

    through-long : length through ≡ length (pagers ++ option_to_list live)
    through-long =
        let long = seats-long (later ++ option_to_list new) in
        let after = length-append later (option_to_list new) in
        let before = length-append pagers (option_to_list live) in
        let one = live-long pins told more_told given more_given live new serves in
        let same = paged.long in
        omega arith

    dealt : IsLiveDealt pins (length later) live
    dealt = dealt-later pins pagers later live paged.long (live-dealt pins h.space hs [] seats pagers live opened)

    back : ArePagersBack pins through
    back = back-with pins told more_told given more_given later live new serves dealt (pagers-back pins hints pagers later (pagers-dealt pins h.space hs [] seats pagers live opened) paged)

    only : all ≡ through
    only = ap (λ (ss : List Seat). ss ++ through) none-else

    -- the table may be closed
    pub alone-back : 0 < length (pagers ++ option_to_list live) → AreBack pins.table.shared.table_id (key_of pins) all
    alone-back some = subst (AreBack pins.table.shared.table_id (key_of pins)) (sym only) (record {
      some = (let long = through-long in omega arith);
      each = λ i lt d. pager-counts pins i (get_or through i d) (back i lt d);
      roles = λ r.
          let own = pagers-roles pins through back r in
          let given = ap (times r) table.roles in
          let same = ap (λ (n : ℕ). times r (pager_numbers n)) through-long in
          omega arith;
    })

    -- the others have all claims
    pub alone-claims : ClaimAsMany all (seats_of later)
    alone-claims = claims-with-live pins told more_told given more_given later live new serves all (subst (λ (ss : List Seat). ClaimAsMany ss through) (sym only) (record { count = refl; each = λ n. refl }))

    module _ (t : Layout) (closed : Closed (key_of pins) all t) (before : IsLayout h.space) (given_back : IsLayout t) where
      seats-back : (d : Seat) → AreSeatsBack (key_of pins) hs [] (heap_back h) (λ i. d) all
      seats-back d = record {
        long = omega arith;
        same = λ i lt. absurd (omega arith);
        about = λ i lt. absurd (omega arith);
        roles = λ i lt. absurd (omega arith);
        behind = λ i lt. absurd (omega arith);
        shows = λ i lt. absurd (omega arith);
        recorded = record {
          mine = λ i lt. absurd (omega arith);
          nobody = λ p none. ap (total (λ (s : Seat). times p (view_of s).recorded)) only ∙ sum-none (λ (s : Seat). times p (view_of s).recorded) through (λ i lt e. ap (times p) (back i lt e).recorded);
        };
      }

      pub alone-lies : 0 < length (pagers ++ option_to_list live) → IsOpenable h.space → LiesBack h.space t
      alone-lies some openable =
          let d : Seat = (first-of (pagers ++ option_to_list live) some).seat in
          lies-from-back h.space t openable.summarised
          (lies-back (key_of pins) h (heap_back h) hs [] (length (pagers ++ option_to_list live)) (λ i. d) all t table (seats-back d) (passes-none hs (Has []) (heap_back h)) closed given_back (back-layout h.space before) openable)

      module _ (answers : List Answer) (shared : AnsweredByPagers (key_of pins) hints (map paged_of later) answers) where
        abbrev both : List Answer
        both = answers ++ answers_of_live new

        are-told : ArePagersTold pins through both
        are-told = told-with-live pins told more_told given more_given later live new serves answers (pagers-told pins hints pagers later answers paged shared)

        moved : AreMoved (key_of pins) all both [] [] []
        moved = subst (λ (ss : List Seat). AreMoved (key_of pins) ss both [] [] []) (sym only) (record {
          fetched_are = λ p. sum-none (λ (s : Seat). times p (view_of s).fetched) through (λ i lt d. ap (times p) (back i lt d).fetched);
          left_are = λ p. let one = are-told.left p in omega arith;
          emptied_are = λ p. let one = are-told.emptied p in omega arith;
          counted = sum-none (λ (s : Seat). length (view_of s).fetched) through (λ i lt d. ap (λ (l : List ℕ). length l) (back i lt d).fetched);
          few = omega arith;
          far = λ p past. (refl, refl, refl);
        })

        pub alone-answered : (kept after : List Answer) → after ≡ kept ++ answers → (lived last : List Answer) → last ≡ lived ++ answers_of_live new
            → (fed : List Notice) × (more_told ≡ told_with told fed) × AnsweredBeside (λ p. ⊥) (λ p content. ⊥) 0 h.space hints kept after t lived fed last
        alone-answered kept after all_are lived last last_are =
            let took = live-answered pins told more_told given more_given (length (map paged_of later)) live new (subst (λ (n : ℕ). IsLiveDealt pins n live) (sym (length-map later paged_of)) dealt) serves in (
              took.0,
              took.1,
              answered (λ p. ⊥) (λ p content. ⊥) 0 (key_of pins) h.space t all hints kept after (map paged_of later) answers lived took.0 last (answers_of_live new) [] [] [] opened.opening opened.frames opened.unused closed before given_back moved all_are shared last_are took.2
                  (omega arith)
                  (λ p some. absurd (omega arith))
                  (declined-with-live pins told more_told given more_given later live new serves seats hints t answers (λ p. ⊥) closed given_back.long.states shared
                  (λ p some. let none = moved.fetched_are p in absurd (omega arith))
                  (λ p near some.
                  let sum = ap (total (λ (s : Seat). reads_as p 1 (view_of s))) only in
                  let named = are-told.homes p near in
                  let left = moved.left_are p in
                  let emptied = moved.emptied_are p in
                  inl (omega arith)))
                  (λ p w b some.
                  let none = sum-none (λ (s : Seat). puts_with (key_of pins) p w b (view_of s).changed) through (λ i lt d. ap (puts_with (key_of pins) p w b) (back i lt d).changed) in
                  let sum = ap (total (λ (s : Seat). puts_with (key_of pins) p w b (view_of s).changed)) only in
                  absurd (omega arith)),
            )
