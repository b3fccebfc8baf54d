-- Lanes lay back what is their own, one after another.
use Rattle.std.proofs.Common.{◌≡◌, ℕ, ◌+◌, ◌-◌, ◌*◌, ◌<◌, ◌≤◌, List, [], ◌∷◌, ◌++◌, length, set, get_or, Vec, vec_capacity, inl, inr, refl, ap, sym, subst, ◌∙◌, arith, length-set, get_or-set_same, get_or-set_other, append_assoc}
use Rattle.std.specs.declared.alloc.Global.{Global}
use Rattle.std.proofs.Math.Seq.{get_or-append_seam}
use Rattle.std.proofs.lemmas.Bool.{cases_eq, cases_lt}
use Rattle.std.proofs.lemmas.List.{get_or_push, get_or_append_left, map-append, length_push}
use Rattle.bc_model.specs.declared.operations.Op.{Op}
use Rattle.bc_model.specs.declared.operations.Reply.{Reply}
use Rattle.bc_model.specs.declared.values.Holder.{Holder}
use Rattle.bc_pins.specs.declared.pins.Seat.{Seat}
use Rattle.bc_lane.specs.declared.turns.LaneTurn.{LaneTurn}
use Rattle.bc_reach.specs.Distinct.{Has}
use Rattle.bc_reach.proofs.Pushed.{Has-from_push}
use Rattle.bc_superpages.specs.RootWords.{RootWords}
use Rattle.bc_turn.specs.declared.runs.Run.{Run}
use Rattle.bc_turn.specs.Begun.{of_lane}
use Rattle.bc_turn.specs.Laying.{AreLaidBack, LaysBack}
use Rattle.bc_turn.specs.Taking.{AreRunsOf, FitsLanes, HasReplyRoom, HasRoomForLane, LiesRight, running_lanes, seat_at, turn_at}
use Rattle.bc_turn.proofs.LayingLemmas.{laid-next}
use Rattle.bc_whole_heap.specs.Heaps.{HeapView}

-- what is true while the lanes lay back what is their own: `runs` are those that are left, and `seats` those that came back
pub record Ending (hs : List Holder) (busy : List ℕ) (g : HeapView) (serials : List ℕ) (before : List (List Reply)) (all : List Run) (runs : List Run) (k : HeapView) (nexts : List ℕ) (after : List (List Reply)) (seats : List Seat) : Type 0 where
  pub laid : (d : Run) → AreLaidBack hs busy (turn_at d all) (length seats) g serials before k nexts after

-- and whichever lanes are busy
pub record Gathering (all runs : List Run) (seats : List Seat) : Type 0 where
  pub behind : List Run
  pub front : runs ++ behind ≡ all
  pub count : length seats + length runs ≡ length all
  pub seats_are : (i : ℕ) → i < length seats → (d : Run) → (e : Seat) → get_or seats i e ≡ seat_at d all i

append-nil : {X : Type 0} (xs : List X) → xs ++ [] ≡ xs
append-nil [] = refl
append-nil {X} (x ∷ xs) = ap (λ (t : List X). x ∷ t) (append-nil xs)

pub gathering-none : (all : List Run) (seats : List Seat) → seats ≡ [] → Gathering all all seats
gathering-none all seats none = record {
  behind = [];
  front = append-nil all;
  count = let z = ap length none in omega arith;
  seats_are = λ i lt d e. absurd (let z = ap length none in omega arith);
}

pub laid-none : (hs : List Holder) (busy : List ℕ) (turn : ℕ → LaneTurn) (g : HeapView) (serials : List ℕ) (before : List (List Reply)) → AreLaidBack hs busy turn 0 g serials before g serials before
laid-none hs busy turn g serials before = record {
  chunks_long = refl;
  buffers_long = refl;
  births_long = refl;
  replies_long = refl;
  words_long = refl;
  roots = refl;
  chunk = λ i lt. absurd (omega arith);
  buffer = λ i lt. absurd (omega arith);
  births = λ i lt. absurd (omega arith);
  replies = λ i lt. absurd (omega arith);
  words = λ i d t lt. absurd (omega arith);
  chunk_else = λ l off. refl;
  buffer_else = λ l off. refl;
  births_else = λ l off. refl;
  replies_else = λ l off. refl;
  words_else = λ d t lt off less. refl;
  kept = λ i h. h;
  written = λ i. inl refl;
}

pub ending-none : (hs : List Holder) (busy : List ℕ) (g : HeapView) (serials : List ℕ) (before : List (List Reply)) (all : List Run) (seats : List Seat) → seats ≡ [] → Ending hs busy g serials before all all g serials before seats
ending-none hs busy g serials before all seats none = record {
  laid = λ d. subst (λ (n : ℕ). AreLaidBack hs busy (turn_at d all) n g serials before g serials before) (sym (ap length none)) (laid-none hs busy (turn_at d all) g serials before);
}

-- the next run
module _ (all runs left : List Run) (seats : List Seat) (is : Gathering all runs seats) (run : Run) (runs_are : runs ≡ left ++ run ∷ []) where
  split : left ++ run ∷ is.behind ≡ all
  split = sym (append_assoc left (run ∷ []) is.behind) ∙ ap (λ (xs : List Run). xs ++ is.behind) (sym runs_are) ∙ is.front

  pub runs-count : length runs ≡ length left + 1
  runs-count = ap length runs_are ∙ length_push left run

  pub all-count : length all ≡ length seats + (length left + 1)
  all-count = let c = is.count in let r = runs-count in omega arith

  pub next-run : (d : Run) → get_or all (length all - (length seats + 1)) d ≡ run
  next-run d =
      let place : length all - (length seats + 1) ≡ length left = (let a = all-count in omega arith) in
      ap (λ (i : ℕ). get_or all i d) place ∙ ap (λ (xs : List Run). get_or xs (length left) d) (sym split) ∙ get_or-append_seam left run is.behind d

  pub gathering-more : (seat : Seat) → seat ≡ run.seat → Gathering all left (seats ++ seat ∷ [])
  gathering-more seat e =
      let p = length_push seats seat in
      let a = all-count in
      record {
        behind = run ∷ is.behind;
        front = split;
        count = omega arith;
        seats_are = λ i lt d f. elim (cases_lt i (length seats)) [
          | inl near ↦ get_or_append_left seats (seat ∷ []) f i near ∙ is.seats_are i near d f
          | inr far ↦
              let q : i ≡ length seats = omega arith in
              get_or_push seats seat f i (sym q) ∙ e ∙ ap (λ (r : Run). r.seat) (sym (next-run d)) ∙ ap (λ (j : ℕ). (get_or all (length all - (j + 1)) d).seat) (sym q)
        ];
      }

  module _ (hs : List Holder) (busy : List ℕ) (g : HeapView) (serials : List ℕ) (before : List (List Reply)) (are : AreRunsOf hs busy g all) (k : HeapView) (births : List ℕ) (told : List (List Reply)) (ending : Ending hs busy g serials before all runs k births told seats) where
    there : length seats < length busy
    there = let a = all-count in let l = are.long in omega arith

    pub lane-is : run.turn.part.lane ≡ get_or busy (length seats) 0
    lane-is = ap (λ (r : Run). r.turn.part.lane) (sym (next-run run)) ∙ are.lane_is (length seats) there run

    pub lane-within : run.turn.part.lane < length g.chunks
    lane-within = subst (λ (l : ℕ). l < length g.chunks) (sym lane-is) (are.within (length seats) there)

    pub holders-are : run.turn.part.holders.items ≡ hs
    holders-are = ap (λ (r : Run). r.turn.part.holders.items) (sym (next-run run)) ∙ are.holders_are (length seats) there run

    pub fits-now : (lanes n : ℕ) → FitsLanes lanes g (length serials) n → n ≡ length before → FitsLanes lanes k (length births) (length told)
    fits-now lanes n fits e =
        let laid = ending.laid run in
        record { chunks = laid.chunks_long ∙ fits.chunks; buffers = laid.buffers_long ∙ fits.buffers; births = laid.births_long ∙ fits.births; told = laid.replies_long ∙ sym e ∙ fits.told }

    pub lies-right : LiesRight run.turn.part.holders.items k.roots run.turn.part
    lies-right =
        let laid = ending.laid run in
        let right = subst (λ (r : Run). LiesRight hs g.roots r.turn.part) (next-run run) (are.right (length seats) there run) in
        let slots : k.roots.slots ≡ g.roots.slots = ap (λ (r : RootWords). r.slots) laid.roots in
        let domains : k.roots.domains ≡ g.roots.domains = ap (λ (r : RootWords). r.domains) laid.roots in
        subst (λ (xs : List Holder). LiesRight xs k.roots run.turn.part) (sym holders-are) (record {
          domains = right.domains;
          starts = right.starts;
          slots = right.slots ∙ sym slots;
          holders_long = right.holders_long ∙ sym domains;
          long = laid.words_long ∙ right.long ∙ ap (λ (s : ℕ). g.roots.domains * s) (sym slots) ∙ ap (λ (d : ℕ). d * k.roots.slots) (sym domains);
          enough = subst (λ (s : ℕ). length run.turn.part.domains.items * s ≤ length run.turn.part.words.items) (sym slots) right.enough;
          packed = right.packed;
        })

    pub ending-more : (n : HeapView) (nexts : List ℕ) (after : List (List Reply)) (seat : Seat) → LaysBack run.turn.part.holders.items run.turn k births told n nexts after
        → length g.buffers ≡ length g.chunks → length serials ≡ length g.chunks → length before ≡ length g.chunks → Ending hs busy g serials before all left n nexts after (seats ++ seat ∷ [])
    ending-more n nexts after seat lays buffers births_long told_long = record {
      laid = λ d.
          let back = subst (λ (t : LaneTurn). LaysBack hs t k births told n nexts after) (ap (λ (r : Run). r.turn) (sym (next-run d))) (subst (λ (xs : List Holder). LaysBack xs run.turn k births told n nexts after) holders-are lays) in
          let w = are.within (length seats) there in
          subst (λ (m : ℕ). AreLaidBack hs busy (turn_at d all) m g serials before n nexts after) (sym (length_push seats seat))
          (laid-next hs busy (turn_at d all) (length seats) g serials before k births told n nexts after (ending.laid d) back (are.lane_is (length seats) there d) there are.rising w (omega arith) (omega arith) (omega arith));
    }

  -- there is room for the replies of one lane more
  pub room-more : (lanes : List (List Op)) (vs ws : List (Vec Reply Global)) → HasReplyRoom lanes vs (running_lanes runs) → HasRoomForLane lanes run.turn → ws ≡ set vs run.turn.part.lane run.turn.replies → HasReplyRoom lanes ws (running_lanes left)
  room-more lanes vs ws room enough set_is j v lt off e =
      let long : length ws ≡ length vs = ap length set_is ∙ length-set vs run.turn.part.lane run.turn.replies in
      let at : v ≡ get_or (set vs run.turn.part.lane run.turn.replies) j v = e ∙ ap (λ (xs : List (Vec Reply Global)). get_or xs j v) set_is in
      let lanes_are : running_lanes runs ≡ running_lanes left ++ run.turn.part.lane ∷ [] = ap running_lanes runs_are ∙ map-append (λ (r : Run). r.turn.part.lane) left (run ∷ []) in
      elim (cases_eq j run.turn.part.lane) [
        | inl same ↦
            let here : v ≡ run.turn.replies = at ∙ ap (λ (i : ℕ). get_or (set vs run.turn.part.lane run.turn.replies) i v) same ∙ get_or-set_same vs run.turn.part.lane run.turn.replies v (omega arith) in
            subst (λ (u : Vec Reply Global). length (of_lane lanes j) ≤ vec_capacity u) (sym here) (subst (λ (i : ℕ). length (of_lane lanes i) ≤ vec_capacity run.turn.replies) (sym same) enough)
        | inr ne ↦
            room j v (omega arith)
            (λ has. elim (Has-from_push (running_lanes left) run.turn.part.lane j (subst (λ (xs : List ℕ). Has xs j) lanes_are has)) [ inl h ↦ off h | inr q ↦ ne (sym q) ])
            (at ∙ get_or-set_other vs run.turn.part.lane j run.turn.replies v ne)
      ]
