-- Room that is kept from one turn to the next.
use Rattle.std.proofs.Common.{◌≡◌, ℕ, ◌*◌, ◌<◌, ◌≤◌, nat_lt, cond, Bool, true, false, filter, List, [], ◌∷◌, ◌++◌, length, get_or, Vec, vec_capacity, inl, inr, refl, ap, sym, subst, ◌∙◌, arith}
use Prim.Native.Nat.{zero, suc}
use Rattle.std.proofs.lemmas.Bool.{cases_lt, lt-ltb, ltb-true}
use Rattle.std.proofs.lemmas.List.{get_or-map, get_or_append_left, get_or_past, get_or_push, length-map, length_push}
use Rattle.std.specs.declared.alloc.Global.{Global}
use Rattle.bc_lane.specs.declared.parts.LanePart.{LanePart}
use Rattle.bc_lane.specs.declared.turns.LaneRoom.{LaneRoom}
use Rattle.bc_lane.specs.Turns.{AreStarts}
use Rattle.bc_model.specs.declared.operations.Op.{Op}
use Rattle.bc_model.specs.declared.operations.Reply.{Reply}
use Rattle.bc_model.specs.declared.values.Holder.{Holder}
use Rattle.bc_reach.specs.Distinct.{Has}
use Rattle.bc_superpages.specs.RootWords.{RootWords}
use Rattle.bc_turn.specs.declared.rooms.Spare.{Spare}
use Rattle.bc_turn.specs.declared.rooms.TurnRoom.{TurnRoom}
use Rattle.bc_turn.specs.Begun.{AreBusyLanes, of_lane}
use Rattle.bc_turn.specs.Beside.{RanBeside}
use Rattle.bc_turn.specs.Taking.{AreHeldDomains, AreSparesOf, HasBusyAmong, IsRoomKept, IsSpareOf, LiesRight, spare_lanes}
use Rattle.bc_turn.proofs.TakingLemmas.{spares-more}
use Rattle.bc_whole_heap.specs.Heaps.{HeapView}
use Rattle.bc_reach.proofs.Pushed.{Has-get_or, place_of}

-- lists with the same numbers in the same places
pub same-numbers : (xs ys : List ℕ) → length xs ≡ length ys → ((i : ℕ) → i < length xs → get_or xs i 0 ≡ get_or ys i 0) → xs ≡ ys
same-numbers [] [] long each = refl
same-numbers [] (y ∷ ys) long each = absurd (omega arith)
same-numbers (x ∷ xs) [] long each = absurd (omega arith)
same-numbers (x ∷ xs) (y ∷ ys) long each =
    ap (λ (a : ℕ). a ∷ xs) (each 0 (omega arith)) ∙ ap (λ (t : List ℕ). y ∷ t) (same-numbers xs ys (omega arith) (λ i lt. each (suc i) (omega arith)))

-- where replies only get longer
pub busy-later : (lanes : List (List Op)) (before after : List (List Reply)) (kept : List ℕ) → ((j : ℕ) → length (of_lane before j) ≤ length (of_lane after j)) → HasBusyAmong lanes before kept → HasBusyAmong lanes after kept
busy-later lanes before after kept longer among = record {
  rising = among.rising;
  within = among.within;
  all = λ lane left. among.all lane (let more = longer lane in omega (arith, left));
}

pub room-kept : (hs : List Holder) (slots : ℕ) (lanes : List (List Op)) (before after : List (List Reply)) (room : TurnRoom) → ((j : ℕ) → length (of_lane before j) ≤ length (of_lane after j))
    → IsRoomKept hs slots lanes before room → IsRoomKept hs slots lanes after room
room-kept hs slots lanes before after room longer (inl none) = inl none
room-kept hs slots lanes before after room longer (inr kept) = inr (kept.0, busy-later lanes before after (spare_lanes room.spares.items) longer kept.1)

-- lanes that run make them so
pub beside-longer : (hs : List Holder) (lanes : List (List Op)) (h : HeapView) (serials : List ℕ) (before : List (List Reply)) (k : HeapView) (nexts : List ℕ) (after : List (List Reply)) → length before ≡ length lanes
    → RanBeside hs lanes h serials before k nexts after → (j : ℕ) → length (of_lane before j) ≤ length (of_lane after j)
beside-longer hs lanes h serials before k nexts after sizes ran j = elim (cases_lt j (length lanes)) [
  | inl lt ↦ subst (λ (rs : List Reply). length (of_lane before j) ≤ length rs) (sym (ran.told j lt)) (longer (of_lane before j) (ran.new j))
  | inr out ↦ subst (λ (rs : List Reply). length rs ≤ length (of_lane after j)) (sym (get_or_past before j [] (omega arith))) (omega arith)
]
  where
    longer : (xs ys : List Reply) → length xs ≤ length (xs ++ ys)
    longer [] ys = omega arith
    longer (x ∷ xs) ys = let more = longer xs ys in omega arith

-- lanes with operations left are among themselves
pub busy-among : (lanes : List (List Op)) (replies : List (List Reply)) (busy : List ℕ) → AreBusyLanes lanes replies busy → HasBusyAmong lanes replies busy
busy-among lanes replies busy are = record { rising = are.rising; within = are.within; all = are.all }

-- numbers of a list that pass a test: those of a list whose first number passes or not, by those of the rest
from-cons : (test : ℕ → Bool) (x n : ℕ) (xs ys : List ℕ) → ((Has ys n) → Has xs n × (test n ≡ true)) → (b : Bool) → test x ≡ b → Has (cond b (x ∷ ys) ys) n → Has (x ∷ xs) n × (test n ≡ true)
from-cons test x n xs ys rest true e (inl same) = (inl same, ap test (sym same) ∙ e)
from-cons test x n xs ys rest true e (inr more) = let r = rest more in (inr r.0, r.1)
from-cons test x n xs ys rest false e more = let r = rest more in (inr r.0, r.1)

filter-from : (test : ℕ → Bool) (xs : List ℕ) (n : ℕ) → Has (filter test xs) n → Has xs n × (test n ≡ true)
filter-from test [] n has = absurd has
filter-from test (x ∷ xs) n has = from-cons test x n xs (filter test xs) (filter-from test xs n) (test x) refl has

false-true : false ≡ true → ⊥
false-true q = cc

to-cons : (test : ℕ → Bool) (x n : ℕ) (xs ys : List ℕ) → test n ≡ true → (Has xs n → Has ys n) → (b : Bool) → test x ≡ b → Has (x ∷ xs) n → Has (cond b (x ∷ ys) ys) n
to-cons test x n xs ys passes rest true e (inl same) = inl same
to-cons test x n xs ys passes rest true e (inr more) = inr (rest more)
to-cons test x n xs ys passes rest false e (inl same) = absurd (false-true (sym e ∙ ap test same ∙ passes))
to-cons test x n xs ys passes rest false e (inr more) = rest more

filter-to : (test : ℕ → Bool) (xs : List ℕ) (n : ℕ) → test n ≡ true → Has xs n → Has (filter test xs) n
filter-to test [] n passes has = absurd has
filter-to test (x ∷ xs) n passes has = to-cons test x n xs (filter test xs) passes (filter-to test xs n passes) (test x) refl has

abbrev Rises : List ℕ → Type 0
Rises xs = (i j : ℕ) → i < j → j < length xs → get_or xs i 0 < get_or xs j 0

rises-cons : (x : ℕ) (ys : List ℕ) → Rises ys → ((n : ℕ) → Has ys n → x < n) → (b : Bool) → Rises (cond b (x ∷ ys) ys)
rises-cons x ys rest first true zero zero less lt = absurd (omega arith)
rises-cons x ys rest first true zero (suc j) less lt = first (get_or ys j 0) (Has-get_or ys j (omega arith))
rises-cons x ys rest first true (suc i) zero less lt = absurd (omega arith)
rises-cons x ys rest first true (suc i) (suc j) less lt = rest i j (omega arith) (omega arith)
rises-cons x ys rest first false i j less lt = rest i j less lt

filter-rises : (test : ℕ → Bool) (xs : List ℕ) → Rises xs → Rises (filter test xs)
filter-rises test [] rises = λ i j less lt. absurd (omega arith)
filter-rises test (x ∷ xs) rises =
    rises-cons x (filter test xs) (filter-rises test xs (λ i j less lt. rises (suc i) (suc j) (omega arith) (omega arith)))
    (λ n has.
    let r = place_of xs n (filter-from test xs n has).0 in
    let up = rises 0 (suc r.0) (omega arith) (let lt = r.1 in omega arith) in
    let is = r.2 in
    omega arith) (test x)

-- has the lane operations left?
abbrev pub is_busy : List (List Op) → List (List Reply) → ℕ → Bool
is_busy lanes replies lane = nat_lt (length (of_lane replies lane)) (length (of_lane lanes lane))

-- those among the lanes that have operations left
module _ (lanes : List (List Op)) (replies : List (List Reply)) (kept : List ℕ) (among : HasBusyAmong lanes replies kept) where
  abbrev left-ones : List ℕ
  left-ones = filter (is_busy lanes replies) kept

  left-from : (i : ℕ) → i < length left-ones → Has kept (get_or left-ones i 0) × (is_busy lanes replies (get_or left-ones i 0) ≡ true)
  left-from i lt = filter-from (is_busy lanes replies) kept (get_or left-ones i 0) (Has-get_or left-ones i lt)

  pub busy-kept : AreBusyLanes lanes replies left-ones
  busy-kept = record {
    within = λ i lt.
        let r = place_of kept (get_or left-ones i 0) (left-from i lt).0 in
        let w = among.within r.0 r.1 in
        let is = r.2 in
        omega arith;
    more = λ i lt. ltb-true (length (of_lane replies (get_or left-ones i 0))) (length (of_lane lanes (get_or left-ones i 0))) (left-from i lt).1;
    rising = filter-rises (is_busy lanes replies) kept among.rising;
    all = λ lane left.
        let r = among.all lane left in
        place_of left-ones lane
        (filter-to (is_busy lanes replies) kept lane (lt-ltb (length (of_lane replies lane)) (length (of_lane lanes lane)) left) (subst (Has kept) r.2 (Has-get_or kept r.0 r.1)));
  }

-- the room of those
lanes-cons : (spare : Spare) (spares : List Spare) (lanes : List ℕ) → spare_lanes spares ≡ lanes → (b : Bool) → spare_lanes (cond b (spare ∷ spares) spares) ≡ cond b (spare.lane ∷ lanes) lanes
lanes-cons spare spares lanes same true = ap (λ (ls : List ℕ). spare.lane ∷ ls) same
lanes-cons spare spares lanes same false = same

pub filter-lanes : (test : ℕ → Bool) (spares : List Spare) → spare_lanes (filter (λ (spare : Spare). test spare.lane) spares) ≡ filter test (spare_lanes spares)
filter-lanes test [] = refl
filter-lanes test (spare ∷ spares) = lanes-cons spare (filter (λ (s : Spare). test s.lane) spares) (filter test (spare_lanes spares)) (filter-lanes test spares) (test spare.lane)

spares-cons : (hs : List Holder) (slots : ℕ) (spare : Spare) (spares left : List Spare) → AreSparesOf hs slots (spare ∷ spares) → AreSparesOf hs slots left → (b : Bool) → AreSparesOf hs slots (cond b (spare ∷ left) left)
spares-cons hs slots spare spares left all rest true zero lt d = all 0 (omega arith) d
spares-cons hs slots spare spares left all rest true (suc i) lt d = rest i (omega arith) d
spares-cons hs slots spare spares left all rest false i lt d = rest i lt d

pub filter-spares : (hs : List Holder) (slots : ℕ) (test : Spare → Bool) (spares : List Spare) → AreSparesOf hs slots spares → AreSparesOf hs slots (filter test spares)
filter-spares hs slots test [] all = λ i lt d. absurd (omega arith)
filter-spares hs slots test (spare ∷ spares) all = spares-cons hs slots spare spares (filter test spares) all (filter-spares hs slots test spares (λ i lt d. all (suc i) (omega arith) d)) (test spare)

-- room that is kept, without that of lanes that have no operations left
pub room-fitted : (hs : List Holder) (slots : ℕ) (lanes : List (List Op)) (replies : List (List Reply)) (room : TurnRoom) (new : List Spare) → IsRoomKept hs slots lanes replies room → 0 < length room.spares.items
    → new ≡ filter (λ (spare : Spare). is_busy lanes replies spare.lane) room.spares.items → AreBusyLanes lanes replies (spare_lanes new) × AreSparesOf hs slots new
room-fitted hs slots lanes replies room new (inl none) some is = absurd (let zero = ap length none in omega arith)
room-fitted hs slots lanes replies room new (inr kept) some is = (
  subst (AreBusyLanes lanes replies) (sym (ap spare_lanes is ∙ filter-lanes (is_busy lanes replies) room.spares.items)) (busy-kept lanes replies (spare_lanes room.spares.items) kept.1),
  subst (AreSparesOf hs slots) (sym is) (filter-spares hs slots (λ (spare : Spare). is_busy lanes replies spare.lane) room.spares.items kept.0),
)

-- the room of a lane whose turn ended
pub spare-back : (hs : List Holder) (part : LanePart) (r : RootWords) (spare : Spare) → LiesRight hs r part → part.holders.items ≡ hs → spare.lane ≡ part.lane
    → spare.room ≡ record { holders = part.holders; starts = part.starts; slots = part.slots } → spare.roots.domains ≡ part.domains → spare.roots.words.items ≡ [] → length part.words.items ≤ vec_capacity spare.roots.words → IsSpareOf hs r.slots spare
spare-back hs part r spare right holders lane room domains none enough =
    let items : spare.roots.domains.items ≡ part.domains.items = ap (λ (v : Vec ℕ Global). v.items) domains in
    record {
      room = record {
        holders_are = ap (λ (x : LaneRoom). x.holders.items) room ∙ holders;
        slots_are = ap (λ (x : LaneRoom). x.slots) room ∙ right.slots;
        starts =
            subst (λ (ds : List ℕ). AreStarts ds r.slots (length hs) spare.room.starts.items) (sym items)
            (subst (λ (x : LaneRoom). AreStarts part.domains.items r.slots (length hs) x.starts.items) (sym room)
            (subst (λ (n : ℕ). AreStarts part.domains.items n (length hs) part.starts.items) right.slots right.starts));
      };
      domains =
          subst (λ (ds : List ℕ). AreHeldDomains hs spare.lane ds) (sym items) (subst (λ (l : ℕ). AreHeldDomains hs l part.domains.items) (sym lane) right.domains);
      words = none;
      capacity = subst (λ (ds : List ℕ). length ds * r.slots ≤ vec_capacity spare.roots.words) (sym items) (let most = right.enough in omega arith);
    }

-- room that came back so far: that of the first of the busy lanes
pub record AreReturned (hs : List Holder) (slots : ℕ) (busy : List ℕ) (spares : List Spare) : Type 0 where
  pub spares_are : AreSparesOf hs slots spares
  pub lanes_are : (i : ℕ) → i < length spares → get_or (spare_lanes spares) i 0 ≡ get_or busy i 0

pub returned-none : (hs : List Holder) (slots : ℕ) (busy : List ℕ) (spares : List Spare) → spares ≡ [] → AreReturned hs slots busy spares
returned-none hs slots busy spares none = record {
  spares_are = λ i lt d. absurd (let z = ap length none in omega arith);
  lanes_are = λ i lt. absurd (let z = ap length none in omega arith);
}

pub returned-more : (hs : List Holder) (slots : ℕ) (busy : List ℕ) (spares : List Spare) (spare : Spare) → AreReturned hs slots busy spares → IsSpareOf hs slots spare → spare.lane ≡ get_or busy (length spares) 0
    → AreReturned hs slots busy (spares ++ spare ∷ [])
returned-more hs slots busy spares spare are one lane = record {
  spares_are = spares-more hs slots spares spare are.spares_are one;
  lanes_are = λ i lt.
      let long = length_push spares spare in
      get_or-map (λ (s : Spare). s.lane) (spares ++ spare ∷ []) i spare 0 lt
      ∙ elim (cases_lt i (length spares)) [
        | inl near ↦
            ap (λ (s : Spare). s.lane) (get_or_append_left spares (spare ∷ []) spare i near) ∙ sym (get_or-map (λ (s : Spare). s.lane) spares i spare 0 near) ∙ are.lanes_are i near
        | inr far ↦
            let end : length spares ≡ i = omega arith in
            ap (λ (s : Spare). s.lane) (get_or_push spares spare spare i end) ∙ lane ∙ ap (λ (j : ℕ). get_or busy j 0) end
      ];
}

pub returned-all : (hs : List Holder) (slots : ℕ) (busy : List ℕ) (spares : List Spare) → AreReturned hs slots busy spares → length spares ≡ length busy → AreSparesOf hs slots spares × (spare_lanes spares ≡ busy)
returned-all hs slots busy spares are long =
    let lanes = length-map spares (λ (s : Spare). s.lane) in (
      are.spares_are,
      same-numbers (spare_lanes spares) busy (omega arith) (λ i lt. are.lanes_are i (omega arith)),
    )
