-- What a lane takes into a turn: the domains that it holds, the words of their slots, and room for both.
use Rattle.std.proofs.Common.{◌≡◌, ◌≢◌, ℕ, ◌+◌, ◌*◌, ◌<◌, ◌≤◌, List, [], ◌∷◌, ◌++◌, length, take, drop, get_or, Vec, vec_len, inl, inr, refl, ap, sym, subst, ◌∙◌, arith}
use Rattle.std.proofs.Math.Nat.{mul-le-mul_right}
use Rattle.std.proofs.lemmas.Bool.{cases_eq, cases_lt}
use Rattle.std.specs.declared.alloc.Global.{Global}
use Rattle.std.proofs.lemmas.List.{drop_all, get_or_push, get_or_append_left, get_or_past, get_or-map, length-map, map-append, length_push}
use Rattle.std.proofs.Math.Seq.{take-append_seam}
use Rattle.bc_lane.specs.declared.turns.LaneRoots.{LaneRoots}
use Rattle.bc_lane.specs.declared.turns.LaneTurn.{LaneTurn}
use Rattle.bc_lane.specs.Turns.{IsPreparedTurn}
use Rattle.bc_cycle.specs.declared.heaps.Heap.{Heap}
use Rattle.bc_model.specs.Rows.{lists_of}
use Rattle.bc_model.specs.State.{holder_of}
use Rattle.std.proofs.lemmas.Nat.{mul-add-lt}
use Rattle.bc_model.specs.declared.operations.Op.{Op}
use Rattle.bc_model.specs.declared.operations.Reply.{Reply}
use Rattle.bc_model.specs.declared.values.Holder.{Holder}
use Rattle.bc_model.specs.declared.values.Holder.TheVariants.{Lane}
use Rattle.bc_mutator.specs.Objects.{own_chunk}
use Rattle.bc_nursery.specs.Entries.{Entries}
use Rattle.bc_nursery.specs.Nurseries.{Nursery}
use Rattle.bc_superpages.specs.RootSlots.{root_at}
use Rattle.bc_superpages.specs.RootWords.{RootWords}
use Rattle.bc_turn.specs.declared.rooms.Spare.{Spare}
use Rattle.bc_turn.specs.Begun.{AreBusyLanes, HasLeft, of_lane}
use Rattle.bc_turn.specs.Taking.{AreFirstWords, AreHeldBelow, AreHeldDomains, AreSparesOf, AreWordsOf, TakesAlong, HasCopied, IsSpareOf, spare_lanes}
use Rattle.bc_whole_heap.specs.Closed.{buffer_of}
use Rattle.bc_whole_heap.specs.Heaps.{HeapView}
use Rattle.bc_word.specs.WordBits.{IsPacked}

-- what is true of all numbers of a list and of one more is true of the longer list's
push-each : (P : ℕ → Type 0) (xs : List ℕ) (y : ℕ) → ((i : ℕ) → i < length xs → P (get_or xs i 0)) → P y → (i : ℕ) → i < length (xs ++ y ∷ []) → P (get_or (xs ++ y ∷ []) i 0)
push-each P xs y all one i lt = elim (cases_lt i (length xs)) [
  | inl near ↦ subst P (sym (get_or_append_left xs (y ∷ []) 0 i near)) (all i near)
  | inr far ↦ let long = length_push xs y in subst P (sym (get_or_push xs y 0 i (omega arith))) one
]

-- a list that rises still does with a larger number at its end
push-rising : (xs : List ℕ) (y : ℕ) → ((i j : ℕ) → i < j → j < length xs → get_or xs i 0 < get_or xs j 0) → ((i : ℕ) → i < length xs → get_or xs i 0 < y)
    → (i j : ℕ) → i < j → j < length (xs ++ y ∷ []) → get_or (xs ++ y ∷ []) i 0 < get_or (xs ++ y ∷ []) j 0
push-rising xs y rising below i j less lt =
    let long = length_push xs y in
    let near : i < length xs = omega arith in
    let first : get_or (xs ++ y ∷ []) i 0 ≡ get_or xs i 0 = get_or_append_left xs (y ∷ []) 0 i near in
    elim (cases_lt j (length xs)) [
      | inl more ↦
          let second : get_or (xs ++ y ∷ []) j 0 ≡ get_or xs j 0 = get_or_append_left xs (y ∷ []) 0 j more in
          let h = rising i j less more in omega arith
      | inr end ↦
          let second : get_or (xs ++ y ∷ []) j 0 ≡ y = get_or_push xs y 0 j (omega arith) in
          let h = below i near in omega arith
    ]

-- where a number stands in the longer list
push-found : (xs : List ℕ) (y a : ℕ) → (i : ℕ) × (i < length xs) × (get_or xs i 0 ≡ a) → (i : ℕ) × (i < length (xs ++ y ∷ [])) × (get_or (xs ++ y ∷ []) i 0 ≡ a)
push-found xs y a f = let long = length_push xs y in (f.0, omega (arith, f.1), get_or_append_left xs (y ∷ []) 0 f.0 f.1 ∙ f.2)

push-last : (xs : List ℕ) (y : ℕ) → (i : ℕ) × (i < length (xs ++ y ∷ [])) × (get_or (xs ++ y ∷ []) i 0 ≡ y)
push-last xs y = let long = length_push xs y in (length xs, omega arith, get_or_push xs y 0 (length xs) refl)

-- domains that a lane holds
pub held-none : (hs : List Holder) (lane : ℕ) → AreHeldBelow hs lane 0 []
held-none hs lane = record {
  rising = λ i j less lt. absurd (omega arith);
  within = λ i lt. absurd (omega arith);
  held = λ i lt. absurd (omega arith);
  all = λ d lt own. absurd (omega arith);
}

pub held-more : (hs : List Holder) (lane n : ℕ) (ds : List ℕ) → AreHeldBelow hs lane n ds → holder_of hs n ≡ Lane lane → AreHeldBelow hs lane (n + 1) (ds ++ n ∷ [])
held-more hs lane n ds are own = record {
  rising = push-rising ds n are.rising are.within;
  within = push-each (λ d. d < n + 1) ds n (λ i lt. let h = are.within i lt in omega arith) (omega arith);
  held = push-each (λ d. holder_of hs d ≡ Lane lane) ds n are.held own;
  all = λ d lt mine. elim (cases_eq d n) [
    | inl e ↦ let f = push-last ds n in (f.0, f.1, f.2 ∙ sym e)
    | inr ne ↦ push-found ds n d (are.all d (omega arith) mine)
  ];
}

pub held-same : (hs : List Holder) (lane n : ℕ) (ds : List ℕ) → AreHeldBelow hs lane n ds → holder_of hs n ≢ Lane lane → AreHeldBelow hs lane (n + 1) ds
held-same hs lane n ds are off = record {
  rising = are.rising;
  within = λ i lt. let h = are.within i lt in omega arith;
  held = are.held;
  all = λ d lt mine. elim (cases_eq d n) [
    | inl e ↦ absurd (off (ap (λ (x : ℕ). holder_of hs x) (sym e) ∙ mine))
    | inr ne ↦ are.all d (omega arith) mine
  ];
}

-- words that are copied
pub copied-none : (r : RootWords) (d : ℕ) (ws : List ℕ) → HasCopied r d 0 ws ws
copied-none r d ws = record {
  long = omega arith;
  kept = λ k lt. refl;
  each = λ t lt. absurd (omega arith);
  packed = λ packed. packed;
}

pub copied-more : (r : RootWords) (d n bits : ℕ) (old new : List ℕ) → HasCopied r d n old new → bits ≡ root_at r d n → IsPacked bits → HasCopied r d (n + 1) old (new ++ bits ∷ [])
copied-more r d n bits old new is word packed =
    let long = is.long in
    let longer = length_push new bits in
    record {
      long = omega arith;
      kept = λ k lt. get_or_append_left new (bits ∷ []) 0 k (omega arith) ∙ is.kept k lt;
      each = λ t lt. elim (cases_lt t n) [
        | inl less ↦ get_or_append_left new (bits ∷ []) 0 (length old + t) (omega arith) ∙ is.each t less
        | inr end ↦ let e : t ≡ n = omega arith in get_or_push new bits 0 (length old + t) (omega arith) ∙ word ∙ ap (λ (x : ℕ). root_at r d x) (sym e)
      ];
      packed = λ all k. elim (cases_lt k (length new)) [
        | inl near ↦ subst IsPacked (sym (get_or_append_left new (bits ∷ []) 0 k near)) (is.packed all k)
        | inr far ↦ elim (cases_eq k (length new)) [
          | inl e ↦ subst IsPacked (sym (get_or_push new bits 0 k (sym e))) packed
          | inr ne ↦ subst IsPacked (get_or_past new k 0 far ∙ sym (get_or_past (new ++ bits ∷ []) k 0 (omega arith))) (is.packed all k)
        ]
      ];
    }

pub words-none : (r : RootWords) (ds : List ℕ) → IsPacked 0 → AreFirstWords r ds 0 []
words-none r ds nil = record {
  long = omega arith;
  each = λ i t lt less. absurd (omega arith);
  packed = λ k. subst IsPacked (sym (get_or_past [] k 0 (omega arith))) nil;
}

pub words-more : (r : RootWords) (ds : List ℕ) (n d : ℕ) (old new : List ℕ) → AreFirstWords r ds n old → d ≡ get_or ds n 0 → HasCopied r d r.slots old new → AreFirstWords r ds (n + 1) new
words-more r ds n d old new are e is =
    let long = are.long in
    let longer = is.long in
    record {
      long = longer ∙ ap (λ (x : ℕ). x + r.slots) long ∙ step r.slots;
      each = λ i t lt less. elim (cases_lt i n) [
        | inl near ↦ let m = mul-add-lt i r.slots t n near less in is.kept (i * r.slots + t) (omega arith) ∙ are.each i t near less
        | inr end ↦
            let same : i ≡ n = omega arith in
            ap (λ (x : ℕ). get_or new (x * r.slots + t) 0) same ∙ ap (λ (x : ℕ). get_or new (x + t) 0) (sym long) ∙ is.each t less
            ∙ ap (λ (x : ℕ). root_at r x t) e ∙ ap (λ (x : ℕ). root_at r (get_or ds x 0) t) (sym same)
      ];
      packed = is.packed are.packed;
    }
  where
    step : (s : ℕ) → n * s + s ≡ (n + 1) * s
    step s = grind arith

-- lanes that have operations left, as far as the lanes were gone over
pub record AreBusyBelow (lanes : List (List Op)) (replies : List (List Reply)) (end : ℕ) (busy : List ℕ) : Type 0 where
  pub within : (i : ℕ) → i < length busy → get_or busy i 0 < end
  pub more : (i : ℕ) → i < length busy → HasLeft lanes replies (get_or busy i 0)
  pub rising : (i j : ℕ) → i < j → j < length busy → get_or busy i 0 < get_or busy j 0
  pub all : (lane : ℕ) → lane < end → HasLeft lanes replies lane → (i : ℕ) × (i < length busy) × (get_or busy i 0 ≡ lane)

pub busy-none : (lanes : List (List Op)) (replies : List (List Reply)) → AreBusyBelow lanes replies 0 []
busy-none lanes replies = record {
  within = λ i lt. absurd (omega arith);
  more = λ i lt. absurd (omega arith);
  rising = λ i j less lt. absurd (omega arith);
  all = λ lane lt left. absurd (omega arith);
}

pub busy-more : (lanes : List (List Op)) (replies : List (List Reply)) (n : ℕ) (busy : List ℕ) → AreBusyBelow lanes replies n busy → HasLeft lanes replies n → AreBusyBelow lanes replies (n + 1) (busy ++ n ∷ [])
busy-more lanes replies n busy are left = record {
  within = push-each (λ d. d < n + 1) busy n (λ i lt. let h = are.within i lt in omega arith) (omega arith);
  more = push-each (HasLeft lanes replies) busy n are.more left;
  rising = push-rising busy n are.rising are.within;
  all = λ lane lt mine. elim (cases_eq lane n) [
    | inl e ↦ let f = push-last busy n in (f.0, f.1, f.2 ∙ sym e)
    | inr ne ↦ push-found busy n lane (are.all lane (omega arith) mine)
  ];
}

pub busy-same : (lanes : List (List Op)) (replies : List (List Reply)) (n : ℕ) (busy : List ℕ) → AreBusyBelow lanes replies n busy → (HasLeft lanes replies n → ⊥) → AreBusyBelow lanes replies (n + 1) busy
busy-same lanes replies n busy are none = record {
  within = λ i lt. let h = are.within i lt in omega arith;
  more = are.more;
  rising = are.rising;
  all = λ lane lt mine. elim (cases_eq lane n) [
    | inl e ↦ absurd (none (subst (HasLeft lanes replies) e mine))
    | inr ne ↦ are.all lane (omega arith) mine
  ];
}

pub busy-all : (lanes : List (List Op)) (replies : List (List Reply)) (busy : List ℕ) → AreBusyBelow lanes replies (length lanes) busy → AreBusyLanes lanes replies busy
busy-all lanes replies busy are = record {
  within = are.within;
  more = are.more;
  rising = are.rising;
  all = λ lane left. elim (cases_lt lane (length lanes)) [
    | inl lt ↦ are.all lane lt left
    | inr out ↦ let none : length (of_lane lanes lane) ≡ 0 = ap length (get_or_past lanes lane [] out) in absurd (omega (arith, left))
  ];
}

-- room for one lane more
pub spares-more : (hs : List Holder) (slots : ℕ) (spares : List Spare) (spare : Spare) → AreSparesOf hs slots spares → IsSpareOf hs slots spare → AreSparesOf hs slots (spares ++ spare ∷ [])
spares-more hs slots spares spare all one i lt d = elim (cases_lt i (length spares)) [
  | inl near ↦ subst (IsSpareOf hs slots) (sym (get_or_append_left spares (spare ∷ []) d i near)) (all i near d)
  | inr far ↦ let long = length_push spares spare in subst (IsSpareOf hs slots) (sym (get_or_push spares spare d i (omega arith))) one
]

pub lanes-more : (spares : List Spare) (spare : Spare) (lane : ℕ) → spare.lane ≡ lane → spare_lanes (spares ++ spare ∷ []) ≡ spare_lanes spares ++ lane ∷ []
lanes-more spares spare lane e = map-append (λ (s : Spare). s.lane) spares (spare ∷ []) ∙ ap (λ (x : ℕ). spare_lanes spares ++ x ∷ []) e

pub nil-packed : IsPacked 0
nil-packed = (omega arith, λ _. omega arith)

-- as many words as one domain more has
pub stretch-fits : (n count slots : ℕ) → n < count → n * slots + slots ≤ count * slots
stretch-fits n count slots lt =
    let le : (n + 1) * slots ≤ count * slots = mul-le-mul_right slots (omega arith) in
    let one : (n + 1) * slots ≡ n * slots + slots = grind arith in
    omega arith

-- the list that stands in a place, by the vector there
pub list-at : {X : Type 0} (vs : List (Vec X Global)) (i : ℕ) (v : Vec X Global) → i < length vs → v ≡ get_or vs i v → get_or (lists_of vs) i [] ≡ v.items
list-at {X} vs i v lt e = get_or-map (λ (u : Vec X Global). u.items) vs i v [] lt ∙ ap (λ (u : Vec X Global). u.items) (sym e)

-- what a lane takes along, by what it was prepared with
pub takes-of : (h : HeapView) (hs : List Holder) (serials : List ℕ) (lanes : List (List Op)) (before : List (List Reply)) (lane : ℕ) (turn : LaneTurn) (roots : LaneRoots) (told : Vec Reply Global) (slots count : ℕ) (chunk : Nursery) (buffer : Entries)
    → AreHeldDomains hs lane roots.domains.items → AreWordsOf h.roots roots.domains.items roots.words.items → told.items ≡ of_lane before lane → slots ≡ h.roots.slots → chunk ≡ own_chunk h lane
    → buffer ≡ buffer_of h.buffers lane → count ≡ length (of_lane lanes lane) → IsPreparedTurn lane hs slots h.roots roots chunk buffer (get_or serials lane 0) told count turn → TakesAlong h hs serials lanes before lane turn
takes-of h hs serials lanes before lane turn roots told slots count chunk buffer domains words told_are slots_are chunk_is buffer_is count_is prepared = record {
  roots = roots;
  domains = domains;
  words = words;
  told = told;
  told_are = told_are;
  prepared = subst (λ (s : ℕ). IsPreparedTurn lane hs s h.roots roots (own_chunk h lane) (buffer_of h.buffers lane) (get_or serials lane 0) told (length (of_lane lanes lane)) turn) slots_are
      (subst (λ (c : Nursery). IsPreparedTurn lane hs slots h.roots roots c (buffer_of h.buffers lane) (get_or serials lane 0) told (length (of_lane lanes lane)) turn) chunk_is
      (subst (λ (b : Entries). IsPreparedTurn lane hs slots h.roots roots chunk b (get_or serials lane 0) told (length (of_lane lanes lane)) turn) buffer_is
      (subst (λ (n : ℕ). IsPreparedTurn lane hs slots h.roots roots chunk buffer (get_or serials lane 0) told n turn) count_is prepared)));
}

-- the operations of a lane, by the vector in its place
pub ops-at : (vs : List (Vec Op Global)) (lane : ℕ) (v : Vec Op Global) (ops : List Op) → lane < length vs → v ≡ get_or vs lane v → ops ≡ v.items → ops ≡ of_lane (lists_of vs) lane
ops-at vs lane v ops lt is value = value ∙ sym (list-at vs lane v lt is)

-- what was read of a place is what stands there
pub told-at : (vs : List (Vec Reply Global)) (lane : ℕ) (v told : Vec Reply Global) → told ≡ get_or vs lane v → v ≡ get_or vs lane v → told ≡ get_or vs lane told
told-at vs lane v told value is = value ∙ ap (λ (u : Vec Reply Global). get_or vs lane u) (is ∙ sym value)

pub list-long : {X : Type 0} (vs : List (Vec X Global)) (i n : ℕ) (v : Vec X Global) → i < length vs → v ≡ get_or vs i v → n ≡ vec_len v → length (get_or (lists_of vs) i []) ≡ n
list-long {X} vs i n v lt is count = ap length (list-at vs i v lt is) ∙ sym v.ok.0 ∙ sym count

pub no-items : {X : Type 0} (xs : List X) → length xs ≡ 0 → xs ≡ []
no-items [] e = refl
no-items (x ∷ xs) e = absurd (omega arith)

-- room that fits the root slots of one heap fits those of another that differs in chunks and buffers alone
pub spare-slots : (hs : List Holder) (old new : Heap) (spare : Spare) → new ≡ record old { chunks = new.chunks; buffers = new.buffers } → IsSpareOf hs old.roots.slots spare → IsSpareOf hs new.roots.slots spare
spare-slots hs old new spare same is = subst (λ (s : ℕ). IsSpareOf hs s spare) (sym (ap (λ (h : Heap). h.roots.slots) same)) is

pub ops-within : (vs : List (Vec Op Global)) (lane : ℕ) → lane < length (lists_of vs) → lane < length vs
ops-within vs lane lt = let long = length-map vs (λ (v : Vec Op Global). v.items) in omega arith

-- the same where the place is given by a number
pub ops-of : (vs : List (Vec Op Global)) (lane place : ℕ) (v : Vec Op Global) (ops : List Op) → lane < length (lists_of vs) → place ≡ lane → v ≡ get_or vs place v → ops ≡ v.items → ops ≡ of_lane (lists_of vs) lane
ops-of vs lane place v ops lt e is value = ops-at vs lane v ops (ops-within vs lane lt) (is ∙ ap (λ (i : ℕ). get_or vs i v) e) value

-- a list whose first elements were written back into it, all of them
pub written-back : {X : Type 0} (xs s : List X) (n : ℕ) → length s ≡ length xs → n ≡ length xs → take n (s ++ drop (length s) xs) ≡ s
written-back {X} xs s n long all =
    ap (λ (ys : List X). take n (s ++ ys)) (drop_all (length s) xs (omega arith)) ∙ ap (λ (m : ℕ). take m (s ++ [])) (all ∙ sym long) ∙ take-append_seam s []
