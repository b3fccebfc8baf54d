-- What the words of a heap are read as in the state that it stands for.
use Rattle.bc_model.specs.declared.values.Holder.{Holder}
use Rattle.std.proofs.Common.{◌≡◌, ℕ, ◌+◌, ◌*◌, ◌<◌, ◌≤◌, nat_lt, Bool, true, false, if◌then◌else◌, List, length, get_or, Some, option_map, refl, sym, ap, ap₂, ◌∙◌, arith, mul_comm}
use Rattle.std.proofs.Math.ListN.{get_or-map}
use Rattle.std.proofs.lemmas.Bool.{lt-ltb, le-ltb, cond-true}
use Rattle.bc_reach.specs.Reach.{begin, onward}
use Rattle.bc_whole_heap.specs.Heaps.{HeapView}
use Rattle.bc_whole_heap.specs.HeapFacts.{view_of}
use Rattle.bc_whole_heap.specs.Closed.{IsCellOrYoung}
use Rattle.bc_whole_heap.specs.Heaps.{heap_memory, root_words}
use Rattle.bc_whole_heap.specs.Running.{IsRunning}
use Rattle.bc_whole_heap.specs.LaneStates.{StandsAs}
use Rattle.bc_memory.specs.Memory.{Cell, Memory}
use Rattle.bc_model.specs.Reached.{Reached}
use Rattle.bc_model.specs.State.{State, object_of, place_of, slot_of, field_of, holder_of, lets_read, lets_write, reads, writes}
use Rattle.bc_model.specs.Step.{on_object}
use Rattle.bc_model.specs.declared.operations.Reply.{Reply}
use Rattle.bc_model.specs.declared.operations.Reply.TheVariants as reply
use Rattle.bc_model.specs.declared.values.Birth.{Birth}
use Rattle.bc_model.specs.declared.values.Slot.{Slot}
use Rattle.bc_model.specs.declared.values.Value.{Value}
use Rattle.bc_model.specs.declared.values.Value.TheVariants as value
use Rattle.bc_nursery.specs.Entries.{Entries}
use Rattle.bc_nursery.specs.Nurseries.{Nursery}
use Rattle.bc_standing.specs.Standing.{birth_of, births, read, IsHome, StandsFor}
use Rattle.bc_standing.proofs.Homes.{births-there, home_in}
use Rattle.bc_standing.proofs.Reading.{ReadAs-at}
use Rattle.bc_superpages.specs.Layout.{Layout}
use Rattle.bc_superpages.specs.RootWords.{RootWords}
use Rattle.bc_superpages.specs.RootSlots.{root_place}
use Rattle.bc_word.proofs.WordLemmas.{word_of_bits-nil}
use Rattle.bc_word.specs.Words.{word_of_bits}
use Rattle.bc_word.specs.declared.addresses.Address.{Address}
use Rattle.bc_word.specs.declared.words.Word.{Word}
use Rattle.bc_word.specs.declared.words.Word.TheVariants as word
use Rattle.bc_mutator.specs.Objects.{IsOwn, MayOperate, IsRead, IsOfLane, IsOwnOfLane, ActsOn, Refuses, ActsOnField, RefusesField, ActsOnOwnField, RefusesOwnField, whole_memory, own_chunk, cell_of, slot_word}
use Rattle.bc_model.proofs.Holders.{writes-held}
use Rattle.bc_mutator.proofs.HolderLemmas.{read-own}
use Rattle.bc_mutator.proofs.ObjectLemmas.{memory-there}

-- a root slot stands where the state's slot does
pub same_place : (r : RootWords) (width : ℕ) (p : Slot) → r.slots ≡ width → root_place r p.domain p.slot ≡ place_of width p
same_place r width p e = ap (λ (n : ℕ). n + p.slot) (mul_comm p.domain r.slots ∙ ap (λ (n : ℕ). n * p.domain) e)

pub root_word : (r : RootWords) (i : ℕ) → get_or (root_words r) i word.Nil ≡ word_of_bits (get_or r.words i 0)
root_word r i =
    ap (λ (d : Word). get_or (root_words r) i d) (sym word_of_bits-nil) ∙ get_or-map word_of_bits r.words i 0

-- its word is read as the value there
pub read-slot : {bs : List Entries} (s : Layout) (r : RootWords) (cs : List Nursery) (hs : List Holder) (serials : List ℕ) (state : State) (p : Slot) → StandsAs (view_of s r cs bs) hs serials state → IsRead (heap_memory s cs) state (slot_word r p) (slot_of state p)
read-slot s r cs hs serials state p h =
    let i = place_of state.width p in
    let here : get_or (root_words r) i word.Nil ≡ slot_word r p =
    root_word r i ∙ ap (λ (n : ℕ). word_of_bits (get_or r.words n 0)) (sym (same_place r state.width p h.slots)) in
    record {
      value = sym (ap (read (births (heap_memory s cs))) here) ∙ ReadAs-at (births (heap_memory s cs)) (root_words r) state.slots i h.stands.values;
      reached = λ b e. begin b (i, e);
    }

-- what words of each kind are read as
some_same : (x y : Value) → Some x ≡ Some y → x ≡ y
some_same x y e = cc

pub read-nil : (m : Memory) (state : State) (w : Word) (v : Value) → w ≡ word.Nil → IsRead m state w v → v ≡ value.Nil
read-nil m state w v e h = some_same v value.Nil (sym h.value ∙ ap (read (births m)) e)

pub read-num : (m : Memory) (state : State) (w : Word) (v : Value) (n : ℕ) → w ≡ word.Num n → IsRead m state w v → v ≡ value.Num n
read-num m state w v n e h = some_same v (value.Num n) (sym h.value ∙ ap (read (births m)) e)

pub read-ref : (m : Memory) (state : State) (w : Word) (v : Value) (a : Address) (c : Cell) → w ≡ word.Ref a → m a.0 ≡ Some c → IsRead m state w v → v ≡ value.Obj (birth_of c.head)
read-ref m state w v a c e there h =
    some_same v (value.Obj (birth_of c.head)) (sym h.value ∙ ap (read (births m)) e ∙ ap (option_map value.Obj) (births-there m a.0 c there))

pub home-ref : (m : Memory) (roots : List Word) (state : State) (w : Word) (v : Value) (a : Address) (c : Cell) → StandsFor m roots state → w ≡ word.Ref a → m a.0 ≡ Some c → IsRead m state w v → IsHome m (birth_of c.head) (object_of state.made (birth_of c.head)) a.0 c
home-ref m roots state w v a c stands e there h =
    home_in m roots state.slots state.made a.0 c stands (h.reached (birth_of c.head) (read-ref m state w v a c e there h)) there

-- a field of a reached object
pub read-field : (m : Memory) (state : State) (b : Birth) (a i : ℕ) (c : Cell) → Reached state.slots state.made b → IsHome m b (object_of state.made b) a c → IsRead m state (get_or c.fields i word.Nil) (field_of state b i)
read-field m state b a i c reached home = record {
  value = ReadAs-at (births m) c.fields (object_of state.made b).fields i home.fields;
  reached = λ x e. onward b x reached (i, e);
}

-- the object of a value, and the replies where there is none
pub on_object-none : (state : State) (lane : ℕ) (v : Value) (next : Birth → State × Reply) → ((b : Birth) → v ≡ value.Obj b → ⊥) → on_object state lane v next ≡ (state, reply.NotObj)
on_object-none state lane value.Nil next none = refl
on_object-none state lane (value.Num n) next none = refl
on_object-none state lane (value.Obj b) next none = absurd (none b refl)

other_if : {X : Type 0} (t : Bool) (x y : X) → t ≡ false → (if t then x else y) ≡ y
other_if true x y e = cc
other_if false x y e = refl

pub on_object-held : (state : State) (lane : ℕ) (v : Value) (b : Birth) (next : Birth → State × Reply) → v ≡ value.Obj b → reads state lane (object_of state.made b).domain ≡ true → on_object state lane v next ≡ next b
on_object-held state lane v b next e held =
    ap (λ (x : Value). on_object state lane x next) e ∙ cond-true (reads state lane (object_of state.made b).domain) (next b) (state, reply.Foreign) held

pub on_object-foreign : (state : State) (lane : ℕ) (v : Value) (b : Birth) (next : Birth → State × Reply) → v ≡ value.Obj b → reads state lane (object_of state.made b).domain ≡ false → on_object state lane v next ≡ (state, reply.Foreign)
on_object-foreign state lane v b next e off =
    ap (λ (x : Value). on_object state lane x next) e ∙ other_if (reads state lane (object_of state.made b).domain) (next b) (state, reply.Foreign) off

-- who may read and write a domain
pub reads-is : (state : State) (hs : List Holder) (lane d e : ℕ) (t : Bool) → state.holders ≡ hs → d ≡ e → lets_read (holder_of hs d) lane ≡ t → reads state lane e ≡ t
reads-is state hs lane d e t same domain held =
    ap₂ (λ (xs : List Holder) (x : ℕ). lets_read (holder_of xs x) lane) same (sym domain) ∙ held

pub writes-is : (state : State) (hs : List Holder) (lane d e : ℕ) (t : Bool) → state.holders ≡ hs → d ≡ e → lets_write (holder_of hs d) lane ≡ t → writes state lane e ≡ t
writes-is state hs lane d e t same domain held =
    ap₂ (λ (xs : List Holder) (x : ℕ). lets_write (holder_of xs x) lane) same (sym domain) ∙ held

-- what an operation on an object does, determined by where the object lies
pub acts-on : (h : HeapView) (hs : List Holder) (lane : ℕ) (w : Word) (a : Address) → MayOperate h hs lane → w ≡ word.Ref a → IsCellOrYoung h.space (own_chunk h lane) a.0 → lets_read (holder_of hs (cell_of h.space (own_chunk h lane) a.0).head.domain) lane ≡ true → ActsOn h hs lane w a
acts-on h hs lane w a ready e there held = λ serials state v means read next.
    let c = cell_of h.space (own_chunk h lane) a.0 in
    let at = memory-there h.space h.chunks lane a.0 ready.layout ready.apart ready.lane_within there in
    let home = home-ref (whole_memory h) (root_words h.roots) state w v a c means.stands e at read in
    on_object-held state lane v (birth_of c.head) next (read-ref (whole_memory h) state w v a c e at read)
    (reads-is state hs lane c.head.domain (object_of state.made (birth_of c.head)).domain true means.held home.domain held)

pub refuses-foreign : (h : HeapView) (hs : List Holder) (lane : ℕ) (w : Word) (a : Address) → MayOperate h hs lane → w ≡ word.Ref a → IsCellOrYoung h.space (own_chunk h lane) a.0 → lets_read (holder_of hs (cell_of h.space (own_chunk h lane) a.0).head.domain) lane ≡ false → Refuses h hs lane w reply.Foreign
refuses-foreign h hs lane w a ready e there off = λ serials state v means read next.
    let c = cell_of h.space (own_chunk h lane) a.0 in
    let at = memory-there h.space h.chunks lane a.0 ready.layout ready.apart ready.lane_within there in
    let home = home-ref (whole_memory h) (root_words h.roots) state w v a c means.stands e at read in
    on_object-foreign state lane v (birth_of c.head) next (read-ref (whole_memory h) state w v a c e at read)
    (reads-is state hs lane c.head.domain (object_of state.made (birth_of c.head)).domain false means.held home.domain off)

-- the same of an operation on a field
pub acts-on_field : (h : HeapView) (hs : List Holder) (lane i : ℕ) (w : Word) (a : Address) → MayOperate h hs lane → IsOfLane h hs lane w a → ActsOn h hs lane w a → i < (cell_of h.space (own_chunk h lane) a.0).head.fields → ActsOnField h hs lane w i a
acts-on_field h hs lane i w a ready of acts lt = λ serials state v means read next.
    let c = cell_of h.space (own_chunk h lane) a.0 in
    let at = memory-there h.space h.chunks lane a.0 ready.layout ready.apart ready.lane_within of.there in
    let home = home-ref (whole_memory h) (root_words h.roots) state w v a c means.stands of.refers at read in
    acts serials state v means read (λ b. if nat_lt i (length (object_of state.made b).fields) then next b else (state, reply.Range))
    ∙ cond-true (nat_lt i (length (object_of state.made (birth_of c.head)).fields)) (next (birth_of c.head)) (state, reply.Range)
    (lt-ltb i (length (object_of state.made (birth_of c.head)).fields) (let n = home.count in omega arith))

pub refuses-range : (h : HeapView) (hs : List Holder) (lane i : ℕ) (w : Word) (a : Address) → MayOperate h hs lane → IsOfLane h hs lane w a → ActsOn h hs lane w a → (cell_of h.space (own_chunk h lane) a.0).head.fields ≤ i → RefusesField h hs lane w i reply.Range
refuses-range h hs lane i w a ready of acts le = λ serials state v means read next.
    let c = cell_of h.space (own_chunk h lane) a.0 in
    let at = memory-there h.space h.chunks lane a.0 ready.layout ready.apart ready.lane_within of.there in
    let home = home-ref (whole_memory h) (root_words h.roots) state w v a c means.stands of.refers at read in
    acts serials state v means read (λ b. if nat_lt i (length (object_of state.made b).fields) then next b else (state, reply.Range))
    ∙ other_if (nat_lt i (length (object_of state.made (birth_of c.head)).fields)) (next (birth_of c.head)) (state, reply.Range)
    (le-ltb i (length (object_of state.made (birth_of c.head)).fields) (let n = home.count in omega arith))

pub refuses-before : (h : HeapView) (hs : List Holder) (lane i : ℕ) (w : Word) (r : Reply) → Refuses h hs lane w r → RefusesField h hs lane w i r
refuses-before h hs lane i w r refuses = λ serials state v means read next.
    refuses serials state v means read (λ b. if nat_lt i (length (object_of state.made b).fields) then next b else (state, reply.Range))

-- the same of an operation that writes a field
abbrev owned : State → ℕ → ℕ → (Birth → State × Reply) → Birth → State × Reply
owned state lane i next b =
    if writes state lane (object_of state.made b).domain
    then (if nat_lt i (length (object_of state.made b).fields) then next b else (state, reply.Range))
    else (state, reply.Frozen)

pub acts-on_own : (h : HeapView) (hs : List Holder) (lane i : ℕ) (w : Word) (a : Address) → MayOperate h hs lane → IsOwnOfLane h hs lane w a → ActsOn h hs lane w a → i < (cell_of h.space (own_chunk h lane) a.0).head.fields → ActsOnOwnField h hs lane w i a
acts-on_own h hs lane i w a ready own acts lt = λ serials state v means read next.
    let of = own.of in
    let c = cell_of h.space (own_chunk h lane) a.0 in
    let at = memory-there h.space h.chunks lane a.0 ready.layout ready.apart ready.lane_within of.there in
    let home = home-ref (whole_memory h) (root_words h.roots) state w v a c means.stands of.refers at read in
    acts serials state v means read (owned state lane i next)
    ∙ cond-true (writes state lane (object_of state.made (birth_of c.head)).domain) _ (state, reply.Frozen)
    (writes-is state hs lane c.head.domain (object_of state.made (birth_of c.head)).domain true means.held home.domain (writes-held (holder_of hs c.head.domain) lane own.own))
    ∙ cond-true (nat_lt i (length (object_of state.made (birth_of c.head)).fields)) (next (birth_of c.head)) (state, reply.Range)
    (lt-ltb i (length (object_of state.made (birth_of c.head)).fields) (let n = home.count in omega arith))

pub refuses-own_range : (h : HeapView) (hs : List Holder) (lane i : ℕ) (w : Word) (a : Address) → MayOperate h hs lane → IsOwnOfLane h hs lane w a → ActsOn h hs lane w a → (cell_of h.space (own_chunk h lane) a.0).head.fields ≤ i → RefusesOwnField h hs lane w i reply.Range
refuses-own_range h hs lane i w a ready own acts le = λ serials state v means read next.
    let of = own.of in
    let c = cell_of h.space (own_chunk h lane) a.0 in
    let at = memory-there h.space h.chunks lane a.0 ready.layout ready.apart ready.lane_within of.there in
    let home = home-ref (whole_memory h) (root_words h.roots) state w v a c means.stands of.refers at read in
    acts serials state v means read (owned state lane i next)
    ∙ cond-true (writes state lane (object_of state.made (birth_of c.head)).domain) _ (state, reply.Frozen)
    (writes-is state hs lane c.head.domain (object_of state.made (birth_of c.head)).domain true means.held home.domain (writes-held (holder_of hs c.head.domain) lane own.own))
    ∙ other_if (nat_lt i (length (object_of state.made (birth_of c.head)).fields)) (next (birth_of c.head)) (state, reply.Range)
    (le-ltb i (length (object_of state.made (birth_of c.head)).fields) (let n = home.count in omega arith))

pub refuses-frozen : (h : HeapView) (hs : List Holder) (lane i : ℕ) (w : Word) (a : Address) → MayOperate h hs lane → IsOfLane h hs lane w a → ActsOn h hs lane w a → lets_write (holder_of hs (cell_of h.space (own_chunk h lane) a.0).head.domain) lane ≡ false → RefusesOwnField h hs lane w i reply.Frozen
refuses-frozen h hs lane i w a ready of acts off = λ serials state v means read next.
    let c = cell_of h.space (own_chunk h lane) a.0 in
    let at = memory-there h.space h.chunks lane a.0 ready.layout ready.apart ready.lane_within of.there in
    let home = home-ref (whole_memory h) (root_words h.roots) state w v a c means.stands of.refers at read in
    acts serials state v means read (owned state lane i next)
    ∙ other_if (writes state lane (object_of state.made (birth_of c.head)).domain) _ (state, reply.Frozen)
    (writes-is state hs lane c.head.domain (object_of state.made (birth_of c.head)).domain false means.held home.domain off)

pub refuses-own_before : (h : HeapView) (hs : List Holder) (lane i : ℕ) (w : Word) (r : Reply) → Refuses h hs lane w r → RefusesOwnField h hs lane w i r
refuses-own_before h hs lane i w r refuses = λ serials state v means read next.
    refuses serials state v means read (owned state lane i next)

-- a root slot of a domain that the lane may read has a word of the lane's
pub own-slot : (h : HeapView) (hs : List Holder) (lane : ℕ) (p : Slot) → IsRunning h hs → p.domain < h.roots.domains → p.slot < h.roots.slots → lets_read (holder_of hs p.domain) lane ≡ true → IsOwn h.space (own_chunk h lane) (slot_word h.roots p)
own-slot h hs lane p runs domain slot held = λ a e.
    read-own h.space h.chunks (holder_of hs p.domain) lane a.0 held (runs.closed.root p.domain p.slot a domain slot e)
