-- What is returned to a lane that asks about its slots.
use Rattle.bc_model.specs.declared.values.Holder.{Holder}
use Rattle.std.proofs.Common.{◌≡◌, ◌≢◌, ℕ, Bool, true, false, if◌then◌else◌, List, length, Some, refl, sym, ap, subst, ◌∙◌, inl, inr, eq-eqb}
use Rattle.std.proofs.lemmas.Bool.{cases_Bool}
use Rattle.bc_whole_heap.specs.Heaps.{HeapView}
use Rattle.bc_whole_heap.specs.Running.{IsRunning}
use Rattle.bc_whole_heap.specs.LaneStates.{StandsAs}
use Rattle.bc_whole_heap.specs.Heaps.{root_words}
use Rattle.bc_memory.specs.Memory.{Memory}
use Rattle.bc_model.specs.State.{State, object_of, slot_of, reads}
use Rattle.bc_model.specs.Step.{on_object, told, is_same}
use Rattle.bc_model.specs.declared.operations.Op.TheVariants.{Who, Len, Same}
use Rattle.bc_model.specs.declared.operations.Reply.{Reply}
use Rattle.bc_model.specs.declared.operations.Reply.TheVariants as reply
use Rattle.bc_model.specs.declared.values.Birth.{Birth}
use Rattle.bc_model.specs.declared.values.Slot.{Slot}
use Rattle.bc_model.specs.declared.values.Value.{Value}
use Rattle.bc_model.specs.declared.values.Value.TheVariants as value
use Rattle.bc_model.proofs.Outcomes.{same-held}
use Rattle.bc_standing.specs.Standing.{birth_of, births, read}
use Rattle.bc_standing.proofs.Reading.{read_birth}
use Rattle.bc_word.specs.declared.addresses.Address.{Address}
use Rattle.bc_word.specs.declared.heads.Head.{Head}
use Rattle.bc_word.specs.declared.words.Word.{Word}
use Rattle.bc_word.specs.declared.words.Word.TheVariants as word
use Rattle.bc_mutator.specs.Effects.{Answers}
use Rattle.bc_mutator.specs.Objects.{MayOperate, IsRead, IsOfLane, ActsOn, Refuses, whole_memory, own_chunk, cell_of, slot_word}
use Rattle.bc_mutator.proofs.MeaningLemmas.{read-slot, read-nil, read-num, home-ref}
use Rattle.bc_mutator.proofs.ObjectLemmas.{memory-there}

-- a word that a slot has is read as its value
pub word-read : (h : HeapView) (hs : List Holder) (serials : List ℕ) (state : State) (p : Slot) (w : Word) → w ≡ slot_word h.roots p → StandsAs h hs serials state → IsRead (whole_memory h) state w (slot_of state p)
word-read h hs serials state p w e means =
    subst (λ (x : Word). IsRead (whole_memory h) state x (slot_of state p)) (sym e) (read-slot h.space h.roots h.chunks hs serials state p means)

-- nil and numbers
pub who-nil : (h : HeapView) (hs : List Holder) (lane : ℕ) (p : Slot) (w : Word) → w ≡ slot_word h.roots p → w ≡ word.Nil → Answers h hs lane (Who p) reply.Nil
who-nil h hs lane p w e is = λ serials state means.
    ap (λ (v : Value). (state, told state lane v)) (read-nil (whole_memory h) state w (slot_of state p) is (word-read h hs serials state p w e means))

pub who-num : (h : HeapView) (hs : List Holder) (lane n : ℕ) (p : Slot) (w : Word) → w ≡ slot_word h.roots p → w ≡ word.Num n → Answers h hs lane (Who p) (reply.Num n)
who-num h hs lane n p w e is = λ serials state means.
    ap (λ (v : Value). (state, told state lane v)) (read-num (whole_memory h) state w (slot_of state p) n is (word-read h hs serials state p w e means))

-- what is returned of an object
told-if : (state : State) (t : Bool) (x y : Reply) → let pair : State × Reply = (state, if t then x else y) in pair ≡ (if t then (state, x) else (state, y))
told-if state true x y = refl
told-if state false x y = refl

told-object : (state : State) (lane : ℕ) (v : Value) (b : Birth) → v ≡ value.Obj b → let pair : State × Reply = (state, told state lane v) in pair ≡ on_object state lane v (λ c. (state, reply.Obj c))
told-object state lane v b e =
    ap (λ (x : Value). let pair : State × Reply = (state, told state lane x) in pair) e
    ∙ told-if state (reads state lane (object_of state.made b).domain) (reply.Obj b) reply.Foreign
    ∙ sym (ap (λ (x : Value). on_object state lane x (λ c. (state, reply.Obj c))) e)

-- a reference is read as an object
pub is-object : (m : Memory) (state : State) (w : Word) (v : Value) (a : Address) → w ≡ word.Ref a → IsRead m state w v → (b : Birth) × (v ≡ value.Obj b)
is-object m state w v a e h =
    let found = read_birth (births m a.0) v (sym (ap (read (births m)) e) ∙ h.value) in
    (found.0, found.2)

pub who-acts : (h : HeapView) (hs : List Holder) (lane : ℕ) (p : Slot) (w : Word) (a : Address) (head : Head) → w ≡ slot_word h.roots p → w ≡ word.Ref a → ActsOn h hs lane w a → head ≡ (cell_of h.space (own_chunk h lane) a.0).head → Answers h hs lane (Who p) (reply.Obj (birth_of head))
who-acts h hs lane p w a head e is acts same = λ serials state means.
    let v = slot_of state p in
    let read = word-read h hs serials state p w e means in
    let b = is-object (whole_memory h) state w v a is read in
    told-object state lane v b.0 b.1
    ∙ acts serials state v means read (λ c. (state, reply.Obj c))
    ∙ ap (λ (x : Head). (state, reply.Obj (birth_of x))) (sym same)

pub who-refuses : (h : HeapView) (hs : List Holder) (lane : ℕ) (p : Slot) (w : Word) (a : Address) (r : Reply) → w ≡ slot_word h.roots p → w ≡ word.Ref a → Refuses h hs lane w r → Answers h hs lane (Who p) r
who-refuses h hs lane p w a r e is refuses = λ serials state means.
    let v = slot_of state p in
    let read = word-read h hs serials state p w e means in
    let b = is-object (whole_memory h) state w v a is read in
    told-object state lane v b.0 b.1 ∙ refuses serials state v means read (λ c. (state, reply.Obj c))

-- the number of fields
pub len-acts : (h : HeapView) (hs : List Holder) (lane n : ℕ) (p : Slot) (w : Word) (a : Address) → MayOperate h hs lane → w ≡ slot_word h.roots p → IsOfLane h hs lane w a → ActsOn h hs lane w a → n ≡ (cell_of h.space (own_chunk h lane) a.0).head.fields → Answers h hs lane (Len p) (reply.Len n)
len-acts h hs lane n p w a ready e of acts same = λ serials state means.
    let v = slot_of state p in
    let c = cell_of h.space (own_chunk h lane) a.0 in
    let read = word-read h hs serials state p w e means in
    let at = memory-there h.space h.chunks lane a.0 ready.layout ready.apart ready.lane_within of.there in
    let home = home-ref (whole_memory h) (root_words h.roots) state w v a c means.stands of.refers at read in
    acts serials state v means read (λ b. (state, reply.Len (length (object_of state.made b).fields)))
    ∙ ap (λ (k : ℕ). (state, reply.Len k)) (sym (same ∙ home.count))

pub len-refuses : (h : HeapView) (hs : List Holder) (lane : ℕ) (p : Slot) (w : Word) (r : Reply) → w ≡ slot_word h.roots p → Refuses h hs lane w r → Answers h hs lane (Len p) r
len-refuses h hs lane p w r e refuses = λ serials state means.
    refuses serials state (slot_of state p) means (word-read h hs serials state p w e means) (λ b. (state, reply.Len (length (object_of state.made b).fields)))

-- a value is the same as itself, and as nothing else
same-itself : (v : Value) → is_same v v ≡ true
same-itself value.Nil = refl
same-itself (value.Num n) = eq-eqb n n refl
same-itself (value.Obj b) = rw (eq-eqb b.lane b.lane refl) (eq-eqb b.serial b.serial refl)

pub same-yes : (h : HeapView) (hs : List Holder) (lane : ℕ) (p q : Slot) → slot_word h.roots p ≡ slot_word h.roots q → Answers h hs lane (Same p q) reply.Yes
same-yes h hs lane p q e = λ serials state means.
    let first = word-read h hs serials state p (slot_word h.roots p) refl means in
    let second = word-read h hs serials state q (slot_word h.roots p) e means in
    let is : slot_of state p ≡ slot_of state q = one_value (slot_of state p) (slot_of state q) (sym first.value ∙ second.value) in
    ap (λ (v : Value). let pair : State × Reply = (state, if is_same v (slot_of state q) then reply.Yes else reply.No) in pair) is
    ∙ ap (λ (t : Bool). let pair : State × Reply = (state, if t then reply.Yes else reply.No) in pair) (same-itself (slot_of state q))
  where
    one_value : (x y : Value) → Some x ≡ Some y → x ≡ y
    one_value x y f = cc

-- words that are read as one value are one: an object lies at one address alone
one-word : (m : Memory) (state : State) (v w : Word) (x : Value) → ((a b : ℕ) → (c : Birth) → births m a ≡ Some c → births m b ≡ Some c → a ≡ b) → IsRead m state v x → IsRead m state w x → v ≡ w
one-word m state word.Nil word.Nil x once h k = refl
one-word m state word.Nil (word.Num n) x once h k = none x (h.value) (k.value)
  where
    none : {X : Type 0} (y : Value) → Some value.Nil ≡ Some y → Some (value.Num n) ≡ Some y → X
    none y e f = cc
one-word m state word.Nil (word.Ref b) x once h k = let f = read_birth (births m b.0) x k.value in none x f.0 h.value f.2
  where
    none : {X : Type 0} (y : Value) (c : Birth) → Some value.Nil ≡ Some y → y ≡ value.Obj c → X
    none y c e f = cc
one-word m state (word.Num n) word.Nil x once h k = none x (h.value) (k.value)
  where
    none : {X : Type 0} (y : Value) → Some (value.Num n) ≡ Some y → Some value.Nil ≡ Some y → X
    none y e f = cc
one-word m state (word.Num n) (word.Num l) x once h k = same x h.value k.value
  where
    same : (y : Value) → Some (value.Num n) ≡ Some y → Some (value.Num l) ≡ Some y → word.Num n ≡ word.Num l
    same y e f = cc
one-word m state (word.Num n) (word.Ref b) x once h k = let f = read_birth (births m b.0) x k.value in none x f.0 h.value f.2
  where
    none : {X : Type 0} (y : Value) (c : Birth) → Some (value.Num n) ≡ Some y → y ≡ value.Obj c → X
    none y c e f = cc
one-word m state (word.Ref a) word.Nil x once h k = let f = read_birth (births m a.0) x h.value in none x f.0 k.value f.2
  where
    none : {X : Type 0} (y : Value) (c : Birth) → Some value.Nil ≡ Some y → y ≡ value.Obj c → X
    none y c e f = cc
one-word m state (word.Ref a) (word.Num n) x once h k = let f = read_birth (births m a.0) x h.value in none x f.0 k.value f.2
  where
    none : {X : Type 0} (y : Value) (c : Birth) → Some (value.Num n) ≡ Some y → y ≡ value.Obj c → X
    none y c e f = cc
one-word m state (word.Ref a) (word.Ref b) x once h k =
    let f = read_birth (births m a.0) x h.value in
    let g = read_birth (births m b.0) x k.value in
    let same : f.0 ≡ g.0 = one f.0 g.0 (sym f.2 ∙ g.2) in
    ap (λ (n : ℕ). let r : Address = record { 0 = n } in word.Ref r) (once a.0 b.0 g.0 (f.1 ∙ ap (λ (c : Birth). Some c) same) g.1)
  where
    one : (c d : Birth) → value.Obj c ≡ value.Obj d → c ≡ d
    one c d e = cc

pub same-no : (h : HeapView) (hs : List Holder) (lane : ℕ) (p q : Slot) → IsRunning h hs → slot_word h.roots p ≢ slot_word h.roots q → Answers h hs lane (Same p q) reply.No
same-no h hs lane p q runs ne = λ serials state means.
    let first = word-read h hs serials state p (slot_word h.roots p) refl means in
    let second = word-read h hs serials state q (slot_word h.roots q) refl means in
    let off : is_same (slot_of state p) (slot_of state q) ≡ false =
    elim (cases_Bool (is_same (slot_of state p) (slot_of state q))) [
      | inl on ↦ absurd (ne (one-word (whole_memory h) state (slot_word h.roots p) (slot_word h.roots q) (slot_of state p) runs.once first
          (subst (λ (v : Value). IsRead (whole_memory h) state (slot_word h.roots q) v) (sym (same-held (slot_of state p) (slot_of state q) on)) second)))
      | inr out ↦ out
    ] in
    ap (λ (t : Bool). let pair : State × Reply = (state, if t then reply.Yes else reply.No) in pair) off
