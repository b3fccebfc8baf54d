-- Each operation in the whole heap that the lane's parts belong to.
use Rattle.bc_model.specs.declared.values.Holder.{Holder}
use Rattle.bc_model.specs.State.{holder_of}
use Rattle.bc_model.specs.State.{lets_read}
use Rattle.std.proofs.Common.{◌≡◌, ◌↔◌, ℕ, ◌+◌, ◌^◌, ◌<◌, ◌≤◌, ◌⊎◌, ◌≢◌, true, false, List, [], ◌∷◌, set, Result, Ok, Err, refl, sym, ap, subst, ◌∙◌, inl, inr, get_or-set_same}
use Rattle.std.proofs.lemmas.Bool.{and_parts, cases_lt}
use Rattle.std.specs.List.{list_all}
use Rattle.std.specs.Result.{IfOk, OnOk, IsErr}
use Rattle.bc_classes.specs.Classes.{class_of}
use Rattle.bc_model.specs.State.{slot_of, with_slot}
use Rattle.bc_model.specs.Step.{domains_of}
use Rattle.bc_model.specs.WellFormed.{IsSlot}
use Rattle.bc_model.specs.declared.operations.Op.{Op}
use Rattle.bc_model.specs.declared.operations.Op.TheVariants.{New, Copy, Clear, Same}
use Rattle.bc_model.specs.declared.operations.Reply.{Reply}
use Rattle.bc_model.specs.declared.operations.Reply.TheVariants.{Done, Obj, Yes, No}
use Rattle.bc_model.specs.declared.values.Slot.{Slot}
use Rattle.bc_model.specs.declared.values.Value.TheVariants as value
use Rattle.bc_nursery.specs.Entries.{Entries}
use Rattle.bc_nursery.specs.Objects.{chunk_end, left_of, with_young_object}
use Rattle.bc_nursery.specs.Nurseries.{Nursery}
use Rattle.bc_superpages.specs.Layout.{Layout}
use Rattle.bc_superpages.specs.RootWords.{RootWords}
use Rattle.bc_whole_heap.specs.Heaps.{HeapView, no_chunk}
use Rattle.bc_word.specs.WordBits.{FitsWord}
use Rattle.bc_word.specs.declared.addresses.Address.{Address}
use Rattle.bc_word.specs.declared.heads.Head.{Head}
use Rattle.bc_word.specs.declared.words.Word.TheVariants.{Nil, Ref}
use Rattle.bc_mutator.specs.Effects.{Answers, DidAct, HasChanged, HasRecorded, with_root}
use Rattle.bc_mutator.specs.Objects.{whole_memory, own_chunk, slot_word}
use Rattle.bc_mutator.specs.Operations.{setup_of, target_open}
use Rattle.bc_mutator.specs.Parts.{IsPartOf, Sees, Serves}
use Rattle.bc_model.proofs.Holders.{writer}
use Rattle.bc_mutator.proofs.MeaningLemmas.{own-slot}
use Rattle.bc_mutator.proofs.NewLemmas.{done-new}
use Rattle.bc_mutator.proofs.RootLemmas.{done-answers, done-root, nil-read, own-nil}
use Rattle.bc_mutator.proofs.TellingLemmas.{same-no, same-yes, word-read}

-- the operation by its name
pub served-as : {cells : Layout → Type 0} {slots : RootWords → Type 0} {chunk : Nursery} {buffer : Entries} {hs : List Holder} {lane : ℕ} {op : Op} {h : HeapView} (o : Op) → op ≡ o → Serves cells slots chunk buffer hs lane op h → Serves cells slots chunk buffer hs lane o h
served-as {cells} {slots} {chunk} {buffer} {hs} {lane} {op} {h} o e s = subst (λ (x : Op). Serves cells slots chunk buffer hs lane x h) e s

pub seen : {cells : Layout → Type 0} {slots : RootWords → Type 0} {chunk : Nursery} {buffer : Entries} {hs : List Holder} {lane : ℕ} {op : Op} {h : HeapView} → Serves cells slots chunk buffer hs lane op h → Sees cells slots chunk hs lane op h
seen s = record { ready = s.ready; fits = s.fits; space = s.part.space; roots = s.part.roots; chunk_is = s.part.chunk_is }

pub did-as : (h k : HeapView) (hs : List Holder) (lane serial next : ℕ) (op o : Op) (reply : Reply) → op ≡ o → DidAct h k hs lane serial next o reply → DidAct h k hs lane serial next op reply
did-as h k hs lane serial next op o reply e done = subst (λ (x : Op). DidAct h k hs lane serial next x reply) (sym e) done

-- the lane may read the domains that are named
pub held-first : (hs : List Holder) (lane d : ℕ) (rest : List ℕ) → list_all (λ x. lets_read (holder_of hs x) lane) (d ∷ rest) ≡ true → lets_read (holder_of hs d) lane ≡ true
held-first hs lane d rest e = (and_parts (lets_read (holder_of hs d) lane) (list_all (λ x. lets_read (holder_of hs x) lane) rest) e).0

-- and write the slot that is written
target-as : (hs : List Holder) (lane : ℕ) (op o : Op) → op ≡ o → target_open hs lane op ≡ true → target_open hs lane o ≡ true
target-as hs lane op o e own = subst (λ (x : Op). target_open hs lane x ≡ true) e own

-- an operation that returns something
pub act-told : {cells : Layout → Type 0} {slots : RootWords → Type 0} {chunk : Nursery} {buffer : Entries} {hs : List Holder} {lane : ℕ} {op : Op} {h : HeapView} (serial : ℕ) (o : Op) (reply : Reply) → Serves cells slots chunk buffer hs lane op h → op ≡ o → Answers h hs lane o reply → HasRecorded h h hs lane o reply → HasChanged h h hs lane serial o reply
    → (k : HeapView) × IsPartOf cells slots chunk buffer lane k × DidAct h k hs lane serial serial op reply
act-told {hs = hs} {lane = lane} {op = op} {h = h} serial o reply s e answers recorded changed =
    (h, s.part, did-as h h hs lane serial serial op o reply e (done-answers h hs lane serial o reply s.ready answers recorded changed))

pub same-answers : (h : HeapView) (hs : List Holder) (lane : ℕ) (p q : Slot) (reply : Reply) (slots : RootWords → Type 0) → {cells : Layout → Type 0} {chunk : Nursery} {buffer : Entries} → Serves cells slots chunk buffer hs lane (Same p q) h
    → ((reply ≡ Yes) × ((r : RootWords) → slots r → IsSlot (setup_of r) p × IsSlot (setup_of r) q → slot_word r p ≡ slot_word r q)) ⊎ ((reply ≡ No) × ((r : RootWords) → slots r → IsSlot (setup_of r) p × IsSlot (setup_of r) q → slot_word r p ≢ slot_word r q))
    → Answers h hs lane (Same p q) reply
same-answers h hs lane p q reply slots s (inl same) = subst (λ (x : Reply). Answers h hs lane (Same p q) x) (sym same.0) (same-yes h hs lane p q (same.1 h.roots s.part.roots s.fits))
same-answers h hs lane p q reply slots s (inr apart) = subst (λ (x : Reply). Answers h hs lane (Same p q) x) (sym apart.0) (same-no h hs lane p q s.ready.running (apart.1 h.roots s.part.roots s.fits))

-- a slot becomes another word
pub act-copy : {cells : Layout → Type 0} {slots : RootWords → Type 0} {chunk : Nursery} {buffer : Entries} {hs : List Holder} {lane : ℕ} {op : Op} {h : HeapView} (new : RootWords → Type 0) (serial : ℕ) (p q : Slot) (reply : Reply) → Serves cells slots chunk buffer hs lane op h → op ≡ Copy p q → list_all (λ d. lets_read (holder_of hs d) lane) (domains_of op) ≡ true → target_open hs lane op ≡ true → reply ≡ Done
    → FitsWord (slot_word h.roots p) → new (with_root h.roots q (slot_word h.roots p)) → (k : HeapView) × IsPartOf cells new chunk buffer lane k × DidAct h k hs lane serial serial op reply
act-copy {hs = hs} {lane = lane} {op = op} {h = h} new serial p q reply s e held own done fits shown =
    let t = served-as (Copy p q) e s in
    let both : list_all (λ d. lets_read (holder_of hs d) lane) (domains_of (Copy p q)) ≡ true = subst (λ (x : Op). list_all (λ d. lets_read (holder_of hs d) lane) (domains_of x) ≡ true) e held in
    let w = slot_word h.roots p in (
      record h { roots = with_root h.roots q w },
      record { space = s.part.space; roots = shown; chunk_is = s.part.chunk_is; buffer_is = s.part.buffer_is },
      did-as h (record h { roots = with_root h.roots q w }) hs lane serial serial op (Copy p q) reply e
          (done-root h (with_root h.roots q w) hs lane serial q w (Copy p q) reply s.ready refl t.fits.1.1 (writer (holder_of hs q.domain) lane (target-as hs lane op (Copy p q) e own))
          (own-slot h hs lane p s.ready.running t.fits.0.0 t.fits.0.1 (held-first hs lane p.domain (q.domain ∷ []) both)) fits
          (λ serials state means. (slot_of state p, word-read h hs serials state p w refl means, ap (λ (r : Reply). (with_slot state q (slot_of state p), r)) (sym done))) (refl, refl) refl),
    )

pub act-clear : {cells : Layout → Type 0} {slots : RootWords → Type 0} {chunk : Nursery} {buffer : Entries} {hs : List Holder} {lane : ℕ} {op : Op} {h : HeapView} (new : RootWords → Type 0) (serial : ℕ) (p : Slot) (reply : Reply) → Serves cells slots chunk buffer hs lane op h → op ≡ Clear p → list_all (λ d. lets_read (holder_of hs d) lane) (domains_of op) ≡ true → target_open hs lane op ≡ true → reply ≡ Done
    → new (with_root h.roots p Nil) → (k : HeapView) × IsPartOf cells new chunk buffer lane k × DidAct h k hs lane serial serial op reply
act-clear {hs = hs} {lane = lane} {op = op} {h = h} new serial p reply s e held own done shown =
    let t = served-as (Clear p) e s in (
      record h { roots = with_root h.roots p Nil },
      record { space = s.part.space; roots = shown; chunk_is = s.part.chunk_is; buffer_is = s.part.buffer_is },
      did-as h (record h { roots = with_root h.roots p Nil }) hs lane serial serial op (Clear p) reply e
          (done-root h (with_root h.roots p Nil) hs lane serial p Nil (Clear p) reply s.ready refl t.fits.1 (writer (holder_of hs p.domain) lane (target-as hs lane op (Clear p) e own))
          (own-nil h.space (own_chunk h lane)) tt
          (λ serials state means. (value.Nil, nil-read (whole_memory h) state, ap (λ (r : Reply). (with_slot state p value.Nil, r)) (sym done))) (refl, refl) refl),
    )

-- an object more
pub act-new : {cells : Layout → Type 0} {slots : RootWords → Type 0} {chunk : Nursery} {buffer : Entries} {hs : List Holder} {lane : ℕ} {op : Op} {h : HeapView} (new : RootWords → Type 0) (d : Nursery) (serial next n : ℕ) (p : Slot) (reply : Reply) → Serves cells slots chunk buffer hs lane op h → op ≡ New p n → list_all (λ x. lets_read (holder_of hs x) lane) (domains_of op) ≡ true → target_open hs lane op ≡ true → lane < 16 → serial + 1 < 2 ^ 32
    → reply ≡ Obj (record { lane = lane; serial = serial + 1 }) → next ≡ serial + 1 → d ≡ with_young_object chunk (record { lane = lane; serial = serial + 1; domain = p.domain; fields = n }) → class_of n ≤ left_of chunk
    → new (with_root h.roots p (Ref (record { 0 = chunk_end chunk }))) → (k : HeapView) × IsPartOf cells new d buffer lane k × DidAct h k hs lane serial next op reply
act-new {chunk = chunk} {hs = hs} {lane = lane} {op = op} {h = h} new d serial next n p reply s e held right lanes serials told count made room shown =
    let t = served-as (New p n) e s in
    let head : Head = record { lane = lane; serial = serial + 1; domain = p.domain; fields = n } in
    let to : Address = record { 0 = chunk_end chunk } in
    let own = s.part.chunk_is in
    let k : HeapView = record h { roots = with_root h.roots p (Ref to); chunks = set h.chunks lane d } in (
      k,
      record { space = s.part.space; roots = shown; chunk_is = get_or-set_same h.chunks lane d no_chunk s.ready.lane_within; buffer_is = s.part.buffer_is },
      did-as h k hs lane serial next op (New p n) reply e
          (subst (λ (x : Reply). DidAct h k hs lane serial next (New p n) x) (sym told)
          (subst (λ (x : ℕ). DidAct h k hs lane serial x (New p n) (Obj (record { lane = lane; serial = serial + 1 }))) (sym count)
          (done-new h (set h.chunks lane d) (with_root h.roots p (Ref to)) hs lane serial n p to s.ready t.fits.0.0 t.fits.0.1 t.fits.1 lanes serials (writer (holder_of hs p.domain) lane (target-as hs lane op (New p n) e right))
          (subst (λ (c : Nursery). class_of n ≤ left_of c) (sym own) room)
          (ap (λ (c : Nursery). set h.chunks lane c) (made ∙ ap (λ (c : Nursery). with_young_object c head) (sym own)))
          (ap chunk_end (sym own)) refl))),
    )

-- what is known of a result that is Ok, together
pub if-ok-and : {T E : Type 0} (P : T → Type 0) (A : Type 0) (r : Result T E) → IfOk r P → OnOk r A → IfOk r (λ x. P x × A)
if-ok-and P A (Ok x) p a = (p, a)
if-ok-and P A (Err e) p a = tt

pub room-ok : {T E : Type 0} (r : Result T E) (left words : ℕ) → (IsErr r ↔ (left < words)) → OnOk r (words ≤ left)
room-ok (Ok x) left words full = elim (cases_lt left words) [ inl lt ↦ absurd (no (full.1 lt)) | inr le ↦ le ]
  where
    no : false ≡ true → ⊥
    no e = cc
room-ok (Err e) left words full = tt
