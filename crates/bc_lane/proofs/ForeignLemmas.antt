-- An operation that looks at a cell of another lane's, or would write one of a frozen domain, is answered so, and changes nothing.
use Rattle.std.proofs.Common.{◌≡◌, ℕ, true, false, List, get_or, inl, inr, refl, ap, sym, ◌∙◌}
use Rattle.std.proofs.lemmas.Option.{same_Some}
use Rattle.bc_lane.specs.Turns.{LooksForeign, LooksSealed}
use Rattle.bc_memory.specs.Memory.{Cell}
use Rattle.bc_model.proofs.Holders.{reads-held, reads-of_frozen, writes-of_frozen}
use Rattle.bc_model.specs.State.{holder_of, lets_read, slot_of}
use Rattle.bc_model.specs.declared.operations.Op.{Op}
use Rattle.bc_model.specs.declared.operations.Op.TheVariants.{New, Who, Len, Set, Cut, Link, Load, Copy, Clear, Same}
use Rattle.bc_model.specs.declared.operations.Reply.TheVariants.{Foreign, Frozen}
use Rattle.bc_model.specs.declared.values.Holder.{Holder}
use Rattle.bc_model.specs.declared.values.Holder.TheVariants as holder
use Rattle.bc_model.specs.declared.values.Slot.{Slot}
use Rattle.bc_mutator.specs.Effects.{Answers, DidOperation, HasRecorded}
use Rattle.bc_mutator.specs.Objects.{MayOperate, Refuses, RefusesField, RefusesOwnField, cell_of, own_chunk, slot_word}
use Rattle.bc_mutator.specs.Operations.{MayName, StoresYoung}
use Rattle.bc_mutator.proofs.ChangeLemmas.{foreign-changes, frozen-changes}
use Rattle.bc_mutator.proofs.MeaningLemmas.{acts-on, refuses-before, refuses-foreign, refuses-frozen, refuses-own_before}
use Rattle.bc_mutator.proofs.ObjectLemmas.{cell_of-below, one_address}
use Rattle.bc_mutator.proofs.RootLemmas.{done-answers}
use Rattle.bc_mutator.proofs.StepLemmas.{did-step}
use Rattle.bc_mutator.proofs.TellingLemmas.{len-refuses, who-refuses, word-read}
use Rattle.bc_superpages.specs.LayoutAt.{IsAllocated}
use Rattle.bc_superpages.specs.Memory as space
use Rattle.bc_superpages.proofs.HandLemmas.{allocated-object}
use Rattle.bc_superpages.proofs.MemoryLemmas.{memory_of-cell}
use Rattle.bc_whole_heap.specs.Heaps.{HeapView}
use Rattle.bc_whole_heap.proofs.HeapLemmas.{allocated-below}
use Rattle.bc_word.specs.Addresses.{superpage_of}
use Rattle.bc_word.specs.declared.addresses.Address.{Address}
use Rattle.bc_word.specs.declared.words.Word.TheVariants.{Ref}

not-both : true ≡ false → ⊥
not-both e = cc

module _ (h : HeapView) (hs : List Holder) (lane : ℕ) (ready : MayOperate h hs lane) (p : Slot) (a : Address) (e : slot_word h.roots p ≡ Ref a) (there : IsAllocated h.space a.0) (off : lets_read (holder_of hs (get_or h.space.domains (superpage_of a.0) 0)) lane ≡ false) where
  domain-is : (space.cell_at h.space.pages a.0).head.domain ≡ get_or h.space.domains (superpage_of a.0) 0
  domain-is = (allocated-object h.space a.0 ready.layout there).of_domain

  abroad : lets_read (holder_of hs (cell_of h.space (own_chunk h lane) a.0).head.domain) lane ≡ false
  abroad =
      ap (λ (d : ℕ). lets_read (holder_of hs d) lane) (ap (λ (c : Cell). c.head.domain) (cell_of-below h.space (own_chunk h lane) a.0 (allocated-below h.space a.0 ready.layout there)) ∙ domain-is)
      ∙ off

  pub refuses-cell : Refuses h hs lane (slot_word h.roots p) Foreign
  refuses-cell = refuses-foreign h hs lane (slot_word h.roots p) a ready e (inl there) abroad

  pub answers-who : Answers h hs lane (Who p) Foreign
  answers-who = who-refuses h hs lane p (slot_word h.roots p) a Foreign refl e refuses-cell

  pub answers-len : Answers h hs lane (Len p) Foreign
  answers-len = len-refuses h hs lane p (slot_word h.roots p) Foreign refl refuses-cell

  -- an operation on a field
  pub refuses-field : (i : ℕ) → RefusesField h hs lane (slot_word h.roots p) i Foreign
  refuses-field i = refuses-before h hs lane i (slot_word h.roots p) Foreign refuses-cell

  -- and on one that it writes
  pub refuses-own_field : (i : ℕ) → RefusesOwnField h hs lane (slot_word h.roots p) i Foreign
  refuses-own_field i = refuses-own_before h hs lane i (slot_word h.roots p) Foreign refuses-cell

  pub answers-set : (i n : ℕ) → Answers h hs lane (Set p i n) Foreign
  answers-set i n = λ serials state means. refuses-own_field i serials state (slot_of state p) means (word-read h hs serials state p (slot_word h.roots p) refl means) _

  pub answers-cut : (i : ℕ) → Answers h hs lane (Cut p i) Foreign
  answers-cut i = λ serials state means. refuses-own_field i serials state (slot_of state p) means (word-read h hs serials state p (slot_word h.roots p) refl means) _

  pub answers-link : (i : ℕ) (q : Slot) → Answers h hs lane (Link p i q) Foreign
  answers-link i q = λ serials state means. refuses-own_field i serials state (slot_of state p) means (word-read h hs serials state p (slot_word h.roots p) refl means) _

  pub answers-load : (i : ℕ) (q : Slot) → Answers h hs lane (Load p i q) Foreign
  answers-load i q = λ serials state means. refuses-field i serials state (slot_of state p) means (word-read h hs serials state p (slot_word h.roots p) refl means) _

  pub stores-none : (i : ℕ) (q : Slot) → StoresYoung hs lane h.space h.roots (own_chunk h lane) p i q → ⊥
  stores-none i q y =
      let t = y.target in
      let same : t.cell ≡ a = one_address t.cell a (sym t.to ∙ e) in
      let is : t.content ≡ space.cell_at h.space.pages a.0 =
      same_Some t.content _ (sym t.is ∙ ap (λ (x : Address). space.memory h.space x.0) same ∙ memory_of-cell h.space.classes h.space.cells h.space.pages a.0 there) in
      not-both (sym (reads-held _ lane (ap (holder_of hs) (sym (ap (λ (c : Cell). c.head.domain) is ∙ domain-is)) ∙ t.held)) ∙ off)

foreign-answers : (h : HeapView) (hs : List Holder) (lane : ℕ) (op : Op) → MayOperate h hs lane → LooksForeign h hs lane op → Answers h hs lane op Foreign
foreign-answers h hs lane (New p n) ready f = absurd f.looks
foreign-answers h hs lane (Who p) ready f = answers-who h hs lane ready p f.at f.looks f.there f.foreign
foreign-answers h hs lane (Len p) ready f = answers-len h hs lane ready p f.at f.looks f.there f.foreign
foreign-answers h hs lane (Set p i n) ready f = answers-set h hs lane ready p f.at f.looks f.there f.foreign i n
foreign-answers h hs lane (Cut p i) ready f = answers-cut h hs lane ready p f.at f.looks f.there f.foreign i
foreign-answers h hs lane (Link p i q) ready f = answers-link h hs lane ready p f.at f.looks f.there f.foreign i q
foreign-answers h hs lane (Load p i q) ready f = answers-load h hs lane ready p f.at f.looks f.there f.foreign i q
foreign-answers h hs lane (Copy p q) ready f = absurd f.looks
foreign-answers h hs lane (Clear p) ready f = absurd f.looks
foreign-answers h hs lane (Same p q) ready f = absurd f.looks

foreign-records : (h : HeapView) (hs : List Holder) (lane : ℕ) (op : Op) → MayOperate h hs lane → LooksForeign h hs lane op → HasRecorded h h hs lane op Foreign
foreign-records h hs lane (New p n) ready f = (refl, refl)
foreign-records h hs lane (Who p) ready f = (refl, refl)
foreign-records h hs lane (Len p) ready f = (refl, refl)
foreign-records h hs lane (Set p i n) ready f = (refl, refl)
foreign-records h hs lane (Cut p i) ready f = (refl, refl)
foreign-records h hs lane (Link p i q) ready f = inr (stores-none h hs lane ready p f.at f.looks f.there f.foreign i q, (refl, refl))
foreign-records h hs lane (Load p i q) ready f = (refl, refl)
foreign-records h hs lane (Copy p q) ready f = (refl, refl)
foreign-records h hs lane (Clear p) ready f = (refl, refl)
foreign-records h hs lane (Same p q) ready f = (refl, refl)

pub foreign-looked : (h : HeapView) (hs : List Holder) (lane serial : ℕ) (op : Op) → MayOperate h hs lane → MayName hs lane op → LooksForeign h hs lane op → DidOperation h h hs lane serial serial op Foreign
foreign-looked h hs lane serial op ready named f =
    did-step h h hs lane serial serial op Foreign named.0 named.1
    (done-answers h hs lane serial op Foreign ready (foreign-answers h hs lane op ready f) (foreign-records h hs lane op ready f) (foreign-changes h hs lane serial op))

-- a cell of a frozen domain isn't written
module _ (h : HeapView) (hs : List Holder) (lane : ℕ) (ready : MayOperate h hs lane) (p : Slot) (a : Address) (e : slot_word h.roots p ≡ Ref a) (there : IsAllocated h.space a.0) (frozen : holder_of hs (get_or h.space.domains (superpage_of a.0) 0) ≡ holder.Frozen) where
  sealed-domain : (space.cell_at h.space.pages a.0).head.domain ≡ get_or h.space.domains (superpage_of a.0) 0
  sealed-domain = (allocated-object h.space a.0 ready.layout there).of_domain

  nobodys : holder_of hs (cell_of h.space (own_chunk h lane) a.0).head.domain ≡ holder.Frozen
  nobodys =
      ap (holder_of hs) (ap (λ (c : Cell). c.head.domain) (cell_of-below h.space (own_chunk h lane) a.0 (allocated-below h.space a.0 ready.layout there)) ∙ sealed-domain)
      ∙ frozen

  readable : lets_read (holder_of hs (cell_of h.space (own_chunk h lane) a.0).head.domain) lane ≡ true
  readable = reads-of_frozen _ lane nobodys

  refuses-sealed : (i : ℕ) → RefusesOwnField h hs lane (slot_word h.roots p) i Frozen
  refuses-sealed i =
      refuses-frozen h hs lane i (slot_word h.roots p) a ready (record { refers = e; there = inl there; held = readable }) (acts-on h hs lane (slot_word h.roots p) a ready e (inl there) readable)
      (writes-of_frozen _ lane nobodys)

  pub seals-set : (i n : ℕ) → Answers h hs lane (Set p i n) Frozen
  seals-set i n = λ serials state means. refuses-sealed i serials state (slot_of state p) means (word-read h hs serials state p (slot_word h.roots p) refl means) _

  pub seals-cut : (i : ℕ) → Answers h hs lane (Cut p i) Frozen
  seals-cut i = λ serials state means. refuses-sealed i serials state (slot_of state p) means (word-read h hs serials state p (slot_word h.roots p) refl means) _

  pub seals-link : (i : ℕ) (q : Slot) → Answers h hs lane (Link p i q) Frozen
  seals-link i q = λ serials state means. refuses-sealed i serials state (slot_of state p) means (word-read h hs serials state p (slot_word h.roots p) refl means) _

  pub seals-none : (i : ℕ) (q : Slot) → StoresYoung hs lane h.space h.roots (own_chunk h lane) p i q → ⊥
  seals-none i q y =
      let t = y.target in
      let same : t.cell ≡ a = one_address t.cell a (sym t.to ∙ e) in
      let is : t.content ≡ space.cell_at h.space.pages a.0 =
      same_Some t.content _ (sym t.is ∙ ap (λ (x : Address). space.memory h.space x.0) same ∙ memory_of-cell h.space.classes h.space.cells h.space.pages a.0 there) in
      frozen-lane (sym frozen ∙ ap (holder_of hs) (sym (ap (λ (c : Cell). c.head.domain) is ∙ sealed-domain)) ∙ t.held)
    where
      frozen-lane : holder.Frozen ≡ holder.Lane lane → ⊥
      frozen-lane g = cc

sealed-answers : (h : HeapView) (hs : List Holder) (lane : ℕ) (op : Op) → MayOperate h hs lane → LooksSealed h hs op → Answers h hs lane op Frozen
sealed-answers h hs lane (New p n) ready f = absurd f.looks
sealed-answers h hs lane (Who p) ready f = absurd (not-both (sym f.writes))
sealed-answers h hs lane (Len p) ready f = absurd (not-both (sym f.writes))
sealed-answers h hs lane (Set p i n) ready f = seals-set h hs lane ready p f.at f.looks f.there f.frozen i n
sealed-answers h hs lane (Cut p i) ready f = seals-cut h hs lane ready p f.at f.looks f.there f.frozen i
sealed-answers h hs lane (Link p i q) ready f = seals-link h hs lane ready p f.at f.looks f.there f.frozen i q
sealed-answers h hs lane (Load p i q) ready f = absurd (not-both (sym f.writes))
sealed-answers h hs lane (Copy p q) ready f = absurd f.looks
sealed-answers h hs lane (Clear p) ready f = absurd f.looks
sealed-answers h hs lane (Same p q) ready f = absurd f.looks

sealed-records : (h : HeapView) (hs : List Holder) (lane : ℕ) (op : Op) → MayOperate h hs lane → LooksSealed h hs op → HasRecorded h h hs lane op Frozen
sealed-records h hs lane (New p n) ready f = (refl, refl)
sealed-records h hs lane (Who p) ready f = (refl, refl)
sealed-records h hs lane (Len p) ready f = (refl, refl)
sealed-records h hs lane (Set p i n) ready f = (refl, refl)
sealed-records h hs lane (Cut p i) ready f = (refl, refl)
sealed-records h hs lane (Link p i q) ready f = inr (seals-none h hs lane ready p f.at f.looks f.there f.frozen i q, (refl, refl))
sealed-records h hs lane (Load p i q) ready f = (refl, refl)
sealed-records h hs lane (Copy p q) ready f = (refl, refl)
sealed-records h hs lane (Clear p) ready f = (refl, refl)
sealed-records h hs lane (Same p q) ready f = (refl, refl)

pub sealed-looked : (h : HeapView) (hs : List Holder) (lane serial : ℕ) (op : Op) → MayOperate h hs lane → MayName hs lane op → LooksSealed h hs op → DidOperation h h hs lane serial serial op Frozen
sealed-looked h hs lane serial op ready named f =
    did-step h h hs lane serial serial op Frozen named.0 named.1
    (done-answers h hs lane serial op Frozen ready (sealed-answers h hs lane op ready f) (sealed-records h hs lane op ready f) (frozen-changes h hs lane serial op))
