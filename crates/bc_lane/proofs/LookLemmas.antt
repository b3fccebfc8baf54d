-- Where an operation of a lane looks.
use Rattle.std.proofs.Common.{◌≡◌, ◌≢◌, ℕ, ◌+◌, ◌/◌, ◌<◌, Bool, true, false, List, [], ◌∷◌, length, get_or, if◌then◌else◌, Option, Some, None, inl, inr, refl, ap, sym, subst, ◌∙◌, arith}
use Rattle.std.specs.List.{list_all}
use Rattle.std.specs.Prelude.{IfNone, IfSome}
use Rattle.std.proofs.lemmas.Bool.{cases_lt}
use Rattle.std.proofs.lemmas.List.{get_or_default}
use Rattle.bc_lane.specs.Shown.{ShowsPages, slot_bits}
use Rattle.bc_lane.specs.Turns.{IsLaneTable, IsWhole, LaneMayName, LeadsToPageWhere, LooksAtObject, LooksOn, LooksReadable, LooksTold, SlotsOf}
use Rattle.bc_lane.specs.declared.looking.Looking.TheVariants.{Foreign, Sealed}
use Rattle.bc_lane.specs.declared.parts.LanePart.{LanePart}
use Rattle.bc_lane.proofs.SlotLemmas.{read-domain, read-frozen, read-own, read-word}
use Rattle.bc_lane.proofs.PageLemmas.{allocated-opened}
use Rattle.bc_model.proofs.Holders.{reads-held, reads-of_frozen, reads-other, writes-held}
use Rattle.bc_model.specs.State.{holder_of, lets_read}
use Rattle.bc_model.specs.Step.{domains_of}
use Rattle.bc_model.specs.WellFormed.{IsSlot}
use Rattle.bc_model.specs.declared.operations.Op.{Op}
use Rattle.bc_model.specs.declared.operations.Op.TheVariants.{New, Who, Len, Set, Cut, Link, Load, Copy, Clear, Same}
use Rattle.bc_model.specs.declared.values.Holder.{Holder}
use Rattle.bc_model.specs.declared.values.Holder.TheVariants as holder
use Rattle.bc_model.specs.declared.values.Slot.{Slot}
use Rattle.bc_mutator.specs.Objects.{own_chunk, slot_word}
use Rattle.bc_mutator.specs.Operations.{IsOpOf, WantsMore, setup_of}
use Rattle.bc_mutator.specs.Parts.{TouchesHand, has_right, touched_slot, writes_field}
use Rattle.bc_mutator.proofs.MeaningLemmas.{own-slot}
use Rattle.bc_mutator.proofs.ObjectLemmas.{there-below}
use Rattle.bc_mutator.proofs.PartLemmas.{cell-domain}
use Rattle.bc_mutator.proofs.ActLemmas.{held-first}
use Rattle.bc_pins.specs.declared.holding.Held.{Held}
use Rattle.bc_pins.specs.declared.views.View.{View}
use Rattle.bc_pins.specs.Contents.{IsBarePage}
use Rattle.bc_pins.specs.Key.{Key, pages_of}
use Rattle.bc_superpages.specs.Kept.{IsLayout}
use Rattle.bc_superpages.specs.Layout.{Layout, superpages}
use Rattle.bc_superpages.specs.LayoutAt.{IsAllocated}
use Rattle.bc_superpages.specs.Memory as space
use Rattle.bc_superpages.specs.RootWords.{RootWords}
use Rattle.bc_superpages.proofs.BringLemmas.{allocated-not_absent}
use Rattle.bc_superpages.proofs.HandLemmas.{allocated-superpage}
use Rattle.bc_superpages.proofs.MemoryLemmas.{memory_of-cell}
use Rattle.bc_whole_heap.specs.Heaps.{HeapView}
use Rattle.bc_word.specs.Addresses.{page_of, superpage_of}
use Rattle.bc_word.specs.Words.{word_of_bits}
use Rattle.bc_word.specs.declared.addresses.Address.{Address}
use Rattle.bc_word.specs.declared.words.Word.{Word}
use Rattle.bc_word.specs.declared.words.Word.TheVariants.{Ref}
use Rattle.bc_word.proofs.AddressLemmas.{page_of-superpage}

none-some : {X : Type 0} (p : Slot) → None ≡ Some p → X
none-some p e = absurd (never e)
  where
    never : None ≡ Some p → ⊥
    never f = cc

some-slot : (q p : Slot) → Some q ≡ Some p → q ≡ p
some-slot q p e = cc

pub touched-slot : (r : RootWords) (op : Op) (p : Slot) → touched_slot op ≡ Some p → IsOpOf r op → IsSlot (setup_of r) p
touched-slot r (New q n) p e fits = none-some p e
touched-slot r (Who q) p e fits = subst (IsSlot (setup_of r)) (some-slot q p e) fits
touched-slot r (Len q) p e fits = subst (IsSlot (setup_of r)) (some-slot q p e) fits
touched-slot r (Set q i v) p e fits = subst (IsSlot (setup_of r)) (some-slot q p e) fits.0
touched-slot r (Cut q i) p e fits = subst (IsSlot (setup_of r)) (some-slot q p e) fits.0
touched-slot r (Link q i t) p e fits = subst (IsSlot (setup_of r)) (some-slot q p e) fits.0
touched-slot r (Load q i t) p e fits = subst (IsSlot (setup_of r)) (some-slot q p e) fits.0
touched-slot r (Copy q t) p e fits = none-some p e
touched-slot r (Clear q) p e fits = none-some p e
touched-slot r (Same q t) p e fits = none-some p e

pub touched-read : (hs : List Holder) (lane : ℕ) (op : Op) (p : Slot) → touched_slot op ≡ Some p → list_all (λ d. lets_read (holder_of hs d) lane) (domains_of op) ≡ true → lets_read (holder_of hs p.domain) lane ≡ true
touched-read hs lane (New q n) p e held = none-some p e
touched-read hs lane (Who q) p e held = subst (λ (x : Slot). lets_read (holder_of hs x.domain) lane ≡ true) (some-slot q p e) (held-first hs lane q.domain [] held)
touched-read hs lane (Len q) p e held = subst (λ (x : Slot). lets_read (holder_of hs x.domain) lane ≡ true) (some-slot q p e) (held-first hs lane q.domain [] held)
touched-read hs lane (Set q i v) p e held = subst (λ (x : Slot). lets_read (holder_of hs x.domain) lane ≡ true) (some-slot q p e) (held-first hs lane q.domain [] held)
touched-read hs lane (Cut q i) p e held = subst (λ (x : Slot). lets_read (holder_of hs x.domain) lane ≡ true) (some-slot q p e) (held-first hs lane q.domain [] held)
touched-read hs lane (Link q i t) p e held = subst (λ (x : Slot). lets_read (holder_of hs x.domain) lane ≡ true) (some-slot q p e) (held-first hs lane q.domain (t.domain ∷ []) held)
touched-read hs lane (Load q i t) p e held = subst (λ (x : Slot). lets_read (holder_of hs x.domain) lane ≡ true) (some-slot q p e) (held-first hs lane q.domain (t.domain ∷ []) held)
touched-read hs lane (Copy q t) p e held = none-some p e
touched-read hs lane (Clear q) p e held = none-some p e
touched-read hs lane (Same q t) p e held = none-some p e

-- an operation that looks at an object makes none
pub looking-wants : (r : RootWords) (hs : List Holder) (lane words : ℕ) (op : Op) (at : Address) → LooksAtObject r (touched_slot op) at → WantsMore hs lane words op → ⊥
looking-wants r hs lane words (New p n) at looks wants = looks
looking-wants r hs lane words (Who p) at looks wants = wants
looking-wants r hs lane words (Len p) at looks wants = wants
looking-wants r hs lane words (Set p i v) at looks wants = wants
looking-wants r hs lane words (Cut p i) at looks wants = wants
looking-wants r hs lane words (Link p i q) at looks wants = wants
looking-wants r hs lane words (Load p i q) at looks wants = wants
looking-wants r hs lane words (Copy p q) at looks wants = wants
looking-wants r hs lane words (Clear p) at looks wants = wants
looking-wants r hs lane words (Same p q) at looks wants = wants

-- where no object is looked at, nothing need be in hand
pub leads-nowhere : (part : LanePart) (end : ℕ) (op : Op) (P : ℕ → Type 0) → touched_slot op ≡ None → LeadsToPageWhere part end op P
leads-nowhere part end op P is v hand = subst (TouchesHand (ShowsPages v hand end) (SlotsOf part) P) (sym is) tt

-- what is true of the pages that are looked at, and implies more
pub touches-more : (A B : Layout → Type 0) (C D : RootWords → Type 0) (P Q : ℕ → Type 0) (o : Option Slot) → ((s : Layout) → B s → A s) → ((r : RootWords) → D r → C r) → ((p : ℕ) → P p → Q p) → TouchesHand A C P o → TouchesHand B D Q o
touches-more A B C D P Q None cells slots pages touches = tt
touches-more A B C D P Q (Some p) cells slots pages touches = λ r d at e s b lt. pages (page_of at.0) (touches r (slots r d) at e s (cells s b) lt)

module _ (part : LanePart) (v0 : View) (hand0 : Option Held) (end : ℕ) (h : HeapView) (op : Op) (w : IsWhole part v0 hand0 end h) (fits : IsOpOf h.roots op) (p : Slot) (is : touched_slot op ≡ Some p) (may : lets_read (holder_of part.holders.items p.domain) part.lane ≡ true) where
  abbrev hs : List Holder
  hs = part.holders.items

  abbrev starts : List ℕ
  starts = part.starts.items

  abbrev words : List ℕ
  words = part.words.items

  abbrev shared : RootWords
  shared = part.shared.value

  abbrev bits : ℕ
  bits = slot_bits (holder_of hs p.domain) starts words shared p

  slot : IsSlot (setup_of h.roots) p
  slot = touched-slot h.roots op p is fits

  pub looked-within : p.domain < length hs
  looked-within = read-domain hs part.lane part.slots shared starts words h.roots p w.belongs.roots slot may

  pub looked-own_place : (l : ℕ) → holder_of hs p.domain ≡ holder.Lane l → (p.domain < length starts) × (get_or starts p.domain 0 + p.slot < length words)
  looked-own_place = read-own hs part.lane part.slots shared starts words h.roots p w.belongs.roots slot may

  pub looked-shared_place : holder_of hs p.domain ≡ holder.Frozen → (p.domain < shared.domains) × (p.slot < shared.slots)
  looked-shared_place = read-frozen hs part.lane part.slots shared starts words h.roots p w.belongs.roots slot may

  pub looked-word : slot_word h.roots p ≡ word_of_bits bits
  looked-word = read-word hs part.lane part.slots shared starts words h.roots p w.belongs.roots slot may

  pub looks-at : (word : Word) (at : Address) → word ≡ word_of_bits bits → word ≡ Ref at → LooksAtObject h.roots (touched_slot op) at
  looks-at word at read e = subst (λ (o : Option Slot). LooksAtObject h.roots o at) (sym is) (looked-word ∙ sym read ∙ e)

  shown-slot : (r : RootWords) → SlotsOf part r → IsSlot (setup_of r) p
  shown-slot r shown =
      let here = w.belongs.roots.shared_sizes in
      let there = shown.shared_sizes in
      let domains = here.0 in
      let domains' = there.0 in
      let width = here.1 in
      let width' = there.1 in
      let lt = slot.0 in
      let less = slot.1 in
      (omega arith, omega arith)

  pub leads : (word : Word) → word ≡ word_of_bits bits → (P : ℕ → Type 0) → ((at : Address) → word ≡ Ref at → at.0 < end → P (page_of at.0)) → LeadsToPageWhere part end op P
  leads word read P each v hand =
      subst (TouchesHand (ShowsPages v hand end) (SlotsOf part) P) (sym is)
      (λ r shown at e s pages lt.
      each at (read ∙ sym (read-word hs part.lane part.slots shared starts words r p shown (shown-slot r shown) may) ∙ e) (let z = pages.end_is in omega arith))

-- the cell that is looked at
looked-own : (r : RootWords) (op : Op) (at : Address) → LooksAtObject r (touched_slot op) at → (p : Slot) × (touched_slot op ≡ Some p) × (slot_word r p ≡ Ref at)
looked-own r op at looks = go (touched_slot op) refl looks
  where
    go : (o : Option Slot) → touched_slot op ≡ o → LooksAtObject r o at → (p : Slot) × (touched_slot op ≡ Some p) × (slot_word r p ≡ Ref at)
    go None e l = absurd l
    go (Some p) e l = (p, e, l)

module _ (part : LanePart) (k : Key) (v : View) (hand : Option Held) (end : ℕ) (h : HeapView) (op : Op) (about : v.about ≡ k) (w : IsWhole part v hand end h) (fits : IsOpOf h.roots op) (table : IsLaneTable k part.holders.items)
    (named : LaneMayName part op) (at : Address) (below : at.0 < end) (looks : LooksAtObject h.roots (touched_slot op) at) where
  at-slot : (p : Slot) × (touched_slot op ≡ Some p) × (slot_word h.roots p ≡ Ref at)
  at-slot = looked-own h.roots op at looks

  pub looked-there : IsAllocated h.space at.0
  looked-there =
      let p = at-slot in
      let slot = touched-slot h.roots op p.0 p.1 fits in
      let may = touched-read part.holders.items part.lane op p.0 p.1 named.0 in
      there-below h.space (own_chunk h part.lane) at.0 w.ready.behind (own-slot h part.holders.items part.lane p.0 w.ready.running slot.0 slot.1 may at p.2) (let e = w.belongs.space.end_is in omega arith)

  opened-same : h.space ≡ record k.opening { states = h.space.states; pages = h.space.pages; incoming = h.space.incoming }
  opened-same = subst (λ (a : Key). h.space ≡ record a.opening { states = h.space.states; pages = h.space.pages; incoming = h.space.incoming }) about w.belongs.space.same

  opened-layout : IsLayout k.opening
  opened-layout = subst (λ (a : Key). IsLayout a.opening) about w.belongs.space.opening

  pub looked-opened : IsAllocated k.opening at.0
  looked-opened = allocated-opened h.space k.opening at.0 opened-same looked-there

  pub looked-superpage : superpage_of at.0 < superpages k.opening
  looked-superpage = allocated-superpage k.opening at.0 opened-layout looked-opened

  pub looked-domains : h.space.domains ≡ k.opening.domains
  looked-domains = ap (λ (x : Layout). x.domains) opened-same

  pub looked-domain : get_or k.opening.domains (superpage_of at.0) 0 < length part.holders.items
  looked-domain =
      let is = cell-domain h.space at.0 w.ready.layout looked-there in
      let lt = w.ready.running.closed.mature_domain at.0 (space.cell_at h.space.pages at.0) (memory_of-cell h.space.classes h.space.cells h.space.pages at.0 looked-there) in
      let same = ap (λ (xs : List ℕ). get_or xs (superpage_of at.0) 0) looked-domains in
      omega arith

  pub looked-inside : page_of at.0 < pages_of k
  looked-inside = elim (cases_lt (page_of at.0) (pages_of k)) [
    | inl lt ↦ lt
    | inr le ↦ absurd (allocated-not_absent k.opening at.0 opened-layout looked-opened (table.behind (page_of at.0) le))
  ]

  pub looked-cell : IsBarePage k.opening (page_of at.0) → ⊥
  looked-cell bare = bare at.0 looked-opened refl

  pub looked-on : LooksOn h op (page_of at.0)
  looked-on = (at, looks, looked-there, refl)

pub superpage-page : (a : ℕ) (ds : List ℕ) → get_or ds (superpage_of a) 0 ≡ get_or ds (page_of a / 4) 0
superpage-page a ds = ap (λ (q : ℕ). get_or ds q 0) (page_of-superpage a)

-- who may read a domain and not do what the operation does would write it
no-right-writes : (b c d : Bool) → (if b then c else d) ≡ false → d ≡ true → b ≡ true
no-right-writes true c d off on = refl
no-right-writes false c d off on = absurd (clash (sym on ∙ off))
  where
    clash : true ≡ false → ⊥
    clash e = cc

-- what is known of where an operation looks at a cell, whatever the whole heap
module _ (part : LanePart) (k : Key) (end : ℕ) (op : Op) (at : Address) (table : IsLaneTable k part.holders.items) (named : LaneMayName part op) (below : at.0 < end) (leads-on : LeadsToPageWhere part end op (λ q. q ≡ page_of at.0))
    (at-each : (v : View) → (hand : Option Held) → (h : HeapView) → IsWhole part v hand end h → IsOpOf h.roots op → LooksAtObject h.roots (touched_slot op) at)
    (some : (v : View) × (hand : Option Held) × (h : HeapView) × (v.about ≡ k) × IsWhole part v hand end h × IsOpOf h.roots op) where
  one-looks : LooksAtObject (some.2).roots (touched_slot op) at
  one-looks = at-each some.0 some.1 some.2 some.4 some.5

  pub told-superpage : superpage_of at.0 < superpages k.opening
  told-superpage = looked-superpage part k some.0 some.1 end some.2 op some.3 some.4 some.5 table named at below one-looks

  pub told-domain : get_or k.opening.domains (superpage_of at.0) 0 < length part.holders.items
  told-domain = looked-domain part k some.0 some.1 end some.2 op some.3 some.4 some.5 table named at below one-looks

  -- at one of its own or of a frozen domain
  pub told-at : (who : Holder) → holder_of part.holders.items (get_or k.opening.domains (superpage_of at.0) 0) ≡ who → has_right part.holders.items part.lane op (get_or k.opening.domains (superpage_of at.0) 0) ≡ true
      → LooksReadable part k end op who (page_of at.0)
  told-at who owned may =
      let same = superpage-page at.0 k.opening.domains in
      record {
        named = named;
        leads = leads-on;
        inside = looked-inside part k some.0 some.1 end some.2 op some.3 some.4 some.5 table named at below one-looks;
        domain = subst (λ (d : ℕ). d < length part.holders.items) same told-domain;
        owned = subst (λ (d : ℕ). holder_of part.holders.items d ≡ who) same owned;
        cell = looked-cell part k some.0 some.1 end some.2 op some.3 some.4 some.5 table named at below one-looks;
        looks = λ v hand h about w fits. record {
          named = named;
          right = ap (λ (ds : List ℕ). has_right part.holders.items part.lane op (get_or ds (page_of at.0 / 4) 0)) (looked-domains part k v hand end h op about w fits table named at below (at-each v hand h w fits))
              ∙ ap (has_right part.holders.items part.lane op) (sym same) ∙ may;
          looks = looked-on part k v hand end h op about w fits table named at below (at-each v hand h w fits);
        };
      }

  -- or at one of another lane's
  pub told-foreign : lets_read (holder_of part.holders.items (get_or k.opening.domains (superpage_of at.0) 0)) part.lane ≡ false → LooksTold part k end op Foreign
  told-foreign off = (
    named,
    λ v hand h about w fits. record {
      at = at;
      looks = at-each v hand h w fits;
      there = looked-there part k v hand end h op about w fits table named at below (at-each v hand h w fits);
      foreign = ap (λ (ds : List ℕ). lets_read (holder_of part.holders.items (get_or ds (superpage_of at.0) 0)) part.lane) (looked-domains part k v hand end h op about w fits table named at below (at-each v hand h w fits)) ∙ off;
    },
  )

  -- or at one of a frozen domain that it would write
  pub told-sealed : holder_of part.holders.items (get_or k.opening.domains (superpage_of at.0) 0) ≡ holder.Frozen → has_right part.holders.items part.lane op (get_or k.opening.domains (superpage_of at.0) 0) ≡ false → LooksTold part k end op Sealed
  told-sealed frozen off = (
    named,
    λ v hand h about w fits. record {
      at = at;
      looks = at-each v hand h w fits;
      there = looked-there part k v hand end h op about w fits table named at below (at-each v hand h w fits);
      frozen = ap (λ (ds : List ℕ). holder_of part.holders.items (get_or ds (superpage_of at.0) 0)) (looked-domains part k v hand end h op about w fits table named at below (at-each v hand h w fits)) ∙ frozen;
      writes = no-right-writes (writes_field op) _ _ off (reads-of_frozen _ part.lane frozen);
    },
  )

-- what an operation's slot refers to
module _ (part : LanePart) (end : ℕ) (op : Op) (p : Slot) (is : touched_slot op ≡ Some p) (named : LaneMayName part op) (word : Word)
    (some : (v : View) × (hand : Option Held) × (h : HeapView) × IsWhole part v hand end h × IsOpOf h.roots op)
    (read : word ≡ word_of_bits (slot_bits (holder_of part.holders.items p.domain) part.starts.items part.words.items part.shared.value p)) where
  may : lets_read (holder_of part.holders.items p.domain) part.lane ≡ true
  may = touched-read part.holders.items part.lane op p is named.0

  pub refers-leads : (P : ℕ → Type 0) → ((at : Address) → word ≡ Ref at → at.0 < end → P (page_of at.0)) → LeadsToPageWhere part end op P
  refers-leads P each = leads part some.0 some.1 end some.2 op some.3 some.4 p is may word read P each

  pub refers-at : (at : Address) → word ≡ Ref at → (v : View) → (hand : Option Held) → (h : HeapView) → IsWhole part v hand end h → IsOpOf h.roots op → LooksAtObject h.roots (touched_slot op) at
  refers-at at e v hand h w fits = looks-at part v hand end h op w fits p is may word at read e

pub one-ref : (word : Word) (a b : Address) → word ≡ Ref a → word ≡ Ref b → b ≡ a
one-ref word a b x y = same a b (sym x ∙ y)
  where
    same : (a b : Address) → Ref a ≡ Ref b → b ≡ a
    same a b e = cc

-- what was read of the slots that the lane may read
pub read-as : (hs hs' : List Holder) (starts starts' words words' : List ℕ) (sh sh' : RootWords) (word : Word) (p : Slot) → hs' ≡ hs → starts' ≡ starts → words' ≡ words → sh ≡ sh' → word ≡ word_of_bits (slot_bits (holder_of hs' p.domain) starts' words' sh' p)
    → word ≡ word_of_bits (slot_bits (holder_of hs p.domain) starts words sh p)
read-as hs hs' starts starts' ws ws' sh sh' word p d e f g read =
    subst (λ (x : RootWords). word ≡ word_of_bits (slot_bits (holder_of hs p.domain) starts ws x p)) (sym g)
    (subst (λ (xs : List ℕ). word ≡ word_of_bits (slot_bits (holder_of hs p.domain) starts xs sh' p)) f
    (subst (λ (xs : List ℕ). word ≡ word_of_bits (slot_bits (holder_of hs p.domain) xs ws' sh' p)) e
    (subst (λ (xs : List Holder). word ≡ word_of_bits (slot_bits (holder_of xs p.domain) starts' ws' sh' p)) d read)))

pub if-none : (r : Option Address) (P Q : Type 0) → (P → Q) → IfNone r P → IfNone r Q
if-none None P Q more is = more is
if-none (Some a) P Q more is = tt

pub if-some : (r : Option Address) (P Q : Address → Type 0) → ((a : Address) → P a → Q a) → IfSome r P → IfSome r Q
if-some None P Q more is = tt
if-some (Some a) P Q more is = more a is

-- a lane may do all to a domain that it holds
if-same : (b : Bool) (x : Bool) → x ≡ true → (if b then x else x) ≡ true
if-same true x on = on
if-same false x on = on

pub right-held : (hs : List Holder) (lane : ℕ) (op : Op) (d : ℕ) → holder_of hs d ≡ holder.Lane lane → has_right hs lane op d ≡ true
right-held hs lane op d own =
    ap (λ (b : Bool). if writes_field op then b else lets_read (holder_of hs d) lane) (writes-held (holder_of hs d) lane own)
    ∙ ap (λ (b : Bool). if writes_field op then true else b) (reads-held (holder_of hs d) lane own)
    ∙ if-same (writes_field op) true refl

-- another lane's domain isn't read
pub foreign-reads : (x : Holder) (l lane : ℕ) → x ≡ holder.Lane l → l ≢ lane → lets_read x lane ≡ false
foreign-reads x l lane e ne = reads-other x l lane e ne

-- what was answered of the right to a domain
pub right-as : (hs hs' : List Holder) (lane : ℕ) (op : Op) (d e : ℕ) (b x : Bool) → hs' ≡ hs → d ≡ e → b ≡ has_right hs' lane op d → b ≡ x → has_right hs lane op e ≡ x
right-as hs hs' lane op d e b x same at right is =
    subst (λ (n : ℕ). has_right hs lane op n ≡ x) at (subst (λ (xs : List Holder). has_right xs lane op d ≡ x) same (sym right ∙ is))

-- the holder of a domain, as it was read
pub held-by : (hs : List Holder) (d e : ℕ) (x : Holder) → d ≡ e → e < length hs → x ≡ get_or hs d x → holder_of hs e ≡ x
held-by hs d e x is within read =
    get_or_default hs e holder.Frozen x within ∙ sym (read ∙ ap (λ (n : ℕ). get_or hs n x) is)
