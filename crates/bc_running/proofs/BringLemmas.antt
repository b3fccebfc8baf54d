-- The page of the object that an operation looks at: when it is Gone, and that it comes home.
use Rattle.std.proofs.Common.{◌≡◌, ℕ, ◌*◌, ◌/◌, ◌<◌, Bool, true, false, inl, inr, List, length, get_or, Option, Some, None, refl, sym, ap, subst, ◌∙◌, arith}
use Rattle.bc_bookmarks.specs.Changes.{Reloaded}
use Rattle.bc_bookmarks.specs.Choices.{EligibleNamesCells, GivenUp, MadeRoom}
use Rattle.bc_bookmarks.specs.Moves.{CanMakeRoom, Frees, NoPageGoes}
use Rattle.bc_bookmarks.specs.Targets.{HasCell, is_target}
use Rattle.bc_memory.specs.Memory.{Memory}
use Rattle.bc_model.specs.State.{holder_of}
use Rattle.bc_model.specs.WellFormed.{IsSlot}
use Rattle.bc_model.specs.declared.operations.Op.{Op}
use Rattle.bc_model.specs.declared.operations.Op.TheVariants.{New, Who, Len, Set, Cut, Link, Load, Copy, Clear, Same}
use Rattle.bc_model.specs.declared.values.Holder.{Holder}
use Rattle.bc_model.specs.declared.values.Slot.{Slot}
use Rattle.bc_mutator.specs.Objects.{AreWhole, slot_word}
use Rattle.bc_mutator.specs.Operations.{IsOpOf, MayName, WantsMore, setup_of}
use Rattle.bc_mutator.specs.Parts.{has_right, touched_slot}
use Rattle.bc_mutator.proofs.ObjectLemmas.{LieBehind-laid}
use Rattle.bc_mutator.proofs.PartLemmas.{cell-domain}
use Rattle.bc_nursery.specs.Entries.{Entries}
use Rattle.bc_nursery.specs.Nurseries.{Nursery}
use Rattle.bc_superpages.specs.Calls.{IsTaken}
use Rattle.bc_superpages.specs.Memory.{memory}
use Rattle.bc_superpages.specs.Memory as space
use Rattle.bc_superpages.proofs.MemoryLemmas.{memory_of-cell}
use Rattle.bc_superpages.specs.Paging.{HasNoPromise}
use Rattle.bc_superpages.specs.declared.headers.PageState.TheVariants.{Home, Gone}
use Rattle.bc_superpages.specs.Headers.{is_gone, is_resident}
use Rattle.bc_superpages.specs.Kept.{IsLayout}
use Rattle.bc_superpages.specs.Layout.{Layout, is_cell, superpages}
use Rattle.bc_superpages.specs.LayoutAt.{IsAllocated, state_at}
use Rattle.bc_superpages.specs.RootWords.{RootWords}
use Rattle.bc_whole_heap.specs.Closed.{IsClosedHeap}
use Rattle.bc_whole_heap.specs.Heaps.{end_of}
use Rattle.bc_whole_heap.specs.HeapFacts.{NoneRemembered, view_of}
use Rattle.bc_whole_heap.specs.Running.{IsRunning}
use Rattle.bc_whole_heap.proofs.HeapLemmas.{allocated-below}
use Rattle.bc_word.specs.Addresses.{page_of, superpage_of}
use Rattle.bc_word.proofs.AddressLemmas.{page_of-superpage}
use Rattle.bc_word.specs.declared.addresses.Address.{Address}
use Rattle.bc_word.specs.declared.words.Word.TheVariants.{Ref}
use Rattle.bc_running.specs.Running.{RunningView}
use Rattle.bc_running.specs.RunningFacts.{IsSound}
use Rattle.bc_running.specs.Touching.{BringsHome, IsTouching, LeadsToPage, LooksAtGone, LooksHere}
use Rattle.bc_running.proofs.WholeLemmas.{cell-of_holder}

true_false : {X : Type 0} (b : Bool) → b ≡ false → b ≡ true → X
true_false b off on = absurd (let e : false ≡ true = sym off ∙ on in cc)

-- room can be made in a heap that lanes run on, where nothing is remembered
pub room-sound : {r : RunningView} → IsSound r → NoneRemembered r.heap.space → CanMakeRoom r.heap.space
room-sound {r} sound none = record {
  remembered = none;
  promised = λ p lt home x on here. true_false (is_cell r.heap.space.classes r.heap.space.promised x) (sound.running.none_promised x) on;
  frames = let two = sound.frames in omega arith;
}

-- it looks at no such page where what its slot refers to is elsewhere
pub looks-elsewhere : {hs : List Holder} {lane : ℕ} {s : Layout} {r : RootWords} {op : Op} → IsLayout s → LooksHere s r (has_right hs lane op) (touched_slot op) → LooksAtGone hs lane s r op → ⊥
looks-elsewhere {hs} {lane} {s} {r} {op} layout here looks =
    let there : LooksHere s r (has_right hs lane op) (Some looks.slot) = subst (λ (x : Option Slot). LooksHere s r (has_right hs lane op) x) looks.touched here in
    true_false (is_gone (state_at s.states (page_of looks.at.0))) (there looks.at looks.to (allocated-below s looks.at.0 layout looks.cell) looks.right) (ap is_gone looks.gone)

-- the domain of an address on a page
domain-on : (s : Layout) (a page : ℕ) → page_of a ≡ page → get_or s.domains (superpage_of a) 0 ≡ get_or s.domains (page / 4) 0
domain-on s a page on = ap (λ (q : ℕ). get_or s.domains q 0) (page_of-superpage a ∙ ap (λ (p : ℕ). p / 4) on)

-- the cell on a page to which the operation's slot leads
record LeadsToCell (s : Layout) (r : RootWords) (op : Op) (page : ℕ) : Type 0 where
  pub slot : Slot
  pub touched : touched_slot op ≡ Some slot
  pub at : Address
  pub to : slot_word r slot ≡ Ref at
  pub cell : IsAllocated s at.0
  pub on : page_of at.0 ≡ page

-- the heap that a page and root slots are of
record HasPageOf (hs : List Holder) (s : Layout) (r : RootWords) (cs : List Nursery) (bs : List Entries) (page : ℕ) : Type 0 where
  pub whole : AreWhole cs
  pub running : IsRunning (view_of s r cs bs) hs
  pub within : page < 4 * superpages s

leads-by : {hs : List Holder} {s : Layout} {r : RootWords} {cs : List Nursery} {bs : List Entries} {op : Op} {page : ℕ} (p : Slot) → HasPageOf hs s r cs bs page → touched_slot op ≡ Some p → IsSlot (setup_of r) p → LeadsToPage r (Some p) page → LeadsToCell s r op page
leads-by {hs} {s} {r} {cs} {bs} {op} {page} p h is slot leads =
    let closed : IsClosedHeap (view_of s r cs bs) hs = h.running.closed in
    let a : Address = leads.0 in
    let in_holders : p.domain < length hs = (let lt = slot.0 in let same = closed.domains in omega arith) in
    let below : a.0 < end_of s = (let on = leads.2 in let lt = h.within in omega arith) in
    record {
      slot = p;
      touched = is;
      at = a;
      to = leads.1;
      cell = cell-of_holder s cs (holder_of hs p.domain) a.0 (λ l within. LieBehind-laid s h.running.laid.0 cs l h.running.laid.1 within (h.whole l within))
          (closed.holder p.domain in_holders) (closed.root p.domain p.slot a slot.0 slot.1 leads.1) below;
      on = leads.2;
    }

leads-to : {hs : List Holder} {s : Layout} {r : RootWords} {cs : List Nursery} {bs : List Entries} {page : ℕ} (op : Op) → IsOpOf r op → HasPageOf hs s r cs bs page → LeadsToPage r (touched_slot op) page → LeadsToCell s r op page
leads-to (Who p) fits h leads = leads-by p h refl fits leads
leads-to (Len p) fits h leads = leads-by p h refl fits leads
leads-to (Set p i v) fits h leads = leads-by p h refl fits.0 leads
leads-to (Cut p i) fits h leads = leads-by p h refl fits.0 leads
leads-to (Link p i q) fits h leads = leads-by p h refl fits.0 leads
leads-to (Load p i q) fits h leads = leads-by p h refl fits.0 leads
leads-to (New p n) fits h leads = absurd leads
leads-to (Copy p q) fits h leads = absurd leads
leads-to (Clear p) fits h leads = absurd leads
leads-to (Same p q) fits h leads = absurd leads

-- the page's superpage is of one of the domains
pub domain-within : {hs : List Holder} {s : Layout} {r : RootWords} (cs : List Nursery) (bs : List Entries) (op : Op) (page : ℕ) → IsLayout s → AreWhole cs → IsRunning (view_of s r cs bs) hs → IsOpOf r op → page < 4 * superpages s → LeadsToPage r (touched_slot op) page → get_or s.domains (page / 4) 0 < length hs
domain-within {hs} {s} {r} cs bs op page layout whole running fits within leads =
    let f : LeadsToCell s r op page = leads-to op fits (record { whole = whole; running = running; within = within }) leads in
    subst (λ (d : ℕ). d < length hs) (cell-domain s f.at.0 layout f.cell ∙ domain-on s f.at.0 page f.on)
    (running.closed.mature_domain f.at.0 (space.cell_at s.pages f.at.0) (memory_of-cell s.classes s.cells s.pages f.at.0 f.cell))

-- what is found of a page that is Gone to which the operation's slot leads
pub record FindsGone (hs : List Holder) (lane : ℕ) (s : Layout) (r : RootWords) (op : Op) (page : ℕ) : Type 0 where
  pub looks : LooksAtGone hs lane s r op
  pub same : page_of looks.at.0 ≡ page

pub finds-gone : {hs : List Holder} {lane : ℕ} {s : Layout} {r : RootWords} (cs : List Nursery) (bs : List Entries) (op : Op) (page : ℕ) → AreWhole cs → IsRunning (view_of s r cs bs) hs → IsOpOf r op → MayName hs lane op → page < 4 * superpages s → state_at s.states page ≡ Gone → LeadsToPage r (touched_slot op) page → has_right hs lane op (get_or s.domains (page / 4) 0) ≡ true → FindsGone hs lane s r op page
finds-gone {hs} {lane} {s} {r} cs bs op page whole running fits named within gone leads right =
    let f : LeadsToCell s r op page = leads-to op fits (record { whole = whole; running = running; within = within }) leads in
    record {
      looks = record {
        named = named;
        slot = f.slot;
        touched = f.touched;
        at = f.at;
        to = f.to;
        cell = f.cell;
        right = ap (has_right hs lane op) (domain-on s f.at.0 page f.on) ∙ right;
        gone = ap (state_at s.states) f.on ∙ gone;
      };
      same = f.on;
    }

-- it came home
pub came-home : {hs : List Holder} {lane : ℕ} {s t : Layout} {r : RootWords} {op : Op} {page : ℕ} → FindsGone hs lane s r op page → (hint : ℕ) × (u : Layout) × MadeRoom s hint u × Reloaded u page t → BringsHome hs lane s r op t
came-home {hs} {lane} {s} {t} {r} {op} {page} found back =
    inl (record {
      looks = found.looks;
      hint = back.0;
      roomy = back.1;
      made = back.2;
      back = subst (λ (p : ℕ). Reloaded back.1 p t) (sym found.same) back.3;
    })

-- a page that may leave after one that was given up might have left before it
pub eligible-freed : (s u : Layout) → Frees s u → memory u ≡ memory s → EligibleNamesCells s → EligibleNamesCells u
eligible-freed s u h same names p lt may =
    let count : superpages u ≡ superpages s = ap superpages h.same in
    let before = names p (omega arith) (record {
      home = home;
      cells = subst (λ (x : Layout). HasCell x p) h.same may.cells;
      promised = subst (λ (x : Layout). HasNoPromise x p) h.same may.promised;
    }) in
    λ a target. subst (λ (x : Layout). IsTaken x a) (sym h.same) (before a (subst (λ (m : Memory). is_target m p a ≡ true) same target))
  where
    home : state_at s.states p ≡ Home
    home = elim (h.pages p) [
      | inl was ↦ sym was ∙ may.home
      | inr left ↦ true_false (is_resident (state_at u.states p)) left.away (ap is_resident may.home)
    ]

-- where a frame is free, a page comes back in it
pub reloaded-free : (u t : Layout) (page hint : ℕ) → 0 < u.free → (w : Layout) × MadeRoom u hint w × Reloaded w page t → Reloaded u page t
reloaded-free u t page hint free back = elim back.1 [
  | inl room ↦ subst (λ (x : Layout). Reloaded x page t) room.1 back.2
  | inr given ↦ absurd (let none = given.0 in let some = free in omega arith)
]

-- room was made, so a page could go
no-room : {s t : Layout} {hint : ℕ} → NoPageGoes s → MadeRoom s hint t → ⊥
no-room {s} {t} {hint} none (inl free) = (let is = none.0 in let some = free.0 in omega arith)
no-room {s} {t} {hint} none (inr given) = no-given given.1.2
  where
    no-given : GivenUp s hint given.1.0 t → ⊥
    no-given (inl spare) = none.1.0 given.1.0 given.1.1 spare.0.here
    no-given (inr eligible) = none.1.1 given.1.0 given.1.1 eligible.1.here

-- what was done wanted no frame
pub no-want : {hs : List Holder} {lane : ℕ} {s t : Layout} {r : RootWords} {op : Op} → BringsHome hs lane s r op t → LooksAtGone hs lane s r op × NoPageGoes s → ⊥
no-want (inl came) wants = no-room wants.1 came.made
no-want (inr same) wants = same.0 wants.0

-- an operation that looks at a Gone page touches it
pub looks-touching : {hs : List Holder} {lane : ℕ} {s : Layout} {r : RootWords} {op : Op} → LooksAtGone hs lane s r op → IsTouching (touched_slot op)
looks-touching looks = subst IsTouching (sym looks.touched) tt

-- one that makes an object looks at none
pub wants-elsewhere : {hs : List Holder} {lane : ℕ} {s t : Layout} {r : RootWords} (words : ℕ) (op : Op) → WantsMore hs lane words op → BringsHome hs lane s r op t → t ≡ s
wants-elsewhere words op wants (inr same) = same.1
wants-elsewhere words (New p n) wants (inl came) = absurd (let e = came.looks.touched in none_some came.looks.slot e)
  where
    none_some : (x : Slot) → None ≡ Some x → ⊥
    none_some x e = cc
wants-elsewhere words (Who p) wants (inl came) = absurd wants
wants-elsewhere words (Len p) wants (inl came) = absurd wants
wants-elsewhere words (Set p i v) wants (inl came) = absurd wants
wants-elsewhere words (Cut p i) wants (inl came) = absurd wants
wants-elsewhere words (Link p i q) wants (inl came) = absurd wants
wants-elsewhere words (Load p i q) wants (inl came) = absurd wants
wants-elsewhere words (Copy p q) wants (inl came) = absurd wants
wants-elsewhere words (Clear p) wants (inl came) = absurd wants
wants-elsewhere words (Same p q) wants (inl came) = absurd wants
