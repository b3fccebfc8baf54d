-- What the lane has belongs to the heap that an operation makes.
use Rattle.std.proofs.Common.{◌≡◌, ◌≢◌, ◌↔◌, ℕ, ◌+◌, ◌/◌, ◌<◌, ◌≤◌, Bool, true, List, length, map, get_or, set, Option, Some, None, inl, inr, Vec, Global, refl, ap, sym, subst, ◌∙◌, arith, get_or-set_same}
use Rattle.std.proofs.lemmas.List.{length-map}
use Rattle.std.proofs.lemmas.Option.{cond_some}
use Rattle.bc_lane.specs.Shown.{HasPage, IsOwnPage, ShowsPages, ShowsSlots}
use Rattle.bc_lane.specs.Turns.{IsWhole, LaneMayName, SlotsOf}
use Rattle.bc_lane.specs.declared.parts.LanePart.{LanePart}
use Rattle.bc_lane.proofs.LookLemmas.{superpage-page, touches-more}
use Rattle.bc_lane.proofs.RoleLemmas.{own-role}
use Rattle.bc_model.specs.State.{State, holder_of, lets_read, lets_write}
use Rattle.bc_model.specs.StateSizes.{sizes_of}
use Rattle.bc_model.specs.Step.{step}
use Rattle.bc_model.specs.WellFormed.{IsOp}
use Rattle.bc_model.specs.declared.operations.Op.{Op}
use Rattle.bc_model.specs.declared.operations.Reply.{Reply}
use Rattle.bc_model.specs.declared.traces.Setup.{Setup}
use Rattle.bc_model.specs.declared.values.Holder.{Holder}
use Rattle.bc_model.specs.declared.values.Holder.TheVariants as holder
use Rattle.bc_model.proofs.Holders.{held-within, writer}
use Rattle.bc_model.proofs.Steps.{made-step}
use Rattle.bc_mutator.specs.Effects.{DidOperation}
use Rattle.bc_mutator.specs.Objects.{MayOperate}
use Rattle.bc_memory.specs.Memory.{Cell}
use Rattle.bc_mutator.specs.Operations.{IsOpOf, MayName, NeedsEntry, NoneLater, WantsMore}
use Rattle.bc_mutator.specs.Parts.{IsPartOf, LooksInHand, OwnsPages, Serves, TouchesHand, touched_slot}
use Rattle.bc_mutator.proofs.NewLemmas.{births-count, none-later}
use Rattle.bc_mutator.proofs.PartLemmas.{cell-domain, looks-touching}
use Rattle.bc_mutator.proofs.StepLemmas.{next-ready}
use Rattle.bc_nursery.specs.Entries.{Entries}
use Rattle.bc_nursery.specs.Nurseries.{Nursery}
use Rattle.bc_nursery.specs.Objects.{left_of}
use Rattle.bc_pins.specs.declared.holding.Held.{Held}
use Rattle.bc_pins.specs.declared.views.View.{View}
use Rattle.bc_pins.specs.Key.{lane_role, owner, owner_role}
use Rattle.bc_superpages.specs.Layout.{Layout, is_cell}
use Rattle.bc_superpages.specs.LayoutAt.{IsAllocated}
use Rattle.bc_superpages.specs.Memory as space
use Rattle.bc_superpages.specs.RootWords.{RootWords}
use Rattle.bc_whole_heap.specs.Heaps.{HeapView, end_of}
use Rattle.bc_whole_heap.specs.LaneStates.{StandsAs}
use Rattle.bc_word.specs.Addresses.{page_of, superpage_of}

abbrev sized : ℕ → ℕ → Setup
sized d w = record { lanes = 0; domains = d; slots = w; superpages = 0; nursery = 0; buffer = 0; frames = 0 }

-- an operation that fits the roots of a heap fits the state that it stands for
pub op-fits : (h : HeapView) (hs : List Holder) (serials : List ℕ) (state : State) (op : Op) → StandsAs h hs serials state → IsOpOf h.roots op → IsOp (sizes_of state) op
op-fits h hs serials state op st fits =
    subst (λ (n : ℕ). IsOp (sized n state.width) op) st.domains (subst (λ (n : ℕ). IsOp (sized h.roots.domains n) op) st.slots fits)

-- each lane of a heap has its serial
pub lane-serial : (h : HeapView) (hs : List Holder) (serials : List ℕ) (state : State) (lane : ℕ) → StandsAs h hs serials state → lane < length h.chunks → lane < length serials
lane-serial h hs serials state lane st lt =
    let a = ap length st.births in
    let b = length-map state.made length in
    let c = st.lanes in
    omega arith

-- the lane has one birth more at most
pub births-step : (h k : HeapView) (hs : List Holder) (serials : List ℕ) (state : State) (lane serial next : ℕ) (op : Op) (reply : Reply) → StandsAs h hs serials state → get_or serials lane 0 ≡ serial → lane < length h.chunks → IsOpOf h.roots op → DidOperation h k hs lane serial next op reply → next ≤ serial + 1
births-step h k hs serials state lane serial next op reply st e lt fits did =
    let after = (did.step serials state st e).1 in
    let before = births-count hs serials lane state st in
    let now = births-count hs (set serials lane next) lane (step state lane op).0 after in
    let same = get_or-set_same serials lane next 0 (lane-serial h hs serials state lane st lt) in
    let within : lane < length state.made = (let a = st.lanes in omega arith) in
    let few = made-step state lane op lane st.consistent within (op-fits h hs serials state op st fits) in
    omega arith

slots-as : (hs hs' : List Holder) (lane lane' slots slots' : ℕ) (shared shared' : RootWords) (starts starts' words words' : List ℕ) (r : RootWords) → hs ≡ hs' → lane ≡ lane' → slots ≡ slots' → shared ≡ shared' → starts ≡ starts' → words ≡ words' → ShowsSlots hs lane slots shared starts words r
    → ShowsSlots hs' lane' slots' shared' starts' words' r
slots-as hs hs' lane lane' slots slots' shared shared' starts starts' words words' r e1 e2 e3 e4 e5 e6 shown =
    subst (λ (x : List Holder). ShowsSlots x lane' slots' shared' starts' words' r) e1
    (subst (λ (x : ℕ). ShowsSlots hs x slots' shared' starts' words' r) e2
    (subst (λ (x : ℕ). ShowsSlots hs lane x shared' starts' words' r) e3
    (subst (λ (x : RootWords). ShowsSlots hs lane slots x starts' words' r) e4
    (subst (λ (x : List ℕ). ShowsSlots hs lane slots shared x words' r) e5
    (subst (λ (x : List ℕ). ShowsSlots hs lane slots shared starts x r) e6 shown)))))

pages-as : (v v' : View) (hand hand' : Option Held) (end end' : ℕ) (s : Layout) → v ≡ v' → hand ≡ hand' → end ≡ end' → ShowsPages v hand end s → ShowsPages v' hand' end' s
pages-as v v' hand hand' end end' s e1 e2 e3 shown =
    subst (λ (x : View). ShowsPages x hand' end' s) e1
    (subst (λ (x : Option Held). ShowsPages v x end' s) e2
    (subst (λ (x : ℕ). ShowsPages v hand x s) e3 shown))

-- a page in hand that somebody holds is the lane's own
own-hand : (v : View) (hand : Option Held) (end : ℕ) (s : Layout) (page : ℕ) → ShowsPages v hand end s → HasPage hand page → owner v.about page ≢ 0 → IsOwnPage v page
own-hand v None end s page shown has some = absurd has
own-hand v (Some held) end s page shown has some = elim shown.in_hand [
  | inl own ↦ subst (IsOwnPage v) (sym has) own.own
  | inr frozen ↦ absurd (some (ap (owner v.about) has ∙ frozen.frozen))
]

-- what lies at an address is an allocated cell
memory-cell : (s : Layout) (a : ℕ) (c : Cell) → space.memory s a ≡ Some c → IsAllocated s a × (space.cell_at s.pages a ≡ c)
memory-cell s a c e = let t = cond_some (is_cell s.classes s.cells a) (space.cell_at s.pages a) c e in (t.0, t.1)

-- at a station: what stays is given by other names
module _ (part : LanePart) (v sv : View) (hand : Option Held) (end : ℕ) (op : Op) (shs : List Holder) (slane sslots : ℕ) (sstarts : List ℕ) (sshared : RootWords) (is_v : sv ≡ v) (is_hs : shs ≡ part.holders.items) (is_lane : slane ≡ part.lane) (is_starts : sstarts ≡ part.starts.items) (is_slots : sslots ≡ part.slots) (is_shared : sshared ≡ part.shared.value)
    (chs rhs : List Holder) (cst : List ℕ) (csh : RootWords) (is_chs : chs ≡ part.holders.items) (is_rhs : rhs ≡ part.holders.items) (is_cst : cst ≡ part.starts.items) (is_csh : part.shared.value ≡ csh) where
  abbrev Cells' : Option Held → ℕ → Layout → Type 0
  Cells' h e s = ShowsPages sv h e s

  abbrev Slots' : List Holder → List ℕ → RootWords → List ℕ → RootWords → Type 0
  Slots' hs st sh words r = (hs ≡ shs) × (st ≡ sstarts) × (sh ≡ sshared) × ShowsSlots shs slane sslots sshared sstarts words r

  slots-to : (words' : List ℕ) (r : RootWords) → words' ≡ part.words.items → SlotsOf part r → Slots' rhs cst csh words' r
  slots-to words' r e shown = (
    is_rhs ∙ sym is_hs,
    is_cst ∙ sym is_starts,
    sym is_csh ∙ sym is_shared,
    slots-as _ shs _ slane _ sslots _ sshared _ sstarts _ words' r (sym is_hs) (sym is_lane) (sym is_slots) (sym is_shared) (sym is_starts) (sym e) shown,
  )

  slots-from : (words' : List ℕ) (r : RootWords) → words' ≡ part.words.items → Slots' rhs cst csh words' r → SlotsOf part r
  slots-from words' r e shown = slots-as shs _ slane _ sslots _ sshared _ sstarts _ words' _ r is_hs is_lane is_slots is_shared is_starts e shown.3

  pub serves-at : (h : HeapView) (hand' : Option Held) (words' : List ℕ) → hand' ≡ hand → words' ≡ part.words.items → IsWhole part v hand end h → IsOpOf h.roots op
      → Serves (Cells' hand' end) (Slots' rhs cst csh words') part.chunk part.buffer chs part.lane op h
  serves-at h hand' words' e_hand e_words w fits = record {
    ready = subst (λ (xs : List Holder). MayOperate h xs part.lane) (sym is_chs) w.ready;
    fits = fits;
    part = record {
      space = pages-as v sv hand hand' end end h.space (sym is_v) (sym e_hand) refl w.belongs.space;
      roots = slots-to words' h.roots e_words w.belongs.roots;
      chunk_is = w.belongs.chunk_is;
      buffer_is = w.belongs.buffer_is;
    };
  }

  pub read-at : (d : ℕ) → lets_read (holder_of chs d) part.lane ≡ true → lets_read (holder_of shs d) slane ≡ true
  read-at d may = ap (λ (xs : List Holder). lets_read (holder_of xs d) slane) (is_hs ∙ sym is_chs) ∙ ap (lets_read (holder_of chs d)) is_lane ∙ may

  pub own-at : (d : ℕ) → lets_write (holder_of chs d) part.lane ≡ true → holder_of shs d ≡ holder.Lane slane
  own-at d may = ap (λ (xs : List Holder). holder_of xs d) (is_hs ∙ sym is_chs) ∙ writer (holder_of chs d) part.lane may ∙ ap holder.Lane (sym is_lane)

  pub touches-at : (hand' : Option Held) (words' : List ℕ) → hand' ≡ hand → words' ≡ part.words.items → TouchesHand (ShowsPages v hand end) (SlotsOf part) (HasPage hand) (touched_slot op)
      → TouchesHand (Cells' hand' end) (Slots' rhs cst csh words') (HasPage hand') (touched_slot op)
  touches-at hand' words' e_hand e_words touches =
      touches-more (ShowsPages v hand end) (Cells' hand' end) (SlotsOf part) (Slots' rhs cst csh words') (HasPage hand) (HasPage hand') (touched_slot op)
      (λ s shown. pages-as sv v hand' hand end end s is_v e_hand refl shown)
      (λ r shown. slots-from words' r e_words shown)
      (λ p has. subst (λ (x : Option Held). HasPage x p) (sym e_hand) has)
      touches

  pub looks-at-hand : (hand' : Option Held) (words' : List ℕ) → hand' ≡ hand → words' ≡ part.words.items → (right : ℕ → Bool) → TouchesHand (ShowsPages v hand end) (SlotsOf part) (HasPage hand) (touched_slot op)
      → LooksInHand (Cells' hand' end) (Slots' rhs cst csh words') (HasPage hand') right (touched_slot op)
  looks-at-hand hand' words' e_hand e_words right touches =
      looks-touching (Cells' hand' end) (Slots' rhs cst csh words') (HasPage hand') right (touched_slot op) (touches-at hand' words' e_hand e_words touches)

  pub named-at : MayName chs part.lane op → LaneMayName part op
  named-at named = subst (λ (xs : List Holder). MayName xs part.lane op) is_chs named

  -- a page in hand with a cell of a domain that the lane holds is its own
  owner-at : v.about.owners ≡ map owner_role part.holders.items → (hand' : Option Held) → (s : Layout) → (a d : ℕ) → Cells' hand' end s → d ≡ get_or s.domains (superpage_of a) 0 → holder_of chs d ≡ holder.Lane part.lane → owner sv.about (page_of a) ≡ lane_role part.lane
  owner-at owners hand' s a d shown domain own =
      let at : get_or sv.about.opening.domains (page_of a / 4) 0 ≡ d =
      sym (domain ∙ superpage-page a s.domains ∙ ap (λ (x : Layout). get_or x.domains (page_of a / 4) 0) shown.same) in
      let held : holder_of part.holders.items (get_or sv.about.opening.domains (page_of a / 4) 0) ≡ holder.Lane part.lane =
      ap (holder_of part.holders.items) at ∙ ap (λ (xs : List Holder). holder_of xs d) (sym is_chs) ∙ own in
      own-role sv.about part.holders.items part.lane (page_of a) (ap (λ (x : View). x.about.owners) is_v ∙ owners) (held-within part.holders.items _ part.lane held) held

  pub owns-at : v.about.owners ≡ map owner_role part.holders.items → (hand' : Option Held) → OwnsPages (Cells' hand' end) chs part.lane (HasPage hand') (λ page. HasPage hand' page × IsOwnPage sv page)
  owns-at owners hand' s a c shown layout there own has =
      let cell = memory-cell s a c there in
      let domain = ap (λ (x : Cell). x.head.domain) (sym cell.1) ∙ cell-domain s a layout cell.0 in
      let role = owner-at owners hand' s a c.head.domain shown domain own in
      (has, own-hand sv hand' end s (page_of a) shown has (λ e. absurd (omega arith)))

  pub did-at : (h k : HeapView) (next : ℕ) (reply : Reply) → DidOperation h k chs part.lane part.serial next op reply → DidOperation h k part.holders.items part.lane part.serial next op reply
  did-at h k next reply did = subst (λ (xs : List Holder). DidOperation h k xs part.lane part.serial next op reply) is_chs did

  pub needs-at : (h : HeapView) → NeedsEntry chs part.lane h.space h.roots part.chunk part.buffer op → NeedsEntry part.holders.items part.lane h.space h.roots part.chunk part.buffer op
  needs-at h needs = subst (λ (xs : List Holder). NeedsEntry xs part.lane h.space h.roots part.chunk part.buffer op) is_chs needs

  pub wants-at : (A : Type 0) → A ↔ WantsMore chs part.lane (left_of part.chunk) op → A ↔ WantsMore part.holders.items part.lane (left_of part.chunk) op
  wants-at A full = subst (λ (xs : List Holder). A ↔ WantsMore xs part.lane (left_of part.chunk) op) is_chs full

  -- and back
  pub whole-after : (h k : HeapView) (hand' : Option Held) (end' next : ℕ) (hs' : List Holder) (st : List ℕ) (sh : RootWords) (words' : Vec ℕ Global) (chunk' : Nursery) (buffer' : Entries) (reply : Reply) → IsWhole part v hand end h
      → IsPartOf (Cells' hand' end') (Slots' hs' st sh words'.items) chunk' buffer' part.lane k → DidOperation h k part.holders.items part.lane part.serial next op reply
      → IsWhole (record part { words = words'; chunk = chunk'; buffer = buffer'; serial = next }) v hand' end k
  whole-after h k hand' end' next hs' st sh words' chunk' buffer' reply w belongs did =
      let serials = w.stands.0 in
      let state = w.stands.1 in
      let means = w.stands.2 in
      let born = w.stands.3 in
      let none : NoneLater h.space h.chunks part.lane part.serial = subst (NoneLater h.space h.chunks part.lane) born (none-later h part.holders.items serials state means part.lane) in
      let same_end : end' ≡ end = belongs.space.end_is ∙ ap end_of did.leaves.space ∙ sym w.belongs.space.end_is in
      record {
        ready = next-ready h k part.holders.items part.lane part.serial next op reply w.ready did none;
        stands = (
          set serials part.lane next,
          (step state part.lane op).0,
          (did.step serials state means born).1,
          get_or-set_same serials part.lane next 0 (lane-serial h part.holders.items serials state part.lane means w.ready.lane_within),
        );
        belongs = record {
          space = pages-as sv v hand' hand' end' end k.space is_v refl same_end belongs.space;
          roots = slots-as shs _ slane _ sslots _ sshared _ sstarts _ words'.items _ k.roots is_hs is_lane is_slots is_shared is_starts refl belongs.roots.3;
          chunk_is = belongs.chunk_is;
          buffer_is = belongs.buffer_is;
        };
      }

-- the same part
pub part-same : (part : LanePart) (words' : Vec ℕ Global) (chunk' : Nursery) (buffer' : Entries) (serial' : ℕ) → words' ≡ part.words → chunk' ≡ part.chunk → buffer' ≡ part.buffer → serial' ≡ part.serial
    → record part { words = words'; chunk = chunk'; buffer = buffer'; serial = serial' } ≡ part
part-same part words' chunk' buffer' serial' ew ec eb en = λ i. record {
  lane = part.lane;
  holders = part.holders;
  domains = part.domains;
  slots = part.slots;
  starts = part.starts;
  words = ew i;
  shared = part.shared;
  chunk = ec i;
  buffer = eb i;
  serial = en i;
}
