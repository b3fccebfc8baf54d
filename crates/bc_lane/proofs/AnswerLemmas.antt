-- An operation of a lane, once its page is in hand.
use Rattle.std.proofs.Common.{◌≡◌, ◌≢◌, ◌⊎◌, ℕ, ◌/◌, ◌<◌, Bool, true, false, List, length, get_or, Option, Some, None, Result, Ok, Err, inl, inr, refl, ap, sym, subst, ◌∙◌}
use Rattle.std.proofs.lemmas.Bool.{cases_eq}
use Rattle.std.proofs.lemmas.Result.{IfOk-weaker, on_err_weaker}
use Rattle.std.specs.Result.{IfErr, IfOk, OnErr}
use Rattle.bc_lane.specs.declared.parts.LanePart.{LanePart}
use Rattle.bc_lane.specs.declared.stops.Stop.{Stop}
use Rattle.bc_lane.specs.declared.stops.Stop.TheVariants as stop
use Rattle.bc_lane.specs.Shown.{HasPage, IsOwnPage, ShowsPages}
use Rattle.bc_lane.specs.Turns.{DoesOne, HasInHand, InEachWhole, IsLaneSeat, IsLaneTable, IsFrozenOrOwn, IsRefusedFrozen, IsRefusedOwn, IsRefusedPage, IsWhole, LaneMayName, LeadsToPageWhere, LooksForeign, LooksOn, LooksOnIn, LooksReadable, LooksRightOn, LooksSealed, PassesBy, ReadsFrozenHeld, ReadsHeld, ReadsOn, SlotsOf, StaysWhole, StopsOp, holder_if}
use Rattle.bc_lane.proofs.ForeignLemmas.{foreign-looked, sealed-looked}
use Rattle.bc_lane.proofs.FrameLemmas.{frozen-since, gone-since, held-since, moved-since, no-frame-since}
use Rattle.bc_lane.proofs.HandLemmas.{hand-after}
use Rattle.bc_lane.proofs.LookLemmas.{looking-wants, touches-more}
use Rattle.bc_lane.proofs.RoleLemmas.{own-role, role-of}
use Rattle.bc_model.specs.declared.operations.Op.{Op}
use Rattle.bc_model.specs.declared.operations.Reply.{Reply}
use Rattle.bc_model.specs.declared.operations.Reply.TheVariants.{Foreign, Frozen}
use Rattle.bc_model.specs.State.{holder_of}
use Rattle.bc_model.specs.declared.values.Holder.{Holder}
use Rattle.bc_model.specs.declared.values.Holder.TheVariants as holder
use Rattle.bc_mutator.specs.Operations.{IsOpOf, WantsMore}
use Rattle.bc_mutator.specs.Parts.{TouchesHand, touched_slot}
use Rattle.bc_pins.specs.declared.holding.Held.{Held}
use Rattle.bc_pins.specs.declared.key.Role.{Role}
use Rattle.bc_pins.specs.declared.pins.Pins.{Pins}
use Rattle.bc_pins.specs.declared.pins.Seat.{Seat}
use Rattle.bc_pins.specs.declared.views.View.{View}
use Rattle.bc_pins.specs.Calls.{key_of, view_of}
use Rattle.bc_pins.specs.Key.{Key, owner, pages_of, role_number}
use Rattle.bc_pins.specs.Totals.{times}
use Rattle.bc_pins.specs.Views.{has_role}
use Rattle.bc_superpages.specs.Layout.{Layout}
use Rattle.bc_whole_heap.specs.Heaps.{HeapView}

-- a page of a domain that the lane holds is its seat's own
pub own-page : (pins : Pins) (hs : List Holder) (lane page : ℕ) (seat : Seat) (hand : Option Held) → IsLaneTable (key_of pins) hs → IsLaneSeat pins lane seat hand
    → get_or (key_of pins).opening.domains (page / 4) 0 < length hs → holder_of hs (get_or (key_of pins).opening.domains (page / 4) 0) ≡ holder.Lane lane → IsOwnPage (view_of seat) page
own-page pins hs lane page seat hand table seated within owned =
    let v : View = view_of seat in
    subst (λ (a : Key). 0 < has_role v (owner a page)) (sym seated.at.about)
    (subst (λ (r : ℕ). 0 < has_role v r) (sym (own-role (key_of pins) hs lane page table.owners within owned))
    (subst (λ (r : Role). 0 < has_role v (role_number r)) seated.role seated.at.role))

-- a page of a frozen domain is nobody's
frozen-page : (pins : Pins) (hs : List Holder) (lane page : ℕ) (seat : Seat) (hand : Option Held) → IsLaneTable (key_of pins) hs → IsLaneSeat pins lane seat hand
    → get_or (key_of pins).opening.domains (page / 4) 0 < length hs → holder_of hs (get_or (key_of pins).opening.domains (page / 4) 0) ≡ holder.Frozen → IsFrozenOrOwn (view_of seat) page true
frozen-page pins hs lane page seat hand table seated within owned =
    let is : owner (key_of pins) page ≡ 0 = role-of (key_of pins) hs holder.Frozen page table.owners within owned in
    subst (λ (a : Key). (owner a page ≡ 0) × (times (owner a page) a.roles ≡ 0)) (sym seated.at.about)
    (is, ap (λ (r : ℕ). times r (key_of pins).roles) is ∙ table.nobody)

pub page-of : (pins : Pins) (hs : List Holder) (lane page : ℕ) (frozen : Bool) (seat : Seat) (hand : Option Held) → IsLaneTable (key_of pins) hs → IsLaneSeat pins lane seat hand
    → get_or (key_of pins).opening.domains (page / 4) 0 < length hs → holder_of hs (get_or (key_of pins).opening.domains (page / 4) 0) ≡ holder_if frozen lane → IsFrozenOrOwn (view_of seat) page frozen
page-of pins hs lane page true seat hand table seated within owned = frozen-page pins hs lane page seat hand table seated within owned
page-of pins hs lane page false seat hand table seated within owned = own-page pins hs lane page seat hand table seated within owned

-- the same whole heaps, with another page in hand
pub whole-moved : (part : LanePart) (v w : View) (hand after : Option Held) (end : ℕ) (h : HeapView) → ((e : ℕ) → (s : Layout) → ShowsPages v hand e s → ShowsPages w after e s) → IsWhole part v hand end h → IsWhole part w after end h
whole-moved part v w hand after end h shows whole = record {
  ready = whole.ready;
  stands = whole.stands;
  belongs = record {
    space = shows end h.space whole.belongs.space;
    roots = whole.belongs.roots;
    chunk_is = whole.belongs.chunk_is;
    buffer_is = whole.belongs.buffer_is;
  };
}

-- what is looked at is in hand, if it lies on the page in hand or nowhere
pub touches-page : (part : LanePart) (end page : ℕ) (op : Op) (v : View) (hand : Option Held) → LeadsToPageWhere part end op (λ q. q ≡ page) → HasPage hand page
    → TouchesHand (ShowsPages v hand end) (SlotsOf part) (HasPage hand) (touched_slot op)
touches-page part end page op v hand leads has =
    touches-more (ShowsPages v hand end) (ShowsPages v hand end) (SlotsOf part) (SlotsOf part) (λ q. q ≡ page) (HasPage hand) (touched_slot op)
    (λ s shown. shown) (λ r shown. shown) (λ q e. subst (HasPage hand) (sym e) has) (leads v hand)

pub touches-none : (part : LanePart) (end : ℕ) (op : Op) (v : View) (hand : Option Held) → LeadsToPageWhere part end op (λ q. ⊥)
    → TouchesHand (ShowsPages v hand end) (SlotsOf part) (HasPage hand) (touched_slot op)
touches-none part end op v hand leads =
    touches-more (ShowsPages v hand end) (ShowsPages v hand end) (SlotsOf part) (SlotsOf part) (λ q. ⊥) (HasPage hand) (touched_slot op)
    (λ s shown. shown) (λ r shown. shown) (λ q never. absurd never) (leads v hand)

-- a page couldn't be brought
own-stops : (part : LanePart) (v w : View) (after : Option Held) (end page : ℕ) (op : Op) (why : Stop) → LooksOnIn part w after end op page → IsRefusedOwn v w page why → StopsOp v part w after end op why
own-stops part v w after end page op why looks refused = elim refused [
  | inl busy ↦ subst (StopsOp v part w after end op) (sym busy.0) (inl busy.1, looks)
  | inr none ↦ subst (StopsOp v part w after end op) (sym none.0) (page, none.1, looks)
]

frozen-stops : (part : LanePart) (v w : View) (after : Option Held) (end page : ℕ) (op : Op) (why : Stop) → LooksOnIn part w after end op page → IsRefusedFrozen v w page why → StopsOp v part w after end op why
frozen-stops part v w after end page op why looks refused = elim refused [
  | inl busy ↦ subst (StopsOp v part w after end op) (sym busy.0) (inr busy.1, looks)
  | inr away ↦ elim away [
    | inl gone ↦ subst (StopsOp v part w after end op) (sym gone.0) (gone.1, looks)
    | inr moved ↦ subst (StopsOp v part w after end op) (sym moved.0) (moved.1, looks)
  ]
]

pub refused-stops : (part : LanePart) (k : Key) (v w : View) (after : Option Held) (end page : ℕ) (op : Op) (who : Holder) (why : Stop) → w.about ≡ k → LooksReadable part k end op who page → IsRefusedPage v w page why → StopsOp v part w after end op why
refused-stops part k v w after end page op who why about looks refused =
    let here : LooksOnIn part w after end op page = λ h whole fits. looks.looks w after h about whole fits in
    elim refused [
      | inl own ↦ own-stops part v w after end page op why here own
      | inr frozen ↦ frozen-stops part v w after end page op why here frozen
    ]

-- the page that was brought is the one on which the operation looks
pub brought-looked : (part : LanePart) (k : Key) (v w : View) (hand : Option Held) (end page : ℕ) (op : Op) (who : Holder) → v.about ≡ k → LooksReadable part k end op who page → ((q : ℕ) → q < pages_of v.about → q ≢ page → PassesBy v w q)
    → (q : ℕ) → q < pages_of v.about → PassesBy v w q ⊎ LooksOnIn part v hand end op q
brought-looked part k v w hand end page op who about looks passes q near = elim (cases_eq q page) [
  | inl is ↦ inr (λ h whole fits. subst (LooksRightOn part.holders.items part.lane h op) (sym is) (looks.looks v hand h about whole fits))
  | inr ne ↦ inl (passes q near ne)
]

-- why an operation isn't done, said since an earlier view
busy-since : (u v w : View) (page : ℕ) → ReadsOn u v → ReadsHeld v w page ⊎ ReadsFrozenHeld v w page → ReadsHeld u w page ⊎ ReadsFrozenHeld u w page
busy-since u v w page reads (inl held) = inl (held-since u v w page reads held)
busy-since u v w page reads (inr held) = inr (frozen-since u v w page reads held)

pub stops-since : (u v : View) (part : LanePart) (w : View) (hand : Option Held) (end : ℕ) (op : Op) (why : Stop) → ReadsOn u v → StopsOp v part w hand end op why → StopsOp u part w hand end op why
stops-since u v part w hand end op stop.End reads stops = stops
stops-since u v part w hand end op stop.NurseryFull reads stops = stops
stops-since u v part w hand end op stop.BufferFull reads stops = stops
stops-since u v part w hand end op (stop.Busy page) reads stops = (busy-since u v w page reads stops.0, stops.1)
stops-since u v part w hand end op stop.NoFrame reads stops = (stops.0, no-frame-since u v w stops.0 reads stops.1, stops.2)
stops-since u v part w hand end op (stop.Gone page) reads stops = (gone-since u v w page reads stops.0, stops.1)
stops-since u v part w hand end op (stop.Moved page) reads stops = (moved-since u v w page reads stops.0, stops.1)

-- an operation that looks at an object wants no room in the chunk
pub own-wants : (part : LanePart) (h : HeapView) (words page : ℕ) (op : Op) → LooksOn h op page → WantsMore part.holders.items part.lane words op → ⊥
own-wants part h words page op looks wants = looking-wants h.roots part.holders.items part.lane words op looks.0 looks.1 wants

pub foreign-wants : (part : LanePart) (h : HeapView) (words : ℕ) (op : Op) → LooksForeign h part.holders.items part.lane op → WantsMore part.holders.items part.lane words op → ⊥
foreign-wants part h words op looks wants = looking-wants h.roots part.holders.items part.lane words op looks.at looks.looks wants

-- a cell of another lane's is looked at
pub foreign-does : (part : LanePart) (k : Key) (v : View) (hand : Option Held) (end : ℕ) (op : Op) → v.about ≡ k → LaneMayName part op → InEachWhole part k end op (λ h. LooksForeign h part.holders.items part.lane op)
    → DoesOne part v hand part v hand end op Foreign
foreign-does part k v hand end op about named looks = λ h whole fits.
    (h, whole, foreign-looked h part.holders.items part.lane part.serial op whole.ready named (looks v hand h about whole fits))

-- or one of a frozen domain would be written
pub sealed-does : (part : LanePart) (k : Key) (v : View) (hand : Option Held) (end : ℕ) (op : Op) → v.about ≡ k → LaneMayName part op → InEachWhole part k end op (λ h. LooksSealed h part.holders.items op)
    → DoesOne part v hand part v hand end op Frozen
sealed-does part k v hand end op about named looks = λ h whole fits.
    (h, whole, sealed-looked h part.holders.items part.lane part.serial op whole.ready named (looks v hand h about whole fits))

pub sealed-wants : (part : LanePart) (h : HeapView) (words : ℕ) (op : Op) → LooksSealed h part.holders.items op → WantsMore part.holders.items part.lane words op → ⊥
sealed-wants part h words op looks wants = looking-wants h.roots part.holders.items part.lane words op looks.at looks.looks wants

-- what an operation over the page in hand makes of it
module _ (part new : LanePart) (seat : Seat) (hand after : Option Held) (end : ℕ) (op : Op) (result : Result Reply Stop)
    (done : IfOk result (λ reply. DoesOne part (view_of seat) hand new (view_of seat) after end op reply)) (still : OnErr result ((new ≡ part) × (after ≡ hand))) where
  either : (A : Type 0) (r : Result Reply Stop) → IfOk r (λ reply. A) → OnErr r A → A
  either A (Ok reply) ok err = ok
  either A (Err why) ok err = err

  pub hands-operated : (h : HeapView) → IsWhole part (view_of seat) hand end h → IsOpOf h.roots op → HasInHand seat hand → ((p : ℕ) → HasPage hand p → HasPage after p) → HasInHand seat after
  hands-operated h whole fits has pages =
      either (HasInHand seat after) result
      (IfOk-weaker result _ _ (λ reply does. let k = does h whole fits in hand-after seat hand after end k.0.space has pages k.1.belongs.space) done)
      (on_err_weaker result (λ same. subst (HasInHand seat) (sym same.1) has) still)

  -- which was brought before
  pub does-brought : (v : View) (first : Option Held) → ((e : ℕ) → (s : Layout) → ShowsPages v first e s → ShowsPages (view_of seat) hand e s)
      → IfOk result (λ reply. DoesOne part v first new (view_of seat) after end op reply)
  does-brought v first shows =
      IfOk-weaker result _ _ (λ reply does h whole fits. does h (whole-moved part v (view_of seat) first hand end h shows whole) fits) done

  pub stays-brought : (v : View) (first : Option Held) → ((e : ℕ) → (s : Layout) → ShowsPages v first e s → ShowsPages (view_of seat) hand e s)
      → OnErr result (StaysWhole part v first new (view_of seat) after end)
  stays-brought v first shows =
      on_err_weaker result
      (λ same. (same.0, λ h whole. subst (λ (x : Option Held). IsWhole part (view_of seat) x end h) (sym same.1) (whole-moved part v (view_of seat) first hand end h shows whole)))
      still

  pub stops-operated : (v : View) → ReadsOn v (view_of seat) → IfErr result (λ why. StopsOp (view_of seat) part (view_of seat) hand end op why) → IfErr result (λ why. StopsOp v new (view_of seat) after end op why)
  stops-operated v reads why = go result why still
    where
      go : (r : Result Reply Stop) → IfErr r (λ w. StopsOp (view_of seat) part (view_of seat) hand end op w) → OnErr r ((new ≡ part) × (after ≡ hand)) → IfErr r (λ w. StopsOp v new (view_of seat) after end op w)
      go (Ok reply) stops same = tt
      go (Err w) stops same =
          stops-since v (view_of seat) new (view_of seat) after end op w reads
          (subst (λ (p : LanePart). StopsOp (view_of seat) p (view_of seat) after end op w) (sym same.0)
          (subst (λ (x : Option Held). StopsOp (view_of seat) part (view_of seat) x end op w) (sym same.1) stops))

-- what the lane has belongs to some whole heap after an operation, done or not
pub either-whole : (part new : LanePart) (v w : View) (hand after : Option Held) (end : ℕ) (op : Op) (r : Result Reply Stop) → IfOk r (λ reply. DoesOne part v hand new w after end op reply) → OnErr r (StaysWhole part v hand new w after end)
    → (h : HeapView) → IsWhole part v hand end h → IsOpOf h.roots op → (k : HeapView) × IsWhole new w after end k
either-whole part new v w hand after end op (Ok reply) done still h whole fits = let k = done h whole fits in (k.0, k.1)
either-whole part new v w hand after end op (Err why) done still h whole fits =
    (h, subst (λ (p : LanePart). IsWhole p w after end h) (sym still.0) (still.1 h whole))

-- a page of a frozen domain is put back: nothing of it is recorded
pub frozen-unchanged : (pins : Pins) (hs : List Holder) (lane page : ℕ) (a b : Seat) (hand : Option Held) → IsLaneTable (key_of pins) hs → IsLaneSeat pins lane a hand
    → get_or (key_of pins).opening.domains (page / 4) 0 < length hs → holder_of hs (get_or (key_of pins).opening.domains (page / 4) 0) ≡ holder.Frozen → ((q : ℕ) → HasPage hand q → q ≡ page)
    → ((held : Held) → hand ≡ Some held → has_role (view_of a) (owner (view_of a).about held.page) ≡ 0 → (view_of b).changed ≡ (view_of a).changed) → ((view_of a).hand ≡ None → b ≡ a) → (view_of b).changed ≡ (view_of a).changed
frozen-unchanged pins hs lane page a b None table seated within owned only foreign idle = ap (λ (x : Seat). (view_of x).changed) (idle seated.hands.hand)
frozen-unchanged pins hs lane page a b (Some held) table seated within owned only foreign idle =
    let is = (frozen-page pins hs lane page a (Some held) table seated within owned).0 in
    let none : owner (view_of a).about held.page ≡ 0 = ap (owner (view_of a).about) (only held.page refl) ∙ is in
    foreign held refl (ap (has_role (view_of a)) none ∙ seated.somebody)
