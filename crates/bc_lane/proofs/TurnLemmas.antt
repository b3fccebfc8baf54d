-- A lane's turn, from operation to operation and to its end.
use Rattle.std.proofs.Common.{◌≡◌, ◌⊎◌, ℕ, ◌+◌, ◌-◌, ◌*◌, ◌^◌, ◌<◌, List, [], ◌∷◌, ◌++◌, length, get_or, Option, None, Result, Err, Vec, Global, vec_capacity, inl, inr, refl, ap, sym, subst, ◌∙◌, arith}
use Rattle.std.proofs.lemmas.List.{get_or_default}
use Rattle.std.specs.List.{AllByRecursion}
use Rattle.bc_lane.specs.Shown.{ShowsPages}
use Rattle.bc_lane.specs.Turns.{DoesOne, FindsNoFrameFor, FindsNoWayBack, IsGoing, IsLaidDown, IsLaneSeat, IsLaneTable, IsNextOp, IsWhole, LaneRan, LooksNext, LooksOnIn, PassesBy, PutsBack, ReadsFrozenGone, ReadsFrozenHeld, ReadsFrozenMoved, ReadsHeld, ReadsOn, SamePart, StaysWhole, StopsOp, WhyStopped}
use Rattle.bc_lane.specs.declared.parts.LanePart.{LanePart}
use Rattle.bc_lane.specs.declared.stops.Stop.{Stop}
use Rattle.bc_lane.specs.declared.stops.Stop.TheVariants as stop
use Rattle.bc_lane.specs.declared.turns.LaneTurn.{LaneTurn}
use Rattle.bc_lane.proofs.AnswerLemmas.{stops-since, whole-moved}
use Rattle.bc_lane.proofs.RunLemmas.{one-birth, ran-more, ran-none, ran-stopped}
use Rattle.bc_model.specs.declared.operations.Op.{Op}
use Rattle.bc_model.specs.declared.operations.Reply.{Reply}
use Rattle.bc_model.specs.declared.values.Holder.{Holder}
use Rattle.bc_mutator.specs.Operations.{IsOpOf, WantsMore}
use Rattle.bc_nursery.specs.Objects.{left_of}
use Rattle.bc_pins.specs.declared.holding.Held.{Held}
use Rattle.bc_pins.specs.declared.pins.Pins.{Pins}
use Rattle.bc_pins.specs.declared.pins.Seat.{Seat}
use Rattle.bc_pins.specs.declared.views.View.{View}
use Rattle.bc_pins.specs.Calls.{key_of, view_of}
use Rattle.bc_pins.specs.Key.{Key, owner, pages_of}
use Rattle.bc_pins.specs.Totals.{times}
use Rattle.bc_superpages.specs.Layout.{Layout, superpages}
use Rattle.bc_whole_heap.specs.Heaps.{HeapView, end_of}

-- what the turn rests on stays
pub going-on : (pins : Pins) (ops : List Op) (old new : LaneTurn) (seat after : Seat) (hand last : Option Held) → IsGoing pins ops old seat hand → SamePart old.part new.part → IsLaneSeat pins old.part.lane after last → new.count ≡ old.count
    → new.part.serial + (length ops - new.next) < 2 ^ 32 → IsGoing pins ops new after last
going-on pins ops old new seat after hand last going same seated count births = record {
  table = subst (λ (hs : Vec Holder Global). IsLaneTable (key_of pins) hs.items) (sym same.holders) going.table;
  seated = subst (λ (l : ℕ). IsLaneSeat pins l after last) (sym same.lane) seated;
  few = subst (λ (l : ℕ). l < 16) (sym same.lane) going.few;
  count = going.count ∙ sym count;
  births = births;
}

-- where a lane stops before an operation that there is, for a reason that is said of the operation alone
pub stopped-at : (u : View) (ops : List Op) (end : ℕ) (turn : LaneTurn) (v : View) (hand : Option Held) (op : Op) (why : Stop) → turn.next < length ops → op ≡ get_or ops turn.next op → StopsOp u turn.part v hand end op why → WhyStopped u ops end turn v hand why
stopped-at u ops end turn v hand op why less is stops = inr (op, less, is, stops)

-- and read since an earlier view
pub why-since : (u v : View) (ops : List Op) (end : ℕ) (turn : LaneTurn) (w : View) (hand : Option Held) (why : Stop) → ReadsOn u v → WhyStopped v ops end turn w hand why → WhyStopped u ops end turn w hand why
why-since u v ops end turn w hand why reads is = elim is [
  | inl done ↦ inl done
  | inr next ↦ inr (next.0, next.1, next.2, stops-since u v turn.part w hand end next.0 why reads next.3)
]

-- the end of the superpages is that of each whole heap
pub same-end : (part : LanePart) (v : View) (hand : Option Held) (k : Key) (e end : ℕ) (h : HeapView) → v.about ≡ k → IsWhole part v hand e h → end ≡ 2048 * superpages k.opening → end ≡ end_of h.space
same-end part v hand k e end h about w is =
    is ∙ ap (λ (a : Key). 2048 * superpages a.opening) (sym about) ∙ sym (ap end_of w.belongs.space.same)

-- the page in hand is put back at the end: the reason is the same
held-laid : (u v w : View) (page : ℕ) → IsLaidDown v w → ReadsHeld u v page → ReadsHeld u w page
held-laid u v w page laid held = record {
  last = (held.last.0, ap (λ (x : View). x.read) laid ∙ held.last.1);
  since = subst (λ (l : List (ℕ × ℕ)). length u.read < length l) (sym (ap (λ (x : View). x.read) laid)) held.since;
  noted = subst (λ (l : List ℕ). 0 < times page l) (sym (ap (λ (x : View). x.busy) laid)) held.noted;
}

frozen-laid : (u v w : View) (page : ℕ) → IsLaidDown v w → ReadsFrozenHeld u v page → ReadsFrozenHeld u w page
frozen-laid u v w page laid held = record {
  frozen = ap (λ (x : View). owner x.about page) laid ∙ held.frozen;
  last = (held.last.0, ap (λ (x : View). x.read) laid ∙ held.last.1);
  since = subst (λ (l : List (ℕ × ℕ)). length u.read < length l) (sym (ap (λ (x : View). x.read) laid)) held.since;
}

gone-laid : (u v w : View) (page : ℕ) → IsLaidDown v w → ReadsFrozenGone u v page → ReadsFrozenGone u w page
gone-laid u v w page laid gone = record {
  frozen = ap (λ (x : View). owner x.about page) laid ∙ gone.frozen;
  before = gone.before;
  later = gone.later;
  gone = ap (λ (x : View). x.read) laid ∙ gone.gone;
  since = subst (λ (k : Key). FindsNoWayBack k page gone.later) (sym (ap (λ (x : View). x.about) laid)) gone.since;
}

moved-laid : (u v w : View) (page : ℕ) → IsLaidDown v w → ReadsFrozenMoved u v page → ReadsFrozenMoved u w page
moved-laid u v w page laid moved = record {
  frozen = ap (λ (x : View). owner x.about page) laid ∙ moved.frozen;
  before = moved.before;
  between = moved.between;
  later = moved.later;
  reads = ap (λ (x : View). x.read) laid ∙ moved.reads;
  once = moved.once;
}

busy-laid : (u v w : View) (page : ℕ) → IsLaidDown v w → ReadsHeld u v page ⊎ ReadsFrozenHeld u v page → ReadsHeld u w page ⊎ ReadsFrozenHeld u w page
busy-laid u v w page laid (inl held) = inl (held-laid u v w page laid held)
busy-laid u v w page laid (inr held) = inr (frozen-laid u v w page laid held)

-- where no frame was found none is in hand, so nothing changed
no-frame-laid : (u v w : View) (page : ℕ) → (v.hand ≡ None → w ≡ v) → FindsNoFrameFor u v page → FindsNoFrameFor u w page
no-frame-laid u v w page idle f = subst (λ (x : View). FindsNoFrameFor u x page) (sym (idle (ap (λ (x : View). x.hand) f.none.view ∙ f.hands))) f

pub stops-laid : (u : View) (part : LanePart) (v w : View) (hand : Option Held) (end : ℕ) (op : Op) (why : Stop) → IsLaidDown v w → (v.hand ≡ None → w ≡ v) → ((e : ℕ) → (s : Layout) → ShowsPages w None e s → ShowsPages v hand e s) → StopsOp u part v hand end op why → StopsOp u part w None end op why
stops-laid u part v w hand end op stop.End laid idle back stops = absurd stops
stops-laid u part v w hand end op stop.NurseryFull laid idle back stops = stops
stops-laid u part v w hand end op stop.BufferFull laid idle back stops = λ h whole fits. stops h (whole-moved part w v None hand end h back whole) fits
stops-laid u part v w hand end op (stop.Busy page) laid idle back stops = (busy-laid u v w page laid stops.0, λ h whole fits. stops.1 h (whole-moved part w v None hand end h back whole) fits)
stops-laid u part v w hand end op stop.NoFrame laid idle back stops = (stops.0, no-frame-laid u v w stops.0 idle stops.1, λ h whole fits. stops.2 h (whole-moved part w v None hand end h back whole) fits)
stops-laid u part v w hand end op (stop.Gone page) laid idle back stops = (gone-laid u v w page laid stops.0, λ h whole fits. stops.1 h (whole-moved part w v None hand end h back whole) fits)
stops-laid u part v w hand end op (stop.Moved page) laid idle back stops = (moved-laid u v w page laid stops.0, λ h whole fits. stops.1 h (whole-moved part w v None hand end h back whole) fits)

pub why-laid : (u : View) (ops : List Op) (turn : LaneTurn) (v w : View) (hand : Option Held) (end : ℕ) (why : Stop) → IsLaidDown v w → (v.hand ≡ None → w ≡ v) → ((e : ℕ) → (s : Layout) → ShowsPages w None e s → ShowsPages v hand e s) → WhyStopped u ops end turn v hand why → WhyStopped u ops end turn w None why
why-laid u ops turn v w hand end why laid idle back is = elim is [
  | inl done ↦ inl done
  | inr next ↦ inr (next.0, next.1, next.2, stops-laid u turn.part v w hand end next.0 why laid idle back next.3)
]

pub ran-laid : (ops : List Op) (end : ℕ) (old new : LaneTurn) (v w x : View) (hand after : Option Held) → LaneRan ops end old v hand new w after → ReadsOn w x → ((q : ℕ) → PassesBy w x q) → PutsBack w after x → ((e : ℕ) → (s : Layout) → ShowsPages w after e s → ShowsPages x None e s) → LaneRan ops end old v hand new x None
ran-laid ops end old new v w x hand after ran reads passes puts shows =
    ran-stopped ops end old new new v w x hand after None ran refl refl refl refl reads (λ q near. inl (passes q)) puts (λ h whole. whole-moved new.part w x after None end h shows whole)

-- the operation that looks at a page is the next one
looks-here : (ops : List Op) (end : ℕ) (turn : LaneTurn) (v w : View) (hand : Option Held) (op : Op) (q : ℕ) → turn.next < length ops → op ≡ get_or ops turn.next op → PassesBy v w q ⊎ LooksOnIn turn.part v hand end op q
    → PassesBy v w q ⊎ LooksNext ops end turn v hand q
looks-here ops end turn v w hand op q less is looked = elim looked [
  | inl passes ↦ inl passes
  | inr looks ↦ inr (op, less, is, looks)
]

-- an operation was done and its reply kept
module _ (pins : Pins) (ops : List Op) (end : ℕ) (turn new : LaneTurn) (part : LanePart) (seat after : Seat) (hand last : Option Held) (op : Op) (reply : Reply)
    (going : IsGoing pins ops turn seat hand) (h : HeapView) (w : IsWhole turn.part (view_of seat) hand end h) (fits : AllByRecursion (IsOpOf h.roots) ops) (less : turn.next < length ops) (is : op ≡ get_or ops turn.next op)
    (same : SamePart turn.part part) (seated : IsLaneSeat pins turn.part.lane after last) (reads : ReadsOn (view_of seat) (view_of after))
    (does : DoesOne turn.part (view_of seat) hand part (view_of after) last end op reply) (part_is : new.part ≡ part) (next : new.next ≡ turn.next + 1) (count : new.count ≡ turn.count)
    (kept : new.replies.items ≡ turn.replies.items ++ reply ∷ []) (room : vec_capacity new.replies ≡ vec_capacity turn.replies)
    (looked : (q : ℕ) → q < pages_of (view_of seat).about → PassesBy (view_of seat) (view_of after) q ⊎ LooksOnIn turn.part (view_of seat) hand end op q) (puts : PutsBack (view_of seat) hand (view_of after)) where
  does-new : DoesOne turn.part (view_of seat) hand new.part (view_of after) last end op reply
  does-new = subst (λ (p : LanePart). DoesOne turn.part (view_of seat) hand p (view_of after) last end op reply) (sym part_is) does

  same-new : SamePart turn.part new.part
  same-new = subst (λ (p : LanePart). SamePart turn.part p) (sym part_is) same

  next-looked : (q : ℕ) → q < pages_of (view_of seat).about → PassesBy (view_of seat) (view_of after) q ⊎ LooksNext ops end turn (view_of seat) hand q
  next-looked q near = looks-here ops end turn (view_of seat) (view_of after) hand op q less is (looked q near)

  none : LaneRan ops end turn (view_of seat) hand turn (view_of seat) hand
  none = ran-none ops end turn (view_of seat) hand

  pub advanced-ran : LaneRan ops end turn (view_of seat) hand new (view_of after) last
  advanced-ran =
      ran-more ops end turn turn new (view_of seat) (view_of seat) (view_of after) hand hand last op reply none h w fits less is does-new same-new next count kept room reads next-looked puts

  pub advanced-going : IsGoing pins ops new after last
  advanced-going =
      let few = one-birth ops end turn turn new (view_of seat) (view_of seat) (view_of after) hand hand last op reply none h w fits less is does-new same-new next count kept room reads next-looked puts in
      let births = going.births in
      going-on pins ops turn new seat after hand last going same-new seated count (omega arith)

-- or it stopped
module _ (pins : Pins) (ops : List Op) (end : ℕ) (turn new : LaneTurn) (part : LanePart) (seat after : Seat) (hand last : Option Held) (going : IsGoing pins ops turn seat hand) (less : turn.next < length ops)
    (same : SamePart turn.part part) (seated : IsLaneSeat pins turn.part.lane after last) (reads : ReadsOn (view_of seat) (view_of after))
    (still : StaysWhole turn.part (view_of seat) hand part (view_of after) last end) (puts : PutsBack (view_of seat) hand (view_of after))
    (part_is : new.part ≡ part) (next : new.next ≡ turn.next) (count : new.count ≡ turn.count) (kept : new.replies ≡ turn.replies) where
  stayed-part : new.part ≡ turn.part
  stayed-part = part_is ∙ still.0

  pub stayed-ran : (op : Op) → op ≡ get_or ops turn.next op → ((q : ℕ) → q < pages_of (view_of seat).about → PassesBy (view_of seat) (view_of after) q ⊎ LooksOnIn turn.part (view_of seat) hand end op q)
      → LaneRan ops end turn (view_of seat) hand new (view_of after) last
  stayed-ran op is looked =
      ran-stopped ops end turn turn new (view_of seat) (view_of seat) (view_of after) hand hand last (ran-none ops end turn (view_of seat) hand)
      stayed-part next count kept reads (λ q near. looks-here ops end turn (view_of seat) (view_of after) hand op q less is (looked q near)) puts still.1

  pub stayed-going : IsGoing pins ops new after last
  stayed-going =
      let births = going.births in
      let serial = ap (λ (p : LanePart). p.serial) stayed-part in
      going-on pins ops turn new seat after hand last going (subst (λ (p : LanePart). SamePart turn.part p) (sym part_is) same) seated count (omega arith)

  pub stayed-why : (op : Op) (why : Stop) → op ≡ get_or ops turn.next op → StopsOp (view_of seat) part (view_of after) last end op why → WhyStopped (view_of seat) ops end new (view_of after) last why
  stayed-why op why is stops =
      stopped-at (view_of seat) ops end new (view_of after) last op why (subst (λ (n : ℕ). n < length ops) (sym next) less) (subst (λ (n : ℕ). op ≡ get_or ops n op) (sym next) is)
      (subst (λ (p : LanePart). StopsOp (view_of seat) p (view_of after) last end op why) (sym part_is) stops)

  pub stayed-nursery : (op : Op) (why : Stop) → op ≡ get_or ops turn.next op → (WantsMore turn.part.holders.items turn.part.lane (left_of turn.part.chunk) op → why ≡ stop.NurseryFull)
      → IsNextOp ops new.next (λ o. WantsMore new.part.holders.items new.part.lane (left_of new.part.chunk) o) → why ≡ stop.NurseryFull
  stayed-nursery op why is full more =
      let at : more.0 ≡ get_or ops turn.next more.0 = subst (λ (n : ℕ). more.0 ≡ get_or ops n more.0) next more.2 in
      let same_op : more.0 ≡ op = at ∙ get_or_default ops turn.next more.0 op less ∙ sym is in
      full (subst (λ (p : LanePart). WantsMore p.holders.items p.lane (left_of p.chunk) op) stayed-part (subst (λ (o : Op). WantsMore new.part.holders.items new.part.lane (left_of new.part.chunk) o) same_op more.3))

pub one-why : (r : Result Reply Stop) (a b : Stop) → r ≡ Err a → r ≡ Err b → a ≡ b
one-why r a b x y = cc

pub op-default : (ops : List Op) (n : ℕ) (d : Op) → n < length ops → get_or ops n d ≡ get_or ops n (get_or ops n d)
op-default ops n d less = get_or_default ops n d (get_or ops n d) less
