-- Operations of a lane, one more after those that were done.
use Rattle.std.proofs.Common.{◌≡◌, ◌⊎◌, ℕ, ◌+◌, ◌<◌, ◌≤◌, List, [], ◌∷◌, ◌++◌, length, get_or, take, drop, Option, Some, None, Vec, Global, vec_capacity, inl, inr, refl, ap, sym, subst, ◌∙◌, arith, append_assoc, length-append, length-drop}
use Rattle.std.proofs.Math.Seq.{take-append-add, take-length}
use Rattle.std.proofs.lemmas.List.{drop-drop, drop-take, get_or-drop, take-append-drop, take-append-le, take-take, take_more}
use Rattle.std.specs.List.{AllByRecursion}
use Rattle.bc_lane.specs.Doing.{DidAll}
use Rattle.bc_lane.specs.Shown.{ShowsPages}
use Rattle.bc_lane.specs.Turns.{ComesInRun, DoesOne, HadInRun, IsInHandAs, IsPutBack, IsWhole, LaneRan, LooksInRun, LooksNext, LooksRightOn, PassesBy, PutsBack, ReadsOn, SamePart, SameSizes}
use Rattle.bc_lane.specs.declared.parts.LanePart.{LanePart}
use Rattle.bc_lane.specs.declared.turns.LaneTurn.{LaneTurn}
use Rattle.bc_lane.proofs.HandLemmas.{none-reads, then-reads}
use Rattle.bc_lane.proofs.PageLemmas.{held-in}
use Rattle.bc_lane.proofs.PassLemmas.{none-passes, passes-on}
use Rattle.bc_lane.proofs.WholeLemmas.{births-step}
use Rattle.bc_model.proofs.Runs.{at-index}
use Rattle.bc_model.specs.WellFormed.{IsOp}
use Rattle.bc_model.specs.declared.operations.Op.{Op}
use Rattle.bc_model.specs.declared.operations.Reply.{Reply}
use Rattle.bc_model.specs.declared.traces.Setup.{Setup}
use Rattle.bc_model.specs.declared.values.Holder.{Holder}
use Rattle.bc_mutator.specs.Effects.{DidOperation}
use Rattle.bc_mutator.specs.Operations.{IsOpOf}
use Rattle.bc_pins.specs.declared.holding.Held.{Held}
use Rattle.bc_pins.specs.declared.views.View.{View}
use Rattle.bc_pins.specs.Key.{Key, pages_of}
use Rattle.bc_superpages.specs.Layout.{Layout, content_at}
use Rattle.bc_superpages.specs.RootWords.{RootWords}
use Rattle.bc_whole_heap.specs.Heaps.{HeapView}

-- one operation more
pub did-more : (hs : List Holder) (lane : ℕ) (ops : List Op) (replies : List Reply) (op : Op) (reply : Reply) (h m k : HeapView) (s n t : ℕ) → DidAll hs lane ops replies h s m n → DidOperation m k hs lane n t op reply → DidAll hs lane (ops ++ op ∷ []) (replies ++ reply ∷ []) h s k t
did-more hs lane [] [] op reply h m k s n t all did =
    (k, t, subst (λ (x : HeapView). DidOperation x k hs lane s t op reply) all.0 (subst (λ (x : ℕ). DidOperation m k hs lane x t op reply) all.1 did), (refl, refl))
did-more hs lane [] (r ∷ rs) op reply h m k s n t all did = absurd all
did-more hs lane (o ∷ ops) [] op reply h m k s n t all did = absurd all
did-more hs lane (o ∷ ops) (r ∷ rs) op reply h m k s n t all did =
    (all.0, all.1, all.2, did-more hs lane ops rs op reply all.0 m k all.1 n t all.3 did)

-- the next operation of the list
next-op : (ops : List Op) (from count : ℕ) (op : Op) → from + count < length ops → op ≡ get_or ops (from + count) op → take (count + 1) (drop from ops) ≡ take count (drop from ops) ++ op ∷ []
next-op ops from count op less is =
    let long = length-drop from ops in
    take_more (drop from ops) count op (omega arith) ∙ ap (λ (x : Op). take count (drop from ops) ++ x ∷ []) (get_or-drop from ops count op ∙ sym is)

abbrev sized : ℕ → ℕ → Setup
sized d w = record { lanes = 0; domains = d; slots = w; superpages = 0; nursery = 0; buffer = 0; frames = 0 }

-- it fits every heap of these sizes
fits-same : (h k : HeapView) (op : Op) → SameSizes h k → IsOpOf h.roots op → IsOpOf k.roots op
fits-same h k op same fits =
    subst (λ (n : ℕ). IsOp (sized n k.roots.slots) op) (sym same.domains) (subst (λ (n : ℕ). IsOp (sized h.roots.domains n) op) (sym same.slots) fits)

sizes-more : (h m k : HeapView) (hs : List Holder) (lane s t : ℕ) (op : Op) (reply : Reply) → SameSizes h m → DidOperation m k hs lane s t op reply → SameSizes h k
sizes-more h m k hs lane s t op reply same did = record {
  domains = ap (λ (r : RootWords). r.domains) did.leaves.roots ∙ same.domains;
  slots = ap (λ (r : RootWords). r.slots) did.leaves.roots ∙ same.slots;
}

pub same-part : (a b c : LanePart) → SamePart a b → SamePart b c → SamePart a c
same-part a b c x y = record {
  lane = y.lane ∙ x.lane;
  holders = y.holders ∙ x.holders;
  domains = y.domains ∙ x.domains;
  slots = y.slots ∙ x.slots;
  starts = y.starts ∙ x.starts;
  shared = y.shared ∙ x.shared;
}

-- a heap that comes in a run comes in a longer one
comes-longer : (ops : List Op) (end : ℕ) (old : LaneTurn) (v : View) (hand : Option Held) (replies more : List Reply) (before : ℕ) (P : HeapView → Type 0) → ComesInRun ops end old v hand replies before P → ComesInRun ops end old v hand (replies ++ more) before P
comes-longer ops end old v hand replies more before P l =
    let long = length-append replies more in
    record {
      within = (let within = l.within in omega arith);
      comes = λ h wh fits.
          let k = l.comes h wh fits in (
            k.0,
            k.1,
            subst (λ (rs : List Reply). DidAll old.part.holders.items old.part.lane (take before (drop old.next ops)) rs h old.part.serial k.0 k.1) (sym (take-append-le before replies more l.within)) k.2,
            k.3,
          );
    }

-- the heap after all operations of a run comes in it
comes-last : (ops : List Op) (end : ℕ) (old cur : LaneTurn) (v w : View) (hand after : Option Held) (P : HeapView → Type 0) (ran : LaneRan ops end old v hand cur w after)
    → ((h m : HeapView) → AllByRecursion (IsOpOf h.roots) ops → IsWhole cur.part w after end m → SameSizes h m → P m) → ComesInRun ops end old v hand ran.replies (length ran.replies) P
comes-last ops end old cur v w hand after P ran holds = record {
  within = omega arith;
  comes = λ h wh fits.
      let m = ran.done h wh fits in (
        m.0,
        cur.part.serial,
        subst (λ (rs : List Reply). DidAll old.part.holders.items old.part.lane (take (length ran.replies) (drop old.next ops)) rs h old.part.serial m.0 cur.part.serial) (sym (take-length ran.replies)) m.3,
        holds h m.0 fits m.1 m.2,
      );
}

-- an operation that looks at a page is among more operations
looks-longer : (ops : List Op) (end : ℕ) (old : LaneTurn) (v : View) (hand : Option Held) (replies more : List Reply) (page : ℕ) → LooksInRun ops end old v hand replies page → LooksInRun ops end old v hand (replies ++ more) page
looks-longer ops end old v hand replies more page l =
    record { before = l.before; op = l.op; less = l.less; is = l.is; run = comes-longer ops end old v hand replies more l.before (λ k. LooksRightOn old.part.holders.items old.part.lane k l.op page) l.run }

-- and a content that a page had
had-longer : (ops : List Op) (end : ℕ) (old : LaneTurn) (v : View) (hand : Option Held) (replies more : List Reply) (page : ℕ) (content : List ℕ) → HadInRun ops end old v hand replies page content → HadInRun ops end old v hand (replies ++ more) page content
had-longer ops end old v hand replies more page content l =
    record { before = l.before; run = comes-longer ops end old v hand replies more l.before (λ k. content_at k.space.pages page ≡ content) l.run }

-- a lane is that lane still
right-on : (old new : LanePart) (h : HeapView) (op : Op) (page : ℕ) → SamePart old new → LooksRightOn new.holders.items new.lane h op page → LooksRightOn old.holders.items old.lane h op page
right-on old new h op page same looks =
    subst (λ (l : ℕ). LooksRightOn old.holders.items l h op page) same.lane
    (subst (λ (hs : Vec Holder Global). LooksRightOn hs.items new.lane h op page) same.holders looks)

-- the next operation after those that were done looks at it
looks-next : (ops : List Op) (end : ℕ) (old cur : LaneTurn) (v w : View) (hand after : Option Held) (ran : LaneRan ops end old v hand cur w after) (page : ℕ) → LooksNext ops end cur w after page → LooksInRun ops end old v hand ran.replies page
looks-next ops end old cur v w hand after ran page next =
    let place = ran.next in
    let op : Op = next.0 in
    record {
      before = length ran.replies;
      op = op;
      less = (let less = next.1 in omega arith);
      is = subst (λ (n : ℕ). op ≡ get_or ops n op) place next.2;
      run = comes-last ops end old cur v w hand after (λ k. LooksRightOn old.part.holders.items old.part.lane k op page) ran
          (λ h m fits whole same. right-on old.part cur.part m op page ran.same (next.3 m whole (fits-same h m op same (subst (IsOpOf h.roots) (sym next.2) (at-index (IsOpOf h.roots) ops cur.next op fits next.1)))));
    }

-- the page in hand has its content in the heap behind them
had-in-hand : (v : View) (hand : Option Held) (end page : ℕ) (content : List ℕ) (s : Layout) → IsInHandAs hand page content → ShowsPages v hand end s → content_at s.pages page ≡ content
had-in-hand v None end page content s in_hand shown = absurd in_hand
had-in-hand v (Some held) end page content s in_hand shown = subst (λ (p : ℕ). content_at s.pages p ≡ held.homed.page) in_hand.0 (held-in v held s shown.in_hand).content ∙ in_hand.1

had-next : (ops : List Op) (end : ℕ) (old cur : LaneTurn) (v w : View) (hand after : Option Held) (ran : LaneRan ops end old v hand cur w after) (page : ℕ) (content : List ℕ) → IsInHandAs after page content → HadInRun ops end old v hand ran.replies page content
had-next ops end old cur v w hand after ran page content in_hand = record {
  before = length ran.replies;
  run = comes-last ops end old cur v w hand after (λ k. content_at k.space.pages page ≡ content) ran
      (λ h m fits whole same. had-in-hand w after end page content m.space in_hand whole.belongs.space);
}

-- what a seat put back, and then put back
puts-more : (ops : List Op) (end : ℕ) (old cur : LaneTurn) (v w x : View) (hand after : Option Held) (ran : LaneRan ops end old v hand cur w after) → PutsBack w after x
    → (page : ℕ) (content : List ℕ) → IsPutBack page content x.changed → IsPutBack page content v.changed ⊎ HadInRun ops end old v hand ran.replies page content
puts-more ops end old cur v w x hand after ran puts page content put = elim (puts page content put) [
  | inl before ↦ ran.puts page content before
  | inr in_hand ↦ inr (had-next ops end old cur v w hand after ran page content in_hand)
]

-- a page that was left as it was, or looked at, and then left as it was or looked at by the next operation
looked-more : (ops : List Op) (end : ℕ) (old cur : LaneTurn) (v w x : View) (hand after : Option Held) (ran : LaneRan ops end old v hand cur w after) → ((q : ℕ) → q < pages_of w.about → PassesBy w x q ⊎ LooksNext ops end cur w after q)
    → (q : ℕ) → q < pages_of v.about → PassesBy v x q ⊎ LooksInRun ops end old v hand ran.replies q
looked-more ops end old cur v w x hand after ran looked q near = elim (ran.looked q near) [
  | inl past ↦ elim (looked q (subst (λ (k : Key). q < pages_of k) (sym (ap (λ (z : View). z.about) ran.reads.same)) near)) [
    | inl passes ↦ inl (passes-on v w x q past passes)
    | inr next ↦ inr (looks-next ops end old cur v w hand after ran q next)
  ]
  | inr looks ↦ inr looks
]

-- nothing was done yet
pub ran-none : (ops : List Op) (end : ℕ) (turn : LaneTurn) (v : View) (hand : Option Held) → LaneRan ops end turn v hand turn v hand
ran-none ops end turn v hand = record {
  replies = [];
  kept = sym (nil turn.replies.items);
  room = refl;
  next = omega arith;
  count = refl;
  same = record { lane = refl; holders = refl; domains = refl; slots = refl; starts = refl; shared = refl };
  serial = omega arith;
  reads = none-reads v;
  looked = λ q near. inl (none-passes v q);
  puts = λ page content put. inl put;
  done = λ h w fits. (h, w, record { domains = refl; slots = refl }, (refl, refl));
}
  where
    nil : (xs : List Reply) → xs ++ [] ≡ xs
    nil [] = refl
    nil (x ∷ xs) = ap (λ (l : List Reply). x ∷ l) (nil xs)

-- one more operation was done
module _ (ops : List Op) (end : ℕ) (old cur new : LaneTurn) (v w x : View) (hand after last : Option Held) (op : Op) (reply : Reply)
    (ran : LaneRan ops end old v hand cur w after) (h0 : HeapView) (w0 : IsWhole old.part v hand end h0) (fits0 : AllByRecursion (IsOpOf h0.roots) ops)
    (less : cur.next < length ops) (is : op ≡ get_or ops cur.next op) (does : DoesOne cur.part w after new.part x last end op reply) (same : SamePart cur.part new.part)
    (next : new.next ≡ cur.next + 1) (count : new.count ≡ cur.count) (kept : new.replies.items ≡ cur.replies.items ++ reply ∷ []) (room : vec_capacity new.replies ≡ vec_capacity cur.replies) (reads : ReadsOn w x)
    (looked : (q : ℕ) → q < pages_of w.about → PassesBy w x q ⊎ LooksNext ops end cur w after q) (puts : PutsBack w after x) where
  abbrev hs : List Holder
  hs = old.part.holders.items

  op-fits : (h : HeapView) → AllByRecursion (IsOpOf h.roots) ops → IsOpOf h.roots op
  op-fits h fits = subst (IsOpOf h.roots) (sym is) (at-index (IsOpOf h.roots) ops cur.next op fits less)

  abbrev Does : HeapView → HeapView → Type 0
  Does h k = DidAll hs old.part.lane (take (length (ran.replies ++ reply ∷ [])) (drop old.next ops)) (ran.replies ++ reply ∷ []) h old.part.serial k new.part.serial

  list-is : take (length (ran.replies ++ reply ∷ [])) (drop old.next ops) ≡ take (length ran.replies) (drop old.next ops) ++ op ∷ []
  list-is =
      let place = ran.next in
      ap (λ (n : ℕ). take n (drop old.next ops)) (length-append ran.replies (reply ∷ []))
      ∙ next-op ops old.next (length ran.replies) op (omega arith) (subst (λ (n : ℕ). op ≡ get_or ops n op) place is)

  one : (h : HeapView) → IsWhole old.part v hand end h → AllByRecursion (IsOpOf h.roots) ops → (k : HeapView) × IsWhole new.part x last end k × SameSizes h k × Does h k
  one h wh fits =
      let m = ran.done h wh fits in
      let k = does m.0 m.1 (fits-same h m.0 op m.2 (op-fits h fits)) in
      let did : DidOperation m.0 k.0 hs old.part.lane cur.part.serial new.part.serial op reply =
      subst (λ (l : ℕ). DidOperation m.0 k.0 hs l cur.part.serial new.part.serial op reply) ran.same.lane
      (ap-holders m.0 k.0 k.2) in (
        k.0,
        k.1,
        sizes-more h m.0 k.0 hs old.part.lane cur.part.serial new.part.serial op reply m.2 did,
        subst (λ (os : List Op). DidAll hs old.part.lane os (ran.replies ++ reply ∷ []) h old.part.serial k.0 new.part.serial) (sym list-is)
            (did-more hs old.part.lane (take (length ran.replies) (drop old.next ops)) ran.replies op reply h m.0 k.0 old.part.serial cur.part.serial new.part.serial m.3 did),
      )
    where
      ap-holders : (m k : HeapView) → DidOperation m k cur.part.holders.items cur.part.lane cur.part.serial new.part.serial op reply → DidOperation m k hs cur.part.lane cur.part.serial new.part.serial op reply
      ap-holders m k did = subst (λ (ls : List Holder). DidOperation m k ls cur.part.lane cur.part.serial new.part.serial op reply) (ap (λ (xs : _). xs.items) ran.same.holders) did

  pub one-birth : new.part.serial ≤ cur.part.serial + 1
  one-birth =
      let m = ran.done h0 w0 fits0 in
      let k = does m.0 m.1 (fits-same h0 m.0 op m.2 (op-fits h0 fits0)) in
      let st = m.1.stands in
      births-step m.0 k.0 cur.part.holders.items st.0 st.1 cur.part.lane cur.part.serial new.part.serial op reply st.2 st.3 m.1.ready.lane_within (fits-same h0 m.0 op m.2 (op-fits h0 fits0)) k.2

  pub ran-more : LaneRan ops end old v hand new x last
  ran-more =
      let long = length-append ran.replies (reply ∷ []) in
      let place = ran.next in
      let births = ran.serial in
      let few = one-birth in
      record {
        replies = ran.replies ++ reply ∷ [];
        kept = kept ∙ ap (λ (l : List Reply). l ++ reply ∷ []) ran.kept ∙ append_assoc old.replies.items ran.replies (reply ∷ []);
        room = room ∙ ran.room;
        next = omega arith;
        count = count ∙ ran.count;
        same = same-part old.part cur.part new.part ran.same same;
        serial = omega arith;
        reads = then-reads v w x ran.reads reads;
        looked = λ q near. elim (looked-more ops end old cur v w x hand after ran looked q near) [
          | inl passes ↦ inl passes
          | inr looks ↦ inr (looks-longer ops end old v hand ran.replies (reply ∷ []) q looks)
        ];
        puts = λ page content put. elim (puts-more ops end old cur v w x hand after ran puts page content put) [
          | inl before ↦ inl before
          | inr had ↦ inr (had-longer ops end old v hand ran.replies (reply ∷ []) page content had)
        ];
        done = one;
      }

-- an operation stopped, and nothing was done
pub ran-stopped : (ops : List Op) (end : ℕ) (old cur new : LaneTurn) (v w x : View) (hand after last : Option Held) → LaneRan ops end old v hand cur w after → new.part ≡ cur.part → new.next ≡ cur.next → new.count ≡ cur.count → new.replies ≡ cur.replies
    → ReadsOn w x → ((q : ℕ) → q < pages_of w.about → PassesBy w x q ⊎ LooksNext ops end cur w after q) → PutsBack w after x → ((h : HeapView) → IsWhole cur.part w after end h → IsWhole cur.part x last end h) → LaneRan ops end old v hand new x last
ran-stopped ops end old cur new v w x hand after last ran part next count kept reads looked puts still =
    let serial = ap (λ (p : LanePart). p.serial) part in
    let place = ran.next in
    let births = ran.serial in
    record {
      replies = ran.replies;
      kept = ap (λ (xs : Vec Reply Global). xs.items) kept ∙ ran.kept;
      room = ap (λ (xs : Vec Reply Global). vec_capacity xs) kept ∙ ran.room;
      next = next ∙ ran.next;
      count = count ∙ ran.count;
      same = subst (λ (p : LanePart). SamePart old.part p) (sym part) ran.same;
      serial = omega arith;
      reads = then-reads v w x ran.reads reads;
      looked = looked-more ops end old cur v w x hand after ran looked;
      puts = puts-more ops end old cur v w x hand after ran puts;
      done = λ h wh fits.
          let m = ran.done h wh fits in
          subst (λ (p : LanePart). (k : HeapView) × IsWhole p x last end k × SameSizes h k × DidAll old.part.holders.items old.part.lane (take (length ran.replies) (drop old.next ops)) ran.replies h old.part.serial k p.serial) (sym part)
          (m.0, still m.0 m.1, m.2, m.3);
    }

-- operations after operations
did-then : (hs : List Holder) (lane : ℕ) (ops more : List Op) (replies rest : List Reply) (h m k : HeapView) (s n t : ℕ) → DidAll hs lane ops replies h s m n → DidAll hs lane more rest m n k t → DidAll hs lane (ops ++ more) (replies ++ rest) h s k t
did-then holders lane [] more [] rest h m k s n t first second =
    subst (λ (x : HeapView). DidAll holders lane more rest x s k t) first.0 (subst (λ (x : ℕ). DidAll holders lane more rest m x k t) first.1 second)
did-then holders lane [] more (r ∷ rs) rest h m k s n t first second = absurd first
did-then holders lane (o ∷ ops) more [] rest h m k s n t first second = absurd first
did-then holders lane (o ∷ ops) more (r ∷ rs) rest h m k s n t first second =
    (first.0, first.1, first.2, did-then holders lane ops more rs rest first.0 m k first.1 n t first.3 second)

-- the first operations of a list from a place on, and those after them
ops-then : (ops : List Op) (from a b : ℕ) → take (a + b) (drop from ops) ≡ take a (drop from ops) ++ take b (drop (from + a) ops)
ops-then ops from a b =
    sym (take-append-drop a (take (a + b) (drop from ops)))
    ∙ ap (λ (l : List Op). l ++ drop a (take (a + b) (drop from ops))) (take-take a (a + b) (drop from ops) (omega arith))
    ∙ ap (λ (l : List Op). take a (drop from ops) ++ l) (drop-take a b (drop from ops) ∙ ap (λ (l : List Op). take b l) (drop-drop a from ops))

same-sizes : (h m k : HeapView) → SameSizes h m → SameSizes m k → SameSizes h k
same-sizes h m k x y = record { domains = y.domains ∙ x.domains; slots = y.slots ∙ x.slots }

-- what fits a heap fits all of these sizes
pub fits-all : (h k : HeapView) (ops : List Op) → SameSizes h k → AllByRecursion (IsOpOf h.roots) ops → AllByRecursion (IsOpOf k.roots) ops
fits-all h k [] same fits = tt
fits-all h k (op ∷ ops) same fits = (fits-same h k op same fits.0, fits-all h k ops same fits.1)

-- what comes in the second is after the first
comes-then : (ops : List Op) (end : ℕ) (old cur : LaneTurn) (v w : View) (hand after : Option Held) (one : LaneRan ops end old v hand cur w after) (more : List Reply) (b : ℕ) (P : HeapView → Type 0) → ComesInRun ops end cur w after more b P
    → ComesInRun ops end old v hand (one.replies ++ more) (length one.replies + b) P
comes-then ops end old cur v w hand after one more b P l =
    let long = length-append one.replies more in
    let place = one.next in
    let a : ℕ = length one.replies in
    let hs : List Holder = old.part.holders.items in
    record {
      within = (let within = l.within in omega arith);
      comes = λ h wh fits.
          let m = one.done h wh fits in
          let k = l.comes m.0 m.1 (fits-all h m.0 ops m.2 fits) in
          let second : DidAll hs old.part.lane (take b (drop (old.next + a) ops)) (take b more) m.0 cur.part.serial k.0 k.1 =
          subst (λ (n : ℕ). DidAll hs old.part.lane (take b (drop n ops)) (take b more) m.0 cur.part.serial k.0 k.1) place
          (subst (λ (i : ℕ). DidAll hs i (take b (drop cur.next ops)) (take b more) m.0 cur.part.serial k.0 k.1) one.same.lane
          (subst (λ (xs : List Holder). DidAll xs cur.part.lane (take b (drop cur.next ops)) (take b more) m.0 cur.part.serial k.0 k.1) (ap (λ (xs : _). xs.items) one.same.holders) k.2)) in
          let all : DidAll hs old.part.lane (take a (drop old.next ops) ++ take b (drop (old.next + a) ops)) (one.replies ++ take b more) h old.part.serial k.0 k.1 =
          did-then hs old.part.lane (take a (drop old.next ops)) (take b (drop (old.next + a) ops)) one.replies (take b more) h m.0 k.0 old.part.serial cur.part.serial k.1 m.3 second in (
            k.0,
            k.1,
            subst (λ (os : List Op). DidAll hs old.part.lane os (take (a + b) (one.replies ++ more)) h old.part.serial k.0 k.1) (sym (ops-then ops old.next a b))
                (subst (λ (rs : List Reply). DidAll hs old.part.lane (take a (drop old.next ops) ++ take b (drop (old.next + a) ops)) rs h old.part.serial k.0 k.1) (sym (take-append-add one.replies more b)) all),
            k.3,
          );
    }

looks-then : (ops : List Op) (end : ℕ) (old cur : LaneTurn) (v w : View) (hand after : Option Held) (one : LaneRan ops end old v hand cur w after) (more : List Reply) (page : ℕ) → LooksInRun ops end cur w after more page → LooksInRun ops end old v hand (one.replies ++ more) page
looks-then ops end old cur v w hand after one more page l =
    let place = one.next in
    let place_is : cur.next + l.before ≡ old.next + (length one.replies + l.before) = omega arith in
    record {
      before = length one.replies + l.before;
      op = l.op;
      less = (let less = l.less in omega arith);
      is = subst (λ (n : ℕ). l.op ≡ get_or ops n l.op) place_is l.is;
      run = comes-then ops end old cur v w hand after one more l.before (λ k. LooksRightOn old.part.holders.items old.part.lane k l.op page)
          (subst (λ (n : ℕ). ComesInRun ops end cur w after more l.before (λ k. LooksRightOn old.part.holders.items n k l.op page)) one.same.lane
          (subst (λ (hs : Vec Holder Global). ComesInRun ops end cur w after more l.before (λ k. LooksRightOn hs.items cur.part.lane k l.op page)) one.same.holders l.run));
    }

had-then : (ops : List Op) (end : ℕ) (old cur : LaneTurn) (v w : View) (hand after : Option Held) (one : LaneRan ops end old v hand cur w after) (more : List Reply) (page : ℕ) (content : List ℕ) → HadInRun ops end cur w after more page content
    → HadInRun ops end old v hand (one.replies ++ more) page content
had-then ops end old cur v w hand after one more page content l =
    record { before = length one.replies + l.before; run = comes-then ops end old cur v w hand after one more l.before (λ k. content_at k.space.pages page ≡ content) l.run }

puts-then : (ops : List Op) (end : ℕ) (old cur new : LaneTurn) (v w x : View) (hand after last : Option Held) (one : LaneRan ops end old v hand cur w after) (two : LaneRan ops end cur w after new x last)
    → (page : ℕ) (content : List ℕ) → IsPutBack page content x.changed → IsPutBack page content v.changed ⊎ HadInRun ops end old v hand (one.replies ++ two.replies) page content
puts-then ops end old cur new v w x hand after last one two page content put = elim (two.puts page content put) [
  | inl before ↦ elim (one.puts page content before) [
    | inl first ↦ inl first
    | inr had ↦ inr (had-longer ops end old v hand one.replies two.replies page content had)
  ]
  | inr had ↦ inr (had-then ops end old cur v w hand after one two.replies page content had)
]

looked-then : (ops : List Op) (end : ℕ) (old cur new : LaneTurn) (v w x : View) (hand after last : Option Held) (one : LaneRan ops end old v hand cur w after) (two : LaneRan ops end cur w after new x last)
    → (q : ℕ) → q < pages_of v.about → PassesBy v x q ⊎ LooksInRun ops end old v hand (one.replies ++ two.replies) q
looked-then ops end old cur new v w x hand after last one two q near = elim (one.looked q near) [
  | inl past ↦ elim (two.looked q (subst (λ (k : Key). q < pages_of k) (sym (ap (λ (z : View). z.about) one.reads.same)) near)) [
    | inl passes ↦ inl (passes-on v w x q past passes)
    | inr looks ↦ inr (looks-then ops end old cur v w hand after one two.replies q looks)
  ]
  | inr looks ↦ inr (looks-longer ops end old v hand one.replies two.replies q looks)
]

pub ran-then : (ops : List Op) (end : ℕ) (old cur new : LaneTurn) (v w x : View) (hand after last : Option Held) → LaneRan ops end old v hand cur w after → LaneRan ops end cur w after new x last → LaneRan ops end old v hand new x last
ran-then ops end old cur new v w x hand after last one two =
    let long = length-append one.replies two.replies in
    let place = one.next in
    let there = two.next in
    let births = one.serial in
    let more = two.serial in
    record {
      replies = one.replies ++ two.replies;
      kept = two.kept ∙ ap (λ (l : List Reply). l ++ two.replies) one.kept ∙ append_assoc old.replies.items one.replies two.replies;
      room = two.room ∙ one.room;
      next = omega arith;
      count = two.count ∙ one.count;
      same = same-part old.part cur.part new.part one.same two.same;
      serial = omega arith;
      reads = then-reads v w x one.reads two.reads;
      looked = looked-then ops end old cur new v w x hand after last one two;
      puts = puts-then ops end old cur new v w x hand after last one two;
      done = λ h wh fits.
          let m = one.done h wh fits in
          let k = two.done m.0 m.1 (fits-all h m.0 ops m.2 fits) in
          let a : ℕ = length one.replies in
          let b : ℕ = length two.replies in
          let hs : List Holder = old.part.holders.items in
          let second : DidAll hs old.part.lane (take b (drop (old.next + a) ops)) two.replies m.0 cur.part.serial k.0 new.part.serial =
          subst (λ (n : ℕ). DidAll hs old.part.lane (take b (drop n ops)) two.replies m.0 cur.part.serial k.0 new.part.serial) place
          (subst (λ (l : ℕ). DidAll hs l (take b (drop cur.next ops)) two.replies m.0 cur.part.serial k.0 new.part.serial) one.same.lane
          (subst (λ (xs : List Holder). DidAll xs cur.part.lane (take b (drop cur.next ops)) two.replies m.0 cur.part.serial k.0 new.part.serial) (ap (λ (xs : _). xs.items) one.same.holders) k.3)) in (
            k.0,
            k.1,
            same-sizes h m.0 k.0 m.2 k.2,
            subst (λ (os : List Op). DidAll hs old.part.lane os (one.replies ++ two.replies) h old.part.serial k.0 new.part.serial)
                (sym (ap (λ (n : ℕ). take n (drop old.next ops)) long ∙ ops-then ops old.next a b))
                (did-then hs old.part.lane (take a (drop old.next ops)) (take b (drop (old.next + a) ops)) one.replies two.replies h m.0 k.0 old.part.serial cur.part.serial new.part.serial m.3 second),
          );
    }
