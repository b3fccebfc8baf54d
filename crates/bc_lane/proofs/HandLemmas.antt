-- A seat that takes a page that its lane may read, and puts it back.
use Rattle.std.proofs.Common.{◌≡◌, ◌≢◌, ◌⊎◌, ℕ, ◌+◌, ◌-◌, ◌^◌, ◌<◌, ◌≤◌, ◌&&◌, nat_lt, Bool, true, false, min, if◌then◌else◌, List, [], ◌∷◌, ◌++◌, length, Option, Some, None, inl, inr, refl, ap, sym, subst, ◌∙◌, append_assoc, arith}
use Rattle.std.proofs.lemmas.Bool.{cases_eq, cases_lt, lt-ltb}
use Rattle.bc_bits.specs.Counting.{one_if}
use Rattle.bc_lane.specs.Doing.{tried_from}
use Rattle.bc_lane.specs.Shown.{HasPage, IsFrozenPage, IsOwnPage, MayReadPage, ShowsFrozen, ShowsHeld, ShowsPages}
use Rattle.bc_evict.specs.Claiming.{all_bits}
use Rattle.bc_lane.specs.Turns.{HasInHand, IsLaidDown, IsNobodysPage, IsFrozenOrOwn, IsSameLane, ReadLast, ReadsFrozenHeld, ReadsHeld, ReadsOn, ReloadsUpTo, full_reads}
use Rattle.bc_lane.proofs.PageLemmas.{held-in, owns-page, recorded-else, shows-back, shows-given, shows-read, shows-taken, shows-taken_frozen}
use Rattle.bc_pins.specs.declared.holding.Held.{Held}
use Rattle.bc_pins.specs.declared.key.Role.{Role}
use Rattle.bc_pins.specs.declared.pins.Pins.{Pins}
use Rattle.bc_pins.specs.declared.pins.Seat.{Seat}
use Rattle.bc_pins.specs.declared.taking.TakeError.{TakeError}
use Rattle.bc_pins.specs.declared.taking.TakeError.TheVariants.{Absent, Busy, Gone, Remembered}
use Rattle.bc_pins.specs.declared.taking.Want.{Want}
use Rattle.bc_pins.specs.declared.taking.Want.TheVariants.{Victim, Work}
use Rattle.bc_pins.specs.declared.views.Hand.{Hand}
use Rattle.bc_pins.specs.declared.views.View.{View}
use Rattle.bc_pins.specs.Calls.{Grasps, HoldsPage, IsAt, IsFree, IsSameSeat, IsSameWorker, IsTakeRefused, MayPut, put_back, refusal_word, tried, view_of}
use Rattle.bc_pins.specs.Contents.{IsBarePage}
use Rattle.bc_pins.specs.Key.{Key, frame_at, frame_words, owner, page_at, pages_of, role_number}
use Rattle.bc_pins.specs.Steps.{Takes, both_slots, gripping, having_read, owns}
use Rattle.bc_pins.specs.Totals.{times}
use Rattle.bc_pins.specs.Views.{entries, has_role, reads_at}
use Rattle.bc_pins.specs.declared.views.Lodged.TheVariants.{Nothing}
use Rattle.bc_pins.proofs.LogLemmas.{pages-else, times-reads}
use Rattle.bc_pins.proofs.TakeLemmas.{some_hand}
use Rattle.bc_pins.proofs.TotalLemmas.{one_other, one_same}
use Rattle.bc_pins.proofs.VisitLemmas.{holds_taken}
use Rattle.bc_superpages.specs.Layout.{Layout}
use Rattle.bc_superpages.specs.declared.spaces.Homed.{Homed}

-- the page in hand may be put back
-- just as it was taken, where it isn't the lane's own
put-others : (seat : Seat) (held : Held) (s : Layout) (hand : Hand) → (view_of seat).hand ≡ Some hand → has_role (view_of seat) (owner (view_of seat).about held.page) ≡ 0 → ShowsHeld (view_of seat) held s ⊎ ShowsFrozen (view_of seat) held s
    → (held.homed.page ≡ hand.content) × (held.remembered ≡ hand.remembered)
put-others seat held s hand has none (inl x) = absurd (let own = x.own in omega arith)
put-others seat held s hand has none (inr x) =
    let same : x.hand ≡ hand = some_hand x.hand hand (sym x.has ∙ has) in
    (x.taken ∙ ap (λ (h : Hand). h.content) same, x.flag ∙ ap (λ (h : Hand). h.remembered) same)

-- the page in hand may be read
pub hand-may : (v : View) (held : Held) (s : Layout) → ShowsHeld v held s ⊎ ShowsFrozen v held s → MayReadPage v held.page
hand-may v held s (inl x) = inl x.own
hand-may v held s (inr x) = inr x.frozen

pub may-put : (seat : Seat) (held : Held) (end : ℕ) (s : Layout) → ShowsPages (view_of seat) (Some held) end s → MayPut seat held
may-put seat held end s shown =
    let x = held-in (view_of seat) held s shown.in_hand in
    let same : (hand : Hand) → (view_of seat).hand ≡ Some hand → x.hand ≡ hand = λ hand has. some_hand x.hand hand (sym x.has ∙ has) in
    record {
      fixed = x.fixed;
      young = x.young;
      remembered = λ hand has on. x.flag (ap (λ (h : Hand). h.remembered) (same hand has) ∙ on);
      others = λ hand has none. put-others seat held s hand has none shown.in_hand;
      counted = λ hand has. sym (ap (λ (h : Hand). h.counted) (same hand has)) ∙ x.counted;
      marked = λ hand has. sym (ap (λ (h : Hand). h.marked) (same hand has)) ∙ x.marked;
    }

pub in-hand : (seat : Seat) (hand : Option Held) (held : Held) → hand ≡ Some held → HasInHand seat hand → HoldsPage seat held
in-hand seat hand held is has = subst (HasInHand seat) is has

pub in-none : (seat : Seat) (hand : Option Held) → hand ≡ None → HasInHand seat hand → IsFree seat
in-none seat hand is has = subst (HasInHand seat) is has

pub shown-none : (v : View) (hand : Option Held) (end : ℕ) (s : Layout) → hand ≡ None → ShowsPages v hand end s → ShowsPages v None end s
shown-none v hand end s is shown = subst (λ (x : Option Held). ShowsPages v x end s) is shown

-- it was put back
pub shown-put : (seat seat' : Seat) (hand : Option Held) (held : Held) (end : ℕ) (s : Layout) → hand ≡ Some held → view_of seat' ≡ put_back (view_of seat) held → ShowsPages (view_of seat) hand end s → ShowsPages (view_of seat') None end s
shown-put seat seat' hand held end s is view shown =
    subst (λ (v : View). ShowsPages v None end s) (sym view)
    (shows-given (view_of seat) held end s (subst (λ (x : Option Held). ShowsPages (view_of seat) x end s) is shown))

-- and what was so then was so before
pub shown-back : (seat seat' : Seat) (hand : Option Held) (held : Held) (end last : ℕ) (s t : Layout) → hand ≡ Some held → view_of seat' ≡ put_back (view_of seat) held → ShowsPages (view_of seat) hand last t → ShowsPages (view_of seat') None end s
    → ShowsPages (view_of seat) hand end s
shown-back seat seat' hand held end last s t is view first shown =
    subst (λ (x : Option Held). ShowsPages (view_of seat) x end s) (sym is)
    (shows-back (view_of seat) held end last s t (subst (λ (x : Option Held). ShowsPages (view_of seat) x last t) is first) (subst (λ (v : View). ShowsPages v None end s) view shown))

pub some-back : (v : View) (hand : Option Held) (end : ℕ) (s : Layout) → hand ≡ None → ShowsPages v None end s → ShowsPages v hand end s
some-back v hand end s is shown = subst (λ (x : Option Held). ShowsPages v x end s) (sym is) shown

-- a seat reads on
pub none-reads : (v : View) → ReadsOn v v
none-reads v = record {
  same = refl;
  more = [];
  read = refl;
  behind = λ q far. (refl, refl);
  others = λ q none. (refl, refl);
  foreign = λ q near none held. let zero_reads : times 1 (reads_at q []) ≡ 0 = refl in omega arith;
  fetches = λ q none held. refl;
  returned = λ q more. absurd (omega arith);
  far = λ q past. (refl, refl, refl);
  few = omega arith;
  full = λ word lt. omega arith;
}

pub then-reads : (u v w : View) → ReadsOn u v → ReadsOn v w → ReadsOn u w
then-reads u v w x y = record {
  same = y.same ∙ ap (λ (z : View). record z { hand = w.hand; changed = w.changed; recorded = w.recorded; returned = w.returned; seen = w.seen; gone = w.gone; busy = w.busy; read = w.read; left = w.left; emptied = w.emptied; fetched = w.fetched; bookmarked = w.bookmarked }) x.same;
  more = y.more ++ x.more;
  read = y.read ∙ ap (λ (l : List (ℕ × ℕ)). y.more ++ l) x.read ∙ sym (append_assoc y.more x.more u.read);
  behind = λ q far.
      let one = x.behind q far in
      let two = y.behind q (subst (λ (k : Key). pages_of k ≤ q) (sym about) far) in
      (two.0 ∙ one.0, two.1 ∙ one.1);
  others = λ q none.
      let one = x.others q none in
      let two = y.others q (off q none) in
      (two.0 ∙ one.0, two.1 ∙ one.1);
  foreign = λ q near none held.
      let one = x.foreign q near none held in
      let two = y.foreign q (subst (λ (k : Key). q < pages_of k) (sym about) near) (off q none) (some q held) in
      let all = times-reads 1 (page_at q) y.more x.more in
      omega arith;
  fetches = λ q none held. y.fetches q (off q none) (some q held) ∙ x.fetches q none held;
  returned = λ q more. elim (cases_lt (times q u.returned) (times q v.returned)) [
    | inl lt ↦ x.returned q lt
    | inr le ↦ subst (λ (k : Key). owner k q ≡ 0) about (y.returned q (omega arith))
  ];
  far = λ q past.
      let one = x.far q past in
      let two = y.far q (subst (λ (k : Key). pages_of k ≤ q) (sym about) past) in
      (two.0 ∙ one.0, two.1 ∙ one.1, two.2 ∙ one.2);
  few = (let one = x.few in let two = y.few in omega arith);
  full = λ word lt.
      let one = x.full word lt in
      let two = y.full word (subst (λ (k : Key). word < frame_words k) (sym about) lt) in
      let same = ap (λ (k : Key). full_reads k word y.more) about in
      let all = times-reads all_bits (frame_at u.about word) y.more x.more in
      omega arith;
}
  where
    about : v.about ≡ u.about
    about = ap (λ (z : View). z.about) x.same

    off : (q : ℕ) → has_role u (owner u.about q) ≡ 0 → has_role v (owner v.about q) ≡ 0
    off q none = subst (λ (z : View). has_role z (owner z.about q) ≡ 0) (sym x.same) none

    some : (q : ℕ) → owner u.about q ≢ 0 → owner v.about q ≢ 0
    some q held e = held (subst (λ (k : Key). owner k q ≡ 0) about e)

-- another lane's page is another one than this, which may be read
pub off-page : (v : View) (page q : ℕ) → MayReadPage v page → has_role v (owner v.about q) ≡ 0 → owner v.about q ≢ 0 → q ≢ page
off-page v page q (inl own) none held e = let same = ap (λ (p : ℕ). has_role v (owner v.about p)) e in absurd (omega arith)
off-page v page q (inr frozen) none held e = held (ap (λ (p : ℕ). owner v.about p) e ∙ frozen)

pub reads-word : (v : View) (page found : ℕ) → MayReadPage v page → ReadsOn v (having_read v page found)
reads-word v page found may = record {
  same = refl;
  more = (page_at page, found) ∷ [];
  read = refl;
  behind = λ q far. (refl, refl);
  others = λ q none. (refl, refl);
  foreign = λ q near none held. let other = pages-else page q found 1 [] (off-page v page q may none held) in let zero_reads : times 1 (reads_at q []) ≡ 0 = refl in omega arith;
  fetches = λ q none held. refl;
  returned = λ q more. absurd (omega arith);
  far = λ q past. (refl, refl, refl);
  few = omega arith;
  full = λ word lt. omega arith;
}

-- a page was taken
pub tried-about : (v : View) (page : ℕ) (b : Bool) → (tried v page Work b).about ≡ v.about
tried-about v page true = refl
tried-about v page false = refl

pub holds-taken : (v : View) (seat : Seat) (page : ℕ) (held : Held) → Grasps (tried v page Work held.remembered) seat page held → page < pages_of v.about → HoldsPage seat held
holds-taken v seat page held g lt =
    holds_taken (tried v page Work held.remembered) seat page held g (subst (λ (a : Key). page < pages_of a) (sym (tried-about v page held.remembered)) lt)

pub shown-taken : (v : View) (seat : Seat) (page : ℕ) (held : Held) (end : ℕ) (s : Layout) → Grasps (tried v page Work held.remembered) seat page held → Takes v page held.remembered held.homed → IsOwnPage v page → ShowsPages v None end s → ShowsPages (view_of seat) (Some held) end s
shown-taken v seat page held end s g takes own shown =
    subst (λ (w : View). ShowsPages w (Some held) end s) (sym g.view)
    (subst (λ (p : ℕ). ShowsPages (gripping (tried v page Work held.remembered) page held.remembered held.homed) (Some (record { page = p; remembered = held.remembered; homed = held.homed })) end s) (sym g.is)
    (shows-taken v page end held.remembered held.homed s own takes shown))

-- one of a frozen domain
pub shown-taken_frozen : (v : View) (seat : Seat) (page : ℕ) (held : Held) (end : ℕ) (s : Layout) → Grasps (tried v page Work held.remembered) seat page held → Takes v page held.remembered held.homed → IsNobodysPage v page → ShowsPages v None end s → ShowsPages (view_of seat) (Some held) end s
shown-taken_frozen v seat page held end s g takes is shown =
    subst (λ (w : View). ShowsPages w (Some held) end s) (sym g.view)
    (subst (λ (p : ℕ). ShowsPages (gripping (tried v page Work held.remembered) page held.remembered held.homed) (Some (record { page = p; remembered = held.remembered; homed = held.homed })) end s) (sym g.is)
    (shows-taken_frozen v page end held.remembered held.homed s is.0 is.1 takes shown))

tried-reads : (v : View) (page : ℕ) (b : Bool) → MayReadPage v page → ReadsOn v (tried v page Work b)
tried-reads v page true may = reads-word v page 2 may
tried-reads v page false may = none-reads v

tried-may : (v : View) (page : ℕ) (b : Bool) → MayReadPage v page → MayReadPage (tried v page Work b) page
tried-may v page true may = may
tried-may v page false may = may

gripping-reads : (v : View) (page : ℕ) (remembered : Bool) (homed : Homed) → MayReadPage v page → ReadsOn v (gripping v page remembered homed)
gripping-reads v page remembered homed may = record {
  same = refl;
  more = (page_at page, if remembered then 2 else 1) ∷ [];
  read = refl;
  behind = λ q far. (refl, refl);
  others = λ q none. (refl, refl);
  foreign = λ q near none held.
      let other = pages-else page q (if remembered then 2 else 1) 1 [] (off-page v page q may none held) in
      let zero_reads : times 1 (reads_at q []) ≡ 0 = refl in
      omega arith;
  fetches = λ q none held. refl;
  returned = λ q more. absurd (omega arith);
  far = λ q past. (refl, refl, refl);
  few = omega arith;
  full = λ word lt. omega arith;
}

pub taken-reads : (v : View) (seat : Seat) (page : ℕ) (held : Held) → Grasps (tried v page Work held.remembered) seat page held → MayReadPage v page → ReadsOn v (view_of seat)
taken-reads v seat page held g may =
    let u : View = tried v page Work held.remembered in
    subst (λ (w : View). ReadsOn v w) (sym g.view)
    (then-reads v u (gripping u page held.remembered held.homed) (tried-reads v page held.remembered may) (gripping-reads u page held.remembered held.homed (tried-may v page held.remembered may)))

-- or refused
pub refused-read : (v w : View) (page : ℕ) (want : Want) (refusal : TakeError) → IsTakeRefused v page want refusal w → ReadLast w page (refusal_word refusal)
refused-read v w page want refusal r = elim r.read [
  | inl e ↦ (v.read, ap (λ (x : View). x.read) e)
  | inr e ↦ ((page_at page, 2) ∷ v.read, ap (λ (x : View). x.read) e.1)
]

pub refused-reads : (v w : View) (page : ℕ) (want : Want) (refusal : TakeError) → IsTakeRefused v page want refusal w → MayReadPage v page → ReadsOn v w
refused-reads v w page want refusal r may = elim r.read [
  | inl e ↦ subst (λ (x : View). ReadsOn v x) (sym e) (reads-word v page (refusal_word refusal) may)
  | inr e ↦ subst (λ (x : View). ReadsOn v x) (sym e.1)
      (then-reads v (having_read v page 2) (having_read (having_read v page 2) page (refusal_word refusal)) (reads-word v page 2 may) (reads-word (having_read v page 2) page (refusal_word refusal) may))
]

-- nothing was fetched by it
pub refused-fetched : (v w : View) (page : ℕ) (want : Want) (refusal : TakeError) → IsTakeRefused v page want refusal w → w.fetched ≡ v.fetched
refused-fetched v w page want refusal r = elim r.read [
  | inl e ↦ ap (λ (x : View). x.fetched) e
  | inr e ↦ ap (λ (x : View). x.fetched) e.1
]

-- nor put back
pub refused-changed : (v w : View) (page : ℕ) (want : Want) (refusal : TakeError) → IsTakeRefused v page want refusal w → w.changed ≡ v.changed
refused-changed v w page want refusal r = elim r.read [
  | inl e ↦ ap (λ (x : View). x.changed) e
  | inr e ↦ ap (λ (x : View). x.changed) e.1
]

pub tried-changed : (v : View) (page : ℕ) (b : Bool) → (tried v page Work b).changed ≡ v.changed
tried-changed v page true = refl
tried-changed v page false = refl

pub tried-fetched : (v : View) (page : ℕ) (b : Bool) → (tried v page Work b).fetched ≡ v.fetched
tried-fetched v page true = refl
tried-fetched v page false = refl

-- so the page that stops the lane was read since
read-since : (v w : View) (page found : ℕ) → w ≡ having_read v page found → length v.read < length w.read
read-since v w page found e = let long = ap (λ (x : View). length x.read) e in omega arith

pub refused-since : (v w : View) (page : ℕ) (want : Want) (refusal : TakeError) → IsTakeRefused v page want refusal w → length v.read < length w.read
refused-since v w page want refusal r = elim r.read [
  | inl e ↦ read-since v w page (refusal_word refusal) e
  | inr e ↦ let one = read-since v (having_read v page 2) page 2 refl in let two = read-since (having_read v page 2) w page (refusal_word refusal) e.1 in omega arith
]

-- a page in another's hands is noted so
pub refused-held : (v w : View) (page : ℕ) → IsOwnPage v page → IsTakeRefused v page Work Busy w → ReadsHeld v w page
refused-held v w page own r = record { last = refused-read v w page Work Busy r; since = refused-since v w page Work Busy r; noted = r.busy refl own }

-- what the table is about stays
pub refused-about : (v w : View) (page : ℕ) (want : Want) (refusal : TakeError) → IsTakeRefused v page want refusal w → w.about ≡ v.about
refused-about v w page want refusal r = elim r.read [
  | inl e ↦ ap (λ (x : View). x.about) e
  | inr e ↦ ap (λ (x : View). x.about) e.1
]

-- one of a frozen domain is read so
pub refused-frozen : (v w : View) (page : ℕ) → IsFrozenPage v page → IsTakeRefused v page Work Busy w → ReadsFrozenHeld v w page
refused-frozen v w page is r = record {
  frozen = ap (λ (k : Key). owner k page) (refused-about v w page Work Busy r) ∙ is;
  last = refused-read v w page Work Busy r;
  since = refused-since v w page Work Busy r;
}

-- and an own page that is gone is noted so
noted-gone : (v w : View) (page : ℕ) → IsOwnPage v page → w ≡ having_read v page 4 → 0 < times page w.gone
noted-gone v w page own e =
    let once : times page w.gone ≡ times page (page ∷ v.gone) =
    ap (λ (x : View). times page x.gone) e ∙ ap (λ (b : Bool). times page (if b then page ∷ v.gone else v.gone)) (lt-ltb 0 (has_role v (owner v.about page)) own) in
    let same = one_same page in
    omega arith

pub refused-gone : (v w : View) (page : ℕ) (want : Want) → IsOwnPage v page → IsTakeRefused v page want Gone w → 0 < times page w.gone
refused-gone v w page want own r = elim r.read [
  | inl e ↦ noted-gone v w page own e
  | inr e ↦ noted-gone (having_read v page 2) w page own e.1
]

pub refused-looks : (v w : View) (page : ℕ) → IsTakeRefused v page Work Gone w → (before : List (ℕ × ℕ)) × (w.read ≡ (page_at page, 4) ∷ (before ++ v.read))
refused-looks v w page r = elim r.read [
  | inl e ↦ ([], ap (λ (x : View). x.read) e)
  | inr e ↦ ((page_at page, 2) ∷ [], ap (λ (x : View). x.read) e.1)
]

-- it was put back, on a page of the table
entries-else : (b : Bool) (q p : ℕ) (c : List ℕ) (l : List (ℕ × List ℕ)) → p ≢ q → entries q (if b then (p, c) ∷ l else l) ≡ entries q l
entries-else true q p c l ne = let none = one_other p q ne in omega arith
entries-else false q p c l ne = refl

put-else : (v : View) (held : Held) (q : ℕ) → held.page ≢ q → (entries q (put_back v held).changed ≡ entries q v.changed) × (times q (put_back v held).recorded ≡ times q v.recorded)
put-else v held q other =
    (entries-else (owns v held.page) q held.page held.homed.page v.changed other, recorded-else v held q other)

-- the page in hand isn't the lane's own: nothing of it is recorded
owns-none : (v : View) (p : ℕ) → has_role v (owner v.about p) ≡ 0 → owns v p ≡ false
owns-none v p none = ap (nat_lt 0) none

unrecorded : (b c : Bool) (q p : ℕ) (l : List ℕ) → c ≡ false → times q (if b && c then p ∷ l else l) ≡ times q l
unrecorded true c q p l off = ap (λ (t : Bool). times q (if t then p ∷ l else l)) off
unrecorded false c q p l off = refl

put-foreign : (v : View) (held : Held) (q : ℕ) → has_role v (owner v.about q) ≡ 0 → (entries q (put_back v held).changed ≡ entries q v.changed) × (times q (put_back v held).recorded ≡ times q v.recorded)
put-foreign v held q none = elim (cases_eq held.page q) [
  | inl e ↦
      let off = owns-none v held.page (ap (λ (p : ℕ). has_role v (owner v.about p)) e ∙ none) in (
        ap (λ (b : Bool). entries q (if b then (held.page, held.homed.page) ∷ v.changed else v.changed)) off,
        unrecorded held.remembered (owns v held.page) q held.page v.recorded off,
      )
  | inr ne ↦ put-else v held q ne
]

-- it was returned only where it is of a frozen domain
returned-else : (b : Bool) (q p : ℕ) (l : List ℕ) → p ≢ q → times q (if b then l else p ∷ l) ≡ times q l
returned-else true q p l ne = refl
returned-else false q p l ne = let none = one_other p q ne in omega arith

put-returned : (v : View) (held : Held) (q : ℕ) → MayReadPage v held.page → times q v.returned < times q (put_back v held).returned → IsFrozenPage v q
put-returned v held q (inl own) more =
    let same = ap (λ (b : Bool). times q (if b then v.returned else held.page ∷ v.returned)) (owns-page v held.page own) in
    absurd (omega arith)
put-returned v held q (inr is) more = elim (cases_eq held.page q) [
  | inl e ↦ subst (IsFrozenPage v) e is
  | inr ne ↦ let same = returned-else (owns v held.page) q held.page v.returned ne in absurd (omega arith)
]

pub put-reads : (seat : Seat) (w : View) (held : Held) → HoldsPage seat held → MayReadPage (view_of seat) held.page → w ≡ put_back (view_of seat) held → ReadsOn (view_of seat) w
put-reads seat w held has may e =
    let v = view_of seat in
    subst (λ (x : View). ReadsOn v x) (sym e)
    (record {
      same = refl;
      more = [];
      read = refl;
      behind = λ q far. put-else v held q (λ is. absurd (let inside = has.inside in omega arith));
      others = λ q none. put-foreign v held q none;
      foreign = λ q near none some. let zero_reads : times 1 (reads_at q []) ≡ 0 = refl in omega arith;
      fetches = λ q none some. refl;
      returned = λ q more. put-returned v held q may more;
      far = λ q past. (refl, refl, refl);
      few = omega arith;
      full = λ word lt. omega arith;
    })

pub put-laid : (v w : View) (held : Held) → w ≡ put_back v held → IsLaidDown v w
put-laid v w held e = subst (λ (x : View). IsLaidDown v x) (sym e) refl

-- one that isn't the lane's own was not recorded
pub put-unchanged : (v w : View) (held : Held) → w ≡ put_back v held → has_role v (owner v.about held.page) ≡ 0 → w.changed ≡ v.changed
put-unchanged v w held e none =
    ap (λ (x : View). x.changed) e ∙ ap (λ (b : Bool). if b then (held.page, held.homed.page) ∷ v.changed else v.changed) (owns-none v held.page none)

pub none-laid : (v : View) → v.hand ≡ None → IsLaidDown v v
none-laid v none = ap (λ (h : Option Hand). record v { hand = h }) none

pub refused-shown : (v w : View) (page : ℕ) (want : Want) (refusal : TakeError) (end : ℕ) (s : Layout) → IsTakeRefused v page want refusal w → ShowsPages v None end s → ShowsPages w None end s
refused-shown v w page want refusal end s r shown = elim r.read [
  | inl e ↦ subst (λ (x : View). ShowsPages x None end s) (sym e) (shows-read v page (refusal_word refusal) end s shown)
  | inr e ↦ subst (λ (x : View). ShowsPages x None end s) (sym e.1) (shows-read (having_read v page 2) page (refusal_word refusal) end s (shows-read v page 2 end s shown))
]

-- the other two refusals don't come
work-victim : Work ≡ Victim → ⊥
work-victim e = cc

pub never-remembered : (v w : View) (page : ℕ) → IsTakeRefused v page Work Remembered w → ⊥
never-remembered v w page r = work-victim (r.victim refl)

pub never-absent : (v w : View) (page : ℕ) → (IsBarePage v.about.opening page → ⊥) → IsTakeRefused v page Work Absent w → ⊥
never-absent v w page cell r = cell (r.bare refl)

-- what is in hand after an operation is what was
pub hand-after : (seat : Seat) (old new : Option Held) (end : ℕ) (s : Layout) → HasInHand seat old → ((p : ℕ) → HasPage old p → HasPage new p) → ShowsPages (view_of seat) new end s → HasInHand seat new
hand-after seat None None end s has pages shown = has
hand-after seat None (Some h) end s has pages shown = let x = held-in (view_of seat) h s shown.in_hand in absurd (clash-hand x.hand (sym has.hand ∙ x.has))
  where
    clash-hand : (x : Hand) → None ≡ Some x → ⊥
    clash-hand x e = cc
hand-after seat (Some g) None end s has pages shown = absurd (pages g.page refl)
hand-after seat (Some g) (Some h) end s has pages shown =
    let same : g.page ≡ h.page = pages g.page refl in
    let x = held-in (view_of seat) h s shown.in_hand in
    record {
      hand = x.hand;
      has = x.has;
      page = x.page_is;
      inside = subst (λ (p : ℕ). p < pages_of (view_of seat).about) same has.inside;
      frame = x.frame;
      slots = has.slots ∙ ap (λ (p : ℕ). both_slots (view_of seat).about p Nothing Nothing) same;
    }

-- the seat is the same after calls of which each left it the same
pub same-worker : (a b : Seat) → IsSameSeat a b → IsSameWorker a b
same-worker a b x = record { table = x.table; id = x.id; role = x.role; about = x.about; alive = x.alive; roles = x.roles }

pub then-worker : (a b c : Seat) → IsSameWorker a b → IsSameWorker b c → IsSameWorker a c
then-worker a b c x y = record {
  table = y.table ∙ x.table;
  id = y.id ∙ x.id;
  role = y.role ∙ x.role;
  about = y.about ∙ x.about;
  alive = y.alive ∙ x.alive;
  roles = y.roles ∙ x.roles;
}

pub same-lane : (a : Seat) → IsSameLane a a
same-lane a = record { worker = record { table = refl; id = refl; role = refl; about = refl; alive = refl; roles = refl }; opens = λ counts. counts }

pub then-lane : (a b c : Seat) → IsSameLane a b → IsSameLane b c → IsSameLane a c
then-lane a b c x y = record { worker = then-worker a b c x.worker y.worker; opens = λ counts. y.opens (x.opens counts) }

-- a call that fetches no page
pub seat-lane : (a b : Seat) → IsSameSeat a b → (view_of b).fetched ≡ (view_of a).fetched → IsSameLane a b
seat-lane a b x fetched = record {
  worker = same-worker a b x;
  opens = λ counts. x.opens ∙ subst (λ (l : List ℕ). a.opens ≡ min (length l) (2 ^ 64 - 1)) (sym fetched) counts;
}

pub at-worker : (pins : Pins) (a b : Seat) → IsAt pins a → IsSameWorker a b → IsAt pins b
at-worker pins a b at same = record {
  table = same.table ∙ at.table;
  about = same.about ∙ at.about;
  alive = same.alive ∙ at.alive;
  role = subst (λ (l : List ℕ). 0 < times (role_number b.role) l) (sym same.roles) (subst (λ (r : Role). 0 < has_role (view_of a) (role_number r)) (sym same.role) at.role);
}

pub at-lane : (pins : Pins) (a b : Seat) → IsAt pins a → IsSameLane a b → IsAt pins b
at-lane pins a b at x = at-worker pins a b at x.worker

-- an own page is so after it
pub own-lane : (a b : Seat) (page : ℕ) → IsSameLane a b → IsOwnPage (view_of a) page → IsOwnPage (view_of b) page
own-lane a b page x own =
    subst (λ (l : List ℕ). 0 < times (owner (view_of b).about page) l) (sym x.worker.roles)
    (subst (λ (k : Key). 0 < times (owner k page) (view_of a).roles) (sym x.worker.about) own)

-- and one of a frozen domain
pub nobodys-about : (v w : View) (page : ℕ) → w.about ≡ v.about → IsNobodysPage v page → IsNobodysPage w page
nobodys-about v w page e is = subst (λ (k : Key). (owner k page ≡ 0) × (times (owner k page) k.roles ≡ 0)) (sym e) is

pub somebody-lane : (a b : Seat) → IsSameLane a b → has_role (view_of a) 0 ≡ 0 → has_role (view_of b) 0 ≡ 0
somebody-lane a b x none = ap (times 0) x.worker.roles ∙ none

pub page-of_lane : (a b : Seat) (page : ℕ) (frozen : Bool) → IsSameLane a b → IsFrozenOrOwn (view_of a) page frozen → IsFrozenOrOwn (view_of b) page frozen
page-of_lane a b page true x is = nobodys-about (view_of a) (view_of b) page x.worker.about is
page-of_lane a b page false x is = own-lane a b page x is

-- and rights are as they were
pub rights-on : (v w : View) → ReadsOn v w → v.rights ≡ [] → w.rights ≡ []
rights-on v w on none = ap (λ (x : View). x.rights) on.same ∙ none

-- one page at most is in hand
pub one-page : (hand : Option Held) (p q : ℕ) → HasPage hand p → HasPage hand q → p ≡ q
one-page None p q a b = absurd a
one-page (Some held) p q a b = a ∙ sym b

-- where nothing was fetched no page was reloaded
pub none-reloaded : (v w : View) (most : ℕ) → w.fetched ≡ v.fetched → ReloadsUpTo most v w
none-reloaded v w most same = let long = ap (λ (l : List ℕ). length l) same in omega arith

-- and a page that was fetched was reloaded once
pub one-reloaded : (v w : View) (page : ℕ) → w.fetched ≡ page ∷ v.fetched → ReloadsUpTo 1 v w
one-reloaded v w page same = let long = ap (λ (l : List ℕ). length l) same in omega arith

-- so many were reloaded since nothing was, or until nothing was any more
pub reloaded-since : (u v w : View) (most : ℕ) → v.fetched ≡ u.fetched → ReloadsUpTo most v w → ReloadsUpTo most u w
reloaded-since u v w most same more = let long = ap (λ (l : List ℕ). length l) same in omega arith

pub reloaded-until : (u v w : View) (most : ℕ) → ReloadsUpTo most u v → w.fetched ≡ v.fetched → ReloadsUpTo most u w
reloaded-until u v w most more same = let long = ap (λ (l : List ℕ). length l) same in omega arith

-- first so many, and then so many more
pub reloaded-then : (u v w : View) (m n : ℕ) → ReloadsUpTo m u v → ReloadsUpTo n v w → ReloadsUpTo (m + n) u w
reloaded-then u v w m n x y = omega arith

-- where the next operation was tried and isn't done, it counts as well
pub tried-more : (count before after : ℕ) → after < count → tried_from count before after ≡ (after - before) + 1
tried-more count before after lt = ap (λ (b : Bool). (after - before) + one_if b) (lt-ltb after count lt)
