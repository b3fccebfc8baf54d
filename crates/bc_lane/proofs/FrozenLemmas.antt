-- A page of a frozen domain that a lane wants: it is taken, or comes back into a frame that is free, or it can't be had.
use Rattle.std.proofs.Common.{◌≡◌, ◌≢◌, ℕ, ◌-◌, ◌^◌, ◌<◌, Bool, if◌then◌else◌, List, [], ◌∷◌, ◌++◌, length, min, None, Result, Ok, Err, ◌⊎◌, inl, inr, append_assoc, length-append, refl, ap, sym, subst, ◌∙◌, arith}
use Rattle.std.specs.Result.{IfErr, IfOk, OnErr}
use Rattle.std.proofs.lemmas.Bool.{cases_eq, eq-eqb}
use Rattle.bc_evict.specs.Claiming.{FindsNoFrame, HasClaimed}
use Rattle.bc_evict.specs.Evicting.{HasGiven}
use Rattle.bc_evict.specs.Reloading.{reload_word}
use Rattle.bc_evict.specs.declared.reloading.ReloadError.{ReloadError}
use Rattle.bc_evict.specs.declared.reloading.ReloadError.TheVariants as refused
use Rattle.bc_lane.specs.Shown.{MayReadPage, ShowsPages}
use Rattle.bc_lane.specs.Turns.{FindsNoWayBack, HasNoWayBack, IsNobodysPage, IsSameLane, PassesBy, ReadsFrozenGone, ReadsFrozenMoved, ReadsHome, ReadsOn}
use Rattle.bc_lane.specs.declared.stops.Stop.{Stop}
use Rattle.bc_lane.specs.declared.stops.Stop.TheVariants as stop
use Rattle.bc_lane.proofs.HandLemmas.{nobodys-about, none-reads, reads-word, refused-about, refused-looks, same-lane, same-worker, then-lane, then-reads, then-worker}
use Rattle.bc_lane.proofs.PassLemmas.{none-passes, other-read, passes-on}
use Rattle.bc_lane.proofs.ReloadLemmas.{besides, shows-besides}
use Rattle.bc_pins.specs.declared.holding.Held.{Held}
use Rattle.bc_pins.specs.declared.pins.Pins.{Pins}
use Rattle.bc_pins.specs.declared.pins.Seat.{Seat}
use Rattle.bc_pins.specs.declared.taking.TakeError.TheVariants.{Gone}
use Rattle.bc_pins.specs.declared.taking.Want.TheVariants.{Work}
use Rattle.bc_pins.specs.declared.views.View.{View}
use Rattle.bc_pins.specs.Calls.{IsAt, IsFree, IsSameSeat, IsSameWorker, IsTakeRefused, view_of}
use Rattle.bc_pins.specs.Key.{Key, page_at, pages_of}
use Rattle.bc_pins.specs.Steps.{having_read}
use Rattle.bc_pins.specs.Totals.{times}
use Rattle.bc_pins.specs.Views.{reads_at, reads_of}
use Rattle.bc_pins.proofs.LogLemmas.{reads-append, times-reads}
use Rattle.bc_pins.proofs.TotalLemmas.{one_other, one_same}
use Rattle.bc_superpages.specs.Layout.{Layout}

-- words were read, and no page's as Home
abbrev having_looked : View → List (ℕ × ℕ) → View
having_looked v looks = record v { read = looks ++ v.read }

looks-reads : (v : View) (looks : List (ℕ × ℕ)) → ((q : ℕ) → q < pages_of v.about → times 1 (reads_at q looks) ≡ 0) → ReadsOn v (having_looked v looks)
looks-reads v looks none = record {
  same = refl;
  more = looks;
  read = refl;
  behind = λ q far. (refl, refl);
  others = λ q off. (refl, refl);
  foreign = λ q near off held. let zero_reads = none q near in omega arith;
  fetches = λ q off held. refl;
  returned = λ q more. absurd (omega arith);
  far = λ q past. (refl, refl, refl);
  few = omega arith;
  full = λ word lt. omega arith;
}

looks-passes : (v : View) (looks : List (ℕ × ℕ)) (q : ℕ) → times 1 (reads_at q looks) ≡ 0 → PassesBy v (having_looked v looks) q
looks-passes v looks q none = record { home = (let both = times-reads 1 (page_at q) looks v.read in omega arith); fetched = refl }

-- no frame is free
pub unclaimed-reads : (v w : View) → FindsNoFrame v w → ReadsOn v w
unclaimed-reads v w f = subst (ReadsOn v) (sym f.view) (looks-reads v f.looks (λ q near. ap (times 1) (f.pages q near)))

pub unclaimed-passes : (v w : View) (q : ℕ) → q < pages_of v.about → FindsNoFrame v w → PassesBy v w q
unclaimed-passes v w q near f = subst (λ (x : View). PassesBy v x q) (sym f.view) (looks-passes v f.looks q (ap (times 1) (f.pages q near)))

pub unclaimed-shows : (v w : View) (end : ℕ) (s : Layout) → FindsNoFrame v w → ShowsPages v None end s → ShowsPages w None end s
unclaimed-shows v w end s f shown = shows-besides v w end s (f.view ∙ sym (ap (besides v) f.view)) shown

pub unclaimed-way : (v w : View) (page : ℕ) → FindsNoFrame v w → HasNoWayBack v w page
unclaimed-way v w page f = record { later = f.looks; reads = ap (λ (x : View). x.read) f.view; since = inl (f.pages, f.each) }

-- a frame was claimed, and given back when the page was not Gone any more
empty-length : (l : List ℕ) → length l ≡ 0 → l ≡ []
empty-length [] none = refl
empty-length (n ∷ l) none = absurd (omega arith)

reads-first : (i n : ℕ) (l : List (ℕ × ℕ)) → reads_of i ((i, n) ∷ l) ≡ n ∷ reads_of i l
reads-first i n l = ap (λ (b : Bool). if b then n ∷ reads_of i l else reads_of i l) (eq-eqb i i refl)

empty-list : (l : List ℕ) → ((f : ℕ) → times f l ≡ 0) → l ≡ []
empty-list [] none = refl
empty-list (f ∷ l) none = let one = one_same f in let zero_times = none f in absurd (omega arith)

module _ (v u x w : View) (page frame found : ℕ) (c : HasClaimed v frame u) (read : x ≡ having_read u page found) (g : HasGiven x frame w) (free : v.rights ≡ []) where
  abbrev later : List (ℕ × ℕ)
  later = g.grows.0

  -- the view, but for what was read of frame words
  abbrev looked : View
  looked = having_looked v c.looks

  abbrev tried : View
  tried = having_read looked page found

  had : x.rights ≡ frame ∷ []
  had = ap (λ (y : View). y.rights) read ∙ ap (λ (y : View). y.rights) c.view

  about-x : x.about ≡ v.about
  about-x = ap (λ (y : View). y.about) read ∙ ap (λ (y : View). y.about) c.view

  no-right : (f : ℕ) → times f w.rights ≡ 0
  no-right f = elim (cases_eq f frame) [
    | inl e ↦ ap (λ (n : ℕ). times n w.rights) e ∙ g.none
    | inr ne ↦ let same = g.others f ne in let one = ap (times f) had in let other = one_other frame f (λ e. ne (sym e)) in omega arith
  ]

  rights-none : w.rights ≡ v.rights
  rights-none = empty-list w.rights no-right ∙ sym free

  pub refused-view : w ≡ having_looked tried later
  refused-view =
      g.same
      ∙ ap (λ (l : List ℕ). record x { rights = l; read = w.read }) rights-none
      ∙ ap (λ (l : List (ℕ × ℕ)). record x { rights = v.rights; read = l }) g.grows.1
      ∙ ap (λ (y : View). record y { rights = v.rights; read = later ++ y.read }) read
      ∙ ap (λ (y : View). record (having_read y page found) { rights = v.rights; read = later ++ (having_read y page found).read }) c.view

  none-later : (q : ℕ) → q < pages_of v.about → times 1 (reads_at q later) ≡ 0
  none-later q near =
      let near_x : q < pages_of x.about = subst (λ (k : Key). q < pages_of k) (sym about-x) near in
      let kept = ap (times 1) (g.reads (page_at q) (λ e. absurd (omega arith))) in
      let grown = ap (λ (l : List (ℕ × ℕ)). times 1 (reads_of (page_at q) l)) g.grows.1 in
      let both = times-reads 1 (page_at q) later x.read in
      omega arith

  pub refused-frame-reads : MayReadPage v page → ReadsOn v w
  refused-frame-reads may =
      subst (ReadsOn v) (sym refused-view)
      (then-reads v looked (having_looked tried later) (looks-reads v c.looks (λ q near. ap (times 1) (c.pages q near)))
      (then-reads looked tried (having_looked tried later) (reads-word looked page found may) (looks-reads tried later none-later)))

  pub refused-frame-passes : (q : ℕ) → q < pages_of v.about → q ≢ page → PassesBy v w q
  refused-frame-passes q near ne =
      subst (λ (y : View). PassesBy v y q) (sym refused-view)
      (passes-on v looked (having_looked tried later) q (looks-passes v c.looks q (ap (times 1) (c.pages q near)))
      (passes-on looked tried (having_looked tried later) q (other-read looked page found q ne) (looks-passes tried later q (none-later q near))))

  pub refused-frame-shows : (end : ℕ) (s : Layout) → ShowsPages v None end s → ShowsPages w None end s
  refused-frame-shows end s shown = shows-besides v w end s (refused-view ∙ sym (ap (besides v) refused-view)) shown

  -- the page's word wasn't read since
  unread-later : page < pages_of v.about → reads_at page later ≡ []
  unread-later near =
      let near_x : page < pages_of x.about = subst (λ (k : Key). page < pages_of k) (sym about-x) near in
      let kept = ap (λ (l : List ℕ). length l) (g.reads (page_at page) (λ e. absurd (omega arith))) in
      let grown = ap (λ (l : List (ℕ × ℕ)). length (reads_of (page_at page) l)) g.grows.1 in
      let both = ap (λ (l : List ℕ). length l) (reads-append (page_at page) later x.read) in
      let sum = length-append (reads_of (page_at page) later) (reads_of (page_at page) x.read) in
      empty-length (reads_of (page_at page) later) (omega arith)

  -- where it said Home it was read so, and not since
  pub refused-frame-home : found ≡ 1 → page < pages_of v.about → ReadsHome v w page
  refused-frame-home is near = record {
    between = c.looks;
    later = later;
    reads = subst (λ (n : ℕ). w.read ≡ later ++ (page_at page, n) ∷ (c.looks ++ v.read)) is (ap (λ (y : View). y.read) refused-view);
    once = (c.pages page near, unread-later near);
  }

  -- where it said neither that nor Gone the page has no way back
  pub refused-frame-way : found < 4 → found ≢ 1 → page < pages_of v.about → HasNoWayBack v w page
  refused-frame-way less ne near = record {
    later = later ++ (page_at page, found) ∷ c.looks;
    reads = ap (λ (y : View). y.read) refused-view ∙ sym (append_assoc later ((page_at page, found) ∷ c.looks) v.read);
    since = inr (
      found,
      less,
      ne,
      reads-append (page_at page) later ((page_at page, found) ∷ c.looks)
          ∙ ap (λ (l : List ℕ). l ++ reads_at page ((page_at page, found) ∷ c.looks)) (unread-later near)
          ∙ reads-first (page_at page) found c.looks
          ∙ ap (λ (l : List ℕ). found ∷ l) (c.pages page near),
    );
  }

  pub refused-frame-fetched : w.fetched ≡ v.fetched
  refused-frame-fetched = ap (λ (y : View). y.fetched) refused-view

  pub refused-frame-changed : w.changed ≡ v.changed
  refused-frame-changed = ap (λ (y : View). y.changed) refused-view

-- what a page's word said for which a reload was refused, if not Home
pub other-word : (no : ReloadError) → no ≢ refused.Home → (reload_word no < 4) × (reload_word no ≢ 1)
other-word refused.Busy ne = (omega arith, λ e. omega arith)
other-word refused.Home ne = absurd (ne refl)
other-word refused.Remembered ne = (omega arith, λ e. omega arith)
other-word refused.Absent ne = (omega arith, λ e. omega arith)

-- no box was opened
pub refused-frame-lane : (a b c d : Seat) → IsSameSeat a b → IsSameWorker b c → c.opens ≡ b.opens → IsSameSeat c d → (view_of d).fetched ≡ (view_of a).fetched → IsSameLane a d
refused-frame-lane a b c d x y opens z fetched = record {
  worker = then-worker a c d (then-worker a b c (same-worker a b x) y) (same-worker c d z);
  opens = λ counts. z.opens ∙ opens ∙ x.opens ∙ subst (λ (l : List ℕ). a.opens ≡ min (length l) (2 ^ 64 - 1)) (sym fetched) counts;
}

-- the page was read as Gone, and has no way back
gone-read : (v u w : View) (page : ℕ) → IsNobodysPage v page → IsTakeRefused v page Work Gone u → ReadsOn u w → HasNoWayBack u w page → ReadsFrozenGone v w page
gone-read v u w page is r reads way =
    let looks = refused-looks v u page r in
    let about : w.about ≡ u.about = ap (λ (y : View). y.about) reads.same in
    record {
      frozen = (nobodys-about v w page (about ∙ refused-about v u page Work Gone r) is).0;
      before = looks.0;
      later = way.later;
      gone = way.reads ∙ ap (λ (l : List (ℕ × ℕ)). way.later ++ l) looks.1;
      since = subst (λ (k : Key). FindsNoWayBack k page way.later) (sym about) way.since;
    }

-- or as Home at the next step on its word, and not since
moved-read : (v u w : View) (page : ℕ) → IsNobodysPage v page → IsTakeRefused v page Work Gone u → ReadsOn u w → ReadsHome u w page → ReadsFrozenMoved v w page
moved-read v u w page is r reads home =
    let looks = refused-looks v u page r in
    record {
      frozen = (nobodys-about v w page (ap (λ (y : View). y.about) reads.same ∙ refused-about v u page Work Gone r) is).0;
      before = looks.0;
      between = home.between;
      later = home.later;
      reads = home.reads ∙ ap (λ (l : List (ℕ × ℕ)). home.later ++ (page_at page, 1) ∷ (home.between ++ l)) looks.1;
      once = home.once;
    }

pub gone-or-moved : (v u w : View) (page : ℕ) (why : Stop) → IsNobodysPage v page → IsTakeRefused v page Work Gone u → ReadsOn u w → ((why ≡ stop.Gone page) × HasNoWayBack u w page) ⊎ ((why ≡ stop.Moved page) × ReadsHome u w page)
    → ((why ≡ stop.Gone page) × ReadsFrozenGone v w page) ⊎ ((why ≡ stop.Moved page) × ReadsFrozenMoved v w page)
gone-or-moved v u w page why is r reads (inl gone) = inl (gone.0, gone-read v u w page is r reads gone.1)
gone-or-moved v u w page why is r reads (inr moved) = inr (moved.0, moved-read v u w page is r reads moved.1)

-- a seat tried a page some times, and hasn't got it
pub record HasWaited (pins : Pins) (a b : Seat) (page : ℕ) : Type 0 where
  pub at : IsAt pins b
  pub free : IsFree b
  pub same : IsSameLane a b
  pub still : (end : ℕ) → (s : Layout) → ShowsPages (view_of a) None end s → ShowsPages (view_of b) None end s
  pub reads : ReadsOn (view_of a) (view_of b)
  pub passes : (q : ℕ) → q < pages_of (view_of a).about → q ≢ page → PassesBy (view_of a) (view_of b) q
  pub changed : (view_of b).changed ≡ (view_of a).changed
  pub fetched : (view_of b).fetched ≡ (view_of a).fetched

pub waited-none : (pins : Pins) (a : Seat) (page : ℕ) → IsAt pins a → IsFree a → HasWaited pins a a page
waited-none pins a page at free = record {
  at = at;
  free = free;
  same = same-lane a;
  still = λ end s shown. shown;
  reads = none-reads (view_of a);
  passes = λ q near ne. none-passes (view_of a) q;
  changed = refl;
  fetched = refl;
}

-- once more
pub waited-passes : (pins : Pins) (a b c : Seat) (page : ℕ) → HasWaited pins a b page → ((q : ℕ) → q < pages_of (view_of b).about → q ≢ page → PassesBy (view_of b) (view_of c) q)
    → (q : ℕ) → q < pages_of (view_of a).about → q ≢ page → PassesBy (view_of a) (view_of c) q
waited-passes pins a b c page w passes q near ne =
    passes-on (view_of a) (view_of b) (view_of c) q (w.passes q near ne) (passes q (subst (λ (k : Key). q < pages_of k) (sym w.same.worker.about) near) ne)

pub waited-more : (pins : Pins) (a b c : Seat) (page : ℕ) → HasWaited pins a b page → IsAt pins c → IsFree c → IsSameLane b c → ((end : ℕ) → (s : Layout) → ShowsPages (view_of b) None end s → ShowsPages (view_of c) None end s)
    → ReadsOn (view_of b) (view_of c) → ((q : ℕ) → q < pages_of (view_of b).about → q ≢ page → PassesBy (view_of b) (view_of c) q) → (view_of c).changed ≡ (view_of b).changed → (view_of c).fetched ≡ (view_of b).fetched → HasWaited pins a c page
waited-more pins a b c page w at free same still reads passes changed fetched = record {
  at = at;
  free = free;
  same = then-lane a b c w.same same;
  still = λ end s shown. still end s (w.still end s shown);
  reads = then-reads (view_of a) (view_of b) (view_of c) w.reads reads;
  passes = waited-passes pins a b c page w passes;
  changed = changed ∙ w.changed;
  fetched = fetched ∙ w.fetched;
}

-- what is so of an answer that isn't the page
pub when-busy : (r : Result Held Stop) (A : Type 0) (B : Stop → Type 0) → IfOk r (λ _. ⊥) → IfErr r (λ why. A × B why) → A
when-busy (Ok held) A B none err = absurd none
when-busy (Err why) A B none err = err.0

pub when-still : (r : Result Held Stop) (A : Type 0) → IfOk r (λ _. ⊥) → OnErr r A → A
when-still (Ok held) A none still = absurd none
when-still (Err why) A none still = still
