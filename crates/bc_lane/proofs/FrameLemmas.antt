-- A frame for a page that is gone: it is claimed, or another page leaves for it; and the page comes back into it.
use Rattle.std.proofs.Common.{◌≡◌, ◌≢◌, ℕ, ◌+◌, ◌-◌, ◌*◌, ◌^◌, ◌<◌, ◌≤◌, ◌==◌, true, false, List, [], ◌∷◌, ◌++◌, length, length-append, min, Some, None, inl, inr, refl, ap, sym, subst, ◌∙◌, arith, append_assoc}
use Rattle.std.proofs.lemmas.Bool.{cases_lt}
use Rattle.bc_bits.specs.Counting.{one_if}
use Rattle.bc_evict.specs.Claiming.{FindsNoFrame, HasClaimed, all_bits}
use Rattle.bc_evict.specs.Looking.{MayStay}
use Rattle.bc_evict.specs.Reloading.{HasReloaded}
use Rattle.bc_evict.specs.Victims.{FindsNoVictim, HasFreed, IsPassed}
use Rattle.bc_frames.specs.Places.{one_more}
use Rattle.bc_lane.specs.Shown.{IsFrozenPage, IsOwnPage, MayReadPage, ShowsPages}
use Rattle.bc_lane.specs.Turns.{FindsNoFrameAtAll, FindsNoFrameFor, HasFrame, IsRefusedFrozen, IsRefusedOwn, IsRefusedPage, IsSameLane, ReadsFrozenGone, ReadsFrozenHeld, ReadsFrozenMoved, ReadsHeld, ReadsOn, ShowsNoFrame, full_reads}
use Rattle.bc_lane.specs.declared.stops.Stop.{Stop}
use Rattle.bc_lane.proofs.HandLemmas.{off-page, refused-looks, same-worker, then-worker}
use Rattle.bc_lane.proofs.ReloadLemmas.{HasFetched, HasFetchedFrozen, besides, shows-besides, shows-fetched, shows-fetched_frozen}
use Rattle.bc_pins.specs.declared.holding.Held.{Held}
use Rattle.bc_pins.specs.declared.pins.Seat.{Seat}
use Rattle.bc_pins.specs.declared.taking.TakeError.TheVariants as refusal
use Rattle.bc_pins.specs.declared.taking.Want.TheVariants.{Work}
use Rattle.bc_pins.specs.declared.views.Hand.{Hand}
use Rattle.bc_pins.specs.declared.views.Lodged.TheVariants.{Nothing}
use Rattle.bc_pins.specs.declared.views.View.{View}
use Rattle.bc_pins.specs.Calls.{HoldsPage, IsSameSeat, IsSameWorker, IsTakeRefused, view_of}
use Rattle.bc_pins.specs.Contents.{IsContent, RefersYoung}
use Rattle.bc_pins.specs.Key.{Key, frame_at, frame_words, owner, page_at, pages_of}
use Rattle.bc_pins.specs.Steps.{both_slots}
use Rattle.bc_pins.specs.Totals.{times}
use Rattle.bc_pins.specs.Views.{entries, has_role, opened_content, opened_word, reads_at, reads_of, record_of, state_word}
use Rattle.bc_pins.proofs.LogLemmas.{reads-append, times-reads}
use Rattle.bc_pins.proofs.TotalLemmas.{one_other, one_same}
use Rattle.bc_superpages.specs.declared.headers.PageState.{PageState}
use Rattle.bc_superpages.specs.declared.headers.PageState.TheVariants as state
use Rattle.bc_superpages.specs.Layout.{Layout}

-- a frame was claimed
pub claimed-frame : (v w : View) (frame : ℕ) → HasClaimed v frame w → HasFrame v frame w
claimed-frame v w frame c = record {
  looks = c.looks;
  view = c.view
      ∙ sym (ap (λ (x : View). record v { rights = frame ∷ []; seen = x.seen; gone = x.gone; busy = x.busy; read = c.looks ++ v.read; left = x.left; emptied = x.emptied; bookmarked = x.bookmarked }) c.view);
  gone = λ p. let same = ap (λ (x : View). times p x.gone) c.view in omega arith;
  given = λ p near.
      let left = ap (λ (x : View). times p x.left) c.view in
      let emptied = ap (λ (x : View). times p x.emptied) c.view in
      let none = ap (times 1) (c.pages p near) in
      omega arith;
  far = λ p past. (ap (λ (x : View). times p x.left) c.view, ap (λ (x : View). times p x.emptied) c.view);
  few = (let left = ap (λ (x : View). length x.left) c.view in let emptied = ap (λ (x : View). length x.emptied) c.view in omega arith);
  full = λ word lt. let left = ap (λ (x : View). length x.left) c.view in let emptied = ap (λ (x : View). length x.emptied) c.view in omega arith;
}

-- none was free, and a page left for its frame
module _ (v u w : View) (frame : ℕ) (lanes : v.about.lanes ≡ true) (c : FindsNoFrame v u) (f : HasFreed u frame w) where
  abbrev looks : List (ℕ × ℕ)
  looks = f.looks ++ c.looks

  -- what changed besides what w says
  abbrev from : View → View → View
  from x y = record x { rights = frame ∷ []; seen = y.seen; gone = y.gone; busy = y.busy; read = f.looks ++ x.read; left = y.left; emptied = y.emptied; bookmarked = y.bookmarked }

  same-marks : (w.known ≡ u.known) × (w.won ≡ u.won) × (w.owed ≡ u.owed)
  same-marks = f.unmarked (ap (λ (x : View). x.about.lanes) c.view ∙ lanes)

  view : w ≡ record v { rights = frame ∷ []; seen = w.seen; gone = w.gone; busy = w.busy; read = looks ++ v.read; left = w.left; emptied = w.emptied; bookmarked = w.bookmarked }
  view =
      f.view
      ∙ ap (λ (l : List (ℕ × ℕ)). record (from u w) { known = l; won = w.won; owed = w.owed }) same-marks.0
      ∙ ap (λ (l : List (ℕ × ℕ)). record (from u w) { won = l; owed = w.owed }) same-marks.1
      ∙ ap (λ (l : List ℕ). record (from u w) { owed = l }) same-marks.2
      ∙ ap (λ (x : View). from x w) c.view
      ∙ ap (λ (l : List (ℕ × ℕ)). record (from v w) { read = l }) (sym (append_assoc f.looks c.looks v.read))

  near-page : (p : ℕ) → p < pages_of v.about → p < pages_of u.about
  near-page p near = subst (λ (k : Key). p < pages_of k) (sym (ap (λ (x : View). x.about) c.view)) near

  given : (p : ℕ) → p < pages_of v.about → times p w.left + times p w.emptied ≡ times 1 (reads_at p looks) + (times p v.left + times p v.emptied)
  given p near =
      let home = f.homes p (near-page p near) in
      let both = times-reads 1 (page_at p) f.looks c.looks in
      let none = ap (times 1) (c.pages p near) in
      let left = ap (λ (x : View). times p x.left) c.view in
      let emptied = ap (λ (x : View). times p x.emptied) c.view in
      elim f.one [
        | inl one ↦ let a = ap (times p) one.0 in let b = ap (times p) one.1 in omega arith
        | inr one ↦ let a = ap (times p) one.0 in let b = ap (times p) one.1 in omega arith
      ]

  few : length w.left + length w.emptied ≤ 1 + (length v.left + length v.emptied)
  few =
      let left = ap (λ (x : View). length x.left) c.view in
      let emptied = ap (λ (x : View). length x.emptied) c.view in
      elim f.one [
        | inl one ↦ let a = ap (λ (l : List ℕ). length l) one.0 in let b = ap (λ (l : List ℕ). length l) one.1 in omega arith
        | inr one ↦ let a = ap (λ (l : List ℕ). length l) one.0 in let b = ap (λ (l : List ℕ). length l) one.1 in omega arith
      ]

  full : (word : ℕ) → word < frame_words v.about → length w.left + length w.emptied ≤ full_reads v.about word looks + (length v.left + length v.emptied)
  full word lt =
      let both = times-reads all_bits (frame_at v.about word) f.looks c.looks in
      let once = ap (times all_bits) (c.each word lt) in
      let one = one_same all_bits in
      let most = few in
      omega arith

  far : (p : ℕ) → pages_of v.about ≤ p → (times p w.left ≡ times p v.left) × (times p w.emptied ≡ times p v.emptied)
  far p past =
      let past_u = subst (λ (k : Key). pages_of k ≤ p) (sym (ap (λ (x : View). x.about) c.view)) past in
      let inside = f.inside in
      let other = one_other f.page p (λ e. absurd (omega arith)) in
      let left = ap (λ (x : View). times p x.left) c.view in
      let emptied = ap (λ (x : View). times p x.emptied) c.view in
      elim f.one [
        | inl one ↦ let a = ap (times p) one.0 in let b = ap (times p) one.1 in (omega arith, omega arith)
        | inr one ↦ let a = ap (times p) one.0 in let b = ap (times p) one.1 in (omega arith, omega arith)
      ]

  pub freed-frame : HasFrame v frame w
  freed-frame = record {
    looks = looks;
    view = view;
    gone = λ p. let more = f.gone p in let same = ap (λ (x : View). times p x.gone) c.view in omega arith;
    given = given;
    far = far;
    few = few;
    full = full;
  }

-- or no page could leave
module _ (v u w : View) (c : FindsNoFrame v u) (f : FindsNoVictim u w) where
  abbrev none-looks : List (ℕ × ℕ)
  none-looks = f.looks ++ c.looks

  none-about : w.about ≡ v.about
  none-about = ap (λ (x : View). x.about) f.looked.view ∙ ap (λ (x : View). x.about) c.view

  none-view : w ≡ record v { read = none-looks ++ v.read; seen = w.seen; gone = w.gone; busy = w.busy }
  none-view =
      f.looked.view
      ∙ ap (λ (x : View). record x { read = f.looks ++ x.read; seen = w.seen; gone = w.gone; busy = w.busy }) c.view
      ∙ ap (λ (l : List (ℕ × ℕ)). record v { read = l; seen = w.seen; gone = w.gone; busy = w.busy }) (sym (append_assoc f.looks c.looks v.read))

  none-frames : (word : ℕ) → word < frame_words v.about → reads_of (frame_at v.about word) none-looks ≡ all_bits ∷ []
  none-frames word lt =
      let same = ap (λ (x : View). x.about) c.view in
      reads-append (frame_at v.about word) f.looks c.looks
      ∙ ap (λ (l : List ℕ). l ++ reads_of (frame_at v.about word) c.looks)
      (f.looked.words (frame_at v.about word) (subst (λ (k : Key). 16 * k.supers ≤ frame_at v.about word) (sym same) (omega arith)))
      ∙ c.each word lt

  none-pages : (q : ℕ) → q < pages_of v.about → IsPassed none-looks q
  none-pages q near =
      let p = f.each q (subst (λ (k : Key). q < pages_of k) (sym (ap (λ (x : View). x.about) c.view)) near) in (
        p.0,
        p.1,
        reads-append (page_at q) f.looks c.looks ∙ ap (λ (l : List ℕ). l ++ reads_of (page_at q) c.looks) p.2
            ∙ ap (λ (l : List ℕ). state_word p.0 ∷ l) (c.pages q near),
      )

  pub finds-none : FindsNoFrameAtAll v w
  finds-none = record {
    looks = none-looks;
    view = none-view;
    gone = λ p. let more = f.looked.gone p in let same = ap (λ (x : View). times p x.gone) c.view in omega arith;
    none = record { frames = none-frames; pages = none-pages };
  }

-- where a page was looked at so it wasn't Home
stays-away : (place : PageState) → MayStay place → state_word place ≢ 1
stays-away state.Absent may e = absurd (omega arith)
stays-away state.Home may e = may
stays-away state.Remembered may e = absurd (omega arith)
stays-away state.Held may e = absurd (omega arith)
stays-away state.Gone may e = absurd (omega arith)

pub none-home : (k : Key) (looks : List (ℕ × ℕ)) (q : ℕ) → ShowsNoFrame k looks → q < pages_of k → times 1 (reads_at q looks) ≡ 0
none-home k looks q none near =
    let p = none.pages q near in
    let once = ap (times 1) p.2 in
    let other = one_other (state_word p.0) 1 (stays-away p.0 p.1) in
    omega arith

-- a seat that found none has read on, and shows what it showed
pub none-found-reads : (v w : View) → FindsNoFrameAtAll v w → ReadsOn v w
none-found-reads v w a = record {
  same = a.view
      ∙ sym (ap (λ (x : View). record v { hand = x.hand; changed = x.changed; recorded = x.recorded; returned = x.returned; seen = x.seen; gone = x.gone; busy = x.busy; read = x.read; left = x.left; emptied = x.emptied; fetched = x.fetched; bookmarked = x.bookmarked }) a.view);
  more = a.looks;
  read = ap (λ (x : View). x.read) a.view;
  behind = λ q far. (ap (λ (x : View). entries q x.changed) a.view, ap (λ (x : View). times q x.recorded) a.view);
  others = λ q none. (ap (λ (x : View). entries q x.changed) a.view, ap (λ (x : View). times q x.recorded) a.view);
  foreign = λ q near none held.
      let zero_reads = none-home v.about a.looks q a.none near in
      let left = ap (λ (x : View). times q x.left) a.view in
      let emptied = ap (λ (x : View). times q x.emptied) a.view in
      omega arith;
  fetches = λ q none held. ap (λ (x : View). times q x.fetched) a.view;
  returned = λ q more. let same = ap (λ (x : View). times q x.returned) a.view in absurd (omega arith);
  far = λ q past. (ap (λ (x : View). times q x.left) a.view, ap (λ (x : View). times q x.emptied) a.view, ap (λ (x : View). times q x.fetched) a.view);
  few = (
      let left = ap (λ (x : View). length x.left) a.view in
      let emptied = ap (λ (x : View). length x.emptied) a.view in
      let fetched = ap (λ (x : View). length x.fetched) a.view in
      omega arith
      );
  full = λ word lt. let left = ap (λ (x : View). length x.left) a.view in let emptied = ap (λ (x : View). length x.emptied) a.view in omega arith;
}

pub none-found-shows : (v w : View) (end : ℕ) (s : Layout) → FindsNoFrameAtAll v w → ShowsPages v None end s → ShowsPages w None end s
none-found-shows v w end s a shown =
    shows-besides v w end s
    (a.view ∙ sym (ap (λ (x : View). besides v x) a.view))
    shown

-- so a page that was read as Gone before has no frame
pub no-frame-for : (v u w : View) (page : ℕ) → IsTakeRefused v page Work refusal.Gone u → u.hand ≡ None → u.rights ≡ [] → FindsNoFrameAtAll u w → 0 < times page u.gone → FindsNoFrameFor v w page
no-frame-for v u w page refused hands free a noted =
    let r = refused-looks v u page refused in
    record { ready = u; before = r.0; gone = r.1; hands = hands; rights = free; none = a; noted = (let more = a.gone page in omega arith) }

-- what was read since a view was read since an earlier one
pub held-since : (u v w : View) (page : ℕ) → ReadsOn u v → ReadsHeld v w page → ReadsHeld u w page
held-since u v w page reads held = record {
  last = held.last;
  since = (let long = ap (λ (l : List (ℕ × ℕ)). length l) reads.read in let both = length-append reads.more u.read in let since = held.since in omega arith);
  noted = held.noted;
}

pub no-frame-since : (u v w : View) (page : ℕ) → ReadsOn u v → FindsNoFrameFor v w page → FindsNoFrameFor u w page
no-frame-since u v w page reads f = record {
  ready = f.ready;
  before = f.before ++ reads.more;
  gone = f.gone ∙ ap (λ (l : List (ℕ × ℕ)). (page_at page, 4) ∷ (f.before ++ l)) reads.read ∙ ap (λ (l : List (ℕ × ℕ)). (page_at page, 4) ∷ l) (sym (append_assoc f.before reads.more u.read));
  hands = f.hands;
  rights = f.rights;
  none = f.none;
  noted = f.noted;
}

pub frozen-since : (u v w : View) (page : ℕ) → ReadsOn u v → ReadsFrozenHeld v w page → ReadsFrozenHeld u w page
frozen-since u v w page reads held = record {
  frozen = held.frozen;
  last = held.last;
  since = (let long = ap (λ (l : List (ℕ × ℕ)). length l) reads.read in let both = length-append reads.more u.read in let since = held.since in omega arith);
}

pub gone-since : (u v w : View) (page : ℕ) → ReadsOn u v → ReadsFrozenGone v w page → ReadsFrozenGone u w page
gone-since u v w page reads gone = record {
  frozen = gone.frozen;
  before = gone.before ++ reads.more;
  later = gone.later;
  gone = gone.gone ∙ ap (λ (l : List (ℕ × ℕ)). gone.later ++ (page_at page, 4) ∷ (gone.before ++ l)) reads.read
      ∙ ap (λ (l : List (ℕ × ℕ)). gone.later ++ (page_at page, 4) ∷ l) (sym (append_assoc gone.before reads.more u.read));
  since = gone.since;
}

pub moved-since : (u v w : View) (page : ℕ) → ReadsOn u v → ReadsFrozenMoved v w page → ReadsFrozenMoved u w page
moved-since u v w page reads moved = record {
  frozen = moved.frozen;
  before = moved.before ++ reads.more;
  between = moved.between;
  later = moved.later;
  reads = moved.reads ∙ ap (λ (l : List (ℕ × ℕ)). moved.later ++ (page_at page, 1) ∷ (moved.between ++ (page_at page, 4) ∷ (moved.before ++ l))) reads.read
      ∙ ap (λ (l : List (ℕ × ℕ)). moved.later ++ (page_at page, 1) ∷ (moved.between ++ (page_at page, 4) ∷ l)) (sym (append_assoc moved.before reads.more u.read));
  once = moved.once;
}

own-since-then : (u v w : View) (page : ℕ) (why : Stop) → ReadsOn u v → IsRefusedOwn v w page why → IsRefusedOwn u w page why
own-since-then u v w page why reads refused = elim refused [
  | inl busy ↦ inl (busy.0, held-since u v w page reads busy.1)
  | inr none ↦ inr (none.0, no-frame-since u v w page reads none.1)
]

pub frozen-since-then : (u v w : View) (page : ℕ) (why : Stop) → ReadsOn u v → IsRefusedFrozen v w page why → IsRefusedFrozen u w page why
frozen-since-then u v w page why reads refused = elim refused [
  | inl busy ↦ inl (busy.0, frozen-since u v w page reads busy.1)
  | inr away ↦ elim away [
    | inl gone ↦ inr (inl (gone.0, gone-since u v w page reads gone.1))
    | inr moved ↦ inr (inr (moved.0, moved-since u v w page reads moved.1))
  ]
]

pub refused-since-then : (u v w : View) (page : ℕ) (why : Stop) → ReadsOn u v → IsRefusedPage v w page why → IsRefusedPage u w page why
refused-since-then u v w page why reads refused = elim refused [
  | inl own ↦ inl (own-since-then u v w page why reads own)
  | inr frozen ↦ inr (frozen-since-then u v w page why reads frozen)
]

-- the page came back into the frame that was found
module _ (v u : View) (seat : Seat) (page frame : ℕ) (held : Held) (f : HasFrame v frame u) (r : HasReloaded u page frame seat held) where
  abbrev w : View
  w = view_of seat

  abbrev hand : Hand
  hand = record { page = page; remembered = false; frame = frame; content = held.homed.page; counted = []; marked = [] }

  abbrev now : View
  now = record v { rights = []; seen = u.seen; gone = w.gone; busy = w.busy; read = (r.looks ++ f.looks) ++ v.read; left = u.left; emptied = u.emptied; bookmarked = u.bookmarked; fetched = page ∷ v.fetched; hand = Some hand }

  -- the view, said of the one before the frame was found
  is-now : w ≡ now
  is-now =
      r.view
      ∙ ap (λ (x : View). record u { read = r.looks ++ u.read; hand = Some hand; rights = []; gone = x.gone; busy = x.busy; fetched = page ∷ u.fetched }) (sym r.view)
      ∙ ap (λ (x : View). record x { read = r.looks ++ x.read; hand = Some hand; rights = []; gone = w.gone; busy = w.busy; fetched = page ∷ x.fetched }) f.view
      ∙ ap (λ (l : List (ℕ × ℕ)). record now { read = l }) (sym (append_assoc r.looks f.looks v.read))

  about-u : u.about ≡ v.about
  about-u = ap (λ (x : View). x.about) f.view

  mine : held.homed.page ≡ record_of v page
  mine = r.fetches.mine ∙ ap (λ (x : View). record_of x page) f.view

  quiet : one_if (opened_word v.about page == 2) + times page v.recorded ≡ 0
  quiet = subst (λ (x : View). one_if (opened_word x.about page == 2) + times page x.recorded ≡ 0) f.view r.fetches.quiet

  fixed : IsContent v.about.opening page held.homed.page
  fixed = subst (λ (k : Key). IsContent k.opening page held.homed.page) about-u r.fetches.fixed

  old : RefersYoung v.about.opening page held.homed.page → ⊥
  old = subst (λ (k : Key). RefersYoung k.opening page held.homed.page → ⊥) about-u r.fetches.old

  has-fetched : IsOwnPage v page → HasFetched v w held
  has-fetched own = record {
    hand = hand;
    view = is-now ∙ sym (ap (λ (x : View). record (besides v x) { hand = Some hand }) is-now);
    page_is = sym r.is;
    frame = sym r.frame_is;
    counted = refl;
    marked = refl;
    flag = refl;
    remembered = r.quiet;
    own = subst (IsOwnPage v) (sym r.is) own;
    mine = subst (λ (p : ℕ). held.homed.page ≡ record_of v p) (sym r.is) mine;
    fixed = subst (λ (p : ℕ). IsContent v.about.opening p held.homed.page) (sym r.is) fixed;
    old = subst (λ (p : ℕ). RefersYoung v.about.opening p held.homed.page → ⊥) (sym r.is) old;
    quiet = subst (λ (p : ℕ). one_if (opened_word v.about p == 2) + times p v.recorded ≡ 0) (sym r.is) quiet;
  }

  pub reloaded-shows : (end : ℕ) (s : Layout) → IsOwnPage v page → ShowsPages v None end s → ShowsPages w (Some held) end s
  reloaded-shows end s own shown = shows-fetched v w held end s (has-fetched own) shown

  has-fetched_frozen : IsFrozenPage v page → has_role v (owner v.about page) ≡ 0 → HasFetchedFrozen v w held
  has-fetched_frozen is none =
      let opened : held.homed.page ≡ opened_content v.about page =
      r.fetches.unowned (ap (λ (k : Key). owner k page) about-u ∙ is) ∙ ap (λ (k : Key). opened_content k page) about-u in
      record {
        hand = hand;
        view = is-now ∙ sym (ap (λ (x : View). record (besides v x) { hand = Some hand }) is-now);
        page_is = sym r.is;
        frame = sym r.frame_is;
        counted = refl;
        marked = refl;
        taken = refl;
        flag = r.quiet;
        frozen = ap (owner v.about) r.is ∙ is;
        unowned = ap (λ (p : ℕ). has_role v (owner v.about p)) r.is ∙ none;
        opened = opened ∙ sym (ap (opened_content v.about) r.is);
        fixed = subst (λ (p : ℕ). IsContent v.about.opening p held.homed.page) (sym r.is) fixed;
        old = subst (λ (p : ℕ). RefersYoung v.about.opening p held.homed.page → ⊥) (sym r.is) old;
      }

  pub reloaded-shows_frozen : (end : ℕ) (s : Layout) → IsFrozenPage v page → ShowsPages v None end s → ShowsPages w (Some held) end s
  reloaded-shows_frozen end s is shown = elim (cases_lt 0 (has_role v (owner v.about page))) [
    | inl own ↦ reloaded-shows end s own shown
    | inr none ↦ shows-fetched_frozen v w held end s (has-fetched_frozen is (omega arith)) shown
  ]

  pub reloaded-holds : page < pages_of v.about → HoldsPage seat held
  reloaded-holds near =
      let about_w : w.about ≡ v.about = ap (λ (x : View). x.about) is-now in
      record {
        hand = hand;
        has = ap (λ (x : View). x.hand) is-now;
        page = sym r.is;
        inside = subst (λ (p : ℕ). p < pages_of w.about) (sym r.is) (subst (λ (k : Key). page < pages_of k) (sym about_w) near);
        frame = sym r.frame_is;
        slots = r.slots ∙ slots-at;
      }
    where
      slots-at : both_slots u.about page Nothing Nothing ≡ both_slots w.about held.page Nothing Nothing
      slots-at =
          ap (λ (k : Key). both_slots k page Nothing Nothing) (about-u ∙ sym (ap (λ (x : View). x.about) is-now))
          ∙ ap (λ (p : ℕ). both_slots w.about p Nothing Nothing) (sym r.is)

  pub reloaded-reads : v.rights ≡ [] → MayReadPage v page → page < pages_of v.about → ReadsOn v w
  reloaded-reads none may near = record {
    same =
        let first = is-now ∙ ap (λ (l : List ℕ). record now { rights = l }) (sym none) in
        first
        ∙ sym (ap (λ (x : View). record v { hand = x.hand; changed = x.changed; recorded = x.recorded; returned = x.returned; seen = x.seen; gone = x.gone; busy = x.busy; read = x.read; left = x.left; emptied = x.emptied; fetched = x.fetched; bookmarked = x.bookmarked }) first);
    more = r.looks ++ f.looks;
    read = ap (λ (x : View). x.read) is-now;
    behind = λ q far. (ap (λ (x : View). entries q x.changed) is-now, ap (λ (x : View). times q x.recorded) is-now);
    others = λ q off. (ap (λ (x : View). entries q x.changed) is-now, ap (λ (x : View). times q x.recorded) is-now);
    foreign = λ q inside off some.
        let given = f.given q inside in
        let left = ap (λ (x : View). times q x.left) is-now in
        let emptied = ap (λ (x : View). times q x.emptied) is-now in
        let both = times-reads 1 (page_at q) r.looks f.looks in
        let none_read = ap (times 1) (r.others q (subst (λ (k : Key). q < pages_of k) (sym about-u) inside) (off-page v page q may off some)) in
        omega arith;
    fetches = λ q off some.
        let fetched = ap (λ (x : View). times q x.fetched) is-now in
        let other = one_other page q (λ e. off-page v page q may off some (sym e)) in
        omega arith;
    returned = λ q more. let same = ap (λ (x : View). times q x.returned) is-now in absurd (omega arith);
    far = λ q past.
        let past_here = f.far q past in
        let other = one_other page q (λ e. absurd (omega arith)) in
        let fetched = ap (λ (x : View). times q x.fetched) is-now in
        (ap (λ (x : View). times q x.left) is-now ∙ past_here.0, ap (λ (x : View). times q x.emptied) is-now ∙ past_here.1, omega arith);
    few = (
        let given = f.few in
        let left = ap (λ (x : View). length x.left) is-now in
        let emptied = ap (λ (x : View). length x.emptied) is-now in
        let fetched = ap (λ (x : View). length x.fetched) is-now in
        omega arith
        );
    full = λ word lt.
        let given = f.full word lt in
        let left = ap (λ (x : View). length x.left) is-now in
        let emptied = ap (λ (x : View). length x.emptied) is-now in
        let both = times-reads all_bits (frame_at v.about word) r.looks f.looks in
        omega arith;
  }

-- a box was opened, and counted
pub reloaded-lane : (a b c : Seat) (page frame : ℕ) (held : Held) → HasFrame (view_of a) frame (view_of b) → HasReloaded (view_of b) page frame c held → IsSameSeat a b → IsSameWorker b c → c.opens ≡ one_more b.opens → IsSameLane a c
reloaded-lane a b c page frame held f r same worker opened = record {
  worker = then-worker a b c (same-worker a b same) worker;
  opens = λ counts.
      let fetched = ap (λ (x : View). length x.fetched) (is-now (view_of a) (view_of b) c page frame held f r) in
      let before = same.opens in
      let was : a.opens ≡ min (length (view_of a).fetched) (2 ^ 64 - 1) = counts in
      let more : c.opens ≡ min (b.opens + 1) (2 ^ 64 - 1) = opened in
      let goal_is : c.opens ≡ min (length (view_of c).fetched) (2 ^ 64 - 1) = omega arith in
      goal_is;
}
