-- A page that a seat takes to give it up for its frame, and pages that it couldn't have.
use Rattle.std.proofs.Common.{◌≡◌, ◌≢◌, ℕ, ◌+◌, ◌<◌, ◌≤◌, ◌⊎◌, ◌==◌, Bool, true, false, if◌then◌else◌, List, [], ◌∷◌, ◌++◌, inl, inr, Option, Some, None, refl, ap, sym, subst, ◌∙◌, arith, append_assoc}
use Rattle.std.proofs.lemmas.Bool.{cases_eq, eq-eqb, ne_eqb}
use Rattle.std.proofs.lemmas.Option.{same_Some}
use Rattle.bc_bits.specs.Counting.{one_if}
use Rattle.bc_superpages.specs.declared.headers.PageState.{PageState}
use Rattle.bc_superpages.specs.declared.headers.PageState.TheVariants as state
use Rattle.bc_bookmarks.specs.Targets.{HasCell}
use Rattle.bc_evict.specs.Evicting.{MayBookmark, MayDiscard, given_up, discarded}
use Rattle.bc_evict.specs.Marking.{HasBookmarked}
use Rattle.bc_evict.specs.Victims.{HasFreed, HasTakenAny, HasPassedUpTo, FindsNoVictim, IsPassed}
use Rattle.bc_evict.specs.Looking.{MayStay, TookNone, steps_behind}
use Rattle.bc_evict.proofs.LookLemmas.{looked-none, looked-then, looked-once, never_one, refused_view, none_later}
use Rattle.bc_evict.proofs.RoundLemmas.{one_place, has_place}
use Rattle.bc_evict.proofs.BookmarkLemmas.{may-bookmark}
use Rattle.bc_pins.specs.declared.holding.Held.{Held}
use Rattle.bc_pins.specs.declared.pins.Seat.{Seat}
use Rattle.bc_pins.specs.declared.views.Hand.{Hand}
use Rattle.bc_pins.specs.declared.views.View.{View}
use Rattle.bc_pins.specs.declared.taking.Want.TheVariants.{Victim}
use Rattle.bc_pins.specs.declared.taking.TakeError.{TakeError}
use Rattle.bc_pins.specs.declared.taking.TakeError.TheVariants as refusal
use Rattle.bc_pins.specs.Key.{Key, pages_of, page_at}
use Rattle.bc_pins.specs.Totals.{times}
use Rattle.bc_pins.specs.Views.{reads_of, reads_at, state_word}
use Rattle.bc_pins.specs.Contents.{IsBarePage}
use Rattle.bc_pins.specs.Steps.{Takes}
use Rattle.bc_pins.specs.Calls.{view_of, HoldsPage, Grasps, IsTakeRefused, refusal_word}
use Rattle.bc_pins.proofs.LogLemmas.{reads-else, reads-here, pages-else, times-reads}
use Rattle.bc_pins.proofs.VisitLemmas.{holds_taken, may_put_taken}
use Rattle.bc_evict.specs.declared.walking.Kind.{Kind}
use Rattle.bc_evict.specs.Taking.{HasLooked, IsOfKind, IsTakenFor}

-- a page that was taken is in hand, and may be given up as its kind says
module _ (k : Key) (kind : Kind) (u : View) (seat : Seat) (held : Held) (t : IsTakenFor k kind u seat held) (about : u.about ≡ k) where
  takes : Takes u held.page held.remembered held.homed
  takes = subst (λ (b : Bool). Takes u held.page b held.homed) (sym t.quiet) t.takes

  in_hand : (hand : Hand) → (view_of seat).hand ≡ Some hand
      → hand ≡ record { page = held.page; remembered = held.remembered; frame = held.homed.frame; content = held.homed.page; counted = []; marked = [] }
  in_hand hand has = same_Some hand _ (sym has ∙ ap (λ (w : View). w.hand) t.grasps.view)

  about_now : (view_of seat).about ≡ k
  about_now = ap (λ (w : View). w.about) t.grasps.view ∙ about

  pub taken-held : HoldsPage seat held
  taken-held = holds_taken u seat held.page held t.grasps (subst (λ (x : Key). held.page < pages_of x) (sym about) t.inside)

  pub taken-rights : u.rights ≡ [] → (view_of seat).rights ≡ []
  taken-rights none = ap (λ (w : View). w.rights) t.grasps.view ∙ none

  pub taken-bare : IsBarePage k.opening held.page → MayDiscard seat held
  taken-bare bare =
      let was = may_put_taken u seat held.page held t.grasps takes in
      record {
        as_taken = record {
          content = λ hand has. ap (λ (h : Hand). h.content) (in_hand hand has);
          taken = λ hand has. ap (λ (h : Hand). h.remembered) (in_hand hand has) ∙ t.quiet;
          quiet = t.quiet;
        };
        unmarked = record { counted = was.counted; marked = was.marked };
        bare = subst (λ (x : Key). IsBarePage x.opening held.page) (sym about_now) bare;
      }

  pub taken-filled : HasCell k.opening held.page → MayBookmark seat held
  taken-filled there = may-bookmark u seat held.page held t.grasps takes t.quiet (subst (λ (x : Key). HasCell x.opening held.page) (sym about) there)

-- where a page may be that was refused as a victim
passed_at : (no : TakeError) → (st : PageState) × MayStay st × (state_word st ≡ refusal_word no)
passed_at refusal.Absent = (state.Absent, tt, refl)
passed_at refusal.Remembered = (state.Remembered, tt, refl)
passed_at refusal.Busy = (state.Held, tt, refl)
passed_at refusal.Gone = (state.Gone, tt, refl)

-- no page was tried yet, and one more was, going round
pub passed-none : (k : Key) (v : View) (start : ℕ) → HasPassedUpTo k start 0 v v
passed-none k v start = record { looks = []; looked = looked-none k v; each = λ p lt less. absurd (omega arith); unread = λ p lt le. refl }

pub passed-more : (k : Key) (start steps page : ℕ) (v u w : View) (why : TakeError) → start < pages_of k → page < pages_of k → steps_behind (pages_of k) start page ≡ steps → HasPassedUpTo k start steps v u → IsTakeRefused u page Victim why w
    → HasPassedUpTo k start (steps + 1) v w
passed-more k start steps page v u w why lt_start lt_page place up r = record {
  looks = (page_at page, refusal_word why) ∷ up.looks;
  looked = looked-then k v u w up.looks ((page_at page, refusal_word why) ∷ []) up.looked (looked-once k u w page (refusal_word why) lt_page (never_one why) (refused_view u w page why r));
  each = λ q lt less. elim (cases_eq page q) [
    | inl e ↦
        let behind : steps_behind (pages_of k) start q ≡ steps = ap (steps_behind (pages_of k) start) (sym e) ∙ place in
        let at = passed_at why in (
          at.0,
          at.1,
          ap (λ (b : Bool). if b then refusal_word why ∷ reads_of (page_at q) up.looks else reads_of (page_at q) up.looks) (eq-eqb (page_at page) (page_at q) (ap page_at e))
              ∙ ap (λ (l : List ℕ). refusal_word why ∷ l) (up.unread q lt (omega arith)) ∙ ap (λ (n : ℕ). n ∷ []) (sym at.2),
        )
    | inr ne ↦
        let old = up.each q lt (before q lt ne less) in
        (old.0, old.1, reads-else (page_at q) (page_at page) (refusal_word why) up.looks (λ e. ne (omega arith)) ∙ old.2)
  ];
  unread = λ q lt le.
      reads-else (page_at q) (page_at page) (refusal_word why) up.looks
      (λ e. let same : q ≡ page = omega arith in let behind : steps_behind (pages_of k) start q ≡ steps = ap (steps_behind (pages_of k) start) same ∙ place in omega arith)
      ∙ up.unread q lt (omega arith);
}
  where
    before : (q : ℕ) → q < pages_of k → page ≢ q → steps_behind (pages_of k) start q < steps + 1 → steps_behind (pages_of k) start q < steps
    before q lt ne less = elim (cases_eq (steps_behind (pages_of k) start q) steps) [
      | inl e ↦ absurd (ne (sym (one_place (pages_of k) start q page lt_start lt lt_page (e ∙ sym place))))
      | inr other ↦ omega arith
    ]

-- all were
pub passed-all : (k : Key) (start steps : ℕ) (v w : View) → v.about ≡ k → pages_of k ≤ steps → (0 < pages_of k → start < pages_of k) → HasPassedUpTo k start steps v w → FindsNoVictim v w
passed-all k start steps v w about all begins p = record {
  looks = p.looks;
  looked = subst (λ (x : Key). HasLooked x v w p.looks) (sym about) p.looked;
  each = λ q less.
      let lt : q < pages_of k = subst (λ (x : Key). q < pages_of x) about less in
      p.each q lt (let behind = has_place (pages_of k) start q (begins (omega arith)) lt in omega arith);
}

-- one that was taken after them
pub any-taken : (k : Key) (start steps : ℕ) (v u : View) (seat : Seat) (held : Held) (page : ℕ) → HasPassedUpTo k start steps v u → page < pages_of k → held.remembered ≡ false → Grasps u seat page held → Takes u page held.remembered held.homed
    → HasTakenAny k v seat held
any-taken k start steps v u seat held page p lt quiet grasps takes = record {
  ready = u;
  looks = p.looks;
  looked = p.looked;
  inside = subst (λ (n : ℕ). n < pages_of k) (sym grasps.is) lt;
  quiet = quiet;
  grasps = subst (λ (n : ℕ). Grasps u seat n held) (sym grasps.is) grasps;
  takes = subst (λ (b : Bool). Takes u held.page b held.homed) quiet (subst (λ (n : ℕ). Takes u n held.remembered held.homed) (sym grasps.is) takes);
}

-- the page is read as Home once, and no other is
homes_once : (k : Key) (looks : List (ℕ × ℕ)) (page p : ℕ) → TookNone k looks → p < pages_of k → times 1 (reads_at p ((page_at page, 1) ∷ looks)) ≡ one_if (page == p)
homes_once k looks page p none lt = elim (cases_eq page p) [
  | inl e ↦
      let here : times 1 (reads_at p ((page_at page, 1) ∷ looks)) ≡ 1 + times 1 (reads_at p looks) = ap (λ (n : ℕ). times 1 (reads_at p ((page_at n, 1) ∷ looks))) e ∙ reads-here (page_at p) 1 1 looks in
      let z = none p lt in
      let one : one_if (page == p) ≡ 1 = ap one_if (eq-eqb page p e) in
      omega arith
  | inr ne ↦
      let else_same = pages-else page p 1 1 looks (λ e. ne (sym e)) in
      let z = none p lt in
      let off : one_if (page == p) ≡ 0 = ap one_if (ne_eqb page p ne) in
      omega arith
]

-- a page that could be taken was taken by a seat that had nothing in hand and no right
module _ (k : Key) (v : View) (seat : Seat) (held : Held) (t : HasTakenAny k v seat held) (about : v.about ≡ k) where
  ready_about : t.ready.about ≡ k
  ready_about = ap (λ (x : View). x.about) t.looked.view ∙ about

  abbrev as_kind : Kind → Type 0
  as_kind kind = IsTakenFor k kind t.ready seat held

  of_kind : (kind : Kind) → IsOfKind k kind held.page → as_kind kind
  of_kind kind is = record { inside = t.inside; is_kind = is; quiet = t.quiet; grasps = t.grasps; takes = t.takes }

  pub any-held : (kind : Kind) → IsOfKind k kind held.page → HoldsPage seat held
  any-held kind is = taken-held k kind t.ready seat held (of_kind kind is) ready_about

  pub any-rights : v.rights ≡ [] → (view_of seat).rights ≡ []
  any-rights none = ap (λ (w : View). w.rights) t.grasps.view ∙ ap (λ (w : View). w.rights) t.looked.view ∙ none

  pub any-bare : (kind : Kind) → IsOfKind k kind held.page → IsBarePage k.opening held.page → MayDiscard seat held
  any-bare kind is = taken-bare k kind t.ready seat held (of_kind kind is) ready_about

  pub any-filled : (kind : Kind) → IsOfKind k kind held.page → HasCell k.opening held.page → MayBookmark seat held
  any-filled kind is = taken-filled k kind t.ready seat held (of_kind kind is) ready_about

  module _ (nothing : v.hand ≡ None) (none : v.rights ≡ []) (frame : ℕ) (same : frame ≡ held.homed.frame) where
    right_is : held.homed.frame ∷ v.rights ≡ frame ∷ []
    right_is = ap (λ (l : List ℕ). held.homed.frame ∷ l) none ∙ ap (λ (f : ℕ). f ∷ []) (sym same)

    abbrev emptying : View
    emptying = record v { rights = frame ∷ []; read = (page_at held.page, 1) ∷ (t.looks ++ v.read); seen = t.ready.seen; gone = t.ready.gone; busy = t.ready.busy; emptied = held.page ∷ v.emptied }

    emptied_full : (w : View) → w ≡ discarded (view_of seat) held → w ≡ emptying
    emptied_full w is =
        is
        ∙ ap (λ (x : View). record x { hand = None; emptied = held.page ∷ x.emptied; rights = held.homed.frame ∷ x.rights }) t.grasps.view
        ∙ ap (λ (b : Bool). record t.ready { read = (page_at held.page, if b then 2 else 1) ∷ t.ready.read; hand = None; emptied = held.page ∷ t.ready.emptied; rights = held.homed.frame ∷ t.ready.rights }) t.quiet
        ∙ ap (λ (x : View). record x { read = (page_at held.page, 1) ∷ x.read; hand = None; emptied = held.page ∷ x.emptied; rights = held.homed.frame ∷ x.rights }) t.looked.view
        ∙ ap (λ (h : Option Hand). record emptying { hand = h; rights = held.homed.frame ∷ v.rights }) (sym nothing)
        ∙ ap (λ (l : List ℕ). record emptying { rights = l }) right_is

    pub freed-bare : (w : View) → w ≡ discarded (view_of seat) held → frame < w.about.frames → HasFreed v frame w
    freed-bare w is within =
        let full = emptied_full w is in
        record {
          looks = (page_at held.page, 1) ∷ t.looks;
          view = subst
              (λ (x : View). x
              ≡ record v { rights = frame ∷ []; read = (page_at held.page, 1) ∷ (t.looks ++ v.read); seen = x.seen; gone = x.gone; busy = x.busy; left = x.left; emptied = x.emptied; bookmarked = x.bookmarked; known = x.known; won = x.won; owed = x.owed }) (sym full) refl;
          within = subst (λ (x : Key). frame < x.frames) (ap (λ (x : View). x.about) full) within;
          page = held.page;
          inside = subst (λ (x : Key). held.page < pages_of x) (sym about) t.inside;
          one = inl (ap (λ (x : View). x.emptied) full, ap (λ (x : View). x.left) full);
          homes = λ p less. homes_once k t.looks held.page p t.looked.none (subst (λ (x : Key). p < pages_of x) about less);
          gone = λ p. subst (λ (l : List ℕ). times p v.gone ≤ times p l) (sym (ap (λ (x : View). x.gone) full)) (t.looked.gone p);
          less = λ p. let same = ap (λ (x : View). times p x.owed) full in omega arith;
          unmarked = λ turn. (ap (λ (x : View). x.known) full, ap (λ (x : View). x.won) full, ap (λ (x : View). x.owed) full);
        }

    module _ (hand : Hand) (b : View) (marked : HasBookmarked (view_of seat) hand b) where
      abbrev later : List (ℕ × ℕ)
      later = marked.reads.grows.0

      abbrev filled_looks : List (ℕ × ℕ)
      filled_looks = later ++ ((page_at held.page, 1) ∷ t.looks)

      reads_are : b.read ≡ filled_looks ++ v.read
      reads_are =
          marked.reads.grows.1
          ∙ ap (λ (x : View). later ++ x.read) t.grasps.view
          ∙ ap (λ (c : Bool). later ++ ((page_at held.page, if c then 2 else 1) ∷ t.ready.read)) t.quiet
          ∙ ap (λ (x : View). later ++ ((page_at held.page, 1) ∷ x.read)) t.looked.view
          ∙ sym (append_assoc later ((page_at held.page, 1) ∷ t.looks) v.read)

      abbrev leaving_it : View
      leaving_it = record v { rights = frame ∷ []; read = filled_looks ++ v.read; seen = t.ready.seen; gone = t.ready.gone; busy = t.ready.busy; left = held.page ∷ v.left; bookmarked = b.bookmarked; known = b.known; won = b.won; owed = b.owed }

      left_full : (w : View) → w ≡ given_up b held → w ≡ leaving_it
      left_full w is =
          is
          ∙ ap (λ (x : View). record x { hand = None; left = held.page ∷ x.left; rights = held.homed.frame ∷ x.rights }) marked.same
          ∙ ap (λ (x : View). record x { hand = None; left = held.page ∷ x.left; rights = held.homed.frame ∷ x.rights; bookmarked = b.bookmarked; known = b.known; won = b.won; owed = b.owed; read = b.read }) t.grasps.view
          ∙ ap (λ (x : View). record x { hand = None; left = held.page ∷ x.left; rights = held.homed.frame ∷ x.rights; bookmarked = b.bookmarked; known = b.known; won = b.won; owed = b.owed; read = b.read }) t.looked.view
          ∙ ap (λ (h : Option Hand). record leaving_it { hand = h; rights = held.homed.frame ∷ v.rights; read = b.read }) (sym nothing)
          ∙ ap (λ (l : List ℕ). record leaving_it { rights = l; read = b.read }) right_is
          ∙ ap (λ (l : List (ℕ × ℕ)). record leaving_it { read = l }) reads_are

      seat_about : (view_of seat).about ≡ k
      seat_about = ap (λ (x : View). x.about) t.grasps.view ∙ ready_about

      filled_homes : (p : ℕ) → p < pages_of k → times 1 (reads_at p filled_looks) ≡ one_if (held.page == p)
      filled_homes p lt =
          let sum = times-reads 1 (page_at p) later ((page_at held.page, 1) ∷ t.looks) in
          let empty : reads_of (page_at p) later ≡ [] =
          none_later (page_at p) later (view_of seat).read (ap (reads_of (page_at p)) (sym marked.reads.grows.1) ∙ marked.reads.pages p (subst (λ (x : Key). p < pages_of x) (sym seat_about) lt)) in
          let z : times 1 (reads_of (page_at p) later) ≡ 0 = ap (times 1) empty in
          let once = homes_once k t.looks held.page p t.looked.none lt in
          omega arith

      pub freed-filled : (w : View) → w ≡ given_up b held → frame < w.about.frames → HasFreed v frame w
      freed-filled w is within =
          let full = left_full w is in
          record {
            looks = filled_looks;
            view = subst
                (λ (x : View). x
                ≡ record v { rights = frame ∷ []; read = filled_looks ++ v.read; seen = x.seen; gone = x.gone; busy = x.busy; left = x.left; emptied = x.emptied; bookmarked = x.bookmarked; known = x.known; won = x.won; owed = x.owed }) (sym full) refl;
            within = subst (λ (x : Key). frame < x.frames) (ap (λ (x : View). x.about) full) within;
            page = held.page;
            inside = subst (λ (x : Key). held.page < pages_of x) (sym about) t.inside;
            one = inr (ap (λ (x : View). x.left) full, ap (λ (x : View). x.emptied) full);
            homes = λ p less. filled_homes p (subst (λ (x : Key). p < pages_of x) about less);
            gone = λ p. subst (λ (l : List ℕ). times p v.gone ≤ times p l) (sym (ap (λ (x : View). x.gone) full)) (t.looked.gone p);
            less = λ p.
                let same = ap (λ (x : View). times p x.owed) full in
                let less = marked.less p in
                let taken = ap (λ (x : View). times p x.owed) t.grasps.view in
                let looked = ap (λ (x : View). times p x.owed) t.looked.view in
                omega arith;
            unmarked = λ turn.
                let was = marked.unmarked (ap (λ (x : Key). x.lanes) (seat_about ∙ sym about) ∙ turn) in (
                  ap (λ (x : View). x.known) full ∙ was.0 ∙ ap (λ (x : View). x.known) t.grasps.view ∙ ap (λ (x : View). x.known) t.looked.view,
                  ap (λ (x : View). x.won) full ∙ was.1 ∙ ap (λ (x : View). x.won) t.grasps.view ∙ ap (λ (x : View). x.won) t.looked.view,
                  ap (λ (x : View). x.owed) full ∙ was.2 ∙ ap (λ (x : View). x.owed) t.grasps.view ∙ ap (λ (x : View). x.owed) t.looked.view,
                );
          }
