-- Pages that are taken and given up.
use Rattle.std.proofs.Common.{◌≡◌, ℕ, ◌+◌, ◌-◌, ◌*◌, ◌/◌, ◌<◌, ◌≤◌, ◌⊎◌, Bool, true, false, if◌then◌else◌, List, [], ◌∷◌, ◌++◌, inl, inr, Option, None, ap, sym, subst, ◌∙◌, arith, append_assoc}
use Rattle.std.proofs.lemmas.Bool.{cases_lt, cases_Bool}
use Rattle.bc_bits.specs.Counting.{any_below}
use Rattle.bc_bits.proofs.AnyLemmas.{any_below-some, any_below-at}
use Rattle.bc_word.specs.Addresses.{page_of}
use Rattle.bc_superpages.specs.declared.headers.PageState.TheVariants as state
use Rattle.bc_superpages.specs.Layout.{Layout, is_cell}
use Rattle.bc_superpages.specs.LayoutAt.{IsAllocated}
use Rattle.bc_bookmarks.specs.Targets.{HasCell}
use Rattle.bc_evict.specs.Evicting.{MayBookmark, MayDiscard, HasGiven, given_up, discarded}
use Rattle.bc_evict.specs.Marking.{HasBookmarked, ReadsNoPage}
use Rattle.bc_evict.proofs.RightLemmas.{rights-gone}
use Rattle.bc_pins.specs.declared.holding.Held.{Held}
use Rattle.bc_pins.specs.declared.pins.Seat.{Seat}
use Rattle.bc_pins.specs.declared.views.Hand.{Hand}
use Rattle.bc_pins.specs.declared.views.View.{View}
use Rattle.bc_pins.specs.Key.{Key, pages_of, page_at, frame_at}
use Rattle.bc_pins.specs.Totals.{times}
use Rattle.bc_pins.specs.Contents.{IsBarePage}
use Rattle.bc_pins.specs.Views.{reads_of, opened_state}
use Rattle.bc_pins.specs.Calls.{view_of, HoldsPage}
use Rattle.bc_evict.specs.declared.walking.Kind.{Kind}
use Rattle.bc_evict.specs.declared.walking.Kind.TheVariants.{Bare, Filled}
use Rattle.bc_evict.specs.Looking.{MayStay, MayStayBare, MayStayFilled}
use Rattle.bc_evict.specs.Taking.{HasLooked, HasTriedAll, IsTakenFor, HasTakenFirst, ReadNoPage, HasVacated, HasEvacuated}
use Rattle.bc_pager.specs.Answering.{TookAfter, HasDiscarded, HasEvicted, HasDeclined}
use Rattle.bc_evict.proofs.LookLemmas.{found-first, found-last, found-as, stays-so, looked-then, none_later, none_both}
use Rattle.bc_evict.proofs.VictimLemmas.{taken-held, taken-rights, taken-bare, taken-filled}

-- frames were given back: no page's word was read
given_reads : (k : Key) (v w : View) (frame : ℕ) → v.about ≡ k → HasGiven v frame w → ReadNoPage k v w
given_reads k v w frame about g = record {
  later = g.grows.0;
  read = g.grows.1;
  none = λ page lt. none_later (page_at page) g.grows.0 v.read (ap (reads_of (page_at page)) (sym g.grows.1) ∙ g.reads (page_at page) (λ e.
      let at : frame_at v.about (frame / 64) ≡ frame_at k (frame / 64) = ap (λ (x : Key). frame_at x (frame / 64)) about in
      absurd (omega arith)));
}

bookmarked_reads : (k : Key) (v w : View) → v.about ≡ k → ReadsNoPage v w → ReadNoPage k v w
bookmarked_reads k v w about r = record {
  later = r.grows.0;
  read = r.grows.1;
  none = λ page lt. none_later (page_at page) r.grows.0 v.read (ap (reads_of (page_at page)) (sym r.grows.1) ∙ r.pages page (subst (λ (x : Key). page < pages_of x) (sym about) lt));
}

reads_then : (k : Key) (v u w : View) → ReadNoPage k v u → ReadNoPage k u w → ReadNoPage k v w
reads_then k v u w first next = record {
  later = next.later ++ first.later;
  read = next.read ∙ ap (λ (l : List (ℕ × ℕ)). next.later ++ l) first.read ∙ sym (append_assoc next.later first.later v.read);
  none = λ page lt. none_both (page_at page) next.later first.later (next.none page lt) (first.none page lt);
}

-- a page was made Absent, and its frame given back
pub vacated : (k : Key) (v u w : View) (held : Held) (frame : ℕ) → v.about ≡ k → v.rights ≡ [] → u ≡ discarded v held → frame ≡ held.homed.frame → HasGiven u frame w → HasVacated k v held.page w
vacated k v u w held frame about none view is g =
    let rights : u.rights ≡ frame ∷ [] = ap (λ (x : View). x.rights) view ∙ ap (λ (l : List ℕ). held.homed.frame ∷ l) none ∙ ap (λ (f : ℕ). f ∷ []) (sym is) in
    let gone : w.rights ≡ [] = rights-gone u w frame g rights in
    let reads = given_reads k u w frame (ap (λ (x : View). x.about) view ∙ about) g in
    record {
      reads = record { later = reads.later; read = reads.read ∙ ap (λ (x : View). reads.later ++ x.read) view; none = reads.none };
      view = g.same
          ∙ ap (λ (l : List ℕ). record u { rights = l; read = w.read }) gone
          ∙ ap (λ (x : View). record x { rights = []; read = w.read }) view
          ∙ ap (λ (l : List ℕ). record v { hand = None; emptied = held.page ∷ v.emptied; rights = l; read = w.read }) (sym none);
    }

-- a page was bookmarked and made Gone, and its frame given back
pub evacuated : (k : Key) (v b u w : View) (hand : Hand) (held : Held) (frame : ℕ) → v.about ≡ k → v.rights ≡ [] → HasBookmarked v hand b → u ≡ given_up b held → frame ≡ held.homed.frame → HasGiven u frame w → HasEvacuated k v held.page w
evacuated k v b u w hand held frame about none marked view is g =
    let rights_b : b.rights ≡ [] = ap (λ (x : View). x.rights) marked.same ∙ none in
    let rights : u.rights ≡ frame ∷ [] = ap (λ (x : View). x.rights) view ∙ ap (λ (l : List ℕ). held.homed.frame ∷ l) rights_b ∙ ap (λ (f : ℕ). f ∷ []) (sym is) in
    let gone : w.rights ≡ [] = rights-gone u w frame g rights in
    let about_b : b.about ≡ k = ap (λ (x : View). x.about) marked.same ∙ about in
    let reads = given_reads k u w frame (ap (λ (x : View). x.about) view ∙ about_b) g in
    let bits : w.bookmarked ≡ b.bookmarked = ap (λ (x : View). x.bookmarked) g.same ∙ ap (λ (x : View). x.bookmarked) view in
    let known : w.known ≡ b.known = ap (λ (x : View). x.known) g.same ∙ ap (λ (x : View). x.known) view in
    let won : w.won ≡ b.won = ap (λ (x : View). x.won) g.same ∙ ap (λ (x : View). x.won) view in
    let owed : w.owed ≡ b.owed = ap (λ (x : View). x.owed) g.same ∙ ap (λ (x : View). x.owed) view in
    record {
      reads = reads_then k v b w (bookmarked_reads k v b about marked.reads)
          (record { later = reads.later; read = reads.read ∙ ap (λ (x : View). reads.later ++ x.read) view; none = reads.none });
      view = g.same
          ∙ ap (λ (l : List ℕ). record u { rights = l; read = w.read }) gone
          ∙ ap (λ (x : View). record x { rights = []; read = w.read }) view
          ∙ ap (λ (x : View). record x { hand = None; left = held.page ∷ x.left; rights = []; read = w.read }) marked.same
          ∙ ap (λ (l : List ℕ). record v { hand = None; left = held.page ∷ v.left; bookmarked = b.bookmarked; known = b.known; won = b.won; owed = b.owed; rights = l; read = w.read }) (sym none)
          ∙ ap (λ (l : List (ℕ × ℕ × ℕ)). record v { hand = None; left = held.page ∷ v.left; bookmarked = l; known = b.known; won = b.won; owed = b.owed; read = w.read }) (sym bits)
          ∙ ap (λ (l : List (ℕ × ℕ)). record v { hand = None; left = held.page ∷ v.left; bookmarked = w.bookmarked; known = l; won = b.won; owed = b.owed; read = w.read }) (sym known)
          ∙ ap (λ (l : List (ℕ × ℕ)). record v { hand = None; left = held.page ∷ v.left; bookmarked = w.bookmarked; known = w.known; won = l; owed = b.owed; read = w.read }) (sym won)
          ∙ ap (λ (l : List ℕ). record v { hand = None; left = held.page ∷ v.left; bookmarked = w.bookmarked; known = w.known; won = w.won; owed = l; read = w.read }) (sym owed);
      less = λ p. let same = ap (times p) owed in let less = marked.less p in omega arith;
      unmarked = λ turn. let was = marked.unmarked (ap (λ (x : Key). x.lanes) about ∙ turn) in (known ∙ was.0, won ∙ was.1, owed ∙ was.2);
    }

-- what was read when the page was taken, and then given up
took_after : (k : Key) (kind : Kind) (v u : View) (seat : Seat) (held : Held) (w : View) (looks : List (ℕ × ℕ)) → HasLooked k v u looks → IsTakenFor k kind u seat held → ReadNoPage k (view_of seat) w → TookAfter k v looks held.page w
took_after k kind v u seat held w looks looked t reads = record {
  later = reads.later;
  read = reads.read
      ∙ ap (λ (x : View). reads.later ++ x.read) t.grasps.view
      ∙ ap (λ (b : Bool). reads.later ++ ((page_at held.page, if b then 2 else 1) ∷ u.read)) t.quiet
      ∙ ap (λ (x : View). reads.later ++ ((page_at held.page, 1) ∷ x.read)) looked.view
      ∙ sym (append_assoc reads.later ((page_at held.page, 1) ∷ looks) v.read);
  none = looked.none;
  else_none = reads.none;
}

-- the first page that could be taken is in hand, and may be given up
module _ (k : Key) (kind : Kind) (hint : ℕ) (v : View) (seat : Seat) (held : Held) (f : HasTakenFirst k kind hint v seat held) where
  about_ready : v.about ≡ k → f.ready.about ≡ k
  about_ready about = ap (λ (x : View). x.about) f.looked.view ∙ about

  pub first-held : v.about ≡ k → HoldsPage seat held
  first-held about = taken-held k kind f.ready seat held f.taken (about_ready about)

  pub first-rights : v.about ≡ k → v.rights ≡ [] → (view_of seat).rights ≡ []
  first-rights about none = taken-rights k kind f.ready seat held f.taken (about_ready about) (ap (λ (x : View). x.rights) f.looked.view ∙ none)

  pub first-bare : v.about ≡ k → IsBarePage k.opening held.page → MayDiscard seat held
  first-bare about = taken-bare k kind f.ready seat held f.taken (about_ready about)

  pub first-filled : v.about ≡ k → HasCell k.opening held.page → MayBookmark seat held
  first-filled about = taken-filled k kind f.ready seat held f.taken (about_ready about)

-- a seat that tried pages has the rights that it had
pub tried-rights : (k : Key) (kind : Kind) (v u : View) → HasTriedAll k kind v u → v.rights ≡ [] → u.rights ≡ []
tried-rights k kind v u t none = ap (λ (x : View). x.rights) t.looked.view ∙ none

-- the answer that a page was discarded
pub has-discarded : (k : Key) (v : View) (hint : ℕ) (seat : Seat) (held : Held) (w : View) → v.hand ≡ None → HasTakenFirst k Bare hint v seat held → HasVacated k (view_of seat) held.page w → HasDiscarded k v held.page w
has-discarded k v hint seat held w nothing f d =
    let u = f.ready in
    let full : w ≡ record v { hand = None; emptied = held.page ∷ v.emptied; read = w.read; seen = u.seen; gone = u.gone; busy = u.busy } =
    d.view
    ∙ ap (λ (x : View). record x { hand = None; emptied = held.page ∷ x.emptied; read = w.read }) f.taken.grasps.view
    ∙ ap (λ (x : View). record x { hand = None; emptied = held.page ∷ x.emptied; read = w.read }) f.looked.view in
    let seen : w.seen ≡ u.seen = ap (λ (x : View). x.seen) full in
    let gone : w.gone ≡ u.gone = ap (λ (x : View). x.gone) full in
    let busy : w.busy ≡ u.busy = ap (λ (x : View). x.busy) full in
    record {
      looks = f.looks;
      inside = f.taken.inside;
      bare = f.taken.is_kind;
      took = took_after k Bare v u seat held w f.looks f.looked f.taken d.reads;
      view = full
          ∙ ap (λ (h : Option Hand). record v { hand = h; emptied = held.page ∷ v.emptied; read = w.read; seen = u.seen; gone = u.gone; busy = u.busy }) (sym nothing)
          ∙ ap (λ (l : List ℕ). record v { emptied = held.page ∷ v.emptied; read = w.read; seen = l; gone = u.gone; busy = u.busy }) (sym seen)
          ∙ ap (λ (l : List ℕ). record v { emptied = held.page ∷ v.emptied; read = w.read; seen = w.seen; gone = l; busy = u.busy }) (sym gone)
          ∙ ap (λ (l : List ℕ). record v { emptied = held.page ∷ v.emptied; read = w.read; seen = w.seen; gone = w.gone; busy = l }) (sym busy);
    }

-- an allocated cell lies on the page, or none does
bare_or_filled : (s : Layout) (page : ℕ) → HasCell s page ⊎ IsBarePage s page
bare_or_filled s page = elim (cases_Bool (any_below (λ i. is_cell s.classes s.cells (512 * page + i)) 512)) [
  | inl on ↦ let some = any_below-some (λ i. is_cell s.classes s.cells (512 * page + i)) 512 on in inl (512 * page + some.0, some.2, let lt = some.1 in omega arith)
  | inr off ↦ inr (λ a there on.
      let at : 512 * page + (a - 512 * page) ≡ a = omega arith in
      clash (sym off ∙ any_below-at (λ i. is_cell s.classes s.cells (512 * page + i)) 512 (a - 512 * page) (omega arith) (ap (λ (n : ℕ). is_cell s.classes s.cells n) at ∙ there)))
]
  where
    clash : false ≡ true → ⊥
    clash e = cc

module _ (k : Key) (behind : (q : ℕ) → pages_of k ≤ q → opened_state k q ≡ state.Absent) (inside : (a : ℕ) → IsAllocated k.opening a → page_of a < pages_of k) where
  -- all pages of both kinds were tried: the answer that the notice is declined
  pub has-declined : (v u w : View) → HasTriedAll k Bare v u → HasTriedAll k Filled u w → HasDeclined k v w
  has-declined v u w one two =
      let all = looked-then k v u w one.looks two.looks one.looked two.looked in
      record {
        looks = two.looks ++ one.looks;
        each = λ q lt. elim (cases_lt q (pages_of k)) [
          | inl near ↦ inl (
            near,
            elim (bare_or_filled k.opening q) [
              | inl there ↦ found-first two.looks one.looks q MayStay (found-as two.looks q MayStayFilled MayStay (stays-so Filled) (two.found q near there))
              | inr bare ↦ found-last two.looks one.looks q MayStay (found-as one.looks q MayStayBare MayStay (stays-so Bare) (one.found q near bare))
            ],
          )
          | inr far ↦ inr (far, behind q far, tt)
        ];
        none = all.none;
        view = all.view;
      }

  -- no bare page could be taken: the answer that the first page with a cell was evicted
  pub has-evicted : (v u : View) (hint : ℕ) (seat : Seat) (held : Held) (w : View) → v.hand ≡ None → HasTriedAll k Bare v u → HasTakenFirst k Filled hint u seat held → HasEvacuated k (view_of seat) held.page w → HasEvicted k v hint held.page w
  has-evicted v u hint seat held w nothing one f d =
      let x = f.ready in
      let all = looked-then k v u x one.looks f.looks one.looked f.looked in
      let full : w ≡ record v { hand = None; left = held.page ∷ v.left; bookmarked = w.bookmarked; known = w.known; won = w.won; owed = w.owed; read = w.read; seen = x.seen; gone = x.gone; busy = x.busy } =
      d.view
      ∙ ap (λ (y : View). record y { hand = None; left = held.page ∷ y.left; bookmarked = w.bookmarked; known = w.known; won = w.won; owed = w.owed; read = w.read }) f.taken.grasps.view
      ∙ ap (λ (y : View). record y { hand = None; left = held.page ∷ y.left; bookmarked = w.bookmarked; known = w.known; won = w.won; owed = w.owed; read = w.read }) all.view in
      let seen : w.seen ≡ x.seen = ap (λ (y : View). y.seen) full in
      let gone : w.gone ≡ x.gone = ap (λ (y : View). y.gone) full in
      let busy : w.busy ≡ x.busy = ap (λ (y : View). y.busy) full in
      record {
        looks = f.looks ++ one.looks;
        inside = f.taken.inside;
        there = f.taken.is_kind;
        spare = λ q lt bare. elim (cases_lt q (pages_of k)) [
          | inl near ↦ inl (near, found-last f.looks one.looks q MayStayBare (one.found q near bare))
          | inr far ↦ inr (far, behind q far, tt)
        ];
        before = λ q lt there comes.
            let near : q < pages_of k = subst (λ (n : ℕ). n < pages_of k) there.2 (inside there.0 there.1) in
            inl (near, found-first f.looks one.looks q MayStayFilled (f.before q near there comes));
        took = took_after k Filled v x seat held w (f.looks ++ one.looks) all f.taken d.reads;
        view = full
            ∙ ap (λ (h : Option Hand). record v { hand = h; left = held.page ∷ v.left; bookmarked = w.bookmarked; known = w.known; won = w.won; owed = w.owed; read = w.read; seen = x.seen; gone = x.gone; busy = x.busy }) (sym nothing)
            ∙ ap (λ (l : List ℕ). record v { left = held.page ∷ v.left; bookmarked = w.bookmarked; known = w.known; won = w.won; owed = w.owed; read = w.read; seen = l; gone = x.gone; busy = x.busy }) (sym seen)
            ∙ ap (λ (l : List ℕ). record v { left = held.page ∷ v.left; bookmarked = w.bookmarked; known = w.known; won = w.won; owed = w.owed; read = w.read; seen = w.seen; gone = l; busy = x.busy }) (sym gone)
            ∙ ap (λ (l : List ℕ). record v { left = held.page ∷ v.left; bookmarked = w.bookmarked; known = w.known; won = w.won; owed = w.owed; read = w.read; seen = w.seen; gone = w.gone; busy = l }) (sym busy);
        less = λ p.
            let less = d.less p in
            let taken = ap (λ (y : View). times p y.owed) f.taken.grasps.view in
            let looked = ap (λ (y : View). times p y.owed) all.view in
            omega arith;
        unmarked = λ turn.
            let was = d.unmarked turn in (
              was.0 ∙ ap (λ (y : View). y.known) f.taken.grasps.view ∙ ap (λ (y : View). y.known) all.view,
              was.1 ∙ ap (λ (y : View). y.won) f.taken.grasps.view ∙ ap (λ (y : View). y.won) all.view,
              was.2 ∙ ap (λ (y : View). y.owed) f.taken.grasps.view ∙ ap (λ (y : View). y.owed) all.view,
            );
      }
