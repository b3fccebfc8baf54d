-- A page that comes back for the lane in a turn, and pages that the lane makes Gone or Absent, change nothing of the whole heap with
-- every page back. And what a seat that has read nothing knows once it has read on.
use Rattle.std.proofs.Common.{◌≡◌, ◌≢◌, ℕ, ◌+◌, ◌<◌, ◌==◌, true, false, List, [], Some, None, inl, inr, ◌⊎◌, refl, ap, sym, subst, ◌∙◌, arith}
use Rattle.std.proofs.lemmas.Bool.{cases_eq, cases_lt}
use Rattle.bc_bits.specs.Counting.{one_if}
use Rattle.bc_lane.specs.Shown.{IsFrozenPage, IsOwnPage, MayReadPage, ShowsPage, ShowsPages}
use Rattle.bc_lane.specs.Turns.{ReadsOn}
use Rattle.bc_pins.specs.declared.holding.Held.{Held}
use Rattle.bc_pins.specs.declared.views.Hand.{Hand}
use Rattle.bc_pins.specs.declared.views.View.{View}
use Rattle.bc_pins.specs.Contents.{IsContent, RefersYoung}
use Rattle.bc_pins.specs.Key.{owner, page_at, pages_of}
use Rattle.bc_pins.specs.Totals.{times}
use Rattle.bc_pins.specs.Views.{has_role, opened_content, opened_word, reads_at, record_of}
use Rattle.bc_pins.proofs.LogLemmas.{times-reads}
use Rattle.bc_superpages.specs.Layout.{Layout}

-- a seat that read, claimed frames, counted, bookmarked and made pages Gone or Absent, and has nothing in hand
abbrev pub besides : View → View → View
besides v w = record v { seen = w.seen; gone = w.gone; busy = w.busy; read = w.read; left = w.left; emptied = w.emptied; fetched = w.fetched; bookmarked = w.bookmarked; rights = w.rights }

page-besides : (v w : View) (s : Layout) (page : ℕ) → ShowsPage v s page → ShowsPage (besides v w) s page
page-besides v w s page p = record { content = p.content; remembered = p.remembered; here = p.here }

pub shows-besides : (v w : View) (end : ℕ) (s : Layout) → w ≡ besides v w → ShowsPages v None end s → ShowsPages w None end s
shows-besides v w end s same shown = subst (λ (x : View). ShowsPages x None end s) (sym same) (record {
  same = shown.same;
  end_is = shown.end_is;
  opening = shown.opening;
  others = λ page own none. page-besides v w s page (shown.others page own none);
  frozen = λ page is none. shown.frozen page is none;
  in_hand = tt;
})

clash : false ≡ true → ⊥
clash e = cc

-- a page was taken from Gone, with the content that the seat records: it names no chunk, and nobody put it back as Remembered
pub record HasFetched (v w : View) (held : Held) : Type 0 where
  pub hand : Hand
  pub view : w ≡ record (besides v w) { hand = Some hand }
  pub page_is : hand.page ≡ held.page
  pub frame : hand.frame ≡ held.homed.frame
  pub counted : hand.counted ≡ []
  pub marked : hand.marked ≡ []
  pub flag : hand.remembered ≡ false
  pub remembered : held.remembered ≡ false
  pub own : IsOwnPage v held.page
  pub mine : held.homed.page ≡ record_of v held.page
  pub fixed : IsContent v.about.opening held.page held.homed.page
  pub old : RefersYoung v.about.opening held.page held.homed.page → ⊥
  pub quiet : one_if (opened_word v.about held.page == 2) + times held.page v.recorded ≡ 0

hand-besides : (v w : View) (hand : Hand) (s : Layout) (page : ℕ) → ShowsPage v s page → ShowsPage (record (besides v w) { hand = Some hand }) s page
hand-besides v w hand s page p = record { content = p.content; remembered = p.remembered; here = p.here }

pub shows-fetched : (v w : View) (held : Held) (end : ℕ) (s : Layout) → HasFetched v w held → ShowsPages v None end s → ShowsPages w (Some held) end s
shows-fetched v w held end s f shown =
    let here : ShowsPage v s held.page = shown.others held.page f.own (λ x. x) in
    subst (λ (x : View). ShowsPages x (Some held) end s) (sym f.view) (record {
      same = shown.same;
      end_is = shown.end_is;
      opening = shown.opening;
      others = λ page own none. hand-besides v w f.hand s page (shown.others page own (λ x. x));
      frozen = λ page is none. shown.frozen page is none;
      in_hand = inl (record {
        own = f.own;
        content = here.content ∙ sym f.mine;
        remembered = (λ is. let some = here.remembered.0 is in let quiet = f.quiet in absurd (omega arith), λ on. absurd (clash (sym f.remembered ∙ on)));
        kept = λ some. let quiet = f.quiet in absurd (omega arith);
        here = here.here;
        fixed = f.fixed;
        young = λ y. absurd (f.old y);
        hand = f.hand;
        has = refl;
        page_is = f.page_is;
        frame = f.frame;
        counted = f.counted;
        marked = f.marked;
        flag = λ on. absurd (clash (sym f.flag ∙ on));
      });
    })

-- one of a frozen domain, with the opening's content
pub record HasFetchedFrozen (v w : View) (held : Held) : Type 0 where
  pub hand : Hand
  pub view : w ≡ record (besides v w) { hand = Some hand }
  pub page_is : hand.page ≡ held.page
  pub frame : hand.frame ≡ held.homed.frame
  pub counted : hand.counted ≡ []
  pub marked : hand.marked ≡ []
  pub taken : held.homed.page ≡ hand.content
  pub flag : held.remembered ≡ hand.remembered
  pub frozen : IsFrozenPage v held.page
  pub unowned : has_role v (owner v.about held.page) ≡ 0
  pub opened : held.homed.page ≡ opened_content v.about held.page
  pub fixed : IsContent v.about.opening held.page held.homed.page
  pub old : RefersYoung v.about.opening held.page held.homed.page → ⊥

pub shows-fetched_frozen : (v w : View) (held : Held) (end : ℕ) (s : Layout) → HasFetchedFrozen v w held → ShowsPages v None end s → ShowsPages w (Some held) end s
shows-fetched_frozen v w held end s f shown =
    subst (λ (x : View). ShowsPages x (Some held) end s) (sym f.view) (record {
      same = shown.same;
      end_is = shown.end_is;
      opening = shown.opening;
      others = λ page own none. hand-besides v w f.hand s page (shown.others page own (λ x. x));
      frozen = λ page is none. shown.frozen page is none;
      in_hand = inr (record {
        frozen = f.frozen;
        unowned = f.unowned;
        content = shown.frozen held.page f.frozen f.unowned ∙ sym f.opened;
        opened = f.opened;
        fixed = f.fixed;
        young = λ y. absurd (f.old y);
        hand = f.hand;
        has = refl;
        page_is = f.page_is;
        frame = f.frame;
        taken = f.taken;
        flag = f.flag;
        counted = f.counted;
        marked = f.marked;
      });
    })

-- a page may be read, or it is another lane's
which-page : (v : View) (p : ℕ) → MayReadPage v p ⊎ ((has_role v (owner v.about p) ≡ 0) × (owner v.about p ≢ 0))
which-page v p = elim (cases_lt 0 (has_role v (owner v.about p))) [
  | inl own ↦ inl (inl own)
  | inr off ↦ elim (cases_eq (owner v.about p) 0) [
    | inl nobody ↦ inl (inr nobody)
    | inr held ↦ inr (omega arith, held)
  ]
]

-- a page that a seat which had read nothing read as Home it made Gone or Absent, or it is its own or of a frozen domain
pub reads-home : (v w : View) (p : ℕ) → ReadsOn v w → p < pages_of v.about → v.read ≡ [] → v.left ≡ [] → v.emptied ≡ [] → 0 < times 1 (reads_at p w.read) → (0 < times p w.left + times p w.emptied) ⊎ MayReadPage v p
reads-home v w p on near unread none_left none_emptied some = elim (which-page v p) [
  | inl may ↦ inr may
  | inr off ↦
      let foreign = on.foreign p near off.0 off.1 in
      let whole = ap (λ (l : List (ℕ × ℕ)). times 1 (reads_at p l)) on.read ∙ times-reads 1 (page_at p) on.more v.read in
      let zero_read = ap (λ (l : List (ℕ × ℕ)). times 1 (reads_at p l)) unread in
      let zero_left = ap (times p) none_left in
      let zero_emptied = ap (times p) none_emptied in
      inl (omega arith)
]

-- and one that it took from Gone is so
pub fetched-own : (v w : View) (p : ℕ) → ReadsOn v w → v.fetched ≡ [] → 0 < times p w.fetched → MayReadPage v p
fetched-own v w p on none some = elim (which-page v p) [
  | inl may ↦ may
  | inr off ↦ let same = on.fetches p off.0 off.1 in let zero_fetched = ap (times p) none in absurd (omega arith)
]
