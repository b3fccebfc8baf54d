-- A page whose targets were bookmarked, and which was counted in each superpage that has one, may be made Gone.
use Rattle.std.proofs.Common.{◌≡◌, ℕ, ◌+◌, ◌*◌, ◌/◌, ◌%◌, ◌<◌, ◌||◌, Bool, true, false, nat_lt, List, [], slice_index, Some, refl, ap, sym, subst, ◌∙◌, arith}
use Rattle.std.proofs.lemmas.Bool.{ltb-true, or_left}
use Rattle.std.proofs.lemmas.Option.{same_Some}
use Rattle.bc_bits.specs.Bits.{has}
use Rattle.bc_bits.specs.Counting.{one_if}
use Rattle.bc_bits.proofs.BitLemmas.{has-beyond}
use Rattle.bc_word.specs.declared.words.Word.{Word}
use Rattle.bc_word.specs.Words.{word_of_bits}
use Rattle.bc_word.specs.Heads.{fields_of_bits}
use Rattle.bc_word.specs.Addresses.{superpage_of, page_of, offset_of, cell_number}
use Rattle.bc_superpages.specs.Layout.{Layout, superpages}
use Rattle.bc_superpages.specs.LayoutAt.{IsAllocated}
use Rattle.bc_superpages.specs.Kept.{IsLayout}
use Rattle.bc_superpages.specs.Calls.{class_at}
use Rattle.bc_superpages.proofs.CellLemmas.{is_cell-start}
use Rattle.bc_superpages.proofs.HandLemmas.{allocated-is_class, allocated-page}
use Rattle.bc_bookmarks.specs.Targets.{names_in, names_cell, some_on, is_target, HasCell}
use Rattle.bc_pins.specs.declared.views.Hand.{Hand}
use Rattle.bc_pins.specs.declared.views.View.{View}
use Rattle.bc_pins.specs.declared.pins.Pins.{Pins}
use Rattle.bc_pins.specs.declared.pins.Seat.{Seat}
use Rattle.bc_pins.specs.declared.holding.Held.{Held}
use Rattle.bc_pins.specs.declared.views.Lodged.TheVariants.{Nothing}
use Rattle.bc_pins.specs.Key.{Key, pages_of}
use Rattle.bc_pins.specs.Totals.{times}
use Rattle.bc_pins.specs.Contents.{IsContent, RefersYoung, objects_in}
use Rattle.bc_pins.specs.Views.{sets_bit}
use Rattle.bc_pins.specs.Steps.{Takes, IsBookmarkedBy, MayLeave, both_slots}
use Rattle.bc_pins.specs.Facts.{points}
use Rattle.bc_pins.specs.Tracing.{tells, KnowsMarked}
use Rattle.bc_pins.specs.Calls.{key_of, view_of, slots_of, IsAt, IsSameSeat, HoldsPage, Grasps}
use Rattle.bc_pins.proofs.TallyLemmas.{number_few}
use Rattle.bc_pins.proofs.VisitLemmas.{at_after, same_after, may_put_taken}
use Rattle.bc_evict.specs.Evicting.{HasNoMarks, MayBookmark, MayRelinquish}
use Rattle.bc_evict.specs.Marking.{sets_cell, knows_cell, HasBookmarked, IsWalked, IsTargetWord, Marks, Counts}
use Rattle.bc_evict.proofs.ContentLemmas.{target-allocated, names-allocated, field-on, word-target}
use Rattle.bc_evict.proofs.PageLemmas.{cell-named}
use Rattle.bc_evict.proofs.MarkLemmas.{reads-then, Marks-same}

-- a page that was taken may be bookmarked
pub may-bookmark : (v : View) (seat : Seat) (page : ℕ) (held : Held) → Grasps v seat page held → Takes v page held.remembered held.homed → held.remembered ≡ false → HasCell v.about.opening page → MayBookmark seat held
may-bookmark v seat page held g t quiet there =
    let was = may_put_taken v seat page held g t in
    let in_hand : (hand : Hand) → (view_of seat).hand ≡ Some hand → hand ≡ record { page = page; remembered = held.remembered; frame = held.homed.frame; content = held.homed.page; counted = []; marked = [] } =
    λ hand had. same_Some _ _ (sym had ∙ ap (λ (w : View). w.hand) g.view) in
    record {
      as_taken = record {
        content = λ hand had. ap (λ (h : Hand). h.content) (in_hand hand had);
        taken = λ hand had. ap (λ (h : Hand). h.remembered) (in_hand hand had) ∙ quiet;
        quiet = quiet;
      };
      unmarked = record { counted = was.counted; marked = was.marked };
      there = subst (λ (w : View). HasCell w.about.opening held.page) (sym g.view) (subst (λ (p : ℕ). HasCell v.about.opening p) (sym g.is) there);
      fixed = was.fixed;
      young = was.young;
    }

-- a page that may be bookmarked is one to walk over
pub walked-at : (pins : Pins) (seat : Seat) (held : Held) → IsAt pins seat → HoldsPage seat held → MayBookmark seat held → IsWalked pins seat held
walked-at pins seat held at holds may = record {
  at = at;
  holds = holds;
  as_taken = may.as_taken;
  there = may.there;
  fixed = may.fixed;
  old = λ y. clash (sym may.as_taken.quiet ∙ may.young y);
}
  where
    clash : false ≡ true → ⊥
    clash e = cc

-- a page in hand stays so where the seat changed its marks and counts alone
pub holds-after : (a b : Seat) (held : Held) (h g : Hand) → IsSameSeat a b → slots_of b ≡ slots_of a → (view_of a).hand ≡ Some h → (view_of b).hand ≡ Some g → g.page ≡ h.page → g.frame ≡ h.frame → HoldsPage a held → HoldsPage b held
holds-after a b held h g same slots has_h has_g page frame holds =
    let e : holds.hand ≡ h = same_Some _ _ (sym holds.has ∙ has_h) in
    record {
      hand = g;
      has = has_g;
      page = page ∙ sym (ap (λ (x : Hand). x.page) e) ∙ holds.page;
      inside = subst (λ (k : Key). held.page < pages_of k) (sym same.about) holds.inside;
      frame = frame ∙ sym (ap (λ (x : Hand). x.frame) e) ∙ holds.frame;
      slots = slots ∙ holds.slots ∙ ap (λ (k : Key). both_slots k held.page Nothing Nothing) (sym same.about);
    }

-- so does one that is walked over
pub walked-after : (pins : Pins) (a b : Seat) (held : Held) (met more : List ℕ) (f : (Word → Bool) → Bool) → IsWalked pins a held → Marks a met f b more → IsWalked pins b held
walked-after pins a b held met more f w m =
    let h = w.holds.hand in
    let one = m.same h w.holds.has in
    let has_b : (view_of b).hand ≡ Some (record h { marked = one.0 }) = ap (λ (v : View). v.hand) one.1 in
    record {
      at = at_after pins a b w.at m.seat;
      holds = holds-after a b held h (record h { marked = one.0 }) m.seat m.slots w.holds.has has_b refl refl w.holds;
      as_taken = record {
        content = λ g has_g. sym (ap (λ (x : Hand). x.content) (same_Some _ _ (sym has_b ∙ has_g))) ∙ w.as_taken.content h w.holds.has;
        taken = λ g has_g. sym (ap (λ (x : Hand). x.remembered) (same_Some _ _ (sym has_b ∙ has_g))) ∙ w.as_taken.taken h w.holds.has;
        quiet = w.as_taken.quiet;
      };
      there = subst (λ (k : Key). HasCell k.opening held.page) (sym m.seat.about) w.there;
      fixed = subst (λ (k : Key). IsContent k.opening held.page held.homed.page) (sym m.seat.about) w.fixed;
      old = λ y. w.old (subst (λ (k : Key). RefersYoung k.opening held.page held.homed.page) m.seat.about y);
    }

or_false : (b : Bool) → (b || false) ≡ b
or_false true = refl
or_false false = refl

-- where the bits of the page's targets were set, and then the superpages counted that were met
module _ (pins : Pins) (a b d : Seat) (held : Held) (met : List ℕ) (walked : IsWalked pins a held) (unmarked : HasNoMarks a)
    (kept : IsLayout (key_of pins).opening) (inside : (x : ℕ) → IsAllocated (key_of pins).opening x → page_of x < pages_of (key_of pins))
    (marks : Marks a [] (λ test. some_on test (objects_in (key_of pins).opening held.homed.page) held.page) b met) (counts : Counts b met (key_of pins).supers d) where
  abbrev v : View
  v = view_of a

  abbrev w : View
  w = view_of d

  abbrev s : Layout
  s = v.about.opening

  abbrev h : Hand
  h = walked.holds.hand

  content : h.content ≡ held.homed.page
  content = walked.as_taken.content h walked.holds.has

  fixed : IsContent s h.page h.content
  fixed = subst (λ (p : ℕ). IsContent s p h.content) (sym walked.holds.page) (subst (λ (c : List ℕ). IsContent s held.page c) (sym content) walked.fixed)

  old : RefersYoung s h.page h.content → ⊥
  old y = walked.old (subst (λ (c : List ℕ). RefersYoung s held.page c) content (subst (λ (p : ℕ). RefersYoung s p h.content) walked.holds.page y))

  there : HasCell s h.page
  there = subst (λ (p : ℕ). HasCell s p) (sym walked.holds.page) walked.there

  layout : IsLayout s
  layout = subst (λ (k : Key). IsLayout k.opening) (sym walked.at.about) kept

  near : (x : ℕ) → IsAllocated s x → page_of x < pages_of v.about
  near = subst (λ (k : Key). (x : ℕ) → IsAllocated k.opening x → page_of x < pages_of k) (sym walked.at.about) inside

  lt_page : h.page < 4 * superpages s
  lt_page = let on = there.2 in let lt = allocated-page s there.0 layout there.1 in omega arith

  some-same : (test : Word → Bool) → some_on test (objects_in (key_of pins).opening held.homed.page) held.page ≡ some_on test (objects_in s h.content) h.page
  some-same test =
      ap (λ (k : Key). some_on test (objects_in k.opening held.homed.page) held.page) (sym walked.at.about)
      ∙ ap (λ (c : List ℕ). some_on test (objects_in s c) held.page) (sym content)
      ∙ ap (some_on test (objects_in s h.content)) (sym walked.holds.page)

  set : Marks a [] (λ test. some_on test (objects_in s h.content) h.page) b met
  set = Marks-same a b [] met _ _ some-same marks

  abbrev h1 : Hand
  h1 = record h { marked = (set.same h walked.holds.has).0 }

  has_b : (view_of b).hand ≡ Some h1
  has_b = ap (λ (x : View). x.hand) (set.same h walked.holds.has).1

  abbrev h2 : Hand
  h2 = record h1 { counted = (counts.same h1 has_b).0 }

  has_d : w.hand ≡ Some h2
  has_d = ap (λ (x : View). x.hand) (counts.same h1 has_b).1

  same_bits : w.bookmarked ≡ (view_of b).bookmarked
  same_bits = ap (λ (x : View). x.bookmarked) (counts.same h1 has_b).1

  same_known : w.known ≡ (view_of b).known
  same_known = ap (λ (x : View). x.known) (counts.same h1 has_b).1

  same_won : w.won ≡ (view_of b).won
  same_won = ap (λ (x : View). x.won) (counts.same h1 has_b).1

  same_owed : w.owed ≡ (view_of b).owed
  same_owed = ap (λ (x : View). x.owed) (counts.same h1 has_b).1

  seat : IsSameSeat a d
  seat = same_after a b d set.seat counts.seat

  bits : (q n : ℕ) → n < 1024 → sets_cell w q n ≡ (some_on (names_cell s.classes q n) (objects_in s h.content) h.page || sets_cell v q n)
  bits q n few = ap (λ (l : List (ℕ × ℕ × ℕ)). nat_lt 0 (sets_bit (16 * q + n / 64) (n % 64) l)) same_bits ∙ set.bits q n few

  knows : v.about.lanes ≡ false → (q n : ℕ) → n < 1024 → knows_cell w q n ≡ (some_on (names_cell s.classes q n) (objects_in s h.content) h.page || knows_cell v q n)
  knows turn q n few = ap (λ (l : List (ℕ × ℕ)). nat_lt 0 (tells (16 * q + n / 64) (n % 64) l)) same_known ∙ set.knows turn q n few

  counted : (q : ℕ) → q < v.about.supers → times q h2.counted ≡ points v.about h.page h.content q
  counted q lt =
      let supers : (key_of pins).supers ≡ v.about.supers = ap (λ (k : Key). k.supers) (sym walked.at.about) in
      let up = (counts.same h1 has_b).2.below q (omega arith) in
      let none : times q h.counted ≡ 0 = ap (times q) (unmarked.counted h walked.holds.has) in
      let meets : has met q ≡ some_on (names_in q) (objects_in s h.content) h.page =
      set.meets q ∙ ap (λ (x : Bool). some_on (names_in q) (objects_in s h.content) h.page || x) (has-beyond [] q (omega arith)) ∙ or_false _ in
      let same = ap one_if meets in
      omega arith

  pub has_bookmarked : (g : Hand) → v.hand ≡ Some g → HasBookmarked v g w
  has_bookmarked g has_g = subst (λ (x : Hand). HasBookmarked v x w) (same_Some _ _ (sym walked.holds.has ∙ has_g)) record {
    now = h2;
    same_hand = refl;
    same = (counts.same h1 has_b).1 ∙ ap (λ (x : View). record x { hand = Some h2; read = w.read }) (set.same h walked.holds.has).1
        ∙ ap (λ (x : View). record v { hand = Some h2; bookmarked = x.bookmarked; known = x.known; won = x.won; owed = x.owed; read = w.read }) (sym (counts.same h1 has_b).1);
    bits = bits;
    knows = knows;
    unmarked = λ turn. let was = set.unmarked turn in (same_known ∙ was.0, same_won ∙ was.1, same_owed ∙ was.2);
    less = λ p. let a = set.less p in let e = ap (times p) same_owed in omega arith;
    counted = counted;
    reads = reads-then v (view_of b) w set.seat.about set.reads counts.reads;
  }

  target_set : (x : ℕ) → is_target (objects_in s h.content) h.page x ≡ true → IsBookmarkedBy v.about w x
  target_set x on =
      let allocated = target-allocated s h.page h.content layout fixed old x on in
      let class = allocated-is_class s x layout allocated in
      let few = number_few (class_at s x) x class in
      let page = near x allocated in
      record {
        within = omega arith;
        few = few;
        starts = is_cell-start s.classes s.cells x allocated;
        bit = ltb-true 0 _ (bits (superpage_of x) (cell_number (class_at s x) x) few ∙ or_left _ _ (cell-named s h.page h.content layout lt_page x on));
      }

  target_marked : v.about.lanes ≡ false → (x : ℕ) → IsAllocated s x → is_target (objects_in s h.content) h.page x ≡ true → KnowsMarked v.about w x
  target_marked turn x allocated on =
      let few = number_few (class_at s x) x (allocated-is_class s x layout allocated) in
      record {
        few = few;
        starts = is_cell-start s.classes s.cells x allocated;
        told = ltb-true 0 _ (knows turn (superpage_of x) (cell_number (class_at s x) x) few ∙ or_left _ _ (cell-named s h.page h.content layout lt_page x on));
      }

  may_leave : MayLeave v.about w h2
  may_leave = record { there = there; quiet = walked.as_taken.taken h walked.holds.has; targets = target_set; counts = counted; marked = target_marked }

  pub may_relinquish : MayRelinquish d held
  may_relinquish = record {
    as_taken = record {
      content = λ g has_g. sym (ap (λ (x : Hand). x.content) (same_Some h2 g (sym has_d ∙ has_g))) ∙ content;
      taken = λ g has_g. sym (ap (λ (x : Hand). x.remembered) (same_Some h2 g (sym has_d ∙ has_g))) ∙ walked.as_taken.taken h walked.holds.has;
      quiet = walked.as_taken.quiet;
    };
    bookmarked = λ g has_g. subst (λ (x : Hand). MayLeave w.about w x) (same_Some h2 g (sym has_d ∙ has_g)) (subst (λ (k : Key). MayLeave k w h2) (sym seat.about) may_leave);
  }

  pub still_holds : HoldsPage d held
  still_holds = holds-after a d held h h2 seat (counts.slots ∙ set.slots) walked.holds.has has_d refl refl walked.holds

  pub still_same : IsSameSeat a d
  still_same = seat

-- nothing is counted yet for a page that was walked over
pub none-counted : (a b : Seat) (met more : List ℕ) (f : (Word → Bool) → Bool) (h : Hand) → Marks a met f b more → (view_of a).hand ≡ Some h → HasNoMarks a → (g : Hand) × ((view_of b).hand ≡ Some g) × ((q : ℕ) → times q g.counted ≡ 0)
none-counted a b met more f h m has_h none =
    let one = m.same h has_h in
    (record h { marked = one.0 }, ap (λ (x : View). x.hand) one.1, λ q. ap (times q) (none.counted h has_h))

-- a word that was read of the page in hand is to be bookmarked, if it is a reference
pub target-word : (pins : Pins) (a b : Seat) (held : Held) (met more : List ℕ) (f : (Word → Bool) → Bool) (x i : ℕ) (word : Word) → IsWalked pins a held → Marks a met f b more
    → IsLayout (key_of pins).opening → IsAllocated (key_of pins).opening x → page_of x ≡ held.page → i < fields_of_bits (slice_index held.homed.page (offset_of x))
    → word ≡ word_of_bits (slice_index held.homed.page (offset_of x + 1 + i)) → IsTargetWord b word
target-word pins a b held met more f x i word walked m kept on p lt read =
    let w = walked-after pins a b held met more f walked m in
    let g : Hand = w.holds.hand in
    let s : Layout = (view_of b).about.opening in
    let layout_b : IsLayout s = subst (λ (k : Key). IsLayout k.opening) (sym w.at.about) kept in
    let on_b : IsAllocated s x = subst (λ (k : Key). IsAllocated k.opening x) (sym w.at.about) on in
    λ y is. (
      names-allocated s held.page held.homed.page layout_b w.fixed w.old x i y (field-on s held.page held.homed.page layout_b w.fixed x i on_b p lt) (sym read ∙ is),
      (
        g,
        w.holds.has,
        subst (λ (c : List ℕ). is_target (objects_in s c) g.page y ≡ true) (sym (w.as_taken.content g w.holds.has))
            (subst (λ (q : ℕ). is_target (objects_in s held.homed.page) q y ≡ true) (sym w.holds.page)
            (word-target s held.page held.homed.page x i y on_b p lt (sym read ∙ is))),
      ),
    )

-- a page that is walked over, by the space at the opening
pub walked-fixed : (pins : Pins) (a : Seat) (held : Held) → IsWalked pins a held → IsContent (key_of pins).opening held.page held.homed.page
walked-fixed pins a held w = subst (λ (k : Key). IsContent k.opening held.page held.homed.page) w.at.about w.fixed

pub walked-page : (pins : Pins) (a : Seat) (held : Held) → IsWalked pins a held → IsLayout (key_of pins).opening → held.page < 4 * superpages (key_of pins).opening
walked-page pins a held w kept =
    let there : HasCell (key_of pins).opening held.page = subst (λ (k : Key). HasCell k.opening held.page) w.at.about w.there in
    let on = there.2 in
    let lt = allocated-page (key_of pins).opening there.0 kept there.1 in
    omega arith
