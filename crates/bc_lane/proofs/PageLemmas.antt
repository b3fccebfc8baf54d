-- What a space has of the pages that a lane may read, when one is taken, written, remembered or put back.
use Rattle.std.proofs.Common.{◌≡◌, ◌≢◌, ℕ, ◌+◌, ◌*◌, ◌<◌, ◌==◌, Bool, true, false, if◌then◌else◌, List, [], ◌∷◌, length, get_or, set, Option, Some, None, inl, inr, ◌⊎◌, refl, ap, sym, subst, ◌∙◌, arith, get_or-set_same, get_or-set_other, ◌&&◌}
use Rattle.std.proofs.lemmas.Bool.{cases_Bool, cases_eq, cases_lt, lt-ltb}
use Rattle.bc_bits.specs.Counting.{one_if}
use Rattle.bc_lane.specs.Shown.{HasPage, IsFrozenPage, IsOwnPage, ShowsFrozen, ShowsHand, ShowsHeld, ShowsPage, ShowsPages}
use Rattle.bc_mutator.specs.Effects.{Remembers}
use Rattle.bc_mutator.specs.Parts.{HasField, MayHold}
use Rattle.bc_mutator.proofs.StateLemmas.{remembers-home}
use Rattle.bc_pins.specs.declared.holding.Held.{Held}
use Rattle.bc_pins.specs.declared.taking.Want.TheVariants.{Work}
use Rattle.bc_pins.specs.declared.views.Hand.{Hand}
use Rattle.bc_pins.specs.declared.views.View.{View}
use Rattle.bc_pins.specs.Calls.{put_back, tried}
use Rattle.bc_pins.specs.Contents.{IsContent, IsFieldOn, IsYoung, NamesFixed, RefersYoung, field_bits}
use Rattle.bc_pins.specs.Key.{Key, owner}
use Rattle.bc_pins.specs.Steps.{Takes, gripping, having_read, owns}
use Rattle.bc_pins.specs.Totals.{times}
use Rattle.bc_pins.specs.Views.{has_role, opened_content, opened_word}
use Rattle.bc_pins.proofs.GiveLemmas.{look_here, look_other, recorded_times}
use Rattle.bc_pins.proofs.HeldLemmas.{set_fixed}
use Rattle.bc_pins.proofs.TakeLemmas.{flag_is, flag_other}
use Rattle.bc_superpages.specs.declared.headers.PageState.TheVariants.{Remembered}
use Rattle.bc_superpages.specs.declared.spaces.Homed.{Homed}
use Rattle.bc_superpages.specs.Calls.{fields_at}
use Rattle.bc_superpages.specs.Headers.{is_gone}
use Rattle.bc_superpages.specs.Kept.{IsLayout}
use Rattle.bc_superpages.specs.Layout.{Layout, content_at, superpages}
use Rattle.bc_superpages.specs.LayoutAt.{IsAllocated, state_at, with_state, with_word, word_at}
use Rattle.bc_superpages.specs.Memory.{cell_at}
use Rattle.bc_superpages.proofs.FieldLemmas.{field-offset, field-room}
use Rattle.bc_superpages.proofs.HandLemmas.{allocated-page, field-page}
use Rattle.bc_word.specs.Addresses.{offset_of, page_of}
use Rattle.bc_word.specs.Heads.{fields_of_bits}
use Rattle.bc_word.specs.WordBits.{IsPacked, word_bits}
use Rattle.bc_word.specs.Words.{word_of_bits}
use Rattle.bc_word.specs.declared.words.Word.{Word}
use Rattle.bc_word.specs.declared.words.Word.TheVariants.{Nil, Num, Ref}
use Rattle.bc_word.proofs.WordLemmas.{word_of_bits-word_bits}
use Rattle.bc_word.proofs.WordsLemmas.{get_or-words_from}
use Rattle.bc_whole_heap.proofs.HeapLemmas.{allocated-below}

-- what is so of the page in hand, an own one or one of a frozen domain
pub record InHand (v : View) (held : Held) (s : Layout) : Type 0 where
  pub content : content_at s.pages held.page ≡ held.homed.page
  pub fixed : IsContent v.about.opening held.page held.homed.page
  pub young : RefersYoung v.about.opening held.page held.homed.page → held.remembered ≡ true
  pub hand : Hand
  pub has : v.hand ≡ Some hand
  pub page_is : hand.page ≡ held.page
  pub frame : hand.frame ≡ held.homed.frame
  pub counted : hand.counted ≡ []
  pub marked : hand.marked ≡ []
  pub flag : hand.remembered ≡ true → held.remembered ≡ true

pub held-in : (v : View) (held : Held) (s : Layout) → ShowsHeld v held s ⊎ ShowsFrozen v held s → InHand v held s
held-in v held s (inl x) = record {
  content = x.content;
  fixed = x.fixed;
  young = x.young;
  hand = x.hand;
  has = x.has;
  page_is = x.page_is;
  frame = x.frame;
  counted = x.counted;
  marked = x.marked;
  flag = x.flag;
}
held-in v held s (inr x) = record {
  content = x.content;
  fixed = x.fixed;
  young = x.young;
  hand = x.hand;
  has = x.has;
  page_is = x.page_is;
  frame = x.frame;
  counted = x.counted;
  marked = x.marked;
  flag = λ on. x.flag ∙ on;
}

-- a page in hand that is the lane's own is had so
pub held-own : (v : View) (held : Held) (s : Layout) → IsOwnPage v held.page → ShowsHeld v held s ⊎ ShowsFrozen v held s → ShowsHeld v held s
held-own v held s own (inl x) = x
held-own v held s own (inr x) = absurd (let none = x.unowned in omega arith)

pub owns-page : (v : View) (p : ℕ) → IsOwnPage v p → owns v p ≡ true
owns-page v p own = lt-ltb 0 _ own

-- a page that its own lane puts back is recorded as remembered exactly where it is put back so
own-recorded : (v : View) (held : Held) → IsOwnPage v held.page → (put_back v held).recorded ≡ (if held.remembered then held.page ∷ v.recorded else v.recorded)
own-recorded v held own = by-flag held.remembered (owns v held.page) (owns-page v held.page own)
  where
    by-flag : (b c : Bool) → c ≡ true → (if b && c then held.page ∷ v.recorded else v.recorded) ≡ (if b then held.page ∷ v.recorded else v.recorded)
    by-flag true c on = ap (λ (t : Bool). if t then held.page ∷ v.recorded else v.recorded) on
    by-flag false c on = refl

recorded-here : (v : View) (held : Held) → IsOwnPage v held.page → times held.page (put_back v held).recorded ≡ one_if held.remembered + times held.page v.recorded
recorded-here v held own =
    let same = ap (times held.page) (own-recorded v held own) in
    let more = recorded_times held.remembered held.page held.page v.recorded in
    let here = flag_is held.remembered held.page in
    omega arith

pub recorded-else : (v : View) (held : Held) (p : ℕ) → held.page ≢ p → times p (put_back v held).recorded ≡ times p v.recorded
recorded-else v held p ne =
    let more = recorded_times (held.remembered && owns v held.page) p held.page v.recorded in
    let none = flag_other (held.remembered && owns v held.page) held.page p ne in
    omega arith

-- the page in hand is put back
abbrev pub given : View → Held → View
given v held = put_back v held

given-here : (v : View) (held : Held) (s : Layout) → ShowsHeld v held s → ShowsPage (given v held) s held.page
given-here v held s shown =
    let more = recorded-here v held shown.own in
    record {
      content = shown.content ∙ sym (look_here (owns v held.page) held.page held.homed.page (opened_content v.about held.page) v.changed (owns-page v held.page shown.own));
      remembered = (
        λ is. let one : one_if held.remembered ≡ 1 = ap one_if (shown.remembered.0 is) in omega arith,
        λ lt. elim (cases_Bool held.remembered) [
          | inl on ↦ shown.remembered.1 on
          | inr off ↦ shown.remembered.1 (shown.kept (let none : one_if held.remembered ≡ 0 = ap one_if off in omega arith))
        ],
      );
      here = shown.here;
    }

given-other : (v : View) (held : Held) (s : Layout) (p : ℕ) → p ≢ held.page → ShowsPage v s p → ShowsPage (given v held) s p
given-other v held s p ne shown =
    let ne' : held.page ≢ p = λ e. ne (sym e) in
    let same = recorded-else v held p ne' in
    record {
      content = shown.content ∙ sym (look_other (owns v held.page) p held.page held.homed.page (opened_content v.about p) v.changed ne');
      remembered = (λ is. let was = shown.remembered.0 is in omega arith, λ lt. shown.remembered.1 (omega arith));
      here = shown.here;
    }

pub shows-given : (v : View) (held : Held) (end : ℕ) (s : Layout) → ShowsPages v (Some held) end s → ShowsPages (put_back v held) None end s
shows-given v held end s shown = record {
  same = shown.same;
  end_is = shown.end_is;
  opening = shown.opening;
  others = λ p own _. elim (cases_eq p held.page) [
    | inl e ↦ subst (ShowsPage (given v held) s) (sym e) (given-here v held s (held-own v held s (subst (IsOwnPage v) e own) shown.in_hand))
    | inr ne ↦ given-other v held s p ne (shown.others p own ne)
  ];
  frozen = λ p is none. shown.frozen p is none;
  in_hand = tt;
}

-- what was so after it was put back was so before
back-other : (v : View) (held : Held) (s : Layout) (p : ℕ) → p ≢ held.page → ShowsPage (given v held) s p → ShowsPage v s p
back-other v held s p ne shown =
    let ne' : held.page ≢ p = λ e. ne (sym e) in
    let same = recorded-else v held p ne' in
    record {
      content = shown.content ∙ look_other (owns v held.page) p held.page held.homed.page (opened_content v.about p) v.changed ne';
      remembered = (λ is. let was = shown.remembered.0 is in omega arith, λ lt. shown.remembered.1 (omega arith));
      here = shown.here;
    }

back-here : (v : View) (held : Held) (s t : Layout) → ShowsHeld v held t → ShowsPage (given v held) s held.page → ShowsHeld v held s
back-here v held s t first shown =
    let more = recorded-here v held first.own in
    record {
      own = first.own;
      content = shown.content ∙ look_here (owns v held.page) held.page held.homed.page (opened_content v.about held.page) v.changed (owns-page v held.page first.own);
      remembered = (
        λ is. elim (cases_Bool held.remembered) [
          | inl on ↦ on
          | inr off ↦ first.kept (let was = shown.remembered.0 is in let none : one_if held.remembered ≡ 0 = ap one_if off in omega arith)
        ],
        λ on. shown.remembered.1 (let one : one_if held.remembered ≡ 1 = ap one_if on in omega arith),
      );
      kept = first.kept;
      here = shown.here;
      fixed = first.fixed;
      young = first.young;
      hand = first.hand;
      has = first.has;
      page_is = first.page_is;
      frame = first.frame;
      counted = first.counted;
      marked = first.marked;
      flag = first.flag;
    }

-- of a page of a frozen domain too
back-frozen : (v : View) (held : Held) (s t : Layout) → ShowsFrozen v held t → content_at s.pages held.page ≡ opened_content v.about held.page → ShowsFrozen v held s
back-frozen v held s t first shown = record {
  frozen = first.frozen;
  unowned = first.unowned;
  content = shown ∙ sym first.opened;
  opened = first.opened;
  fixed = first.fixed;
  young = first.young;
  hand = first.hand;
  has = first.has;
  page_is = first.page_is;
  frame = first.frame;
  taken = first.taken;
  flag = first.flag;
  counted = first.counted;
  marked = first.marked;
}

pub shows-back : (v : View) (held : Held) (end last : ℕ) (s t : Layout) → ShowsPages v (Some held) last t → ShowsPages (put_back v held) None end s → ShowsPages v (Some held) end s
shows-back v held end last s t first shown = record {
  same = shown.same;
  end_is = shown.end_is;
  opening = shown.opening;
  others = λ p own ne. back-other v held s p ne (shown.others p own (λ x. x));
  frozen = λ p is none. shown.frozen p is none;
  in_hand = elim first.in_hand [
    | inl own ↦ inl (back-here v held s t own (shown.others held.page own.own (λ x. x)))
    | inr is ↦ inr (back-frozen v held s t is (shown.frozen held.page is.frozen is.unowned))
  ];
}

-- a word of a page is read
read-page : (v : View) (q found : ℕ) (s : Layout) (p : ℕ) → ShowsPage v s p → ShowsPage (having_read v q found) s p
read-page v q found s p shown = record { content = shown.content; remembered = shown.remembered; here = shown.here }

pub shows-read : (v : View) (q found end : ℕ) (s : Layout) → ShowsPages v None end s → ShowsPages (having_read v q found) None end s
shows-read v q found end s shown = record {
  same = shown.same;
  end_is = shown.end_is;
  opening = shown.opening;
  others = λ p own none. read-page v q found s p (shown.others p own none);
  frozen = λ p is none. shown.frozen p is none;
  in_hand = tt;
}

-- a page is taken
abbrev box : ℕ → Bool → Homed → Held
box page remembered homed = record { page = page; remembered = remembered; homed = homed }

grips-page : (v : View) (q : ℕ) (b : Bool) (homed : Homed) (s : Layout) (p : ℕ) → ShowsPage v s p → ShowsPage (gripping v q b homed) s p
grips-page v q b homed s p shown = record { content = shown.content; remembered = shown.remembered; here = shown.here }

grips-held : (v w : View) (p : ℕ) (b : Bool) (homed : Homed) (s : Layout) → w.about ≡ v.about → w.recorded ≡ v.recorded → IsOwnPage w p → ShowsPage v s p → Takes v p b homed → IsOwnPage v p
    → ShowsHeld (gripping w p b homed) (box p b homed) s
grips-held v w p b homed s same put own shown takes own_v = record {
  own = own;
  content = shown.content ∙ sym (takes.mine own_v);
  remembered = (λ is. takes.recorded (shown.remembered.0 is), λ on. shown.remembered.1 (takes.found on own_v));
  kept = λ lt. takes.recorded (subst (λ (l : List ℕ). 0 < one_if (opened_word v.about p == 2) + times p l) put (subst (λ (a : Key). 0 < one_if (opened_word a p == 2) + times p w.recorded) same lt));
  here = shown.here;
  fixed = subst (λ a. IsContent a.opening p homed.page) (sym same) takes.fixed;
  young = λ y. takes.young (subst (λ a. RefersYoung a.opening p homed.page) same y);
  hand = record { page = p; remembered = b; frame = homed.frame; content = homed.page; counted = []; marked = [] };
  has = refl;
  page_is = refl;
  frame = refl;
  counted = refl;
  marked = refl;
  flag = λ on. on;
}

-- one of a frozen domain
grips-frozen : (v w : View) (p : ℕ) (b : Bool) (homed : Homed) (s : Layout) → w.about ≡ v.about → w.roles ≡ v.roles → IsFrozenPage v p → has_role v (owner v.about p) ≡ 0 → times (owner v.about p) v.about.roles ≡ 0
    → content_at s.pages p ≡ opened_content v.about p → Takes v p b homed → ShowsFrozen (gripping w p b homed) (box p b homed) s
grips-frozen v w p b homed s same roles is none nobody shown takes =
    let opened : homed.page ≡ opened_content v.about p = takes.unowned nobody in
    record {
      frozen = ap (λ (k : Key). owner k p) same ∙ is;
      unowned = ap (times (owner w.about p)) roles ∙ ap (λ (k : Key). has_role v (owner k p)) same ∙ none;
      content = shown ∙ sym opened;
      opened = opened ∙ sym (ap (λ (k : Key). opened_content k p) same);
      fixed = subst (λ a. IsContent a.opening p homed.page) (sym same) takes.fixed;
      young = λ y. takes.young (subst (λ a. RefersYoung a.opening p homed.page) same y);
      hand = record { page = p; remembered = b; frame = homed.frame; content = homed.page; counted = []; marked = [] };
      has = refl;
      page_is = refl;
      frame = refl;
      taken = refl;
      flag = refl;
      counted = refl;
      marked = refl;
    }

-- the page that is taken is had as the one in hand
shows-gripped : (v : View) (p end : ℕ) (b : Bool) (homed : Homed) (s : Layout) → ShowsPages v None end s
    → ShowsHand (gripping (tried v p Work b) p b homed) (Some (box p b homed)) s → ShowsPages (gripping (tried v p Work b) p b homed) (Some (box p b homed)) end s
shows-gripped v p end true homed s shown hand =
    record {
      same = shown.same;
      end_is = shown.end_is;
      opening = shown.opening;
      others = λ q own_q _. grips-page (having_read v p 2) p true homed s q (read-page v p 2 s q (shown.others q own_q (λ x. x)));
      frozen = λ q is none. shown.frozen q is none;
      in_hand = hand;
    }
shows-gripped v p end false homed s shown hand =
    record {
      same = shown.same;
      end_is = shown.end_is;
      opening = shown.opening;
      others = λ q own_q _. grips-page v p false homed s q (shown.others q own_q (λ x. x));
      frozen = λ q is none. shown.frozen q is none;
      in_hand = hand;
    }

hand-taken : (v : View) (p end : ℕ) (b : Bool) (homed : Homed) (s : Layout) → IsOwnPage v p → Takes v p b homed → ShowsPages v None end s → ShowsHeld (gripping (tried v p Work b) p b homed) (box p b homed) s
hand-taken v p end true homed s own takes shown = grips-held v (having_read v p 2) p true homed s refl refl own (shown.others p own (λ x. x)) takes own
hand-taken v p end false homed s own takes shown = grips-held v v p false homed s refl refl own (shown.others p own (λ x. x)) takes own

hand-taken_frozen : (v : View) (p end : ℕ) (b : Bool) (homed : Homed) (s : Layout) → IsFrozenPage v p → has_role v (owner v.about p) ≡ 0 → times (owner v.about p) v.about.roles ≡ 0 → Takes v p b homed → ShowsPages v None end s
    → ShowsFrozen (gripping (tried v p Work b) p b homed) (box p b homed) s
hand-taken_frozen v p end true homed s is none nobody takes shown = grips-frozen v (having_read v p 2) p true homed s refl refl is none nobody (shown.frozen p is none) takes
hand-taken_frozen v p end false homed s is none nobody takes shown = grips-frozen v v p false homed s refl refl is none nobody (shown.frozen p is none) takes

pub shows-taken : (v : View) (p end : ℕ) (b : Bool) (homed : Homed) (s : Layout) → IsOwnPage v p → Takes v p b homed → ShowsPages v None end s → ShowsPages (gripping (tried v p Work b) p b homed) (Some (box p b homed)) end s
shows-taken v p end b homed s own takes shown = shows-gripped v p end b homed s shown (inl (hand-taken v p end b homed s own takes shown))

-- one of a frozen domain: where the seat had the role of nobody it would be its own
pub shows-taken_frozen : (v : View) (p end : ℕ) (b : Bool) (homed : Homed) (s : Layout) → IsFrozenPage v p → times (owner v.about p) v.about.roles ≡ 0 → Takes v p b homed → ShowsPages v None end s
    → ShowsPages (gripping (tried v p Work b) p b homed) (Some (box p b homed)) end s
shows-taken_frozen v p end b homed s is nobody takes shown = elim (cases_lt 0 (has_role v (owner v.about p))) [
  | inl own ↦ shows-taken v p end b homed s own takes shown
  | inr none ↦ shows-gripped v p end b homed s shown (inr (hand-taken_frozen v p end b homed s is (omega arith) nobody takes shown))
]

-- what the space at the opening has of a cell of this one
pub allocated-opened : (s o : Layout) (a : ℕ) → s ≡ record o { states = s.states; pages = s.pages; incoming = s.incoming } → IsAllocated s a → IsAllocated o a
allocated-opened s o a same on = subst (λ (x : Layout). IsAllocated x a) same on

same-superpages : (s o : Layout) → s ≡ record o { states = s.states; pages = s.pages; incoming = s.incoming } → superpages s ≡ superpages o
same-superpages s o same = ap superpages same

-- the words of a cell on the page in hand
module _ (v : View) (held : Held) (end : ℕ) (s : Layout) (cell : ℕ) (shown : ShowsPages v (Some held) end s) (on : page_of cell ≡ held.page) where
  content : content_at s.pages (page_of cell) ≡ held.homed.page
  content = ap (content_at s.pages) on ∙ (held-in v held s shown.in_hand).content

  pub held-word : (k : ℕ) → get_or (content_at s.pages (page_of cell)) k 0 ≡ get_or held.homed.page k 0
  held-word k = ap (λ (c : List ℕ). get_or c k 0) content

  pub held-head : word_at s.pages cell ≡ get_or held.homed.page (offset_of cell) 0
  held-head = held-word (offset_of cell)

  pub head-opened : IsAllocated s cell → word_at s.pages cell ≡ word_at v.about.opening.pages cell
  head-opened there = held-head ∙ (held-in v held s shown.in_hand).fixed.heads cell (allocated-opened s v.about.opening cell shown.same there) on

  -- a field of the cell
  pub field-opened : (i : ℕ) → HasField s cell i → IsFieldOn v.about.opening held.page cell i
  field-opened i f = record {
    allocated = allocated-opened s v.about.opening cell shown.same f.allocated;
    on = on;
    within = subst (λ (n : ℕ). i < fields_of_bits n) (head-opened f.allocated) f.within;
  }

-- what may be held there is fixed
named-fixed : (s o : Layout) (cell : ℕ) (w : Word) → s ≡ record o { states = s.states; pages = s.pages; incoming = s.incoming } → MayHold s cell w → NamesFixed o w
named-fixed s o cell Nil same may = tt
named-fixed s o cell (Num n) same may = tt
named-fixed s o cell (Ref a) same may = elim (may a refl) [
  | inl there ↦ inl (allocated-opened s o a.0 same there)
  | inr young ↦ inr (let e = same-superpages s o same in let le = young.0 in omega arith)
]

-- a word that refers to a nursery is held on a Remembered page alone
young-remembered : (s o : Layout) (cell : ℕ) (w : Word) → IsLayout s → s ≡ record o { states = s.states; pages = s.pages; incoming = s.incoming } → MayHold s cell w → IsYoung o w → state_at s.states (page_of cell) ≡ Remembered
young-remembered s o cell Nil l same may young = absurd young
young-remembered s o cell (Num n) l same may young = absurd young
young-remembered s o cell (Ref a) l same may young = elim (may a refl) [
  | inl there ↦ absurd (let e = same-superpages s o same in let lt = allocated-below s a.0 l there in omega arith)
  | inr is ↦ is.1
]

module _ (v : View) (held : Held) (end : ℕ) (s : Layout) (cell index : ℕ) (w : Word) (shown : ShowsPages v (Some held) end s) (on : page_of cell ≡ held.page) (own : IsOwnPage v held.page) (f : HasField s cell index) (may : MayHold s cell w) (packed : IsPacked (word_bits w)) where
  mine : ShowsHeld v held s
  mine = held-own v held s own shown.in_hand

  abbrev o : Layout
  o = v.about.opening

  abbrev at : ℕ
  at = offset_of cell + 1 + index

  abbrev now : List ℕ
  now = set held.homed.page at (word_bits w)

  abbrev box' : Held
  box' = record { page = held.page; remembered = held.remembered; homed = record held.homed { page = now } }

  abbrev t : Layout
  t = record s { pages = with_word s.pages (cell + 1 + index) (word_bits w) }

  field : IsFieldOn o held.page cell index
  field = field-opened v held end s cell shown on index f

  word-is : word_of_bits (word_bits w) ≡ w
  word-is = word_of_bits-word_bits w

  fixed' : IsContent o held.page now
  fixed' = set_fixed o held.page held.homed.page cell index at (word_bits w) shown.opening mine.fixed field refl packed
      (subst (NamesFixed o) (sym word-is) (named-fixed s o cell w shown.same may))

  room : at < length held.homed.page
  room = let a = field-room o cell index shown.opening field.allocated field.within in let b = mine.fixed.long in omega arith

  young' : RefersYoung o held.page now → held.remembered ≡ true
  young' y = elim (cases_eq (offset_of y.cell + 1 + y.index) at) [
    | inl e ↦
        let bits : field_bits now y.cell y.index ≡ word_bits w = ap (λ (k : ℕ). get_or now k 0) e ∙ get_or-set_same held.homed.page at (word_bits w) 0 room in
        let is : IsYoung o w = subst (IsYoung o) (ap word_of_bits bits ∙ word-is) y.young in
        mine.remembered.0 (ap (state_at s.states) (sym on) ∙ young-remembered s o cell w f.layout shown.same may is)
    | inr ne ↦
        let bits : field_bits now y.cell y.index ≡ field_bits held.homed.page y.cell y.index = get_or-set_other held.homed.page at (offset_of y.cell + 1 + y.index) (word_bits w) 0 ne in
        mine.young (record { cell = y.cell; index = y.index; is = y.is; young = subst (λ (n : ℕ). IsYoung o (word_of_bits n)) bits y.young })
  ]

  pages-are : with_word s.pages (cell + 1 + index) (word_bits w) ≡ set s.pages held.page now
  pages-are =
      let page = field-page s cell index f.layout f.allocated f.within ∙ on in
      let offset = field-offset s cell index f.layout f.allocated f.within in
      ap (λ (p : ℕ). set s.pages p (set (content_at s.pages p) (offset_of (cell + 1 + index)) (word_bits w))) page
      ∙ ap (λ (k : ℕ). set s.pages held.page (set (content_at s.pages held.page) k (word_bits w))) offset
      ∙ ap (λ (c : List ℕ). set s.pages held.page (set c at (word_bits w))) mine.content

  inside : held.page < length s.pages
  inside = let lt = allocated-page s cell f.layout f.allocated in let long = f.layout.pages_long in let e = on in omega arith

  written-other : (p : ℕ) → p ≢ held.page → ShowsPage v s p → ShowsPage v t p
  written-other p ne page = record {
    content = ap (λ (ps : List (List ℕ)). content_at ps p) pages-are ∙ get_or-set_other s.pages held.page p now [] ne ∙ page.content;
    remembered = page.remembered;
    here = page.here;
  }

  pub shows-written : ShowsPages v (Some box') end t
  shows-written = record {
    same = ap (λ (x : Layout). record x { pages = with_word s.pages (cell + 1 + index) (word_bits w) }) shown.same;
    end_is = shown.end_is;
    opening = shown.opening;
    others = λ p own_p ne. written-other p ne (shown.others p own_p ne);
    frozen = λ p is none. ap (λ (ps : List (List ℕ)). content_at ps p) pages-are
        ∙ get_or-set_other s.pages held.page p now [] (λ e. absurd (let same = ap (λ (q : ℕ). has_role v (owner v.about q)) e in omega arith)) ∙ shown.frozen p is none;
    in_hand = inl (record {
      own = mine.own;
      content = ap (λ (ps : List (List ℕ)). content_at ps held.page) pages-are ∙ get_or-set_same s.pages held.page now [] inside;
      remembered = mine.remembered;
      kept = mine.kept;
      here = mine.here;
      fixed = fixed';
      young = young';
      hand = mine.hand;
      has = mine.has;
      page_is = mine.page_is;
      frame = mine.frame;
      counted = mine.counted;
      marked = mine.marked;
      flag = mine.flag;
    });
  }

-- what is read of a cell on the page in hand
pub shown-hand : (v : View) (hand : Option Held) (held : Held) (end : ℕ) (s : Layout) → hand ≡ Some held → ShowsPages v hand end s → ShowsPages v (Some held) end s
shown-hand v hand held end s is shown = subst (λ (x : Option Held). ShowsPages v x end s) is shown

pub hand-page : (hand : Option Held) (held : Held) (page : ℕ) → hand ≡ Some held → HasPage hand page → page ≡ held.page
hand-page hand held page is has = subst (λ (x : Option Held). HasPage x page) is has

pub read-head : (v : View) (held : Held) (end cell bits : ℕ) (s : Layout) → ShowsPages v (Some held) end s → page_of cell ≡ held.page → bits ≡ get_or held.homed.page (offset_of cell) 0 → bits ≡ word_at s.pages cell
read-head v held end cell bits s shown on read = read ∙ sym (held-word v held end s cell shown on (offset_of cell))

pub read-field : (v : View) (held : Held) (end cell index bits : ℕ) (s : Layout) (word : Word) → ShowsPages v (Some held) end s → page_of cell ≡ held.page → index < fields_at s cell
    → word ≡ word_of_bits bits → bits ≡ get_or held.homed.page (offset_of cell + 1 + index) 0 → word ≡ get_or (cell_at s.pages cell).fields index word
read-field v held end cell index bits s word shown on less is read =
    is ∙ ap word_of_bits (read ∙ sym (held-word v held end s cell shown on (offset_of cell + 1 + index)))
    ∙ sym (get_or-words_from (content_at s.pages (page_of cell)) (offset_of cell + 1) (fields_at s cell) index word less)

-- the page in hand becomes Remembered
module _ (v : View) (held : Held) (end : ℕ) (s : Layout) (page : ℕ) (shown : ShowsPages v (Some held) end s) (l : IsLayout s) (less : page < 4 * superpages s) (is : page ≡ held.page) (own : IsOwnPage v held.page) where
  own-hand : ShowsHeld v held s
  own-hand = held-own v held s own shown.in_hand

  abbrev marked : Layout
  marked = record s { states = with_state s.states page Remembered }

  remembers : Remembers s marked page
  remembers = remembers-home s marked page l less refl

  remembered-other : (p : ℕ) → p ≢ held.page → ShowsPage v s p → ShowsPage v marked p
  remembered-other p ne was =
      let same : state_at marked.states p ≡ state_at s.states p = remembers.states.others p (λ e. ne (e ∙ is)) in
      record {
        content = was.content;
        remembered = (λ e. was.remembered.0 (sym same ∙ e), λ lt. same ∙ was.remembered.1 lt);
        here = ap is_gone same ∙ was.here;
      }

  pub shows-remembered : ShowsPages v (Some (record held { remembered = true })) end marked
  shows-remembered =
      let here : state_at marked.states held.page ≡ Remembered = ap (state_at marked.states) (sym is) ∙ remembers.states.here in
      record {
        same = ap (λ (x : Layout). record x { states = with_state s.states page Remembered }) shown.same;
        end_is = shown.end_is;
        opening = shown.opening;
        others = λ p own_p ne. remembered-other p ne (shown.others p own_p ne);
        frozen = λ p fz none. shown.frozen p fz none;
        in_hand = inl (record {
          own = own-hand.own;
          content = own-hand.content;
          remembered = (λ _. refl, λ _. here);
          kept = λ _. refl;
          here = ap is_gone here;
          fixed = own-hand.fixed;
          young = λ _. refl;
          hand = own-hand.hand;
          has = own-hand.has;
          page_is = own-hand.page_is;
          frame = own-hand.frame;
          counted = own-hand.counted;
          marked = own-hand.marked;
          flag = λ _. refl;
        });
      }
