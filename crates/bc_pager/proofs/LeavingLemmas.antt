-- Pages that leave a space, as answers name them: what one after another name adds up, and what answers alone name.
use Rattle.std.proofs.Common.{◌≡◌, ◌≢◌, ◌⊎◌, ◌↔◌, ℕ, ◌+◌, ◌*◌, ◌%◌, ◌<◌, ◌==◌, ◌&&◌, ◌||◌, Bool, true, inl, inr, List, [], ◌∷◌, ◌++◌, length, slice_index, refl, ap, sym, subst, ◌∙◌, arith, tests}
use Rattle.std.proofs.lemmas.Bool.{cases_eq, cases_lt, eq-eqb, ne_eqb, or_cases}
use Rattle.bc_bits.specs.Bits.{has}
use Rattle.bc_bits.specs.Counting.{one_if}
use Rattle.bc_bookmarks.specs.Choices.{EligibleNamesCells}
use Rattle.bc_bookmarks.specs.Changes.{Discarded as Vacates, Evicted as Departs}
use Rattle.bc_bookmarks.specs.Targets.{NamesCells, has_target_at, is_target}
use Rattle.bc_bookmarks.specs.Moves.{Frees}
use Rattle.bc_bookmarks.proofs.MovingLemmas.{Frees-given}
use Rattle.bc_bookmarks.proofs.StateLemmas.{state-here, state-other}
use Rattle.bc_bookmarks.proofs.TargetLemmas.{at-target, target-at}
use Rattle.bc_pager.specs.Alone.{GivesUpFor, IsPlainAnswer}
use Rattle.bc_pager.specs.Answering.{says_discarded, says_evicted}
use Rattle.bc_pager.specs.Leaving.{IsDiscardedBy, IsEvictedBy, IsTargetOfNamed, LeavesNamed, SameObjects}
use Rattle.bc_pager.specs.declared.answers.Answer.{Answer}
use Rattle.bc_pager.specs.declared.answers.Answer.TheVariants.{Declined, Discarded, Evicted}
use Rattle.bc_pins.specs.Totals.{total}
use Rattle.bc_pins.proofs.TotalLemmas.{total_append}
use Rattle.bc_superpages.specs.declared.headers.PageState.{PageState}
use Rattle.bc_superpages.specs.declared.headers.PageState.TheVariants.{Absent, Gone, Home}
use Rattle.bc_superpages.specs.Calls.{IsTaken, class_at}
use Rattle.bc_superpages.specs.Kept.{IsLayout}
use Rattle.bc_superpages.specs.Layout.{Layout, is_cell, set_of, superpages}
use Rattle.bc_superpages.specs.LayoutAt.{state_at}
use Rattle.bc_superpages.specs.Memory.{Memory, memory}
use Rattle.bc_superpages.specs.Paging.{is_bookmarked}
use Rattle.bc_superpages.proofs.CellLemmas.{is_cell-bit, is_cell-start, same_cell}
use Rattle.bc_superpages.proofs.PlaceLemmas.{taken-class}
use Rattle.bc_classes.specs.ClassNumbers.{IsClass}
use Rattle.bc_word.specs.Addresses.{cell_number, superpage_of}

gone_home : Gone ≡ Home → ⊥
gone_home e = cc

absent_home : Absent ≡ Home → ⊥
absent_home e = cc

-- what answers name adds up
module _ {s m t : Layout} {first second : List Answer} (a : LeavesNamed s first m) (same : SameObjects s m) (b : LeavesNamed m second t) where
  gone-first : (p : ℕ) → IsEvictedBy first p → state_at t.states p ≡ Gone
  gone-first p e =
      let was = (a.evicted p e).1 in
      b.others p (λ f. gone_home (sym was ∙ (b.evicted p f).0)) (λ f. gone_home (sym was ∙ (b.discarded p f).0)) ∙ was

  absent-first : (p : ℕ) → IsDiscardedBy first p → state_at t.states p ≡ Absent
  absent-first p e =
      let was = (a.discarded p e).1 in
      b.others p (λ f. absent_home (sym was ∙ (b.evicted p f).0)) (λ f. absent_home (sym was ∙ (b.discarded p f).0)) ∙ was

  home-first : (p : ℕ) → state_at m.states p ≡ Home → state_at s.states p ≡ Home
  home-first p home = sym (a.others p (λ e. gone_home (sym (a.evicted p e).1 ∙ home)) (λ e. absent_home (sym (a.discarded p e).1 ∙ home))) ∙ home

  evicted-either : (p : ℕ) → IsEvictedBy (first ++ second) p → IsEvictedBy first p ⊎ IsEvictedBy second p
  evicted-either p e = elim (cases_lt 0 (total (says_evicted p) first)) [
    | inl one ↦ inl one
    | inr none ↦ inr (let sum = total_append (says_evicted p) first second in omega arith)
  ]

  discarded-either : (p : ℕ) → IsDiscardedBy (first ++ second) p → IsDiscardedBy first p ⊎ IsDiscardedBy second p
  discarded-either p e = elim (cases_lt 0 (total (says_discarded p) first)) [
    | inl one ↦ inl one
    | inr none ↦ inr (let sum = total_append (says_discarded p) first second in omega arith)
  ]

  evicted-first : (p : ℕ) → IsEvictedBy first p → IsEvictedBy (first ++ second) p
  evicted-first p e = let sum = total_append (says_evicted p) first second in omega arith

  evicted-second : (p : ℕ) → IsEvictedBy second p → IsEvictedBy (first ++ second) p
  evicted-second p e = let sum = total_append (says_evicted p) first second in omega arith

  discarded-first : (p : ℕ) → IsDiscardedBy first p → IsDiscardedBy (first ++ second) p
  discarded-first p e = let sum = total_append (says_discarded p) first second in omega arith

  discarded-second : (p : ℕ) → IsDiscardedBy second p → IsDiscardedBy (first ++ second) p
  discarded-second p e = let sum = total_append (says_discarded p) first second in omega arith

  classes : m.classes ≡ s.classes
  classes = ap (λ (x : Layout). x.classes) same

  objects : memory m ≡ memory s
  objects = ap memory same

  bits : (x : ℕ) → (is_cell s.classes t.bookmarks x ≡ true) ↔ ((is_bookmarked s x ≡ true) ⊎ IsTargetOfNamed s (first ++ second) x)
  bits x = (λ on. to ((b.bookmarks x).0 (ap (λ (cs : List ℕ). is_cell cs t.bookmarks x) classes ∙ on)), λ either. ap (λ (cs : List ℕ). is_cell cs t.bookmarks x) (sym classes) ∙ (b.bookmarks x).1 (from either))
    where
      from-first : (is_bookmarked s x ≡ true) ⊎ IsTargetOfNamed s first x → is_bookmarked m x ≡ true
      from-first on = ap (λ (cs : List ℕ). is_cell cs m.bookmarks x) classes ∙ (a.bookmarks x).1 on

      to-first : is_bookmarked m x ≡ true → (is_bookmarked s x ≡ true) ⊎ IsTargetOfNamed s (first ++ second) x
      to-first on = elim ((a.bookmarks x).0 (ap (λ (cs : List ℕ). is_cell cs m.bookmarks x) (sym classes) ∙ on)) [
        | inl was ↦ inl was
        | inr target ↦ inr (target.0, evicted-first target.0 target.1, target.2)
      ]

      to : (is_bookmarked m x ≡ true) ⊎ IsTargetOfNamed m second x → (is_bookmarked s x ≡ true) ⊎ IsTargetOfNamed s (first ++ second) x
      to (inl on) = to-first on
      to (inr target) = inr (target.0, evicted-second target.0 target.1, ap (λ (n : Memory). is_target n target.0 x) (sym objects) ∙ target.2)

      from : (is_bookmarked s x ≡ true) ⊎ IsTargetOfNamed s (first ++ second) x → (is_bookmarked m x ≡ true) ⊎ IsTargetOfNamed m second x
      from (inl on) = inl (from-first (inl on))
      from (inr target) = elim (evicted-either target.0 target.1) [
        | inl one ↦ inl (from-first (inr (target.0, one, target.2)))
        | inr two ↦ inr (target.0, two, ap (λ (n : Memory). is_target n target.0 x) objects ∙ target.2)
      ]

  pub leaves-then : LeavesNamed s (first ++ second) t
  leaves-then = record {
    evicted = λ p e. elim (evicted-either p e) [
      | inl one ↦ ((a.evicted p one).0, gone-first p one)
      | inr two ↦ (home-first p (b.evicted p two).0, (b.evicted p two).1)
    ];
    discarded = λ p e. elim (discarded-either p e) [
      | inl one ↦ ((a.discarded p one).0, absent-first p one)
      | inr two ↦ (home-first p (b.discarded p two).0, (b.discarded p two).1)
    ];
    others = λ p e d.
        b.others p (λ f. e (evicted-second p f)) (λ f. d (discarded-second p f)) ∙ a.others p (λ f. e (evicted-first p f)) (λ f. d (discarded-first p f));
    bookmarks = bits;
  }

-- no answer, and no page left
pub leaves-none : (s t : Layout) → t.states ≡ s.states → t.bookmarks ≡ s.bookmarks → LeavesNamed s [] t
leaves-none s t states bookmarks = record {
  evicted = λ p e. absurd (let lt = e in omega arith);
  discarded = λ p e. absurd (let lt = e in omega arith);
  others = λ p ne nd. ap (λ (ss : List (List PageState)). state_at ss p) states;
  bookmarks = λ a. (
    λ on. inl (ap (λ (bs : List (List ℕ)). is_cell s.classes bs a) (sym bookmarks) ∙ on),
    λ either. elim either [
      | inl on ↦ ap (λ (bs : List (List ℕ)). is_cell s.classes bs a) bookmarks ∙ on
      | inr named ↦ absurd (let lt = named.1 in omega arith)
    ],
  );
}

one-only : (page p : ℕ) → 0 < one_if (page == p) + 0 → p ≡ page
one-only page p lt = elim (cases_eq page p) [
  | inl same ↦ sym same
  | inr other ↦ absurd (let off : one_if (page == p) ≡ 0 = rw (ne_eqb page p other) refl in omega arith)
]

one-here : (page : ℕ) → 0 < one_if (page == page) + 0
one-here page = let on : one_if (page == page) ≡ 1 = rw (eq-eqb page page refl) refl in omega arith

either-left : (a b c : Bool) → c ≡ (a || b) → a ≡ true → c ≡ true
either-left a b c is on = grind (arith, tests)

either-right : (a b c : Bool) → c ≡ (a || b) → b ≡ true → c ≡ true
either-right a b c is on = grind (arith, tests)

cell-is : (cs : List ℕ) (ss : List (List ℕ)) (a : ℕ) → has (set_of ss (superpage_of a)) (cell_number (slice_index cs (superpage_of a)) a) ≡ true → a % slice_index cs (superpage_of a) ≡ 0 → is_cell cs ss a ≡ true
cell-is cs ss a on starts = ap (λ (b : Bool). b && (a % slice_index cs (superpage_of a) == 0)) on ∙ eq-eqb (a % slice_index cs (superpage_of a)) 0 starts

starts : (s : Layout) (a : ℕ) → IsTaken s a → a % slice_index s.classes (superpage_of a) ≡ 0
starts s a (inl allocated) = is_cell-start s.classes s.cells a allocated
starts s a (inr promised) = is_cell-start s.classes s.promised a promised

-- a page that was evicted is named
module _ {s t : Layout} {page : ℕ} (k : IsLayout s) (within : page < 4 * superpages s) (names : NamesCells s page) (left : Departs s page t) where
  put-here : state_at t.states page ≡ Gone
  put-here = ap (λ (x : Layout). state_at x.states page) left.same ∙ state-here s page Gone k within

  put-other : (p : ℕ) → p ≢ page → state_at t.states p ≡ state_at s.states p
  put-other p other =
      let long : length s.states ≡ superpages s = k.long.states in
      ap (λ (x : Layout). state_at x.states p) left.same ∙ state-other s.states page p Gone (let less = within in omega arith) other

  bit : (a : ℕ) → has (set_of t.bookmarks (superpage_of a)) (cell_number (class_at s a) a) ≡ (has_target_at s page (superpage_of a) (cell_number (class_at s a) a) || has (set_of s.bookmarks (superpage_of a)) (cell_number (class_at s a) a))
  bit a = left.bits (superpage_of a) (cell_number (class_at s a) a)

  its-target : (a : ℕ) → a % class_at s a ≡ 0 → has_target_at s page (superpage_of a) (cell_number (class_at s a) a) ≡ true → is_target (memory s) page a ≡ true
  its-target a begins on =
      let found = at-target s page (superpage_of a) (cell_number (class_at s a) a) on in
      let taken = names found.address found.target in
      let class_is : class_at s found.address ≡ class_at s a = ap (λ (q : ℕ). slice_index s.classes q) found.lies in
      let class = subst IsClass class_is (taken-class s found.address k taken) in
      let begun : found.address % class_at s a ≡ 0 = ap (λ (c : ℕ). found.address % c) (sym class_is) ∙ starts s found.address taken in
      let same : found.address ≡ a = same_cell (class_at s a) a found.address class begins begun found.lies found.number in
      ap (λ (x : ℕ). is_target (memory s) page x) (sym same) ∙ found.target

  pub leaves-evicted : LeavesNamed s (Evicted page ∷ []) t
  leaves-evicted = record {
    evicted = λ p e. let here = one-only page p e in (ap (state_at s.states) here ∙ left.was.home, ap (state_at t.states) here ∙ put-here);
    discarded = λ p e. absurd (let lt = e in omega arith);
    others = λ p ne nd. elim (cases_eq p page) [
      | inl here ↦ absurd (ne (subst (λ (x : ℕ). 0 < one_if (page == x) + 0) (sym here) (one-here page)))
      | inr other ↦ put-other p other
    ];
    bookmarks = λ a. (
      λ on.
          let begins = is_cell-start s.classes t.bookmarks a on in
          elim (or_cases _ _ (sym (bit a) ∙ is_cell-bit s.classes t.bookmarks a on)) [
            | inl target ↦ inr (page, one-here page, its-target a begins target)
            | inr was ↦ inl (cell-is s.classes s.bookmarks a was begins)
          ],
      λ either. elim either [
        | inl was ↦ cell-is s.classes t.bookmarks a (either-right _ _ _ (bit a) (is_cell-bit s.classes s.bookmarks a was)) (is_cell-start s.classes s.bookmarks a was)
        | inr named ↦
            let here : named.0 ≡ page = one-only page named.0 named.1 in
            let target : is_target (memory s) page a ≡ true = ap (λ (p : ℕ). is_target (memory s) p a) (sym here) ∙ named.2 in
            cell-is s.classes t.bookmarks a (either-left _ _ _ (bit a) (target-at s page a target)) (starts s a (names a target))
      ],
    );
  }

-- and so is one that was discarded
module _ {s t : Layout} {page : ℕ} (k : IsLayout s) (within : page < 4 * superpages s) (left : Vacates s page t) where
  pub leaves-discarded : LeavesNamed s (Discarded page ∷ []) t
  leaves-discarded = record {
    evicted = λ p e. absurd (let lt = e in omega arith);
    discarded = λ p e. let here = one-only page p e in (
      ap (state_at s.states) here ∙ left.was.home,
      ap (state_at t.states) here ∙ ap (λ (x : Layout). state_at x.states page) left.same ∙ state-here s page Absent k within,
    );
    others = λ p ne nd. elim (cases_eq p page) [
      | inl here ↦ absurd (nd (subst (λ (x : ℕ). 0 < one_if (page == x) + 0) (sym here) (one-here page)))
      | inr other ↦
          let long : length s.states ≡ superpages s = k.long.states in
          ap (λ (x : Layout). state_at x.states p) left.same ∙ state-other s.states page p Absent (let less = within in omega arith) other
    ];
    bookmarks = λ a. (
      λ on. inl (ap (λ (x : Layout). is_cell s.classes x.bookmarks a) (sym left.same) ∙ on),
      λ either. elim either [
        | inl on ↦ ap (λ (x : Layout). is_cell s.classes x.bookmarks a) left.same ∙ on
        | inr named ↦ absurd (let lt = named.1 in omega arith)
      ],
    );
  }

-- an answer alone names the page that left
pub leaves-plain : (s t : Layout) (hint : ℕ) (told : Answer) → IsLayout s → EligibleNamesCells s → IsPlainAnswer s hint told t → LeavesNamed s (told ∷ []) t
leaves-plain s t hint (Evicted page) k names is = leaves-evicted k is.0 (names page is.0 is.3.was) is.3
leaves-plain s t hint (Discarded page) k names is = leaves-discarded k is.0 is.2
leaves-plain s t hint Declined k names is =
    let l = leaves-none s t (ap (λ (x : Layout). x.states) is.1) (ap (λ (x : Layout). x.bookmarks) is.1) in
    record { evicted = l.evicted; discarded = l.discarded; others = l.others; bookmarks = l.bookmarks }

-- and objects are the same
pub objects-freed : (s t : Layout) → Frees s t → SameObjects s t
objects-freed s t frees = frees.same ∙ sym (ap (λ (x : Layout). let y : Layout = record s { states = x.states; bookmarks = x.bookmarks; incoming = x.incoming; free = x.free; marks = x.marks; finished = x.finished } in y) frees.same)

pub objects-none : (s : Layout) → SameObjects s s
objects-none s = refl

pub objects-then : (s u t : Layout) → SameObjects s u → SameObjects u t → SameObjects s t
objects-then s u t first more = more ∙ ap (λ (x : Layout). let y : Layout = record x { states = t.states; bookmarks = t.bookmarks; incoming = t.incoming; free = t.free; marks = t.marks; finished = t.finished } in y) first

pub objects-plain : (s t : Layout) (hint : ℕ) → IsLayout s → GivesUpFor s hint t → SameObjects s t
objects-plain s t hint k (inl given) = objects-freed s t (Frees-given s t hint given.0 k given.1 given.2)
objects-plain s t hint k (inr none) = subst (SameObjects s) (sym none.1) (objects-none s)
