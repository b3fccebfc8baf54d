-- Bookmark bits of the space that a closed table gives back, against the space over which it was opened.
use Rattle.std.proofs.Common.{◌≡◌, ℕ, ◌+◌, ◌*◌, ◌/◌, ◌%◌, ◌<◌, ◌≤◌, ◌==◌, ◌⊎◌, true, false, List, [], slice_index, inl, inr, refl, ap, sym, subst, ◌∙◌, arith}
use Rattle.std.specs.Int.{bit_at}
use Rattle.std.proofs.lemmas.Bool.{cases_Bool, cases_eq, cases_lt}
use Rattle.std.proofs.lemmas.List.{get_or_past}
use Rattle.bc_bits.specs.Bits.{has}
use Rattle.bc_bits.specs.Counting.{one_if}
use Rattle.bc_bits.proofs.BitLemmas.{has-beyond}
use Rattle.bc_bookmarks.specs.Summarised.{gone_in}
use Rattle.bc_bookmarks.specs.Targets.{has_target_at, is_target}
use Rattle.bc_bookmarks.proofs.TargetLemmas.{target-at}
use Rattle.bc_pins.specs.Calls.{view_of}
use Rattle.bc_pager.specs.Answering.{says_evicted}
use Rattle.bc_pager.specs.declared.answers.Answer.{Answer}
use Rattle.bc_pins.specs.Closing.{Closed, ClosedBit, IsOfPageLeft}
use Rattle.bc_pins.specs.Contents.{has_target_with}
use Rattle.bc_pins.specs.Facts.{IsBitOfTarget, has_bit_of, opened_bit, puts_with}
use Rattle.bc_pins.specs.Key.{Key}
use Rattle.bc_pins.specs.Totals.{times, total}
use Rattle.bc_pins.specs.Views.{opened_content, opened_state, state_word}
use Rattle.bc_pins.specs.declared.pins.Seat.{Seat}
use Rattle.bc_pins.proofs.TallyLemmas.{bit_few, bit_in, few_bits, in_bit, target_in}
use Rattle.bc_turn.specs.Answered.{BookmarksBeside, IsTargetLeft}
use Rattle.bc_superpages.specs.declared.headers.PageState.{PageState}
use Rattle.bc_superpages.specs.declared.headers.PageState.TheVariants.{Absent, Gone, Held, Home, Remembered}
use Rattle.bc_superpages.specs.Headers.{is_gone}
use Rattle.bc_superpages.specs.Kept.{IsLayout}
use Rattle.bc_superpages.specs.Layout.{Layout, content_at, set_of, superpages}
use Rattle.bc_superpages.specs.LayoutAt.{state_at}
use Rattle.bc_superpages.specs.Memory.{memory}
use Rattle.bc_word.specs.Addresses.{cell_number, superpage_of}

-- a space's bits against themselves
pub bits-none : (Had : ℕ → List ℕ → Type 0) (s : Layout) → BookmarksBeside Had s s [] [] []
bits-none Had s = record { stay = λ q b on. on; only = λ q b on. inl on }

-- a page isn't Gone by its word
not-gone : (st : PageState) → one_if (state_word st == 4) ≡ 0 → is_gone st ≡ false
not-gone Absent zero = refl
not-gone Home zero = refl
not-gone Remembered zero = refl
not-gone Held zero = refl
not-gone Gone zero = absurd (omega arith)

clash : {X : Type 0} → false ≡ true → X
clash e = absurd (go e)
  where
    go : false ≡ true → ⊥
    go q = cc

-- a set of a space has no bit past the last of sixteen words
few-set : (s : Layout) (q b : ℕ) → IsLayout s → has (set_of s.bookmarks q) b ≡ true → b < 1024
few-set s q b layout on = elim (cases_lt q (superpages s)) [
  | inl lt ↦ few_bits (set_of s.bookmarks q) b (layout.each q lt).tags.bookmarks.0 on
  | inr out ↦
      let long = layout.long.bookmarks in
      let empty : set_of s.bookmarks q ≡ [] = get_or_past s.bookmarks q [] (omega arith) in
      clash (sym (has-beyond [] b (omega arith)) ∙ sym (ap (λ (ws : List ℕ). has ws b) empty) ∙ on)
]

module _ (k : Key) (s t : Layout) (seats : List Seat) (told : List Answer) (left fetched : List ℕ) (opening : k.opening ≡ s) (closed : Closed k seats t) (before : IsLayout s) (after : IsLayout t)
    (fetched_are : (p : ℕ) → total (λ (seat : Seat). times p (view_of seat).fetched) seats ≡ times p fetched)
    (left_are : (p : ℕ) → total (λ (seat : Seat). times p (view_of seat).left) seats ≡ total (says_evicted p) told + times p left)
    (Had : ℕ → List ℕ → Type 0) (put_are : (p w b : ℕ) → 0 < total (λ (seat : Seat). puts_with k p w b (view_of seat).changed) seats → (content : List ℕ) × Had p content × (has_bit_of k p content w b ≡ true)) where
  -- a bit that came is that of a target of a page that was made Gone
  abbrev CameFor : ℕ → ℕ → Type 0
  CameFor q b = IsTargetLeft Had s t told left fetched q b

  -- the sets of superpages past the table
  set-behind : (q : ℕ) → k.supers ≤ q → set_of t.bookmarks q ≡ set_of s.bookmarks q
  set-behind q far = closed.bits_behind q far ∙ ap (λ (x : Layout). set_of x.bookmarks q) opening

  -- a target that a page has at the table is one that it has in the space
  target-here : (page w b : ℕ) → IsBitOfTarget k page (content_at t.pages page) w b → has_target_at t page (w / 16) (64 * (w % 16) + b) ≡ true
  target-here page w b is =
      let target : is_target (memory t) page is.address ≡ true =
      ap (λ (x : Layout). is_target (memory x) page is.address) closed.same ∙ sym (target_in k.opening t.pages page is.address (content_at t.pages page) refl) ∙ is.target in
      let classes : t.classes ≡ k.opening.classes = ap (λ (x : Layout). x.classes) closed.same in
      let number : cell_number (slice_index t.classes (superpage_of is.address)) is.address ≡ 64 * (w % 16) + b =
      ap (λ (cs : List ℕ). cell_number (slice_index cs (superpage_of is.address)) is.address) classes ∙ is.number in
      subst (λ (n : ℕ). has_target_at t page (w / 16) n ≡ true) number
      (subst (λ (q : ℕ). has_target_at t page q (cell_number (slice_index t.classes (superpage_of is.address)) is.address) ≡ true) is.superpage (target-at t page is.address target))

  -- so a bit that came is that of a new target, where the page didn't come back
  new-target : (w b : ℕ) → (m : IsOfPageLeft k seats t w b) → total (λ (seat : Seat). times m.page (view_of seat).fetched) seats ≡ 0
      → (gone_in s m.page ≡ false) × (gone_in t m.page ≡ true) × (has_target_at t m.page (w / 16) (64 * (w % 16) + b) ≡ true)
  new-target w b m none =
      let count = (closed.states_are m.page m.inside).gone in
      let some = m.left in
      let still = m.still none in
      let now : one_if (state_word (state_at t.states m.page) == 4) ≡ 1 = ap (λ (st : PageState). one_if (state_word st == 4)) still.0 in
      let was : opened_state k m.page ≡ state_at s.states m.page = ap (λ (x : Layout). state_at x.states m.page) opening in
      (ap is_gone (sym was) ∙ not-gone (opened_state k m.page) (omega arith), ap is_gone still.0, target-here m.page w b still.1)

  -- and of a target that it had by a content that it had
  had-target : (w b : ℕ) → (m : IsOfPageLeft k seats t w b) → (content : List ℕ) × ((content_at s.pages m.page ≡ content) ⊎ Had m.page content) × (has_bit_of k m.page content w b ≡ true)
  had-target w b m = elim (cases_Bool (has_bit_of k m.page (opened_content k m.page) w b)) [
    | inl on ↦ (opened_content k m.page, inl (sym (ap (λ (x : Layout). content_at x.pages m.page) opening)), on)
    | inr off ↦
        let none : one_if (has_bit_of k m.page (opened_content k m.page) w b) ≡ 0 = ap one_if off in
        let some = m.had in
        let put = put_are m.page w b (omega arith) in
        (put.0, inr put.1, put.2)
  ]

  came-for : (w b : ℕ) → IsOfPageLeft k seats t w b → CameFor (w / 16) (64 * (w % 16) + b)
  came-for w b m =
      let had = had-target w b m in
      record {
        page = m.page;
        left_is = (let all = left_are m.page in let some = m.left in omega arith);
        content = had.0;
        had = had.1;
        target = subst (λ (x : Layout). has_target_with x m.page had.0 (w / 16) (64 * (w % 16) + b) ≡ true) opening had.2;
        still = λ none. let all = fetched_are m.page in new-target w b m (omega arith);
      }

  -- bit b of the set of a superpage of the table
  module _ (q b : ℕ) (near : q < k.supers) (few : b < 1024) where
    abbrev word : ℕ
    word = 16 * q + b / 64

    word-set : word / 16 ≡ q
    word-set = omega arith

    word-place : word % 16 ≡ b / 64
    word-place = omega arith

    bit : ClosedBit k seats t word (b % 64)
    bit = closed.bits word (b % 64) (omega arith) (omega arith)

    place-back : 64 * (b / 64) + b % 64 ≡ b
    place-back = omega arith

    place : 64 * (word % 16) + b % 64 ≡ b
    place = ap (λ (n : ℕ). 64 * n + b % 64) word-place ∙ place-back

    -- as the table has it
    told_bit : has (set_of t.bookmarks (word / 16)) (64 * (word % 16) + b % 64) ≡ has (set_of t.bookmarks q) b
    told_bit = ap (λ (n : ℕ). has (set_of t.bookmarks n) (64 * (word % 16) + b % 64)) word-set ∙ ap (has (set_of t.bookmarks q)) place

    -- and as it was at the opening
    was : opened_bit k word (b % 64) ≡ bit_at (slice_index (set_of s.bookmarks q) (b / 64)) (b % 64)
    was =
        ap (λ (n : ℕ). bit_at (slice_index (set_of k.opening.bookmarks n) (word % 16)) (b % 64)) word-set
        ∙ ap (λ (n : ℕ). bit_at (slice_index (set_of k.opening.bookmarks q) n) (b % 64)) word-place
        ∙ ap (λ (x : Layout). bit_at (slice_index (set_of x.bookmarks q) (b / 64)) (b % 64)) opening

    stays : has (set_of s.bookmarks q) b ≡ true → has (set_of t.bookmarks q) b ≡ true
    stays on =
        let one = in_bit (set_of s.bookmarks q) (b / 64) (b % 64) (omega arith) (ap (has (set_of s.bookmarks q)) place-back ∙ on) in
        let at = was in
        sym told_bit ∙ bit.kept (omega arith)

    came : has (set_of t.bookmarks q) b ≡ true → (has (set_of s.bookmarks q) b ≡ true) ⊎ CameFor q b
    came on = elim (cases_eq (opened_bit k word (b % 64)) 0) [
      | inl zero ↦
          inr (subst (λ (n : ℕ). CameFor q n) place (subst (λ (n : ℕ). CameFor n (64 * (word % 16) + b % 64)) word-set (came-for word (b % 64) (bit.new (told_bit ∙ on) zero))))
      | inr some ↦
          let small = bit_few (slice_index (set_of s.bookmarks q) (b / 64)) (b % 64) in
          let at = was in
          inl (ap (has (set_of s.bookmarks q)) (sym place-back) ∙ bit_in (set_of s.bookmarks q) (b / 64) (b % 64) (omega arith) (omega arith))
    ]

  -- bookmark bits stay, and those that came are those of targets of pages that were made Gone
  pub new-bits : BookmarksBeside Had s t told left fetched
  new-bits = record {
    stay = λ q b on. elim (cases_lt q k.supers) [
      | inl near ↦ stays q b near (few-set s q b before on) on
      | inr far ↦ ap (λ (ws : List ℕ). has ws b) (set-behind q far) ∙ on
    ];
    only = λ q b on. elim (cases_lt q k.supers) [
      | inl near ↦ came q b near (few-set t q b after on) on
      | inr far ↦ inl (sym (ap (λ (ws : List ℕ). has ws b) (set-behind q far)) ∙ on)
    ];
  }
