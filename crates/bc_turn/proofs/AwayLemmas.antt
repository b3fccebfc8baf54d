-- A page that stopped a lane is Gone once the table is closed.
use Rattle.std.proofs.Common.{◌≡◌, ◌≢◌, ◌⊎◌, ℕ, ◌<◌, ◌≤◌, ◌==◌, List, length, get_or, inl, inr, refl, ap, sym, subst, ◌∙◌, arith}
use Rattle.std.proofs.lemmas.Bool.{cases_lt}
use Rattle.bc_bits.specs.Counting.{one_if}
use Rattle.bc_pins.specs.Calls.{view_of}
use Rattle.bc_pins.specs.Closing.{Closed}
use Rattle.bc_pins.specs.Key.{Key, owner, pages_of}
use Rattle.bc_pins.specs.Totals.{times, total}
use Rattle.bc_pins.specs.Views.{state_word}
use Rattle.bc_pins.specs.declared.pins.Seat.{Seat}
use Rattle.bc_pins.specs.declared.views.View.{View}
use Rattle.bc_pins.proofs.TotalLemmas.{total_in}
use Rattle.bc_superpages.specs.declared.headers.PageState.{PageState}
use Rattle.bc_superpages.specs.declared.headers.PageState.TheVariants.{Absent, Gone, Held, Home, Remembered}
use Rattle.bc_superpages.specs.Kept.{IsLayout}
use Rattle.bc_superpages.specs.Layout.{Layout}
use Rattle.bc_superpages.specs.LayoutAt.{IsAllocated, state_at}
use Rattle.bc_superpages.proofs.BringLemmas.{allocated-not_absent}
use Rattle.bc_turn.proofs.AnsweredLemmas.{is-gone}
use Rattle.bc_word.specs.Addresses.{page_of}

-- a page that some lane holds, and that the view notes as gone, or as in another's hands, is Gone in the space t, where a cell of the space s
-- lies on it
abbrev pub NotesGone : View → Layout → Layout → Type 0
NotesGone v s t = (page cell : ℕ) → IsAllocated s cell → page_of cell ≡ page → owner v.about page ≢ 0 → (0 < times page v.gone) ⊎ (0 < times page v.busy) → state_at t.states page ≡ Gone

present-word : (st : PageState) → (st ≡ Absent → ⊥) → one_if (state_word st == 0) ≡ 0
present-word Absent present = absurd (present refl)
present-word Home present = refl
present-word Remembered present = refl
present-word Held present = refl
present-word Gone present = refl

-- who takes a page of another lane's, a pager or a lane, puts none back: so a page that was in another's hands left, or was emptied,
-- and no page is emptied on which a cell lies
module _ (k : Key) (s t : Layout) (seats : List Seat) (opening : k.opening ≡ s) (behind : (p : ℕ) → pages_of k ≤ p → state_at s.states p ≡ Absent)
    (closed : Closed k seats t) (before : IsLayout s) (after : IsLayout t) (kept : (p : ℕ) → owner k p ≢ 0 → total (λ (seat : Seat). times p (view_of seat).returned) seats ≡ 0) where
  still-there : (cell : ℕ) → IsAllocated s cell → IsAllocated t cell
  still-there cell there = subst (λ (x : Layout). IsAllocated x cell) (sym closed.same) (subst (λ (x : Layout). IsAllocated x cell) (sym opening) there)

  gone-word : (i page cell : ℕ) (d : Seat) → i < length seats → IsAllocated s cell → page_of cell ≡ page → page < pages_of k → owner k page ≢ 0 → 0 < times page (view_of (get_or seats i d)).busy
      → 0 < one_if (state_word (state_at t.states page) == 4)
  gone-word i page cell d lt there on near owned busy =
      let states = closed.states_are page near in
      let all = total_in (λ (seat : Seat). times page (view_of seat).busy) seats i d lt in
      let why = states.busy (omega arith) in
      let returned = kept page owned in
      let present = present-word (state_at t.states page) (λ is. allocated-not_absent t cell after (still-there cell there) (ap (state_at t.states) on ∙ is)) in
      omega arith

  pub notes-gone : (i : ℕ) (d : Seat) → i < length seats → (view_of (get_or seats i d)).about ≡ k → NotesGone (view_of (get_or seats i d)) s t
  notes-gone i d lt about page cell there on owned noted = elim noted [
    | inl gone ↦ closed.read_gone i lt d page gone
    | inr busy ↦ elim (cases_lt page (pages_of k)) [
      | inl near ↦ is-gone (state_at t.states page) (gone-word i page cell d lt there on near (subst (λ (a : Key). owner a page ≢ 0) about owned) busy)
      | inr far ↦ absurd (allocated-not_absent s cell before there (ap (state_at s.states) on ∙ behind page far))
    ]
  ]
