-- The space at the opening, by what is left of its parts: its allocated cells lie on pages of the table, and pages past it are Absent.
use Rattle.std.proofs.Common.{◌≡◌, ℕ, ◌*◌, ◌/◌, ◌%◌, ◌<◌, ◌≤◌, List, [], length, map, get_or, inl, inr, ap, sym, subst, ◌∙◌, arith}
use Rattle.std.proofs.lemmas.Bool.{cases_lt}
use Rattle.std.proofs.lemmas.List.{length-map, get_or_past}
use Rattle.bc_word.specs.Addresses.{page_of}
use Rattle.bc_superpages.specs.declared.headers.Header.{Header}
use Rattle.bc_superpages.specs.declared.headers.PageState.{PageState}
use Rattle.bc_superpages.specs.declared.headers.PageState.TheVariants.{Absent}
use Rattle.bc_superpages.specs.Kept.{IsLayout}
use Rattle.bc_superpages.specs.Layout.{Layout, superpages}
use Rattle.bc_superpages.specs.LayoutAt.{state_at, IsAllocated}
use Rattle.bc_superpages.specs.Parts.{parts_layout}
use Rattle.bc_superpages.proofs.BringLemmas.{allocated-not_absent}
use Rattle.bc_superpages.proofs.HandLemmas.{allocated-superpage, state-header}
use Rattle.bc_superpages.proofs.KeptLemmas.{IsLayout-kept}
use Rattle.bc_pins.specs.Key.{Key, pages_of}
use Rattle.bc_pins.specs.Views.{opened_state}
use Rattle.bc_pins.specs.Opening.{IsRest}
use Rattle.bc_pins.specs.Resting.{RestView}

pub opening_layout : (k : Key) (r : RestView) → IsRest r.whole r.parts r.pages → parts_layout r.whole ≡ k.opening → IsLayout k.opening
opening_layout k r rest layout = subst IsLayout layout (IsLayout-kept r.whole.headers.items r.whole.boxes.items r.whole.pool r.whole.nursery.items r.whole.store.places _ _ _ _ rest.kept.kept)

pub opening_inside : (k : Key) (r : RestView) → IsRest r.whole r.parts r.pages → r.pages ≡ pages_of k → parts_layout r.whole ≡ k.opening → (a : ℕ) → IsAllocated k.opening a → page_of a < pages_of k
opening_inside k r rest paged layout a there =
    let whole = opening_layout k r rest layout in
    let few = allocated-superpage k.opening a whole there in
    let many : superpages k.opening ≡ length r.whole.headers.items = ap superpages (sym layout) ∙ length-map r.whole.headers.items (λ (h : Header). h.used) in
    elim (cases_lt (page_of a) (pages_of k)) [
      | inl lt ↦ lt
      | inr le ↦ absurd (allocated-not_absent k.opening a whole there
          (ap (λ (s : Layout). state_at s.states (page_of a)) (sym layout) ∙ state-header r.whole.headers.items (page_of a) (omega arith) ∙ rest.behind (page_of a) (omega arith)))
    ]

-- a page that no header has is Absent
past_headers : (hs : List Header) (p : ℕ) → 4 * length hs ≤ p → state_at (map (λ (h : Header). h.pages) hs) p ≡ Absent
past_headers hs p le =
    let size = length-map hs (λ (h : Header). h.pages) in
    ap (λ (l : List PageState). get_or l (p % 4) Absent) (get_or_past (map (λ (h : Header). h.pages) hs) (p / 4) [] (omega arith)) ∙ get_or_past [] (p % 4) Absent (omega arith)

pub opening_behind : (k : Key) (r : RestView) → IsRest r.whole r.parts r.pages → r.pages ≡ pages_of k → parts_layout r.whole ≡ k.opening → (p : ℕ) → pages_of k ≤ p → opened_state k p ≡ Absent
opening_behind k r rest paged layout p le = ap (λ (s : Layout). state_at s.states p) (sym layout) ∙ elim (cases_lt p (4 * length r.whole.headers.items)) [
  | inl lt ↦ state-header r.whole.headers.items p lt ∙ rest.behind p (omega arith)
  | inr past ↦ past_headers r.whole.headers.items p past
]
