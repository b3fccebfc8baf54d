-- The states of pages, where one page is made Remembered.
use Rattle.std.proofs.Common.{◌≡◌, ◌⊎◌, ℕ, ◌*◌, ◌/◌, ◌%◌, ◌<◌, List, [], length, get_or, set, refl, sym, ap, ◌∙◌, inl, inr, arith, get_or-set_same}
use Rattle.std.proofs.lemmas.Bool.{cases_eq}
use Rattle.bc_nursery.specs.Entries.{Entries}
use Rattle.bc_superpages.specs.declared.headers.PageState.{PageState}
use Rattle.bc_superpages.specs.declared.headers.PageState.TheVariants.{Absent, Remembered}
use Rattle.bc_superpages.specs.Kept.{IsLayout}
use Rattle.bc_superpages.specs.Layout.{Layout, superpages}
use Rattle.bc_superpages.specs.LayoutAt.{state_at, states_of, with_state}
use Rattle.bc_word.specs.Addresses.{page_of}
use Rattle.bc_word.specs.declared.addresses.Address.{Address}
use Rattle.bc_word.specs.declared.words.Word.{Word}
use Rattle.bc_mutator.specs.Effects.{Records, Remembers}
use Rattle.bc_bookmarks.proofs.StateLemmas.{state-other, with_state-same}

-- the state of the page
pub state_at-same : (states : List (List PageState)) (p : ℕ) (x : PageState) → p / 4 < length states → p % 4 < length (states_of states (p / 4)) → state_at (with_state states p x) p ≡ x
state_at-same states p x within less =
    ap (λ (row : List PageState). get_or row (p % 4) Absent) (get_or-set_same states (p / 4) (set (states_of states (p / 4)) (p % 4) x) [] within)
    ∙ get_or-set_same (states_of states (p / 4)) (p % 4) x Absent less

-- a page was made Remembered, or was so before
pub remembers-home : (s t : Layout) (p : ℕ) → IsLayout s → p < 4 * superpages s → t ≡ record s { states = with_state s.states p Remembered } → Remembers s t p
remembers-home s t p k lt is =
    let states : t.states ≡ with_state s.states p Remembered = ap (λ (x : Layout). x.states) is in
    let within : p / 4 < length s.states = (let long = k.long.states in omega arith) in
    let row : p % 4 < length (states_of s.states (p / 4)) = (let long = (k.each (p / 4) (omega arith)).states_long in omega arith) in
    record {
      space = is ∙ ap (λ (x : List (List PageState)). record s { states = x }) (sym states);
      states = record {
        same = states;
        here = ap (λ (x : List (List PageState)). state_at x p) states ∙ state_at-same s.states p Remembered within row;
        others = λ q ne. ap (λ (x : List (List PageState)). state_at x q) states ∙ state-other s.states p q Remembered within ne;
      };
    }

pub remembers-already : (s : Layout) (p : ℕ) → state_at s.states p ≡ Remembered → Remembers s s p
remembers-already s p e = record {
  space = refl;
  states = record { same = sym (with_state-same s.states p Remembered e); here = e; others = λ q ne. refl };
}

-- a page's state after a field of a cell was written
pub state-after : (s t : Layout) (b e : Entries) (at : Address) (index : ℕ) (word : Word) (p : ℕ) → Records s t b e at index word → (state_at t.states p ≡ state_at s.states p) ⊎ (state_at t.states p ≡ Remembered)
state-after s t b e at index word p (inl r) = inl (ap (λ (x : List (List PageState)). state_at x p) r.1.1)
state-after s t b e at index word p (inr r) = elim (cases_eq p (page_of at.0)) [
  | inl here ↦ inr (ap (λ (x : ℕ). state_at t.states x) here ∙ r.1.1.here)
  | inr ne ↦ inl (r.1.1.others p ne)
]
