-- What a heap lists pictures the states that it stands for, and heaps that list the same stand for the same.
use Rattle.std.proofs.Common.{◌≡◌, ◌↔◌, ℕ, List, map, refl, sym, ap, subst, ◌∙◌}
use Rattle.bc_memory.specs.Memory.{Memory}
use Rattle.bc_model.specs.State.{State}
use Rattle.bc_model.specs.declared.traces.Setup.{Setup}
use Rattle.bc_model.specs.declared.values.Holder.{Holder}
use Rattle.bc_standing.specs.Standing.{StandsFor}
use Rattle.bc_superpages.specs.Kept.{IsLayout}
use Rattle.bc_superpages.specs.Layout.{Layout}
use Rattle.bc_superpages.specs.Memory.{memory}
use Rattle.bc_superpages.specs.RootWords.{RootWords}
use Rattle.bc_word.specs.Words.{word_of_bits}
use Rattle.bc_image.specs.Listings.{ListingLists}
use Rattle.bc_image.specs.Memories.{memory_of}
use Rattle.bc_image.specs.Pictures.{Pictures}
use Rattle.bc_picture.specs.PicturedHeaps.{StandsWith}
use Rattle.bc_picture.specs.SpaceListing.{heap_listing}
use Rattle.bc_picture.proofs.ListedBack.{listed-memory}

-- a listing and a heap with its memory and its root words
pub pictured : (l : ListingLists) (r : RootWords) (s : Layout) (state : State) → memory s ≡ memory_of l.cells → r.words ≡ l.roots → Pictures l state ↔ StandsWith l.setup l.holders l.births r s state
pictured l r s state same words = (
  λ p. record {
    stands = subst (λ (m : Memory). StandsFor m (map word_of_bits r.words) state) (sym same) (subst (λ (ns : List ℕ). StandsFor (memory_of l.cells) (map word_of_bits ns) state) (sym words) p.stands);
    sizes = p.sizes;
    held = p.holders;
    born = p.births;
  },
  λ h. record {
    stands = subst (λ (ns : List ℕ). StandsFor (memory_of l.cells) (map word_of_bits ns) state) words (subst (λ (m : Memory). StandsFor m (map word_of_bits r.words) state) same h.stands);
    sizes = h.sizes;
    holders = h.held;
    births = h.born;
  },
)

pub pictures-listed : (version phases : ℕ) (setup : Setup) (holders : List Holder) (births : List ℕ) (r : RootWords) (s : Layout) → IsLayout s → (state : State) → Pictures (heap_listing version setup phases holders births r s) state ↔ StandsWith setup holders births r s state
pictures-listed version phases setup holders births r s k state = pictured (heap_listing version setup phases holders births r s) r s state (sym (listed-memory s k)) refl

module _ (version phases : ℕ) (setup : Setup) (holders : List Holder) (births : List ℕ) (r q : RootWords) (s t : Layout) (k : IsLayout s) (j : IsLayout t) (same : heap_listing version setup phases holders births q t ≡ heap_listing version setup phases holders births r s) where
  pub built-same : (memory t ≡ memory s) × (q.words ≡ r.words)
  built-same = (sym (listed-memory t j) ∙ ap (λ (l : ListingLists). memory_of l.cells) same ∙ listed-memory s k, ap (λ (l : ListingLists). l.roots) same)

  pub same-states : (state : State) → StandsWith setup holders births r s state ↔ StandsWith setup holders births q t state
  same-states state =
      let p = pictures-listed version phases setup holders births r s k state in
      let u = pictures-listed version phases setup holders births q t j state in
      (λ h. u.0 (subst (λ (l : ListingLists). Pictures l state) (sym same) (p.1 h)), λ h. p.0 (subst (λ (l : ListingLists). Pictures l state) same (u.1 h)))
