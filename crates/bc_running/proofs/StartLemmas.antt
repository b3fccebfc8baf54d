-- A new heap stands for the opening state.
use Rattle.std.proofs.Common.{◌≡◌, ℕ, ◌*◌, ◌%◌, List, [], ◌∷◌, length, map, replicate, mul_comm, refl, sym, ap, subst, ◌∙◌}
use Prim.Native.Nat.{zero, suc}
use Rattle.std.proofs.lemmas.List.{length-map, length-replicate}
use Rattle.bc_cycle.specs.Emptying.{IsEmptied}
use Rattle.bc_cycle.specs.Openings.{new_heap}
use Rattle.bc_cycle.proofs.OpeningLemmas.{chunks-long, no_object}
use Rattle.bc_failsafe.proofs.OpeningLemmas.{nothing}
use Rattle.bc_memory.specs.Memory.{Memory}
use Rattle.bc_model.specs.Reached.{Holds, FieldHolds, Reached}
use Rattle.bc_model.specs.Run.{opening}
use Rattle.bc_model.specs.State.{Object, State, numbers_below}
use Rattle.bc_model.specs.WellFormed.{IsSetup}
use Rattle.bc_model.specs.declared.traces.Setup.{Setup}
use Rattle.bc_model.specs.declared.values.Birth.{Birth}
use Rattle.bc_model.specs.declared.values.Holder.{Holder}
use Rattle.bc_model.specs.declared.values.Holder.TheVariants.{Lane}
use Rattle.bc_model.specs.declared.values.Value.TheVariants as value
use Rattle.bc_model.proofs.Openings.{IsState-opening, length-numbers_below}
use Rattle.bc_nursery.specs.Objects.{emptied}
use Rattle.bc_reach.proofs.Reaching.{Reach-least}
use Rattle.bc_standing.specs.Standing.{ReadAs, births}
use Rattle.bc_standing.proofs.Homes.{births-cell}
use Rattle.bc_standing.proofs.Reading.{ReadAs-nil, replicate_default}
use Rattle.bc_superpages.specs.RootWords.{RootWords}
use Rattle.bc_whole_heap.specs.Heaps.{HeapView, heap_memory, root_words}
use Rattle.bc_whole_heap.specs.LaneStates.{StandsAs}
use Rattle.bc_word.specs.declared.words.Word.{Word}
use Rattle.bc_word.specs.declared.words.Word.TheVariants.{Nil}
use Rattle.bc_word.specs.Words.{word_of_bits}
use Rattle.bc_word.proofs.WordLemmas.{word_of_bits-nil}

-- zeros read as words are nil
pub nil-words : (n : ℕ) → map word_of_bits (replicate n 0) ≡ replicate n Nil
nil-words zero = refl
nil-words (suc n) = ap (λ (w : Word). w ∷ map word_of_bits (replicate n 0)) word_of_bits-nil ∙ ap (λ (ws : List Word). Nil ∷ ws) (nil-words n)

-- the opening state reaches nothing
pub none-reached : (setup : Setup) (b : Birth) → Reached (opening setup).slots (opening setup).made b → ⊥
none-reached setup b r =
    Reach-least (Holds (opening setup).slots) (FieldHolds (opening setup).made) (λ x. ⊥)
    (λ x held. nil_obj x (sym (replicate_default (setup.slots * setup.domains) held.0 value.Nil) ∙ held.1))
    (λ x y _ p e. p) b r
  where
    nil_obj : (x : Birth) → value.Nil ≡ value.Obj x → ⊥
    nil_obj x e = cc

pub opening-stands : (s : Setup) → IsSetup s → StandsAs (new_heap s) (opening s).holders (replicate s.lanes 0) (opening s)
opening-stands s range =
    let h = new_heap s in
    let m : Memory = heap_memory h.space h.chunks in
    record {
      consistent = IsState-opening s range;
      stands = record {
        values = subst (λ (n : ℕ). ReadAs (births m) (root_words h.roots) (replicate n value.Nil)) (mul_comm s.domains s.slots)
            (subst (λ (ws : List Word). ReadAs (births m) ws (replicate (s.domains * s.slots) value.Nil)) (sym (nil-words (s.domains * s.slots)))
            (ReadAs-nil (births m) (s.domains * s.slots)));
        home = λ b r. absurd (none-reached s b r);
      };
      born = λ a b e. absurd (let c = births-cell m a b e in nothing s.superpages s.frames (s.lanes * s.nursery) a h.chunks (no_object s) (c.0, c.1));
      held = refl;
      births = no-births s.lanes;
      domains = sym (length-map (numbers_below s.domains) (λ d. Lane (d % s.lanes)) ∙ length-numbers_below s.domains);
      slots = refl;
      lanes = chunks-long s ∙ sym (length-replicate {A = List Object} s.lanes []);
    }
  where
    no-births : (n : ℕ) → map length (replicate {A = List Object} n []) ≡ replicate n 0
    no-births zero = refl
    no-births (suc n) = ap (λ (ns : List ℕ). 0 ∷ ns) (no-births n)

pub stands-emptied : {hs : List Holder} {serials : List ℕ} {h k : HeapView} (state : State) → IsEmptied h k → StandsAs h hs serials state → StandsAs k hs serials state
stands-emptied {hs} {serials} {h} state is st = record {
  consistent = st.consistent;
  stands = is.keeps state.slots state.made st.stands;
  born = λ a b e. let from = is.born a b e in st.born from.0 b from.1;
  held = st.held;
  births = st.births;
  domains = ap (λ (x : RootWords). x.domains) is.sizes.roots ∙ st.domains;
  slots = ap (λ (x : RootWords). x.slots) is.sizes.roots ∙ st.slots;
  lanes = ap length is.cleared ∙ length-map h.chunks emptied ∙ st.lanes;
}
