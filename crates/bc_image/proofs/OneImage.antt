-- States that one image pictures are alike as far as their slots lead.
use Rattle.std.proofs.Common.{◌≡◌, ℕ, List, [], ◌∷◌, length, map, get_or, refl, sym, ap, ◌∙◌}
use Prim.Native.Nat.{zero, suc}
use Rattle.bc_model.specs.Resembles.{Resembles}
use Rattle.bc_model.specs.State.{State, Object, made_by}
use Rattle.bc_standing.proofs.Keeping.{Stands-one_part}
use Rattle.bc_word.specs.Words.{word_of_bits}
use Rattle.bc_image.specs.Listings.{ListingLists}
use Rattle.bc_image.specs.Memories.{memory_of}
use Rattle.bc_image.specs.Pictures.{Pictures}

-- how many a lane has made, read off the list of all counts
counted : (mss : List (List Object)) (j : ℕ) → length (made_by mss j) ≡ get_or (map (λ (made : List Object). length made) mss) j 0
counted [] j = refl
counted (ms ∷ mss) zero = refl
counted (ms ∷ mss) (suc j) = counted mss j

pub one-image : (l : ListingLists) (s t : State) → Pictures l s → Pictures l t → Resembles s t
one-image l s t p q =
    let part = Stands-one_part (memory_of l.cells) (map word_of_bits l.roots) s.slots t.slots s.made t.made p.stands q.stands in
    let counts : map (λ (made : List Object). length made) t.made ≡ map (λ (made : List Object). length made) s.made = sym q.births ∙ p.births in
    record {
      width = q.sizes.slots ∙ sym p.sizes.slots;
      slots = sym part.same;
      holders = sym q.holders ∙ p.holders;
      objects = record {
        lanes = q.sizes.lanes ∙ sym p.sizes.lanes;
        next = λ j. counted t.made j ∙ ap (λ (ns : List ℕ). get_or ns j 0) counts ∙ sym (counted s.made j);
        object = λ b reached. sym (part.objects b reached);
      };
    }
