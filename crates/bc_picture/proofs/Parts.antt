-- What comes first of the items of superpages, of one superpage, and of one object.
use Rattle.std.proofs.Common.{◌≡◌, ℕ, ◌+◌, ◌-◌, ◌<◌, ◌≤◌, List, [], ◌∷◌, ◌++◌, length, take, drop, get_or, map, Option, Some, sym, ap, subst, ◌∙◌, arith, append-nil}
use Prim.Native.Nat.{zero, suc}
use Rattle.std.specs.List.{flat_map}
use Rattle.std.proofs.lemmas.Grind.{flat_map-append}
use Rattle.std.proofs.lemmas.List.{map_more, take-append-drop, map-append}
use Rattle.bc_io.specs.Told.{IsPrefix}
use Rattle.bc_io.proofs.Telling.{IsPrefix-refl, IsPrefix-trans}
use Rattle.bc_memory.specs.Memory.{Cell, Memory}
use Rattle.bc_model.specs.State.{numbers_below}
use Rattle.bc_word.specs.HeadBits.{head_bits}
use Rattle.bc_word.specs.WordBits.{word_bits}
use Rattle.bc_word.specs.declared.words.Word.{Word}
use Rattle.bc_image.specs.Images.{cell_items}
use Rattle.bc_picture.specs.SpaceListing.{listed_cell, listed_from}
use Rattle.bc_picture.proofs.CellLists.{listed-split}

-- of the numbers below one, those below another
below-more : (f : ℕ → List ℕ) (k j : ℕ) → IsPrefix (flat_map f (numbers_below k)) (flat_map f (numbers_below (k + j)))
below-more f k zero = subst (λ (n : ℕ). IsPrefix (flat_map f (numbers_below k)) (flat_map f (numbers_below n))) (let e : k ≡ k + 0 = omega arith in e) (IsPrefix-refl (flat_map f (numbers_below k)))
below-more f k (suc j) =
    subst (λ (n : ℕ). IsPrefix (flat_map f (numbers_below k)) (flat_map f (numbers_below n))) (let e : suc (k + j) ≡ k + suc j = omega arith in e)
    (IsPrefix-trans (flat_map f (numbers_below k)) (flat_map f (numbers_below (k + j))) (flat_map f (numbers_below (suc (k + j)))) (below-more f k j)
    (flat_map f ((k + j) ∷ []), flat_map-append f (numbers_below (k + j)) ((k + j) ∷ [])))

pub below-prefix : (f : ℕ → List ℕ) (k n : ℕ) → k ≤ n → IsPrefix (flat_map f (numbers_below k)) (flat_map f (numbers_below n))
below-prefix f k n le = subst (λ (i : ℕ). IsPrefix (flat_map f (numbers_below k)) (flat_map f (numbers_below i))) (let e : k + (n - k) ≡ n = omega arith in e) (below-more f k (n - k))

-- of the objects from an address on, the first ones
pub cells-prefix : (m : Memory) (base a b : ℕ) → a ≤ b → IsPrefix (flat_map cell_items (listed_from m base a)) (flat_map cell_items (listed_from m base b))
cells-prefix m base a b le = (
  flat_map cell_items (listed_from m (base + a) (b - a)),
  ap (λ (n : ℕ). flat_map cell_items (listed_from m base n)) (let e : b ≡ a + (b - a) = omega arith in e)
      ∙ ap (flat_map cell_items) (listed-split m base a (b - a)) ∙ flat_map-append cell_items (listed_from m base a) (listed_from m (base + a) (b - a)),
)

-- the items of an object
pub object-items : (a : ℕ) (o : Option Cell) (c : Cell) → o ≡ Some c → flat_map cell_items (listed_cell a o) ≡ a ∷ head_bits c.head ∷ map word_bits c.fields
object-items a o c is = ap (λ (x : Option Cell). flat_map cell_items (listed_cell a x)) is ∙ append-nil (a ∷ head_bits c.head ∷ map word_bits c.fields)

-- one field more
pub fields-more : (a h : ℕ) (ws : List Word) (i : ℕ) (d : Word) → i < length ws → a ∷ h ∷ map word_bits (take (i + 1) ws) ≡ (a ∷ h ∷ map word_bits (take i ws)) ++ word_bits (get_or ws i d) ∷ []
fields-more a h ws i d lt = ap (λ (ns : List ℕ). a ∷ h ∷ ns) (map_more word_bits ws i d lt)

pub fields-prefix : (a h : ℕ) (ws : List Word) (i : ℕ) (d : Word) → i < length ws → IsPrefix ((a ∷ h ∷ map word_bits (take i ws)) ++ word_bits (get_or ws i d) ∷ []) (a ∷ h ∷ map word_bits ws)
fields-prefix a h ws i d lt = (
  map word_bits (drop (i + 1) ws),
  ap (λ (vs : List Word). a ∷ h ∷ map word_bits vs) (sym (take-append-drop (i + 1) ws)) ∙ ap (λ (ns : List ℕ). a ∷ h ∷ ns) (map-append word_bits (take (i + 1) ws) (drop (i + 1) ws))
      ∙ ap (λ (ns : List ℕ). ns ++ map word_bits (drop (i + 1) ws)) (fields-more a h ws i d lt),
)
