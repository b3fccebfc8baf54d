-- Where what is listed of a space is an image, each reference of its objects is to an allocated cell.
use Rattle.std.proofs.Common.{◌≡◌, ℕ, ◌+◌, ◌*◌, ◌/◌, ◌-◌, ◌<◌, List, [], ◌∷◌, ◌++◌, length, map, get_or, Option, Some, None, option_map, refl, sym, ap, subst, ◌∙◌, inl, inr, arith}
use Prim.Native.Nat.{zero, suc}
use Rattle.std.specs.List.{AllByRecursion}
use Rattle.std.proofs.lemmas.Bool.{cases_Bool, cases_eq, ne_eqb}
use Rattle.bc_bookmarks.specs.Targets.{NamesCells}
use Rattle.bc_bookmarks.proofs.TargetLemmas.{names-fields}
use Rattle.bc_memory.specs.Memory.{Cell, Memory}
use Rattle.bc_word.specs.Words.{word_of_bits}
use Rattle.bc_word.specs.WordBits.{word_bits}
use Rattle.bc_word.specs.declared.words.Word.{Word}
use Rattle.bc_word.specs.declared.words.Word.TheVariants.{Nil, Num, Ref}
use Rattle.bc_word.proofs.WordLemmas.{word_of_bits-even}
use Rattle.bc_superpages.specs.Calls.{NamesCell}
use Rattle.bc_superpages.specs.Kept.{IsLayout}
use Rattle.bc_superpages.specs.Layout.{Layout, superpages, is_cell}
use Rattle.bc_superpages.specs.LayoutAt.{IsAllocated}
use Rattle.bc_superpages.specs.Memory.{memory}
use Rattle.bc_superpages.proofs.HandLemmas.{allocated-superpage}
use Rattle.bc_superpages.proofs.MemoryLemmas.{memory_of-none}
use Rattle.bc_image.specs.Cells.{CellList}
use Rattle.bc_image.specs.Images.{IsLinked, AreLinked, IsListed}
use Rattle.bc_image.specs.Listings.{ListingLists}
use Rattle.bc_image.specs.Memories.{number_at}
use Rattle.bc_picture.specs.SpaceListing.{listed_cell, listed_from, listed_cells}

-- what lies in memory is allocated
there-allocated : (s : Layout) (a : ℕ) (c : Cell) → memory s a ≡ Some c → IsAllocated s a
there-allocated s a c there =
    elim (cases_Bool (is_cell s.classes s.cells a)) [
      | inl on ↦ on
      | inr off ↦ absurd (let bad : None ≡ Some c = sym (memory_of-none s.classes s.cells s.pages a off) ∙ there in cc)
    ]

-- what is listed at an address lies there
listed-there : (m : Memory) (a n x k : ℕ) → number_at (listed_from m x n) a ≡ Some k → (c : Cell) × (m a ≡ Some c)
unfolding listed_from
listed-there m a zero x k is = absurd (let bad : None ≡ Some k = is in cc)
listed-there m a (suc n) x k is = here (m x) refl is (λ i found. listed-there m a n (x + 1) i found)
  where
    later : (o : Option ℕ) → number_at (listed_from m (x + 1) n) a ≡ o → option_map (λ (i : ℕ). i + 1) o ≡ Some k → ((i : ℕ) → number_at (listed_from m (x + 1) n) a ≡ Some i → (c : Cell) × (m a ≡ Some c)) → (c : Cell) × (m a ≡ Some c)
    later None found bad more = absurd (let e : None ≡ Some k = bad in cc)
    later (Some i) found _ more = more i found

    here : (o : Option Cell) → m x ≡ o → number_at (listed_cell x o ++ listed_from m (x + 1) n) a ≡ Some k → ((i : ℕ) → number_at (listed_from m (x + 1) n) a ≡ Some i → (c : Cell) × (m a ≡ Some c)) → (c : Cell) × (m a ≡ Some c)
    here None none found more = more k found
    here (Some c) there found more =
        elim (cases_eq x a) [
          | inl same ↦ (c, subst (λ (y : ℕ). m y ≡ Some c) same there)
          | inr other ↦ later (number_at (listed_from m (x + 1) n) a) refl (sym (rw (ne_eqb x a other) refl) ∙ found) more
        ]

-- what is true of all that is listed is true of an object that lies there
listed-has : (m : Memory) (P : CellList → Type 0) (a : ℕ) (c : Cell) (n x j : ℕ) → a ≡ x + j → j < n → m a ≡ Some c → AllByRecursion P (listed_from m x n) → P (record { address = a; head = c.head; fields = map word_bits c.fields })
unfolding listed_from
listed-has m P a c zero x j at lt there all = absurd (omega arith)
listed-has m P a c (suc n) x zero at lt there all =
    let here : a ≡ x = omega arith in
    first (m x) (sym (ap m here) ∙ there) (subst (λ (y : ℕ). AllByRecursion P (listed_cell y (m y) ++ listed_from m (x + 1) n)) refl all)
  where
    first : (o : Option Cell) → o ≡ Some c → AllByRecursion P (listed_cell x o ++ listed_from m (x + 1) n) → P (record { address = a; head = c.head; fields = map word_bits c.fields })
    first None bad more = absurd (let e : None ≡ Some c = bad in cc)
    first (Some d) is more =
        let same : d ≡ c = (let e : Some d ≡ Some c = is in cc) in
        let at_x : x ≡ a = omega (arith, at) in
        subst (λ (y : ℕ). P (record { address = y; head = c.head; fields = map word_bits c.fields })) at_x (subst (λ (e : Cell). P (record { address = x; head = e.head; fields = map word_bits e.fields })) same more.0)
listed-has m P a c (suc n) x (suc j) at lt there all =
    listed-has m P a c n (x + 1) j (omega arith) (omega arith) there (behind (listed_cell x (m x)) (listed_from m (x + 1) n) all)
  where
    behind : (xs ys : List CellList) → AllByRecursion P (xs ++ ys) → AllByRecursion P ys
    behind [] ys a = a
    behind (x ∷ xs) ys a = behind xs ys a.1

-- a field that is listed as linked names an allocated cell
linked-names : (s : Layout) (n : ℕ) (w : Word) → IsLinked (listed_from (memory s) 0 n) (word_of_bits (word_bits w)) → NamesCell s w
linked-names s n Nil h = tt
linked-names s n (Num v) h = tt
linked-names s n (Ref a) h =
    let is : word_of_bits (2 * (a.0 + 1)) ≡ Ref a =
    word_of_bits-even (2 * (a.0 + 1)) (omega arith) (λ e. absurd (omega arith)) ∙ ap (λ (k : ℕ). Ref (record { 0 = k })) (let e : 2 * (a.0 + 1) / 2 - 1 ≡ a.0 = omega arith in e) in
    let found : IsLinked (listed_from (memory s) 0 n) (Ref a) = subst (IsLinked (listed_from (memory s) 0 n)) is h in
    let c = listed-there (memory s) a.0 n 0 found.0 found.1 in
    inl (there-allocated s a.0 c.0 c.1)

fields-linked : (cells : List CellList) (ws : List Word) (k : ℕ) → k < length ws → AreLinked cells (map word_bits ws) → IsLinked cells (word_of_bits (word_bits (get_or ws k Nil)))
fields-linked cells [] k lt all = absurd (omega arith)
fields-linked cells (w ∷ ws) zero lt all = all.0.1
fields-linked cells (w ∷ ws) (suc k) lt all = fields-linked cells ws k (omega arith) all.1

pub listing-names : (s : Layout) (l : ListingLists) → IsLayout s → l.cells ≡ listed_cells s → AllByRecursion (IsListed l) l.cells → (p : ℕ) → NamesCells s p
listing-names s l k is all p =
    names-fields s p (λ x on c there i lt.
    let within : x < 2048 * superpages s = (let q = allocated-superpage s x k (there-allocated s x c there) in omega arith) in
    let listed = listed-has (memory s) (IsListed l) x c (2048 * superpages s) 0 x (omega arith) within there (subst (AllByRecursion (IsListed l)) is all) in
    linked-names s (2048 * superpages s) (get_or c.fields i Nil) (fields-linked (listed_cells s) c.fields i lt (subst (λ (cs : List CellList). AreLinked cs (map word_bits c.fields)) is listed.fields)))
