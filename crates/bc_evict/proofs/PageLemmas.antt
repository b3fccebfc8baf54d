-- A walk over a page in hand, from cell to cell, as over a page of a space that has the same content.
use Rattle.std.proofs.Common.{◌≡◌, ℕ, ◌+◌, ◌*◌, ◌/◌, ◌<◌, ◌≤◌, ◌||◌, Bool, true, false, List, [], set, slice_index, ap, sym, subst, ◌∙◌, arith, get_or-set_same}
use Rattle.std.proofs.lemmas.Grind.{common_steps}
use Rattle.bc_bits.specs.Counting.{any_below}
use Rattle.bc_bits.proofs.AnyLemmas.{any_below-zero, any_below-same}
use Rattle.bc_classes.specs.ClassNumbers.{IsClass}
use Rattle.bc_word.specs.declared.words.Word.{Word}
use Rattle.bc_word.specs.Addresses.{superpage_of, page_of, cell_number}
use Rattle.bc_superpages.specs.Layout.{Layout, superpages}
use Rattle.bc_superpages.specs.Memory.{memory}
use Rattle.bc_superpages.specs.Kept.{IsLayout}
use Rattle.bc_superpages.specs.Calls.{class_at}
use Rattle.bc_bookmarks.specs.Targets.{names, names_cell, some_field, some_on, is_target}
use Rattle.bc_bookmarks.proofs.TargetLemmas.{some_on-same, target-at}
use Rattle.bc_bookmarks.proofs.WalkLemmas.{cells-more}
use Rattle.bc_pins.specs.Contents.{objects_in}
use Rattle.bc_pins.proofs.TallyLemmas.{objects_at}

-- the space in which the page has this content
abbrev laid : Layout → ℕ → List ℕ → Layout
laid s page c = record s { pages = set s.pages page c }

-- the page's objects up to a place
abbrev pub some_before : (Word → Bool) → Layout → List ℕ → ℕ → ℕ → Bool
some_before test s c page n = any_below (λ i. some_field test (objects_in s c (512 * page + i))) n

module _ (s : Layout) (page : ℕ) (c : List ℕ) (l : IsLayout s) (lt_page : page < 4 * superpages s) where
  objects-laid : (x : ℕ) → page_of x ≡ page → objects_in s c x ≡ memory (laid s page c) x
  objects-laid x on = objects_at s (set s.pages page c) page c (get_or-set_same s.pages page c [] (let long = l.pages_long in omega arith)) x on

  laid-before : (test : Word → Bool) (n : ℕ) → n ≤ 512 → some_before test s c page n ≡ any_below (λ i. some_field test (memory (laid s page c) (512 * page + i))) n
  laid-before test n le = any_below-same (λ i. some_field test (objects_in s c (512 * page + i))) (λ i. some_field test (memory (laid s page c) (512 * page + i))) n
      (λ i lt. ap (some_field test) (objects-laid (512 * page + i) (omega arith)))

  pub objects-more : (test : Word → Bool) (class cell : ℕ) → IsClass class → class ≡ slice_index s.classes (page / 4) → cell < 512 / class
      → some_before test s c page (class * (cell + 1)) ≡ (some_field test (objects_in s c (512 * page + class * cell)) || some_before test s c page (class * cell))
  objects-more test class cell k is lt =
      let room : class * (cell + 1) ≤ 512 = grind (arith, common_steps) in
      let near : class * cell < 512 = grind (arith, common_steps) in
      laid-before test (class * (cell + 1)) room
      ∙ cells-more (laid s page c) test class page cell k is lt
      ∙ ap (λ (b : Bool). b || any_below (λ i. some_field test (memory (laid s page c) (512 * page + i))) (class * cell)) (sym (ap (some_field test) (objects-laid (512 * page + class * cell) (omega arith))))
      ∙ ap (λ (b : Bool). some_field test (objects_in s c (512 * page + class * cell)) || b) (sym (laid-before test (class * cell) (omega arith)))

  -- a target's cell is named
  pub cell-named : (a : ℕ) → is_target (objects_in s c) page a ≡ true → some_on (names_cell s.classes (superpage_of a) (cell_number (class_at s a) a)) (objects_in s c) page ≡ true
  cell-named a on =
      some_on-same (names_cell s.classes (superpage_of a) (cell_number (class_at s a) a)) (memory (laid s page c)) (objects_in s c) page objects-laid
      ∙ target-at (laid s page c) page a (sym (some_on-same (names a) (memory (laid s page c)) (objects_in s c) page objects-laid) ∙ on)

pub objects-none : (test : Word → Bool) (s : Layout) (c : List ℕ) (page class n : ℕ) → n ≡ 0 → some_before test s c page (class * n) ≡ false
objects-none test s c page class n is = let z : class * n ≡ 0 = rw is (omega arith) in ap (some_before test s c page) z ∙ any_below-zero (λ i. some_field test (objects_in s c (512 * page + i)))

pub objects-all : (test : Word → Bool) (s : Layout) (c : List ℕ) (page class cell : ℕ) → IsClass class → cell ≡ 512 / class → some_before test s c page (class * cell) ≡ some_on test (objects_in s c) page
objects-all test s c page class cell k is = ap (some_before test s c page) (let e : class * cell ≡ 512 = grind (arith, common_steps) in e)

-- the class of a page's cells
pub page-class : (s : Layout) (page class : ℕ) → IsLayout s → page < 4 * superpages s → class ≡ slice_index s.classes (page / 4) → IsClass class
page-class s page class l lt is = subst IsClass (sym is) (l.each (page / 4) (omega arith)).class
