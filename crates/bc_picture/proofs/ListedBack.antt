-- What is listed of a memory is that memory again, and what is listed of the memory of a list is the list.
use Rattle.std.proofs.Common.{◌≡◌, ◌≢◌, ℕ, ◌+◌, ◌*◌, ◌<◌, ◌≤◌, ◌==◌, ◌⊎◌, inl, inr, Bool, true, false, if◌then◌else◌, List, [], ◌∷◌, ◌++◌, length, map, Option, Some, None, refl, sym, ap, ◌∙◌, arith, eq-eqb, ne_eqb}
use Prim.Native.Nat.{zero, suc}
use Rattle.std.proofs.Math.Path.{fun_ext}
use Rattle.std.proofs.lemmas.Bool.{cases_Bool, cases_eq}
use Rattle.bc_memory.specs.Memory.{Cell, Memory}
use Rattle.bc_word.specs.Words.{word_of_bits}
use Rattle.bc_word.specs.WordBits.{word_bits}
use Rattle.bc_word.specs.declared.words.Word.{Word}
use Rattle.bc_word.proofs.WordLemmas.{word_of_bits-word_bits, word_bits-word_of_bits}
use Rattle.bc_superpages.specs.Kept.{IsLayout}
use Rattle.bc_superpages.specs.Layout.{Layout, superpages, is_cell}
use Rattle.bc_superpages.specs.Memory.{memory}
use Rattle.bc_superpages.proofs.MemoryLemmas.{memory_of-none, is_cell-within}
use Rattle.bc_image.specs.Cells.{CellList}
use Rattle.bc_image.specs.Memories.{cell_at, cell_of, memory_of}
use Rattle.bc_picture.specs.SpaceListing.{listed_cell, listed_from, listed_cells}
use Rattle.bc_picture.proofs.ListedMemories.{lying, lying-is, lying-append, lying-none, first_of, AreRising}

words-back : (ws : List Word) → map word_of_bits (map word_bits ws) ≡ ws
words-back [] = refl
words-back (w ∷ ws) = ap (λ (v : Word). v ∷ map word_of_bits (map word_bits ws)) (word_of_bits-word_bits w) ∙ ap (λ (vs : List Word). w ∷ vs) (words-back ws)

bits-back : (ns : List ℕ) → map word_bits (map word_of_bits ns) ≡ ns
bits-back [] = refl
bits-back (n ∷ ns) = ap (λ (m : ℕ). m ∷ map word_bits (map word_of_bits ns)) (word_bits-word_of_bits n) ∙ ap (λ (ms : List ℕ). n ∷ ms) (bits-back ns)

-- ---- from a memory to the list, and back

one-cell : (x a : ℕ) (o : Option Cell) → lying (listed_cell x o) a ≡ (if x == a then o else None)
one-cell x a None = neither (x == a)
  where
    neither : (t : Bool) → None ≡ (if t then (let o : Option Cell = None in o) else None)
    neither true = refl
    neither false = refl
one-cell x a (Some c) = ap (λ (ws : List Word). if x == a then Some (let d : Cell = record { head = c.head; fields = ws } in d) else None) (words-back c.fields)

cut : (m : Memory) (x n a : ℕ) → lying (listed_from m x (suc n)) a ≡ first_of (if x == a then m x else None) (lying (listed_from m (x + 1) n) a)
unfolding listed_from
cut m x n a = lying-append (listed_cell x (m x)) (listed_from m (x + 1) n) a ∙ ap (λ (o : Option Cell). first_of o (lying (listed_from m (x + 1) n) a)) (one-cell x a (m x))

nothing : (m : Memory) (x a : ℕ) → lying (listed_from m x 0) a ≡ None
unfolding listed_from
nothing m x a = refl

outside : (m : Memory) (n x a : ℕ) → (a < x) ⊎ (x + n ≤ a) → lying (listed_from m x n) a ≡ None
outside m zero x a out = nothing m x a
outside m (suc n) x a out =
    cut m x n a
    ∙ ap (λ (t : Bool). first_of (if t then m x else None) (lying (listed_from m (x + 1) n) a)) (ne_eqb x a (λ e. differ e out))
    ∙ outside m n (x + 1) a (further out)
  where
    differ : x ≡ a → (a < x) ⊎ (x + suc n ≤ a) → ⊥
    differ e (inl lt) = absurd (omega arith)
    differ e (inr le) = absurd (omega arith)

    further : (a < x) ⊎ (x + suc n ≤ a) → (a < x + 1) ⊎ (x + 1 + n ≤ a)
    further (inl lt) = inl (omega arith)
    further (inr le) = inr (omega arith)

inside : (m : Memory) (n x a : ℕ) → x ≤ a → a < x + n → lying (listed_from m x n) a ≡ m a
inside m zero x a low high = absurd (omega arith)
inside m (suc n) x a low high = cut m x n a ∙ elim (cases_eq x a) [
  | inl here ↦
      ap (λ (t : Bool). first_of (if t then m x else None) (lying (listed_from m (x + 1) n) a)) (eq-eqb x a here)
      ∙ ap (λ (o : Option Cell). first_of (m x) o) (outside m n (x + 1) a (inl (omega arith)))
      ∙ alone (m x) ∙ ap m here
  | inr other ↦
      ap (λ (t : Bool). first_of (if t then m x else None) (lying (listed_from m (x + 1) n) a)) (ne_eqb x a other)
      ∙ inside m n (x + 1) a (above x a low other) (omega arith)
]
  where
    alone : (o : Option Cell) → first_of o None ≡ o
    alone None = refl
    alone (Some c) = refl

    above : (y b : ℕ) → y ≤ b → y ≢ b → y + 1 ≤ b
    above zero zero le ne = absurd (ne refl)
    above zero (suc b) le ne = omega arith
    above (suc y) zero le ne = absurd (omega arith)
    above (suc y) (suc b) le ne = let h = above y b (omega arith) (λ e. ne (ap suc e)) in omega arith

-- nothing lies above the superpages
above-none : (s : Layout) (a : ℕ) → IsLayout s → 2048 * superpages s ≤ a → memory s a ≡ None
above-none s a k le = elim (cases_Bool (is_cell s.classes s.cells a)) [
  | inl on ↦ absurd (let lt = is_cell-within s.classes s.cells a on in let long : length s.cells ≡ superpages s = k.long.cells in omega arith)
  | inr off ↦ memory_of-none s.classes s.cells s.pages a off
]

-- which side of a bound a number lies
side : (a n : ℕ) → (a < n) ⊎ (n ≤ a)
side a zero = inr (omega arith)
side zero (suc n) = inl (omega arith)
side (suc a) (suc n) = elim (side a n) [ inl lt ↦ inl (omega arith) | inr le ↦ inr (omega arith) ]

pub listed-memory : (s : Layout) → IsLayout s → memory_of (listed_cells s) ≡ memory s
listed-memory s k = fun_ext (λ a. lying-is (listed_cells s) a ∙ elim (side a (2048 * superpages s)) [
  | inl lt ↦ inside (memory s) (2048 * superpages s) 0 a (omega arith) (omega arith)
  | inr le ↦ outside (memory s) (2048 * superpages s) 0 a (inr (omega arith)) ∙ sym (above-none s a k le)
])

-- ---- from a list to its memory, and back

same_cell : (c : CellList) → listed_cell c.address (Some (cell_of c)) ≡ c ∷ []
same_cell c = ap (λ (ns : List ℕ). (let d : CellList = record { address = c.address; head = c.head; fields = ns } in d) ∷ []) (bits-back c.fields)

step : (m : Memory) (x n : ℕ) (o : Option Cell) → m x ≡ o → listed_from m x (suc n) ≡ listed_cell x o ++ listed_from m (x + 1) n
unfolding listed_from
step m x n o e = ap (λ (p : Option Cell). listed_cell x p ++ listed_from m (x + 1) n) e

none-listed : (m : Memory) (x : ℕ) → listed_from m x 0 ≡ []
unfolding listed_from
none-listed m x = refl

pub listed-back : (n x : ℕ) (cells : List CellList) (m : Memory) → AreRising cells → ((k : ℕ) → k < length cells → (x ≤ (cell_at cells k).address) × ((cell_at cells k).address < x + n)) → ((y : ℕ) → x ≤ y → m y ≡ lying cells y) → listed_from m x n ≡ cells
listed-back zero x [] m rising bounds same = none-listed m x
listed-back zero x (c ∷ cs) m rising bounds same = absurd (let h = bounds 0 (omega arith) in omega arith)
listed-back (suc n) x [] m rising bounds same =
    step m x n None (same x (omega arith)) ∙ listed-back n (x + 1) [] m (λ j k less lt. absurd (omega arith)) (λ k lt. absurd (omega arith)) (λ y le. same y (omega arith))
listed-back (suc n) x (c ∷ cs) m rising bounds same = elim (cases_eq c.address x) [
  | inl here ↦
      step m x n (Some (cell_of c)) (same x (omega arith) ∙ ap (λ (t : Bool). if t then Some (cell_of c) else lying cs x) (eq-eqb c.address x here))
      ∙ ap (λ (y : ℕ). listed_cell y (Some (cell_of c)) ++ listed_from m (x + 1) n) (sym here)
      ∙ ap (λ (ds : List CellList). ds ++ listed_from m (x + 1) n) (same_cell c)
      ∙ ap (λ (ds : List CellList). c ∷ ds)
      (listed-back n (x + 1) cs m (λ j k less lt. rising (suc j) (suc k) (omega arith) (omega arith))
      (λ k lt. let h = bounds (suc k) (omega arith) in let r = rising 0 (suc k) (omega arith) (omega arith) in (omega arith, omega arith))
      (λ y le. same y (omega arith) ∙ ap (λ (t : Bool). if t then Some (cell_of c) else lying cs y) (ne_eqb c.address y (λ e. absurd (omega arith)))))
  | inr other ↦
      let low = bounds 0 (omega arith) in
      step m x n None (same x (omega arith) ∙ lying-none (c ∷ cs) x (λ k lt e. let h = above other k lt in absurd (omega arith)))
      ∙ listed-back n (x + 1) (c ∷ cs) m rising (λ k lt. let h = bounds k lt in (above other k lt, omega arith)) (λ y le. same y (omega arith))
]
  where
    more : (y b : ℕ) → y ≤ b → b ≢ y → y + 1 ≤ b
    more zero zero le ne = absurd (ne refl)
    more zero (suc b) le ne = omega arith
    more (suc y) zero le ne = absurd (omega arith)
    more (suc y) (suc b) le ne = let h = more y b (omega arith) (λ e. ne (ap suc e)) in omega arith

    above : c.address ≢ x → (k : ℕ) → k < length (c ∷ cs) → x + 1 ≤ (cell_at (c ∷ cs) k).address
    above other zero lt = more x c.address (bounds 0 lt).0 other
    above other (suc k) lt = let first = more x c.address (bounds 0 (omega arith)).0 other in let r = rising 0 (suc k) (omega arith) lt in omega arith
