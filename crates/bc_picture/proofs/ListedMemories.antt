-- The memory that listed objects are, address by address and part by part.
use Rattle.std.proofs.Common.{◌≡◌, ◌≢◌, ℕ, ◌+◌, ◌<◌, ◌≤◌, ◌==◌, ◌⊎◌, inl, inr, Bool, true, false, if◌then◌else◌, List, [], ◌∷◌, ◌++◌, length, take, drop, Option, Some, None, option_map, refl, sym, ap, ◌∙◌, arith, take-append-drop, get_or-take, get_or-drop, length-take-le, length-drop, eq-eqb, ne_eqb, take_all}
use Prim.Native.Nat.{zero, suc}
use Rattle.std.specs.Option.{is_some}
use Rattle.std.proofs.Math.Path.{fun_ext}
use Rattle.std.proofs.lemmas.Bool.{cases_eq}
use Rattle.std.proofs.lemmas.List.{take_more, drop_more}
use Rattle.std.proofs.lemmas.Option.{same_Some}
use Rattle.bc_memory.specs.Memory.{Cell}
use Rattle.bc_memory.specs.MemoryChanges.{with_cell}
use Rattle.bc_memory.proofs.MemoryLemmas.{with_cell-same, with_cell-other}
use Rattle.bc_image.specs.Cells.{CellList}
use Rattle.bc_image.specs.Memories.{number_at, no_cell, cell_at, cell_of, memory_of}

-- the same memory, object after object
abbrev pub lying : List CellList → ℕ → Option Cell
lying [] a = None
lying (c ∷ cs) a = if c.address == a then Some (cell_of c) else lying cs a

pub lying-is : (cells : List CellList) (a : ℕ) → memory_of cells a ≡ lying cells a
lying-is [] a = refl
lying-is (c ∷ cs) a = by (c.address == a) (number_at cs a) (lying cs a) (lying-is cs a)
  where
    by : (t : Bool) (o : Option ℕ) (r : Option Cell) → option_map (λ k. cell_of (cell_at cs k)) o ≡ r
        → option_map (λ k. cell_of (cell_at (c ∷ cs) k)) (if t then Some 0 else option_map (λ n. n + 1) o) ≡ (if t then Some (cell_of c) else r)
    by true o r h = refl
    by false None r h = h
    by false (Some n) r h = ap (λ (k : ℕ). Some (cell_of (cell_at (c ∷ cs) k))) (let e : n + 1 ≡ suc n = omega arith in e) ∙ h

-- a named object lies there
pub number-lying : (cells : List CellList) (a k : ℕ) → number_at cells a ≡ Some k → (o : Cell) × (lying cells a ≡ Some o)
number-lying cells a k e = (cell_of (cell_at cells k), sym (lying-is cells a) ∙ ap (option_map (λ (n : ℕ). cell_of (cell_at cells n))) e)

abbrev pub first_of : Option Cell → Option Cell → Option Cell
first_of None o = o
first_of (Some c) o = Some c

pub lying-append : (xs ys : List CellList) (a : ℕ) → lying (xs ++ ys) a ≡ first_of (lying xs a) (lying ys a)
lying-append [] ys a = refl
lying-append (x ∷ xs) ys a = by (x.address == a) (lying-append xs ys a)
  where
    by : (t : Bool) → lying (xs ++ ys) a ≡ first_of (lying xs a) (lying ys a)
        → (if t then Some (cell_of x) else lying (xs ++ ys) a) ≡ first_of (if t then Some (cell_of x) else lying xs a) (lying ys a)
    by true h = refl
    by false h = h

pub lying-parts : (cells : List CellList) (k a : ℕ) → lying cells a ≡ first_of (lying (take k cells) a) (lying (drop k cells) a)
lying-parts cells k a = ap (λ (cs : List CellList). lying cs a) (sym (take-append-drop k cells)) ∙ lying-append (take k cells) (drop k cells) a

-- nothing lies where no object does
pub lying-none : (cells : List CellList) (a : ℕ) → ((k : ℕ) → k < length cells → (cell_at cells k).address ≢ a) → lying cells a ≡ None
lying-none [] a none = refl
lying-none (c ∷ cs) a none = rw (ne_eqb c.address a (none 0 (omega arith))) (lying-none cs a (λ k lt. none (suc k) (omega arith)))

-- what lies there is an object of the list
pub record LiesAs (cells : List CellList) (a : ℕ) (o : Cell) : Type 0 where
  pub index : ℕ
  pub within : index < length cells
  pub at : (cell_at cells index).address ≡ a
  pub is : o ≡ cell_of (cell_at cells index)

pub lying-at : (cells : List CellList) (a : ℕ) (o : Cell) → lying cells a ≡ Some o → LiesAs cells a o
lying-at [] a o e = absurd (let bad : None ≡ Some o = e in cc)
lying-at (c ∷ cs) a o e = elim (cases_eq c.address a) [
  | inl here ↦ record { index = 0; within = omega arith; at = here; is = sym (same_Some (cell_of c) o (rw (eq-eqb c.address a here) at e)) }
  | inr other ↦ (let h = lying-at cs a o (rw (ne_eqb c.address a other) at e) in record { index = suc h.index; within = let lt = h.within in omega arith; at = h.at; is = h.is })
]

pub some-lying : (o : Option Cell) → is_some o ≡ true → (c : Cell) × (o ≡ Some c)
some-lying None e = absurd (let bad : false ≡ true = e in cc)
some-lying (Some c) e = (c, refl)

-- objects by ascending addresses
abbrev pub AreRising : List CellList → Type 0
AreRising cells = (j k : ℕ) → j < k → k < length cells → (cell_at cells j).address < (cell_at cells k).address

pub address-apart : (cells : List CellList) (j k : ℕ) → AreRising cells → j < length cells → k < length cells → (cell_at cells j).address ≡ (cell_at cells k).address → j ≡ k
address-apart cells j k rising in_j in_k e = elim (cases_eq j k) [
  | inl same ↦ same
  | inr ne ↦ absurd (apart ne)
]
  where
    apart : j ≢ k → ⊥
    apart ne = elim (less j k ne) [
      | inl lt ↦ (let h = rising j k lt in_k in omega arith)
      | inr lt ↦ (let h = rising k j lt in_j in omega arith)
    ]
      where
        less : (m n : ℕ) → m ≢ n → (m < n) ⊎ (n < m)
        less zero zero ne = absurd (ne refl)
        less zero (suc n) ne = inl (omega arith)
        less (suc m) zero ne = inr (omega arith)
        less (suc m) (suc n) ne = elim (less m n (λ q. ne (ap suc q))) [ inl lt ↦ inl (omega arith) | inr lt ↦ inr (omega arith) ]

-- the first ones and the others
pub at-take : (cells : List CellList) (n k : ℕ) → k < n → cell_at (take n cells) k ≡ cell_at cells k
at-take cells n k lt = get_or-take n cells k no_cell lt

pub at-drop : (cells : List CellList) (n k : ℕ) → cell_at (drop n cells) k ≡ cell_at cells (n + k)
at-drop cells n k = get_or-drop n cells k no_cell

pub length-first : (cells : List CellList) (n k : ℕ) → n ≤ length cells → k < length (take n cells) → k < n
length-first cells n k le lt = let e : length (take n cells) ≡ n = length-take-le n cells le in omega arith

pub length-others : (cells : List CellList) (n k : ℕ) → n ≤ length cells → k < length (drop n cells) → n + k < length cells
length-others cells n k le lt = let e = length-drop n cells in omega arith

-- none of the first ones lies where a later one does
pub first-none : (cells : List CellList) (n k : ℕ) → AreRising cells → n ≤ k → k < length cells → lying (take n cells) (cell_at cells k).address ≡ None
first-none cells n k rising le lt = lying-none (take n cells) (cell_at cells k).address
    (λ j less e. let h : j < n = length-first cells n j (omega arith) less in let r = rising j k (omega arith) lt in let f : (cell_at (take n cells) j).address ≡ (cell_at cells j).address = ap (λ (c : CellList). c.address) (at-take cells n j h) in omega arith)

pub others-none : (cells : List CellList) (n k : ℕ) → AreRising cells → k < n → n ≤ length cells → lying (drop n cells) (cell_at cells k).address ≡ None
others-none cells n k rising lt le = lying-none (drop n cells) (cell_at cells k).address
    (λ j less e. let h : n + j < length cells = length-others cells n j le less in let r = rising k (n + j) (omega arith) h in let f : (cell_at (drop n cells) j).address ≡ (cell_at cells (n + j)).address = ap (λ (c : CellList). c.address) (at-drop cells n j) in omega arith)

-- one object more
pub lying-more : (cells : List CellList) (n a : ℕ) → n < length cells → lying (take (n + 1) cells) a ≡ first_of (lying (take n cells) a) (if (cell_at cells n).address == a then Some (cell_of (cell_at cells n)) else None)
lying-more cells n a lt = ap (λ (cs : List CellList). lying cs a) (take_more cells n no_cell lt) ∙ lying-append (take n cells) (cell_at cells n ∷ []) a

pub lying-fewer : (cells : List CellList) (n a : ℕ) → n < length cells → lying (drop n cells) a ≡ (if (cell_at cells n).address == a then Some (cell_of (cell_at cells n)) else lying (drop (n + 1) cells) a)
lying-fewer cells n a lt = ap (λ (cs : List CellList). lying cs a) (drop_more cells n no_cell lt)

none-first : (o : Option Cell) → first_of o None ≡ o
none-first None = refl
none-first (Some c) = refl

pub memory-more : (cells : List CellList) (n : ℕ) → AreRising cells → n < length cells → memory_of (take (n + 1) cells) ≡ with_cell (memory_of (take n cells)) (cell_at cells n).address (Some (cell_of (cell_at cells n)))
memory-more cells n rising lt = fun_ext (λ a. lying-is (take (n + 1) cells) a ∙ lying-more cells n a lt ∙ each a)
  where
    c : CellList
    c = cell_at cells n

    each : (a : ℕ) → first_of (lying (take n cells) a) (if c.address == a then Some (cell_of c) else None) ≡ with_cell (memory_of (take n cells)) c.address (Some (cell_of c)) a
    each a = elim (cases_eq c.address a) [
      | inl here ↦
          ap (λ (t : Bool). first_of (lying (take n cells) a) (if t then Some (cell_of c) else None)) (eq-eqb c.address a here)
          ∙ ap (λ (o : Option Cell). first_of o (Some (cell_of c))) (ap (lying (take n cells)) (sym here) ∙ first-none cells n n rising (omega arith) lt)
          ∙ sym (ap (with_cell (memory_of (take n cells)) c.address (Some (cell_of c))) (sym here) ∙ with_cell-same (memory_of (take n cells)) c.address (Some (cell_of c)))
      | inr other ↦
          ap (λ (t : Bool). first_of (lying (take n cells) a) (if t then Some (cell_of c) else None)) (ne_eqb c.address a other)
          ∙ none-first (lying (take n cells) a) ∙ sym (lying-is (take n cells) a)
          ∙ sym (with_cell-other (memory_of (take n cells)) c.address a (Some (cell_of c)) (λ e. other (sym e)))
    ]

-- whether an object is one of the first ones, or of the others
pub some-more : (cells : List CellList) (n a : ℕ) → n < length cells → is_some (memory_of (take (n + 1) cells) a) ≡ (if a == (cell_at cells n).address then true else is_some (memory_of (take n cells) a))
some-more cells n a lt = ap is_some (lying-is (take (n + 1) cells) a ∙ lying-more cells n a lt) ∙ elim (cases_eq (cell_at cells n).address a) [
  | inl here ↦ ap (λ (t : Bool). is_some (first_of (lying (take n cells) a) (if t then Some (cell_of (cell_at cells n)) else None))) (eq-eqb (cell_at cells n).address a here) ∙ any (lying (take n cells) a) (cell_of (cell_at cells n)) ∙ ap (λ (t : Bool). if t then true else is_some (memory_of (take n cells) a)) (sym (eq-eqb a (cell_at cells n).address (sym here)))
  | inr other ↦ ap (λ (t : Bool). is_some (first_of (lying (take n cells) a) (if t then Some (cell_of (cell_at cells n)) else None))) (ne_eqb (cell_at cells n).address a other) ∙ ap is_some (none-first (lying (take n cells) a) ∙ sym (lying-is (take n cells) a)) ∙ ap (λ (t : Bool). if t then true else is_some (memory_of (take n cells) a)) (sym (ne_eqb a (cell_at cells n).address (λ e. other (sym e))))
]
  where
    any : (o : Option Cell) (c : Cell) → is_some (first_of o (Some c)) ≡ true
    any None c = refl
    any (Some d) c = refl

pub some-fewer : (cells : List CellList) (n a : ℕ) → AreRising cells → n < length cells → is_some (memory_of (drop (n + 1) cells) a) ≡ (if a == (cell_at cells n).address then false else is_some (memory_of (drop n cells) a))
some-fewer cells n a rising lt = ap is_some (lying-is (drop (n + 1) cells) a) ∙ elim (cases_eq (cell_at cells n).address a) [
  | inl here ↦ ap is_some (ap (lying (drop (n + 1) cells)) (sym here) ∙ others-none cells (n + 1) n rising (omega arith) (omega arith)) ∙ ap (λ (t : Bool). if t then false else is_some (memory_of (drop n cells) a)) (sym (eq-eqb a (cell_at cells n).address (sym here)))
  | inr other ↦ ap is_some (ap (λ (t : Bool). if t then Some (cell_of (cell_at cells n)) else lying (drop (n + 1) cells) a) (sym (ne_eqb (cell_at cells n).address a other)) ∙ sym (lying-fewer cells n a lt) ∙ sym (lying-is (drop n cells) a)) ∙ ap (λ (t : Bool). if t then false else is_some (memory_of (drop n cells) a)) (sym (ne_eqb a (cell_at cells n).address (λ e. other (sym e))))
]

pub some-here : (cells : List CellList) (n : ℕ) → n < length cells → is_some (memory_of (drop n cells) (cell_at cells n).address) ≡ true
some-here cells n lt =
    ap is_some (lying-is (drop n cells) (cell_at cells n).address ∙ lying-fewer cells n (cell_at cells n).address lt)
    ∙ ap (λ (t : Bool). is_some (if t then Some (cell_of (cell_at cells n)) else lying (drop (n + 1) cells) (cell_at cells n).address)) (eq-eqb (cell_at cells n).address (cell_at cells n).address refl)

-- an object of the others has a number from there on
pub record LiesFrom (cells : List CellList) (n a : ℕ) : Type 0 where
  pub index : ℕ
  pub from : n ≤ index
  pub within : index < length cells
  pub at : (cell_at cells index).address ≡ a

pub others-at : (cells : List CellList) (n a : ℕ) → n ≤ length cells → is_some (memory_of (drop n cells) a) ≡ true → LiesFrom cells n a
others-at cells n a le on =
    let some = some-lying (lying (drop n cells) a) (ap is_some (sym (lying-is (drop n cells) a)) ∙ on) in
    let h = lying-at (drop n cells) a some.0 some.1 in
    record {
      index = n + h.index;
      from = omega arith;
      within = length-others cells n h.index le h.within;
      at = ap (λ (c : CellList). c.address) (sym (at-drop cells n h.index)) ∙ h.at;
    }

-- all of them, and none
pub take-whole : (cells : List CellList) → take (length cells) cells ≡ cells
take-whole cells = take_all (length cells) cells (omega arith)
