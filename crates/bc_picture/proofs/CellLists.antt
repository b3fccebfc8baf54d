-- The objects of a space as a list, superpage by superpage and cell by cell.
use Rattle.std.proofs.Common.{◌≡◌, ◌≢◌, ℕ, ◌+◌, ◌-◌, ◌*◌, ◌/◌, ◌%◌, ◌<◌, ◌≤◌, ◌==◌, Bool, true, false, List, [], ◌∷◌, ◌++◌, length, map, filter, slice_index, Option, Some, None, refl, sym, ap, ap₂, subst, ◌∙◌, inl, inr, arith, append_assoc, append-nil, length-append}
use Prim.Native.Nat.{zero, suc}
use Rattle.std.specs.List.{AllByRecursion, flat_map}
use Rattle.std.proofs.lemmas.Bool.{cases_Bool, eq-eqb, ne_eqb, and_right}
use Rattle.std.proofs.lemmas.Grind.{common_steps, flat_map-append}
use Rattle.std.proofs.lemmas.List.Elements.{filter-append}
use Rattle.bc_bits.specs.Bits.{has}
use Rattle.bc_bits.specs.Counting.{count_below, one_if}
use Rattle.bc_classes.specs.Classes.{cap, class_of}
use Rattle.bc_classes.specs.ClassNumbers.{IsClass}
use Rattle.bc_memory.specs.Memory.{Cell, Memory}
use Rattle.bc_model.specs.State.{numbers_below}
use Rattle.bc_word.specs.WordBits.{word_bits}
use Rattle.bc_word.specs.Addresses.{superpage_of, cell_number}
use Rattle.bc_word.specs.CellAddresses.{cell_address}
use Rattle.bc_superpages.specs.Kept.{IsLayout}
use Rattle.bc_superpages.specs.Layout.{Layout, set_of, is_cell}
use Rattle.bc_superpages.specs.Memory.{memory, cell_at}
use Rattle.bc_superpages.proofs.CellLemmas.{cell-bit}
use Rattle.bc_superpages.proofs.HandLemmas.{allocated-object}
use Rattle.bc_superpages.proofs.MemoryLemmas.{memory_of-none, memory_of-cell}
use Rattle.bc_image.specs.Cells.{CellList}
use Rattle.bc_image.specs.Images.{cell_items, group_items, superpage_items}
use Rattle.bc_picture.specs.SpaceListing.{listed_cell, listed_from}

-- ---- lists of addresses

pub listed-split : (m : Memory) (x n k : ℕ) → listed_from m x (n + k) ≡ listed_from m x n ++ listed_from m (x + n) k
unfolding listed_from
listed-split m x zero k = ap₂ (λ (y j : ℕ). listed_from m y j) (let e : x ≡ x + 0 = omega arith in e) (let e : zero + k ≡ k = omega arith in e)
listed-split m x (suc n) k =
    ap (λ (j : ℕ). listed_from m x j) (let e : suc n + k ≡ suc (n + k) = omega arith in e)
    ∙ ap (λ (cs : List CellList). listed_cell x (m x) ++ cs) (listed-split m (x + 1) n k ∙ ap (λ (y : ℕ). listed_from m (x + 1) n ++ listed_from m y k) (let e : x + 1 + n ≡ x + suc n = omega arith in e))
    ∙ sym (append_assoc (listed_cell x (m x)) (listed_from m (x + 1) n) (listed_from m (x + suc n) k))

listed-none : (m : Memory) (x n : ℕ) → ((j : ℕ) → j < n → m (x + j) ≡ None) → listed_from m x n ≡ []
unfolding listed_from
listed-none m x zero none = refl
listed-none m x (suc n) none =
    let here : m x ≡ None = subst (λ (y : ℕ). m y ≡ None) (let e : x + 0 ≡ x = omega arith in e) (none 0 (omega arith)) in
    ap (λ (c : Option Cell). listed_cell x c ++ listed_from m (x + 1) n) here
    ∙ listed-none m (x + 1) n (λ j lt. subst (λ (y : ℕ). m y ≡ None) (let e : x + (j + 1) ≡ x + 1 + j = omega arith in e) (none (j + 1) (omega arith)))

-- where an object begins at the first address alone
listed-one : (m : Memory) (x n : ℕ) → ((j : ℕ) → j < n → m (x + 1 + j) ≡ None) → listed_from m x (suc n) ≡ listed_cell x (m x)
unfolding listed_from
listed-one m x n none = ap (λ (cs : List CellList). listed_cell x (m x) ++ cs) (listed-none m (x + 1) n none) ∙ append-nil (listed_cell x (m x))

-- one cell more
pub listed-more : (m : Memory) (base c b : ℕ) → 0 < c → ((j : ℕ) → 0 < j → j < c → m (base + c * b + j) ≡ None) → listed_from m base (c * (b + 1)) ≡ listed_from m base (c * b) ++ listed_cell (base + c * b) (m (base + c * b))
listed-more m base zero b pos none = absurd (omega arith)
listed-more m base (suc c) b pos none =
    ap (listed_from m base) (let e : suc c * (b + 1) ≡ suc c * b + suc c = omega arith in e)
    ∙ listed-split m base (suc c * b) (suc c)
    ∙ ap (λ (cs : List CellList). listed_from m base (suc c * b) ++ cs)
    (listed-one m (base + suc c * b) c (λ j lt. subst (λ (y : ℕ). m y ≡ None) (let e : base + suc c * b + (j + 1) ≡ base + suc c * b + 1 + j = omega arith in e) (none (j + 1) (omega arith) (omega arith))))

-- ---- the objects of one superpage

-- all objects that begin at addresses of a test pass it
listed-all : (m : Memory) (P : CellList → Type 0) (n x : ℕ) → ((j : ℕ) → j < n → AllByRecursion P (listed_cell (x + j) (m (x + j)))) → AllByRecursion P (listed_from m x n)
unfolding listed_from
listed-all m P zero x each = tt
listed-all m P (suc n) x each =
    all-both (listed_cell x (m x)) (listed_from m (x + 1) n)
    (subst (λ (y : ℕ). AllByRecursion P (listed_cell y (m y))) (let e : x + 0 ≡ x = omega arith in e) (each 0 (omega arith)))
    (listed-all m P n (x + 1) (λ j lt. subst (λ (y : ℕ). AllByRecursion P (listed_cell y (m y))) (let e : x + (j + 1) ≡ x + 1 + j = omega arith in e) (each (j + 1) (omega arith))))
  where
    all-both : (xs ys : List CellList) → AllByRecursion P xs → AllByRecursion P ys → AllByRecursion P (xs ++ ys)
    all-both [] ys a b = b
    all-both (x ∷ xs) ys a b = (a.0, all-both xs ys a.1 b)

filter-all : (p : CellList → Bool) (xs : List CellList) → AllByRecursion (λ x. p x ≡ true) xs → filter p xs ≡ xs
filter-all p [] a = refl
filter-all p (x ∷ xs) a = rw (a.0) (ap (λ (ys : List CellList). x ∷ ys) (filter-all p xs a.1))

filter-none : (p : CellList → Bool) (xs : List CellList) → AllByRecursion (λ x. p x ≡ false) xs → filter p xs ≡ []
filter-none p [] a = refl
filter-none p (x ∷ xs) a = rw (a.0) (filter-none p xs a.1)

cell-passes : (P : CellList → Type 0) (y : ℕ) (c : Option Cell) → ((x : CellList) → x.address ≡ y → P x) → AllByRecursion P (listed_cell y c)
cell-passes P y None f = tt
cell-passes P y (Some c) f = (f (record { address = y; head = c.head; fields = map word_bits c.fields }) refl, tt)

-- those of a superpage are the ones that begin there
pub superpage-listed : (m : Memory) (count q : ℕ) → q < count → superpage_items (listed_from m 0 (2048 * count)) q ≡ group_items (listed_from m (2048 * q) 2048)
superpage-listed m count q lt =
    let p : CellList → Bool = λ c. c.address / 2048 == q in
    let low : List CellList = listed_from m 0 (2048 * q) in
    let mid : List CellList = listed_from m (2048 * q) 2048 in
    let rest : ℕ = 2048 * (count - q - 1) in
    let high : List CellList = listed_from m (2048 * q + 2048) rest in
    let cut : listed_from m 0 (2048 * count) ≡ low ++ (mid ++ high) =
    ap (listed_from m 0) (let e : 2048 * count ≡ 2048 * q + (2048 + rest) = omega arith in e) ∙ listed-split m 0 (2048 * q) (2048 + rest)
    ∙ ap (λ (y : ℕ). low ++ listed_from m y (2048 + rest)) (let e : 0 + 2048 * q ≡ 2048 * q = omega arith in e)
    ∙ ap (λ (cs : List CellList). low ++ cs) (listed-split m (2048 * q) 2048 rest) in
    let none_low : filter p low ≡ [] = filter-none p low (listed-all m (λ c. p c ≡ false) (2048 * q) 0 (λ j less. cell-passes (λ c. p c ≡ false) (0 + j) (m (0 + j)) (λ x at. ne_eqb (x.address / 2048) q (λ e. absurd (omega arith))))) in
    let none_high : filter p high ≡ [] = filter-none p high (listed-all m (λ c. p c ≡ false) rest (2048 * q + 2048) (λ j less. cell-passes (λ c. p c ≡ false) (2048 * q + 2048 + j) (m (2048 * q + 2048 + j)) (λ x at. ne_eqb (x.address / 2048) q (λ e. absurd (omega arith))))) in
    let all_mid : filter p mid ≡ mid = filter-all p mid (listed-all m (λ c. p c ≡ true) 2048 (2048 * q) (λ j less. cell-passes (λ c. p c ≡ true) (2048 * q + j) (m (2048 * q + j)) (λ x at. eq-eqb (x.address / 2048) q (omega arith)))) in
    ap group_items
    (ap (filter p) cut ∙ filter-append p low (mid ++ high) ∙ ap (λ (cs : List CellList). cs ++ filter p (mid ++ high)) none_low
    ∙ filter-append p mid high ∙ ap₂ (λ (xs ys : List CellList). xs ++ ys) all_mid none_high ∙ append-nil mid)

-- one superpage more
pub superpages-more : (m : Memory) (count q : ℕ) → q < count → flat_map (superpage_items (listed_from m 0 (2048 * count))) (numbers_below (q + 1)) ≡ flat_map (superpage_items (listed_from m 0 (2048 * count))) (numbers_below q) ++ group_items (listed_from m (2048 * q) 2048)
superpages-more m count q lt =
    let items : ℕ → List ℕ = superpage_items (listed_from m 0 (2048 * count)) in
    ap (λ (k : ℕ). flat_map items (numbers_below k)) (let e : q + 1 ≡ suc q = omega arith in e)
    ∙ flat_map-append items (numbers_below q) (q ∷ [])
    ∙ ap (λ (ns : List ℕ). flat_map items (numbers_below q) ++ ns) (append-nil (items q) ∙ superpage-listed m count q lt)

-- ---- the group of a superpage: what its objects are, and how many

pub group-some : (k d : ℕ) (cs : List CellList) → AllByRecursion (λ c. (class_of c.head.fields ≡ k) × (c.head.domain ≡ d)) cs → 0 < length cs → group_items cs ≡ (k + 256 * d) ∷ length cs ∷ flat_map cell_items cs
group-some k d [] all some = absurd (omega arith)
group-some k d (c ∷ cs) all some = ap₂ (λ (i j : ℕ). (i + 256 * j) ∷ length (c ∷ cs) ∷ flat_map cell_items (c ∷ cs)) all.0.0 all.0.1

pub group-none : (cs : List CellList) → length cs ≡ 0 → group_items cs ≡ 0 ∷ []
group-none [] none = refl
group-none (c ∷ cs) none = absurd (omega arith)

-- an object is of its superpage's domain and class
of-superpage : (s : Layout) (q : ℕ) (a : ℕ) (c : Cell) → IsLayout s → a / 2048 ≡ q → memory s a ≡ Some c → (class_of c.head.fields ≡ slice_index s.classes q) × (c.head.domain ≡ slice_index s.domains q)
of-superpage s q a c k at there =
    elim (cases_Bool (is_cell s.classes s.cells a)) [
      | inl on ↦
          let object = allocated-object s a k on in
          let is : cell_at s.pages a ≡ c = some-one (cell_at s.pages a) c (sym (memory_of-cell s.classes s.cells s.pages a on) ∙ there) in
          subst (λ (e : Cell). (class_of e.head.fields ≡ slice_index s.classes q) × (e.head.domain ≡ slice_index s.domains q)) is
          (object.of_class ∙ ap (slice_index s.classes) at, object.of_domain ∙ ap (slice_index s.domains) at)
      | inr off ↦ absurd (let bad : None ≡ Some c = sym (memory_of-none s.classes s.cells s.pages a off) ∙ there in cc)
    ]
  where
    some-one : (x y : Cell) → Some x ≡ Some y → x ≡ y
    some-one x y e = cc

pub superpage-alike : (s : Layout) (q : ℕ) → IsLayout s → AllByRecursion (λ c. (class_of c.head.fields ≡ slice_index s.classes q) × (c.head.domain ≡ slice_index s.domains q)) (listed_from (memory s) (2048 * q) 2048)
superpage-alike s q k =
    listed-all (memory s) (λ c. (class_of c.head.fields ≡ slice_index s.classes q) × (c.head.domain ≡ slice_index s.domains q)) 2048 (2048 * q)
    (λ j lt. each (2048 * q + j) (memory s (2048 * q + j)) (omega arith) refl)
  where
    each : (a : ℕ) (o : Option Cell) → a / 2048 ≡ q → memory s a ≡ o → AllByRecursion (λ c. (class_of c.head.fields ≡ slice_index s.classes q) × (c.head.domain ≡ slice_index s.domains q)) (listed_cell a o)
    each a None at is = tt
    each a (Some c) at is = (of-superpage s q a c k at is, tt)

-- ---- cell by cell

-- no object begins inside a cell
inside : (c q b j : ℕ) → IsClass c → b < cap c → 0 < j → j < c → ((2048 * q + c * b + j) / 2048 ≡ q) × ((2048 * q + c * b + j) % c ≢ 0)
inside c q b j is_class few pos lt = (grind (arith, common_steps), grind (arith, common_steps))

pub between-none : (s : Layout) (q b j : ℕ) → IsClass (slice_index s.classes q) → b < cap (slice_index s.classes q) → 0 < j → j < slice_index s.classes q → memory s (2048 * q + slice_index s.classes q * b + j) ≡ None
between-none s q b j is_class few pos lt =
    let h = inside (slice_index s.classes q) q b j is_class few pos lt in
    let a : ℕ = 2048 * q + slice_index s.classes q * b + j in
    let off : a % slice_index s.classes (superpage_of a) ≢ 0 = subst (λ (k : ℕ). a % slice_index s.classes k ≢ 0) (sym h.0) h.1 in
    memory_of-none s.classes s.cells s.pages a (and_right (has (set_of s.cells (superpage_of a)) (cell_number (slice_index s.classes (superpage_of a)) a)) (a % slice_index s.classes (superpage_of a) == 0) (ne_eqb (a % slice_index s.classes (superpage_of a)) 0 off))

class-some : (c : ℕ) → IsClass c → 0 < c
class-some c is_class = grind (arith, common_steps)

pub class-all : (c : ℕ) → IsClass c → c * cap c ≡ 2048
class-all c is_class = grind (arith, common_steps)

pub cells-more : (s : Layout) (q b : ℕ) → IsClass (slice_index s.classes q) → b < cap (slice_index s.classes q)
    → listed_from (memory s) (2048 * q) (slice_index s.classes q * (b + 1)) ≡ listed_from (memory s) (2048 * q) (slice_index s.classes q * b) ++ listed_cell (2048 * q + slice_index s.classes q * b) (memory s (2048 * q + slice_index s.classes q * b))
cells-more s q b is_class few = listed-more (memory s) (2048 * q) (slice_index s.classes q) b (class-some (slice_index s.classes q) is_class) (λ j pos lt. between-none s q b j is_class few pos lt)

-- how many there are
length-cell : (s : Layout) (q b : ℕ) → IsClass (slice_index s.classes q) → b < cap (slice_index s.classes q) → length (listed_cell (2048 * q + slice_index s.classes q * b) (memory s (2048 * q + slice_index s.classes q * b))) ≡ one_if (has (set_of s.cells q) b)
length-cell s q b is_class few =
    elim (cases_Bool (has (set_of s.cells q) b)) [
      | inl on ↦ ap (λ (o : Option Cell). length (listed_cell (2048 * q + slice_index s.classes q * b) o)) (memory_of-cell s.classes s.cells s.pages (cell_address q (slice_index s.classes q) b) (cell-bit s.classes s.cells q b is_class few ∙ on)) ∙ sym (ap one_if on)
      | inr off ↦ ap (λ (o : Option Cell). length (listed_cell (2048 * q + slice_index s.classes q * b) o)) (memory_of-none s.classes s.cells s.pages (cell_address q (slice_index s.classes q) b) (cell-bit s.classes s.cells q b is_class few ∙ off)) ∙ sym (ap one_if off)
    ]

length-cells : (s : Layout) (q n : ℕ) → IsClass (slice_index s.classes q) → n ≤ cap (slice_index s.classes q) → length (listed_from (memory s) (2048 * q) (slice_index s.classes q * n)) ≡ count_below (has (set_of s.cells q)) n
unfolding count_below listed_from
length-cells s q zero is_class few = ap (λ (k : ℕ). length (listed_from (memory s) (2048 * q) k)) (let e : slice_index s.classes q * 0 ≡ 0 = omega arith in e)
length-cells s q (suc n) is_class few =
    let lt : n < cap (slice_index s.classes q) = omega arith in
    let one = length-cell s q n is_class lt in
    let rest = length-cells s q n is_class (omega arith) in
    let step : length (listed_from (memory s) (2048 * q) (slice_index s.classes q * suc n)) ≡ length (listed_from (memory s) (2048 * q) (slice_index s.classes q * n)) + length (listed_cell (2048 * q + slice_index s.classes q * n) (memory s (2048 * q + slice_index s.classes q * n))) =
    ap (λ (k : ℕ). length (listed_from (memory s) (2048 * q) (slice_index s.classes q * k))) (let e : suc n ≡ n + 1 = omega arith in e) ∙ ap (λ (cs : List CellList). length cs) (cells-more s q n is_class lt)
    ∙ length-append (listed_from (memory s) (2048 * q) (slice_index s.classes q * n)) (listed_cell (2048 * q + slice_index s.classes q * n) (memory s (2048 * q + slice_index s.classes q * n))) in
    omega arith

pub length-superpage : (s : Layout) (q : ℕ) → IsClass (slice_index s.classes q) → length (listed_from (memory s) (2048 * q) 2048) ≡ count_below (has (set_of s.cells q)) (cap (slice_index s.classes q))
length-superpage s q is_class = ap (λ (k : ℕ). length (listed_from (memory s) (2048 * q) k)) (sym (class-all (slice_index s.classes q) is_class)) ∙ length-cells s q (cap (slice_index s.classes q)) is_class (omega arith)

-- counting cells
pub count-start : (f : ℕ → Bool) → count_below f 0 ≡ 0
unfolding count_below
count-start f = refl

pub count-more : (f : ℕ → Bool) (n : ℕ) → count_below f (n + 1) ≡ one_if (f n) + count_below f n
unfolding count_below
count-more f n = ap (count_below f) (let e : n + 1 ≡ suc n = omega arith in e)

-- where a cell begins
pub cell-start : (c q b : ℕ) → IsClass c → b < cap c → ((2048 * q + c * b) / 2048 ≡ q) × ((2048 * q + c * b) % c ≡ 0)
cell-start c q b is_class few = (grind (arith, common_steps), grind (arith, common_steps))

pub cells-within : (c b : ℕ) → IsClass c → b < cap c → c * (b + 1) ≤ 2048
cells-within c b is_class few = grind (arith, common_steps)

-- no cell yet
pub listed-start : (m : Memory) (base c : ℕ) → flat_map cell_items (listed_from m base (c * 0)) ≡ []
unfolding listed_from
listed-start m base c = ap (λ (n : ℕ). flat_map cell_items (listed_from m base n)) (let e : c * 0 ≡ 0 = omega arith in e)
