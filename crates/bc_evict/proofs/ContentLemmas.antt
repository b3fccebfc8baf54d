-- The objects of a page in hand, by its words, and what these refer to.
use Rattle.std.proofs.Common.{◌≡◌, ℕ, ◌+◌, ◌%◌, ◌<◌, Bool, true, false, if◌then◌else◌, inl, inr, List, length, slice_index, slice_index_or, Some, None, ap, sym, subst, ◌∙◌, arith}
use Rattle.std.proofs.lemmas.Bool.{cases_Bool, and_from, and_left, eq-eqb}
use Rattle.std.proofs.lemmas.Option.{same_Some}
use Rattle.bc_bits.specs.Bits.{has}
use Rattle.bc_bits.specs.Counting.{any_below}
use Rattle.bc_word.specs.declared.words.Word.{Word}
use Rattle.bc_word.specs.declared.words.Word.TheVariants.{Nil, Ref}
use Rattle.bc_word.specs.Words.{word_of_bits}
use Rattle.bc_word.specs.WordBits.{IsPacked}
use Rattle.bc_word.specs.Heads.{fields_of_bits}
use Rattle.bc_word.specs.HeadBits.{IsPackedHead}
use Rattle.bc_word.specs.Addresses.{superpage_of, page_of, offset_of, cell_number}
use Rattle.bc_word.proofs.WordsLemmas.{length-words_from, get_or-words_from}
use Rattle.bc_superpages.specs.Layout.{Layout, set_of, is_cell}
use Rattle.bc_superpages.specs.LayoutAt.{IsAllocated}
use Rattle.bc_superpages.specs.Memory.{Cell, cell_on}
use Rattle.bc_superpages.specs.Kept.{IsLayout}
use Rattle.bc_superpages.specs.Calls.{fields_at, class_at}
use Rattle.bc_superpages.proofs.HandLemmas.{allocated-object}
use Rattle.bc_superpages.proofs.FieldLemmas.{field-room}
use Rattle.bc_bookmarks.specs.Targets.{is_target, some_field}
use Rattle.bc_bookmarks.proofs.TargetLemmas.{refers-target, target-refers}
use Rattle.bc_pins.specs.Contents.{IsFieldOn, NamesFixed, IsYoung, IsContent, RefersYoung, objects_in, field_bits}

none_is : (x : Cell) → None ≡ Some x → ⊥
none_is x e = cc

-- an object that lies at an address
pub object-at : (s : Layout) (c : List ℕ) (x : ℕ) (o : Cell) → objects_in s c x ≡ Some o → IsAllocated s x × (o ≡ cell_on c (offset_of x))
object-at s c x o found = elim (cases_Bool (is_cell s.classes s.cells x)) [
  | inl on ↦ (on, same_Some _ _ (sym found ∙ ap (λ (b : Bool). if b then Some (cell_on c (offset_of x)) else None) on))
  | inr off ↦ absurd (none_is o (sym (ap (λ (b : Bool). if b then Some (cell_on c (offset_of x)) else None) off) ∙ found))
]

pub object-in : (s : Layout) (c : List ℕ) (x : ℕ) → IsAllocated s x → objects_in s c x ≡ Some (cell_on c (offset_of x))
object-in s c x on = ap (λ (b : Bool). if b then Some (cell_on c (offset_of x)) else None) on

pub object-none : (s : Layout) (c : List ℕ) (x : ℕ) → is_cell s.classes s.cells x ≡ false → objects_in s c x ≡ None
object-none s c x off = ap (λ (b : Bool). if b then Some (cell_on c (offset_of x)) else None) off

-- a word that is read
pub word-at : (c : List ℕ) (o i : ℕ) → i < fields_of_bits (slice_index c o) → word_of_bits (slice_index c (o + 1 + i)) ≡ slice_index_or (cell_on c o).fields i Nil
word-at c o i lt = sym (get_or-words_from c (o + 1) (fields_of_bits (slice_index c o)) i Nil lt)

pub word-is : (c : List ℕ) (x i : ℕ) → i < fields_of_bits (slice_index c (offset_of x)) → word_of_bits (slice_index c (offset_of x + 1 + i)) ≡ slice_index_or (cell_on c (offset_of x)).fields i Nil
word-is c x i lt = word-at c (offset_of x) i lt

pub many : (c : List ℕ) (x : ℕ) → length (cell_on c (offset_of x)).fields ≡ fields_of_bits (slice_index c (offset_of x))
many c x = length-words_from c (offset_of x + 1) (fields_of_bits (slice_index c (offset_of x)))

-- a reference that is read is to a target
pub word-target : (s : Layout) (page : ℕ) (c : List ℕ) (x i a : ℕ) → IsAllocated s x → page_of x ≡ page → i < fields_of_bits (slice_index c (offset_of x)) → word_of_bits (slice_index c (offset_of x + 1 + i)) ≡ Ref (record { 0 = a })
    → is_target (objects_in s c) page a ≡ true
word-target s page c x i a on p lt is =
    let size = many c x in
    refers-target (objects_in s c) page a record {
      address = x;
      on = p;
      object = cell_on c (offset_of x);
      is = object-in s c x on;
      index = i;
      within = omega arith;
      refers = sym (word-is c x i lt) ∙ is;
    }

-- the fields of an object, all of them
pub fields-done : (s : Layout) (c : List ℕ) (x n : ℕ) (test : Word → Bool) → IsAllocated s x → n ≡ fields_of_bits (slice_index c (offset_of x))
    → any_below (λ i. test (slice_index_or (cell_on c (offset_of x)).fields i Nil)) n ≡ some_field test (objects_in s c x)
fields-done s c x n test on is =
    ap (any_below (λ i. test (slice_index_or (cell_on c (offset_of x)).fields i Nil))) (is ∙ sym (many c x)) ∙ ap (some_field test) (sym (object-in s c x on))

-- a cell that begins at an address, by a header that was read
bit-here : (s : Layout) (cells : List ℕ) (class q n x : ℕ) → cells ≡ set_of s.cells q → class ≡ slice_index s.classes q → q ≡ superpage_of x → n ≡ cell_number class x
    → has cells n ≡ has (set_of s.cells (superpage_of x)) (cell_number (slice_index s.classes (superpage_of x)) x)
bit-here s cells class q n x is_cells is_class is_q is_n =
    ap (λ (ws : List ℕ). has ws n) is_cells ∙ ap (λ (j : ℕ). has (set_of s.cells j) n) is_q
    ∙ ap (has (set_of s.cells (superpage_of x))) (is_n ∙ ap (λ (k : ℕ). cell_number k x) (is_class ∙ ap (slice_index s.classes) is_q))

pub cell-here : (s : Layout) (cells : List ℕ) (class q n x : ℕ) → cells ≡ set_of s.cells q → class ≡ slice_index s.classes q → q ≡ superpage_of x → n ≡ cell_number class x
    → x % class_at s x ≡ 0 → has cells n ≡ true → IsAllocated s x
cell-here s cells class q n x is_cells is_class is_q is_n starts on = and_from _ _ (sym (bit-here s cells class q n x is_cells is_class is_q is_n) ∙ on) (eq-eqb _ 0 starts)

pub none-here : (s : Layout) (cells : List ℕ) (class q n x : ℕ) (c : List ℕ) → cells ≡ set_of s.cells q → class ≡ slice_index s.classes q → q ≡ superpage_of x → n ≡ cell_number class x
    → has cells n ≡ false → objects_in s c x ≡ None
none-here s cells class q n x c is_cells is_class is_q is_n off = object-none s c x (and_left _ _ (sym (bit-here s cells class q n x is_cells is_class is_q is_n) ∙ off))

module _ (s : Layout) (page : ℕ) (c : List ℕ) (l : IsLayout s) (fixed : IsContent s page c) where
  pub head-packed : (x : ℕ) → IsAllocated s x → page_of x ≡ page → IsPackedHead (slice_index c (offset_of x))
  head-packed x on p = subst IsPackedHead (sym (fixed.heads x on p)) (allocated-object s x l on).packed

  pub fields-are : (x : ℕ) → IsAllocated s x → page_of x ≡ page → fields_of_bits (slice_index c (offset_of x)) ≡ fields_at s x
  fields-are x on p = ap fields_of_bits (fixed.heads x on p)

  pub field-on : (x i : ℕ) → IsAllocated s x → page_of x ≡ page → i < fields_of_bits (slice_index c (offset_of x)) → IsFieldOn s page x i
  field-on x i on p lt = let e = fields-are x on p in record { allocated = on; on = p; within = omega arith }

  pub room : (x i : ℕ) → IsAllocated s x → page_of x ≡ page → i < fields_of_bits (slice_index c (offset_of x)) → offset_of x + 1 + i < 512
  room x i on p lt = field-room s x i l on (field-on x i on p lt).within

  pub packed : (x i : ℕ) → IsAllocated s x → page_of x ≡ page → i < fields_of_bits (slice_index c (offset_of x)) → IsPacked (slice_index c (offset_of x + 1 + i))
  packed x i on p lt = fixed.packed x i (field-on x i on p lt)

  module _ (old : RefersYoung s page c → ⊥) where
    -- where a field refers to an address, an allocated cell begins there
    pub names-allocated : (x i a : ℕ) → IsFieldOn s page x i → word_of_bits (field_bits c x i) ≡ Ref (record { 0 = a }) → IsAllocated s a
    names-allocated x i a f is = elim (let names : NamesFixed s (Ref (record { 0 = a })) = subst (NamesFixed s) is (fixed.names x i f) in names) [
      | inl on ↦ on
      | inr past ↦ absurd (old record { cell = x; index = i; is = f; young = subst (IsYoung s) (sym is) past })
    ]

    -- so each target of the page is an allocated cell
    pub target-allocated : (a : ℕ) → is_target (objects_in s c) page a ≡ true → IsAllocated s a
    target-allocated a on =
        let r = target-refers (objects_in s c) page a on in
        let o = object-at s c r.address r.object r.is in
        let size : length r.object.fields ≡ fields_of_bits (slice_index c (offset_of r.address)) = ap (λ (z : Cell). length z.fields) o.1 ∙ many c r.address in
        let within = r.within in
        let lt : r.index < fields_of_bits (slice_index c (offset_of r.address)) = omega arith in
        names-allocated r.address r.index a (field-on r.address r.index o.0 r.on lt)
        (word-is c r.address r.index lt ∙ ap (λ (z : Cell). slice_index_or z.fields r.index Nil) (sym o.1) ∙ r.refers)
