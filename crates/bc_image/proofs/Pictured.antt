-- Each listing that an image may have pictures a state.
use Rattle.std.proofs.Common.{◌≡◌, ℕ, ◌+◌, ◌-◌, ◌*◌, ◌/◌, ◌%◌, ◌^◌, ◌<◌, ◌≤◌, ◌==◌, Bool, true, false, if◌then◌else◌, List, [], ◌∷◌, length, map, get_or, option_map, Option, Some, None, refl, sym, ◌∙◌, ap, subst, inl, inr, arith}
use Prim.Native.Nat.{zero, suc}
use Rattle.std.specs.List.{AllByRecursion}
use Rattle.std.proofs.lemmas.Bool.{cases_lt, eqb-true}
use Rattle.std.proofs.lemmas.List.{length-map, get_or_past}
use Rattle.std.proofs.Math.ListN.{get_or-map}
use Rattle.bc_word.specs.Words.{word_of_bits}
use Rattle.bc_word.specs.declared.words.Word.{Word}
use Rattle.bc_word.specs.declared.words.Word.TheVariants as word
use Rattle.bc_memory.specs.Memory.{Cell, Memory}
use Rattle.bc_model.specs.Consistent.{IsHolder, IsState}
use Rattle.bc_model.specs.State.{State, Object, holder_of, made_by, numbers_below}
use Rattle.bc_model.specs.declared.values.Birth.{Birth}
use Rattle.bc_model.specs.declared.values.Holder.{Holder}
use Rattle.bc_model.specs.declared.values.Holder.TheVariants.{Lane, Frozen}
use Rattle.bc_standing.specs.Standing.{births, birth_of}
use Rattle.bc_image.specs.Cells.{CellList}
use Rattle.bc_image.specs.Images.{IsImageHolder, IsLinked, AreLinked, IsListed, IsImageListing}
use Rattle.bc_image.specs.Listings.{ListingLists}
use Rattle.bc_image.specs.Memories.{number_at, cell_at, cell_of, memory_of}
use Rattle.bc_image.specs.Pictures.{PicturesObjects, Pictures}
use Rattle.bc_image.proofs.Grammar.{all-at}
use Rattle.bc_image.proofs.HasState.{IsWhole, IsClosedWord, AreClosed, IsNumberWord, AreNumberWords, AreInRange, made_in, value_of, birth_on, found_below, stands-for, made-state, numbers-length, mapped-at}

-- ---- the object at an address

-- where the first of a list is the one, or one after it
record Placed (c : CellList) (cs : List CellList) (a k : ℕ) : Type 0 where
  within : k < length (c ∷ cs)
  address : (cell_at (c ∷ cs) k).address ≡ a

placed-by : (c : CellList) (cs : List CellList) (a k : ℕ) (b : Bool) (o : Option ℕ) → (c.address == a) ≡ b → ((n : ℕ) → o ≡ Some n → (n < length cs) × ((cell_at cs n).address ≡ a)) → (if b then Some 0 else option_map (λ (n : ℕ). n + 1) o) ≡ Some k → Placed c cs a k
placed-by c cs a k true o test rest e =
    let zero_is : 0 ≡ k = (let g : Some 0 ≡ Some k = e in cc) in
    record { within = omega arith; address = subst (λ (n : ℕ). (cell_at (c ∷ cs) n).address ≡ a) zero_is (eqb-true c.address a test) }
placed-by c cs a k false None test rest e = absurd (let g : None ≡ Some k = e in cc)
placed-by c cs a k false (Some n) test rest e =
    let next : n + 1 ≡ k = (let g : Some (n + 1) ≡ Some k = e in cc) in
    let same : suc n ≡ k = omega arith in
    let r = rest n refl in
    let w = r.0 in
    record { within = omega arith; address = subst (λ (m : ℕ). (cell_at (c ∷ cs) m).address ≡ a) same r.1 }

number-placed : (cells : List CellList) (a k : ℕ) → number_at cells a ≡ Some k → (k < length cells) × ((cell_at cells k).address ≡ a)
number-placed [] a k e = absurd (let g : None ≡ Some k = e in cc)
number-placed (c ∷ cs) a k e = (let p = placed-by c cs a k (c.address == a) (number_at cs a) refl (λ n h. number-placed cs a n h) e in (p.within, p.address))

-- an object of the memory is one of the list
record Listed (cells : List CellList) (a : ℕ) (c : Cell) : Type 0 where
  number : ℕ
  within : number < length cells
  address : (cell_at cells number).address ≡ a
  is : c ≡ cell_of (cell_at cells number)

cell-listed : (cells : List CellList) (a : ℕ) (c : Cell) → memory_of cells a ≡ Some c → Listed cells a c
cell-listed cells a c e = by (number_at cells a) refl e
  where
    by : (o : Option ℕ) → number_at cells a ≡ o → option_map (λ (k : ℕ). cell_of (cell_at cells k)) o ≡ Some c → Listed cells a c
    by None at h = absurd (let g : None ≡ Some c = h in cc)
    by (Some k) at h = (let p = number-placed cells a k at in record { number = k; within = p.0; address = p.1; is = (let g : Some (cell_of (cell_at cells k)) ≡ Some c = h in cc) })

record BirthListed (cells : List CellList) (a : ℕ) (b : Birth) : Type 0 where
  number : ℕ
  within : number < length cells
  address : (cell_at cells number).address ≡ a
  birth : birth_of (cell_at cells number).head ≡ b

birth-listed : (cells : List CellList) (a : ℕ) (b : Birth) → births (memory_of cells) a ≡ Some b → BirthListed cells a b
birth-listed cells a b e = by (number_at cells a) refl e
  where
    by : (o : Option ℕ) → number_at cells a ≡ o → option_map (λ (c : Cell). birth_of c.head) (option_map (λ (k : ℕ). cell_of (cell_at cells k)) o) ≡ Some b → BirthListed cells a b
    by None at h = absurd (let g : None ≡ Some b = h in cc)
    by (Some k) at h = (let p = number-placed cells a k at in record { number = k; within = p.0; address = p.1; birth = (let g : Some (birth_of (cell_at cells k).head) ≡ Some b = h in cc) })

-- ---- words of a listing

word-closed : (cells : List CellList) (w : Word) → IsLinked cells w → IsClosedWord (memory_of cells) w
word-closed cells word.Nil h = tt
word-closed cells (word.Num n) h = tt
word-closed cells (word.Ref a) h =
    (birth_of (cell_at cells h.0).head, ap (λ (o : Option ℕ). option_map (λ (c : Cell). birth_of c.head) (option_map (λ (k : ℕ). cell_of (cell_at cells k)) o)) h.1)

number-word : (n : ℕ) (t0 t1 : Bool) → n < 2 ^ 64 → IsNumberWord (if t0 then word.Nil else if t1 then word.Num (n / 2) else word.Ref (record { 0 = n / 2 - 1 }))
number-word n true t1 lt = tt
number-word n false true lt = omega arith
number-word n false false lt = tt

bits-number : (n : ℕ) → n < 2 ^ 64 → IsNumberWord (word_of_bits n)
unfolding word_of_bits
bits-number n lt = number-word n (n == 0) (n % 2 == 1) lt

bits-nil : word_of_bits 0 ≡ word.Nil
unfolding word_of_bits
bits-nil = refl

linked-at : (cells : List CellList) (ns : List ℕ) (i : ℕ) → i < length ns → AreLinked cells ns → (get_or ns i 0 < 2 ^ 64) × IsLinked cells (word_of_bits (get_or ns i 0))
linked-at cells [] i lt a = absurd (omega arith)
linked-at cells (n ∷ ns) zero lt a = a.0
linked-at cells (n ∷ ns) (suc i) lt a = linked-at cells ns i (omega arith) a.1

word-there : (ns : List ℕ) (i : ℕ) → get_or (map word_of_bits ns) i word.Nil ≡ word_of_bits (get_or ns i 0)
word-there ns i = ap (λ (w : Word). get_or (map word_of_bits ns) i w) (sym bits-nil) ∙ get_or-map word_of_bits ns i 0

words-closed : (cells : List CellList) (ns : List ℕ) → AreLinked cells ns → AreClosed (memory_of cells) (map word_of_bits ns)
words-closed cells ns a i = subst (IsClosedWord (memory_of cells)) (sym (word-there ns i)) (elim (cases_lt i (length ns)) [
  | inl lt ↦ word-closed cells (word_of_bits (get_or ns i 0)) (linked-at cells ns i lt a).1
  | inr ge ↦ subst (IsClosedWord (memory_of cells)) (sym (ap word_of_bits (get_or_past ns i 0 ge) ∙ bits-nil)) tt
])

words-numbers : (cells : List CellList) (ns : List ℕ) → AreLinked cells ns → AreNumberWords (map word_of_bits ns)
words-numbers cells ns a i = subst IsNumberWord (sym (word-there ns i)) (elim (cases_lt i (length ns)) [
  | inl lt ↦ bits-number (get_or ns i 0) (linked-at cells ns i lt a).0
  | inr ge ↦ subst IsNumberWord (sym (ap word_of_bits (get_or_past ns i 0 ge) ∙ bits-nil)) tt
])

-- ---- the state that a listing pictures

module _ (l : ListingLists) (is : IsImageListing l) where
  abbrev m : Memory
  m = memory_of l.cells

  abbrev root_words : List Word
  root_words = map word_of_bits l.roots

  abbrev end : ℕ
  end = 2048 * l.setup.superpages

  listed : (k : ℕ) → k < length l.cells → IsListed l (cell_at l.cells k)
  listed k lt = all-at (IsListed l) l.cells k lt is.cells

  whole : IsWhole (memory_of l.cells) (map word_of_bits l.roots) l.setup.lanes (2048 * l.setup.superpages) l.births
  whole = record {
    roots_closed = words-closed l.cells l.roots is.roots;
    fields_closed = λ a c e. (let x = cell-listed l.cells a c e in subst (λ (d : Cell). AreClosed (memory_of l.cells) d.fields) (sym x.is) (words-closed l.cells (cell_at l.cells x.number).fields (listed x.number x.within).fields));
    fields_counted = λ a c e. (let x = cell-listed l.cells a c e in subst (λ (d : Cell). d.head.fields ≡ length d.fields) (sym x.is) (sym (length-map (cell_at l.cells x.number).fields word_of_bits ∙ (listed x.number x.within).count)));
    once = λ a x b e f.
        let p = birth-listed l.cells a b e in
        let q = birth-listed l.cells x b f in
        let same = is.apart p.number q.number p.within q.within (p.birth ∙ sym q.birth) in
        sym p.address ∙ ap (λ (k : ℕ). (cell_at l.cells k).address) same ∙ q.address;
    below = λ a b e. (let p = birth-listed l.cells a b e in let s = (listed p.number p.within).superpage in let at = p.address in omega arith);
    lane = λ a b e. (let p = birth-listed l.cells a b e in subst (λ (x : Birth). x.lane < l.setup.lanes) p.birth (listed p.number p.within).lane);
    serial = λ a b e. (let p = birth-listed l.cells a b e in subst (λ (x : Birth). (0 < x.serial) × (x.serial ≤ get_or l.births x.lane 0)) p.birth ((listed p.number p.within).positive, (listed p.number p.within).serial));
  }

  range : (in_use : ℕ) → in_use ≡ l.setup.domains → AreInRange (memory_of l.cells) (map word_of_bits l.roots) in_use
  range in_use same = record {
    roots = words-numbers l.cells l.roots is.roots;
    numbers = λ a c e. (let x = cell-listed l.cells a c e in subst (λ (d : Cell). AreNumberWords d.fields) (sym x.is) (words-numbers l.cells (cell_at l.cells x.number).fields (listed x.number x.within).fields));
    domains = λ a c e. (let x = cell-listed l.cells a c e in let d = (listed x.number x.within).domain in let at = ap (λ (y : Cell). y.head.domain) x.is in omega arith);
    fields = λ a c e. (let x = cell-listed l.cells a c e in let f = (listed x.number x.within).head.fields in let n = (listed x.number x.within).count in let long = ap (λ (y : Cell). length y.fields) x.is ∙ length-map (cell_at l.cells x.number).fields word_of_bits in omega arith);
  }

  abbrev pub state_with : List Holder → State
  state_with holders = record {
    width = l.setup.slots;
    made = made_in (memory_of l.cells) (2048 * l.setup.superpages) l.setup.lanes l.births;
    slots = map (value_of (memory_of l.cells)) (map word_of_bits l.roots);
    holders = holders;
  }

  pub pictured-state : (holders : List Holder) → length holders ≡ l.setup.domains → ((d : ℕ) → d < length holders → IsHolder l.setup.lanes (holder_of holders d)) → IsState (state_with holders)
  pictured-state holders long held =
      let lanes = is.setup.lanes.1 in
      let domains = is.setup.domains in
      let some = domains.0 in
      let few = domains.1 in
      let slots = is.setup.slots.1 in
      made-state (memory_of l.cells) (map word_of_bits l.roots) l.setup.lanes (2048 * l.setup.superpages) l.births whole l.setup.slots holders lanes (omega arith) (omega arith) slots
      (length-map l.roots word_of_bits ∙ is.slots ∙ turned l.setup.domains l.setup.slots ∙ ap (λ (n : ℕ). l.setup.slots * n) (sym long)) (range (length holders) long) held
    where
      turned : (x y : ℕ) → x * y ≡ y * x
      turned x y = omega arith

  pub pictured-objects : (holders : List Holder) → length holders ≡ l.setup.domains → PicturesObjects l (state_with holders)
  pictured-objects holders long = record {
    stands = stands-for (memory_of l.cells) (map word_of_bits l.roots) l.setup.lanes (2048 * l.setup.superpages) l.births whole;
    sizes = record {
      lanes = length-map (numbers_below l.setup.lanes) _ ∙ numbers-length l.setup.lanes;
      domains = long;
      slots = refl;
    };
  }

  counts-at : (counts : List ℕ) (n : ℕ) (j : ℕ) → j < n → length (made_by (made_in (memory_of l.cells) (2048 * l.setup.superpages) n counts) j) ≡ get_or counts j 0
  counts-at counts n j lt =
      ap length (mapped-at (λ i. map (λ s. found_below (memory_of l.cells) (birth_on i s) (2048 * l.setup.superpages)) (numbers_below (get_or counts i 0))) n j [] lt)
      ∙ length-map (numbers_below (get_or counts j 0)) (λ s. found_below (memory_of l.cells) (birth_on j s) (2048 * l.setup.superpages)) ∙ numbers-length (get_or counts j 0)

  same-counts : (counts : List ℕ) (mss : List (List Object)) → length counts ≡ length mss → ((j : ℕ) → j < length counts → length (made_by mss j) ≡ get_or counts j 0) → counts ≡ map (λ (made : List Object). length made) mss
  same-counts [] [] long at = refl
  same-counts [] (ms ∷ mss) long at = absurd (omega arith)
  same-counts (n ∷ counts) [] long at = absurd (omega arith)
  same-counts (n ∷ counts) (ms ∷ mss) long at =
      let first = at 0 (omega arith) in
      let rest = same-counts counts mss (omega arith) (λ j lt. at (suc j) (omega arith)) in
      ap (λ (x : ℕ). x ∷ counts) (sym first) ∙ ap (λ (xs : List ℕ). length ms ∷ xs) rest

  pub pictured : Pictures l (state_with l.holders)
  pictured =
      let objects = pictured-objects l.holders is.domains in
      record {
        stands = objects.stands;
        sizes = objects.sizes;
        holders = refl;
        births = same-counts l.births (made_in (memory_of l.cells) (2048 * l.setup.superpages) l.setup.lanes l.births) (is.lanes ∙ sym objects.sizes.lanes) (λ j lt. counts-at l.births l.setup.lanes j (let n = is.lanes in omega arith));
      }

-- each holder of a listing is one of a state
listed-holder : (version lanes : ℕ) (h : Holder) → IsImageHolder version lanes h → IsHolder lanes h
listed-holder version lanes (Lane j) is = is
listed-holder version lanes Frozen is = tt

pub listed-holders : (version lanes : ℕ) (holders : List Holder) → AllByRecursion (IsImageHolder version lanes) holders → (d : ℕ) → d < length holders → IsHolder lanes (holder_of holders d)
listed-holders version lanes [] a d lt = absurd (omega arith)
listed-holders version lanes (h ∷ hs) a zero lt = listed-holder version lanes h a.0
listed-holders version lanes (h ∷ hs) a (suc d) lt = listed-holders version lanes hs a.1 d (omega arith)

pub some-state : (l : ListingLists) → IsImageListing l → (s : State) × IsState s × Pictures l s
some-state l is = (state_with l is l.holders, pictured-state l is l.holders is.domains (listed-holders l.version l.setup.lanes l.holders is.holders), pictured l is)

pub some-objects : (l : ListingLists) → IsImageListing l → (s : State) × IsState s × PicturesObjects l s
some-objects l is =
    let whole = some-state l is in
    (whole.0, whole.1, record { stands = whole.2.stands; sizes = whole.2.sizes })
