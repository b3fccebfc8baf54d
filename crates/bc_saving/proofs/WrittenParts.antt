-- What an engine can go on with is listed as an image may be.
use Rattle.std.proofs.Common.{◌≡◌, ◌≢◌, ◌⊎◌, ℕ, ◌+◌, ◌*◌, ◌/◌, ◌%◌, ◌^◌, ◌<◌, ◌≤◌, List, [], ◌∷◌, ◌++◌, length, map, get_or, option_map, Option, Some, None, refl, sym, ◌∙◌, ap, subst, inl, inr, arith}
use Prim.Native.Nat.{zero, suc}
use Rattle.std.specs.List.{AllByRecursion}
use Rattle.std.proofs.lemmas.Bool.{cases_lt}
use Rattle.std.proofs.lemmas.List.{get_or_past, length-map}
use Rattle.bc_classes.specs.Classes.{class_of}
use Rattle.bc_image.specs.Cells.{CellList}
use Rattle.bc_image.specs.Images.{AreLinked, IsImageHolder, IsImageListing, IsLinked, IsListed}
use Rattle.bc_image.specs.Listings.{ListingLists}
use Rattle.bc_image.specs.Memories.{cell_at, cell_of, memory_of, no_cell, number_at}
use Rattle.bc_image.specs.Pictures.{Pictures}
use Rattle.bc_image.proofs.HasState.{IsNumberWord}
use Rattle.bc_memory.specs.Memory.{Cell, Memory}
use Rattle.bc_model.specs.Consistent.{IsHolder}
use Rattle.bc_model.specs.State.{State, NoneFrozen, holder_of}
use Rattle.bc_model.specs.declared.traces.Setup.{Setup}
use Rattle.bc_model.specs.declared.values.Holder.{Holder}
use Rattle.bc_model.specs.declared.values.Holder.TheVariants.{Frozen, Lane}
use Rattle.bc_picture.specs.Readable.{IsCalm}
use Rattle.bc_picture.specs.SpaceListing.{heap_listing, listed_cell, listed_cells, listed_from}
use Rattle.bc_picture.proofs.ListedBack.{listed-memory}
use Rattle.bc_picture.proofs.ListedMemories.{AreRising, address-apart}
use Rattle.bc_picture.proofs.ReadLemmas.{head-fits}
use Rattle.bc_picture.proofs.SavedHeaps.{pictures-listed}
use Rattle.bc_standing.specs.Standing.{birth_of}
use Rattle.bc_superpages.specs.Kept.{IsLayout}
use Rattle.bc_superpages.specs.Layout.{Layout, content_at, superpages}
use Rattle.bc_superpages.specs.LayoutAt.{IsAllocated, state_at, word_at}
use Rattle.bc_superpages.specs.Memory as space
use Rattle.bc_superpages.specs.declared.headers.PageState.{PageState}
use Rattle.bc_superpages.specs.declared.headers.PageState.TheVariants.{Absent, Remembered}
use Rattle.bc_superpages.specs.RootWords.{RootWords}
use Rattle.bc_superpages.proofs.CellLemmas.{is_cell-start}
use Rattle.bc_superpages.proofs.HandLemmas.{allocated-object, allocated-superpage}
use Rattle.bc_superpages.proofs.MemoryLemmas.{memory_of-cell}
use Rattle.bc_word.specs.Addresses.{offset_of, page_of}
use Rattle.bc_word.specs.HeadBits.{FitsHead}
use Rattle.bc_word.specs.Heads.{fields_of_bits}
use Rattle.bc_word.specs.WordBits.{IsPacked, word_bits}
use Rattle.bc_word.specs.Words.{word_of_bits}
use Rattle.bc_word.specs.declared.addresses.Address.{Address}
use Rattle.bc_word.specs.declared.words.Word.{Word}
use Rattle.bc_word.specs.declared.words.Word.TheVariants.{Nil, Num, Ref}
use Rattle.bc_word.proofs.WordsLemmas.{length-words_from}
use Rattle.bc_word.proofs.WordLemmas.{word_of_bits-word_bits}
use Rattle.bc_engine.specs.Parts.{CanAdopt, PartsStand}
use Rattle.bc_engine.proofs.Parting.{cell-there, of-superpage, packed-field}

-- ---- what is listed, by its number

-- an object as it is listed
abbrev as_listed : ℕ → Cell → CellList
as_listed a c = record { address = a; head = c.head; fields = map word_bits c.fields }

-- one of the listed objects lies where it says
record ListedAt (m : Memory) (x n : ℕ) (c : CellList) : Type 0 where
  at : ℕ
  low : x ≤ at
  high : at < x + n
  object : Cell
  there : m at ≡ Some object
  is : c ≡ as_listed at object

listed-at : (m : Memory) (n x k : ℕ) → k < length (listed_from m x n) → ListedAt m x n (cell_at (listed_from m x n) k)
unfolding listed_from
listed-at m zero x k lt = absurd (omega arith)
listed-at m (suc n) x k lt = here (m x) refl (λ i less. listed-at m n (x + 1) i less) k lt
  where
    further : (c : CellList) → ListedAt m (x + 1) n c → ListedAt m x (suc n) c
    further c l = record { at = l.at; low = (let h = l.low in omega arith); high = (let h = l.high in omega arith); object = l.object; there = l.there; is = l.is }

    here : (o : Option Cell) → m x ≡ o → ((i : ℕ) → i < length (listed_from m (x + 1) n) → ListedAt m (x + 1) n (cell_at (listed_from m (x + 1) n) i))
        → (i : ℕ) → i < length (listed_cell x o ++ listed_from m (x + 1) n) → ListedAt m x (suc n) (cell_at (listed_cell x o ++ listed_from m (x + 1) n) i)
    here None none rest i less = further (cell_at (listed_from m (x + 1) n) i) (rest i less)
    here (Some c) there rest zero less = record { at = x; low = omega arith; high = omega arith; object = c; there = there; is = refl }
    here (Some c) there rest (suc i) less = further (cell_at (listed_from m (x + 1) n) i) (rest i (omega arith))

listed-rising : (m : Memory) (n x : ℕ) → AreRising (listed_from m x n)
unfolding listed_from
listed-rising m zero x j k less lt = absurd (omega arith)
listed-rising m (suc n) x j k less lt = here (m x) (listed-rising m n (x + 1)) j k less lt
  where
    here : (o : Option Cell) → AreRising (listed_from m (x + 1) n) → AreRising (listed_cell x o ++ listed_from m (x + 1) n)
    here None rest i l lower within = rest i l lower within
    here (Some c) rest i zero lower within = absurd (omega arith)
    here (Some c) rest zero (suc l) lower within =
        let at = listed-at m n (x + 1) l (omega arith) in
        let low = at.low in
        let same : (cell_at (listed_from m (x + 1) n) l).address ≡ at.at = ap (λ (d : CellList). d.address) at.is in
        omega (arith, low, same)
    here (Some c) rest (suc i) (suc l) lower within = rest i l (omega arith) (omega arith)

number-there : (cells : List CellList) (a : ℕ) (c : Cell) → memory_of cells a ≡ Some c → (k : ℕ) × (number_at cells a ≡ Some k)
number-there cells a c is = by (number_at cells a) refl is
  where
    by : (o : Option ℕ) → number_at cells a ≡ o → option_map (λ (k : ℕ). cell_of (cell_at cells k)) o ≡ Some c → (k : ℕ) × (number_at cells a ≡ Some k)
    by None at h = absurd (let e : None ≡ Some c = h in cc)
    by (Some k) at h = (k, at)

all-from : {X : Type 0} (P : X → Type 0) (xs : List X) (d : X) → ((k : ℕ) → k < length xs → P (get_or xs k d)) → AllByRecursion P xs
all-from P [] d each = tt
all-from P (x ∷ xs) d each = (each 0 (omega arith), all-from P xs d (λ k lt. each (suc k) (omega arith)))

-- a holder of an engine may be listed, in version 1 unless its domain is frozen
listed-holder : (version lanes : ℕ) (h : Holder) → IsHolder lanes h → (h ≢ Frozen) ⊎ (2 ≤ version) → IsImageHolder version lanes h
listed-holder version lanes (Lane j) is known = is
listed-holder version lanes Frozen is (inl never) = absurd (never refl)
listed-holder version lanes Frozen is (inr since) = since

listed-holders : (version lanes : ℕ) (holders : List Holder) → ((d : ℕ) → d < length holders → IsHolder lanes (holder_of holders d)) → NoneFrozen holders ⊎ (2 ≤ version) → AllByRecursion (IsImageHolder version lanes) holders
listed-holders version lanes [] each known = tt
listed-holders version lanes (h ∷ hs) each (inl none) = (listed-holder version lanes h (each 0 (omega arith)) (inl (none 0 (omega arith))), listed-holders version lanes hs (λ d lt. each (suc d) (omega arith)) (inl (λ d lt. none (suc d) (omega arith))))
listed-holders version lanes (h ∷ hs) each (inr since) = (listed-holder version lanes h (each 0 (omega arith)) (inr since), listed-holders version lanes hs (λ d lt. each (suc d) (omega arith)) (inr since))

-- ---- an image of the parts

bits-few : (s : Layout) (w : Word) → IsLayout s → IsNumberWord w → ((a : Address) → w ≡ Ref a → IsAllocated s a.0) → word_bits w < 2 ^ 64
bits-few s Nil k number h = omega arith
bits-few s (Num v) k number h = omega (arith, number)
bits-few s (Ref a) k number h = (let lt = allocated-superpage s a.0 k (h a refl) in let few = k.few in omega arith)

word-linked : (s : Layout) (w : Word) → IsLayout s → ((a : Address) → w ≡ Ref a → IsAllocated s a.0) → IsLinked (listed_cells s) w
word-linked s Nil k h = tt
word-linked s (Num v) k h = tt
word-linked s (Ref a) k h =
    number-there (listed_cells s) a.0 (space.cell_at s.pages a.0) (ap (λ (m : Memory). m a.0) (listed-memory s k) ∙ memory_of-cell s.classes s.cells s.pages a.0 (h a refl))

fields-linked : (s : Layout) (k : IsLayout s) (ws : List Word) → ((i : ℕ) → IsNumberWord (get_or ws i Nil)) → ((i : ℕ) → (a : Address) → get_or ws i Nil ≡ Ref a → IsAllocated s a.0) → AreLinked (listed_cells s) (map word_bits ws)
fields-linked s k [] numbers named = tt
fields-linked s k (w ∷ ws) numbers named = (
  (bits-few s w k (numbers 0) (named 0), subst (IsLinked (listed_cells s)) (sym (word_of_bits-word_bits w)) (word-linked s w k (named 0))),
  fields-linked s k ws (λ i. numbers (suc i)) (λ i. named (suc i)),
)

words-linked : (s : Layout) (k : IsLayout s) (ns : List ℕ) → ((i : ℕ) → IsPacked (get_or ns i 0)) → ((i : ℕ) → (a : Address) → i < length ns → word_of_bits (get_or ns i 0) ≡ Ref a → IsAllocated s a.0) → AreLinked (listed_cells s) ns
words-linked s k [] packed named = tt
words-linked s k (n ∷ ns) packed named = (
  ((packed 0).0, word-linked s (word_of_bits n) k (λ a e. named 0 a (omega arith) e)),
  words-linked s k ns (λ i. packed (suc i)) (λ i a lt e. named (suc i) a (omega arith) e),
)

module _ (setup : Setup) (holders : List Holder) (serials : List ℕ) (r : RootWords) (s : Layout) (can : CanAdopt setup holders serials r s) (kept : IsLayout s) where
  module _ (version phases : ℕ) (known_holders : NoneFrozen holders ⊎ (2 ≤ version)) where
    abbrev l : ListingLists
    l = heap_listing version setup phases holders serials r s

    number-at : (k : ℕ) → k < length (listed_cells s) → ListedAt (space.memory s) 0 (2048 * superpages s) (cell_at (listed_cells s) k)
    number-at k lt = listed-at (space.memory s) (2048 * superpages s) 0 k lt

    listed : (a : ℕ) (c : Cell) → space.memory s a ≡ Some c → IsListed (heap_listing version setup phases holders serials r s) (as_listed a c)
    listed a c there =
        let at = cell-there s a c there in
        let within = allocated-superpage s a kept at.0 in
        let object = allocated-object s a kept at.0 in
        let of = of-superpage s a c kept there in
        let birth = can.born a (birth_of c.head) (ap (option_map (λ (x : Cell). birth_of x.head)) there) in
        let count = can.supers in
        let many = can.lanes in
        let domain = can.used of.superpage of.used in
        let same = of.domain in
        record {
          superpage = omega (arith, within, count);
          start = subst (λ (x : Cell). a % class_of x.head.fields ≡ 0) (sym at.1) (ap (λ (n : ℕ). a % n) object.of_class ∙ is_cell-start s.classes s.cells a at.0);
          head = subst (λ (x : Cell). FitsHead x.head) (sym at.1) (head-fits s a kept at.0);
          lane = (let h = birth.lane in omega (arith, h, many));
          positive = birth.positive;
          serial = birth.serial;
          domain = omega (arith, domain, same);
          count = length-map c.fields word_bits ∙ subst (λ (x : Cell). length x.fields ≡ x.head.fields) (sym at.1) (length-words_from (content_at s.pages (page_of a)) (offset_of a + 1) (fields_of_bits (word_at s.pages a)));
          fields = fields-linked s kept c.fields (λ i. subst (λ (x : Cell). IsNumberWord (get_or x.fields i Nil)) (sym at.1) (packed-field s a i kept at.0)) (λ i b e. can.field a i c b there e);
        }

    pub image : (1 ≤ version) × (version ≤ 3) → phases < 2 ^ 32 → AllByRecursion (λ n. n ≤ 4000000000) serials → ((k : ℕ) → IsPacked (get_or r.words k 0)) → length r.words ≡ r.domains * r.slots
        → IsImageListing (heap_listing version setup phases holders serials r s)
    image known few born packed long = record {
      version = known;
      setup = can.range;
      phases = few;
      domains = can.domains;
      holders = listed-holders version setup.lanes holders can.holder known_holders;
      lanes = can.lanes;
      births = born;
      slots = long ∙ ap (λ (n : ℕ). n * r.slots) can.rooted ∙ ap (λ (n : ℕ). setup.domains * n) can.slots;
      roots = words-linked s kept r.words packed can.root;
      cells = all-from (IsListed (heap_listing version setup phases holders serials r s)) (listed_cells s) no_cell (λ k lt.
          let at = number-at k lt in
          subst (IsListed (heap_listing version setup phases holders serials r s)) (sym at.is) (listed at.at at.object at.there));
      rising = listed-rising (space.memory s) (2048 * superpages s) 0;
      alike = λ j k in_j in_k same.
          let one = number-at j in_j in
          let two = number-at k in_k in
          let p = pair-of one.at one.object one.there in
          let q = pair-of two.at two.object two.there in
          let at : one.at / 2048 ≡ two.at / 2048 = ap (λ (c : CellList). c.address / 2048) (sym one.is) ∙ same ∙ ap (λ (c : CellList). c.address / 2048) two.is in (
            ap (λ (c : CellList). c.head.domain) one.is ∙ p.0 ∙ ap (λ (x : ℕ). get_or s.domains x 0) at ∙ sym q.0 ∙ ap (λ (c : CellList). c.head.domain) (sym two.is),
            ap (λ (c : CellList). class_of c.head.fields) one.is ∙ p.1 ∙ ap (λ (x : ℕ). get_or s.classes x 0) at ∙ sym q.1 ∙ ap (λ (c : CellList). class_of c.head.fields) (sym two.is),
          );
      apart = λ j k in_j in_k same.
          let one = number-at j in_j in
          let two = number-at k in_k in
          let b : birth_of one.object.head ≡ birth_of two.object.head = ap (λ (c : CellList). birth_of c.head) (sym one.is) ∙ same ∙ ap (λ (c : CellList). birth_of c.head) two.is in
          let at : one.at ≡ two.at = can.once one.at two.at (birth_of one.object.head) (ap (option_map (λ (x : Cell). birth_of x.head)) one.there) (ap (option_map (λ (x : Cell). birth_of x.head)) two.there ∙ ap Some (sym b)) in
          address-apart (listed_cells s) j k (listed-rising (space.memory s) (2048 * superpages s) 0) in_j in_k
          (ap (λ (c : CellList). c.address) one.is ∙ at ∙ ap (λ (c : CellList). c.address) (sym two.is));
    }
      where
        pair-of : (a : ℕ) (c : Cell) → space.memory s a ≡ Some c → (c.head.domain ≡ get_or s.domains (a / 2048) 0) × (class_of c.head.fields ≡ get_or s.classes (a / 2048) 0)
        pair-of a c there =
            let at = cell-there s a c there in
            let object = allocated-object s a kept at.0 in (
              ap (λ (x : Cell). x.head.domain) at.1 ∙ object.of_domain,
              ap (λ (x : Cell). class_of x.head.fields) at.1 ∙ object.of_class,
            )

    pub pictures : (state : State) → PartsStand setup holders serials r s state → Pictures (heap_listing version setup phases holders serials r s) state
    pictures state st = (pictures-listed version phases setup holders serials r s kept state).1 (record {
      stands = st.stands;
      sizes = st.sizes;
      held = sym st.held;
      born = sym st.made;
    })

  pub calm : IsCalm s
  calm = record {
    promised = can.none_promised;
    remembered = λ p e. elim (cases_lt p (4 * superpages s)) [
      | inl lt ↦ can.none_remembered p lt e
      | inr past ↦ absent-remembered (sym (beyond p past) ∙ e)
    ];
  }
    where
      absent-remembered : Absent ≡ Remembered → ⊥
      absent-remembered e = cc

      beyond : (p : ℕ) → 4 * superpages s ≤ p → state_at s.states p ≡ Absent
      beyond p le = ap (λ (states : List PageState). get_or states (p % 4) Absent) (get_or_past s.states (p / 4) [] (let n = kept.long.states in omega arith))
