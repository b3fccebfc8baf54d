-- What is built of a listing is what an engine can go on with.
use Rattle.std.proofs.Common.{◌≡◌, ℕ, ◌<◌, List, [], ◌∷◌, length, map, get_or, option_map, Some, sym, ◌∙◌, ap, subst, arith}
use Prim.Native.Nat.{zero, suc}
use Rattle.std.proofs.Math.ListN.{get_or-map}
use Rattle.bc_image.specs.Cells.{CellList}
use Rattle.bc_image.specs.Images.{AreLinked, IsImageListing, IsLinked, IsListed}
use Rattle.bc_image.specs.Listings.{ListingLists}
use Rattle.bc_image.specs.Memories.{cell_at, cell_of, memory_of}
use Rattle.bc_image.specs.Pictures.{Pictures}
use Rattle.bc_image.proofs.Grammar.{all-at}
use Rattle.bc_image.proofs.Pictured.{listed-holders}
use Rattle.bc_memory.specs.Memory.{Cell, Memory}
use Rattle.bc_model.specs.Consistent.{IsState}
use Rattle.bc_model.specs.State.{State}
use Rattle.bc_model.specs.declared.traces.Setup.{Setup}
use Rattle.bc_model.specs.declared.values.Birth.{Birth}
use Rattle.bc_model.specs.declared.values.Holder.{Holder}
use Rattle.bc_picture.proofs.ListedMemories.{LiesAs, lying-at, lying-is}
use Rattle.bc_standing.specs.Standing.{StandsFor, birth_of, births}
use Rattle.bc_standing.proofs.Homes.{births-cell}
use Rattle.bc_superpages.specs.Layout.{Layout}
use Rattle.bc_superpages.specs.LayoutAt.{IsAllocated}
use Rattle.bc_superpages.specs.Memory as space
use Rattle.bc_superpages.specs.RootWords.{RootWords}
use Rattle.bc_word.specs.Words.{word_of_bits}
use Rattle.bc_word.specs.declared.addresses.Address.{Address}
use Rattle.bc_word.specs.declared.words.Word.{Word}
use Rattle.bc_word.specs.declared.words.Word.TheVariants.{Nil, Ref}
use Rattle.bc_word.proofs.WordLemmas.{word_of_bits-nil}
use Rattle.bc_saving.specs.Built.{IsBuiltOf}
use Rattle.bc_engine.specs.Parts.{CanAdopt, IsLaneBirth, PartsStand}
use Rattle.bc_engine.proofs.Parting.{cell-there}

-- ---- objects of a listing

-- an object that lies in the memory is one of the list
pub lies : (cells : List CellList) (m : Memory) (a : ℕ) (c : Cell) → m ≡ memory_of cells → m a ≡ Some c → LiesAs cells a c
lies cells m a c same there = lying-at cells a c (sym (lying-is cells a) ∙ ap (λ (n : Memory). n a) (sym same) ∙ there)

-- a word that leads to an object leads to an allocated cell
linked-there : (s : Layout) (cells : List CellList) (w : Word) (a : Address) → space.memory s ≡ memory_of cells → IsLinked cells w → w ≡ Ref a → IsAllocated s a.0
linked-there s cells w a same linked is =
    let found : IsLinked cells (Ref a) = subst (IsLinked cells) is linked in
    (cell-there s a.0 (cell_of (cell_at cells found.0)) (ap (λ (m : Memory). m a.0) same ∙ ap (option_map (λ (k : ℕ). cell_of (cell_at cells k))) found.1)).0

bits-linked : (cells : List CellList) (ns : List ℕ) (k : ℕ) → AreLinked cells ns → IsLinked cells (word_of_bits (get_or ns k 0))
bits-linked cells [] k all = subst (IsLinked cells) (sym word_of_bits-nil) tt
bits-linked cells (n ∷ ns) zero all = all.0.1
bits-linked cells (n ∷ ns) (suc k) all = bits-linked cells ns k all.1

words-at : (ns : List ℕ) (k : ℕ) → get_or (map word_of_bits ns) k Nil ≡ word_of_bits (get_or ns k 0)
words-at ns k = ap (λ (w : Word). get_or (map word_of_bits ns) k w) (sym word_of_bits-nil) ∙ get_or-map word_of_bits ns k 0

module _ (l : ListingLists) (r : RootWords) (s : Layout) (is : IsImageListing l) (built : IsBuiltOf l r s) where
  listed : (k : ℕ) → k < length l.cells → IsListed l (cell_at l.cells k)
  listed k lt = all-at (IsListed l) l.cells k lt is.cells

  -- the listed object of a birth
  born-at : (a : ℕ) (b : Birth) → births (space.memory s) a ≡ Some b → (c : Cell) × LiesAs l.cells a c × (birth_of c.head ≡ b)
  born-at a b there = (let c = births-cell (space.memory s) a b there in (c.0, lies l.cells (space.memory s) a c.0 built.objects c.1, c.2))

  pub adopted-built : CanAdopt l.setup l.holders l.births r s
  adopted-built = record {
    range = is.setup;
    domains = is.domains;
    holder = listed-holders l.version l.setup.lanes l.holders is.holders;
    lanes = is.lanes;
    rooted = built.domains;
    slots = built.slots;
    supers = built.supers;
    frames = built.frames;
    nursery = built.nursery;
    used = built.used;
    summarised = built.summarised;
    none_promised = built.calm.promised;
    none_remembered = λ p lt. built.calm.remembered p;
    root = λ k a lt e. linked-there s l.cells (word_of_bits (get_or l.roots k 0)) a built.objects (bits-linked l.cells l.roots k is.roots) (ap (λ (ns : List ℕ). word_of_bits (get_or ns k 0)) (sym built.words) ∙ e);
    field = λ a k c b there e.
        let at = lies l.cells (space.memory s) a c built.objects there in
        let bits = (cell_at l.cells at.index).fields in
        linked-there s l.cells (word_of_bits (get_or bits k 0)) b built.objects (bits-linked l.cells bits k (listed at.index at.within).fields)
        (sym (words-at bits k) ∙ ap (λ (x : Cell). get_or x.fields k Nil) (sym at.is) ∙ e);
    once = λ a x b e f.
        let p = born-at a b e in
        let q = born-at x b f in
        let same : p.1.index ≡ q.1.index = is.apart p.1.index q.1.index p.1.within q.1.within
        (ap (λ (c : Cell). birth_of c.head) (sym p.1.is) ∙ p.2 ∙ sym q.2 ∙ ap (λ (c : Cell). birth_of c.head) q.1.is) in
        sym p.1.at ∙ ap (λ (k : ℕ). (cell_at l.cells k).address) same ∙ q.1.at;
    born = λ a b e.
        let p = born-at a b e in
        let x = listed p.1.index p.1.within in
        let many = is.lanes in
        let birth : birth_of (cell_at l.cells p.1.index).head ≡ b = ap (λ (c : Cell). birth_of c.head) (sym p.1.is) ∙ p.2 in
        subst (IsLaneBirth l.births) birth (record { lane = (let h = x.lane in omega (arith, h, many)); positive = x.positive; serial = x.serial });
  }

  pub stands-built : (state : State) → IsState state → Pictures l state → PartsStand l.setup l.holders l.births r s state
  stands-built state consistent p = record {
    consistent = consistent;
    stands = subst (λ (m : Memory). StandsFor m (map word_of_bits r.words) state) (sym built.objects) (subst (λ (ns : List ℕ). StandsFor (memory_of l.cells) (map word_of_bits ns) state) (sym built.words) p.stands);
    sizes = p.sizes;
    held = sym p.holders;
    made = sym p.births;
  }

  -- the same of copies of the listing's lists
  pub adopted-copied : (setup : Setup) (holders : List Holder) (serials : List ℕ) → setup ≡ l.setup → holders ≡ l.holders → serials ≡ l.births → CanAdopt setup holders serials r s
  adopted-copied setup holders serials sized held born =
      subst (λ (x : Setup). CanAdopt x holders serials r s) (sym sized) (subst (λ (hs : List Holder). CanAdopt l.setup hs serials r s) (sym held) (subst (λ (ns : List ℕ). CanAdopt l.setup l.holders ns r s) (sym born) adopted-built))

  pub stands-copied : (setup : Setup) (holders : List Holder) (serials : List ℕ) → setup ≡ l.setup → holders ≡ l.holders → serials ≡ l.births → (state : State) → IsState state → Pictures l state → PartsStand setup holders serials r s state
  stands-copied setup holders serials sized held born state consistent p =
      subst (λ (x : Setup). PartsStand x holders serials r s state) (sym sized) (subst (λ (hs : List Holder). PartsStand l.setup hs serials r s state) (sym held) (subst (λ (ns : List ℕ). PartsStand l.setup l.holders ns r s state) (sym born) (stands-built state consistent p)))
