-- A heap that is built of a listing: before its first object, after the last one, and what is listed of it.
use Rattle.std.proofs.Common.{◌≡◌, ℕ, ◌+◌, ◌*◌, ◌/◌, ◌%◌, ◌<◌, ◌≤◌, true, false, List, [], length, map, get_or, replicate, slice_index, slice_index_or, Some, None, refl, sym, ap, ap₂, subst, ◌∙◌, arith}
use Prim.Native.Nat.{zero, suc}
use Rattle.std.specs.Option.{is_some}
use Rattle.std.proofs.Math.Path.{fun_ext}
use Rattle.std.proofs.lemmas.List.{length-map, length-replicate, drop_all}
use Rattle.bc_bits.specs.Bits.{has}
use Rattle.bc_bits.proofs.BitLemmas.{has-none, has-zeros}
use Rattle.bc_bookmarks.proofs.SoundLemmas.{no_cells, no_gone}
use Rattle.bc_bookmarks.proofs.SummaryLemmas.{SummarisedOn-none}
use Rattle.bc_bookmarks.specs.Summarised.{IsSummarised, gone_in}
use Rattle.bc_memory.specs.Memory.{Memory}
use Rattle.bc_superpages.specs.declared.headers.Header.{Header}
use Rattle.bc_superpages.specs.declared.headers.PageState.TheVariants.{Absent, Remembered}
use Rattle.bc_superpages.specs.Calls.{new_space}
use Rattle.bc_superpages.specs.Headers.{unused_header}
use Rattle.bc_superpages.specs.Layout.{Layout, superpages, set_of}
use Rattle.bc_superpages.specs.LayoutAt.{state_at}
use Rattle.bc_superpages.specs.Memory.{memory}
use Rattle.bc_superpages.specs.RootWords.{RootWords}
use Rattle.bc_superpages.proofs.MemoryLemmas.{memory_of-none}
use Rattle.bc_superpages.proofs.PromiseLemmas.{no_cell}
use Rattle.bc_word.specs.Addresses.{superpage_of}
use Rattle.bc_image.specs.Cells.{CellList}
use Rattle.bc_image.specs.Images.{IsImageListing, IsListed}
use Rattle.bc_image.specs.Listings.{ListingLists}
use Rattle.bc_image.specs.Memories.{cell_at, memory_of}
use Rattle.bc_image.proofs.Grammar.{all-at}
use Rattle.bc_picture.specs.Building.{ArePlaceable, PromisesFirst, IsPlacing, IsBuiltIn}
use Rattle.bc_picture.specs.SpaceListing.{heap_listing, listed_cells}
use Rattle.bc_picture.proofs.ListedBack.{listed-back}
use Rattle.bc_picture.proofs.ListedMemories.{lying-is, take-whole}
use Rattle.bc_picture.proofs.PlacedCells.{Same}

-- the objects of a listing can be placed
pub placeable : (l : ListingLists) → IsImageListing l → ArePlaceable l.setup.superpages l.cells
placeable l is = record {
  few = is.setup.superpages.1;
  each = λ k lt. (let c = all-at (IsListed l) l.cells k lt is.cells in record { superpage = c.superpage; start = c.start; head = c.head; fields_long = c.count; fields = c.fields });
  rising = is.rising;
  alike = is.alike;
}

-- a new space, with its own numbers
pub new-own : (s : Layout) (n frames nursery : ℕ) → s ≡ new_space n frames nursery → (superpages s ≡ n) × (s ≡ new_space (superpages s) s.frames s.nursery)
new-own s n frames nursery is = (long, is ∙ ap (λ (k : ℕ). new_space k frames nursery) (sym long) ∙ ap (λ (l : Layout). new_space (superpages s) l.frames l.nursery) (sym is))
  where
    long : superpages s ≡ n
    long = ap superpages is ∙ length-map (replicate n unused_header) (λ (h : Header). h.used) ∙ length-replicate n unused_header

-- ---- before the first object

none_absent : (n k : ℕ) → get_or (replicate n Absent) k Absent ≡ Absent
none_absent zero k = refl
none_absent (suc n) zero = refl
none_absent (suc n) (suc k) = none_absent n k

all_absent : (n q k : ℕ) → get_or (get_or (map (λ (h : Header). h.pages) (replicate n unused_header)) q []) k Absent ≡ Absent
all_absent zero q k = refl
all_absent (suc n) zero k = none_absent 4 k
all_absent (suc n) (suc q) k = all_absent n q k

no_bookmarks : (n q b : ℕ) → has (get_or (map (λ (h : Header). h.bookmarks) (replicate n unused_header)) q []) b ≡ false
no_bookmarks zero q b = has-none [] b (λ k lt. absurd (omega arith))
no_bookmarks (suc n) zero b = has-zeros 16 b
no_bookmarks (suc n) (suc q) b = no_bookmarks n q b

no_counts : (n q : ℕ) → get_or (map (λ (h : Header). h.incoming) (replicate n unused_header)) q 0 ≡ 0
no_counts zero q = refl
no_counts (suc n) zero = refl
no_counts (suc n) (suc q) = no_counts n q

module _ (s t : Layout) (cells : List CellList) (new : s ≡ new_space (superpages s) s.frames s.nursery) (h : PromisesFirst s cells (length cells) t) where
  cells_none : (q b : ℕ) → has (set_of t.cells q) b ≡ false
  cells_none q b =
      ap (λ (l : Layout). has (set_of l.cells q) b) h.same
      ∙ subst (λ (l : Layout). has (set_of l.cells q) b ≡ false) (sym new) (no_cells (superpages s) q b)

  memory_none : (a : ℕ) → memory t a ≡ None
  memory_none a = memory_of-none t.classes t.cells t.pages a (no_cell t.classes t.cells a (λ b. cells_none (superpage_of a) b))

  absent : (p : ℕ) → state_at t.states p ≡ Absent
  absent p =
      ap (λ (l : Layout). state_at l.states p) h.same
      ∙ subst (λ (l : Layout). state_at l.states p ≡ Absent) (sym new) (all_absent (superpages s) (p / 4) (p % 4))

  summarised_none : IsSummarised t
  summarised_none = SummarisedOn-none t (gone_in t)
      (λ p lt. ap (λ (l : Layout). gone_in l p) h.same ∙ subst (λ (l : Layout). gone_in l p ≡ false) (sym new) (no_gone (superpages s) (p / 4) (p % 4)))
      (λ q b lt. ap (λ (l : Layout). has (set_of l.bookmarks q) b) h.same ∙ subst (λ (l : Layout). has (set_of l.bookmarks q) b ≡ false) (sym new) (no_bookmarks (superpages s) q b))
      (λ q lt. ap (λ (l : Layout). slice_index l.incoming q) h.same ∙ subst (λ (l : Layout). slice_index l.incoming q ≡ 0) (sym new) (no_counts (superpages s) q))

  pub placing-none : s.nursery + 1 ≤ s.frames → IsPlacing cells 0 t
  placing-none frames = record {
    memory = fun_ext (λ a. memory_none a);
    promised = λ x. h.promised x ∙ ap (λ (cs : List CellList). is_some (memory_of cs x)) (take-whole cells);
    pair = λ k lt. h.pair k lt lt;
    calm = λ p e. (let bad : Absent ≡ Remembered = sym (absent p) ∙ e in cc);
    summarised = summarised_none;
    frames = subst (λ (l : Layout). l.nursery + 1 ≤ l.frames) (sym h.same) frames;
    ahead = λ p _. absent p;
    last = λ k e. absurd (omega arith);
    closed = λ a c there. absurd (let bad : None ≡ Some c = sym (memory_none a) ∙ there in cc);
  }

-- ---- after the last one

pub built-whole : (l : ListingLists) (s t u : Layout) → s ≡ new_space l.setup.superpages l.setup.frames (l.setup.lanes * l.setup.nursery) → superpages s ≡ l.setup.superpages
    → PromisesFirst s l.cells (length l.cells) t → IsPlacing l.cells (length l.cells) u → Same t u → IsBuiltIn l u
built-whole l s t u new long h p same = record {
  same = same
      ∙ ap (λ (m : Layout). record m { cells = u.cells; promised = u.promised; bookmarks = u.bookmarks; incoming = u.incoming; states = u.states; pages = u.pages; free = u.free }) h.same
      ∙ ap (λ (m : Layout). record m { used = t.used; domains = t.domains; classes = t.classes; cells = u.cells; promised = u.promised; bookmarks = u.bookmarks; incoming = u.incoming; states = u.states; pages = u.pages; free = u.free }) new
      ∙ ap (λ (m : Layout). record (new_space l.setup.superpages l.setup.frames (l.setup.lanes * l.setup.nursery)) { used = m.used; domains = m.domains; classes = m.classes; cells = u.cells; promised = u.promised; bookmarks = u.bookmarks; incoming = u.incoming; states = u.states; pages = u.pages; free = u.free }) (sym same);
  long = ap superpages same ∙ h.long ∙ long;
  memory = p.memory ∙ ap memory_of (take-whole l.cells);
  promised = λ x. p.promised x ∙ ap (λ (cs : List CellList). is_some (memory_of cs x)) (drop_all (length l.cells) l.cells (omega arith));
  calm = p.calm;
  summarised = p.summarised;
  closed = p.closed;
  pairs = p.pair;
  used = λ q on. (let old = h.used q (sym (ap (λ (m : Layout). slice_index_or m.used q false) same) ∙ on) in (old.0, old.2, old.3));
}

-- ---- what is known of it

pub built-listed : (l : ListingLists) (s : Layout) → IsImageListing l → IsBuiltIn l s → listed_cells s ≡ l.cells
built-listed l s is b =
    listed-back (2048 * superpages s) 0 l.cells (memory s) is.rising
    (λ k lt. let place = (all-at (IsListed l) l.cells k lt is.cells).superpage in let long = b.long in (omega arith, omega arith))
    (λ y _. ap (λ (m : Memory). m y) b.memory ∙ lying-is l.cells y)

pub built-listing : (l : ListingLists) (r : RootWords) (s : Layout) → IsImageListing l → r.words ≡ l.roots → IsBuiltIn l s → heap_listing l.version l.setup l.phases l.holders l.births r s ≡ l
built-listing l r s is words b =
    ap₂ (λ (ns : List ℕ) (cs : List CellList). (let m : ListingLists = record { version = l.version; setup = l.setup; phases = l.phases; holders = l.holders; births = l.births; roots = ns; cells = cs } in m)) words (built-listed l s is b)

pub built-domains : (l : ListingLists) (s : Layout) → IsImageListing l → IsBuiltIn l s → (q : ℕ) → slice_index_or s.used q false ≡ true → slice_index s.domains q < l.setup.domains
built-domains l s is b q on =
    let u = b.used q on in
    let c = all-at (IsListed l) l.cells u.0 u.1 is.cells in
    let e : slice_index s.domains q ≡ (cell_at l.cells u.0).head.domain = ap (slice_index s.domains) (sym u.2) ∙ (b.pairs u.0 u.1).of_domain in
    let lt = c.domain in
    omega arith
