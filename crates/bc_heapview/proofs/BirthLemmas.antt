-- The counts of the finds are those of a state that the listing pictures.
use Rattle.std.proofs.Common.{◌≡◌, ℕ, ◌+◌, ◌*◌, ◌^◌, ◌<◌, ◌≤◌, ◌==◌, ◌&&◌, ◌↔◌, get_or, Bool, cond, List, [], ◌∷◌, length, map, Option, Some, None, refl, sym, ap, subst, ◌∙◌, arith}
use Prim.Native.Nat.{zero, suc}
use Rattle.std.specs.List.{count_by, sum_by}
use Rattle.std.proofs.Math.Path.{fun_ext}
use Rattle.std.proofs.lemmas.List.Sums.{sum_by-cons}
use Rattle.bc_classes.specs.Classes.{class_of}
use Rattle.bc_word.specs.Words.{word_of_bits}
use Rattle.bc_word.specs.declared.words.Word.{Word}
use Rattle.bc_reach.specs.Distinct.{Has, Distinct}
use Rattle.bc_reach.proofs.Mapped.{Has-map, Has-from_map, Distinct-map, sum_by-mapped}
use Rattle.bc_memory.specs.Memory.{Cell, Memory}
use Rattle.bc_model.specs.Need.{IsNeed, count_of, is_of, need_of}
use Rattle.bc_model.specs.Reached.{Reached}
use Rattle.bc_model.specs.State.{State, object_of}
use Rattle.bc_model.specs.declared.values.Birth.{Birth}
use Rattle.bc_standing.specs.Counting.{is_cell_of, count_at}
use Rattle.bc_standing.specs.Live.{Live}
use Rattle.bc_standing.specs.Standing.{births, IsHome, StandsFor}
use Rattle.bc_standing.proofs.Homes.{births-home, home_at, one_home, reached_live, live_reached}
use Rattle.bc_image.specs.Cells.{CellList}
use Rattle.bc_image.specs.Listings.{ListingLists}
use Rattle.bc_image.specs.Memories.{number_at, cell_at, memory_of}
use Rattle.bc_image.specs.Pictures.{PicturesObjects}
use Rattle.bc_heapview.specs.Counts.{AreCounts, AreFewCounts, counts_of, superpages_of}
use Rattle.bc_heapview.specs.Finds.{addresses_of}
use Rattle.bc_heapview.specs.Searches.{find_at, IsSearched}
use Rattle.bc_heapview.specs.Tallies.{IsPairTally, is_in_pair, pair_count, tally_at}
use Rattle.bc_heapview.specs.declared.search.Found.{Found}
use Rattle.bc_heapview.specs.declared.tally.Count.{Count}
use Rattle.bc_heapview.proofs.CountLemmas.{counts-few, same-counts, superpages-need}
use Rattle.bc_heapview.proofs.LiveLemmas.{addresses-distinct, found-live, live-found, found-back}
use Rattle.bc_heapview.proofs.StateLemmas.{there-at}

abbrev birth_or : Option Birth → Birth
birth_or None = record { lane = 0; serial = 0 }
birth_or (Some b) = b

abbrev lying : Memory → ℕ → Birth
lying m a = birth_or (births m a)

lying-is : (m : Memory) (a : ℕ) (b : Birth) → births m a ≡ Some b → lying m a ≡ b
lying-is m a b e = ap birth_or e

-- the births of what is live, each once, and how many of them are of each pair
record LiveBirths (m : Memory) (s : State) (xs : List ℕ) : Type 0 where
  born : List Birth
  distinct : Distinct born
  members : (b : Birth) → Has born b ↔ Reached s.slots s.made b
  counts : (d c : ℕ) → count_at m xs d c ≡ count_of s.made born d c

live-births : (m : Memory) (roots : List Word) (s : State) (xs : List ℕ) → StandsFor m roots s → Distinct xs → ((a : ℕ) → Has xs a ↔ Live m roots a) → LiveBirths m s xs
live-births m roots s xs st distinct members = record {
  born = map (lying m) xs;
  distinct = Distinct-map (lying m) xs (λ a x h k e. apart a x ((members a).0 h) ((members x).0 k) e) distinct;
  members = λ b. (λ h. from_list b h, λ r. to_list b r);
  counts = λ d c. sum_by-mapped (lying m) (λ (a : ℕ). cond (is_cell_of d c (m a)) 1 0) (λ (b : Birth). cond (is_of d c (object_of s.made b)) 1 0) xs
      (λ a h. ap (λ t. cond t 1 0) (same_shape d c a ((members a).0 h)));
}
  where
    apart : (a x : ℕ) → Live m roots a → Live m roots x → lying m a ≡ lying m x → a ≡ x
    apart a x la lx e =
        let b = live_reached m roots s.slots s.made a st la in
        let y = live_reached m roots s.slots s.made x st lx in
        let is : y.0 ≡ b.0 = sym (lying-is m x y.0 y.2) ∙ sym e ∙ lying-is m a b.0 b.2 in
        one_home m roots s.slots s.made b.0 a x st b.1 b.2 (y.2 ∙ ap Some is)

    from_list : (b : Birth) → Has (map (lying m) xs) b → Reached s.slots s.made b
    from_list b h =
        let at = Has-from_map (lying m) xs b h in
        let y = live_reached m roots s.slots s.made at.0 st ((members at.0).0 at.1) in
        subst (Reached s.slots s.made) (sym (lying-is m at.0 y.0 y.2) ∙ at.2) y.1

    to_list : (b : Birth) → Reached s.slots s.made b → Has (map (lying m) xs) b
    to_list b r =
        let h = st.home b r in
        let e : births m h.0 ≡ Some b = births-home m b (object_of s.made b) h.0 h.1 h.2 in
        subst (λ (y : Birth). Has (map (lying m) xs) y) (lying-is m h.0 b e)
        (Has-map (lying m) xs h.0 ((members h.0).1 (reached_live m roots s.slots s.made b h.0 st r e)))

    shape : (d c : ℕ) (b : Birth) (a : ℕ) (cell : Cell) → IsHome m b (object_of s.made b) a cell → is_cell_of d c (m a) ≡ is_of d c (object_of s.made b)
    shape d c b a cell h =
        ap (is_cell_of d c) h.there
        ∙ ap (λ (x : ℕ). (x == d) && (class_of cell.head.fields == c)) h.domain
        ∙ ap (λ (x : ℕ). ((object_of s.made b).domain == d) && (class_of x == c)) h.count

    same_shape : (d c a : ℕ) → Live m roots a → is_cell_of d c (m a) ≡ is_of d c (object_of s.made (lying m a))
    same_shape d c a l =
        let y = live_reached m roots s.slots s.made a st l in
        let h = home_at m roots s.slots s.made y.0 a st y.1 y.2 in
        shape d c y.0 a h.0 h.1 ∙ ap (λ (b : Birth). is_of d c (object_of s.made b)) (sym (lying-is m a y.0 y.2))

abbrev one : Bool → ℕ
one b = cond b 1 0

-- finds are counted as their addresses are
pairs-at : (cells : List CellList) (found : List Found) → ((k : ℕ) → k < length found → number_at cells (cell_at cells (find_at found k).node).address ≡ Some (find_at found k).node)
    → (d c : ℕ) → pair_count cells found d c ≡ count_at (memory_of cells) (addresses_of cells found) d c
pairs-at cells [] back d c = refl
pairs-at cells (f ∷ fs) back d c =
    let there = there-at cells f.node (back 0 (omega arith)) in
    let here : one (is_in_pair d c (cell_at cells f.node)) ≡ one (is_cell_of d c (memory_of cells (cell_at cells f.node).address)) = ap (λ (o : Option Cell). one (is_cell_of d c o)) (sym there) in
    let rest = pairs-at cells fs (λ k lt. back (suc k) (omega arith)) d c in
    omega (
      arith,
      here,
      rest,
      sum_by-cons (λ (x : Found). one (is_in_pair d c (cell_at cells x.node))) f fs,
      sum_by-cons (λ (a : ℕ). one (is_cell_of d c (memory_of cells a))) (cell_at cells f.node).address (addresses_of cells fs),
    )

-- what is counted of the finds is counted of the state, and adds up to its need
module _ (l : ListingLists) (s : State) (found : List Found) (pictures : PicturesObjects l s) (searched : IsSearched l.roots l.cells found) where
  living : LiveBirths (memory_of l.cells) s (addresses_of l.cells found)
  living = live-births (memory_of l.cells) (map word_of_bits l.roots) s (addresses_of l.cells found) pictures.stands (addresses-distinct l s found pictures searched)
      (λ a. (found-live l s found pictures searched a, live-found l s found pictures searched a))

  pairs : (d c : ℕ) → pair_count l.cells found d c ≡ count_of s.made living.born d c
  pairs d c = pairs-at l.cells found (found-back l s found pictures searched) d c ∙ living.counts d c

  pub are-counts : (domains : ℕ) (counts : List Count) → domains ≡ length s.holders → counts ≡ counts_of domains (pair_count l.cells found) → AreCounts s counts
  are-counts domains counts sizes is = record {
    births = living.born;
    distinct = living.distinct;
    members = living.members;
    counts_are = is ∙ ap (λ (n : ℕ). counts_of n (pair_count l.cells found)) sizes ∙ same-counts (length s.holders) (pair_count l.cells found) (count_of s.made living.born) (λ d c lt few. pairs d c);
  }

-- the counts of a state add up to its need
pub counts-need : (s : State) (counts : List Count) → AreCounts s counts → IsNeed s (superpages_of counts)
counts-need s counts are = record {
  births = are.births;
  distinct = are.distinct;
  members = are.members;
  need = ap superpages_of are.counts_are ∙ superpages-need (length s.holders) (count_of s.made are.births);
}

-- the counts of a tally of the finds are the state's
pub tally-counts : (l : ListingLists) (s : State) (tally tally2 : List ℕ) (domains : ℕ) (counts : List Count) → PicturesObjects l s → ((found : List Found) × IsSearched l.roots l.cells found × IsPairTally l.cells found tally)
    → tally2 ≡ tally → domains ≡ l.setup.domains → l.setup.domains ≤ 64 → counts ≡ counts_of domains (tally_at tally2) → AreCounts s counts
tally-counts l s tally tally2 domains counts pictures (found, searched, is) same sizes few counts_is =
    are-counts l s found pictures searched domains counts (sizes ∙ sym pictures.sizes.domains)
    (counts_is ∙ ap (λ (t : List ℕ). counts_of domains (tally_at t)) same ∙ same-counts domains (tally_at tally) (pair_count l.cells found) (λ d c lt small. is d c (omega (arith, lt, sizes, few)) small))

pub few-counts : (tally tally2 : List ℕ) (domains : ℕ) (counts : List Count) → tally2 ≡ tally → domains ≤ 64 → ((i : ℕ) → get_or tally i 0 < 2 ^ 32) → counts ≡ counts_of domains (tally_at tally2) → AreFewCounts counts
few-counts tally tally2 domains counts same few small is =
    subst AreFewCounts (sym (is ∙ ap (λ (t : List ℕ). counts_of domains (tally_at t)) same)) (counts-few domains (tally_at tally) few (λ d c. small (129 * d + c)))

-- a tally of what a search found is one of the listing's
pub searched-tally : (l : ListingLists) (roots : List ℕ) (cells cells2 : List CellList) (found found2 : List Found) (tally : List ℕ) → roots ≡ l.roots → cells ≡ l.cells → cells2 ≡ l.cells → found2 ≡ found
    → IsSearched roots cells found → IsPairTally cells2 found2 tally → (f : List Found) × IsSearched l.roots l.cells f × IsPairTally l.cells f tally
searched-tally l roots cells cells2 found found2 tally r c c2 f searched is = (
  found,
  subst (λ (x : List ℕ). IsSearched x l.cells found) r (subst (λ (x : List CellList). IsSearched roots x found) c searched),
  subst (λ (x : List Found). IsPairTally l.cells x tally) f (subst (λ (x : List CellList). IsPairTally x found2 tally) c2 is),
)
