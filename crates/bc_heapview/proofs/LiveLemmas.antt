-- The finds are what is live, each once.
use Rattle.std.proofs.Common.{◌≡◌, ◌↔◌, ℕ, ◌+◌, ◌<◌, List, [], ◌∷◌, length, map, get_or, Option, Some, None, refl, sym, ◌∙◌, ap, subst, inl, inr, arith}
use Prim.Native.Nat.{zero, suc}
use Rattle.std.proofs.lemmas.List.{length-map}
use Rattle.std.proofs.Math.ListN.{get_or-map}
use Rattle.bc_word.specs.Words.{word_of_bits}
use Rattle.bc_memory.specs.Memory.{Memory}
use Rattle.bc_reach.specs.Distinct.{Has, Distinct}
use Rattle.bc_reach.proofs.Pushed.{Has-get_or, place_of}
use Rattle.bc_model.specs.State.{State}
use Rattle.bc_model.specs.declared.values.Birth.{Birth}
use Rattle.bc_model.proofs.Needs.{HasPath-reached}
use Rattle.bc_standing.specs.Live.{Live}
use Rattle.bc_standing.specs.Standing.{births, StandsFor}
use Rattle.bc_standing.proofs.Homes.{births-there, one_home, reached_live, live_reached}
use Rattle.bc_image.specs.Cells.{CellList}
use Rattle.bc_image.specs.Listings.{ListingLists}
use Rattle.bc_image.specs.Memories.{number_at, cell_at, cell_of, memory_of}
use Rattle.bc_image.specs.Pictures.{PicturesObjects}
use Rattle.bc_heapview.specs.Finds.{addresses_of}
use Rattle.bc_heapview.specs.Backs.{birth_at, WayLeadsTo}
use Rattle.bc_heapview.specs.Searches.{find_at, FoundBy, IsSearched}
use Rattle.bc_heapview.specs.Ways.{Way, from_slot}
use Rattle.bc_heapview.specs.declared.search.Found.{Found}
use Rattle.bc_heapview.proofs.OrderLemmas.{along}
use Rattle.bc_heapview.proofs.StateLemmas.{value_by-along, way-leads, leads-way, by-reached, leads-back, there-at}

distinct-from_places : (xs : List ℕ) → ((i j : ℕ) → i < length xs → j < length xs → get_or xs i 0 ≡ get_or xs j 0 → i ≡ j) → Distinct xs
distinct-from_places [] apart = tt
distinct-from_places (x ∷ xs) apart = (
  λ h.
      let at = place_of xs x h in
      let lt : at.0 < length xs = at.1 in
      let e : 0 ≡ suc at.0 = apart 0 (suc at.0) (omega arith) (omega arith) (sym at.2) in
      omega arith,
  distinct-from_places xs (λ i j il jl same. let e : suc i ≡ suc j = apart (suc i) (suc j) (omega arith) (omega arith) same in omega arith),
)

address-at : (cells : List CellList) (found : List Found) (k : ℕ) → k < length found → get_or (addresses_of cells found) k 0 ≡ (cell_at cells (find_at found k).node).address
address-at cells [] k lt = absurd (omega arith)
address-at cells (f ∷ fs) zero lt = refl
address-at cells (f ∷ fs) (suc k) lt = address-at cells fs k (omega arith)

module _ (l : ListingLists) (s : State) (found : List Found) (pictures : PicturesObjects l s) (searched : IsSearched l.roots l.cells found) where
  long : length (addresses_of l.cells found) ≡ length found
  long = length-map found (λ (f : Found). (cell_at l.cells f.node).address)

  pub found-back : (k : ℕ) → k < length found → number_at l.cells (cell_at l.cells (find_at found k).node).address ≡ Some (find_at found k).node
  found-back k lt = leads-back l.roots l.cells (searched.ways k) (find_at found k).node (searched.finds.leading k lt)

  pub addresses-distinct : Distinct (addresses_of l.cells found)
  addresses-distinct = distinct-from_places (addresses_of l.cells found) (λ i j il jl same.
      let i_in : i < length found = omega (arith, il, long) in
      let j_in : j < length found = omega (arith, jl, long) in
      let e : (cell_at l.cells (find_at found i).node).address ≡ (cell_at l.cells (find_at found j).node).address = sym (address-at l.cells found i i_in) ∙ same ∙ address-at l.cells found j j_in in
      let n : Some (find_at found i).node ≡ Some (find_at found j).node = sym (found-back i i_in) ∙ ap (number_at l.cells) e ∙ found-back j j_in in
      let m : (find_at found i).node ≡ (find_at found j).node = cc in
      searched.finds.once i j i_in j_in m)

  birth-here : (n : ℕ) → number_at l.cells (cell_at l.cells n).address ≡ Some n → births (memory_of l.cells) (cell_at l.cells n).address ≡ Some (birth_at l.cells n)
  birth-here n e = births-there (memory_of l.cells) (cell_at l.cells n).address (cell_of (cell_at l.cells n)) (there-at l.cells n e)

  pub found-live : (a : ℕ) → Has (addresses_of l.cells found) a → Live (memory_of l.cells) (map word_of_bits l.roots) a
  found-live a h =
      let at = place_of (addresses_of l.cells found) a h in
      let lt : at.0 < length found = omega (arith, at.1, long) in
      let n : ℕ = (find_at found at.0).node in
      let here : (cell_at l.cells n).address ≡ a = sym (address-at l.cells found at.0 lt) ∙ at.2 in
      let b : Birth = birth_at l.cells n in
      let reached = by-reached s.slots s.made (searched.ways at.0) b (leads-way l.roots l.cells s.slots s.made pictures.stands (searched.ways at.0) b (n, searched.finds.leading at.0 lt, refl)) in
      reached_live (memory_of l.cells) (map word_of_bits l.roots) s.slots s.made b a pictures.stands reached (subst (λ (x : ℕ). births (memory_of l.cells) x ≡ Some b) here (birth-here n (found-back at.0 lt)))

  pub live-found : (a : ℕ) → Live (memory_of l.cells) (map word_of_bits l.roots) a → Has (addresses_of l.cells found) a
  live-found a live =
      let m : Memory = memory_of l.cells in
      let is = live_reached m (map word_of_bits l.roots) s.slots s.made a pictures.stands live in
      let b : Birth = is.0 in
      let path = HasPath-reached s.slots s.made b is.1 in
      let w : Way = along (from_slot path.0) path.1 in
      let to : WayLeadsTo l.roots l.cells w b = way-leads l.roots l.cells s.slots s.made pictures.stands w b (value_by-along s.slots s.made (from_slot path.0) path.1 ∙ path.2) in
      let at : FoundBy found searched.ways to.0 w = searched.all w to.0 to.1 in
      let there : births m (cell_at l.cells to.0).address ≡ Some b = birth-here to.0 (leads-back l.roots l.cells w to.0 to.1) ∙ ap Some to.2 in
      let same : (cell_at l.cells to.0).address ≡ a = one_home m (map word_of_bits l.roots) s.slots s.made b (cell_at l.cells to.0).address a pictures.stands is.1 there is.2 in
      let e : get_or (addresses_of l.cells found) at.entry 0 ≡ a = address-at l.cells found at.entry at.within ∙ ap (λ (n : ℕ). (cell_at l.cells n).address) at.node_is ∙ same in
      subst (Has (addresses_of l.cells found)) e (Has-get_or (addresses_of l.cells found) at.entry (omega (arith, at.within, long)))
