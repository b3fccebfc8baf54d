-- The way of a find is the least way to its object.
use Rattle.std.proofs.Common.{◌≡◌, ◌⊎◌, ℕ, ◌+◌, ◌*◌, ◌/◌, ◌%◌, ◌<◌, ◌≤◌, List, [], ◌∷◌, length, map, get_or, Option, Some, None, refl, sym, ◌∙◌, ap, subst, inl, inr, arith}
use Rattle.std.proofs.Math.Nat.{mod-lt}
use Rattle.bc_model.specs.Paths.{value_along}
use Rattle.bc_model.specs.Reached.{Reached}
use Rattle.bc_model.specs.State.{State, Object, place_of}
use Rattle.bc_model.specs.declared.values.Birth.{Birth}
use Rattle.bc_model.specs.declared.values.Slot.{Slot}
use Rattle.bc_model.specs.declared.values.Value.{Value}
use Rattle.bc_model.specs.declared.values.Value.TheVariants.{Nil, Obj}
use Rattle.bc_model.proofs.Needs.{HasPath-reached}
use Rattle.bc_image.specs.Cells.{CellList}
use Rattle.bc_image.specs.Listings.{ListingLists}
use Rattle.bc_image.specs.Pictures.{PicturesObjects}
use Rattle.bc_heapview.specs.Answers.{IsWay, IsLeastWay, IsPathTo, NoWay, fields_of, TellBirths}
use Rattle.bc_heapview.specs.Backs.{birth_at, go_on, WayLeadsTo, AreSteps, IsWayBack, HasNoFind, IsFoundAt}
use Rattle.bc_heapview.specs.PathLists.{PathList}
use Rattle.bc_heapview.specs.Searches.{find_at, FoundBy, IsSearched}
use Rattle.bc_heapview.specs.Targets.{leads}
use Rattle.bc_heapview.specs.Ways.{Way, from_slot, by_field, AtMost}
use Rattle.bc_heapview.specs.declared.search.Found.{Found}
use Rattle.bc_heapview.specs.declared.steps.Step.{Step}
use Rattle.bc_heapview.proofs.OrderLemmas.{along, along-steps, least-shortest, least-earliest}
use Rattle.bc_heapview.proofs.StateLemmas.{value_by, value_by-along, way-leads, leads-way, one-number, tell-births}

-- what isn't found is not reached
pub none-reached : (l : ListingLists) (s : State) (b : Birth) (found : List Found) → PicturesObjects l s → IsSearched l.roots l.cells found → HasNoFind found l.cells b → NoWay s b
none-reached l s b found pictures searched none reached =
    let path = HasPath-reached s.slots s.made b reached in
    let w : Way = along (from_slot path.0) path.1 in
    let to : WayLeadsTo l.roots l.cells w b = way-leads l.roots l.cells s.slots s.made pictures.stands w b (value_by-along s.slots s.made (from_slot path.0) path.1 ∙ path.2) in
    let at : FoundBy found searched.ways to.0 w = searched.all w to.0 to.1 in
    none at.entry at.within (ap (birth_at l.cells) at.node_is ∙ to.2)

-- the way of a find comes after no other way to its object
module _ (l : ListingLists) (s : State) (b : Birth) (found : List Found) (pictures : PicturesObjects l s) (searched : IsSearched l.roots l.cells found) (entry : ℕ) (is : IsFoundAt found l.cells b entry) where
  pub find-least : (p : ℕ) (fs : List ℕ) → IsWay s b p fs → AtMost (searched.ways entry) (along (from_slot p) fs)
  find-least p fs way =
      let w : Way = along (from_slot p) fs in
      let to : WayLeadsTo l.roots l.cells w b = way-leads l.roots l.cells s.slots s.made pictures.stands w b (value_by-along s.slots s.made (from_slot p) fs ∙ way) in
      let at : FoundBy found searched.ways to.0 w = searched.all w to.0 to.1 in
      let same : (find_at found at.entry).node ≡ (find_at found entry).node = at.node_is ∙ one-number l.roots l.cells s.slots s.made pictures.stands w (searched.ways entry) b to.0 (find_at found entry).node to.1 to.2 (searched.finds.leading entry is.0) is.1 in
      let e : at.entry ≡ entry = searched.finds.once at.entry entry at.within is.0 same in
      subst (λ (k : ℕ). AtMost (searched.ways k) w) e at.least

  pub path-to : (root : Slot) (first : Birth) (steps : List Step) → root.slot < s.width → IsWayBack l.roots l.cells searched.ways entry (place_of s.width root) first steps → IsPathTo s b (record { root = root; first = first; steps = steps })
  path-to root first steps within back =
      let place : ℕ = place_of s.width root in
      let way : along (from_slot place) (fields_of steps) ≡ searched.ways entry = sym (along-steps (from_slot place) steps) ∙ back.way in
      let least : (q : ℕ) → (fs : List ℕ) → IsWay s b q fs → AtMost (along (from_slot place) (fields_of steps)) (along (from_slot q) fs) = λ q fs h. subst (λ (w : Way). AtMost w (along (from_slot q) fs)) (sym way) (find-least q fs h) in
      let here : WayLeadsTo l.roots l.cells (searched.ways entry) b = ((find_at found entry).node, searched.finds.leading entry is.0, is.1) in
      let begins : get_or s.slots place Nil ≡ Obj first = leads-way l.roots l.cells s.slots s.made pictures.stands (from_slot place) first back.begins in
      record {
        least = record {
          leads = sym (value_by-along s.slots s.made (from_slot place) (fields_of steps)) ∙ leads-way l.roots l.cells s.slots s.made pictures.stands (along (from_slot place) (fields_of steps)) b (subst (λ (w : Way). WayLeadsTo l.roots l.cells w b) (sym way) here);
          shortest = λ q fs h. least-shortest q place fs (fields_of steps) (least q fs h);
          earliest = λ q fs h same. least-earliest q place fs (fields_of steps) (least q fs h) same;
        };
        slot = within;
        first = begins;
        births = tell-births l.roots l.cells s.slots s.made pictures.stands (from_slot place) first steps begins back.births;
      }

-- the answers, said of what the calls were given
pub answer-none : (l : ListingLists) (b : Birth) (roots : List ℕ) (cells cells2 : List CellList) (found found2 : List Found) → roots ≡ l.roots → cells ≡ l.cells → cells2 ≡ l.cells → found2 ≡ found → IsSearched roots cells found → HasNoFind found2 cells2 b → (s : State) → PicturesObjects l s → NoWay s b
answer-none l b roots cells cells2 found found2 r c c2 f searched none s pictures =
    let here : IsSearched l.roots l.cells found = subst (λ (x : List ℕ). IsSearched x l.cells found) r (subst (λ (x : List CellList). IsSearched roots x found) c searched) in
    let off : HasNoFind found l.cells b = subst (λ (x : List Found). HasNoFind x l.cells b) f (subst (λ (x : List CellList). HasNoFind found2 x b) c2 none) in
    none-reached l s b found pictures here off

pub answer-some : (l : ListingLists) (b : Birth) (roots : List ℕ) (cells cells2 cells3 : List CellList) (found found2 found3 : List Found) (entry place slots : ℕ) (first : Birth) (steps : List Step) → roots ≡ l.roots → cells ≡ l.cells → cells2 ≡ l.cells → cells3 ≡ l.cells → found2 ≡ found → found3 ≡ found → slots ≡ l.setup.slots → 0 < slots → IsSearched roots cells found → IsFoundAt found2 cells2 b entry → ((rs : List ℕ) → (x : IsSearched rs cells3 found3) → IsWayBack rs cells3 x.ways entry place first steps) → (s : State) → PicturesObjects l s → IsPathTo s b (record { root = record { domain = place / slots; slot = place % slots }; first = first; steps = steps })
answer-some l b roots cells cells2 cells3 found found2 found3 entry place slots first steps r c c2 c3 f2 f3 same_slots positive searched is way s pictures =
    let here : IsSearched l.roots l.cells found = subst (λ (x : List ℕ). IsSearched x l.cells found) r (subst (λ (x : List CellList). IsSearched roots x found) c searched) in
    let at : IsFoundAt found l.cells b entry = subst (λ (x : List Found). IsFoundAt x l.cells b entry) f2 (subst (λ (x : List CellList). IsFoundAt found2 x b entry) c2 is) in
    let back = subst (λ (fs : List Found). (rs : List ℕ) → (x : IsSearched rs l.cells fs) → IsWayBack rs l.cells x.ways entry place first steps) f3 (subst (λ (cs : List CellList). (rs : List ℕ) → (x : IsSearched rs cs found3) → IsWayBack rs cs x.ways entry place first steps) c3 way) l.roots here in
    let width : s.width ≡ slots = pictures.sizes.slots ∙ sym same_slots in
    let placed : slots * (place / slots) + place % slots ≡ place = omega arith in
    let root-is : place_of s.width (record { domain = place / slots; slot = place % slots }) ≡ place = ap (λ (w : ℕ). w * (place / slots) + place % slots) width ∙ placed in
    let within : place % slots < s.width = let lt = mod-lt place positive in omega (arith, lt, width) in
    path-to l s b found pictures here entry at (record { domain = place / slots; slot = place % slots }) first steps within (subst (λ (n : ℕ). IsWayBack l.roots l.cells here.ways entry n first steps) (sym root-is) back)
