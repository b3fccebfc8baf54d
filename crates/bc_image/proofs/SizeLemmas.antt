-- The most bytes of an image.
use Rattle.std.proofs.Common.{◌≡◌, ℕ, ◌+◌, ◌*◌, ◌≤◌, List, [], ◌∷◌, ◌++◌, length, map, refl, ◌∙◌, ap, arith}
use Prim.Native.Nat.{zero, suc}
use Rattle.std.specs.List.{flat_map}
use Rattle.std.proofs.lemmas.List.{length-map, length-append}
use Rattle.std.proofs.Math.Nat.{mul-le-mul}
use Rattle.bc_classes.specs.Classes.{class_of}
use Rattle.bc_classes.specs.ClassNumbers.{IsClass}
use Rattle.bc_classes.proofs.ClassLemmas.{class_of-class, class_of-holds}
use Rattle.bc_model.specs.State.{numbers_below}
use Rattle.bc_image.specs.Cells.{CellList}
use Rattle.bc_image.specs.ImageSizes.{most_image_bytes}
use Rattle.bc_image.specs.Images.{cell_items, group_items, superpage_items, holder_number, image_items, image_bytes, IsImageListing}
use Rattle.bc_image.specs.Listings.{ListingLists}
use Rattle.bc_image.proofs.Superpages.{number_of, AreObjects, IsGroup, cell-ends}
use Rattle.bc_image.proofs.Chains.{Chain, split, flat-page, numbers_from, numbers-from}
use Rattle.bc_image.proofs.Grammar.{chain-of}
use Rattle.bc_image.proofs.Law.{image-length}

module _ (cells : List CellList) (l : ListingLists) where
  -- an object has three items at most for two words that it takes
  cells-few : (group : List CellList) (q c dom least : ℕ) (born : List ℕ) → IsClass c → least ≤ 2048 * (q + 1) → AreObjects cells l q c dom least born group → 2 * length (flat_map cell_items group) + 3 * least ≤ 6144 * (q + 1)
  cells-few [] q c dom least born k le ok = omega arith
  cells-few (x ∷ xs) q c dom least born k le ok =
      let end = cell-ends cells l x.address c q k ok.0.page ok.0.start in
      let rest = cells-few xs q c dom (x.address + c) (born ++ number_of x ∷ []) k end ok.2 in
      let low = ok.0.least_is in
      let bits = ok.0.head.fields in
      let holds = class_of-holds x.head.fields (omega arith) in
      let class : class_of x.head.fields ≡ c = ok.0.class in
      let two : 2 ≤ c = least-class c k in
      let count : length x.fields ≡ x.head.fields = ok.0.count in
      let long : length (flat_map cell_items (x ∷ xs)) ≡ length (cell_items x) + length (flat_map cell_items xs) = length-append (cell_items x) (flat_map cell_items xs) in
      (let own : length (cell_items x) ≡ 2 + length x.fields = omega arith in omega (arith, long, own, count, class, holds, two, rest, low))
    where
      least-class : (c : ℕ) → IsClass c → 2 ≤ c
      least-class c k = grind arith

  group-few : (group : List CellList) (q : ℕ) (born : List ℕ) → IsGroup cells l q born group → length (group_items group) ≤ 3074
  group-few [] q born ok = omega arith
  group-few (x ∷ xs) q born ok =
      let few = cells-few (x ∷ xs) q (class_of x.head.fields) x.head.domain (2048 * q) born (class_of-class x.head.fields) (omega arith) ok.1 in
      omega arith

  pages-few : (n q : ℕ) (all : List CellList) (born : List ℕ) → Chain cells l (2048 * q) born all → length (flat_map (superpage_items all) (numbers_from q n)) ≤ 3074 * n
  pages-few zero q all born chain = omega arith
  pages-few (suc n) q all born chain =
      let s = split cells l all q born chain in
      let parts : length (flat_map (superpage_items all) (numbers_from q (suc n))) ≡ length (group_items s.group) + length (flat_map (superpage_items s.rest) (numbers_from (q + 1) n)) =
      ap (λ (ys : List CellList). length (flat_map (superpage_items ys) (numbers_from q (suc n)))) s.is ∙ ap length (flat-page cells l n q s.group s.rest born s.ok s.more) ∙ length-append (group_items s.group) (flat_map (superpage_items s.rest) (numbers_from (q + 1) n)) in
      let here = group-few s.group q born s.ok in
      let rest = pages-few n (q + 1) s.rest _ s.more in
      omega arith

items-few : (l : ListingLists) → IsImageListing l → length (image_items l) ≤ 12607578
items-few l is =
    let hn : List ℕ = map (holder_number l.setup.lanes) l.holders in
    let pages : List ℕ = flat_map (superpage_items l.cells) (numbers_below l.setup.superpages) in
    let few : length pages ≤ 3074 * l.setup.superpages = rw (numbers-from l.setup.superpages) (pages-few l.cells l l.setup.superpages 0 l.cells [] (chain-of l is)) in
    let holders : length hn ≡ l.setup.domains = length-map l.holders (holder_number l.setup.lanes) ∙ is.domains in
    let domains = is.setup.domains.1 in
    let lanes = is.setup.lanes.1 in
    let supers = is.setup.superpages.1 in
    let births = is.lanes in
    let slots : length l.roots ≤ 64 * 256 = rw (is.slots) (mul-le-mul is.setup.domains.1 is.setup.slots.1) in
    let parts : length (hn ++ l.births ++ l.roots ++ pages) ≡ length hn + length l.births + length l.roots + length pages = simp (length-append) refl in
    omega (arith, few, holders, domains, lanes, supers, births, slots, parts)

pub image-few : (l : ListingLists) → IsImageListing l → length (image_bytes l) ≤ most_image_bytes
image-few l is = let long = image-length l in let few = items-few l is in omega arith
