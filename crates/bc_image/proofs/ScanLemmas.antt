-- From what was read to the listing.
use Rattle.std.proofs.Common.{◌≡◌, ℕ, ◌+◌, ◌*◌, ◌/◌, ◌<◌, ◌≤◌, ◌&&◌, Bool, true, false, if◌then◌else◌, List, length, get_or, drop, Option, Some, None, Ok, Err, refl, inl, option_map, sym, ◌∙◌, ap, subst, arith, Fits, w8}
use Prim.Native.Nat.{zero, suc}
use Rattle.bc_word.specs.Words.{word_of_bits}
use Rattle.bc_image.specs.Bytes.{item_at}
use Rattle.bc_image.specs.Cells.{CellList}
use Rattle.bc_image.specs.Drafts.{ImageDraft, empty_draft, ShowsLists}
use Rattle.bc_image.specs.Faults.{is_word, leads_nowhere, linking, listing_of, fault_of, IsFault, IsImageFaultOrMemory}
use Rattle.bc_image.specs.Images.{ImageOf, image_bytes, image_items}
use Rattle.bc_image.specs.Items.{advanced, first_progress}
use Rattle.bc_image.specs.Listings.{ListingLists}
use Rattle.bc_image.specs.Reading.{items_of_all, fault_at, GivesItems}
use Rattle.bc_image.specs.declared.fault.ImageCause.TheVariants.{Link}
use Rattle.bc_image.specs.declared.draft.Draft.{Draft}
use Rattle.bc_image.specs.declared.fault.ImageFault.{ImageFault}
use Rattle.bc_image.specs.declared.fault.ReadImage.{ReadImage}
use Rattle.bc_image.specs.declared.fault.ReadImage.TheVariants.{Fault, NoMemory}
use Rattle.bc_image.specs.declared.progress.Progress.{Progress}
use Rattle.bc_image.proofs.Running.{reading-runs, item-small, ok-parts}
use Rattle.bc_image.proofs.Law.{law-read, law-image, image-length}

-- a fault of a link is an item's that was read
link-below : (bytes : List ℕ) (cells : List CellList) (left : ℕ) (p : Progress) (number k : ℕ) → linking bytes cells p number left ≡ Some k → k < number + left
unfolding linking
link-below bytes cells zero p number k h = absurd (let c : None ≡ Some k = h in cc)
link-below bytes cells (suc left) p number k h =
    by (is_word p.stage && leads_nowhere cells (word_of_bits (item_at bytes number))) (linking bytes cells (advanced p (item_at bytes number)) (number + 1) left) h (link-below bytes cells left (advanced p (item_at bytes number)) (number + 1) k)
  where
    by : (t : Bool) (o : Option ℕ) → (if t then Some number else o) ≡ Some k → (o ≡ Some k → k < number + 1 + left) → k < number + suc left
    by true o e f = (let same : number ≡ k = (let c : Some number ≡ Some k = e in cc) in omega arith)
    by false o e f = (let g = f e in omega arith)

none-image : (bytes : List ℕ) (f : ImageFault) → items_of_all bytes ≡ Err f → (l : ListingLists) (rest : List ℕ) → ImageOf bytes l rest → ⊥
none-image bytes f e l rest is = let r = law-image bytes l rest is in (let c : Err f ≡ Ok (r.draft, length (image_items l)) = sym e ∙ r.read in absurd cc)

-- a failure of the reader, where there is an image, is out of memory
pub gives-memory : (bytes : List ℕ) (e : ReadImage) → GivesItems (Err e) (items_of_all bytes) → (l : ListingLists) (rest : List ℕ) → ImageOf bytes l rest → e ≡ NoMemory
gives-memory bytes (Fault f) g l rest is = absurd (none-image bytes f g l rest is)
gives-memory bytes NoMemory g l rest is = refl

module _ (bytes : List ℕ) (fits : (i : ℕ) → Fits w8 (get_or bytes i 0)) (draft : Draft) (count : ℕ) (gives : (d : ImageDraft) × ShowsLists draft d × (items_of_all bytes ≡ Ok (d, count))) (xs : List CellList) (same : xs ≡ draft.cells.items) where
  small : (i : ℕ) → get_or bytes i 0 < 256
  small i = let h = fits i in omega arith

  abbrev pub listing : ListingLists
  listing = record { version = draft.progress.version; setup = draft.progress.setup; phases = draft.progress.phases; holders = draft.holders.items; births = draft.births.items; roots = draft.roots.items; cells = draft.cells.items }

  shown : record { version = draft.progress.version; setup = draft.progress.setup; phases = draft.progress.phases; holders = draft.holders.items; births = draft.births.items; roots = draft.roots.items; cells = draft.cells.items } ≡ listing_of gives.0
  shown =
      let s = gives.1 in
      rw (s.progress, s.holders, s.births, s.roots, s.cells) refl

  links : (o : Option ℕ) → o ≡ linking bytes xs first_progress 0 count → o ≡ linking bytes gives.0.cells first_progress 0 count
  links o e = e ∙ ap (λ (ys : List CellList). linking bytes ys first_progress 0 count) (same ∙ gives.1.cells)

  pub scan-count : 8 * count ≤ length bytes
  scan-count =
      let r = reading-runs bytes gives.0.cells (item-small bytes small) (length bytes / 8) empty_draft 0 gives.0 count gives.2 in
      let e = r.end_is in
      let w = r.within in
      omega arith

  pub scan-number : (number : ℕ) → Some number ≡ linking bytes xs first_progress 0 count → 8 * number ≤ length bytes
  scan-number number e = let lt = link-below bytes xs count first_progress 0 number (sym e) in let c = scan-count in omega arith

  pub scan-found : None ≡ linking bytes xs first_progress 0 count → (8 * count ≤ length bytes) × ImageOf bytes listing (drop (8 * count) bytes)
  scan-found e =
      let r = law-read bytes small gives.0 count gives.2 (sym (links None e)) in
      (r.0, subst (λ (l : ListingLists). ImageOf bytes l (drop (8 * count) bytes)) (sym shown) r.1)

  pub scan-listed : (l : ListingLists) (rest : List ℕ) → ImageOf bytes l rest → (listing ≡ l) × (8 * count ≡ length (image_bytes l))
  scan-listed l rest is =
      let r = law-image bytes l rest is in
      let parts = ok-parts r.draft gives.0 (length (image_items l)) count (sym r.read ∙ gives.2) in
      (shown ∙ ap listing_of (sym parts.0) ∙ r.lists, ap (λ (n : ℕ). 8 * n) (sym parts.1) ∙ sym (image-length l))

  pub scan-link : (number : ℕ) → Some number ≡ linking bytes xs first_progress 0 count → (l : ListingLists) (rest : List ℕ) → ImageOf bytes l rest → ⊥
  scan-link number e l rest is =
      let r = law-image bytes l rest is in
      let parts = ok-parts r.draft gives.0 (length (image_items l)) count (sym r.read ∙ gives.2) in
      let none : linking bytes gives.0.cells first_progress 0 count ≡ None = subst (λ (n : ℕ). linking bytes gives.0.cells first_progress 0 n ≡ None) parts.1 (subst (λ (d : ImageDraft). linking bytes d.cells first_progress 0 (length (image_items l)) ≡ None) parts.0 r.links) in
      (let c : Some number ≡ None = links (Some number) e ∙ none in absurd cc)

  -- a word that leads nowhere is the first fault of items that pass, and there is no other
  pub scan-outcome : (o : Option ℕ) → o ≡ linking bytes xs first_progress 0 count → fault_of bytes (items_of_all bytes) ≡ option_map (λ (n : ℕ). fault_at n Link) o
  scan-outcome (Some n) e = rw gives.2 (rw (sym (links (Some n) e)) refl)
  scan-outcome None e = rw gives.2 (rw (sym (links None e)) refl)

  pub scan-fault : (number : ℕ) → Some number ≡ linking bytes xs first_progress 0 count → IsFault bytes (fault_at number Link)
  scan-fault number e = scan-outcome (Some number) e

  pub scan-faulty : (number : ℕ) → Some number ≡ linking bytes xs first_progress 0 count → (f : ImageFault) → IsFault bytes f → IsImageFaultOrMemory f (Fault (fault_at number Link))
  scan-faulty number e f is = inl (let same : Some (fault_at number Link) ≡ Some f = sym (scan-outcome (Some number) e) ∙ is in cc)

  pub scan-whole : None ≡ linking bytes xs first_progress 0 count → (f : ImageFault) → IsFault bytes f → ⊥
  scan-whole e f is = (let bad : None ≡ Some f = sym (scan-outcome None e) ∙ is in cc)
