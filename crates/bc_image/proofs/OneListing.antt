-- Bytes begin with one image or have one fault.
use Rattle.std.proofs.Common.{◌≡◌, ◌⊎◌, ℕ, List, ◌++◌, length, Option, Some, None, Result, Ok, Err, refl, inl, inr, sym, ◌∙◌, ap, subst}
use Rattle.std.proofs.lemmas.List.{append_cancel_left}
use Rattle.bc_image.specs.ImageOrFault.{AreBytes, BeginWithImage}
use Rattle.bc_image.specs.Drafts.{ImageDraft}
use Rattle.bc_image.specs.Faults.{linking, listing_of, fault_of, IsFault}
use Rattle.bc_image.specs.Images.{ImageOf, image_bytes, image_items}
use Rattle.bc_image.specs.Items.{first_progress}
use Rattle.bc_image.specs.Listings.{ListingLists}
use Rattle.bc_image.specs.Reading.{items_of_all, fault_at}
use Rattle.bc_image.specs.declared.fault.ImageCause.TheVariants.{Link}
use Rattle.bc_image.specs.declared.fault.ImageFault.{ImageFault}
use Rattle.bc_image.proofs.Running.{ok-parts}
use Rattle.bc_image.proofs.Law.{law-read, law-image}

pub one-listing : (bytes rest more : List ℕ) (l m : ListingLists) → ImageOf bytes l rest → ImageOf bytes m more → (l ≡ m) × (rest ≡ more)
one-listing bytes rest more l m p q =
    let a = law-image bytes l rest p in
    let b = law-image bytes m more q in
    let parts = ok-parts a.draft b.draft (length (image_items l)) (length (image_items m)) (sym a.read ∙ b.read) in
    let same : l ≡ m = sym a.lists ∙ ap listing_of parts.0 ∙ b.lists in
    (same, append_cancel_left (image_bytes m) rest more (subst (λ (x : ListingLists). image_bytes x ++ rest ≡ image_bytes m ++ more) same (sym p.spelled ∙ q.spelled)))

-- what the reader answers of bytes says which of the two they have
outcome : (bytes : List ℕ) → AreBytes bytes → (r : Result (ImageDraft × ℕ) ImageFault) → items_of_all bytes ≡ r → BeginWithImage bytes ⊎ ((f : ImageFault) × IsFault bytes f)
outcome bytes small (Err f) e = inr (f, ap (fault_of bytes) e)
outcome bytes small (Ok x) e = by (linking bytes x.0.cells first_progress 0 x.1) refl
  where
    by : (o : Option ℕ) → linking bytes x.0.cells first_progress 0 x.1 ≡ o → BeginWithImage bytes ⊎ ((f : ImageFault) × IsFault bytes f)
    by None links = (let r = law-read bytes small x.0 x.1 e links in inl (listing_of x.0, _, r.1))
    by (Some n) links = inr (fault_at n Link, rw (e) (rw (links) refl))

pub image-or-fault : (bytes : List ℕ) → AreBytes bytes → BeginWithImage bytes ⊎ ((f : ImageFault) × IsFault bytes f)
image-or-fault bytes small = outcome bytes small (items_of_all bytes) refl

pub not-both : (bytes : List ℕ) (f : ImageFault) → IsFault bytes f → BeginWithImage bytes → ⊥
not-both bytes f is image =
    let r = law-image bytes image.0 image.1 image.2 in
    let none : fault_of bytes (items_of_all bytes) ≡ None = rw (r.read) (rw (r.links) refl) in
    (let c : Some f ≡ None = sym is ∙ none in absurd cc)

pub one-fault : (bytes : List ℕ) (f other : ImageFault) → IsFault bytes f → IsFault bytes other → f ≡ other
one-fault bytes f other is too = (let c : Some f ≡ Some other = sym is ∙ too in cc)
