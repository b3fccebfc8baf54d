-- `resume` goes on with what `save` wrote.
use Rattle.std.proofs.Common.{◌≡◌, ℕ, List, ◌++◌, Option, Some, ap, sym, subst, ◌∙◌}
use Rattle.bc_engine.specs.Engines.{EngineView}
use Rattle.bc_image.specs.Images.{ImageOf, image_bytes}
use Rattle.bc_image.specs.Listings.{ListingLists}
use Rattle.bc_image.specs.Pictures.{Pictures}
use Rattle.bc_image.proofs.OneListing.{one-listing}
use Rattle.bc_io.specs.Told.{HeldGrows}
use Rattle.bc_model.specs.Lists.{TraceLists}
use Rattle.bc_model.proofs.RunStates.{OfSetup-before}
use Rattle.bc_trace.specs.Lines.{Spells}
use Rattle.bc_trace.proofs.Answered.{same_trace}
use Rattle.bc_replay.specs.Courses.{before, course_from, whole_course}
use Rattle.bc_replay.specs.Output.{whole_text}
use Rattle.bc_replay.proofs.Bytes.{may_give-whole}
use Rattle.bc_cli.specs.Resumes.{Resumed}
use Rattle.bc_cli.specs.Saves.{IsSaved}

pub goes-on : (t : TraceLists) (k : ℕ) (l : ListingLists) (text : List ℕ) (left held held' : Option (List ℕ)) (heap : Option EngineView) → IsSaved t k l → Spells text t → Resumed (Some (image_bytes l ++ text)) left held held' heap
    → HeldGrows held held' (whole_text (course_from t (before (whole_course t) k) k))
goes-on t k l text left held held' heap saved spelled resumed =
    let found = resumed.found in
    let read = found.read in
    let bytes : image_bytes l ++ text ≡ read.bytes = may_give-whole _ _ _ _ read.whole in
    let mine : ImageOf read.bytes l text = record { listing = saved.image; spelled = sym bytes } in
    let same = one-listing read.bytes read.rest text found.listing l read.image mine in
    let trace : found.trace ≡ t = same_trace text found.trace t (subst (λ (xs : List ℕ). Spells xs found.trace) same.1 read.spelled) spelled in
    let s = before (whole_course t) k in
    let phases : found.listing.phases ≡ k = ap (λ (x : ListingLists). x.phases) same.0 ∙ saved.phases in
    let done = resumed.ending s (OfSetup-before t k spelled.trace).state (subst (λ (x : ListingLists). Pictures x s) (sym same.0) saved.pictures) in
    subst (λ (x : TraceLists). HeldGrows held held' (whole_text (course_from x s k))) trace
    (subst (λ (n : ℕ). HeldGrows held held' (whole_text (course_from found.trace s n))) phases done.written)
