-- What reading an image and the trace after it says.
use Rattle.std.proofs.Common.{◌≡◌, ◌≢◌, ℕ, ◌∙◌, List, length, drop, Option, sym, ap, subst, inl, inr}
use Rattle.std.specs.Prelude.{Result, Ok, Err, IfErr}
use Rattle.std.proofs.lemmas.List.{drop_at}
use Rattle.bc_image.specs.Faults.{IsImageFaultOrMemory, TellsImageFault}
use Rattle.bc_image.specs.Images.{ImageOf, image_bytes}
use Rattle.bc_image.specs.Listings.{ListingLists}
use Rattle.bc_image.specs.declared.fault.ImageFault.{ImageFault}
use Rattle.bc_image.specs.declared.fault.ReadImage.{ReadImage}
use Rattle.bc_image.specs.declared.fault.ReadImage.TheVariants as scans
use Rattle.bc_trace.specs.Answers.{TellsFault}
use Rattle.bc_trace.specs.declared.fault.ReadTrace.{ReadTrace}
use Rattle.bc_trace.specs.declared.fault.ReadTrace.TheVariants as answers
use Rattle.bc_replay.specs.Outcomes.{IfStatusBadImage, IfBadTrace, IsOrNoMemory, ReadWhole}
use Rattle.bc_replay.specs.Statuses.{refusal_of, unscanned}
use Rattle.bc_replay.specs.declared.status.Status.{Status}
use Rattle.bc_replay.specs.declared.status.Status.TheVariants.{Done, BadWords, BadTrace, TooLong, ReadFault, WriteFault, OutOfHeap, NoMemory, BadImage, Mismatch}
use Rattle.bc_cli.specs.Limits.{longest_resumed}
use Rattle.bc_cli.specs.Parsing.{ArePartsApart, IsUnparsed}
use Rattle.bc_cli.specs.PartEndings.{IsUnresumedStatus}
use Rattle.bc_cli.specs.Resumes.{FaultyAfterImage, ImageFaulty, ReadsApart}

-- what follows an image
pub rest_is : (bytes rest : List ℕ) (l : ListingLists) (n : ℕ) → ImageOf bytes l rest → n ≡ length (image_bytes l) → drop n bytes ≡ rest
rest_is bytes rest l n image e = ap (drop n) image.spelled ∙ drop_at (image_bytes l) rest n (sym e)

-- the bytes begin with no image by this fault, so this is the refusal
pub image_refused : (f : ImageFault) (error : ReadImage) (status : Status) → status ≡ unscanned error → IsImageFaultOrMemory f error → IsOrNoMemory status (BadImage f.at f.cause)
image_refused f error status e (inl is) = inl (e ∙ ap unscanned is)
image_refused f error status e (inr none) = inr (e ∙ ap unscanned none)

-- the refusal names the bytes' fault
pub unparsed-image : (bytes : List ℕ) (error : ReadImage) (status : Status) → status ≡ unscanned error → TellsImageFault bytes error → IsUnparsed bytes status
unparsed-image bytes (scans.Fault f) status e told = rw e told
unparsed-image bytes scans.NoMemory status e told = rw e tt

pub unparsed-trace : (bytes rest : List ℕ) (l : ListingLists) (error : ReadTrace) (status : Status) → status ≡ refusal_of error → ImageOf bytes l rest → TellsFault rest error → IsUnparsed bytes status
unparsed-trace bytes rest l (answers.Fault f) status e image told = rw e (record { listing = l; rest = rest; image = image; fault = told })
unparsed-trace bytes rest l answers.NoMemory status e image told = rw e tt

-- ---- of bytes that a source gave

pub unresumed : (bytes : List ℕ) (s : Status) → IsUnparsed bytes s → IsUnresumedStatus s
unresumed bytes Done h = absurd h
unresumed bytes BadWords h = absurd h
unresumed bytes (BadTrace line cause) h = tt
unresumed bytes TooLong h = tt
unresumed bytes ReadFault h = tt
unresumed bytes WriteFault h = absurd h
unresumed bytes (OutOfHeap need) h = absurd h
unresumed bytes NoMemory h = tt
unresumed bytes (BadImage at cause) h = tt
unresumed bytes Mismatch h = tt

pub names-image_fault : (old new : Option (List ℕ)) (bytes : List ℕ) → ReadWhole longest_resumed old new bytes → (s : Status) → IsUnparsed bytes s → IfStatusBadImage s (ImageFaulty old new)
names-image_fault old new bytes whole Done h = tt
names-image_fault old new bytes whole BadWords h = tt
names-image_fault old new bytes whole (BadTrace line cause) h = tt
names-image_fault old new bytes whole TooLong h = tt
names-image_fault old new bytes whole ReadFault h = tt
names-image_fault old new bytes whole WriteFault h = tt
names-image_fault old new bytes whole (OutOfHeap need) h = tt
names-image_fault old new bytes whole NoMemory h = tt
names-image_fault old new bytes whole (BadImage at cause) h = record { bytes = bytes; whole = whole; fault = h }
names-image_fault old new bytes whole Mismatch h = tt

pub names-trace_fault : (old new : Option (List ℕ)) (bytes : List ℕ) → ReadWhole longest_resumed old new bytes → (s : Status) → IsUnparsed bytes s → IfBadTrace s (FaultyAfterImage old new)
names-trace_fault old new bytes whole Done h = tt
names-trace_fault old new bytes whole BadWords h = tt
names-trace_fault old new bytes whole (BadTrace line cause) h = record { bytes = bytes; listing = h.listing; rest = h.rest; whole = whole; image = h.image; fault = h.fault }
names-trace_fault old new bytes whole TooLong h = tt
names-trace_fault old new bytes whole ReadFault h = tt
names-trace_fault old new bytes whole WriteFault h = tt
names-trace_fault old new bytes whole (OutOfHeap need) h = tt
names-trace_fault old new bytes whole NoMemory h = tt
names-trace_fault old new bytes whole (BadImage at cause) h = tt
names-trace_fault old new bytes whole Mismatch h = tt

read_apart : (old new : Option (List ℕ)) (bytes : List ℕ) → ReadWhole longest_resumed old new bytes → ArePartsApart bytes → ReadsApart old new
read_apart old new bytes whole h = record {
  listing = h.listing;
  trace = h.trace;
  read = record { bytes = bytes; rest = h.parsed.rest; whole = whole; image = h.parsed.image; spelled = h.parsed.spelled };
  apart = h.apart;
}

-- an error's claim goes over to what follows from it
pub err-more : {T E : Type 0} (P Q : E → Type 0) (r : Result T E) → IfErr r P → ((e : E) → P e → Q e) → IfErr r Q
err-more P Q (Ok x) h more = h
err-more P Q (Err e) h more = more e h

-- the error is this one
err-is : {T E : Type 0} (P : E → Type 0) (r : Result T E) (e : E) → IfErr r P → r ≡ Err e → P e
err-is P (Ok x) e h is = cc
err-is P (Err d) e h is = let same : d ≡ e = cc in subst P same h

pub err-apart : {T : Type 0} (old new : Option (List ℕ)) (bytes : List ℕ) (r : Result T Status) → ReadWhole longest_resumed old new bytes → IfErr r (IsUnparsed bytes) → r ≡ Err Mismatch → ReadsApart old new
err-apart old new bytes r whole h is = read_apart old new bytes whole (err-is (IsUnparsed bytes) r Mismatch h is)

pub err-not_long : {T : Type 0} (bytes : List ℕ) (r : Result T Status) → IfErr r (IsUnparsed bytes) → r ≢ Err TooLong
err-not_long bytes r h = λ is. err-is (IsUnparsed bytes) r TooLong h is

pub err-not_fault : {T : Type 0} (bytes : List ℕ) (r : Result T Status) → IfErr r (IsUnparsed bytes) → r ≢ Err ReadFault
err-not_fault bytes r h = λ is. err-is (IsUnparsed bytes) r ReadFault h is
