-- The bytes of an image and a trace after it.
use Rattle.std.specs.Prelude.{◌≡◌, ℕ, List}
use Rattle.bc_image.specs.Faults.{IsFault}
use Rattle.bc_image.specs.Images.{ImageOf}
use Rattle.bc_image.specs.Listings.{ListingLists}
use Rattle.bc_model.specs.Lists.{TraceLists}
use Rattle.bc_trace.specs.Faults.{Fault}
use Rattle.bc_trace.specs.Lines.{Spells}
use Rattle.bc_trace.specs.declared.fault.Cause.{Cause}
use Rattle.bc_replay.specs.declared.status.Status.{Status}
use Rattle.bc_replay.specs.declared.status.Status.TheVariants.{BadTrace, NoMemory, BadImage, Mismatch}
use Rattle.bc_cli.specs.Resumes.{GoesWith}

-- the bytes are the image of the listing, and after it the text of the trace
pub record IsParsed (bytes : List ℕ) (l : ListingLists) (t : TraceLists) : Type 0 where
  pub rest : List ℕ
  pub image : ImageOf bytes l rest
  pub spelled : Spells rest t

-- the bytes are an image and a trace after it that don't go together
pub record ArePartsApart (bytes : List ℕ) : Type 0 where
  pub listing : ListingLists
  pub trace : TraceLists
  pub parsed : IsParsed bytes listing trace
  pub apart : ¬ GoesWith listing trace

-- the bytes begin with an image, and what follows it is no trace, by this fault
pub record IsFaultyAfter (bytes : List ℕ) (line : ℕ) (cause : Cause) : Type 0 where
  pub listing : ListingLists
  pub rest : List ℕ
  pub image : ImageOf bytes listing rest
  pub fault : Fault rest line cause

-- what this status says of the bytes, with which reading them ended
abbrev pub IsUnparsed : List ℕ → Status → Type 0
IsUnparsed bytes (BadImage at cause) = IsFault bytes (record { at = at; cause = cause })
IsUnparsed bytes (BadTrace line cause) = IsFaultyAfter bytes line cause
IsUnparsed bytes Mismatch = ArePartsApart bytes
IsUnparsed bytes NoMemory = Unit {0}
IsUnparsed bytes _ = ⊥
