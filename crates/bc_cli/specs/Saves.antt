-- In the theorem.
-- How `save` ends: what is written of the image of a trace's state after its first phases, and what the heap stands for where it is
-- handed back.
use Rattle.std.specs.Prelude.{◌≡◌, ℕ, ◌<◌, ◌≤◌, List, length, Option, Some}
use Rattle.bc_engine.specs.Engines.{EngineView}
use Rattle.bc_engine.specs.declared.engines.Ended.TheVariants.{OutOfHeap}
use Rattle.bc_image.specs.Images.{IsImageListing, image_bytes}
use Rattle.bc_image.specs.Listings.{ListingLists}
use Rattle.bc_image.specs.Pictures.{Pictures}
use Rattle.bc_io.specs.Told.{HeldGrows, HasRoom}
use Rattle.bc_model.specs.Lists.{TraceLists}
use Rattle.bc_model.specs.State.{State}
use Rattle.bc_model.specs.declared.traces.Setup.{Setup}
use Rattle.bc_trace.specs.Lines.{Spells}
use Rattle.bc_replay.specs.Courses.{Course, after_cut, before, whole_course}
use Rattle.bc_replay.specs.Endings.{HandsBack, NeedsFit, NeedsMore, WritesFront}
use Rattle.bc_replay.specs.Outcomes.{MayGive, ReadAsTrace, longest_trace}

-- The listing is what an image may list. It has this version, the setup and so many phases done, and it pictures the state.
pub record IsListingOf (language : ℕ) (given : Setup) (done : ℕ) (s : State) (l : ListingLists) : Type 0 where
  pub image : IsImageListing l
  pub version : l.version ≡ language
  pub setup : l.setup ≡ given
  pub phases : l.phases ≡ done
  pub pictures : Pictures l s

-- the listing is that of the state after the first phases of the trace, so many, and it has the trace's version
abbrev pub IsSaved : TraceLists → ℕ → ListingLists → Type 0
IsSaved t count l = IsListingOf t.version t.setup count (before (whole_course t) count) l

-- A trace was read that has so many phases, and the image of the state after these is written. After each of them the need was at most
-- the number of superpages.
pub record Saved (left left' held held' : Option (List ℕ)) (count : ℕ) : Type 0 where
  pub trace : TraceLists
  pub read : ReadAsTrace left left' trace
  pub enough : count ≤ length trace.phases
  pub listing : ListingLists
  pub saved : IsSaved trace count listing
  pub written : HeldGrows held held' (image_bytes listing)
  pub fits : NeedsFit (whole_course trace) count

-- a trace was read that has so many phases, and a prefix of the image of the state after these is written, and not all of it
pub record SavedInPart (left left' held held' : Option (List ℕ)) (count : ℕ) : Type 0 where
  pub trace : TraceLists
  pub read : ReadAsTrace left left' trace
  pub enough : count ≤ length trace.phases
  pub listing : ListingLists
  pub saved : IsSaved trace count listing
  pub written : WritesFront held held' (image_bytes listing)

-- Phase k ended at a cut since the heap is too small, and the heap stands for the state there.
pub record CutOff (c : Course) (k : ℕ) (heap : Option EngineView) (need : ℕ) : Type 0 where
  pub cut : List ℕ
  pub needs : NeedsMore c k cut need
  pub handed : HandsBack heap c.setup (Some (OutOfHeap need)) (after_cut c k cut)

-- one of the first phases, so many, ended at a cut since the heap is too small, and the heap stands for the state there
pub record CutOffBelow (c : Course) (count : ℕ) (heap : Option EngineView) (need : ℕ) : Type 0 where
  pub phase : ℕ
  pub below : phase < count
  pub ending : CutOff c phase heap need

-- a trace was read that has so many phases, and one of these ended since the heap is too small, by this need
pub record SaveRanOutOfHeap (left left' : Option (List ℕ)) (count : ℕ) (heap : Option EngineView) (need : ℕ) : Type 0 where
  pub trace : TraceLists
  pub read : ReadAsTrace left left' trace
  pub enough : count ≤ length trace.phases
  pub ending : CutOffBelow (whole_course trace) count heap need

-- a trace was read, and it has fewer phases than so many
pub record HasFewerPhases (left left' : Option (List ℕ)) (count : ℕ) : Type 0 where
  pub trace : TraceLists
  pub read : ReadAsTrace left left' trace
  pub fewer : length trace.phases < count

-- each image of the state after the first phases, so many, fits the sink's room, where that is known. Nothing is written of bytes that are
-- too many or no trace, or of a trace with fewer phases
abbrev pub HasRoomToSave : Option (List ℕ) → Option ℕ → ℕ → Type 0
HasRoomToSave left room count =
    (bytes : List ℕ) → (t : TraceLists) → MayGive left bytes → length bytes ≤ longest_trace → Spells bytes t → count ≤ length t.phases
    → (l : ListingLists) → IsSaved t count l → HasRoom room (length (image_bytes l))
