-- In the theorem.
-- How `resume` ends. The input is an image, and after it the text of a trace. What is said of the replay is said of every state that the
-- image pictures, and there is one at least.
use Rattle.std.specs.Prelude.{◌≡◌, ℕ, ◌≤◌, List, length, Option}
use Rattle.bc_engine.specs.Engines.{EngineView}
use Rattle.bc_image.specs.Faults.{IsFault}
use Rattle.bc_image.specs.Images.{ImageOf}
use Rattle.bc_image.specs.Listings.{ListingLists}
use Rattle.bc_image.specs.Pictures.{Pictures}
use Rattle.bc_image.specs.declared.fault.ImageCause.{ImageCause}
use Rattle.bc_model.specs.Consistent.{IsState}
use Rattle.bc_model.specs.Lists.{TraceLists}
use Rattle.bc_model.specs.State.{State}
use Rattle.bc_trace.specs.Faults.{Fault}
use Rattle.bc_trace.specs.Lines.{Spells}
use Rattle.bc_trace.specs.declared.fault.Cause.{Cause}
use Rattle.bc_words.specs.declared.command.Command.{Command}
use Rattle.bc_words.specs.declared.command.Command.TheVariants.{Resume}
use Rattle.bc_replay.specs.Courses.{Course, course_from}
use Rattle.bc_replay.specs.Endings.{EndsDone, EndsOutOfHeap, EndsInFault, StopsBefore, HasRunRoom}
use Rattle.bc_replay.specs.Outcomes.{Faulty, MayGive, ReadWhole}
use Rattle.bc_cli.specs.Limits.{longest_resumed}

-- The source was read to its end. Its bytes are the image of this listing, and after it the text of this trace.
pub record ReadAsResumed (old new : Option (List ℕ)) (l : ListingLists) (t : TraceLists) : Type 0 where
  pub bytes : List ℕ
  pub rest : List ℕ
  pub whole : ReadWhole longest_resumed old new bytes
  pub image : ImageOf bytes l rest
  pub spelled : Spells rest t

-- the image goes with the trace: its version and its setup are the trace's, and the trace has the phases that are done
pub record GoesWith (l : ListingLists) (t : TraceLists) : Type 0 where
  pub version : l.version ≡ t.version
  pub setup : l.setup ≡ t.setup
  pub phases : l.phases ≤ length t.phases

-- an image and a trace were read that go together, and the image pictures a state
pub record ReadTogether (left left' : Option (List ℕ)) : Type 0 where
  pub listing : ListingLists
  pub trace : TraceLists
  pub read : ReadAsResumed left left' listing trace
  pub goes : GoesWith listing trace
  pub pictured : (s : State) × IsState s × Pictures listing s

-- of each course that may be resumed this holds: the phases of the trace after those that are done, from a state that the image
-- pictures. Texts are numbered as in the trace
abbrev pub OfEachCourse : ListingLists → TraceLists → (Course → Type 0) → Type 0
OfEachCourse l t P = (s : State) → IsState s → Pictures l s → P (course_from t s l.phases)

-- an image and a trace were read that go together, and the phases after those that were done are done: their texts are written, and the
-- last line
pub record Resumed (left left' held held' : Option (List ℕ)) (heap : Option EngineView) : Type 0 where
  pub found : ReadTogether left left'
  pub ending : OfEachCourse found.listing found.trace (λ course. EndsDone course held held' heap)

-- an image and a trace were read that go together, and one of the phases after those that were done ended since the heap is too small, by
-- this need
pub record ResumedOutOfHeap (left left' held held' : Option (List ℕ)) (heap : Option EngineView) (need : ℕ) : Type 0 where
  pub found : ReadTogether left left'
  pub ending : OfEachCourse found.listing found.trace (λ course. EndsOutOfHeap course held held' heap need)

-- an image and a trace were read that go together, and a prefix of what the replay of the other phases writes is written
pub record ResumedInPart (left left' held held' : Option (List ℕ)) (heap : Option EngineView) : Type 0 where
  pub found : ReadTogether left left'
  pub ending : OfEachCourse found.listing found.trace (λ course. EndsInFault course held held' heap)

-- an image and a trace were read that go together, and the whole texts are written of the phases from the first that wasn't done to one of
-- the trace's phases
pub record ResumedTo (left left' held held' : Option (List ℕ)) : Type 0 where
  pub found : ReadTogether left left'
  pub ending : OfEachCourse found.listing found.trace (λ course. StopsBefore course held held')

-- The source was read to its end, its bytes begin with no image, and this is their first fault.
pub record ImageFaulty (left left' : Option (List ℕ)) (at : ℕ) (cause : ImageCause) : Type 0 where
  pub bytes : List ℕ
  pub whole : ReadWhole longest_resumed left left' bytes
  pub fault : IsFault bytes (record { at = at; cause = cause })

-- The source was read to its end. Its bytes begin with an image, what follows it is no trace, and this is the first fault of that, its
-- lines counted from the first byte after the image.
pub record FaultyAfterImage (left left' : Option (List ℕ)) (line : ℕ) (cause : Cause) : Type 0 where
  pub bytes : List ℕ
  pub listing : ListingLists
  pub rest : List ℕ
  pub whole : ReadWhole longest_resumed left left' bytes
  pub image : ImageOf bytes listing rest
  pub fault : Fault rest line cause

-- an image and a trace were read that don't go together
pub record ReadsApart (left left' : Option (List ℕ)) : Type 0 where
  pub listing : ListingLists
  pub trace : TraceLists
  pub read : ReadAsResumed left left' listing trace
  pub apart : ¬ GoesWith listing trace

-- what the replay of the phases after those that are done may write fits the sink's room, where that is known. Of bytes that are no image
-- and a trace that goes with it, or too many, nothing is written
abbrev pub HasRoomToResume : Option (List ℕ) → Option ℕ → Type 0
HasRoomToResume left room =
    (bytes rest : List ℕ) → (l : ListingLists) → (t : TraceLists) → MayGive left bytes → length bytes ≤ longest_resumed → ImageOf bytes l rest → Spells rest t
    → GoesWith l t → OfEachCourse l t (λ course. HasRunRoom room course)

-- the source was read to its end, and this is the first fault of the trace that it should give: for `resume` after the image, for the
-- other commands from the first byte on
abbrev pub FaultyInput : Command → Option (List ℕ) → Option (List ℕ) → ℕ → Cause → Type 0
FaultyInput (Resume workers) left left' line cause = FaultyAfterImage left left' line cause
FaultyInput _ left left' line cause = Faulty left left' line cause
