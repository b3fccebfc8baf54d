-- What each status of a view says of the source, from its left bytes before and after, and of the sink, from its held bytes before and
-- after. Where a source or a sink doesn't make its bytes known, what is said of them holds of some bytes.
use Rattle.std.specs.Prelude.{◌≡◌, ℕ, ◌+◌, ◌*◌, ◌<◌, ◌≤◌, ◌⊎◌, ⊤, List, [], ◌++◌, length, Option, Some, None, MatchOption}
use Rattle.std.specs.Io.KnownBytes.{IsAtEnd}
use Rattle.bc_image.specs.Faults.{IsFault}
use Rattle.bc_image.specs.Images.{ImageOf, image_bytes}
use Rattle.bc_image.specs.Listings.{ListingLists}
use Rattle.bc_image.specs.Pictures.{PicturesObjects}
use Rattle.bc_image.specs.declared.fault.ImageCause.{ImageCause}
use Rattle.bc_image.specs.declared.fault.ImageCause.TheVariants.{Rest}
use Rattle.bc_image.specs.declared.fault.ImageFault.{ImageFault}
use Rattle.bc_io.specs.Told.{HasRoom, HeldGrows, IsPrefix, LeftFalls}
use Rattle.bc_model.specs.Consistent.{IsState}
use Rattle.bc_model.specs.Need.{IsNeed}
use Rattle.bc_model.specs.State.{State}
use Rattle.bc_model.specs.declared.values.Birth.{Birth}
use Rattle.bc_heapview.specs.Answers.{IsPathTo, NoWay}
use Rattle.bc_heapview.specs.Counts.{AreCounts}
use Rattle.bc_heapview.specs.PathLists.{PathList}
use Rattle.bc_heapview.specs.Texts.{counts_text, path_text}
use Rattle.bc_heapview.specs.declared.question.Question.{Question}
use Rattle.bc_heapview.specs.declared.question.Question.TheVariants.{Counts, Path}
use Rattle.bc_heapview.specs.declared.status.ViewStatus.{ViewStatus}
use Rattle.bc_heapview.specs.declared.status.ViewStatus.TheVariants.{Done, BadWords, BadImage, TooLong, ReadFault, WriteFault, NoMemory}
use Rattle.bc_heapview.specs.declared.tally.Count.{Count}

-- the most bytes that an input may have
abbrev pub longest_image : ℕ
longest_image = 134217728

-- ---- the input

-- the source was read to its end, and gave these bytes
pub record ReadsImage (old new : Option (List ℕ)) (bytes : List ℕ) : Type 0 where
  pub falls : LeftFalls old new bytes
  pub end : IsAtEnd new
  pub short : length bytes ≤ longest_image

-- the source was read to its end, and gave the image of this listing and nothing more
pub record ReadAsImage (old new : Option (List ℕ)) (l : ListingLists) : Type 0 where
  pub bytes : List ℕ
  pub whole : ReadsImage old new bytes
  pub image : ImageOf bytes l []

-- bytes follow an image: the fault is where it ends
pub record HasRest (bytes : List ℕ) (f : ImageFault) : Type 0 where
  pub listing : ListingLists
  pub rest : List ℕ
  pub image : ImageOf bytes listing rest
  pub some : 0 < length rest
  pub fault : f ≡ record { at = length (image_bytes listing); cause = Rest }

-- the first fault of bytes that are no image, or that go on after one
abbrev pub IsInputFault : List ℕ → ImageFault → Type 0
IsInputFault bytes f = IsFault bytes f ⊎ HasRest bytes f

-- the source was read to its end, its bytes are no image, or go on after one, and this is their fault
pub record FaultyImage (left left' : Option (List ℕ)) (at : ℕ) (cause : ImageCause) : Type 0 where
  pub bytes : List ℕ
  pub whole : ReadsImage left left' bytes
  pub fault : IsInputFault bytes (record { at = at; cause = cause })

-- ---- the answer

-- the text of the counts of the state and of its need
pub record IsCountsAnswer (s : State) (text : List ℕ) : Type 0 where
  pub counts : List Count
  pub need : ℕ
  pub are_counts : AreCounts s counts
  pub is_need : IsNeed s need
  pub text_is : text ≡ counts_text counts need

-- the text of the least way to the object of the birth, or that none is reached
pub record IsPathAnswer (s : State) (b : Birth) (text : List ℕ) : Type 0 where
  pub found : Option PathList
  pub is_found : MatchOption found (NoWay s b) (IsPathTo s b)
  pub text_is : text ≡ path_text found

-- the text answers the question about the state
abbrev pub AnswersQuestion : State → Question → List ℕ → Type 0
AnswersQuestion s Counts text = IsCountsAnswer s text
AnswersQuestion s (Path b) text = IsPathAnswer s b text

-- the text is the answer about whatever state the listing pictures
abbrev pub IsAnswerAbout : ListingLists → Question → List ℕ → Type 0
IsAnswerAbout l question text = (s : State) → PicturesObjects l s → AnswersQuestion s question text

-- an image was read, which pictures a state, and the answer about whatever state it pictures is written
pub record Viewed (question : Question) (left left' held held' : Option (List ℕ)) : Type 0 where
  pub listing : ListingLists
  pub read : ReadAsImage left left' listing
  pub pictured : (s : State) × IsState s × PicturesObjects listing s
  pub text : List ℕ
  pub answer : IsAnswerAbout listing question text
  pub written : HeldGrows held held' text

-- an image was read, which pictures a state, and a prefix of the answer is written, which is not all of it
pub record ViewedInPart (question : Question) (left left' held held' : Option (List ℕ)) : Type 0 where
  pub listing : ListingLists
  pub read : ReadAsImage left left' listing
  pub pictured : (s : State) × IsState s × PicturesObjects listing s
  pub text : List ℕ
  pub answer : IsAnswerAbout listing question text
  pub front : List ℕ
  pub prefix : IsPrefix front text
  pub not_all : length front < length text
  pub written : HeldGrows held held' front

-- ---- the room that a sink needs

-- The most bytes of an answer about so many objects. Counts are 448 lines of at most 96 bytes and that of the need, of at most 26. A way is
-- a line of 49 bytes and one of 39 for each object.
abbrev pub view_bytes : Question → ℕ → ℕ
view_bytes Counts objects = 43034
view_bytes (Path b) objects = 49 + 39 * objects

-- the source may give these bytes up to its end: those that it has, or any where they aren't known
abbrev pub CanGive : Option (List ℕ) → List ℕ → Type 0
CanGive (Some left) bytes = left ≡ bytes
CanGive None bytes = ⊤

-- the source may give the image of this listing and nothing more, within the limit
pub record CanGiveImage (left : Option (List ℕ)) (l : ListingLists) : Type 0 where
  pub bytes : List ℕ
  pub given : CanGive left bytes
  pub short : length bytes ≤ longest_image
  pub image : ImageOf bytes l []

-- the answer to the question about whatever image the source may give fits the sink's room, where that is known
abbrev pub HasViewRoom : Question → Option (List ℕ) → Option ℕ → Type 0
HasViewRoom question left room =
    (l : ListingLists) → (text : List ℕ) → CanGiveImage left l → IsAnswerAbout l question text → HasRoom room (length text)

-- ---- statuses

-- of a bad image this is said of its place and cause, and of no other status
abbrev pub IfBadImage : ViewStatus → (ℕ → ImageCause → Type 0) → Type 0
IfBadImage (BadImage at cause) P = P at cause
IfBadImage _ P = ⊤

-- the status is this one, unless memory ran out
abbrev pub IsUnlessMemory : ViewStatus → ViewStatus → Type 0
IsUnlessMemory status wanted = (status ≡ wanted) ⊎ (status ≡ NoMemory)

-- how a view can end that has read no image
abbrev pub IsUnreadStatus : ViewStatus → Type 0
IsUnreadStatus (BadImage at cause) = ⊤
IsUnreadStatus TooLong = ⊤
IsUnreadStatus ReadFault = ⊤
IsUnreadStatus NoMemory = ⊤
IsUnreadStatus _ = ⊥

-- how a view can end that has read an image
abbrev pub IsAnsweredStatus : ViewStatus → Type 0
IsAnsweredStatus Done = ⊤
IsAnsweredStatus WriteFault = ⊤
IsAnsweredStatus NoMemory = ⊤
IsAnsweredStatus _ = ⊥
