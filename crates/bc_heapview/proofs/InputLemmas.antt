-- What a source reported, and what was read of it.
use Rattle.std.proofs.Common.{◌≡◌, ℕ, ◌+◌, ◌<◌, ◌≤◌, List, [], ◌++◌, append-nil, ◌∙◌, Option, None, Some, IfSome, length, length-append, drop, refl, sym, ap, subst, inl, inr, arith}
use Rattle.std.proofs.lemmas.List.{drop_all, length-drop}
use Rattle.bc_io.specs.Told.{HasRoom}
use Rattle.bc_io.specs.declared.reading.ReadAll.{ReadAll}
use Rattle.bc_io.specs.declared.reading.ReadAll.TheVariants as reads
use Rattle.bc_image.specs.Faults.{IsFault, IsImageFaultOrMemory, TellsImageFault}
use Rattle.bc_image.specs.Images.{ImageOf, image_bytes}
use Rattle.bc_image.specs.Listings.{ListingLists}
use Rattle.bc_image.specs.declared.fault.ImageCause.{ImageCause}
use Rattle.bc_image.specs.declared.fault.ImageCause.TheVariants.{Rest}
use Rattle.bc_image.specs.declared.fault.ImageFault.{ImageFault}
use Rattle.bc_image.specs.declared.fault.ReadImage.{ReadImage}
use Rattle.bc_image.specs.declared.fault.ReadImage.TheVariants as answers
use Rattle.bc_heapview.specs.Views.{CanGive, FaultyImage, HasRest, IsAnsweredStatus, IfBadImage, IsInputFault, IsUnlessMemory, ReadsImage, ReadAsImage, longest_image}
use Rattle.bc_heapview.specs.ViewStatuses.{image_refusal, unread_view}
use Rattle.bc_heapview.specs.declared.status.ViewStatus.{ViewStatus}
use Rattle.bc_heapview.specs.declared.status.ViewStatus.TheVariants.{Done, BadWords, BadImage, TooLong, ReadFault, WriteFault, NoMemory}

-- what was read of a source that reported its bytes
pub read_is : (told : Option (List ℕ)) (read bytes : List ℕ) → IfSome told (λ left. read ≡ left) → told ≡ Some bytes → read ≡ bytes
read_is None read bytes h e = cc
read_is (Some left) read bytes h e = cc

-- the bytes of a source that was read to its end are those that it may give
pub can_give-whole : (old new : Option (List ℕ)) (bytes : List ℕ) → ReadsImage old new bytes → CanGive old bytes
can_give-whole None new bytes h = tt
can_give-whole (Some left) None bytes h = let falls = h.falls in cc
can_give-whole (Some left) (Some rest) bytes h =
    let falls = h.falls in
    let none : rest ≡ [] = h.end in
    let all : left ≡ bytes ++ rest = cc in
    all ∙ ap (λ xs. bytes ++ xs) none ∙ append-nil bytes

-- a status that the reader returned
pub told_unless : (s told wanted : ViewStatus) → told ≡ s → IsUnlessMemory s wanted → IsUnlessMemory told wanted
told_unless s told wanted is h = subst (λ (s : ViewStatus). IsUnlessMemory s wanted) (sym is) h

-- a source that reported few bytes didn't give too many
pub not_longer : (told : Option (List ℕ)) (bytes : List ℕ) → IfSome told (λ left. longest_image < length left) → told ≡ Some bytes → length bytes ≤ longest_image → ⊥
not_longer None bytes h e short = cc
not_longer (Some left) bytes h e short = let same : left ≡ bytes = cc in omega (arith, ap length same)

-- a source that gave no byte too many, and had no fault, is left unread by running out of memory alone
pub unread-short : (e : ReadAll) → (e ≡ reads.TooLong → ⊥) → (e ≡ reads.ReadFault → ⊥) → unread_view e ≡ NoMemory
unread-short reads.TooLong long fault = absurd (long refl)
unread-short reads.ReadFault long fault = absurd (fault refl)
unread-short reads.NoMemory long fault = refl

pub unread-firm : (e : ReadAll) → (e ≡ reads.ReadFault → ⊥) → IsUnlessMemory (unread_view e) TooLong
unread-firm reads.TooLong fault = inl refl
unread-firm reads.ReadFault fault = absurd (fault refl)
unread-firm reads.NoMemory fault = inr refl

-- ---- what the scan of the bytes says

-- the refusal names the bytes' fault
pub tells_fault : (old new : Option (List ℕ)) (read bytes : List ℕ) (error : ReadImage) (status : ViewStatus) → read ≡ bytes → ReadsImage old new bytes → status ≡ image_refusal error → TellsImageFault read error → IfBadImage status (FaultyImage old new)
tells_fault old new read bytes (answers.Fault f) status same whole e told = rw e (record { bytes = bytes; whole = whole; fault = inl (subst (λ (b : List ℕ). IsFault b f) same told) })
tells_fault old new read bytes answers.NoMemory status same whole e told = rw e tt

-- the bytes have this fault, so this is the refusal
pub refused_so : (f : ImageFault) (error : ReadImage) (status : ViewStatus) → status ≡ image_refusal error → IsImageFaultOrMemory f error → IsUnlessMemory status (BadImage f.at f.cause)
refused_so f error status e (inl is) = inl (e ∙ ap image_refusal is)
refused_so f error status e (inr none) = inr (e ∙ ap image_refusal none)

-- an image that the bytes are has all of them
pub whole_image : (bytes : List ℕ) (l : ListingLists) → ImageOf bytes l [] → length (image_bytes l) ≡ length bytes
whole_image bytes l image = omega (arith, ap length image.spelled, length-append (image_bytes l) [])

-- and where less was used, something follows
pub rest_some : (used : ℕ) (bytes : List ℕ) → used < length bytes → used ≤ length bytes → 0 < length (drop used bytes)
rest_some used bytes lt le = omega (arith, lt, length-drop used bytes)

pub image_used : (bytes : List ℕ) (l : ListingLists) (used : ℕ) → used ≤ length bytes → ImageOf bytes l (drop used bytes) → used ≡ length (image_bytes l)
image_used bytes l used le image =
    omega (arith, le, ap length image.spelled, length-append (image_bytes l) (drop used bytes), length-drop used bytes)

pub has_rest : (bytes : List ℕ) (l : ListingLists) (used : ℕ) → used < length bytes → ImageOf bytes l (drop used bytes) → HasRest bytes (record { at = used; cause = Rest })
has_rest bytes l used lt image = record {
  listing = l;
  rest = drop used bytes;
  image = image;
  some = rest_some used bytes lt (omega (arith, lt));
  fault = ap (λ (n : ℕ). record { at = n; cause = Rest }) (image_used bytes l used (omega (arith, lt)) image);
}

-- nothing follows where all was used
pub no_rest : (bytes : List ℕ) (l : ListingLists) (used : ℕ) → length bytes ≤ used → ImageOf bytes l (drop used bytes) → ImageOf bytes l []
no_rest bytes l used le image = subst (λ (rest : List ℕ). ImageOf bytes l rest) (drop_all used bytes le) image

-- ---- what the call that reads answers

pub faulty_rest : (old new : Option (List ℕ)) (read bytes : List ℕ) (l : ListingLists) (used : ℕ) → read ≡ bytes → ReadsImage old new bytes → used < length bytes → ImageOf read l (drop used read) → FaultyImage old new used Rest
faulty_rest old new read bytes l used same whole lt image = record {
  bytes = bytes;
  whole = whole;
  fault = inr (has_rest bytes l used lt (subst (λ (b : List ℕ). ImageOf b l (drop used b)) same image));
}

pub read_as_image : (old new : Option (List ℕ)) (read bytes : List ℕ) (l : ListingLists) (used : ℕ) → read ≡ bytes → ReadsImage old new bytes → length bytes ≤ used → ImageOf read l (drop used read) → ReadAsImage old new l
read_as_image old new read bytes l used same whole le image = record {
  bytes = bytes;
  whole = whole;
  image = no_rest bytes l used le (subst (λ (b : List ℕ). ImageOf b l (drop used b)) same image);
}

-- where bytes follow an image, the fault is reported where the image ends
pub rest_told : (used : ℕ) (f : ImageFault) (bytes : List ℕ) (r : HasRest bytes f) → used ≡ length (image_bytes r.listing) → IsUnlessMemory (BadImage used Rest) (BadImage f.at f.cause)
rest_told used f bytes r e = inl (ap (λ (n : ℕ). BadImage n Rest) e ∙ ap (λ (g : ImageFault). BadImage g.at g.cause) (sym r.fault))

-- something follows, so less than all bytes are the image's
pub rest_less : (bytes : List ℕ) (f : ImageFault) (r : HasRest bytes f) → length (image_bytes r.listing) < length bytes
rest_less bytes f r = omega (arith, ap length r.image.spelled, length-append (image_bytes r.listing) r.rest, r.some)

-- less fits where more does
pub room-less : (room : Option ℕ) (m n : ℕ) → m ≤ n → HasRoom room n → HasRoom room m
room-less None m n le h = tt
room-less (Some r) m n le h = omega (arith, le, h)

-- how a view that has read an image ends
pub complete_ending : (status : ViewStatus) → IsAnsweredStatus status → (status ≡ WriteFault → ⊥) → IsUnlessMemory status Done
complete_ending Done h firm = inl refl
complete_ending WriteFault h firm = absurd (firm refl)
complete_ending NoMemory h firm = inr refl
complete_ending BadWords h firm = absurd h
complete_ending (BadImage at cause) h firm = absurd h
complete_ending TooLong h firm = absurd h
complete_ending ReadFault h firm = absurd h
