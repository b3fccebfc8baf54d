-- The first phases of a trace that were run, and the image of the heap after them.
use Rattle.std.proofs.Common.{◌≡◌, ◌≢◌, ℕ, ◌+◌, ◌^◌, ◌<◌, ◌≤◌, List, [], ◌∷◌, length, drop, get_or, Option, None, Some, sym, subst, inl, inr, refl, arith}
use Rattle.std.specs.Prelude.{sum_by, Result, Ok, Err, OnOk, OnErr, is_some, false}
use Rattle.std.specs.List.{AllByRecursion}
use Prim.Native.Nat.{suc}
use Rattle.bc_engine.specs.Engines.{EngineView, EngineStands}
use Rattle.bc_engine.proofs.Births.{births-opened}
use Rattle.bc_engine.specs.EngineFacts.{HasRoomForBirths}
use Rattle.bc_engine.specs.Lanes.{HasRoomForOps}
use Rattle.bc_engine.specs.declared.engines.Ended.TheVariants as ends
use Rattle.bc_image.specs.Images.{IsImageListing}
use Rattle.bc_image.specs.Listings.{ListingLists}
use Rattle.bc_image.specs.Pictures.{Pictures}
use Rattle.bc_model.specs.Lists.{PhaseLists, TraceLists}
use Rattle.bc_model.specs.Run.{opening}
use Rattle.bc_model.specs.RunLengths.{all_ops_of, ops_of}
use Rattle.bc_model.specs.State.{State}
use Rattle.bc_model.specs.declared.traces.Setup.{Setup}
use Rattle.bc_model.specs.declared.values.Holder.{Holder}
use Rattle.bc_picture.specs.SpaceListing.{heap_listing}
use Rattle.bc_superpages.specs.Layout.{Layout}
use Rattle.bc_superpages.specs.RootWords.{RootWords}
use Rattle.bc_replay.specs.Courses.{Course, phase_at, whole_course}
use Rattle.bc_replay.specs.Endings.{FirstFit}
use Rattle.bc_replay.specs.Outcomes.{IfStatusOutOfHeap, IsOrNoMemory, ReadAsTrace}
use Rattle.bc_replay.specs.declared.status.Status.{Status}
use Rattle.bc_replay.specs.declared.status.Status.TheVariants.{Done, BadWords, BadTrace, TooLong, ReadFault, WriteFault, OutOfHeap, NoMemory, BadImage, Mismatch}
use Rattle.bc_replay.proofs.Running.{ops-left, ops-below}
use Rattle.bc_cli.specs.PartEndings.{IsSaveEnding, IsUnsavedStatus}
use Rattle.bc_cli.specs.Saves.{CutOffBelow, IsListingOf, SaveRanOutOfHeap}

-- a lane that can make so many objects more has made few
pub births-few : (xs : List ℕ) → ((j : ℕ) → get_or xs j 0 + 294967295 < 2 ^ 32) → AllByRecursion (λ x. x ≤ 4000000000) xs
births-few [] h = tt
births-few (x ∷ xs) h = (omega (arith, h 0), births-few xs (λ j. h (suc j)))

-- the births of the operations that are left, and of so many more
pub births-more : (c : Course) (k n : ℕ) (e : EngineView) (p : PhaseLists) → k < length c.phases → phase_at c k ≡ p → HasRoomForBirths e (sum_by ops_of (drop k c.phases) + n)
    → HasRoomForOps e p.lanes (sum_by ops_of (drop (k + 1) c.phases) + n)
births-more c k n e p lt at h = λ j. omega (arith, h j, ops-left c k p lt at, ops-below p.lanes j)

-- where none was found
pub not-some : (found : Option ℕ) → is_some found ≡ false → found ≡ None
not-some None e = refl
not-some (Some need) e = cc

-- what a need is that was found
pub need-told : {X : Type 0} (found wanted : Option ℕ) (r : Result (Option ℕ) X) → r ≡ Ok found → r ≡ Ok wanted → found ≡ wanted
need-told found wanted r is e = cc

-- a heap that was too small for one of the first phases hasn't run out of memory
pub cut-alive : (c : Course) (count : ℕ) (e : EngineView) (need : ℕ) → CutOffBelow c count (Some e) need → e.ended ≢ Some ends.NoMemory
cut-alive c count e need off = λ gone. let told = off.ending.handed.ended in cc

-- where all states of the first phases fit and no write fails the image is written
pub complete-save : (st : Status) (t : TraceLists) (count : ℕ) (heap : Option EngineView) → IsSaveEnding st → (st ≡ Mismatch → length t.phases < count) → IfStatusOutOfHeap st (CutOffBelow (whole_course t) count heap)
    → count ≤ length t.phases → FirstFit (whole_course t) count → st ≢ WriteFault → IsOrNoMemory st Done
complete-save Done t count heap h fewer need enough fits firm = inl refl
complete-save BadWords t count heap h fewer need enough fits firm = absurd h
complete-save (BadTrace line cause) t count heap h fewer need enough fits firm = absurd h
complete-save TooLong t count heap h fewer need enough fits firm = absurd h
complete-save ReadFault t count heap h fewer need enough fits firm = absurd h
complete-save WriteFault t count heap h fewer need enough fits firm = absurd (firm refl)
complete-save (OutOfHeap n) t count heap h fewer need enough fits firm =
    absurd (let off = need.ending in let most = fits need.phase n off.cut need.below off.needs.counted in omega (arith, most, off.needs.above))
complete-save NoMemory t count heap h fewer need enough fits firm = inr refl
complete-save (BadImage at cause) t count heap h fewer need enough fits firm = absurd h
complete-save Mismatch t count heap h fewer need enough fits firm = absurd (omega (arith, fewer refl, enough))

-- of a trace with fewer phases nothing is saved
pub fewer-save : (st : Status) (phases count : ℕ) → (st ≢ Mismatch → count ≤ phases) → phases < count → IsSaveEnding st → IsOrNoMemory st Mismatch
fewer-save Done phases count enough fewer h = absurd (let le = enough (λ e. cc) in omega (arith, le, fewer))
fewer-save BadWords phases count enough fewer h = absurd h
fewer-save (BadTrace line cause) phases count enough fewer h = absurd h
fewer-save TooLong phases count enough fewer h = absurd h
fewer-save ReadFault phases count enough fewer h = absurd h
fewer-save WriteFault phases count enough fewer h = absurd (let le = enough (λ e. cc) in omega (arith, le, fewer))
fewer-save (OutOfHeap n) phases count enough fewer h = absurd (let le = enough (λ e. cc) in omega (arith, le, fewer))
fewer-save NoMemory phases count enough fewer h = inr refl
fewer-save (BadImage at cause) phases count enough fewer h = absurd h
fewer-save Mismatch phases count enough fewer h = inl refl

-- ---- a command that writes nothing

pub unsaved-ending : (st : Status) → IsUnsavedStatus st → IsSaveEnding st
unsaved-ending Done h = tt
unsaved-ending BadWords h = h
unsaved-ending (BadTrace line cause) h = h
unsaved-ending TooLong h = h
unsaved-ending ReadFault h = h
unsaved-ending WriteFault h = tt
unsaved-ending (OutOfHeap need) h = tt
unsaved-ending NoMemory h = tt
unsaved-ending (BadImage at cause) h = h
unsaved-ending Mismatch h = tt

-- what is said of a need, with what holds anyway
pub need-untouched : (st : Status) (P : ℕ → Type 0) (Q : Type 0) → IfStatusOutOfHeap st P → Q → IfStatusOutOfHeap st (λ need. P need × Q)
need-untouched Done P Q h q = tt
need-untouched BadWords P Q h q = tt
need-untouched (BadTrace line cause) P Q h q = tt
need-untouched TooLong P Q h q = tt
need-untouched ReadFault P Q h q = tt
need-untouched WriteFault P Q h q = tt
need-untouched (OutOfHeap need) P Q h q = (h, q)
need-untouched NoMemory P Q h q = tt
need-untouched (BadImage at cause) P Q h q = tt
need-untouched Mismatch P Q h q = tt

-- ---- the image that is written

-- what a success or an error says goes over to what follows from it
pub ok-more : {T E : Type 0} (P Q : Type 0) (r : Result T E) → OnOk r P → (P → Q) → OnOk r Q
ok-more P Q (Ok x) h more = more h
ok-more P Q (Err e) h more = h

pub error-more : {T E : Type 0} (P Q : Type 0) (r : Result T E) → OnErr r P → (P → Q) → OnErr r Q
error-more P Q (Ok x) h more = h
error-more P Q (Err e) h more = more h

-- what can be written of a heap is such an image, of every state that it pictures
pub listing-of : (version : ℕ) (setup : Setup) (done : ℕ) (holders : List Holder) (births : List ℕ) (r : RootWords) (s : Layout) (state : State) → IsImageListing (heap_listing version setup done holders births r s) → Pictures (heap_listing version setup done holders births r s) state
    → IsListingOf version setup done state (heap_listing version setup done holders births r s)
listing-of version setup done holders births r s state image pictures = record { image = image; version = refl; setup = refl; phases = refl; pictures = pictures }

-- such an image of a trace's version and setup is one of the trace
pub of-trace : (t : TraceLists) (version : ℕ) (setup : Setup) (done : ℕ) (s : State) (l : ListingLists) → version ≡ t.version → setup ≡ t.setup → IsListingOf version setup done s l → IsListingOf t.version t.setup done s l
of-trace t version setup done s l v same h = subst (λ (n : ℕ). IsListingOf n t.setup done s l) v (subst (λ (z : Setup). IsListingOf version z done s l) same h)

-- of an engine that has run phases of a trace that was read
pub births-saved : (t : TraceLists) (setup : Setup) (e f : EngineView) (count : ℕ) (xs : List ℕ) → all_ops_of t + length t.phases ≤ 16777216 → EngineStands e (opening setup)
    → ((n : ℕ) → HasRoomForBirths e (sum_by ops_of t.phases + n) → HasRoomForBirths f (sum_by ops_of (drop count t.phases) + n)) → xs ≡ f.running.serials → AllByRecursion (λ x. x ≤ 4000000000) xs
births-saved t setup e f count xs few stands more is =
    let room : HasRoomForBirths f (sum_by ops_of (drop count t.phases) + 294967295) = more 294967295 (births-opened setup e _ (omega (arith, few)) stands) in
    subst (AllByRecursion (λ x. x ≤ 4000000000)) (sym is) (births-few f.running.serials (λ j. omega (arith, room j)))

-- ---- of the trace that was read

pub same-saved : (t u : TraceLists) (count : ℕ) → u ≡ t → count ≤ length t.phases → FirstFit (whole_course t) count → (count ≤ length u.phases) × FirstFit (whole_course u) count
same-saved t u count same enough fits =
    (subst (λ (x : TraceLists). count ≤ length x.phases) (sym same) enough, subst (λ (x : TraceLists). FirstFit (whole_course x) count) (sym same) fits)

-- what is said of a need, without what is said of the sink
pub need-alone : (st : Status) (P : ℕ → Type 0) (Q : Type 0) → IfStatusOutOfHeap st (λ need. P need × Q) → IfStatusOutOfHeap st P
need-alone Done P Q h = tt
need-alone BadWords P Q h = tt
need-alone (BadTrace line cause) P Q h = tt
need-alone TooLong P Q h = tt
need-alone ReadFault P Q h = tt
need-alone WriteFault P Q h = tt
need-alone (OutOfHeap need) P Q h = h.0
need-alone NoMemory P Q h = tt
need-alone (BadImage at cause) P Q h = tt
need-alone Mismatch P Q h = tt

-- a need that was met in the first phases of a trace that was read
pub need-saved : (st : Status) (left left' : Option (List ℕ)) (t : TraceLists) (count : ℕ) (heap : Option EngineView) (Q : Type 0) → ReadAsTrace left left' t → (st ≢ Mismatch → count ≤ length t.phases)
    → IfStatusOutOfHeap st (λ need. CutOffBelow (whole_course t) count heap need × Q) → IfStatusOutOfHeap st (λ need. SaveRanOutOfHeap left left' count heap need × Q)
need-saved Done left left' t count heap Q read enough h = tt
need-saved BadWords left left' t count heap Q read enough h = tt
need-saved (BadTrace line cause) left left' t count heap Q read enough h = tt
need-saved TooLong left left' t count heap Q read enough h = tt
need-saved ReadFault left left' t count heap Q read enough h = tt
need-saved WriteFault left left' t count heap Q read enough h = tt
need-saved (OutOfHeap need) left left' t count heap Q read enough h = (record { trace = t; read = read; enough = enough (λ e. cc); ending = h.0 }, h.1)
need-saved NoMemory left left' t count heap Q read enough h = tt
need-saved (BadImage at cause) left left' t count heap Q read enough h = tt
need-saved Mismatch left left' t count heap Q read enough h = tt

-- what is said of the need of a status
pub need-of : (st : Status) (need : ℕ) (P : ℕ → Type 0) → st ≡ OutOfHeap need → P need → IfStatusOutOfHeap st P
need-of st need P e h = rw e h
