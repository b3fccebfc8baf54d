-- An engine that goes on with an image has run the phases that the image says are done.
use Rattle.std.proofs.Common.{◌≡◌, ◌≢◌, ℕ, ◌+◌, ◌^◌, ◌<◌, ◌≤◌, ◌∙◌, List, [], ◌∷◌, drop, take, get_or, Option, None, sym, ap, subst, inl, inr, refl, arith, take-append-drop}
use Rattle.std.specs.Prelude.{sum_by}
use Rattle.std.specs.List.{AllByRecursion}
use Rattle.std.proofs.lemmas.List.Sums.{sum_by-append}
use Prim.Native.Nat.{zero, suc}
use Rattle.bc_engine.specs.Engines.{EngineView, EngineStands, HasEmptyChunks}
use Rattle.bc_image.specs.Images.{IsImageListing}
use Rattle.bc_image.specs.Listings.{ListingLists}
use Rattle.bc_image.specs.Pictures.{Pictures}
use Rattle.bc_model.specs.Consistent.{IsState}
use Rattle.bc_model.specs.Lists.{TraceLists}
use Rattle.bc_model.specs.RunLengths.{all_ops_of, ops_of}
use Rattle.bc_model.specs.State.{State}
use Rattle.bc_replay.specs.BetweenPhases.{HasRun}
use Rattle.bc_replay.specs.Courses.{Course, course_from}
use Rattle.bc_replay.specs.Endings.{CourseFits, EndsOutOfHeap}
use Rattle.bc_replay.specs.Outcomes.{IfStatusOutOfHeap, IsOrNoMemory}
use Rattle.bc_replay.specs.PartEndings.{IsEnding}
use Rattle.bc_replay.specs.declared.status.Status.{Status}
use Rattle.bc_replay.specs.declared.status.Status.TheVariants.{Done, BadWords, BadTrace, TooLong, ReadFault, WriteFault, OutOfHeap, NoMemory, BadImage, Mismatch}
use Rattle.bc_replay.proofs.Pieces.{state-none}
use Rattle.bc_cli.specs.Resumes.{GoesWith, OfEachCourse, ReadTogether, ResumedOutOfHeap}

-- with as many births as an image may have each lane can do all operations of a trace that may follow it
pub births-room : (xs : List ℕ) (n : ℕ) → AllByRecursion (λ x. x ≤ 4000000000) xs → n ≤ 150994944 → (j : ℕ) → get_or xs j 0 + n < 2 ^ 32
births-room [] n h few j = omega arith
births-room (x ∷ xs) n h few zero = omega (arith, h.0)
births-room (x ∷ xs) n h few (suc j) = births-room xs n h.1 few j

-- the phases that are left have no more operations than all
pub ops-after : (t : TraceLists) (k : ℕ) → sum_by ops_of (drop k t.phases) ≤ all_ops_of t
ops-after t k = omega (arith, sum_by-append ops_of (take k t.phases) (drop k t.phases), ap (sum_by ops_of) (take-append-drop k t.phases))

pub HasRun-adopted : (t : TraceLists) (l : ListingLists) (s : State) (e : EngineView) → GoesWith l t → IsImageListing l → all_ops_of t ≤ 150994944
    → EngineStands e s → (e.setup ≡ l.setup) × (e.ended ≡ None) × HasEmptyChunks e.running.heap → e.running.serials ≡ l.births → HasRun (course_from t s l.phases) 0 e
HasRun-adopted t l s e goes image few stands h serials =
    let n = sum_by ops_of (drop l.phases t.phases) in
    let less : n ≤ 150994944 = omega (arith, ops-after t l.phases, few) in
    record {
      setup = h.0 ∙ goes.setup;
      going = h.1;
      empty = h.2;
      stands = subst (EngineStands e) (state-none s) stands;
      births = λ j. subst (λ (xs : List ℕ). get_or xs j 0 + n < 2 ^ 32) (sym serials) (births-room l.births n image.births less j);
      fits = λ k lt. absurd (omega arith);
    }

-- what is said of a need for each course is said of each course for the need
pub each-course : (st : Status) (l : ListingLists) (t : TraceLists) (P : Course → ℕ → Type 0)
    → ((s : State) → IsState s → Pictures l s → IfStatusOutOfHeap st (P (course_from t s l.phases))) → IfStatusOutOfHeap st (λ need. OfEachCourse l t (λ c. P c need))
each-course Done l t P h = tt
each-course BadWords l t P h = tt
each-course (BadTrace line cause) l t P h = tt
each-course TooLong l t P h = tt
each-course ReadFault l t P h = tt
each-course WriteFault l t P h = tt
each-course (OutOfHeap need) l t P h = h
each-course NoMemory l t P h = tt
each-course (BadImage at cause) l t P h = tt
each-course Mismatch l t P h = tt

-- of an image and a trace that go together: where all states of a course fit, from a state that the image pictures, and no write fails, the
-- replay is done
pub complete-resumed : (st : Status) (l : ListingLists) (t : TraceLists) (s : State) (held held' : Option (List ℕ)) (heap : Option EngineView) → IsEnding st
    → IfStatusOutOfHeap st (λ need. OfEachCourse l t (λ c. EndsOutOfHeap c held held' heap need)) → IsState s → Pictures l s → CourseFits (course_from t s l.phases) → st ≢ WriteFault → IsOrNoMemory st Done
complete-resumed Done l t s held held' heap h need is p fits firm = inl refl
complete-resumed BadWords l t s held held' heap h need is p fits firm = absurd h
complete-resumed (BadTrace line cause) l t s held held' heap h need is p fits firm = absurd h
complete-resumed TooLong l t s held held' heap h need is p fits firm = absurd h
complete-resumed ReadFault l t s held held' heap h need is p fits firm = absurd h
complete-resumed WriteFault l t s held held' heap h need is p fits firm = absurd (firm refl)
complete-resumed (OutOfHeap n) l t s held held' heap h need is p fits firm =
    absurd (let off = need s is p in let most = fits off.phase n off.cut off.needs.within off.needs.counted in omega (arith, most, off.needs.above))
complete-resumed NoMemory l t s held held' heap h need is p fits firm = inr refl
complete-resumed (BadImage at cause) l t s held held' heap h need is p fits firm = absurd h
complete-resumed Mismatch l t s held held' heap h need is p fits firm = absurd h

-- of the image and the trace that the bytes are
pub same-resumed : (l k : ListingLists) (t u : TraceLists) (s : State) → k ≡ l → u ≡ t → Pictures l s → CourseFits (course_from t s l.phases) → Pictures k s × CourseFits (course_from u s k.phases)
same-resumed l k t u s first second pictured fits = (
  subst (λ (x : ListingLists). Pictures x s) (sym first) pictured,
  subst (λ (x : ListingLists). CourseFits (course_from u s x.phases)) (sym first) (subst (λ (x : TraceLists). CourseFits (course_from x s l.phases)) (sym second) fits),
)

-- a need that was met in a replay of them
pub need-resumed : (st : Status) (left left' held held' : Option (List ℕ)) (heap : Option EngineView) → (found : ReadTogether left left')
    → IfStatusOutOfHeap st (λ need. OfEachCourse found.listing found.trace (λ c. EndsOutOfHeap c held held' heap need)) → IfStatusOutOfHeap st (ResumedOutOfHeap left left' held held' heap)
need-resumed Done left left' held held' heap found h = tt
need-resumed BadWords left left' held held' heap found h = tt
need-resumed (BadTrace line cause) left left' held held' heap found h = tt
need-resumed TooLong left left' held held' heap found h = tt
need-resumed ReadFault left left' held held' heap found h = tt
need-resumed WriteFault left left' held held' heap found h = tt
need-resumed (OutOfHeap need) left left' held held' heap found h = record { found = found; ending = h }
need-resumed NoMemory left left' held held' heap found h = tt
need-resumed (BadImage at cause) left left' held held' heap found h = tt
need-resumed Mismatch left left' held held' heap found h = tt
