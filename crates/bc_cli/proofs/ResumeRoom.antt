-- The room that `resume` wants: four times the bytes that are read, and forty more.
use Rattle.std.proofs.Common.{◌≡◌, ℕ, zero, suc, ◌+◌, ◌*◌, ◌≤◌, List, [], ◌∷◌, length, drop, get_or, map, arith, ap, refl, subst, length-append, Option, Some}
use Rattle.std.specs.Prelude.{sum_by}
use Rattle.std.specs.List.{AllByRecursion}
use Rattle.bc_image.specs.Images.{ImageOf, IsImageListing, image_bytes}
use Rattle.bc_image.specs.Listings.{ListingLists}
use Rattle.bc_image.specs.Pictures.{Pictures}
use Rattle.bc_model.specs.Consistent.{IsState}
use Rattle.bc_model.specs.Lists.{TraceLists}
use Rattle.bc_model.specs.RunLengths.{all_ops_of, ops_of}
use Rattle.bc_model.specs.State.{State, Object, made_by}
use Rattle.bc_model.specs.StateSizes.{HasSizes}
use Rattle.bc_model.specs.WellFormed.{IsPhase, IsTrace}
use Rattle.bc_model.specs.declared.traces.Setup.{Setup}
use Rattle.bc_trace.specs.Lines.{trace_text, Spells}
use Rattle.bc_replay.specs.Courses.{course_from}
use Rattle.bc_replay.specs.Endings.{HasRunRoom}
use Rattle.bc_replay.proofs.CourseStates.{CanRun}
use Rattle.bc_replay.proofs.CutRoom.{course_room}
use Rattle.bc_replay.proofs.Incoming.{length-trace_text}
use Rattle.bc_cli.specs.Limits.{longest_resumed}
use Rattle.bc_cli.specs.Resumes.{GoesWith, HasRoomToResume}
use Rattle.bc_cli.proofs.Resuming.{births-room, ops-after}

-- how many objects a lane has made
made-count : (xs : List (List Object)) (j : ℕ) → get_or (map (λ (made : List Object). length made) xs) j 0 ≡ length (made_by xs j)
made-count [] j = refl
made-count (x ∷ xs) zero = refl
made-count (x ∷ xs) (suc j) = made-count xs j

all-drop : {X : Type 0} (P : X → Type 0) (k : ℕ) (xs : List X) → AllByRecursion P xs → AllByRecursion P (drop k xs)
all-drop P zero xs h = h
all-drop P (suc k) [] h = tt
all-drop P (suc k) (x ∷ xs) h = all-drop P k xs h.1

-- from a state that an image pictures the phases can be run that it says aren't done
can-resume : (t : TraceLists) (l : ListingLists) (s : State) → IsTrace t → GoesWith l t → IsImageListing l → IsState s → Pictures l s → all_ops_of t ≤ 150994944 → CanRun t.setup s (drop l.phases t.phases)
can-resume t l s h goes image is p few =
    let n = sum_by ops_of (drop l.phases t.phases) in
    let less : n ≤ 150994944 = omega (arith, ops-after t l.phases, few) in
    record {
      state = record { state = is; sizes = subst (λ (z : Setup). HasSizes z s) goes.setup p.sizes };
      fits = all-drop (IsPhase t.setup) l.phases t.phases h.phases;
      births = record { below = λ j. omega (arith, births-room l.births n image.births less j, made-count s.made j, ap (λ (xs : List ℕ). get_or xs j 0) p.births) };
    }

resume_fits : (bytes rest : List ℕ) (l : ListingLists) (t : TraceLists) (s : State) (room : ℕ) → length bytes ≤ longest_resumed → ImageOf bytes l rest → Spells rest t → GoesWith l t → IsState s → Pictures l s → 4 * length bytes + 40 ≤ room
    → HasRunRoom (Some room) (course_from t s l.phases)
resume_fits bytes rest l t s room short image h goes is p wide =
    let size : length rest ≡ length (trace_text t) = ap length h.text in
    let count = length-trace_text t h.trace in
    let all = ap length image.spelled in
    let parts = length-append (image_bytes l) rest in
    course_room t s l.phases room h.trace goes.phases (omega (arith, size, count, all, parts, short)) (can-resume t l s h.trace goes image.listing is p (omega (arith, size, count, all, parts, short)))
    (omega (arith, size, all, parts, wide))

pub resume_enough : (bytes : List ℕ) (room : ℕ) → 4 * length bytes + 40 ≤ room → HasRoomToResume (Some bytes) (Some room)
resume_enough bytes room wide = λ read rest l t same short image h goes s is p. resume_fits read rest l t s room short image h goes is p (omega (arith, wide, ap length same))

pub resume_ample : (left : Option (List ℕ)) (room : ℕ) → 4 * longest_resumed + 40 ≤ room → HasRoomToResume left (Some room)
resume_ample left room wide = λ read rest l t given short image h goes s is p. resume_fits read rest l t s room short image h goes is p (omega (arith, wide, short))
