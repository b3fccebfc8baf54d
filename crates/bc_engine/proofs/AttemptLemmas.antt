-- Attempts of lanes one after another: none, one more, and that a lane stopped among them.
use Rattle.std.proofs.Common.{Vec, Global, ◌≡◌, ℕ, ◌+◌, ◌<◌, List, [], ◌∷◌, ◌++◌, length, set, Ok, Err, Result, refl, sym, ap, subst, ◌∙◌, inl, inr, arith, get_or-set_same}
use Prim.Native.Nat.{zero, suc}
use Rattle.std.proofs.lemmas.Bool.{cases_eq}
use Rattle.std.proofs.lemmas.List.{length-map}
use Rattle.std.specs.Result.{OnErr}
use Rattle.std.specs.Prelude.{IsErrOf}
use Rattle.bc_bookmarks.specs.Moves.{NoPageGoes}
use Rattle.bc_model.specs.Rows.{lists_of}
use Rattle.bc_model.specs.declared.operations.Op.{Op}
use Rattle.bc_model.specs.declared.operations.Reply.{Reply}
use Rattle.bc_mutator.specs.Operations.{NeedsEntry, WantsMore}
use Rattle.bc_mutator.specs.declared.operations.Stop.{Stop}
use Rattle.bc_mutator.specs.declared.operations.Stop.TheVariants.{NurseryFull, BufferFull, NoFrame}
use Rattle.bc_nursery.specs.Objects.{left_of}
use Rattle.bc_whole_heap.specs.Closed.{buffer_of}
use Rattle.bc_whole_heap.specs.LaneChunks.{chunk_of}
use Rattle.bc_engine.specs.Attempts.{Attempted, DoesAlone, IsReplied, RanAttempts, RanByAttempts, StoppedAlone, StopsAlone}
use Rattle.bc_engine.specs.Lanes.{of_lane, IsAtEndOr, LanesRan, LeavesCells, LeavesOthers, Stops}
use Rattle.bc_engine.proofs.RunLemmas.{IsKept, cells-same, cells-then, lists-pushed, runs-same, runs-then, told-other}
use Rattle.bc_running.specs.Running.{RunningView}
use Rattle.bc_running.specs.RunningFacts.{with_space}
use Rattle.bc_running.specs.Touching.{BringsHome, LooksAtGone}

-- no attempt was made
pub attempts-none : (lanes : List (List Op)) (r : RunningView) (told : List (List Reply)) → RanByAttempts lanes r told r told
attempts-none lanes r told = (0, (refl, refl))

-- one was
pub attempts-one : {lanes : List (List Op)} {r q : RunningView} {told answers : List (List Reply)} → Attempted lanes r told q answers → RanByAttempts lanes r told q answers
attempts-one {lanes} {r} {q} {told} {answers} one = (suc 0, (r, told, (refl, refl), one))

-- and so many more after others
attempts-more : {lanes : List (List Op)} {r q : RunningView} {told mid : List (List Reply)} → RanByAttempts lanes r told q mid → (n : ℕ) (x : RunningView) (answers : List (List Reply)) → RanAttempts lanes q mid n x answers → RanByAttempts lanes r told x answers
attempts-more {lanes} {r} {q} {told} {mid} first zero x answers same =
    subst (λ (y : RunningView). RanByAttempts lanes r told y answers) (sym same.0) (subst (λ (rs : List (List Reply)). RanByAttempts lanes r told q rs) (sym same.1) first)
attempts-more {lanes} {r} {q} {told} {mid} first (suc n) x answers more =
    let before = attempts-more first n more.0 more.1 more.2 in
    (suc before.0, (more.0, more.1, before.1, more.3))

pub attempts-then : {lanes : List (List Op)} {r q x : RunningView} {told mid answers : List (List Reply)} → RanByAttempts lanes r told q mid → RanByAttempts lanes q mid x answers → RanByAttempts lanes r told x answers
attempts-then {lanes} {r} {q} {x} {told} {mid} {answers} first second = attempts-more first second.0 x answers second.1

-- the reply of an operation that was done is kept
replied : {lanes : List (List Op)} {vs : List (Vec Reply Global)} {lane : ℕ} {op : Op} {reply : Reply} {w : Vec Reply Global} → IsKept lanes lane op reply vs w → IsReplied lane reply (lists_of vs) (lists_of (set vs lane w))
replied {lanes} {vs} {lane} {op} {reply} {w} kept =
    let told = lists_of vs in
    let there : lane < length told = omega (arith, kept.there, length-map vs (λ (x : Vec Reply Global). x.items)) in (
      ap (λ (rs : List (List Reply)). of_lane rs lane) (lists-pushed vs lane kept.before w reply kept.there kept.is kept.pushed) ∙ get_or-set_same told lane (of_lane told lane ++ reply ∷ []) [] there,
      λ l ne. told-other vs lane l w ne,
    )

pub attempts-done : {lanes : List (List Op)} {r q : RunningView} {vs : List (Vec Reply Global)} {lane : ℕ} {op : Op} {reply : Reply} {w : Vec Reply Global} → IsKept lanes lane op reply vs w → DoesAlone lane op r reply q → RanByAttempts lanes r (lists_of vs) q (lists_of (set vs lane w))
attempts-done {lanes} {r} {q} {vs} {lane} {op} {reply} {w} kept does =
    attempts-one (record { lane = lane; op = op; less = kept.less; next = kept.at; way = inl (reply, does, replied kept) })

-- what an operation that stops has changed
pub stops-told : {lane : ℕ} {op : Op} {r q : RunningView} (x : Result Reply Stop)
    → (IsErrOf x NurseryFull → WantsMore r.holders lane (left_of (chunk_of r.heap.chunks lane)) op) → (IsErrOf x NurseryFull → q ≡ r)
    → (IsErrOf x BufferFull → NeedsEntry r.holders lane r.heap.space r.heap.roots (chunk_of r.heap.chunks lane) (buffer_of r.heap.buffers lane) op)
    → (IsErrOf x BufferFull → BringsHome r.holders lane r.heap.space r.heap.roots op q.heap.space)
    → (IsErrOf x NoFrame → LooksAtGone r.holders lane r.heap.space r.heap.roots op × NoPageGoes r.heap.space) → (IsErrOf x NoFrame → q ≡ r)
    → q ≡ with_space r q.heap.space → OnErr x (StopsAlone lane op r q)
stops-told (Ok reply) wants full needs brings looks kept rest = tt
stops-told (Err NurseryFull) wants full needs brings looks kept rest = inl (wants refl, full refl)
stops-told (Err BufferFull) wants full needs brings looks kept rest = inr (inl (needs refl, brings refl, rest))
stops-told (Err NoFrame) wants full needs brings looks kept rest = inr (inr ((looks refl).0, (looks refl).1, kept refl))

-- the lanes that have run so far have stopped, and so has the next one
pub stopped-more : (lanes : List (List Op)) {lane : ℕ} {s r q : RunningView} {begun told answers : List (Vec Reply Global)} → LanesRan lanes s begun r told → LanesRan lanes r told q answers → LeavesCells s r → LeavesCells r q
    → RanByAttempts lanes s (lists_of begun) r (lists_of told) → RanByAttempts lanes r (lists_of told) q (lists_of answers) → LeavesOthers lane r (lists_of told) q (lists_of answers)
    → ((j : ℕ) → j < lane → StoppedAlone lanes s begun r told j) → IsAtEndOr (of_lane lanes lane) (of_lane (lists_of answers) lane) (λ op. Stops lane op q) → (j : ℕ) → j < lane + 1 → StoppedAlone lanes s begun q answers j
stopped-more lanes {lane} {s} {r} {q} {begun} {told} {answers} first runs cells more so_far then leaves before here j lt = elim (cases_eq j lane) [
  | inl e ↦
      subst (λ (l : ℕ). StoppedAlone lanes s begun q answers l) (sym e)
      (record {
        stopped = record {
          at = q;
          told = answers;
          first = runs-then first runs;
          later = runs-same lanes q q answers refl;
          leaves = cells-then cells more;
          keeps = cells-same q;
          chunk = refl;
          buffer = refl;
          same = refl;
          why = here;
        };
        to = attempts-then so_far then;
        on = attempts-none lanes q (lists_of answers);
      })
  | inr ne ↦
      let at = before j (omega (arith, lt, ne)) in
      let stopped = at.stopped in
      record {
        stopped = record {
          at = stopped.at;
          told = stopped.told;
          first = stopped.first;
          later = runs-then stopped.later runs;
          leaves = stopped.leaves;
          keeps = cells-then stopped.keeps more;
          chunk = leaves.chunk j ne ∙ stopped.chunk;
          buffer = leaves.buffer j ne ∙ stopped.buffer;
          same = leaves.replies j ne ∙ stopped.same;
          why = stopped.why;
        };
        to = at.to;
        on = attempts-then at.on then;
      }
]
