-- Stretches of a phase, as the code keeps its replies.
use Rattle.std.proofs.Common.{Vec, Global, vec_capacity, vec_len, ◌≡◌, ◌≢◌, ℕ, ◌+◌, ◌-◌, ◌<◌, ◌≤◌, Bool, true, false, List, [], ◌∷◌, ◌++◌, length, get_or, set, refl, sym, ap, subst, ◌∙◌, inl, inr, arith, get_or-set_same, get_or-set_other, length-set}
use Prim.Native.Nat.{zero, suc}
use Rattle.std.proofs.lemmas.Bool.{cases_eq}
use Rattle.std.proofs.lemmas.List.{get_or-map, map-set, length_push, length-map}
use Rattle.std.specs.List.{AllByRecursion}
use Rattle.bc_whole_heap.specs.Closed.{buffer_of}
use Rattle.bc_whole_heap.specs.LaneChunks.{chunk_of}
use Rattle.bc_running.specs.Running.{RunningView, RunningStands}
use Rattle.bc_turn.specs.Taking.{HasAllReplyRoom}
use Rattle.bc_superpages.specs.Layout.{Layout}
use Rattle.bc_superpages.specs.RootWords.{RootWords}
use Rattle.bc_model.specs.Rows.{lists_of}
use Rattle.bc_model.specs.WellFormed.{IsOp}
use Rattle.bc_model.proofs.Runs.{at-index}
use Rattle.bc_model.specs.State.{State}
use Rattle.bc_model.specs.declared.operations.Op.{Op}
use Rattle.bc_model.specs.declared.operations.Reply.{Reply}
use Rattle.bc_model.specs.declared.traces.Setup.{Setup}
use Rattle.bc_engine.specs.EngineFacts.{CanRunLanes}
use Rattle.bc_engine.specs.Lanes.{of_lane, BirthsWithin, Does, EachFurther, LanesWentOn, HasSerialsLeft, IsOneMore, LeavesCells, LeavesOthers, LanesRan, left}
use Rattle.bc_engine.proofs.Attempts.{IsMoved, means-moved, ready-moved}
use Rattle.bc_engine.proofs.GoingLemmas.{with_reply, goes-none, goes-then, goes-step}

-- nothing was done, and the heap stands for what it stood for
pub runs-none : (lanes : List (List Op)) (r q : RunningView) (told : List (Vec Reply Global)) → q.holders ≡ r.holders → q.serials ≡ r.serials → ((state : State) → RunningStands r state → RunningStands q state) → ((setup : Setup) → CanRunLanes setup r → CanRunLanes setup q) → LanesRan lanes r told q told
runs-none lanes r q told held same means ready = record {
  goes = goes-none lanes r q (lists_of told) means;
  underway = λ setup u. record {
    ready = ready setup u.ready;
    each = u.each;
    ops = u.ops;
    long = u.long;
    room = u.room;
    births = subst (λ (ns : List ℕ). HasSerialsLeft lanes ns (lists_of told)) (sym same) u.births;
  };
  births = λ j. omega (arith, ap (λ (ns : List ℕ). get_or ns j 0) same);
  held = held;
}

pub runs-same : (lanes : List (List Op)) (r q : RunningView) (told : List (Vec Reply Global)) → q ≡ r → LanesRan lanes r told q told
runs-same lanes r q told same =
    subst (λ (x : RunningView). LanesRan lanes r told x told) (sym same) (runs-none lanes r r told refl refl (λ state st. st) (λ setup ready. ready))

pub runs-then : {lanes : List (List Op)} {r q x : RunningView} {told mid answers : List (Vec Reply Global)} → LanesRan lanes r told q mid → LanesRan lanes q mid x answers → LanesRan lanes r told x answers
runs-then g e = record {
  goes = goes-then g.goes e.goes;
  underway = λ setup u. e.underway setup (g.underway setup u);
  births = λ j. omega (arith, e.births j, g.births j);
  held = e.held ∙ g.held;
}

-- pages moved, and nothing was done
pub runs-moved : (lanes : List (List Op)) (r q : RunningView) (told : List (Vec Reply Global)) → IsMoved r q → LanesRan lanes r told q told
runs-moved lanes r q told moved =
    runs-none lanes r q told (ap (λ (x : RunningView). x.holders) moved.1) (ap (λ (x : RunningView). x.serials) moved.1) (λ state st. means-moved moved.0 moved.1 state st) (λ setup ready. ready-moved setup moved.0 moved.1 ready)

-- the list behind a lane's Vec
pub of_lane-vec : {X : Type 0} (vs : List (Vec X Global)) (lane : ℕ) (v : Vec X Global) → lane < length vs → v ≡ get_or vs lane v → of_lane (lists_of vs) lane ≡ v.items
of_lane-vec {X} vs lane v within is = get_or-map (λ (x : Vec X Global). x.items) vs lane v [] within ∙ ap (λ (x : Vec X Global). x.items) (sym is)

pub lists-pushed : (vs : List (Vec Reply Global)) (lane : ℕ) (v w : Vec Reply Global) (reply : Reply) → lane < length vs → v ≡ get_or vs lane v → w.items ≡ v.items ++ reply ∷ [] → lists_of (set vs lane w) ≡ with_reply (lists_of vs) lane reply
lists-pushed vs lane v w reply within is pushed =
    map-set (λ (x : Vec Reply Global). x.items) vs lane w
    ∙ ap (set (lists_of vs) lane) (pushed ∙ ap (λ (rs : List Reply). rs ++ reply ∷ []) (sym (of_lane-vec vs lane v within is)))

-- one reply more leaves one operation less, and one birth more at most
births-step : (lanes : List (List Op)) (lane : ℕ) (op : Op) {r q : RunningView} (reply : Reply) (told : List (List Reply)) → lane < length told → length (of_lane told lane) < length (of_lane lanes lane) → Does lane op r reply q → BirthsWithin lanes r.serials told q.serials (with_reply told lane reply)
births-step lanes lane op {r} {q} reply told within less does j =
    let answers = with_reply told lane reply in
    elim (cases_eq j lane) [
      | inl e ↦
          let long : length (of_lane answers lane) ≡ length (of_lane told lane) + 1 = ap length (get_or-set_same told lane (of_lane told lane ++ reply ∷ []) [] within) ∙ length_push (of_lane told lane) reply in
          subst (λ (m : ℕ). get_or q.serials m 0 + (length (of_lane lanes m) - length (of_lane answers m)) ≤ get_or r.serials m 0 + (length (of_lane lanes m) - length (of_lane told m))) (sym e) (omega (arith, long, less, does.own))
      | inr ne ↦
          let same : length (of_lane answers j) ≡ length (of_lane told j) = ap length (get_or-set_other told lane j (of_lane told lane ++ reply ∷ []) [] ne) in
          omega (arith, same, does.others j ne)
    ]

-- serials that were enough before are enough later
pub serials-later : (lanes : List (List Op)) (serials next : List ℕ) (told answers : List (List Reply)) → BirthsWithin lanes serials told next answers → HasSerialsLeft lanes serials told → HasSerialsLeft lanes next answers
serials-later lanes serials next told answers births fits j = omega (arith, births j, fits j)

room-step : (lanes : List (List Op)) (vs : List (Vec Reply Global)) (lane : ℕ) (v w : Vec Reply Global) → lane < length vs → v ≡ get_or vs lane v → vec_capacity w ≡ vec_capacity v → HasAllReplyRoom lanes vs → (j : ℕ) (x : Vec Reply Global) → j < length (set vs lane w) → x ≡ get_or (set vs lane w) j x → length (of_lane lanes j) ≤ vec_capacity x
room-step lanes vs lane v w within is capacity room j x below there = elim (cases_eq j lane) [
  | inl e ↦
      let at : x ≡ w = there ∙ ap (λ (m : ℕ). get_or (set vs lane w) m x) e ∙ get_or-set_same vs lane w x within in
      subst (λ (m : ℕ). length (of_lane lanes m) ≤ vec_capacity x) (sym e) (omega (arith, room lane v within is, capacity, ap vec_capacity at))
  | inr ne ↦ room j x (omega (arith, below, length-set vs lane w)) (there ∙ get_or-set_other vs lane j w x ne)
]

-- how many items the Vec has
pub of_lane-long : {X : Type 0} (vs : List (Vec X Global)) (lane n : ℕ) (v : Vec X Global) → lane < length vs → v ≡ get_or vs lane v → n ≡ vec_len v → length (of_lane (lists_of vs) lane) ≡ n
of_lane-long {X} vs lane n v within is count = ap length (of_lane-vec vs lane v within is) ∙ sym v.ok.0 ∙ sym count

-- an operation of it
pub of_lane-at : {X : Type 0} (vs : List (Vec X Global)) (lane n : ℕ) (v : Vec X Global) (x : X) → lane < length vs → v ≡ get_or vs lane v → x ≡ get_or v.items n x → x ≡ get_or (of_lane (lists_of vs) lane) n x
of_lane-at {X} vs lane n v x within is at = at ∙ ap (λ (xs : List X). get_or xs n x) (sym (of_lane-vec vs lane v within is))

-- it fits the setup
pub op-fits : (setup : Setup) (lanes : List (List Op)) (lane n : ℕ) (op : Op) → AllByRecursion (AllByRecursion (IsOp setup)) lanes → lane < length lanes → n < length (of_lane lanes lane) → op ≡ get_or (of_lane lanes lane) n op → IsOp setup op
op-fits setup lanes lane n op ops within less at =
    subst (IsOp setup) (sym at) (at-index (IsOp setup) (of_lane lanes lane) n op (at-index (AllByRecursion (IsOp setup)) lanes lane [] ops within) less)

-- what an operation that was done has to do with the lists: it was the lane's next one, and its reply was kept after the others
pub record IsKept (lanes : List (List Op)) (lane : ℕ) (op : Op) (reply : Reply) (vs : List (Vec Reply Global)) (w : Vec Reply Global) : Type 0 where
  pub within : lane < length lanes
  pub there : lane < length vs
  pub less : length (of_lane (lists_of vs) lane) < length (of_lane lanes lane)
  pub at : op ≡ get_or (of_lane lanes lane) (length (of_lane (lists_of vs) lane)) op
  pub before : Vec Reply Global
  pub is : before ≡ get_or vs lane before
  pub pushed : w.items ≡ before.items ++ reply ∷ []
  pub capacity : vec_capacity w ≡ vec_capacity before

-- an operation was done, and its reply was kept
pub runs-step : {lanes : List (List Op)} {r q : RunningView} {vs : List (Vec Reply Global)} {lane : ℕ} {op : Op} {reply : Reply} {w : Vec Reply Global} → IsKept lanes lane op reply vs w → Does lane op r reply q → ((setup : Setup) → CanRunLanes setup r → CanRunLanes setup q) → LanesRan lanes r vs q (set vs lane w)
runs-step {lanes} {r} {q} {vs} {lane} {op} {reply} {w} kept does ready =
    let told = lists_of vs in
    let answers : lists_of (set vs lane w) ≡ with_reply told lane reply = lists-pushed vs lane kept.before w reply kept.there kept.is kept.pushed in
    let there : lane < length told = omega (arith, kept.there, length-map vs (λ (x : Vec Reply Global). x.items)) in
    let births : BirthsWithin lanes r.serials told q.serials (lists_of (set vs lane w)) =
    subst (λ (rs : List (List Reply)). BirthsWithin lanes r.serials told q.serials rs) (sym answers) (births-step lanes lane op reply told there kept.less does) in
    record {
      goes = subst (λ (rs : List (List Reply)). LanesWentOn lanes r told q rs) (sym answers) (goes-step lanes told lane op reply kept.within there kept.less kept.at does);
      underway = λ setup u. record {
        ready = ready setup u.ready;
        each = u.each;
        ops = u.ops;
        long = length-set vs lane w ∙ u.long;
        room = room-step lanes vs lane kept.before w kept.there kept.is kept.capacity u.room;
        births = serials-later lanes r.serials q.serials told (lists_of (set vs lane w)) births u.births;
      };
      births = births;
      held = does.held;
    }

pub one-more : {lanes : List (List Op)} {vs : List (Vec Reply Global)} {lane : ℕ} {op : Op} {reply : Reply} {w : Vec Reply Global} → IsKept lanes lane op reply vs w → IsOneMore (of_lane lanes lane) (of_lane (lists_of vs) lane) (of_lane (lists_of (set vs lane w)) lane)
one-more {lanes} {vs} {lane} {op} {reply} {w} kept =
    let told = lists_of vs in
    let there : lane < length told = omega (arith, kept.there, length-map vs (λ (x : Vec Reply Global). x.items)) in (
      kept.less,
      ap (λ (rs : List (List Reply)). length (of_lane rs lane)) (lists-pushed vs lane kept.before w reply kept.there kept.is kept.pushed)
          ∙ ap length (get_or-set_same told lane (of_lane told lane ++ reply ∷ []) [] there) ∙ length_push (of_lane told lane) reply,
    )

-- what is to come gets less
pub left-le : (lanes : List (List Op)) (told answers : List (List Reply)) → ((j : ℕ) → length (of_lane told j) ≤ length (of_lane answers j)) → left lanes answers ≤ left lanes told
left-le [] told answers more = omega arith
left-le (ops ∷ lanes) [] [] more = omega arith
left-le (ops ∷ lanes) [] (a ∷ bs) more = omega (arith, left-le lanes [] bs (λ j. more (suc j)))
left-le (ops ∷ lanes) (t ∷ ts) [] more = omega (arith, more 0, left-le lanes ts [] (λ j. more (suc j)))
left-le (ops ∷ lanes) (t ∷ ts) (a ∷ bs) more = omega (arith, more 0, left-le lanes ts bs (λ j. more (suc j)))

pub left-less : (lanes : List (List Op)) (told answers : List (List Reply)) (j : ℕ) → ((i : ℕ) → length (of_lane told i) ≤ length (of_lane answers i)) → j < length lanes → length (of_lane told j) < length (of_lane lanes j) → length (of_lane told j) < length (of_lane answers j) → left lanes answers < left lanes told
left-less [] told answers j more within some further = absurd (omega arith)
left-less (ops ∷ lanes) [] [] j more within some further = absurd (omega arith)
left-less (ops ∷ lanes) [] (a ∷ bs) zero more within some further = omega (arith, left-le lanes [] bs (λ i. more (suc i)))
left-less (ops ∷ lanes) [] (a ∷ bs) (suc j) more within some further = omega (arith, left-less lanes [] bs j (λ i. more (suc i)) (omega arith) some further)
left-less (ops ∷ lanes) (t ∷ ts) [] j more within some further = absurd (omega (arith, further))
left-less (ops ∷ lanes) (t ∷ ts) (a ∷ bs) zero more within some further = omega (arith, left-le lanes ts bs (λ i. more (suc i)))
left-less (ops ∷ lanes) (t ∷ ts) (a ∷ bs) (suc j) more within some further = omega (arith, more 0, left-less lanes ts bs j (λ i. more (suc i)) (omega arith) some further)

-- the lanes from one on have the replies that they had
abbrev pub AreAsBefore : ℕ → List (List Reply) → List (List Reply) → Type 0
AreAsBefore n told mid = (j : ℕ) → n ≤ j → of_lane mid j ≡ of_lane told j

-- one lane more has done an operation, unless it was at its end
pub each-further : (lanes : List (List Op)) (told mid answers : List (List Reply)) (n : ℕ) (b : Bool) → AreAsBefore n told mid → ((j : ℕ) → j ≢ n → of_lane answers j ≡ of_lane mid j) → EachFurther n lanes told mid → (b ≡ true → IsOneMore (of_lane lanes n) (of_lane mid n) (of_lane answers n)) → (b ≡ false → length (of_lane lanes n) ≤ length (of_lane mid n)) → EachFurther (n + 1) lanes told answers
each-further lanes told mid answers n b before others each one none j lt some = elim (cases_eq j n) [
  | inl e ↦
      subst (λ (m : ℕ). length (of_lane answers m) ≡ length (of_lane told m) + 1) (sym e)
      (here b one none (subst (λ (m : ℕ). length (of_lane told m) < length (of_lane lanes m)) e some))
  | inr ne ↦ ap length (others j ne) ∙ each j (omega (arith, lt, ne)) some
]
  where
    same : length (of_lane mid n) ≡ length (of_lane told n)
    same = ap length (before n (omega arith))

    here : (t : Bool) → (t ≡ true → IsOneMore (of_lane lanes n) (of_lane mid n) (of_lane answers n)) → (t ≡ false → length (of_lane lanes n) ≤ length (of_lane mid n)) → length (of_lane told n) < length (of_lane lanes n) → length (of_lane answers n) ≡ length (of_lane told n) + 1
    here true yes_one at_end less = (yes_one refl).1 ∙ ap (λ (k : ℕ). k + 1) same
    here false yes_one at_end less = absurd (let end = at_end refl in omega (arith, end, less, same))

-- and the lanes after it are as before
pub as-before : {lane : ℕ} {r q : RunningView} {mid answers : List (List Reply)} (told : List (List Reply)) → AreAsBefore lane told mid → LeavesOthers lane r mid q answers → AreAsBefore (lane + 1) told answers
as-before {lane} told before leaves j le = leaves.replies j (omega (arith, le)) ∙ before j (omega (arith, le))

-- the replies of another lane
pub told-other : (vs : List (Vec Reply Global)) (lane l : ℕ) (w : Vec Reply Global) → l ≢ lane → of_lane (lists_of (set vs lane w)) l ≡ of_lane (lists_of vs) l
told-other vs lane l w ne =
    ap (λ (rs : List (List Reply)). of_lane rs l) (map-set (λ (x : Vec Reply Global). x.items) vs lane w) ∙ get_or-set_other (lists_of vs) lane l w.items [] ne

pub leaves-moved : (lane : ℕ) (r q : RunningView) (told : List (List Reply)) → IsMoved r q → LeavesOthers lane r told q told
leaves-moved lane r q told moved = record {
  chunk = λ l ne. ap (λ (x : RunningView). chunk_of x.heap.chunks l) moved.1;
  buffer = λ l ne. ap (λ (x : RunningView). buffer_of x.heap.buffers l) moved.1;
  replies = λ l ne. refl;
  held = ap (λ (x : RunningView). x.holders) moved.1;
}

pub leaves-same : (lane : ℕ) (r q : RunningView) (told : List (List Reply)) → q ≡ r → LeavesOthers lane r told q told
leaves-same lane r q told same = record {
  chunk = λ l ne. ap (λ (x : RunningView). chunk_of x.heap.chunks l) same;
  buffer = λ l ne. ap (λ (x : RunningView). buffer_of x.heap.buffers l) same;
  replies = λ l ne. refl;
  held = ap (λ (x : RunningView). x.holders) same;
}

pub leaves-then : {lane : ℕ} {r q x : RunningView} {told mid answers : List (List Reply)} → LeavesOthers lane r told q mid → LeavesOthers lane q mid x answers → LeavesOthers lane r told x answers
leaves-then first second = record {
  chunk = λ l ne. second.chunk l ne ∙ first.chunk l ne;
  buffer = λ l ne. second.buffer l ne ∙ first.buffer l ne;
  replies = λ l ne. second.replies l ne ∙ first.replies l ne;
  held = second.held ∙ first.held;
}

-- cells stay from one stretch to the next
pub cells-same : (r : RunningView) → LeavesCells r r
cells-same r = record { space = refl; roots = refl }

pub cells-then : {r q x : RunningView} → LeavesCells r q → LeavesCells q x → LeavesCells r x
cells-then {r} {q} {x} first second = record {
  space =
      second.space
      ∙ ap (λ (s : Layout). record s { states = x.heap.space.states; pages = x.heap.space.pages; free = x.heap.space.free; bookmarks = x.heap.space.bookmarks; incoming = x.heap.space.incoming; reads = x.heap.space.reads }) first.space;
  roots = second.roots ∙ ap (λ (s : RootWords). record s { words = x.heap.roots.words; noted = x.heap.roots.noted }) first.roots;
}
