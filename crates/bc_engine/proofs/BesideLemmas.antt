-- Lanes that ran side by side: what each did is a stretch of the phase, and so is the turn.
use Rattle.std.proofs.Common.{Vec, Global, ◌≡◌, ◌≢◌, ℕ, ◌+◌, ◌-◌, ◌<◌, ◌≤◌, Bool, true, false, if◌then◌else◌, ◌==◌, List, [], ◌∷◌, ◌++◌, length, map, take, drop, get_or, set, refl, sym, ap, subst, ◌∙◌, inl, inr, arith, append-nil, eq-eqb, eqb-true, get_or-set_same, get_or-set_other, length-set}
use Prim.Native.Nat.{zero, suc}
use Rattle.std.proofs.Math.Seq.{take-add}
use Rattle.std.proofs.lemmas.Bool.{cases_eq, cases_lt}
use Rattle.std.proofs.lemmas.List.{length-append, length-drop, length-map, length-take, set-get_or, set-set}
use Rattle.std.specs.List.{AllByRecursion}
use Rattle.bc_lane.specs.Doing.{DidAll}
use Rattle.bc_model.specs.Interleaving.{LaneOp, after_steps, replies_by, ops_by}
use Rattle.bc_model.specs.Rows.{lists_of}
use Rattle.bc_model.specs.State.{State}
use Rattle.bc_model.specs.Step.{step}
use Rattle.bc_model.specs.declared.operations.Op.{Op}
use Rattle.bc_model.specs.declared.operations.Reply.{Reply}
use Rattle.bc_model.specs.declared.traces.Setup.{Setup}
use Rattle.bc_model.specs.declared.values.Holder.{Holder}
use Rattle.bc_mutator.specs.Effects.{Leaves}
use Rattle.bc_mutator.specs.Objects.{own_chunk}
use Rattle.bc_nursery.specs.Entries.{Entries}
use Rattle.bc_nursery.specs.Nurseries.{Nursery}
use Rattle.bc_turn.specs.Beside.{IsAtEndOr, IsLaidBack, RanBeside, StopsBeside}
use Rattle.bc_whole_heap.specs.Closed.{buffer_of, no_buffer}
use Rattle.bc_whole_heap.specs.Heaps.{HeapView, no_chunk}
use Rattle.bc_whole_heap.specs.LaneChunks.{chunk_of}
use Rattle.bc_whole_heap.specs.LaneStates.{StandsAs}
use Rattle.bc_running.specs.Running.{RunningView}
use Rattle.bc_running.specs.RunningFacts.{running_of}
use Rattle.bc_turn.specs.Taking.{HasAllReplyRoom}
use Rattle.bc_running.proofs.BesideLemmas.{KeepsSizesOf, lane-did, ops_done, order-did, sizes-at, sizes-beside, sizes-did, sizes-laid, sizes-then}
use Rattle.bc_running.proofs.FirstLists.{with_first, with_first-all, with_first-in, with_first-long, with_first-map, with_first-more, with_first-past}
use Rattle.bc_engine.specs.EngineFacts.{CanRunLanes}
use Rattle.bc_engine.specs.Lanes.{of_lane, BirthsWithin, EachStopped, LanesRan, LanesWentOn, LeavesCells, StopsInTurn}
use Rattle.bc_engine.proofs.GoingLemmas.{other-one, own-one, ops-one}
use Rattle.bc_engine.proofs.RunLemmas.{runs-moved, runs-none, runs-then, serials-later}
use Rattle.bc_engine.proofs.Sizes.{fits-beside}
use Rattle.bc_engine.proofs.StepLists.{ops_by-append}
use Rattle.bc_turn.proofs.BackLemmas.{lies-back-running, lies-back-stands}

-- the steps of a lane that does these operations
abbrev steps_of : ℕ → List Op → List LaneOp
steps_of lane ops = map (λ op. record { lane = lane; op = op }) ops

steps-below : (lane n : ℕ) (ops : List Op) → lane < n → AllByRecursion (λ x. x.lane < n) (steps_of lane ops)
steps-below lane n [] lt = tt
steps-below lane n (op ∷ ops) lt = (lt, steps-below lane n ops lt)

-- they are the lane's operations, and no other lane has any among them
ops-own : (lane : ℕ) (ops : List Op) → ops_by lane (steps_of lane ops) ≡ ops
ops-own lane [] = refl
ops-own lane (op ∷ ops) =
    ops_by-append lane (record { lane = lane; op = op } ∷ []) (steps_of lane ops)
    ∙ ap (λ (os : List Op). os ++ ops_by lane (steps_of lane ops)) (ops-one lane lane op ∙ own-one lane op)
    ∙ ap (λ (os : List Op). op ∷ os) (ops-own lane ops)

ops-other : (lane j : ℕ) (ops : List Op) → j ≢ lane → ops_by j (steps_of lane ops) ≡ []
ops-other lane j [] ne = refl
ops-other lane j (op ∷ ops) ne =
    ops_by-append j (record { lane = lane; op = op } ∷ []) (steps_of lane ops)
    ∙ ap (λ (os : List Op). os ++ ops_by j (steps_of lane ops)) (ops-one lane j op ∙ other-one lane j op ne) ∙ ops-other lane j ops ne

differs : (lane j : ℕ) → j ≢ lane → (lane == j) ≡ false
differs lane j ne = go (lane == j) refl
  where
    go : (t : Bool) → (lane == j) ≡ t → t ≡ false
    go true e = absurd (ne (sym (eqb-true lane j e)))
    go false e = refl

replies-other : (state : State) (lane j : ℕ) (ops : List Op) → j ≢ lane → replies_by state j (steps_of lane ops) ≡ []
unfolding replies_by
replies-other state lane j [] ne = refl
replies-other state lane j (op ∷ ops) ne =
    let x = step state lane op in
    let rest : List Reply = replies_by x.0 j (steps_of lane ops) in
    ap (λ (t : Bool). if t then x.1 ∷ rest else rest) (differs lane j ne) ∙ replies-other x.0 lane j ops ne

-- what a lane did are its steps from every state that the heap stands for
record AreSteps (hs : List Holder) (k : HeapView) (nexts : List ℕ) (lane : ℕ) (ops : List Op) (replies : List Reply) (state : State) : Type 0 where
  pub means : StandsAs k hs nexts (after_steps state (steps_of lane ops))
  pub answers : replies_by state lane (steps_of lane ops) ≡ replies

steps-did : (hs : List Holder) (lane : ℕ) (ops : List Op) (replies : List Reply) {h k : HeapView} (serials : List ℕ) (next : ℕ) (state : State) → lane < length serials → DidAll hs lane ops replies h (get_or serials lane 0) k next → StandsAs h hs serials state → AreSteps hs k (set serials lane next) lane ops replies state
unfolding after_steps replies_by
steps-did hs lane [] [] {h} {k} serials next state within did stands =
    let same : set serials lane next ≡ serials = ap (set serials lane) did.1 ∙ set-get_or serials lane 0 in
    record {
      means = subst (λ (x : HeapView). StandsAs x hs (set serials lane next) state) (sym did.0) (subst (λ (ns : List ℕ). StandsAs h hs ns state) (sym same) stands);
      answers = refl;
    }
steps-did hs lane [] (reply ∷ replies) serials next state within did stands = absurd did
steps-did hs lane (op ∷ ops) [] serials next state within did stands = absurd did
steps-did hs lane (op ∷ ops) (reply ∷ replies) {h} {k} serials next state within did stands =
    let m : HeapView = did.0 in
    let n : ℕ = did.1 in
    let later = set serials lane n in
    let x = step state lane op in
    let one = did.2.step serials state stands refl in
    let rest : DidAll hs lane ops replies m (get_or later lane 0) k next =
    subst (λ (i : ℕ). DidAll hs lane ops replies m i k next) (sym (get_or-set_same serials lane n 0 within)) did.3 in
    let more = steps-did hs lane ops replies later next x.0 (omega (arith, within, length-set serials lane n)) rest one.1 in
    let others : List Reply = replies_by x.0 lane (steps_of lane ops) in
    record {
      means = subst (λ (ns : List ℕ). StandsAs k hs ns (after_steps x.0 (steps_of lane ops))) (set-set serials lane n next) more.means;
      answers =
          ap (λ (t : Bool). if t then x.1 ∷ others else others) (eq-eqb lane lane refl)
          ∙ ap (λ (r : Reply). r ∷ others) one.0 ∙ ap (λ (rs : List Reply). reply ∷ rs) more.answers;
    }

-- as many operations as replies
did-long : (hs : List Holder) (lane : ℕ) (ops : List Op) (replies : List Reply) (h k : HeapView) (serial next : ℕ) → DidAll hs lane ops replies h serial k next → length ops ≡ length replies
did-long hs lane [] [] h k serial next did = refl
did-long hs lane [] (reply ∷ replies) h k serial next did = absurd did
did-long hs lane (op ∷ ops) [] h k serial next did = absurd did
did-long hs lane (op ∷ ops) (reply ∷ replies) h k serial next did = omega (arith, did-long hs lane ops replies did.0 k did.1 next did.3)

-- the lanes went on by them
goes-did : (lanes : List (List Op)) (hs : List Holder) (lane : ℕ) (ops : List Op) (replies : List Reply) {h k : HeapView} (told : List (List Reply)) (serials : List ℕ) (next : ℕ) → lane < length lanes → lane < length told → lane < length serials
    → DidAll hs lane ops replies h (get_or serials lane 0) k next → ops ≡ take (length replies) (drop (length (of_lane told lane)) (of_lane lanes lane))
    → LanesWentOn lanes (running_of h hs serials) told (running_of k hs (set serials lane next)) (set told lane (of_lane told lane ++ replies))
goes-did lanes hs lane ops replies {h} {k} told serials next below there within did are =
    let answers = set told lane (of_lane told lane ++ replies) in
    let steps = steps_of lane ops in
    let own : of_lane answers lane ≡ of_lane told lane ++ replies = get_or-set_same told lane (of_lane told lane ++ replies) [] there in
    let long : length (of_lane answers lane) ≡ length (of_lane told lane) + length replies = ap length own ∙ length-append (of_lane told lane) replies in
    let other : (j : ℕ) → j ≢ lane → of_lane answers j ≡ of_lane told j = λ j ne. get_or-set_other told lane j (of_lane told lane ++ replies) [] ne in
    record {
      steps = steps;
      below = steps-below lane (length lanes) ops below;
      ops = λ j. elim (cases_eq j lane) [
        | inl e ↦
            subst (λ (m : ℕ). take (length (of_lane answers m)) (of_lane lanes m) ≡ take (length (of_lane told m)) (of_lane lanes m) ++ ops_by m steps) (sym e)
            (ap (λ (m : ℕ). take m (of_lane lanes lane)) long
            ∙ take-add (length (of_lane told lane)) (length replies) (of_lane lanes lane)
            ∙ ap (λ (os : List Op). take (length (of_lane told lane)) (of_lane lanes lane) ++ os) (sym are ∙ sym (ops-own lane ops)))
        | inr ne ↦
            ap (λ (rs : List Reply). take (length rs) (of_lane lanes j)) (other j ne)
            ∙ sym (append-nil (take (length (of_lane told j)) (of_lane lanes j)))
            ∙ ap (λ (os : List Op). take (length (of_lane told j)) (of_lane lanes j) ++ os) (sym (ops-other lane j ops ne))
      ];
      means = λ state st. (steps-did hs lane ops replies serials next state within did st).means;
      replies = λ state st j. elim (cases_eq j lane) [
        | inl e ↦
            subst (λ (m : ℕ). of_lane answers m ≡ of_lane told m ++ replies_by state m steps) (sym e)
            (own ∙ ap (λ (rs : List Reply). of_lane told lane ++ rs) (sym (steps-did hs lane ops replies serials next state within did st).answers))
        | inr ne ↦
            other j ne ∙ sym (append-nil (of_lane told j)) ∙ ap (λ (rs : List Reply). of_lane told j ++ rs) (sym (replies-other state lane j ops ne))
      ];
      more = λ j. elim (cases_eq j lane) [
        | inl e ↦ subst (λ (m : ℕ). length (of_lane told m) ≤ length (of_lane answers m)) (sym e) (omega (arith, long))
        | inr ne ↦ omega (arith, ap length (other j ne))
      ];
    }

-- and can go on from there
ready-did : (setup : Setup) (hs : List Holder) (lane : ℕ) (ops : List Op) (replies : List Reply) {h k : HeapView} (serials : List ℕ) (next : ℕ) → lane < length serials → DidAll hs lane ops replies h (get_or serials lane 0) k next
    → CanRunLanes setup (running_of h hs serials) → CanRunLanes setup (running_of k hs (set serials lane next))
ready-did setup hs lane ops replies {h} {k} serials next within did ready =
    let order = order-did hs lane ops replies serials next within (record { running = ready.order; meant = ready.meant }) did in
    record {
      range = ready.range;
      order = order.running;
      fits = fits-beside setup (sizes-did hs lane ops replies (get_or serials lane 0) next did) ready.fits;
      lanes = length-set serials lane next ∙ ready.lanes;
      meant = order.meant;
    }

-- a stretch of the phase, from what is said of its lists and of its heaps
runs-made : {lanes : List (List Op)} {r q : RunningView} {told answers : List (Vec Reply Global)} → LanesWentOn lanes r (lists_of told) q (lists_of answers) → ((setup : Setup) → CanRunLanes setup r → CanRunLanes setup q) → length answers ≡ length told → HasAllReplyRoom lanes answers → BirthsWithin lanes r.serials (lists_of told) q.serials (lists_of answers) → q.holders ≡ r.holders → LanesRan lanes r told q answers
runs-made {lanes} {r} {q} {told} {answers} goes ready long room births held = record {
  goes = goes;
  underway = λ setup u. record {
    ready = ready setup u.ready;
    each = u.each;
    ops = u.ops;
    long = long ∙ u.long;
    room = room;
    births = serials-later lanes r.serials q.serials (lists_of told) (lists_of answers) births u.births;
  };
  births = births;
  held = held;
}

-- the lanes of a turn ran side by side
pub record RanAbreast (lanes : List (List Op)) (r : RunningView) (before : List (Vec Reply Global)) (q : RunningView) (after : List (Vec Reply Global)) : Type 0 where
  pub ran : RanBeside r.holders lanes r.heap r.serials (lists_of before) q.heap q.serials (lists_of after)
  pub held : q.holders ≡ r.holders
  pub roomy : HasAllReplyRoom lanes before
  pub room : HasAllReplyRoom lanes after
  pub each : length lanes ≡ length r.serials
  pub long : length before ≡ length lanes

-- as if the first n lanes had run: the heap, and the replies
abbrev run_to : {lanes : List (List Op)} {r q : RunningView} {before after : List (Vec Reply Global)} → RanAbreast lanes r before q after → ℕ → RunningView
run_to {lanes} {r} {q} b n = running_of (b.ran.at n) r.holders (with_first n q.serials r.serials)

abbrev told_to : List (Vec Reply Global) → List (Vec Reply Global) → ℕ → List (Vec Reply Global)
told_to before after n = with_first n after before

lists-to : (before after : List (Vec Reply Global)) (n : ℕ) → lists_of (told_to before after n) ≡ with_first n (lists_of after) (lists_of before)
lists-to before after n = with_first-map (λ (v : Vec Reply Global). v.items) n after before

-- as many lists of replies, and each has room
long-of : {lanes : List (List Op)} {r q : RunningView} {before after : List (Vec Reply Global)} → RanAbreast lanes r before q after → length after ≡ length before
long-of {lanes} {r} {q} {before} {after} b =
    sym (length-map after (λ (v : Vec Reply Global). v.items)) ∙ b.ran.long.1 ∙ length-map before (λ (v : Vec Reply Global). v.items)

room-to : {lanes : List (List Op)} {r q : RunningView} {before after : List (Vec Reply Global)} → RanAbreast lanes r before q after → (n : ℕ) → HasAllReplyRoom lanes (told_to before after n)
room-to {lanes} {r} {q} {before} {after} b n j v lt is =
    let within : j < length before = omega (arith, lt, with_first-long n after before) in
    elim (cases_lt j n) [
      | inl first ↦ b.room j v (omega (arith, within, long-of b)) (is ∙ with_first-in n after before j v (long-of b) first)
      | inr past ↦ b.roomy j v within (is ∙ with_first-past n after before j v past)
    ]

-- the lane after the first n makes at most an object by each operation
births-to : {hs : List Holder} {lanes : List (List Op)} {h k : HeapView} {serials nexts : List ℕ} {told answers : List (List Reply)} (ran : RanBeside hs lanes h serials told k nexts answers) (n : ℕ) → n < length lanes → length lanes ≡ length serials → length told ≡ length lanes
    → BirthsWithin lanes (with_first n nexts serials) (with_first n answers told) (with_first (suc n) nexts serials) (with_first (suc n) answers told)
births-to {hs} {lanes} {h} {k} {serials} {nexts} {told} {answers} ran n lt each long j = elim (cases_eq j n) [
  | inl e ↦
      subst (λ (m : ℕ). get_or (with_first (suc n) nexts serials) m 0 + (length (of_lane lanes m) - length (of_lane (with_first (suc n) answers told) m)) ≤ get_or (with_first n nexts serials) m 0 + (length (of_lane lanes m) - length (of_lane (with_first n answers told) m))) (sym e)
      (let did = lane-did ran n lt in
      let ops = ops_done lanes told n (ran.new n) in
      let all = did-long hs n ops (ran.new n) (ran.at n) (ran.at (suc n)) (get_or (with_first n nexts serials) n 0) (get_or nexts n 0) did in
      let most = length-take (length (ran.new n)) (drop (length (of_lane told n)) (of_lane lanes n)) in
      let rest = length-drop (length (of_lane told n)) (of_lane lanes n) in
      let next = with_first-in (suc n) nexts serials n 0 ran.long.0 (omega arith) in
      let serial = with_first-past n nexts serials n 0 (omega arith) in
      let after = ap length (with_first-in (suc n) answers told n [] ran.long.1 (omega arith) ∙ ran.told n lt) ∙ length-append (of_lane told n) (ran.new n) in
      let before = ap length (with_first-past n answers told n [] (omega arith)) in
      let few = ran.births n lt in
      omega (arith, all, most, rest, next, serial, after, before, few))
  | inr ne ↦
      let serial =
      ap (λ (ns : List ℕ). get_or ns j 0) (with_first-more n nexts serials 0 ran.long.0 (omega (arith, lt, each)))
      ∙ get_or-set_other (with_first n nexts serials) n j (get_or nexts n 0) 0 ne in
      let same =
      ap (λ (rs : List (List Reply)). length (of_lane rs j)) (with_first-more n answers told [] ran.long.1 (omega (arith, lt, long)))
      ∙ ap length (get_or-set_other (with_first n answers told) n j (of_lane answers n) [] ne) in
      omega (arith, serial, same)
]

-- its operations are a stretch of the phase
lane-ran : {lanes : List (List Op)} {r q : RunningView} {before after : List (Vec Reply Global)} (b : RanAbreast lanes r before q after) (n : ℕ) → n < length lanes → LanesRan lanes (run_to b n) (told_to before after n) (run_to b (suc n)) (told_to before after (suc n))
lane-ran {lanes} {r} {q} {before} {after} b n lt =
    let ran = b.ran in
    let hs = r.holders in
    let serials = with_first n q.serials r.serials in
    let told = with_first n (lists_of after) (lists_of before) in
    let count : length (lists_of before) ≡ length lanes = length-map before (λ (v : Vec Reply Global). v.items) ∙ b.long in
    let next = get_or q.serials n 0 in
    let did = lane-did ran n lt in
    let within : n < length serials = omega (arith, lt, b.each, with_first-long n q.serials r.serials) in
    let there : n < length told = omega (arith, lt, count, with_first-long n (lists_of after) (lists_of before)) in
    let here : of_lane told n ≡ of_lane (lists_of before) n = with_first-past n (lists_of after) (lists_of before) n [] (omega arith) in
    let ops = ops_done lanes (lists_of before) n (ran.new n) in
    let are : ops ≡ take (length (ran.new n)) (drop (length (of_lane told n)) (of_lane lanes n)) =
    ap (λ (rs : List Reply). take (length (ran.new n)) (drop (length rs) (of_lane lanes n))) (sym here) in
    let nexts_are : with_first (suc n) q.serials r.serials ≡ set serials n next = with_first-more n q.serials r.serials 0 ran.long.0 (omega (arith, lt, b.each)) in
    let answers_are : lists_of (told_to before after (suc n)) ≡ set told n (of_lane told n ++ ran.new n) =
    lists-to before after (suc n)
    ∙ with_first-more n (lists_of after) (lists_of before) [] ran.long.1 (omega (arith, lt, count))
    ∙ ap (set told n) (ran.told n lt ∙ ap (λ (rs : List Reply). rs ++ ran.new n) (sym here)) in
    let goes : LanesWentOn lanes (run_to b n) told (running_of (ran.at (suc n)) hs (set serials n next)) (set told n (of_lane told n ++ ran.new n)) =
    goes-did lanes hs n ops (ran.new n) told serials next lt there within did are in
    runs-made
    (subst (λ (ns : List ℕ). LanesWentOn lanes (run_to b n) (lists_of (told_to before after n)) (running_of (ran.at (suc n)) hs ns) (lists_of (told_to before after (suc n)))) (sym nexts_are)
    (subst (λ (rs : List (List Reply)). LanesWentOn lanes (run_to b n) (lists_of (told_to before after n)) (running_of (ran.at (suc n)) hs (set serials n next)) rs) (sym answers_are)
    (subst (λ (rs : List (List Reply)). LanesWentOn lanes (run_to b n) rs (running_of (ran.at (suc n)) hs (set serials n next)) (set told n (of_lane told n ++ ran.new n))) (sym (lists-to before after n)) goes)))
    (λ setup ready. subst (λ (ns : List ℕ). CanRunLanes setup (running_of (ran.at (suc n)) hs ns)) (sym nexts_are) (ready-did setup hs n ops (ran.new n) serials next within did ready))
    (with_first-long (suc n) after before ∙ sym (with_first-long n after before)) (room-to b (suc n))
    (subst (λ (rs : List (List Reply)). BirthsWithin lanes serials rs (with_first (suc n) q.serials r.serials) (lists_of (told_to before after (suc n)))) (sym (lists-to before after n))
    (subst (λ (rs : List (List Reply)). BirthsWithin lanes serials told (with_first (suc n) q.serials r.serials) rs) (sym (lists-to before after (suc n))) (births-to ran n lt b.each count)))
    refl

-- so are those of the first n lanes, after a stretch in which pages come back
first-ran : {lanes : List (List Op)} {r q : RunningView} {before after : List (Vec Reply Global)} (b : RanAbreast lanes r before q after) (n : ℕ) → n ≤ length lanes → LanesRan lanes r before (run_to b n) (told_to before after n)
first-ran {lanes} {r} {q} {before} {after} b zero le =
    runs-moved lanes r (run_to b 0) before (b.ran.first.0, ap (λ (h : HeapView). running_of h r.holders r.serials) b.ran.first.1)
first-ran b (suc n) le = runs-then (first-ran b n (omega arith)) (lane-ran b n (omega arith))

-- then pages and notes of root slots go back to where they belong
last-ran : {lanes : List (List Op)} {r q : RunningView} {before after : List (Vec Reply Global)} (b : RanAbreast lanes r before q after) (n : ℕ) → n ≡ length lanes → LanesRan lanes (run_to b n) (told_to before after n) q after
last-ran {lanes} {r} {q} {before} {after} b n all =
    let hs = r.holders in
    let serials = with_first n q.serials r.serials in
    let back = subst (λ (m : ℕ). IsLaidBack (b.ran.at m) q.heap) (sym all) b.ran.back in
    let told : told_to before after n ≡ after = with_first-all n after before (all ∙ sym b.long) (long-of b) in
    let nexts : q.serials ≡ serials = sym (with_first-all n q.serials r.serials (all ∙ b.each) b.ran.long.0) in
    let end : RunningView = running_of q.heap hs serials in
    let held = b.held in
    let is : q ≡ end = λ i. record { heap = q.heap; holders = held i; serials = nexts i } in
    let runs : LanesRan lanes (run_to b n) after end after =
    runs-none lanes (run_to b n) end after refl refl
    (λ state stands. lies-back-stands (b.ran.at n) q.heap hs serials state back stands)
    (λ setup ready. record {
      range = ready.range;
      order = lies-back-running (b.ran.at n) q.heap hs back ready.order;
      fits = fits-beside setup (sizes-laid (b.ran.at n) q.heap back) ready.fits;
      lanes = ready.lanes;
      meant = (ready.meant.0, lies-back-stands (b.ran.at n) q.heap hs serials ready.meant.0 back ready.meant.1);
    }) in
    subst (λ (x : RunningView). LanesRan lanes (run_to b n) (told_to before after n) x after) (sym is)
    (subst (λ (vs : List (Vec Reply Global)). LanesRan lanes (run_to b n) vs end after) (sym told) runs)

-- and the lanes after the first n
later-ran : {lanes : List (List Op)} {r q : RunningView} {before after : List (Vec Reply Global)} (b : RanAbreast lanes r before q after) (m n : ℕ) → n + m ≡ length lanes → LanesRan lanes (run_to b n) (told_to before after n) q after
later-ran b zero n all = last-ran b n (omega arith)
later-ran b (suc m) n all = runs-then (lane-ran b n (omega arith)) (later-ran b m (suc n) (omega arith))

-- the turn as a whole
pub together-runs : {lanes : List (List Op)} {r q : RunningView} {before after : List (Vec Reply Global)} → RanAbreast lanes r before q after → LanesRan lanes r before q after
together-runs {lanes} b = runs-then (first-ran b 0 (omega arith)) (later-ran b (length lanes) 0 (omega arith))

-- cells stay where sizes are kept
leaves-sizes : (r q : RunningView) → KeepsSizesOf r.heap q.heap → LeavesCells r q
leaves-sizes r q sizes = record { space = sizes.space; roots = sizes.roots }

pub together-leaves : {lanes : List (List Op)} {r q : RunningView} {before after : List (Vec Reply Global)} → RanAbreast lanes r before q after → LeavesCells r q
together-leaves {lanes} {r} {q} b = leaves-sizes r q (sizes-beside b.ran)

-- what a lane does leaves the chunk and the write buffer of another one
abbrev SameOwn : ℕ → HeapView → HeapView → Type 0
SameOwn lane h k = (chunk_of k.chunks lane ≡ chunk_of h.chunks lane) × (buffer_of k.buffers lane ≡ buffer_of h.buffers lane)

own-left : {hs : List Holder} {lane : ℕ} {h k : HeapView} (other : ℕ) → other ≢ lane → Leaves hs lane h k → SameOwn other h k
own-left {hs} {lane} {h} {k} other ne leaves = (
  ap (λ (cs : List Nursery). chunk_of cs other) leaves.chunks ∙ get_or-set_other h.chunks lane other (own_chunk k lane) no_chunk ne,
  ap (λ (bs : List Entries). buffer_of bs other) leaves.buffers ∙ get_or-set_other h.buffers lane other (buffer_of k.buffers lane) no_buffer ne,
)

own-did : (hs : List Holder) (lane : ℕ) (ops : List Op) (replies : List Reply) (h k : HeapView) (serial next other : ℕ) → other ≢ lane → DidAll hs lane ops replies h serial k next → SameOwn other h k
own-did hs lane [] [] h k serial next other ne did = (ap (λ (x : HeapView). chunk_of x.chunks other) did.0, ap (λ (x : HeapView). buffer_of x.buffers other) did.0)
own-did hs lane [] (reply ∷ replies) h k serial next other ne did = absurd did
own-did hs lane (op ∷ ops) [] h k serial next other ne did = absurd did
own-did hs lane (op ∷ ops) (reply ∷ replies) h k serial next other ne did =
    let first = own-left other ne did.2.leaves in
    let rest = own-did hs lane ops replies did.0 k did.1 next other ne did.3 in
    (rest.0 ∙ first.0, rest.1 ∙ first.1)

-- so do all lanes after it, and none frees or moves a cell
own-from : {hs : List Holder} {lanes : List (List Op)} {h k : HeapView} {serials nexts : List ℕ} {told answers : List (List Reply)} (ran : RanBeside hs lanes h serials told k nexts answers) (m n lane : ℕ) → n + m ≡ length lanes → lane < n → SameOwn lane (ran.at n) k
own-from {hs} {lanes} {h} {k} ran zero n lane all below =
    let back = subst (λ (i : ℕ). IsLaidBack (ran.at i) k) (let end : length lanes ≡ n = omega arith in end) ran.back in
    (ap (λ (cs : List Nursery). chunk_of cs lane) back.chunks, ap (λ (bs : List Entries). buffer_of bs lane) back.buffers)
own-from {hs} {lanes} {h} {k} {serials} {nexts} {told} ran (suc m) n lane all below =
    let first = own-did hs n (ops_done lanes told n (ran.new n)) (ran.new n) (ran.at n) (ran.at (suc n)) (get_or (with_first n nexts serials) n 0) (get_or nexts n 0) lane (omega (arith, below)) (lane-did ran n (omega arith)) in
    let rest = own-from ran m (suc n) lane (omega arith) (omega arith) in
    (rest.0 ∙ first.0, rest.1 ∙ first.1)

sizes-from : {hs : List Holder} {lanes : List (List Op)} {h k : HeapView} {serials nexts : List ℕ} {told answers : List (List Reply)} (ran : RanBeside hs lanes h serials told k nexts answers) (m n : ℕ) → n + m ≡ length lanes → KeepsSizesOf (ran.at n) k
sizes-from {hs} {lanes} {h} {k} ran zero n all =
    sizes-laid (ran.at n) k (subst (λ (i : ℕ). IsLaidBack (ran.at i) k) (let end : length lanes ≡ n = omega arith in end) ran.back)
sizes-from {hs} {lanes} {h} {k} {serials} {nexts} {told} ran (suc m) n all =
    sizes-then
    (sizes-did hs n (ops_done lanes told n (ran.new n)) (ran.new n) (get_or (with_first n nexts serials) n 0) (get_or nexts n 0) (lane-did ran n (omega arith)))
    (sizes-from ran m (suc n) (omega arith))

-- each lane stopped where it left the heap to the next one
pub together-stopped : {lanes : List (List Op)} {r q : RunningView} {before after : List (Vec Reply Global)} → RanAbreast lanes r before q after → EachStopped (StopsInTurn q.heap.space) lanes r before q after
together-stopped {lanes} {r} {q} {before} {after} b j lt =
    let one : j + 1 ≡ suc j = omega arith in
    let own = own-from b.ran (length lanes - suc j) (suc j) j (omega arith) (omega arith) in
    let told = lists_of (told_to before after (suc j)) in
    let same : of_lane told j ≡ of_lane (lists_of after) j =
    ap (λ (rs : List (List Reply)). of_lane rs j) (lists-to before after (suc j)) ∙ with_first-in (suc j) (lists_of after) (lists_of before) j [] b.ran.long.1 (omega arith) in
    record {
      at = run_to b (suc j);
      told = told_to before after (suc j);
      first = first-ran b (suc j) (omega arith);
      later = later-ran b (length lanes - suc j) (suc j) (omega arith);
      leaves = leaves-sizes r (run_to b (suc j)) (sizes-at b.ran (suc j) (omega arith));
      keeps = leaves-sizes (run_to b (suc j)) q (sizes-from b.ran (length lanes - suc j) (suc j) (omega arith));
      chunk = own.0;
      buffer = own.1;
      same = sym same;
      why =
          subst (λ (rs : List Reply). IsAtEndOr (of_lane lanes j) rs (λ op. StopsBeside r.holders j op (b.ran.at (suc j)) q.heap.space)) (sym same)
          (subst (λ (n : ℕ). IsAtEndOr (of_lane lanes j) (of_lane (lists_of after) j) (λ op. StopsBeside r.holders j op (b.ran.at n) q.heap.space)) one (b.ran.stopped j lt));
    }
