-- Lines that pass can be gone on with up to the end of a trace.
use Rattle.std.proofs.Common.{◌≡◌, ℕ, zero, suc, ◌+◌, ◌-◌, ◌*◌, ◌≤◌, true, eqb, List, [], ◌∷◌, ◌++◌, refl, sym, ap, subst, ◌∙◌, arith}
use Rattle.std.proofs.lemmas.Bool.{eq-eqb, ne_eqb}
use Rattle.bc_model.specs.WellFormed.{IsWithin, IsSetup, IsOp}
use Rattle.bc_model.specs.declared.operations.Op.{Op}
use Rattle.bc_model.specs.declared.operations.Op.TheVariants as ops
use Rattle.bc_model.specs.declared.traces.Give.{Give}
use Rattle.bc_model.specs.declared.traces.Setup.{Setup}
use Rattle.bc_model.specs.declared.values.Slot.{Slot}
use Rattle.bc_trace.specs.declared.grammar.Stage.{Stage}
use Rattle.bc_trace.specs.declared.grammar.Stage.TheVariants as stages
use Rattle.bc_trace.specs.declared.grammar.Progress.{Progress}
use Rattle.bc_trace.specs.declared.line.Shift.TheVariants as shifts
use Rattle.bc_trace.specs.declared.words.Setting.{Setting}
use Rattle.bc_trace.specs.declared.words.Setting.TheVariants as settings
use Rattle.bc_trace.specs.declared.words.Verb.{Verb}
use Rattle.bc_trace.specs.declared.words.Verb.TheVariants as verbs
use Rattle.bc_trace.specs.declared.words.Keyword.{Keyword}
use Rattle.bc_trace.specs.declared.words.Keyword.TheVariants as words
use Rattle.bc_trace.specs.Lines.{Line, version, setting, phase, turn, lane, op, give, freeze, end, done, word_of_line, verb_of_op}
use Rattle.bc_trace.specs.Grammar.{start, KnowsWord, may_stand, same_setting, arity, MayStand, Passes, after, after_all, Follow}
use Rattle.bc_trace.specs.Fronts.{Begins, GoesOnWith}
use Rattle.bc_trace.specs.Drafts.{DraftLists, empty_draft}
use Rattle.bc_trace.specs.Reading.{trace_of_draft}
use Rattle.bc_trace.proofs.ReadOfFault.{put_all, put_all-state}
use Rattle.bc_trace.proofs.ReadOfTrace.{follow-append, product_small, op_numbers, trace_passes}
use Rattle.bc_trace.proofs.FollowLines.{Shape, steps, at_start, passing_lines}
use Rattle.bc_trace.proofs.LinesAhead.{count-op}

-- some lines go on to the end
record Ends (s : Progress) : Type 0 where
  rest : List Line
  pass : Follow s rest
  stage : (after_all s rest).stage ≡ stages.Finished

ends_on : (s : Progress) (l : Line) → Passes s l → Ends (after l s) → Ends s
ends_on s l h e = record { rest = l ∷ e.rest; pass = (h, e.pass); stage = e.stage }

abbrev progress : ℕ → Stage → Setup → ℕ → ℕ → Progress
progress v p s k m = record { version = v; stage = p; setup = s; stood = k; withheld = m }

ends_phases : (v : ℕ) (s : Setup) (k m : ℕ) → Ends (progress v stages.Phases s k m)
unfolding may_stand arity
ends_phases v s k m = ends_on (progress v stages.Phases s k m) done (record { known = (tt, tt); stands = refl; count = refl; numbers = tt; range = tt; frames = tt }) (record { rest = []; pass = tt; stage = refl })

ends_all : (p : Stage) (v : ℕ) (s : Setup) (k m : ℕ) → may_stand words.End p true ≡ true → k ≡ s.lanes → Ends (progress v p s k m)
unfolding arity
ends_all p v s k m may all = ends_on (progress v p s k m) end (record { known = (tt, tt); stands = rw (eq-eqb k s.lanes all) may; count = refl; numbers = tt; range = tt; frames = tt }) (ends_phases v s k m)

end_ops : may_stand words.End stages.Ops true ≡ true
unfolding may_stand
end_ops = refl

end_gives : may_stand words.End stages.Gives true ≡ true
unfolding may_stand
end_gives = refl

ends_ops : (left : ℕ) (v : ℕ) (s : Setup) (k m : ℕ) → k + left ≡ s.lanes → s.lanes ≤ 16 → Ends (progress v stages.Ops s k m)
unfolding may_stand arity
ends_ops zero v s k m all few = ends_all stages.Ops v s k m end_ops (omega arith)
ends_ops (suc left) v s k m more few = ends_on (progress v stages.Ops s k m) (lane k) (record { known = (tt, tt); stands = rw (ne_eqb k s.lanes (λ h. absurd (omega arith))) refl; count = refl; numbers = (omega arith, tt); range = refl; frames = tt }) (ends_ops left v s (k + 1) m (omega arith) few)

ends_turns : (v : ℕ) (s : Setup) (k m : ℕ) → IsWithin 1 16 s.lanes → k ≡ 0 → Ends (progress v stages.Turns s k m)
unfolding may_stand arity
ends_turns v s k m h zero-is = ends_on (progress v stages.Turns s k m) (lane k) (record { known = (tt, tt); stands = refl; count = refl; numbers = (omega arith, tt); range = refl; frames = tt }) (ends_ops (s.lanes - 1) v s (k + 1) m (omega (arith, h.0)) h.1)

frames_line : (v : ℕ) (s : Setup) (k m : ℕ) → IsWithin 1 16 s.lanes → IsWithin 1 4096 s.superpages → IsWithin 1 16 s.nursery → Passes (progress v (stages.Awaiting settings.Frames) s k m) (setting settings.Frames (s.lanes * s.nursery + 2))
unfolding may_stand same_setting arity
frames_line v s k m l p n = record { known = (tt, tt); stands = refl; count = refl; numbers = (omega (arith, product_small s.lanes s.nursery l.1 n.1), tt); range = tt; frames = (omega arith, omega (arith, p.0)) }

ends_frames : (v : ℕ) (s : Setup) (k m : ℕ) → IsWithin 1 16 s.lanes → IsWithin 1 4096 s.superpages → IsWithin 1 16 s.nursery → Ends (progress v (stages.Awaiting settings.Frames) s k m)
ends_frames v s k m l p n = ends_on (progress v (stages.Awaiting settings.Frames) s k m) (setting settings.Frames (s.lanes * s.nursery + 2)) (frames_line v s k m l p n) (ends_phases v (record s { frames = s.lanes * s.nursery + 2 }) k m)

ends_buffer : (v : ℕ) (s : Setup) (k m : ℕ) → IsWithin 1 16 s.lanes → IsWithin 1 4096 s.superpages → IsWithin 1 16 s.nursery → Ends (progress v (stages.Awaiting settings.Buffer) s k m)
unfolding may_stand same_setting arity
ends_buffer v s k m l p n = ends_on (progress v (stages.Awaiting settings.Buffer) s k m) (setting settings.Buffer 1) (record { known = (tt, tt); stands = refl; count = refl; numbers = (omega arith, tt); range = (omega arith, omega arith); frames = tt }) (ends_frames v (record s { buffer = 1 }) k m l p n)

ends_nursery : (v : ℕ) (s : Setup) (k m : ℕ) → IsWithin 1 16 s.lanes → IsWithin 1 4096 s.superpages → Ends (progress v (stages.Awaiting settings.Nursery) s k m)
unfolding may_stand same_setting arity
ends_nursery v s k m l p = ends_on (progress v (stages.Awaiting settings.Nursery) s k m) (setting settings.Nursery 1) (record { known = (tt, tt); stands = refl; count = refl; numbers = (omega arith, tt); range = (omega arith, omega arith); frames = tt }) (ends_buffer v (record s { nursery = 1 }) k m l p (omega arith, omega arith))

ends_superpages : (v : ℕ) (s : Setup) (k m : ℕ) → IsWithin 1 16 s.lanes → Ends (progress v (stages.Awaiting settings.Superpages) s k m)
unfolding may_stand same_setting arity
ends_superpages v s k m l = ends_on (progress v (stages.Awaiting settings.Superpages) s k m) (setting settings.Superpages 1) (record { known = (tt, tt); stands = refl; count = refl; numbers = (omega arith, tt); range = (omega arith, omega arith); frames = tt }) (ends_nursery v (record s { superpages = 1 }) k m l (omega arith, omega arith))

ends_slots : (v : ℕ) (s : Setup) (k m : ℕ) → IsWithin 1 16 s.lanes → Ends (progress v (stages.Awaiting settings.Slots) s k m)
unfolding may_stand same_setting arity
ends_slots v s k m l = ends_on (progress v (stages.Awaiting settings.Slots) s k m) (setting settings.Slots 1) (record { known = (tt, tt); stands = refl; count = refl; numbers = (omega arith, tt); range = (omega arith, omega arith); frames = tt }) (ends_superpages v (record s { slots = 1 }) k m l)

ends_domains : (v : ℕ) (s : Setup) (k m : ℕ) → IsWithin 1 16 s.lanes → Ends (progress v (stages.Awaiting settings.Domains) s k m)
unfolding may_stand same_setting arity
ends_domains v s k m l = ends_on (progress v (stages.Awaiting settings.Domains) s k m) (setting settings.Domains 1) (record { known = (tt, tt); stands = refl; count = refl; numbers = (omega arith, tt); range = (omega arith, omega arith); frames = tt }) (ends_slots v (record s { domains = 1 }) k m l)

ends_lanes : (v : ℕ) (s : Setup) (k m : ℕ) → Ends (progress v (stages.Awaiting settings.Lanes) s k m)
unfolding may_stand same_setting arity
ends_lanes v s k m = ends_on (progress v (stages.Awaiting settings.Lanes) s k m) (setting settings.Lanes 1) (record { known = (tt, tt); stands = refl; count = refl; numbers = (omega arith, tt); range = (omega arith, omega arith); frames = tt }) (ends_domains v (record s { lanes = 1 }) k m (omega arith, omega arith))

ends_start : (v : ℕ) (s : Setup) (k m : ℕ) → Ends (progress v stages.Start s k m)
unfolding may_stand arity
ends_start v s k m = ends_on (progress v stages.Start s k m) (version 1) (record { known = (tt, tt); stands = refl; count = refl; numbers = (omega arith, tt); range = (omega arith, omega arith); frames = tt }) (ends_lanes 1 s k m)

shape_ends : (p : Stage) (d : DraftLists) (ls : List Line) → Shape p d ls → Ends (progress d.progress.version p d.progress.setup d.progress.stood d.progress.withheld)
unfolding Shape
shape_ends stages.Start d ls h = ends_start d.progress.version d.progress.setup d.progress.stood d.progress.withheld
shape_ends (stages.Awaiting settings.Lanes) d ls h = ends_lanes d.progress.version d.progress.setup d.progress.stood d.progress.withheld
shape_ends (stages.Awaiting settings.Domains) d ls h = ends_domains d.progress.version d.progress.setup d.progress.stood d.progress.withheld h.3
shape_ends (stages.Awaiting settings.Slots) d ls h = ends_slots d.progress.version d.progress.setup d.progress.stood d.progress.withheld h.3
shape_ends (stages.Awaiting settings.Superpages) d ls h = ends_superpages d.progress.version d.progress.setup d.progress.stood d.progress.withheld h.3
shape_ends (stages.Awaiting settings.Nursery) d ls h = ends_nursery d.progress.version d.progress.setup d.progress.stood d.progress.withheld h.3 h.6
shape_ends (stages.Awaiting settings.Buffer) d ls h = ends_buffer d.progress.version d.progress.setup d.progress.stood d.progress.withheld h.3 h.6 h.7
shape_ends (stages.Awaiting settings.Frames) d ls h = ends_frames d.progress.version d.progress.setup d.progress.stood d.progress.withheld h.3 h.6 h.7
shape_ends stages.Phases d ls h = ends_phases d.progress.version d.progress.setup d.progress.stood d.progress.withheld
shape_ends stages.Turns d ls h = ends_turns d.progress.version d.progress.setup d.progress.stood d.progress.withheld h.closed.setup.lanes h.stood
shape_ends stages.Ops d ls h = ends_ops (d.progress.setup.lanes - d.progress.stood) d.progress.version d.progress.setup d.progress.stood d.progress.withheld (omega (arith, h.begun.room)) h.begun.closed.setup.lanes.1
shape_ends stages.Gives d ls h = ends_all stages.Gives d.progress.version d.progress.setup d.progress.stood d.progress.withheld end_gives h.all
shape_ends stages.Finished d ls h = record { rest = []; pass = tt; stage = refl }

-- ---- lines that pass are the first lines of a trace

begun_by : (ls rest : List Line) → Follow start (ls ++ rest) → (after_all start (ls ++ rest)).stage ≡ stages.Finished → Begins ls
begun_by ls rest f is =
    let stage : (put_all empty_draft (ls ++ rest)).progress.stage ≡ stages.Finished = ap (λ s. s.stage) (put_all-state (ls ++ rest) empty_draft) ∙ is in
    let found = passing_lines (ls ++ rest) f stage in
    record { trace = trace_of_draft (put_all empty_draft (ls ++ rest)); formed = found.1; rest = rest; lines = sym found.0 }

after_all-append : (xs ys : List Line) (s : Progress) → after_all s (xs ++ ys) ≡ after_all (after_all s xs) ys
after_all-append [] ys s = refl
after_all-append (x ∷ xs) ys s = after_all-append xs ys (after x s)

pub follow_begins : (ls : List Line) → Follow start ls → Begins ls
follow_begins ls f =
    let d = put_all empty_draft ls in
    let e = shape_ends d.progress.stage d ls (steps ls empty_draft [] at_start f) in
    let same : d.progress ≡ after_all start ls = put_all-state ls empty_draft in
    let pass : Follow (after_all start ls) e.rest = subst (λ s. Follow s e.rest) same e.pass in
    let stage : (after_all (after_all start ls) e.rest).stage ≡ stages.Finished = subst (λ s. (after_all s e.rest).stage ≡ stages.Finished) same e.stage in
    begun_by ls e.rest (follow-append ls e.rest start f pass) (ap (λ s. s.stage) (after_all-append ls e.rest start) ∙ stage)

follow_front : (xs ys : List Line) (s : Progress) → Follow s (xs ++ ys) → Follow s xs × Follow (after_all s xs) ys
follow_front [] ys s h = (tt, h)
follow_front (x ∷ xs) ys s h = let rest = follow_front xs ys (after x s) h.1 in ((h.0, rest.0), rest.1)

pub begins_follow : (ls : List Line) → Begins ls → Follow start ls
begins_follow ls h = (follow_front ls h.rest start (subst (λ xs. Follow start xs) h.lines (trace_passes h.trace h.formed))).0

-- ---- a word may stand exactly where some trace goes on with it

-- a line of the word that passes
record Opens (s : Progress) (w : Keyword) : Type 0 where
  line : Line
  word : word_of_line line ≡ w
  pass : Passes s line

slot_0 : Slot
slot_0 = record { domain = 0; slot = 0 }

open_setting : (k : Setting) (p : Stage) (d : DraftLists) (ls : List Line) → Shape p d ls → may_stand (words.Setting k) p (eqb d.progress.stood d.progress.setup.lanes) ≡ true → Opens (progress d.progress.version p d.progress.setup d.progress.stood d.progress.withheld) (words.Setting k)
unfolding may_stand same_setting arity Shape
open_setting settings.Lanes (stages.Awaiting settings.Lanes) d ls h stands = record { line = setting settings.Lanes 1; word = refl; pass = record { known = (tt, tt); stands = refl; count = refl; numbers = (omega arith, tt); range = (omega arith, omega arith); frames = tt } }
open_setting settings.Domains (stages.Awaiting settings.Domains) d ls h stands = record { line = setting settings.Domains 1; word = refl; pass = record { known = (tt, tt); stands = refl; count = refl; numbers = (omega arith, tt); range = (omega arith, omega arith); frames = tt } }
open_setting settings.Slots (stages.Awaiting settings.Slots) d ls h stands = record { line = setting settings.Slots 1; word = refl; pass = record { known = (tt, tt); stands = refl; count = refl; numbers = (omega arith, tt); range = (omega arith, omega arith); frames = tt } }
open_setting settings.Superpages (stages.Awaiting settings.Superpages) d ls h stands = record { line = setting settings.Superpages 1; word = refl; pass = record { known = (tt, tt); stands = refl; count = refl; numbers = (omega arith, tt); range = (omega arith, omega arith); frames = tt } }
open_setting settings.Nursery (stages.Awaiting settings.Nursery) d ls h stands = record { line = setting settings.Nursery 1; word = refl; pass = record { known = (tt, tt); stands = refl; count = refl; numbers = (omega arith, tt); range = (omega arith, omega arith); frames = tt } }
open_setting settings.Buffer (stages.Awaiting settings.Buffer) d ls h stands = record { line = setting settings.Buffer 1; word = refl; pass = record { known = (tt, tt); stands = refl; count = refl; numbers = (omega arith, tt); range = (omega arith, omega arith); frames = tt } }
open_setting settings.Frames (stages.Awaiting settings.Frames) d ls h stands = record { line = setting settings.Frames (d.progress.setup.lanes * d.progress.setup.nursery + 2); word = refl; pass = frames_line d.progress.version d.progress.setup d.progress.stood d.progress.withheld h.3 h.6 h.7 }
open_setting _ _ d ls h stands = absurd cc

zero_op : Verb → Op
zero_op verbs.New = ops.New slot_0 0
zero_op verbs.Who = ops.Who slot_0
zero_op verbs.Len = ops.Len slot_0
zero_op verbs.Set = ops.Set slot_0 0 0
zero_op verbs.Cut = ops.Cut slot_0 0
zero_op verbs.Link = ops.Link slot_0 0 slot_0
zero_op verbs.Load = ops.Load slot_0 0 slot_0
zero_op verbs.Copy = ops.Copy slot_0 slot_0
zero_op verbs.Clear = ops.Clear slot_0
zero_op verbs.Same = ops.Same slot_0 slot_0

zero_verb : (v : Verb) → verb_of_op (zero_op v) ≡ v
unfolding zero_op
zero_verb verbs.New = refl
zero_verb verbs.Who = refl
zero_verb verbs.Len = refl
zero_verb verbs.Set = refl
zero_verb verbs.Cut = refl
zero_verb verbs.Link = refl
zero_verb verbs.Load = refl
zero_verb verbs.Copy = refl
zero_verb verbs.Clear = refl
zero_verb verbs.Same = refl

zero_fits : (v : Verb) (s : Setup) → IsSetup s → IsOp s (zero_op v)
unfolding zero_op slot_0
zero_fits verbs.New s h = ((omega (arith, h.domains), omega (arith, h.slots)), omega arith)
zero_fits verbs.Who s h = (omega (arith, h.domains), omega (arith, h.slots))
zero_fits verbs.Len s h = (omega (arith, h.domains), omega (arith, h.slots))
zero_fits verbs.Set s h = ((omega (arith, h.domains), omega (arith, h.slots)), omega arith, omega arith)
zero_fits verbs.Cut s h = ((omega (arith, h.domains), omega (arith, h.slots)), omega arith)
zero_fits verbs.Link s h = ((omega (arith, h.domains), omega (arith, h.slots)), omega arith, (omega (arith, h.domains), omega (arith, h.slots)))
zero_fits verbs.Load s h = ((omega (arith, h.domains), omega (arith, h.slots)), omega arith, (omega (arith, h.domains), omega (arith, h.slots)))
zero_fits verbs.Copy s h = ((omega (arith, h.domains), omega (arith, h.slots)), (omega (arith, h.domains), omega (arith, h.slots)))
zero_fits verbs.Clear s h = (omega (arith, h.domains), omega (arith, h.slots))
zero_fits verbs.Same s h = ((omega (arith, h.domains), omega (arith, h.slots)), (omega (arith, h.domains), omega (arith, h.slots)))

open_op : (w : Verb) (v : ℕ) (s : Setup) (k m : ℕ) → IsSetup s → Opens (progress v stages.Ops s k m) (words.Op w)
unfolding may_stand
open_op w v s k m h =
    let o = zero_op w in
    let fits = zero_fits w s h in
    record { line = op o; word = ap (λ x. words.Op x) (zero_verb w); pass = record { known = (tt, tt); stands = refl; count = count-op o; numbers = op_numbers s h o fits; range = fits; frames = tt } }

first_give : Give
first_give = record { domain = 0; lane = 0 }

opens : (w : Keyword) (p : Stage) (d : DraftLists) (ls : List Line) → Shape p d ls → KnowsWord d.progress.version w → may_stand w p (eqb d.progress.stood d.progress.setup.lanes) ≡ true → Opens (progress d.progress.version p d.progress.setup d.progress.stood d.progress.withheld) w
unfolding may_stand arity Shape first_give
opens words.Version stages.Start d ls h known stands = record { line = version 1; word = refl; pass = record { known = (tt, tt); stands = refl; count = refl; numbers = (omega arith, tt); range = (omega arith, omega arith); frames = tt } }
opens (words.Setting k) p d ls h known stands = open_setting k p d ls h stands
opens words.Phase stages.Phases d ls h known stands = record { line = phase; word = refl; pass = record { known = (tt, tt); stands = refl; count = refl; numbers = tt; range = tt; frames = tt } }
opens words.Done stages.Phases d ls h known stands = record { line = done; word = refl; pass = record { known = (tt, tt); stands = refl; count = refl; numbers = tt; range = tt; frames = tt } }
opens words.Turn stages.Turns d ls h known stands = record { line = turn shifts.Stays []; word = refl; pass = record { known = (tt, tt); stands = refl; count = omega arith; numbers = tt; range = (tt, tt); frames = tt } }
opens words.Lane stages.Turns d ls h known stands = record { line = lane d.progress.stood; word = refl; pass = record { known = (tt, tt); stands = refl; count = refl; numbers = (omega (arith, h.stood), tt); range = refl; frames = tt } }
opens words.Lane stages.Ops d ls h known stands = record { line = lane d.progress.stood; word = refl; pass = record { known = (tt, tt); stands = stands; count = refl; numbers = (omega (arith, h.begun.room, h.begun.closed.setup.lanes), tt); range = refl; frames = tt } }
opens (words.Op v) stages.Ops d ls h known stands = open_op v d.progress.version d.progress.setup d.progress.stood d.progress.withheld h.begun.closed.setup
opens words.Give stages.Ops d ls h known stands = record { line = give first_give; word = refl; pass = record { known = (tt, tt); stands = stands; count = refl; numbers = (omega arith, (omega arith, tt)); range = (omega (arith, h.begun.closed.setup.domains), omega (arith, h.begun.closed.setup.lanes)); frames = tt } }
opens words.Give stages.Gives d ls h known stands = record { line = give first_give; word = refl; pass = record { known = (tt, tt); stands = refl; count = refl; numbers = (omega arith, (omega arith, tt)); range = (omega (arith, h.begun.closed.setup.domains), omega (arith, h.begun.closed.setup.lanes)); frames = tt } }
opens words.Freeze stages.Ops d ls h known stands = record { line = freeze 0; word = refl; pass = record { known = (known, tt); stands = stands; count = refl; numbers = (omega arith, tt); range = omega (arith, h.begun.closed.setup.domains); frames = tt } }
opens words.Freeze stages.Gives d ls h known stands = record { line = freeze 0; word = refl; pass = record { known = (known, tt); stands = refl; count = refl; numbers = (omega arith, tt); range = omega (arith, h.begun.closed.setup.domains); frames = tt } }
opens words.End stages.Ops d ls h known stands = record { line = end; word = refl; pass = record { known = (tt, tt); stands = stands; count = refl; numbers = tt; range = tt; frames = tt } }
opens words.End stages.Gives d ls h known stands = record { line = end; word = refl; pass = record { known = (tt, tt); stands = refl; count = refl; numbers = tt; range = tt; frames = tt } }
opens _ _ d ls h known stands = absurd cc

pub goes_on : (before : List Line) (w : Keyword) → Follow start before → KnowsWord (after_all start before).version w → MayStand (after_all start before) w → GoesOnWith before w
goes_on before w f known stands =
    let d = put_all empty_draft before in
    let same : after_all start before ≡ d.progress = sym (put_all-state before empty_draft) in
    let knows : KnowsWord d.progress.version w = subst (λ s. KnowsWord s.version w) same known in
    let here : MayStand d.progress w = subst (λ s. MayStand s w) same stands in
    let o = opens w d.progress.stage d before (steps before empty_draft [] at_start f) knows here in
    let pass : Passes (after_all start before) o.line = subst (λ s. Passes s o.line) (sym same) o.pass in
    record { line = o.line; word = o.word; begins = follow_begins (before ++ o.line ∷ []) (follow-append before (o.line ∷ []) start f (pass, tt)) }

pub stands_there : (before : List Line) (w : Keyword) → GoesOnWith before w → KnowsWord (after_all start before).version w × MayStand (after_all start before) w
stands_there before w h =
    let pass = (follow_front before (h.line ∷ []) start (begins_follow (before ++ h.line ∷ []) h.begins)).1.0 in
    (subst (λ v. KnowsWord (after_all start before).version v) h.word pass.known.0, subst (λ v. MayStand (after_all start before) v) h.word pass.stands)
