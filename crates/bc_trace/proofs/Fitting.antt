-- The replies of a run fit, and are short: they hold births of few lanes with serials below 2 ^ 32, numbers of a trace and
-- lengths of objects.
use Rattle.std.proofs.Common.{ℕ, zero, suc, ◌+◌, ◌^◌, ◌<◌, ◌≤◌, Bool, true, false, nat_lt, List, [], ◌∷◌, length, get_or, take, sym, subst, arith}
use Rattle.std.specs.Prelude.{if◌then◌else◌, sum_by}
use Rattle.std.specs.List.{AllByRecursion, list_all}
use Rattle.std.proofs.lemmas.List.Sums.{sum_by-cons}
use Rattle.bc_model.specs.Consistent.{IsState, IsValue}
use Rattle.bc_model.specs.StateSizes.{HasSerials, sizes_of}
use Rattle.bc_model.specs.Lists.{PhaseLists, TraceLists}
use Rattle.bc_model.specs.Run.{opening, after_ops, after_phase, replies_to, replies_to_lanes, replies_of_phases, replies_of, replies_of_cut}
use Rattle.bc_model.specs.RunLengths.{ops_of, all_ops_of}
use Rattle.bc_model.specs.State.{State, IsBorn, object_of, slot_of, field_of, reads, writes}
use Rattle.bc_model.specs.Step.{act, domains_of, target_writes, on_object, on_field, on_own_field, step, told, loaded, is_same}
use Rattle.bc_model.specs.WellFormed.{IsOp, IsPhase, IsTrace}
use Rattle.bc_model.specs.declared.operations.Op.{Op}
use Rattle.bc_model.specs.declared.operations.Op.TheVariants as op
use Rattle.bc_model.specs.declared.operations.Reply.{Reply}
use Rattle.bc_model.specs.declared.operations.Reply.TheVariants as replies
use Rattle.bc_model.specs.declared.traces.Setup.{Setup}
use Rattle.bc_model.specs.declared.values.Birth.{Birth}
use Rattle.bc_model.specs.declared.values.Value.{Value}
use Rattle.bc_model.specs.declared.values.Value.TheVariants.{Nil, Num, Obj}
use Rattle.bc_model.proofs.Callers.{IsPhase-from_setup}
use Rattle.bc_model.proofs.CutFronts.{run-front}
use Rattle.bc_model.proofs.InOrder.{IsState-after_ops, SameSizes-after_ops, FitLanes-same}
use Rattle.bc_model.proofs.Openings.{IsState-opening, HasSizes-opening, HasSerials-opening}
use Rattle.bc_model.proofs.RunStates.{OfSetup, OfSetup-after_phase}
use Rattle.bc_model.proofs.Serials.{HasSerials-less, HasSerials-step, HasSerials-after_ops, HasSerials-after_phase}
use Rattle.bc_model.proofs.Steps.{SameSizes-step, IsState-step, IsOps-same}
use Rattle.bc_trace.specs.ReplyRanges.{FitsReply, FitsPhase}

-- the numbers that a reply holds have few digits
abbrev pub IsShort : Reply → Type 0
IsShort (replies.Obj b) = (b.lane < 2 ^ 32) × (b.serial < 2 ^ 32)
IsShort (replies.Num v) = v < 2 ^ 63
IsShort (replies.Len n) = n < 2 ^ 32
IsShort _ = Unit {0}

-- so have those of each reply of each lane of a phase
abbrev pub AreShort : List (List Reply) → Type 0
AreShort lanes = AllByRecursion (AllByRecursion IsShort) lanes

-- ---- one reply

short-if : (b : Bool) (x y : State × Reply) → IsShort x.1 → IsShort y.1 → IsShort (if b then x else y).1
short-if true x y h g = h
short-if false x y h g = g

short-either : (b : Bool) (r q : Reply) → IsShort r → IsShort q → IsShort (if b then r else q)
short-either true r q h g = h
short-either false r q h g = g

short-born : (s : State) (b : Birth) → IsState s → HasSerials 0 s → IsBorn s.made b → IsShort (replies.Obj b)
short-born s b hs few born = (omega (arith, hs.lanes, born.lane), omega (arith, few.below b.lane, born.serial))

short-on_object : (s : State) (j : ℕ) (v : Value) (next : Birth → State × Reply) → IsValue s.made v → ((b : Birth) → IsBorn s.made b → IsShort (next b).1) → IsShort (on_object s j v next).1
short-on_object s j Nil next h f = tt
short-on_object s j (Num v) next h f = tt
short-on_object s j (Obj b) next h f = short-if (reads s j (object_of s.made b).domain) (next b) (s, replies.Foreign) (f b h) tt

short-on_field : (s : State) (j : ℕ) (v : Value) (i : ℕ) (next : Birth → State × Reply) → IsValue s.made v → ((b : Birth) → IsBorn s.made b → IsShort (next b).1) → IsShort (on_field s j v i next).1
short-on_field s j v i next h f =
    short-on_object s j v _ h (λ b born. short-if (nat_lt i (length (object_of s.made b).fields)) (next b) (s, replies.Range) (f b born) tt)

short-on_own_field : (s : State) (j : ℕ) (v : Value) (i : ℕ) (next : Birth → State × Reply) → IsValue s.made v → ((b : Birth) → IsBorn s.made b → IsShort (next b).1) → IsShort (on_own_field s j v i next).1
short-on_own_field s j v i next h f =
    short-on_object s j v _ h (λ b born.
    let field = nat_lt i (length (object_of s.made b).fields) in
    short-if (writes s j (object_of s.made b).domain) (if field then next b else (s, replies.Range)) (s, replies.Frozen) (short-if field (next b) (s, replies.Range) (f b born) tt) tt)

short-told : (s : State) (j : ℕ) (v : Value) → IsState s → HasSerials 0 s → IsValue s.made v → IsShort (told s j v)
short-told s j Nil hs few h = tt
short-told s j (Num v) hs few h = h
short-told s j (Obj b) hs few h = short-either (reads s j (object_of s.made b).domain) (replies.Obj b) replies.Foreign (short-born s b hs few h) tt

short-loaded : (s : State) (v : Value) → IsValue s.made v → IsShort (loaded v)
short-loaded s Nil h = tt
short-loaded s (Num v) h = h
short-loaded s (Obj b) h = tt

short-act : (s : State) (j : ℕ) (o : Op) → IsState s → HasSerials 1 s → j < length s.made → IsShort (act s j o).1
short-act s j (op.New p n) hs few lane = (omega (arith, hs.lanes), omega (arith, few.below j))
short-act s j (op.Who p) hs few lane = short-told s j (slot_of s p) hs (HasSerials-less 0 1 s (omega arith) few) (hs.values _)
short-act s j (op.Len p) hs few lane = short-on_object s j (slot_of s p) _ (hs.values _) (λ b born. omega (arith, (hs.objects b born).fields))
short-act s j (op.Set p i v) hs few lane = short-on_own_field s j (slot_of s p) i _ (hs.values _) (λ b born. tt)
short-act s j (op.Cut p i) hs few lane = short-on_own_field s j (slot_of s p) i _ (hs.values _) (λ b born. tt)
short-act s j (op.Link p i q) hs few lane = short-on_own_field s j (slot_of s p) i _ (hs.values _) (λ b born. tt)
short-act s j (op.Load p i q) hs few lane =
    short-on_field s j (slot_of s p) i _ (hs.values _) (λ b born. short-loaded s (field_of s b i) ((hs.objects b born).values i))
short-act s j (op.Copy p q) hs few lane = tt
short-act s j (op.Clear p) hs few lane = tt
short-act s j (op.Same p q) hs few lane = short-either (is_same (slot_of s p) (slot_of s q)) replies.Yes replies.No tt tt

short-step : (s : State) (j : ℕ) (o : Op) → IsState s → HasSerials 1 s → j < length s.made → IsShort (step s j o).1
short-step s j o hs few lane =
    short-if (list_all (reads s j) (domains_of o)) (if target_writes s j o then act s j o else (s, replies.Frozen)) (s, replies.Foreign)
    (short-if (target_writes s j o) (act s j o) (s, replies.Frozen) (short-act s j o hs few lane) tt) tt

-- ---- those of a run

short-ops : (s : State) (j : ℕ) (ops : List Op) → IsState s → j < length s.made → AllByRecursion (IsOp (sizes_of s)) ops → HasSerials (length ops) s → AllByRecursion IsShort (replies_to s j ops)
unfolding replies_to
short-ops s j [] hs lane fits few = tt
short-ops s j (o ∷ ops) hs lane fits few =
    let same = SameSizes-step s j o hs fits.0 in (
      short-step s j o hs (HasSerials-less 1 (suc (length ops)) s (omega arith) few) lane,
      short-ops (step s j o).0 j ops (IsState-step s j o hs lane fits.0) (omega (arith, lane, same.lanes)) (IsOps-same s (step s j o).0 ops same fits.1) (HasSerials-step (length ops) s j o hs lane fits.0 few),
    )

pub short-lanes : (s : State) (j : ℕ) (lanes : List (List Op)) → IsState s → j + length lanes ≤ length s.made → AllByRecursion (AllByRecursion (IsOp (sizes_of s))) lanes → HasSerials (sum_by length lanes) s → AreShort (replies_to_lanes s j lanes)
unfolding replies_to_lanes
short-lanes s j [] hs small fits few = tt
short-lanes s j (ops ∷ lanes) hs small fits few =
    let lane : j < length s.made = omega arith in
    let count = sum_by-cons length ops lanes in
    let same = SameSizes-after_ops s j ops hs lane fits.0 in (
      short-ops s j ops hs lane fits.0 (HasSerials-less (length ops) (sum_by length (ops ∷ lanes)) s (omega (arith, count)) few),
      short-lanes (after_ops s j ops) (j + 1) lanes (IsState-after_ops s j ops hs lane fits.0) (omega (arith, small, same.lanes)) (FitLanes-same s (after_ops s j ops) lanes same fits.1)
          (HasSerials-after_ops (sum_by length lanes) s j ops hs lane fits.0 (HasSerials-less (sum_by length lanes + length ops) (sum_by length (ops ∷ lanes)) s (omega (arith, count)) few)),
    )

pub short-phases : (setup : Setup) (s : State) (phases : List PhaseLists) → OfSetup setup s → AllByRecursion (IsPhase setup) phases → HasSerials (sum_by ops_of phases) s → AllByRecursion AreShort (replies_of_phases s phases)
unfolding replies_of_phases
short-phases setup s [] of fits few = tt
short-phases setup s (p ∷ phases) of fits few =
    let count = sum_by-cons ops_of p phases in
    let here = IsPhase-from_setup setup s p of.sizes fits.0 in
    let small : 0 + length p.lanes ≤ length s.made = omega (arith, here.lanes) in
    let rest = HasSerials-after_phase (sum_by ops_of phases) s p of.state here (HasSerials-less (sum_by ops_of phases + ops_of p) (sum_by ops_of (p ∷ phases)) s (omega (arith, count)) few) in (
      short-lanes s 0 p.lanes of.state small here.ops (HasSerials-less (ops_of p) (sum_by ops_of (p ∷ phases)) s (omega (arith, count)) few),
      short-phases setup (after_phase s p) phases (OfSetup-after_phase setup s p of fits.0) fits.1 rest,
    )

pub short-run : (t : TraceLists) → IsTrace t → all_ops_of t < 2 ^ 32 → AllByRecursion AreShort (replies_of t)
short-run t h few =
    short-phases t.setup (opening t.setup) t.phases (record { state = IsState-opening t.setup h.setup; sizes = HasSizes-opening t.setup }) h.phases
    (HasSerials-opening t.setup (all_ops_of t) few)

-- ---- those of a cut: prefixes of these

at-place : {X : Type 0} (P : X → Type 0) (d : X) (xs : List X) (i : ℕ) → P d → AllByRecursion P xs → P (get_or xs i d)
at-place P d [] i h all = h
at-place P d (x ∷ xs) zero h all = all.0
at-place P d (x ∷ xs) (suc i) h all = at-place P d xs i h all.1

from-places : {X : Type 0} (P : X → Type 0) (d : X) (xs : List X) → ((i : ℕ) → P (get_or xs i d)) → AllByRecursion P xs
from-places P d [] h = tt
from-places P d (x ∷ xs) h = (h 0, from-places P d xs (λ i. h (suc i)))

in-front : {X : Type 0} (P : X → Type 0) (n : ℕ) (xs : List X) → AllByRecursion P xs → AllByRecursion P (take n xs)
in-front P zero xs h = tt
in-front P (suc n) [] h = tt
in-front P (suc n) (x ∷ xs) h = (h.0, in-front P n xs h.1)

pub short-cut_of_run : (t : TraceLists) (k : ℕ) (cut : List ℕ) → IsTrace t → all_ops_of t < 2 ^ 32 → AreShort (replies_of_cut t k cut)
short-cut_of_run t k cut h few =
    let whole : AreShort (get_or (replies_of t) k []) = at-place AreShort [] (replies_of t) k tt (short-run t h few) in
    from-places (AllByRecursion IsShort) [] (replies_of_cut t k cut) (λ j.
    subst (λ (rs : List Reply). AllByRecursion IsShort rs) (sym (run-front t k cut j h))
    (in-front IsShort (get_or cut j 0) (get_or (get_or (replies_of t) k []) j [])
    (at-place (AllByRecursion IsShort) [] (get_or (replies_of t) k []) j tt whole)))

-- ---- what is short fits

pub all-weaker : {X : Type 0} (P Q : X → Type 0) (xs : List X) → ((x : X) → P x → Q x) → AllByRecursion P xs → AllByRecursion Q xs
all-weaker P Q [] f h = tt
all-weaker P Q (x ∷ xs) f h = (f x h.0, all-weaker P Q xs f h.1)

fits-reply : (r : Reply) → IsShort r → FitsReply r
fits-reply (replies.Obj b) h = (omega (arith, h.0), omega (arith, h.1))
fits-reply (replies.Num v) h = omega (arith, h)
fits-reply (replies.Len n) h = omega (arith, h)
fits-reply replies.Done h = tt
fits-reply replies.Nil h = tt
fits-reply replies.Ref h = tt
fits-reply replies.Yes h = tt
fits-reply replies.No h = tt
fits-reply replies.NotObj h = tt
fits-reply replies.Range h = tt
fits-reply replies.Foreign h = tt
fits-reply replies.Frozen h = tt

fits-phase : (lanes : List (List Reply)) → AreShort lanes → FitsPhase lanes
fits-phase lanes h = all-weaker (AllByRecursion IsShort) (AllByRecursion FitsReply) lanes (λ rs. all-weaker IsShort FitsReply rs fits-reply) h

pub fits-run : (t : TraceLists) → IsTrace t → all_ops_of t < 2 ^ 32 → AllByRecursion FitsPhase (replies_of t)
fits-run t h few = all-weaker AreShort FitsPhase (replies_of t) fits-phase (short-run t h few)

pub fits-cut_of_run : (t : TraceLists) (k : ℕ) (cut : List ℕ) → IsTrace t → all_ops_of t < 2 ^ 32 → FitsPhase (replies_of_cut t k cut)
fits-cut_of_run t k cut h few = fits-phase (replies_of_cut t k cut) (short-cut_of_run t k cut h few)
