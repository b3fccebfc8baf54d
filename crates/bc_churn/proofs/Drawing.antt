-- What the loops of `churn` draw, one more at a time.
use Rattle.std.proofs.Common.{◌≡◌, ℕ, ◌+◌, ◌≤◌, if◌then◌else◌, List, [], ◌∷◌, ◌++◌, map, Bool, true, false, suc, refl, sym, ap, subst, ◌∙◌, slice_set, arith}
use Rattle.std.specs.List.{flat_map}
use Rattle.std.proofs.lemmas.List.{append-nil, map-append}
use Rattle.std.proofs.lemmas.List.Elements.{filter-append}
use Rattle.std.proofs.lemmas.Grind.{flat_map-append}
use Rattle.std.specs.Int.{div_ceil}
use Rattle.bc_model.specs.Lists.{PhaseLists, TraceLists}
use Rattle.bc_model.specs.Run.{opening, after_changes}
use Rattle.bc_model.specs.State.{State, changed, holder_of, lets_write, numbers_below}
use Rattle.bc_model.specs.declared.traces.Change.{Change}
use Rattle.bc_model.specs.declared.operations.Op.{Op}
use Rattle.bc_model.specs.declared.values.Holder.{Holder}
use Rattle.bc_model.specs.declared.values.Holder.TheVariants.{Lane}
use Rattle.bc_churn.specs.Draws.{drawn_op, number_after_op, number_after_ops}
use Rattle.bc_churn.specs.Churn.{churn_phase, churn_setup, clears_below, domain_clears, drawn_ops, phase_change, phase_give, holders_before, number_after_phase, number_before, ops_in, phase_from, phases_of, churn_give, churn_trace}

pub clears-none : (holders : List Holder) (j : ℕ) → clears_below holders j 0 ≡ []
unfolding clears_below
clears-none holders j = refl

clears-one : (holders : List Holder) (j n : ℕ) (b : Bool) → flat_map domain_clears (if b then n ∷ [] else []) ≡ (if b then domain_clears n else [])
clears-one holders j n true = append-nil (domain_clears n)
clears-one holders j n false = refl

pub clears-suc : (holders : List Holder) (j n : ℕ) → clears_below holders j (suc n) ≡ clears_below holders j n ++ (if lets_write (holder_of holders n) j then domain_clears n else [])
unfolding clears_below
clears-suc holders j n =
    ap (flat_map domain_clears) (filter-append (λ d. lets_write (holder_of holders d) j) (numbers_below n) (n ∷ []))
    ∙ flat_map-append domain_clears _ _
    ∙ ap (λ os. clears_below holders j n ++ os) (clears-one holders j n (lets_write (holder_of holders n) j))

pub clears-more : (holders : List Holder) (j n : ℕ) → clears_below holders j (n + 1) ≡ clears_below holders j n ++ (if lets_write (holder_of holders n) j then domain_clears n else [])
clears-more holders j n = let e : n + 1 ≡ suc n = omega arith in subst (λ m. clears_below holders j m ≡ clears_below holders j n ++ (if lets_write (holder_of holders n) j then domain_clears n else [])) (sym e) (clears-suc holders j n)

-- a domain that the lane holds, and one that it doesn't
pub clears-held : (holders : List Holder) (j n : ℕ) (before after : List Op) → lets_write (holder_of holders n) j ≡ true → before ≡ clears_below holders j n → after ≡ before ++ domain_clears n → after ≡ clears_below holders j (n + 1)
clears-held holders j n before after e so_far more =
    let one : clears_below holders j (n + 1) ≡ clears_below holders j n ++ domain_clears n = clears-more holders j n ∙ rw e refl in
    more ∙ ap (λ os. os ++ domain_clears n) so_far ∙ sym one

pub clears-free : (holders : List Holder) (j n : ℕ) (before after : List Op) → lets_write (holder_of holders n) j ≡ false → before ≡ clears_below holders j n → after ≡ before → after ≡ clears_below holders j (n + 1)
clears-free holders j n before after off so_far same =
    let one : clears_below holders j (n + 1) ≡ clears_below holders j n = clears-more holders j n ∙ rw off (append-nil (clears_below holders j n)) in
    same ∙ so_far ∙ sym one

pub number-more : (n x : ℕ) → number_after_ops (n + 1) x ≡ number_after_op (number_after_ops n x)
number-more n x = let e : n + 1 ≡ suc n = omega arith in rw e refl

pub drawn-more : (n x : ℕ) → drawn_ops (n + 1) x ≡ drawn_ops n x ++ drawn_op (number_after_ops n x) ∷ []
drawn-more n x = let e : n + 1 ≡ suc n = omega arith in subst (λ m. drawn_ops m x ≡ drawn_ops n x ++ drawn_op (number_after_ops n x) ∷ []) (sym e) (map-append (λ i. drawn_op (number_after_ops i x)) (numbers_below n) (n ∷ []))

-- ---- phases

after_changes-more : (s : State) (cs : List Change) (c : Change) → after_changes s (cs ++ c ∷ []) ≡ changed (after_changes s cs) c
unfolding after_changes
after_changes-more s [] c = refl
after_changes-more s (x ∷ cs) c = after_changes-more (changed s x) cs c

pub holders-suc : (start ops k : ℕ) → holders_before start ops (suc k) ≡ slice_set (holders_before start ops k) (phase_give start ops k).domain (Lane (phase_give start ops k).lane)
holders-suc start ops k =
    ap (λ (cs : List Change). (after_changes (opening churn_setup) cs).holders) (map-append (phase_change start ops) (numbers_below k) (k ∷ []))
    ∙ ap (λ (s : State). s.holders) (after_changes-more (opening churn_setup) (map (phase_change start ops) (numbers_below k)) (phase_change start ops k))

pub holders-more : (start ops k : ℕ) → holders_before start ops (k + 1) ≡ slice_set (holders_before start ops k) (phase_give start ops k).domain (Lane (phase_give start ops k).lane)
holders-more start ops k =
    let e : k + 1 ≡ suc k = omega arith in
    subst (λ (m : ℕ). holders_before start ops m ≡ slice_set (holders_before start ops k) (phase_give start ops k).domain (Lane (phase_give start ops k).lane)) (sym e) (holders-suc start ops k)

pub before-more : (start ops k : ℕ) → number_before start ops (k + 1) ≡ number_after_phase (ops_in ops k) (number_before start ops k)
before-more start ops k = let e : k + 1 ≡ suc k = omega arith in rw e refl

pub phases-more : (start ops k : ℕ) → map (churn_phase start ops) (numbers_below (k + 1)) ≡ map (churn_phase start ops) (numbers_below k) ++ churn_phase start ops k ∷ []
phases-more start ops k = let e : k + 1 ≡ suc k = omega arith in subst (λ (m : ℕ). map (churn_phase start ops) (numbers_below m) ≡ map (churn_phase start ops) (numbers_below k) ++ churn_phase start ops k ∷ []) (sym e) (map-append (churn_phase start ops) (numbers_below k) (k ∷ []))

-- one more phase, drawn from the number and the holders before it
pub phase-made : (start ops k x : ℕ) (holders : List Holder) (phases new : List PhaseLists) (p : PhaseLists) → phases ≡ map (churn_phase start ops) (numbers_below k) → x ≡ number_before start ops k → holders ≡ holders_before start ops k → p ≡ phase_from k (ops_in ops k) x holders → new ≡ phases ++ p ∷ [] → new ≡ map (churn_phase start ops) (numbers_below (k + 1))
phase-made start ops k x holders phases new p so_far number held made pushed =
    let q : p ≡ churn_phase start ops k = made ∙ ap (λ (y : ℕ). phase_from k (ops_in ops k) y holders) number ∙ ap (λ (hs : List Holder). phase_from k (ops_in ops k) (number_before start ops k) hs) held in
    pushed ∙ ap (λ (ps : List PhaseLists). ps ++ p ∷ []) so_far ∙ ap (λ (y : PhaseLists). map (churn_phase start ops) (numbers_below k) ++ y ∷ []) q ∙ sym (phases-more start ops k)

-- the number and the holders after it
pub number-made : (start ops k x new : ℕ) → x ≡ number_before start ops k → new ≡ number_after_phase (ops_in ops k) x → new ≡ number_before start ops (k + 1)
number-made start ops k x new e made = made ∙ ap (λ (y : ℕ). number_after_phase (ops_in ops k) y) e ∙ sym (before-more start ops k)

pub holders-made : (start ops k x : ℕ) (holders new : List Holder) → x ≡ number_before start ops k → holders ≡ holders_before start ops k → new ≡ slice_set holders (churn_give k (ops_in ops k) x).domain (Lane (churn_give k (ops_in ops k) x).lane) → new ≡ holders_before start ops (k + 1)
holders-made start ops k x holders new number held made =
    made
    ∙ ap (λ (y : ℕ). slice_set holders (churn_give k (ops_in ops k) y).domain (Lane (churn_give k (ops_in ops k) y).lane)) number
    ∙ ap (λ (hs : List Holder). slice_set hs (phase_give start ops k).domain (Lane (phase_give start ops k).lane)) held
    ∙ sym (holders-more start ops k)

-- as many phases as there are thousands, rounded up
pub phases-count : (ops k n : ℕ) → n ≡ div_ceil ops 1000 → k ≤ n → n ≤ k → k ≡ phases_of ops
phases-count ops k n e low high = omega (arith, e, low, high)

pub trace-made : (start ops k : ℕ) (phases : List PhaseLists) (t : TraceLists) → t ≡ record { version = 1; setup = churn_setup; phases = phases } → phases ≡ map (churn_phase start ops) (numbers_below k) → k ≡ phases_of ops → t ≡ churn_trace start ops
unfolding churn_trace
trace-made start ops k phases t is made count =
    is ∙ ap (λ (ps : List PhaseLists). record { version = 1; setup = churn_setup; phases = ps }) (made ∙ ap (λ (n : ℕ). map (churn_phase start ops) (numbers_below n)) count)

pub ruleset churn_lists = (clears-none, number-more, drawn-more)
