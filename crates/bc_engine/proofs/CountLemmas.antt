-- Counts that go on as the heap's do add up to it.
use Rattle.std.proofs.Common.{◌≡◌, ℕ, ◌+◌, ◌%◌, ◌^◌, ◌<◌, ◌≤◌, Bool, true, false, inl, inr, List, length, get_or, refl, sym, ap, subst, ◌∙◌, arith}
use Rattle.std.proofs.lemmas.List.{at_drop_all}
use Rattle.std.proofs.lemmas.List.Sums.{sum_by-drop_more}
use Rattle.std.specs.Prelude.{sum_by}
use Rattle.bc_marking.specs.declared.lines.Cursor.{Cursor}
use Rattle.bc_pager.specs.declared.answers.Answer.{Answer}
use Rattle.bc_running.specs.Running.{RunningView}
use Rattle.bc_engine.specs.Rounds.{MayCollect}
use Rattle.bc_engine.specs.Counting.{CountsAlone, CountsEarly, CountsEmptying, CountsPages, CountsTurn, IsCounted, gone_on, left_since, names_left, one_of_kind}
use Rattle.bc_cycle.specs.declared.emptying.EmptyingKind.{EmptyingKind}
use Rattle.bc_cycle.specs.declared.emptying.EmptyingKind.TheVariants as emptying
use Rattle.bc_engine.specs.declared.counters.Counters.{Counters}

-- the count that goes on does so for the sum, whatever the others are
on : (e a b c n before after : ℕ) → before < 2 ^ 64 → after < 2 ^ 64 → (e + (a + b + c + n) % 2 ^ 64) % 2 ^ 64 ≡ before → (e + (gone_on a before after + b + c + n) % 2 ^ 64) % 2 ^ 64 ≡ after
on e a b c n before after lt le is = omega (arith, lt, le, is)

pub turn-counted : (c d : Counters) (before after noticed : ℕ) → before < 2 ^ 64 → after < 2 ^ 64 → CountsTurn c before after noticed d → IsCounted c before → IsCounted d after
turn-counted c d before after noticed lt le counts is =
    subst (λ (x : Counters). IsCounted x after) (sym counts.0) (on c.earlier c.reads.turns c.reads.alone c.reads.collections c.reads.notices before after lt le is)

pub alone-counted : (c d : Counters) (before after : ℕ) → before < 2 ^ 64 → after < 2 ^ 64 → CountsAlone c before after d → IsCounted c before → IsCounted d after
alone-counted c d before after lt le counts is =
    let sum : (c.earlier + (gone_on c.reads.alone before after + c.reads.turns + c.reads.collections + c.reads.notices) % 2 ^ 64) % 2 ^ 64 ≡ after = on c.earlier c.reads.alone c.reads.turns c.reads.collections c.reads.notices before after lt le (omega (arith, is)) in
    subst (λ (x : Counters). IsCounted x after) (sym counts.0) (omega (arith, sum))

early-counted : (c d : Counters) (collected : Bool) (noticed reads : ℕ) → CountsEarly c collected noticed d → IsCounted c reads → IsCounted d reads
early-counted c d true noticed reads counts is = subst (λ (x : Counters). IsCounted x reads) (sym counts) is
early-counted c d false noticed reads counts is = subst (λ (x : Counters). IsCounted x reads) (sym counts) is

pages-counted : (c d : Counters) (before after noticed : ℕ) → before < 2 ^ 64 → after < 2 ^ 64 → CountsPages c before after noticed d → IsCounted c before → IsCounted d after
pages-counted c d before after noticed lt le counts is =
    let sum : (c.earlier + (gone_on c.reads.collections before after + c.reads.turns + c.reads.alone + c.reads.notices) % 2 ^ 64) % 2 ^ 64 ≡ after = on c.earlier c.reads.collections c.reads.turns c.reads.alone c.reads.notices before after lt le (omega (arith, is)) in
    subst (λ (x : Counters). IsCounted x after) (sym counts.0) (omega (arith, sum))

kind-counted : (kind : EmptyingKind) (c : Counters) (reads : ℕ) → IsCounted c reads → IsCounted (one_of_kind kind c) reads
kind-counted emptying.Promotion c reads is = is
kind-counted emptying.Collection c reads is = is
kind-counted emptying.Failsafe c reads is = is

pub emptying-counted : (kind : EmptyingKind) (c d : Counters) (before after noticed : ℕ) → before < 2 ^ 64 → after < 2 ^ 64 → CountsEmptying kind c before after noticed d → IsCounted c before → IsCounted d after
emptying-counted kind c d before after noticed lt le counts is =
    pages-counted (one_of_kind kind c) d before after noticed lt le counts (kind-counted kind c before is)

-- counts of what the code looked at are counts of the heap's reads, and of the answers that came since
pub turn-counts : (c d : Counters) {b a n : ℕ} (before after noticed : ℕ) → b ≡ before → a ≡ after → n ≡ noticed → CountsTurn c b a n d → CountsTurn c before after noticed d
turn-counts c d {b} {a} {n} before after noticed from to since counts =
    subst (λ (x : ℕ). CountsTurn c x after noticed d) from (subst (λ (x : ℕ). CountsTurn c b x noticed d) to (subst (λ (x : ℕ). CountsTurn c b a x d) since counts))

-- of two counts of pages, added up
pub both-counts : (c d : Counters) {b a n : ℕ} (before after one other : ℕ) → b ≡ before → a ≡ after → n ≡ (one + other) % 2 ^ 64 → CountsTurn c b a n d → CountsTurn c before after (one + other) d
both-counts c d {b} {a} {n} before after one other from to since counts =
    let here = turn-counts c d before after n from to refl counts in
    (here.0, omega (arith, here.1, since))

pub alone-counts : (c d : Counters) {b a : ℕ} (before after : ℕ) → b ≡ before → a ≡ after → CountsAlone c b a d → CountsAlone c before after d
alone-counts c d {b} {a} before after from to counts =
    subst (λ (n : ℕ). CountsAlone c n after d) from (subst (λ (n : ℕ). CountsAlone c b n d) to counts)

pub emptying-counts : (kind : EmptyingKind) (c d : Counters) {b a n : ℕ} (before after noticed : ℕ) → b ≡ before → a ≡ after → n ≡ noticed → CountsEmptying kind c b a n d → CountsEmptying kind c before after noticed d
emptying-counts kind c d {b} {a} {n} before after noticed from to since counts =
    subst (λ (x : ℕ). CountsEmptying kind c x after noticed d) from
    (subst (λ (x : ℕ). CountsEmptying kind c b x noticed d) to (subst (λ (x : ℕ). CountsEmptying kind c b a x d) since counts))

pub early-counts : (c d : Counters) (collected : Bool) {n : ℕ} (noticed : ℕ) → n ≡ noticed → CountsEarly c collected n d → CountsEarly c collected noticed d
early-counts c d collected noticed since counts = subst (λ (x : ℕ). CountsEarly c collected x d) since counts

-- the answers since there were so many
pub since : (answers : List Answer) {n long : ℕ} {left : ℕ} → left ≡ left_since n answers → n ≡ long → left ≡ left_since long answers
since answers left same = left ∙ ap (λ (n : ℕ). left_since n answers) same

-- no page is read between a turn and its minor collection
pub collect-counted : {n : ℕ} {from to : Cursor} {lines : List (List ℕ)} {before after : List Answer} {r q : RunningView} {c d : Counters} → MayCollect n lines r from before q to after c d → IsCounted c r.heap.space.reads → IsCounted d q.heap.space.reads
collect-counted {before = before} {after = after} {r = r} {q = q} {c = c} {d = d} collects is = elim collects.way [
  | inl none ↦ subst (λ (x : RunningView). IsCounted d x.heap.space.reads) (sym none.0) (early-counted c d false 0 r.heap.space.reads none.2 is)
  | inr some ↦ subst (IsCounted d) (sym some.1.reads) (early-counted c d true (left_since (length before) after) r.heap.space.reads some.2 is)
]

-- counting the pages that left, answer by answer
pub left-more : (answers : List Answer) (i from left one : ℕ) (d : Answer) → i < length answers → one ≡ names_left (get_or answers i d)
    → left + left_since i answers ≡ left_since from answers → left + one + left_since (i + 1) answers ≡ left_since from answers
left-more answers i from left one d lt is before = omega (arith, before, is, sum_by-drop_more names_left answers i d lt)

pub left-all : (answers : List Answer) (i from left : ℕ) → length answers ≤ i → left + left_since i answers ≡ left_since from answers → left ≡ left_since from answers
left-all answers i from left past before =
    let none : left_since i answers ≡ 0 = at_drop_all (sum_by names_left) answers i past in
    omega (arith, before, none)
