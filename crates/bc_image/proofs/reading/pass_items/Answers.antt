use Rattle.std.proofs.Common.{◌≡◌, ℕ, ◌/◌, ◌++◌, None, Some, length, sym, ap, subst, ◌∙◌, arith}
use Rattle.bc_image.specs.Births.{placed, head_at, ShowsHeads, HasPassed}
use Rattle.bc_image.specs.declared.fault.ImageCause.TheVariants as causes
use Rattle.bc_image.specs.Drafts.{put, ShowsLists}
use Rattle.bc_image.proofs.ReadLemmas.{read-begin, read-room, read-end, read-fault, read-more, read-short}
use Rattle.bc_image.proofs.reading.pass_items.Goals as goal

pub loop-number-init : goal.loop-number-init
loop-number-init c = read-begin c.args.bytes.now c.new-draft.result c.new-draft.ensures.lists c.new-draft.ensures.heads

pub take-requires-clause-room : goal.take-requires-clause-room
take-requires-clause-room c = read-room c.args.bytes.now c.loop-number.draft c.loop-number.number _ c.loop-number.invariant c.requires c.loop-number-test.true (omega arith)

pub returns-then-is_finished : goal.returns-then-is_finished
returns-then-is_finished c = read-end c.args.bytes.now c.loop-number.draft c.loop-number.number _ c.loop-number.invariant c.requires (let lt = c.loop-number-test.true in omega arith) (sym c.is_finished.ensures ∙ c.if-is_finished.true)

pub returns-in-Some : goal.returns-in-Some
returns-in-Some c =
    let r = c.loop-number.invariant in
    let told = sym c.in-Some.is ∙ (c.in_ok-cause.ensures.lists r.now r.shows).0 ∙ ap (placed r.now) c.item.ensures in
    let same = c.in_ok-cause.ensures.failed c.in-Some.cause c.in-Some.is in
    rw same (read-fault c.args.bytes.now c.loop-number.draft c.loop-number.number _ r c.requires c.in-Some.cause c.loop-number-test.true (omega arith) (sym c.is_finished.ensures ∙ c.if-is_finished.false) told)

pub loop-number-preserved : goal.loop-number-preserved
loop-number-preserved c =
    let r = c.loop-number.invariant in
    let both = c.in_ok-cause.ensures.lists r.now r.shows in
    let none = c.in_default.is in
    let told = sym none ∙ both.0 ∙ ap (placed r.now) c.item.ensures in
    let shows = both.1 none in
    let heads = c.in_ok-cause.ensures.heads r.hs r.heads none in
    read-more c.args.bytes.now c.loop-number.draft c.loop-number.number _ r c.requires c.take.new.self c.loop-number-test.true (sym c.is_finished.ensures ∙ c.if-is_finished.false) told
    (subst (λ (n : ℕ). ShowsLists c.take.new.self (put r.now n)) c.item.ensures shows)
    (subst (λ (n : ℕ). ShowsHeads c.take.new.self (r.hs ++ head_at c.loop-number.draft.progress.stage c.loop-number.number n)) c.item.ensures heads)

pub returns-then-is_finished-2 : goal.returns-then-is_finished-2
returns-then-is_finished-2 c =
    let same : c.loop-number.number ≡ length c.args.bytes.now / 8 = (let a = c.loop-number-test.false in let b = c.loop-number.auto.number-end in omega arith) in
    subst (λ (n : ℕ). HasPassed c.args.bytes.now (record { draft = c.loop-number.draft; count = n; fault = None })) same
    (read-end c.args.bytes.now c.loop-number.draft c.loop-number.number _ c.loop-number.invariant c.requires (omega arith) (sym c.is_finished-2.ensures ∙ c.if-is_finished-2.true))

pub returns : goal.returns
returns c =
    let same : c.loop-number.number ≡ length c.args.bytes.now / 8 = (let a = c.loop-number-test.false in let b = c.loop-number.auto.number-end in omega arith) in
    subst (λ (n : ℕ). HasPassed c.args.bytes.now (record { draft = c.loop-number.draft; count = n; fault = Some causes.Short })) same
    (read-short c.args.bytes.now c.loop-number.draft c.loop-number.number _ c.loop-number.invariant c.requires same c.loop-number-test.false (sym c.is_finished-2.ensures ∙ c.if-is_finished-2.false))
