use Rattle.std.proofs.Common.{refl, ap, sym, ◌∙◌, arith}
use Rattle.std.proofs.lemmas.Result.{err_from_is_err_and}
use Rattle.bc_image.specs.Items.{first_progress}
use Rattle.bc_image.specs.Numbered.{first_lost}
use Rattle.bc_image.proofs.PlaceLemmas.{linking-words}
use Rattle.bc_image.proofs.ScanLemmas.{scan-count, scan-number, scan-found, scan-listed, scan-link, scan-fault, scan-faulty, scan-whole, gives-memory}
use Rattle.bc_image.proofs.scanning.scan.Goals as goal

pub returns-in_err-draft-clause-listed : goal.returns-in_err-draft-clause-listed
returns-in_err-draft-clause-listed c = let p = err_from_is_err_and c.from_residual.result c.from_residual.ensures.1 in rw p.1 (λ l rest is. p.2 ∙ gives-memory c.args.bytes.now c.in_err-draft.field-0.0 c.in_err-draft.ensures.items l rest is)

pub first_link-requires-clause-few : goal.first_link-requires-clause-few
first_link-requires-clause-few c =
    let count = scan-count c.args.bytes.now c.type_inv.bytes c.in_ok-draft.draft c.in_ok-draft.count c.in_ok-draft.ensures.items c.in_ok-draft.draft.cells.items refl in
    let few = c.in_ok-draft.ensures.words.few in
    omega (arith, count, few, c.requires)

pub first_link-requires-clause-heads : goal.first_link-requires-clause-heads
first_link-requires-clause-heads c = c.in_ok-draft.ensures.words.heads

pub overflow_mul-result : goal.overflow_mul-result
overflow_mul-result c =
    let told = sym c.in-Some.is ∙ c.in_ok-number.ensures ∙ ap (first_lost c.in_ok-draft.draft.cells.items) c.in_ok-draft.ensures.words.words ∙ sym (linking-words c.args.bytes.now c.in_ok-draft.draft.cells.items c.in_ok-draft.count first_progress 0) in
    let few = scan-number c.args.bytes.now c.type_inv.bytes c.in_ok-draft.draft c.in_ok-draft.count c.in_ok-draft.ensures.items c.in_ok-draft.draft.cells.items refl c.in-Some.number told in
    omega (arith, few, c.requires)

pub returns-in-Some-clause-listed : goal.returns-in-Some-clause-listed
returns-in-Some-clause-listed c =
    let told = sym c.in-Some.is ∙ c.in_ok-number.ensures ∙ ap (first_lost c.in_ok-draft.draft.cells.items) c.in_ok-draft.ensures.words.words ∙ sym (linking-words c.args.bytes.now c.in_ok-draft.draft.cells.items c.in_ok-draft.count first_progress 0) in
    λ l rest is. absurd (scan-link c.args.bytes.now c.type_inv.bytes c.in_ok-draft.draft c.in_ok-draft.count c.in_ok-draft.ensures.items c.in_ok-draft.draft.cells.items refl c.in-Some.number told l rest is)

pub overflow_mul-result-2 : goal.overflow_mul-result-2
overflow_mul-result-2 c =
    let few = scan-count c.args.bytes.now c.type_inv.bytes c.in_ok-draft.draft c.in_ok-draft.count c.in_ok-draft.ensures.items c.in_ok-draft.draft.cells.items refl in
    omega (arith, few, c.requires)

pub returns-clause-found : goal.returns-clause-found
returns-clause-found c =
    let told = sym c.in_default.is ∙ c.in_ok-number.ensures ∙ ap (first_lost c.in_ok-draft.draft.cells.items) c.in_ok-draft.ensures.words.words ∙ sym (linking-words c.args.bytes.now c.in_ok-draft.draft.cells.items c.in_ok-draft.count first_progress 0) in
    scan-found c.args.bytes.now c.type_inv.bytes c.in_ok-draft.draft c.in_ok-draft.count c.in_ok-draft.ensures.items c.in_ok-draft.draft.cells.items refl told

pub returns-clause-listed : goal.returns-clause-listed
returns-clause-listed c = scan-listed c.args.bytes.now c.type_inv.bytes c.in_ok-draft.draft c.in_ok-draft.count c.in_ok-draft.ensures.items c.in_ok-draft.draft.cells.items refl

pub returns-in-Some-clause-fault : goal.returns-in-Some-clause-fault
returns-in-Some-clause-fault c =
    let told = sym c.in-Some.is ∙ c.in_ok-number.ensures ∙ ap (first_lost c.in_ok-draft.draft.cells.items) c.in_ok-draft.ensures.words.words ∙ sym (linking-words c.args.bytes.now c.in_ok-draft.draft.cells.items c.in_ok-draft.count first_progress 0) in
    scan-fault c.args.bytes.now c.type_inv.bytes c.in_ok-draft.draft c.in_ok-draft.count c.in_ok-draft.ensures.items c.in_ok-draft.draft.cells.items refl c.in-Some.number told

pub returns-in-Some-clause-faulty : goal.returns-in-Some-clause-faulty
returns-in-Some-clause-faulty c =
    let told = sym c.in-Some.is ∙ c.in_ok-number.ensures ∙ ap (first_lost c.in_ok-draft.draft.cells.items) c.in_ok-draft.ensures.words.words ∙ sym (linking-words c.args.bytes.now c.in_ok-draft.draft.cells.items c.in_ok-draft.count first_progress 0) in
    scan-faulty c.args.bytes.now c.type_inv.bytes c.in_ok-draft.draft c.in_ok-draft.count c.in_ok-draft.ensures.items c.in_ok-draft.draft.cells.items refl c.in-Some.number told

pub returns-clause-faulty : goal.returns-clause-faulty
returns-clause-faulty c =
    let told = sym c.in_default.is ∙ c.in_ok-number.ensures ∙ ap (first_lost c.in_ok-draft.draft.cells.items) c.in_ok-draft.ensures.words.words ∙ sym (linking-words c.args.bytes.now c.in_ok-draft.draft.cells.items c.in_ok-draft.count first_progress 0) in
    λ f is. absurd (scan-whole c.args.bytes.now c.type_inv.bytes c.in_ok-draft.draft c.in_ok-draft.count c.in_ok-draft.ensures.items c.in_ok-draft.draft.cells.items refl told f is)
