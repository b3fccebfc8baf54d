use Rattle.std.proofs.Common.{ℕ, Some, None, Err, sym, ap, subst, ◌∙◌}
use Rattle.bc_image.specs.Reading.{GivesItems, items_of_all, fault_at}
use Rattle.bc_image.specs.declared.fault.ImageCause.TheVariants as causes
use Rattle.bc_image.specs.declared.fault.ReadImage.{ReadImage}
use Rattle.bc_image.proofs.BirthLemmas.{passed-few, passed-twice, passed-apart}
use Rattle.bc_image.proofs.reading.read_items.Goals as goal

pub find_twice-requires-clause-few : goal.find_twice-requires-clause-few
find_twice-requires-clause-few c = passed-few c.args.bytes.now c.in_ok-passed.passed c.in_ok-passed.ensures

pub returns-in-Some-clause-items : goal.returns-in-Some-clause-items
returns-in-Some-clause-items c =
    let p = c.in_ok-passed.ensures in
    let twice = passed-twice c.args.bytes.now c.in_ok-passed.passed p _ c.in-Some.number (c.in_ok-number.ensures.twice _ p.heads) c.in-Some.is in
    subst (λ (e : ReadImage). GivesItems (Err e) (items_of_all c.args.bytes.now)) (sym c.fault_of.ensures) (twice ∙ ap (λ (n : ℕ). Err (fault_at n causes.Twice)) (sym c.from.ensures))

pub returns-in-Some-fault-clause-items : goal.returns-in-Some-fault-clause-items
returns-in-Some-fault-clause-items c =
    let p = c.in_ok-passed.ensures in
    let apart = passed-apart c.args.bytes.now c.in_ok-passed.passed p _ (Some c.in-Some-fault.cause) (c.in_ok-number.ensures.twice _ p.heads) c.in_default.is c.in-Some-fault.is in
    subst (λ (e : ReadImage). GivesItems (Err e) (items_of_all c.args.bytes.now)) (sym c.fault_of-in-Some-fault.ensures) apart

pub returns-clause-items : goal.returns-clause-items
returns-clause-items c =
    let p = c.in_ok-passed.ensures in
    let apart = passed-apart c.args.bytes.now c.in_ok-passed.passed p _ None (c.in_ok-number.ensures.twice _ p.heads) c.in_default.is c.in_default-fault.is in (
      p.lists,
      rw c.find_twice.ensures.kept (record {
        progress = p.shows.progress;
        holders = p.shows.holders;
        births = p.shows.births;
        roots = p.shows.roots;
        cells = p.shows.cells;
        head = p.shows.head;
        fields = p.shows.fields;
      }),
      apart,
    )

pub returns-clause-words : goal.returns-clause-words
returns-clause-words c =
    let w = c.in_ok-passed.ensures.words c.in_default-fault.is in
    rw c.find_twice.ensures.kept (record { few = w.few; heads = w.heads; words = w.words })
