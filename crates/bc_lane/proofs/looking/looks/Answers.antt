use Rattle.std.proofs.Common.{◌<◌, ℕ, true, false, length, get_or, ap, sym, subst, ◌∙◌, arith}
use Rattle.bc_lane.specs.Turns.{LooksReadable}
use Rattle.bc_lane.proofs.LookLemmas.{foreign-reads, held-by, right-as, right-held, told-at, told-domain, told-foreign, told-sealed, told-superpage}
use Rattle.bc_model.specs.declared.values.Holder.TheVariants as holder
use Rattle.bc_pins.specs.Calls.{key_of}
use Rattle.bc_superpages.specs.Layout.{superpages}
use Rattle.bc_lane.proofs.looking.looks.Goals as goal

pub cell_looked_at-requires-clause-whole : goal.cell_looked_at-requires-clause-whole
cell_looked_at-requires-clause-whole c = let w = c.requires.whole in (w.0, w.1, w.2, w.4, w.5)

pub header-requires : goal.header-requires
header-requires c =
    let e = c.in-Some.ensures in
    subst (λ (q : ℕ). q < superpages (key_of c.args.pins.now).opening) (sym c.superpage.ensures.superpage)
    (told-superpage c.args.part.now (key_of c.args.pins.now) c.args.end c.args.op.now c.in-Some.at c.requires.table e.named e.below e.leads e.looks c.requires.whole)

pub returns-in-None : goal.returns-in-None
returns-in-None c = record { told = c.in-None.ensures.none }

pub index-requires : goal.index-requires
index-requires c =
    let e = c.in-Some.ensures in
    let domain = c.header.ensures.domain ∙ ap (λ (q : ℕ). get_or (key_of c.args.pins.now).opening.domains q 0) c.superpage.ensures.superpage in
    let within = told-domain c.args.part.now (key_of c.args.pins.now) c.args.end c.args.op.now c.in-Some.at c.requires.table e.named e.below e.leads e.looks c.requires.whole in
    omega arith

pub has_right-requires : goal.has_right-requires
has_right-requires c =
    let e = c.in-Some.ensures in
    let domain = c.header.ensures.domain ∙ ap (λ (q : ℕ). get_or (key_of c.args.pins.now).opening.domains q 0) c.superpage.ensures.superpage in
    let within = told-domain c.args.part.now (key_of c.args.pins.now) c.args.end c.args.op.now c.in-Some.at c.requires.table e.named e.below e.leads e.looks c.requires.whole in
    let long = ap length c.deref.ensures.value in
    record { domain = omega arith }

-- the holder of the cell's domain
pub returns-then-lane-part : goal.returns-then-lane-part
returns-then-lane-part c =
    let e = c.in-Some.ensures in
    let part = c.args.part.now in
    let k = key_of c.args.pins.now in
    let domain = c.header.ensures.domain ∙ ap (λ (q : ℕ). get_or k.opening.domains q 0) c.superpage.ensures.superpage in
    let within = told-domain part k c.args.end c.args.op.now c.in-Some.at c.requires.table e.named e.below e.leads e.looks c.requires.whole in
    let who = held-by part.holders.items c.header.result.now.domain _ c.index.result.now domain within c.index.ensures ∙ c.in-Lane.is ∙ ap holder.Lane c.if-lane-part.true in
    record {
      told = subst (λ (p : ℕ). LooksReadable part k c.args.end c.args.op.now (holder.Lane part.lane) p) (sym c.page.ensures.page)
          (told-at part k c.args.end c.args.op.now c.in-Some.at c.requires.table e.named e.below e.leads e.looks c.requires.whole (holder.Lane part.lane) who (right-held part.holders.items part.lane c.args.op.now _ who));
    }

pub returns-else-lane-part : goal.returns-else-lane-part
returns-else-lane-part c =
    let e = c.in-Some.ensures in
    let part = c.args.part.now in
    let k = key_of c.args.pins.now in
    let domain = c.header.ensures.domain ∙ ap (λ (q : ℕ). get_or k.opening.domains q 0) c.superpage.ensures.superpage in
    let within = told-domain part k c.args.end c.args.op.now c.in-Some.at c.requires.table e.named e.below e.leads e.looks c.requires.whole in
    let who = held-by part.holders.items c.header.result.now.domain _ c.index.result.now domain within c.index.ensures ∙ c.in-Lane.is in
    record { told = told-foreign part k c.args.end c.args.op.now c.in-Some.at c.requires.table e.named e.below e.leads e.looks c.requires.whole (foreign-reads _ c.in-Lane.lane part.lane who c.if-lane-part.false) }

pub returns-then-has_right : goal.returns-then-has_right
returns-then-has_right c =
    let e = c.in-Some.ensures in
    let part = c.args.part.now in
    let k = key_of c.args.pins.now in
    let domain = c.header.ensures.domain ∙ ap (λ (q : ℕ). get_or k.opening.domains q 0) c.superpage.ensures.superpage in
    let within = told-domain part k c.args.end c.args.op.now c.in-Some.at c.requires.table e.named e.below e.leads e.looks c.requires.whole in
    let who = held-by part.holders.items c.header.result.now.domain _ c.index.result.now domain within c.index.ensures ∙ c.in-Frozen.is in
    record {
      told = subst (λ (p : ℕ). LooksReadable part k c.args.end c.args.op.now holder.Frozen p) (sym c.page-then-has_right.ensures.page)
          (told-at part k c.args.end c.args.op.now c.in-Some.at c.requires.table e.named e.below e.leads e.looks c.requires.whole holder.Frozen who
          (right-as part.holders.items c.deref.result.now part.lane c.args.op.now c.header.result.now.domain _ c.has_right.result true c.deref.ensures.value domain c.has_right.ensures.right c.if-has_right.true));
    }

pub returns-else-has_right : goal.returns-else-has_right
returns-else-has_right c =
    let e = c.in-Some.ensures in
    let part = c.args.part.now in
    let k = key_of c.args.pins.now in
    let domain = c.header.ensures.domain ∙ ap (λ (q : ℕ). get_or k.opening.domains q 0) c.superpage.ensures.superpage in
    let within = told-domain part k c.args.end c.args.op.now c.in-Some.at c.requires.table e.named e.below e.leads e.looks c.requires.whole in
    let who = held-by part.holders.items c.header.result.now.domain _ c.index.result.now domain within c.index.ensures ∙ c.in-Frozen.is in
    record {
      told = told-sealed part k c.args.end c.args.op.now c.in-Some.at c.requires.table e.named e.below e.leads e.looks c.requires.whole who
          (right-as part.holders.items c.deref.result.now part.lane c.args.op.now c.header.result.now.domain _ c.has_right.result false c.deref.ensures.value domain c.has_right.ensures.right c.if-has_right.false);
    }
