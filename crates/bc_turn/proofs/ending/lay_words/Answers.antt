use Rattle.std.proofs.Common.{◌*◌, ◌<◌, ℕ, length, refl, ap, ◌∙◌, arith}
use Rattle.bc_superpages.specs.RootWords.{RootWords}
use Rattle.bc_turn.proofs.WordLemmas.{lays-domains-more, place-fits}
use Rattle.bc_turn.proofs.ending.lay_words.Goals as goal

pub overflow_mul-start : goal.overflow_mul-start
overflow_mul-start c =
    let test = c.loop-number-test.true in
    let slots = c.slots.ensures.slots in
    let same = ap (λ (r : RootWords). r.slots) c.loop-number.invariant.same in
    let fits = place-fits c.args.roots.now c.args.domains.now c.args.words.now c.loop-number.number c.slots.result c.requires (omega arith) (slots ∙ same) in
    omega (arith, fits, c.type_inv.words)

pub lay_slots-requires-clause-domain : goal.lay_slots-requires-clause-domain
lay_slots-requires-clause-domain c =
    let test = c.loop-number-test.true in
    let lt : c.loop-number.number < length c.args.domains.now = omega arith in
    let same = ap (λ (r : RootWords). r.domains) c.loop-number.invariant.same in
    let within = c.requires.within c.loop-number.number lt in
    omega (arith, within, same)

pub lay_slots-requires-clause-enough : goal.lay_slots-requires-clause-enough
lay_slots-requires-clause-enough c =
    let test = c.loop-number-test.true in
    let slots = c.slots.ensures.slots in
    let same = ap (λ (r : RootWords). r.slots) c.loop-number.invariant.same in
    let fits = place-fits c.args.roots.now c.args.domains.now c.args.words.now c.loop-number.number c.slots.result c.requires (omega arith) (slots ∙ same) in
    omega (arith, fits, slots)

pub loop-number-preserved : goal.loop-number-preserved
loop-number-preserved c =
    let test = c.loop-number-test.true in
    let lt : c.loop-number.number < length c.args.domains.now = omega arith in
    let slots = c.slots.ensures.slots in
    let same = ap (λ (r : RootWords). r.slots) c.loop-number.invariant.same in
    lays-domains-more c.args.roots.now c.loop-number.roots c.lay_slots.new.roots c.args.domains.now c.args.words.now c.loop-number.number _ _ c.loop-number.invariant c.requires lt
    refl (ap (λ (s : ℕ). c.loop-number.number * s) (slots ∙ same))
    c.lay_slots.ensures
