use Rattle.std.proofs.Common.{rules}
use Rattle.bc_engine.proofs.OpeningLemmas.{opened}
use Rattle.sorvekla.proofs.heaps.open_in_range.Goals as goal

pub invariant_of-result : goal.invariant_of-result
invariant_of-result c =
    let is = opened c.args.setup.now c.in_ok-open.field-0 c.requires.range c.in_ok-open.ensures.opening in
    (record { ready = is.ready; taken = search rules }, search rules, search rules)

pub returns-clause-opening : goal.returns-clause-opening
returns-clause-opening c = (opened c.args.setup.now c.in_ok-open.field-0 c.requires.range c.in_ok-open.ensures.opening).stands
