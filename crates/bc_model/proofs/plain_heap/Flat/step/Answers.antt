use Rattle.std.proofs.Common.{sym, ◌∙◌}
use Rattle.bc_model.proofs.Steps.{made-result, sizes-result}
use Rattle.bc_model.proofs.plain_heap.Flat.step.Goals as goal

pub returns-clause-more : goal.returns-clause-more
returns-clause-more c = λ j.
    made-result c.args.self.now c.args.lane c.args.op.now c.act.new.self c.act.result j c.reads_all.ensures.state c.requires.lane c.requires.op
    (sym c.reads_all.ensures.held ∙ c.if-not-reads_all.false) (sym c.writes_target.ensures ∙ c.if-not-writes_target.false) c.act.ensures.ok c.act.ensures.err

pub returns-clause-sizes : goal.returns-clause-sizes
returns-clause-sizes c =
    sizes-result c.args.self.now c.args.lane c.args.op.now c.act.new.self c.act.result c.reads_all.ensures.state c.requires.op
    (sym c.reads_all.ensures.held ∙ c.if-not-reads_all.false) (sym c.writes_target.ensures ∙ c.if-not-writes_target.false) c.act.ensures.ok c.act.ensures.err
