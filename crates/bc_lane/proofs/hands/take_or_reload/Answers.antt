use Rattle.std.proofs.Common.{inl, inr}
use Rattle.std.proofs.lemmas.Result.{IfErr-weaker}
use Rattle.bc_lane.proofs.hands.take_or_reload.Goals as goal

pub take_frozen-requires-clause-frozen : goal.take_frozen-requires-clause-frozen
take_frozen-requires-clause-frozen c = rw c.if-frozen.true at c.requires.kind

pub take_own-requires-clause-own : goal.take_own-requires-clause-own
take_own-requires-clause-own c = rw c.if-frozen.false at c.requires.kind

pub returns-then-frozen-clause-err : goal.returns-then-frozen-clause-err
returns-then-frozen-clause-err c = IfErr-weaker c.take_frozen.result _ _ (λ why no. (no.0, inr no.1)) c.take_frozen.ensures.err

pub returns-else-frozen-clause-err : goal.returns-else-frozen-clause-err
returns-else-frozen-clause-err c = IfErr-weaker c.take_own.result _ _ (λ why no. (no.0, inl no.1)) c.take_own.ensures.err
