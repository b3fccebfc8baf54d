use Rattle.std.proofs.Common.{◌+◌, arith}
use Rattle.std.proofs.lemmas.Bool.{eqb-true, eq-eqb}
use Rattle.std.proofs.lemmas.List.{take_rest}
use Rattle.bc_trace.proofs.CutLines.{parts_at, parts_none}
use Rattle.bc_trace.proofs.cutting.cut_line.Goals as goal

pub returns-in-Some-clause-parts : goal.returns-in-Some-clause-parts
returns-in-Some-clause-parts c =
    let found = c.in-Some.ensures in
    rw (take_rest c.args.bytes.now (c.in-Some.at + 1)) (parts_at c.args.bytes.now 10 c.in-Some.at found.0.high (λ k lt e. found.0.before k (omega arith) lt (eq-eqb _ _ e)) (eqb-true _ _ found.1))

pub returns-in-None-clause-parts : goal.returns-in-None-clause-parts
returns-in-None-clause-parts c = parts_none c.args.bytes.now 10 (λ k lt e. c.in-None.ensures k (omega arith) lt (eq-eqb _ _ e))
