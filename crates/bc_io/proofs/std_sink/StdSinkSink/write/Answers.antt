use Rattle.bc_io.proofs.Edges.{WriteAppends-answered}
use Rattle.bc_io.proofs.std_sink.StdSinkSink.write.Goals as goal

pub returns-clause-writer : goal.returns-clause-writer
returns-clause-writer g c =
    let e = c.pass_on.ensures in
    WriteAppends-answered _ _ _ _ _ _ c.write.ensures.bytes e.ok e.none e.err
