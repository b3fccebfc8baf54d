-- What contracts see of a source over a reader and of a sink over a writer.
use Rattle.std.specs.Prelude.{ℕ}
use Rattle.bc_io.specs.declared.std_source.StdSource.{StdSource}
use Rattle.bc_io.specs.declared.std_sink.StdSink.{StdSink}

-- the reader
abbrev pub reader_of : {R : Type 0} → StdSource R → R
reader_of source = source.reader

-- how many reads failed
abbrev pub read_faults_of : {R : Type 0} → StdSource R → ℕ
read_faults_of source = source.faults

-- the writer
abbrev pub writer_of : {W : Type 0} → StdSink W → W
writer_of sink = sink.writer

-- how many writes failed
abbrev pub write_faults_of : {W : Type 0} → StdSink W → ℕ
write_faults_of sink = sink.faults
