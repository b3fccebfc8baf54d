-- What is printed of a source that was not read to its end.
use Rattle.std.specs.Prelude.{ℕ, List, codes}
use Rattle.bc_io.specs.declared.reading.ReadAll.{ReadAll}
use Rattle.bc_io.specs.declared.reading.ReadAll.TheVariants.{TooLong, ReadFault, NoMemory}

-- the text of each refusal of `read_all`
abbrev pub text_of : ReadAll → List ℕ
text_of TooLong = codes "the input is too long"
text_of ReadFault = codes "reading failed"
text_of NoMemory = codes "out of memory"
