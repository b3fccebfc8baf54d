use Rattle.std.proofs.Common.{◌≡◌, length, map, take}
use Rattle.bc_word.specs.Words.{word_of_bits}
use Rattle.bc_picture.proofs.placing.unpack_fields.Given as goal

abbrev pub invariant-loop-index : goal.invariant-loop-index
invariant-loop-index l = record {
  words : take l.index l.words ≡ map word_of_bits (take l.index l.bits);
  long : length l.words ≡ 127;
}
