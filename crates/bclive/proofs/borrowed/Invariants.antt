use Rattle.std.proofs.Common.{◌≡◌, map, string_bytes, take}
use Rattle.bclive.proofs.borrowed.Given as goal

abbrev pub invariant-loop-word : goal.invariant-loop-word
invariant-loop-word l = map (λ w. w.now) l.texts.items ≡ map (λ w. string_bytes w) (take l.word-index l.words)
