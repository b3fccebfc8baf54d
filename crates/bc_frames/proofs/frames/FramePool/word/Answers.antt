use Rattle.std.proofs.Common.{◌<◌, ◌≤◌, length, arith}
use Rattle.std.proofs.lemmas.List.{get_or_read}
use Rattle.bc_frames.proofs.WordLemmas.{word-tells, word-past}
use Rattle.bc_frames.proofs.frames.FramePool.word.Goals as goal

pub returns-then-word-len : goal.returns-then-word-len
returns-then-word-len c = record {
  bits = λ b lt.
      let within : c.args.word < length c.self.inside.words.items = omega arith in
      let read = get_or_read c.self.inside.words.items c.args.word c.index.result.now within c.index.ensures 0 in
      rw (read, ← c.self.view_is) (word-tells c.self.inside.words.items c.self.inside.frames c.self.inside.free c.self.inside.first c.args.word b c.self.invariant within lt);
}

pub returns-else-word-len : goal.returns-else-word-len
returns-else-word-len c = record {
  bits = λ b lt.
      let out : length c.self.inside.words.items ≤ c.args.word = omega arith in
      rw (← c.self.view_is) (word-past c.self.inside.words.items c.self.inside.frames c.self.inside.free c.self.inside.first c.args.word b c.self.invariant out lt);
}
