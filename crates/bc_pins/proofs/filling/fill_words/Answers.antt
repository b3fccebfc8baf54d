use Rattle.std.proofs.Common.{◌≡◌, ◌≤◌, ◌∙◌, Bool, List, length, vec_capacity, ap, sym, subst, arith}
use Rattle.bc_pins.specs.declared.key.Turn.{Turn}
use Rattle.bc_pins.specs.declared.key.Turn.TheVariants.{Mark}
use Rattle.bc_pins.specs.Filling.{AddsFrames}
use Rattle.bc_pins.specs.Key.{frame_words, is_lanes, table_words}
use Rattle.bc_pins.proofs.FillLemmas.{filled_marks, words_at_least}
use Rattle.bc_pins.proofs.filling.fill_words.Goals as goal

pub push_states-requires-clause-room : goal.push_states-requires-clause-room
push_states-requires-clause-room c =
    let zero : length c.args.words.now.items ≡ 0 = ap length c.requires.none in
    let low = words_at_least c.args.superpages (length c.args.pool.now) c.args.turn in
    let room = c.requires.room in
    let count = c.frames-frames.ensures.count in
    omega arith

pub push_counters-requires-clause-room : goal.push_counters-requires-clause-room
push_counters-requires-clause-room c =
    let zero : length c.args.words.now.items ≡ 0 = ap length c.requires.none in
    let low = words_at_least c.args.superpages (length c.args.pool.now) c.args.turn in
    let room = c.requires.room in
    let count = c.frames-frames.ensures.count in
    let one = c.push_states.ensures.added.long in
    let same = c.push_states.ensures.room in
    omega arith

pub push_sets-requires-clause-room : goal.push_sets-requires-clause-room
push_sets-requires-clause-room c =
    let zero : length c.args.words.now.items ≡ 0 = ap length c.requires.none in
    let low = words_at_least c.args.superpages (length c.args.pool.now) c.args.turn in
    let room = c.requires.room in
    let count = c.frames-frames.ensures.count in
    let one = c.push_states.ensures.added.long in
    let two = c.push_counters.ensures.added.long in
    let same = c.push_states.ensures.room in
    let again = c.push_counters.ensures.room in
    omega arith

pub push_frames-requires-clause-room : goal.push_frames-requires-clause-room
push_frames-requires-clause-room c =
    let zero : length c.args.words.now.items ≡ 0 = ap length c.requires.none in
    let low = words_at_least c.args.superpages (length c.args.pool.now) c.args.turn in
    let room = c.requires.room in
    let count = c.frames-frames.ensures.count in
    let one = c.push_states.ensures.added.long in
    let two = c.push_counters.ensures.added.long in
    let three = c.push_sets.ensures.added.long in
    let same = c.push_states.ensures.room in
    let again = c.push_counters.ensures.room in
    let more = c.push_sets.ensures.room in
    omega arith

pub push_zeros-requires : goal.push_zeros-requires
push_zeros-requires c =
    let zero : length c.args.words.now.items ≡ 0 = ap length c.requires.none in
    let low = words_at_least c.args.superpages (length c.args.pool.now) c.args.turn in
    let room = c.requires.room in
    let count = c.frames-frames.ensures.count in
    let one = c.push_states.ensures.added.long in
    let two = c.push_counters.ensures.added.long in
    let three = c.push_sets.ensures.added.long in
    let same = c.push_states.ensures.room in
    let again = c.push_counters.ensures.room in
    let more = c.push_sets.ensures.room in
    let frames = c.push_frames.ensures.added.long in
    let most = c.push_frames.ensures.room in
    record { room = omega arith }

pub fill_marks-requires-clause-room : goal.fill_marks-requires-clause-room
fill_marks-requires-clause-room c =
    let zero : length c.args.words.now.items ≡ 0 = ap length c.requires.none in
    let count = c.frames-frames.ensures.count in
    let all : table_words c.args.superpages (length c.args.pool.now) Mark ≤ vec_capacity c.args.words.now =
    subst (λ (t : Turn). table_words c.args.superpages (length c.args.pool.now) t ≤ vec_capacity c.args.words.now) c.in-Mark.is c.requires.room in
    let one = c.push_states.ensures.added.long in
    let two = c.push_counters.ensures.added.long in
    let three = c.push_sets.ensures.added.long in
    let frames = c.push_frames.ensures.added.long in
    let four = c.push_zeros.ensures.added.long in
    let same = c.push_states.ensures.room in
    let again = c.push_counters.ensures.room in
    let more = c.push_sets.ensures.room in
    let fit = c.push_frames.ensures.room in
    let most = c.push_zeros.ensures.room in
    omega arith

pub returns-in-Mark : goal.returns-in-Mark
returns-in-Mark c = record {
  filled = λ k sized.
      let count = c.frames-frames.ensures.count in
      let words = c.bit_words.ensures in
      let all = sized.all in
      let framed : c.bit_words.result ≡ frame_words k = omega arith in
      filled_marks k _ _ c.bit_words.result _ _ _ _ _ _ _ (ap length c.requires.none) sized.supers (sized.lanes ∙ ap is_lanes c.in-Mark.is) framed c.push_states.ensures.added c.push_counters.ensures.added c.push_sets.ensures.added
      (subst (λ (flags : List Bool). AddsFrames flags c.push_sets.new.words.items c.push_frames.new.words.items c.bit_words.result) (sym sized.pool) c.push_frames.ensures.added) c.push_zeros.ensures.added c.fill_marks.ensures.filled;
}
