use Rattle.std.proofs.Common.{◌<◌, sym, subst, arith}
use Rattle.std.proofs.lemmas.Result.{err_from_is_err_and}
use Rattle.bc_model.specs.declared.operations.Reply.TheVariants.{Done}
use Rattle.bc_nursery.specs.Entries.{Entries}
use Rattle.bc_superpages.proofs.MemoryLemmas.{memory_of-cell}
use Rattle.bc_nursery.specs.Nurseries.{Nursery}
use Rattle.bc_mutator.specs.Effects.{FindsFull}
use Rattle.bc_mutator.specs.Objects.{cell_of}
use Rattle.bc_mutator.proofs.ChangeLemmas.{written-changes, refused-changes}
use Rattle.bc_mutator.proofs.PartLemmas.{can-store, can-write, field-serves, part-wrote, space-of}
use Rattle.bc_mutator.proofs.RootLemmas.{done-answers}
use Rattle.bc_mutator.proofs.RecordLemmas.{written-records, refused-records, write-stops}
use Rattle.bc_mutator.proofs.WritingLemmas.{done-field, own-cell, write-effect, write-refuses}
use Rattle.bc_mutator.proofs.fields.write.Goals as goal

pub write_field-requires-clause-store : goal.write_field-requires-clause-store
write_field-requires-clause-store g c =
    let h = c.requires.serves.0 in
    let s = c.requires.serves.1 in
    let w = field-serves c.word-target.result s c.requires.held (c.word-target.ensures.word h.roots s.part.roots s.slot) in (
      h.space,
      space-of w,
      can-store c.word-target.result c.in-Ok.at c.args.index s w (c.in-Ok.ensures.found h w) (c.in-Ok.ensures.index h w),
      λ below.
          let can = can-write c.word-target.result c.in-Ok.at c.args.index s (c.in-Ok.ensures.found h w) (c.in-Ok.ensures.index h w) in
          let own = own-cell h c.args.holders.now c.args.lane c.word-target.result c.in-Ok.at c.args.index c.args.word can below in
          c.requires.pages h.space c.in-Ok.at.0 _ s.part.space s.ready.layout (memory_of-cell h.space.classes h.space.cells h.space.pages c.in-Ok.at.0 own.on) own.held
          (c.in-Ok.ensures.hand h.space s.part.space below),
    )

pub returns-in_ok-write_field-in-Ok-clause-done : goal.returns-in_ok-write_field-in-Ok-clause-done
returns-in_ok-write_field-in-Ok-clause-done g c = λ h s.
    let hs = c.args.holders.now in
    let lane = c.args.lane in
    let target = c.word-target.result in
    let e = c.word-target.ensures.word h.roots s.part.roots s.slot in
    let w = field-serves target s c.requires.held e in
    let of = c.in-Ok.ensures.found h w in
    let less = c.in-Ok.ensures.index h w in
    let can = can-write target c.in-Ok.at c.args.index s of less in
    let t = c.in_ok-write_field-in-Ok.ensures.ok h.space (space-of w) (can-store target c.in-Ok.at c.args.index s w of less) in
    let k = part-wrote (g.C.Cells.shows c.args.cells.now) (g.C.Cells.shows c.write_field.new.cells) (g.R.RootSlots.shows c.args.roots.now) c.args.chunk.now c.write_field.new.chunk c.args.buffer.now c.write_field.new.buffer
    lane h t.0 c.in-Ok.at c.args.index c.args.word s.part s.ready.lane_within (let lanes = s.ready.running.closed.lanes in let within = s.ready.lane_within in omega arith) t.1 t.2 in (
      k.0,
      k.1,
      λ serial op is.
          done-field h k.0 hs lane serial target c.in-Ok.at c.args.index c.args.word op Done can k.2 c.requires.fits
          (λ serials state means. write-effect h hs serials lane c.args.index c.args.slot target c.args.word c.in-Ok.at op state s.ready e of (c.in-Ok.ensures.acts h w) is.writes means)
          (is.records (written-records h k.0 hs lane c.args.slot target c.in-Ok.at c.args.index c.args.word can e k.2))
          (is.changes (written-changes h k.0 hs lane c.args.slot target c.in-Ok.at c.args.index c.args.word can e k.2)),
    )

pub returns-in_err-write_field-in-Ok-clause-full : goal.returns-in_err-write_field-in-Ok-clause-full
returns-in_err-write_field-in-Ok-clause-full g c =
    let p = err_from_is_err_and c.from_residual.result c.from_residual.ensures.1 in
    rw p.1 (λ h s.
    let target = c.word-target.result in
    let e = c.word-target.ensures.word h.roots s.part.roots s.slot in
    let w = field-serves target s c.requires.held e in
    let can = can-write target c.in-Ok.at c.args.index s (c.in-Ok.ensures.found h w) (c.in-Ok.ensures.index h w) in
    write-stops h c.args.holders.now c.args.lane c.args.slot target c.in-Ok.at c.args.index c.args.word can e
    (subst (λ (b : Entries). FindsFull h.space b c.in-Ok.at c.args.word) (sym s.part.buffer_is) (c.in_err-write_field-in-Ok.ensures.full h.space s.part.space)))

pub returns-in-Err-clause-done : goal.returns-in-Err-clause-done
returns-in-Err-clause-done g c = λ h s.
    let hs = c.args.holders.now in
    let target = c.word-target.result in
    let e = c.word-target.ensures.word h.roots s.part.roots s.slot in
    let w = field-serves target s c.requires.held e in (
      h,
      s.part,
      λ serial op is.
          done-answers h hs c.args.lane serial op c.in-Err.reply s.ready
          (write-refuses h hs c.args.lane c.args.index c.args.slot target c.args.word op c.in-Err.reply e (c.in-Err.ensures.refuses h w) is.writes)
          (is.records (refused-records h hs c.args.lane c.args.slot target c.args.index c.args.word c.in-Err.reply s.ready e
          (λ a of less. c.in-Err.ensures.none h w a of (subst (λ (x : Nursery). c.args.index < (cell_of h.space x a.0).head.fields) s.part.chunk_is less))))
          (is.changes (refused-changes h hs c.args.lane c.args.slot c.args.index c.args.word c.in-Err.reply c.in-Err.ensures.refusal)),
    )

pub own_object_with_field-requires-clause-own : goal.own_object_with_field-requires-clause-own
own_object_with_field-requires-clause-own g c =
    let h = c.requires.serves.0 in
    let s = c.requires.serves.1 in
    (h, field-serves c.word-target.result s c.requires.held (c.word-target.ensures.word h.roots s.part.roots s.slot))
