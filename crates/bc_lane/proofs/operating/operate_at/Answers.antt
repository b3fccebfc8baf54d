use Rattle.std.proofs.Common.{ℕ, Vec, Global, Option, sym, ap, subst, ◌∙◌}
use Rattle.std.proofs.lemmas.Result.{IfOk-weaker, on_err_weaker}
use Rattle.bc_lane.specs.Shown.{HasPage}
use Rattle.bc_lane.proofs.WholeLemmas.{did-at, looks-at-hand, named-at, needs-at, own-at, owns-at, part-same, read-at, serves-at, touches-at, wants-at, whole-after}
use Rattle.bc_model.specs.declared.operations.Reply.{Reply}
use Rattle.bc_mutator.specs.Parts.{has_right}
use Rattle.bc_pins.specs.declared.holding.Held.{Held}
use Rattle.bc_whole_heap.specs.Heaps.{HeapView}
use Rattle.bc_pins.specs.Calls.{view_of}
use Rattle.bc_lane.proofs.operating.operate_at.Goals as goal

pub operate_parts-operate_or_stop-requires-clause-serves : goal.operate_parts-operate_or_stop-requires-clause-serves
operate_parts-operate_or_stop-requires-clause-serves g c =
    let s = g.S.Station in
    let w = c.requires.whole in (
      w.0,
      serves-at c.args.part.now (view_of c.args._seat.now) s.view c.args.hand.now c.args.end c.args.op.now s.holders s.lane s.slots s.starts s.shared
          c.requires.view c.requires.holders.0 c.requires.holders.1 c.requires.starts.0 c.requires.starts.1 c.requires.shared.0 c.deref-3.result.now c.deref.result.now c.deref-2.result.now c.args.shared.now c.deref-3.ensures.value c.deref.ensures.value c.deref-2.ensures.value c.requires.shared.1
          w.0 c.take.result c.replace.result.items c.take.ensures.value (ap (λ (v : Vec ℕ Global). v.items) c.replace.ensures.value) w.1 w.2,
    )

pub operate_parts-operate_or_stop-requires-clause-slots : goal.operate_parts-operate_or_stop-requires-clause-slots
operate_parts-operate_or_stop-requires-clause-slots g c =
    let s = g.S.Station in
    read-at c.args.part.now (view_of c.args._seat.now) s.view c.args.hand.now c.args.end c.args.op.now s.holders s.lane s.slots s.starts s.shared
    c.requires.view c.requires.holders.0 c.requires.holders.1 c.requires.starts.0 c.requires.starts.1 c.requires.shared.0 c.deref-3.result.now c.deref.result.now c.deref-2.result.now c.args.shared.now c.deref-3.ensures.value c.deref.ensures.value c.deref-2.ensures.value c.requires.shared.1

pub operate_parts-operate_or_stop-requires-clause-own_slots : goal.operate_parts-operate_or_stop-requires-clause-own_slots
operate_parts-operate_or_stop-requires-clause-own_slots g c =
    let s = g.S.Station in
    own-at c.args.part.now (view_of c.args._seat.now) s.view c.args.hand.now c.args.end c.args.op.now s.holders s.lane s.slots s.starts s.shared
    c.requires.view c.requires.holders.0 c.requires.holders.1 c.requires.starts.0 c.requires.starts.1 c.requires.shared.0 c.deref-3.result.now c.deref.result.now c.deref-2.result.now c.args.shared.now c.deref-3.ensures.value c.deref.ensures.value c.deref-2.ensures.value c.requires.shared.1

pub operate_parts-operate_or_stop-requires-clause-own_pages : goal.operate_parts-operate_or_stop-requires-clause-own_pages
operate_parts-operate_or_stop-requires-clause-own_pages g c =
    let s = g.S.Station in
    owns-at c.args.part.now (view_of c.args._seat.now) s.view c.args.hand.now c.args.end c.args.op.now s.holders s.lane s.slots s.starts s.shared
    c.requires.view c.requires.holders.0 c.requires.holders.1 c.requires.starts.0 c.requires.starts.1 c.requires.shared.0 c.deref-3.result.now c.deref.result.now c.deref-2.result.now c.args.shared.now c.deref-3.ensures.value c.deref.ensures.value c.deref-2.ensures.value c.requires.shared.1 c.requires.owners c.take.result

pub operate_parts-operate_or_stop-requires-clause-known : goal.operate_parts-operate_or_stop-requires-clause-known
operate_parts-operate_or_stop-requires-clause-known g c = λ named.
    let s = g.S.Station in
    touches-at c.args.part.now (view_of c.args._seat.now) s.view c.args.hand.now c.args.end c.args.op.now s.holders s.lane s.slots s.starts s.shared
    c.requires.view c.requires.holders.0 c.requires.holders.1 c.requires.starts.0 c.requires.starts.1 c.requires.shared.0 c.deref-3.result.now c.deref.result.now c.deref-2.result.now c.args.shared.now c.deref-3.ensures.value c.deref.ensures.value c.deref-2.ensures.value c.requires.shared.1
    c.take.result c.replace.result.items c.take.ensures.value (ap (λ (v : Vec ℕ Global). v.items) c.replace.ensures.value)
    (c.requires.hand (named-at c.args.part.now (view_of c.args._seat.now) s.view c.args.hand.now c.args.end c.args.op.now s.holders s.lane s.slots s.starts s.shared
    c.requires.view c.requires.holders.0 c.requires.holders.1 c.requires.starts.0 c.requires.starts.1 c.requires.shared.0 c.deref-3.result.now c.deref.result.now c.deref-2.result.now c.args.shared.now c.deref-3.ensures.value c.deref.ensures.value c.deref-2.ensures.value c.requires.shared.1 named))

pub operate_parts-operate_or_stop-requires-clause-hand : goal.operate_parts-operate_or_stop-requires-clause-hand
operate_parts-operate_or_stop-requires-clause-hand g c = λ named.
    let s = g.S.Station in
    looks-at-hand c.args.part.now (view_of c.args._seat.now) s.view c.args.hand.now c.args.end c.args.op.now s.holders s.lane s.slots s.starts s.shared
    c.requires.view c.requires.holders.0 c.requires.holders.1 c.requires.starts.0 c.requires.starts.1 c.requires.shared.0 c.deref-3.result.now c.deref.result.now c.deref-2.result.now c.args.shared.now c.deref-3.ensures.value c.deref.ensures.value c.deref-2.ensures.value c.requires.shared.1
    c.take.result c.replace.result.items c.take.ensures.value (ap (λ (v : Vec ℕ Global). v.items) c.replace.ensures.value)
    (has_right c.deref-3.result.now c.args.part.now.lane c.args.op.now)
    (c.requires.hand (named-at c.args.part.now (view_of c.args._seat.now) s.view c.args.hand.now c.args.end c.args.op.now s.holders s.lane s.slots s.starts s.shared
    c.requires.view c.requires.holders.0 c.requires.holders.1 c.requires.starts.0 c.requires.starts.1 c.requires.shared.0 c.deref-3.result.now c.deref.result.now c.deref-2.result.now c.args.shared.now c.deref-3.ensures.value c.deref.ensures.value c.deref-2.ensures.value c.requires.shared.1 named))

pub returns-clause-done : goal.returns-clause-done
returns-clause-done g c =
    let s = g.S.Station in
    let part = c.args.part.now in
    let v = view_of c.args._seat.now in
    let did = λ (h k : HeapView) (reply : Reply).
    did-at part v s.view c.args.hand.now c.args.end c.args.op.now s.holders s.lane s.slots s.starts s.shared
    c.requires.view c.requires.holders.0 c.requires.holders.1 c.requires.starts.0 c.requires.starts.1 c.requires.shared.0 c.deref-3.result.now c.deref.result.now c.deref-2.result.now c.args.shared.now c.deref-3.ensures.value c.deref.ensures.value c.deref-2.ensures.value c.requires.shared.1 h k c.operate_parts-operate_or_stop.new.serial reply in
    let words_is = ap (λ (x : Vec ℕ Global). x.items) c.replace.ensures.value in
    IfOk-weaker c.operate_parts-operate_or_stop.result _ _
    (λ reply done h w fits.
    let k = done h (serves-at part v s.view c.args.hand.now c.args.end c.args.op.now s.holders s.lane s.slots s.starts s.shared
    c.requires.view c.requires.holders.0 c.requires.holders.1 c.requires.starts.0 c.requires.starts.1 c.requires.shared.0 c.deref-3.result.now c.deref.result.now c.deref-2.result.now c.args.shared.now c.deref-3.ensures.value c.deref.ensures.value c.deref-2.ensures.value c.requires.shared.1 h c.take.result c.replace.result.items c.take.ensures.value words_is w fits) in (
      k.0,
      whole-after part v s.view c.args.hand.now c.args.end c.args.op.now s.holders s.lane s.slots s.starts s.shared
          c.requires.view c.requires.holders.0 c.requires.holders.1 c.requires.starts.0 c.requires.starts.1 c.requires.shared.0 c.deref-3.result.now c.deref.result.now c.deref-2.result.now c.args.shared.now c.deref-3.ensures.value c.deref.ensures.value c.deref-2.ensures.value c.requires.shared.1
          h k.0 c.operate_parts-operate_or_stop.new.cells.hand c.operate_parts-operate_or_stop.new.cells.end c.operate_parts-operate_or_stop.new.serial c.operate_parts-operate_or_stop.new.roots.holders.now c.operate_parts-operate_or_stop.new.roots.starts.now c.operate_parts-operate_or_stop.new.roots.shared.now c.operate_parts-operate_or_stop.new.roots.words
          c.operate_parts-operate_or_stop.new.chunk c.operate_parts-operate_or_stop.new.buffer reply w k.1 (did h k.0 reply k.2),
      did h k.0 reply k.2,
    ))
    c.operate_parts-operate_or_stop.ensures.done

pub returns-clause-page : goal.returns-clause-page
returns-clause-page g c = λ page has.
    c.operate_parts-operate_or_stop.ensures.hand page (subst (λ (x : Option Held). HasPage x page) (sym c.take.ensures.value) has)

pub returns-clause-still : goal.returns-clause-still
returns-clause-still g c =
    let new = c.operate_parts-operate_or_stop.new in
    on_err_weaker c.operate_parts-operate_or_stop.result
    (λ same. (
      part-same c.args.part.now new.roots.words new.chunk new.buffer new.serial
          (ap (λ (x : _). x.words) same.1 ∙ c.replace.ensures.value) same.2 same.3 same.4,
      ap (λ (x : _). x.hand) same.0 ∙ c.take.ensures.value,
    ))
    c.operate_parts-operate_or_stop.ensures.same

pub returns-clause-buffer : goal.returns-clause-buffer
returns-clause-buffer g c = λ full h w fits.
    let s = g.S.Station in
    needs-at c.args.part.now (view_of c.args._seat.now) s.view c.args.hand.now c.args.end c.args.op.now s.holders s.lane s.slots s.starts s.shared
    c.requires.view c.requires.holders.0 c.requires.holders.1 c.requires.starts.0 c.requires.starts.1 c.requires.shared.0 c.deref-3.result.now c.deref.result.now c.deref-2.result.now c.args.shared.now c.deref-3.ensures.value c.deref.ensures.value c.deref-2.ensures.value c.requires.shared.1 h
    (c.operate_parts-operate_or_stop.ensures.buffer full h
    (serves-at c.args.part.now (view_of c.args._seat.now) s.view c.args.hand.now c.args.end c.args.op.now s.holders s.lane s.slots s.starts s.shared
    c.requires.view c.requires.holders.0 c.requires.holders.1 c.requires.starts.0 c.requires.starts.1 c.requires.shared.0 c.deref-3.result.now c.deref.result.now c.deref-2.result.now c.args.shared.now c.deref-3.ensures.value c.deref.ensures.value c.deref-2.ensures.value c.requires.shared.1
    h c.take.result c.replace.result.items c.take.ensures.value (ap (λ (v : Vec ℕ Global). v.items) c.replace.ensures.value) w fits))

pub returns-clause-nursery : goal.returns-clause-nursery
returns-clause-nursery g c =
    let s = g.S.Station in
    wants-at c.args.part.now (view_of c.args._seat.now) s.view c.args.hand.now c.args.end c.args.op.now s.holders s.lane s.slots s.starts s.shared
    c.requires.view c.requires.holders.0 c.requires.holders.1 c.requires.starts.0 c.requires.starts.1 c.requires.shared.0 c.deref-3.result.now c.deref.result.now c.deref-2.result.now c.args.shared.now c.deref-3.ensures.value c.deref.ensures.value c.deref-2.ensures.value c.requires.shared.1 _ c.operate_parts-operate_or_stop.ensures.nursery
