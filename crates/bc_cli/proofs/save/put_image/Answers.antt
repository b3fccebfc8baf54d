use Rattle.std.proofs.Common.{◌≡◌, ℕ, List, length, subst, sym}
use Rattle.bc_image.specs.Images.{image_bytes}
use Rattle.bc_io.specs.Told.{HasRoom, HeldGrows}
use Rattle.bc_model.specs.declared.values.Holder.{Holder}
use Rattle.bc_picture.specs.SpaceListing.{heap_listing}
use Rattle.bc_replay.specs.Endings.{WritesFront}
use Rattle.bc_replay.proofs.Pieces.{front-taken}
use Rattle.bc_cli.proofs.Saving.{ok-more, error-more, listing-of}
use Rattle.bc_cli.proofs.save.put_image.Goals as goal

pub write-requires-clause-room : goal.write-requires-clause-room
write-requires-clause-room g c =
    let s = c.requires.room.0 in
    let holders = c.args.parts.holders.items in
    let births = c.args.parts.births.items in
    let of = λ (hs : List Holder) (ns : List ℕ). heap_listing c.args.version c.args.setup.now c.args.done hs ns c.args.parts.roots c.args.parts.space in
    subst (λ (hs : List Holder). HasRoom (g.K.Sink.room c.args.sink.now) (length (image_bytes (of hs c.deref-2.result.now)))) (sym c.deref.ensures.value)
    (subst (λ (ns : List ℕ). HasRoom (g.K.Sink.room c.args.sink.now) (length (image_bytes (of holders ns)))) (sym c.deref-2.ensures.value)
    (c.requires.room.2 (of holders births) (listing-of c.args.version c.args.setup.now c.args.done holders births c.args.parts.roots c.args.parts.space s c.law_writable.ensures.image (c.law_writable.ensures.pictures s c.requires.room.1))))

pub returns-clause-written : goal.returns-clause-written
returns-clause-written g c = λ s stands.
    let holders = c.args.parts.holders.items in
    let births = c.args.parts.births.items in
    let of = λ (hs : List Holder) (ns : List ℕ). heap_listing c.args.version c.args.setup.now c.args.done hs ns c.args.parts.roots c.args.parts.space in
    ok-more _ _ c.write.result c.write.ensures.all (λ held. (
      of holders births,
      listing-of c.args.version c.args.setup.now c.args.done holders births c.args.parts.roots c.args.parts.space s c.law_writable.ensures.image (c.law_writable.ensures.pictures s stands),
      subst (λ (hs : List Holder). HeldGrows (g.K.Sink.held c.args.sink.now) (g.K.Sink.held c.write.new.sink) (image_bytes (of hs births))) c.deref.ensures.value
          (subst (λ (ns : List ℕ). HeldGrows (g.K.Sink.held c.args.sink.now) (g.K.Sink.held c.write.new.sink) (image_bytes (of c.deref.result.now ns))) c.deref-2.ensures.value held),
    ))

pub returns-clause-front : goal.returns-clause-front
returns-clause-front g c = λ s stands.
    let holders = c.args.parts.holders.items in
    let births = c.args.parts.births.items in
    let of = λ (hs : List Holder) (ns : List ℕ). heap_listing c.args.version c.args.setup.now c.args.done hs ns c.args.parts.roots c.args.parts.space in
    let before = g.K.Sink.held c.args.sink.now in
    let after = g.K.Sink.held c.write.new.sink in
    let lent = of c.deref.result.now c.deref-2.result.now in
    error-more _ _ c.write.result c.write.ensures.front (λ front. (
      of holders births,
      listing-of c.args.version c.args.setup.now c.args.done holders births c.args.parts.roots c.args.parts.space s c.law_writable.ensures.image (c.law_writable.ensures.pictures s stands),
      subst (λ (hs : List Holder). WritesFront before after (image_bytes (of hs births))) c.deref.ensures.value
          (subst (λ (ns : List ℕ). WritesFront before after (image_bytes (of c.deref.result.now ns))) c.deref-2.ensures.value
          (front-taken before after (g.K.Sink.room c.args.sink.now) (g.K.Sink.room c.write.new.sink) (image_bytes lent) front)),
    ))
