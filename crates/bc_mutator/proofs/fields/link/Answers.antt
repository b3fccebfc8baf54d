use Rattle.std.proofs.Common.{refl, subst}
use Rattle.std.proofs.lemmas.Result.{IfOk-weaker, on_err_weaker}
use Rattle.bc_model.specs.State.{slot_of}
use Rattle.bc_model.specs.declared.operations.Op.TheVariants.{Link}
use Rattle.bc_word.specs.declared.words.Word.{Word}
use Rattle.bc_mutator.specs.Effects.{ChangesField}
use Rattle.bc_mutator.specs.Objects.{whole_memory}
use Rattle.bc_mutator.proofs.PartLemmas.{link-serves, needs-part, own-part}
use Rattle.bc_mutator.proofs.RecordLemmas.{link-records, link-stops}
use Rattle.bc_mutator.proofs.TellingLemmas.{word-read}
use Rattle.bc_mutator.proofs.fields.link.Goals as goal

pub write-requires-clause-serves : goal.write-requires-clause-serves
write-requires-clause-serves g c =
    let h = c.requires.serves.0 in
    let s = c.requires.serves.1 in
    (h, link-serves c.args.slot c.args.from c.word-word.result s s.fits.0 s.fits.2 c.requires.held.1 (c.word-word.ensures.word h.roots s.part.roots s.fits.2))

pub returns-clause-done : goal.returns-clause-done
returns-clause-done g c =
    let hs = c.args.holders.now in
    let lane = c.args.lane in
    let w = c.word-word.result in
    IfOk-weaker c.write.result _ _
    (λ reply done h s.
    let e = c.word-word.ensures.word h.roots s.part.roots s.fits.2 in
    let f = link-serves c.args.slot c.args.from w s s.fits.0 s.fits.2 c.requires.held.1 e in
    let k = done h f in (
      k.0,
      k.1,
      λ serial. k.2 serial (Link c.args.slot c.args.index c.args.from) (record {
        writes = λ serials state means. (slot_of state c.args.from, word-read h hs serials state c.args.from w e means, refl);
        records = link-records h k.0 hs lane c.args.index c.args.slot c.args.from w reply s.ready c.requires.held e (own-part f);
        changes = λ changes. subst (λ (x : Word). ChangesField hs lane (whole_memory h) (whole_memory k.0) h.roots c.args.slot c.args.index x reply) e changes;
      }),
    ))
    c.write.ensures.done

pub returns-clause-full : goal.returns-clause-full
returns-clause-full g c =
    let hs = c.args.holders.now in
    let w = c.word-word.result in
    on_err_weaker c.write.result
    (λ full h s.
    let e = c.word-word.ensures.word h.roots s.part.roots s.fits.2 in
    let f = link-serves c.args.slot c.args.from w s s.fits.0 s.fits.2 c.requires.held.1 e in
    needs-part hs (Link c.args.slot c.args.index c.args.from) s.part
    (link-stops h hs c.args.lane c.args.index c.args.slot c.args.from w s.ready c.requires.held e (own-part f) (full h f)))
    c.write.ensures.full
