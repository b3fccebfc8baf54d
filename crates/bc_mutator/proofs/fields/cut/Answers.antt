use Rattle.std.proofs.Common.{◌≡◌, refl}
use Rattle.std.proofs.lemmas.Result.{IfOk-weaker, on_err_weaker}
use Rattle.bc_model.specs.declared.operations.Op.TheVariants.{Cut}
use Rattle.bc_model.specs.declared.values.Value.TheVariants.{Nil}
use Rattle.bc_word.specs.declared.addresses.Address.{Address}
use Rattle.bc_word.specs.declared.words.Word.TheVariants as word
use Rattle.bc_mutator.specs.Objects.{whole_memory}
use Rattle.bc_mutator.proofs.RootLemmas.{nil-read, own-nil}
use Rattle.bc_mutator.proofs.RecordLemmas.{plain-records}
use Rattle.bc_mutator.proofs.fields.cut.Goals as goal

none : (a : Address) → word.Nil ≡ word.Ref a → ⊥
none a e = cc

pub write-requires-clause-serves : goal.write-requires-clause-serves
write-requires-clause-serves g c =
    let h = c.requires.serves.0 in
    let s = c.requires.serves.1 in
    (h, record { ready = s.ready; slot = s.fits.0; own = own-nil h.space c.args.chunk.now; part = s.part })

pub returns-clause-done : goal.returns-clause-done
returns-clause-done g c =
    IfOk-weaker c.write.result _ _
    (λ reply done h s.
    let k = done h (record { ready = s.ready; slot = s.fits.0; own = own-nil h.space c.args.chunk.now; part = s.part }) in (
      k.0,
      k.1,
      λ serial. k.2 serial (Cut c.args.slot c.args.index) (record {
        writes = λ serials state means. (Nil, nil-read (whole_memory h) state, refl);
        records = plain-records h k.0 c.args.holders.now c.args.lane c.args.slot c.args.index word.Nil reply none;
        changes = λ changes. changes;
      }),
    ))
    c.write.ensures.done

pub returns-clause-never : goal.returns-clause-never
returns-clause-never g c =
    let h = c.requires.serves.0 in
    let s = c.requires.serves.1 in
    on_err_weaker c.write.result
    (λ full.
    let stops = full h (record { ready = s.ready; slot = s.fits.0; own = own-nil h.space c.args.chunk.now; part = s.part }) in
    none stops.0.1.to stops.0.1.refers)
    c.write.ensures.full
