use Rattle.std.proofs.Common.{◌≡◌, ℕ, refl}
use Rattle.std.proofs.lemmas.Result.{IfOk-weaker, on_err_weaker}
use Rattle.bc_model.specs.declared.operations.Op.TheVariants.{Set}
use Rattle.bc_model.specs.declared.values.Value.TheVariants.{Num}
use Rattle.bc_word.specs.declared.addresses.Address.{Address}
use Rattle.bc_word.specs.declared.words.Word.TheVariants as word
use Rattle.bc_mutator.specs.Objects.{whole_memory}
use Rattle.bc_mutator.proofs.RootLemmas.{num-read, own-num}
use Rattle.bc_mutator.proofs.RecordLemmas.{plain-records}
use Rattle.bc_mutator.proofs.fields.set.Goals as goal

none : (n : ℕ) → (a : Address) → word.Num n ≡ word.Ref a → ⊥
none n a e = cc

pub write-requires-clause-serves : goal.write-requires-clause-serves
write-requires-clause-serves g c =
    let h = c.requires.serves.0 in
    let s = c.requires.serves.1 in
    (h, record { ready = s.ready; slot = s.fits.0; own = own-num h.space c.args.chunk.now c.args.number; part = s.part })

pub returns-clause-done : goal.returns-clause-done
returns-clause-done g c =
    IfOk-weaker c.write.result _ _
    (λ reply done h s.
    let k = done h (record { ready = s.ready; slot = s.fits.0; own = own-num h.space c.args.chunk.now c.args.number; part = s.part }) in (
      k.0,
      k.1,
      λ serial. k.2 serial (Set c.args.slot c.args.index c.args.number) (record {
        writes = λ serials state means. (Num c.args.number, num-read (whole_memory h) state c.args.number, refl);
        records = plain-records h k.0 c.args.holders.now c.args.lane c.args.slot c.args.index (word.Num c.args.number) reply (none c.args.number);
        changes = λ changes. changes;
      }),
    ))
    c.write.ensures.done

pub returns-clause-never : goal.returns-clause-never
returns-clause-never g c =
    let h = c.requires.serves.0 in
    let s = c.requires.serves.1 in
    on_err_weaker c.write.result
    (λ full.
    let stops = full h (record { ready = s.ready; slot = s.fits.0; own = own-num h.space c.args.chunk.now c.args.number; part = s.part }) in
    none c.args.number stops.0.1.to stops.0.1.refers)
    c.write.ensures.full
