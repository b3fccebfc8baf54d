use Rattle.std.proofs.Common.{refl, ap, subst, get_or, ◌∙◌}
use Rattle.bc_model.specs.declared.operations.Op.TheVariants.{Load}
use Rattle.bc_word.specs.WordBits.{FitsWord}
use Rattle.bc_word.specs.declared.words.Word.{Word}
use Rattle.bc_word.specs.declared.words.Word.TheVariants.{Nil}
use Rattle.bc_mutator.specs.Effects.{with_root}
use Rattle.bc_mutator.specs.Objects.{cell_of, loaded_as, own_chunk}
use Rattle.bc_model.proofs.Holders.{writer}
use Rattle.bc_mutator.proofs.PartLemmas.{field-of, slot-sees, space-of, there-of}
use Rattle.bc_mutator.proofs.RootLemmas.{done-root, done-answers, own-field, load-effect, load-refuses}
use Rattle.bc_mutator.proofs.slots.load.Goals as goal

pub field_at-held-requires-clause-there : goal.field_at-held-requires-clause-there
field_at-held-requires-clause-there g c =
    let h = c.requires.sees.0 in
    let s = c.requires.sees.1 in
    let w = slot-sees c.args.slot c.word-word.result s s.fits.0 c.requires.held (c.word-word.ensures.word h.roots s.roots s.fits.0) in
    (h.space, space-of w, there-of c.in-Ok.at.0 w (c.in-Ok.ensures.found h w).there, c.in-Ok.ensures.index h w)

pub returns-in-Ok-clause-done : goal.returns-in-Ok-clause-done
returns-in-Ok-clause-done g c = λ h s.
    let hs = c.args.holders.now in
    let lane = c.args.lane in
    let e = c.word-word.ensures.word h.roots s.roots s.fits.0 in
    let w = slot-sees c.args.slot c.word-word.result s s.fits.0 c.requires.held e in
    let found = c.in-Ok.ensures.found h w in
    let field = get_or (cell_of h.space (own_chunk h lane) c.in-Ok.at.0).fields c.args.index Nil in
    let is = field-of c.in-Ok.at.0 c.args.index c.field_at-held.result w c.field_at-held.ensures.field found.there (c.in-Ok.ensures.index h w) in (
      with_root h.roots c.args.to c.field_at-held.result,
      c.set_word.ensures.written h.roots s.roots s.fits.2,
      λ serial. done-root h (with_root h.roots c.args.to c.field_at-held.result) hs lane serial c.args.to field (Load c.args.slot c.args.index c.args.to) c.loaded.result s.ready
          (ap (λ (x : Word). with_root h.roots c.args.to x) is) s.fits.2.1 (writer _ c.args.lane c.requires.mine) (own-field h hs lane c.args.index c.word-word.result c.in-Ok.at s.ready found)
          (subst FitsWord is c.field_at-held.ensures.fits)
          (λ serials state means.
          load-effect h hs serials lane c.args.index c.args.slot c.args.to c.word-word.result c.in-Ok.at c.loaded.result state s.ready e found (c.in-Ok.ensures.acts h w) (c.loaded.ensures ∙ ap loaded_as is) means)
          (refl, refl) refl,
    )

pub returns-in-Err-clause-done : goal.returns-in-Err-clause-done
returns-in-Err-clause-done g c = λ h s.
    let e = c.word-word.ensures.word h.roots s.roots s.fits.0 in
    let w = slot-sees c.args.slot c.word-word.result s s.fits.0 c.requires.held e in (
      h.roots,
      s.roots,
      λ serial. done-answers h c.args.holders.now c.args.lane serial (Load c.args.slot c.args.index c.args.to) c.in-Err.reply s.ready
          (load-refuses h c.args.holders.now c.args.lane c.args.index c.args.slot c.args.to c.word-word.result c.in-Err.reply e (c.in-Err.ensures.refuses h w)) (refl, refl) refl,
    )

pub object_with_field-requires-clause-own : goal.object_with_field-requires-clause-own
object_with_field-requires-clause-own g c =
    let h = c.requires.sees.0 in
    let s = c.requires.sees.1 in
    (h, slot-sees c.args.slot c.word-word.result s s.fits.0 c.requires.held (c.word-word.ensures.word h.roots s.roots s.fits.0))
