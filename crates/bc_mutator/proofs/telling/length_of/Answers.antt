use Rattle.std.proofs.Common.{ap}
use Rattle.bc_word.specs.declared.heads.Head.{Head}
use Rattle.bc_mutator.proofs.PartLemmas.{head-of, slot-sees, space-of, there-of}
use Rattle.bc_mutator.proofs.TellingLemmas.{len-acts, len-refuses}
use Rattle.bc_mutator.proofs.telling.length_of.Goals as goal

pub object-requires-clause-own : goal.object-requires-clause-own
object-requires-clause-own g c =
    let h = c.requires.sees.0 in
    let s = c.requires.sees.1 in
    (h, slot-sees c.args.slot c.word.result s s.fits c.requires.held (c.word.ensures.word h.roots s.roots s.fits))

pub head_at-requires-clause-there : goal.head_at-requires-clause-there
head_at-requires-clause-there g c =
    let h = c.requires.sees.0 in
    let s = c.requires.sees.1 in
    let w = slot-sees c.args.slot c.word.result s s.fits c.requires.held (c.word.ensures.word h.roots s.roots s.fits) in
    (h.space, space-of w, there-of c.in-Ok.at.0 w (c.in-Ok.ensures.found h w).there)

pub returns-in-Ok : goal.returns-in-Ok
returns-in-Ok g c = λ h s.
    let e = c.word.ensures.word h.roots s.roots s.fits in
    let w = slot-sees c.args.slot c.word.result s s.fits c.requires.held e in
    let found = c.in-Ok.ensures.found h w in
    len-acts h c.args.holders.now c.args.lane c.head_at.result.fields c.args.slot c.word.result c.in-Ok.at s.ready e found (c.in-Ok.ensures.acts h w)
    (ap (λ (x : Head). x.fields) (head-of c.in-Ok.at.0 c.head_at.result w c.head_at.ensures.head found.there))

pub returns-in-Err : goal.returns-in-Err
returns-in-Err g c = λ h s.
    let e = c.word.ensures.word h.roots s.roots s.fits in
    let w = slot-sees c.args.slot c.word.result s s.fits c.requires.held e in
    len-refuses h c.args.holders.now c.args.lane c.args.slot c.word.result c.in-Err.reply e (c.in-Err.ensures.refuses h w)
