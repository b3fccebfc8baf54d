use Rattle.bc_mutator.proofs.PartLemmas.{head-of, slot-sees, space-of, there-of}
use Rattle.bc_mutator.proofs.TellingLemmas.{who-nil, who-num, who-acts, who-refuses}
use Rattle.bc_mutator.proofs.telling.who.Goals as goal

pub object-requires-clause-own : goal.object-requires-clause-own
object-requires-clause-own g c =
    let h = c.requires.sees.0 in
    let s = c.requires.sees.1 in
    (h, slot-sees c.args.slot c.word-word.result s s.fits c.requires.held (c.word-word.ensures.word h.roots s.roots s.fits))

pub head_at-head-requires-clause-there : goal.head_at-head-requires-clause-there
head_at-head-requires-clause-there g c =
    let h = c.requires.sees.0 in
    let s = c.requires.sees.1 in
    let w = slot-sees c.args.slot c.word-word.result s s.fits c.requires.held (c.word-word.ensures.word h.roots s.roots s.fits) in
    (h.space, space-of w, there-of c.in-Ok.at.0 w (c.in-Ok.ensures.found h w).there)

pub returns-in-Nil : goal.returns-in-Nil
returns-in-Nil g c = λ h s.
    who-nil h c.args.holders.now c.args.lane c.args.slot c.word-word.result (c.word-word.ensures.word h.roots s.roots s.fits) c.in-Nil.is

pub returns-in-Num : goal.returns-in-Num
returns-in-Num g c = λ h s.
    who-num h c.args.holders.now c.args.lane c.in-Num.number c.args.slot c.word-word.result (c.word-word.ensures.word h.roots s.roots s.fits) c.in-Num.is

pub returns-in-Ok : goal.returns-in-Ok
returns-in-Ok g c = λ h s.
    let e = c.word-word.ensures.word h.roots s.roots s.fits in
    let w = slot-sees c.args.slot c.word-word.result s s.fits c.requires.held e in
    let found = c.in-Ok.ensures.found h w in
    who-acts h c.args.holders.now c.args.lane c.args.slot c.word-word.result c.in-Ok.at c.head_at-head.result e found.refers (c.in-Ok.ensures.acts h w)
    (head-of c.in-Ok.at.0 c.head_at-head.result w c.head_at-head.ensures.head found.there)

pub returns-in-Err : goal.returns-in-Err
returns-in-Err g c = λ h s.
    let e = c.word-word.ensures.word h.roots s.roots s.fits in
    let w = slot-sees c.args.slot c.word-word.result s s.fits c.requires.held e in
    who-refuses h c.args.holders.now c.args.lane c.args.slot c.word-word.result c.in-Ref.field-0 c.in-Err.reply e c.in-Ref.is (c.in-Err.ensures.refuses h w)
