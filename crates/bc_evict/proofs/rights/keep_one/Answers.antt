-- All frames of the word but the first are given back.
use Rattle.std.proofs.Common.{ℕ, ◌+◌, ◌*◌, ◌<◌, ap, sym, subst, arith}
use Rattle.bc_pins.specs.declared.views.View.{View}
use Rattle.bc_pins.specs.declared.pins.Seat.{Seat}
use Rattle.bc_pins.specs.Key.{Key}
use Rattle.bc_pins.specs.Calls.{view_of}
use Rattle.bc_evict.specs.Claiming.{HasClaimed}
use Rattle.bc_evict.proofs.ClaimLemmas.{kept-at, claimed-rights, claimed-alone, claimed-given}
use Rattle.bc_evict.proofs.rights.keep_one.Goals.{then-others-ne0, else-others-ne0}
use Rattle.bc_evict.proofs.rights.keep_one.Goals as goal

pub frame_give-requires-clause-rights : goal.frame_give-requires-clause-rights
frame_give-requires-clause-rights c =
    let v = c.requires.claimed in
    let fits = c.ranges.found.fits in
    claimed-rights v.0 (view_of c.args.seat.now) c.args.word c.args.found c.trailing_ones-kept.result (kept-at c.args.found _ c.trailing_ones-kept.ensures fits c.requires.some) v.2

pub overflow_mul-word : goal.overflow_mul-word
overflow_mul-word c =
    let k = kept-at c.args.found _ c.trailing_ones-kept.ensures c.ranges.found.fits c.requires.some in
    let near = c.requires.within c.trailing_ones-kept.result k.near k.clear in
    let frames = c.frames-frames.ensures.frames in
    let most = c.frames-frames.type_inv in
    omega arith

pub overflow_add-word : goal.overflow_add-word
overflow_add-word c =
    let k = kept-at c.args.found _ c.trailing_ones-kept.ensures c.ranges.found.fits c.requires.some in
    let near = c.requires.within c.trailing_ones-kept.result k.near k.clear in
    let frames = c.frames-frames.ensures.frames in
    let most = c.frames-frames.type_inv in
    omega arith

pub returns-clause-kept : goal.returns-clause-kept
returns-clause-kept c = λ v none is.
    let k = kept-at c.args.found _ c.trailing_ones-kept.ensures c.ranges.found.fits c.requires.some in
    let about = ap (λ (x : View). x.about.frames) is in
    let same = ap (λ (a : Key). a.frames) c.requires.seat.about in
    let near = c.requires.within c.trailing_ones-kept.result k.near k.clear in
    let within : 64 * c.args.word + c.trailing_ones-kept.result < v.about.frames = omega arith in
    subst (λ (f : ℕ). HasClaimed v f (view_of c.if-others-ne0.seat)) (sym c.of.ensures.number) (elim c.if-others-ne0.branch [
      | then-others-ne0 w ↦
          subst (λ (s : Seat). HasClaimed v (64 * c.args.word + c.trailing_ones-kept.result) (view_of s)) (sym w.seat-is)
          (claimed-given v (view_of c.args.seat.now) _ c.args.word c.args.found c.trailing_ones-kept.result _ k none is w.frame_give.ensures.view within)
      | else-others-ne0 w ↦
          let off = w.if-others-ne0 in
          subst (λ (s : Seat). HasClaimed v (64 * c.args.word + c.trailing_ones-kept.result) (view_of s)) (sym w.seat-is)
          (claimed-alone v (view_of c.args.seat.now) c.args.word c.args.found c.trailing_ones-kept.result k none is (omega arith) within)
    ])
