use Rattle.std.proofs.Common.{◌+◌, ◌∙◌, List, ℕ, refl, sym, subst}
use Rattle.bc_pins.specs.Filling.{IsFrameWord, AddsFrames}
use Rattle.bc_pins.proofs.FillLemmas.{adds_none, adds_more}
use Rattle.bc_pins.proofs.filling.push_frames.Goals as goal

pub loop-word-init : goal.loop-word-init
loop-word-init c = record { room = refl; added = adds_none _ _ }

pub loop-word-preserved : goal.loop-word-preserved
loop-word-preserved c =
    let inv = c.loop-word.invariant in
    record {
      room = c.push_reserved.ensures.capacity ∙ inv.room;
      added = subst (λ (l : List ℕ). AddsFrames c.args.pool.now c.args.words.now.items l (c.loop-word.word + 1)) (sym c.push_reserved.ensures.items) (adds_more (IsFrameWord c.args.pool.now) c.args.words.now.items c.loop-word.words.items c.loop-word.word c.word.result inv.added c.word.ensures.bits);
    }
