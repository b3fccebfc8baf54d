use Rattle.std.proofs.Common.{length, ap, sym, ◌∙◌}
use Rattle.bc_pins.specs.declared.pins.Pins.{Pins}
use Rattle.bc_pins.proofs.pins.Pins.frames.Goals as goal

pub returns : goal.returns
returns c = record {
  frames = c.frames.ensures.count ∙ ap length (c.self.invariant.emptied.pool ∙ ap (λ (p : Pins). p.rest.whole.pool) c.self.view_is ∙ c.args.self.now.pooled) ∙ sym c.args.self.now.frames;
}
