use Rattle.std.proofs.Common.{length, ap, sym, ◌∙◌}
use Rattle.bc_frames.proofs.FlagLemmas.{length-flags_in}
use Rattle.bc_frames.proofs.frames.FramePool.frames.Goals as goal

pub returns : goal.returns
returns c = record { count = sym (length-flags_in c.self.inside.words.items c.self.inside.frames) ∙ ap length c.self.view_is }
