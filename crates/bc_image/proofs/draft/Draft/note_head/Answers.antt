use Rattle.std.proofs.Common.{◌∙◌}
use Rattle.bc_image.proofs.KeyLemmas.{numbers-more, keys-more}
use Rattle.bc_image.proofs.draft.Draft.note_head.Goals as goal

pub returns-clause-heads : goal.returns-clause-heads
returns-clause-heads c hs h = record {
  heads = c.in_ok-push-2.ensures.items ∙ numbers-more c.args.self.now.heads.items hs c.args.number c.args.birth h.heads;
  keys = c.in_ok-push.ensures.items ∙ keys-more c.args.self.now.heads.items c.args.self.now.keys.items hs c.args.number c.args.birth c.len-place.result (c.len-place.ensures ∙ c.args.self.now.heads.ok.0) h.heads h.keys;
}
