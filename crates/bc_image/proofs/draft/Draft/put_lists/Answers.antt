use Rattle.bc_image.proofs.ItemLemmas.{passed-holder, passed-birth, passed-head}
use Rattle.bc_image.proofs.draft.Draft.put_lists.Goals as goal

pub put_holder-requires : goal.put_holder-requires
put_holder-requires c = passed-holder c.args.self.now.progress c.args.self.now.births.items c.args.item c.requires.bounded c.in-Holder.is c.requires.passed

pub put_birth-requires : goal.put_birth-requires
put_birth-requires c = passed-birth c.args.self.now.progress c.args.self.now.births.items c.args.item c.in-Birth.is c.requires.passed

pub put_head-requires-clause-item : goal.put_head-requires-clause-item
put_head-requires-clause-item c = passed-head c.args.self.now.progress c.args.self.now.births.items c.args.item c.in-Head.is c.requires.passed
