use Rattle.std.proofs.Common.{arith}
use Rattle.bc_saving.proofs.WrittenParts.{calm, image, pictures}
use Rattle.bc_saving.proofs.saving.law_writable.Goals as goal

pub returns-clause-image : goal.returns-clause-image
returns-clause-image c =
    image c.args.setup.now c.args.parts.now.holders.items c.args.parts.now.births.items c.args.parts.now.roots c.args.parts.now.space c.requires.parts c.facts.ensures.kept
    c.args.version c.args.phases c.requires.holders c.requires.version (omega arith) c.requires.births c.words-words.ensures.packed c.facts-2.ensures.long

pub returns-clause-calm : goal.returns-clause-calm
returns-clause-calm c = calm c.args.setup.now c.args.parts.now.holders.items c.args.parts.now.births.items c.args.parts.now.roots c.args.parts.now.space c.requires.parts c.facts.ensures.kept

pub returns-clause-pictures : goal.returns-clause-pictures
returns-clause-pictures c =
    pictures c.args.setup.now c.args.parts.now.holders.items c.args.parts.now.births.items c.args.parts.now.roots c.args.parts.now.space c.requires.parts c.facts.ensures.kept
    c.args.version c.args.phases c.requires.holders
