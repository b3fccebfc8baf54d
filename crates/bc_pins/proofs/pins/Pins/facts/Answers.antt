use Rattle.bc_pins.proofs.InsideLemmas.{opening_layout, opening_inside, opening_behind}
use Rattle.bc_pins.proofs.pins.Pins.facts.Goals as goal

pub returns-clause-layout : goal.returns-clause-layout
returns-clause-layout c = opening_layout c.args.self.now.table.shared.key _ c.facts.ensures.kept c.args.self.now.opened

pub returns-clause-inside : goal.returns-clause-inside
returns-clause-inside c = opening_inside c.args.self.now.table.shared.key _ c.facts.ensures.kept c.args.self.now.paged c.args.self.now.opened

pub returns-clause-behind : goal.returns-clause-behind
returns-clause-behind c = opening_behind c.args.self.now.table.shared.key _ c.facts.ensures.kept c.args.self.now.paged c.args.self.now.opened
