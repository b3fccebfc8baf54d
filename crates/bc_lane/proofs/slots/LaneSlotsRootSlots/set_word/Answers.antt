use Rattle.std.proofs.Common.{ℕ, ◌+◌, List, get_or, set, sym, subst}
use Rattle.bc_lane.specs.Shown.{ShowsSlots}
use Rattle.bc_lane.proofs.SlotLemmas.{shows-set}
use Rattle.bc_mutator.specs.Effects.{with_root}
use Rattle.bc_word.specs.WordBits.{IsPacked}
use Rattle.bc_lane.proofs.slots.LaneSlotsRootSlots.set_word.Goals as goal

pub returns-clause-written : goal.returns-clause-written
returns-clause-written g c = λ r shown fits.
    let s = g.S.Station in
    let p = c.args.slot in
    let ws = c.args.self.now.words.items in (
      shown.0,
      shown.1,
      shown.2,
      subst (λ (xs : List ℕ). ShowsSlots s.holders s.lane s.slots s.shared s.starts (set ws (get_or xs p.domain 0 + p.slot) c.pack.result) (with_root r p c.args.word)) (sym shown.1)
          (subst (λ (n : ℕ). ShowsSlots s.holders s.lane s.slots s.shared s.starts (set ws (get_or s.starts p.domain 0 + p.slot) n) (with_root r p c.args.word)) (sym c.pack.ensures.bits)
          (shows-set s.holders s.lane s.slots s.shared s.starts ws r p shown.3 fits c.requires.own c.args.word (subst IsPacked c.pack.ensures.bits c.pack.ensures.packed))),
    )
