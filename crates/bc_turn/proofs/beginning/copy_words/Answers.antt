use Rattle.std.proofs.Common.{length, refl, sym, subst, ◌∙◌, arith}
use Rattle.bc_turn.specs.Taking.{AreFirstWords}
use Rattle.bc_turn.proofs.TakingLemmas.{words-none, words-more, nil-packed, stretch-fits}
use Rattle.bc_turn.proofs.beginning.copy_words.Goals as goal

pub loop-domain-init : goal.loop-domain-init
loop-domain-init c = record { words = subst (AreFirstWords c.args.roots.now c.args.domains.now 0) (sym c.requires.none) (words-none c.args.roots.now c.args.domains.now nil-packed); room = refl }

pub copy_slots-requires-clause-domain : goal.copy_slots-requires-clause-domain
copy_slots-requires-clause-domain c = c.requires.domains c.loop-domain.domain-index c.loop-domain-test.true

pub copy_slots-requires-clause-room : goal.copy_slots-requires-clause-room
copy_slots-requires-clause-room c =
    let inv = c.loop-domain.invariant in
    let long = inv.words.long in
    let room = inv.room in
    let enough = c.requires.room in
    let fits = stretch-fits c.loop-domain.domain-index (length c.args.domains.now) c.args.roots.now.slots c.loop-domain-test.true in
    omega arith

pub loop-domain-preserved : goal.loop-domain-preserved
loop-domain-preserved c = record {
  words = words-more c.args.roots.now c.args.domains.now c.loop-domain.domain-index _ _ _ c.loop-domain.invariant.words refl c.copy_slots.ensures.copied;
  room = c.copy_slots.ensures.room ∙ c.loop-domain.invariant.room;
}
