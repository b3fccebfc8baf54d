use Rattle.std.proofs.Common.{ℕ, ◌+◌, refl, sym, subst, ◌∙◌, arith}
use Rattle.bc_turn.specs.Taking.{HasCopied}
use Rattle.bc_turn.proofs.TakingLemmas.{copied-none, copied-more}
use Rattle.bc_turn.proofs.beginning.copy_slots.Goals as goal

pub loop-slot-init : goal.loop-slot-init
loop-slot-init c = record { copied = copied-none _ _ _; room = refl }

pub push_reserved-requires : goal.push_reserved-requires
push_reserved-requires c =
    let inv = c.loop-slot.invariant in
    let long = inv.copied.long in
    let room = inv.room in
    let enough = c.requires.room in
    let slots = c.slots-slot-end.ensures.slots in
    let test = c.loop-slot-test.true in
    omega arith

pub loop-slot-preserved : goal.loop-slot-preserved
loop-slot-preserved c = record {
  copied = subst (HasCopied c.args.roots.now c.args.domain (c.loop-slot.slot + 1) c.args.words.now.items) (sym c.push_reserved.ensures.items)
      (copied-more c.args.roots.now c.args.domain c.loop-slot.slot _ _ _ c.loop-slot.invariant.copied c.get.ensures.word c.get.ensures.packed);
  room = c.push_reserved.ensures.capacity ∙ c.loop-slot.invariant.room;
}

pub returns-clause-copied : goal.returns-clause-copied
returns-clause-copied c =
    let slots = c.slots-slot-end.ensures.slots in
    let test = c.loop-slot-test.false in
    let end = c.loop-slot.auto.slot-end in
    subst (λ (n : ℕ). HasCopied c.args.roots.now c.args.domain n c.args.words.now.items c.loop-slot.words.items) (omega arith) c.loop-slot.invariant.copied

pub returns-clause-room : goal.returns-clause-room
returns-clause-room c = c.loop-slot.invariant.room
