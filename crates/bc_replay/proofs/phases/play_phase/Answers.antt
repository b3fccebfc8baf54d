use Rattle.std.proofs.Common.{ap, inl, inr}
use Rattle.bc_replay.proofs.Feeds.{fed-cut, fed-want, none-left}
use Rattle.bc_replay.proofs.phases.play_phase.Goals as goal

pub returns-in-Ok-clause-fed : goal.returns-in-Ok-clause-fed
returns-in-Ok-clause-fed g c = let h = c.in-Ok.ensures.turns c.requires.going in (h.0, h.1, inl (_, h.2))

pub returns-in-Err-OutOfHeap-clause-fed : goal.returns-in-Err-OutOfHeap-clause-fed
returns-in-Err-OutOfHeap-clause-fed g c = fed-cut _ _ _ _ _ _ _ _ c.in-Err-OutOfHeap.field-0-is (c.in-Err-OutOfHeap.ensures.cut_turns c.requires.going)

pub returns-in-Err-NoMemory-clause-fed : goal.returns-in-Err-NoMemory-clause-fed
returns-in-Err-NoMemory-clause-fed g c =
    let e = c.in-Err-NoMemory.ensures in
    let none = none-left _ c.in-Err-NoMemory.field-0-is in
    elim (e.want none c.requires.going) [
      | inl h ↦ fed-want _ _ _ _ _ h.0 (e.no_memory none) (ap g.N.Notices.taken h.1)
      | inr h ↦ (h.0, h.1, inr (inr (inl (_, h.2))))
    ]
