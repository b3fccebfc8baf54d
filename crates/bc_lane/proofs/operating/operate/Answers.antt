use Rattle.std.proofs.Common.{◌≡◌, Result, Ok, Err, refl}
use Rattle.bc_model.specs.declared.operations.Reply.{Reply}
use Rattle.bc_mutator.specs.declared.operations.Stop.{Stop}
use Rattle.bc_mutator.specs.declared.operations.Stop.TheVariants.{BufferFull, NurseryFull}
use Rattle.bc_lane.proofs.operating.operate.Goals as goal

ok-full : (r : Result Reply Stop) (reply : Reply) → r ≡ Ok reply → r ≡ Err NurseryFull → ⊥
ok-full r reply ok full = cc

buffer-nursery : (r : Result Reply Stop) → r ≡ Err BufferFull → r ≡ Err NurseryFull → ⊥
buffer-nursery r buffer nursery = cc

pub returns-in-Ok-clause-done : goal.returns-in-Ok-clause-done
returns-in-Ok-clause-done c = c.in-Ok.ensures.done

pub returns-in-Ok-clause-nursery : goal.returns-in-Ok-clause-nursery
returns-in-Ok-clause-nursery c = λ wants. absurd (ok-full _ c.in-Ok.reply refl (c.in-Ok.ensures.nursery.1 wants))

pub returns-in-Err-NurseryFull-clause-why : goal.returns-in-Err-NurseryFull-clause-why
returns-in-Err-NurseryFull-clause-why c =
    let full = rw c.in-Err-NurseryFull.field-0-is at c.in-Err-NurseryFull.ensures.nursery in
    full.0 refl

pub returns-in-Err-BufferFull-clause-why : goal.returns-in-Err-BufferFull-clause-why
returns-in-Err-BufferFull-clause-why c =
    let full = rw c.in-Err-BufferFull.field-0-is at c.in-Err-BufferFull.ensures.buffer in
    full refl

pub returns-in-Err-BufferFull-clause-nursery : goal.returns-in-Err-BufferFull-clause-nursery
returns-in-Err-BufferFull-clause-nursery c = λ wants.
    let full = rw c.in-Err-BufferFull.field-0-is at c.in-Err-BufferFull.ensures.nursery in
    absurd (buffer-nursery _ refl (full.1 wants))

pub unreachable-requires : goal.unreachable-requires
unreachable-requires c =
    let never = rw c.in-Err-NoFrame.field-0-is at c.in-Err-NoFrame.ensures.frame in
    absurd (never refl)
