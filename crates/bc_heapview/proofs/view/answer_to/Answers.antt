use Rattle.std.proofs.Common.{◌≡◌, ◌≢◌, ◌⊎◌, ℕ, ◌<◌, List, length, sym, subst, inl, inr, arith}
use Rattle.bc_io.specs.Told.{HasRoom, HeldGrows, IsPrefix}
use Rattle.bc_heapview.specs.Views.{IsAnsweredStatus}
use Rattle.bc_heapview.specs.declared.status.ViewStatus.{ViewStatus}
use Rattle.bc_heapview.specs.declared.status.ViewStatus.TheVariants.{Done, WriteFault}
use Rattle.bc_heapview.proofs.view.answer_to.Goals as goal

ended : (status : ViewStatus) → (status ≡ Done) ⊎ (status ≡ WriteFault) → IsAnsweredStatus status
ended status (inl e) = subst IsAnsweredStatus (sym e) tt
ended status (inr e) = subst IsAnsweredStatus (sym e) tt

pub put_answer-requires : goal.put_answer-requires
put_answer-requires g c = record { room = subst (λ (b : List ℕ). HasRoom (g.K.Sink.room c.args.sink.now) (length b)) (sym c.deref.ensures.value) (c.requires.room c.in-Ok.text.items c.in-Ok.ensures.answer) }
