use Rattle.std.proofs.Common.{◌≡◌, ℕ, ◌+◌, List, ◌++◌, take, drop, ap, ◌∙◌, append_assoc, arith}
use Rattle.bc_model.specs.Run.{opening, after_phases}
use Rattle.bc_model.specs.State.{State}
use Rattle.bc_trace.specs.Replies.{done_text}
use Rattle.bc_replay.proofs.Pieces.{texts-split}
use Rattle.bc_replay.specs.Output.{texts_from}
use Rattle.bc_cli.proofs.GoingOn.{goes-on}
use Rattle.bc_cli.proofs.laws.law_resumed.Goals as goal

pub returns : goal.returns
returns c = record {
  parts = λ t k few.
      let s : State = opening t.setup in
      let front : List ℕ = texts_from 1 s (take k t.phases) in
      let middle : State = after_phases s (take k t.phases) in
      let same : 1 + k ≡ k + 1 = omega arith in
      ap (λ x. x ++ done_text) (texts-split 1 s t.phases k few)
      ∙ append_assoc front (texts_from (1 + k) middle (drop k t.phases)) done_text
      ∙ ap (λ n. front ++ (texts_from n middle (drop k t.phases) ++ done_text)) same;
  goes_on = goes-on;
}
