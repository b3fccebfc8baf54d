use Rattle.std.proofs.Common.{rules, length, nat_lt}
use Rattle.std.proofs.lemmas.Fn.{filter_same}
use Rattle.bc_model.specs.Rows.{lists_of}
use Rattle.bc_turn.specs.declared.rooms.Spare.{Spare}
use Rattle.bc_turn.specs.Begun.{of_lane}
use Rattle.bc_turn.proofs.rooms.drop_idle.Goals as goal

pub returns : goal.returns
returns c = record {
  kept = filter_same _ (λ (spare : Spare). nat_lt (length (of_lane (lists_of c.args.replies.now) spare.lane)) (length (of_lane (lists_of c.args.lanes.now) spare.lane))) _ (λ x b f' k. search rules) _ _
      c.retain.ensures.filtered;
}
