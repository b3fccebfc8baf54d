use Rattle.std.proofs.Common.{List, [], ◌∷◌, ◌++◌, refl, subst, ◌∙◌}
use Rattle.bc_pins.specs.declared.pins.Seat.{Seat}
use Rattle.bc_pins.specs.Closing.{Gathered}
use Rattle.bc_pins.proofs.GatherLemmas.{gathered_first, last_back}
use Rattle.bc_pins.proofs.JoiningLemmas.{HasJoined, still_at, joined_more, joined_counts}
use Rattle.bc_pins.proofs.pins.Pins.join_all.Goals as goal

pub loop-other-init : goal.loop-other-init
loop-other-init c = record {
  gathered = gathered_first _ _ c.args.self.now.apart _ c.args.others.now.items c.args.seat.now c.requires.back _ refl refl;
  at = c.requires.seat;
  opens = (last_back _ _ c.args.self.now.apart _ c.args.others.now.items c.args.seat.now c.requires.back refl).opens;
  role = refl;
  room = refl;
}

pub loop-other-preserved : goal.loop-other-preserved
loop-other-preserved c =
    let inv = c.loop-other.invariant in
    let board = c.args.self.now.table.shared in
    let all : List Seat = c.args.others.now.items ++ c.args.seat.now ∷ [] in
    let front = c.pop.new.self.items in
    let other = c.in-Some.other in
    let old = c.loop-other.seat in
    let new = c.join.new.seat in
    let join = c.join.ensures in
    let j : HasJoined old other new = record { view = join.view; slots = join.slots; opens = join.opens; role = join.role; table = join.table } in
    let g = subst (λ (l : List Seat). Gathered board.table_id board.key all l old.inner) c.in-Some.ensures.items inv.gathered in
    record {
      gathered = joined_more board.table_id board.key c.args.self.now.apart all front other c.requires.back old new j g;
      at = still_at c.args.self.now old other new j inv.at;
      opens = joined_counts board.table_id board.key c.args.self.now.apart all front other c.requires.back old new j g inv.opens;
      role = join.role ∙ inv.role;
      room = c.in-Some.ensures.capacity ∙ inv.room;
    }
