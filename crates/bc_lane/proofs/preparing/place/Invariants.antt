use Rattle.std.proofs.Common.{◌≡◌, length}
use Rattle.bc_lane.proofs.StartLemmas.{ArePlaced}
use Rattle.bc_lane.proofs.preparing.place.Given as goal

abbrev pub invariant-loop-number : goal.invariant-loop-number
invariant-loop-number l = record {
  long : length l.starts ≡ length l.initial.starts;
  placed : ArePlaced l.domains l.slots l.number l.starts;
}
