use Rattle.bc_lane.proofs.operating.operate.Given as goal

abbrev pub ghosts-operate_at : goal.ghosts-operate_at
ghosts-operate_at a = record {
  view = a._seat.now.inner.me.0;
  holders = a.part.now.holders.items;
  lane = a.part.now.lane;
  slots = a.part.now.slots;
  starts = a.part.now.starts.items;
  shared = a.part.now.shared.value;
}
