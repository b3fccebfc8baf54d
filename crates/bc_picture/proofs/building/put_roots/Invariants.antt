use Rattle.std.proofs.Common.{◌≡◌, length, take}
use Rattle.bc_picture.proofs.building.put_roots.Given as goal

abbrev pub invariant-loop-place : goal.invariant-loop-place
invariant-loop-place l = record {
  same : l.roots ≡ record l.fn.roots { words = l.roots.words };
  long : length l.roots.words ≡ length l.fn.roots.words;
  done : take l.place l.roots.words ≡ take l.place l.words;
}
