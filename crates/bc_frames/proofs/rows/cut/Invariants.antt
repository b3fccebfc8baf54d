use Rattle.std.proofs.Common.{◌≡◌, ◌-◌, length, replicate, vec_capacity}
use Rattle.bc_frames.specs.declared.rows.TheConstants.{ROW}
use Rattle.bc_frames.proofs.rows.cut.Given as goal

abbrev pub invariant-loop-page : goal.invariant-loop-page
invariant-loop-page l = record {
  room : vec_capacity l.pages ≡ vec_capacity l.initial.pages;
  long : length l.pages.items ≡ l._page;
  zeros : l.pages.items ≡ replicate l._page (replicate 512 0);
  left : length l.rest ≡ ROW - l._page;
  rest : l.rest ≡ replicate (ROW - l._page) (replicate 512 0);
}
