use Rattle.std.proofs.Common.{◌≡◌, length, take, drop, ◌+◌, ◌++◌, ap, ◌∙◌, arith}
use Rattle.std.proofs.Math.Seq.{take-add}
use Rattle.bc_io.proofs.Telling.{HeldGrows-more, RoomFalls-more, take-take_rest}
use Rattle.bc_io.proofs.writing.write_all.Goals as goal

pub loop-done-preserved : goal.loop-done-preserved
loop-done-preserved g c =
    let done = c.loop-done.done in
    let bytes = c.args.bytes.now in
    let longer : take (done + c.in-Ok.count) bytes ≡ take done bytes ++ take c.in-Ok.count (drop done bytes) = take-add done c.in-Ok.count bytes in
    record {
      within = omega (arith, c.in-Ok.ensures.within);
      grows = rw (longer, ← take-take_rest bytes done c.in-Ok.count) (HeldGrows-more _ _ _ _ _ c.loop-done.invariant.grows c.in-Ok.ensures.taken);
      falls = RoomFalls-more _ _ _ _ _ c.loop-done.invariant.falls c.in-Ok.ensures.filled;
      firm = c.in-Ok.ensures.firm ∙ c.loop-done.invariant.firm;
      none = λ e. absurd (omega (arith, ap length e, c.loop-done-test.true));
    }
