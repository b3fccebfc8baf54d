use Rattle.std.proofs.Common.{◌≡◌, refl, arith}
use Rattle.bc_frames.proofs.LyingLemmas.{unused-new}
use Rattle.bc_frames.proofs.storage.Store.new.Goals as goal

pub returns : goal.returns
returns c =
    let all : c.loop-page._page ≡ c.args.pages = omega arith in
    record { zeros = rw (c.loop-page.invariant.unused, all) (rw (unused-new c.args.pages) refl) }
