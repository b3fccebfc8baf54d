-- Frames that are short for some pages are short for more.
use Rattle.std.proofs.Common.{ℕ, ◌<◌, ◌≤◌, arith}
use Rattle.bc_superpages.specs.Layout.{Layout}
use Rattle.bc_running.specs.Frames.{IsShortOfFrames}

pub short-for-more : {s : Layout} {few more : ℕ} → few ≤ more → IsShortOfFrames s few → IsShortOfFrames s more
short-for-more le is = record { free = (let less = is.free in omega (arith, le, less)); fewer = is.fewer; enough = is.enough }
