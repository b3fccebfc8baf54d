use Rattle.std.proofs.Common.{◌≡◌, ap, ◌∙◌, replicate, length-append, arith}
use Rattle.bc_frames.specs.declared.rows.TheConstants.{ROW}
use Rattle.bc_frames.proofs.LyingLemmas.{zeros-more}
use Rattle.bc_frames.proofs.rows.Row.zeroed.Goals as goal

pub loop-page-preserved : goal.loop-page-preserved
loop-page-preserved c =
    let k = c.loop-page.invariant in
    let items = c.push_reserved.ensures.items in
    let long = k.long in
    record {
      room = let room = k.room in let same = c.push_reserved.ensures.capacity in omega arith;
      long = rw (items, length-append) (omega arith);
      zeros = rw items (zeros-more c.loop-page.pages.items c.loop-page._page (replicate 512 0) k.zeros);
    }

pub returns : goal.returns
returns c =
    let all : c.loop-page._page ≡ ROW = omega arith in
    record { zeros = c.leak.ensures.value ∙ c.loop-page.invariant.zeros ∙ ap (λ n. replicate n (replicate 512 0)) all }
