use Rattle.std.proofs.Common.{◌+◌, ◌*◌, ap, sym, subst, ◌∙◌}
use Rattle.bc_bits.specs.Bits.{has}
use Rattle.bc_superpages.specs.Layout.{Layout, set_of, is_cell}
use Rattle.bc_bookmarks.specs.Summarised.{HasNoBookmarks}
use Rattle.bc_pins.proofs.CallerLemmas.{opening_ready}
use Rattle.bc_pins.proofs.VisitLemmas.{new_cells, new_none, bare_openable}
use Rattle.pins_bench.proofs.space_with.Goals as goal

pub loop-page-init : goal.loop-page-init
loop-page-init g c =
    let new = c.in_ok-space.ensures.opening in
    let n = c.args.superpages in
    let ready = opening_ready n (4 * n + 1) 1 in
    record {
      cells = λ q b. ap (λ (s : Layout). has (set_of s.cells q) b) new ∙ new_cells n (4 * n + 1) 1 q b;
      promised = λ a. ap (λ (s : Layout). is_cell s.classes s.promised a) new ∙ ready.promised a;
      none = subst HasNoBookmarks (sym new) (new_none n (4 * n + 1) 1);
    }

pub returns : goal.returns
returns g c =
    let inv = c.loop-page.invariant in
    record { openable = bare_openable _ inv.cells inv.promised inv.none }
