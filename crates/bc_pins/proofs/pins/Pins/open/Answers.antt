use Rattle.std.proofs.Common.{◌≡◌, ℕ, ◌+◌, ◌/◌, ◌<◌, ◌≤◌, List, length, map, ap, sym, subst, ◌∙◌, arith}
use Rattle.bc_superpages.specs.declared.headers.PageState.TheVariants.{Absent}
use Rattle.bc_superpages.specs.Layout.{Layout}
use Rattle.bc_superpages.specs.LayoutAt.{state_at}
use Rattle.bc_pins.specs.declared.key.Role.{Role}
use Rattle.bc_pins.specs.Key.{Key, role_number}
use Rattle.bc_pins.specs.Opening.{IsOpenable, IsMarkable, key_for}
use Rattle.bc_pins.specs.Totals.{times}
use Rattle.bc_pins.proofs.pins.Pins.open.Goals as goal

pub draw-requires-clause-drawn : goal.draw-requires-clause-drawn
draw-requires-clause-drawn c =
    let parts = c.open_up-parts.result in
    let ends = c.open_up-parts.ensures.kept.ends in
    let enough = ends.within in
    let told = c.about_of-about.ensures.key in
    let opening : c.about_of-about.result.opening ≡ c.args.space = ap (λ (k : Key). k.opening) told ∙ c.of-opening.ensures in
    let roles : c.in-Ok.room.roles.items ≡ c.args.roles.now = c.in-Ok.ensures.copies.1 in
    record {
      kept = c.open_up-parts.ensures.kept;
      within = omega arith;
      near = omega arith;
      behind = λ p lt. ends.absent p (omega arith);
      absent = λ p lt. subst (λ (s : Layout). state_at s.states p ≡ Absent) (sym opening) (c.open_up-parts.ensures.absent p (omega arith));
      layout = c.open_up-parts.ensures.layout ∙ sym opening;
      openable = subst IsOpenable (sym opening) c.requires.openable;
      markable = λ e. subst IsMarkable (sym opening) (c.requires.markable e);
      some = subst (λ (rs : List Role). 0 < length rs) (sym roles) c.requires.some;
      apart = subst (λ (rs : List Role). (r : ℕ) → times r (map role_number rs) ≤ 1) (sym roles) c.requires.apart;
      unheld = λ e. c.in-Ok.ensures.copies.0 ∙ c.requires.mark e;
      key = told ∙ ap
          (λ (s : Layout). key_for ((parts.end + 3) / 4) c.args.turn s parts.pool parts.nursery.items c.in-Ok.room.holders.items c.in-Ok.room.roles.items)
          (sym (ap (λ (k : Key). k.opening) told));
    }
