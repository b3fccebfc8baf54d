use Rattle.std.proofs.Common.{◌≤◌, ◌⊎◌, ℕ, ap, arith, sym, subst}
use Rattle.bc_engine.specs.Parts.{CanAdopt, PartsStand}
use Rattle.bc_model.specs.Lists.{TraceLists}
use Rattle.bc_model.specs.State.{NoneFrozen}
use Rattle.bc_model.specs.declared.traces.Setup.{Setup}
use Rattle.bc_replay.specs.Courses.{before, whole_course}
use Rattle.bc_cli.proofs.Saving.{of-trace}
use Rattle.bc_cli.proofs.save.put_saved.Goals as goal

pub put_image-requires-clause-version : goal.put_image-requires-clause-version
put_image-requires-clause-version g c =
    let range = c.requires.trace.version in
    omega (arith, range.0, range.1, ap (λ (x : TraceLists). x.version) c.trace.view_is)

pub put_image-requires-clause-parts : goal.put_image-requires-clause-parts
put_image-requires-clause-parts g c =
    let parts = c.args.parts in
    subst (λ (z : Setup). CanAdopt z parts.holders.items parts.births.items parts.roots parts.space) (sym (ap (λ (x : TraceLists). x.setup) c.trace.view_is)) c.requires.saved.parts

pub put_image-requires-clause-holders : goal.put_image-requires-clause-holders
put_image-requires-clause-holders g c =
    subst (λ (n : ℕ). NoneFrozen c.args.parts.holders.items ⊎ (2 ≤ n)) (sym (ap (λ (x : TraceLists). x.version) c.trace.view_is)) c.requires.saved.unfrozen

pub put_image-requires-clause-births : goal.put_image-requires-clause-births
put_image-requires-clause-births g c = c.requires.saved.few

pub put_image-requires-clause-room : goal.put_image-requires-clause-room
put_image-requires-clause-room g c =
    let t = c.args.trace.now in
    let s = before (whole_course t) c.args.count in
    let parts = c.args.parts in
    let setup = ap (λ (x : TraceLists). x.setup) c.trace.view_is in
    let version = ap (λ (x : TraceLists). x.version) c.trace.view_is in
    let stands : PartsStand c.trace.inside.setup parts.holders.items parts.births.items parts.roots parts.space s =
    subst (λ (z : Setup). PartsStand z parts.holders.items parts.births.items parts.roots parts.space s) (sym setup) c.requires.saved.stands in
    (s, stands, λ l listing. c.requires.room l (of-trace t c.trace.inside.version c.trace.inside.setup c.args.count s l version setup listing))

pub returns-in-Ok-clause-done : goal.returns-in-Ok-clause-done
returns-in-Ok-clause-done g c = λ e.
    let t = c.args.trace.now in
    let s = before (whole_course t) c.args.count in
    let parts = c.args.parts in
    let setup = ap (λ (x : TraceLists). x.setup) c.trace.view_is in
    let version = ap (λ (x : TraceLists). x.version) c.trace.view_is in
    let stands : PartsStand c.trace.inside.setup parts.holders.items parts.births.items parts.roots parts.space s =
    subst (λ (z : Setup). PartsStand z parts.holders.items parts.births.items parts.roots parts.space s) (sym setup) c.requires.saved.stands in
    let out = c.in-Ok.ensures.written s stands in
    (out.0, of-trace t c.trace.inside.version c.trace.inside.setup c.args.count s out.0 version setup out.1, out.2)

pub returns-in-Err-clause-write_fault : goal.returns-in-Err-clause-write_fault
returns-in-Err-clause-write_fault g c = λ e.
    let t = c.args.trace.now in
    let s = before (whole_course t) c.args.count in
    let parts = c.args.parts in
    let setup = ap (λ (x : TraceLists). x.setup) c.trace.view_is in
    let version = ap (λ (x : TraceLists). x.version) c.trace.view_is in
    let stands : PartsStand c.trace.inside.setup parts.holders.items parts.births.items parts.roots parts.space s =
    subst (λ (z : Setup). PartsStand z parts.holders.items parts.births.items parts.roots parts.space s) (sym setup) c.requires.saved.stands in
    let out = c.in-Err.ensures.front s stands in
    (out.0, of-trace t c.trace.inside.version c.trace.inside.setup c.args.count s out.0 version setup out.1, out.2)
