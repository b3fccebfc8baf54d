use Rattle.std.proofs.Common.{◌<◌, length, sym, subst}
use Rattle.bc_superpages.specs.declared.headers.Header.{Header}
use Rattle.bc_running.proofs.BringLemmas.{domain-within}
use Rattle.bc_running.proofs.touching.wanted_page.Goals as goal

pub has_right-requires : goal.has_right-requires
has_right-requires c =
    let h = c.requires.running in
    let e = c.in_ok-page.ensures in
    record {
      domain = subst (λ (x : Header). x.domain < length c.args.holders.now) (sym c.header.ensures.header)
          (domain-within h.0 h.1 c.args.op.now c.in_ok-page.page c.facts.ensures.kept h.2 h.3 c.requires.op e.within e.leads);
    }
