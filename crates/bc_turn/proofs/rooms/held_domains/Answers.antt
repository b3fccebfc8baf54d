use Rattle.std.proofs.Common.{rules, ◌≡◌, ◌+◌, [], length, ap, sym, subst, ◌∙◌, arith}
use Rattle.std.proofs.lemmas.List.{length_push}
use Rattle.bc_model.proofs.Holders.{no-writer, write-default, writer}
use Rattle.bc_model.specs.State.{holder_of}
use Rattle.bc_turn.specs.Taking.{AreHeldBelow}
use Rattle.bc_turn.proofs.TakingLemmas.{held-none, held-more, held-same}
use Rattle.bc_turn.proofs.rooms.held_domains.Goals as goal

pub loop-domain-init : goal.loop-domain-init
loop-domain-init c =
    let none : c.new-domains.result.items ≡ [] = search rules in
    record { few = (let z = ap length none in omega arith); held = subst (AreHeldBelow c.args.holders.now c.args.lane 0) (sym none) (held-none c.args.holders.now c.args.lane) }

pub loop-domain-preserved-then-not-lets_write : goal.loop-domain-preserved-then-not-lets_write
loop-domain-preserved-then-not-lets_write c =
    let few = c.loop-domain.invariant.few in
    let writes = write-default c.args.holders.now c.loop-domain.domain c.args.lane c.loop-domain-test.true in
    let off = no-writer (holder_of c.args.holders.now c.loop-domain.domain) c.args.lane (sym writes ∙ sym c.lets_write.ensures ∙ c.if-not-lets_write.true) in
    record { few = omega arith; held = held-same c.args.holders.now c.args.lane c.loop-domain.domain c.loop-domain.domains.items c.loop-domain.invariant.held off }

pub loop-domain-preserved : goal.loop-domain-preserved
loop-domain-preserved c =
    let few = c.loop-domain.invariant.few in
    let items = c.in_ok-push.ensures.items in
    let more = ap length items in
    let long = length_push c.loop-domain.domains.items c.loop-domain.domain in
    let writes = write-default c.args.holders.now c.loop-domain.domain c.args.lane c.loop-domain-test.true in
    let own = writer (holder_of c.args.holders.now c.loop-domain.domain) c.args.lane (sym writes ∙ sym c.lets_write.ensures ∙ c.if-not-lets_write.false) in
    record {
      few = omega arith;
      held = subst (AreHeldBelow c.args.holders.now c.args.lane (c.loop-domain.domain + 1)) (sym items) (held-more c.args.holders.now c.args.lane c.loop-domain.domain c.loop-domain.domains.items c.loop-domain.invariant.held own);
    }
