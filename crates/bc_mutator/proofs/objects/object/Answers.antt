use Rattle.std.proofs.Common.{◌≡◌, Bool, true, false, sym, subst, ◌∙◌}
use Rattle.bc_model.proofs.Holders.{read-default}
use Rattle.bc_model.specs.State.{holder_of, lets_read}
use Rattle.bc_word.specs.declared.addresses.Address.{Address}
use Rattle.bc_mutator.specs.Objects.{IsOfLane}
use Rattle.bc_mutator.proofs.ObjectLemmas.{one_address}
use Rattle.bc_mutator.proofs.MeaningLemmas.{acts-on, refuses-foreign}
use Rattle.bc_mutator.proofs.PartLemmas.{domain-within, in-hand, own-of, reads-of}
use Rattle.bc_mutator.proofs.objects.object.Goals as goal

clash : (t : Bool) → t ≡ true → t ≡ false → ⊥
clash t e f = cc

pub bounds-holders-domain_at : goal.bounds-holders-domain_at
bounds-holders-domain_at g c =
    let w = c.requires.own.1 in
    domain-within c.in-Ref.at.0 c.domain_at.result w c.domain_at.ensures.domain (own-of w c.in-Ref.at c.in-Ref.is)

pub returns-then-lets_read-clause-found : goal.returns-then-lets_read-clause-found
returns-then-lets_read-clause-found g c = λ h w.
    let there = own-of w c.in-Ref.at c.in-Ref.is in
    record { refers = c.in-Ref.is; there = there; held = reads-of c.in-Ref.at.0 c.domain_at.result w c.domain_at.ensures.domain there ∙ sym c.lets_read.ensures ∙ c.if-lets_read.true }

pub returns-then-lets_read-clause-acts : goal.returns-then-lets_read-clause-acts
returns-then-lets_read-clause-acts g c = λ h w.
    let there = own-of w c.in-Ref.at c.in-Ref.is in
    acts-on h c.args.holders.now c.args.lane c.args.word c.in-Ref.at w.ready c.in-Ref.is there
    (reads-of c.in-Ref.at.0 c.domain_at.result w c.domain_at.ensures.domain there ∙ sym c.lets_read.ensures ∙ c.if-lets_read.true)

pub returns-then-lets_read-clause-hand : goal.returns-then-lets_read-clause-hand
returns-then-lets_read-clause-hand g c =
    let w = c.requires.own.1 in
    let within = domain-within c.in-Ref.at.0 c.domain_at.result w c.domain_at.ensures.domain (own-of w c.in-Ref.at c.in-Ref.is) in
    in-hand (g.C.Cells.at_hand c.args.cells.now) (λ d. lets_read (holder_of c.args.holders.now d) c.args.lane) c.in-Ref.at c.domain_at.result w c.in-Ref.is c.requires.hand
    c.domain_at.ensures.side c.domain_at.ensures.domain
    (sym (read-default c.args.holders.now c.domain_at.result c.args.lane within) ∙ sym c.lets_read.ensures ∙ c.if-lets_read.true)

pub returns-else-lets_read-clause-refuses : goal.returns-else-lets_read-clause-refuses
returns-else-lets_read-clause-refuses g c = λ h w.
    let there = own-of w c.in-Ref.at c.in-Ref.is in
    refuses-foreign h c.args.holders.now c.args.lane c.args.word c.in-Ref.at w.ready c.in-Ref.is there
    (reads-of c.in-Ref.at.0 c.domain_at.result w c.domain_at.ensures.domain there ∙ sym c.lets_read.ensures ∙ c.if-lets_read.false)

pub returns-else-lets_read-clause-none : goal.returns-else-lets_read-clause-none
returns-else-lets_read-clause-none g c = λ h w a of.
    let there = own-of w c.in-Ref.at c.in-Ref.is in
    let here = subst (λ (x : Address). IsOfLane h c.args.holders.now c.args.lane c.args.word x) (one_address a c.in-Ref.at (sym of.refers ∙ c.in-Ref.is)) of in
    clash _ here.held (reads-of c.in-Ref.at.0 c.domain_at.result w c.domain_at.ensures.domain there ∙ sym c.lets_read.ensures ∙ c.if-lets_read.false)
