use Rattle.std.proofs.Common.{◌≡◌, Bool, true, false, sym, subst, ◌∙◌}
use Rattle.bc_model.proofs.Holders.{write-default, writer, writer-reads, writes-held}
use Rattle.bc_model.specs.State.{holder_of, lets_write}
use Rattle.bc_model.specs.declared.operations.Reply.TheVariants.{Foreign}
use Rattle.bc_word.specs.declared.addresses.Address.{Address}
use Rattle.bc_mutator.specs.Objects.{IsOwnOfLane}
use Rattle.bc_mutator.proofs.ObjectLemmas.{one_address}
use Rattle.bc_mutator.proofs.MeaningLemmas.{acts-on, refuses-foreign, refuses-frozen, refuses-own_before}
use Rattle.bc_mutator.proofs.PartLemmas.{domain-within, in-hand, own-of, reads-of, writes-of}
use Rattle.bc_mutator.proofs.objects.own_object.Goals as goal

clash : (t : Bool) → t ≡ true → t ≡ false → ⊥
clash t e f = cc

pub bounds-holders-domain_at : goal.bounds-holders-domain_at
bounds-holders-domain_at g c =
    let w = c.requires.own.1 in
    domain-within c.in-Ref.at.0 c.domain_at.result w c.domain_at.ensures.domain (own-of w c.in-Ref.at c.in-Ref.is)

pub returns-then-lets_write-clause-found : goal.returns-then-lets_write-clause-found
returns-then-lets_write-clause-found g c = λ h w.
    let there = own-of w c.in-Ref.at c.in-Ref.is in
    let may = writes-of c.in-Ref.at.0 c.domain_at.result w c.domain_at.ensures.domain there ∙ sym c.lets_write.ensures ∙ c.if-lets_write.true in
    record { of = record { refers = c.in-Ref.is; there = there; held = writer-reads _ c.args.lane may }; own = writer _ c.args.lane may }

pub returns-then-lets_write-clause-acts : goal.returns-then-lets_write-clause-acts
returns-then-lets_write-clause-acts g c = λ h w.
    let there = own-of w c.in-Ref.at c.in-Ref.is in
    let may = writes-of c.in-Ref.at.0 c.domain_at.result w c.domain_at.ensures.domain there ∙ sym c.lets_write.ensures ∙ c.if-lets_write.true in
    acts-on h c.args.holders.now c.args.lane c.args.word c.in-Ref.at w.ready c.in-Ref.is there (writer-reads _ c.args.lane may)

pub returns-then-lets_write-clause-hand : goal.returns-then-lets_write-clause-hand
returns-then-lets_write-clause-hand g c =
    let w = c.requires.own.1 in
    let within = domain-within c.in-Ref.at.0 c.domain_at.result w c.domain_at.ensures.domain (own-of w c.in-Ref.at c.in-Ref.is) in
    in-hand (g.C.Cells.at_hand c.args.cells.now) (λ d. lets_write (holder_of c.args.holders.now d) c.args.lane) c.in-Ref.at c.domain_at.result w c.in-Ref.is c.requires.hand
    c.domain_at.ensures.side c.domain_at.ensures.domain
    (sym (write-default c.args.holders.now c.domain_at.result c.args.lane within) ∙ sym c.lets_write.ensures ∙ c.if-lets_write.true)

pub returns-then-lets_read-clause-refuses : goal.returns-then-lets_read-clause-refuses
returns-then-lets_read-clause-refuses g c = λ h w index.
    let there = own-of w c.in-Ref.at c.in-Ref.is in
    let read = reads-of c.in-Ref.at.0 c.domain_at.result w c.domain_at.ensures.domain there ∙ sym c.lets_read.ensures ∙ c.if-lets_read.true in
    let off = writes-of c.in-Ref.at.0 c.domain_at.result w c.domain_at.ensures.domain there ∙ sym c.lets_write.ensures ∙ c.if-lets_write.false in
    refuses-frozen h c.args.holders.now c.args.lane index c.args.word c.in-Ref.at w.ready (record { refers = c.in-Ref.is; there = there; held = read })
    (acts-on h c.args.holders.now c.args.lane c.args.word c.in-Ref.at w.ready c.in-Ref.is there read) off

pub returns-then-lets_read-clause-none : goal.returns-then-lets_read-clause-none
returns-then-lets_read-clause-none g c = λ h w a own.
    let there = own-of w c.in-Ref.at c.in-Ref.is in
    let here = subst (λ (x : Address). IsOwnOfLane h c.args.holders.now c.args.lane c.args.word x) (one_address a c.in-Ref.at (sym own.of.refers ∙ c.in-Ref.is)) own in
    clash _ (writes-held _ c.args.lane here.own) (writes-of c.in-Ref.at.0 c.domain_at.result w c.domain_at.ensures.domain there ∙ sym c.lets_write.ensures ∙ c.if-lets_write.false)

pub returns-else-lets_read-clause-refuses : goal.returns-else-lets_read-clause-refuses
returns-else-lets_read-clause-refuses g c = λ h w index.
    let there = own-of w c.in-Ref.at c.in-Ref.is in
    refuses-own_before h c.args.holders.now c.args.lane index c.args.word Foreign
    (refuses-foreign h c.args.holders.now c.args.lane c.args.word c.in-Ref.at w.ready c.in-Ref.is there
    (reads-of c.in-Ref.at.0 c.domain_at.result w c.domain_at.ensures.domain there ∙ sym c.lets_read.ensures ∙ c.if-lets_read.false))

pub returns-else-lets_read-clause-none : goal.returns-else-lets_read-clause-none
returns-else-lets_read-clause-none g c = λ h w a own.
    let there = own-of w c.in-Ref.at c.in-Ref.is in
    let here = subst (λ (x : Address). IsOwnOfLane h c.args.holders.now c.args.lane c.args.word x) (one_address a c.in-Ref.at (sym own.of.refers ∙ c.in-Ref.is)) own in
    clash _ here.of.held (reads-of c.in-Ref.at.0 c.domain_at.result w c.domain_at.ensures.domain there ∙ sym c.lets_read.ensures ∙ c.if-lets_read.false)
