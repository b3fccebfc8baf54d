use Rattle.std.proofs.Common.{sym, ap, subst, ◌∙◌, ◌<◌, arith}
use Rattle.std.proofs.lemmas.Result.{err_from_is_err_and}
use Rattle.bc_word.specs.declared.addresses.Address.{Address}
use Rattle.bc_word.specs.declared.heads.Head.{Head}
use Rattle.bc_mutator.specs.Objects.{cell_of}
use Rattle.bc_mutator.proofs.ObjectLemmas.{one_address}
use Rattle.bc_mutator.proofs.MeaningLemmas.{acts-on_own, refuses-own_range}
use Rattle.bc_mutator.proofs.PartLemmas.{head-of, space-of, there-of}
use Rattle.bc_mutator.proofs.objects.own_object_with_field.Goals as goal

pub returns-in_err-at-clause-refuses : goal.returns-in_err-at-clause-refuses
returns-in_err-at-clause-refuses g c =
    let p = err_from_is_err_and c.from_residual.result c.from_residual.ensures.1 in
    rw (p.1, p.2) (λ h w. c.in_err-at.ensures.refuses h w c.args.index)

pub head_at-head-requires-clause-there : goal.head_at-head-requires-clause-there
head_at-head-requires-clause-there g c =
    let h = c.requires.own.0 in
    let w = c.requires.own.1 in
    let own = c.in_ok-at.ensures.found h w in
    (h.space, space-of w, there-of c.in_ok-at.at.0 w own.of.there)

pub returns-then-index-head-clause-index : goal.returns-then-index-head-clause-index
returns-then-index-head-clause-index g c = λ h w.
    let own = c.in_ok-at.ensures.found h w in
    let same = ap (λ (x : Head). x.fields) (c.head_at-head.ensures.head h.space (space-of w) (there-of c.in_ok-at.at.0 w own.of.there)) in
    let lt = c.if-index-head.true in
    omega arith

pub returns-then-index-head-clause-acts : goal.returns-then-index-head-clause-acts
returns-then-index-head-clause-acts g c = λ h w.
    let own = c.in_ok-at.ensures.found h w in
    let same = ap (λ (x : Head). x.fields) (head-of c.in_ok-at.at.0 c.head_at-head.result w c.head_at-head.ensures.head own.of.there) in
    let lt = c.if-index-head.true in
    acts-on_own h c.args.holders.now c.args.lane c.args.index c.args.word c.in_ok-at.at w.ready own (c.in_ok-at.ensures.acts h w) (omega arith)

pub returns-else-index-head-clause-refuses : goal.returns-else-index-head-clause-refuses
returns-else-index-head-clause-refuses g c = λ h w.
    let own = c.in_ok-at.ensures.found h w in
    let same = ap (λ (x : Head). x.fields) (head-of c.in_ok-at.at.0 c.head_at-head.result w c.head_at-head.ensures.head own.of.there) in
    let out = c.if-index-head.false in
    refuses-own_range h c.args.holders.now c.args.lane c.args.index c.args.word c.in_ok-at.at w.ready own (c.in_ok-at.ensures.acts h w) (omega arith)

pub returns-else-index-head-clause-none : goal.returns-else-index-head-clause-none
returns-else-index-head-clause-none g c = λ h w a own less.
    let found = c.in_ok-at.ensures.found h w in
    let few : c.args.index < (cell_of h.space c.args.chunk.now c.in_ok-at.at.0).head.fields =
    subst (λ (x : Address). c.args.index < (cell_of h.space c.args.chunk.now x.0).head.fields) (one_address a c.in_ok-at.at (sym own.of.refers ∙ found.of.refers)) less in
    let same = ap (λ (x : Head). x.fields) (c.head_at-head.ensures.head h.space (space-of w) (there-of c.in_ok-at.at.0 w found.of.there)) in
    let out = c.if-index-head.false in
    omega arith
