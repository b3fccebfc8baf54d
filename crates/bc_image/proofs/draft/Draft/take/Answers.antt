use Rattle.std.proofs.Common.{◌≡◌, ℕ, true, false, Some, None, sym, ap, subst, ◌∙◌}
use Rattle.bc_image.specs.Births.{placed}
use Rattle.bc_image.specs.Drafts.{ShowsLists, put, put_at}
use Rattle.bc_image.specs.Items.{IsBoundedProgress, IsProgress, IsSmallItem, cause_of, advanced}
use Rattle.bc_image.specs.declared.fault.ImageCause.{ImageCause}
use Rattle.bc_image.specs.declared.progress.Progress.{Progress}
use Rattle.bc_image.proofs.ReadLemmas.{placed-not, placed-ok, passes-shown, passes-back, passes-small, put-progress}
use Rattle.bc_image.proofs.draft.Draft.take.Goals as goal

pub returns-then-not-passes-clause-lists : goal.returns-then-not-passes-clause-lists
returns-then-not-passes-clause-lists c d s =
    let off = passes-shown c.args.self.now d c.args.item c.deref.result.now c.passes.result false s c.deref.ensures.value c.passes.ensures c.if-not-passes.true in
    let told : Some c.cause.result ≡ placed d c.args.item = ap (λ (x : ImageCause). Some x) c.cause.ensures ∙ ap (λ (p : Progress). Some (cause_of p.stage)) s.progress ∙ sym (placed-not d c.args.item off) in
    (told, λ e. absurd (let k : Some c.cause.result ≡ None = e in cc))

pub put_lists-requires-clause-bounded : goal.put_lists-requires-clause-bounded
put_lists-requires-clause-bounded c = subst IsBoundedProgress (sym c.requires.draft.1.progress) c.requires.draft.2.progress.bounded

pub put_lists-requires-clause-passed : goal.put_lists-requires-clause-passed
put_lists-requires-clause-passed c =
    let d = c.requires.draft.0 in
    let on = passes-shown c.args.self.now d c.args.item c.deref.result.now c.passes.result true c.requires.draft.1 c.deref.ensures.value c.passes.ensures c.if-not-passes.false in
    passes-back c.args.self.now d c.args.item c.requires.draft.1 on

pub advance-requires-clause-progress : goal.advance-requires-clause-progress
advance-requires-clause-progress c =
    let d = c.requires.draft.0 in
    let after = c.in_ok-put_lists.ensures.lists d c.requires.draft.1 in
    subst IsProgress (sym (after.progress ∙ put-progress c.args.self.now.progress.stage d c.args.item)) c.requires.draft.2.progress

pub advance-requires-clause-fits : goal.advance-requires-clause-fits
advance-requires-clause-fits c =
    let d = c.requires.draft.0 in
    let after = c.in_ok-put_lists.ensures.lists d c.requires.draft.1 in
    let on = passes-shown c.args.self.now d c.args.item c.deref.result.now c.passes.result true c.requires.draft.1 c.deref.ensures.value c.passes.ensures c.if-not-passes.false in
    subst (λ (p : Progress). IsSmallItem p.stage c.args.item) (sym (after.progress ∙ put-progress c.args.self.now.progress.stage d c.args.item)) (passes-small d c.args.item c.requires.draft.2.progress.bounded on)

pub returns-clause-lists : goal.returns-clause-lists
unfolding put
returns-clause-lists c d s =
    let n : ℕ = c.args.item in
    let on = passes-shown c.args.self.now d n c.deref.result.now c.passes.result true s c.deref.ensures.value c.passes.ensures c.if-not-passes.false in
    let after = c.in_ok-put_lists.ensures.lists d s in
    let here = subst (λ (p : Progress). ShowsLists c.put_lists.new.self (put_at p.stage d n)) s.progress after in (
      sym (placed-ok d n on),
      λ _. record {
        progress = c.advance.ensures ∙ ap (λ (p : Progress). advanced p n) (here.progress ∙ put-progress d.progress.stage d n);
        holders = here.holders;
        births = here.births;
        roots = here.roots;
        cells = here.cells;
        head = here.head;
        fields = here.fields;
      },
    )

pub returns-then-not-passes-clause-heads : goal.returns-then-not-passes-clause-heads
returns-then-not-passes-clause-heads c hs h = λ e. absurd (let k : Some c.cause.result ≡ None = e in cc)

pub returns-clause-heads : goal.returns-clause-heads
returns-clause-heads c hs h = (let x = c.in_ok-put_lists.ensures.heads hs h in λ _. record { heads = x.heads; keys = x.keys })

pub returns-clause-failed : goal.returns-clause-failed
returns-clause-failed c = λ k e. absurd (let bad : None ≡ Some k = e in cc)
