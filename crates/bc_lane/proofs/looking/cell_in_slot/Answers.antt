use Rattle.std.proofs.Common.{◌≡◌, ◌<◌, ◌+◌, ℕ, List, length, get_or, ap, sym, subst, ◌∙◌}
use Rattle.bc_lane.proofs.LookLemmas.{if-none, if-some, leads-nowhere, looked-own_place, looked-shared_place, looked-within, one-ref, read-as, refers-at, refers-leads, touched-read}
use Rattle.bc_model.specs.State.{holder_of}
use Rattle.bc_model.specs.declared.values.Holder.{Holder}
use Rattle.bc_model.specs.declared.values.Holder.TheVariants as holder
use Rattle.bc_superpages.specs.RootWords.{RootWords}
use Rattle.bc_word.specs.Addresses.{page_of}
use Rattle.bc_word.specs.WordBits.{IsPacked}
use Rattle.bc_word.specs.declared.addresses.Address.{Address}
use Rattle.bc_lane.proofs.looking.cell_in_slot.Goals as goal

pub word_in-requires-clause-domain : goal.word_in-requires-clause-domain
word_in-requires-clause-domain c =
    let w = c.requires.whole in
    let part = c.args.part.now in
    let p = c.in-Some.slot in
    let is = sym c.touched.ensures ∙ c.in-Some.is in
    let may = touched-read part.holders.items part.lane c.args.op.now p is c.requires.named.0 in
    subst (λ (xs : List Holder). p.domain < length xs) (sym c.deref.ensures.value) (looked-within part w.0 w.1 c.args.end w.2 c.args.op.now w.3 w.4 p is may)

pub word_in-requires-clause-own : goal.word_in-requires-clause-own
word_in-requires-clause-own c = λ l own.
    let w = c.requires.whole in
    let part = c.args.part.now in
    let p = c.in-Some.slot in
    let is = sym c.touched.ensures ∙ c.in-Some.is in
    let may = touched-read part.holders.items part.lane c.args.op.now p is c.requires.named.0 in
    let mine = subst (λ (xs : List Holder). holder_of xs p.domain ≡ holder.Lane l) c.deref.ensures.value own in
    subst (λ (xs : List ℕ). (p.domain < length xs) × (get_or xs p.domain 0 + p.slot < length c.deref-in-Some-2.result.now)) (sym c.deref-in-Some.ensures.value)
    (subst (λ (xs : List ℕ). (p.domain < length part.starts.items) × (get_or part.starts.items p.domain 0 + p.slot < length xs)) (sym c.deref-in-Some-2.ensures.value)
    (looked-own_place part w.0 w.1 c.args.end w.2 c.args.op.now w.3 w.4 p is may l mine))

pub word_in-requires-clause-frozen : goal.word_in-requires-clause-frozen
word_in-requires-clause-frozen c = λ frozen.
    let w = c.requires.whole in
    let part = c.args.part.now in
    let p = c.in-Some.slot in
    let is = sym c.touched.ensures ∙ c.in-Some.is in
    let may = touched-read part.holders.items part.lane c.args.op.now p is c.requires.named.0 in
    let nobody = subst (λ (xs : List Holder). holder_of xs p.domain ≡ holder.Frozen) c.deref.ensures.value frozen in
    subst (λ (r : RootWords). (p.domain < r.domains) × (p.slot < r.slots)) c.requires.shared (looked-shared_place part w.0 w.1 c.args.end w.2 c.args.op.now w.3 w.4 p is may nobody)

pub word_in-requires-clause-packed : goal.word_in-requires-clause-packed
word_in-requires-clause-packed c = λ k.
    subst (λ (xs : List ℕ). IsPacked (get_or xs k 0)) (sym c.deref-in-Some-2.ensures.value) (c.requires.whole.3.belongs.roots.packed k)

pub returns-in-Some-clause-none : goal.returns-in-Some-clause-none
returns-in-Some-clause-none c =
    let part = c.args.part.now in
    let p = c.in-Some.slot in
    let read = read-as part.holders.items c.deref.result.now part.starts.items c.deref-in-Some.result.now part.words.items c.deref-in-Some-2.result.now part.shared.value c.args.shared.now c.word_in.result p c.deref.ensures.value c.deref-in-Some.ensures.value c.deref-in-Some-2.ensures.value c.requires.shared c.word_in.ensures.word in
    if-none c.referred_below.result _ _
    (λ never held. refers-leads part c.args.end c.args.op.now p (sym c.touched.ensures ∙ c.in-Some.is) c.requires.named c.word_in.result c.requires.whole read (λ q. ⊥) never)
    c.referred_below.ensures.none

pub returns-in-Some-clause-below : goal.returns-in-Some-clause-below
returns-in-Some-clause-below c = if-some c.referred_below.result _ _ (λ at is. is.1) c.referred_below.ensures.some

pub returns-in-Some-clause-leads : goal.returns-in-Some-clause-leads
returns-in-Some-clause-leads c =
    let part = c.args.part.now in
    let p = c.in-Some.slot in
    let read = read-as part.holders.items c.deref.result.now part.starts.items c.deref-in-Some.result.now part.words.items c.deref-in-Some-2.result.now part.shared.value c.args.shared.now c.word_in.result p c.deref.ensures.value c.deref-in-Some.ensures.value c.deref-in-Some-2.ensures.value c.requires.shared c.word_in.ensures.word in
    if-some c.referred_below.result _ _
    (λ at is.
    refers-leads part c.args.end c.args.op.now p (sym c.touched.ensures ∙ c.in-Some.is) c.requires.named c.word_in.result c.requires.whole read (λ q. q ≡ page_of at.0)
    (λ b to lt. ap (λ (a : Address). page_of a.0) (one-ref c.word_in.result at b is.0 to)))
    c.referred_below.ensures.some

pub returns-in-Some-clause-looks : goal.returns-in-Some-clause-looks
returns-in-Some-clause-looks c =
    let part = c.args.part.now in
    let p = c.in-Some.slot in
    let read = read-as part.holders.items c.deref.result.now part.starts.items c.deref-in-Some.result.now part.words.items c.deref-in-Some-2.result.now part.shared.value c.args.shared.now c.word_in.result p c.deref.ensures.value c.deref-in-Some.ensures.value c.deref-in-Some-2.ensures.value c.requires.shared c.word_in.ensures.word in
    if-some c.referred_below.result _ _
    (λ at is. refers-at part c.args.end c.args.op.now p (sym c.touched.ensures ∙ c.in-Some.is) c.requires.named c.word_in.result c.requires.whole read at is.0)
    c.referred_below.ensures.some

pub returns-in-None-clause-none : goal.returns-in-None-clause-none
returns-in-None-clause-none c = λ held. leads-nowhere c.args.part.now c.args.end c.args.op.now (λ q. ⊥) (sym c.touched.ensures ∙ c.in-None.is)
