use Rattle.std.proofs.Common.{ℕ, Option, Some, List, get_or, length, map, ap, subst, ◌∙◌, arith}
use Rattle.std.proofs.lemmas.Grind.{get_or_default_zero}
use Rattle.bc_image.specs.Births.{IsFirstDouble}
use Rattle.bc_image.proofs.BirthLemmas.{stood-none, stood-at, stood-within}
use Rattle.bc_image.proofs.reading.find_twice.Goals as goal

pub returns-in-Some-clause-twice : goal.returns-in-Some-clause-twice
returns-in-Some-clause-twice c hs h =
    let first = subst (λ (o : Option ℕ). IsFirstDouble (map (λ (x : ℕ × ℕ). x.1) hs) o) c.in-Some.is (c.in_ok-place.ensures (map (λ (x : ℕ × ℕ). x.1) hs) (ap (λ v. v.items) c.replace-keys.ensures.value ∙ h.keys)) in
    let within = stood-within hs c.in-Some.place first in
    let long = ap length h.heads in
    let here = c.index.ensures ∙ get_or_default_zero c.args.draft.now.heads.items c.in-Some.place c.index.result.now (omega (arith, within, long)) ∙ ap (λ (ns : List ℕ). get_or ns c.in-Some.place 0) h.heads in
    ap (λ (n : ℕ). Some n) here ∙ stood-at hs c.in-Some.place first

pub returns-in-None-clause-twice : goal.returns-in-None-clause-twice
returns-in-None-clause-twice c hs h = stood-none hs (subst (λ (o : Option ℕ). IsFirstDouble (map (λ (x : ℕ × ℕ). x.1) hs) o) c.in-None.is (c.in_ok-place.ensures (map (λ (x : ℕ × ℕ). x.1) hs) (ap (λ v. v.items) c.replace-keys.ensures.value ∙ h.keys)))
