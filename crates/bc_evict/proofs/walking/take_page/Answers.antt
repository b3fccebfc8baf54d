-- A page of another kind isn't tried; one that was refused couldn't be taken.
use Rattle.std.proofs.Common.{◌≡◌, true, false, not, refl, ap, sym, subst, ◌∙◌}
use denote.Enum.Bare.{sameb}
use Rattle.bc_evict.specs.contracts.walking.Kind.{the_type}
use Rattle.bc_evict.specs.declared.walking.Kind.{Kind}
use Rattle.bc_evict.specs.declared.walking.Kind.TheVariants.{Bare, Filled}
use Rattle.bc_pins.specs.Calls.{key_of, view_of}
use Rattle.bc_evict.proofs.LookLemmas.{tried-refused, tried-other}
use Rattle.bc_evict.proofs.walking.take_page.Goals as goal

same_itself : (a : Kind) → sameb the_type a a ≡ true
same_itself Bare = refl
same_itself Filled = refl

clash : false ≡ true → ⊥
clash e = cc

differ : (a b : Kind) → not (sameb the_type a b) ≡ true → a ≡ b → ⊥
differ a b other same = clash (ap not (sym (same_itself b)) ∙ subst (λ (x : Kind). not (sameb the_type x b) ≡ true) same other)

pub returns-then-ne-clause-none : goal.returns-then-ne-clause-none
returns-then-ne-clause-none c = (
  c.requires.free,
  tried-other (key_of c.args.pins.now) (view_of c.args.seat.now) c.args.page c.args.kind c.kind_of.result c.kind_of.ensures.kind (differ c.kind_of.result c.args.kind (sym c.ne.ensures ∙ c.if-ne.true)),
)

pub returns-in-Err-clause-none : goal.returns-in-Err-clause-none
returns-in-Err-clause-none c =
    let err = c.in-Err.ensures.err in
    (err.0, tried-refused (key_of c.args.pins.now) (view_of c.args.seat.now) (view_of c.take.new.seat) c.args.page c.args.kind c.in-Err._why c.requires.seat.about c.requires.page err.1)
