use Rattle.std.proofs.Common.{◌≡◌, ℕ, ◌<◌, ◌⊎◌, ap, refl, sym, subst, ◌∙◌, arith, inl, inr}
use Rattle.std.proofs.lemmas.Bool.{cases_eq}
use Rattle.bc_pins.specs.declared.views.View.{View}
use Rattle.bc_pins.specs.Key.{Key, owner, IsFrozenIn}
use Rattle.bc_pins.specs.Views.{has_role}
use Rattle.bc_pins.specs.Calls.{MayFetch, key_of, view_of}
use Rattle.bc_pins.specs.declared.views.Lodged.TheVariants.{Nothing, Away}
use Rattle.bc_pins.specs.Steps.{Mine, both_slots}
use Rattle.bc_pins.specs.Tidy.{IsTidy}
use Rattle.bc_pins.proofs.FetchSteps.{fetches_from}
use Rattle.bc_pins.proofs.pins.Pins.take_gone.Goals as goal

may-fetch : (v : View) (k : Key) (page : ℕ) → v.about ≡ k → MayFetch v page → (0 < has_role v (owner k page)) ⊎ IsFrozenIn k page
may-fetch v k page about may = subst (λ (a : Key). (0 < has_role v (owner a page)) ⊎ IsFrozenIn a page) about may

pub compare_exchange-found-requires : goal.compare_exchange-found-requires
compare_exchange-found-requires c =
    let size = c.args.self.now.words in
    let entry = c.page_entry.ensures in
    let lt = c.requires.page in (
      c.requires.seat.table,
      omega arith,
      fetches_from _ _ c.args.page _ _ c.args.frame _ _ entry lt c.requires.seat.about c.requires.free.hand c.requires.seat.role (may-fetch (view_of c.args.seat.now) (key_of c.args.self.now) c.args.page c.requires.seat.about c.requires.may) c.requires.right c.requires.free.slots,
    )

pub returns-clause-taken : goal.returns-clause-taken
returns-clause-taken c = λ four.
    let hit = c.compare_exchange-found.ensures.2.hit c.args.page c.args.frame c.page_entry.ensures c.requires.right four in (
      hit.0,
      ap (λ (m : Mine). m.0) hit.1,
      ap (λ (m : Mine). m.1) hit.1 ∙ ap (λ (k : Key). both_slots k c.args.page Nothing (Away hit.0)) c.requires.seat.about,
      hit.2,
    )

pub returns-clause-same : goal.returns-clause-same
returns-clause-same c = elim (cases_eq c.compare_exchange-found.result 4) [
  | inl four ↦
      let hit = c.compare_exchange-found.ensures.2.hit c.args.page c.args.frame c.page_entry.ensures c.requires.right four in
      let view = ap (λ (m : Mine). m.0) hit.1 in
      record {
        table = c.compare_exchange-found.ensures.0;
        id = c.compare_exchange-found.ensures.1;
        role = refl;
        about = ap (λ (u : View). u.about) view;
        alive = ap (λ (u : View). u.alive) view;
        roles = ap (λ (u : View). u.roles) view;
      }
  | inr ne ↦
      let view = ap (λ (m : Mine). m.0) (c.compare_exchange-found.ensures.2.miss c.args.page c.page_entry.ensures ne).0 in
      record {
        table = c.compare_exchange-found.ensures.0;
        id = c.compare_exchange-found.ensures.1;
        role = refl;
        about = ap (λ (u : View). u.about) view;
        alive = ap (λ (u : View). u.alive) view;
        roles = ap (λ (u : View). u.roles) view;
      }
]

pub invariant_of-seat : goal.invariant_of-seat
invariant_of-seat c = elim (cases_eq c.compare_exchange-found.result 4) [
  | inl four ↦
      let hit = c.compare_exchange-found.ensures.2.hit c.args.page c.args.frame c.page_entry.ensures c.requires.right four in
      record { tidy = subst IsTidy (sym (ap (λ (m : Mine). m.0) hit.1)) c.args.seat.now.tidy }
  | inr ne ↦ record { tidy = subst IsTidy (sym (ap (λ (m : Mine). m.0) (c.compare_exchange-found.ensures.2.miss c.args.page c.page_entry.ensures ne).0)) c.args.seat.now.tidy }
]
