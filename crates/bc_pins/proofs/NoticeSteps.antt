-- The claim of a notice keeps the rule.
use Rattle.std.proofs.Common.{◌≡◌, ℕ, ◌+◌, ◌^◌, ◌<◌, ◌%◌, set, refl, ap, sym, subst, ◌∙◌, arith, get_or-set_other}
use mathlib.Core.Option.{some}
use mathlib.Core.Option as maybe
use lib.ListN.{get_elem?}
use Rattle.atomic_table.specs.Table.{Allows, step, keeps}
use Rattle.std.specs.Int.{bit_at}
use Rattle.bc_pins.specs.declared.views.View.{View}
use Rattle.bc_pins.specs.Key.{Key, bookmark_at, notice_at}
use Rattle.bc_pins.specs.Totals.{times}
use Rattle.bc_pins.specs.Views.{has_role}
use Rattle.bc_pins.specs.Facts.{Table, word}
use Rattle.bc_pins.specs.Rule.{Rule, Ruled}
use Rattle.bc_pins.specs.Steps.{Mine, taking_notice, TookNotice}
use Rattle.bc_pins.proofs.MarkedLemmas.{targets_kept}
use Rattle.bc_pins.proofs.NoticeLemmas.{claims_more}
use Rattle.bc_pins.proofs.OwingLemmas.{owing_aside}
use Rattle.bc_pins.proofs.SideSteps.{aside, SideStep, side_step, counters_same, bits_same, frames_same, keeps_aside}
use Rattle.bc_pins.proofs.TracingLemmas.{KeepsMarks, keeps_set, knows_read, tracing_kept}

module _ (k : Key) (s : Table) (r : Rule k s) (id role : ℕ) (v : View) (at : get_elem? s.views id ≡ some v) (some_role : 0 < has_role v role) (x found : ℕ) where
  abbrev i : ℕ
  i = notice_at k

  abbrev u : View
  u = taking_notice v found

  abbrev t : Table
  t = aside s i x id u

  marks_kept : KeepsMarks k s t
  marks_kept = keeps_aside k s i x id v u at (omega arith) (omega arith) (λ j b less one. ap (λ (n : ℕ). bit_at n b) (get_or-set_other s.words i (bookmark_at k j) x 0 (λ e. omega arith)) ∙ one) refl refl

  notice_step : SideStep k s r.rec i x id v u
  notice_step =
      let facts = r.seats id v at in
      record {
        far = omega arith;
        grip = λ p. refl;
        flag = λ p. refl;
        recorded = refl;
        left = refl;
        emptied = refl;
        fetched = refl;
        changed = refl;
        returned = refl;
        busy = refl;
        seen = refl;
        gone = refl;
        roles = refl;
        read = λ j ne. refl;
        read_more = λ j n. omega arith;
        seated = record { about = facts.seated.about; idle = λ e. let z : has_role v role ≡ 0 = ap (times role) e in absurd (omega arith) };
        records = record { mine = facts.records.mine; others = facts.records.others; unrecorded = facts.records.unrecorded; unfetched = facts.records.unfetched; in_hand = facts.records.in_hand };
        marking = record { once = facts.marking.once; whose = facts.marking.whose; unmarked = facts.marking.unmarked };
        targets = targets_kept k s r.rec (set s.words i x) s.homes id v u at (λ q. omega arith) refl refl facts.targets;
        stay = λ turn. keeps_set k s t marks_kept;
        knows = λ turn. knows_read k s t v u (keeps_set k s t marks_kept) (facts.knows turn) refl (λ j less. refl);
        tracing = λ turn. tracing_kept k s t marks_kept (r.tracing turn);
        set = λ j b less one. ap (λ (n : ℕ). bit_at n b) (get_or-set_other s.words i (bookmark_at k j) x 0 (λ e. omega arith)) ∙ one;
        counters = λ q less. counters_same k s r i x id v u q at (omega arith) less (λ e. omega arith) (λ p. refl);
        bits = λ j b less few. bits_same k s r i x id v u j b at less few (λ e. omega arith) refl;
        frames = frames_same k s r i x id v u at (λ j less e. omega arith) (λ f. refl);
      }

  pub notice_rule : Rule k t
  notice_rule = side_step k s r i x id v u at notice_step

-- whatever the table is, a claim keeps the rule, and the view has the number that was found
pub takes_notice : (k : Key) (slots id role : ℕ) (me : Mine) (i : ℕ) → i ≡ notice_at k → me.0.about ≡ k → 0 < has_role me.0 role
    → Allows (Ruled k) slots id me i (λ n. (n + 1) % 2 ^ 64) (TookNotice (step slots i 1 0 maybe.none) me)
takes_notice k slots id role me i is about some_role s r size at fits = (
  taking_notice me.0 (word s i),
  keeps,
  tt,
  subst (λ (j : ℕ). Ruled k (aside s j ((word s j + 1) % 2 ^ 64) id (taking_notice me.0 (word s j)))) (sym is) (record {
    facts = notice_rule k s r.facts id role me.0 at some_role ((word s (notice_at k) + 1) % 2 ^ 64) (word s (notice_at k));
    claims = claims_more k s id me.0 at (let long = r.facts.words in omega arith) r.claims;
    owing = λ turn. owing_aside k s (notice_at k) _ id me.0 _ at (omega arith) (omega arith) refl refl refl (r.owing turn);
  }),
  record { view = λ _. refl },
)
