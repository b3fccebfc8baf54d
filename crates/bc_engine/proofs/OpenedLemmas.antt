-- The items that an engine lists are the turns of a phase.
use Rattle.std.proofs.Common.{Vec, Global, ◌≡◌, ℕ, ◌+◌, ◌^◌, ◌<◌, List, [], ◌∷◌, ◌++◌, length, refl, sym, ap, subst, ◌∙◌, arith}
use Prim.Native.Nat.{zero, suc}
use Rattle.std.proofs.lemmas.List.{length_push}
use Rattle.bc_marking.proofs.LineLemmas.{counted-is}
use Rattle.bc_marking.specs.Lines.{counted_after}
use Rattle.bc_marking.specs.declared.lines.Cursor.{Cursor}
use Rattle.bc_model.specs.Lists.{PhaseLists, TurnLists}
use Rattle.bc_model.specs.TurnLines.{budget_at}
use Rattle.bc_model.specs.declared.operations.Op.{Op}
use Rattle.bc_model.specs.declared.operations.Reply.{Reply}
use Rattle.bc_pager.specs.declared.notices.Notice.{Notice}
use Rattle.bc_engine.specs.Budgets.{AreTurns, HaveBudgets, budget_of, marks_in, turns_with}
use Rattle.bc_engine.specs.EngineFacts.{without_turns}
use Rattle.bc_engine.specs.Engines.{EngineView}
use Rattle.bc_engine.specs.PhaseTurns.{HadTurns, HadTurnsToCut, hints_before}
use Rattle.bc_engine.specs.Rounds.{RanRounds}
use Rattle.bc_engine.specs.Turns.{line_of}
use Rattle.bc_engine.specs.declared.opened.Opened.{Opened}
use Rattle.bc_engine.proofs.AnswerLemmas.{cut-answered, cut-marks, done-answered, last-marks, round-marks}

-- one turn of the lanes more
turns-push : (marks : List ℕ) (m : ℕ) → turns_with (marks ++ m ∷ []) ≡ turns_with marks + suc m
turns-push [] m = omega arith
turns-push (n ∷ marks) m = omega (arith, turns-push marks m)

budgets-push : (lines : List TurnLists) (turn : ℕ) (marks : List ℕ) (opened : List Opened) (m : ℕ) (o : Opened) → HaveBudgets lines turn marks opened → o.withheld ≡ budget_of lines (turn + turns_with marks) → o.marks ≡ counted_after 0 m
    → HaveBudgets lines turn (marks ++ m ∷ []) (opened ++ o ∷ [])
budgets-push lines turn [] [] m o have withheld counted =
    let same : turn + 0 ≡ turn = omega arith in
    (withheld ∙ ap (budget_of lines) same, counted, tt)
budgets-push lines turn [] (x ∷ opened) m o have withheld counted = absurd have
budgets-push lines turn (n ∷ marks) [] m o have withheld counted = absurd have
budgets-push lines turn (n ∷ marks) (x ∷ opened) m o have withheld counted =
    let same : turn + (suc n + turns_with marks) ≡ turn + suc n + turns_with marks = omega arith in
    (have.0, have.1, budgets-push lines (turn + suc n) marks opened m o have.2 (withheld ∙ ap (budget_of lines) same) counted)

-- so many turns, of so many rounds
record AreNoted (lines : List TurnLists) (turns : ℕ) (rounds : ℕ) (opened : List Opened) : Type 0 where
  are : AreTurns lines turns opened
  long : length opened ≡ rounds

-- a round more
noted-more : (lines : List TurnLists) (used rounds m all : ℕ) (before after : List Opened) (marks : ℕ) → AreNoted lines used rounds before → marks ≡ counted_after 0 m → after ≡ before ++ record { withheld = budget_at lines (line_of lines used); marks = marks } ∷ [] → all ≡ used + suc m
    → AreNoted lines all (suc rounds) after
noted-more lines used rounds m all before after marks noted counted more sum =
    let turns = noted.are in
    let item : Opened = record { withheld = budget_at lines (line_of lines used); marks = marks } in
    record {
      are = record {
        marks = turns.marks ++ m ∷ [];
        budgets =
            subst (HaveBudgets lines 0 (turns.marks ++ m ∷ [])) (sym more)
            (budgets-push lines 0 turns.marks before m item turns.budgets (ap (budget_of lines) (let so_far = turns.all in omega arith)) counted);
        all = let so_far = turns.all in let one = turns-push turns.marks m in let whole = sum in omega arith;
      };
      long = let size = ap length more in let one = length_push before item in let so_far = noted.long in omega arith;
    }

noted-none : (lines : List TurnLists) (turns : ℕ) (opened : List Opened) → opened ≡ [] → turns ≡ 0 → AreNoted lines turns 0 opened
noted-none lines turns opened none sum = record {
  are = record { marks = []; budgets = subst (HaveBudgets lines 0 []) (sym none) tt; all = sum };
  long = ap length none;
}

-- the rounds of a phase
rounds-noted : (lanes : List (List Op)) (lines : List TurnLists) (e : EngineView) (before : List (Vec Reply Global)) (n turns : ℕ) (f : EngineView) (after : List (Vec Reply Global)) (fed : List Notice) → e.opened ≡ [] → RanRounds lanes lines e before n turns f after fed → AreNoted lines turns n f.opened
rounds-noted lanes lines e before zero turns f after fed none ran = noted-none lines turns f.opened (ap (λ (x : EngineView). x.opened) ran.0 ∙ none) ran.2
rounds-noted lanes lines e before (suc n) turns f after fed none ran =
    let r = ran.7 in
    noted-more lines ran.2 n (r.empties.collects.turns + r.empties.next.beside.turns) turns ran.0.opened f.opened r.marks (rounds-noted lanes lines e before n ran.2 ran.0 ran.1 ran.4 none ran.6)
    (ap (λ (x : Cursor). x.turns) (round-marks r).1.next) r.noted ran.8

-- to its end
done-noted : (e f : EngineView) (p : PhaseLists) (replies : List (List Reply)) (fed : List Notice) (had : HadTurns e p f replies fed) → AreNoted p.turns had.turns (suc had.rounds.0) f.opened
done-noted e f p replies fed had =
    let all = had.rounds in
    let r = all.7 in
    subst (AreNoted p.turns had.turns (suc all.0)) (sym (ap (λ (x : EngineView). x.opened) had.given))
    (noted-more p.turns all.1 all.0 (r.empties.collects.turns + r.empties.next.beside.turns) had.turns all.2.opened had.last.opened r.marks
    (rounds-noted p.lanes p.turns (without_turns e) had.room all.0 all.1 all.2 all.3 all.4 refl all.6) (ap (λ (x : Cursor). x.turns) (last-marks r).1.next) r.noted all.8)

-- and to its cut
cut-noted : (e f : EngineView) (p : PhaseLists) (replies : List (List Reply)) (fed : List Notice) (had : HadTurnsToCut e p f replies fed) → AreNoted p.turns had.turns (suc had.rounds.0) f.opened
cut-noted e f p replies fed had =
    let all = had.rounds in
    let r = all.7 in
    noted-more p.turns all.1 all.0 (r.leaves.collects.turns + r.leaves.next.stays.turns) had.turns all.2.opened f.opened r.marks
    (rounds-noted p.lanes p.turns (without_turns e) had.room all.0 all.1 all.2 all.3 all.4 refl all.6) (ap (λ (x : Cursor). x.turns) (cut-marks r).1.next) r.noted all.8

pub done-turns : (e f : EngineView) (p : PhaseLists) (replies : List (List Reply)) (fed : List Notice) (had : HadTurns e p f replies fed) → AreTurns p.turns had.turns f.opened
done-turns e f p replies fed had = (done-noted e f p replies fed had).are

pub cut-turns : (e f : EngineView) (p : PhaseLists) (replies : List (List Reply)) (fed : List Notice) (had : HadTurnsToCut e p f replies fed) → AreTurns p.turns had.turns f.opened
cut-turns e f p replies fed had = (cut-noted e f p replies fed had).are

pub done-rounds : (e f : EngineView) (p : PhaseLists) (replies : List (List Reply)) (fed : List Notice) (had : HadTurns e p f replies fed) → length f.opened ≡ had.rounds.0 + 1
done-rounds e f p replies fed had = let long = (done-noted e f p replies fed had).long in omega arith

pub cut-rounds : (e f : EngineView) (p : PhaseLists) (replies : List (List Reply)) (fed : List Notice) (had : HadTurnsToCut e p f replies fed) → length f.opened ≡ had.rounds.0 + 1
cut-rounds e f p replies fed had = let long = (cut-noted e f p replies fed had).long in omega arith

-- what the items say is exact where no number is at its end
marks-exact : (lines : List TurnLists) (turn : ℕ) (marks : List ℕ) (opened : List Opened) → HaveBudgets lines turn marks opened → turns_with marks < 2 ^ 64 → marks ≡ marks_in opened
marks-exact lines turn [] [] have few = refl
marks-exact lines turn [] (o ∷ opened) have few = absurd have
marks-exact lines turn (m ∷ marks) [] have few = absurd have
marks-exact lines turn (m ∷ marks) (o ∷ opened) have few =
    let here : m ≡ o.marks = let counted = have.1 in let is = counted-is 0 m (omega arith) in omega arith in
    ap (λ (n : ℕ). n ∷ marks) here ∙ ap (λ (ns : List ℕ). o.marks ∷ ns) (marks-exact lines (turn + suc m) marks opened have.2 (omega arith))

pub turns-counted : (lines : List TurnLists) (turns : ℕ) (opened : List Opened) → AreTurns lines turns opened → turns < 2 ^ 64 → HaveBudgets lines 0 (marks_in opened) opened × (turns ≡ turns_with (marks_in opened))
turns-counted lines turns opened are few =
    let all = are.all in
    let exact : are.marks ≡ marks_in opened = marks-exact lines 0 are.marks opened are.budgets (omega arith) in
    (subst (λ (ms : List ℕ). HaveBudgets lines 0 ms opened) exact are.budgets, are.all ∙ ap turns_with exact)

-- the answers are those to the notices of these turns
pub done-answers : (e f : EngineView) (p : PhaseLists) (replies : List (List Reply)) (fed : List Notice) (had : HadTurns e p f replies fed) → had.turns < 2 ^ 64 → length f.answers ≡ hints_before p.turns (turns_with (marks_in f.opened))
done-answers e f p replies fed had few =
    done-answered e f p replies fed had ∙ ap (hints_before p.turns) (turns-counted p.turns had.turns f.opened (done-turns e f p replies fed had) few).1

pub cut-answers : (e f : EngineView) (p : PhaseLists) (replies : List (List Reply)) (fed : List Notice) (had : HadTurnsToCut e p f replies fed) → had.turns < 2 ^ 64 → length f.answers ≡ hints_before p.turns (turns_with (marks_in f.opened))
cut-answers e f p replies fed had few =
    cut-answered e f p replies fed had ∙ ap (hints_before p.turns) (turns-counted p.turns had.turns f.opened (cut-turns e f p replies fed had) few).1
