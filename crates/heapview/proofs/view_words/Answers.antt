use Rattle.std.proofs.Common.{◌≡◌, ◌∙◌, ap, List, map, string_bytes, subst, sym}
use Rattle.bc_words.specs.Commands.{Word}
use Rattle.bc_heapview.specs.Questions.{IsQuestionOf}
use Rattle.bc_heapview.specs.declared.question.Question.{Question}
use Rattle.heapview.proofs.view_words.Given.{Over}
use Rattle.heapview.proofs.view_words.Goals as goal

-- the texts that `view` was handed are the words
same : (g : Over) (c : goal.After-drop-texts g) → map (λ w. w.now) c.deref.result.now ≡ map (λ w. string_bytes w) c.args.words.now
same g c = ap (map (λ w. w.now)) c.deref.ensures.value ∙ c.in-Ok.ensures

-- so what they ask `view` they ask the program
asked : (g : Over) (c : goal.After-drop-texts g) (q : Question) → IsQuestionOf (map (λ w. string_bytes w) c.args.words.now) q → IsQuestionOf (map (λ w. w.now) c.deref.result.now) q
asked g c q is = subst (λ (words : List Word). IsQuestionOf words q) (sym (same g c)) is

pub returns-clause-done : goal.returns-clause-done
returns-clause-done g c = λ q is done. c.view.ensures.done q (asked g c q is) done

pub returns-clause-bad_words : goal.returns-clause-bad_words
returns-clause-bad_words g c = λ e q is. c.view.ensures.bad_words e q (asked g c q is)

pub returns-clause-refused : goal.returns-clause-refused
returns-clause-refused g c = λ none. (c.view.ensures.refused (λ q is. none q (subst (λ (words : List Word). IsQuestionOf words q) (same g c) is))).0
