use Rattle.std.proofs.Common.{rules, ◌≡◌, ◌∙◌, sym, ap, subst, arith}
use Rattle.bc_image.proofs.Pictured.{some-objects}
use Rattle.bc_heapview.specs.Questions.{IsQuestionOf}
use Rattle.bc_heapview.specs.Views.{Viewed, ViewedInPart}
use Rattle.bc_heapview.specs.declared.question.Question.{Question}
use Rattle.bc_heapview.proofs.AskLemmas.{asked, none-asked, same-asked}
use Rattle.bc_heapview.proofs.InputLemmas.{can_give-whole, complete_ending}
use Rattle.bc_heapview.proofs.view.view.Goals as goal

pub answer_to-requires-clause-listing : goal.answer_to-requires-clause-listing
answer_to-requires-clause-listing g c = c.in-Ok-read_image.ensures.found.image.listing

pub answer_to-requires-clause-room : goal.answer_to-requires-clause-room
answer_to-requires-clause-room g c =
    let read = c.in-Ok-read_image.ensures.found in
    let q : Question = c.in-Some.question in
    let is = asked (IsQuestionOf _) _ q c.in-Ok.ensures.question (search rules) in
    λ text answer. c.requires.room q is c.in-Ok-read_image.listing text (record { bytes = read.bytes; given = can_give-whole _ _ _ read.whole; short = read.whole.short; image = read.image }) answer

pub returns-in-Ok-read_image-clause-done : goal.returns-in-Ok-read_image-clause-done
returns-in-Ok-read_image-clause-done g c = λ question is e.
    let d = c.answer_to.ensures.done e in
    let q : Question = c.in-Some.question in
    same-asked (λ (q : Question). Viewed q (g.S.Source.left c.args.source.now) (g.S.Source.left c.read_image.new.source) (g.K.Sink.held c.args.sink.now) (g.K.Sink.held c.answer_to.new.sink)) c.in-Ok.found q question (search rules)
    (c.in-Ok.ensures.the_one question is) (record {
      listing = c.in-Ok-read_image.listing;
      read = c.in-Ok-read_image.ensures.found;
      pictured = some-objects _ c.in-Ok-read_image.ensures.found.image.listing;
      text = d.0;
      answer = d.1;
      written = d.2;
    })

pub returns-in-Ok-read_image-clause-write_fault : goal.returns-in-Ok-read_image-clause-write_fault
returns-in-Ok-read_image-clause-write_fault g c = λ question is e.
    let fault = c.answer_to.ensures.write_fault e in
    let d = fault.1 in
    let q : Question = c.in-Some.question in (
      fault.0,
      same-asked (λ (q : Question). ViewedInPart q (g.S.Source.left c.args.source.now) (g.S.Source.left c.read_image.new.source) (g.K.Sink.held c.args.sink.now) (g.K.Sink.held c.answer_to.new.sink)) c.in-Ok.found q question (search rules)
          (c.in-Ok.ensures.the_one question is) (record {
            listing = c.in-Ok-read_image.listing;
            read = c.in-Ok-read_image.ensures.found;
            pictured = some-objects _ c.in-Ok-read_image.ensures.found.image.listing;
            text = d.0;
            answer = d.1;
            front = d.2.0;
            prefix = d.2.1;
            not_all = d.2.2;
            written = d.2.3;
          }),
    )

pub returns-in-Ok-read_image-clause-complete : goal.returns-in-Ok-read_image-clause-complete
returns-in-Ok-read_image-clause-complete g c = λ question bytes l is told short image firm held.
    complete_ending c.answer_to.result c.answer_to.ensures.ending (λ e. held (c.answer_to.ensures.write_fault e).0)

pub returns-in-Ok-read_image-clause-faulty : goal.returns-in-Ok-read_image-clause-faulty
returns-in-Ok-read_image-clause-faulty g c = λ question bytes f is told short fault firm. absurd (c.in-Ok-read_image.ensures.faulty bytes f told short fault firm)

pub returns-in-Err-clause-faulty : goal.returns-in-Err-clause-faulty
returns-in-Err-clause-faulty g c = λ question bytes f is told short fault firm. c.in-Err.ensures.faulty bytes f told short fault firm

pub returns-in-None-clause-complete : goal.returns-in-None-clause-complete
returns-in-None-clause-complete g c = λ question bytes l is _ _ _ _ _.
    absurd (none-asked _ _ c.in-Ok.ensures.none c.in-None.is question is)

pub returns-in-None-clause-faulty : goal.returns-in-None-clause-faulty
returns-in-None-clause-faulty g c = λ question bytes f is _ _ _ _.
    absurd (none-asked _ _ c.in-Ok.ensures.none c.in-None.is question is)

pub returns-in-None-clause-longer : goal.returns-in-None-clause-longer
returns-in-None-clause-longer g c = λ question bytes is _ _ _.
    absurd (none-asked _ _ c.in-Ok.ensures.none c.in-None.is question is)
