use Rattle.std.proofs.Common.{◌≡◌, ◌++◌, ℕ, List, ap, ◌∙◌, arith}
use Rattle.bc_heapview.proofs.ViewLemmas.{viewable}
use Rattle.bc_heapview.specs.Texts.{path_text}
use Rattle.bc_heapview.proofs.view.path_answer.Goals as goal

pub returns : goal.returns
returns c = record {
  answer = λ s pictures. record {
    found = c.in_ok-found.found;
    is_found = c.in_ok-found.ensures.least s pictures;
    text_is = c.put_path.ensures.text ∙ ap (λ (xs : List ℕ). xs ++ path_text c.in_ok-found.found) c.in_ok-text.ensures.empty;
  };
}

pub path_room-requires : goal.path_room-requires
path_room-requires c =
    let few = (viewable c.args.listing.now c.requires.listing).few in
    let le = c.in_ok-found.ensures.few in
    let is = c.fields_of.ensures in
    omega (arith, few, le, is)
