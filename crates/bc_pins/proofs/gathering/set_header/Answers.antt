use Rattle.std.proofs.Common.{◌≡◌, true, false, refl, ap, sym, subst, ◌∙◌}
use Rattle.bc_superpages.specs.declared.headers.Header.{Header}
use Rattle.bc_superpages.specs.Kept.{IsCellSet}
use Rattle.bc_pins.specs.Key.{is_lanes}
use Rattle.bc_pins.proofs.gathering.set_header.Goals as goal

clash : true ≡ false → ⊥
clash e = cc

pub set_summary-requires-clause-sixteen : goal.set_summary-requires-clause-sixteen
set_summary-requires-clause-sixteen c = subst (λ (h : Header). IsCellSet h.bookmarks) (sym c.set_states.ensures.set.same) c.requires.writable.bookmarks

pub set_header_marks-requires-clause-sixteen : goal.set_header_marks-requires-clause-sixteen
set_header_marks-requires-clause-sixteen c =
    let writable = c.requires.writable in
    subst (λ (h : Header). IsCellSet h.marks × IsCellSet h.finished) (sym c.set_summary.ensures.set.same)
    (subst (λ (h : Header). IsCellSet h.marks × IsCellSet h.finished) (sym c.set_states.ensures.set.same) (writable.marks, writable.finished))

pub returns-in-Lanes : goal.returns-in-Lanes
returns-in-Lanes c = record {
  set = record {
    stated = c.set_states.new.header;
    summed = c.set_summary.new.header;
    states = c.set_states.ensures.set;
    summary = c.set_summary.ensures.set;
    unmarked = λ _. refl;
    marked = λ mark. absurd (clash (sym (ap is_lanes c.in-Lanes.is) ∙ mark));
  };
}

pub returns-in-Mark : goal.returns-in-Mark
returns-in-Mark c = record {
  set = record {
    stated = c.set_states.new.header;
    summed = c.set_summary.new.header;
    states = c.set_states.ensures.set;
    summary = c.set_summary.ensures.set;
    unmarked = λ lanes. absurd (clash (sym lanes ∙ ap is_lanes c.in-Mark.is));
    marked = λ _. c.set_header_marks.ensures.set;
  };
}
