use Rattle.bc_model.proofs.Changes.{made-one, made-domain, made-fields, made-nil, made-none}
use Rattle.bc_model.proofs.Steps.{Grows-step, made-other-step}
use Rattle.bc_model.proofs.laws.law_objects_made.Goals as goal

pub returns-clause-one : goal.returns-clause-one
returns-clause-one c = made-one

pub returns-clause-domain : goal.returns-clause-domain
returns-clause-domain c = made-domain

pub returns-clause-fields : goal.returns-clause-fields
returns-clause-fields c = made-fields

pub returns-clause-nil : goal.returns-clause-nil
returns-clause-nil c = made-nil

pub returns-clause-none : goal.returns-clause-none
returns-clause-none c = made-none

pub returns-clause-lanes : goal.returns-clause-lanes
returns-clause-lanes c = λ s j k o ne hs fits. made-other-step s j o k ne hs fits

pub returns-clause-kept : goal.returns-clause-kept
returns-clause-kept c = Grows-step
