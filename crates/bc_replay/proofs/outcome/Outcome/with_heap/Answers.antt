use Rattle.bc_replay.proofs.outcome.Outcome.with_heap.Goals as goal

pub returns-clause-account : goal.returns-clause-account
returns-clause-account c =
    let is = c.facts.ensures.engine in
    record {
      summarised = is.ready.order.summarised;
      frames = is.ready.fits.frames;
      nursery = is.ready.fits.nursery;
      returned = is.returned;
      two = c.facts.ensures.two;
      account = c.facts.ensures.account;
    }
