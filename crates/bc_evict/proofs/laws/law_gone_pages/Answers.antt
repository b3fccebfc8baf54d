use Rattle.bc_evict.proofs.GoneLemmas.{bookmarked-for, counted-stored, gone-summarised}
use Rattle.bc_evict.proofs.laws.law_gone_pages.Goals as goal

pub returns : goal.returns
returns c = record { gone = gone-summarised; reason = bookmarked-for; counters = counted-stored }
