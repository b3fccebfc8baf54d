use Rattle.bc_lane.proofs.BackLemmas.{back-account, back-gone, back-layout, back-moves, back-operate, back-running, back-stands, back-summarised}
use Rattle.bc_lane.proofs.laws.law_all_back.Goals as goal

pub returns : goal.returns
returns c = record { layout = back-layout; summarised = back-summarised; none = back-gone; moves = back-moves; account = back-account; running = back-running; operates = back-operate; stands = back-stands }
