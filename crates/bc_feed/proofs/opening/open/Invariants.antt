use Rattle.bc_feed.proofs.opening.open.Given as goal

abbrev pub ghosts-tell : goal.ghosts-tell
ghosts-tell a = record { hints = a.most }
