-- The notice of a source that has one.
use Rattle.std.specs.Prelude.{ℕ}
use Rattle.bc_pager.specs.declared.notices.Notice.{Notice}

-- the first notice of a list, with this hint
abbrev pub the_notice : ℕ → Notice
the_notice hint = record { hint = hint; number = 0 }
