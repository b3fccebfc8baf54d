-- The page that was taken, of the one kind or of the other.
use Rattle.std.proofs.Common.{subst}
use Rattle.bc_pins.specs.Calls.{key_of, view_of}
use Rattle.bc_evict.specs.declared.walking.Kind.TheVariants.{Bare, Filled}
use Rattle.bc_evict.specs.Taking.{IsOfKind}
use Rattle.bc_evict.proofs.VictimLemmas.{any-held, freed-bare, freed-filled}
use Rattle.bc_evict.proofs.victims.free_frame.Goals as goal

pub discard-requires-clause-held : goal.discard-requires-clause-held
discard-requires-clause-held c =
    any-held (key_of c.args.pins.now) (view_of c.args.seat.now) c.take_any.new.seat c.in_ok-held.held c.in_ok-held.ensures.some c.requires.seat.about Bare
    (subst (IsOfKind (key_of c.args.pins.now) Bare) c.page.ensures.page c.in-Bare.ensures.kind)

pub bookmark-requires-clause-held : goal.bookmark-requires-clause-held
bookmark-requires-clause-held c =
    any-held (key_of c.args.pins.now) (view_of c.args.seat.now) c.take_any.new.seat c.in_ok-held.held c.in_ok-held.ensures.some c.requires.seat.about Filled
    (subst (IsOfKind (key_of c.args.pins.now) Filled) c.page.ensures.page c.in-Filled.ensures.kind)

pub returns-in-Bare-clause-some : goal.returns-in-Bare-clause-some
returns-in-Bare-clause-some c =
    freed-bare (key_of c.args.pins.now) (view_of c.args.seat.now) c.take_any.new.seat c.in_ok-held.held c.in_ok-held.ensures.some c.requires.seat.about c.requires.free.hand c.requires.none c.discard.result.frame c.discard.ensures.frame
    (view_of c.discard.new.seat) c.discard.ensures.view c.discard.ensures.right.within

pub returns-in-Filled-clause-some : goal.returns-in-Filled-clause-some
returns-in-Filled-clause-some c =
    let held = any-held (key_of c.args.pins.now) (view_of c.args.seat.now) c.take_any.new.seat c.in_ok-held.held c.in_ok-held.ensures.some c.requires.seat.about Filled
    (subst (IsOfKind (key_of c.args.pins.now) Filled) c.page.ensures.page c.in-Filled.ensures.kind) in
    freed-filled (key_of c.args.pins.now) (view_of c.args.seat.now) c.take_any.new.seat c.in_ok-held.held c.in_ok-held.ensures.some c.requires.seat.about c.requires.free.hand c.requires.none c.evict.result.frame
    c.evict.ensures.frame held.hand (view_of c.bookmark.new.seat) (c.bookmark.ensures.bookmarked held.hand held.has) (view_of c.evict.new.seat) c.evict.ensures.view c.evict.ensures.right.within
