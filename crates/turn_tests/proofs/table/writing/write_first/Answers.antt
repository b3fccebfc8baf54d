-- The first field of an object.
use Rattle.std.proofs.Common.{◌≡◌, ℕ, ◌+◌, ◌<◌, slice_index, refl, ap, sym, subst, ◌∙◌, arith}
use Rattle.bc_word.specs.declared.heads.Head.{Head}
use Rattle.bc_word.specs.declared.words.Word.TheVariants.{Num}
use Rattle.bc_word.specs.Words.{word_of_bits}
use Rattle.bc_word.specs.Heads.{fields_of_bits}
use Rattle.bc_word.specs.HeadBits.{IsPackedHead}
use Rattle.bc_word.specs.Addresses.{offset_of}
use Rattle.bc_word.proofs.WordLemmas.{word_of_bits-word_bits}
use Rattle.bc_pins.specs.declared.holding.Held.{Held}
use Rattle.bc_pins.specs.Contents.{IsContent, RefersYoung, NamesFixed}
use Rattle.bc_evict.proofs.ContentLemmas.{head-packed, room, field-on}
use Rattle.turn_tests.proofs.TestLemmas.{young-written}
use Rattle.turn_tests.proofs.table.writing.write_first.Goals as goal

pub unpack_head-head-requires : goal.unpack_head-head-requires
unpack_head-head-requires c =
    let h = c.requires.fixed in
    subst IsPackedHead (sym (c.word.ensures.word ∙ ap (slice_index c.args.held.now.homed.page) c.offset-offset.ensures.offset))
    (head-packed h.0 c.args.held.now.page c.args.held.now.homed.page h.1.kept h.1.fixed c.args.cell.0 h.1.allocated h.1.on)

pub set-requires : goal.set-requires
set-requires c =
    let h = c.requires.fixed in
    let many : c.unpack_head-head.result.fields ≡ fields_of_bits (slice_index c.args.held.now.homed.page (offset_of c.args.cell.0)) =
    ap (λ (x : Head). x.fields) c.unpack_head-head.ensures.head ∙ ap fields_of_bits (c.word.ensures.word ∙ ap (slice_index c.args.held.now.homed.page) c.offset-offset.ensures.offset) in
    let some = c.if-head-eq0.false in
    let less = room h.0 c.args.held.now.page c.args.held.now.homed.page h.1.kept h.1.fixed c.args.cell.0 0 h.1.allocated h.1.on (omega arith) in
    let e = c.offset-offset.ensures.offset in
    omega arith

pub returns : goal.returns
returns c =
    let many : c.unpack_head-head.result.fields ≡ fields_of_bits (slice_index c.args.held.now.homed.page (offset_of c.args.cell.0)) =
    ap (λ (x : Head). x.fields) c.unpack_head-head.ensures.head ∙ ap fields_of_bits (c.word.ensures.word ∙ ap (slice_index c.args.held.now.homed.page) c.offset-offset.ensures.offset) in
    let some : 0 < fields_of_bits (slice_index c.args.held.now.homed.page (offset_of c.args.cell.0)) = let ne = c.if-head-eq0.false in omega arith in
    let meant : word_of_bits c.pack.result ≡ Num c.args.number = ap word_of_bits c.pack.ensures.bits ∙ word_of_bits-word_bits (Num c.args.number) in
    let place : c.offset-offset.result + 1 ≡ offset_of c.args.cell.0 + 1 + 0 = let e = c.offset-offset.ensures.offset in omega arith in
    let same : c.set.new.self ≡ record c.args.held.now { homed = record c.args.held.now.homed { page = c.set.new.self.homed.page } } =
    subst (λ (h : Held). h ≡ record c.args.held.now { homed = record c.args.held.now.homed { page = h.homed.page } }) (sym c.set.ensures.written) refl in
    record {
      same = same;
      fixed = λ s o. record {
        kept = o.kept;
        allocated = o.allocated;
        on = o.on ∙ sym (ap (λ (h : Held). h.page) same);
        fixed = subst (λ (p : ℕ). IsContent s p c.set.new.self.homed.page) (sym (ap (λ (h : Held). h.page) same))
            (c.set.ensures.fixed s c.args.cell.0 0 o.kept o.fixed (field-on s c.args.held.now.page c.args.held.now.homed.page o.kept o.fixed c.args.cell.0 0 o.allocated o.on some) place c.pack.ensures.packed
            (subst (NamesFixed s) (sym meant) tt));
      };
      young = λ s o y.
          let less = room s c.args.held.now.page c.args.held.now.homed.page o.kept o.fixed c.args.cell.0 0 o.allocated o.on some in
          let long = o.fixed.long in
          young-written s c.args.held.now.page (c.offset-offset.result + 1) c.pack.result c.args.number c.args.held.now.homed.page (omega arith) meant
          (subst (λ (h : Held). RefersYoung s c.args.held.now.page h.homed.page) c.set.ensures.written y);
    }
