use Rattle.std.proofs.Common.{◌≡◌, ℕ, ◌+◌, ◌<◌, ◌≤◌, List, [], ◌∷◌, map, take, get_or, length, ap, sym, subst, ◌∙◌}
use Rattle.std.specs.List.{flat_map}
use Rattle.std.proofs.lemmas.List.{take_all}
use Rattle.bc_image.specs.Images.{cell_items}
use Rattle.bc_word.specs.Addresses.{page_of, offset_of}
use Rattle.bc_word.specs.Heads.{fields_of_bits}
use Rattle.bc_word.specs.HeadBits.{head_bits, FitsHead}
use Rattle.bc_word.specs.WordBits.{word_bits}
use Rattle.bc_word.specs.declared.heads.Head.{Head}
use Rattle.bc_word.specs.declared.words.Word.{Word}
use Rattle.bc_word.proofs.WordsLemmas.{length-words_from}
use Rattle.bc_superpages.specs.Layout.{content_at}
use Rattle.bc_superpages.specs.LayoutAt.{word_at}
use Rattle.bc_superpages.specs.Memory.{memory, cell_at}
use Rattle.bc_picture.specs.SpaceListing.{listed_cell}
use Rattle.bc_picture.proofs.StreamLemmas.{on-err, room-first, room-piece, breaks-first, breaks-piece, puts-piece, puts-is}
use Rattle.bc_picture.proofs.Parts.{object-items, fields-more, fields-prefix}
use Rattle.bc_picture.proofs.ReadLemmas.{head-fits}
use Rattle.bc_picture.proofs.superpages.put_object.Goals as goal

pub pack_head-requires : goal.pack_head-requires
pack_head-requires g c = subst FitsHead (sym c.head-head.ensures.head) (head-fits c.args.space.now c.args.cell.0 c.facts.ensures.kept c.requires.cell.allocated)

pub put_all-requires : goal.put_all-requires
put_all-requires g c =
    let a = c.args.cell.0 in
    let o = cell_at c.args.space.now.pages a in
    let obj : flat_map cell_items (listed_cell a (memory c.args.space.now a)) ≡ a ∷ head_bits o.head ∷ map word_bits o.fields = object-items a (memory c.args.space.now a) o c.head-head.ensures.memory in
    record { room = rw (c.from.ensures, c.pack_head.ensures.bits, c.head-head.ensures.head) (room-first _ _ (flat_map cell_items (listed_cell a (memory c.args.space.now a))) (a ∷ head_bits o.head ∷ []) (map word_bits o.fields, obj) c.requires.room) }

pub returns-in_err-put_all-clause-breaks : goal.returns-in_err-put_all-clause-breaks
returns-in_err-put_all-clause-breaks g c =
    let a = c.args.cell.0 in
    let o = cell_at c.args.space.now.pages a in
    let obj : flat_map cell_items (listed_cell a (memory c.args.space.now a)) ≡ a ∷ head_bits o.head ∷ map word_bits o.fields = object-items a (memory c.args.space.now a) o c.head-head.ensures.memory in
    on-err _ c.from_residual.result (breaks-first _ _ (flat_map cell_items (listed_cell a (memory c.args.space.now a))) (a ∷ head_bits o.head ∷ []) (map word_bits o.fields, obj) (rw (c.from.ensures, c.pack_head.ensures.bits, c.head-head.ensures.head) at c.in_err-put_all.ensures.breaks))

pub loop-index-init : goal.loop-index-init
loop-index-init g c = rw (c.from.ensures, c.pack_head.ensures.bits, c.head-head.ensures.head) at c.in_ok-put_all.ensures.puts

pub field-word-requires-clause-index : goal.field-word-requires-clause-index
field-word-requires-clause-index g c = subst (λ (n : ℕ). c.loop-index.index < n) (ap (λ (h : Head). h.fields) c.head-head.ensures.head) c.loop-index-test.true

pub put-requires : goal.put-requires
put-requires g c =
    let a = c.args.cell.0 in
    let o = cell_at c.args.space.now.pages a in
    let obj : flat_map cell_items (listed_cell a (memory c.args.space.now a)) ≡ a ∷ head_bits o.head ∷ map word_bits o.fields = object-items a (memory c.args.space.now a) o c.head-head.ensures.memory in
    let lt : c.loop-index.index < length o.fields = subst (λ (n : ℕ). c.loop-index.index < n) (ap (λ (h : Head). h.fields) c.head-head.ensures.head ∙ sym (length-words_from (content_at c.args.space.now.pages (page_of a)) (offset_of a + 1) (fields_of_bits (word_at c.args.space.now.pages a)))) c.loop-index-test.true in
    let p = fields-prefix a (head_bits o.head) o.fields c.loop-index.index c.field-word.result lt in
    let is : c.pack.result ≡ word_bits (get_or o.fields c.loop-index.index c.field-word.result) = c.pack.ensures.bits ∙ ap word_bits c.field-word.ensures.memory in
    record { room = rw is (room-piece _ _ (flat_map cell_items (listed_cell a (memory c.args.space.now a))) (a ∷ head_bits o.head ∷ map word_bits (take c.loop-index.index o.fields)) (word_bits (get_or o.fields c.loop-index.index c.field-word.result) ∷ []) (p.0, obj ∙ p.1) c.requires.room c.loop-index.invariant) }

pub returns-in_err-put-clause-breaks : goal.returns-in_err-put-clause-breaks
returns-in_err-put-clause-breaks g c =
    let a = c.args.cell.0 in
    let o = cell_at c.args.space.now.pages a in
    let obj : flat_map cell_items (listed_cell a (memory c.args.space.now a)) ≡ a ∷ head_bits o.head ∷ map word_bits o.fields = object-items a (memory c.args.space.now a) o c.head-head.ensures.memory in
    let lt : c.loop-index.index < length o.fields = subst (λ (n : ℕ). c.loop-index.index < n) (ap (λ (h : Head). h.fields) c.head-head.ensures.head ∙ sym (length-words_from (content_at c.args.space.now.pages (page_of a)) (offset_of a + 1) (fields_of_bits (word_at c.args.space.now.pages a)))) c.loop-index-test.true in
    let p = fields-prefix a (head_bits o.head) o.fields c.loop-index.index c.field-word.result lt in
    let is : c.pack.result ≡ word_bits (get_or o.fields c.loop-index.index c.field-word.result) = c.pack.ensures.bits ∙ ap word_bits c.field-word.ensures.memory in
    on-err _ c.from_residual-in_err-put.result (breaks-piece _ _ _ (flat_map cell_items (listed_cell a (memory c.args.space.now a))) (a ∷ head_bits o.head ∷ map word_bits (take c.loop-index.index o.fields)) (word_bits (get_or o.fields c.loop-index.index c.field-word.result) ∷ []) (p.0, obj ∙ p.1) c.loop-index.invariant (rw is at c.in_err-put.ensures.breaks))

pub loop-index-preserved : goal.loop-index-preserved
loop-index-preserved g c =
    let a = c.args.cell.0 in
    let o = cell_at c.args.space.now.pages a in
    let obj : flat_map cell_items (listed_cell a (memory c.args.space.now a)) ≡ a ∷ head_bits o.head ∷ map word_bits o.fields = object-items a (memory c.args.space.now a) o c.head-head.ensures.memory in
    let lt : c.loop-index.index < length o.fields = subst (λ (n : ℕ). c.loop-index.index < n) (ap (λ (h : Head). h.fields) c.head-head.ensures.head ∙ sym (length-words_from (content_at c.args.space.now.pages (page_of a)) (offset_of a + 1) (fields_of_bits (word_at c.args.space.now.pages a)))) c.loop-index-test.true in
    let p = fields-prefix a (head_bits o.head) o.fields c.loop-index.index c.field-word.result lt in
    let is : c.pack.result ≡ word_bits (get_or o.fields c.loop-index.index c.field-word.result) = c.pack.ensures.bits ∙ ap word_bits c.field-word.ensures.memory in
    puts-piece _ _ _ (a ∷ head_bits o.head ∷ map word_bits (take (c.loop-index.index + 1) o.fields)) (a ∷ head_bits o.head ∷ map word_bits (take c.loop-index.index o.fields)) (word_bits (get_or o.fields c.loop-index.index c.field-word.result) ∷ []) (fields-more a (head_bits o.head) o.fields c.loop-index.index c.field-word.result lt) c.loop-index.invariant (rw is at c.in_ok-put.ensures.puts)

pub returns-clause-puts : goal.returns-clause-puts
returns-clause-puts g c =
    let a = c.args.cell.0 in
    let o = cell_at c.args.space.now.pages a in
    let obj : flat_map cell_items (listed_cell a (memory c.args.space.now a)) ≡ a ∷ head_bits o.head ∷ map word_bits o.fields = object-items a (memory c.args.space.now a) o c.head-head.ensures.memory in
    let le : length o.fields ≤ c.loop-index.index = subst (λ (n : ℕ). n ≤ c.loop-index.index) (ap (λ (h : Head). h.fields) c.head-head.ensures.head ∙ sym (length-words_from (content_at c.args.space.now.pages (page_of a)) (offset_of a + 1) (fields_of_bits (word_at c.args.space.now.pages a)))) c.loop-index-test.false in
    puts-is _ _ (flat_map cell_items (listed_cell a (memory c.args.space.now a))) (a ∷ head_bits o.head ∷ map word_bits (take c.loop-index.index o.fields)) (obj ∙ ap (λ (ws : List Word). a ∷ head_bits o.head ∷ map word_bits ws) (sym (take_all c.loop-index.index o.fields le))) c.loop-index.invariant
