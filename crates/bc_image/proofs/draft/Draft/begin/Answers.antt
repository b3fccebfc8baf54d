use Rattle.std.proofs.Common.{◌%◌, [], ◌∷◌, ◌++◌, eq-eqb}
use Rattle.bc_word.specs.Heads.{head_of_bits}
use Rattle.bc_image.specs.Drafts.{ImageDraft, birth_bits}
use Rattle.bc_image.proofs.draft.Draft.begin.Goals as goal

pub returns-clause-lists : goal.returns-clause-lists
returns-clause-lists c d s =
    let e : ImageDraft = record d { born = d.born ++ birth_bits c.args.item ∷ []; head = head_of_bits c.args.item } in
    rw (eq-eqb (c.args.item % 128) 0 c.if-item-ne0.false) (c.finish_object.ensures.lists e (record {
      progress = s.progress;
      holders = s.holders;
      births = s.births;
      roots = s.roots;
      cells = s.cells;
      head = c.unpack_head-self.ensures.head;
      fields = s.fields;
    }))
