use Rattle.std.proofs.Common.{◌≡◌, ℕ, ◌+◌, ◌*◌, ◌<◌, List, [], ◌∷◌, ◌++◌, length, slice_index, ap, sym, subst, ◌∙◌, refl, arith, append-nil}
use Rattle.std.specs.List.{flat_map}
use Rattle.bc_bits.specs.Bits.{has}
use Rattle.bc_bits.specs.Counting.{count_below}
use Rattle.bc_bookmarks.proofs.MovingLemmas.{MovesPages-none}
use Rattle.bc_classes.specs.Classes.{cap}
use Rattle.bc_classes.specs.ClassNumbers.{IsClass}
use Rattle.bc_image.specs.Images.{cell_items, group_items}
use Rattle.bc_io.specs.Told.{IsPrefix}
use Rattle.bc_superpages.specs.declared.headers.Header.{Header}
use Rattle.bc_superpages.specs.Memory.{memory}
use Rattle.bc_picture.specs.SpaceListing.{listed_from}
use Rattle.bc_picture.proofs.StreamLemmas.{on-err, on-err-map, on-ok-map, puts-is, breaks-is, room-is, room-first, room-piece, breaks-first, breaks-piece, puts-piece}
use Rattle.bc_picture.proofs.CellLists.{length-superpage, group-none, group-some, superpage-alike}
use Rattle.bc_picture.proofs.superpages.put_superpage.Goals as goal

pub count_cells-count-requires : goal.count_cells-count-requires
count_cells-count-requires g c = subst IsClass (ap (λ (x : Header). x.class) (sym c.header-header.ensures.header)) ((c.facts.ensures.kept.each c.args.superpage c.requires.superpage).class)

pub put-requires : goal.put-requires
put-requires g c =
    let s = c.args.space.now in
    let q = c.args.superpage in
    let k = slice_index s.classes q in
    let d = slice_index s.domains q in
    let is_class : IsClass k = (c.facts.ensures.kept.each q c.requires.superpage).class in
    let cs = listed_from (memory s) (2048 * q) 2048 in
    let count : c.count_cells-count.result ≡ length cs = c.count_cells-count.ensures ∙ ap (λ (x : Header). count_below (has x.cells) (cap x.class)) c.header-header.ensures.header ∙ sym (length-superpage s q is_class) in
    let none : group_items cs ≡ 0 ∷ [] = group-none cs (sym count ∙ c.if-count-eq0.true) in
    record { room = room-is _ _ (group_items cs) (0 ∷ []) none c.requires.room }

pub returns-then-count-eq0-clause-puts : goal.returns-then-count-eq0-clause-puts
returns-then-count-eq0-clause-puts g c =
    let s = c.args.space.now in
    let q = c.args.superpage in
    let k = slice_index s.classes q in
    let d = slice_index s.domains q in
    let is_class : IsClass k = (c.facts.ensures.kept.each q c.requires.superpage).class in
    let cs = listed_from (memory s) (2048 * q) 2048 in
    let count : c.count_cells-count.result ≡ length cs = c.count_cells-count.ensures ∙ ap (λ (x : Header). count_below (has x.cells) (cap x.class)) c.header-header.ensures.header ∙ sym (length-superpage s q is_class) in
    let none : group_items cs ≡ 0 ∷ [] = group-none cs (sym count ∙ c.if-count-eq0.true) in
    on-ok-map _ _ c.put.result (λ h. puts-is _ _ (group_items cs) (0 ∷ []) none h) c.put.ensures.puts

pub returns-then-count-eq0-clause-breaks : goal.returns-then-count-eq0-clause-breaks
returns-then-count-eq0-clause-breaks g c =
    let s = c.args.space.now in
    let q = c.args.superpage in
    let k = slice_index s.classes q in
    let d = slice_index s.domains q in
    let is_class : IsClass k = (c.facts.ensures.kept.each q c.requires.superpage).class in
    let cs = listed_from (memory s) (2048 * q) 2048 in
    let count : c.count_cells-count.result ≡ length cs = c.count_cells-count.ensures ∙ ap (λ (x : Header). count_below (has x.cells) (cap x.class)) c.header-header.ensures.header ∙ sym (length-superpage s q is_class) in
    let none : group_items cs ≡ 0 ∷ [] = group-none cs (sym count ∙ c.if-count-eq0.true) in
    on-err-map _ _ c.put.result (λ h. breaks-is _ _ (group_items cs) (0 ∷ []) none h) c.put.ensures.breaks

pub returns-then-count-eq0-clause-moves : goal.returns-then-count-eq0-clause-moves
returns-then-count-eq0-clause-moves g c = MovesPages-none c.args.space.now c.requires.readable.summarised

pub put_all-requires : goal.put_all-requires
put_all-requires g c =
    let s = c.args.space.now in
    let q = c.args.superpage in
    let k = slice_index s.classes q in
    let d = slice_index s.domains q in
    let is_class : IsClass k = (c.facts.ensures.kept.each q c.requires.superpage).class in
    let cs = listed_from (memory s) (2048 * q) 2048 in
    let count : c.count_cells-count.result ≡ length cs = c.count_cells-count.ensures ∙ ap (λ (x : Header). count_below (has x.cells) (cap x.class)) c.header-header.ensures.header ∙ sym (length-superpage s q is_class) in
    let pair = (c.from.result + 256 * c.from-2.result) ∷ c.from-3.result ∷ [] in
    let some : 0 < length cs = omega (arith, count, c.if-count-eq0.false) in
    let same : (k + 256 * d) ∷ length cs ∷ [] ≡ pair =
    sym (rw (c.from.ensures ∙ ap (λ (x : Header). x.class) c.header-header.ensures.header, c.from-2.ensures ∙ ap (λ (x : Header). x.domain) c.header-header.ensures.header, c.from-3.ensures ∙ count) refl) in
    let split : group_items cs ≡ pair ++ flat_map cell_items cs = group-some k d cs (superpage-alike s q c.facts.ensures.kept) some ∙ ap (λ (ns : List ℕ). ns ++ flat_map cell_items cs) same in
    let p : IsPrefix (pair ++ flat_map cell_items cs) (group_items cs) = ([], split ∙ sym (append-nil (pair ++ flat_map cell_items cs))) in
    record { room = room-first _ _ (group_items cs) pair (flat_map cell_items cs, split) c.requires.room }

pub returns-in_err-put_all-clause-breaks : goal.returns-in_err-put_all-clause-breaks
returns-in_err-put_all-clause-breaks g c =
    let s = c.args.space.now in
    let q = c.args.superpage in
    let k = slice_index s.classes q in
    let d = slice_index s.domains q in
    let is_class : IsClass k = (c.facts.ensures.kept.each q c.requires.superpage).class in
    let cs = listed_from (memory s) (2048 * q) 2048 in
    let count : c.count_cells-count.result ≡ length cs = c.count_cells-count.ensures ∙ ap (λ (x : Header). count_below (has x.cells) (cap x.class)) c.header-header.ensures.header ∙ sym (length-superpage s q is_class) in
    let pair = (c.from.result + 256 * c.from-2.result) ∷ c.from-3.result ∷ [] in
    let some : 0 < length cs = omega (arith, count, c.if-count-eq0.false) in
    let same : (k + 256 * d) ∷ length cs ∷ [] ≡ pair =
    sym (rw (c.from.ensures ∙ ap (λ (x : Header). x.class) c.header-header.ensures.header, c.from-2.ensures ∙ ap (λ (x : Header). x.domain) c.header-header.ensures.header, c.from-3.ensures ∙ count) refl) in
    let split : group_items cs ≡ pair ++ flat_map cell_items cs = group-some k d cs (superpage-alike s q c.facts.ensures.kept) some ∙ ap (λ (ns : List ℕ). ns ++ flat_map cell_items cs) same in
    let p : IsPrefix (pair ++ flat_map cell_items cs) (group_items cs) = ([], split ∙ sym (append-nil (pair ++ flat_map cell_items cs))) in
    on-err _ c.from_residual.result (breaks-first _ _ (group_items cs) pair (flat_map cell_items cs, split) c.in_err-put_all.ensures.breaks)

pub returns-in_err-put_all-clause-moves : goal.returns-in_err-put_all-clause-moves
returns-in_err-put_all-clause-moves g c = MovesPages-none c.args.space.now c.requires.readable.summarised

pub put_cells-requires-clause-class : goal.put_cells-requires-clause-class
put_cells-requires-clause-class g c = ap (λ (x : Header). x.class) c.header-header.ensures.header

pub put_cells-requires-clause-room : goal.put_cells-requires-clause-room
put_cells-requires-clause-room g c =
    let s = c.args.space.now in
    let q = c.args.superpage in
    let k = slice_index s.classes q in
    let d = slice_index s.domains q in
    let is_class : IsClass k = (c.facts.ensures.kept.each q c.requires.superpage).class in
    let cs = listed_from (memory s) (2048 * q) 2048 in
    let count : c.count_cells-count.result ≡ length cs = c.count_cells-count.ensures ∙ ap (λ (x : Header). count_below (has x.cells) (cap x.class)) c.header-header.ensures.header ∙ sym (length-superpage s q is_class) in
    let pair = (c.from.result + 256 * c.from-2.result) ∷ c.from-3.result ∷ [] in
    let some : 0 < length cs = omega (arith, count, c.if-count-eq0.false) in
    let same : (k + 256 * d) ∷ length cs ∷ [] ≡ pair =
    sym (rw (c.from.ensures ∙ ap (λ (x : Header). x.class) c.header-header.ensures.header, c.from-2.ensures ∙ ap (λ (x : Header). x.domain) c.header-header.ensures.header, c.from-3.ensures ∙ count) refl) in
    let split : group_items cs ≡ pair ++ flat_map cell_items cs = group-some k d cs (superpage-alike s q c.facts.ensures.kept) some ∙ ap (λ (ns : List ℕ). ns ++ flat_map cell_items cs) same in
    let p : IsPrefix (pair ++ flat_map cell_items cs) (group_items cs) = ([], split ∙ sym (append-nil (pair ++ flat_map cell_items cs))) in
    room-piece _ _ (group_items cs) pair (flat_map cell_items cs) p c.requires.room c.in_ok-put_all.ensures.puts

pub returns-clause-puts : goal.returns-clause-puts
returns-clause-puts g c =
    let s = c.args.space.now in
    let q = c.args.superpage in
    let k = slice_index s.classes q in
    let d = slice_index s.domains q in
    let is_class : IsClass k = (c.facts.ensures.kept.each q c.requires.superpage).class in
    let cs = listed_from (memory s) (2048 * q) 2048 in
    let count : c.count_cells-count.result ≡ length cs = c.count_cells-count.ensures ∙ ap (λ (x : Header). count_below (has x.cells) (cap x.class)) c.header-header.ensures.header ∙ sym (length-superpage s q is_class) in
    let pair = (c.from.result + 256 * c.from-2.result) ∷ c.from-3.result ∷ [] in
    let some : 0 < length cs = omega (arith, count, c.if-count-eq0.false) in
    let same : (k + 256 * d) ∷ length cs ∷ [] ≡ pair =
    sym (rw (c.from.ensures ∙ ap (λ (x : Header). x.class) c.header-header.ensures.header, c.from-2.ensures ∙ ap (λ (x : Header). x.domain) c.header-header.ensures.header, c.from-3.ensures ∙ count) refl) in
    let split : group_items cs ≡ pair ++ flat_map cell_items cs = group-some k d cs (superpage-alike s q c.facts.ensures.kept) some ∙ ap (λ (ns : List ℕ). ns ++ flat_map cell_items cs) same in
    let p : IsPrefix (pair ++ flat_map cell_items cs) (group_items cs) = ([], split ∙ sym (append-nil (pair ++ flat_map cell_items cs))) in
    on-ok-map _ _ c.put_cells.result (λ h. puts-piece _ _ _ (group_items cs) pair (flat_map cell_items cs) split c.in_ok-put_all.ensures.puts h) c.put_cells.ensures.puts

pub returns-clause-breaks : goal.returns-clause-breaks
returns-clause-breaks g c =
    let s = c.args.space.now in
    let q = c.args.superpage in
    let k = slice_index s.classes q in
    let d = slice_index s.domains q in
    let is_class : IsClass k = (c.facts.ensures.kept.each q c.requires.superpage).class in
    let cs = listed_from (memory s) (2048 * q) 2048 in
    let count : c.count_cells-count.result ≡ length cs = c.count_cells-count.ensures ∙ ap (λ (x : Header). count_below (has x.cells) (cap x.class)) c.header-header.ensures.header ∙ sym (length-superpage s q is_class) in
    let pair = (c.from.result + 256 * c.from-2.result) ∷ c.from-3.result ∷ [] in
    let some : 0 < length cs = omega (arith, count, c.if-count-eq0.false) in
    let same : (k + 256 * d) ∷ length cs ∷ [] ≡ pair =
    sym (rw (c.from.ensures ∙ ap (λ (x : Header). x.class) c.header-header.ensures.header, c.from-2.ensures ∙ ap (λ (x : Header). x.domain) c.header-header.ensures.header, c.from-3.ensures ∙ count) refl) in
    let split : group_items cs ≡ pair ++ flat_map cell_items cs = group-some k d cs (superpage-alike s q c.facts.ensures.kept) some ∙ ap (λ (ns : List ℕ). ns ++ flat_map cell_items cs) same in
    let p : IsPrefix (pair ++ flat_map cell_items cs) (group_items cs) = ([], split ∙ sym (append-nil (pair ++ flat_map cell_items cs))) in
    on-err-map _ _ c.put_cells.result (λ h. breaks-piece _ _ _ (group_items cs) pair (flat_map cell_items cs) p c.in_ok-put_all.ensures.puts h) c.put_cells.ensures.breaks
