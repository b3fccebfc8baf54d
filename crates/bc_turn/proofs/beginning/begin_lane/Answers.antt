use Rattle.std.proofs.Common.{ℕ, ◌*◌, ◌<◌, ◌≤◌, List, length, set, get_or, Vec, vec_capacity, ap, sym, subst, ◌∙◌, arith}
use Rattle.std.specs.declared.alloc.Global.{Global}
use Rattle.std.proofs.lemmas.List.{get_or_read}
use Rattle.bc_lane.specs.Turns.{IsRoomOf}
use Rattle.bc_cycle.specs.Emptying.{heap_view}
use Rattle.bc_model.specs.Rows.{lists_of}
use Rattle.bc_model.specs.declared.operations.Reply.{Reply}
use Rattle.bc_turn.specs.Begun.{of_lane}
use Rattle.bc_turn.specs.Taking.{AreWordsOf}
use Rattle.bc_turn.proofs.TakingLemmas.{list-at, ops-at, told-at, takes-of}
use Rattle.bc_turn.proofs.beginning.begin_lane.Goals as goal
use Rattle.bc_whole_heap.specs.Closed.{no_buffer}
use Rattle.bc_whole_heap.specs.Heaps.{no_chunk}

pub copy_words-requires-clause-domains : goal.copy_words-requires-clause-domains
copy_words-requires-clause-domains c =
    subst (λ (xs : List ℕ). (i : ℕ) → i < length xs → get_or xs i 0 < c.args.heap.now.roots.domains) (sym c.deref.ensures.value)
    (λ i lt. let h = c.requires.spare.domains.within i lt in let e = c.requires.domains in omega arith)

pub copy_words-requires-clause-room : goal.copy_words-requires-clause-room
copy_words-requires-clause-room c =
    subst (λ (xs : List ℕ). length xs * c.args.heap.now.roots.slots ≤ vec_capacity c.args.spare.roots.words) (sym c.deref.ensures.value) c.requires.spare.capacity

pub prepare-requires-clause-room : goal.prepare-requires-clause-room
prepare-requires-clause-room c =
    subst (λ (s : ℕ). IsRoomOf c.args.spare.room.holders.items c.args.spare.roots.domains.items s c.args.spare.room) (sym c.requires.spare.room.slots_are) c.requires.spare.room

pub prepare-requires-clause-words : goal.prepare-requires-clause-words
prepare-requires-clause-words c =
    c.copy_words.ensures.words.long ∙ ap (λ (xs : List ℕ). length xs * c.args.heap.now.roots.slots) c.deref.ensures.value
    ∙ ap (λ (s : ℕ). length c.args.spare.roots.domains.items * s) (sym c.requires.spare.room.slots_are)

pub prepare-requires-clause-done : goal.prepare-requires-clause-done
prepare-requires-clause-done c =
    let ops = ap length (ops-at c.args.lanes.now c.args.spare.lane c.index-lanes-index.result c.deref-2.result.now c.requires.lane c.index-lanes-index.is c.deref-2.ensures.value) in
    let told = ap length (sym (list-at c.args.replies.now c.args.spare.lane c.replace-told.result (let fits = c.requires.sizes.told in let lt = c.requires.lane in omega arith) (told-at c.args.replies.now c.args.spare.lane c.index-replies-index.result c.replace-told.result c.replace-told.ensures.value c.index-replies-index.is))) in
    let left = c.requires.left in
    omega arith

pub prepare-requires-clause-capacity : goal.prepare-requires-clause-capacity
prepare-requires-clause-capacity c =
    let ops = ap length (ops-at c.args.lanes.now c.args.spare.lane c.index-lanes-index.result c.deref-2.result.now c.requires.lane c.index-lanes-index.is c.deref-2.ensures.value) in
    let room = c.requires.room c.replace-told.result (told-at c.args.replies.now c.args.spare.lane c.index-replies-index.result c.replace-told.result c.replace-told.ensures.value c.index-replies-index.is) in
    omega arith

pub returns-clause-takes : goal.returns-clause-takes
returns-clause-takes c =
    let h = heap_view c.args.heap.now in
    let lane = c.args.spare.lane in
    let chunks : lane < length h.chunks = (let e = c.requires.sizes.chunks in let lt = c.requires.lane in omega arith) in
    let buffers : lane < length h.buffers = (let e = c.requires.sizes.buffers in let lt = c.requires.lane in omega arith) in
    takes-of h c.args.spare.room.holders.items c.args.serials.now (lists_of c.args.lanes.now) (lists_of c.args.replies.now) lane c.prepare.result (record { domains = c.args.spare.roots.domains; words = c.copy_words.new.words })
    c.replace-told.result c.args.spare.room.slots (length c.deref-2.result.now) c.replace-chunk.result c.replace-buffer.result c.requires.spare.domains
    (subst (λ (xs : List ℕ). AreWordsOf c.args.heap.now.roots xs c.copy_words.new.words.items) c.deref.ensures.value c.copy_words.ensures.words) (sym (list-at c.args.replies.now c.args.spare.lane c.replace-told.result (let fits = c.requires.sizes.told in let lt = c.requires.lane in omega arith) (told-at c.args.replies.now c.args.spare.lane c.index-replies-index.result c.replace-told.result c.replace-told.ensures.value c.index-replies-index.is))) c.requires.spare.room.slots_are
    (c.replace-chunk.ensures.value ∙ get_or_read h.chunks lane c.index_mut.result.now chunks c.index_mut.ensures.value no_chunk)
    (c.replace-buffer.ensures.value ∙ get_or_read h.buffers lane c.index_mut-2.result.now buffers c.index_mut-2.ensures.value no_buffer)
    (ap length (ops-at c.args.lanes.now c.args.spare.lane c.index-lanes-index.result c.deref-2.result.now c.requires.lane c.index-lanes-index.is c.deref-2.ensures.value)) c.prepare.ensures.prepared

pub returns-clause-room : goal.returns-clause-room
returns-clause-room c =
    subst (λ (v : Vec Reply Global). length (of_lane (lists_of c.args.lanes.now) c.args.spare.lane) ≤ vec_capacity v) (sym c.prepare.ensures.prepared.replies_are) (c.requires.room c.replace-told.result (told-at c.args.replies.now c.args.spare.lane c.index-replies-index.result c.replace-told.result c.replace-told.ensures.value c.index-replies-index.is))

pub returns-clause-chunks : goal.returns-clause-chunks
returns-clause-chunks c = ap (set c.args.heap.now.chunks.items c.args.spare.lane) c.replace-chunk.ensures.after

pub returns-clause-buffers : goal.returns-clause-buffers
returns-clause-buffers c = ap (set c.args.heap.now.buffers.items c.args.spare.lane) c.replace-buffer.ensures.after

pub returns-clause-replies : goal.returns-clause-replies
returns-clause-replies c = ap (set c.args.replies.now c.args.spare.lane) c.replace-told.ensures.after
