use Rattle.std.proofs.Common.{ℕ, List, length, set, Vec, vec_capacity, refl, ap, sym, subst, ◌∙◌, arith}
use Rattle.std.specs.declared.alloc.Global.{Global}
use Rattle.std.proofs.lemmas.List.{map-set}
use Rattle.bc_model.specs.Rows.{lists_of}
use Rattle.bc_model.specs.declared.operations.Reply.{Reply}
use Rattle.bc_nursery.specs.Entries.{Entries}
use Rattle.bc_nursery.specs.Nurseries.{Nursery}
use Rattle.bc_turn.specs.Taking.{LaysDomains, MayLay}
use Rattle.bc_turn.proofs.RoomLemmas.{spare-back}
use Rattle.bc_turn.proofs.WordLemmas.{lays-words, may-lay}
use Rattle.bc_turn.proofs.ending.end_lane.Goals as goal

pub lay_words-requires : goal.lay_words-requires
lay_words-requires c =
    let done = c.finish-domains.ensures.finished in
    subst (λ (ds : List ℕ). MayLay c.args.heap.now.roots ds c.deref-2.result.now) (sym (c.deref.ensures.value ∙ ap (λ (v : Vec ℕ Global). v.items) done.domains))
    (subst (λ (ws : List ℕ). MayLay c.args.heap.now.roots c.args.run.turn.part.domains.items ws) (sym (c.deref-2.ensures.value ∙ ap (λ (v : Vec ℕ Global). v.items) done.words))
    (may-lay c.args.run.turn.part.holders.items c.args.run.turn.part c.args.heap.now.roots c.requires.right))

pub index_mut-requires : goal.index_mut-requires
index_mut-requires c =
    let lt = c.requires.sizes.1 in
    let fits = c.requires.sizes.2.chunks in
    let lane = c.lane-lane.ensures.lane in
    let long = c.args.heap.now.chunks.ok.0 in
    omega arith

pub index_mut-requires-2 : goal.index_mut-requires-2
index_mut-requires-2 c =
    let lt = c.requires.sizes.1 in
    let fits = c.requires.sizes.2.buffers in
    let lane = c.lane-lane.ensures.lane in
    let long = c.args.heap.now.buffers.ok.0 in
    omega arith

pub bounds-serials-index : goal.bounds-serials-index
bounds-serials-index c =
    let lt = c.requires.sizes.1 in
    let fits = c.requires.sizes.2.births in
    let lane = c.lane-lane.ensures.lane in
    omega arith

pub bounds-replies-index : goal.bounds-replies-index
bounds-replies-index c =
    let lt = c.requires.sizes.1 in
    let fits = c.requires.sizes.2.told in
    let lane = c.lane-lane.ensures.lane in
    omega arith

pub returns-clause-back : goal.returns-clause-back
returns-clause-back c =
    let done = c.finish-domains.ensures.finished in
    let part = c.args.run.turn.part in
    let lane = c.lane-lane.ensures.lane in
    let out = c.finish-domains.result in
    record {
      space = refl;
      roots = lays-words part.holders.items part c.args.heap.now.roots c.lay_words.new.roots c.requires.right
          (subst (λ (ds : List ℕ). LaysDomains c.args.heap.now.roots ds part.words.items (length ds) c.lay_words.new.roots) (c.deref.ensures.value ∙ ap (λ (v : Vec ℕ Global). v.items) done.domains)
          (subst (λ (ws : List ℕ). LaysDomains c.args.heap.now.roots c.deref.result.now ws (length c.deref.result.now) c.lay_words.new.roots) (c.deref-2.ensures.value ∙ ap (λ (v : Vec ℕ Global). v.items) done.words) c.lay_words.ensures));
      chunks = ap (set c.args.heap.now.chunks.items c.lane-lane.result) c.replace-chunk.ensures.after
          ∙ ap (λ (i : ℕ). set c.args.heap.now.chunks.items i out.chunk) lane ∙ ap (λ (x : Nursery). set c.args.heap.now.chunks.items part.lane x) done.chunk;
      buffers = ap (set c.args.heap.now.buffers.items c.lane-lane.result) c.replace-buffer.ensures.after
          ∙ ap (λ (i : ℕ). set c.args.heap.now.buffers.items i out.buffer) lane ∙ ap (λ (x : Entries). set c.args.heap.now.buffers.items part.lane x) done.buffer;
      births = ap (λ (i : ℕ). set c.args.serials.now i out.serial) lane ∙ ap (λ (x : ℕ). set c.args.serials.now part.lane x) done.serial;
      replies = ap (λ (v : Vec Reply Global). lists_of (set c.args.replies.now c.lane-lane.result v)) c.replace-replies.ensures.after
          ∙ map-set (λ (v : Vec Reply Global). v.items) c.args.replies.now c.lane-lane.result out.replies
          ∙ ap (λ (i : ℕ). set (lists_of c.args.replies.now) i out.replies.items) lane ∙ ap (λ (x : Vec Reply Global). set (lists_of c.args.replies.now) part.lane x.items) done.replies;
    }

pub returns-clause-replies : goal.returns-clause-replies
returns-clause-replies c =
    ap (set c.args.replies.now c.lane-lane.result) c.replace-replies.ensures.after
    ∙ ap (λ (i : ℕ). set c.args.replies.now i c.finish-domains.result.replies) c.lane-lane.ensures.lane ∙ ap (λ (x : Vec Reply Global). set c.args.replies.now c.args.run.turn.part.lane x) c.finish-domains.ensures.finished.replies

pub returns-clause-spare : goal.returns-clause-spare
returns-clause-spare c =
    let done = c.finish-domains.ensures.finished in
    let part = c.args.run.turn.part in
    let capacity = c.clear.ensures.capacity in
    let words = ap vec_capacity done.words in
    let long = part.words.ok.0 in
    let most = part.words.ok.1 in
    spare-back part.holders.items part c.args.heap.now.roots _ c.requires.right refl c.lane-lane.ensures.lane done.room done.domains c.clear.ensures.items (omega arith)
