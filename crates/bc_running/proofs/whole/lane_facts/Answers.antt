use Rattle.std.proofs.Common.{List, subst}
use Rattle.bc_whole_heap.proofs.ChunkLemmas.{AreApart-laid}
use Rattle.bc_cycle.specs.Emptying.{heap_view}
use Rattle.bc_nursery.specs.Nurseries.{Nursery}
use Rattle.bc_mutator.specs.Objects.{AreWhole}
use Rattle.bc_mutator.proofs.ObjectLemmas.{LieBehind-laid}
use Rattle.bc_running.proofs.whole.lane_facts.Goals as goal

pub returns : goal.returns
returns c =
    let h = heap_view c.args.heap.now in
    let run = c.requires.running in
    let whole : AreWhole h.chunks = subst (λ (cs : List Nursery). AreWhole cs) c.deref.ensures.value c.heap_facts.ensures.whole in
    record {
      ready = record {
        running = run;
        layout = c.heap_facts.ensures.layout;
        few_domains = c.heap_facts.ensures.domains;
        lane_within = c.requires.lane;
        whole = whole;
        apart = AreApart-laid _ run.laid.0 h.chunks run.laid.1 whole;
        behind = LieBehind-laid h.space run.laid.0 h.chunks c.args.lane run.laid.1 c.requires.lane (whole c.args.lane c.requires.lane);
      };
    }
