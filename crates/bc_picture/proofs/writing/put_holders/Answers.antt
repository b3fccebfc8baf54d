use Rattle.std.proofs.Common.{◌≡◌, ◌<◌, ◌≤◌, get_or, map, length, sym, ◌∙◌, arith}
use Rattle.std.proofs.lemmas.List.{length-map, get_or-map}
use Rattle.bc_image.specs.Images.{holder_number}
use Rattle.bc_picture.proofs.StreamLemmas.{on-err, puts-start, room-next, breaks-next, puts-next, puts-end}
use Rattle.bc_picture.proofs.writing.put_holders.Goals as goal

pub loop-holder-init : goal.loop-holder-init
loop-holder-init g c = puts-start _

pub put-requires : goal.put-requires
put-requires g c =
    let long : length (map (holder_number c.args.lanes) c.args.holders.now) ≡ length c.args.holders.now = length-map c.args.holders.now (holder_number c.args.lanes) in
    let lt : c.loop-holder.holder-index < length (map (holder_number c.args.lanes) c.args.holders.now) = (let less = c.loop-holder-test.true in omega arith) in
    let is : c.number_of.result ≡ get_or (map (holder_number c.args.lanes) c.args.holders.now) c.loop-holder.holder-index 0 = c.number_of.ensures ∙ sym (get_or-map (holder_number c.args.lanes) c.args.holders.now c.loop-holder.holder-index _ 0 c.loop-holder-test.true) in
    record { room = rw is (room-next _ _ (map (holder_number c.args.lanes) c.args.holders.now) c.loop-holder.holder-index lt c.requires.room c.loop-holder.invariant) }

pub returns-in_err-put-clause-breaks : goal.returns-in_err-put-clause-breaks
returns-in_err-put-clause-breaks g c =
    let long : length (map (holder_number c.args.lanes) c.args.holders.now) ≡ length c.args.holders.now = length-map c.args.holders.now (holder_number c.args.lanes) in
    let lt : c.loop-holder.holder-index < length (map (holder_number c.args.lanes) c.args.holders.now) = (let less = c.loop-holder-test.true in omega arith) in
    let is : c.number_of.result ≡ get_or (map (holder_number c.args.lanes) c.args.holders.now) c.loop-holder.holder-index 0 = c.number_of.ensures ∙ sym (get_or-map (holder_number c.args.lanes) c.args.holders.now c.loop-holder.holder-index _ 0 c.loop-holder-test.true) in
    on-err _ c.from_residual.result (breaks-next _ _ _ (map (holder_number c.args.lanes) c.args.holders.now) c.loop-holder.holder-index lt c.loop-holder.invariant (rw is at c.in_err-put.ensures.breaks))

pub loop-holder-preserved : goal.loop-holder-preserved
loop-holder-preserved g c =
    let long : length (map (holder_number c.args.lanes) c.args.holders.now) ≡ length c.args.holders.now = length-map c.args.holders.now (holder_number c.args.lanes) in
    let lt : c.loop-holder.holder-index < length (map (holder_number c.args.lanes) c.args.holders.now) = (let less = c.loop-holder-test.true in omega arith) in
    let is : c.number_of.result ≡ get_or (map (holder_number c.args.lanes) c.args.holders.now) c.loop-holder.holder-index 0 = c.number_of.ensures ∙ sym (get_or-map (holder_number c.args.lanes) c.args.holders.now c.loop-holder.holder-index _ 0 c.loop-holder-test.true) in
    puts-next _ _ _ (map (holder_number c.args.lanes) c.args.holders.now) c.loop-holder.holder-index lt c.loop-holder.invariant (rw is at c.in_ok-put.ensures.puts)

pub returns-clause-puts : goal.returns-clause-puts
returns-clause-puts g c =
    let long : length (map (holder_number c.args.lanes) c.args.holders.now) ≡ length c.args.holders.now = length-map c.args.holders.now (holder_number c.args.lanes) in
    let le : length (map (holder_number c.args.lanes) c.args.holders.now) ≤ c.loop-holder.holder-index = (let out = c.loop-holder-test.false in omega arith) in
    puts-end _ _ (map (holder_number c.args.lanes) c.args.holders.now) c.loop-holder.holder-index le c.loop-holder.invariant
