-- Each feeder has a region of the front.
use Rattle.std.proofs.Common.{◌≡◌, length, sym, ap, ◌∙◌, arith}
use Rattle.std.proofs.lemmas.List.{length-map}
use Rattle.nvme_front.specs.Ends.{get_place}
use Rattle.nvme_front.specs.Hosts.{feeder_place}
use Rattle.nvme_runs.proofs.runs.settlement.all_submitted.Goals as goal

pub is_left-requires : goal.is_left-requires
is_left-requires c =
    let gets = c.args.parts.now.front.gets in
    let feeders = c.args.parts.now.feeders.items in
    let as_many : length feeders ≡ length gets = sym (length-map feeders feeder_place) ∙ ap length c.requires.fed ∙ length-map gets get_place in
    omega (arith, as_many, c.loop-feeder.invariant.at)
