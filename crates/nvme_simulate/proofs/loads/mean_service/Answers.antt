use Rattle.std.proofs.Common.{ℕ, ◌*◌, ◌^◌, ◌<◌, ◌≤◌, lit≤, arith}
use Rattle.nvme_model_form.specs.Views.{spread_of, taking_of}
use Rattle.nvme_simulate.specs.Loads.{mean_of, mean_taken}
use Rattle.nvme_simulate.proofs.Mixes.{mean_by_shares, mean_of_same}
use Rattle.nvme_simulate.proofs.loads.mean_service.Goals as goal

-- a service is below this, and the greatest number of 128 bits
abbrev longer : ℕ
longer = 2 ^ 64 * 65537

abbrev greatest : ℕ
greatest = 0xffff_ffff_ffff_ffff_ffff_ffff_ffff_ffff

pub returns : goal.returns
returns c =
    let queue = c.args.queue.now in
    let blocks = queue.places.extent.blocks in
    let few : queue.places.extent.blocks ≤ 65536 = omega arith in
    let reads : c.service_of.result < longer = omega (arith, c.service_of.ensures.below) in
    let writes : c.service_of-2.result < longer = omega (arith, c.service_of-2.ensures.below) in
    let flushes : c.mean_of.result < longer = omega (arith, c.mean_of.ensures.below) in
    let read : c.from-read.result < 2 ^ 32 = omega arith in
    let write : c.from-write.result < 2 ^ 32 = omega arith in
    let flush : c.from-flush.result < 2 ^ 32 = omega arith in
    mean_of_same c.service_of.result c.service_of-2.result c.mean_of.result c.from-read.result c.from-write.result c.from-flush.result
    (mean_taken (taking_of queue.services.read) blocks) (mean_taken (taking_of queue.services.write) blocks) (mean_of (spread_of queue.services.flush))
    queue.mix.read queue.mix.write queue.mix.flush c.part.result
    (mean_by_shares greatest longer (2 ^ 32) c.service_of.result c.service_of-2.result c.mean_of.result c.from-read.result c.from-write.result c.from-flush.result
    c.saturating_mul-reads.result c.saturating_mul-writes.result c.saturating_mul-flushes.result c.saturating_add.result c.saturating_add-sum.result
    c.saturating_add-2.result c.saturating_add-3.result c.part.result reads writes flushes read write flush (lit≤ tt) (lit≤ tt)
    c.saturating_mul-reads.ensures c.saturating_mul-writes.ensures c.saturating_mul-flushes.ensures c.saturating_add.ensures c.saturating_add-sum.ensures
    c.saturating_add-2.ensures c.saturating_add-3.ensures c.part.ensures)
    c.service_of.ensures.value c.service_of-2.ensures.value c.mean_of.ensures.value c.from-read.ensures c.from-write.ensures c.from-flush.ensures
