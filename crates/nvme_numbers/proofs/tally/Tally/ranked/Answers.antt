use Rattle.std.proofs.Common.{◌≡◌, length, arith}
use Rattle.std.proofs.lemmas.List.Sorted.{length_permutation}
use Rattle.nvme_latency.specs.Times.{ranked_times, times_of}
use Rattle.nvme_numbers.proofs.tally.Tally.ranked.Goals as goal

pub invariant_of-result : goal.invariant_of-result
invariant_of-result c =
    let t = c.args.self in
    let size : length (ranked_times c.ranked.result) ≡ length (times_of t.latencies) =
    length_permutation (times_of t.latencies) (ranked_times c.ranked.result) c.ranked.ensures in
    record {
      bytes_within = omega (arith, size, t.bytes_within);
      host_within = omega (arith, size, t.host_within);
      arbitration_within = omega (arith, size, t.arbitration_within);
      device_within = omega (arith, size, t.device_within);
      service_within = omega (arith, size, t.service_within);
    }
