use Rattle.std.proofs.Common.{◌≡◌, ◌+◌, ◌∙◌, ap, List, ℕ, length, arith}
use Rattle.std.proofs.lemmas.List.{length_push}
use Rattle.nvme_latency.specs.Times.{times_of}
use Rattle.nvme_numbers.proofs.tally.Tally.add.Goals as goal

pub invariant_of-self-2 : goal.invariant_of-self-2
invariant_of-self-2 c =
    let t = c.args.self.now in
    let size : length (times_of c.add.new.self) ≡ length (times_of t.latencies) + 1 =
    ap (λ (v : List ℕ). length v) c.in_ok-add.ensures.ok ∙ length_push (times_of t.latencies) c.latency.result in
    let more = c.with-self.ensures.little in
    record {
      bytes_within = omega (arith, size, t.bytes_within, more.bytes);
      host_within = omega (arith, size, t.host_within, more.host);
      arbitration_within = omega (arith, size, t.arbitration_within, more.arbitration);
      device_within = omega (arith, size, t.device_within, more.device);
      service_within = omega (arith, size, t.service_within, more.service);
    }
