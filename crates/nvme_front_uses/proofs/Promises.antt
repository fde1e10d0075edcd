-- What is settled of a device keeps the promise of a run.
use Rattle.std.proofs.Common.{◌≡◌, ◌<◌, false, [], ◌∷◌, length, refl, ap, arith}
use Rattle.std.proofs.lemmas.List.{length-map}
use Rattle.nvme_entry.specs.declared.submission.Sqe.{Sqe}
use Rattle.nvme_entry.specs.declared.completion.Cqe.{Cqe}
use Rattle.nvme_lane.specs.declared.feeder.Feeder.{Feeder}
use Rattle.nvme_lane.specs.declared.drainer.Drainer.{Drainer}
use Rattle.nvme_log.specs.Laws.{KeepsThePromise}
use Rattle.nvme_log.proofs.Prefixes.{IsPrefix-refl}
use Rattle.nvme_log.proofs.Promise.{whole_promise}
use Rattle.nvme_front.specs.Ends.{get_place, put_place}
use Rattle.nvme_front.specs.Hosts.{IsFedBy, IsDrainedBy, sent_at, collected_at}
use Rattle.nvme_front.specs.Settles.{IsSettled, IsSettledAccount, settled_past}
use Rattle.nvme_front.specs.View.{FrontView}
use Rattle.nvme_front.specs.declared.settled.Settled.{Settled}

-- where each kind has one region, and none was added late, what was submitted is the script of which all was done
pub promise_kept : (v : FrontView) (f : Feeder Sqe) (d : Drainer Cqe) (s : Settled) → IsFedBy v (f ∷ []) → IsDrainedBy v (d ∷ []) → v.late ≡ false → IsSettledAccount v s → IsSettled s
    → KeepsThePromise v.rules (sent_at s.sent.items) (settled_past s) (collected_at s.collected.items)
promise_kept v f d s fed drained in_time account settled =
    let sent = sent_at s.sent.items in
    let sqs : 0 < length v.gets = omega (arith, length-map v.gets get_place, ap length fed) in
    let cqs : 0 < length v.puts = omega (arith, length-map v.puts put_place, ap length drained) in
    whole_promise v.rules false sent sent (settled_past s) (collected_at s.collected.items) (record {
      account = account in_time sqs cqs;
      all_posted = settled.all_posted;
      none_waits = settled.none_waits;
      none_pending = settled.none_pending;
      all_collected = settled.all_collected;
      open_done = λ r opened. record { all_fetched = settled.open_fetched r opened; all_sent = refl };
      sent_in_order = λ r. IsPrefix-refl (sent r);
      loaded_whole = λ loaded r. refl;
    })
