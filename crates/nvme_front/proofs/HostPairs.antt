-- Hosts that are the other ends of a front's rings are paired with its regions, and have their addresses.
use Rattle.std.proofs.Common.{List, sym, ap}
use Rattle.nvme_entry.specs.declared.submission.Sqe.{Sqe}
use Rattle.nvme_entry.specs.declared.completion.Cqe.{Cqe}
use Rattle.nvme_lane.specs.View.{GetView, PutView}
use Rattle.nvme_lane.specs.Feeder.{put_of}
use Rattle.nvme_lane.specs.Drainer.{get_of}
use Rattle.nvme_lane.specs.declared.feeder.Feeder.{Feeder}
use Rattle.nvme_lane.specs.declared.drainer.Drainer.{Drainer}
use Rattle.nvme_front.specs.Ends.{get_place, put_place}
use Rattle.nvme_front.specs.View.{FrontView}
use Rattle.nvme_front.specs.Hosts.{ArePaired, AreHosts, IsFedBy, IsDrainedBy, feeder_place, drainer_place}
use Rattle.nvme_front.proofs.Hosted.{seen_at, seen_length, seen_same}

-- hosts with the other ends of a front's rings are paired with its regions
pub paired : (v : FrontView) (feeders : List (Feeder Sqe)) (drainers : List (Drainer Cqe)) → IsFedBy v feeders → IsDrainedBy v drainers → ArePaired v feeders drainers
paired v feeders drainers fed drained = record {
  sqs = λ r f g l l' e.
      let s = seen_at feeder_place get_place feeders v.gets fed r l f g in
      (ap (λ z. z.0) s, ap (λ z. z.1) s, ap (λ z. z.2) s);
  cqs = λ c d p l l' e.
      let s = seen_at drainer_place put_place drainers v.puts drained c l d p in
      (sym (ap (λ z. z.0) s), sym (ap (λ z. z.1) s), sym (ap (λ z. z.2) s));
}

-- hosts with the other ends of a front's rings have the addresses of its regions
pub hosts_are : (v : FrontView) (feeders : List (Feeder Sqe)) (drainers : List (Drainer Cqe)) → IsFedBy v feeders → IsDrainedBy v drainers → AreHosts v feeders drainers
hosts_are v feeders drainers fed drained = record {
  feeders_are =
      seen_same (λ (f : Feeder Sqe). (put_of f).address) (λ (g : GetView Sqe). g.address) feeders v.gets (seen_length feeder_place get_place feeders v.gets fed)
      (λ k f g l. ap (λ z. z.1) (seen_at feeder_place get_place feeders v.gets fed k l f g));
  drainers_are =
      seen_same (λ (d : Drainer Cqe). (get_of d).address) (λ (p : PutView Cqe). p.address) drainers v.puts (seen_length drainer_place put_place drainers v.puts drained)
      (λ k d p l. ap (λ z. z.1) (seen_at drainer_place put_place drainers v.puts drained k l d p));
}
