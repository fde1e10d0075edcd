-- What a host is, whatever it submitted or collected (profile).
use Rattle.std.specs.Prelude.{◌≡◌, ℕ, List}
use Rattle.nvme_entry.specs.declared.submission.Sqe.{Sqe}
use Rattle.nvme_entry.specs.declared.completion.Cqe.{Cqe}
use Rattle.nvme_lane.specs.View.{RingName, GetView}
use Rattle.nvme_lane.specs.Feeder.{script_of}
use Rattle.nvme_lane.specs.declared.feeder.Feeder.{Feeder}
use Rattle.nvme_lane.specs.declared.drainer.Drainer.{Drainer}
use Rattle.nvme_front.specs.Hosts.{feeder_place, drainer_place}
use Rattle.nvme_threads.specs.declared.loaded_rings.SqEnds.{SqEnds}

-- the script of a feeder, and the end that it has
abbrev pub feeder_seen : Feeder Sqe → List Sqe × (RingName × ℕ × ℕ)
feeder_seen f = (script_of f, feeder_place f)

-- the script and the end of the feeder of a ring, and its other end
abbrev pub ends_seen : SqEnds → (List Sqe × (RingName × ℕ × ℕ)) × GetView Sqe
ends_seen e = (feeder_seen e.feeder, e.get)

-- the end that a drainer has
abbrev pub drainer_seen : Drainer Cqe → RingName × ℕ × ℕ
drainer_seen d = drainer_place d

abbrev pub IsSameFeeder : Feeder Sqe → Feeder Sqe → Type 0
IsSameFeeder a b = feeder_seen b ≡ feeder_seen a

abbrev pub IsSameDrainer : Drainer Cqe → Drainer Cqe → Type 0
IsSameDrainer a b = drainer_seen b ≡ drainer_seen a
