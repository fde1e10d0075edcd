-- The hosts of a front: what feeds its submission rings, and what drains its completion rings (profile).
use Rattle.std.specs.Prelude.{◌≡◌, ℕ, ◌<◌, true, List, [], length, map, take, slice_index_or, Vec}
use Rattle.std.specs.Global.{Global}
use Rattle.nvme_entry.specs.declared.submission.Sqe.{Sqe}
use Rattle.nvme_entry.specs.declared.completion.Cqe.{Cqe}
use Rattle.nvme_lane.specs.View.{GetView, PutView, RingName, IsPair}
use Rattle.nvme_lane.specs.Feeder.{script_of, count_of, put_of}
use Rattle.nvme_lane.specs.Drainer.{items_of, get_of}
use Rattle.nvme_lane.specs.declared.feeder.Feeder.{Feeder}
use Rattle.nvme_lane.specs.declared.drainer.Drainer.{Drainer}
use Rattle.nvme_front.specs.declared.settled.Sent.{Sent}
use Rattle.nvme_log.specs.Queues.{is_open_region}
use Rattle.nvme_front.specs.Ends.{get_place, put_place}
use Rattle.nvme_front.specs.View.{FrontView, past_in, got_in}
use Rattle.nvme_log.specs.Account.{IsClear}

-- which end of which ring a host has
abbrev pub feeder_place : Feeder Sqe → RingName × ℕ × ℕ
feeder_place f = ((put_of f).ring, (put_of f).address, (put_of f).slots)

abbrev pub drainer_place : Drainer Cqe → RingName × ℕ × ℕ
drainer_place d = ((get_of d).ring, (get_of d).address, (get_of d).slots)

-- each host and the front's region at its place are, where their addresses are equal, the two ends of one ring
pub record ArePaired (v : FrontView) (feeders : List (Feeder Sqe)) (drainers : List (Drainer Cqe)) : Type 0 where
  pub sqs : (r : ℕ) (f : Feeder Sqe) (g : GetView Sqe) → r < length feeders → r < length v.gets
      → (put_of (slice_index_or feeders r f)).address ≡ (slice_index_or v.gets r g).address
      → IsPair (put_of (slice_index_or feeders r f)) (slice_index_or v.gets r g)
  pub cqs : (c : ℕ) (d : Drainer Cqe) (p : PutView Cqe) → c < length drainers → c < length v.puts
      → (get_of (slice_index_or drainers c d)).address ≡ (slice_index_or v.puts c p).address
      → IsPair (slice_index_or v.puts c p) (get_of (slice_index_or drainers c d))

-- the addresses of the hosts are those of the front's regions, in region order
pub record AreHosts (v : FrontView) (feeders : List (Feeder Sqe)) (drainers : List (Drainer Cqe)) : Type 0 where
  pub feeders_are : map (λ (f : Feeder Sqe). (put_of f).address) feeders ≡ map (λ (g : GetView Sqe). g.address) v.gets
  pub drainers_are : map (λ (d : Drainer Cqe). (get_of d).address) drainers ≡ map (λ (p : PutView Cqe). p.address) v.puts

-- what a feeder submitted of its script, as the pair of the script and the count
abbrev pub told : Feeder Sqe → List Sqe × ℕ
told f = (script_of f, count_of f)

abbrev pub told_by : Sent → List Sqe × ℕ
told_by s = (s.script.items, s.count)

-- what was submitted to a submission region, by its feeder, and by what is left of it: the first items of the script
abbrev pub submitted_at : List (Feeder Sqe) → ℕ → List Sqe
submitted_at feeders r = slice_index_or (map (λ (f : Feeder Sqe). take (count_of f) (script_of f)) feeders) r []

abbrev pub sent_at : List Sent → ℕ → List Sqe
sent_at sent r = slice_index_or (map (λ (s : Sent). take s.count s.script.items) sent) r []

-- how many places of a submission region its feeder knows to be free
abbrev pub free_at : List (Feeder Sqe) → ℕ → ℕ
free_at feeders r = slice_index_or (map (λ (f : Feeder Sqe). (put_of f).free) feeders) r 0

-- what was taken from a completion region, by its drainer, and by what is left of it
abbrev pub taken_at : List (Drainer Cqe) → ℕ → List Cqe
taken_at drainers c = slice_index_or (map (λ (d : Drainer Cqe). items_of d) drainers) c []

abbrev pub collected_at : List (Vec Cqe Global) → ℕ → List Cqe
collected_at collected c = slice_index_or (map (λ (v : Vec Cqe Global). v.items) collected) c []

-- the front is clear, and no command rests in the ring of an open queue: all that was submitted to it was got
pub record IsAtRest (v : FrontView) (feeders : List (Feeder Sqe)) : Type 0 where
  pub clear : IsClear (past_in v)
  pub none_rests : (r : ℕ) → is_open_region (past_in v) r ≡ true → got_in v r ≡ submitted_at feeders r

-- each feeder is the other end of the submission ring at its place, and each drainer that of the completion ring at its place
abbrev pub IsFedBy : FrontView → List (Feeder Sqe) → Type 0
IsFedBy v feeders = map feeder_place feeders ≡ map get_place v.gets

abbrev pub IsDrainedBy : FrontView → List (Drainer Cqe) → Type 0
IsDrainedBy v drainers = map drainer_place drainers ≡ map put_place v.puts
