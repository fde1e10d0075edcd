-- A front with its hosts and workers that was made for a workload. (profile)
use Rattle.std.specs.Prelude.{◌≡◌, ℕ, ◌<◌, false, List, [], ◌∷◌, ◌++◌, length, map, take}
use Rattle.nvme_entry.specs.declared.submission.Sqe.{Sqe}
use Rattle.nvme_entry.specs.declared.completion.Cqe.{Cqe}
use Rattle.nvme_lane.specs.View.{GetView, PutView}
use Rattle.nvme_lane.specs.Feeder.{script_of, count_of}
use Rattle.nvme_lane.specs.Drainer.{get_of}
use Rattle.nvme_lane.specs.declared.feeder.Feeder.{Feeder}
use Rattle.nvme_lane.specs.declared.drainer.Drainer.{Drainer}
use Rattle.nvme_pool.specs.Pool.{IsBlank}
use Rattle.nvme_pool.specs.Seat.{SeatView}
use Rattle.nvme_workload.specs.declared.plan.SqPlan.{SqPlan}
use Rattle.nvme_workload.specs.declared.plan.CqPlan.{CqPlan}
use Rattle.nvme_workload.specs.Plan.{Plan}
use Rattle.nvme_log.specs.Limits.{most_events}
use Rattle.nvme_front.specs.declared.front.FrontConfig.{FrontConfig}
use Rattle.nvme_front.specs.declared.settlement.Parts.{Parts}
use Rattle.nvme_front.specs.Ends.{get_place, put_place}
use Rattle.nvme_front.specs.Hosts.{IsFedBy, IsDrainedBy, feeder_place, drainer_place, submitted_at}
use Rattle.nvme_front.specs.Settles.{HasItsPool}
use Rattle.nvme_front.specs.View.{FrontView, HasItsRegions, got_in, known_in}
use Rattle.nvme_threads.specs.Hosts.{feeder_seen}
use Rattle.nvme_threads.specs.declared.loaded_rings.SqEnds.{SqEnds}
use Rattle.nvme_runs.specs.Runs.{rules_for}

-- a front that did nothing has a region more, and nothing else changed
pub record StaysFresh (old new : FrontView) : Type 0 where
  pub log : new.log ≡ []
  pub not_late : new.late ≡ false
  pub mechanism : new.rules.mechanism ≡ old.rules.mechanism
  pub start : new.rules.start ≡ old.rules.start
  pub sizes : new.rules.sizes ≡ old.rules.sizes
  pub regions : HasItsRegions new
  pub hands : new.hands ≡ old.hands
  pub limit : new.limit ≡ old.limit

-- the two ends are those of one ring, and nothing was got
pub record IsFreshRing (ends : SqEnds) : Type 0 where
  pub pair : feeder_place ends.feeder ≡ get_place ends.get
  pub nothing_got : ends.get.got ≡ []

-- so it is, and the ring is that of a submission region of a workload, with the script of its host
pub record IsRingOf (plan : SqPlan) (ends : SqEnds) : Type 0 where
  pub fresh : IsFreshRing ends
  pub address : ends.get.address ≡ plan.address
  pub slots : ends.get.slots ≡ plan.slots
  pub script : script_of ends.feeder ≡ plan.script

-- what was got of a submission ring, and what is known to rest in it
abbrev pub seen_in : GetView Sqe → List Sqe
seen_in g = g.got ++ g.known

-- what a feeder submitted of its script
abbrev pub sent_by : Feeder Sqe → List Sqe
sent_by f = take (count_of f) (script_of f)

-- the region is the last of its kind, the host has the other end of its ring, and what rests in it is known
pub record AddsSq (ends : SqEnds) (f : Feeder Sqe) (old new : FrontView) : Type 0 where
  pub host : feeder_seen f ≡ feeder_seen ends.feeder
  pub gets : map get_place new.gets ≡ map get_place old.gets ++ get_place ends.get ∷ []
  pub rests : map seen_in new.gets ≡ map seen_in old.gets ++ sent_by f ∷ []
  pub puts : new.puts ≡ old.puts
  pub stays : StaysFresh old new

pub record AddsCq (address slots : ℕ) (d : Drainer Cqe) (old new : FrontView) : Type 0 where
  pub puts : map put_place new.puts ≡ map put_place old.puts ++ drainer_place d ∷ []
  pub gets : new.gets ≡ old.gets
  pub address_is : (get_of d).address ≡ address
  pub slots_are : (get_of d).slots ≡ slots
  pub stays : StaysFresh old new

-- where a region is: its address, and its slots
abbrev pub sq_site : SqPlan → ℕ × ℕ
sq_site s = (s.address, s.slots)

abbrev pub cq_site : CqPlan → ℕ × ℕ
cq_site c = (c.address, c.slots)

abbrev pub get_site : GetView Sqe → ℕ × ℕ
get_site g = (g.address, g.slots)

abbrev pub put_site : PutView Cqe → ℕ × ℕ
put_site p = (p.address, p.slots)

-- the regions of rings were added, in order, each host has the other end of its region's ring, and what rests in it is known
pub record AddsSqs (rings : List SqEnds) (feeders : List (Feeder Sqe)) (old new : FrontView) : Type 0 where
  pub hosts : map feeder_seen feeders ≡ map (λ (e : SqEnds). feeder_seen e.feeder) rings
  pub gets : map get_place new.gets ≡ map (λ (e : SqEnds). get_place e.get) rings
  pub rests : map seen_in new.gets ≡ map sent_by feeders
  pub puts : new.puts ≡ old.puts
  pub stays : StaysFresh old new

pub record AddsCqs (plans : List CqPlan) (drainers : List (Drainer Cqe)) (old new : FrontView) : Type 0 where
  pub puts : map put_place new.puts ≡ map drainer_place drainers
  pub sites : map put_site new.puts ≡ map cq_site plans
  pub gets : new.gets ≡ old.gets
  pub stays : StaysFresh old new

-- the regions of rings were added and then those of these plans, each host has the other end of its region's ring, and what rests in it is known
pub record AddsRegions (rings : List SqEnds) (plans : List CqPlan) (feeders : List (Feeder Sqe)) (drainers : List (Drainer Cqe)) (old new : FrontView) : Type 0 where
  pub hosts : map feeder_seen feeders ≡ map (λ (e : SqEnds). feeder_seen e.feeder) rings
  pub gets : map get_place new.gets ≡ map (λ (e : SqEnds). get_place e.get) rings
  pub rests : map seen_in new.gets ≡ map sent_by feeders
  pub puts : map put_place new.puts ≡ map drainer_place drainers
  pub sites : map put_site new.puts ≡ map cq_site plans
  pub stays : StaysFresh old new

-- a front has what it was given, and nothing was added to it
pub record IsNewFront (config : FrontConfig) (seat : SeatView) (front : FrontView) : Type 0 where
  pub mechanism : front.rules.mechanism ≡ config.mechanism
  pub start : front.rules.start ≡ record { nsq = config.limits.nsq; ncq = config.limits.ncq; settings = config.settings }
  pub sizes : front.rules.sizes ≡ config.spaces
  pub hands : front.hands ≡ record { came = seat; seat = seat; unhanded = []; running = [] }
  pub limit : front.limit ≡ config.max_events

-- such a front, to which the regions of rings and of plans were added
pub record IsFrontOf (config : FrontConfig) (seat : SeatView) (rings : List SqEnds) (plans : List CqPlan) (feeders : List (Feeder Sqe)) (drainers : List (Drainer Cqe)) (front : FrontView) : Type 0 where
  pub first : FrontView
  pub is_new : IsNewFront config seat first
  pub added : AddsRegions rings plans feeders drainers first front

-- what a front of a workload is given
pub record IsConfigOf (plan : Plan) (config : FrontConfig) : Type 0 where
  pub mechanism : config.mechanism ≡ plan.mechanism
  pub settings : config.settings ≡ plan.settings
  pub nsq : config.limits.nsq ≡ plan.nsq
  pub ncq : config.limits.ncq ≡ plan.ncq
  pub sizes : config.spaces ≡ plan.sizes
  pub limit : config.max_events ≡ most_events

-- the parts of a run before it begins
pub record IsPrepared (plan : Plan) (parts : Parts) : Type 0 where
  pub rules : parts.front.rules ≡ rules_for plan
  pub log : parts.front.log ≡ []
  pub not_late : parts.front.late ≡ false
  pub limit : parts.front.limit ≡ most_events
  pub fed : IsFedBy parts.front parts.feeders.items
  pub drained : IsDrainedBy parts.front parts.drainers.items
  pub scripts : map (λ (f : Feeder Sqe). script_of f) parts.feeders.items ≡ map (λ (s : SqPlan). s.script) plan.submissions
  -- what a feeder submitted is known to rest in its ring
  pub rests : (r : ℕ) → got_in parts.front r ++ known_in parts.front r ≡ submitted_at parts.feeders.items r
  pub lists : length parts.drainers.items ≡ length plan.completions
  pub pool : HasItsPool parts
  pub blank : IsBlank parts.front.hands.seat parts.workers.items
  pub admin_sq : 0 < length parts.front.gets
  pub admin_cq : 0 < length parts.front.puts
