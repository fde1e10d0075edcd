-- A front to which the regions of a workload were added, with its hosts and its workers.
use Rattle.std.proofs.Common.{◌≡◌, ◌≢◌, ℕ, ◌≤◌, List, [], ◌++◌, length, map, reverse, get_or, sym, ap, ◌∙◌, subst, arith}
use Rattle.std.specs.List.{AllPairs, AllZip}
use Rattle.std.proofs.lemmas.List.{length-map}
use Rattle.std.proofs.lemmas.Simd.{map-map}
use Rattle.nvme_entry.specs.declared.submission.Sqe.{Sqe}
use Rattle.nvme_entry.specs.declared.completion.Cqe.{Cqe}
use Rattle.nvme_lane.specs.View.{GetView, PutView, RingName}
use Rattle.nvme_lane.specs.Feeder.{script_of}
use Rattle.nvme_lane.specs.declared.feeder.Feeder.{Feeder}
use Rattle.nvme_lane.specs.declared.drainer.Drainer.{Drainer}
use Rattle.nvme_pool.specs.Pool.{IsPool, IsBlank}
use Rattle.nvme_pool.specs.Seat.{SeatView}
use Rattle.nvme_admin.specs.declared.bounds.TheConstants.{MAX_REGIONS}
use Rattle.nvme_admin.specs.History.{TableStep, RegionAdded, Submission, Completion}
use Rattle.nvme_workload.specs.declared.plan.SqPlan.{SqPlan}
use Rattle.nvme_workload.specs.declared.plan.CqPlan.{CqPlan}
use Rattle.nvme_workload.specs.Plan.{Plan}
use Rattle.nvme_workload.specs.Sound.{AreApart}
use Rattle.nvme_front.specs.declared.front.FrontConfig.{FrontConfig}
use Rattle.nvme_front.specs.declared.settlement.Parts.{Parts}
use Rattle.nvme_front.specs.Ends.{get_place, put_place}
use Rattle.nvme_front.specs.Hosts.{drainer_place}
use Rattle.nvme_front.specs.Regions.{sq_steps, cq_steps}
use Rattle.nvme_front.specs.View.{FrontView}
use Rattle.nvme_runs.specs.Runs.{sq_additions, cq_additions}
use Rattle.nvme_threads.specs.Hosts.{feeder_seen}
use Rattle.nvme_threads.specs.declared.loaded_rings.SqEnds.{SqEnds}
use Rattle.nvme_runs.specs.inside.Prepared.{IsPrepared, IsRingOf, AddsSqs, AddsCqs, AddsRegions, IsConfigOf, IsFrontOf, seen_in, sq_site, cq_site, get_site, put_site}
use Rattle.nvme_runs.proofs.Adding.{fresh_then, ring_addresses}
use Rattle.nvme_runs.proofs.Rings.{one_place, seen_at, zip_maps}

-- the steps of a front's submission regions are the additions of those of the workload
sq_steps_are : (gets : List (GetView Sqe)) (plans : List SqPlan) → map get_site gets ≡ map sq_site plans → sq_steps gets ≡ sq_additions plans
sq_steps_are gets plans sites =
    let step : ℕ × ℕ → TableStep = λ z. RegionAdded Submission z.0 z.1 in
    ap (λ zs. reverse zs) (sym (map-map step get_site gets) ∙ ap (λ zs. map step zs) sites ∙ map-map step sq_site plans)

-- the same of completion regions
cq_steps_are : (puts : List (PutView Cqe)) (plans : List CqPlan) → map put_site puts ≡ map cq_site plans → cq_steps puts ≡ cq_additions plans
cq_steps_are puts plans sites =
    let step : ℕ × ℕ → TableStep = λ z. RegionAdded Completion z.0 z.1 in
    ap (λ zs. reverse zs) (sym (map-map step put_site puts) ∙ ap (λ zs. map step zs) sites ∙ map-map step cq_site plans)

-- lists with equal maps are as long as one another
as_long : {A B C : Type 0} (f : A → C) (g : B → C) (xs : List A) (ys : List B) → map f xs ≡ map g ys → length xs ≡ length ys
as_long f g xs ys same = sym (length-map xs f) ∙ ap (λ zs. length zs) same ∙ length-map ys g

-- the addresses of a front's submission regions are those of the rings that were added, so they and others are as apart
pub gets_apart : (v : FrontView) (rings : List SqEnds) (plans : List CqPlan) → map get_place v.gets ≡ map (λ (e : SqEnds). get_place e.get) rings
    → AllPairs (λ (a b : ℕ). a ≢ b) (map (λ (e : SqEnds). e.get.address) rings ++ map (λ (c : CqPlan). c.address) plans)
    → AllPairs (λ (a b : ℕ). a ≢ b) (map (λ (g : GetView Sqe). g.address) v.gets ++ map (λ (c : CqPlan). c.address) plans)
gets_apart v rings plans places apart =
    subst (λ zs. AllPairs (λ (a b : ℕ). a ≢ b) zs) (sym (λ i. ring_addresses v rings places i ++ map (λ (c : CqPlan). c.address) plans)) apart

-- the sites of rings are those of their workload
pub ring_sites : (v : FrontView) (rings : List SqEnds) (plans : List SqPlan) → map get_place v.gets ≡ map (λ (e : SqEnds). get_place e.get) rings → AllZip IsRingOf plans rings
    → map get_site v.gets ≡ map sq_site plans
ring_sites v rings plans places are =
    let site : RingName × ℕ × ℕ → ℕ × ℕ = λ z. (z.1, z.2) in
    sym (map-map site get_place v.gets) ∙ ap (map site) places ∙ map-map site (λ (e : SqEnds). get_place e.get) rings
    ∙ zip_maps IsRingOf sq_site (λ (e : SqEnds). get_site e.get) (λ p e is i. (is.address i, is.slots i)) plans rings are

-- they are as many as its regions may be
pub rings_few : (rings : List SqEnds) (plans all : List SqPlan) → all ≡ plans → AllZip IsRingOf all rings → length plans ≤ MAX_REGIONS → length rings ≤ MAX_REGIONS
rings_few rings plans all is_all are few =
    let same : length rings ≡ length all = as_long (λ (e : SqEnds). e.get.address) (λ (s : SqPlan). s.address) rings all
    (zip_maps IsRingOf (λ (s : SqPlan). s.address) (λ (e : SqEnds). e.get.address) (λ p e is. is.address) all rings are) in
    subst (λ k. k ≤ MAX_REGIONS) (sym (same ∙ ap (λ ps. length ps) is_all)) few

-- the addresses of the rings of a workload and of its completion regions are apart
pub regions_apart : (rings : List SqEnds) (plans all : List SqPlan) (completions made : List CqPlan) → all ≡ plans → AllZip IsRingOf all rings → made ≡ completions
    → AreApart plans completions
    → AllPairs (λ (a b : ℕ). a ≢ b) (map (λ (e : SqEnds). e.get.address) rings ++ map (λ (c : CqPlan). c.address) made)
regions_apart rings plans all completions made is_all are is_made apart =
    let same = zip_maps IsRingOf (λ (s : SqPlan). s.address) (λ (e : SqEnds). e.get.address) (λ p e is. is.address) all rings are ∙ ap (map (λ (s : SqPlan). s.address)) is_all in
    subst (λ zs. AllPairs (λ (a b : ℕ). a ≢ b) zs) (sym (λ i. same i ++ map (λ (c : CqPlan). c.address) (is_made i))) apart

-- regions that were added in two steps
pub both_added : (rings : List SqEnds) (plans : List CqPlan) (feeders : List (Feeder Sqe)) (drainers : List (Drainer Cqe)) (first middle last : FrontView)
    → AddsSqs rings feeders first middle → AddsCqs plans drainers middle last → AddsRegions rings plans feeders drainers first last
both_added rings plans feeders drainers first middle last sqs cqs = record {
  hosts = sqs.hosts;
  gets = ap (λ gs. map get_place gs) cqs.gets ∙ sqs.gets;
  rests = ap (λ gs. map seen_in gs) cqs.gets ∙ sqs.rests;
  puts = cqs.puts;
  sites = cqs.sites;
  stays = fresh_then first middle last sqs.stays cqs.stays;
}

-- a front with the regions of a workload, and with the workers of its pool, is prepared
pub prepared_by : (plan : Plan) (config : FrontConfig) (parts : Parts) (rings : List SqEnds) (seat : SeatView) → IsConfigOf plan config
    → IsFrontOf config seat rings plan.completions parts.feeders.items parts.drainers.items parts.front → AllZip IsRingOf plan.submissions rings
    → IsPool parts.lanes seat parts.workers.items → IsBlank seat parts.workers.items → 1 ≤ length plan.submissions → 1 ≤ length plan.completions
    → IsPrepared plan parts
prepared_by plan config parts rings seat is_config is_front are pool blank some_sq some_cq =
    let added = is_front.added in
    let is_new = is_front.is_new in
    let stays = added.stays in
    let sites : map get_site parts.front.gets ≡ map sq_site plan.submissions = ring_sites parts.front rings plan.submissions added.gets are in
    let handed = stays.hands ∙ is_new.hands in
    let seated : parts.front.hands.seat ≡ seat = ap (λ h. h.seat) handed in
    let regions = stays.regions ∙ (λ i. cq_steps_are parts.front.puts plan.completions added.sites i ++ sq_steps_are parts.front.gets plan.submissions sites i) in
    let mechanism_is = stays.mechanism ∙ is_new.mechanism ∙ is_config.mechanism in
    let start_is = stays.start ∙ is_new.start ∙ (λ i. record { nsq = is_config.nsq i; ncq = is_config.ncq i; settings = is_config.settings i }) in
    let sizes_are = stays.sizes ∙ is_new.sizes ∙ is_config.sizes in record {
      rules = λ i. record { mechanism = mechanism_is i; start = start_is i; sizes = sizes_are i; regions = regions i };
      log = stays.log;
      not_late = stays.not_late;
      limit = stays.limit ∙ is_new.limit ∙ is_config.limit;
      fed =
          sym (map-map (λ (p : List Sqe × (RingName × ℕ × ℕ)). p.1) feeder_seen parts.feeders.items) ∙ ap (map (λ (p : List Sqe × (RingName × ℕ × ℕ)). p.1)) added.hosts
          ∙ map-map (λ (p : List Sqe × (RingName × ℕ × ℕ)). p.1) (λ (e : SqEnds). feeder_seen e.feeder) rings ∙ one_place rings plan.submissions are ∙ sym added.gets;
      drained = sym added.puts;
      scripts =
          sym (map-map (λ (p : List Sqe × (RingName × ℕ × ℕ)). p.0) feeder_seen parts.feeders.items) ∙ ap (map (λ (p : List Sqe × (RingName × ℕ × ℕ)). p.0)) added.hosts
          ∙ map-map (λ (p : List Sqe × (RingName × ℕ × ℕ)). p.0) (λ (e : SqEnds). feeder_seen e.feeder) rings
          ∙ zip_maps IsRingOf (λ (s : SqPlan). s.script) (λ (e : SqEnds). script_of e.feeder) (λ p e is. is.script) plan.submissions rings are;
      rests = λ r. seen_at parts.front.gets r ∙ ap (λ zs. get_or zs r []) added.rests;
      lists = sym (as_long put_place drainer_place parts.front.puts parts.drainers.items added.puts) ∙ as_long put_site cq_site parts.front.puts plan.completions added.sites;
      pool = record {
        pool = subst (λ (s : SeatView). IsPool parts.lanes s parts.workers.items) (sym seated) pool;
        none_before = ap (λ h. h.came.handed) handed ∙ blank.handed;
      };
      blank = subst (λ (s : SeatView). IsBlank s parts.workers.items) (sym seated) blank;
      admin_sq = omega (arith, as_long get_site sq_site parts.front.gets plan.submissions sites);
      admin_cq = omega (arith, as_long put_site cq_site parts.front.puts plan.completions added.sites);
    }
