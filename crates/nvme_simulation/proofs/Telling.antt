-- When commands are picked.
use Rattle.std.proofs.Common.{◌≡◌, ◌≢◌, ◌∙◌, ◌≤◌, ◌<◌, ℕ, zero, suc, ◌+◌, Bool, true, false, Option, Some, None, refl, sym, ap, subst, arith, inl, inr}
use Rattle.std.specs.Prelude.{slice_get}
use Rattle.std.proofs.lemmas.Bool.{cases_eq}
use Rattle.nvme_simulation.specs.Following.{DrawsNext, IsNextOf, PlansIf}
use Rattle.nvme_simulation.specs.Moving.{HostMoves, StartsIn}
use Rattle.nvme_simulation.specs.Planning.{ArrivalPlans, StepPlans}
use Rattle.nvme_simulation.specs.Passing.{Passes}
use Rattle.nvme_simulation.specs.Progress.{Between, BetweenOne}
use Rattle.nvme_simulation.specs.Resting.{HostRests}
use Rattle.nvme_simulation.specs.Rings.{Hears, OneHears}
use Rattle.nvme_simulation.specs.Runs.{stages_by}
use Rattle.nvme_simulation.specs.Simulations.{counts_next, hosts_of, may_come_to, time_of}
use Rattle.nvme_simulation.specs.Stepping.{HasStepped}
use Rattle.nvme_simulation.specs.Taking.{TakesAll}
use Rattle.nvme_simulation.specs.Telling.{IsPickedIn, PicksAreTold, TellsPickOf}
use Rattle.nvme_simulation.specs.declared.channels.Started.{Started}
use Rattle.nvme_simulation.specs.declared.flight.Stage.TheVariants.{Picked}
use Rattle.nvme_simulation.specs.declared.happening.Happening.{Happening}
use Rattle.nvme_simulation.specs.declared.happening.Happening.TheVariants as told
use Rattle.nvme_simulation.specs.declared.host.Host.{Host}
use Rattle.nvme_simulation.specs.declared.hosts.Hosts.{Hosts}
use Rattle.nvme_simulation.specs.declared.machine.Machine.{Machine}
use Rattle.nvme_simulation.specs.declared.simulation.Simulation.{Simulation}
use Rattle.nvme_simulation.proofs.Resting.{below}
use Rattle.nvme_simulation.proofs.Runs.{host_at}

-- a command of the host at a place isn't picked
abbrev Unpicked : (n : ℕ) → (before after : Option Host) → Type 0
Unpicked n before after = 4 ≤ stages_by after n → 4 ≤ stages_by before n

abbrev UnpickedAt : (k n : ℕ) → (before after : Hosts) → Type 0
UnpickedAt k n a b = Unpicked n (slice_get a.all.items k) (slice_get b.all.items k)

same_one : (n : ℕ) (o p : Option Host) → p ≡ o → Unpicked n o p
same_one n o p same l = subst (λ (q : Option Host). 4 ≤ stages_by q n) same l

same_all : (k n : ℕ) (a b : Hosts) → b ≡ a → UnpickedAt k n a b
same_all k n a b same = same_one n (slice_get a.all.items k) (slice_get b.all.items k) (ap (λ (hs : Hosts). slice_get hs.all.items k) same)

rest_one : (n : ℕ) (o p : Option Host) → Between HostRests o p → Unpicked n o p
rest_one n None None r l = l
rest_one n None (Some w) r l = absurd r
rest_one n (Some h) None r l = absurd r
rest_one n (Some h) (Some w) r l = r.picked n l

hear_one : (sqhd n : ℕ) (o p : Option Host) → BetweenOne (Hears sqhd) o p → Unpicked n o p
hear_one sqhd n None p r l = absurd r
hear_one sqhd n (Some h) None r l = absurd r
hear_one sqhd n (Some h) (Some w) r l = subst (λ (x : Host). 4 ≤ stages_by (Some x) n) r l

start_one : (number now n : ℕ) (o p : Option Host) → BetweenOne (HostMoves number Picked now) o p → Unpicked n o p
start_one number now n None p r l = absurd r
start_one number now n (Some h) None r l = absurd r
start_one number now n (Some h) (Some w) r l = below 4 number now Picked r.flights.0 h.flights w.flights (λ m. omega arith) r.flights.1 n l

draw_one : (time n : ℕ) (next : Option ℕ) (o p : Option Host) → BetweenOne (DrawsNext time next) o p → Unpicked n o p
draw_one time n next None p r l = absurd r
draw_one time n next (Some h) None r l = absurd r
draw_one time n next (Some h) (Some w) r l = subst (λ (x : Host). 4 ≤ stages_by (Some x) n) r.rest l

-- one host changes, and each other one is the same
but_one : (k n place : ℕ) (a b : Hosts) → UnpickedAt place n a b → ((j : ℕ) → j ≢ place → slice_get b.all.items j ≡ slice_get a.all.items j) → UnpickedAt k n a b
but_one k n place a b one others = elim (cases_eq k place) [
  | inl same ↦ subst (λ (j : ℕ). UnpickedAt j n a b) (sym same) one
  | inr other ↦ same_one n (slice_get a.all.items k) (slice_get b.all.items k) (others k other)
]

hears_in : (k n qid sqhd : ℕ) (a b : Hosts) → OneHears qid sqhd a b → UnpickedAt k n a b
hears_in k n qid sqhd a b h = but_one k n h.place a b (hear_one sqhd n (slice_get a.all.items h.place) (slice_get b.all.items h.place) h.hears) h.others

starts_in : (k n now : ℕ) (started : Option Started) (a b : Hosts) → StartsIn started now a b → UnpickedAt k n a b
starts_in k n now None a b same = same_all k n a b same
starts_in k n now (Some s) a b m =
    but_one k n m.place a b (start_one s.command.number now n (slice_get a.all.items m.place) (slice_get b.all.items m.place) m.moves) m.others

follows_in : (k n : ℕ) (goes : Bool) (qid time : ℕ) (a b : Machine) → PlansIf goes qid time a b → UnpickedAt k n a.hosts b.hosts
follows_in k n true qid time a b p =
    let next : IsNextOf qid time (Some p.at) a.hosts b.hosts = p.next in
    but_one k n next.place a.hosts b.hosts
    (draw_one time n (Some p.at) (slice_get a.hosts.all.items next.place) (slice_get b.hosts.all.items next.place) next.draws) next.others
follows_in k n false qid time a b same = same_all k n a.hosts b.hosts (ap (λ (m : Machine). m.hosts) same)

-- of another queue than that of a pick
takes_in : (k n count qid : ℕ) (a b : Machine) → k + 1 ≢ qid → TakesAll count qid a b → UnpickedAt k n a.hosts b.hosts
unfolding TakesAll
takes_in k n zero qid a b other same l = same_all k n a.hosts b.hosts (ap (λ (m : Machine). m.hosts) same) l
takes_in k n (suc count) qid a b other takes l =
    let m : Machine = takes.0 in
    let one = takes.1.1 in
    let elsewhere : k ≢ one.picks.place = λ same. other (ap (λ (j : ℕ). j + 1) same ∙ sym one.picks.queue) in
    let picked = starts_in k n _ one.started one.picked b.hosts one.starts l in
    takes_in k n count qid a m other takes.1.0
    (same_one n (slice_get m.hosts.all.items k) (slice_get one.picked.all.items k) (one.picks.others k elsewhere) picked)

-- of any queue in a step that tells no pick
arrival_in : (k n : ℕ) (may : Bool) (queue : ℕ) (counts more : Bool) (a b : Machine) → ArrivalPlans may queue counts more a b → UnpickedAt k n a.hosts b.hosts
arrival_in k n true queue counts more a b c l =
    let followed = rest_one n (slice_get c.followed.hosts.all.items k) (slice_get b.hosts.all.items k) (c.rests.each k) l in
    rest_one n (slice_get a.hosts.all.items k) (slice_get c.came.all.items k) (c.waits.each k)
    (follows_in k n _ queue _ (record a { hosts = c.came }) c.followed c.plans followed)
arrival_in k n false queue counts more a b same l = same_all k n a.hosts b.hosts (ap (λ (m : Machine). m.hosts) same) l

none_told : (k n : ℕ) (a b : Simulation) → UnpickedAt k n (hosts_of a) (hosts_of b) → IsPickedIn (k + 1) n a b → ⊥
none_told k n a b none picked =
    let is = subst (λ (o : Option Host). 4 ≤ stages_by o n) (host_at (hosts_of b) k) picked.is in
    let was = subst (λ (o : Option Host). stages_by o n < 4) (host_at (hosts_of a) k) picked.was in
    absurd (omega (arith, none is, was))

told_at : (a b : Simulation) (h : Happening) → HasStepped a b h → (k n : ℕ) → IsPickedIn (k + 1) n a b → TellsPickOf (k + 1) h
told_at a b h stepped k n picked = by h stepped.plans stepped.passes where
  by : (h : Happening) → StepPlans h a b → Passes (may_come_to a (time_of b)) (counts_next a) (time_of b) (hosts_of a) (hosts_of b) h → TellsPickOf (k + 1) h
  by (told.Came queue) p passes = absurd (none_told k n a b (arrival_in k n _ queue _ _ (record a.machine { agenda = p.rest }) b.machine p.plans) picked)
  by (told.Finished command counts) p passes =
      let e = p.plans in
      absurd (none_told k n a b (λ l.
      let thought = rest_one n (slice_get e.thought.hosts.all.items k) (slice_get (hosts_of b).all.items k) (e.rests.each k) l in
      let ended = follows_in k n _ command.queue _ e.ended e.thought e.thinks thought in
      let told = rest_one n (slice_get e.ends.told.all.items k) (slice_get e.ended.hosts.all.items k) (e.ends.rests.each k) ended in
      let waited = hears_in k n _ _ e.ends.waited e.ends.told e.ends.completes.hears told in
      starts_in k n _ e.ends.started (hosts_of a) e.ends.waited e.ends.starts waited) picked)
  by (told.Picked pick) p passes = elim (cases_eq pick.pick.qid (k + 1)) [
    | inl same ↦ record { pick = pick; told = refl; queue = same }
    | inr other ↦ absurd (none_told k n a b (λ l.
        let taken = rest_one n (slice_get p.taken.hosts.all.items k) (slice_get (hosts_of b).all.items k) (p.reads.rests.each k) l in
        takes_in k n pick.pick.n pick.pick.qid (record a.machine { front = p.front }) p.taken (λ same. other (sym same)) p.takes taken) picked)
  ]
  by told.Settled p passes = absurd (none_told k n a b (same_all k n (hosts_of a) (hosts_of b) (ap (λ (m : Machine). m.hosts) p)) picked)
  by (told.Paused channel) p passes = absurd (none_told k n a b (same_all k n (hosts_of a) (hosts_of b) p.plans.does.hosts) picked)
  by (told.Resumed channel) p passes =
      let r = p.plans in
      absurd (none_told k n a b (λ l.
      let resumed = same_all k n r.resumed.hosts (hosts_of b) r.hosts l in
      starts_in k n _ r.goes.started (hosts_of a) r.resumed.hosts r.goes.starts resumed) picked)
  by told.Over p passes = absurd (none_told k n a b (same_all k n (hosts_of a) (hosts_of b) passes.0) picked)

pub picks_are : PicksAreTold
picks_are a b h stepped zero n picked = absurd (omega (arith, picked.is))
picks_are a b h stepped (suc k) n picked =
    let next : suc k ≡ k + 1 = omega arith in
    subst (λ (q : ℕ). TellsPickOf q h) (sym next) (told_at a b h stepped k n (subst (λ (q : ℕ). IsPickedIn q n a b) next picked))
