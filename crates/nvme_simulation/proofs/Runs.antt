-- The times of commands in whole runs.
use Rattle.std.proofs.Common.{◌≡◌, ◌≢◌, ◌∙◌, ◌≤◌, ◌<◌, ◌-◌, ℕ, zero, suc, ◌+◌, Bool, true, false, nat_lt, List, [], ◌∷◌, length, get_or, Option, Some, None, option_map, refl, sym, ap, subst, arith, inl, inr}
use Rattle.std.specs.Prelude.{slice_get}
use Rattle.std.proofs.lemmas.Bool.{cases_eq, cases_lt}
use Rattle.std.proofs.lemmas.Bool.Decides.{nat_tests}
use Rattle.std.proofs.lemmas.Option.{get_or_from_slice_get, slice_get_within}
use Rattle.nvme_model.specs.declared.model.Model.{Model}
use Rattle.nvme_simulation.specs.Beginnings.{IsNewOf, IsUnused}
use Rattle.nvme_simulation.specs.Following.{host_of}
use Rattle.nvme_simulation.specs.Marks.{HasGone, arrived, flight_at, gone_from, gone_on, went}
use Rattle.nvme_simulation.specs.Passing.{EndsTold, OneComesIf, Passes}
use Rattle.nvme_simulation.specs.Progress.{AllGoOn, Becomes, Between, BetweenOne, HostComesOne, HostEndsOne, HostGoesOn, OneComes, OneEnds, rank}
use Rattle.nvme_simulation.specs.Ranks.{next_stage}
use Rattle.nvme_simulation.specs.Runs.{CameTo, HasTimesOf, IsRun, Moment, TimesAreOfSteps, stages_by, stages_of}
use Rattle.nvme_simulation.specs.Simulations.{counts_next, hosts_of, may_come_to, time_of}
use Rattle.nvme_simulation.specs.Stages.{came_in, stage_at}
use Rattle.nvme_simulation.specs.Stepping.{HasStepped}
use Rattle.nvme_simulation.specs.declared.flight.Flight.{Flight}
use Rattle.nvme_simulation.specs.declared.flight.Flights.{Flights}
use Rattle.nvme_simulation.specs.declared.flight.Request.{Request}
use Rattle.nvme_simulation.specs.declared.flight.Stage.{Stage}
use Rattle.nvme_simulation.specs.declared.flight.Stage.TheVariants.{Came, Submitted, Fetched, Picked, Started, Done}
use Rattle.nvme_simulation.specs.declared.happening.Happening.{Happening}
use Rattle.nvme_simulation.specs.declared.happening.Happening.TheVariants as told
use Rattle.nvme_simulation.specs.declared.host.Host.{Host}
use Rattle.nvme_simulation.specs.declared.hosts.Hosts.{Hosts}
use Rattle.nvme_simulation.specs.declared.simulation.Simulation.{Simulation}
use Rattle.nvme_simulation.proofs.Hosted.{all_stay}
use Rattle.nvme_simulation.proofs.Progress.{Was, becomes_some, ranks_rise}

-- the number of the stage of a command
abbrev at : Flight → ℕ
at f = rank (Some f.stage)

stage_next : (s : Stage) (now : ℕ) (f : Flight) → (gone_from s now f).stage ≡ next_stage s
stage_next Came now f = refl
stage_next Submitted now f = refl
stage_next Fetched now f = refl
stage_next Picked now f = refl
stage_next Started now f = refl
stage_next Done now f = refl

rises_on : (now : ℕ) (f : Flight) → at f ≤ at (gone_on now f)
rises_on now f = omega (arith, ranks_rise f.stage, ap (λ (s : Stage). rank (Some s)) (stage_next f.stage now f))

rises : (k now : ℕ) (f : Flight) → at f ≤ at (went k now f)
unfolding went
rises zero now f = omega arith
rises (suc k) now f = omega (arith, rises k now f, rises_on now (went k now f))

-- a time of a flight is that of the stage of a number: it is written when the flight comes there, and no more
pub record IsMark (r : ℕ) (time : Flight → ℕ) : Type 0 where
  pub stays : (now : ℕ) (f : Flight) → r ≤ at f → time (gone_on now f) ≡ time f
  pub written : (now : ℕ) (f : Flight) → at f < r → r ≤ at (gone_on now f) → time (gone_on now f) ≡ now

stays_by : (r : ℕ) (time : Flight → ℕ) → IsMark r time → (k now : ℕ) (f : Flight) → r ≤ at f → time (went k now f) ≡ time f
unfolding went
stays_by r time mark zero now f l = refl
stays_by r time mark (suc k) now f l =
    let later : r ≤ at (went k now f) = omega (arith, l, rises k now f) in
    mark.stays now (went k now f) later ∙ stays_by r time mark k now f l

written_by : (r : ℕ) (time : Flight → ℕ) → IsMark r time → (k now : ℕ) (f : Flight) → at f < r → r ≤ at (went k now f) → time (went k now f) ≡ now
unfolding went
written_by r time mark zero now f l g = absurd (omega (arith, l, g))
written_by r time mark (suc k) now f l g = elim (cases_lt (at (went k now f)) r) [
  | inl early ↦ mark.written now (went k now f) early g
  | inr late ↦ mark.stays now (went k now f) late ∙ written_by r time mark k now f l late
]

-- the four times that a flight keeps
came_stays : (s : Stage) (now : ℕ) (f : Flight) → (gone_from s now f).came ≡ f.came
came_stays Came now f = refl
came_stays Submitted now f = refl
came_stays Fetched now f = refl
came_stays Picked now f = refl
came_stays Started now f = refl
came_stays Done now f = refl

came_mark : IsMark 1 (λ f. f.came)
came_mark = record { stays = λ now f l. came_stays f.stage now f; written = λ now f l g. absurd (omega (arith, l, some f.stage)) } where
  some : (s : Stage) → 1 ≤ rank (Some s)
  some Came = omega arith
  some Submitted = omega arith
  some Fetched = omega arith
  some Picked = omega arith
  some Started = omega arith
  some Done = omega arith

submitted_stays : (s : Stage) (now : ℕ) (f : Flight) → 2 ≤ rank (Some s) → (gone_from s now f).submitted ≡ f.submitted
submitted_stays Came now f l = absurd (omega (arith, l))
submitted_stays Submitted now f l = refl
submitted_stays Fetched now f l = refl
submitted_stays Picked now f l = refl
submitted_stays Started now f l = refl
submitted_stays Done now f l = refl

submitted_written : (s : Stage) (now : ℕ) (f : Flight) → rank (Some s) < 2 → (gone_from s now f).submitted ≡ now
submitted_written Came now f l = refl
submitted_written Submitted now f l = absurd (omega (arith, l))
submitted_written Fetched now f l = absurd (omega (arith, l))
submitted_written Picked now f l = absurd (omega (arith, l))
submitted_written Started now f l = absurd (omega (arith, l))
submitted_written Done now f l = absurd (omega (arith, l))

submitted_mark : IsMark 2 (λ f. f.submitted)
submitted_mark = record { stays = λ now f l. submitted_stays f.stage now f l; written = λ now f l g. submitted_written f.stage now f l }

picked_stays : (s : Stage) (now : ℕ) (f : Flight) → 4 ≤ rank (Some s) → (gone_from s now f).picked ≡ f.picked
picked_stays Came now f l = absurd (omega (arith, l))
picked_stays Submitted now f l = absurd (omega (arith, l))
picked_stays Fetched now f l = absurd (omega (arith, l))
picked_stays Picked now f l = refl
picked_stays Started now f l = refl
picked_stays Done now f l = refl

picked_written : (s : Stage) (now : ℕ) (f : Flight) → rank (Some s) < 4 → 4 ≤ rank (Some (next_stage s)) → (gone_from s now f).picked ≡ now
picked_written Came now f l g = absurd (omega (arith, g))
picked_written Submitted now f l g = absurd (omega (arith, g))
picked_written Fetched now f l g = refl
picked_written Picked now f l g = absurd (omega (arith, l))
picked_written Started now f l g = absurd (omega (arith, l))
picked_written Done now f l g = absurd (omega (arith, l))

picked_mark : IsMark 4 (λ f. f.picked)
picked_mark = record {
  stays = λ now f l. picked_stays f.stage now f l;
  written = λ now f l g. picked_written f.stage now f l (omega (arith, g, ap (λ (s : Stage). rank (Some s)) (stage_next f.stage now f)));
}

started_stays : (s : Stage) (now : ℕ) (f : Flight) → 5 ≤ rank (Some s) → (gone_from s now f).started ≡ f.started
started_stays Came now f l = absurd (omega (arith, l))
started_stays Submitted now f l = absurd (omega (arith, l))
started_stays Fetched now f l = absurd (omega (arith, l))
started_stays Picked now f l = absurd (omega (arith, l))
started_stays Started now f l = refl
started_stays Done now f l = refl

started_written : (s : Stage) (now : ℕ) (f : Flight) → rank (Some s) < 5 → 5 ≤ rank (Some (next_stage s)) → (gone_from s now f).started ≡ now
started_written Came now f l g = absurd (omega (arith, g))
started_written Submitted now f l g = absurd (omega (arith, g))
started_written Fetched now f l g = absurd (omega (arith, g))
started_written Picked now f l g = refl
started_written Started now f l g = absurd (omega (arith, l))
started_written Done now f l g = absurd (omega (arith, l))

started_mark : IsMark 5 (λ f. f.started)
started_mark = record {
  stays = λ now f l. started_stays f.stage now f l;
  written = λ now f l g. started_written f.stage now f l (omega (arith, g, ap (λ (s : Stage). rank (Some s)) (stage_next f.stage now f)));
}

-- a command that is kept stands at its stage
stage_kept : (f : Flights) (n : ℕ) (x : Flight) → flight_at f n ≡ Some x → stage_at f n ≡ Some x.stage
stage_kept f n x is = by (nat_lt n f.first) refl is where
  by : (b : Bool) → nat_lt n f.first ≡ b → flight_at f n ≡ Some x → stage_at f n ≡ Some x.stage
  by true e found = let none : None ≡ Some x = sym (let it : flight_at f n ≡ None = rw e refl in it) ∙ found in absurd (cc none)
  by false e found =
      let it : slice_get f.kept.items (n - f.first) ≡ Some x = sym (let held : flight_at f n ≡ slice_get f.kept.items (n - f.first) = rw e refl in held) ∙ found in
      let stage : stage_at f n ≡ option_map (λ (y : Flight). y.stage) (slice_get f.kept.items (n - f.first)) = rw e refl in
      stage ∙ ap (option_map (λ (y : Flight). y.stage)) it

-- the host of a queue
pub host_at : (hosts : Hosts) (k : ℕ) → host_of hosts (k + 1) ≡ slice_get hosts.all.items k
host_at hosts k =
    let some : nat_lt 0 (k + 1) ≡ true = grind (arith, nat_tests) in
    let same : k + 1 - 1 ≡ k = omega arith in
    rw some (ap (slice_get hosts.all.items) same)

stages_are : (hosts : Hosts) (k n : ℕ) (h : Host) → slice_get hosts.all.items k ≡ Some h → stages_of hosts (k + 1) n ≡ rank (stage_at h.flights n)
stages_are hosts k n h is = ap (λ (o : Option Host). stages_by o n) (host_at hosts k ∙ is)

-- the times of a command that is under way are those of steps
pub record TimedBy (past : List Moment) (qid n : ℕ) (f : Flight) : Type 0 where
  pub came : 1 ≤ at f → CameTo past qid n 1 f.came
  pub submitted : 2 ≤ at f → CameTo past qid n 2 f.submitted
  pub picked : 4 ≤ at f → CameTo past qid n 4 f.picked
  pub started : 5 ≤ at f → CameTo past qid n 5 f.started

abbrev HostTimed : List Moment → ℕ → Host → Type 0
HostTimed past qid h = (n : ℕ) (f : Flight) → flight_at h.flights n ≡ Some f → at f < 6 → TimedBy past qid n f

abbrev Timed : List Moment → Hosts → Type 0
Timed past hosts = (k : ℕ) (h : Host) → slice_get hosts.all.items k ≡ Some h → HostTimed past (k + 1) h

-- a time that was written before stays, and one that is written now is that of the step
still : (m : Moment) (past : List Moment) (qid n r t u : ℕ) → t ≡ u → CameTo past qid n r u → CameTo (m ∷ past) qid n r t
unfolding CameTo
still m past qid n r t u same came = inr (subst (λ (v : ℕ). CameTo past qid n r v) (sym same) came)

fresh : (m : Moment) (past : List Moment) (qid n r t : ℕ) → stages_of (hosts_of m.before) qid n < r → r ≤ stages_of (hosts_of m.after) qid n → time_of m.after ≡ t
    → CameTo (m ∷ past) qid n r t
unfolding CameTo
fresh m past qid n r t before after time = inl (record { before = before; after = after; time = time })

-- what stands of a command in a step
pub record Stands (m : Moment) (qid n before after now : ℕ) : Type 0 where
  pub was : stages_of (hosts_of m.before) qid n ≡ before
  pub is : stages_of (hosts_of m.after) qid n ≡ after
  pub time : time_of m.after ≡ now

marked : (r : ℕ) (time : Flight → ℕ) → IsMark r time → (m : Moment) (past : List Moment) (qid n now : ℕ) (f g : Flight) → HasGone now f g
    → (after : ℕ) → at g ≤ after → Stands m qid n (at f) after now → (r ≤ at f → CameTo past qid n r (time f)) → r ≤ at g → CameTo (m ∷ past) qid n r (time g)
marked r time mark m past qid n now f g gone after far stands before l = elim (cases_lt (at f) r) [
  | inl early ↦
      let reached : r ≤ at (went gone.stages now f) = subst (λ (x : Flight). r ≤ at x) gone.is l in
      let written : time g ≡ now = ap time gone.is ∙ written_by r time mark gone.stages now f early reached in
      fresh m past qid n r (time g) (omega (arith, stands.was, early)) (omega (arith, stands.is, far, l)) (stands.time ∙ sym written)
  | inr late ↦ still m past qid n r (time g) (time f) (ap time gone.is ∙ stays_by r time mark gone.stages now f late) (before late)
]

timed_on : (m : Moment) (past : List Moment) (qid n now : ℕ) (f g : Flight) → HasGone now f g → (after : ℕ) → at g ≤ after → Stands m qid n (at f) after now
    → TimedBy past qid n f → TimedBy (m ∷ past) qid n g
timed_on m past qid n now f g gone after far stands before = record {
  came = marked 1 (λ (x : Flight). x.came) came_mark m past qid n now f g gone after far stands before.came;
  submitted = marked 2 (λ (x : Flight). x.submitted) submitted_mark m past qid n now f g gone after far stands before.submitted;
  picked = marked 4 (λ (x : Flight). x.picked) picked_mark m past qid n now f g gone after far stands before.picked;
  started = marked 5 (λ (x : Flight). x.started) started_mark m past qid n now f g gone after far stands before.started;
}

-- a command that comes now
marked_first : (r : ℕ) (time : Flight → ℕ) → IsMark r time → (m : Moment) (past : List Moment) (qid n now : ℕ) (request : Request) (g : Flight)
    → HasGone now (arrived now request) g → Stands m qid n 0 (at g) now → 0 < r → (r ≤ 1 → time (arrived now request) ≡ now) → r ≤ at g → CameTo (m ∷ past) qid n r (time g)
marked_first r time mark m past qid n now request g gone stands some first l = elim (cases_lt 1 r) [
  | inl later ↦
      let reached : r ≤ at (went gone.stages now (arrived now request)) = subst (λ (x : Flight). r ≤ at x) gone.is l in
      let written : time g ≡ now = ap time gone.is ∙ written_by r time mark gone.stages now (arrived now request) later reached in
      fresh m past qid n r (time g) (omega (arith, stands.was, some)) (omega (arith, stands.is, l)) (stands.time ∙ sym written)
  | inr once ↦
      let is : time g ≡ now = ap time gone.is ∙ stays_by r time mark gone.stages now (arrived now request) once ∙ first once in
      fresh m past qid n r (time g) (omega (arith, stands.was, some)) (omega (arith, stands.is, l)) (stands.time ∙ sym is)
]

timed_first : (m : Moment) (past : List Moment) (qid n now : ℕ) (request : Request) (g : Flight) → HasGone now (arrived now request) g → Stands m qid n 0 (at g) now
    → TimedBy (m ∷ past) qid n g
timed_first m past qid n now request g gone stands = record {
  came = marked_first 1 (λ (x : Flight). x.came) came_mark m past qid n now request g gone stands (omega arith) (λ l. refl);
  submitted = marked_first 2 (λ (x : Flight). x.submitted) submitted_mark m past qid n now request g gone stands (omega arith) (λ l. absurd (omega (arith, l)));
  picked = marked_first 4 (λ (x : Flight). x.picked) picked_mark m past qid n now request g gone stands (omega arith) (λ l. absurd (omega (arith, l)));
  started = marked_first 5 (λ (x : Flight). x.started) started_mark m past qid n now request g gone stands (omega arith) (λ l. absurd (omega (arith, l)));
}

-- what stands of a command that is kept before and after
stands_kept : (m : Moment) (k n now : ℕ) (h w : Host) (f g : Flight) → slice_get (hosts_of m.before).all.items k ≡ Some h
    → slice_get (hosts_of m.after).all.items k ≡ Some w → flight_at h.flights n ≡ Some f → flight_at w.flights n ≡ Some g → time_of m.after ≡ now
    → Stands m (k + 1) n (at f) (at g) now
stands_kept m k n now h w f g before after was is time = record {
  was = stages_are (hosts_of m.before) k n h before ∙ ap rank (stage_kept h.flights n f was);
  is = stages_are (hosts_of m.after) k n w after ∙ ap rank (stage_kept w.flights n g is);
  time = time;
}

-- one that goes on in a step
goes_on : (m : Moment) (past : List Moment) (k n now : ℕ) (h w : Host) (g : Flight) → slice_get (hosts_of m.before).all.items k ≡ Some h
    → slice_get (hosts_of m.after).all.items k ≡ Some w → time_of m.after ≡ now → Becomes now (flight_at h.flights n) (flight_at w.flights n)
    → HostTimed past (k + 1) h → flight_at w.flights n ≡ Some g → at g < 6 → TimedBy (m ∷ past) (k + 1) n g
goes_on m past k n now h w g before after time becomes timed is under =
    let b : Becomes now (flight_at h.flights n) (Some g) = subst (λ (o : Option Flight). Becomes now (flight_at h.flights n) o) is becomes in
    let was : Was now (flight_at h.flights n) g = becomes_some now (flight_at h.flights n) g b in
    let lower : at was.before ≤ at g = subst (λ (x : Flight). at was.before ≤ at x) (sym was.gone.is) (rises was.gone.stages now was.before) in
    timed_on m past (k + 1) n now was.before g was.gone (at g) (omega arith) (stands_kept m k n now h w was.before g before after was.is is time)
    (timed n was.before was.is (omega (arith, lower, under)))

-- one that comes in a step
comes_on : (m : Moment) (past : List Moment) (k n now : ℕ) (h w : Host) (request : Request) (g : Flight) → slice_get (hosts_of m.before).all.items k ≡ Some h
    → slice_get (hosts_of m.after).all.items k ≡ Some w → time_of m.after ≡ now → stage_at h.flights n ≡ None
    → Becomes now (Some (arrived now request)) (flight_at w.flights n) → flight_at w.flights n ≡ Some g → TimedBy (m ∷ past) (k + 1) n g
comes_on m past k n now h w request g before after time none becomes is =
    let gone : HasGone now (arrived now request) g = subst (λ (o : Option Flight). Becomes now (Some (arrived now request)) o) is becomes in
    timed_first m past (k + 1) n now request g gone (record {
      was = stages_are (hosts_of m.before) k n h before ∙ ap rank none;
      is = stages_are (hosts_of m.after) k n w after ∙ ap rank (stage_kept w.flights n g is);
      time = time;
    })

-- a host whose commands go on, come and end in a step
host_on : (m : Moment) (past : List Moment) (k now : ℕ) (h w : Host) → slice_get (hosts_of m.before).all.items k ≡ Some h
    → slice_get (hosts_of m.after).all.items k ≡ Some w → time_of m.after ≡ now → HostGoesOn now h w → HostTimed past (k + 1) h → HostTimed (m ∷ past) (k + 1) w
host_on m past k now h w before after time goes timed n g is under =
    goes_on m past k n now h w g before after time (goes.flights.times n) timed is under

host_comes : (m : Moment) (past : List Moment) (k now : ℕ) (counts : Bool) (h w : Host) → slice_get (hosts_of m.before).all.items k ≡ Some h
    → slice_get (hosts_of m.after).all.items k ≡ Some w → time_of m.after ≡ now → HostComesOne now counts h w → HostTimed past (k + 1) h
    → HostTimed (m ∷ past) (k + 1) w
host_comes m past k now counts h w before after time one timed n g is under = elim (cases_eq n (came_in h.flights)) [
  | inl same ↦
      subst (λ (j : ℕ). flight_at w.flights j ≡ Some g → TimedBy (m ∷ past) (k + 1) j g) (sym same)
      (comes_on m past k (came_in h.flights) now h w one.request g before after time one.flights.was one.flights.comes) is
  | inr other ↦ goes_on m past k n now h w g before after time (one.flights.others n other) timed is under
]

-- one that isn't done came to less than six stages
under_way : (s : Stage) → Some s ≢ Some Done → rank (Some s) < 6
under_way Came other = omega arith
under_way Submitted other = omega arith
under_way Fetched other = omega arith
under_way Picked other = omega arith
under_way Started other = omega arith
under_way Done other = absurd (other refl)

host_ends : (m : Moment) (past : List Moment) (k number now : ℕ) (flight : Flight) (h w : Host) → slice_get (hosts_of m.before).all.items k ≡ Some h
    → slice_get (hosts_of m.after).all.items k ≡ Some w → time_of m.after ≡ now → HostEndsOne number now flight h w → HostTimed past (k + 1) h
    → HostTimed (m ∷ past) (k + 1) w
host_ends m past k number now flight h w before after time e timed n g is under = elim (cases_eq n number) [
  | inl same ↦
      let stage : stage_at w.flights n ≡ Some g.stage = stage_kept w.flights n g is in
      let done : stage_at w.flights n ≡ Some Done = ap (stage_at w.flights) same ∙ e.flights.is in
      absurd (omega (arith, under, ap rank (sym stage ∙ done)))
  | inr other ↦ goes_on m past k n now h w g before after time (e.flights.times n other) timed is under
]

-- the host before one that there is after
pub record Before (R : Host → Host → Type 0) (o : Option Host) (w : Host) : Type 0 where
  pub host : Host
  pub is : o ≡ Some host
  pub relates : R host w

between_some : (R : Host → Host → Type 0) (o : Option Host) (w : Host) → Between R o (Some w) → Before R o w
between_some R None w b = absurd b
between_some R (Some h) w b = record { host = h; is = refl; relates = b }

one_some : (R : Host → Host → Type 0) (o : Option Host) (w : Host) → BetweenOne R o (Some w) → Before R o w
one_some R None w b = absurd b
one_some R (Some h) w b = record { host = h; is = refl; relates = b }

before_at : (R : Host → Host → Type 0) (o p : Option Host) (w : Host) → p ≡ Some w → Between R o p → Before R o w
before_at R o p w is b = between_some R o w (subst (λ (q : Option Host). Between R o q) is b)

one_at : (R : Host → Host → Type 0) (o p : Option Host) (w : Host) → p ≡ Some w → BetweenOne R o p → Before R o w
one_at R o p w is b = one_some R o w (subst (λ (q : Option Host). BetweenOne R o q) is b)

-- the hosts of a step
goes_at : (m : Moment) (past : List Moment) (now k : ℕ) (w : Host) → time_of m.after ≡ now → Timed past (hosts_of m.before)
    → slice_get (hosts_of m.after).all.items k ≡ Some w
    → Between (HostGoesOn now) (slice_get (hosts_of m.before).all.items k) (slice_get (hosts_of m.after).all.items k) → HostTimed (m ∷ past) (k + 1) w
goes_at m past now k w time timed at each =
    let p = before_at (HostGoesOn now) (slice_get (hosts_of m.before).all.items k) (slice_get (hosts_of m.after).all.items k) w at each in
    host_on m past k now p.host w p.is at time p.relates (timed k p.host p.is)

all_on : (m : Moment) (past : List Moment) (now : ℕ) → time_of m.after ≡ now → AllGoOn now (hosts_of m.before) (hosts_of m.after) → Timed past (hosts_of m.before)
    → Timed (m ∷ past) (hosts_of m.after)
all_on m past now time goes timed k w at = goes_at m past now k w time timed at (goes.each k)

same_on : (m : Moment) (past : List Moment) → hosts_of m.after ≡ hosts_of m.before → Timed past (hosts_of m.before) → Timed (m ∷ past) (hosts_of m.after)
same_on m past same timed =
    all_on m past (time_of m.after) refl
    (subst (λ (hs : Hosts). AllGoOn (time_of m.after) (hosts_of m.before) hs) (sym same) (all_stay (time_of m.after) (hosts_of m.before))) timed

comes_in : (m : Moment) (past : List Moment) (qid now : ℕ) (counts : Bool) → time_of m.after ≡ now → OneComes qid now counts (hosts_of m.before) (hosts_of m.after)
    → Timed past (hosts_of m.before) → Timed (m ∷ past) (hosts_of m.after)
comes_in m past qid now counts time one timed k w at = elim (cases_eq k one.place) [
  | inl same ↦
      let comes = subst (λ (j : ℕ). BetweenOne (HostComesOne now counts) (slice_get (hosts_of m.before).all.items j) (slice_get (hosts_of m.after).all.items j))
      (sym same) one.comes in
      let p = one_at (HostComesOne now counts) (slice_get (hosts_of m.before).all.items k) (slice_get (hosts_of m.after).all.items k) w at comes in
      host_comes m past k now counts p.host w p.is at time p.relates (timed k p.host p.is)
  | inr other ↦ goes_at m past now k w time timed at (one.others k other)
]

ends_in : (m : Moment) (past : List Moment) (qid number now : ℕ) (flight : Flight) → time_of m.after ≡ now
    → OneEnds qid number now flight (hosts_of m.before) (hosts_of m.after) → Timed past (hosts_of m.before) → Timed (m ∷ past) (hosts_of m.after)
ends_in m past qid number now flight time e timed k w at = elim (cases_eq k e.place) [
  | inl same ↦
      let ends = subst (λ (j : ℕ). BetweenOne (HostEndsOne number now flight) (slice_get (hosts_of m.before).all.items j) (slice_get (hosts_of m.after).all.items j))
      (sym same) e.ends in
      let p = one_at (HostEndsOne number now flight) (slice_get (hosts_of m.before).all.items k) (slice_get (hosts_of m.after).all.items k) w at ends in
      host_ends m past k number now flight p.host w p.is at time p.relates (timed k p.host p.is)
  | inr other ↦ goes_at m past now k w time timed at (e.others k other)
]

step_on : (m : Moment) (past : List Moment) → HasStepped m.before m.after m.told → Timed past (hosts_of m.before) → Timed (m ∷ past) (hosts_of m.after)
step_on m past stepped timed = by m.told stepped.passes where
  may : (b : Bool) (queue : ℕ) → OneComesIf b queue (time_of m.after) (counts_next m.before) (hosts_of m.before) (hosts_of m.after) → Timed (m ∷ past) (hosts_of m.after)
  may true queue one = comes_in m past queue (time_of m.after) (counts_next m.before) refl one timed
  may false queue same = same_on m past same timed

  by : (h : Happening) → Passes (may_come_to m.before (time_of m.after)) (counts_next m.before) (time_of m.after) (hosts_of m.before) (hosts_of m.after) h
      → Timed (m ∷ past) (hosts_of m.after)
  by (told.Came queue) p = may (may_come_to m.before (time_of m.after)) queue p
  by (told.Finished command counts) p = ends_in m past command.queue command.number (time_of m.after) p.flight refl p.ends timed
  by told.Over p = same_on m past p.0 timed
  by (told.Picked pick) p = all_on m past (time_of m.after) refl p timed
  by told.Settled p = all_on m past (time_of m.after) refl p timed
  by (told.Paused channel) p = all_on m past (time_of m.after) refl p timed
  by (told.Resumed channel) p = all_on m past (time_of m.after) refl p timed

new_on : (model : Model) (first : Simulation) → IsNewOf model first → Timed [] (hosts_of first)
new_on model first new k h at n f is under =
    let within : k < length (hosts_of first).all.items = slice_get_within (hosts_of first).all.items k h at in
    let found : get_or (hosts_of first).all.items k h ≡ h = get_or_from_slice_get (hosts_of first).all.items k h h at in
    let it : IsUnused h = subst IsUnused found (new.hosts.none k h within) in
    absurd (cc (sym (it.none n) ∙ stage_kept h.flights n f is))

run_on : (model : Model) (first : Simulation) (past : List Moment) (s : Simulation) → IsNewOf model first → IsRun first past s → Timed past (hosts_of s)
unfolding IsRun
run_on model first [] s new is = subst (λ (x : Simulation). Timed [] (hosts_of x)) (sym is) (new_on model first new)
run_on model first (m ∷ past) s new run =
    subst (λ (x : Simulation). Timed (m ∷ past) (hosts_of x)) run.0 (step_on m past run.1.0 (run_on model first past m.before new run.1.1))

-- the host that a command ends at
pub record Ends (number now : ℕ) (flight : Flight) (o p : Option Host) : Type 0 where
  pub host : Host
  pub then_is : Host
  pub was : o ≡ Some host
  pub is : p ≡ Some then_is
  pub ends : HostEndsOne number now flight host then_is

ends_some : (number now : ℕ) (flight : Flight) (o p : Option Host) → BetweenOne (HostEndsOne number now flight) o p → Ends number now flight o p
ends_some number now flight None None b = absurd b
ends_some number now flight None (Some w) b = absurd b
ends_some number now flight (Some h) None b = absurd b
ends_some number now flight (Some h) (Some w) b = record { host = h; then_is = w; was = refl; is = refl; ends = b }

pub times_are : TimesAreOfSteps
times_are model first past m new run stepped command counts is =
    let p : EndsTold (time_of m.after) command counts (hosts_of m.before) (hosts_of m.after) =
    subst (λ (h : Happening). Passes (may_come_to m.before (time_of m.after)) (counts_next m.before) (time_of m.after) (hosts_of m.before) (hosts_of m.after) h)
    is stepped.passes in
    let k : ℕ = p.ends.place in
    let n : ℕ = command.number in
    let e : Ends n (time_of m.after) p.flight (slice_get (hosts_of m.before).all.items k) (slice_get (hosts_of m.after).all.items k) =
    ends_some n (time_of m.after) p.flight (slice_get (hosts_of m.before).all.items k) (slice_get (hosts_of m.after).all.items k) p.ends.ends in
    let one = e.ends.flights in
    let stage : stage_at e.host.flights n ≡ Some one.old.stage = stage_kept e.host.flights n one.old one.found in
    let under : at one.old < 6 = under_way one.old.stage (λ d. one.was (stage ∙ d)) in
    let before : TimedBy past (k + 1) n one.old = run_on model first past m.before new run k e.host e.was n one.old one.found under in
    let six : at p.flight ≡ 6 = ap (λ (s : Stage). rank (Some s)) one.done in
    let stands : Stands m (k + 1) n (at one.old) 6 (time_of m.after) = record {
      was = stages_are (hosts_of m.before) k n e.host e.was ∙ ap rank stage;
      is = stages_are (hosts_of m.after) k n e.then_is e.is ∙ ap rank one.is;
      time = refl;
    } in
    let after : TimedBy (m ∷ past) (k + 1) n p.flight = timed_on m past (k + 1) n (time_of m.after) one.old p.flight one.gone 6 (omega (arith, six)) stands before in
    let times : HasTimesOf (m ∷ past) (k + 1) n command.times = record {
      came = subst (λ (t : ℕ). CameTo (m ∷ past) (k + 1) n 1 t) (sym p.told.came) (after.came (omega (arith, six)));
      submitted = subst (λ (t : ℕ). CameTo (m ∷ past) (k + 1) n 2 t) (sym p.told.submitted) (after.submitted (omega (arith, six)));
      picked = subst (λ (t : ℕ). CameTo (m ∷ past) (k + 1) n 4 t) (sym p.told.picked) (after.picked (omega (arith, six)));
      started = subst (λ (t : ℕ). CameTo (m ∷ past) (k + 1) n 5 t) (sym p.told.started) (after.started (omega (arith, six)));
      done = fresh m past (k + 1) n 6 command.times.done (omega (arith, stands.was, under)) (omega (arith, stands.is)) (sym p.told.done);
    } in
    subst (λ (q : ℕ). HasTimesOf (m ∷ past) q n command.times) (sym p.ends.queue) times
