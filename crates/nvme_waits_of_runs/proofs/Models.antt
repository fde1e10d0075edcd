-- A queue waits in a run of a model no longer than is told.
use Rattle.std.proofs.Common.{◌≡◌, ◌∙◌, ℕ, ◌+◌, Bool, true, false, cond, List, [], ◌∷◌, ◌++◌, length, map, Option, Some, None, Ok, refl, sym, ap, subst, arith}
use Rattle.std.specs.Prelude.{All}
use Rattle.std.proofs.lemmas.List.Elements.{All-cons, All-head, All-nil, All-tail}
use Rattle.std.proofs.lemmas.List.Sums.{sum_by-cons}
use Rattle.nvme_arbiter.specs.ByClass.{of_class}
use Rattle.nvme_arbiter.specs.History.{settings_after}
use Rattle.nvme_arbiter.specs.Layout.{board_of}
use Rattle.nvme_arbiter.specs.declared.settings.Class.{Class}
use Rattle.nvme_arbiter.specs.declared.settings.Class.TheVariants.{Admin, Urgent, High, Medium, Low}
use Rattle.nvme_bounds.specs.Before.{most_before}
use Rattle.nvme_bounds.specs.Runs.{time_behind}
use Rattle.nvme_bounds.specs.Stretches.{counts}
use Rattle.nvme_channels.specs.declared.placement.Placement.{Placement}
use Rattle.nvme_channels.specs.declared.placement.Placement.TheVariants.{Pool, Striped}
use Rattle.nvme_ctrl.specs.Standing.{Stands}
use Rattle.nvme_ctrl.specs.declared.state.Controller.{Controller}
use Rattle.nvme_ctrl_log.specs.Notes.{Notes, logged}
use Rattle.nvme_log.specs.Histories.{arbitration_of}
use Rattle.nvme_log.specs.Rules.{FrontRules}
use Rattle.nvme_model.specs.declared.device.Device.{Device}
use Rattle.nvme_model.specs.declared.device.Pauses.{Pauses}
use Rattle.nvme_model.specs.declared.model.Model.{Model}
use Rattle.nvme_model.specs.declared.queue.Queue.{Queue}
use Rattle.nvme_simulation.specs.Beginnings.{IsNewOf}
use Rattle.nvme_simulation.specs.Runs.{IsRun, Moment}
use Rattle.nvme_simulation.specs.Simulations.{hosts_of}
use Rattle.nvme_simulation.specs.declared.simulation.Simulation.{Simulation}
use Rattle.nvme_slots.specs.declared.slot.Slot.{Slot}
use Rattle.nvme_waits.specs.Bounds.{always_run, before_in, count_in, counts_in, is_in, time_of as told_time, time_unless, unbounded}
use Rattle.nvme_waits.specs.Longest.{longest_of}
use Rattle.nvme_waits_of_runs.specs.Models.{IdsAreCounted, SettingsStay, StaysReady, WaitsAreAsTold, ids_from, ids_of}
use Rattle.nvme_waits_of_runs.specs.Waits.{AllRunAtMost, WaitsIn, settles}
use Rattle.nvme_waits_of_runs.proofs.Served.{none_runs_longer}
use Rattle.nvme_waits_of_runs.proofs.Shown.{only_queues_are_ready}
use Rattle.nvme_waits_of_runs.proofs.Waits.{Arranged, arranged_step, waits_of_runs_are_short}

-- ---- settings
-- those in force are those that the board keeps
in_force : (rules : FrontRules) (late : Bool) (notes : Notes) (c : Controller) (slots : List Slot) → Stands rules late notes c slots
    → (board_of c.board).kept.settings ≡ settings_after rules.start.settings (arbitration_of (logged notes))
in_force rules late notes c slots s = ap (λ (b : _). b.kept.settings) s.numbers.board_is ∙ s.holds.arbitration.stands.stands.settings_are

arranged_new : (model : Model) (s : Simulation) → IsNewOf model s → Arranged model s
arranged_new model s new =
    let f = new.creates in
    record {
      front = record {
        rules = f.rules;
        late = f.late;
        notes = f.notes;
        stands = f.stands;
        in_time = f.in_time;
        mechanism_is = f.mechanism_is;
        settings_are = f.settings_are;
      };
      settings = f.in_force;
    }

arranged_goes : (model : Model) (first s : Simulation) (past : List Moment) → Arranged model first → IsRun first past s → Arranged model s
unfolding IsRun
arranged_goes model first s [] a same = subst (Arranged model) (sym same) a
arranged_goes model first s (m ∷ past) a goes =
    subst (Arranged model) goes.0 (arranged_step model m.before m.after m.told goes.1.0 (arranged_goes model first m.before past a goes.1.1))

pub settings_stay : SettingsStay
settings_stay model first s past new run rules late notes stands =
    let a = arranged_goes model first s past (arranged_new model first new) run in
    let c = s.machine.front.controller in
    let slots = s.machine.front.pool.items in
    sym (in_force rules late notes c slots stands) ∙ in_force a.front.rules a.front.late a.front.notes c slots a.front.stands ∙ a.settings

-- ---- runs
run_both : (first from to : Simulation) (past steps : List Moment) → IsRun first past from → IsRun from steps to → IsRun first (steps ++ past) to
unfolding IsRun
run_both first from to past [] before same = subst (λ (s : Simulation). IsRun first past s) (sym same) before
run_both first from to past (m ∷ steps) before goes = (goes.0, (goes.1.0, run_both first from m.before past steps before goes.1.1))

run_none : (s : Simulation) → IsRun s [] s
unfolding IsRun
run_none s = refl

-- none runs longer at any step
all_short : (model : Model) (first s : Simulation) (past : List Moment) → IsNewOf model first → IsRun first past s
    → All (λ m. AllRunAtMost (longest_of model.queues.items) (hosts_of m.before)) past
unfolding IsRun
all_short model first s [] new run = All-nil (λ (m : Moment). AllRunAtMost (longest_of model.queues.items) (hosts_of m.before))
all_short model first s (m ∷ past) new run =
    All-cons (λ (m : Moment). AllRunAtMost (longest_of model.queues.items) (hosts_of m.before)) m past (none_runs_longer model first m.before past new run.1.1)
    (all_short model first m.before past new run.1.1)

-- only the model's queues are ready while one waits
all_wait : (model : Model) (class : Class) (qid : ℕ) (first from to : Simulation) (past steps : List Moment) → IsNewOf model first → IsRun first past from → IsRun from steps to
    → All (StaysReady class qid) steps → All (WaitsIn (ids_of model.queues.items) class qid) steps
unfolding IsRun
all_wait model class qid first from to past [] new before run waits = All-nil (WaitsIn (ids_of model.queues.items) class qid)
all_wait model class qid first from to past (m ∷ steps) new before run waits =
    let here = All-head (StaysReady class qid) m steps waits in
    All-cons (WaitsIn (ids_of model.queues.items) class qid) m steps (record {
      ready = here.ready;
      passed = here.passed;
      among = only_queues_are_ready model first m.before (steps ++ past) new (run_both first from m.before past steps before run.1.1);
    }) (all_wait model class qid first from m.before past steps new before run.1.1 (All-tail (StaysReady class qid) m steps waits))

-- ---- numbers of queues
ids_count : (first : ℕ) (queues : List Queue) (class : Class) → length (ids_from first (map (λ (q : Queue). q.class) queues) class) ≡ count_in queues class
unfolding ids_from
ids_count first [] class = refl
ids_count first (q ∷ queues) class =
    by (is_in class q) (ids_count (first + 1) queues class) ∙ sym (sum_by-cons (λ (x : Queue). cond (is_in class x) 1 0) q queues)
  where
    by : (b : Bool) → length (ids_from (first + 1) (map (λ (x : Queue). x.class) queues) class) ≡ count_in queues class
        → length (cond b (first ∷ ids_from (first + 1) (map (λ (x : Queue). x.class) queues) class) (ids_from (first + 1) (map (λ (x : Queue). x.class) queues) class))
        ≡ cond b 1 0 + count_in queues class
    by true rest = omega (arith, rest)
    by false rest = omega (arith, rest)

counted : (queues : List Queue) (class : Class) → counts (ids_of queues) class ≡ of_class (counts_in queues) class
counted queues Admin = ids_count 1 queues Admin
counted queues Urgent = ids_count 1 queues Urgent
counted queues High = ids_count 1 queues High
counted queues Medium = ids_count 1 queues Medium
counted queues Low = ids_count 1 queues Low

all_counted : (queues : List Queue) → counts (ids_of queues) ≡ of_class (counts_in queues)
all_counted queues = λ t class. counted queues class t

pub ids_are_counted : IdsAreCounted
unfolding ids_from
ids_are_counted = refl

-- ---- what is told
-- a bound in time is told of pools that don't pause alone
record IsTold (d : Device) (o : Option ℕ) (service bound : ℕ) : Type 0 where
  pub before : ℕ
  pub most : o ≡ Some before
  pub pool : d.placement ≡ Pool
  pub goes_on : d.pauses ≡ None
  pub time : bound ≡ time_behind before (always_run d) service

told : (d : Device) (o : Option ℕ) (service bound : ℕ) → told_time d o service ≡ Ok bound → IsTold d o service bound
told d None service bound is = absurd (cc is)
told d (Some before) service bound is = by d.placement d.pauses refl refl is
  where
    by : (p : Placement) (u : Option Pauses) → d.placement ≡ p → d.pauses ≡ u → time_unless (unbounded p u) before (always_run d) service ≡ Ok bound
        → IsTold d (Some before) service bound
    by (Striped stripe) u pool pauses e = absurd (cc e)
    by Pool (Some p) pool pauses e = absurd (cc e)
    by Pool None pool pauses e = record { before = before; most = refl; pool = pool; goes_on = pauses; time = sym (cc e) }

pub waits_are_as_told : WaitsAreAsTold
unfolding IsRun
waits_are_as_told model q place first from to next past steps w bound is =
    let queues = model.queues.items in
    let t = told model.device (before_in model q.class) (longest_of model.queues.items) bound is in
    let settled : Moment = settles w.begin from in
    let all = run_both first from to (settled ∷ past) steps w.before w.run in
    let most : most_before model.mechanism model.settings (counts (ids_of model.queues.items)) 1 q.class ≡ Some t.before =
    ap (λ (n : Class → ℕ). most_before model.mechanism model.settings n 1 q.class) (all_counted model.queues.items) ∙ t.most in
    let short = waits_of_runs_are_short model (ids_of model.queues.items) q.class (place + 1) (longest_of model.queues.items) first from to next past steps (record {
      pool = t.pool;
      goes_on = t.goes_on;
      new = w.new;
      settings = settings_stay model first first [] w.new (run_none first);
      begin = w.begin;
      before = w.before;
      ready = w.ready;
      run = w.run;
      waits = all_wait model q.class (place + 1) first from to (settled ∷ past) steps w.new w.before w.run w.waits;
      still = w.still;
      event = w.event;
      comes = w.comes;
      short = all_short model first to (steps ++ settled ∷ past) w.new all;
    }) t.before most in
    omega (arith, short, t.time)
