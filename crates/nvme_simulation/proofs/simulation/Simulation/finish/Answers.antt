use Rattle.std.proofs.Common.{◌≡◌, ◌∙◌, ◌≤◌, ◌+◌, ℕ, Some, refl, sym, ap, subst, arith}
use Rattle.nvme_occupancy.specs.Occupancies.{Leaves}
use Rattle.nvme_occupancy.specs.declared.occupancy.Occupancy.{Occupancy}
use Rattle.nvme_simulation.specs.Handling.{Stays}
use Rattle.nvme_simulation.specs.Marks.{IsToldOf}
use Rattle.nvme_simulation.specs.Passing.{EndsTold}
use Rattle.nvme_simulation.specs.Planning.{EndPlans}
use Rattle.nvme_simulation.specs.Plans.{events_of}
use Rattle.nvme_simulation.specs.Progress.{AllGoOn, OneEnds}
use Rattle.nvme_simulation.specs.Simulations.{hosts_of, time_of}
use Rattle.nvme_simulation.specs.Steps.{cost_with}
use Rattle.nvme_simulation.specs.Times.{now_of}
use Rattle.nvme_simulation.specs.declared.agenda.Event.TheVariants.{End}
use Rattle.nvme_simulation.specs.declared.machine.Machine.{Machine}
use Rattle.nvme_simulation.specs.declared.simulation.Simulation.{Simulation}
use Rattle.nvme_simulation.proofs.Handling.{left_behind, stays_goes, stays_machine, stays_occupancy, stays_then, stays_time, thinks_at}
use Rattle.nvme_simulation.proofs.Hosted.{all_then, one_before}
use Rattle.nvme_simulation.proofs.Machines.{all_at, works}
use Rattle.nvme_simulation.proofs.simulation.Simulation.finish.Goals as goal

pub returns-in_err-taken-clause-stays : goal.returns-in_err-taken-clause-stays
returns-in_err-taken-clause-stays c = stays_machine _ _ c.finish.ensures.works

pub returns-in_err-command-clause-stays : goal.returns-in_err-command-clause-stays
returns-in_err-command-clause-stays c =
    let old = c.args.self.now in
    let ended = record old { machine = c.finish.new.self } in
    let first : Stays old ended = stays_machine old c.finish.new.self c.finish.ensures.works in
    let told = c.tell.new.self in
    let second : Stays old told = stays_then old ended told first (stays_occupancy ended told c.finish.ensures.works.front.is c.tell.ensures.rest) in
    second

pub returns-in_err-think-clause-stays : goal.returns-in_err-think-clause-stays
returns-in_err-think-clause-stays c =
    let old = c.args.self.now in
    let ended = record old { machine = c.finish.new.self } in
    let first : Stays old ended = stays_machine old c.finish.new.self c.finish.ensures.works in
    let told = c.tell.new.self in
    let second : Stays old told = stays_then old ended told first (stays_occupancy ended told c.finish.ensures.works.front.is c.tell.ensures.rest) in
    let thought = c.think.new.self in
    let third : Stays old thought = stays_then old told thought second (stays_goes told thought c.think.ensures.goes c.think.ensures.rest) in
    third

pub returns-in_err-submit-clause-stays : goal.returns-in_err-submit-clause-stays
returns-in_err-submit-clause-stays c =
    let old = c.args.self.now in
    let ended = record old { machine = c.finish.new.self } in
    let first : Stays old ended = stays_machine old c.finish.new.self c.finish.ensures.works in
    let told = c.tell.new.self in
    let second : Stays old told = stays_then old ended told first (stays_occupancy ended told c.finish.ensures.works.front.is c.tell.ensures.rest) in
    let thought = c.think.new.self in
    let third : Stays old thought = stays_then old told thought second (stays_goes told thought c.think.ensures.goes c.think.ensures.rest) in
    let after = record thought { machine = c.submit.new.self } in
    let stays : Stays old after = stays_then old thought after third (stays_machine thought c.submit.new.self (works _ _ c.submit.ensures.goes)) in
    stays

pub returns-clause-stays : goal.returns-clause-stays
returns-clause-stays c =
    let old = c.args.self.now in
    let ended = record old { machine = c.finish.new.self } in
    let first : Stays old ended = stays_machine old c.finish.new.self c.finish.ensures.works in
    let told = c.tell.new.self in
    let second : Stays old told = stays_then old ended told first (stays_occupancy ended told c.finish.ensures.works.front.is c.tell.ensures.rest) in
    let thought = c.think.new.self in
    let third : Stays old thought = stays_then old told thought second (stays_goes told thought c.think.ensures.goes c.think.ensures.rest) in
    let after = record thought { machine = c.submit.new.self } in
    let stays : Stays old after = stays_then old thought after third (stays_machine thought c.submit.new.self (works _ _ c.submit.ensures.goes)) in
    stays

pub returns-clause-handles : goal.returns-clause-handles
returns-clause-handles c =
    let old = c.args.self.now in
    let ended = record old { machine = c.finish.new.self } in
    let first : Stays old ended = stays_machine old c.finish.new.self c.finish.ensures.works in
    let told = c.tell.new.self in
    let second : Stays old told = stays_then old ended told first (stays_occupancy ended told c.finish.ensures.works.front.is c.tell.ensures.rest) in
    let thought = c.think.new.self in
    let third : Stays old thought = stays_then old told thought second (stays_goes told thought c.think.ensures.goes c.think.ensures.rest) in
    let after = record thought { machine = c.submit.new.self } in
    let stays : Stays old after = stays_then old thought after third (stays_machine thought c.submit.new.self (works _ _ c.submit.ensures.goes)) in
    let machine : told.machine ≡ c.finish.new.self = ap (λ (s : Simulation). s.machine) c.tell.ensures.rest in
    let occupancy : thought.occupancy ≡ told.occupancy = ap (λ (s : Simulation). s.occupancy) c.think.ensures.rest in
    let leaves = c.in_ok-command.ensures.leaves in
    let now : time_of after ≡ time_of ended = stays_time old after stays ∙ sym (stays_time old ended first) in
    record {
      tells = ap (λ (channel : ℕ). Some (End channel)) c.in_ok-command.ensures.channel;
      timed = c.in_ok-command.ensures.told.done ∙ sym now;
      counts = subst (λ (o : Occupancy). Leaves (time_of after) old.occupancy o) (sym occupancy) (subst (λ (t : ℕ). Leaves t old.occupancy told.occupancy) (sym now) leaves);
      passes =
          let taken = c.in_ok-taken.taken in
          let flight = c.in_ok-taken.flight in
          let command = c.in_ok-command.command in
          let thinks : AllGoOn (time_of ended) c.finish.new.self.hosts (hosts_of thought) =
          subst (λ (m : Machine). AllGoOn (now_of m.agenda) m.hosts (hosts_of thought)) machine c.think.ensures.goes.hosts in
          let goes : AllGoOn (time_of old) c.finish.new.self.hosts (hosts_of thought) = all_at _ _ _ _ (stays_time old ended first) thinks in
          let submits : AllGoOn (time_of old) (hosts_of thought) (hosts_of after) = all_at _ _ _ _ (stays_time old thought third) c.submit.ensures.goes.hosts in
          let ends : OneEnds taken.qid taken.number (time_of old) flight (hosts_of old) (hosts_of after) =
          one_before _ _ _ _ _ _ _ c.in_ok-taken.ensures.ends (all_then _ _ _ _ goes submits) in
          let it : EndsTold (time_of old) command flight.request.counts (hosts_of old) (hosts_of after) = record {
            flight = flight;
            told = subst (λ (t : ℕ). IsToldOf flight t command flight.request.counts) (stays_time old ended first) c.in_ok-command.ensures.told;
            ends = subst (λ (q : ℕ). OneEnds q command.number (time_of old) flight (hosts_of old) (hosts_of after)) (sym c.in_ok-command.ensures.queue)
                (subst (λ (n : ℕ). OneEnds taken.qid n (time_of old) flight (hosts_of old) (hosts_of after)) (sym c.in_ok-command.ensures.number) ends);
          } in
          subst (λ (t : ℕ). EndsTold t command flight.request.counts (hosts_of old) (hosts_of after)) (sym (stays_time old after stays)) it;
      plans =
          let taken = c.in_ok-taken.taken in
          let same : time_of after ≡ time_of told = stays_time old after stays ∙ sym (stays_time old told second) in
          let it : EndPlans c.args.channel taken.qid taken.number old.machine after = record {
            taken = taken;
            queue_is = refl;
            number_is = refl;
            flight = c.in_ok-taken.flight;
            done = c.in_ok-taken.ensures.ends;
            goes = all_at _ _ _ _ (stays_time old thought third) c.submit.ensures.goes.hosts;
            ended = c.finish.new.self;
            ends = c.in_ok-taken.ensures.plans;
            thought = thought.machine;
            thinks = thinks_at told thought after c.finish.new.self taken.qid machine c.think.ensures.rest same refl c.in_ok-think.ensures.plans;
            rests = c.submit.ensures.rests;
            submits = c.in_ok-submit.ensures.submits;
            reads = c.in_ok-submit.ensures.all;
            device = c.submit.ensures.device ∙ c.think.ensures.device ∙ ap (λ (m : Machine). m.device) machine;
            events = ap events_of c.submit.ensures.agenda;
          } in
          subst (λ (k : ℕ). EndPlans k c.in_ok-command.command.queue c.in_ok-command.command.number old.machine after) (sym c.in_ok-command.ensures.channel)
          (subst (λ (q : ℕ). EndPlans c.args.channel q c.in_ok-command.command.number old.machine after) (sym c.in_ok-command.ensures.queue)
          (subst (λ (n : ℕ). EndPlans c.args.channel taken.qid n old.machine after) (sym c.in_ok-command.ensures.number) it));
      cost =
          let ends = c.in_ok-taken.ensures.cost in
          let thinks : cost_with thought.machine ≤ cost_with c.finish.new.self + 2 = subst (λ (m : Machine). cost_with thought.machine ≤ cost_with m + 2) machine c.think.ensures.cost in
          let submits = c.submit.ensures.cost in
          omega (arith, left_behind old after stays, ends, thinks, submits, leaves.came, leaves.left, ap (λ (o : Occupancy). o.came) occupancy, ap (λ (o : Occupancy). o.left) occupancy, told.occupancy.no_more_left);
    }
