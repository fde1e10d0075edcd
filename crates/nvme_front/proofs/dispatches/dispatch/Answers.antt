use Rattle.std.proofs.Common.{◌≡◌, ◌+◌, length, refl, sym, ap, ◌∙◌, subst, arith}
use Rattle.std.specs.Prelude.{IsSome, Option}
use Rattle.std.proofs.lemmas.List.{length_push}
use Rattle.nvme_engine.specs.declared.answers.Taking.{Taking}
use Rattle.nvme_jobs.specs.inside.Jobs.{JobsView}
use Rattle.nvme_log.specs.Dispatches.{place_at}
use Rattle.nvme_jobs.specs.inside.Jobs.{next_job}
use Rattle.nvme_front.proofs.TakenCommands.{TakesSome, takes-none, takes-more, takes-never, takes-all, engine_takes}
use Rattle.nvme_front.proofs.dispatches.dispatch.Goals as goal
use Rattle.nvme_front.proofs.dispatches.dispatch.Goals.{in-Some, in_default}

pub loop-init : goal.loop-init
loop-init c = record {
  engine = c.requires.engine;
  room = refl;
  unhanded = omega arith;
  tickets = omega arith;
  some = takes-none c.args.region c.args.jobs.now c.args.engine.now;
}

pub loop-preserved : goal.loop-preserved
loop-preserved c =
    let i = c.loop.invariant in
    let e = c.take.ensures in
    let after = engine_takes c.loop.engine c.take.new.self c.take.result e.none e.some e.stands i.engine in
    elim c.match-take.branch [
      | in-Some w ↦
          let are = w.jobs-is ∙ w.add.ensures in
          let more = takes-more c.args.region c.loop.counter c.args.jobs.now c.args.engine.now c.loop.jobs c.loop.engine i.some w.in-Some.taking c.take.new.self w.in-Some.ensures.stands in
          record {
            engine = after;
            room = ap (λ (j : JobsView). j.room) are ∙ i.room;
            unhanded = omega (
              arith,
              ap (λ (j : JobsView). length j.hands.unhanded) are,
              i.unhanded,
              length_push c.loop.jobs.hands.unhanded (next_job c.loop.jobs w.in-Some.taking.tag (place_at c.args.region w.in-Some.taking.index) w.in-Some.taking.entry),
            );
            tickets = omega (arith, ap (λ (j : JobsView). j.tickets) are, i.tickets);
            some = subst (λ (j : JobsView). TakesSome c.args.region (c.loop.counter + 1) c.args.jobs.now c.args.engine.now j c.take.new.self) (sym are) more;
          }
      | in_default w ↦
          let never = takes-never c.args.region c.loop.counter c.args.jobs.now c.args.engine.now c.loop.jobs c.loop.engine i.some c.take.new.self
          (λ rules late notes p rest stands. let there = subst (λ (o : Option Taking). IsSome o) w.in_default.is (e.some rules late notes p rest stands) in absurd (cc there)) in
          record {
            engine = after;
            room = ap (λ (j : JobsView). j.room) w.jobs-is ∙ i.room;
            unhanded = omega (arith, ap (λ (j : JobsView). length j.hands.unhanded) w.jobs-is, i.unhanded);
            tickets = omega (arith, ap (λ (j : JobsView). j.tickets) w.jobs-is, i.tickets);
            some = subst (λ (j : JobsView). TakesSome c.args.region (c.loop.counter + 1) c.args.jobs.now c.args.engine.now j c.take.new.self) (sym w.jobs-is) never;
          }
    ]

pub returns-clause-dispatched : goal.returns-clause-dispatched
returns-clause-dispatched c rules late notes indexes stands counts =
    let end : c.loop.counter ≡ c.args.n = omega (arith, c.loop-test.false, c.loop.auto.counter-end) in
    takes-all c.args.region c.loop.counter c.args.jobs.now c.args.engine.now c.loop.jobs c.loop.engine c.loop.invariant.some rules late notes indexes stands (counts ∙ sym end)
