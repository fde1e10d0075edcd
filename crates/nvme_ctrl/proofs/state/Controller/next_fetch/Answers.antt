use Rattle.std.proofs.Common.{ℕ, ◌<◌, ◌≤◌, length, sym, subst, inl, inr, arith}
use Rattle.std.proofs.lemmas.Bool.{cases_eq, cases_lt}
use Rattle.std.proofs.lemmas.Option.{none-some}
use Rattle.nvme_ctrl.specs.Calls.{depth_of}
use Rattle.nvme_ctrl_log.specs.Calls.{MayFetch}
use Rattle.nvme_ctrl.specs.NextQueue.{turns_before}
use Rattle.nvme_ctrl.proofs.FetchCalls.{few_queues, told_fetchable}
use Rattle.nvme_ctrl.proofs.FetchTold.{is_fetchable}
use Rattle.nvme_ctrl.proofs.RungQueues.{unrung, none_between}
use Rattle.nvme_ctrl.proofs.state.Controller.next_fetch.Goals as goal

pub returns-in-Some-fetch-clause-next : goal.returns-in-Some-fetch-clause-next
returns-in-Some-fetch-clause-next c rules late notes slots s = record {
  queue = c.at_turn-qid.ensures.few;
  work = (c.in-Some-fetch.slot, c.in-Some-fetch.ensures.may rules late notes slots s);
  none_before = λ p few before has. none_between rules late notes c.args.self.now slots s c.min-last.result c.loop-next.turn c.in-Some.next c.in-Some.ensures (c.loop-next.invariant.none rules late notes slots s) p few
      (subst (λ (n : ℕ). turns_before c.min-last.result p < n) c.at_turn-qid.ensures.turn
      (subst (λ (last : ℕ). turns_before last p < turns_before last c.at_turn-qid.result) (sym c.min-last.ensures) before)) has;
}

pub loop-next-preserved : goal.loop-next-preserved
loop-next-preserved c = record {
  few = (let few = c.in-Some.ensures.few in omega (arith, few));
  last = c.loop-next.invariant.last;
  none = λ rules late notes slots s p few before has. elim (cases_eq (turns_before c.min-last.result p) c.in-Some.next) [
    | inl now ↦ absurd (none-some has.0 (c.in_default-fetch.ensures.told rules late notes slots s has.0
        (subst (λ (q : ℕ). MayFetch rules notes (depth_of c.args.self.now q) (length slots) q has.0) (c.at_turn-qid.ensures.alone p few now) has.1)))
    | inr other ↦ none_between rules late notes c.args.self.now slots s c.min-last.result c.loop-next.turn c.in-Some.next c.in-Some.ensures (c.loop-next.invariant.none rules late notes slots s) p few (omega (arith, before, other)) has
  ];
}

pub returns-clause-none : goal.returns-clause-none
returns-clause-none c rules late notes slots s told q has =
    let it = told_fetchable rules late notes c.args.self.now slots s q (is_fetchable rules late notes c.args.self.now slots s q has.0 has.1) in
    let low : q < 65 = few_queues rules late notes c.args.self.now slots s q it.entry it.can in
    let few : q ≤ 64 = omega (arith, low) in
    elim (cases_lt (turns_before c.min-last.result q) c.loop-next.turn) [
      | inl earlier ↦ c.loop-next.invariant.none rules late notes slots s q few earlier has
      | inr from ↦ unrung rules late notes c.args.self.now slots s q few (c.in_default.ensures q few from) has
    ]
