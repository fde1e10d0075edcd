use Rattle.std.proofs.Common.{◌≢◌, ℕ, Some, sym, ap, ◌∙◌}
use Rattle.std.specs.Prelude.{option_map}
use Rattle.nvme_admin.specs.declared.verdict.SqEntry.{SqEntry}
use Rattle.nvme_ctrl.specs.declared.state.SqState.{SqState}
use Rattle.nvme_ctrl.specs.kept.State.{sq_at}
use Rattle.nvme_ctrl.proofs.ServedQueues.{on_regions, serves_at, no_ring, some_ring}
use Rattle.nvme_ctrl.proofs.ToldEffects.{is_anywhere}
use Rattle.nvme_ctrl.proofs.state.Controller.serving.Goals as goal

pub returns-then-sq-eq0-clause-on_regions : goal.returns-then-sq-eq0-clause-on_regions
returns-then-sq-eq0-clause-on_regions c rules late notes pool s none r =
    let self = c.args.self.now in
    let q = c.args.qid in
    serves_at rules late notes self pool s q _
    (sym (no_ring (sq_at self.sqs q).ring.slots (s.content.table.sq q) (ap (λ (x : SqState). x.ring.slots) (sym c.sq.ensures) ∙ c.if-sq-eq0.true))) r

pub returns-in_err-queue-clause-on_regions : goal.returns-in_err-queue-clause-on_regions
returns-in_err-queue-clause-on_regions c rules late notes pool s none r =
    let self = c.args.self.now in
    let q = c.args.qid in
    let some : (sq_at self.sqs q).ring.slots ≢ 0 = λ empty. c.if-sq-eq0.false (ap (λ (x : SqState). x.ring.slots) c.sq.ensures ∙ empty) in
    let told = c.sq-2.ensures.on_region s.content.table s.numbers.tells (on_regions rules late notes self pool s q none) in
    serves_at rules late notes self pool s q _
    (c.from_residual.ensures ∙ ap (option_map (λ (e : SqEntry). e.region)) (sym c.in_err-queue.was ∙ told)
    ∙ sym (some_ring (sq_at self.sqs q).ring.slots (s.content.table.sq q) some)) r

pub returns-clause-on_regions : goal.returns-clause-on_regions
returns-clause-on_regions c rules late notes pool s none r =
    let self = c.args.self.now in
    let q = c.args.qid in
    let some : (sq_at self.sqs q).ring.slots ≢ 0 = λ empty. c.if-sq-eq0.false (ap (λ (x : SqState). x.ring.slots) c.sq.ensures ∙ empty) in
    let told = c.sq-2.ensures.on_region s.content.table s.numbers.tells (on_regions rules late notes self pool s q none) in
    serves_at rules late notes self pool s q _
    (ap (λ (n : ℕ). Some n) (c.region_told.ensures.on_regions (on_regions rules late notes self pool s q none)) ∙ ap (option_map (λ (e : SqEntry). e.region)) (sym c.in_ok-queue.was ∙ told)
    ∙ sym (some_ring (sq_at self.sqs q).ring.slots (s.content.table.sq q) some)) r

pub returns-clause-anywhere : goal.returns-clause-anywhere
returns-clause-anywhere c rules late notes pool s on = c.region_told.ensures.anywhere (is_anywhere rules late notes c.args.self.now pool s on)
