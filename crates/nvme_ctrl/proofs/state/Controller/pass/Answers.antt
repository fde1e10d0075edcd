-- The pick of the board is the next pick, and its command is the device's.
use Rattle.std.proofs.Common.{◌≡◌, ℕ, ◌+◌, sym, ap, subst, ◌∙◌}
use Rattle.std.specs.Prelude.{slice_set, min}
use Rattle.nvme_ctrl_log.specs.Notes.{logged}
use Rattle.nvme_ctrl.specs.Steps.{HasPassed}
use Rattle.nvme_ctrl.specs.inside.Picks.{oldest_entry}
use Rattle.nvme_ctrl.specs.declared.state.SqState.{SqState}
use Rattle.nvme_ctrl.specs.declared.state.Controller.{Controller}
use Rattle.nvme_ctrl.proofs.PassCall.{pass-call}
use Rattle.nvme_ctrl.proofs.PickCall.{next_lawful, picked_state}
use Rattle.nvme_ctrl.proofs.WaitingNames.{own_may}
use Rattle.nvme_ctrl.proofs.state.Controller.pass.Goals as goal

pub returns : goal.returns
returns c = record {
  left = ap (λ (z : Controller). z.own) c.put_sq.ensures;
  depths = ap (λ (z : Controller). z.depths) c.put_sq.ensures;
  stands = λ rules late notes s.
      let self : Controller = c.args.self.now in
      let can = c.requires.can in
      let lawful = next_lawful self c.args.pick can.next (can.some (record { rules = rules; late = late; notes = notes; stands = s })) in
      let done = pass-call rules late notes self c.args.slots.now s can.none_picked c.args.pick c.keep.new.self
      lawful c.keep.ensures.stands c.keep.ensures.queues c.keep.ensures.is_arbiter c.requires.of_admin (own_may self.own (logged notes) (oldest_entry self c.args.slots.now) (c.requires.own rules late notes s)) in
      let unposted : c.saturating_add.result ≡ min (c.sq-sq.result.unposted + 1) 65535 = c.saturating_add.ensures in
      let put : c.put_sq.new.self ≡ record self { board = c.keep.new.self; sqs = slice_set self.sqs 0 (picked_state self 0 1) } =
      c.put_sq.ensures
      ∙ ap (λ (u : ℕ). record self { board = c.keep.new.self; sqs = slice_set self.sqs 0 (record c.sq-sq.result { unposted = u }) }) unposted
      ∙ ap (λ (q : SqState). record self { board = c.keep.new.self; sqs = slice_set self.sqs 0 (record q { unposted = min (q.unposted + 1) 65535 }) }) c.sq-sq.ensures in
      subst (λ (o : ℕ). HasPassed rules late notes c.args.pick (record c.put_sq.new.self { outstanding = o; picked = 1; picked_qid = 0 }) c.args.slots.now) (sym c.saturating_add-self.ensures)
      (subst (λ (x : Controller). HasPassed rules late notes c.args.pick (record x { outstanding = min (x.outstanding + 1) 65535; picked = 1; picked_qid = 0 }) c.args.slots.now) (sym put) done);
}
