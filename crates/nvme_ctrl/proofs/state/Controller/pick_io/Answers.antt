use Rattle.std.proofs.Common.{◌≡◌, ℕ, ◌+◌, sym, ap, subst, ◌∙◌}
use Rattle.std.specs.Prelude.{slice_set, min}
use Rattle.nvme_ctrl_log.specs.Steps.{picked_notes}
use Rattle.nvme_ctrl.specs.Standing.{Stands}
use Rattle.nvme_ctrl.specs.kept.State.{sq_at}
use Rattle.nvme_ctrl.specs.declared.state.SqState.{SqState}
use Rattle.nvme_ctrl.specs.declared.state.Controller.{Controller}
use Rattle.nvme_ctrl.proofs.PickCall.{next_lawful, pick-stands, picked_state}
use Rattle.nvme_ctrl.proofs.state.Controller.pick_io.Goals as goal

pub returns : goal.returns
returns c = record {
  own = ap (λ (z : Controller). z.own) c.put_unposted.ensures;
  depths = ap (λ (z : Controller). z.depths) c.put_unposted.ensures;
  stands = λ rules late notes s.
      let self : Controller = c.args.self.now in
      let can = c.requires.can in
      let q : ℕ = c.args.pick.qid in
      let n : ℕ = c.args.pick.n in
      let done = pick-stands rules late notes self c.args.slots.now s can.none_picked c.args.pick c.keep.new.self
      (next_lawful self c.args.pick can.next (can.some (record { rules = rules; late = late; notes = notes; stands = s }))) c.keep.ensures.stands c.keep.ensures.queues c.keep.ensures.is_arbiter c.requires.io in
      let unposted : c.saturating_add-unposted.result ≡ min (c.sq-sq.result.unposted + n) 65535 = c.saturating_add-unposted.ensures in
      let put : c.put_unposted.new.self ≡ record self { board = c.keep.new.self; sqs = slice_set self.sqs q (picked_state self q n) } =
      c.put_unposted.ensures
      ∙ ap (λ (u : ℕ). record self { board = c.keep.new.self; sqs = slice_set self.sqs q (record (sq_at self.sqs q) { unposted = u }) })
      (unposted ∙ ap (λ (z : SqState). min (z.unposted + n) 65535) c.sq-sq.ensures) in
      subst (λ (o : ℕ). Stands rules late (picked_notes notes c.args.pick) (record c.put_unposted.new.self { outstanding = o; picked = n; picked_qid = q }) c.args.slots.now) (sym c.saturating_add-self.ensures)
      (subst (λ (x : Controller). Stands rules late (picked_notes notes c.args.pick) (record x { outstanding = min (x.outstanding + n) 65535; picked = n; picked_qid = q }) c.args.slots.now) (sym put) done);
}
