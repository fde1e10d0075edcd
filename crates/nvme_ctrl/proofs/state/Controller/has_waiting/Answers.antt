use Rattle.std.proofs.Common.{not, sym, ap, ◌∙◌, subst}
use Rattle.nvme_log.specs.Queues.{open_sq}
use Rattle.nvme_ctrl_log.specs.Notes.{logged}
use Rattle.nvme_ctrl.specs.declared.state.SqState.{SqState}
use Rattle.nvme_ctrl.specs.kept.Kept.{tags_of}
use Rattle.nvme_slots.specs.Pool.{IsChain, found_in}
use Rattle.nvme_ctrl.proofs.WaitingNames.{admin_names_none, unopened_names_none, some_open, none_open, window_names, window_linked}
use Rattle.nvme_ctrl.proofs.state.Controller.has_waiting.Goals as goal

pub returns-then-sqid-eq0 : goal.returns-then-sqid-eq0
returns-then-sqid-eq0 c rules late notes s none = ap not (sym (admin_names_none (logged notes) c.args.sqid c.args.cid c.if-sqid-eq0.true))

pub returns-else-is_some : goal.returns-else-is_some
returns-else-is_some c rules late notes s none =
    let told = c.sq_region.ensures.told rules late notes c.args.slots.now s in
    let closed = none_open (open_sq (logged notes) c.args.sqid) (sym told ∙ sym c.is_some.ensures ∙ c.if-is_some.false) in
    c.if-is_some.false ∙ ap not (sym (unopened_names_none (logged notes) c.args.sqid c.args.cid closed))

pub returns-then-is_some : goal.returns-then-is_some
returns-then-is_some c rules late notes s none =
    let slots = c.args.slots.now in
    let told = c.sq_region.ensures.told rules late notes slots s in
    let at = some_open (open_sq (logged notes) c.args.sqid) (sym told ∙ sym c.is_some.ensures ∙ c.if-is_some.true) in
    let xs = tags_of (s.items.windows at.queue.region) in
    let chain = subst (λ (x : SqState). IsChain slots x.window xs) (sym c.sq.ensures)
    (window_linked rules late notes c.args.self.now slots s none c.args.sqid c.args.cid c.if-sqid-eq0.false at.queue at.is) in
    c.is_some-then-is_some.ensures
    ∙ window_names rules late notes c.args.self.now slots s none c.args.sqid c.args.cid c.if-sqid-eq0.false at.queue at.is c.find.result
    (c.find.ensures xs chain ∙ ap (λ (x : SqState). found_in slots c.args.cid x.window.first xs) c.sq.ensures)
