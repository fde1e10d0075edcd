use Rattle.nvme_ctrl_log.specs.Notes.{logged}
use Rattle.nvme_engine.proofs.Endings.{admin_aborts_none, untold_aborts_none, told_aborts_none, told_aborts}
use Rattle.nvme_engine.proofs.engine.Engine.aborted_by.Goals as goal

pub returns-then-sqid-eq0 : goal.returns-then-sqid-eq0
returns-then-sqid-eq0 c rules late notes s = admin_aborts_none (logged notes) c.args.sqid c.args.cid c.if-sqid-eq0.true

pub returns-in_default : goal.returns-in_default
returns-in_default c rules late notes s = untold_aborts_none (logged notes) c.args.sqid c.args.cid c.if-sqid-eq0.false (c.in_default.ensures rules late notes s)

pub returns-in-Some-named_in : goal.returns-in-Some-named_in
returns-in-Some-named_in c rules late notes s =
    told_aborts (logged notes) c.args.sqid c.args.cid c.if-sqid-eq0.false c.in-Some.region (c.in-Some.ensures rules late notes s) c.in-Some-named_in.index
    (c.in-Some-named_in.ensures rules late notes s)

pub returns-in-None : goal.returns-in-None
returns-in-None c rules late notes s =
    told_aborts_none (logged notes) c.args.sqid c.args.cid c.if-sqid-eq0.false c.in-Some.region (c.in-Some.ensures rules late notes s) (c.in-None.ensures rules late notes s)
