use Rattle.std.proofs.Common.{◌≡◌, ◌∙◌, false, refl, ap, sym}
use Rattle.nvme_entry.specs.AdminCommand.{admin_command_of}
use Rattle.nvme_entry.specs.declared.admin.AdminCommand.TheVariants.{CreateSq, CreateCq}
use Rattle.nvme_admin.specs.Effects.{verdict_in}
use Rattle.nvme_admin.specs.Layout.{view_of}
use Rattle.nvme_placing.specs.Telling.{HasTokens, placing_by}
use Rattle.nvme_placing.specs.inside.Carrying.{IsPlaced}
use Rattle.nvme_placing.proofs.Alike.{is_create, not-create}
use Rattle.nvme_placing.proofs.Carried.{Did, refused-carried, other-carried}
use Rattle.nvme_placing.proofs.tokens.execute.Goals as goal

pub returns-in-Some-clause-carries : goal.returns-in-Some-clause-carries
returns-in-Some-clause-carries c = λ tokens sized.
    refused-carried (view_of c.args.table.now) (placing_by c.args.placement) c.args.entry.now c.in-Some.status (sym c.fuse.ensures ∙ c.if-fuse-ne0.false) tokens
    sized c.in-Some.ensures.failure c.in-Some.ensures.refused

-- the entry is a Create of a submission queue that its placing allows
sq-placed : (c : goal.After-create_sq) → HasTokens (view_of c.args.table.now)
    → IsPlaced (view_of c.args.table.now) (placing_by c.args.placement) c.args.entry.now (CreateSq c.in-CreateSq.qid c.in-CreateSq.qsize c.in-CreateSq.prp1 c.in-CreateSq.cqid c.in-CreateSq.qprio c.in-CreateSq.pc)
sq-placed c tokens = record {
  tokens = tokens;
  alone = sym c.fuse.ensures ∙ c.if-fuse-ne0.false;
  command_is = sym c.admin_of.ensures ∙ c.in-CreateSq.is;
  passes = c.in_default.ensures.passed refl;
}

pub returns-in-CreateSq-clause-carries : goal.returns-in-CreateSq-clause-carries
returns-in-CreateSq-clause-carries c = λ tokens sized.
    c.create_sq.ensures.carries (placing_by c.args.placement) c.in-CreateSq.prp1 c.in-CreateSq.cqid c.in-CreateSq.qprio (sq-placed c tokens)

pub returns-in-CreateSq-clause-unchanged : goal.returns-in-CreateSq-clause-unchanged
returns-in-CreateSq-clause-unchanged c = λ tokens bad.
    c.create_sq.ensures.unchanged (placing_by c.args.placement) c.in-CreateSq.prp1 c.in-CreateSq.cqid c.in-CreateSq.qprio (sq-placed c tokens) bad

-- the entry is a Create of a completion queue that its placing allows
cq-placed : (c : goal.After-create_cq) → HasTokens (view_of c.args.table.now)
    → IsPlaced (view_of c.args.table.now) (placing_by c.args.placement) c.args.entry.now (CreateCq c.in-CreateCq.qid c.in-CreateCq.qsize c.in-CreateCq.prp1 c.in-CreateCq.pc)
cq-placed c tokens = record {
  tokens = tokens;
  alone = sym c.fuse.ensures ∙ c.if-fuse-ne0.false;
  command_is = sym c.admin_of.ensures ∙ c.in-CreateCq.is;
  passes = c.in_default.ensures.passed refl;
}

pub returns-in-CreateCq-clause-carries : goal.returns-in-CreateCq-clause-carries
returns-in-CreateCq-clause-carries c = λ tokens sized. c.create_cq.ensures.carries (placing_by c.args.placement) c.in-CreateCq.prp1 (cq-placed c tokens)

pub returns-in-CreateCq-clause-unchanged : goal.returns-in-CreateCq-clause-unchanged
returns-in-CreateCq-clause-unchanged c = λ tokens bad. c.create_cq.ensures.unchanged (placing_by c.args.placement) c.in-CreateCq.prp1 (cq-placed c tokens) bad

pub returns-in_default-admin_of : goal.returns-in_default-admin_of
returns-in_default-admin_of c =
    let other : is_create (admin_command_of c.args.entry.now) ≡ false =
    not-create (admin_command_of c.args.entry.now)
    (λ qid qsize prp1 cqid qprio pc is. c.in_default-admin_of.not-CreateSq qid qsize prp1 cqid qprio pc (c.admin_of.ensures ∙ is))
    (λ qid qsize prp1 pc is. c.in_default-admin_of.not-CreateCq qid qsize prp1 pc (c.admin_of.ensures ∙ is)) in
    let run = c.execute-in_default-admin_of in
    let did : Did (view_of c.args.table.now) (view_of run.new.self) c.args.entry.now (verdict_in run.result) =
    record { checked = run.ensures.checked; answered = run.ensures.answered; accepted = run.ensures.accepted; refused = λ bad. ap view_of (run.ensures.unchanged bad); sized = run.ensures.sized } in
    record {
      carries = λ tokens sized. other-carried (view_of c.args.table.now) (view_of run.new.self) (placing_by c.args.placement) c.args.entry.now (verdict_in run.result) other did tokens;
      unchanged = λ tokens bad. run.ensures.unchanged bad;
    }
