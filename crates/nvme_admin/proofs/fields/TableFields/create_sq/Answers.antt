use Rattle.std.proofs.Common.{rules, refl, sym, subst, Some, true, false}
use Rattle.nvme_entry.specs.declared.admin.AdminCommand.TheVariants.{CreateSq}
use Rattle.nvme_admin.specs.declared.verdict.SqEntry.{SqEntry}
use Rattle.nvme_admin.specs.declared.verdict.Verdict.TheVariants.{OpenSq}
use Rattle.nvme_admin.specs.Standing.{TableView, Does}
use Rattle.nvme_admin.proofs.Created.{Does-create_sq}
use Rattle.nvme_admin.proofs.PlaceLemmas.{sqs-set, flags-set}
use Rattle.nvme_admin.proofs.PlaceLemmas.{sized-in}
use Rattle.nvme_admin.specs.Layout.{view_of}
use Rattle.nvme_admin.proofs.fields.TableFields.create_sq.Goals as goal

pub returns-in-Ok-clause-does : goal.returns-in-Ok-clause-does
returns-in-Ok-clause-does c =
    let v = view_of c.args.self.now in
    let queue : SqEntry = record { region = c.in-Ok.field-0.region; cqid = c.args.cqid; class = c.class_of_qprio-class.result; closing = false } in
    let placed = sqs-set c.args.self.now.sqs c.from.result c.of.result (Some queue) c.of.ensures in
    let used = flags-set c.args.self.now.sq_used c.from-in-Ok.result c.of-in-Ok.result true c.of-in-Ok.ensures in
    subst (λ (u : TableView). Does (view_of c.args.self.now) u (CreateSq c.args.qid c.args.qsize c.args.prp1 c.args.cqid c.args.qprio c.args.pc) (OpenSq c.args.qid c.in-Ok.field-0.region c.args.cqid c.class_of_qprio-class.result))
    (sym (λ i. record v { sqs = placed i; sq_used = used i; created = c.of-self.ensures i }))
    (Does-create_sq v (view_of c.args.self.now) refl (sized-in c.args.self.now (search rules) (search rules) (search rules) (search rules)) c.args.qid c.args.qsize c.args.prp1 c.args.pc c.in-Ok.field-0.region
    c.in-Ok.ensures.bound c.in-Ok.ensures.region_bound c.in-Ok.ensures.not_admin
    c.args.cqid c.args.qprio c.from.result c.from-in-Ok.result c.class_of_qprio-class.result c.from.ensures c.from-in-Ok.ensures c.class_of_qprio-class.ensures
    c.in-Ok.ensures.passes c.in-Ok.ensures.region)
