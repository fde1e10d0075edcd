use Rattle.std.proofs.Common.{refl, ◌∙◌, sym, subst, arith, List, Option, Some, true}
use Rattle.nvme_entry.specs.declared.admin.AdminCommand.TheVariants.{DeleteSq}
use Rattle.nvme_admin.specs.declared.verdict.SqEntry.{SqEntry}
use Rattle.nvme_admin.specs.declared.verdict.Verdict.TheVariants.{BeginDelete}
use Rattle.nvme_admin.specs.Standing.{Does}
use Rattle.nvme_admin.proofs.Created.{Does-delete_sq}
use Rattle.nvme_admin.proofs.PlaceLemmas.{sqs-set}
use Rattle.nvme_admin.specs.Layout.{view_of}
use Rattle.nvme_admin.proofs.fields.TableFields.delete_sq.Goals as goal

pub returns-in-Some-clause-does : goal.returns-in-Some-clause-does
returns-in-Some-clause-does c =
    let v = view_of c.args.self.now in
    subst (λ (qs : List (Option SqEntry)). Does (view_of c.args.self.now) (record v { sqs = qs }) (DeleteSq c.args.qid) (BeginDelete c.args.qid))
    (sym (sqs-set c.args.self.now.sqs c.from.result c.of.result (Some (record c.in-Some.queue { closing = true })) c.of.ensures))
    (Does-delete_sq v (view_of c.args.self.now) c.args.qid c.from.result c.in-Some.queue refl c.from.ensures c.if-qid-eq0.false
    (sym c.sq.ensures ∙ c.in-Some.is) (let h = c.if-not-queue.true in grind arith))
