use Rattle.std.proofs.Common.{rules, refl, sym, subst, Some, true}
use Rattle.nvme_entry.specs.declared.admin.AdminCommand.TheVariants.{CreateCq}
use Rattle.nvme_admin.specs.declared.verdict.Verdict.TheVariants.{OpenCq}
use Rattle.nvme_admin.specs.Standing.{TableView, Does}
use Rattle.nvme_admin.proofs.Created.{Does-create_cq}
use Rattle.nvme_admin.proofs.PlaceLemmas.{cqs-set, flags-set}
use Rattle.nvme_admin.proofs.PlaceLemmas.{sized-in}
use Rattle.nvme_admin.specs.Layout.{view_of}
use Rattle.nvme_admin.proofs.fields.TableFields.create_cq.Goals as goal

pub returns-in-Ok-clause-does : goal.returns-in-Ok-clause-does
returns-in-Ok-clause-does c =
    let v = view_of c.args.self.now in
    let placed = cqs-set c.args.self.now.cqs c.from.result c.of.result (Some c.in-Ok.region) c.of.ensures in
    let used = flags-set c.args.self.now.cq_used c.from-in-Ok.result c.of-in-Ok.result true c.of-in-Ok.ensures in
    subst (λ (u : TableView). Does (view_of c.args.self.now) u (CreateCq c.args.qid c.args.qsize c.args.prp1 c.args.pc) (OpenCq c.args.qid c.in-Ok.region))
    (sym (λ i. record v { cqs = placed i; cq_used = used i; created = c.of-self.ensures i }))
    (Does-create_cq v (view_of c.args.self.now) refl (sized-in c.args.self.now (search rules) (search rules) (search rules) (search rules)) c.args.qid c.args.qsize c.args.prp1 c.args.pc c.in-Ok.region
    c.in-Ok.ensures.bound c.in-Ok.ensures.region_bound c.in-Ok.ensures.not_admin
    c.from.result c.from-in-Ok.result c.from.ensures c.from-in-Ok.ensures c.in-Ok.ensures.passes c.in-Ok.ensures.region)
