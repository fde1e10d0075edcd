use Rattle.std.proofs.Common.{refl, ◌≡◌, ◌∙◌, sym, subst, rules, ℕ, List, Option, None, false}
use Rattle.nvme_entry.specs.declared.admin.AdminCommand.TheVariants.{DeleteCq}
use Rattle.nvme_admin.specs.declared.verdict.Verdict.TheVariants.{CloseCq}
use Rattle.nvme_admin.specs.Checks.{is_attached}
use Rattle.nvme_admin.specs.Standing.{Does, table_of}
use Rattle.nvme_admin.proofs.Created.{Does-delete_cq}
use Rattle.nvme_admin.proofs.PlaceLemmas.{cqs-set}
use Rattle.nvme_admin.specs.Layout.{view_of}
use Rattle.nvme_admin.proofs.fields.TableFields.delete_cq.Goals as goal

pub returns-clause-does : goal.returns-clause-does
returns-clause-does c =
    let v = view_of c.args.self.now in
    let alone : is_attached (table_of (view_of c.args.self.now)) c.args.qid ≡ false = search rules in
    subst (λ (qs : List (Option ℕ)). Does (view_of c.args.self.now) (record v { cqs = qs }) (DeleteCq c.args.qid) (CloseCq c.args.qid))
    (sym (cqs-set c.args.self.now.cqs c.from.result c.of.result None c.of.ensures))
    (Does-delete_cq v (view_of c.args.self.now) c.args.qid c.from.result c.in-Some.region refl c.from.ensures c.if-qid-eq0.false (sym c.cq.ensures ∙ c.in-Some.is) alone)
