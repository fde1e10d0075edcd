use Rattle.std.proofs.Common.{◌≡◌, ◌∙◌, ℕ, ◌+◌, ◌*◌, ◌<◌, refl, ap, sym, subst, true≢false}
use Rattle.nvme_entry.specs.Status.{success}
use Rattle.nvme_entry.specs.declared.admin.AdminCommand.TheVariants.{CreateSq}
use Rattle.nvme_admin.specs.declared.bounds.TheConstants.{MAX_REGIONS}
use Rattle.nvme_admin.specs.declared.fields.TableFields.{TableFields}
use Rattle.nvme_admin.specs.History.{Placing}
use Rattle.nvme_admin.specs.Checks.{is_success, status_in, status_over}
use Rattle.nvme_admin.specs.Effects.{verdict_in}
use Rattle.nvme_admin.specs.Layout.{view_of}
use Rattle.nvme_admin.specs.Standing.{IsSized, table_of, sq_renewed}
use Rattle.nvme_placing.specs.inside.Carrying.{Carries, IsPlaced}
use Rattle.nvme_placing.proofs.Carried.{Did, sq-at_once, sq-after_renewal}
use Rattle.nvme_placing.proofs.TokenLemmas.{allotted-few}
use Rattle.nvme_placing.proofs.tokens.create_sq.Goals as goal

-- the region was renewed, and the table did the Create
renewed : (c : goal.After-execute) (p : Placing) (prp1 cqid qprio : ℕ)
    → IsPlaced (view_of c.args.table.now) p c.args.entry.now (CreateSq c.args.qid c.args.qsize prp1 cqid qprio c.args.pc)
    → Carries (view_of c.args.table.now) (view_of c.execute.new.self) p c.args.entry.now (verdict_in c.execute.result) × (status_in (verdict_in c.execute.result) ≡ success)
renewed c p prp1 cqid qprio is =
    let lacks = c.if-lacks_region.ensures.yes refl in
    let stays : c.execute-effect.new.self ≡ c.args.table.now = c.execute-effect.ensures.unchanged (ap is_success lacks.2) in
    let changed : c.args.qid < MAX_REGIONS → view_of c.renew_sq.new.table ≡ sq_renewed (view_of c.args.table.now) c.args.qid (c.args.qsize + 1) =
    λ there. c.renew_sq.ensures there ∙ ap (λ (t : TableFields). sq_renewed (view_of t) c.args.qid (c.args.qsize + 1)) stays in
    let did : Did (view_of c.renew_sq.new.table) (view_of c.execute.new.self) (record c.args.entry.now { prp1 = 2 * c.from.result }) (verdict_in c.execute.result) =
    record { checked = c.execute.ensures.checked; answered = c.execute.ensures.answered; accepted = c.execute.ensures.accepted; refused = λ bad. ap view_of (c.execute.ensures.unchanged bad); sized = c.execute.ensures.sized } in
    let of_token = c.from.ensures in
    sq-after_renewal p c.args.entry.now c.args.qid c.args.qsize prp1 cqid qprio c.args.pc (view_of c.args.table.now) (view_of c.renew_sq.new.table) (view_of c.execute.new.self)
    (verdict_in c.execute-effect.result) (verdict_in c.execute.result) is
    (subst (λ (t : TableFields). IsSized (view_of t)) stays c.execute-effect.ensures.sized) (allotted-few c.args.table.now.nsq.number)
    (subst (λ (n : ℕ). status_in (verdict_in c.execute-effect.result) ≡ status_over (table_of (view_of c.args.table.now)) (record c.args.entry.now { prp1 = 2 * n })) of_token c.execute-effect.ensures.checked) lacks.0 lacks.2 changed
    (subst (λ (n : ℕ). Did (view_of c.renew_sq.new.table) (view_of c.execute.new.self) (record c.args.entry.now { prp1 = 2 * n }) (verdict_in c.execute.result)) of_token did)

pub returns-then-lacks_region-clause-carries : goal.returns-then-lacks_region-clause-carries
returns-then-lacks_region-clause-carries c = λ p prp1 cqid qprio is. (renewed c p prp1 cqid qprio is).0

pub returns-then-lacks_region-clause-unchanged : goal.returns-then-lacks_region-clause-unchanged
returns-then-lacks_region-clause-unchanged c = λ p prp1 cqid qprio is bad. absurd (true≢false (sym (ap is_success (renewed c p prp1 cqid qprio is).1) ∙ bad))

pub returns-else-lacks_region-clause-carries : goal.returns-else-lacks_region-clause-carries
returns-else-lacks_region-clause-carries c = λ p prp1 cqid qprio is.
    let did : Did (view_of c.args.table.now) (view_of c.execute-effect.new.self) (record c.args.entry.now { prp1 = 2 * c.from.result }) (verdict_in c.execute-effect.result) =
    record { checked = c.execute-effect.ensures.checked; answered = c.execute-effect.ensures.answered; accepted = c.execute-effect.ensures.accepted; refused = λ bad. ap view_of (c.execute-effect.ensures.unchanged bad); sized = c.execute-effect.ensures.sized } in
    sq-at_once p c.args.entry.now c.args.qid c.args.qsize prp1 cqid qprio c.args.pc (view_of c.args.table.now) (view_of c.execute-effect.new.self) (verdict_in c.execute-effect.result) is
    (subst (λ (n : ℕ). Did (view_of c.args.table.now) (view_of c.execute-effect.new.self) (record c.args.entry.now { prp1 = 2 * n }) (verdict_in c.execute-effect.result)) c.from.ensures did)
    (c.if-lacks_region.ensures.no refl)
