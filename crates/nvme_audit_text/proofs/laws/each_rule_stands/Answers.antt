use Rattle.std.proofs.Common.{refl}
use Rattle.nvme_arbiter.specs.declared.specified.Rule.TheVariants as pick_rule
use Rattle.nvme_audit.specs.declared.verdict.Rule.TheVariants as rule
use Rattle.nvme_audit_text.specs.Laws.{EachRuleStands, EachPickRuleStands}
use Rattle.nvme_audit_text.proofs.laws.each_rule_stands.Goals as goal

stands : EachRuleStands
stands rule.FetchClosed = (0, refl)
stands rule.FetchBeyondTail = (1, refl)
stands rule.FetchSlot = (2, refl)
stands rule.PostClosed = (3, refl)
stands rule.Slot = (4, refl)
stands rule.Phase = (5, refl)
stands rule.CqFull = (6, refl)
stands rule.CqWrong = (7, refl)
stands rule.Life = (8, refl)
stands rule.Sqhd = (9, refl)
stands rule.SqdelUnasked = (10, refl)
stands rule.AbortUnasked = (11, refl)
stands rule.AbortUntrue = (12, refl)
stands rule.StatusForeign = (13, refl)
stands rule.StatusCreate = (14, refl)
stands rule.StatusDelete = (15, refl)
stands rule.Features = (16, refl)

picks_stand : EachPickRuleStands
picks_stand pick_rule.Candidates = (0, refl)
picks_stand pick_rule.Burst = (1, refl)
picks_stand pick_rule.Priority = (2, refl)
picks_stand pick_rule.Credit = (3, refl)
picks_stand pick_rule.Turn = (4, refl)

pub returns-clause-queues : goal.returns-clause-queues
returns-clause-queues c = stands

pub returns-clause-picks : goal.returns-clause-picks
returns-clause-picks c = picks_stand
