-- So has the region of a queue that the picked command opens, among what a controller keeps.
use Rattle.std.proofs.Common.{◌≡◌, ℕ, Bool, List, Option, Some, None, refl, sym, ap, subst, ◌∙◌}
use Rattle.std.specs.Prelude.{is_some}
use Rattle.nvme_entry.specs.AdminCommand.{admin_command_of}
use Rattle.nvme_arbiter.specs.declared.settings.Class.{Class}
use Rattle.nvme_admin.specs.declared.region.Region.{Region}
use Rattle.nvme_admin.specs.declared.verdict.Verdict.{Verdict}
use Rattle.nvme_admin.specs.declared.verdict.Verdict.TheVariants.{OpenSq, OpenCq}
use Rattle.nvme_admin.specs.History.{Placing}
use Rattle.nvme_admin.specs.QueueTable.{QueueTable}
use Rattle.nvme_log.specs.Rules.{FrontRules, Past, sq_regions_of, cq_regions_of}
use Rattle.nvme_ctrl_content.specs.Content.{Candidate, Content}
use Rattle.nvme_ctrl_content.specs.Standing.{Holds}
use Rattle.nvme_ctrl_content.specs.Steps.{HasNextRegion, verdict_at}
use Rattle.nvme_ctrl_log.proofs.AskedSlots.{HasAsked, entry_sq, entry_cq, asked_there}

module _ (rules : FrontRules) (late : Bool) (past : Past) (k : Content) (s : Holds rules late past k) (candidate : Candidate)
    (placed : HasNextRegion rules k.table candidate (verdict_at rules s.tabled.history candidate)) where
  -- the region of a submission queue that is opened has the slots that its Create asks for
  pub asked_sq : (qid region cqid : ℕ) (class : Class) → verdict_at rules s.tabled.history candidate ≡ OpenSq qid region cqid class
      → HasAsked (sq_regions_of rules) region (admin_command_of candidate.entry)
  asked_sq qid region cqid class is = by k.table.placing refl where
    next : HasNextRegion rules k.table candidate (OpenSq qid region cqid class)
    next = subst (λ (v : Verdict). HasNextRegion rules k.table candidate v) is placed

    by : (p : Option Placing) → k.table.placing ≡ p → HasAsked (sq_regions_of rules) region (admin_command_of candidate.entry)
    by None none =
        subst (λ (regions : List Region). HasAsked regions region (admin_command_of candidate.entry)) (ap (λ (t : QueueTable). t.sq_regions) (sym s.tabled.table_is) ∙ s.tabled.sq_regions_are)
        (entry_sq rules.start s.tabled.history candidate.entry qid region cqid class (ap (λ (t : QueueTable). t.placing) (sym s.tabled.table_is) ∙ none) is)
    by (Some p) some = asked_there (sq_regions_of rules) region candidate.entry (next (ap (λ (o : Option Placing). is_some o) some))

  -- and so that of a completion queue
  pub asked_cq : (qid region : ℕ) → verdict_at rules s.tabled.history candidate ≡ OpenCq qid region
      → HasAsked (cq_regions_of rules) region (admin_command_of candidate.entry)
  asked_cq qid region is = by k.table.placing refl where
    next : HasNextRegion rules k.table candidate (OpenCq qid region)
    next = subst (λ (v : Verdict). HasNextRegion rules k.table candidate v) is placed

    by : (p : Option Placing) → k.table.placing ≡ p → HasAsked (cq_regions_of rules) region (admin_command_of candidate.entry)
    by None none =
        subst (λ (regions : List Region). HasAsked regions region (admin_command_of candidate.entry)) (ap (λ (t : QueueTable). t.cq_regions) (sym s.tabled.table_is) ∙ s.tabled.cq_regions_are)
        (entry_cq rules.start s.tabled.history candidate.entry qid region (ap (λ (t : QueueTable). t.placing) (sym s.tabled.table_is) ∙ none) is)
    by (Some p) some = asked_there (cq_regions_of rules) region candidate.entry (next (ap (λ (o : Option Placing). is_some o) some))
