-- The names of rules. (profile)
use Rattle.std.specs.Prelude.{ℕ, List, [], ◌∷◌, codes}
use Rattle.nvme_arbiter.specs.declared.specified.Rule.{Rule as PickRule}
use Rattle.nvme_arbiter.specs.declared.specified.Rule.TheVariants as pick_rule
use Rattle.nvme_audit.specs.declared.verdict.Rule.{Rule}
use Rattle.nvme_audit.specs.declared.verdict.Rule.TheVariants as rule
use Rattle.nvme_audit.specs.declared.verdict.Breach.{Breach}
use Rattle.nvme_audit.specs.declared.verdict.Breach.TheVariants as breach

-- a rule for the controller
abbrev pub rule_text : Rule → List ℕ
rule_text rule.FetchClosed = codes "fetch-closed"
rule_text rule.FetchBeyondTail = codes "fetch-beyond-tail"
rule_text rule.FetchSlot = codes "fetch-slot"
rule_text rule.PostClosed = codes "post-closed"
rule_text rule.Slot = codes "slot"
rule_text rule.Phase = codes "phase"
rule_text rule.CqFull = codes "cq-full"
rule_text rule.CqWrong = codes "cq-wrong"
rule_text rule.Life = codes "life"
rule_text rule.Sqhd = codes "sqhd"
rule_text rule.SqdelUnasked = codes "sqdel-unasked"
rule_text rule.AbortUnasked = codes "abort-unasked"
rule_text rule.AbortUntrue = codes "abort-untrue"
rule_text rule.StatusForeign = codes "status-foreign"
rule_text rule.StatusCreate = codes "status-create"
rule_text rule.StatusDelete = codes "status-delete"
rule_text rule.Features = codes "features"

-- all of them, in the order in which they are told
abbrev pub all_rules : List Rule
all_rules =
    rule.FetchClosed ∷ rule.FetchBeyondTail ∷ rule.FetchSlot ∷ rule.PostClosed ∷ rule.Slot ∷ rule.Phase ∷ rule.CqFull ∷ rule.CqWrong ∷ rule.Life
    ∷ rule.Sqhd ∷ rule.SqdelUnasked ∷ rule.AbortUnasked ∷ rule.AbortUntrue ∷ rule.StatusForeign ∷ rule.StatusCreate ∷ rule.StatusDelete ∷ rule.Features ∷ []

-- a rule of arbitration, which each pick keeps
abbrev pub pick_rule_text : PickRule → List ℕ
pick_rule_text pick_rule.Candidates = codes "pick-candidates"
pick_rule_text pick_rule.Burst = codes "pick-burst"
pick_rule_text pick_rule.Priority = codes "pick-priority"
pick_rule_text pick_rule.Credit = codes "pick-credit"
pick_rule_text pick_rule.Turn = codes "pick-turn"

abbrev pub all_pick_rules : List PickRule
all_pick_rules = pick_rule.Candidates ∷ pick_rule.Burst ∷ pick_rule.Priority ∷ pick_rule.Credit ∷ pick_rule.Turn ∷ []

-- a rule for the host
abbrev pub breach_text : Breach → List ℕ
breach_text breach.TailRange = codes "tail-range"
breach_text breach.TailFull = codes "tail-full"
breach_text breach.HeadRange = codes "head-range"
breach_text breach.CidReused = codes "cid-reused"
