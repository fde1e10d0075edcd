-- What is told of regions changes no verdict but where queues may lie anywhere, and there none but in its region.
use Rattle.std.proofs.Common.{◌≡◌, Bool, true, List, Option, Some, None, refl, ap, sym, ◌∙◌}
use Rattle.std.specs.Prelude.{is_some}
use Rattle.nvme_admin.specs.History.{Placing}
use Rattle.nvme_admin.specs.declared.verdict.Verdict.{Verdict}
use Rattle.nvme_placing.specs.Telling.{IsToldBy, placing_of, unplaced_verdict}
use Rattle.nvme_log.specs.Rules.{FrontRules}
use Rattle.nvme_ctrl_log.specs.Making.{placing_in}
use Rattle.nvme_ctrl_log.specs.Notes.{Notes}
use Rattle.nvme_ctrl_log.specs.Steps.{NamesIdentifiers}
use Rattle.nvme_ctrl.specs.declared.picks.Step.{Step}
use Rattle.nvme_ctrl.specs.declared.picks.Step.TheVariants as step
use Rattle.nvme_slots.specs.declared.slot.Slot.{Slot}
use Rattle.nvme_ctrl.specs.declared.state.Controller.{Controller}
use Rattle.nvme_ctrl.specs.kept.Kept.{StandsAt}

pub told_by : (p : Option Placing) (a b v : Verdict) → (p ≡ None → a ≡ b) → unplaced_verdict a ≡ unplaced_verdict b → IsToldBy p b v → IsToldBy p a v
told_by None a b v none same told = none refl ∙ told
told_by (Some x) a b v none same told = same ∙ told

-- a table places its queues as the rules say
pub placing_is : (rules : FrontRules) (late : Bool) (notes : Notes) (c : Controller) (slots : List Slot) → StandsAt rules late notes c slots → placing_of c.table ≡ placing_in rules
placing_is rules late notes c slots s = sym s.numbers.tells.placing ∙ s.holds.tabled.placing

pub is_anywhere : (rules : FrontRules) (late : Bool) (notes : Notes) (c : Controller) (slots : List Slot) → StandsAt rules late notes c slots → is_some (placing_in rules) ≡ true → is_some (placing_of c.table) ≡ true
is_anywhere rules late notes c slots s on = ap (λ (p : Option Placing). is_some p) (placing_is rules late notes c slots s) ∙ on

-- what is done in a step has the identifiers of its queues
abbrev pub IdentifiesIn : Step → Type 0
IdentifiesIn (step.Done did entry) = NamesIdentifiers did
IdentifiesIn other = Unit {0}
