-- Laws of audits.
use Rattle.std.specs.Prelude.{◌≡◌, ℕ, List, [], ◌∷◌, ◌++◌, length, reverse, Some, None, slice_get}
use Rattle.nvme_arbiter.specs.declared.specified.Rule.{Rule as PickRule}
use Rattle.nvme_audit.specs.declared.event.Event.{Event}
use Rattle.nvme_audit.specs.declared.facts.Start.{Start}
use Rattle.nvme_audit.specs.declared.verdict.Rule.{Rule}
use Rattle.nvme_audit.specs.declared.verdict.Verdict.TheVariants.{Broken}
use Rattle.nvme_audit.specs.Lives.{Past}
use Rattle.nvme_audit.specs.Lawful.{verdict, IsLawfulLog, IsFirstBroken}
use Rattle.nvme_audit_text.specs.declared.views.View.{View}
use Rattle.nvme_audit_text.specs.declared.views.Observer.{Observer}
use Rattle.nvme_audit_text.specs.declared.head.Head.{Head}
use Rattle.nvme_audit_text.specs.Views.{view_of}
use Rattle.nvme_audit_text.specs.Picks.{history_of}
use Rattle.nvme_audit_text.specs.Names.{all_rules, all_pick_rules}

-- a breach of the controller after a lawful log is the first of the events in their order, by the rule that is told
abbrev pub BreachesAreFirst : Type 0
BreachesAreFirst = (start : Start) (past : Past) (event : Event) (rule : Rule) → IsLawfulLog start past → verdict start past event ≡ Broken rule
    → IsFirstBroken start [] (reverse past ++ event ∷ []) (length past) rule

-- each rule stands among those that are named and counted
abbrev pub EachRuleStands : Type 0
EachRuleStands = (rule : Rule) → (k : ℕ) × (slice_get all_rules k ≡ Some rule)

-- and so does each rule of arbitration
abbrev pub EachPickRuleStands : Type 0
EachPickRuleStands = (rule : PickRule) → (k : ℕ) × (slice_get all_pick_rules k ≡ Some rule)

-- of a log whose head tells no mechanism no line tells a pick
abbrev pub PicksWantMechanism : Type 0
PicksWantMechanism = (view : View) (head : Head) (lines : List (ℕ × List ℕ)) → head.arbitration ≡ None → history_of view head lines ≡ []

-- nor to an observer
abbrev pub ObserversSeeNoPicks : Type 0
ObserversSeeNoPicks = (observer : Observer) (head : Head) (lines : List (ℕ × List ℕ)) → history_of (view_of observer) head lines ≡ []
