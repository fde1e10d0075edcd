-- The effect of a picked admin command names the regions of queues that are open before the pick.
use Rattle.std.proofs.Common.{◌≡◌, ℕ, Bool, true, false, List, Option, Some, None, refl, sym, ◌∙◌, subst}
use Rattle.std.specs.Prelude.{IsSomeAnd}
use Rattle.std.proofs.lemmas.Bool.{false≢true}
use Rattle.nvme_entry.specs.declared.submission.Sqe.{Sqe}
use Rattle.nvme_admin.specs.declared.effect.Effect.{Effect}
use Rattle.nvme_admin.specs.declared.effect.Effect.TheVariants as effect
use Rattle.nvme_admin.specs.declared.verdict.SqEntry.{SqEntry}
use Rattle.nvme_admin.specs.declared.verdict.Verdict.{Verdict}
use Rattle.nvme_admin.specs.History.{Start, TableHistory, Placing}
use Rattle.nvme_admin.specs.QueueTable.{QueueTable}
use Rattle.nvme_admin.specs.Accepted.{queue_table, verdict_of}
use Rattle.nvme_admin.specs.Changes.{IsDue}
use Rattle.nvme_admin.specs.Checks.{is_open}
use Rattle.nvme_admin.specs.Effects.{verdict_in, NamesRegions}
use Rattle.nvme_admin.specs.Standing.{Shows}
use Rattle.nvme_admin.proofs.Changed.{TellsChange-entry}
use Rattle.nvme_placing.specs.Telling.{Tells, IsTold, IsToldBy, content_of, placing_of}
use Rattle.nvme_log.specs.Rules.{FrontRules, Past}
use Rattle.nvme_log.specs.Queues.{Queue}
use Rattle.nvme_log.specs.Laws.{as_open}
use Rattle.nvme_ctrl_log.specs.Making.{placing_in}
use Rattle.nvme_ctrl_log.specs.Notes.{Notes, logged}
use Rattle.nvme_ctrl_log.specs.Steps.{NamesQueues}
use Rattle.nvme_ctrl.specs.declared.picks.Step.{Step}
use Rattle.nvme_ctrl.specs.declared.picks.Step.TheVariants as step
use Rattle.nvme_slots.specs.declared.slot.Slot.{Slot}
use Rattle.nvme_ctrl.specs.declared.state.Controller.{Controller}
use Rattle.nvme_ctrl.specs.kept.Kept.{StandsAt}

-- what is done in a step names its queues
abbrev pub NamesIn : Past → Step → Type 0
NamesIn past (step.Done did entry) = NamesQueues past did
NamesIn past other = Unit {0}

-- an open queue of the table on a region is an open queue of the log
record IsOpenAt (o : Option SqEntry) (region : ℕ) : Type 0 where
  queue : Queue
  is : as_open o ≡ Some queue
  on : queue.region ≡ region

open_at : (o : Option SqEntry) (region : ℕ) → is_open o ≡ true → IsSomeAnd o (λ (queue : SqEntry). queue.region ≡ region) → IsOpenAt o region
open_at None region opened on = absurd (cc opened)
open_at (Some entry) region opened on = by entry.closing refl opened where
  by : (b : Bool) → entry.closing ≡ b → is_open (Some entry) ≡ true → IsOpenAt (Some entry) region
  by true e up = absurd (false≢true (rw e at up))
  by false e up = record { queue = record { region = entry.region; cqid = entry.cqid; class = entry.class }; is = rw e refl; on = on }

module _ (rules : FrontRules) (late : Bool) (notes : Notes) (c : Controller) (slots : List Slot) (s : StandsAt rules late notes c slots) (on : placing_in rules ≡ None) where
  -- each queue lies on a region
  on_regions : placing_of c.table ≡ None
  on_regions = sym s.numbers.tells.placing ∙ s.holds.tabled.placing ∙ on

  shows : Shows (content_of c.table) s.content.table
  shows = s.numbers.tells.by_regions on_regions

  -- by the effect
  names_by : (did : Effect) → IsDue s.content.table (verdict_in did) → NamesRegions (content_of c.table) did → NamesQueues (logged notes) did
  names_by (effect.BeginDelete qid region) due names =
      let at = open_at (s.content.table.sq qid) region due.open_sq (subst (λ (o : Option SqEntry). IsSomeAnd o (λ (queue : SqEntry). queue.region ≡ region)) (shows.sq qid) names) in
      record { queue = at.queue; is_open = s.holds.queues.sqs qid ∙ at.is; on = at.on }
  names_by (effect.CloseCq qid region) due names = s.holds.queues.cqs qid ∙ sym (shows.cq qid) ∙ names
  names_by (effect.OpenSq qid region cqid cq_region class) due names = s.holds.queues.cqs cqid ∙ sym (shows.cq cqid) ∙ names
  names_by did due names = tt

  -- the effect of an entry whose verdict the table told
  pub names_queues : (entry : Sqe) (did : Effect)
      → ((start : Start) (h : TableHistory) → Tells c.table (queue_table start h) → IsTold c.table (verdict_in did) (verdict_of start h entry))
      → (placing_of c.table ≡ None → NamesRegions (content_of c.table) did) → NamesQueues (logged notes) did
  names_queues entry did told names =
      let history = s.holds.tabled.history in
      let tells : Tells c.table (queue_table rules.start history) = subst (Tells c.table) s.holds.tabled.table_is s.numbers.tells in
      let same : verdict_in did ≡ verdict_of rules.start history entry =
      subst (λ (p : Option Placing). IsToldBy p (verdict_in did) (verdict_of rules.start history entry)) on_regions (told rules.start history tells) in
      let due : IsDue s.content.table (verdict_in did) =
      subst (λ (v : Verdict). IsDue s.content.table v) (sym same)
      (subst (λ (t : QueueTable). IsDue t (verdict_of rules.start history entry)) (sym s.holds.tabled.table_is) (TellsChange-entry rules.start history entry).due) in
      names_by did due (names on_regions)
