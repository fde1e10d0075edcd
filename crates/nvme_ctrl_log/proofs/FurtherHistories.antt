-- The log of a controller to which a region is added: where no entry that was applied names its address, and where queues may lie anywhere, admin commands make
-- the same at the rules with it.
use Rattle.std.proofs.Common.{◌≡◌, ℕ, ◌<◌, ◌==◌, ◌&&◌, Bool, true, false, if◌then◌else◌, [], ◌∷◌, ◌++◌, length, Option, Some, None, is_some, refl, ap, ◌∙◌, inl, inr}
use Rattle.std.specs.Prelude.{slice_get, ◌⊎◌}
use Rattle.std.specs.List.{list_any}
use Rattle.std.proofs.lemmas.Bool.{or_parts}
use Rattle.nvme_entry.specs.AdminCommand.{admin_command_of}
use Rattle.nvme_entry.specs.declared.submission.Sqe.{Sqe}
use Rattle.nvme_admin.specs.History.{Kind, Start, TableHistory, Placing, EntryApplied, Accepted}
use Rattle.nvme_admin.specs.QueueTable.{placing_in as table_placing}
use Rattle.nvme_admin.specs.Accepted.{effects_of, queue_table, status_of, is_accepted}
use Rattle.nvme_log.specs.declared.event.Event.{Event}
use Rattle.nvme_log.specs.declared.event.Event.TheVariants.{ClosedSq}
use Rattle.nvme_log.specs.declared.event.Event.TheVariants as event
use Rattle.nvme_log.specs.Rules.{FrontRules, Past, sq_regions_of, cq_regions_of}
use Rattle.nvme_log.specs.Places.{waiting}
use Rattle.nvme_log.specs.Histories.{table_history, admin_entry, applied}
use Rattle.nvme_log.specs.Aborts.{is_index}
use Rattle.nvme_log.specs.Effects.{made_by, made_of, made_last}
use Rattle.nvme_log.specs.Completions.{table_before}
use Rattle.nvme_ctrl_log.specs.Making.{with_region, placing_in, command_names, step_names}
use Rattle.nvme_ctrl_log.proofs.FurtherTables.{PassesBy, IsFurther, in_first, added-further, entry-further, finished-further, verdict-further}

-- no entry that was applied names an address
abbrev pub IsUnnamed : FrontRules → ℕ → Past → Type 0
IsUnnamed rules a past = list_any (step_names a) (table_history rules past) ≡ false

-- nor was one that was applied before
pub unnamed-before : (rules : FrontRules) (a : ℕ) (e : Event) (past : Past) → IsUnnamed rules a (e ∷ past) → IsUnnamed rules a past
unnamed-before rules a (event.Pick seen pick) past h = by (pick.qid == 0) (admin_entry past) h where
  by : (b : Bool) (o : Option Sqe) → list_any (step_names a) (if b then applied o ++ table_history rules past else table_history rules past) ≡ false → IsUnnamed rules a past
  by false o k = k
  by true None k = k
  by true (Some entry) k = (or_parts (command_names a (admin_command_of entry)) (list_any (step_names a) (table_history rules past)) k).1
unnamed-before rules a (ClosedSq qid region) past h = h
unnamed-before rules a e past h = h

-- no entry that was applied asks for a region at an address: none names it, or queues may lie anywhere
abbrev pub IsPassedBy : FrontRules → ℕ → Past → Type 0
IsPassedBy rules a past = IsUnnamed rules a past ⊎ (is_some (placing_in rules) ≡ true)

pub passed-before : (rules : FrontRules) (a : ℕ) (e : Event) (past : Past) → IsPassedBy rules a (e ∷ past) → IsPassedBy rules a past
passed-before rules a e past h = in_first (unnamed-before rules a e past) h

-- ---- where queues may lie
-- an entry leaves it
entry-placing : (start : Start) (h : TableHistory) (entry : Sqe) → (queue_table start (EntryApplied entry ∷ h)).placing ≡ (queue_table start h).placing
unfolding effects_of queue_table status_of
entry-placing start h entry = by (is_accepted start h entry) where
  by : (b : Bool) → table_placing (if b then Accepted (admin_command_of entry) ∷ effects_of start h else effects_of start h) ≡ table_placing (effects_of start h)
  by true = refl
  by false = refl

-- and a region
pub region-placing : (kind : Kind) (a n : ℕ) (rules : FrontRules) → placing_in (with_region kind a n rules) ≡ placing_in rules
unfolding effects_of queue_table
region-placing kind a n rules = refl

-- so does the log
pub placing-stays : (rules : FrontRules) (past : Past) → (queue_table rules.start (table_history rules past)).placing ≡ placing_in rules
unfolding effects_of queue_table
placing-stays rules [] = refl
placing-stays rules (event.Pick seen pick ∷ past) = by (pick.qid == 0) (admin_entry past) (placing-stays rules past) where
  by : (b : Bool) (o : Option Sqe) → (queue_table rules.start (table_history rules past)).placing ≡ placing_in rules
      → (queue_table rules.start (if b then applied o ++ table_history rules past else table_history rules past)).placing ≡ placing_in rules
  by false o before = before
  by true None before = before
  by true (Some entry) before = entry-placing rules.start (table_history rules past) entry ∙ before
placing-stays rules (ClosedSq qid region ∷ past) = placing-stays rules past
placing-stays rules (e ∷ past) = placing-stays rules past

-- and so it was at each pick
pub placing-before : (rules : FrontRules) (past : Past) (i : ℕ) → (queue_table rules.start (table_before rules past i)).placing ≡ placing_in rules
placing-before rules [] i = refl
placing-before rules (event.Pick seen pick ∷ past) i = by (pick.qid == 0 && is_index i (slice_get (waiting past 0) 0)) (placing-before rules past i) where
  by : (b : Bool) → (queue_table rules.start (table_before rules past i)).placing ≡ placing_in rules
      → (queue_table rules.start (if b then table_history rules past else table_before rules past i)).placing ≡ placing_in rules
  by true earlier = placing-stays rules past
  by false earlier = earlier
placing-before rules (e ∷ past) i = placing-before rules past i

-- where queues may lie anywhere an entry asks for no region
pub anywhere-passes : (rules : FrontRules) (a : ℕ) (h : TableHistory) (entry : Sqe) → (queue_table rules.start h).placing ≡ placing_in rules → is_some (placing_in rules) ≡ true
    → PassesBy a (queue_table rules.start h).placing (admin_command_of entry)
anywhere-passes rules a h entry is some = inr (ap (λ (o : Option Placing). is_some o) is ∙ some)

-- the entry that was applied last asks for none, nor do those before it
record LastPasses (rules : FrontRules) (a : ℕ) (past : Past) (entry : Sqe) : Type 0 where
  last : PassesBy a (queue_table rules.start (table_history rules past)).placing (admin_command_of entry)
  earlier : IsPassedBy rules a past

last-passes : (rules : FrontRules) (a : ℕ) (past : Past) (entry : Sqe) → (list_any (step_names a) (EntryApplied entry ∷ table_history rules past) ≡ false) ⊎ (is_some (placing_in rules) ≡ true)
    → LastPasses rules a past entry
last-passes rules a past entry (inl named) =
    let parts = or_parts (command_names a (admin_command_of entry)) (list_any (step_names a) (table_history rules past)) named in
    record { last = inl parts.0; earlier = inl parts.1 }
last-passes rules a past entry (inr some) = record { last = anywhere-passes rules a (table_history rules past) entry (placing-stays rules past) some; earlier = inr some }

module _ (rules : FrontRules) (kind : Kind) (a n : ℕ) (some_sqs : 0 < length (sq_regions_of rules)) (some_cqs : 0 < length (cq_regions_of rules)) where
  -- the table history is the same, but for the region
  pub history-further : (past : Past) → IsPassedBy rules a past → IsFurther rules.start kind a n (table_history rules past) (table_history (with_region kind a n rules) past)
  history-further [] h = added-further rules.start kind a n rules.regions some_sqs some_cqs
  history-further (event.Pick seen pick ∷ past) h = by (pick.qid == 0) (admin_entry past) h (λ earlier. history-further past earlier) where
    by : (b : Bool) (o : Option Sqe) → (list_any (step_names a) (if b then applied o ++ table_history rules past else table_history rules past) ≡ false) ⊎ (is_some (placing_in rules) ≡ true)
        → (IsPassedBy rules a past → IsFurther rules.start kind a n (table_history rules past) (table_history (with_region kind a n rules) past))
        → IsFurther rules.start kind a n (if b then applied o ++ table_history rules past else table_history rules past)
        (if b then applied o ++ table_history (with_region kind a n rules) past else table_history (with_region kind a n rules) past)
    by false o k rest = rest k
    by true None k rest = rest k
    by true (Some entry) k rest =
        let passes = last-passes rules a past entry k in
        entry-further rules.start kind a n (table_history rules past) (table_history (with_region kind a n rules) past) entry passes.last (rest passes.earlier)
  history-further (ClosedSq qid region ∷ past) h =
      finished-further rules.start kind a n (table_history rules past) (table_history (with_region kind a n rules) past) qid (history-further past h)
  history-further (e ∷ past) h = history-further past h

  -- so the latest admin command makes the same
  pub made_last-further : (past : Past) → IsPassedBy rules a past → made_last (with_region kind a n rules) past ≡ made_last rules past
  made_last-further [] h = refl
  made_last-further (event.Pick seen pick ∷ past) h = by (pick.qid == 0) (admin_entry past) h where
    by : (b : Bool) (o : Option Sqe) → (list_any (step_names a) (if b then applied o ++ table_history rules past else table_history rules past) ≡ false) ⊎ (is_some (placing_in rules) ≡ true)
        → (if b then made_of (with_region kind a n rules) past o else []) ≡ (if b then made_of rules past o else [])
    by false o k = refl
    by true None k = refl
    by true (Some entry) k =
        let passes = last-passes rules a past entry k in
        ap (made_by past) (verdict-further rules.start kind a n (table_history rules past) (table_history (with_region kind a n rules) past) entry passes.last (history-further past passes.earlier))
  made_last-further (ClosedSq qid region ∷ past) h = made_last-further past h
  made_last-further (e ∷ past) h = made_last-further past h

  -- and so are the histories at the picks
  pub before-further : (past : Past) (i : ℕ) → IsPassedBy rules a past → IsFurther rules.start kind a n (table_before rules past i) (table_before (with_region kind a n rules) past i)
  before-further [] i h = added-further rules.start kind a n rules.regions some_sqs some_cqs
  before-further (event.Pick seen pick ∷ past) i h =
      let earlier : IsPassedBy rules a past = passed-before rules a (event.Pick seen pick) past h in
      by (pick.qid == 0 && is_index i (slice_get (waiting past 0) 0)) (history-further past earlier) (before-further past i earlier)
    where
      by : (b : Bool) → IsFurther rules.start kind a n (table_history rules past) (table_history (with_region kind a n rules) past)
          → IsFurther rules.start kind a n (table_before rules past i) (table_before (with_region kind a n rules) past i)
          → IsFurther rules.start kind a n (if b then table_history rules past else table_before rules past i)
          (if b then table_history (with_region kind a n rules) past else table_before (with_region kind a n rules) past i)
      by true now earlier = now
      by false now earlier = earlier
  before-further (ClosedSq qid region ∷ past) i h = before-further past i h
  before-further (e ∷ past) i h = before-further past i h
