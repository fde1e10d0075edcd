-- The settings that an accounted log sets fit their fields.
use Rattle.std.proofs.Common.{ℕ, ◌==◌, Bool, true, false, if◌then◌else◌, List, [], ◌∷◌, ◌++◌, map, take, Option, Some, None, sym, subst, append_assoc}
use Rattle.nvme_entry.specs.declared.submission.Sqe.{Sqe}
use Rattle.nvme_entry.specs.declared.admin.AdminCommand.TheVariants.{SetFeatures}
use Rattle.nvme_arbiter.specs.Settings.{ArbitrationFields, FitsFields, settings_of}
use Rattle.nvme_arbiter.proofs.SettingsLemmas.{fits}
use Rattle.nvme_admin.specs.History.{Start, TableHistory, EntryApplied, Accepted, Effects}
use Rattle.nvme_admin.specs.QueueTable.{arbitration, settings_in}
use Rattle.nvme_admin.specs.Accepted.{effects_of, queue_table, settings_at, verdict_of}
use Rattle.nvme_admin.specs.Changes.{settings_after}
use Rattle.nvme_admin.specs.declared.verdict.Verdict.{Verdict}
use Rattle.nvme_admin.specs.declared.verdict.Verdict.TheVariants as verdict
use Rattle.nvme_admin.proofs.Changed.{TellsChange-entry}
use Rattle.nvme_log.specs.declared.event.Event.{Event}
use Rattle.nvme_log.specs.declared.event.Event.TheVariants as event
use Rattle.nvme_log.specs.Rules.{Past, FrontRules, Each}
use Rattle.nvme_log.specs.Queues.{Queue, open_sq, open_cq}
use Rattle.nvme_log.specs.Places.{waiting}
use Rattle.nvme_log.specs.Histories.{arbitration_of, table_history, admin_entry}
use Rattle.nvme_log.specs.Effects.{closing_of, closed_cq_of, abort_in, named, target_of, made_by, made_of, made_last, effects_since, EffectsAtOnce}
use Rattle.nvme_tracer.proofs.TracedLines.{SettingsFit}

-- ---- the settings of a queue table
settings_fit : (b : Bool) (x : ℕ) (s : ArbitrationFields) → FitsFields s → FitsFields (if b then settings_of x else s)
settings_fit true x s f = fits x
settings_fit false x s f = f

table_fits : (start : Start) (effects : Effects) → FitsFields start.settings → FitsFields (settings_in start effects)
table_fits start [] f = f
table_fits start (Accepted (SetFeatures fid sv cdw11) ∷ past) f = settings_fit (fid == arbitration) cdw11 (settings_in start past) (table_fits start past f)
table_fits start (e ∷ past) f = table_fits start past f

at_fits : (start : Start) (h : TableHistory) → FitsFields start.settings → FitsFields (settings_at start h)
unfolding queue_table
at_fits start h f = table_fits start (effects_of start h) f

-- ---- the events that set them
abbrev AllFit : List Event → Type 0
AllFit [] = Unit {0}
AllFit (event.SetArbitration settings ∷ es) = FitsFields settings × AllFit es
AllFit (e ∷ es) = AllFit es

one_of : (xs : List Event) (settings : ArbitrationFields) (ys : List Event) → AllFit (xs ++ event.SetArbitration settings ∷ ys) → FitsFields settings
one_of [] settings ys h = h.0
one_of (event.SetArbitration s ∷ xs) settings ys h = one_of xs settings ys h.1
one_of (e ∷ xs) settings ys h = one_of xs settings ys h

aborts_fit : (region : ℕ) (is : List ℕ) → AllFit (map (λ (i : ℕ). event.Abort region i) is)
aborts_fit region [] = tt
aborts_fit region (i ∷ is) = aborts_fit region is

closing_fits : (past : Past) (qid : ℕ) (o : Option Queue) → AllFit (closing_of past qid o)
closing_fits past qid None = tt
closing_fits past qid (Some queue) = aborts_fit queue.region (waiting past queue.region)

closed_cq_fits : (qid : ℕ) (o : Option ℕ) → AllFit (closed_cq_of qid o)
closed_cq_fits qid None = tt
closed_cq_fits qid (Some region) = tt

abort_fits : (past : Past) (cid : ℕ) (o : Option Queue) → AllFit (abort_in past cid o)
abort_fits past cid None = tt
abort_fits past cid (Some queue) = aborts_fit queue.region (take 1 (named past queue.region cid))

made_by_fits : (past : Past) (v : Verdict) (s : ArbitrationFields) → FitsFields (settings_after v s) → AllFit (made_by past v)
made_by_fits past (verdict.Done status dw0) s f = tt
made_by_fits past (verdict.OpenSq qid region cqid class) s f = tt
made_by_fits past (verdict.OpenCq qid region) s f = tt
made_by_fits past (verdict.BeginDelete qid) s f = closing_fits past qid (open_sq past qid)
made_by_fits past (verdict.CloseCq qid) s f = closed_cq_fits qid (open_cq past qid)
made_by_fits past (verdict.Abort sqid cid) s f = abort_fits past cid (target_of past sqid)
made_by_fits past (verdict.SetArbitration settings) s f = (f, tt)

made_fits : (rules : FrontRules) (past : Past) (o : Option Sqe) → FitsFields rules.start.settings → AllFit (made_of rules past o)
made_fits rules past None f = tt
made_fits rules past (Some entry) f =
    let h : TableHistory = table_history rules past in
    let told = TellsChange-entry rules.start h entry in
    made_by_fits past (verdict_of rules.start h entry) (settings_at rules.start h) (subst FitsFields told.settings (at_fits rules.start (EntryApplied entry ∷ h) f))

if_fits : (b : Bool) (es : List Event) → AllFit es → AllFit (if b then es else [])
if_fits true es h = h
if_fits false es h = tt

last_fits : (rules : FrontRules) (past : Past) → FitsFields rules.start.settings → AllFit (made_last rules past)
last_fits rules [] f = tt
last_fits rules (event.Pick seen pick ∷ past) f = if_fits (pick.qid == 0) _ (made_fits rules past (admin_entry past) f)
last_fits rules (e ∷ past) f = last_fits rules past f

-- ---- the settings of a log
new_fits : (rules : FrontRules) (past : Past) (settings : ArbitrationFields) → FitsFields rules.start.settings → EffectsAtOnce rules past (event.SetArbitration settings) → FitsFields settings
new_fits rules past settings f h =
    let before : List Event = effects_since past in
    let all : AllFit ((before ++ event.SetArbitration settings ∷ []) ++ h.0) = subst AllFit (sym h.1) (last_fits rules past f) in
    one_of before settings h.0 (subst AllFit (append_assoc before (event.SetArbitration settings ∷ []) h.0) all)

pub log_fits : (rules : FrontRules) (past : Past) → FitsFields rules.start.settings → Each (EffectsAtOnce rules) past → SettingsFit (arbitration_of past)
log_fits rules [] f h = tt
log_fits rules (event.Pick seen pick ∷ past) f h = log_fits rules past f h.1
log_fits rules (event.SetArbitration settings ∷ past) f h = (new_fits rules past settings f h.0, log_fits rules past f h.1)
log_fits rules (e ∷ past) f h = log_fits rules past f h.1
