-- The fetches that an account shows keep the rules of fetches.
use Rattle.std.proofs.Common.{◌≡◌, ℕ, ◌%◌, ◌<◌, false, [], ◌∷◌, length, Some, is_some, sym, ap, ◌∙◌, subst, arith, inl, inr}
use Rattle.std.proofs.lemmas.Bool.{cases_eq}
use Rattle.nvme_entry.specs.declared.submission.Sqe.{Sqe}
use Rattle.nvme_arbiter.specs.Lawful.{IsLimitedRun}
use Rattle.nvme_log.specs.declared.event.Event.TheVariants.{Fetch}
use Rattle.nvme_log.specs.Rules.{FrontRules}
use Rattle.nvme_log.specs.Queues.{qid_of_region}
use Rattle.nvme_log.specs.Places.{fetched}
use Rattle.nvme_log.specs.Histories.{arbitration_of}
use Rattle.nvme_log.specs.Completions.{is_posted}
use Rattle.nvme_ctrl_log.specs.Notes.{Notes, Note, Logged, EachNote, logged}
use Rattle.nvme_ctrl_log.specs.Doorbells.{sq_slots, submitted}
use Rattle.nvme_ctrl_log.specs.Account.{IsLawful}
use Rattle.nvme_ctrl_log.proofs.TakenCommands.{lawful-before}
use Rattle.nvme_audit.specs.declared.event.Event.TheVariants as shows
use Rattle.nvme_audit.specs.declared.verdict.Verdict.TheVariants.{Kept}
use Rattle.nvme_audit.specs.Lives as lives
use Rattle.nvme_audit.specs.Lives.{asked}
use Rattle.nvme_audit.specs.Facts.{sq_after, outstanding}
use Rattle.nvme_audit.specs.Rules.{fetch_verdict}
use Rattle.nvme_own_log.specs.Shown.{start_of, shown}
use Rattle.nvme_own_log.specs.Duties.{NamesAreFree, KeepsDuties, IsDutiful}
use Rattle.nvme_own_log.specs.Laws.{IsFetchKept, FetchesAreLawful}
use Rattle.nvme_own_log.proofs.AdminQueues.{admin_agrees, effects_of, fetches}
use Rattle.nvme_own_log.proofs.EachEvent.{each_shown}
use Rattle.nvme_own_log.proofs.IoQueues.{queues_at}
use Rattle.nvme_own_log.proofs.Phases.{Stage, untold, told_on, Phase}
use Rattle.nvme_own_log.proofs.PhaseSteps.{IsOpenOn, open_on}
use Rattle.nvme_own_log.proofs.Queues.{QueueAt, Seen, open_region}
use Rattle.nvme_own_log.proofs.Verdicts.{fetch_kept}

-- names are free where the host keeps its duties
pub names_free : (rules : FrontRules) (log : lives.Past) → KeepsDuties (start_of rules) log → NamesAreFree log
names_free rules [] d = tt
names_free rules (shows.Tail sq slot ∷ log) d = (tt, names_free rules log d.1)
names_free rules (shows.Head cq slot ∷ log) d = (tt, names_free rules log d.1)
names_free rules (shows.Fetch sq slot cid command ∷ log) d = (d.0.0, names_free rules log d.1)
names_free rules (shows.Post cq slot completion ∷ log) d = (tt, names_free rules log d.1)

module _ (rules : FrontRules) where
  -- the picks before a note are lawful too
  pub run_before : (note : Note) (notes : Notes) → IsLimitedRun rules.mechanism rules.start.settings (arbitration_of (logged (note ∷ notes))) → IsLimitedRun rules.mechanism rules.start.settings (arbitration_of (logged notes))
  run_before (Logged e) notes l = lawful-before rules e (logged notes) l
  run_before note notes l = l

  io_fetch : (notes : Notes) (h : EachNote (IsLawful rules) notes) (s i q : ℕ) (entry : Sqe) → IsLawful rules notes (Logged (Fetch s i entry)) → qid_of_region (logged notes) s ≡ Some q → is_some (asked (shown rules notes) q entry.cid) ≡ false
      → QueueAt rules notes q
      → fetch_verdict (start_of rules).tells (sq_after (start_of rules) (shown rules notes) q) (Some (i % sq_slots rules s)) (is_some (outstanding (shown rules notes) q entry.cid)) ≡ Kept
  io_fetch notes h s i q entry it own free x = by x.stage x.phase x.seen where
    on : IsOpenOn rules (logged notes) q s
    on = open_on rules (logged notes) (effects_of rules notes h) q s it.served_while_open.0 own

    by : (st : Stage) → Phase rules (logged notes) q st → Seen rules notes q st
        → fetch_verdict (start_of rules).tells (sq_after (start_of rules) (shown rules notes) q) (Some (i % sq_slots rules s)) (is_some (outstanding (shown rules notes) q entry.cid)) ≡ Kept
    by untold phase seen =
        absurd (let more : length (fetched (logged notes) on.queue.region) < submitted rules notes on.queue.region = subst (λ (z : ℕ). length (fetched (logged notes) z) < submitted rules notes z) (sym on.region) it.fetches_submitted in
        omega (arith, more, (seen.1 on.queue on.is_open).0))
    by (told_on r cqid) phase seen =
        let region : s ≡ r = open_region rules (logged notes) q s (told_on r cqid) on phase in
        fetch_kept (start_of rules) (shown rules notes) q (sq_slots rules r) cqid (submitted rules notes r) (fetched (logged notes) r) (λ k. is_posted (logged notes) r k) seen
        (i % sq_slots rules s) entry.cid
        (subst (λ (z : ℕ). length (fetched (logged notes) z) < submitted rules notes z) region it.fetches_submitted)
        (ap (λ (n : ℕ). n % sq_slots rules s) it.index_counts ∙ ap (λ (z : ℕ). length (fetched (logged notes) z) % sq_slots rules z) region)
        free

pub fetches_are_lawful : FetchesAreLawful
fetches_are_lawful rules notes starts by_regions h duties =
    each_shown rules (IsDutiful (start_of rules)) (IsFetchKept (start_of rules))
    (λ past. IsLimitedRun rules.mechanism rules.start.settings (arbitration_of (logged past))) (run_before rules)
    (λ past r slot q lawful before l is duty. tt)
    (λ past c slot q lawful before l is. tt)
    (λ past r i q entry lawful before l is duty. elim (cases_eq q 0) [
      | inl zero_is ↦ fetches rules past lawful.1 (admin_agrees rules past lawful.1 (names_free rules (shown rules past) before)) r i q entry lawful.0 is duty.0 zero_is
      | inr io ↦ io_fetch rules past lawful.1 r i q entry lawful.0 is duty.0 ((queues_at rules starts by_regions past lawful.1 l before (names_free rules (shown rules past) before)).queue q io)
    ])
    (λ past c r i q cqe lawful before l is. tt)
    notes h.each duties h.lawful
