-- What the pick of an admin command leaves of the other queues, and whether it took an Abort command.
use Rattle.std.proofs.Common.{◌≡◌, ℕ, Bool, true, false, List, ◌∷◌, map, take, Option, Some, refl, sym, ap, ◌∙◌}
use Rattle.std.specs.Prelude.{option_to_list}
use Rattle.std.proofs.lemmas.Bool.{ne_eqb}
use Rattle.nvme_arbiter.specs.Board.{BoardView}
use Rattle.nvme_arbiter.specs.declared.pick.Pick.{Pick}
use Rattle.nvme_arbiter.specs.declared.pick.Seen.{Seen}
use Rattle.nvme_admin.specs.QueueTable.{QueueTable}
use Rattle.nvme_admin.specs.declared.verdict.Verdict.TheVariants.{BeginDelete}
use Rattle.nvme_admin.specs.declared.verdict.Verdict.TheVariants as verdict
use Rattle.nvme_ctrl_content.specs.Content.{Candidate, SqContent, Content}
use Rattle.nvme_log.specs.declared.event.Event.TheVariants as event
use Rattle.nvme_log.specs.Rules.{FrontRules, Past}
use Rattle.nvme_log.specs.Queues.{Queue, admin_queue, open_sq, has_region}
use Rattle.nvme_log.specs.Places.{waiting, fate_of}
use Rattle.nvme_log.specs.Aborts.{is_abort_entry, took_abort}
use Rattle.nvme_log.specs.Effects.{named, target_of}
use Rattle.nvme_log.proofs.AbortEntries.{verdict_is_abort, verdict_is_delete}
use Rattle.nvme_log.proofs.Waiting.{picked-pick_other, waiting-pick_other, fate_of-same}
use Rattle.nvme_ctrl_content.specs.Standing.{Holds}
use Rattle.nvme_ctrl_content.specs.Steps.{applied_to, oldest_named, picked_sq, verdict_at}
use Rattle.nvme_ctrl_log.proofs.AbortRequests.{took_pick}
use Rattle.nvme_ctrl_content.proofs.Named.{first_named}
use Rattle.nvme_ctrl_content.proofs.Oldest.{admin_entry_is}
use Rattle.nvme_ctrl_content.proofs.Regions.{one_queue, not_admin_queue, put_sq-other}
use Rattle.nvme_ctrl_log.proofs.AbortTargets.{target_is}

module _ (rules : FrontRules) (late : Bool) (past : Past) (k : Content) (seen : List Seen) (pick : Pick) (picked : BoardView)
    (s : Holds rules late past k) (is_open : open_sq past pick.qid ≡ Some admin_queue) (first : pick.qid ≡ 0) where
  -- another queue has another region
  pub other_region : (q : ℕ) (queue : Queue) → open_sq past q ≡ Some queue → (q ≡ 0 → ⊥) → 0 ≡ queue.region → ⊥
  other_region q queue is other e = other (one_queue past k q pick.qid queue admin_queue s.queues is is_open (sym e) ∙ first)

  -- a queue that a command deletes is another
  pub deleted_region : (candidate : Candidate) (qid : ℕ) (queue : Queue) → verdict_at rules s.tabled.history candidate ≡ BeginDelete qid → open_sq past qid ≡ Some queue
      → 0 ≡ queue.region → ⊥
  deleted_region candidate qid queue begins is = other_region qid queue is (not_admin_queue rules s.tabled.history candidate.entry qid begins)

  -- so is one whose candidates an Abort command may abort
  pub target_region : (sqid : ℕ) (queue : Queue) → target_of past sqid ≡ Some queue → 0 ≡ queue.region → ⊥
  target_region sqid queue is = let target = target_is past sqid queue is in other_region sqid queue target.1 target.0

  -- the pick isn't one of another region
  no_region : (r : ℕ) → (0 ≡ r → ⊥) → has_region r (open_sq past pick.qid) ≡ false
  no_region r apart = ap (λ (o : Option Queue). has_region r o) is_open ∙ ne_eqb 0 r apart

  -- the same places of another region wait
  pub others_wait : (r : ℕ) → (0 ≡ r → ⊥) → waiting (event.Pick seen pick ∷ past) r ≡ waiting past r
  others_wait r apart = waiting-pick_other past seen pick r (no_region r apart)

  -- each has the same fate
  pub others_fate : (r : ℕ) → (0 ≡ r → ⊥) → (i : ℕ) → fate_of (event.Pick seen pick ∷ past) r i ≡ fate_of past r i
  others_fate r apart i = fate_of-same past (event.Pick seen pick ∷ past) r (picked-pick_other past seen pick r (no_region r apart)) (λ j. refl) i

  -- the pick took the entry of the oldest candidate
  took : (candidate : Candidate) (rest : List Candidate) → (k.sq 0).window ≡ candidate ∷ rest → took_abort (event.Pick seen pick ∷ past) ≡ is_abort_entry (Some candidate.entry)
  took candidate rest oldest = took_pick past seen pick candidate.entry first (admin_entry_is past (k.sq 0) candidate rest (s.regions 0) oldest)

  -- that of a deletion is no Abort command
  pub took_delete : (candidate : Candidate) (rest : List Candidate) (qid : ℕ) → (k.sq 0).window ≡ candidate ∷ rest → verdict_at rules s.tabled.history candidate ≡ BeginDelete qid
      → took_abort (event.Pick seen pick ∷ past) ≡ false
  took_delete candidate rest qid oldest is = took candidate rest oldest ∙ verdict_is_delete rules.start s.tabled.history candidate.entry qid is

  -- that of an abort is one
  pub took_request : (candidate : Candidate) (rest : List Candidate) (sqid cid : ℕ) → (k.sq 0).window ≡ candidate ∷ rest
      → verdict_at rules s.tabled.history candidate ≡ verdict.Abort sqid cid → took_abort (event.Pick seen pick ∷ past) ≡ true
  took_request candidate rest sqid cid oldest is = took candidate rest oldest ∙ verdict_is_abort rules.start s.tabled.history candidate.entry sqid cid is

  -- an Abort command makes an abort of the oldest candidate that it names, where there is one
  pub made_request : (table : QueueTable) (sqid cid : ℕ) (queue : Queue) → target_of past sqid ≡ Some queue
      → take 1 (named past queue.region cid) ≡ map (λ (c : Candidate). c.index) (option_to_list (oldest_named cid ((applied_to k picked table).sq queue.region).window))
  made_request table sqid cid queue is =
      first_named past queue.region cid (k.sq queue.region) (s.regions queue.region)
      ∙ ap (λ (z : SqContent). map (λ (c : Candidate). c.index) (option_to_list (oldest_named cid z.window)))
      (sym (put_sq-other k.sq 0 (picked_sq (k.sq 0) 1) queue.region (target_region sqid queue is)))

  -- that candidate is one of its region before the pick
  pub found_before : (table : QueueTable) (sqid cid : ℕ) (queue : Queue) (found : Candidate) → target_of past sqid ≡ Some queue
      → oldest_named cid ((applied_to k picked table).sq queue.region).window ≡ Some found → oldest_named cid (k.sq queue.region).window ≡ Some found
  found_before table sqid cid queue found is here =
      ap (λ (z : SqContent). oldest_named cid z.window) (sym (put_sq-other k.sq 0 (picked_sq (k.sq 0) 1) queue.region (target_region sqid queue is))) ∙ here
