-- A worked log that keeps the promise, and logs that break it.
use Rattle.std.proofs.Common.{◌≡◌, ℕ, arith, ◌==◌, true, false, [], ◌∷◌, length, refl, ap, subst, inl, inr, ⊎_elim, rules}
use Rattle.std.specs.List.{list_all}
use Rattle.std.proofs.lemmas.Bool.{eqb-true}
use Rattle.std.proofs.lemmas.List.{append-nil}
use Rattle.nvme_entry.specs.Status.{success}
use Rattle.nvme_arbiter.specs.Lawful.{IsLawfulRun}
use Rattle.nvme_arbiter.specs.declared.settings.Class.TheVariants.{Urgent}
use Rattle.nvme_admin.specs.Accepted.{effects_of, queue_table, status_of, dw0_of, verdict_of}
use Rattle.nvme_log.specs.declared.event.Event.TheVariants.{Fetch, Abort, Post}
use Rattle.nvme_log.specs.Rules.{Each}
use Rattle.nvme_log.specs.Queues.{is_open_region}
use Rattle.nvme_log.specs.Places.{fetched, waiting, places, fate_of, is_waiting}
use Rattle.nvme_log.specs.Histories.{arbitration_of}
use Rattle.nvme_log.specs.Completions.{is_posted, posted_to}
use Rattle.nvme_log.specs.Effects.{made_last, effects_since, EffectsAtOnce}
use Rattle.nvme_log.specs.Account.{Observed, IsDone, IsWholeAccount}
use Rattle.nvme_log.specs.Laws.{KeepsThePromise, DeletesQueue, NoneAfterDelete, AbortedUnpicked, CompletedAfter}
use Rattle.nvme_log.specs.Examples.{at_two, one_deletion, delete_sq, admin_script, reads, read, done, admin_done, reads_done, admin_seen, reads_seen, picked_of, read_done, queue_opened, reads_fetched, deleted}
use Rattle.nvme_log.specs.PromiseExamples.{one_read_done, unclosed_picked, unclosed_answered, unclosed, one_too_many, unasked_set, unasked, abort_missing, answered_early, aborted_late}
use Rattle.nvme_log.proofs.ExampleLogs.{true_or_false, deletion_account}
use Rattle.nvme_log.proofs.PickedOnce.{pick-waits_not}
use Rattle.nvme_log.proofs.Promise.{whole_promise}

-- ---- the deletion
-- what holds of regions 0 and 1, and of any other, holds of each region
pub by_region : (P : ℕ → Type 0) → P 0 → P 1 → ((r : ℕ) → (0 == r) ≡ false → (1 == r) ≡ false → P r) → (r : ℕ) → P r
by_region P zero one other r =
    ⊎_elim (λ (e : (0 == r) ≡ true). subst P (eqb-true 0 r e) zero)
    (λ (e : (0 == r) ≡ false). ⊎_elim (λ (f : (1 == r) ≡ true). subst P (eqb-true 1 r f) one) (λ (f : (1 == r) ≡ false). other r e f) (true_or_false (1 == r)))
    (true_or_false (0 == r))

deletion_whole : IsWholeAccount one_deletion false (at_two admin_script reads) (at_two admin_script reads) deleted (at_two admin_done reads_done)
deletion_whole = record {
  account = deletion_account;
  all_posted = by_region (λ (r : ℕ). list_all (λ (i : ℕ). is_posted deleted r i) (places deleted r) ≡ true) refl refl (λ r e f. rw (e, f) refl);
  none_waits = by_region (λ (r : ℕ). waiting deleted r ≡ []) refl refl (λ r e f. rw (e, f) refl);
  none_pending = refl;
  all_collected = by_region (λ (c : ℕ). at_two admin_done reads_done c ≡ posted_to deleted c) refl refl (λ c e f. rw (e, f) refl);
  open_done = by_region (λ (r : ℕ). is_open_region deleted r ≡ true → IsDone deleted (at_two admin_script reads r) (at_two admin_script reads r) r)
      (λ h. record { all_fetched = refl; all_sent = refl }) (λ h. record { all_fetched = refl; all_sent = refl })
      (λ r e f h. record { all_fetched = rw (e, f) refl; all_sent = refl });
  sent_in_order = λ r. ([], append-nil (at_two admin_script reads r));
  loaded_whole = λ h r. refl;
}

pub deletion_promise : KeepsThePromise one_deletion (at_two admin_script reads) deleted (at_two admin_done reads_done)
deletion_promise = whole_promise one_deletion false (at_two admin_script reads) (at_two admin_script reads) deleted (at_two admin_done reads_done) deletion_whole

-- ---- a Delete that is answered while its queue stays open
deletes_one : DeletesQueue one_deletion unclosed 2 1 1
unfolding effects_of queue_table status_of dw0_of verdict_of
deletes_one = record {
  later = Post 1 1 0 one_read_done ∷ picked_of (admin_seen 0 ∷ reads_seen 1 ∷ []) 1 ∷ Fetch 1 0 (read 0) ∷ Post 0 0 2 (done 0 2 success) ∷ [];
  before = queue_opened;
  seen = admin_seen 1 ∷ reads_seen 0 ∷ [];
  pick = record { qid = 0; n = 1; fresh = false };
  stands = refl;
  taken = record { of_admin = refl; oldest = refl; entry = delete_sq; is_there = refl; comes_to = refl };
  queue = record { region = 1; cqid = 1; class = Urgent };
  is_open = refl;
  region = refl;
}

pub unclosed_fetched : NoneAfterDelete one_deletion unclosed → ⊥
unclosed_fetched h =
    let e : fetched unclosed 1 ≡ fetched unclosed_picked 1 =
    h 2 1 1 deletes_one (Post 1 1 0 one_read_done ∷ picked_of (admin_seen 0 ∷ reads_seen 1 ∷ []) 1 ∷ Fetch 1 0 (read 0) ∷ []) unclosed_picked 0 (done 0 2 success) refl in
    let no : read 0 ∷ [] ≡ [] = e in
    cc

pub unclosed_at_once : Each (EffectsAtOnce one_deletion) unclosed_answered → ⊥
unfolding effects_of queue_table status_of dw0_of verdict_of
unclosed_at_once h = cc h.0

-- ---- a completion that was never posted
pub too_many : ((c : ℕ) → at_two one_too_many reads_done c ≡ posted_to deleted c) → ⊥
too_many h = let e : 4 ≡ 3 = ap length (h 0) in cc e

-- ---- settings that no command changed
pub unasked_at_once : Each (EffectsAtOnce one_deletion) unasked_set → ⊥
unfolding effects_of queue_table status_of dw0_of verdict_of
unasked_at_once h = let p = h.0 in cc p.1

pub unasked_lawful : IsLawfulRun one_deletion.mechanism one_deletion.start.settings (arbitration_of unasked)
unasked_lawful = search rules

pub unasked_observed : Each Observed unasked
unasked_observed = search rules

-- ---- a Delete that aborts too few
pub missing : effects_since abort_missing ≡ made_last one_deletion abort_missing → ⊥
unfolding effects_of queue_table status_of dw0_of verdict_of
missing h = cc h

-- ---- a command that is answered before it is picked
pub early : CompletedAfter answered_early → ⊥
early h = elim (h (picked_of (admin_seen 1 ∷ reads_seen 3 ∷ []) 1 ∷ []) reads_fetched 1 1 0 read_done refl) [
  | inl pick ↦ let none : is_waiting (fate_of reads_fetched 1 0) ≡ false = pick-waits_not reads_fetched 1 0 pick in let no : true ≡ false = none in cc
  | inr aborted ↦ let no : false ≡ true = aborted in cc
]

-- ---- a command that is aborted after it was picked
pub late : AbortedUnpicked aborted_late → ⊥
late h = h 1 0 refl (record {
  later = Abort 1 0 ∷ [];
  before = reads_fetched;
  seen = admin_seen 1 ∷ reads_seen 3 ∷ [];
  pick = record { qid = 1; n = 1; fresh = false };
  stands = refl;
  takes = record { queue = record { region = 1; cqid = 1; class = Urgent }; is_open = refl; region = refl; position = 0; among = omega arith; stands = refl };
})
