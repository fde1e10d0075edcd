-- What a controller may not note.
use Rattle.std.proofs.Common.{◌≡◌, ℕ, ◌<◌, ◌≤◌, ◌==◌, Bool, true, false, if◌then◌else◌, List, [], ◌∷◌, length, Option, Some, None, refl, sym, ap, subst, arith}
use Rattle.std.specs.Prelude.{sum_by}
use Rattle.std.proofs.lemmas.Option.{same_Some}
use Rattle.nvme_entry.specs.Status.{StatusCode, success, lba_out_of_range}
use Rattle.nvme_arbiter.specs.declared.pick.Seen.{Seen}
use Rattle.nvme_log.specs.declared.place.Place.{Place}
use Rattle.nvme_log.specs.Dispatches.{place_at}
use Rattle.nvme_admin.specs.Accepted.{effects_of, queue_table, status_of, dw0_of, verdict_of}
use Rattle.nvme_log.specs.declared.event.Event.TheVariants.{Fetch, OpenCq, Post, ClosedSq}
use Rattle.nvme_log.specs.declared.event.Event.{Event}
use Rattle.nvme_entry.specs.declared.submission.Sqe.{Sqe}
use Rattle.nvme_log.specs.Completions.{own_status, own_dw0}
use Rattle.nvme_log.specs.Examples.{two_slots, one_deletion, create_cq, get_arbitration, admin_picked, admin_posted, read, done, admin_seen, reads_seen, picked_of}
use Rattle.nvme_ctrl_log.specs.Notes.{logged, Logged, Tail, Head, Kept, Taken, Answered, Flagged}
use Rattle.nvme_ctrl_log.specs.Tags.{is_place}
use Rattle.nvme_ctrl_log.specs.Account.{IsLawful}
use Rattle.nvme_ctrl_log.specs.Examples.{told, three_of_four, four_fetched, first_picked, first_answered, first_posted, third_answered, succeeded, out_of_range, create_picked, reads_submitted, reads_waiting, read_picked, read_taken, delete_begun, aborted_done, aborts_posted, read_answered, reads_posted, not_retried, more_told, two_deletions, two_closing, third_served, second_gone}

pub other_answer : IsLawful one_deletion (Answered 1 0 out_of_range ∷ aborts_posted) (Logged (Post 1 1 0 (done 1 0 lba_out_of_range)))
unfolding effects_of queue_table status_of dw0_of verdict_of
other_answer = record {
  index_counts = tt;
  served_while_open = tt;
  observed = tt;
  effects_at_once = refl;
  deletes = (refl, λ s. refl);
  posts_own = (refl, refl, record { entry = read 0; is_there = refl; region = refl; sqid = refl; cid = refl; status = refl; dw0 = refl; sqhd = refl; phase = refl });
  fetches_submitted = tt;
  posts_on_free_slot = omega arith;
  posts_what_is_through = refl;
  posts_in_order = refl;
}

-- places of a queue with other indexes
other : (i j : ℕ) → (i ≡ j → ⊥) → Some (place_at 1 i) ≡ Some (place_at 1 j) → ⊥
other i j apart e = apart (ap (λ (p : Place). p.index) (same_Some _ _ e))

-- ---- doorbells
pub fetched_twice : IsLawful two_slots three_of_four (Logged (Fetch 0 2 (get_arbitration 2))) → ⊥
unfolding effects_of queue_table
fetched_twice h = let e : 2 ≡ 3 = h.index_counts in omega (arith, e)

pub fetched_past : IsLawful two_slots four_fetched (Logged (Fetch 0 4 (get_arbitration 4))) → ⊥
unfolding effects_of queue_table
fetched_past h = let e : 4 < 4 = h.fetches_submitted in omega (arith, e)

pub tail_full : IsLawful one_deletion reads_submitted (Tail 1 0) → ⊥
unfolding effects_of queue_table
tail_full h = let e : 8 < 8 = h.fits in omega (arith, e)

pub tail_past : IsLawful one_deletion reads_submitted (Tail 1 2) → ⊥
unfolding effects_of queue_table
tail_past h = let e : 10 < 8 = h.fits in omega (arith, e)

pub tail_no_slot : IsLawful one_deletion reads_submitted (Tail 1 8) → ⊥
unfolding effects_of queue_table
tail_no_slot h = let e : 8 < 8 = h.is_slot in omega (arith, e)

pub tail_closing : IsLawful one_deletion delete_begun (Tail 1 4) → ⊥
unfolding effects_of queue_table
tail_closing h = let e : false ≡ true = h.is_open in cc e

pub head_past : IsLawful two_slots first_answered (Head 0 1) → ⊥
unfolding effects_of queue_table
head_past h = let e : 1 ≤ 0 = h.posted in omega (arith, e)

pub head_no_slot : IsLawful two_slots first_posted (Head 0 2) → ⊥
unfolding effects_of queue_table
head_no_slot h = let e : 2 < 2 = h.is_slot in omega (arith, e)

pub head_no_queue : IsLawful two_slots first_posted (Head 1 0) → ⊥
unfolding effects_of queue_table
head_no_queue h = let e : false ≡ true = h.is_open in cc e

-- ---- what the caller keeps
pub kept_twice : IsLawful two_slots (Kept 0 0 7 ∷ four_fetched) (Kept 0 0 8) → ⊥
kept_twice h = cc h.first

pub kept_unfetched : IsLawful two_slots four_fetched (Kept 0 4 7) → ⊥
kept_unfetched h = let e : 4 < 4 = h.fetched in omega (arith, e)

-- ---- completions
pub slot_not_free : IsLawful two_slots (Answered 0 1 told ∷ Logged (admin_picked 3) ∷ first_posted) (Logged (admin_posted 1 true)) → ⊥
unfolding effects_of queue_table
slot_not_free h = let e : 2 < 2 = h.posts_on_free_slot in omega (arith, e)

pub phase_stays : IsLawful two_slots third_answered (Logged (admin_posted 2 true)) → ⊥
unfolding effects_of queue_table
phase_stays h = let e : true ≡ false = h.posts_own.2.phase in cc e

pub unanswered_admin : IsLawful two_slots first_picked (Logged (admin_posted 0 true)) → ⊥
unanswered_admin h = let e : false ≡ true = h.posts_what_is_through in cc e

pub unanswered : IsLawful one_deletion aborts_posted (Logged (Post 1 1 0 (done 1 0 success))) → ⊥
unanswered h = let e : false ≡ true = h.posts_what_is_through in cc e

pub other_status : IsLawful one_deletion read_answered (Logged (Post 1 1 0 (done 1 0 lba_out_of_range))) → ⊥
other_status h = let e : lba_out_of_range ≡ success = h.posts_own.2.status in let n : 0x80 ≡ 0 = ap (λ (x : StatusCode). x.sc) e in omega (arith, n)

pub out_of_turn : IsLawful one_deletion delete_begun (Logged (Post 1 1 2 (aborted_done 2))) → ⊥
out_of_turn h = other 1 2 (λ e. omega (arith, e)) h.posts_in_order

-- ---- the device, and deletions
pub taken_out_of_turn : IsLawful one_deletion read_picked (Taken 7 1 1) → ⊥
taken_out_of_turn h = other 0 1 (λ e. omega (arith, e)) h.next

pub taken_twice : IsLawful one_deletion read_taken (Taken 8 1 0) → ⊥
taken_twice h = cc h.next

pub tag_in_use : IsLawful one_deletion (Logged (picked_of (admin_seen 1 ∷ reads_seen 2 ∷ []) 1) ∷ read_taken) (Taken 7 1 1) → ⊥
tag_in_use h = cc h.free

pub untaken : IsLawful one_deletion read_picked (Answered 1 0 succeeded) → ⊥
untaken h = cc h.executed.stands

pub answered_twice : IsLawful one_deletion read_answered (Answered 1 0 succeeded) → ⊥
answered_twice h = cc h.first

pub unpicked : IsLawful two_slots four_fetched (Answered 0 0 told) → ⊥
unpicked h = let e : false ≡ true = h.executed.picked in cc e

pub other_dw0 : IsLawful two_slots first_picked (Answered 0 0 succeeded) → ⊥
unfolding effects_of queue_table status_of dw0_of verdict_of
other_dw0 h = by h.executed.entry h.executed.is_there h.executed.dw0 where
  by : (entry : Sqe) → Some (get_arbitration 0) ≡ Some entry → 0 ≡ own_dw0 two_slots (logged first_picked) 0 0 entry → ⊥
  by entry is e = let n : 0 ≡ 0x03010001 = subst (λ (x : Sqe). 0 ≡ own_dw0 two_slots (logged first_picked) 0 0 x) (sym (same_Some _ _ is)) e in omega (arith, n)

pub told_other_status : IsLawful one_deletion (Logged (OpenCq 1 1) ∷ create_picked) (Answered 0 0 out_of_range) → ⊥
unfolding effects_of queue_table status_of dw0_of verdict_of
told_other_status h = by h.executed.entry h.executed.is_there h.executed.status where
  by : (entry : Sqe) → Some create_cq ≡ Some entry → lba_out_of_range ≡ own_status one_deletion (logged (Logged (OpenCq 1 1) ∷ create_picked)) 0 0 entry → ⊥
  by entry is e =
      let own : lba_out_of_range ≡ success = subst (λ (x : Sqe). lba_out_of_range ≡ own_status one_deletion (logged (Logged (OpenCq 1 1) ∷ create_picked)) 0 0 x) (sym (same_Some _ _ is)) e in
      let n : 0x80 ≡ 0 = ap (λ (x : StatusCode). x.sc) own in omega (arith, n)

pub unfinished : IsLawful one_deletion create_picked (Answered 0 0 succeeded) → ⊥
unfolding effects_of queue_table status_of dw0_of verdict_of
unfinished h = let e : [] ≡ OpenCq 1 1 ∷ [] = h.executed.whole in let n : 0 ≡ 1 = ap (λ (es : List Event). length es) e in omega (arith, n)

pub other_counts : IsLawful one_deletion reads_waiting (Logged (picked_of (admin_seen 1 ∷ reads_seen 2 ∷ []) 1)) → ⊥
other_counts h = let e : 3 ≡ 4 = ap (λ (seen : List Seen). sum_by (λ (s : Seen). s.count) seen) h.observed in omega (arith, e)

pub closed_early : IsLawful one_deletion read_answered (Logged (ClosedSq 1 1)) → ⊥
closed_early h = let e : false ≡ true = h.deletes.2 in cc e

pub told_early : IsLawful one_deletion reads_posted (Answered 0 2 succeeded) → ⊥
told_early h = let e : true ≡ false = h.executed.finished 1 in cc e

-- ---- two deletions
pub answered_early : IsLawful two_deletions second_gone (Answered 0 4 succeeded) → ⊥
answered_early h = let e : true ≡ false = h.executed.finished 1 in cc e

pub fetched_closing : IsLawful two_deletions two_closing (Logged (Fetch 1 1 (read 1))) → ⊥
fetched_closing h = let e : Some 4 ≡ None = h.deletes.0 in cc e

pub finished_early : IsLawful two_deletions third_served (Logged (ClosedSq 1 1)) → ⊥
finished_early h = let e : false ≡ true = h.deletes.2 in cc e

pub finished_other : IsLawful two_deletions third_served (Logged (ClosedSq 1 2)) → ⊥
finished_other h = let e : 2 ≡ 1 = same_Some 2 1 h.deletes.1 in omega (arith, e)

-- ---- flags
pub flagged_twice : IsLawful one_deletion (Flagged 1 0 not_retried ∷ read_answered) (Flagged 1 0 more_told) → ⊥
flagged_twice h = cc h.first

pub flagged_unanswered : IsLawful one_deletion read_taken (Flagged 1 0 not_retried) → ⊥
flagged_unanswered h = cc h.answered

pub flagged_own : IsLawful two_slots first_answered (Flagged 0 0 not_retried) → ⊥
flagged_own h = cc h.by_device.stands

-- a tag that a post gives back
abbrev given_back : ℕ → ℕ → Option Place → Option Place
given_back r i held = if is_place r i held then None else held

pub flagged_posted : IsLawful one_deletion reads_posted (Flagged 1 0 not_retried) → ⊥
flagged_posted h = by (7 == h.by_device.tag) h.by_device.stands where
  by : (b : Bool) → given_back 1 0 (given_back 1 2 (given_back 1 1 (if b then Some (place_at 1 0) else None))) ≡ Some (place_at 1 0) → ⊥
  by true lost = cc lost
  by false lost = cc lost
