-- Worked notes of Abort commands that are passed on, lawful and not.
use Rattle.std.proofs.Common.{◌≡◌, true, false, refl, sym, ap, ◌∙◌, arith}
use Rattle.std.proofs.lemmas.Option.{same_Some}
use Rattle.nvme_entry.specs.Status.{success, abort_requested}
use Rattle.nvme_entry.specs.declared.submission.Sqe.{Sqe}
use Rattle.nvme_admin.specs.Accepted.{effects_of, queue_table, status_of, dw0_of, verdict_of}
use Rattle.nvme_log.specs.declared.event.Event.TheVariants.{Post}
use Rattle.nvme_log.specs.Answers.{Answer}
use Rattle.nvme_log.specs.Examples.{one_deletion, read, done}
use Rattle.nvme_ctrl_log.specs.Notes.{Logged, Passed, Taken, Answered, logged}
use Rattle.nvme_ctrl_log.specs.Own.{may_be_own, before_pick}
use Rattle.nvme_ctrl_log.specs.Account.{IsLawful}
use Rattle.nvme_ctrl_log.specs.Examples.{succeeded, abort_of_read, abort_picked, abort_passed, abort_taken, aborted_read, read_aborted, abort_answered, abort_done}

pub passed : IsLawful one_deletion (abort_picked 0) (Passed 2)
passed = record { latest = refl; picked = refl; entry = abort_of_read 0; is_there = refl; may_be = refl; first = refl; unanswered = refl }

pub passed_waiting : IsLawful one_deletion (abort_picked 1) (Passed 2) → ⊥
passed_waiting h =
    let is : abort_of_read 1 ≡ h.entry = same_Some (abort_of_read 1) h.entry h.is_there in
    let e : false ≡ true = ap (λ (entry : Sqe). may_be_own (before_pick (logged (abort_picked 1))) entry) is ∙ h.may_be in
    cc e

pub taken : IsLawful one_deletion abort_passed (Taken 8 0 2)
taken = record { next = refl; free = refl }

pub ended : IsLawful one_deletion abort_taken (Answered 1 0 aborted_read)
ended = record { first = refl; executed = record { tag = 7; stands = refl } }

pub answered : IsLawful one_deletion read_aborted (Answered 0 2 succeeded)
answered = record { first = refl; executed = record { tag = 8; stands = refl } }

pub posted : IsLawful one_deletion abort_answered (Logged (Post 0 0 2 (abort_done 0)))
unfolding effects_of queue_table status_of dw0_of verdict_of
posted = record {
  index_counts = tt;
  served_while_open = tt;
  observed = tt;
  effects_at_once = refl;
  deletes = (refl, λ s. refl);
  posts_own = record {
    answer = succeeded;
    answered = refl;
    status_is = refl;
    dw0_is = refl;
    other_status = success;
    other_dw0 = 1;
    all_else = (refl, refl, record { entry = abort_of_read 0; is_there = refl; region = refl; sqid = refl; cid = refl; status = refl; dw0 = refl; sqhd = refl; phase = refl });
  };
  fetches_submitted = tt;
  posts_on_free_slot = omega arith;
  posts_what_is_through = refl;
  posts_in_order = refl;
}

pub posted_unaborted : IsLawful one_deletion abort_answered (Logged (Post 0 0 2 (abort_done 1))) → ⊥
posted_unaborted h =
    let is : succeeded ≡ h.posts_own.answer = same_Some succeeded h.posts_own.answer h.posts_own.answered in
    let n : 1 ≡ 0 = h.posts_own.dw0_is ∙ sym (ap (λ (a : Answer). a.dw0) is) in
    omega (arith, n)

pub read_posted : IsLawful one_deletion abort_answered (Logged (Post 1 1 0 (done 1 0 abort_requested)))
unfolding effects_of queue_table status_of dw0_of verdict_of
read_posted = record {
  index_counts = tt;
  served_while_open = tt;
  observed = tt;
  effects_at_once = refl;
  deletes = (refl, λ s. refl);
  posts_own = (refl, refl, record { entry = read 0; is_there = refl; region = refl; sqid = refl; cid = refl; status = refl; dw0 = refl; sqhd = refl; phase = refl });
  fetches_submitted = tt;
  posts_on_free_slot = omega arith;
  posts_what_is_through = refl;
  posts_in_order = refl;
}
