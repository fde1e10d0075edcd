-- Worked notes of an admin command that is passed on, lawful and not.
use Rattle.std.proofs.Common.{◌≡◌, true, false, Some, None, refl, sym, ap, ◌∙◌, arith}
use Rattle.std.proofs.lemmas.Option.{same_Some}
use Rattle.nvme_entry.specs.Status.{StatusCode, success, invalid_opcode}
use Rattle.nvme_entry.specs.declared.submission.Sqe.{Sqe}
use Rattle.nvme_admin.specs.Accepted.{effects_of, queue_table, status_of, dw0_of, verdict_of}
use Rattle.nvme_log.specs.declared.event.Event.TheVariants.{Post}
use Rattle.nvme_log.specs.Answers.{Answer}
use Rattle.nvme_log.specs.Examples.{two_slots, get_arbitration}
use Rattle.nvme_ctrl_log.specs.Notes.{Logged, Passed, Taken, Answered, logged}
use Rattle.nvme_ctrl_log.specs.Own.{may_be_own, before_pick}
use Rattle.nvme_ctrl_log.specs.Account.{IsLawful}
use Rattle.nvme_ctrl_log.specs.Examples.{succeeded, first_picked, identify, identify_fetched, identify_picked, identify_passed, identify_taken, identify_answered, identified}

pub passed : IsLawful two_slots identify_picked (Passed 0)
passed = record { latest = refl; picked = refl; entry = identify 0; is_there = refl; may_be = refl; first = refl; unanswered = refl }

pub taken : IsLawful two_slots identify_passed (Taken 7 0 0)
taken = record { next = refl; free = refl }

pub answered : IsLawful two_slots identify_taken (Answered 0 0 succeeded)
answered = record { first = refl; executed = record { tag = 7; stands = refl } }

pub posted : IsLawful two_slots identify_answered (Logged (Post 0 0 0 (identified success)))
unfolding effects_of queue_table status_of dw0_of verdict_of
posted = record {
  index_counts = tt;
  served_while_open = tt;
  observed = tt;
  effects_at_once = refl;
  deletes = (refl, λ s. refl);
  posts_own = record {
    answer = succeeded;
    answered = refl;
    status_is = refl;
    dw0_is = refl;
    other_status = invalid_opcode;
    other_dw0 = 0;
    all_else = (refl, refl, record { entry = identify 0; is_there = refl; region = refl; sqid = refl; cid = refl; status = refl; dw0 = refl; sqhd = refl; phase = refl });
  };
  fetches_submitted = tt;
  posts_on_free_slot = omega arith;
  posts_what_is_through = refl;
  posts_in_order = refl;
}

pub passed_twice : IsLawful two_slots identify_passed (Passed 0) → ⊥
passed_twice h = let e : true ≡ false = h.first in cc e

pub passed_unpicked : IsLawful two_slots identify_fetched (Passed 0) → ⊥
passed_unpicked h = let e : None ≡ Some 0 = h.latest in cc e

pub passed_core : IsLawful two_slots first_picked (Passed 0) → ⊥
passed_core h =
    let is : get_arbitration 0 ≡ h.entry = same_Some (get_arbitration 0) h.entry h.is_there in
    let e : false ≡ true = ap (λ (entry : Sqe). may_be_own (before_pick (logged first_picked)) entry) is ∙ h.may_be in
    cc e

pub taken_unpassed : IsLawful two_slots identify_picked (Taken 7 0 0) → ⊥
taken_unpassed h = cc h.next

pub answered_untaken : IsLawful two_slots identify_passed (Answered 0 0 succeeded) → ⊥
answered_untaken h = cc h.executed.stands

pub posted_refused : IsLawful two_slots identify_answered (Logged (Post 0 0 0 (identified invalid_opcode))) → ⊥
posted_refused h =
    let is : succeeded ≡ h.posts_own.answer = same_Some succeeded h.posts_own.answer h.posts_own.answered in
    let e : invalid_opcode ≡ success = h.posts_own.status_is ∙ sym (ap (λ (a : Answer). a.status) is) in
    let n : 1 ≡ 0 = ap (λ (x : StatusCode). x.sc) e in
    omega (arith, n)
