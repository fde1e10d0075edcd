-- Worked logs in which a queue is held, and its class is set, and notes that are refused.
use Rattle.std.proofs.Common.{◌≡◌, true, false, List, [], ◌∷◌, Some, None, refl, ap, arith, rules}
use Rattle.std.specs.Prelude.{sum_by}
use Rattle.std.specs.List.{list_any}
use Rattle.nvme_admin.specs.Accepted.{effects_of, queue_table, status_of, dw0_of, verdict_of}
use Rattle.nvme_arbiter.specs.Observation.{is_class}
use Rattle.nvme_arbiter.specs.declared.pick.Seen.{Seen}
use Rattle.nvme_arbiter.specs.declared.settings.Class.TheVariants.{Admin, Urgent, Low}
use Rattle.nvme_log.specs.declared.event.Event.TheVariants.{Closing, Abort, Post, ClosedSq}
use Rattle.nvme_log.specs.Examples.{one_deletion, admin_seen, reads_seen, picked_of, done}
use Rattle.nvme_entry.specs.Status.{success}
use Rattle.nvme_arbiter.proofs.PickLaws.{lawful_is_limited}
use Rattle.nvme_log.specs.Histories.{arbitration_of}
use Rattle.nvme_ctrl_log.specs.Notes.{Notes, Logged, Taken, Answered, Held, Classed, EachNote, logged}
use Rattle.nvme_ctrl_log.specs.Account.{IsLawful, IsAccount}
use Rattle.nvme_ctrl_log.specs.Examples.{succeeded, aborted_done, reads_waiting, held_and_deleted, classed_and_picked}
use Rattle.nvme_ctrl_log.proofs.ExampleNotes.{deletion_account}
use Rattle.nvme_ctrl_log.proofs.Noted.{EachNote-after}

-- the notes of the worked deletion from the first pick of queue 1 on
after_reads : Notes
after_reads =
    Logged (Post 0 0 2 (done 0 2 success))
    ∷ Answered 0 2 succeeded
    ∷ Logged (ClosedSq 1 1)
    ∷ Logged (Post 1 1 0 (done 1 0 success))
    ∷ Answered 1 0 succeeded
    ∷ Logged (Post 1 1 2 (aborted_done 2))
    ∷ Logged (Post 1 1 1 (aborted_done 1))
    ∷ Logged (Abort 1 2)
    ∷ Logged (Abort 1 1)
    ∷ Logged (Closing 1 1)
    ∷ Logged (picked_of (admin_seen 1 ∷ reads_seen 2 ∷ []) 0)
    ∷ Taken 7 1 0
    ∷ Logged (picked_of (admin_seen 1 ∷ reads_seen 3 ∷ []) 1) ∷ []

each_of_reads : EachNote (IsLawful one_deletion) reads_waiting
unfolding after_reads
each_of_reads = EachNote-after (IsLawful one_deletion) after_reads reads_waiting deletion_account.each

pub held_account : IsAccount one_deletion held_and_deleted
unfolding effects_of queue_table status_of dw0_of verdict_of
held_account = record {
  each = (
    record { index_counts = tt; served_while_open = tt; observed = tt; effects_at_once = ([], refl); deletes = refl; posts_own = tt; fetches_submitted = tt; posts_on_free_slot = tt; posts_what_is_through = tt; posts_in_order = tt },
    (
      record { index_counts = tt; served_while_open = tt; observed = tt; effects_at_once = (Abort 1 2 ∷ [], refl); deletes = refl; posts_own = tt; fetches_submitted = tt; posts_on_free_slot = tt; posts_what_is_through = tt; posts_in_order = tt },
      (
        record { index_counts = tt; served_while_open = tt; observed = tt; effects_at_once = (Abort 1 1 ∷ Abort 1 2 ∷ [], refl); deletes = refl; posts_own = tt; fetches_submitted = tt; posts_on_free_slot = tt; posts_what_is_through = tt; posts_in_order = tt },
        (
          record { index_counts = tt; served_while_open = tt; observed = tt; effects_at_once = (Abort 1 0 ∷ Abort 1 1 ∷ Abort 1 2 ∷ [], refl); deletes = (refl, refl); posts_own = tt; fetches_submitted = tt; posts_on_free_slot = tt; posts_what_is_through = tt; posts_in_order = tt },
          (
            record { index_counts = tt; served_while_open = refl; observed = refl; effects_at_once = refl; deletes = refl; posts_own = tt; fetches_submitted = tt; posts_on_free_slot = tt; posts_what_is_through = tt; posts_in_order = tt },
            (record { queue = record { region = 1; cqid = 1; class = Urgent }; is_open = refl }, each_of_reads),
          ),
        ),
      ),
    ),
  );
  lawful = lawful_is_limited one_deletion.mechanism one_deletion.start.settings (arbitration_of (logged held_and_deleted)) (search rules);
  effects_whole = refl;
}

pub classed_account : IsAccount one_deletion classed_and_picked
unfolding effects_of queue_table status_of dw0_of verdict_of
classed_account = record {
  each = (
    record { index_counts = tt; served_while_open = refl; observed = refl; effects_at_once = refl; deletes = refl; posts_own = tt; fetches_submitted = tt; posts_on_free_slot = tt; posts_what_is_through = tt; posts_in_order = tt },
    (record { queue = record { region = 1; cqid = 1; class = Urgent }; is_open = refl; io = λ e. cc e; class_of_io = λ e. cc e }, each_of_reads),
  );
  lawful = lawful_is_limited one_deletion.mechanism one_deletion.start.settings (arbitration_of (logged classed_and_picked)) (search rules);
  effects_whole = refl;
}

-- ---- notes that are refused
pub held_picked : IsLawful one_deletion (Held 1 true ∷ reads_waiting) (Logged (picked_of (admin_seen 1 ∷ reads_seen 3 ∷ []) 1)) → ⊥
held_picked h = let e : 4 ≡ 1 = ap (λ (seen : List Seen). sum_by (λ (s : Seen). s.count) seen) h.observed in omega (arith, e)

pub old_class : IsLawful one_deletion (Classed 1 Low ∷ reads_waiting) (Logged (picked_of (admin_seen 1 ∷ reads_seen 3 ∷ []) 1)) → ⊥
old_class h = let e : true ≡ false = ap (λ (seen : List Seen). list_any (λ (s : Seen). is_class Urgent s.class) seen) h.observed in cc e

pub held_unopened : IsLawful one_deletion reads_waiting (Held 2 true) → ⊥
held_unopened h = let e : None ≡ Some h.queue = h.is_open in cc e

pub classed_unopened : IsLawful one_deletion reads_waiting (Classed 2 Low) → ⊥
classed_unopened h = let e : None ≡ Some h.queue = h.is_open in cc e

pub admin_classed : IsLawful one_deletion reads_waiting (Classed 0 Low) → ⊥
admin_classed h = h.io refl

pub classed_as_admin : IsLawful one_deletion reads_waiting (Classed 1 Admin) → ⊥
classed_as_admin h = h.class_of_io refl
