-- The worked logs of a controller are accounted.
use Rattle.std.proofs.Common.{[], ◌∷◌, refl, arith, rules, ◌≡◌, ℕ, ◌==◌, Bool, true, false, if◌then◌else◌, None, Some}
use Rattle.nvme_admin.specs.Accepted.{effects_of, queue_table, status_of, dw0_of, verdict_of}
use Rattle.nvme_log.specs.declared.event.Event.TheVariants.{Abort}
use Rattle.nvme_log.specs.Examples.{two_slots, one_deletion, get_arbitration, create_cq, create_sq, delete_sq, read}
use Rattle.nvme_arbiter.proofs.PickLaws.{lawful_is_limited}
use Rattle.nvme_log.specs.Histories.{arbitration_of}
use Rattle.nvme_ctrl_log.specs.Notes.{EachNote, logged}
use Rattle.nvme_ctrl_log.specs.Account.{IsLawful, IsAccount}
use Rattle.nvme_ctrl_log.specs.Examples.{two_passes, deletion_noted, two_deletions, both_gone, create_queue, delete_queue}
use Rattle.nvme_log.specs.Aborts.{is_index}

each_of_two : EachNote (IsLawful two_slots) two_passes
unfolding effects_of queue_table status_of dw0_of verdict_of
each_of_two = (
  record { index_counts = tt; served_while_open = tt; observed = tt; effects_at_once = refl; deletes = (refl, λ s. refl); posts_own = (refl, refl, record { entry = get_arbitration 3; is_there = refl; region = refl; sqid = refl; cid = refl; status = refl; dw0 = refl; sqhd = refl; phase = refl }); fetches_submitted = tt; posts_on_free_slot = omega arith; posts_what_is_through = refl; posts_in_order = refl },
  (
    record { first = refl; executed = record { entry = get_arbitration 3; is_there = refl; picked = refl; whole = refl; finished = λ r. refl; status = refl; dw0 = refl } },
    (
      record { index_counts = tt; served_while_open = refl; observed = refl; effects_at_once = refl; deletes = refl; posts_own = tt; fetches_submitted = tt; posts_on_free_slot = tt; posts_what_is_through = tt; posts_in_order = tt },
      (
        record { is_open = refl; is_slot = omega arith; posted = omega arith },
        (
          record { index_counts = tt; served_while_open = tt; observed = tt; effects_at_once = refl; deletes = (refl, λ s. refl); posts_own = (refl, refl, record { entry = get_arbitration 2; is_there = refl; region = refl; sqid = refl; cid = refl; status = refl; dw0 = refl; sqhd = refl; phase = refl }); fetches_submitted = tt; posts_on_free_slot = omega arith; posts_what_is_through = refl; posts_in_order = refl },
          (
            record { first = refl; executed = record { entry = get_arbitration 2; is_there = refl; picked = refl; whole = refl; finished = λ r. refl; status = refl; dw0 = refl } },
            (
              record { index_counts = tt; served_while_open = refl; observed = refl; effects_at_once = refl; deletes = refl; posts_own = tt; fetches_submitted = tt; posts_on_free_slot = tt; posts_what_is_through = tt; posts_in_order = tt },
              (
                record { is_open = refl; is_slot = omega arith; posted = omega arith },
                (
                  record { index_counts = tt; served_while_open = tt; observed = tt; effects_at_once = refl; deletes = (refl, λ s. refl); posts_own = (refl, refl, record { entry = get_arbitration 1; is_there = refl; region = refl; sqid = refl; cid = refl; status = refl; dw0 = refl; sqhd = refl; phase = refl }); fetches_submitted = tt; posts_on_free_slot = omega arith; posts_what_is_through = refl; posts_in_order = refl },
                  (
                    record { first = refl; executed = record { entry = get_arbitration 1; is_there = refl; picked = refl; whole = refl; finished = λ r. refl; status = refl; dw0 = refl } },
                    (
                      record { index_counts = tt; served_while_open = refl; observed = refl; effects_at_once = refl; deletes = refl; posts_own = tt; fetches_submitted = tt; posts_on_free_slot = tt; posts_what_is_through = tt; posts_in_order = tt },
                      (
                        record { is_open = refl; is_slot = omega arith; posted = omega arith },
                        (
                          record { index_counts = tt; served_while_open = tt; observed = tt; effects_at_once = refl; deletes = (refl, λ s. refl); posts_own = (refl, refl, record { entry = get_arbitration 0; is_there = refl; region = refl; sqid = refl; cid = refl; status = refl; dw0 = refl; sqhd = refl; phase = refl }); fetches_submitted = tt; posts_on_free_slot = omega arith; posts_what_is_through = refl; posts_in_order = refl },
                          (
                            record { first = refl; executed = record { entry = get_arbitration 0; is_there = refl; picked = refl; whole = refl; finished = λ r. refl; status = refl; dw0 = refl } },
                            (
                              record { index_counts = tt; served_while_open = refl; observed = refl; effects_at_once = refl; deletes = refl; posts_own = tt; fetches_submitted = tt; posts_on_free_slot = tt; posts_what_is_through = tt; posts_in_order = tt },
                              (
                                record { index_counts = refl; served_while_open = (refl, refl); observed = tt; effects_at_once = refl; deletes = (refl, refl); posts_own = tt; fetches_submitted = omega arith; posts_on_free_slot = tt; posts_what_is_through = tt; posts_in_order = tt },
                                (
                                  record { index_counts = refl; served_while_open = (refl, refl); observed = tt; effects_at_once = refl; deletes = (refl, refl); posts_own = tt; fetches_submitted = omega arith; posts_on_free_slot = tt; posts_what_is_through = tt; posts_in_order = tt },
                                  (
                                    record { index_counts = refl; served_while_open = (refl, refl); observed = tt; effects_at_once = refl; deletes = (refl, refl); posts_own = tt; fetches_submitted = omega arith; posts_on_free_slot = tt; posts_what_is_through = tt; posts_in_order = tt },
                                    (
                                      record { index_counts = refl; served_while_open = (refl, refl); observed = tt; effects_at_once = refl; deletes = (refl, refl); posts_own = tt; fetches_submitted = omega arith; posts_on_free_slot = tt; posts_what_is_through = tt; posts_in_order = tt },
                                      (
                                        record { is_open = refl; is_slot = omega arith; fits = omega arith },
                                        tt,
                                      ),
                                    ),
                                  ),
                                ),
                              ),
                            ),
                          ),
                        ),
                      ),
                    ),
                  ),
                ),
              ),
            ),
          ),
        ),
      ),
    ),
  ),
)

pub two_passes_account : IsAccount two_slots two_passes
unfolding effects_of queue_table status_of dw0_of verdict_of
two_passes_account = record { each = each_of_two; lawful = lawful_is_limited two_slots.mechanism two_slots.start.settings (arbitration_of (logged two_passes)) (search rules); effects_whole = refl }

-- a deletion that began and is finished is pending no more
over : (b : Bool) (i : ℕ) → is_index i (if b then None else (if b then Some i else None)) ≡ false
over true i = refl
over false i = refl

each_of_deletion : EachNote (IsLawful one_deletion) deletion_noted
unfolding effects_of queue_table status_of dw0_of verdict_of
each_of_deletion = (
  record { index_counts = tt; served_while_open = tt; observed = tt; effects_at_once = refl; deletes = (refl, λ s. over (1 == s) 2); posts_own = (refl, refl, record { entry = delete_sq; is_there = refl; region = refl; sqid = refl; cid = refl; status = refl; dw0 = refl; sqhd = refl; phase = refl }); fetches_submitted = tt; posts_on_free_slot = omega arith; posts_what_is_through = refl; posts_in_order = refl },
  (
    record { first = refl; executed = record { entry = delete_sq; is_there = refl; picked = refl; whole = refl; finished = λ r. over (1 == r) 2; status = refl; dw0 = refl } },
    (
      record { index_counts = tt; served_while_open = tt; observed = tt; effects_at_once = refl; deletes = (refl, refl, refl); posts_own = tt; fetches_submitted = tt; posts_on_free_slot = tt; posts_what_is_through = tt; posts_in_order = tt },
      (
        record { index_counts = tt; served_while_open = tt; observed = tt; effects_at_once = refl; deletes = (refl, λ s. refl); posts_own = (refl, refl, record { entry = read 0; is_there = refl; region = refl; sqid = refl; cid = refl; status = refl; dw0 = refl; sqhd = refl; phase = refl }); fetches_submitted = tt; posts_on_free_slot = omega arith; posts_what_is_through = refl; posts_in_order = refl },
        (
          record { first = refl; executed = record { tag = 7; stands = refl } },
          (
            record { index_counts = tt; served_while_open = tt; observed = tt; effects_at_once = refl; deletes = (refl, λ s. refl); posts_own = (refl, refl, record { entry = read 2; is_there = refl; region = refl; sqid = refl; cid = refl; status = refl; dw0 = refl; sqhd = refl; phase = refl }); fetches_submitted = tt; posts_on_free_slot = omega arith; posts_what_is_through = refl; posts_in_order = refl },
            (
              record { index_counts = tt; served_while_open = tt; observed = tt; effects_at_once = refl; deletes = (refl, λ s. refl); posts_own = (refl, refl, record { entry = read 1; is_there = refl; region = refl; sqid = refl; cid = refl; status = refl; dw0 = refl; sqhd = refl; phase = refl }); fetches_submitted = tt; posts_on_free_slot = omega arith; posts_what_is_through = refl; posts_in_order = refl },
              (
                record { index_counts = tt; served_while_open = tt; observed = tt; effects_at_once = ([], refl); deletes = refl; posts_own = tt; fetches_submitted = tt; posts_on_free_slot = tt; posts_what_is_through = tt; posts_in_order = tt },
                (
                  record { index_counts = tt; served_while_open = tt; observed = tt; effects_at_once = (Abort 1 2 ∷ [], refl); deletes = refl; posts_own = tt; fetches_submitted = tt; posts_on_free_slot = tt; posts_what_is_through = tt; posts_in_order = tt },
                  (
                    record { index_counts = tt; served_while_open = tt; observed = tt; effects_at_once = (Abort 1 1 ∷ Abort 1 2 ∷ [], refl); deletes = (refl, refl); posts_own = tt; fetches_submitted = tt; posts_on_free_slot = tt; posts_what_is_through = tt; posts_in_order = tt },
                    (
                      record { index_counts = tt; served_while_open = refl; observed = refl; effects_at_once = refl; deletes = refl; posts_own = tt; fetches_submitted = tt; posts_on_free_slot = tt; posts_what_is_through = tt; posts_in_order = tt },
                      (
                        record { next = refl; free = refl },
                        (
                          record { index_counts = tt; served_while_open = refl; observed = refl; effects_at_once = refl; deletes = refl; posts_own = tt; fetches_submitted = tt; posts_on_free_slot = tt; posts_what_is_through = tt; posts_in_order = tt },
                          (
                            record { index_counts = refl; served_while_open = (refl, refl); observed = tt; effects_at_once = refl; deletes = (refl, refl); posts_own = tt; fetches_submitted = omega arith; posts_on_free_slot = tt; posts_what_is_through = tt; posts_in_order = tt },
                            (
                              record { index_counts = refl; served_while_open = (refl, refl); observed = tt; effects_at_once = refl; deletes = (refl, refl); posts_own = tt; fetches_submitted = omega arith; posts_on_free_slot = tt; posts_what_is_through = tt; posts_in_order = tt },
                              (
                                record { index_counts = refl; served_while_open = (refl, refl); observed = tt; effects_at_once = refl; deletes = (refl, refl); posts_own = tt; fetches_submitted = omega arith; posts_on_free_slot = tt; posts_what_is_through = tt; posts_in_order = tt },
                                (
                                  record { is_open = refl; is_slot = omega arith; fits = omega arith },
                                  (
                                    record { index_counts = tt; served_while_open = tt; observed = tt; effects_at_once = refl; deletes = (refl, λ s. refl); posts_own = (refl, refl, record { entry = create_sq; is_there = refl; region = refl; sqid = refl; cid = refl; status = refl; dw0 = refl; sqhd = refl; phase = refl }); fetches_submitted = tt; posts_on_free_slot = omega arith; posts_what_is_through = refl; posts_in_order = refl },
                                    (
                                      record { first = refl; executed = record { entry = create_sq; is_there = refl; picked = refl; whole = refl; finished = λ r. refl; status = refl; dw0 = refl } },
                                      (
                                        record { index_counts = tt; served_while_open = tt; observed = tt; effects_at_once = ([], refl); deletes = tt; posts_own = tt; fetches_submitted = tt; posts_on_free_slot = tt; posts_what_is_through = tt; posts_in_order = tt },
                                        (
                                          record { index_counts = tt; served_while_open = refl; observed = refl; effects_at_once = refl; deletes = refl; posts_own = tt; fetches_submitted = tt; posts_on_free_slot = tt; posts_what_is_through = tt; posts_in_order = tt },
                                          (
                                            record { index_counts = tt; served_while_open = tt; observed = tt; effects_at_once = refl; deletes = (refl, λ s. refl); posts_own = (refl, refl, record { entry = create_cq; is_there = refl; region = refl; sqid = refl; cid = refl; status = refl; dw0 = refl; sqhd = refl; phase = refl }); fetches_submitted = tt; posts_on_free_slot = omega arith; posts_what_is_through = refl; posts_in_order = refl },
                                            (
                                              record { first = refl; executed = record { entry = create_cq; is_there = refl; picked = refl; whole = refl; finished = λ r. refl; status = refl; dw0 = refl } },
                                              (
                                                record { index_counts = tt; served_while_open = tt; observed = tt; effects_at_once = ([], refl); deletes = tt; posts_own = tt; fetches_submitted = tt; posts_on_free_slot = tt; posts_what_is_through = tt; posts_in_order = tt },
                                                (
                                                  record { index_counts = tt; served_while_open = refl; observed = refl; effects_at_once = refl; deletes = refl; posts_own = tt; fetches_submitted = tt; posts_on_free_slot = tt; posts_what_is_through = tt; posts_in_order = tt },
                                                  (
                                                    record { index_counts = refl; served_while_open = (refl, refl); observed = tt; effects_at_once = refl; deletes = (refl, refl); posts_own = tt; fetches_submitted = omega arith; posts_on_free_slot = tt; posts_what_is_through = tt; posts_in_order = tt },
                                                    (
                                                      record { index_counts = refl; served_while_open = (refl, refl); observed = tt; effects_at_once = refl; deletes = (refl, refl); posts_own = tt; fetches_submitted = omega arith; posts_on_free_slot = tt; posts_what_is_through = tt; posts_in_order = tt },
                                                      (
                                                        record { index_counts = refl; served_while_open = (refl, refl); observed = tt; effects_at_once = refl; deletes = (refl, refl); posts_own = tt; fetches_submitted = omega arith; posts_on_free_slot = tt; posts_what_is_through = tt; posts_in_order = tt },
                                                        (
                                                          record { is_open = refl; is_slot = omega arith; fits = omega arith },
                                                          tt,
                                                        ),
                                                      ),
                                                    ),
                                                  ),
                                                ),
                                              ),
                                            ),
                                          ),
                                        ),
                                      ),
                                    ),
                                  ),
                                ),
                              ),
                            ),
                          ),
                        ),
                      ),
                    ),
                  ),
                ),
              ),
            ),
          ),
        ),
      ),
    ),
  ),
)

pub deletion_account : IsAccount one_deletion deletion_noted
unfolding effects_of queue_table status_of dw0_of verdict_of
deletion_account = record { each = each_of_deletion; lawful = lawful_is_limited one_deletion.mechanism one_deletion.start.settings (arbitration_of (logged deletion_noted)) (search rules); effects_whole = refl }

-- of two deletions one is finished, or both
second_over : (b c : Bool) → is_index 5 (if b then None else (if b then Some 5 else (if c then Some 4 else None))) ≡ false
second_over true c = refl
second_over false true = refl
second_over false false = refl

first_over : (b c : Bool) → is_index 4 (if b then None else (if c then None else (if c then Some 5 else (if b then Some 4 else None)))) ≡ false
first_over true c = refl
first_over false true = refl
first_over false false = refl

each_of_two_deletions : EachNote (IsLawful two_deletions) both_gone
unfolding effects_of queue_table status_of dw0_of verdict_of
each_of_two_deletions = (
  record { index_counts = tt; served_while_open = tt; observed = tt; effects_at_once = refl; deletes = (refl, λ s. first_over (1 == s) (2 == s)); posts_own = (refl, refl, record { entry = delete_queue 4 1; is_there = refl; region = refl; sqid = refl; cid = refl; status = refl; dw0 = refl; sqhd = refl; phase = refl }); fetches_submitted = tt; posts_on_free_slot = omega arith; posts_what_is_through = refl; posts_in_order = refl },
  (
    record { first = refl; executed = record { entry = delete_queue 4 1; is_there = refl; picked = refl; whole = refl; finished = λ r. first_over (1 == r) (2 == r); status = refl; dw0 = refl } },
    (
      record { index_counts = tt; served_while_open = tt; observed = tt; effects_at_once = refl; deletes = (refl, refl, refl); posts_own = tt; fetches_submitted = tt; posts_on_free_slot = tt; posts_what_is_through = tt; posts_in_order = tt },
      (
        record { index_counts = tt; served_while_open = tt; observed = tt; effects_at_once = refl; deletes = (refl, λ s. refl); posts_own = (refl, refl, record { entry = read 0; is_there = refl; region = refl; sqid = refl; cid = refl; status = refl; dw0 = refl; sqhd = refl; phase = refl }); fetches_submitted = tt; posts_on_free_slot = omega arith; posts_what_is_through = refl; posts_in_order = refl },
        (
          record { first = refl; executed = record { tag = 7; stands = refl } },
          (
            record { index_counts = tt; served_while_open = tt; observed = tt; effects_at_once = refl; deletes = (refl, λ s. second_over (2 == s) (1 == s)); posts_own = (refl, refl, record { entry = delete_queue 5 2; is_there = refl; region = refl; sqid = refl; cid = refl; status = refl; dw0 = refl; sqhd = refl; phase = refl }); fetches_submitted = tt; posts_on_free_slot = omega arith; posts_what_is_through = refl; posts_in_order = refl },
            (
              record { first = refl; executed = record { entry = delete_queue 5 2; is_there = refl; picked = refl; whole = refl; finished = λ r. second_over (2 == r) (1 == r); status = refl; dw0 = refl } },
              (
                record { index_counts = tt; served_while_open = tt; observed = tt; effects_at_once = refl; deletes = (refl, refl, refl); posts_own = tt; fetches_submitted = tt; posts_on_free_slot = tt; posts_what_is_through = tt; posts_in_order = tt },
                (
                  record { index_counts = tt; served_while_open = tt; observed = tt; effects_at_once = refl; deletes = (refl, λ s. refl); posts_own = (refl, refl, record { entry = read 0; is_there = refl; region = refl; sqid = refl; cid = refl; status = refl; dw0 = refl; sqhd = refl; phase = refl }); fetches_submitted = tt; posts_on_free_slot = omega arith; posts_what_is_through = refl; posts_in_order = refl },
                  (
                    record { first = refl; executed = record { tag = 8; stands = refl } },
                    (
                      record { next = refl; free = refl },
                      (
                        record { index_counts = tt; served_while_open = refl; observed = refl; effects_at_once = refl; deletes = refl; posts_own = tt; fetches_submitted = tt; posts_on_free_slot = tt; posts_what_is_through = tt; posts_in_order = tt },
                        (
                          record { index_counts = refl; served_while_open = (refl, refl); observed = tt; effects_at_once = refl; deletes = (refl, refl); posts_own = tt; fetches_submitted = omega arith; posts_on_free_slot = tt; posts_what_is_through = tt; posts_in_order = tt },
                          (
                            record { is_open = refl; is_slot = omega arith; fits = omega arith },
                            (
                              record { index_counts = tt; served_while_open = tt; observed = tt; effects_at_once = ([], refl); deletes = (refl, refl); posts_own = tt; fetches_submitted = tt; posts_on_free_slot = tt; posts_what_is_through = tt; posts_in_order = tt },
                              (
                                record { index_counts = tt; served_while_open = refl; observed = refl; effects_at_once = refl; deletes = refl; posts_own = tt; fetches_submitted = tt; posts_on_free_slot = tt; posts_what_is_through = tt; posts_in_order = tt },
                                (
                                  record { index_counts = tt; served_while_open = tt; observed = tt; effects_at_once = ([], refl); deletes = (refl, refl); posts_own = tt; fetches_submitted = tt; posts_on_free_slot = tt; posts_what_is_through = tt; posts_in_order = tt },
                                  (
                                    record { index_counts = tt; served_while_open = refl; observed = refl; effects_at_once = refl; deletes = refl; posts_own = tt; fetches_submitted = tt; posts_on_free_slot = tt; posts_what_is_through = tt; posts_in_order = tt },
                                    (
                                      record { next = refl; free = refl },
                                      (
                                        record { index_counts = tt; served_while_open = refl; observed = refl; effects_at_once = refl; deletes = refl; posts_own = tt; fetches_submitted = tt; posts_on_free_slot = tt; posts_what_is_through = tt; posts_in_order = tt },
                                        (
                                          record { index_counts = refl; served_while_open = (refl, refl); observed = tt; effects_at_once = refl; deletes = (refl, refl); posts_own = tt; fetches_submitted = omega arith; posts_on_free_slot = tt; posts_what_is_through = tt; posts_in_order = tt },
                                          (
                                            record { is_open = refl; is_slot = omega arith; fits = omega arith },
                                            (
                                              record { index_counts = tt; served_while_open = tt; observed = tt; effects_at_once = refl; deletes = (refl, λ s. refl); posts_own = (refl, refl, record { entry = create_queue 3; is_there = refl; region = refl; sqid = refl; cid = refl; status = refl; dw0 = refl; sqhd = refl; phase = refl }); fetches_submitted = tt; posts_on_free_slot = omega arith; posts_what_is_through = refl; posts_in_order = refl },
                                              (
                                                record { first = refl; executed = record { entry = create_queue 3; is_there = refl; picked = refl; whole = refl; finished = λ r. refl; status = refl; dw0 = refl } },
                                                (
                                                  record { index_counts = tt; served_while_open = tt; observed = tt; effects_at_once = ([], refl); deletes = tt; posts_own = tt; fetches_submitted = tt; posts_on_free_slot = tt; posts_what_is_through = tt; posts_in_order = tt },
                                                  (
                                                    record { index_counts = tt; served_while_open = refl; observed = refl; effects_at_once = refl; deletes = refl; posts_own = tt; fetches_submitted = tt; posts_on_free_slot = tt; posts_what_is_through = tt; posts_in_order = tt },
                                                    (
                                                      record { index_counts = tt; served_while_open = tt; observed = tt; effects_at_once = refl; deletes = (refl, λ s. refl); posts_own = (refl, refl, record { entry = create_queue 2; is_there = refl; region = refl; sqid = refl; cid = refl; status = refl; dw0 = refl; sqhd = refl; phase = refl }); fetches_submitted = tt; posts_on_free_slot = omega arith; posts_what_is_through = refl; posts_in_order = refl },
                                                      (
                                                        record { first = refl; executed = record { entry = create_queue 2; is_there = refl; picked = refl; whole = refl; finished = λ r. refl; status = refl; dw0 = refl } },
                                                        (
                                                          record { index_counts = tt; served_while_open = tt; observed = tt; effects_at_once = ([], refl); deletes = tt; posts_own = tt; fetches_submitted = tt; posts_on_free_slot = tt; posts_what_is_through = tt; posts_in_order = tt },
                                                          (
                                                            record { index_counts = tt; served_while_open = refl; observed = refl; effects_at_once = refl; deletes = refl; posts_own = tt; fetches_submitted = tt; posts_on_free_slot = tt; posts_what_is_through = tt; posts_in_order = tt },
                                                            (
                                                              record { index_counts = tt; served_while_open = tt; observed = tt; effects_at_once = refl; deletes = (refl, λ s. refl); posts_own = (refl, refl, record { entry = create_queue 1; is_there = refl; region = refl; sqid = refl; cid = refl; status = refl; dw0 = refl; sqhd = refl; phase = refl }); fetches_submitted = tt; posts_on_free_slot = omega arith; posts_what_is_through = refl; posts_in_order = refl },
                                                              (
                                                                record { first = refl; executed = record { entry = create_queue 1; is_there = refl; picked = refl; whole = refl; finished = λ r. refl; status = refl; dw0 = refl } },
                                                                (
                                                                  record { index_counts = tt; served_while_open = tt; observed = tt; effects_at_once = ([], refl); deletes = tt; posts_own = tt; fetches_submitted = tt; posts_on_free_slot = tt; posts_what_is_through = tt; posts_in_order = tt },
                                                                  (
                                                                    record { index_counts = tt; served_while_open = refl; observed = refl; effects_at_once = refl; deletes = refl; posts_own = tt; fetches_submitted = tt; posts_on_free_slot = tt; posts_what_is_through = tt; posts_in_order = tt },
                                                                    (
                                                                      record { index_counts = tt; served_while_open = tt; observed = tt; effects_at_once = refl; deletes = (refl, λ s. refl); posts_own = (refl, refl, record { entry = create_cq; is_there = refl; region = refl; sqid = refl; cid = refl; status = refl; dw0 = refl; sqhd = refl; phase = refl }); fetches_submitted = tt; posts_on_free_slot = omega arith; posts_what_is_through = refl; posts_in_order = refl },
                                                                      (
                                                                        record { first = refl; executed = record { entry = create_cq; is_there = refl; picked = refl; whole = refl; finished = λ r. refl; status = refl; dw0 = refl } },
                                                                        (
                                                                          record { index_counts = tt; served_while_open = tt; observed = tt; effects_at_once = ([], refl); deletes = tt; posts_own = tt; fetches_submitted = tt; posts_on_free_slot = tt; posts_what_is_through = tt; posts_in_order = tt },
                                                                          (
                                                                            record { index_counts = tt; served_while_open = refl; observed = refl; effects_at_once = refl; deletes = refl; posts_own = tt; fetches_submitted = tt; posts_on_free_slot = tt; posts_what_is_through = tt; posts_in_order = tt },
                                                                            (
                                                                              record { index_counts = refl; served_while_open = (refl, refl); observed = tt; effects_at_once = refl; deletes = (refl, refl); posts_own = tt; fetches_submitted = omega arith; posts_on_free_slot = tt; posts_what_is_through = tt; posts_in_order = tt },
                                                                              (
                                                                                record { index_counts = refl; served_while_open = (refl, refl); observed = tt; effects_at_once = refl; deletes = (refl, refl); posts_own = tt; fetches_submitted = omega arith; posts_on_free_slot = tt; posts_what_is_through = tt; posts_in_order = tt },
                                                                                (
                                                                                  record { index_counts = refl; served_while_open = (refl, refl); observed = tt; effects_at_once = refl; deletes = (refl, refl); posts_own = tt; fetches_submitted = omega arith; posts_on_free_slot = tt; posts_what_is_through = tt; posts_in_order = tt },
                                                                                  (
                                                                                    record { index_counts = refl; served_while_open = (refl, refl); observed = tt; effects_at_once = refl; deletes = (refl, refl); posts_own = tt; fetches_submitted = omega arith; posts_on_free_slot = tt; posts_what_is_through = tt; posts_in_order = tt },
                                                                                    (
                                                                                      record { index_counts = refl; served_while_open = (refl, refl); observed = tt; effects_at_once = refl; deletes = (refl, refl); posts_own = tt; fetches_submitted = omega arith; posts_on_free_slot = tt; posts_what_is_through = tt; posts_in_order = tt },
                                                                                      (
                                                                                        record { index_counts = refl; served_while_open = (refl, refl); observed = tt; effects_at_once = refl; deletes = (refl, refl); posts_own = tt; fetches_submitted = omega arith; posts_on_free_slot = tt; posts_what_is_through = tt; posts_in_order = tt },
                                                                                        (
                                                                                          record { is_open = refl; is_slot = omega arith; fits = omega arith },
                                                                                          tt,
                                                                                        ),
                                                                                      ),
                                                                                    ),
                                                                                  ),
                                                                                ),
                                                                              ),
                                                                            ),
                                                                          ),
                                                                        ),
                                                                      ),
                                                                    ),
                                                                  ),
                                                                ),
                                                              ),
                                                            ),
                                                          ),
                                                        ),
                                                      ),
                                                    ),
                                                  ),
                                                ),
                                              ),
                                            ),
                                          ),
                                        ),
                                      ),
                                    ),
                                  ),
                                ),
                              ),
                            ),
                          ),
                        ),
                      ),
                    ),
                  ),
                ),
              ),
            ),
          ),
        ),
      ),
    ),
  ),
)

pub two_deletions_account : IsAccount two_deletions both_gone
unfolding effects_of queue_table status_of dw0_of verdict_of
two_deletions_account = record { each = each_of_two_deletions; lawful = lawful_is_limited two_deletions.mechanism two_deletions.start.settings (arbitration_of (logged both_gone)) (search rules); effects_whole = refl }
