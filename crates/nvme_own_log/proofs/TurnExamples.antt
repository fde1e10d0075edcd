-- The worked log of a completion queue that is turned by two commands at once.
use Rattle.std.proofs.Common.{◌≡◌, ℕ, ◌==◌, Bool, true, false, if◌then◌else◌, [], None, Some, refl, ap, ◌∙◌, arith, rules}
use Rattle.std.proofs.lemmas.Option.{same_Some}
use Rattle.nvme_entry.specs.declared.admin.AdminCommand.{AdminCommand}
use Rattle.nvme_entry.specs.declared.admin.AdminCommand.TheVariants.{DeleteCq, CreateCq}
use Rattle.nvme_arbiter.proofs.PickLaws.{lawful_is_limited}
use Rattle.nvme_admin.specs.Accepted.{effects_of, queue_table, status_of, dw0_of, verdict_of}
use Rattle.nvme_admin.specs.Checks.{some_below}
use Rattle.nvme_log.specs.Examples.{read}
use Rattle.nvme_log.specs.Histories.{arbitration_of}
use Rattle.nvme_ctrl_log.specs.Notes.{EachNote, logged}
use Rattle.nvme_ctrl_log.specs.Account.{IsLawful, IsAccount}
use Rattle.nvme_audit.specs.Lives.{turns_sq}
use Rattle.nvme_audit.specs.Lawful as audit
use Rattle.nvme_audit.specs.declared.verdict.Verdict.TheVariants.{Broken}
use Rattle.nvme_audit.specs.declared.verdict.Rule.TheVariants as rule
use Rattle.nvme_audit.specs.declared.event.Event.TheVariants as shows
use Rattle.nvme_own_log.specs.Shown.{completion_of, shown, start_of}
use Rattle.nvme_own_log.specs.Duties.{KeepsDuties}
use Rattle.nvme_own_log.specs.TurnExamples.{two_rings, create_on, delete_cq, create_poster, answer, read_answered, read_told}

each_told : EachNote (IsLawful two_rings) read_told
unfolding effects_of queue_table status_of dw0_of verdict_of some_below
each_told = (
  record { index_counts = tt; served_while_open = tt; observed = tt; effects_at_once = refl; deletes = (refl, λ s. refl); posts_own = (refl, refl, record { entry = read 0; is_there = refl; region = refl; sqid = refl; cid = refl; status = refl; dw0 = refl; sqhd = refl; phase = refl }); fetches_submitted = tt; posts_on_free_slot = omega arith; posts_what_is_through = refl; posts_in_order = refl },
  (
    record { first = refl; executed = record { tag = 7; stands = refl } },
    (
      record { next = refl; free = refl },
      (
        record { index_counts = tt; served_while_open = refl; observed = refl; effects_at_once = refl; deletes = refl; posts_own = tt; fetches_submitted = tt; posts_on_free_slot = tt; posts_what_is_through = tt; posts_in_order = tt },
        (
          record { index_counts = refl; served_while_open = (refl, refl); observed = tt; effects_at_once = refl; deletes = (refl, refl); posts_own = tt; fetches_submitted = omega arith; posts_on_free_slot = tt; posts_what_is_through = tt; posts_in_order = tt },
          (
            record { is_open = refl; is_slot = omega arith; fits = omega arith },
            (
              record { index_counts = tt; served_while_open = tt; observed = tt; effects_at_once = refl; deletes = (refl, λ s. refl); posts_own = (refl, refl, record { entry = create_poster; is_there = refl; region = refl; sqid = refl; cid = refl; status = refl; dw0 = refl; sqhd = refl; phase = refl }); fetches_submitted = tt; posts_on_free_slot = omega arith; posts_what_is_through = refl; posts_in_order = refl },
              (
                record { first = refl; executed = record { entry = create_poster; is_there = refl; picked = refl; whole = refl; finished = λ r. refl; status = refl; dw0 = refl } },
                (
                  record { index_counts = tt; served_while_open = tt; observed = tt; effects_at_once = refl; deletes = (refl, λ s. refl); posts_own = (refl, refl, record { entry = delete_cq; is_there = refl; region = refl; sqid = refl; cid = refl; status = refl; dw0 = refl; sqhd = refl; phase = refl }); fetches_submitted = tt; posts_on_free_slot = omega arith; posts_what_is_through = refl; posts_in_order = refl },
                  (
                    record { first = refl; executed = record { entry = delete_cq; is_there = refl; picked = refl; whole = refl; finished = λ r. refl; status = refl; dw0 = refl } },
                    (
                      record { index_counts = tt; served_while_open = tt; observed = tt; effects_at_once = refl; deletes = (refl, λ s. refl); posts_own = (refl, refl, record { entry = create_on 2 0xa000; is_there = refl; region = refl; sqid = refl; cid = refl; status = refl; dw0 = refl; sqhd = refl; phase = refl }); fetches_submitted = tt; posts_on_free_slot = omega arith; posts_what_is_through = refl; posts_in_order = refl },
                      (
                        record { first = refl; executed = record { entry = create_on 2 0xa000; is_there = refl; picked = refl; whole = refl; finished = λ r. refl; status = refl; dw0 = refl } },
                        (
                          record { index_counts = tt; served_while_open = tt; observed = tt; effects_at_once = refl; deletes = (refl, λ s. refl); posts_own = (refl, refl, record { entry = create_on 0 0x9000; is_there = refl; region = refl; sqid = refl; cid = refl; status = refl; dw0 = refl; sqhd = refl; phase = refl }); fetches_submitted = tt; posts_on_free_slot = omega arith; posts_what_is_through = refl; posts_in_order = refl },
                          (
                            record { first = refl; executed = record { entry = create_on 0 0x9000; is_there = refl; picked = refl; whole = refl; finished = λ r. refl; status = refl; dw0 = refl } },
                            (
                              record { index_counts = tt; served_while_open = tt; observed = tt; effects_at_once = ([], refl); deletes = tt; posts_own = tt; fetches_submitted = tt; posts_on_free_slot = tt; posts_what_is_through = tt; posts_in_order = tt },
                              (
                                record { index_counts = tt; served_while_open = refl; observed = refl; effects_at_once = refl; deletes = refl; posts_own = tt; fetches_submitted = tt; posts_on_free_slot = tt; posts_what_is_through = tt; posts_in_order = tt },
                                (
                                  record { index_counts = tt; served_while_open = tt; observed = tt; effects_at_once = ([], refl); deletes = tt; posts_own = tt; fetches_submitted = tt; posts_on_free_slot = tt; posts_what_is_through = tt; posts_in_order = tt },
                                  (
                                    record { index_counts = tt; served_while_open = refl; observed = refl; effects_at_once = refl; deletes = refl; posts_own = tt; fetches_submitted = tt; posts_on_free_slot = tt; posts_what_is_through = tt; posts_in_order = tt },
                                    (
                                      record { index_counts = tt; served_while_open = tt; observed = tt; effects_at_once = ([], refl); deletes = tt; posts_own = tt; fetches_submitted = tt; posts_on_free_slot = tt; posts_what_is_through = tt; posts_in_order = tt },
                                      (
                                        record { index_counts = tt; served_while_open = refl; observed = refl; effects_at_once = refl; deletes = refl; posts_own = tt; fetches_submitted = tt; posts_on_free_slot = tt; posts_what_is_through = tt; posts_in_order = tt },
                                        (
                                          record { index_counts = tt; served_while_open = tt; observed = tt; effects_at_once = ([], refl); deletes = tt; posts_own = tt; fetches_submitted = tt; posts_on_free_slot = tt; posts_what_is_through = tt; posts_in_order = tt },
                                          (
                                            record { index_counts = tt; served_while_open = refl; observed = refl; effects_at_once = refl; deletes = refl; posts_own = tt; fetches_submitted = tt; posts_on_free_slot = tt; posts_what_is_through = tt; posts_in_order = tt },
                                            (
                                              record { index_counts = refl; served_while_open = (refl, refl); observed = tt; effects_at_once = refl; deletes = (refl, refl); posts_own = tt; fetches_submitted = omega arith; posts_on_free_slot = tt; posts_what_is_through = tt; posts_in_order = tt },
                                              (
                                                record { index_counts = refl; served_while_open = (refl, refl); observed = tt; effects_at_once = refl; deletes = (refl, refl); posts_own = tt; fetches_submitted = omega arith; posts_on_free_slot = tt; posts_what_is_through = tt; posts_in_order = tt },
                                                (
                                                  record { index_counts = refl; served_while_open = (refl, refl); observed = tt; effects_at_once = refl; deletes = (refl, refl); posts_own = tt; fetches_submitted = omega arith; posts_on_free_slot = tt; posts_what_is_through = tt; posts_in_order = tt },
                                                  (
                                                    record { index_counts = refl; served_while_open = (refl, refl); observed = tt; effects_at_once = refl; deletes = (refl, refl); posts_own = tt; fetches_submitted = omega arith; posts_on_free_slot = tt; posts_what_is_through = tt; posts_in_order = tt },
                                                    (
                                                      record { is_open = refl; is_slot = omega arith; fits = omega arith },
                                                      tt,
                                                    ),
                                                  ),
                                                ),
                                              ),
                                            ),
                                          ),
                                        ),
                                      ),
                                    ),
                                  ),
                                ),
                              ),
                            ),
                          ),
                        ),
                      ),
                    ),
                  ),
                ),
              ),
            ),
          ),
        ),
      ),
    ),
  ),
)

pub told_account : IsAccount two_rings read_told
unfolding effects_of queue_table status_of dw0_of verdict_of some_below
told_account = record { each = each_told; lawful = lawful_is_limited two_rings.mechanism two_rings.start.settings (arbitration_of (logged read_told)) (search rules); effects_whole = refl }

pub breaks : audit.verdict (start_of two_rings) (shown two_rings read_answered) (shows.Post 1 (Some 0) (completion_of (answer 1 0 1))) ≡ Broken rule.PostClosed
unfolding effects_of queue_table
breaks = refl

-- what turns no submission queue isn't what does
not_so : (command other : AdminCommand) (q : ℕ) → Some command ≡ Some other → turns_sq command q ≡ false → turns_sq other q ≡ true → ⊥
not_so command other q is leaves turns = let turned = ap (λ (x : AdminCommand). turns_sq x q) (same_Some command other is) ∙ turns in cc (turned, leaves)

-- no outstanding command turns a submission queue
none_turns : (a b c : Bool) (q : ℕ) (x : AdminCommand) → (if a then Some (CreateCq 1 63 0xa000 true) else (if b then Some (DeleteCq 1) else (if c then Some (CreateCq 1 63 0x9000 true) else None))) ≡ Some x → turns_sq x q ≡ true → ⊥
none_turns true b c q x is turns = not_so (CreateCq 1 63 0xa000 true) x q is refl turns
none_turns false true c q x is turns = not_so (DeleteCq 1) x q is refl turns
none_turns false false true q x is turns = not_so (CreateCq 1 63 0x9000 true) x q is refl turns
none_turns false false false q x is turns = cc is

pub told_duties : KeepsDuties (start_of two_rings) (shown two_rings read_told)
unfolding effects_of queue_table
told_duties = (
  tt,
  (
    (refl, λ z. cc z),
    (
      refl,
      (
        tt,
        (
          tt,
          (
            tt,
            (
              tt,
              (
                (refl, λ z cid other is q turned turns. none_turns (2 == cid) (1 == cid) (0 == cid) q other is turns),
                ((refl, λ z cid other is q turned turns. cc turned), ((refl, λ z cid other is q turned turns. cc turned), ((refl, λ z cid other is q turned turns. cc turned), (refl, tt)))),
              ),
            ),
          ),
        ),
      ),
    ),
  ),
)
