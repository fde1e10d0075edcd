-- The worked log of a Delete that is refused.
use Rattle.std.proofs.Common.{◌≡◌, ℕ, ◌==◌, Bool, true, false, if◌then◌else◌, [], Some, None, refl, subst, arith, rules, inl, inr}
use Rattle.std.proofs.lemmas.Bool.{cases_Bool}
use Rattle.std.proofs.lemmas.Option.{none-some, same_Some}
use Rattle.nvme_entry.specs.Status.{success}
use Rattle.nvme_entry.specs.declared.admin.AdminCommand.{AdminCommand}
use Rattle.nvme_arbiter.proofs.PickLaws.{lawful_is_limited}
use Rattle.nvme_admin.specs.Accepted.{effects_of, queue_table, status_of, dw0_of, verdict_of}
use Rattle.nvme_admin.specs.Checks.{some_below}
use Rattle.nvme_log.specs.Examples.{one_deletion, create_cq, create_sq, read}
use Rattle.nvme_log.specs.Histories.{arbitration_of}
use Rattle.nvme_log.specs.Laws.{StartsWithAdmin}
use Rattle.nvme_ctrl_log.specs.Notes.{EachNote, logged}
use Rattle.nvme_ctrl_log.specs.Account.{IsLawful, IsAccount}
use Rattle.nvme_ctrl_log.specs.Making.{placing_in}
use Rattle.nvme_audit.specs.Lawful as audit
use Rattle.nvme_audit.specs.declared.verdict.Verdict.TheVariants.{Broken}
use Rattle.nvme_audit.specs.declared.verdict.Rule.TheVariants as rule
use Rattle.nvme_audit.specs.declared.event.Event.TheVariants as shows
use Rattle.nvme_own_log.specs.Shown.{completion_of, shown, start_of}
use Rattle.nvme_own_log.specs.Duties.{KeepsDuties, TurnsCqsAlone, KnowsHeads}
use Rattle.nvme_own_statuses.specs.Statuses.{IsAnswerKept, DeviceKeeps, DeviceTakesOwn}
use Rattle.nvme_own_statuses.specs.Examples.{answer, delete_cq, read_done, refused, refused_told}

each_refused : EachNote (IsLawful one_deletion) refused_told
unfolding effects_of queue_table status_of dw0_of verdict_of some_below
each_refused = (record { index_counts = tt; served_while_open = tt; observed = tt; effects_at_once = refl; deletes = (refl, λ s. refl); posts_own = (refl, refl, record { entry = delete_cq; is_there = refl; region = refl; sqid = refl; cid = refl; status = refl; dw0 = refl; sqhd = refl; phase = refl }); fetches_submitted = tt; posts_on_free_slot = omega arith; posts_what_is_through = refl; posts_in_order = refl }, (record { first = refl; executed = record { entry = delete_cq; is_there = refl; picked = refl; whole = refl; finished = λ r. refl; status = refl; dw0 = refl } }, (record { index_counts = tt; served_while_open = refl; observed = refl; effects_at_once = refl; deletes = refl; posts_own = tt; fetches_submitted = tt; posts_on_free_slot = tt; posts_what_is_through = tt; posts_in_order = tt }, (record { index_counts = refl; served_while_open = (refl, refl); observed = tt; effects_at_once = refl; deletes = (refl, refl); posts_own = tt; fetches_submitted = omega arith; posts_on_free_slot = tt; posts_what_is_through = tt; posts_in_order = tt }, (record { is_open = refl; is_slot = omega arith; fits = omega arith }, (record { is_open = refl; is_slot = omega arith; posted = omega arith }, (record { index_counts = tt; served_while_open = tt; observed = tt; effects_at_once = refl; deletes = (refl, λ s. refl); posts_own = (refl, refl, record { entry = read 0; is_there = refl; region = refl; sqid = refl; cid = refl; status = refl; dw0 = refl; sqhd = refl; phase = refl }); fetches_submitted = tt; posts_on_free_slot = omega arith; posts_what_is_through = refl; posts_in_order = refl }, (record { first = refl; executed = record { tag = 7; stands = refl } }, (record { next = refl; free = refl }, (record { index_counts = tt; served_while_open = refl; observed = refl; effects_at_once = refl; deletes = refl; posts_own = tt; fetches_submitted = tt; posts_on_free_slot = tt; posts_what_is_through = tt; posts_in_order = tt }, (record { index_counts = refl; served_while_open = (refl, refl); observed = tt; effects_at_once = refl; deletes = (refl, refl); posts_own = tt; fetches_submitted = omega arith; posts_on_free_slot = tt; posts_what_is_through = tt; posts_in_order = tt }, (record { is_open = refl; is_slot = omega arith; fits = omega arith }, (record { index_counts = tt; served_while_open = tt; observed = tt; effects_at_once = refl; deletes = (refl, λ s. refl); posts_own = (refl, refl, record { entry = create_sq; is_there = refl; region = refl; sqid = refl; cid = refl; status = refl; dw0 = refl; sqhd = refl; phase = refl }); fetches_submitted = tt; posts_on_free_slot = omega arith; posts_what_is_through = refl; posts_in_order = refl }, (record { first = refl; executed = record { entry = create_sq; is_there = refl; picked = refl; whole = refl; finished = λ r. refl; status = refl; dw0 = refl } }, (record { index_counts = tt; served_while_open = tt; observed = tt; effects_at_once = ([], refl); deletes = tt; posts_own = tt; fetches_submitted = tt; posts_on_free_slot = tt; posts_what_is_through = tt; posts_in_order = tt }, (record { index_counts = tt; served_while_open = refl; observed = refl; effects_at_once = refl; deletes = refl; posts_own = tt; fetches_submitted = tt; posts_on_free_slot = tt; posts_what_is_through = tt; posts_in_order = tt }, (record { index_counts = refl; served_while_open = (refl, refl); observed = tt; effects_at_once = refl; deletes = (refl, refl); posts_own = tt; fetches_submitted = omega arith; posts_on_free_slot = tt; posts_what_is_through = tt; posts_in_order = tt }, (record { is_open = refl; is_slot = omega arith; fits = omega arith }, (record { index_counts = tt; served_while_open = tt; observed = tt; effects_at_once = refl; deletes = (refl, λ s. refl); posts_own = (refl, refl, record { entry = create_cq; is_there = refl; region = refl; sqid = refl; cid = refl; status = refl; dw0 = refl; sqhd = refl; phase = refl }); fetches_submitted = tt; posts_on_free_slot = omega arith; posts_what_is_through = refl; posts_in_order = refl }, (record { first = refl; executed = record { entry = create_cq; is_there = refl; picked = refl; whole = refl; finished = λ r. refl; status = refl; dw0 = refl } }, (record { index_counts = tt; served_while_open = tt; observed = tt; effects_at_once = ([], refl); deletes = tt; posts_own = tt; fetches_submitted = tt; posts_on_free_slot = tt; posts_what_is_through = tt; posts_in_order = tt }, (record { index_counts = tt; served_while_open = refl; observed = refl; effects_at_once = refl; deletes = refl; posts_own = tt; fetches_submitted = tt; posts_on_free_slot = tt; posts_what_is_through = tt; posts_in_order = tt }, (record { index_counts = refl; served_while_open = (refl, refl); observed = tt; effects_at_once = refl; deletes = (refl, refl); posts_own = tt; fetches_submitted = omega arith; posts_on_free_slot = tt; posts_what_is_through = tt; posts_in_order = tt }, (record { is_open = refl; is_slot = omega arith; fits = omega arith }, tt))))))))))))))))))))))))

pub refused_account : IsAccount one_deletion refused_told
unfolding effects_of queue_table status_of dw0_of verdict_of some_below
refused_account = record { each = each_refused; lawful = lawful_is_limited one_deletion.mechanism one_deletion.start.settings (arbitration_of (logged refused_told)) (search rules); effects_whole = refl }

pub starts_with_admin : StartsWithAdmin one_deletion
unfolding effects_of queue_table
starts_with_admin = record { sq = λ q. elim (cases_Bool (q == 0)) [ inl e ↦ rw e refl | inr e ↦ rw e refl ]; cq = λ q. elim (cases_Bool (q == 0)) [ inl e ↦ rw e refl | inr e ↦ rw e refl ] }

pub by_regions : placing_in one_deletion ≡ None
unfolding effects_of queue_table
by_regions = refl

-- ---- the host
none_left : (b : Bool) (x other : AdminCommand) → (if b then None else (if b then Some x else None)) ≡ Some other → ⊥
none_left true x other is = none-some other is
none_left false x other is = none-some other is

none_out : (a b : Bool) (x y other : AdminCommand) → (if a then None else (if a then Some x else (if b then None else (if b then Some y else None)))) ≡ Some other → ⊥
none_out true b x y other is = none-some other is
none_out false b x y other is = none_left b y other is

pub refused_duties : KeepsDuties (start_of one_deletion) (shown one_deletion refused_told)
unfolding effects_of queue_table
refused_duties = (tt, ((refl, λ z cid other is q turned turns. cc turned), (refl, (tt, (tt, ((refl, λ z cid other is q turned turns. cc z), (refl, (tt, ((refl, λ z cid other is q turned turns. none_left (0 == cid) _ other is), (refl, (tt, ((refl, λ z cid other is q turned turns. cc turned), (refl, tt)))))))))))))

pub refused_alone : TurnsCqsAlone (shown one_deletion refused_told)
unfolding effects_of queue_table
refused_alone = (tt, (λ z name other is q turned turns. none_out (1 == name) (0 == name) _ _ other is, (tt, (tt, (tt, (λ z name other is q turned turns. cc z, (tt, (tt, (λ z name other is q turned turns. cc turned, (tt, (tt, (λ z name other is q turned turns. cc is, (tt, tt)))))))))))))

pub refused_heads : KnowsHeads (start_of one_deletion) (shown one_deletion refused_told)
unfolding effects_of queue_table
refused_heads = (tt, (tt, (tt, ((refl, refl), (tt, (tt, (tt, (tt, (tt, (tt, (tt, (tt, (tt, tt)))))))))))))

-- ---- the device
pub refused_own : DeviceTakesOwn refused_told
refused_own = (λ z passed entry sqid cid at is success says. absurd (cc passed), (tt, (tt, (tt, (tt, (tt, (λ z passed entry sqid cid at is success says. absurd (cc z), (tt, (tt, (tt, (tt, (tt, (λ z passed entry sqid cid at is success says. absurd (cc passed), (tt, (tt, (tt, (tt, (tt, (λ z passed entry sqid cid at is success says. absurd (cc passed), (tt, (tt, (tt, (tt, (tt, tt))))))))))))))))))))))))

pub refused_kept : DeviceKeeps one_deletion (IsAnswerKept (start_of one_deletion)) refused_told
unfolding effects_of queue_table
refused_kept = (λ g q is. absurd (cc g), (tt, (tt, (tt, (tt, (tt, (λ g q is. subst (λ (k : ℕ). IsAnswerKept (start_of one_deletion) (shown one_deletion read_done) k (completion_of (answer 1 0 1 success))) (same_Some 1 q is) refl, (tt, (tt, (tt, (tt, (tt, (λ g q is. absurd (cc g), (tt, (tt, (tt, (tt, (tt, (λ g q is. absurd (cc g), (tt, (tt, (tt, (tt, (tt, tt))))))))))))))))))))))))

-- ---- what the judge says
pub success_breaks : audit.verdict (start_of one_deletion) (shown one_deletion refused) (shows.Post 0 (Some 2) (completion_of (answer 0 2 3 success))) ≡ Broken rule.StatusDelete
unfolding effects_of queue_table
success_breaks = refl
