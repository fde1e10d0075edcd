use Rattle.std.proofs.Common.{◌≡◌, ℕ, List, [], map, refl, sym, ap, ◌∙◌, subst}
use Rattle.nvme_entry.specs.AdminCommand.{admin_command_of}
use Rattle.nvme_entry.specs.declared.admin.AdminCommand.{AdminCommand}
use Rattle.nvme_entry.specs.declared.admin.AdminCommand.TheVariants as command
use Rattle.nvme_log.specs.Queues.{admin_queue}
use Rattle.nvme_log.specs.declared.event.Event.TheVariants.{Abort}
use Rattle.nvme_ctrl_log.specs.Notes.{logged}
use Rattle.nvme_engine.specs.Making.{IsEnding}
use Rattle.nvme_engine.specs.declared.admin.Ending.TheVariants.{Nothing, Dropped}
use Rattle.nvme_engine.proofs.NextPicks.{stands_with}
use Rattle.nvme_engine.proofs.Endings.{admin_opened, oldest_entry, some_waits, others_end_none}
use Rattle.nvme_engine.proofs.engine.Engine.ending.Goals as goal

pub returns-in_default : goal.returns-in_default
returns-in_default c rules late notes index entry s oldest is =
    let self = c.args.self.now in
    let stands = stands_with rules late notes [] self s c.as_slice.result.now c.as_slice.ensures.value in
    absurd (some_waits rules late notes [] self s index oldest
    (c.in_default.ensures.none s.their s.their_late notes stands refl admin_queue (admin_opened rules late notes [] self s index oldest)))

pub returns-in-DeleteSq : goal.returns-in-DeleteSq
returns-in-DeleteSq c rules late notes index entry s oldest is =
    let self = c.args.self.now in
    let stands = stands_with rules late notes [] self s c.as_slice.result.now c.as_slice.ensures.value in
    let other = c.in-Some.command.entry in
    let same = oldest_entry rules late notes [] self s index entry other c.in-Some.command.cookie oldest is (c.in-Some.ensures.some s.their s.their_late notes stands) in
    let command_is : admin_command_of entry ≡ command.DeleteSq c.in-DeleteSq.qid = ap admin_command_of (sym same) ∙ sym c.admin_of.ensures ∙ c.in-DeleteSq.is in
    subst (λ (x : AdminCommand). IsEnding (logged notes) x (Dropped c.waiting_in.result)) (sym command_is)
    (λ queue opened. ap (λ (xs : List ℕ). map (λ (i : ℕ). Abort queue.region i) xs) (c.waiting_in.ensures rules late notes s queue opened))

pub returns-in-Abort : goal.returns-in-Abort
returns-in-Abort c rules late notes index entry s oldest is =
    let self = c.args.self.now in
    let stands = stands_with rules late notes [] self s c.as_slice.result.now c.as_slice.ensures.value in
    let other = c.in-Some.command.entry in
    let same = oldest_entry rules late notes [] self s index entry other c.in-Some.command.cookie oldest is (c.in-Some.ensures.some s.their s.their_late notes stands) in
    let command_is : admin_command_of entry ≡ command.Abort c.in-Abort.sqid c.in-Abort.cid = ap admin_command_of (sym same) ∙ sym c.admin_of.ensures ∙ c.in-Abort.is in
    subst (λ (x : AdminCommand). IsEnding (logged notes) x c.aborted_by.result) (sym command_is) (c.aborted_by.ensures rules late notes s)

pub returns-in_default-admin_of : goal.returns-in_default-admin_of
returns-in_default-admin_of c rules late notes index entry s oldest is =
    let self = c.args.self.now in
    let stands = stands_with rules late notes [] self s c.as_slice.result.now c.as_slice.ensures.value in
    let other = c.in-Some.command.entry in
    let same = oldest_entry rules late notes [] self s index entry other c.in-Some.command.cookie oldest is (c.in-Some.ensures.some s.their s.their_late notes stands) in
    subst (λ (x : AdminCommand). IsEnding (logged notes) x Nothing) (c.admin_of.ensures ∙ ap admin_command_of same)
    (others_end_none (logged notes) c.admin_of.result (λ qid e. c.in_default-admin_of.not-DeleteSq qid e) (λ sqid cid e. c.in_default-admin_of.not-Abort sqid cid e))
