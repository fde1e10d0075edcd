-- What is said of the events of a log where a judge goes on after breaches of the controller. A breach lets the queues of its event go,
-- as one of the host ends the judgement of its queue: nothing is said of a queue from then on until it is created again. One at queue 0
-- lets all go, since no later Create is to be trusted. (profile)
use Rattle.std.specs.Prelude.{ℕ, ◌+◌, ◌==◌, ◌&&◌, ◌||◌, Bool, true, false, not, [], ◌∷◌, Option, Some, None, if◌then◌else◌}
use Rattle.nvme_entry.specs.declared.admin.AdminCommand.{AdminCommand}
use Rattle.nvme_entry.specs.declared.admin.AdminCommand.TheVariants.{Other}
use Rattle.nvme_audit.specs.declared.event.Event.{Event}
use Rattle.nvme_audit.specs.declared.event.Event.TheVariants.{Tail, Head, Fetch, Post}
use Rattle.nvme_audit.specs.declared.facts.Start.{Start}
use Rattle.nvme_audit.specs.declared.scene.Scene.{Scene}
use Rattle.nvme_audit.specs.declared.scene.Scene.TheVariants.{Unjudged}
use Rattle.nvme_audit.specs.declared.verdict.Verdict.{Verdict}
use Rattle.nvme_audit.specs.declared.verdict.Verdict.TheVariants.{Kept, Host, Broken}
use Rattle.nvme_audit.specs.declared.verdict.Rule.{Rule}
use Rattle.nvme_audit.specs.declared.verdict.Rule.TheVariants as rule
use Rattle.nvme_audit.specs.Lives.{Past, turns_sq, done}
use Rattle.nvme_audit.specs.Queues.{turns_cq}
use Rattle.nvme_audit.specs.Turns.{answered, sq_named, cq_named}
use Rattle.nvme_audit.specs.Lawful.{verdict}
use Rattle.nvme_audit.specs.Coverage.{scene_of, scene_asks}
use Rattle.nvme_audit.specs.Laws.{one_if}

-- ---- breaches
-- a rule of rings, or of the order of events: after a breach nobody knows where the queues of the event stand. The others are of a
-- status alone, and change nothing for what follows
abbrev pub is_of_order : Rule → Bool
is_of_order rule.FetchClosed = true
is_of_order rule.FetchBeyondTail = true
is_of_order rule.FetchSlot = true
is_of_order rule.PostClosed = true
is_of_order rule.Slot = true
is_of_order rule.Phase = true
is_of_order rule.CqFull = true
is_of_order rule.CqWrong = true
is_of_order rule.Life = true
is_of_order rule.Sqhd = true
is_of_order rule.SqdelUnasked = false
is_of_order rule.AbortUnasked = false
is_of_order rule.AbortUntrue = false
is_of_order rule.StatusForeign = false
is_of_order rule.StatusCreate = false
is_of_order rule.StatusDelete = false
is_of_order rule.Features = false

abbrev pub lets_go : Verdict → Bool
lets_go Kept = false
lets_go (Host breach) = false
lets_go (Broken broken) = is_of_order broken

-- ---- the queues of an event
-- the submission queue and the completion queue that it names
abbrev pub sq_in : Event → Option ℕ
sq_in (Tail sq slot) = Some sq
sq_in (Head cq slot) = None
sq_in (Fetch sq slot cid command) = Some sq
sq_in (Post cq slot completion) = Some completion.sq

abbrev pub cq_in : Event → Option ℕ
cq_in (Tail sq slot) = None
cq_in (Head cq slot) = Some cq
cq_in (Fetch sq slot cid command) = None
cq_in (Post cq slot completion) = Some cq

-- the admin command that it answers, and the one that it carries to its end
abbrev pub answered_at : Past → Event → AdminCommand
answered_at past (Tail sq slot) = Other
answered_at past (Head cq slot) = Other
answered_at past (Fetch sq slot cid command) = Other
answered_at past (Post cq slot completion) = answered past completion

abbrev pub done_at : Past → Event → AdminCommand
done_at past (Tail sq slot) = Other
done_at past (Head cq slot) = Other
done_at past (Fetch sq slot cid command) = Other
done_at past (Post cq slot completion) = done past completion

-- ---- queues that are let go
-- a submission queue, a completion queue, or all of both
pub data Queue : Type 0 where
  All : Queue
  SQ : ℕ → Queue
  CQ : ℕ → Queue

abbrev pub is : Option ℕ → ℕ → Bool
is None q = false
is (Some named) q = named == q

-- an event names it, and all of them by queue 0
abbrev pub is_of : Event → Queue → Bool
is_of event All = is (sq_in event) 0 || is (cq_in event) 0
is_of event (SQ q) = is (sq_in event) q
is_of event (CQ q) = is (cq_in event) q

-- a command with success opens or closes it
abbrev pub turns : AdminCommand → Queue → Bool
turns command All = false
turns command (SQ q) = turns_sq command q
turns command (CQ q) = turns_cq command q

-- a queue that the event names is among those that are gone, or one that the admin command names which it answers
abbrev pub is_gone : (ℕ → Bool) → Option ℕ → Bool
is_gone gone None = false
is_gone gone (Some q) = gone q

abbrev pub is_among : (Queue → Bool) → AdminCommand → Event → Bool
is_among gone command event =
    gone All
    || is_gone (λ q. gone (SQ q)) (sq_in event)
    || is_gone (λ q. gone (CQ q)) (cq_in event)
    || gone (SQ (sq_named command))
    || gone (CQ (cq_named command))

-- a verdict, but where its event is passed over
abbrev pub unless : Bool → Verdict → Verdict
unless passed Kept = Kept
unless passed (Host breach) = if passed then Kept else Host breach
unless passed (Broken broken) = if passed then Kept else Broken broken

abbrev pub said_by : (Queue → Bool) → Start → Past → Event → Verdict
said_by gone start past event = unless (is_among gone (answered_at past event) event) (verdict start past event)

-- a breach of order that was told let it go, and it was neither opened nor closed since
abbrev pub is_let_go : Start → Past → Queue → Bool
is_let_go start [] queue = false
is_let_go start (event ∷ past) queue =
    not (turns (done_at past event) queue) && ((is_of event queue && lets_go (said_by (λ other. is_let_go start past other) start past event)) || is_let_go start past queue)

-- ---- what is said
-- a queue of the event was let go before
abbrev pub is_passed_over : Start → Past → Event → Bool
is_passed_over start past event = is_among (λ queue. is_let_go start past queue) (answered_at past event) event

-- nothing of queues that were let go, and otherwise what the log says
abbrev pub said : Start → Past → Event → Verdict
said start past event = said_by (λ queue. is_let_go start past queue) start past event

-- of an event that is passed over no rule asks anything
abbrev pub scene_said : Start → Past → Event → Scene
scene_said start past event = if is_passed_over start past event then Unjudged else scene_of start past event

-- of how many events of a log a rule asks something
abbrev pub times_said : Start → Past → Rule → ℕ
times_said start [] r = 0
times_said start (event ∷ past) r = times_said start past r + one_if (scene_asks (scene_said start past event) r)
