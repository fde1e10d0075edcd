-- Laws of what the accounts of a controller show.
use Rattle.std.specs.Prelude.{◌≡◌, None, is_some}
use Rattle.nvme_log.specs.Rules.{FrontRules}
use Rattle.nvme_ctrl_log.specs.Notes.{Notes}
use Rattle.nvme_log.specs.Laws.{StartsWithAdmin}
use Rattle.nvme_ctrl_log.specs.Making.{placing_in}
use Rattle.nvme_ctrl_log.specs.Account.{IsAccount}
use Rattle.nvme_audit.specs.declared.event.Event.{Event}
use Rattle.nvme_audit.specs.declared.event.Event.TheVariants.{Tail, Head, Fetch, Post}
use Rattle.nvme_audit.specs.declared.facts.Start.{Start}
use Rattle.nvme_audit.specs.declared.verdict.Verdict.TheVariants.{Kept}
use Rattle.nvme_audit.specs.Lives.{Past}
use Rattle.nvme_audit.specs.Facts.{sq_after, cq_after, outstanding}
use Rattle.nvme_audit.specs.Host.{tail_verdict, head_verdict}
use Rattle.nvme_audit.specs.Rules.{fetch_verdict, post_verdict}
use Rattle.nvme_own_log.specs.Shown.{start_of, shown, EachShown}
use Rattle.nvme_own_log.specs.Duties.{NamesAreFree, KeepsDuties, TurnsCqsAlone, KnowsHeads}

-- a fetch from the admin queue, and a completion of one of its commands, keep all rules of rings and of names
abbrev pub IsKeptByAdmin : Start → Past → Event → Type 0
IsKeptByAdmin start past (Fetch sq slot cid command) = sq ≡ 0 → fetch_verdict start.tells (sq_after start past sq) slot (is_some (outstanding past sq cid)) ≡ Kept
IsKeptByAdmin start past (Post cq slot completion) =
    completion.sq ≡ 0
    → post_verdict start.tells cq (cq_after start past cq) (sq_after start past completion.sq) (outstanding past completion.sq completion.cid) slot completion ≡ Kept
IsKeptByAdmin start past e = Unit {0}

-- so it is of what an account shows, where the host keeps names apart
abbrev pub AdminQueuesAreLawful : Type 0
AdminQueuesAreLawful = (rules : FrontRules) (notes : Notes) → IsAccount rules notes → NamesAreFree (shown rules notes) → EachShown (IsKeptByAdmin (start_of rules)) (shown rules notes)

-- a fetch from any queue keeps the rules of fetches: the queue is open, the tail doorbell announced the command, and its slot is the next
abbrev pub IsFetchKept : Start → Past → Event → Type 0
IsFetchKept start past (Fetch sq slot cid command) = fetch_verdict start.tells (sq_after start past sq) slot (is_some (outstanding past sq cid)) ≡ Kept
IsFetchKept start past e = Unit {0}

-- so it is of what an account shows, where queues lie on regions, at the start just the admin queues, and the host waits for completions
abbrev pub FetchesAreLawful : Type 0
FetchesAreLawful = (rules : FrontRules) (notes : Notes) → StartsWithAdmin rules → placing_in rules ≡ None → IsAccount rules notes → KeepsDuties (start_of rules) (shown rules notes)
    → EachShown (IsFetchKept (start_of rules)) (shown rules notes)

-- a completion of any queue keeps the rules of rings and of names: its completion queue is open, or a Create of it is outstanding; its slot is the next
-- and free, with the phase tag of its pass, where these are known; its queue is open and posts there, its command is outstanding, and its head is after it
abbrev pub IsPostKept : Start → Past → Event → Type 0
IsPostKept start past (Post cq slot completion) =
    post_verdict start.tells cq (cq_after start past cq) (sq_after start past completion.sq) (outstanding past completion.sq completion.cid) slot completion ≡ Kept
IsPostKept start past e = Unit {0}

-- so it is of what an account shows, where fetches are lawful so, and the host turns a completion queue too by one command at a time
abbrev pub CompletionsAreLawful : Type 0
CompletionsAreLawful = (rules : FrontRules) (notes : Notes) → StartsWithAdmin rules → placing_in rules ≡ None → IsAccount rules notes → KeepsDuties (start_of rules) (shown rules notes)
    → TurnsCqsAlone (shown rules notes) → EachShown (IsPostKept (start_of rules)) (shown rules notes)

-- a doorbell keeps the rules of the host: a tail is a slot, and there are fewer commands than slots; a head is a slot, no further on than the completions
abbrev pub IsDoorbellKept : Start → Past → Event → Type 0
IsDoorbellKept start past (Tail sq slot) = tail_verdict (sq_after start past sq) slot ≡ Kept
IsDoorbellKept start past (Head cq slot) = head_verdict (cq_after start past cq) slot ≡ Kept
IsDoorbellKept start past e = Unit {0}

-- so it is of those that an account shows, where completions are lawful so, and the host writes heads of completion queues that it was told of
abbrev pub DoorbellsAreLawful : Type 0
DoorbellsAreLawful = (rules : FrontRules) (notes : Notes) → StartsWithAdmin rules → placing_in rules ≡ None → IsAccount rules notes → KeepsDuties (start_of rules) (shown rules notes)
    → TurnsCqsAlone (shown rules notes) → KnowsHeads (start_of rules) (shown rules notes) → EachShown (IsDoorbellKept (start_of rules)) (shown rules notes)
