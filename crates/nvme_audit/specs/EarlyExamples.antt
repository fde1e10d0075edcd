-- Worked: queues that are used before the host is told of their Create, and what ends the judgement of one queue or of all.
-- (Base Specification, Create I/O Submission Queue, Create I/O Completion Queue, Command Identifier)
use Rattle.std.specs.Prelude.{ℕ, true, false, List, [], ◌∷◌, Some}
use Rattle.nvme_entry.specs.declared.admin.AdminCommand.TheVariants.{DeleteSq, CreateSq, DeleteCq, CreateCq, Other}
use Rattle.nvme_audit.specs.declared.event.Event.{Event}
use Rattle.nvme_audit.specs.declared.event.Event.TheVariants.{Tail, Head, Fetch}
use Rattle.nvme_audit.specs.declared.verdict.Verdict.TheVariants.{Kept, Host, Broken}
use Rattle.nvme_audit.specs.declared.verdict.Breach.TheVariants as breach
use Rattle.nvme_audit.specs.declared.verdict.Rule.TheVariants as rule
use Rattle.nvme_audit.specs.Lives.{Past}
use Rattle.nvme_audit.specs.Examples.{answer, fetch, made, taken, Case, after}
use Rattle.nvme_audit.specs.CoverageExamples.{Question, question}

abbrev create_sq : (slot cid : ℕ) → Event
create_sq slot cid = Fetch 0 (Some slot) cid (CreateSq 1 2 0 1 0 true)

abbrev create_cq : (slot cid : ℕ) → Event
create_cq slot cid = Fetch 0 (Some slot) cid (CreateCq 1 1 0 true)

-- completion queue 1 is there
abbrev cq_made : Past
cq_made = Head 0 1 ∷ answer 0 0 0 10 1 true ∷ create_cq 0 10 ∷ Tail 0 1 ∷ []

-- ---- doorbells that are rung too early
-- the host rings for submission queue 1 before it is told that this is there; the controller may look at it at once
abbrev early_tail : Past
early_tail = answer 0 1 0 11 2 true ∷ Tail 1 2 ∷ create_sq 1 11 ∷ Tail 0 2 ∷ cq_made

-- before the Create no controller does
abbrev stray_tail : Past
stray_tail = answer 0 1 0 11 2 true ∷ create_sq 1 11 ∷ Tail 1 2 ∷ Tail 0 2 ∷ cq_made

-- it does where another Create was fetched before
abbrev tail_between : Past
tail_between = answer 0 1 0 11 3 true ∷ create_sq 2 12 ∷ Tail 1 2 ∷ create_sq 1 11 ∷ Tail 0 3 ∷ cq_made

-- a tail that is no slot ends the judgement of the queue until this is created anew
abbrev broken_tail : Past
broken_tail = Tail 1 3 ∷ made

abbrev closed_after : Past
closed_after = answer 0 2 0 12 3 true ∷ Fetch 0 (Some 2) 12 (DeleteSq 1) ∷ Tail 0 3 ∷ broken_tail

abbrev pub early_tails : List Case
early_tails =
    after (create_sq 1 11 ∷ Tail 0 2 ∷ cq_made) (Tail 1 2) (Host breach.TailRange)
    ∷ after early_tail (fetch 1 0 7) Kept
    ∷ after (fetch 1 0 7 ∷ early_tail) (answer 1 0 1 9 1 true) Kept
    ∷ after stray_tail (fetch 1 0 7) (Broken rule.FetchBeyondTail)
    ∷ after tail_between (fetch 1 0 7) Kept
    ∷ after broken_tail (fetch 1 0 7) Kept
    ∷ after (create_sq 2 12 ∷ Tail 0 3 ∷ broken_tail) (fetch 1 0 7) Kept
    ∷ after closed_after (fetch 1 0 7) Kept
    ∷ after (create_sq 3 13 ∷ Tail 0 0 ∷ closed_after) (fetch 1 0 7) (Broken rule.FetchClosed)
    ∷ after (answer 0 3 0 13 0 true ∷ create_sq 3 13 ∷ Tail 0 0 ∷ closed_after) (fetch 1 0 7) (Broken rule.FetchBeyondTail)
    ∷ []

-- commands 7 and 8 of a queue on completion queue 1 are outstanding
abbrev taken_after : Past → Past
taken_after past = fetch 1 1 8 ∷ fetch 1 0 7 ∷ Tail 1 2 ∷ answer 0 1 0 11 2 true ∷ create_sq 1 11 ∷ Tail 0 2 ∷ past

-- of completion queue 1 the head
abbrev early_head : Past
early_head = answer 0 0 0 10 1 true ∷ Head 1 1 ∷ create_cq 0 10 ∷ Tail 0 1 ∷ []

abbrev stray_head : Past
stray_head = answer 0 0 0 10 1 true ∷ create_cq 0 10 ∷ Head 1 1 ∷ Tail 0 1 ∷ []

abbrev head_between : Past
head_between = answer 0 0 0 10 2 true ∷ create_cq 1 12 ∷ Head 1 1 ∷ create_cq 0 10 ∷ Tail 0 2 ∷ []

abbrev pub early_heads : List Case
early_heads =
    after (create_cq 0 10 ∷ Tail 0 1 ∷ []) (Head 1 1) (Host breach.HeadRange)
    ∷ after (taken_after early_head) (answer 1 1 1 8 2 true) Kept
    ∷ after (taken_after stray_head) (answer 1 1 1 8 2 true) (Broken rule.Slot)
    ∷ after (taken_after head_between) (answer 1 1 1 8 2 true) Kept
    ∷ after (create_cq 2 12 ∷ Head 1 1 ∷ taken_after cq_made) (answer 1 1 1 8 2 true) Kept
    ∷ []

-- ---- completions in a queue that may be open
-- both Creates are outstanding, and that of the submission queue is answered first
abbrev crossed : Past
crossed = fetch 1 1 8 ∷ fetch 1 0 7 ∷ Tail 1 2 ∷ answer 0 0 0 11 2 true ∷ create_sq 1 11 ∷ create_cq 0 10 ∷ Tail 0 2 ∷ []

-- command 8 is answered before the Create of its completion queue is
abbrev pub early : Past
early = answer 0 1 0 10 2 true ∷ answer 1 0 1 8 2 true ∷ crossed

-- completion queue 1 is there anew
abbrev early_anew : Past
early_anew = answer 0 1 0 14 0 true ∷ create_cq 0 14 ∷ answer 0 0 0 13 0 true ∷ Fetch 0 (Some 3) 13 (DeleteCq 1) ∷ early

-- which slot comes next isn't known then, but which commands are outstanding
abbrev pub early_completions : List Case
early_completions =
    after crossed (answer 1 0 1 8 2 true) Kept
    ∷ after crossed (answer 2 0 1 8 2 true) (Broken rule.PostClosed)
    ∷ after early (answer 1 1 1 7 2 true) Kept
    ∷ after early (answer 1 0 1 7 2 true) Kept
    ∷ after early (answer 1 1 1 8 2 true) (Broken rule.Life)
    ∷ after early (Head 1 1) Kept
    ∷ after early (Head 1 2) (Host breach.HeadRange)
    ∷ after (answer 0 1 0 10 2 true ∷ crossed) (answer 1 1 1 8 2 true) (Broken rule.Slot)
    ∷ after (answer 1 0 1 8 2 true ∷ taken) (answer 1 0 1 7 2 true) (Broken rule.Slot)
    ∷ after early_anew (answer 1 1 1 7 2 true) (Broken rule.Slot)
    ∷ after (answer 2 0 1 8 2 true ∷ Fetch 0 (Some 2) 12 (CreateCq 2 1 0 true) ∷ Tail 0 3 ∷ taken) (answer 1 1 1 7 2 true) (Broken rule.Slot)
    ∷ after (answer 1 0 1 8 2 true ∷ Fetch 0 (Some 2) 12 (DeleteCq 1) ∷ Tail 0 3 ∷ taken) (answer 1 0 1 7 2 true) (Broken rule.Slot)
    ∷ []

abbrev cq_deleted : Past
cq_deleted = answer 0 0 0 13 0 true ∷ Fetch 0 (Some 3) 13 (DeleteCq 1) ∷ taken

-- a host may read a completion queue that it deleted
abbrev pub late_queues : List Case
late_queues =
    after cq_deleted (answer 1 0 1 7 2 true) Kept
    ∷ after (answer 0 1 0 14 0 true ∷ create_cq 0 14 ∷ answer 1 0 1 7 2 true ∷ cq_deleted) (answer 1 1 1 8 2 true) (Broken rule.Slot)
    ∷ after taken (answer 2 0 1 7 2 true) (Broken rule.CqWrong)
    ∷ []

-- ---- identifiers
-- the host uses identifier 12 of the admin queue for two commands at once: nobody knows whether queue 1 is open
abbrev pub lost : Past
lost = Fetch 0 (Some 3) 12 Other ∷ Fetch 0 (Some 2) 12 (DeleteSq 1) ∷ Tail 0 0 ∷ taken

abbrev pub lost_queues : List Case
lost_queues =
    after (Fetch 0 (Some 2) 12 (DeleteSq 1) ∷ Tail 0 0 ∷ taken) (Fetch 0 (Some 3) 12 Other) (Host breach.CidReused)
    ∷ after lost (answer 3 0 1 7 2 true) Kept
    ∷ after lost (fetch 3 0 7) Kept
    ∷ after lost (Tail 3 0) Kept
    ∷ after (Head 0 0 ∷ Tail 0 1 ∷ answer 0 3 0 12 0 true ∷ lost) (fetch 3 0 7) Kept
    ∷ after (fetch 1 2 8 ∷ taken) (fetch 3 0 7) (Broken rule.FetchClosed)
    ∷ []

-- ---- what is asked then
abbrev pub of_early_queues : List Question
of_early_queues =
    question rule.Slot early (answer 1 1 1 7 2 true) false
    ∷ question rule.Phase early (answer 1 1 1 7 2 true) false
    ∷ question rule.CqFull early (answer 1 1 1 7 2 true) false
    ∷ question rule.Life early (answer 1 1 1 7 2 true) true
    ∷ question rule.FetchClosed lost (fetch 3 0 7) false
    ∷ question rule.PostClosed lost (answer 3 0 1 7 2 true) false
    ∷ []
