-- Worked examples, for which the definitions compute: each rule kept and broken.
-- (Base Specification, the sections that the definitions name)
use Rattle.std.specs.Prelude.{◌≡◌, ℕ, Bool, true, false, List, [], ◌∷◌, map, Some, None}
use Rattle.nvme_entry.specs.Status.{success}
use Rattle.nvme_entry.specs.declared.admin.AdminCommand.TheVariants.{DeleteSq, CreateSq, CreateCq, Other}
use Rattle.nvme_audit.specs.declared.event.Event.{Event}
use Rattle.nvme_audit.specs.declared.event.Event.TheVariants.{Tail, Head, Fetch, Post}
use Rattle.nvme_audit.specs.declared.facts.Start.{Start}
use Rattle.nvme_audit.specs.declared.verdict.Verdict.{Verdict}
use Rattle.nvme_audit.specs.declared.verdict.Verdict.TheVariants.{Kept, Host, Broken}
use Rattle.nvme_audit.specs.declared.verdict.Breach.TheVariants as breach
use Rattle.nvme_audit.specs.declared.verdict.Rule.TheVariants as rule
use Rattle.nvme_audit.specs.Lives.{Past}
use Rattle.nvme_audit.specs.Lawful.{verdict}

-- admin queues of 4 slots. All is told; or completions are told where the host reads them
abbrev pub on_the_bus : Start
on_the_bus = record { tells = record { tails = true; heads = true; posts = true }; asqs = 3; acqs = 3 }

abbrev pub as_read : Start
as_read = record { tells = record { tails = true; heads = true; posts = false }; asqs = 3; acqs = 3 }

-- a completion with success, in a slot of completion queue cq
abbrev pub answer : (cq slot sq cid sqhd : ℕ) → Bool → Event
answer cq slot sq cid sqhd phase = Post cq (Some slot) (record { sq = sq; cid = cid; sqhd = Some sqhd; phase = Some phase; status = success; dw0 = None })

-- an I/O command
abbrev pub fetch : (sq slot cid : ℕ) → Event
fetch sq slot cid = Fetch sq (Some slot) cid Other

-- completion queue 1 of 2 slots, and submission queue 1 of 3
abbrev pub made : Past
made =
    Head 0 2
    ∷ answer 0 1 0 11 2 true
    ∷ Fetch 0 (Some 1) 11 (CreateSq 1 2 0 1 0 true)
    ∷ Tail 0 2
    ∷ Head 0 1
    ∷ answer 0 0 0 10 1 true
    ∷ Fetch 0 (Some 0) 10 (CreateCq 1 1 0 true)
    ∷ Tail 0 1
    ∷ []

-- commands 7 and 8 of queue 1 are outstanding
abbrev pub taken : Past
taken = fetch 1 1 8 ∷ fetch 1 0 7 ∷ Tail 1 2 ∷ made

-- 8 is answered, which fills the completion queue
abbrev pub full : Past
full = answer 1 0 1 8 2 true ∷ taken

-- queue 1 is deleted with command 7
abbrev pub deleted : Past
deleted = answer 0 2 0 12 3 true ∷ Fetch 0 (Some 2) 12 (DeleteSq 1) ∷ Tail 0 3 ∷ Head 1 1 ∷ full

-- queue 1 is there anew
abbrev pub made_anew : Past
made_anew = answer 0 3 0 13 0 true ∷ Fetch 0 (Some 3) 13 (CreateSq 1 2 0 1 0 true) ∷ Tail 0 0 ∷ Head 0 3 ∷ deleted

pub record Case : Type 0 where
  pub past : Past
  pub event : Event
  pub verdict : Verdict

abbrev pub after : Past → Event → Verdict → Case
after past event verdict = record { past = past; event = event; verdict = verdict }

abbrev pub AreJudged : Start → List Case → Type 0
AreJudged start cases = map {A = Case} {B = Verdict} (λ c. verdict start c.past c.event) cases ≡ map {A = Case} {B = Verdict} (λ c. c.verdict) cases

abbrev pub doorbells : List Case
doorbells =
    after made (Tail 1 2) Kept
    ∷ after made (Tail 1 3) (Host breach.TailRange)
    ∷ after made (Tail 2 0) (Host breach.TailRange)
    ∷ after (Tail 1 2 ∷ made) (Tail 1 0) (Host breach.TailFull)
    ∷ after (fetch 1 0 7 ∷ Tail 1 2 ∷ made) (Tail 1 0) Kept
    ∷ after full (Head 1 1) Kept
    ∷ after full (Head 1 2) (Host breach.HeadRange)
    ∷ after taken (Head 1 1) (Host breach.HeadRange)
    ∷ after taken (Head 2 0) (Host breach.HeadRange)
    ∷ []

abbrev pub fetches : List Case
fetches =
    after made (fetch 1 0 7) (Broken rule.FetchBeyondTail)
    ∷ after (Tail 1 2 ∷ made) (fetch 1 0 7) Kept
    ∷ after (Tail 1 2 ∷ made) (fetch 1 1 7) (Broken rule.FetchSlot)
    ∷ after (fetch 1 0 7 ∷ Tail 1 2 ∷ made) (fetch 1 1 7) (Host breach.CidReused)
    ∷ after made (fetch 2 0 7) (Broken rule.FetchClosed)
    ∷ after deleted (fetch 1 2 9) (Broken rule.FetchClosed)
    ∷ after (Tail 1 1 ∷ made_anew) (fetch 1 0 7) Kept
    ∷ after (Tail 1 3 ∷ made) (fetch 1 2 9) Kept
    ∷ []

abbrev pub completions : List Case
completions =
    after taken (answer 1 0 1 8 2 true) Kept
    ∷ after taken (answer 1 0 1 7 1 true) Kept
    ∷ after taken (answer 1 0 1 7 2 true) Kept
    ∷ after taken (answer 1 0 1 8 1 true) (Broken rule.Sqhd)
    ∷ after taken (answer 1 0 1 8 0 true) (Broken rule.Sqhd)
    ∷ after taken (answer 1 0 1 9 2 true) (Broken rule.Life)
    ∷ after taken (answer 1 0 2 8 2 true) (Broken rule.Life)
    ∷ after taken (answer 0 2 1 8 2 true) (Broken rule.CqWrong)
    ∷ after taken (answer 1 1 1 8 2 true) (Broken rule.Slot)
    ∷ after taken (answer 1 0 1 8 2 false) (Broken rule.Phase)
    ∷ after full (answer 1 1 1 7 2 true) (Broken rule.CqFull)
    ∷ after (Head 1 1 ∷ full) (answer 1 1 1 8 2 true) (Broken rule.Life)
    ∷ after (Head 1 1 ∷ full) (answer 1 1 1 7 2 true) Kept
    ∷ after (Head 1 0 ∷ answer 1 1 1 7 2 true ∷ Head 1 1 ∷ fetch 1 2 9 ∷ Tail 1 0 ∷ full) (answer 1 0 1 9 0 false) Kept
    ∷ after deleted (answer 1 1 1 7 2 true) (Broken rule.PostClosed)
    ∷ after deleted (answer 2 0 1 7 2 true) (Broken rule.PostClosed)
    ∷ after (Head 1 2 ∷ taken) (answer 1 1 1 7 2 false) Kept
    ∷ []

-- a completion of a deleted queue may be read late
abbrev pub late_reads : List Case
late_reads =
    after deleted (answer 1 1 1 7 2 true) Kept
    ∷ after made_anew (answer 1 1 1 7 2 true) Kept
    ∷ after deleted (answer 1 1 1 7 2 false) (Broken rule.Phase)
    ∷ after taken (answer 1 0 1 9 2 true) (Broken rule.Life)
    ∷ []
