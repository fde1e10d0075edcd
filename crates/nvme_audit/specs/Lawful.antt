-- What is said of an event after a log, and lawful logs.
use Rattle.std.specs.Prelude.{◌≡◌, ℕ, ◌<◌, Bool, true, false, is_some, List, [], ◌∷◌, length, take, slice_get, IfSome, if◌then◌else◌}
use Rattle.nvme_audit.specs.declared.event.Event.{Event}
use Rattle.nvme_audit.specs.declared.event.Event.TheVariants.{Tail, Head, Fetch, Post}
use Rattle.nvme_audit.specs.declared.facts.Start.{Start}
use Rattle.nvme_audit.specs.declared.verdict.Rule.{Rule}
use Rattle.nvme_audit.specs.declared.verdict.Verdict.{Verdict}
use Rattle.nvme_audit.specs.declared.verdict.Verdict.TheVariants.{Kept, Host, Broken}
use Rattle.nvme_audit.specs.Lives.{Past}
use Rattle.nvme_audit.specs.Host.{is_lost, tail_verdict, head_verdict}
use Rattle.nvme_audit.specs.Facts.{sq_after, cq_after, admin_after, outstanding}
use Rattle.nvme_audit.specs.Rules.{fetch_verdict, if_kept, post_verdict}
use Rattle.nvme_audit.specs.Turns.{sq_named, cq_named, cid_named}
use Rattle.nvme_audit.specs.Answers.{answered_in, answer_verdict}

-- what the rules say of an event
abbrev pub ruled : Start → Past → Event → Verdict
ruled start past (Tail sq slot) = tail_verdict (sq_after start past sq) slot
ruled start past (Head cq slot) = head_verdict (cq_after start past cq) slot
ruled start past (Fetch sq slot cid command) = fetch_verdict start.tells (sq_after start past sq) slot (is_some (outstanding past sq cid))
ruled start past (Post cq slot completion) =
    if_kept
    (post_verdict start.tells cq (cq_after start past cq) (sq_after start past completion.sq) (outstanding past completion.sq completion.cid) slot completion)
    (answer_verdict
    start.tells
    (cq_after start past cq)
    (cq_after start past (cq_named (answered_in (outstanding past completion.sq completion.cid) completion)))
    (sq_after start past completion.sq)
    (sq_after start past (sq_named (answered_in (outstanding past completion.sq completion.cid) completion)))
    (admin_after past)
    (outstanding past completion.sq completion.cid)
    (outstanding past (sq_named (answered_in (outstanding past completion.sq completion.cid) completion)) (cid_named (answered_in (outstanding past completion.sq completion.cid) completion)))
    completion)

-- what is said of it
abbrev pub verdict : Start → Past → Event → Verdict
verdict start past event = if is_lost past then Kept else ruled start past event

abbrev pub is_broken : Verdict → Bool
is_broken Kept = false
is_broken (Host breach) = false
is_broken (Broken rule) = true

-- the controller breaks no rule at an event
abbrev pub IsLawful : Start → Past → Event → Type 0
IsLawful start past event = is_broken (verdict start past event) ≡ false

-- nor at any event of a log
abbrev pub IsLawfulLog : Start → Past → Type 0
IsLawfulLog start [] = Unit {0}
IsLawfulLog start (event ∷ past) = IsLawful start past event × IsLawfulLog start past

-- neither the controller nor the host breaks a rule
abbrev pub IsFaultlessLog : Start → Past → Type 0
IsFaultlessLog start [] = Unit {0}
IsFaultlessLog start (event ∷ past) = (verdict start past event ≡ Kept) × IsFaultlessLog start past

-- ---- a run over a list, the oldest event first
-- the log after the events of a list
abbrev pub log_after : Past → List Event → Past
log_after past [] = past
log_after past (event ∷ events) = log_after (event ∷ past) events

-- the controller breaks no rule at any event of a list
abbrev pub IsLawfulRun : Start → Past → List Event → Type 0
IsLawfulRun start past [] = Unit {0}
IsLawfulRun start past (event ∷ events) = IsLawful start past event × IsLawfulRun start (event ∷ past) events

-- the controller breaks this rule at the event with this index, and none before
pub record IsFirstBroken (start : Start) (past : Past) (events : List Event) (index : ℕ) (rule : Rule) : Type 0 where
  pub lawful_before : IsLawfulRun start past (take index events)
  pub breaks : IfSome (slice_get events index) (λ event. verdict start (log_after past (take index events)) event ≡ Broken rule)
  pub within : index < length events
