-- What the host owes. A breach ends the judgement of its queue until a Create begins that anew.
-- (Base Specification, Submission Queue y Tail Doorbell, Completion Queue y Head Doorbell, Full Queue, Command Identifier)
use Rattle.std.specs.Prelude.{ℕ, ◌+◌, ◌==◌, ◌&&◌, ◌||◌, nat_lt, Bool, true, false, not, is_some, List, [], ◌∷◌, Option, Some, None, if◌then◌else◌}
use Rattle.nvme_audit.specs.declared.event.Event.TheVariants.{Tail, Head, Fetch, Post}
use Rattle.nvme_audit.specs.declared.facts.Start.{Start}
use Rattle.nvme_audit.specs.declared.facts.Sq.{Sq}
use Rattle.nvme_audit.specs.declared.facts.Cq.{Cq}
use Rattle.nvme_audit.specs.declared.verdict.Verdict.{Verdict}
use Rattle.nvme_audit.specs.declared.verdict.Verdict.TheVariants.{Kept, Host, Broken}
use Rattle.nvme_audit.specs.declared.verdict.Breach.TheVariants.{TailRange, TailFull, HeadRange}
use Rattle.nvme_audit.specs.Lives.{Past, asked}
use Rattle.nvme_audit.specs.Queues.{ring_of, qsize_of}
use Rattle.nvme_audit.specs.Rings.{advanced, qsize_in, submitted, fetched, posted, consumed}
use Rattle.nvme_audit.specs.Turns.{asking}
use Rattle.nvme_audit.specs.Early.{sq_lives_on, cq_lives_on, is_early}

-- a check, and what is said of an event that fails it
pub record Check : Type 0 where
  pub fails : Bool
  pub verdict : Verdict

-- what the first check says that fails, and otherwise this
abbrev pub first_failed : List Check → Verdict → Verdict
first_failed [] otherwise = otherwise
first_failed (check ∷ checks) otherwise = if check.fails then check.verdict else first_failed checks otherwise

abbrev pub is_kept : Verdict → Bool
is_kept Kept = true
is_kept (Host breach) = false
is_kept (Broken rule) = false

-- a tail is a slot (Submission Queue y Tail Doorbell), and there are fewer commands in the queue than slots (Full Queue)
abbrev pub tail_rules : Option ℕ → (submitted fetched slot : ℕ) → Verdict
tail_rules None submitted fetched slot = Host TailRange
tail_rules (Some qsize) submitted fetched slot =
    first_failed (record { fails = nat_lt qsize slot; verdict = Host TailRange } ∷ record { fails = nat_lt (fetched + qsize) (advanced qsize submitted slot); verdict = Host TailFull } ∷ []) Kept

-- a head is a slot, no further on than the completions, where these are known (Completion Queue y Head Doorbell)
abbrev pub head_rules : Option ℕ → (early : Bool) → (posted consumed slot : ℕ) → Verdict
head_rules None early posted consumed slot = Host HeadRange
head_rules (Some qsize) early posted consumed slot = if nat_lt qsize slot || (not early && nat_lt posted (advanced qsize consumed slot)) then Host HeadRange else Kept

-- whether the host broke a rule of a submission queue since that was begun: so early that a Create of it was outstanding, or later
abbrev pub is_sq_excused : Start → Past → ℕ → Bool
is_sq_excused start [] q = false
is_sq_excused start (Tail sq slot ∷ past) q =
    ((sq == q) && not (is_kept (tail_rules (qsize_in (ring_of start past q)) (submitted start past q) (fetched past q) slot))) || is_sq_excused start past q
is_sq_excused start (Head cq slot ∷ past) q = is_sq_excused start past q
is_sq_excused start (Fetch sq slot cid command ∷ past) q = sq_lives_on start past (asking sq command) q && (((sq == q) && is_some (asked past q cid)) || is_sq_excused start past q)
is_sq_excused start (Post cq slot completion ∷ past) q = is_sq_excused start past q

-- the same of a completion queue
abbrev pub is_cq_excused : Start → Past → ℕ → Bool
is_cq_excused start [] q = false
is_cq_excused start (Tail sq slot ∷ past) q = is_cq_excused start past q
is_cq_excused start (Head cq slot ∷ past) q =
    ((cq == q) && not (is_kept (head_rules (qsize_of start past q) (is_early start past q) (posted past q) (consumed start past q) slot))) || is_cq_excused start past q
is_cq_excused start (Fetch sq slot cid command ∷ past) q = cq_lives_on start past (asking sq command) q && is_cq_excused start past q
is_cq_excused start (Post cq slot completion ∷ past) q = is_cq_excused start past q

-- an identifier of the admin submission queue was used again while its command was outstanding: which of the two a completion answers
-- nobody knows, nor which queues are open
abbrev pub is_lost : Past → Bool
is_lost [] = false
is_lost (Tail sq slot ∷ past) = is_lost past
is_lost (Head cq slot ∷ past) = is_lost past
is_lost (Fetch sq slot cid command ∷ past) = ((sq == 0) && is_some (asked past sq cid)) || is_lost past
is_lost (Post cq slot completion ∷ past) = is_lost past

-- ---- verdicts
abbrev pub tail_verdict : Sq → ℕ → Verdict
tail_verdict sq slot = if sq.excused then Kept else tail_rules (qsize_in sq.ring) sq.submitted sq.fetched slot

abbrev pub head_verdict : Cq → ℕ → Verdict
head_verdict cq slot = if cq.excused then Kept else head_rules cq.qsize cq.early cq.posted cq.consumed slot
