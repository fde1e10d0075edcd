-- Completions are told where the host reads them, later than the controller wrote them. What it can't have done before it read one is a
-- fact about hosts, whatever the controller does. (profile)
use Rattle.std.specs.Prelude.{◌≡◌, ℕ, ◌≤◌, ◌==◌, ◌&&◌, true, false, ◌∷◌, Option}
use Rattle.nvme_entry.specs.declared.admin.AdminCommand.{AdminCommand}
use Rattle.nvme_audit.specs.declared.event.Event.{Event}
use Rattle.nvme_audit.specs.declared.event.Event.TheVariants.{Tail, Head, Fetch, Post}
use Rattle.nvme_audit.specs.declared.event.Completion.{Completion}
use Rattle.nvme_audit.specs.declared.facts.Start.{Start}
use Rattle.nvme_audit.specs.declared.facts.Tells.{Tells}
use Rattle.nvme_audit.specs.Lives.{Past, turns_sq, done}
use Rattle.nvme_audit.specs.Queues.{turns_cq, qsize_of}
use Rattle.nvme_audit.specs.Rings.{advanced_where_open, posted, consumed}
use Rattle.nvme_audit.specs.Lawful.{IsLawfulLog, IsFaultlessLog}
use Rattle.nvme_audit.specs.Shows.{TellsLess, seen_by, ShowsLess}

-- one completion is told an event later than before. Those of one completion queue keep their order, which is that of its slots, and so
-- do those of the admin queue among all others
pub data ReadsLater (start : Start) : Past → Past → Type 0 where
  -- the host rings for a submission queue once it has read that it was created
  over_tail : {past : Past} {cq : ℕ} {slot : Option ℕ} {completion : Completion} {sq to : ℕ}
      → turns_sq (done past completion) sq ≡ false
      → ReadsLater start (Tail sq to ∷ Post cq slot completion ∷ past) (Post cq slot completion ∷ Tail sq to ∷ past)
  -- and for a completion queue; and it releases no completion that it hasn't read
  over_head : {past : Past} {cq : ℕ} {slot : Option ℕ} {completion : Completion} {queue to : ℕ}
      → turns_cq (done past completion) queue ≡ false
      → ((cq == queue) ≡ true → advanced_where_open (qsize_of start past queue) (consumed start past queue) to ≤ posted past queue)
      → ReadsLater start (Head queue to ∷ Post cq slot completion ∷ past) (Post cq slot completion ∷ Head queue to ∷ past)
  -- so nothing is fetched of a queue before; and the host gives an identifier anew once it has read that its command ended
  over_fetch : {past : Past} {cq : ℕ} {slot : Option ℕ} {completion : Completion} {sq cid : ℕ} {of : Option ℕ} {command : AdminCommand}
      → turns_sq (done past completion) sq ≡ false
      → ((sq == completion.sq) && (cid == completion.cid)) ≡ false
      → ReadsLater start (Fetch sq of cid command ∷ Post cq slot completion ∷ past) (Post cq slot completion ∷ Fetch sq of cid command ∷ past)
  -- two completion queues are read in any order; but of two completions with one name the host reads first that which was first
  over_post : {past : Past} {cq queue : ℕ} {slot place : Option ℕ} {completion other : Completion}
      → (cq == queue) ≡ false → (completion.sq == 0) ≡ false → (other.sq == 0) ≡ false
      → ((other.sq == completion.sq) && (other.cid == completion.cid)) ≡ false
      → ReadsLater start (Post queue place other ∷ Post cq slot completion ∷ past) (Post cq slot completion ∷ Post queue place other ∷ past)
  -- what follows is told as it was
  before : {past late : Past} {event : Event} → ReadsLater start past late → ReadsLater start (event ∷ past) (event ∷ late)

-- completions are told later, each by any number of events
pub data ReadsLate (start : Start) : Past → Past → Type 0 where
  none : {past : Past} → ReadsLate start past past
  more : {past mid late : Past} → ReadsLater start past mid → ReadsLate start mid late → ReadsLate start past late

-- where nobody breaks a rule, nobody does where completions are told later
abbrev pub LateIsFaultless : Type 0
LateIsFaultless = (start : Start) (past late : Past) → ReadsLate start past late → IsFaultlessLog start past → IsFaultlessLog start late

-- what a log without breaches shows to an observer is lawful for it: it sees less, and may tell completions where the host reads them
abbrev pub ProjectionsAreLawful : Type 0
ProjectionsAreLawful = (start : Start) (tells : Tells) (past late shown : Past) → TellsLess start.tells tells → ReadsLate start past late → ShowsLess tells late shown
    → IsFaultlessLog start past → IsFaultlessLog (seen_by start tells) shown × IsLawfulLog (seen_by start tells) shown
