-- What an observer shows who sees less of a log: fields of events are left out, and writes of doorbells. (profile)
use Rattle.std.specs.Prelude.{◌≡◌, ◌⊎◌, ℕ, Bool, true, false, [], ◌∷◌, Option, None}
use Rattle.nvme_entry.specs.declared.admin.AdminCommand.{AdminCommand}
use Rattle.nvme_audit.specs.declared.event.Event.TheVariants.{Tail, Head, Fetch, Post}
use Rattle.nvme_audit.specs.declared.event.Completion.{Completion}
use Rattle.nvme_audit.specs.declared.facts.Start.{Start}
use Rattle.nvme_audit.specs.declared.facts.Tells.{Tells}
use Rattle.nvme_audit.specs.Lives.{Past}
use Rattle.nvme_audit.specs.Lawful.{IsFaultlessLog}

-- ---- observers
-- what the second tells all of, the first does
pub record TellsLess (all less : Tells) : Type 0 where
  pub tails : less.tails ≡ true → all.tails ≡ true
  pub heads : less.heads ≡ true → all.heads ≡ true
  pub posts : less.posts ≡ true → all.posts ≡ true

-- where a log starts, for another observer
abbrev pub seen_by : Start → Tells → Start
seen_by start tells = record { tells = tells; asqs = start.asqs; acqs = start.acqs }

-- ---- fields
-- a field is there as it was, or left out
abbrev pub IsShown : {A : Type 0} → Option A → Option A → Type 0
IsShown field shown = (shown ≡ None) ⊎ (shown ≡ field)

-- a completion with these fields; its status is always told, and so is its name
abbrev pub with_fields : Completion → (sqhd : Option ℕ) → (phase : Option Bool) → (dw0 : Option ℕ) → Completion
with_fields completion sqhd phase dw0 = record { sq = completion.sq; cid = completion.cid; sqhd = sqhd; phase = phase; status = completion.status; dw0 = dw0 }

-- ---- logs
-- each event is there, with all its fields or without some; but a write of a doorbell may be left out of whose kind not all are told
pub data ShowsLess (tells : Tells) : Past → Past → Type 0 where
  none : ShowsLess tells [] []
  tail : {past less : Past} {sq slot : ℕ} → ShowsLess tells past less → ShowsLess tells (Tail sq slot ∷ past) (Tail sq slot ∷ less)
  head : {past less : Past} {cq slot : ℕ} → ShowsLess tells past less → ShowsLess tells (Head cq slot ∷ past) (Head cq slot ∷ less)
  tail_left_out : {past less : Past} {sq slot : ℕ} → tells.tails ≡ false → ShowsLess tells past less → ShowsLess tells (Tail sq slot ∷ past) less
  head_left_out : {past less : Past} {cq slot : ℕ} → tells.heads ≡ false → ShowsLess tells past less → ShowsLess tells (Head cq slot ∷ past) less
  fetch : {past less : Past} {sq cid : ℕ} {command : AdminCommand} {slot shown : Option ℕ} → IsShown slot shown → ShowsLess tells past less
      → ShowsLess tells (Fetch sq slot cid command ∷ past) (Fetch sq shown cid command ∷ less)
  post : {past less : Past} {cq : ℕ} {slot shown : Option ℕ} {completion : Completion} {sqhd dw0 : Option ℕ} {phase : Option Bool}
      → IsShown slot shown → IsShown completion.sqhd sqhd → IsShown completion.phase phase → IsShown completion.dw0 dw0 → ShowsLess tells past less
      → ShowsLess tells (Post cq slot completion ∷ past) (Post cq shown (with_fields completion sqhd phase dw0) ∷ less)

-- ---- laws
-- where nobody breaks a rule, nobody does for an observer who sees less
abbrev pub LessIsFaultless : Type 0
LessIsFaultless = (start : Start) (tells : Tells) (past less : Past) → TellsLess start.tells tells → ShowsLess tells past less → IsFaultlessLog start past → IsFaultlessLog (seen_by start tells) less
