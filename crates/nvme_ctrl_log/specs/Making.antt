-- The rules of a controller that is made, and of one with a region more. (profile)
use Rattle.std.specs.Prelude.{ℕ, ◌+◌, ◌==◌, ◌||◌, min, nat_lt, Bool, false, if◌then◌else◌, List, [], ◌∷◌, length, Option, Some, None, is_some}
use Rattle.std.specs.List.{list_any}
use Rattle.nvme_entry.specs.AdminCommand.{admin_command_of}
use Rattle.nvme_entry.specs.declared.admin.AdminCommand.{AdminCommand}
use Rattle.nvme_entry.specs.declared.admin.AdminCommand.TheVariants.{CreateSq, CreateCq}
use Rattle.nvme_arbiter.specs.Settings.{ArbitrationFields}
use Rattle.nvme_arbiter.specs.declared.settings.Mechanism.{Mechanism}
use Rattle.nvme_admin.specs.History.{Kind, TableStep, RegionAdded, EntryApplied, PlacedAnywhere, Submission, Completion, TableHistory, Placing}
use Rattle.nvme_admin.specs.Accepted.{queue_table}
use Rattle.nvme_admin.specs.declared.verdict.Verdict.{Verdict}
use Rattle.nvme_admin.specs.declared.verdict.Verdict.TheVariants.{OpenSq, OpenCq}
use Rattle.nvme_entry.specs.declared.submission.Sqe.{Sqe}
use Rattle.nvme_admin.specs.QueueTable.{region_number}
use Rattle.nvme_admin.specs.declared.bounds.TheConstants.{MAX_REGIONS, MIN_SLOTS, MAX_SLOTS}
use Rattle.nvme_admin.specs.declared.limits.Limits.{Limits}
use Rattle.nvme_admin.specs.declared.region.Region.{Region}
use Rattle.nvme_admin.specs.declared.region.AdminError.{AdminError}
use Rattle.nvme_admin.specs.declared.region.AdminError.TheVariants.{Used, TooMany, Size}
use Rattle.nvme_log.specs.Histories.{table_history}
use Rattle.nvme_log.specs.Rules.{FrontRules, sq_regions_of, cq_regions_of}
use Rattle.nvme_ctrl_log.specs.Notes.{Notes, logged}

-- the steps that add the admin regions
abbrev pub first_regions : (sq cq : Region) → TableHistory
first_regions sq cq = RegionAdded Completion cq.address cq.slots ∷ RegionAdded Submission sq.address sq.slots ∷ []

-- the rules of a controller with its admin regions alone
abbrev pub first_rules : Mechanism → ArbitrationFields → Limits → (sq cq : Region) → List ℕ → FrontRules
first_rules mechanism settings limits sq cq sizes = record {
  mechanism = mechanism;
  start = record { nsq = limits.nsq; ncq = limits.ncq; settings = settings };
  regions = first_regions sq cq;
  sizes = sizes;
}

-- so where queues may lie anywhere
abbrev pub anywhere_rules : Mechanism → ArbitrationFields → Limits → Placing → (sq cq : Region) → List ℕ → FrontRules
anywhere_rules mechanism settings limits placing sq cq sizes = record (first_rules mechanism settings limits sq cq sizes) {
  regions = RegionAdded Completion cq.address cq.slots ∷ RegionAdded Submission sq.address sq.slots ∷ PlacedAnywhere placing ∷ [];
}

-- what a Create may ask for where queues may lie anywhere, and None where each lies on a region
abbrev pub placing_in : FrontRules → Option Placing
placing_in rules = (queue_table rules.start rules.regions).placing

-- why these can't be the admin regions, where they can't: the first cause
abbrev pub admin_fault : (sq cq : Region) → Option AdminError
admin_fault sq cq =
    if nat_lt sq.slots MIN_SLOTS || nat_lt MAX_SLOTS sq.slots then Some Size
    else (if sq.address == cq.address then Some Used
    else (if nat_lt cq.slots MIN_SLOTS || nat_lt MAX_SLOTS cq.slots then Some Size
    else None))

-- the rules with a region more
abbrev pub with_region : Kind → (address slots : ℕ) → FrontRules → FrontRules
with_region kind address slots rules = record rules { regions = RegionAdded kind address slots ∷ rules.regions }

-- the number of slots that a Create asks for: QSIZE is zero based. (Create I/O Submission Queue, Create I/O Completion Queue, Command Dword 10)
abbrev pub slots_asked : AdminCommand → ℕ
slots_asked (CreateSq qid qsize prp1 cqid qprio pc) = min (qsize + 1) 0xffff
slots_asked (CreateCq qid qsize prp1 pc) = min (qsize + 1) 0xffff
slots_asked command = 1

-- the region of the queue that a verdict opens: where queues may lie anywhere, it is the next one, at PRP1 of the entry
abbrev pub placed_by : Option Placing → Verdict → Sqe → FrontRules → FrontRules
placed_by (Some placing) (OpenSq qid region cqid class) entry rules = with_region Submission entry.prp1 (slots_asked (admin_command_of entry)) rules
placed_by (Some placing) (OpenCq qid region) entry rules = with_region Completion entry.prp1 (slots_asked (admin_command_of entry)) rules
placed_by placing verdict entry rules = rules

-- the rules after an admin command. Where queues may lie anywhere, they have the regions of the queues that were created so far, in the order of their
-- Creates
abbrev pub placed : Verdict → Sqe → FrontRules → FrontRules
placed verdict entry rules = placed_by (placing_in rules) verdict entry rules

-- the regions of a kind
abbrev pub regions_of : Kind → FrontRules → List Region
regions_of Submission rules = sq_regions_of rules
regions_of Completion rules = cq_regions_of rules

-- an address is that of a region of either kind
abbrev pub is_region : FrontRules → ℕ → Bool
is_region rules address = is_some (region_number (sq_regions_of rules) address) || is_some (region_number (cq_regions_of rules) address)

-- why a region can't be added, where it can't: the first cause. None can where queues may lie anywhere
abbrev pub adding_fault : Kind → (address slots : ℕ) → FrontRules → Option AdminError
adding_fault kind address slots rules =
    if is_some (placing_in rules) then Some TooMany
    else (if is_region rules address then Some Used
    else (if length (regions_of kind rules) == MAX_REGIONS then Some TooMany
    else (if nat_lt slots MIN_SLOTS || nat_lt MAX_SLOTS slots then Some Size
    else None)))

-- an admin command names an address: it is a Create, and its PRP1 is the address. (Create I/O Submission Queue, Create I/O Completion Queue, PRP Entry 1)
abbrev pub command_names : ℕ → AdminCommand → Bool
command_names address (CreateSq qid qsize prp1 cqid qprio pc) = address == prp1
command_names address (CreateCq qid qsize prp1 pc) = address == prp1
command_names address command = false

-- a step applies an entry that names it
abbrev pub step_names : ℕ → TableStep → Bool
step_names address (EntryApplied entry) = command_names address (admin_command_of entry)
step_names address step = false

-- an admin command that was picked named an address
abbrev pub is_named : FrontRules → Notes → ℕ → Bool
is_named rules notes address = list_any (step_names address) (table_history rules (logged notes))

-- a region is added late: a Create that was picked before named its address. Once one was, all later ones are
abbrev pub is_late : FrontRules → Bool → Notes → ℕ → Bool
is_late rules late notes address = late || is_named rules notes address
