-- An admin command that is carried out, and the controller after it (profile).
use Rattle.std.specs.Prelude.{◌≡◌, ◌≢◌, ℕ, ◌==◌, if◌then◌else◌, Bool, false, List, length, map, slice_set, Some, None}
use Rattle.nvme_arbiter.specs.Settings.{ArbitrationFields}
use Rattle.nvme_arbiter.specs.History.{History}
use Rattle.nvme_arbiter.specs.Board.{BoardView, BoardStandsAt}
use Rattle.nvme_arbiter.specs.declared.pick.Pick.{Pick}
use Rattle.nvme_arbiter.specs.declared.settings.Mechanism.{Mechanism}
use Rattle.nvme_admin.specs.QueueTable.{QueueTable}
use Rattle.nvme_admin.specs.Effects.{verdict_in}
use Rattle.nvme_admin.specs.declared.verdict.Verdict.{Verdict}
use Rattle.nvme_placing.specs.Telling.{IsToldBy}
use Rattle.nvme_admin.specs.declared.effect.Effect.{Effect}
use Rattle.nvme_admin.specs.declared.verdict.SqEntry.{SqEntry}
use Rattle.nvme_log.specs.Rules.{FrontRules}
use Rattle.nvme_log.specs.Queues.{admin_queue}
use Rattle.nvme_ctrl_log.specs.Notes.{Notes, logged}
use Rattle.nvme_ctrl_log.specs.Tags.{answer_of, cookie_of}
use Rattle.nvme_ctrl_log.specs.Account.{IsAccount}
use Rattle.nvme_slots.specs.declared.slot.Slot.{Slot}
use Rattle.nvme_ctrl.specs.declared.state.Controller.{Controller}
use Rattle.nvme_ctrl_content.specs.Content.{Candidate, Content, with_sq, with_ready}
use Rattle.nvme_slots.specs.Pool.{slot_at, item_at}
use Rattle.nvme_ctrl_content.specs.Standing.{Holds, counted_on}
use Rattle.nvme_ctrl_content.specs.Steps.{HasNextRegion, CanPick, CanApply, verdict_at, applied_to, aborted, oldest_named, without_oldest}
use Rattle.nvme_ctrl.specs.kept.Kept.{Item, Items, candidate_of, HasNumbers, HasItems, HoldsDoorbells, HoldsTags}
use Rattle.nvme_ctrl_content.specs.Shown.{HoldsShown, HasRegionsMade}
use Rattle.nvme_ctrl_content.specs.Order.{HoldsOrder}
use Rattle.nvme_ctrl.specs.inside.Loose.{IsLoose, Keeps, ended, with_item}
use Rattle.nvme_ctrl_content.specs.Carrying.{queue_in, requesting}

-- ---- an admin command was picked, and applied to the table
-- the controller doesn't stand at its notes yet, which are those before the pick
pub record IsApplied (rules : FrontRules) (late : Bool) (notes : Notes) (c : Controller) (slots : List Slot) (tag : ℕ) (did : Effect) (verdict : Verdict) : Type 0 where
  -- before the pick
  pub before : Content
  pub holds : Holds rules late (logged notes) before
  pub shown : HoldsShown notes before
  pub ordered : HoldsOrder notes before
  pub account : late ≡ false → IsAccount rules notes
  -- the pick, and the board after it
  pub pick : Pick
  pub picked : BoardView
  pub can_pick : CanPick rules (logged notes) before admin_queue pick picked
  pub of_admin : pick.qid ≡ 0
  pub one : pick.n ≡ 1
  -- the candidate, and the table after it
  pub candidate : Candidate
  pub rest : List Candidate
  pub table : QueueTable
  pub can_apply : CanApply rules (logged notes) before holds.tabled.history candidate rest table
  pub verdict_is : verdict ≡ verdict_at rules holds.tabled.history candidate
  pub told : IsToldBy before.table.placing (verdict_in did) verdict
  -- the rules have the region of a queue that is created anywhere
  pub placed : HasNextRegion rules before.table candidate verdict
  -- so its regions are those of the queues that were made
  pub made : HasRegionsMade (applied_to before picked table)
  -- the controller after the pick, where the slot of the candidate is in no list
  pub items : Items
  pub keeps : Keeps rules notes c slots (applied_to before picked table) items
  pub none_picked : c.picked ≡ 0
  pub loose : IsLoose slots items tag
  pub queue : (slot_at slots tag).sqid ≡ 0
  pub entry : (slot_at slots tag).entry ≡ candidate.entry
  pub unanswered : answer_of notes 0 candidate.index ≡ None
  pub cookie : cookie_of notes 0 candidate.index ≡ Some (slot_at slots tag).cookie

-- the oldest candidate of its region was dropped
abbrev pub oldest_dropped : Content → (qid region c : ℕ) → Item → List Item → Content
oldest_dropped k qid region c x rest =
    with_ready (with_sq k region (record (k.sq region) { window = map candidate_of rest })) c (aborted qid region (candidate_of x))

abbrev pub item_dropped : Items → (qid region c : ℕ) → Item → List Item → Items
item_dropped g qid region c x rest =
    with_item (record g { windows = λ r. if r == region then rest else g.windows r }) c (ended x.tag (aborted qid region (candidate_of x)))

-- the candidates of a region were dropped. A slot that is in no list is left
pub record HasDropped (rules : FrontRules) (notes : Notes) (k : Content) (slots : List Slot) (y : ℕ) (c : Controller) (pool : List Slot) : Type 0 where
  pub items : Items
  pub keeps : Keeps rules notes c pool k items
  pub loose : IsLoose pool items y
  pub slot : item_at pool y ≡ item_at slots y

-- a controller keeps some content, with some items
pub record HasBegun (rules : FrontRules) (notes : Notes) (k : Content) (c : Controller) (pool : List Slot) : Type 0 where
  pub items : Items
  pub numbers : HasNumbers c k
  pub has : HasItems c pool k items
  pub doorbells : HoldsDoorbells rules notes c k
  pub tags : HoldsTags notes c pool k items

pub record HasRequested (rules : FrontRules) (notes : Notes) (k : Content) (sqid cid : ℕ) (slots : List Slot) (y : ℕ) (now : Controller) (pool : List Slot) : Type 0 where
  pub io : sqid ≢ 0
  pub entry : SqEntry
  pub in_table : k.table.sq sqid ≡ Some entry
  pub not_closing : entry.closing ≡ false
  pub c : ℕ
  pub attached : (k.sq entry.region).queue ≡ Some (record { qid = sqid; cq_region = c })
  pub found : Candidate
  pub oldest : oldest_named cid (k.sq entry.region).window ≡ Some found
  pub board : BoardView
  pub queues : board.queues ≡ slice_set k.board.queues sqid (Some (counted_on k (queue_in entry) (length (without_oldest cid (k.sq entry.region).window))))
  pub stands : (mechanism : Mechanism) (first : ArbitrationFields) (h : History) → BoardStandsAt mechanism first h k.board → BoardStandsAt mechanism first h board
  pub items : Items
  pub keeps : Keeps rules notes now pool (requesting k sqid entry.region c cid board found) items
  -- a slot that is in no list is left
  pub loose : IsLoose pool items y
  pub slot : item_at pool y ≡ item_at slots y
