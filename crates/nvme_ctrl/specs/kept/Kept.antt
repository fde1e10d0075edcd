-- When a controller keeps some content, and stands at its log (profile).
use Rattle.std.specs.Prelude.{◌≡◌, ◌≢◌, ℕ, ◌+◌, ◌<◌, ◌≤◌, ◌^◌, ◌==◌, ◌&&◌, ◌⊎◌, Bool, true, false, if◌then◌else◌, List, [], ◌∷◌, ◌++◌, length, map, take, drop, Option, Some, None, is_some, option_map, unwrap_or, IsTrue}
use Rattle.std.specs.List.{All}
use Rattle.nvme_entry.specs.declared.submission.Sqe.{Sqe}
use Rattle.nvme_entry.specs.declared.completion.Cqe.{Cqe}
use Rattle.nvme_arbiter.specs.Board.{BoardView}
use Rattle.nvme_arbiter.specs.Layout.{is_arbiter, board_of}
use Rattle.nvme_arbiter.specs.Queues.{queue_at}
use Rattle.nvme_placing.specs.Telling.{Tells}
use Rattle.nvme_admin.specs.QueueTable.{QueueTable}
use Rattle.nvme_admin.specs.declared.verdict.SqEntry.{SqEntry}
use Rattle.nvme_log.specs.Rules.{FrontRules, Past}
use Rattle.nvme_log.specs.Places.{fetched, is_aborted, entry_at, fate_of, is_waiting}
use Rattle.nvme_log.specs.Completions.{posted_to, phase_after}
use Rattle.nvme_log.specs.Answers.{Answer}
use Rattle.nvme_log.specs.Dispatches.{place_at}
use Rattle.nvme_log.specs.declared.place.Place.{Place}
use Rattle.nvme_ctrl_log.specs.Notes.{Notes, logged}
use Rattle.nvme_ctrl_log.specs.Doorbells.{submitted, consumed}
use Rattle.nvme_slots.specs.Rings.{HasCounts}
use Rattle.nvme_ctrl_log.specs.StatusFlags.{flags_or}
use Rattle.nvme_ctrl_log.specs.Tags.{is_passed, is_of_device, handed, taken, holder, answer_of, cookie_of, flags_of, is_out, all_fetches, all_posts}
use Rattle.nvme_ctrl_log.specs.Account.{IsAccount}
use Rattle.nvme_ctrl_log.specs.declared.status_flags.StatusFlags.{StatusFlags}
use Rattle.nvme_slots.specs.declared.slot.Slot.{Slot}
use Rattle.nvme_slots.specs.declared.chain.Chain.{Chain}
use Rattle.nvme_ctrl.specs.declared.state.Controller.{Controller}
use Rattle.nvme_ctrl.specs.declared.state.SqState.{SqState}
use Rattle.nvme_ctrl.specs.declared.state.CqState.{CqState}
use Rattle.nvme_ctrl_content.specs.Content.{Candidate, Ready, PendingDelete, Attachment, SqContent, CqContent, Content}
use Rattle.nvme_ctrl_content.specs.Standing.{Holds, answer_in}
use Rattle.nvme_ctrl_log.specs.Regions.{is_opened_cq}
use Rattle.nvme_slots.specs.Pool.{slot_at, flags_in, IsChain, AreApart}
use Rattle.nvme_ctrl.specs.kept.QueueSets.{HoldsRung, HoldsReadied}
use Rattle.nvme_ctrl.specs.kept.State.{no_sq_state, no_cq_state, sq_at, cq_at, delete_tag, count_closing}
use Rattle.nvme_ctrl_content.specs.Shown.{HoldsShown, HasRegionsMade}
use Rattle.nvme_ctrl_content.specs.Order.{HoldsOrder}

-- ---- commands in slots
-- a command in a slot that waits, or that the device has: its slot, its place, which nobody keeps, and its entry
pub record Item : Type 0 where
  pub tag : ℕ
  pub place : Place
  pub entry : Sqe

-- a command in a slot that is ready, with the flags of its completion. The device had it, or not
pub record ReadyItem : Type 0 where
  pub tag : ℕ
  pub ready : Ready
  pub was_out : Bool
  pub flags : StatusFlags

-- the Delete of a region whose deletion is pending: its slot, its index, which nobody keeps, and the queue that it deletes
pub record DeleteItem : Type 0 where
  pub tag : ℕ
  pub index : ℕ
  pub qid : ℕ

abbrev pub tags_of : List Item → List ℕ
tags_of items = map (λ (it : Item). it.tag) items

abbrev pub places_of : List Item → List Place
places_of items = map (λ (it : Item). it.place) items

abbrev pub candidate_of : Item → Candidate
candidate_of it = record { index = it.place.index; entry = it.entry }

abbrev pub ready_tags : List ReadyItem → List ℕ
ready_tags items = map (λ (x : ReadyItem). x.tag) items

abbrev pub readies_of : List ReadyItem → List Ready
readies_of items = map (λ (x : ReadyItem). x.ready) items

-- the commands in slots, which nobody keeps as lists: those of each submission region that are picked and not taken and then those that wait, those
-- that the device has, those that are ready in each completion region, the Deletes of the regions, and the free slots
pub record Items : Type 0 where
  pub windows : ℕ → List Item
  pub outs : List Item
  pub readies : ℕ → List ReadyItem
  pub deletes : ℕ → Option DeleteItem
  pub free : List ℕ

-- a slot has a command that waits in the queue of an identifier on a region, or is picked and not taken
pub record IsWaitingIn (slots : List Slot) (q r : ℕ) (it : Item) : Type 0 where
  pub state : (slot_at slots it.tag).state ≡ 1
  pub queue : (slot_at slots it.tag).sqid ≡ q
  pub entry : (slot_at slots it.tag).entry ≡ it.entry
  pub place : it.place.region ≡ r

-- a slot has a command that the device has, of a queue that is open or closing
pub record IsOutIn (ids : ℕ → Option ℕ) (slots : List Slot) (it : Item) : Type 0 where
  pub inside : it.tag < length slots
  pub state : (slot_at slots it.tag).state ≡ 2
  pub queue : ids it.place.region ≡ Some (slot_at slots it.tag).sqid
  pub entry : (slot_at slots it.tag).entry ≡ it.entry

-- the state of the slot of a command that is ready
abbrev pub ready_state : (was_out with_queue : Bool) → ℕ
ready_state was_out with_queue = if was_out then 3 else (if with_queue then 5 else 4)

pub record IsReadyIn (ids : ℕ → Option ℕ) (slots : List Slot) (x : ReadyItem) : Type 0 where
  pub state : (slot_at slots x.tag).state ≡ ready_state x.was_out x.ready.with_queue
  pub queue : ids x.ready.place.region ≡ Some (slot_at slots x.tag).sqid
  pub sqid : (slot_at slots x.tag).sqid ≡ x.ready.sqid
  pub cid : (slot_at slots x.tag).entry.cid ≡ x.ready.cid
  pub sct : (slot_at slots x.tag).sct ≡ x.ready.status.sct
  -- a status code type has three bits (Status Field)
  pub few_types : (slot_at slots x.tag).sct < 8
  pub sc : (slot_at slots x.tag).sc ≡ x.ready.status.sc
  pub dw0 : (slot_at slots x.tag).dw0 ≡ x.ready.dw0
  -- what the device had wasn't aborted with its queue
  pub not_both : x.was_out ≡ true → x.ready.with_queue ≡ false
  pub flags : flags_in (slot_at slots x.tag) ≡ x.flags

abbrev pub is_free : List Slot → ℕ → Type 0
is_free slots x = (slot_at slots x).state ≡ 0

-- a slot is among those of the commands that the device has
pub record IsAmongOuts (items : List Item) (x : ℕ) : Type 0 where
  pub before : List Item
  pub item : Item
  pub after : List Item
  pub are : items ≡ before ++ item ∷ after
  pub tag : item.tag ≡ x

-- the region of the queue whose commands are picked and not taken
abbrev pub region_picked : (picked_qid : ℕ) → (ℕ → Option ℕ) → ℕ
region_picked picked_qid lives = unwrap_or (lives picked_qid) 0

abbrev pub picked_region : Controller → Content → ℕ
picked_region c k = region_picked c.picked_qid k.sq_life

-- the picked commands that the device hasn't taken
abbrev pub untaken : Controller → Content → Items → List Item
untaken c k g = take c.picked (g.windows (picked_region c k))

-- how many commands of a region are picked and not taken, by the identifier of its queue
abbrev pub picked_by : (picked picked_qid : ℕ) → Option ℕ → ℕ
picked_by picked picked_qid None = 0
picked_by picked picked_qid (Some q) = if q == picked_qid then picked else 0

abbrev pub picked_of : Controller → Option ℕ → ℕ
picked_of c o = picked_by c.picked c.picked_qid o

-- another Delete in the place of that of a region
abbrev pub put_delete : (ℕ → Option DeleteItem) → ℕ → Option DeleteItem → ℕ → Option DeleteItem
put_delete deletes r it x = if x == r then it else deletes x

-- the pending deletion of a region, by the slot of its Delete
abbrev pub deletion_in : List Slot → ℕ → DeleteItem → PendingDelete
deletion_in slots r it = record { place = place_at 0 it.index; cid = (slot_at slots it.tag).entry.cid; qid = it.qid; region = r }

-- a slot has the Delete of a region, which was fetched from the admin queue
pub record IsDeletingIn (slots : List Slot) (it : DeleteItem) : Type 0 where
  pub inside : it.tag < length slots
  pub state : (slot_at slots it.tag).state ≡ 6
  pub queue : (slot_at slots it.tag).sqid ≡ 0

-- the Delete of the queue of a region, where there is one
abbrev pub delete_of : (ℕ → Option DeleteItem) → Option ℕ → Option DeleteItem
delete_of deletes None = None
delete_of deletes (Some r) = deletes r

-- these are the pending deletions, by queue, and the slots of their Deletes
pub record HasDeletions (states : List SqState) (deleting : ℕ) (slots : List Slot) (lives : ℕ → Option ℕ) (kept : ℕ → Option PendingDelete) (deletes : ℕ → Option DeleteItem) : Type 0 where
  pub are : (r : ℕ) → kept r ≡ option_map (deletion_in slots r) (deletes r)
  pub tags : (q : ℕ) → delete_tag (sq_at states q) ≡ option_map (λ (it : DeleteItem). it.tag) (delete_of deletes (lives q))
  pub queues : (r : ℕ) (it : DeleteItem) → deletes r ≡ Some it → lives it.qid ≡ Some r
  pub items : (r : ℕ) (it : DeleteItem) → deletes r ≡ Some it → IsDeletingIn slots it
  pub apart : (r x : ℕ) (it other : DeleteItem) → deletes r ≡ Some it → deletes x ≡ Some other → it.tag ≡ other.tag → r ≡ x
  pub counted : deleting ≡ count_closing states

-- ---- what is kept
-- regions by identifier, and identifiers by region, tell one another
pub record AreIds (lives ids : ℕ → Option ℕ) : Type 0 where
  pub ids_are : (q r : ℕ) → lives q ≡ Some r → ids r ≡ Some q
  pub lives_are : (r q : ℕ) → ids r ≡ Some q → lives q ≡ Some r
  -- the admin queue is that of region 0
  pub admin : lives 0 ≡ Some 0

-- arbitration is shown a queue: it is on the board
abbrev pub shown_in : BoardView → ℕ → Bool
shown_in board q = is_some (queue_at board.queues q)

-- the state of a submission queue on a region is that of its content. It is in the table, and attached to the open completion queue of an identifier
pub record IsSq (table : QueueTable) (lives : ℕ → Option ℕ) (q r : ℕ) (state : SqState) (s : SqContent) (on_hold is_shown : Bool) : Type 0 where
  pub entry : SqEntry
  pub in_table : table.sq q ≡ Some entry
  pub on : entry.region ≡ r
  pub to : entry.cqid ≡ state.cqid
  pub cq_region : ℕ
  pub cq_open : lives state.cqid ≡ Some cq_region
  pub opened : s.queue ≡ Some (record { qid = q; cq_region = cq_region })
  pub held : (state.held == 1) ≡ on_hold
  -- arbitration is shown a queue until it is closing
  pub shown : (state.closing == 0) ≡ is_shown
  pub unposted : state.unposted ≡ s.unposted
  pub slots : state.ring.slots ≡ s.slots
  pub some : 0 < s.slots

abbrev pub IsSqOf : Controller → Content → (q r : ℕ) → Type 0
IsSqOf c k q r = IsSq k.table k.cq_life q r (sq_at c.sqs q) (k.sq r) (k.held r) (shown_in k.board q)

-- so that of a completion queue
pub record IsCq (state : CqState) (s : CqContent) : Type 0 where
  pub slots : state.ring.slots ≡ s.slots
  pub some : 0 < s.slots

abbrev pub IsCqOf : Controller → Content → (q x : ℕ) → Type 0
IsCqOf c k q x = IsCq (cq_at c.cqs q) (k.cq x)

-- the states of submission queues are those of some content. There is a place for each queue, and nothing of any other. No queue outside the set of those
-- that may have something to fetch has it
pub record AreSqs (states : List SqState) (set : ℕ) (table : QueueTable) (cq_lives lives regions : ℕ → Option ℕ) (content : ℕ → SqContent) (on_hold is_shown : ℕ → Bool) : Type 0 where
  pub ids : AreIds lives regions
  pub each : (q r : ℕ) → lives q ≡ Some r → IsSq table cq_lives q r (sq_at states q) (content r) (on_hold r) (is_shown q)
  pub few : (q r : ℕ) → lives q ≡ Some r → q < 65
  pub none : (q : ℕ) → lives q ≡ None → sq_at states q ≡ no_sq_state
  pub size : length states ≡ 65
  pub rung : HoldsRung set states

-- so those of completion queues, and the set of those that may have something to post
pub record AreCqs (states : List CqState) (set : ℕ) (lives regions : ℕ → Option ℕ) (content : ℕ → CqContent) : Type 0 where
  pub ids : AreIds lives regions
  pub each : (q x : ℕ) → lives q ≡ Some x → IsCq (cq_at states q) (content x)
  pub few : (q x : ℕ) → lives q ≡ Some x → q < 65
  pub none : (q : ℕ) → lives q ≡ None → cq_at states q ≡ no_cq_state
  pub size : length states ≡ 65
  pub readied : HoldsReadied set states

-- the numbers of a controller are those of some content
pub record HasNumbers (c : Controller) (k : Content) : Type 0 where
  pub tells : Tells c.table k.table
  pub board_is : board_of c.board ≡ k.board
  pub is_arbiter : IsTrue (is_arbiter c.board.arbiter)
  pub outstanding_is : c.outstanding ≡ k.outstanding
  pub sqs : AreSqs c.sqs c.rung k.table k.cq_life k.sq_life k.sq_id k.sq k.held (shown_in k.board)
  pub cqs : AreCqs c.cqs c.readied k.cq_life k.cq_id k.cq

-- the slots have the commands that wait
pub record AreWaiting (states : List SqState) (picked picked_qid : ℕ) (slots : List Slot) (lives regions : ℕ → Option ℕ) (waiting : ℕ → List Candidate) (windows : ℕ → List Item) : Type 0 where
  pub chain : (q r : ℕ) → lives q ≡ Some r → IsChain slots (sq_at states q).window (tags_of (windows r))
  pub items : (q r : ℕ) → lives q ≡ Some r → All (IsWaitingIn slots q r) (windows r)
  pub none : (r : ℕ) → regions r ≡ None → windows r ≡ []
  pub are : (r : ℕ) → waiting r ≡ map candidate_of (drop (picked_by picked picked_qid (regions r)) (windows r))
  pub picked_there : picked ≤ length (windows (region_picked picked_qid lives))

-- those that the device has, or is to take
pub record AreOuts (slots : List Slot) (regions : ℕ → Option ℕ) (hand : List Place) (outs left : List Item) : Type 0 where
  pub items : All (IsOutIn regions slots) outs
  pub apart : AreApart (tags_of outs)
  pub all : (x : ℕ) → (slot_at slots x).state ≡ 2 → IsAmongOuts outs x
  pub hand_is : hand ≡ places_of (outs ++ left)

-- those that are ready
pub record AreReadies (states : List CqState) (slots : List Slot) (lives regions sq_regions : ℕ → Option ℕ) (ready : ℕ → List Ready) (readies : ℕ → List ReadyItem) : Type 0 where
  pub chain : (q x : ℕ) → lives q ≡ Some x → IsChain slots (cq_at states q).ready (ready_tags (readies x))
  pub items : (x : ℕ) → All (IsReadyIn sq_regions slots) (readies x)
  pub none : (x : ℕ) → regions x ≡ None → readies x ≡ []
  pub are : (x : ℕ) → ready x ≡ readies_of (readies x)

-- and these are free
pub record AreFree (chain_of : Chain) (slots : List Slot) (free : List ℕ) : Type 0 where
  pub chain : IsChain slots chain_of free
  pub items : All (is_free slots) free

-- the slots have its commands
pub record HasItems (c : Controller) (slots : List Slot) (k : Content) (g : Items) : Type 0 where
  pub windows : AreWaiting c.sqs c.picked c.picked_qid slots k.sq_life k.sq_id (λ (r : ℕ). (k.sq r).window) g.windows
  pub outs : AreOuts slots k.sq_id k.hand g.outs (untaken c k g)
  pub readies : AreReadies c.cqs slots k.cq_life k.cq_id k.sq_id (λ (x : ℕ). (k.cq x).ready) g.readies
  -- the Deletes whose deletions are pending
  pub deletions : HasDeletions c.sqs c.pending_deletions slots k.sq_life k.deletion g.deletes
  pub free : AreFree c.free slots g.free
  pub few : length slots < 2 ^ 16

-- ---- its log
-- the rings of submission queues go by the doorbells and the fetches. Nothing is noted of a region that no queue was opened on
pub record AreSqRings (states : List SqState) (lives : ℕ → Option ℕ) (queues : ℕ → Option Attachment) (got : ℕ → List Sqe) (sent : ℕ → ℕ) : Type 0 where
  pub each : (q r : ℕ) → lives q ≡ Some r → HasCounts (sq_at states q).ring (length (got r)) (sent r)
  pub no_tails : (r : ℕ) → queues r ≡ None → sent r ≡ 0

-- and those of completion queues, with the phase tags, by the doorbells and the posts
pub record AreCqRings (states : List CqState) (lives : ℕ → Option ℕ) (is_opened : ℕ → Bool) (seen : ℕ → ℕ) (done : ℕ → List Cqe) : Type 0 where
  pub each : (q x : ℕ) → lives q ≡ Some x → HasCounts (cq_at states q).ring (seen x) (length (done x))
  pub phases : (q x : ℕ) → lives q ≡ Some x → ((cq_at states q).phase == 1) ≡ phase_after (length (done x)) (cq_at states q).ring.slots
  pub no_heads : (x : ℕ) → is_opened x ≡ false → seen x ≡ 0
  pub no_posts : (x : ℕ) → is_opened x ≡ false → done x ≡ []

pub record HoldsDoorbells (rules : FrontRules) (notes : Notes) (c : Controller) (k : Content) : Type 0 where
  pub sqs : AreSqRings c.sqs k.sq_life (λ (r : ℕ). (k.sq r).queue) (fetched (logged notes)) (submitted rules notes)
  pub cqs : AreCqRings c.cqs k.cq_life (is_opened_cq (logged notes)) (consumed rules notes) (posted_to (logged notes))

-- a ready completion is through: its command was aborted, or answered so
abbrev pub IsThrough : Notes → Ready → Type 0
IsThrough notes t = (is_aborted (logged notes) t.place.region t.place.index ≡ true) ⊎ (answer_of notes t.place.region t.place.index ≡ Some (answer_in t))

-- the command of a place has no answer
abbrev pub IsUnanswered : Notes → Place → Type 0
IsUnanswered notes p = answer_of notes p.region p.index ≡ None

-- a command has the entry of its place
abbrev pub HasEntry : Past → Item → Type 0
HasEntry past it = entry_at past it.place.region it.place.index ≡ Some it.entry

-- a slot has what the caller keeps with the command of a place
abbrev pub IsCookie : Notes → List Slot → (tag : ℕ) → Place → Type 0
IsCookie notes slots tag p = cookie_of notes p.region p.index ≡ Some (slot_at slots tag).cookie

abbrev pub HasCookie : Notes → List Slot → Item → Type 0
HasCookie notes slots it = IsCookie notes slots it.tag it.place

abbrev pub HasReadyCookie : Notes → List Slot → ReadyItem → Type 0
HasReadyCookie notes slots y = IsCookie notes slots y.tag y.ready.place

-- so has each slot with a command
pub record HoldsCookies (notes : Notes) (slots : List Slot) (g : Items) : Type 0 where
  pub windows : (r : ℕ) → All (HasCookie notes slots) (g.windows r)
  pub outs : All (HasCookie notes slots) g.outs
  pub readies : (x : ℕ) → All (HasReadyCookie notes slots) (g.readies x)
  pub deletes : (r : ℕ) (it : DeleteItem) → g.deletes r ≡ Some it → IsCookie notes slots it.tag (place_at 0 it.index)
  pub none : (r i : ℕ) → length (fetched (logged notes) r) ≤ i → cookie_of notes r i ≡ None

-- the place of an admin command that was passed on
abbrev pub is_passed_at : Notes → Place → Bool
is_passed_at notes p = p.region == 0 && is_passed notes p.index

abbrev pub IsDevices : Notes → Place → Type 0
IsDevices notes p = is_of_device notes p.region p.index ≡ true

abbrev pub IsReadyOf : Notes → ReadyItem → Type 0
IsReadyOf notes y = y.ready.passed ≡ is_passed_at notes y.ready.place

-- what was handed over is the device's, and what was passed on waits no longer. What is ready was passed on or not, and no pending Delete was
pub record HoldsPassed (notes : Notes) (g : Items) : Type 0 where
  pub all_handed : All (IsDevices notes) (handed notes)
  pub served : (i : ℕ) → is_passed notes i ≡ true → is_waiting (fate_of (logged notes) 0 i) ≡ false
  pub readies : (x : ℕ) → All (IsReadyOf notes) (g.readies x)
  pub deletes : (r : ℕ) (it : DeleteItem) → g.deletes r ≡ Some it → is_passed notes it.index ≡ false

-- the completion of a place isn't flagged by the device
abbrev pub IsUnflagged : Notes → Place → Type 0
IsUnflagged notes p = flags_of notes p.region p.index ≡ None

-- a ready completion has the flags of its place
abbrev pub HasFlags : Notes → ReadyItem → Type 0
HasFlags notes y = y.flags ≡ flags_or y.ready.status (flags_of notes y.ready.place.region y.ready.place.index)

-- the tags that are held are those of the commands that the device had, and an answered one isn't out
pub record AreHeld (holders : ℕ → Option Place) (outs_by : ℕ → Bool) (slots : List Slot) (outs_of : List Item) (ready : ℕ → List ReadyItem) : Type 0 where
  pub outs : All (λ (it : Item). holders it.tag ≡ Some it.place) outs_of
  pub readies : (x : ℕ) → All (λ (y : ReadyItem). y.was_out ≡ true → holders y.tag ≡ Some y.ready.place) (ready x)
  pub none : (t : ℕ) → (slot_at slots t).state ≢ 2 → (slot_at slots t).state ≢ 3 → holders t ≡ None
  pub answered : (t : ℕ) → (slot_at slots t).state ≡ 3 → outs_by t ≡ false

-- nothing is answered that waits, that the device has or whose deletion is pending, nor what wasn't fetched
pub record AreUnanswered (answers : ℕ → ℕ → Option Answer) (got : ℕ → List Sqe) (waiting : ℕ → List Item) (outs_of : List Item) (deleting : ℕ → Option DeleteItem) : Type 0 where
  pub windows : (r : ℕ) → All (λ (it : Item). answers it.place.region it.place.index ≡ None) (waiting r)
  pub outs : All (λ (it : Item). answers it.place.region it.place.index ≡ None) outs_of
  pub deletes : (r : ℕ) (it : DeleteItem) → deleting r ≡ Some it → answers 0 it.index ≡ None
  pub none : (r i : ℕ) → length (got r) ≤ i → answers r i ≡ None

-- what isn't answered isn't flagged, and what is ready has its flags
pub record AreFlagged (answers : ℕ → ℕ → Option Answer) (flags_at : ℕ → ℕ → Option StatusFlags) (ready : ℕ → List ReadyItem) : Type 0 where
  pub none : (r i : ℕ) → answers r i ≡ None → flags_at r i ≡ None
  pub readies : (x : ℕ) → All (λ (y : ReadyItem). y.flags ≡ flags_or y.ready.status (flags_at y.ready.place.region y.ready.place.index)) (ready x)

-- the tags, the answers, the cookies and the flags are those of the log, where these commands are picked and not taken, and this many slots are free
pub record AreTags (notes : Notes) (slots : List Slot) (g : Items) (left : List Item) (free : ℕ) : Type 0 where
  pub untaken_are : handed notes ≡ taken notes ++ places_of left
  pub held : AreHeld (holder notes) (is_out notes) slots g.outs g.readies
  pub through : (x : ℕ) → All (λ (y : ReadyItem). IsThrough notes y.ready) (g.readies x)
  pub unanswered : AreUnanswered (answer_of notes) (fetched (logged notes)) g.windows g.outs g.deletes
  -- what is picked and unanswered has the entry of its place
  pub hand_entries : All (HasEntry (logged notes)) (g.outs ++ left)
  -- each slot that isn't free has a command that was fetched and whose completion isn't posted
  pub free_count : free + all_fetches (logged notes) ≡ length slots + all_posts (logged notes)
  pub cookies : HoldsCookies notes slots g
  pub passed : HoldsPassed notes g
  pub flagged : AreFlagged (answer_of notes) (flags_of notes) g.readies

abbrev pub HoldsTags : Notes → Controller → List Slot → Content → Items → Type 0
HoldsTags notes c slots k g = AreTags notes slots g (untaken c k g) c.free.len

-- a controller stands at its log. The log is accounted where no region was added late
pub record StandsAt (rules : FrontRules) (late : Bool) (notes : Notes) (c : Controller) (slots : List Slot) : Type 0 where
  pub content : Content
  pub items : Items
  pub holds : Holds rules late (logged notes) content
  pub numbers : HasNumbers c content
  pub has : HasItems c slots content items
  pub doorbells : HoldsDoorbells rules notes c content
  pub tags : HoldsTags notes c slots content items
  pub shown : HoldsShown notes content
  pub ordered : HoldsOrder notes content
  pub regions : HasRegionsMade content
  pub account : late ≡ false → IsAccount rules notes
