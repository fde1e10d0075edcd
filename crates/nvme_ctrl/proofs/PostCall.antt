-- A post: what its function did, the command whose completion is posted, and that it may be.
use Rattle.std.proofs.Common.{◌≡◌, ℕ, ◌+◌, ◌-◌, ◌<◌, ◌^◌, ◌%◌, ◌==◌, not, Bool, if◌then◌else◌, List, [], ◌∷◌, ◌++◌, length, Option, Some, None, sym, ap, ◌∙◌, arith}
use Rattle.std.specs.Prelude.{slice_set, option_map}
use Rattle.std.proofs.lemmas.Option.{same_Some}
use Rattle.std.proofs.lemmas.List.Elements.{All-head, All-same}
use Rattle.nvme_entry.specs.declared.submission.Sqe.{Sqe}
use Rattle.nvme_entry.specs.declared.completion.Cqe.{Cqe}
use Rattle.nvme_log.specs.declared.event.Event.{Event}
use Rattle.nvme_log.specs.Rules.{FrontRules, Past}
use Rattle.nvme_log.specs.Places.{fetched}
use Rattle.nvme_log.specs.Completions.{posted_to, phase_after}
use Rattle.nvme_ctrl_log.specs.Notes.{Notes, Logged, logged}
use Rattle.nvme_ctrl_log.specs.Doorbells.{gap}
use Rattle.nvme_slots.specs.Rings.{HasCounts}
use Rattle.nvme_slots.specs.declared.slot.Slot.{Slot}
use Rattle.nvme_slots.specs.declared.chain.Chain.{Chain}
use Rattle.nvme_ctrl.specs.declared.state.SqState.{SqState}
use Rattle.nvme_ctrl.specs.declared.state.CqState.{CqState}
use Rattle.nvme_ctrl.specs.declared.state.Controller.{Controller}
use Rattle.nvme_ctrl_content.specs.Content.{Attachment, Content}
use Rattle.nvme_ctrl_content.specs.Standing.{IsReady, Holds}
use Rattle.nvme_slots.specs.Pool.{slot_at, put_item, IsNew, IsChain, SameItems, SameLinks}
use Rattle.nvme_ctrl.specs.kept.State.{sq_at, cq_at}
use Rattle.nvme_ctrl.specs.kept.Kept.{ReadyItem, Items, readies_of, IsReadyIn, StandsAt}
use Rattle.nvme_ctrl.specs.Posts.{completion_of}
use Rattle.nvme_ctrl_content.proofs.AfterSteps.{CanPost, post_event, after_post}
use Rattle.nvme_ctrl_content.proofs.Standing.{holds-post}
use Rattle.nvme_ctrl.specs.kept.QueueSets.{with_queue}

-- the pool where a slot's command is gone
abbrev pub freed : List Slot → ℕ → List Slot
freed slots tag = put_item slots tag (record (slot_at slots tag) { state = 0 })

-- what the function did: it took the first ready slot of a region in a state, wrote to the ring, and put the slot of a pool behind the free ones
pub record HasDone (old : CqState) (before : Chain) (slots pool : List Slot) (tag : ℕ) (cq : CqState) (free : Chain) (new : List Slot) : Type 0 where
  pub room : gap old.ring.slots old.ring.head old.ring.tail + 1 < old.ring.slots
  pub some : IsChain slots old.ready [] → ⊥
  pub first : (y : ℕ) (rest : List ℕ) → IsChain slots old.ready (y ∷ rest) → y ≡ tag
  pub rest : (y : ℕ) (rest : List ℕ) → IsChain slots old.ready (y ∷ rest) → IsChain slots cq.ready rest
  pub counts : (read written : ℕ) → HasCounts old.ring read written → written + 1 < read + old.ring.slots → HasCounts cq.ring read (written + 1)
  pub phase : (read written : ℕ) → HasCounts old.ring read written → written + 1 < read + old.ring.slots
      → (old.phase == 1) ≡ phase_after written old.ring.slots → (cq.phase == 1) ≡ phase_after (written + 1) old.ring.slots
  pub same_slots : cq.ring.slots ≡ old.ring.slots
  pub chain : (xs : List ℕ) → IsChain pool before xs → tag < length pool → IsNew tag xs → length xs + 1 < 2 ^ 16 → IsChain new free (xs ++ tag ∷ [])
  pub items : SameItems pool new
  pub links : (xs : List ℕ) → IsChain pool before xs → SameLinks xs pool new

-- a controller that stands, of which the oldest ready completion of an open completion queue is posted
pub record PostCall : Type 0 where
  pub rules : FrontRules
  pub late : Bool
  pub notes : Notes
  pub c : Controller
  pub slots : List Slot
  pub cqid : ℕ
  pub x : ℕ
  pub item : ReadyItem
  pub rest : List ReadyItem
  pub cq : CqState
  pub free : Chain
  pub new : List Slot
  pub stands : StandsAt rules late notes c slots
  pub life : stands.content.cq_life cqid ≡ Some x
  pub are : stands.items.readies x ≡ item ∷ rest
  pub did : HasDone (cq_at c.cqs cqid) c.free slots (freed slots item.tag) item.tag cq free new

abbrev pub content : PostCall → Content
content p = p.stands.content

abbrev pub past_of : PostCall → Past
past_of p = logged p.notes

abbrev pub command : PostCall → Slot
command p = slot_at p.slots p.item.tag

abbrev pub region : PostCall → ℕ
region p = p.item.ready.place.region

abbrev pub index : PostCall → ℕ
index p = p.item.ready.place.index

abbrev pub cqe_of : PostCall → Cqe
cqe_of p = completion_of p.c (command p) ((cq_at p.c.cqs p.cqid).phase == 1)

abbrev pub event_of : PostCall → Event
event_of p = post_event p.x p.item.ready (cqe_of p)

abbrev pub later : PostCall → Past
later p = event_of p ∷ past_of p

abbrev pub notes_after : PostCall → Notes
notes_after p = Logged (event_of p) ∷ p.notes

abbrev pub content_after : PostCall → Content
content_after p = after_post (content p) p.x p.item.ready (readies_of p.rest) (cqe_of p)

-- the state of its queue, and the controller, afterwards
abbrev pub sq_after : Controller → ℕ → SqState
sq_after c q = record (sq_at c.sqs q) { unposted = (sq_at c.sqs q).unposted - 1 }

abbrev pub controller_after : PostCall → Controller
controller_after p = record p.c {
  sqs = slice_set p.c.sqs (command p).sqid (sq_after p.c (command p).sqid);
  cqs = slice_set p.c.cqs p.cqid p.cq;
  readied = with_queue p.c.readied p.cqid (not (p.cq.ready.len == 0));
  outstanding = if (command p).state == 5 then p.c.outstanding else p.c.outstanding - 1;
  free = p.free;
}

abbrev pub put_readies : (ℕ → List ReadyItem) → ℕ → List ReadyItem → ℕ → List ReadyItem
put_readies readies x items y = if y == x then items else readies y

abbrev pub items_after : PostCall → Items
items_after p = record p.stands.items { readies = put_readies p.stands.items.readies p.x p.rest; free = p.stands.items.free ++ p.item.tag ∷ [] }

-- ---- the command that is posted
pub ready_in : (p : PostCall) → IsReadyIn (content p).sq_id p.slots p.item
ready_in p =
    let P = IsReadyIn (content p).sq_id p.slots in
    All-head P p.item p.rest (All-same P (p.item ∷ p.rest) (p.stands.items.readies p.x) (sym p.are) (p.stands.has.readies.items p.x))

-- its queue is open or closing, and on its region
pub life_is : (p : PostCall) → (content p).sq_life (command p).sqid ≡ Some (region p)
life_is p = p.stands.numbers.sqs.ids.lives_are (region p) (command p).sqid (ready_in p).queue

pub oldest_is : (p : PostCall) → ((content p).cq p.x).ready ≡ p.item.ready ∷ readies_of p.rest
oldest_is p = p.stands.has.readies.are p.x ∙ ap readies_of p.are

pub is_ready : (p : PostCall) → IsReady (past_of p) (content p).deletion p.x p.item.ready
is_ready p =
    let P = IsReady (past_of p) (content p).deletion p.x in
    All-head P p.item.ready (readies_of p.rest) (All-same P (p.item.ready ∷ readies_of p.rest) ((content p).cq p.x).ready (sym (oldest_is p)) (p.stands.holds.ready.each p.x))

-- the queue of a region, by its identifier and the region that it posts to
attached_by : (o : Option Attachment) (q c : ℕ) → Some q ≡ option_map (λ (a : Attachment). a.qid) o → Some c ≡ option_map (λ (a : Attachment). a.cq_region) o
    → o ≡ Some (record { qid = q; cq_region = c })
attached_by None q c h g = cc h
attached_by (Some a) q c h g =
    let hq : q ≡ a.qid = same_Some q a.qid h in
    let hc : c ≡ a.cq_region = same_Some c a.cq_region g in
    λ j. Some (record { qid = (sym hq) j; cq_region = (sym hc) j })

pub attached_is : (p : PostCall) → ((content p).sq (region p)).queue ≡ Some (record { qid = p.item.ready.sqid; cq_region = p.x })
attached_is p =
    attached_by ((content p).sq (region p)).queue p.item.ready.sqid p.x
    (sym (is_ready p).queue ∙ p.stands.holds.queues.qid_is (region p))
    (sym (is_ready p).region ∙ p.stands.holds.queues.cq_region_is (region p))

pub posts_there : (p : PostCall) → p.x < (content p).ncq
posts_there p = p.stands.holds.queues.posts_there (region p) (record { qid = p.item.ready.sqid; cq_region = p.x }) (attached_is p)

pub sqs_have : (p : PostCall) → (command p).sqid < length p.c.sqs
sqs_have p = omega (arith, p.stands.numbers.sqs.few (command p).sqid (region p) (life_is p), p.stands.numbers.sqs.size)

pub cqs_have : (p : PostCall) → p.cqid < length p.c.cqs
cqs_have p = omega (arith, p.stands.numbers.cqs.few p.cqid p.x p.life, p.stands.numbers.cqs.size)

-- ---- its completion
small_mod : (n : ℕ) → n < 8 → n % 8 ≡ n
small_mod n h = omega (arith, h)

pub can_post : (p : PostCall) → CanPost (past_of p) (content p) p.x p.item.ready (readies_of p.rest) (cqe_of p)
can_post p =
    let s = p.stands in
    let i = ready_in p in
    let r : ℕ = region p in
    let fetches : length (fetched (past_of p) r) ≡ ((content p).sq r).fetched = ap (λ (xs : List Sqe). length xs) (s.holds.regions r).fetched_is ∙ sym (s.holds.regions r).counted in
    let posts : length (posted_to (past_of p) p.x) ≡ ((content p).cq p.x).posted = ap (λ (xs : List Cqe). length xs) (s.holds.posts.posted_is p.x) ∙ sym (s.holds.posts.counted p.x) in
    let types : (command p).sct % 8 ≡ p.item.ready.status.sct = small_mod (command p).sct i.few_types ∙ i.sct in
    record {
      oldest = oldest_is p;
      there = posts_there p;
      attached = attached_is p;
      sqid = i.sqid;
      cid = i.cid;
      status = λ j. record { sct = types j; sc = i.sc j };
      dw0 = i.dw0;
      sqhd = (s.doorbells.sqs.each (command p).sqid r (life_is p)).head_is ∙ (λ j. fetches j % (s.numbers.sqs.each (command p).sqid r (life_is p)).slots j);
      phase = s.doorbells.cqs.phases p.cqid p.x p.life ∙ (λ j. phase_after (posts j) ((s.numbers.cqs.each p.cqid p.x p.life).slots j));
    }

-- what the controller keeps holds afterwards
pub holds_after : (p : PostCall) → Holds p.rules p.late (later p) (content_after p)
holds_after p = holds-post p.rules p.late (past_of p) (content p) p.x p.item.ready (readies_of p.rest) (cqe_of p) p.stands.holds (can_post p)
