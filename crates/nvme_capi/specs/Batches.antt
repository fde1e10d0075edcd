-- Calls over arrays: what the single call does, for one item after the other (profile).
use Rattle.std.specs.Prelude.{◌≡◌, ℕ, Bool, true, List, [], ◌∷◌, length, zip, Some, None, IsSomeAnd}
use Rattle.std.specs.Simd.{first_chunks}
use Rattle.nvme_entry.specs.Submission.{IsSubmissionEntry}
use Rattle.nvme_entry.specs.declared.submission.Sqe.{Sqe}
use Rattle.nvme_log.specs.Rules.{FrontRules}
use Rattle.nvme_log.specs.Queues.{open_cq}
use Rattle.nvme_log.specs.Places.{entry_at}
use Rattle.nvme_log.specs.declared.place.Place.{Place}
use Rattle.nvme_ctrl_log.specs.Notes.{Notes, logged}
use Rattle.nvme_ctrl.specs.Standing.{Stands}
use Rattle.nvme_ctrl_log.specs.Tags.{handed, taken, is_out, holder, cookie_of}
use Rattle.nvme_slots.specs.Generations.{SameGenerations, IsNextGeneration, tag_of}
use Rattle.nvme_ctrl.specs.Calls.{depth_of, HasFetched, HasTaken}
use Rattle.nvme_ctrl_log.specs.Calls.{MayFetch}
use Rattle.nvme_ctrl_log.specs.Posts.{NonePostable}
use Rattle.nvme_ctrl.specs.Posts.{next_post_of}
use Rattle.nvme_ctrl.specs.NextQueue.{HasFetch, HasPost}
use Rattle.nvme_slots.specs.declared.slot.Slot.{Slot}
use Rattle.nvme_ctrl.specs.declared.state.Controller.{Controller}
use Rattle.nvme_capi.specs.Controllers.{IsCommandIn, HasPostedBytes, IsPostIn}
use Rattle.nvme_capi.specs.declared.ctrl.state.CommandFields.{CommandFields}
use Rattle.nvme_capi.specs.declared.ctrl.state.PostFields.{PostFields}

-- a controller with its slots, which calls change together
pub record WithSlots : Type 0 where
  pub ctrl : Controller
  pub slots : List Slot

abbrev pub with_slots : Controller → List Slot → WithSlots
with_slots c slots = record { ctrl = c; slots = slots }

-- calls one after the other, one for each item, lead from the first state to the last
abbrev pub Each : {S X : Type 0} → (S → X → S → Type 0) → List X → S → S → Type 0
Each Call [] a b = b ≡ a
Each {S} Call (x ∷ xs) a b = (mid : S) × Call a x mid × Each Call xs mid b

-- ---- one call
-- an entry is fetched that is to be fetched next, of these bytes, with what the caller keeps with its command
pub record FetchesOne (qid : ℕ) (a : WithSlots) (it : List ℕ × ℕ) (b : WithSlots) : Type 0 where
  pub stands : (rules : FrontRules) (late : Bool) (notes : Notes) → Stands rules late notes a.ctrl a.slots → (entry : Sqe) → IsSubmissionEntry it.0 entry → HasFetched rules late notes qid entry it.1 b.ctrl b.slots
  pub generations : SameGenerations a.slots b.slots

-- the device takes a picked command, which is told
pub record TakesOne (a : WithSlots) (f : CommandFields) (b : WithSlots) : Type 0 where
  pub stands : (rules : FrontRules) (late : Bool) (notes : Notes) → Stands rules late notes a.ctrl a.slots → HasTaken rules late notes (tag_of f.tag).slot b.ctrl b.slots
  pub command : IsCommandIn b.slots (tag_of f.tag).slot f
  pub cookie : (rules : FrontRules) (late : Bool) (notes : Notes) → Stands rules late notes b.ctrl b.slots → (place : Place) → holder notes (tag_of f.tag).slot ≡ Some place → is_out notes (tag_of f.tag).slot ≡ true → cookie_of notes place.region place.index ≡ Some f.cookie
  pub entry : (rules : FrontRules) (late : Bool) (notes : Notes) → Stands rules late notes b.ctrl b.slots → (place : Place) → holder notes (tag_of f.tag).slot ≡ Some place → is_out notes (tag_of f.tag).slot ≡ true → entry_at (logged notes) place.region place.index ≡ Some f.entry
  pub generation : (rules : FrontRules) (late : Bool) (notes : Notes) → Stands rules late notes a.ctrl a.slots → IsNextGeneration a.slots b.slots (tag_of f.tag).slot

-- a completion is posted to a completion queue, whose bytes are told
pub record PostsOne (cqid : ℕ) (a : WithSlots) (f : PostFields) (b : WithSlots) : Type 0 where
  pub stands : (rules : FrontRules) (late : Bool) (notes : Notes) → Stands rules late notes a.ctrl a.slots → HasPostedBytes rules late notes cqid f b.ctrl b.slots
  pub command : IsPostIn a.slots f
  pub tag : IsSomeAnd (next_post_of a.ctrl a.slots cqid) (λ p. (tag_of f.tag).slot ≡ p.tag)
  pub due : HasPost a.ctrl a.slots cqid
  pub generations : SameGenerations a.slots b.slots

-- ---- no further call
-- no entry of a submission queue may be fetched
abbrev pub NoneToFetch : ℕ → WithSlots → Type 0
NoneToFetch qid a = (rules : FrontRules) (late : Bool) (notes : Notes) → Stands rules late notes a.ctrl a.slots → (slot : ℕ) → MayFetch rules notes (depth_of a.ctrl qid) (length a.slots) qid slot → ⊥

-- the entry of this slot of its ring is to be fetched next
abbrev pub IsToFetch : (qid slot : ℕ) → WithSlots → Type 0
IsToFetch qid slot a = (rules : FrontRules) (late : Bool) (notes : Notes) → Stands rules late notes a.ctrl a.slots → MayFetch rules notes (depth_of a.ctrl qid) (length a.slots) qid slot

-- an entry is to be fetched next, which isn't that of this slot
pub record IsOtherToFetch (qid slot : ℕ) (a : WithSlots) : Type 0 where
  pub some : (rules : FrontRules) (late : Bool) (notes : Notes) → Stands rules late notes a.ctrl a.slots → HasFetch rules notes a.ctrl a.slots qid
  pub not_this : (rules : FrontRules) (late : Bool) (notes : Notes) → Stands rules late notes a.ctrl a.slots → MayFetch rules notes (depth_of a.ctrl qid) (length a.slots) qid slot → ⊥

-- all picked commands are taken
abbrev pub NoneToTake : WithSlots → Type 0
NoneToTake a = (rules : FrontRules) (late : Bool) (notes : Notes) → Stands rules late notes a.ctrl a.slots → handed notes ≡ taken notes

-- no completion may be posted to a completion queue
pub record NoneToPost (cqid : ℕ) (a : WithSlots) : Type 0 where
  pub none_due : next_post_of a.ctrl a.slots cqid ≡ None
  pub none_postable : (rules : FrontRules) (late : Bool) (notes : Notes) → Stands rules late notes a.ctrl a.slots → (x : ℕ) → open_cq (logged notes) cqid ≡ Some x → NonePostable rules notes x

-- ---- the items of a fetch
-- the entries of 64 bytes that lie one behind the other, each with its cookie
abbrev pub entries_in : (bytes cookies : List ℕ) → List (List ℕ × ℕ)
entries_in bytes cookies = zip (first_chunks 64 (length cookies) bytes) cookies
