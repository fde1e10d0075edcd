-- A controller that stands at its notes keeps its content there.
use Rattle.std.proofs.Common.{◌≡◌, ◌≢◌, ℕ, Bool, List, Option, Some, sym, ap, ◌∙◌}
use Rattle.std.specs.Prelude.{unwrap_or}
use Rattle.std.specs.List.{All}
use Rattle.std.proofs.lemmas.List.Elements.{All-weaker, All-map, All-same}
use Rattle.std.proofs.lemmas.Option.{same_Some}
use Rattle.nvme_log.specs.Rules.{FrontRules}
use Rattle.nvme_log.specs.Queues.{cq_region_of}
use Rattle.nvme_ctrl_log.specs.Notes.{Notes, logged}
use Rattle.nvme_slots.specs.declared.slot.Slot.{Slot}
use Rattle.nvme_ctrl.specs.declared.state.Controller.{Controller}
use Rattle.nvme_ctrl_content.specs.Standing.{IsReady}
use Rattle.nvme_ctrl.specs.kept.Kept.{ReadyItem, IsReadyIn, StandsAt, readies_of, ready_tags}
use Rattle.nvme_ctrl.specs.inside.Loose.{AreReadiesApart, Keeps}
use Rattle.nvme_slots.specs.Pool.{slot_at, IsNew}
use Rattle.nvme_ctrl_content.proofs.OwnStatus.{All-unmap}
use Rattle.nvme_ctrl.proofs.SlotItems.{All-both}

module _ (rules : FrontRules) (late : Bool) (notes : Notes) (c : Controller) (slots : List Slot) (s : StandsAt rules late notes c slots) where
  -- the region of the queue of a slot
  abbrev region_at : ℕ → ℕ
  region_at x = unwrap_or (s.content.sq_life (slot_at slots x).sqid) 0

  -- the completion region of the slot of a ready command
  in_region : (x : ℕ) → All (λ (it : ReadyItem). cq_region_of (logged notes) (region_at it.tag) ≡ Some x) (s.items.readies x)
  in_region x =
      All-both (IsReadyIn s.content.sq_id slots) (λ (it : ReadyItem). IsReady (logged notes) s.content.deletion x it.ready) (λ (it : ReadyItem). cq_region_of (logged notes) (region_at it.tag) ≡ Some x)
      (λ it r is.
      ap (λ (o : Option ℕ). cq_region_of (logged notes) (unwrap_or o 0)) (s.numbers.sqs.ids.lives_are it.ready.place.region (slot_at slots it.tag).sqid r.queue) ∙ is.region)
      (s.items.readies x) (s.has.readies.items x)
      (All-unmap (IsReady (logged notes) s.content.deletion x) (λ (it : ReadyItem). it.ready) (s.items.readies x)
      (All-same (IsReady (logged notes) s.content.deletion x) (readies_of (s.items.readies x)) (s.content.cq x).ready (sym (s.has.readies.are x)) (s.holds.ready.each x)))

  -- no slot is ready in two of them
  pub readies_are_apart : AreReadiesApart s.items
  readies_are_apart x y differ =
      All-map (λ (tag : ℕ). IsNew tag (ready_tags (s.items.readies y))) (λ (it : ReadyItem). it.tag) (s.items.readies x)
      (All-weaker (λ (it : ReadyItem). cq_region_of (logged notes) (region_at it.tag) ≡ Some x) (λ (it : ReadyItem). IsNew it.tag (ready_tags (s.items.readies y)))
      (λ it here.
      All-map (λ (tag : ℕ). tag ≢ it.tag) (λ (other : ReadyItem). other.tag) (s.items.readies y)
      (All-weaker (λ (other : ReadyItem). cq_region_of (logged notes) (region_at other.tag) ≡ Some y) (λ (other : ReadyItem). other.tag ≢ it.tag)
      (λ other there e. differ (same_Some x y (sym here ∙ ap (λ (z : ℕ). cq_region_of (logged notes) (region_at z)) (sym e) ∙ there))) (s.items.readies y) (in_region y)))
      (s.items.readies x) (in_region x))

  -- so all is kept
  pub keeps_standing : Keeps rules notes c slots s.content s.items
  keeps_standing = record { numbers = s.numbers; has = s.has; doorbells = s.doorbells; tags = s.tags; apart = readies_are_apart }
