-- The states and the queues of slots, by which they are apart.
use Rattle.std.proofs.Common.{◌≡◌, ◌≢◌, ℕ, ◌≤◌, List, Option, sym, subst}
use Rattle.std.specs.List.{All}
use Rattle.std.proofs.lemmas.List.Elements.{All-map, All-weaker}
use Rattle.nvme_slots.specs.declared.slot.Slot.{Slot}
use Rattle.nvme_ctrl.specs.kept.Kept.{Item, ReadyItem, IsWaitingIn, IsReadyIn, tags_of, ready_tags}
use Rattle.nvme_slots.specs.Pool.{slot_at, IsNew}
use Rattle.nvme_ctrl.proofs.SlotItems.{ready_state-range}

-- the slots of what waits in a queue, and of what is ready
pub window-states : (slots : List Slot) (q r : ℕ) (items : List Item) → All (IsWaitingIn slots q r) items → All (λ (t : ℕ). (slot_at slots t).state ≡ 1) (tags_of items)
window-states slots q r items h =
    All-map (λ (t : ℕ). (slot_at slots t).state ≡ 1) (λ (it : Item). it.tag) items
    (All-weaker (IsWaitingIn slots q r) (λ (it : Item). (slot_at slots it.tag).state ≡ 1) (λ it w. w.state) items h)

pub window-queues : (slots : List Slot) (q r : ℕ) (items : List Item) → All (IsWaitingIn slots q r) items → All (λ (t : ℕ). (slot_at slots t).sqid ≡ q) (tags_of items)
window-queues slots q r items h =
    All-map (λ (t : ℕ). (slot_at slots t).sqid ≡ q) (λ (it : Item). it.tag) items
    (All-weaker (IsWaitingIn slots q r) (λ (it : Item). (slot_at slots it.tag).sqid ≡ q) (λ it w. w.queue) items h)

pub ready-states : (ids : ℕ → Option ℕ) (slots : List Slot) (items : List ReadyItem) → All (IsReadyIn ids slots) items → All (λ (t : ℕ). 3 ≤ (slot_at slots t).state) (ready_tags items)
ready-states ids slots items h =
    All-map (λ (t : ℕ). 3 ≤ (slot_at slots t).state) (λ (x : ReadyItem). x.tag) items
    (All-weaker (IsReadyIn ids slots) (λ (x : ReadyItem). 3 ≤ (slot_at slots x.tag).state)
    (λ x w. subst (λ (n : ℕ). 3 ≤ n) (sym w.state) (ready_state-range x.was_out x.ready.with_queue).0) items h)

-- numbers of which something is said that isn't so of others are new to those
pub apart-by : (P Q : ℕ → Type 0) → ((x : ℕ) → P x → Q x → ⊥) → (xs ys : List ℕ) → All P xs → All Q ys → All (λ (x : ℕ). IsNew x ys) xs
apart-by P Q differ xs ys ps qs =
    All-weaker P (λ (x : ℕ). IsNew x ys) (λ x p. All-weaker Q (λ (y : ℕ). y ≢ x) (λ y q same. differ x p (subst Q same q)) ys qs) xs ps
