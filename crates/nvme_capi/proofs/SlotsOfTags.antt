-- The slots of tags, and what the device has of them.
use Rattle.std.proofs.Common.{◌≡◌, ℕ, ◌==◌, Bool, true, false, if◌then◌else◌, List, Option, Some, None, sym, ap, ◌∙◌, subst, true≢false}
use Rattle.std.specs.Prelude.{IsSomeAnd}
use Rattle.std.proofs.lemmas.Option.{same_Some}
use Rattle.nvme_slots.specs.Generations.{generation_at, tag_at, tag_of, slot_of}
use Rattle.nvme_ctrl_log.specs.Notes.{Notes}
use Rattle.nvme_ctrl_log.specs.Tags.{is_out}
use Rattle.nvme_slots.specs.declared.slot.Slot.{Slot}
use Rattle.nvme_slots.specs.declared.tag.Tag.{Tag}
use Rattle.nvme_capi.specs.Controllers.{IsOutUnder}

-- the device has the command of a tag's slot
pub out_under : (notes : Notes) (slots : List Slot) (tag slot : ℕ) → slot_of slots (tag_of tag) ≡ Some slot → is_out notes slot ≡ true → IsOutUnder notes slots tag
out_under notes slots tag slot is out = subst (λ (o : Option ℕ). IsSomeAnd o (λ x. is_out notes x ≡ true)) (sym is) out

-- or it has no such command
pub not_out_under : (notes : Notes) (slots : List Slot) (tag slot : ℕ) → slot_of slots (tag_of tag) ≡ Some slot → is_out notes slot ≡ false → IsOutUnder notes slots tag → ⊥
not_out_under notes slots tag slot is not_out under = true≢false (sym (subst (λ (o : Option ℕ). IsSomeAnd o (λ x. is_out notes x ≡ true)) is under) ∙ not_out)

-- the slot of a tag is its own
pub slot_is : (slots : List Slot) (tag slot : ℕ) → slot_of slots (tag_of tag) ≡ Some slot → slot ≡ (tag_of tag).slot
slot_is slots tag slot is = by (generation_at slots (tag_of tag).slot == (tag_of tag).generation) is where
  by : (b : Bool) → (if b then Some (tag_of tag).slot else None) ≡ Some slot → slot ≡ (tag_of tag).slot
  by true same = sym (same_Some (tag_of tag).slot slot same)
  by false none = cc none

-- the slot of a number's tag, and the tag that was made of a slot
pub found_slot : (slots : List Slot) (tag : ℕ) (t : Tag) (o : Option ℕ) (slot : ℕ) → t ≡ tag_of tag → o ≡ slot_of slots t → o ≡ Some slot → slot_of slots (tag_of tag) ≡ Some slot
found_slot slots tag t o slot made found is = ap (slot_of slots) (sym made) ∙ sym found ∙ is

pub told_slot : (slots : List Slot) (n slot : ℕ) (t : Tag) → tag_of n ≡ t → t ≡ tag_at slots slot → (tag_of n).slot ≡ slot
told_slot slots n slot t back at = ap (λ (x : Tag). x.slot) (back ∙ at)
