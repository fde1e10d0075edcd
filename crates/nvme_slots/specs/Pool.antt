-- A pool of slots, and the chains that link them (profile).
use Rattle.std.specs.Prelude.{◌≡◌, ◌≢◌, ℕ, ◌+◌, ◌-◌, ◌<◌, ◌==◌, min, Bool, if◌then◌else◌, List, [], ◌∷◌, length, get_or, slice_set, Option, Some, None}
use Rattle.std.specs.List.{All}
use Rattle.nvme_entry.specs.declared.submission.Sqe.{Sqe}
use Rattle.nvme_ctrl_log.specs.declared.status_flags.StatusFlags.{StatusFlags}
use Rattle.nvme_slots.specs.declared.slot.Slot.{Slot}
use Rattle.nvme_slots.specs.declared.chain.Chain.{Chain}

abbrev pub no_entry : Sqe
no_entry = record {
  opcode = 0;
  flags = 0;
  cid = 0;
  nsid = 0;
  cdw2 = 0;
  cdw3 = 0;
  mptr = 0;
  prp1 = 0;
  prp2 = 0;
  cdw10 = 0;
  cdw11 = 0;
  cdw12 = 0;
  cdw13 = 0;
  cdw14 = 0;
  cdw15 = 0;
}

abbrev pub no_slot : Slot
no_slot = record { entry = no_entry; cookie = 0; dw0 = 0; next = 0; generation = 0; sct = 0; sc = 0; sqid = 0; state = 0; more = 0; do_not_retry = 0 }

-- a slot of a pool; beyond its end, a free one
abbrev pub slot_at : List Slot → ℕ → Slot
slot_at slots x = get_or slots x no_slot

-- a mark as a slot has it, and the flags in a slot
abbrev pub bit : Bool → ℕ
bit mark = if mark then 1 else 0

abbrev pub flags_in : Slot → StatusFlags
flags_in s = record { more = s.more == 1; do_not_retry = s.do_not_retry == 1 }

-- what is in a slot, and the slot that it links to
abbrev pub item_at : List Slot → ℕ → Slot
item_at slots x = record (slot_at slots x) { next = 0 }

abbrev pub next_at : List Slot → ℕ → ℕ
next_at slots x = (slot_at slots x).next

-- a slot linked to another, and one with something else in it
abbrev pub put_next : List Slot → ℕ → ℕ → List Slot
put_next slots x next = slice_set slots x (record (slot_at slots x) { next = next })

abbrev pub put_item : List Slot → ℕ → Slot → List Slot
put_item slots x slot = slice_set slots x (record slot { next = next_at slots x })

-- ---- chains
-- a number is none of these
abbrev pub IsNew : ℕ → List ℕ → Type 0
IsNew x xs = All (λ (y : ℕ). y ≢ x) xs

-- no number stands twice
abbrev pub AreApart : List ℕ → Type 0
AreApart [] = Unit {0}
AreApart (x ∷ xs) = IsNew x xs × AreApart xs

-- each slot is linked to the one after it, from the first to the last
abbrev pub AreLinked : List Slot → (first last : ℕ) → List ℕ → Type 0
AreLinked slots first last [] = Unit {0}
AreLinked slots first last (x ∷ []) = (first ≡ x) × (last ≡ x)
AreLinked slots first last (x ∷ y ∷ rest) = (first ≡ x) × AreLinked slots (next_at slots x) last (y ∷ rest)

-- a chain has these slots, in their order
pub record IsChain (slots : List Slot) (chain : Chain) (xs : List ℕ) : Type 0 where
  pub len_is : chain.len ≡ length xs
  pub inside : All (λ (x : ℕ). x < length slots) xs
  pub apart : AreApart xs
  pub linked : AreLinked slots chain.first chain.last xs

-- the pool after a slot was pushed onto a chain
abbrev pub pushed : List Slot → Chain → ℕ → List Slot
pushed slots chain x = if chain.len == 0 then slots else put_next slots chain.last x

-- and that chain
abbrev pub longer : Chain → ℕ → Chain
longer chain x = record { first = if chain.len == 0 then x else chain.first; last = x; len = min (chain.len + 1) 65535 }

-- the first slot of a chain, and the chain without it
abbrev pub first_of : Chain → Option ℕ
first_of chain = if chain.len == 0 then None else Some chain.first

abbrev pub shorter : List Slot → Chain → Chain
shorter slots chain = if chain.len == 0 then chain else record chain { first = next_at slots chain.first; len = chain.len - 1 }

-- the oldest slot of a chain whose command has an identifier, and the others
abbrev pub named_in : List Slot → (cid : ℕ) → List ℕ → Option ℕ
named_in slots cid [] = None
named_in slots cid (x ∷ xs) = if (slot_at slots x).entry.cid == cid then Some x else named_in slots cid xs

abbrev pub without_named : List Slot → (cid : ℕ) → List ℕ → List ℕ
without_named slots cid [] = []
without_named slots cid (x ∷ xs) = if (slot_at slots x).entry.cid == cid then xs else x ∷ without_named slots cid xs

-- that slot with the one before it
abbrev pub found_in : List Slot → (cid before : ℕ) → List ℕ → Option (ℕ × ℕ)
found_in slots cid before [] = None
found_in slots cid before (x ∷ xs) = if (slot_at slots x).entry.cid == cid then Some (before, x) else found_in slots cid x xs

-- what is in each slot is left
pub record SameItems (old new : List Slot) : Type 0 where
  pub size : length new ≡ length old
  pub items : (x : ℕ) → item_at new x ≡ item_at old x

-- the links of all slots but these are left
abbrev pub SameLinks : List ℕ → (old new : List Slot) → Type 0
SameLinks xs old new = (x : ℕ) → IsNew x xs → next_at new x ≡ next_at old x
