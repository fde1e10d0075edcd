-- A pool of which all slots are made free, one after the other.
use Rattle.std.proofs.Common.{◌≡◌, ℕ, suc, ◌+◌, ◌<◌, ◌^◌, List, [], ◌∷◌, ◌++◌, length, sym, ap, ◌∙◌, subst, arith, inl, inr}
use Rattle.std.proofs.lemmas.Bool.{cases_eq}
use Rattle.nvme_log.specs.Rules.{upto}
use Rattle.nvme_log.proofs.Fates.{length-upto}
use Rattle.nvme_log.proofs.Waiting.{upto-below}
use Rattle.nvme_slots.specs.declared.slot.Slot.{Slot}
use Rattle.nvme_slots.specs.declared.chain.Chain.{Chain}
use Rattle.nvme_slots.specs.Pool.{IsChain, IsNew, SameItems, slot_at, put_item}
use Rattle.nvme_slots.proofs.Pools.{IsNew-by, chain-put_item, length-put_item, slot_at-put_item_same, slot_at-put_item_other}

-- the first slots are free, and a chain
pub record IsFreed (slots : List Slot) (free : Chain) (n : ℕ) : Type 0 where
  pub chain : IsChain slots free (upto n)
  pub each : (y : ℕ) → y < n → (slot_at slots y).state ≡ 0

-- a number is new to those below it
new_upto : (n : ℕ) → IsNew n (upto n)
new_upto n = IsNew-by (λ (y : ℕ). y < n) n (upto n) (upto-below n) (λ below. omega (arith, below))

-- one slot more
pub frees_one : (slots put new : List Slot) (free after : Chain) (n : ℕ) (s : Slot) → s.state ≡ 0 → n < length slots → length slots < 2 ^ 16 → put ≡ put_item slots n s
    → ((xs : List ℕ) → IsChain put free xs → n < length put → IsNew n xs → length xs + 1 < 2 ^ 16 → IsChain new after (xs ++ n ∷ []))
    → SameItems put new → IsFreed slots free n → IsFreed new after (n + 1)
frees_one slots put new free after n s is_free there few is pushes items f =
    let size : length put ≡ length slots = ap (λ (p : List Slot). length p) is ∙ length-put_item slots n s in
    let next : suc n ≡ n + 1 = omega arith in
    record {
      chain = subst (λ (m : ℕ). IsChain new after (upto m)) next
          (pushes (upto n) (subst (λ (p : List Slot). IsChain p free (upto n)) (sym is) (chain-put_item slots free (upto n) n s f.chain))
          (omega (arith, size, there)) (new_upto n) (omega (arith, length-upto n, there, few)));
      each = λ y below. ap (λ (s : Slot). s.state) (items.items y) ∙ ap (λ (p : List Slot). (slot_at p y).state) is ∙ elim (cases_eq y n) [
        | inl same ↦ ap (λ (m : ℕ). (slot_at (put_item slots n s) m).state) same ∙ ap (λ (s : Slot). s.state) (slot_at-put_item_same slots n s there) ∙ is_free
        | inr other ↦ ap (λ (s : Slot). s.state) (slot_at-put_item_other slots n s y other) ∙ f.each y (omega (arith, below, other))
      ];
    }
