use Rattle.std.proofs.Common.{◌≡◌, ◌-◌, ℕ, List, Some, sym, ap, ◌∙◌, subst}
use Rattle.std.specs.Prelude.{option_map, Option}
use Rattle.nvme_slots.specs.declared.slot.Slot.{Slot}
use Rattle.nvme_slots.specs.declared.chain.Chain.{Chain}
use Rattle.nvme_slots.specs.Pool.{IsChain, found_in, next_at, put_next}
use Rattle.nvme_slots.proofs.Chains.{named-found, without-none, take-first, take-behind, found-links}
use Rattle.nvme_slots.proofs.chain.Chain.take_named.Goals.{then-x-self, else-x-self+then-x-self-2, else-x-self+else-x-self-2}
use Rattle.nvme_slots.proofs.chain.Chain.take_named.Goals as goal

pub returns-in_err-before-clause-named : goal.returns-in_err-before-clause-named
returns-in_err-before-clause-named c xs h =
    c.from_residual.ensures
    ∙ sym (named-found c.args.slots.now c.args.cid c.args.self.now.first xs ∙ ap (λ (o : Option (ℕ × ℕ)). option_map (λ (r : ℕ × ℕ). r.1) o) (sym (c.in_err-before.ensures xs h)))

pub returns-in_err-before-clause-rest : goal.returns-in_err-before-clause-rest
returns-in_err-before-clause-rest c xs h =
    subst (IsChain c.args.slots.now c.args.self.now) (sym (without-none c.args.slots.now c.args.cid c.args.self.now.first xs (c.in_err-before.ensures xs h))) h

pub returns-clause-named : goal.returns-clause-named
returns-clause-named c xs h =
    sym (named-found c.args.slots.now c.args.cid c.args.self.now.first xs ∙ ap (λ (o : Option (ℕ × ℕ)). option_map (λ (r : ℕ × ℕ). r.1) o) (sym (c.in_ok-before.ensures xs h)))

pub returns-clause-rest : goal.returns-clause-rest
returns-clause-rest c xs h = elim c.if-x-self.branch [
  | then-x-self w ↦ take-first now c.if-x-self.slots self c.args.cid xs b x c.if-x-self.self.first c.if-x-self.self.last c.saturating_sub-self.result h found
      w.if-x-self.true w.slots-is (ap (λ (k : Chain). k.first) w.self-is ∙ next) (ap (λ (k : Chain). k.last) w.self-is) (fewer (ap (λ (k : Chain). k.len) w.self-is))
  | else-x-self+then-x-self-2 w ↦ take-behind now c.if-x-self.slots self c.args.cid xs b x c.if-x-self.self.first c.if-x-self.self.last c.saturating_sub-self.result h found
      w.if-x-self.false (w.slots-is ∙ w.put_next.ensures ∙ ap (λ (n : ℕ). put_next now b n) next) (ap (λ (k : Chain). k.first) w.self-is)
      (λ _. ap (λ (k : Chain). k.last) w.self-is) (λ not. absurd (not w.if-x-self-2.true)) (fewer (ap (λ (k : Chain). k.len) w.self-is))
  | else-x-self+else-x-self-2 w ↦ take-behind now c.if-x-self.slots self c.args.cid xs b x c.if-x-self.self.first c.if-x-self.self.last c.saturating_sub-self.result h found
      w.if-x-self.false (w.slots-is ∙ w.put_next.ensures ∙ ap (λ (n : ℕ). put_next now b n) next) (ap (λ (k : Chain). k.first) w.self-is)
      (λ e. absurd (w.if-x-self-2.false e)) (λ _. ap (λ (k : Chain). k.last) w.self-is) (fewer (ap (λ (k : Chain). k.len) w.self-is))
]
  where
    now : List Slot
    now = c.args.slots.now

    self : Chain
    self = c.args.self.now

    b : ℕ
    b = c.in_ok-before.before

    x : ℕ
    x = c.in_ok-before.x

    found : Some (c.in_ok-before.before, c.in_ok-before.x) ≡ found_in c.args.slots.now c.args.cid c.args.self.now.first xs
    found = c.in_ok-before.ensures xs h

    next : c.slot_at-next.result.next ≡ next_at c.args.slots.now c.in_ok-before.x
    next = ap (λ (s : Slot). s.next) c.slot_at-next.ensures

    fewer : c.if-x-self.self.len ≡ c.args.self.now.len → c.saturating_sub-self.result ≡ c.args.self.now.len - 1
    fewer e = c.saturating_sub-self.ensures ∙ ap (λ (n : ℕ). n - 1) e

pub returns-clause-links : goal.returns-clause-links
returns-clause-links c xs h y new = elim c.if-x-self.branch [
  | then-x-self w ↦ ap (λ (pool : List Slot). next_at pool y) w.slots-is
  | else-x-self+then-x-self-2 w ↦ ap (λ (pool : List Slot). next_at pool y) (w.slots-is ∙ w.put_next.ensures)
      ∙ found-links c.args.slots.now c.args.self.now c.args.cid xs c.in_ok-before.before c.in_ok-before.x _ h (c.in_ok-before.ensures xs h) y new
  | else-x-self+else-x-self-2 w ↦ ap (λ (pool : List Slot). next_at pool y) (w.slots-is ∙ w.put_next.ensures)
      ∙ found-links c.args.slots.now c.args.self.now c.args.cid xs c.in_ok-before.before c.in_ok-before.x _ h (c.in_ok-before.ensures xs h) y new
]
