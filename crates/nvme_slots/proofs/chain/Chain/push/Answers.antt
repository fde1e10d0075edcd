use Rattle.std.proofs.Common.{◌≡◌, ◌∙◌, List, ap, arith}
use Rattle.nvme_slots.specs.declared.slot.Slot.{Slot}
use Rattle.nvme_slots.specs.declared.chain.Chain.{Chain}
use Rattle.nvme_slots.specs.Pool.{next_at}
use Rattle.nvme_slots.proofs.Chains.{push-first, push-behind, last-links}
use Rattle.nvme_slots.proofs.chain.Chain.push.Goals.{then-self-eq0, else-self-eq0}
use Rattle.nvme_slots.proofs.chain.Chain.push.Goals as goal

pub returns-clause-chain : goal.returns-clause-chain
returns-clause-chain c xs h within new few = elim c.if-self-eq0.branch [
  | then-self-eq0 w ↦ (let same : c.if-self-eq0.self.len ≡ c.args.self.now.len = ap (λ (k : Chain). k.len) w.self-is in
      push-first c.args.slots.now c.if-self-eq0.slots c.args.self.now xs c.args.x c.if-self-eq0.self.first c.saturating_add-self.result h w.if-self-eq0.true within w.slots-is
      (ap (λ (k : Chain). k.first) w.self-is) (omega (arith, h.len_is, c.saturating_add-self.ensures)))
  | else-self-eq0 w ↦ (let same : c.if-self-eq0.self.len ≡ c.args.self.now.len = ap (λ (k : Chain). k.len) w.self-is in
      push-behind c.args.slots.now c.if-self-eq0.slots c.args.self.now xs c.args.x c.if-self-eq0.self.first c.saturating_add-self.result h w.if-self-eq0.false within new
      (w.slots-is ∙ w.put_next.ensures) (ap (λ (k : Chain). k.first) w.self-is) (omega (arith, h.len_is, c.saturating_add-self.ensures)))
]

pub returns-clause-links : goal.returns-clause-links
returns-clause-links c xs h x new = elim c.if-self-eq0.branch [
  | then-self-eq0 w ↦ ap (λ (pool : List Slot). next_at pool x) w.slots-is
  | else-self-eq0 w ↦ ap (λ (pool : List Slot). next_at pool x) (w.slots-is ∙ w.put_next.ensures) ∙ last-links c.args.slots.now c.args.self.now xs c.args.x h w.if-self-eq0.false x new
]
