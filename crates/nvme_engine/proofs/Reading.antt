-- The head doorbell follows a post.
use Rattle.std.proofs.Common.{◌≡◌, ℕ, ◌+◌, ◌≤◌, ◌%◌, Bool, if◌then◌else◌, ◌∷◌, refl, ap, ◌∙◌, arith, eq-eqb}
use Rattle.nvme_log.specs.Rules.{FrontRules}
use Rattle.nvme_ctrl_log.specs.Notes.{Notes, Head}
use Rattle.nvme_ctrl_log.specs.Doorbells.{gap, cq_slots, consumed}
use Rattle.nvme_engine.proofs.Turn.{gap-one, next-slot}

-- from the slot of a count to the one after it it is one slot
gap_next : (s n : ℕ) → 2 ≤ s → gap s (n % s) ((n % s + 1) % s) ≡ 1
gap_next s n some = ap (gap s (n % s)) (next-slot s n (omega (arith, some))) ∙ gap-one s n some

-- so one completion more is consumed
pub consumed_next : (rules : FrontRules) (notes : Notes) (x n head : ℕ) → 2 ≤ cq_slots rules x → consumed rules notes x ≡ n → head ≡ (n % cq_slots rules x + 1) % cq_slots rules x
    → consumed rules (Head x head ∷ notes) x ≡ n + 1
consumed_next rules notes x n head some were is =
    ap (λ (b : Bool). if b then consumed rules notes x + gap (cq_slots rules x) (consumed rules notes x % cq_slots rules x) head else consumed rules notes x) (eq-eqb x x refl)
    ∙ (λ j. were j + gap (cq_slots rules x) (were j % cq_slots rules x) (is j)) ∙ ap (λ (d : ℕ). n + d) (gap_next (cq_slots rules x) n some)
