-- What doorbells tell at other rules.
use Rattle.std.proofs.Common.{◌≡◌, ℕ, ◌+◌, ◌%◌, ◌==◌, if◌then◌else◌, [], ◌∷◌, refl, sym, ap, ◌∙◌, arith, inl, inr}
use Rattle.std.proofs.Math.Nat.{zero-mod}
use Rattle.std.proofs.lemmas.Bool.{cases_Bool, le-leb}
use Rattle.nvme_log.specs.Rules.{FrontRules}
use Rattle.nvme_ctrl_log.specs.Notes.{Notes, Logged, Tail, Head, Kept, Passed, Taken, Answered, Flagged, Held, Classed}
use Rattle.nvme_ctrl_log.specs.Doorbells.{gap, sq_slots, cq_slots, submitted, consumed}

-- the slots of a region tell what its doorbells make
pub submitted_same : (rules others : FrontRules) (notes : Notes) (r : ℕ) → sq_slots others r ≡ sq_slots rules r → submitted others notes r ≡ submitted rules notes r
submitted_same rules others [] r e = refl
submitted_same rules others (Tail region slot ∷ notes) r e = λ i.
    if region == r then submitted_same rules others notes r e i + gap (e i) (submitted_same rules others notes r e i % e i) slot else submitted_same rules others notes r e i
submitted_same rules others (Logged event ∷ notes) r e = submitted_same rules others notes r e
submitted_same rules others (Head c slot ∷ notes) r e = submitted_same rules others notes r e
submitted_same rules others (Kept c i cookie ∷ notes) r e = submitted_same rules others notes r e
submitted_same rules others (Passed i ∷ notes) r e = submitted_same rules others notes r e
submitted_same rules others (Taken tag c i ∷ notes) r e = submitted_same rules others notes r e
submitted_same rules others (Answered c i answer ∷ notes) r e = submitted_same rules others notes r e
submitted_same rules others (Flagged c i flags ∷ notes) r e = submitted_same rules others notes r e
submitted_same rules others (Held q on ∷ notes) r e = submitted_same rules others notes r e
submitted_same rules others (Classed q class ∷ notes) r e = submitted_same rules others notes r e

pub consumed_same : (rules others : FrontRules) (notes : Notes) (r : ℕ) → cq_slots others r ≡ cq_slots rules r → consumed others notes r ≡ consumed rules notes r
consumed_same rules others [] r e = refl
consumed_same rules others (Head region slot ∷ notes) r e = λ i.
    if region == r then consumed_same rules others notes r e i + gap (e i) (consumed_same rules others notes r e i % e i) slot else consumed_same rules others notes r e i
consumed_same rules others (Logged event ∷ notes) r e = consumed_same rules others notes r e
consumed_same rules others (Tail c slot ∷ notes) r e = consumed_same rules others notes r e
consumed_same rules others (Kept c i cookie ∷ notes) r e = consumed_same rules others notes r e
consumed_same rules others (Passed i ∷ notes) r e = consumed_same rules others notes r e
consumed_same rules others (Taken tag c i ∷ notes) r e = consumed_same rules others notes r e
consumed_same rules others (Answered c i answer ∷ notes) r e = consumed_same rules others notes r e
consumed_same rules others (Flagged c i flags ∷ notes) r e = consumed_same rules others notes r e
consumed_same rules others (Held q on ∷ notes) r e = consumed_same rules others notes r e
consumed_same rules others (Classed q class ∷ notes) r e = consumed_same rules others notes r e

-- a gap from slot 0 is as long as its end
gap_from_0 : (n m slot : ℕ) → m ≡ 0 → gap n (m % n) slot ≡ slot
gap_from_0 n m slot z =
    let start : m % n ≡ 0 = ap (λ (x : ℕ). x % n) z ∙ zero-mod n in
    ap (λ (x : ℕ). gap n x slot) start ∙ rw (le-leb 0 slot (omega arith)) (omega arith)

-- where nothing came of the doorbells of a region they all named slot 0, whatever its slots
pub submitted_none : (rules others : FrontRules) (notes : Notes) (r : ℕ) → submitted rules notes r ≡ 0 → submitted others notes r ≡ 0
submitted_none rules others [] r e = refl
submitted_none rules others (Tail region slot ∷ notes) r e = elim (cases_Bool (region == r)) [
  | inl same ↦
      let sum : submitted rules notes r + gap (sq_slots rules r) (submitted rules notes r % sq_slots rules r) slot ≡ 0 =
      sym (λ j. if same j then submitted rules notes r + gap (sq_slots rules r) (submitted rules notes r % sq_slots rules r) slot else submitted rules notes r) ∙ e in
      let none : submitted rules notes r ≡ 0 = omega (arith, sum) in
      let before : submitted others notes r ≡ 0 = submitted_none rules others notes r none in
      let first : slot ≡ 0 = omega (arith, sum, gap_from_0 (sq_slots rules r) (submitted rules notes r) slot none) in
      (λ j. if same j then submitted others notes r + gap (sq_slots others r) (submitted others notes r % sq_slots others r) slot else submitted others notes r)
      ∙ (let last = gap_from_0 (sq_slots others r) (submitted others notes r) slot before in omega (arith, before, last, first))
  | inr other ↦
      (λ j. if other j then submitted others notes r + gap (sq_slots others r) (submitted others notes r % sq_slots others r) slot else submitted others notes r)
      ∙ submitted_none rules others notes r
      (sym (λ j. if other j then submitted rules notes r + gap (sq_slots rules r) (submitted rules notes r % sq_slots rules r) slot else submitted rules notes r) ∙ e)
]
submitted_none rules others (Logged event ∷ notes) r e = submitted_none rules others notes r e
submitted_none rules others (Head c slot ∷ notes) r e = submitted_none rules others notes r e
submitted_none rules others (Kept c i cookie ∷ notes) r e = submitted_none rules others notes r e
submitted_none rules others (Passed i ∷ notes) r e = submitted_none rules others notes r e
submitted_none rules others (Taken tag c i ∷ notes) r e = submitted_none rules others notes r e
submitted_none rules others (Answered c i answer ∷ notes) r e = submitted_none rules others notes r e
submitted_none rules others (Flagged c i flags ∷ notes) r e = submitted_none rules others notes r e
submitted_none rules others (Held q on ∷ notes) r e = submitted_none rules others notes r e
submitted_none rules others (Classed q class ∷ notes) r e = submitted_none rules others notes r e

pub consumed_none : (rules others : FrontRules) (notes : Notes) (r : ℕ) → consumed rules notes r ≡ 0 → consumed others notes r ≡ 0
consumed_none rules others [] r e = refl
consumed_none rules others (Head region slot ∷ notes) r e = elim (cases_Bool (region == r)) [
  | inl same ↦
      let sum : consumed rules notes r + gap (cq_slots rules r) (consumed rules notes r % cq_slots rules r) slot ≡ 0 =
      sym (λ j. if same j then consumed rules notes r + gap (cq_slots rules r) (consumed rules notes r % cq_slots rules r) slot else consumed rules notes r) ∙ e in
      let none : consumed rules notes r ≡ 0 = omega (arith, sum) in
      let before : consumed others notes r ≡ 0 = consumed_none rules others notes r none in
      let first : slot ≡ 0 = omega (arith, sum, gap_from_0 (cq_slots rules r) (consumed rules notes r) slot none) in
      (λ j. if same j then consumed others notes r + gap (cq_slots others r) (consumed others notes r % cq_slots others r) slot else consumed others notes r)
      ∙ (let last = gap_from_0 (cq_slots others r) (consumed others notes r) slot before in omega (arith, before, last, first))
  | inr other ↦
      (λ j. if other j then consumed others notes r + gap (cq_slots others r) (consumed others notes r % cq_slots others r) slot else consumed others notes r)
      ∙ consumed_none rules others notes r
      (sym (λ j. if other j then consumed rules notes r + gap (cq_slots rules r) (consumed rules notes r % cq_slots rules r) slot else consumed rules notes r) ∙ e)
]
consumed_none rules others (Logged event ∷ notes) r e = consumed_none rules others notes r e
consumed_none rules others (Tail c slot ∷ notes) r e = consumed_none rules others notes r e
consumed_none rules others (Kept c i cookie ∷ notes) r e = consumed_none rules others notes r e
consumed_none rules others (Passed i ∷ notes) r e = consumed_none rules others notes r e
consumed_none rules others (Taken tag c i ∷ notes) r e = consumed_none rules others notes r e
consumed_none rules others (Answered c i answer ∷ notes) r e = consumed_none rules others notes r e
consumed_none rules others (Flagged c i flags ∷ notes) r e = consumed_none rules others notes r e
consumed_none rules others (Held q on ∷ notes) r e = consumed_none rules others notes r e
consumed_none rules others (Classed q class ∷ notes) r e = consumed_none rules others notes r e
