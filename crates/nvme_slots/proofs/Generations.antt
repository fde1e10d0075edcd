-- Generations: what leaves them, and when a tag is used up.
use Rattle.std.proofs.Common.{◌≡◌, ◌≢◌, ℕ, suc, ◌+◌, ◌%◌, ◌<◌, List, [], ◌∷◌, length, refl, sym, ap, ◌∙◌, subst, arith, inl, inr, eq-eqb}
use Rattle.std.proofs.lemmas.Bool.{cases_lt, cases_eq, ne_eqb}
use Rattle.std.specs.Prelude.{slice_set}
use Rattle.std.proofs.lemmas.List.{set_past, get_or-set_same, get_or-set_other}
use Rattle.nvme_slots.specs.declared.slot.Slot.{Slot}
use Rattle.nvme_slots.specs.Generations.{generation_at, SameGenerations, IsNextGeneration, AreTaken, times, TagsAreUsedUp, TagsComeAgain}
use Rattle.nvme_slots.specs.Pool.{no_slot, put_item, SameItems}
use Rattle.nvme_slots.proofs.Pools.{slot_at-put_item_same, slot_at-put_item_other}

-- ---- what leaves them
pub left_self : (slots : List Slot) → SameGenerations slots slots
left_self slots x = refl

pub left_both : (one two three : List Slot) → SameGenerations one two → SameGenerations two three → SameGenerations one three
left_both one two three first second x = second x ∙ first x

-- a slot that is put behind a chain
pub items_left : (old new : List Slot) → SameItems old new → SameGenerations old new
items_left old new same x = ap (λ (s : Slot). s.generation) (same.items x)

-- something else in a slot, with the slot's generation
pub put_left : (slots new : List Slot) (x : ℕ) (s : Slot) → new ≡ slice_set slots x s → s.generation ≡ generation_at slots x → SameGenerations slots new
put_left slots new x s is same y = ap (λ (p : List Slot). generation_at p y) is ∙ elim (cases_eq y x) [
  | inl here ↦ elim (cases_lt x (length slots)) [
    | inl within ↦ ap (λ (z : ℕ). generation_at (slice_set slots x s) z) here ∙ ap (λ (t : Slot). t.generation) (get_or-set_same slots x s no_slot within) ∙ same ∙ ap (generation_at slots) (sym here)
    | inr past ↦ ap (λ (p : List Slot). generation_at p y) (set_past slots x s past)
  ]
  | inr other ↦ ap (λ (t : Slot). t.generation) (get_or-set_other slots x y s no_slot other)
]

-- something else in a slot, with the next generation
pub put_next_generation : (slots new : List Slot) (x : ℕ) (s : Slot) → new ≡ put_item slots x s → x < length slots → s.generation ≡ (generation_at slots x + 1) % 65536 → IsNextGeneration slots new x
put_next_generation slots new x s is within next = record {
  next = ap (λ (p : List Slot). generation_at p x) is ∙ ap (λ (t : Slot). t.generation) (slot_at-put_item_same slots x s within) ∙ next;
  others = λ y other. ap (λ (p : List Slot). generation_at p y) is ∙ ap (λ (t : Slot). t.generation) (slot_at-put_item_other slots x s y other);
}

-- ---- after several commands
one_more : (x : ℕ) (xs : List ℕ) → times x (x ∷ xs) ≡ suc (times x xs)
one_more x xs = rw (eq-eqb x x refl) refl

none_more : (x y : ℕ) (xs : List ℕ) → y ≢ x → times x (y ∷ xs) ≡ times x xs
none_more x y xs other = rw (ne_eqb y x other) refl

-- a slot's generation is told by how often its command was taken
counted : (old new : List Slot) (xs : List ℕ) (x : ℕ) → AreTaken old new xs → generation_at new x % 65536 ≡ (generation_at old x + times x xs) % 65536
counted old new [] x same = let is = same x in omega (arith, is)
counted old new (y ∷ xs) x (mid, one, rest) = elim (cases_eq x y) [
  | inl same ↦
      let here : generation_at mid x ≡ (generation_at old x + 1) % 65536 = subst (λ (z : ℕ). generation_at mid z ≡ (generation_at old z + 1) % 65536) (sym same) one.next in
      let more : times x (y ∷ xs) ≡ suc (times x xs) = ap (λ (z : ℕ). times x (z ∷ xs)) (sym same) ∙ one_more x xs in
      let later = counted mid new xs x rest in
      omega (arith, here, more, later)
  | inr other ↦
      let here = one.others x other in
      let more = none_more x y xs (λ e. other (sym e)) in
      let later = counted mid new xs x rest in
      omega (arith, here, more, later)
]

other_generation : (old new : List Slot) (xs : List ℕ) (x : ℕ) → AreTaken old new xs → 0 < times x xs → times x xs < 65536 → generation_at new x ≢ generation_at old x
other_generation old new xs x taken some few same = let is = counted old new xs x taken in omega (arith, is, some, few, same)

pub used_up : TagsAreUsedUp
used_up old new xs x taken some few = rw (ne_eqb (generation_at new x) (generation_at old x) (other_generation old new xs x taken some few)) refl

-- with all generations through, it is the same again. (Those of slots are below 65,536.)
taken_below : (old new : List Slot) (xs : List ℕ) (x : ℕ) → AreTaken old new xs → generation_at old x < 65536 → generation_at new x < 65536
taken_below old new [] x same below = let is = same x in omega (arith, is, below)
taken_below old new (y ∷ xs) x (mid, one, rest) below = taken_below mid new xs x rest (elim (cases_eq x y) [
  | inl same ↦
      let here : generation_at mid x ≡ (generation_at old x + 1) % 65536 = subst (λ (z : ℕ). generation_at mid z ≡ (generation_at old z + 1) % 65536) (sym same) one.next in
      omega (arith, here)
  | inr other ↦ let here = one.others x other in omega (arith, here, below)
])

pub come_again : TagsComeAgain
come_again old new xs x taken all below =
    let is = counted old new xs x taken in
    let now = taken_below old new xs x taken below in
    let same : generation_at new x ≡ generation_at old x = omega (arith, is, now, all, below) in
    rw (eq-eqb (generation_at new x) (generation_at old x) same) refl
