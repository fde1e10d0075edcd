-- The heads that a completion may tell are those after a number of commands.
use Rattle.std.proofs.Common.{◌≡◌, ℕ, ◌+◌, ◌-◌, ◌*◌, ◌/◌, ◌%◌, ◌<◌, ◌≤◌, ◌&&◌, ◌⊎◌, Bool, true, false, if◌then◌else◌, inl, inr, refl, sym, ap, ◌∙◌, arith, nat_le}
use Rattle.std.proofs.Math.Nat.{mul-le-mul_right}
use Rattle.std.proofs.lemmas.Bool.{leb-true, leb-false, le-leb}
use Rattle.std.proofs.lemmas.Nat.{div-add-mod', le-div, mod-mul-add, mod_below}
use Rattle.nvme_audit.specs.Rings.{gap, slots_of}
use Rattle.nvme_audit.specs.Laws.{IsHeadAfter, HeadsAreCounts}

-- a number further on, by whole rings and a slot
gap_case : (b : Bool) (s r h : ℕ) → (b ≡ true → r ≤ h) → (b ≡ false → h < r) → ((r ≤ h) × ((if b then h - r else h + s - r) ≡ h - r)) ⊎ ((h < r) × ((if b then h - r else h + s - r) ≡ h + s - r))
gap_case true s r h t f = inl (t refl, refl)
gap_case false s r h t f = inr (f refl, refl)

-- the next number that stands for a slot, as whole rings and the slot
far_is : (n s h g : ℕ) → 0 < s → ((n % s ≤ h) × (g ≡ h - n % s)) ⊎ ((h < n % s) × (g ≡ h + s - n % s)) → ((n % s ≤ h) × (n + g ≡ n / s * s + h)) ⊎ ((h < n % s) × (n + g ≡ (n / s + 1) * s + h))
far_is n s h g some cases = elim cases [
  | inl w ↦ inl (w.0, omega (arith, div-add-mod' n s, w.0, w.1))
  | inr w ↦ inr (w.0, omega (arith, div-add-mod' n s, mod_below n s some, w.0, w.1))
]

-- with the lower slot a number as far needs more whole rings
more_rings : (p q s h r : ℕ) (b : Bool) → nat_le q p ≡ b → h < r → p * s + r ≤ q * s + h → p + 1 ≤ q
more_rings p q s h r true e lower far = let fewer : q * s ≤ p * s = mul-le-mul_right s (leb-true q p e) in omega arith
more_rings p q s h r false e lower far = omega (arith, leb-false q p e)

-- it is that slot, and no number of the slot that is as far as n is before it
far_fits : (n s h far : ℕ) → 0 < s → h < s → ((n % s ≤ h) × (far ≡ n / s * s + h)) ⊎ ((h < n % s) × (far ≡ (n / s + 1) * s + h)) → (h ≡ far % s) × ((t : ℕ) → n ≤ t → h ≡ t % s → far ≤ t)
far_fits n s h far some fits cases = elim cases [
  | inl w ↦ (
    sym (ap (λ (k : ℕ). k % s) w.1 ∙ mod-mul-add (n / s) s h fits),
    λ t after is. let rings : n / s * s ≤ t / s * s = mul-le-mul_right s (le-div (n / s) t s some (omega (arith, div-add-mod' n s, after))) in omega (arith, div-add-mod' t s, rings, is, w.1),
  )
  | inr w ↦ (
    sym (ap (λ (k : ℕ). k % s) w.1 ∙ mod-mul-add (n / s + 1) s h fits),
    λ t after is. let rings : (n / s + 1) * s ≤ t / s * s = mul-le-mul_right s (more_rings (n / s) (t / s) s h (n % s) (nat_le (t / s) (n / s)) refl w.0 (omega (arith, div-add-mod' n s, div-add-mod' t s, after, is))) in omega (arith, div-add-mod' t s, rings, is, w.1),
  )
]

pub next_of : (qsize n head : ℕ) → head ≤ qsize → (head ≡ (n + gap (slots_of qsize) (n % slots_of qsize) head) % slots_of qsize) × ((t : ℕ) → n ≤ t → head ≡ t % slots_of qsize → n + gap (slots_of qsize) (n % slots_of qsize) head ≤ t)
next_of qsize n head fits =
    far_fits n (qsize + 1) head _ (omega arith) (omega (arith, fits))
    (far_is n (qsize + 1) head _ (omega arith) (gap_case (nat_le (n % (qsize + 1)) head) (qsize + 1) (n % (qsize + 1)) head (leb-true _ _) (leb-false _ _)))

both : (a b : Bool) → (a && b) ≡ true → (a ≡ true) × (b ≡ true)
both true b h = (refl, h)
both false b h = cc

join : (a b : Bool) → a ≡ true → b ≡ true → (a && b) ≡ true
join true b g h = h
join false b g h = cc

counted : (qsize number fetched head : ℕ) → (head ≤ qsize) × (number + 1 + gap (slots_of qsize) ((number + 1) % slots_of qsize) head ≤ fetched) → IsHeadAfter qsize number fetched head
counted qsize number fetched head h = record {
  count = number + 1 + gap (slots_of qsize) ((number + 1) % slots_of qsize) head;
  after_own = omega arith;
  was_fetched = h.1;
  head_is = (next_of qsize (number + 1) head h.0).0;
}

pub heads : HeadsAreCounts
heads qsize number fetched head = (
  λ h. let parts : (nat_le head qsize ≡ true) × (nat_le (number + 1 + gap (slots_of qsize) ((number + 1) % slots_of qsize) head) fetched ≡ true) = both _ _ h in
      counted qsize number fetched head (leb-true _ _ parts.0, leb-true _ _ parts.1),
  λ h. let fits : head ≤ qsize = omega (arith, h.head_is, mod_below h.count (qsize + 1) (omega arith)) in
      let near : number + 1 + gap (slots_of qsize) ((number + 1) % slots_of qsize) head ≤ h.count = (next_of qsize (number + 1) head fits).1 h.count (omega (arith, h.after_own)) h.head_is in
      join _ _ (le-leb head qsize fits) (le-leb _ fetched (omega (arith, near, h.was_fetched))),
)
