-- The regions whose queues are being deleted.
use Rattle.std.proofs.Common.{◌≡◌, ℕ, zero, suc, ◌+◌, ◌<◌, ◌≤◌, ◌==◌, ◌&&◌, Bool, false, if◌then◌else◌, List, ◌++◌, Option, Some, None, refl, sym, ap, ◌∙◌, subst, arith, inl, inr}
use Rattle.std.proofs.lemmas.Bool.{cases_eq, eq-eqb, ne_eqb}
use Rattle.std.proofs.lemmas.List.Sums.{sum_by-append}
use Rattle.nvme_log.specs.Places.{one_if}
use Rattle.nvme_log.specs.declared.place.Place.{Place}
use Rattle.nvme_ctrl_content.specs.Content.{PendingDelete, put_deletion}
use Rattle.nvme_ctrl_content.specs.Standing.{held_by, held_upto, times_held}

-- ---- one deletion in the place of another
pub put-same : {A : Type 0} (f : ℕ → A) (r : ℕ) (o : A) → (if r == r then o else f r) ≡ o
put-same f r o = rw (eq-eqb r r refl) refl

pub put-other : {A : Type 0} (f : ℕ → A) (r : ℕ) (o : A) (x : ℕ) → (x ≡ r → ⊥) → (if x == r then o else f x) ≡ f x
put-other f r o x d = rw (ne_eqb x r d) refl

-- one that is there is the one that was put, or another that was there
pub data IsPut {A : Type 0} (f : ℕ → Option A) (r : ℕ) (o : Option A) (x : ℕ) (a : A) : Type 0 where
  Here : x ≡ r → o ≡ Some a → IsPut f r o x a
  Elsewhere : (x ≡ r → ⊥) → f x ≡ Some a → IsPut f r o x a

pub is_put : {A : Type 0} (f : ℕ → Option A) (r : ℕ) (o : Option A) (x : ℕ) (a : A) → (if x == r then o else f x) ≡ Some a → IsPut f r o x a
is_put f r o x a is = elim (cases_eq x r) [
  | inl e ↦ Here e (sym (ap (λ (b : Bool). if b then o else f x) (eq-eqb x r e)) ∙ is)
  | inr d ↦ Elsewhere d (sym (ap (λ (b : Bool). if b then o else f x) (ne_eqb x r d)) ∙ is)
]

-- ---- the places that are held
-- a count of places that adds up
abbrev pub AddsUp : (List Place → ℕ) → Type 0
AddsUp count = (xs ys : List Place) → count (xs ++ ys) ≡ count xs + count ys

-- what is put beyond the first n regions changes nothing of them
held-beyond : (count : List Place → ℕ) → AddsUp count → (f : ℕ → Option PendingDelete) (r : ℕ) (o : Option PendingDelete) (n : ℕ) → n ≤ r
    → count (held_upto (put_deletion f r o) n) ≡ count (held_upto f n)
unfolding held_upto
held-beyond count adds f r o zero l = refl
held-beyond count adds f r o (suc n) l =
    let here : count (held_by (put_deletion f r o n)) ≡ count (held_by (f n)) = ap (λ (d : Option PendingDelete). count (held_by d)) (put-other f r o n (λ e. absurd (omega arith))) in
    omega (arith, adds (held_upto (put_deletion f r o) n) (held_by (put_deletion f r o n)), adds (held_upto f n) (held_by (f n)), held-beyond count adds f r o n (omega arith), here)

-- what is put among them
pub held-put : (count : List Place → ℕ) → AddsUp count → (f : ℕ → Option PendingDelete) (r : ℕ) (o : Option PendingDelete) (n : ℕ) → r < n
    → count (held_upto (put_deletion f r o) n) + count (held_by (f r)) ≡ count (held_upto f n) + count (held_by o)
unfolding held_upto
held-put count adds f r o zero l = absurd (omega arith)
held-put count adds f r o (suc n) l = elim (cases_eq n r) [
  | inl e ↦
      let here : count (held_by (put_deletion f r o n)) ≡ count (held_by o) =
      ap (λ (d : Option PendingDelete). count (held_by d)) (subst (λ (z : ℕ). put_deletion f r o z ≡ o) (sym e) (put-same f r o)) in
      let there : count (held_by (f n)) ≡ count (held_by (f r)) = ap (λ (z : ℕ). count (held_by (f z))) e in
      omega (arith, adds (held_upto (put_deletion f r o) n) (held_by (put_deletion f r o n)), adds (held_upto f n) (held_by (f n)), held-beyond count adds f r o n (omega arith), here, there)
  | inr d ↦
      let here : count (held_by (put_deletion f r o n)) ≡ count (held_by (f n)) = ap (λ (z : Option PendingDelete). count (held_by z)) (put-other f r o n d) in
      omega (arith, adds (held_upto (put_deletion f r o) n) (held_by (put_deletion f r o n)), adds (held_upto f n) (held_by (f n)), held-put count adds f r o n (omega arith), here)
]

-- how often a place is held by one deletion
pub times_held-by : (r i : ℕ) (d : PendingDelete) → times_held r i (held_by (Some d)) ≡ one_if (d.place.region == r && d.place.index == i)
times_held-by r i d = omega arith

-- a place is held at least as often as one deletion holds it
pub held-one : (r i : ℕ) (f : ℕ → Option PendingDelete) (x : ℕ) (d : PendingDelete) (n : ℕ) → x < n → f x ≡ Some d
    → one_if (d.place.region == r && d.place.index == i) ≤ times_held r i (held_upto f n)
unfolding held_upto
held-one r i f x d zero l is = absurd (omega arith)
held-one r i f x d (suc n) l is =
    let split = sum_by-append (λ (p : Place). one_if (p.region == r && p.index == i)) (held_upto f n) (held_by (f n)) in
    elim (cases_eq x n) [
      | inl e ↦
          let here : times_held r i (held_by (f n)) ≡ times_held r i (held_by (Some d)) = ap (λ (o : Option PendingDelete). times_held r i (held_by o)) (ap f (sym e) ∙ is) in
          omega (arith, split, here, times_held-by r i d)
      | inr differs ↦ omega (arith, split, held-one r i f x d n (omega arith) is)
    ]

-- a place that no deletion holds isn't held
pub held-none : (r i : ℕ) (f : ℕ → Option PendingDelete) (n : ℕ) → ((x : ℕ) (d : PendingDelete) → f x ≡ Some d → (d.place.region == r && d.place.index == i) ≡ false)
    → times_held r i (held_upto f n) ≡ 0
unfolding held_upto
held-none r i f zero none = refl
held-none r i f (suc n) none =
    omega (arith, sum_by-append (λ (p : Place). one_if (p.region == r && p.index == i)) (held_upto f n) (held_by (f n)), held-none r i f n none, one (f n) refl) where
      one : (o : Option PendingDelete) → f n ≡ o → times_held r i (held_by o) ≡ 0
      one None is = refl
      one (Some d) is = times_held-by r i d ∙ ap one_if (none n d is)
