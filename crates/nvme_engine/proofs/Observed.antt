-- What arbitration sees, queue by queue: nothing of those from the bound on.
use Rattle.std.proofs.Common.{◌≡◌, ◌↔◌, ℕ, zero, suc, ◌+◌, ◌-◌, ◌<◌, ◌≤◌, List, [], ◌∷◌, ◌++◌, length, map, Option, Some, None, refl, sym, ap, ◌∙◌, arith, append-nil}
use Rattle.std.specs.Prelude.{option_map, Result, Ok, Err, IsOk, OnOk}
use Rattle.std.specs.List.{flat_map}
use Rattle.std.proofs.lemmas.List.{length_push, map-append}
use Rattle.std.proofs.lemmas.List.Concat.{flat_map-append}
use Rattle.nvme_arbiter.specs.Limits.{queue_limit}
use Rattle.nvme_arbiter.specs.declared.pick.Seen.{Seen}
use Rattle.nvme_log.specs.Rules.{Past, upto}
use Rattle.nvme_log.specs.Queues.{Queue, open_sq}
use Rattle.nvme_log.specs.Places.{seen_as}
use Rattle.nvme_ctrl_log.specs.Notes.{Notes, logged}
use Rattle.nvme_ctrl_log.specs.Observation.{shown, shown_as, seen_in, observed_of}

-- what is seen of one queue, as a list
abbrev one_seen : Option Seen → List Seen
one_seen None = []
one_seen (Some x) = x ∷ []

module _ (notes : Notes) where
  abbrev past : Past
  past = logged notes

  -- what is seen of the queues below an identifier
  abbrev seen_below : ℕ → List Seen
  seen_below n = map (shown notes) (flat_map (λ (q : ℕ). seen_as past q (open_sq past q)) (upto n))

  -- this is some list. It has no more items than there are identifiers
  abbrev pub AreSeenBelow : ℕ → List Seen → Type 0
  AreSeenBelow n xs = (xs ≡ seen_below n) × (length xs ≤ n)

  -- one queue more
  seen_next : (n : ℕ) (seen : Option Seen) → seen ≡ seen_in notes n → seen_below (suc n) ≡ seen_below n ++ one_seen seen
  seen_next n seen is =
      let f : ℕ → List Seen = λ (q : ℕ). seen_as past q (open_sq past q) in
      ap (map (shown notes)) (flat_map-append f (upto n) (n ∷ []) ∙ ap (λ (ys : List Seen). flat_map f (upto n) ++ ys) (append-nil (f n)))
      ∙ map-append (shown notes) (flat_map f (upto n)) (f n) ∙ by (open_sq past n) ∙ ap (λ (o : Option Seen). seen_below n ++ one_seen o) (sym is)
    where
      by : (o : Option Queue) → seen_below n ++ map (shown notes) (seen_as past n o) ≡ seen_below n ++ one_seen (option_map (shown_as notes n) o)
      by None = refl
      by (Some queue) = refl

  -- it isn't open
  pub none_pushed : (n : ℕ) (xs : List Seen) → AreSeenBelow n xs → None ≡ seen_in notes n → AreSeenBelow (n + 1) xs
  none_pushed n xs are is =
      let more : suc n ≡ n + 1 = omega arith in
      (are.0 ∙ sym (append-nil (seen_below n)) ∙ sym (seen_next n None is) ∙ ap seen_below more, omega (arith, are.1))

  -- it is, and there is room for it
  pub one_pushed : {T E : Type 0} (n : ℕ) (x : Seen) (old new : List Seen) (r : Result T E) → AreSeenBelow n old → Some x ≡ seen_in notes n
      → n < queue_limit → (IsOk r ↔ (length old < queue_limit)) → OnOk r (new ≡ old ++ x ∷ []) → AreSeenBelow (n + 1) new
  one_pushed n x old new (Ok y) are is below variant ok =
      let more : suc n ≡ n + 1 = omega arith in
      let size = ap (λ (xs : List Seen). length xs) ok ∙ length_push old x in
      (ok ∙ ap (λ (xs : List Seen). xs ++ x ∷ []) are.0 ∙ sym (seen_next n (Some x) is) ∙ ap seen_below more, omega (arith, are.1, size))
  one_pushed n x old new (Err e) are is below variant ok = absurd (let fits = variant.1 (omega (arith, are.1, below)) in cc fits)

  -- nothing is seen from a bound on
  module _ (n : ℕ) (none : (q : ℕ) → n ≤ q → open_sq past q ≡ None) where
    none_beyond : (more : ℕ) → seen_below (more + n) ≡ seen_below n
    none_beyond zero = let same : 0 + n ≡ n = omega arith in ap seen_below same
    none_beyond (suc more) =
        let next : suc more + n ≡ suc (more + n) = omega arith in
        ap seen_below next ∙ seen_next (more + n) None (sym (ap (option_map (shown_as notes (more + n))) (none (more + n) (omega arith))))
        ∙ append-nil (seen_below (more + n)) ∙ none_beyond more

    -- so what is seen below it is all
    pub all_seen : (xs : List Seen) → n ≤ queue_limit → AreSeenBelow n xs → xs ≡ observed_of notes
    all_seen xs few are =
        let rest : queue_limit - n + n ≡ queue_limit = omega (arith, few) in
        are.0 ∙ sym (none_beyond (queue_limit - n)) ∙ ap seen_below rest
