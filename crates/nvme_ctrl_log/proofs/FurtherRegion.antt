-- A list of regions with a further one: what it tells of other addresses.
use Rattle.std.proofs.Common.{◌≡◌, ℕ, zero, suc, ◌+◌, ◌<◌, ◌≤◌, ◌==◌, ◌&&◌, Bool, true, false, not, if◌then◌else◌, List, [], ◌∷◌, ◌++◌, length, Option, Some, None, refl, sym, ap, ◌∙◌, arith, inl, inr}
use Rattle.std.specs.Prelude.{slice_get, position}
use Rattle.std.specs.List.{position_or_len}
use Rattle.std.proofs.lemmas.Bool.{cases_lt, lt-ltb, le-ltb}
use Rattle.std.proofs.lemmas.List.{length_push}
use Rattle.std.proofs.lemmas.List.Quantifiers.{position-Some}
use Rattle.nvme_admin.specs.History.{Kind, Submission, Completion}
use Rattle.nvme_admin.specs.QueueTable.{region_number}
use Rattle.nvme_admin.specs.Checks.{has_slots, is_fit, is_free}
use Rattle.nvme_admin.specs.declared.region.Region.{Region}

-- ---- positions in a longer list
module _ {A : Type 0} (p : A → Bool) where
  -- what is found in the first part is found there
  found_before : (xs ys : List A) → position_or_len p xs < length xs → position_or_len p (xs ++ ys) ≡ position_or_len p xs
  found_before [] ys h = absurd (omega (arith, h))
  found_before (x ∷ xs) ys h = by (p x) h (λ k. found_before xs ys k) where
    by : (b : Bool) → (if not b then 1 + position_or_len p xs else 0) < length (x ∷ xs)
        → (position_or_len p xs < length xs → position_or_len p (xs ++ ys) ≡ position_or_len p xs)
        → (if not b then 1 + position_or_len p (xs ++ ys) else 0) ≡ (if not b then 1 + position_or_len p xs else 0)
    by true k rest = refl
    by false k rest = ap (λ (m : ℕ). 1 + m) (rest (omega (arith, k)))

  -- what neither the first part nor a further element has isn't found
  found_nowhere : (xs : List A) (y : A) → p y ≡ false → length xs ≤ position_or_len p xs → length (xs ++ y ∷ []) ≤ position_or_len p (xs ++ y ∷ [])
  found_nowhere [] y e h = rw e (omega arith)
  found_nowhere (x ∷ xs) y e h = by (p x) h (λ k. found_nowhere xs y e k) where
    by : (b : Bool) → length (x ∷ xs) ≤ (if not b then 1 + position_or_len p xs else 0)
        → (length xs ≤ position_or_len p xs → length (xs ++ y ∷ []) ≤ position_or_len p (xs ++ y ∷ []))
        → length (x ∷ (xs ++ y ∷ [])) ≤ (if not b then 1 + position_or_len p (xs ++ y ∷ []) else 0)
    by true k rest = absurd (omega (arith, k))
    by false k rest = let le = rest (omega (arith, k)) in omega (arith, le)

  -- a position is that where it is found
  at_found : (xs : List A) → position_or_len p xs < length xs → position p xs ≡ Some (position_or_len p xs)
  at_found xs lt = λ i. if lt-ltb (position_or_len p xs) (length xs) lt i then Some (position_or_len p xs) else None

  at_none : (xs : List A) → length xs ≤ position_or_len p xs → position p xs ≡ None
  at_none xs le = λ i. if le-ltb (position_or_len p xs) (length xs) le i then Some (position_or_len p xs) else None

  -- a further element that fails the test leaves the position
  pub position_further : (xs : List A) (y : A) → p y ≡ false → position p (xs ++ y ∷ []) ≡ position p xs
  position_further xs y e = elim (cases_lt (position_or_len p xs) (length xs)) [
    | inl below ↦
        let same = found_before xs (y ∷ []) below in
        let longer : length (xs ++ y ∷ []) ≡ length xs + 1 = length_push xs y in
        at_found (xs ++ y ∷ []) (omega (arith, same, longer, below)) ∙ ap Some same ∙ sym (at_found xs below)
    | inr past ↦ at_none (xs ++ y ∷ []) (found_nowhere xs y e past) ∙ sym (at_none xs past)
  ]

-- the items before a further one
get_before : {A : Type 0} (xs ys : List A) (k : ℕ) → k < length xs → slice_get (xs ++ ys) k ≡ slice_get xs k
get_before [] ys k lt = absurd (omega (arith, lt))
get_before (x ∷ xs) ys zero lt = refl
get_before (x ∷ xs) ys (suc k) lt = get_before xs ys k (omega (arith, lt))

-- ---- regions
-- the regions of each kind with one of a kind more
abbrev pub sqs_with : Kind → (a n : ℕ) → List Region → List Region
sqs_with Submission a n rs = rs ++ record { address = a; slots = n } ∷ []
sqs_with Completion a n rs = rs

abbrev pub cqs_with : Kind → (a n : ℕ) → List Region → List Region
cqs_with Submission a n rs = rs
cqs_with Completion a n rs = rs ++ record { address = a; slots = n } ∷ []

module _ (a n : ℕ) (address : ℕ) (other : (a == address) ≡ false) where
  -- another address has the region that it had
  number_further : (rs : List Region) → region_number (rs ++ record { address = a; slots = n } ∷ []) address ≡ region_number rs address
  number_further rs = position_further (λ (r : Region). r.address == address) rs (record { address = a; slots = n }) other

  -- which fits as it did
  fit_further : (rs : List Region) (used : ℕ → Bool) (slots : ℕ) (o : Option ℕ) → region_number rs address ≡ o
      → is_fit (rs ++ record { address = a; slots = n } ∷ []) used slots o ≡ is_fit rs used slots o
  fit_further rs used slots None is = refl
  fit_further rs used slots (Some k) is =
      ap (λ (o : Option Region). has_slots o slots && not (used k))
      (get_before rs (record { address = a; slots = n } ∷ []) k (position-Some (λ (r : Region). r.address == address) rs k (record { address = 0; slots = 0 }) is).0)

  free_further : (rs : List Region) (used : ℕ → Bool) (slots : ℕ)
      → is_free (rs ++ record { address = a; slots = n } ∷ []) used address slots ≡ is_free rs used address slots
  free_further rs used slots =
      ap (is_fit (rs ++ record { address = a; slots = n } ∷ []) used slots) (number_further rs) ∙ fit_further rs used slots (region_number rs address) refl

  -- so of either kind
  pub sq_number_with : (kind : Kind) (rs : List Region) → region_number (sqs_with kind a n rs) address ≡ region_number rs address
  sq_number_with Submission rs = number_further rs
  sq_number_with Completion rs = refl

  pub cq_number_with : (kind : Kind) (rs : List Region) → region_number (cqs_with kind a n rs) address ≡ region_number rs address
  cq_number_with Submission rs = refl
  cq_number_with Completion rs = number_further rs

  pub sq_free_with : (kind : Kind) (rs : List Region) (used : ℕ → Bool) (slots : ℕ) → is_free (sqs_with kind a n rs) used address slots ≡ is_free rs used address slots
  sq_free_with Submission rs used slots = free_further rs used slots
  sq_free_with Completion rs used slots = refl

  pub cq_free_with : (kind : Kind) (rs : List Region) (used : ℕ → Bool) (slots : ℕ) → is_free (cqs_with kind a n rs) used address slots ≡ is_free rs used address slots
  cq_free_with Submission rs used slots = refl
  cq_free_with Completion rs used slots = free_further rs used slots
