-- How many places are outstanding after aborts.
use Rattle.std.proofs.Common.{◌≡◌, ℕ, zero, suc, ◌+◌, ◌<◌, ◌≤◌, ◌==◌, ◌&&◌, ◌||◌, nat_lt, Bool, true, false, not, if◌then◌else◌, List, [], ◌∷◌, length, refl, sym, ap, ◌∙◌, subst, arith, inl, inr, ◌⊎◌, ⊎_elim, All}
use Rattle.std.proofs.lemmas.Bool.{cases_eq, cases_order, eq-eqb, eqb-true, ne_eqb, le-ltb, ltb-false}
use Rattle.std.proofs.lemmas.List.Elements.{All-head, All-tail, All-same}
use Rattle.nvme_log.specs.declared.event.Event.TheVariants.{Abort}
use Rattle.nvme_log.specs.Rules.{Past, FrontRules, upto, sq_regions_of}
use Rattle.nvme_log.specs.Places.{fetched, waiting, picked, fate_of, is_waiting, is_picked, is_aborted, unaborted_below, one_if}
use Rattle.nvme_log.specs.Aborts.{took_abort, is_abort_requested}
use Rattle.nvme_log.specs.Completions.{is_posted, takes_place, outstanding}
use Rattle.nvme_log.specs.Laws.{count_of}
use Rattle.nvme_log.proofs.Waiting.{fate_of-same, is_aborted-abort, is_aborted-abort_other, waiting-abort, waiting-below, waiting-waits}
use Rattle.nvme_log.proofs.Counting.{count_of-push, counts_below, counts_change, fate_by, sums_differ}
use Rattle.nvme_ctrl_log.proofs.AbortRequests.{unrequested}
use Rattle.nvme_ctrl_log.proofs.OutstandingPlaces.{aborts, count_one, outstanding_of}

-- ---- an abort of a place that waits
-- a place that waits isn't aborted, and no more were picked than are left below it
waits_by : (a b : Bool) → is_waiting (fate_by a b) ≡ true → (a ≡ false) × (b ≡ false)
waits_by true b h = cc h
waits_by false true h = cc h
waits_by false false h = (refl, refl)

-- nor was it picked
waits_unpicked : (a b : Bool) → is_waiting (fate_by a b) ≡ true → is_picked (fate_by a b) ≡ false
waits_unpicked true b h = refl
waits_unpicked false true h = cc h
waits_unpicked false false h = refl

-- a place with as many left below it as were picked wasn't picked
unpicked_from : (a : Bool) (u p : ℕ) → p ≤ u → is_picked (fate_by a (nat_lt u p)) ≡ false
unpicked_from a u p le = ap (λ (b : Bool). is_picked (fate_by a b)) (le-ltb u p le) ∙ none a where
  none : (a : Bool) → is_picked (fate_by a false) ≡ false
  none true = refl
  none false = refl

-- above a number that passes a test one more passes than below it
counts_from : (t : ℕ → Bool) (i n : ℕ) → i < n → t i ≡ true → count_of t (upto i) + 1 ≤ count_of t (upto n)
counts_from t i zero lt h = absurd (omega arith)
counts_from t i (suc n) lt h =
    let more = count_of-push t (upto n) n in
    ⊎_elim
    (λ (same : i ≡ n).
    let here : one_if (t n) ≡ 1 = ap (λ (z : ℕ). one_if (t z)) (sym same) ∙ ap one_if h in
    let below : count_of t (upto i) ≡ count_of t (upto n) = ap (λ (z : ℕ). count_of t (upto z)) same in
    omega (arith, more, here, below))
    (λ (other : i ≡ n → ⊥). let rest = counts_from t i n (omega arith) h in omega (arith, more, rest))
    (cases_eq i n)

-- it leaves which places of its region were picked
picked-own : (past : Past) (r i : ℕ) → is_waiting (fate_of past r i) ≡ true → (j : ℕ) → is_picked (fate_of (Abort r i ∷ past) r j) ≡ is_picked (fate_of past r j)
picked-own past r i waits j = by (cases_order i j) where
  apart : (k : ℕ) → (i ≡ k → ⊥) → is_aborted (Abort r i ∷ past) r k ≡ is_aborted past r k
  apart k d = is_aborted-abort past r i k ∙ ap (λ (b : Bool). b || is_aborted past r k) (ne_eqb i k d)

  named : is_aborted (Abort r i ∷ past) r i ≡ true
  named = is_aborted-abort past r i i ∙ ap (λ (b : Bool). b || is_aborted past r i) (eq-eqb i i refl)

  was : (is_aborted past r i ≡ false) × (nat_lt (unaborted_below past r i) (picked past r) ≡ false)
  was = waits_by (is_aborted past r i) (nat_lt (unaborted_below past r i) (picked past r)) waits

  by : (i ≡ j) ⊎ ((i < j) ⊎ (j < i)) → is_picked (fate_of (Abort r i ∷ past) r j) ≡ is_picked (fate_of past r j)
  by (inl same) = subst (λ (z : ℕ). is_picked (fate_of (Abort r i ∷ past) r z) ≡ is_picked (fate_of past r z)) same
      (ap (λ (a : Bool). is_picked (fate_by a (nat_lt (unaborted_below (Abort r i ∷ past) r i) (picked past r)))) named
      ∙ sym (waits_unpicked (is_aborted past r i) (nat_lt (unaborted_below past r i) (picked past r)) waits))
  by (inr (inr under)) =
      let same : unaborted_below (Abort r i ∷ past) r j ≡ unaborted_below past r j =
      counts_below (λ (k : ℕ). not (is_aborted past r k)) (λ (k : ℕ). not (is_aborted (Abort r i ∷ past) r k)) j (λ k lt. ap not (apart k (λ e. omega (arith, e, lt, under)))) in
      λ t. is_picked (fate_by (apart j (λ e. omega (arith, e, under)) t) (nat_lt (same t) (picked past r)))
  by (inr (inl above)) =
      let few : picked past r ≤ unaborted_below past r i = ltb-false (unaborted_below past r i) (picked past r) was.1 in
      let more = counts_from (λ (k : ℕ). not (is_aborted past r k)) i j above (ap not was.0) in
      let change = counts_change (λ (k : ℕ). not (is_aborted past r k)) (λ (k : ℕ). not (is_aborted (Abort r i ∷ past) r k)) i j above (λ k d. ap not (apart k d)) in
      let gone : one_if (not (is_aborted (Abort r i ∷ past) r i)) ≡ 0 = ap (λ (b : Bool). one_if (not b)) named in
      let here : one_if (not (is_aborted past r i)) ≡ 1 = ap (λ (b : Bool). one_if (not b)) was.0 in
      unpicked_from (is_aborted (Abort r i ∷ past) r j) (unaborted_below (Abort r i ∷ past) r j) (picked past r) (omega (arith, few, more, change, gone, here))
      ∙ sym (unpicked_from (is_aborted past r j) (unaborted_below past r j) (picked past r) (omega (arith, few, more)))

-- and of each region
pub picked-abort : (past : Past) (r i : ℕ) → is_waiting (fate_of past r i) ≡ true → (x j : ℕ) → is_picked (fate_of (Abort r i ∷ past) x j) ≡ is_picked (fate_of past x j)
picked-abort past r i waits x j =
    ⊎_elim
    (λ (same : r ≡ x). subst (λ (z : ℕ). is_picked (fate_of (Abort r i ∷ past) z j) ≡ is_picked (fate_of past z j)) same (picked-own past r i waits j))
    (λ (other : r ≡ x → ⊥). ap is_picked (fate_of-same past (Abort r i ∷ past) x refl (λ k. is_aborted-abort_other past r i x k other) j))
    (cases_eq r x)

-- it is outstanding then where an Abort command aborted it
pub outstanding-abort : (rules : FrontRules) (past : Past) (r i : ℕ) → is_waiting (fate_of past r i) ≡ true → i < length (fetched past r) → is_posted past r i ≡ false
    → r < length (sq_regions_of rules) → outstanding rules (Abort r i ∷ past) ≡ outstanding rules past + one_if (took_abort past)
outstanding-abort rules past r i waits there fresh region =
    sums_differ (λ (x : ℕ). outstanding_of past x) (λ (x : ℕ). outstanding_of (Abort r i ∷ past) x) r (one_if (took_abort past))
    (λ (x : ℕ).
    count_one (λ (j : ℕ). takes_place past x j && not (is_posted past x j)) (λ (j : ℕ). takes_place (Abort r i ∷ past) x j && not (is_posted past x j)) (r == x) i
    (length (fetched past x))
    (λ here. subst (λ (z : ℕ). i < length (fetched past z)) (eqb-true r x here) there)
    (λ here. subst (λ (z : ℕ). (takes_place past z i && not (is_posted past z i)) ≡ false) (eqb-true r x here) took_none)
    (λ (j : ℕ) apart. λ t. (picked-abort past r i waits x j t || ((apart t && took_abort past) || is_abort_requested past x j)) && not (is_posted past x j))
    ∙ ap (λ (z : ℕ). outstanding_of past x + z) (by x (r == x) refl))
    (length (sq_regions_of rules)) region where
      unpicked : is_picked (fate_of past r i) ≡ false
      unpicked = waits_unpicked (is_aborted past r i) (nat_lt (unaborted_below past r i) (picked past r)) waits

      unasked : is_abort_requested past r i ≡ false
      unasked = unrequested past r i (waits_by (is_aborted past r i) (nat_lt (unaborted_below past r i) (picked past r)) waits).0

      took_none : (takes_place past r i && not (is_posted past r i)) ≡ false
      took_none = λ t. (unpicked t || unasked t) && not (is_posted past r i)

      takes : (takes_place (Abort r i ∷ past) r i && not (is_posted past r i)) ≡ took_abort past
      takes =
          (λ t. ((picked-abort past r i waits r i ∙ unpicked) t || (((eq-eqb r r refl) t && (eq-eqb i i refl) t && took_abort past) || unasked t)) && not (fresh t))
          ∙ last (took_abort past) where
            last : (b : Bool) → ((false || ((true && true && b) || false)) && not false) ≡ b
            last true = refl
            last false = refl

      by : (x : ℕ) (b : Bool) → (r == x) ≡ b → (if b then one_if (takes_place (Abort r i ∷ past) x i && not (is_posted past x i)) else 0) ≡ (if b then one_if (took_abort past) else 0)
      by x true here =
          subst (λ (z : ℕ). one_if (takes_place (Abort r i ∷ past) z i && not (is_posted past z i)) ≡ one_if (took_abort past)) (eqb-true r x here) (ap one_if takes)
      by x false here = refl

-- ---- the aborts of a deletion
-- the oldest of the places that wait is fetched and waits, and has no post
oldest_waits : (past : Past) (r i : ℕ) (rest : List ℕ) → waiting past r ≡ i ∷ rest → is_waiting (fate_of past r i) ≡ true
oldest_waits past r i rest e =
    All-head (λ (j : ℕ). is_waiting (fate_of past r j) ≡ true) i rest (All-same (λ (j : ℕ). is_waiting (fate_of past r j) ≡ true) (i ∷ rest) (waiting past r) (sym e) (waiting-waits past r))

oldest_fetched : (past : Past) (r i : ℕ) (rest : List ℕ) → waiting past r ≡ i ∷ rest → i < length (fetched past r)
oldest_fetched past r i rest e =
    All-head (λ (j : ℕ). j < length (fetched past r)) i rest (All-same (λ (j : ℕ). j < length (fetched past r)) (i ∷ rest) (waiting past r) (sym e) (waiting-below past r))

-- an abort of it leaves as many places outstanding
pub outstanding-oldest : (rules : FrontRules) (past : Past) (r i : ℕ) (rest : List ℕ) → waiting past r ≡ i ∷ rest → is_posted past r i ≡ false → took_abort past ≡ false
    → r < length (sq_regions_of rules) → outstanding rules (Abort r i ∷ past) ≡ outstanding rules past
outstanding-oldest rules past r i rest e fresh took region =
    outstanding-abort rules past r i (oldest_waits past r i rest e) (oldest_fetched past r i rest e) fresh region
    ∙ ap (λ (b : Bool). outstanding rules past + one_if b) took ∙ nothing (outstanding rules past) where
      nothing : (n : ℕ) → n + 0 ≡ n
      nothing n = omega arith

-- so do aborts of all that wait, the oldest first
pub outstanding-aborts : (rules : FrontRules) (r : ℕ) (is : List ℕ) (past : Past) → waiting past r ≡ is → All (λ (i : ℕ). is_posted past r i ≡ false) is
    → took_abort past ≡ false → r < length (sq_regions_of rules) → outstanding rules (aborts r is past) ≡ outstanding rules past
outstanding-aborts rules r [] past e fresh took region = refl
outstanding-aborts rules r (i ∷ is) past e fresh took region =
    outstanding-aborts rules r is (Abort r i ∷ past) (waiting-abort past r i is e) (All-tail (λ (j : ℕ). is_posted past r j ≡ false) i is fresh) took region
    ∙ outstanding-oldest rules past r i is e (All-head (λ (j : ℕ). is_posted past r j ≡ false) i is fresh) took region
