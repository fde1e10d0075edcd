-- The places of a region that wait, and what one more event changes of them.
use Rattle.std.proofs.Common.{◌≡◌, ℕ, zero, suc, ◌+◌, ◌<◌, ◌≤◌, ◌==◌, ◌&&◌, ◌||◌, nat_lt, Bool, true, false, not, if◌then◌else◌, List, [], ◌∷◌, ◌++◌, length, take, drop, ap, sym, refl, ◌∙◌, arith, add-one, add-zero, length-append, length-drop, inl, inr, ◌⊎◌}
use Rattle.std.specs.Prelude.{filter, sum_by}
use Rattle.std.specs.List.{All, AllPairs, Contains}
use Rattle.std.proofs.Math.Seq.{take-append_seam}
use Rattle.std.proofs.lemmas.List.{append-nil, drop-append-le, drop-drop, drop-take, drop_all, drop_at, length_push, take-append-drop, length-take-le}
use Rattle.std.proofs.lemmas.List.Sums.{sum_by-append, sum_by-cons}
use Rattle.std.proofs.lemmas.List.Elements.{filter-append, All-filter, filter_passes, All-nil, All-weaker, All-push}
use Rattle.std.proofs.lemmas.List.Quantifiers.{all_pairs_push}
use Rattle.std.proofs.lemmas.List.Kept.{AllPairs-filter}
use Rattle.std.proofs.lemmas.Bool.{eq-eqb, ne_eqb, cases_lt, cases_order, lt-ltb, le-ltb}
use Rattle.std.proofs.lemmas.Bool.Decides.{eqb_tells}
use Rattle.nvme_entry.specs.declared.submission.Sqe.{Sqe}
use Rattle.nvme_arbiter.specs.declared.pick.Pick.{Pick}
use Rattle.nvme_arbiter.specs.declared.pick.Seen.{Seen}
use Rattle.nvme_log.specs.declared.event.Event.TheVariants as event
use Rattle.nvme_log.specs.Rules.{Past, upto}
use Rattle.nvme_log.specs.Queues.{open_sq, has_region}
use Rattle.nvme_log.specs.Places.{fetched, picked, is_aborted, unaborted_below, WasAborted, WasPicked, Waits, fate_of, is_waiting, is_picked, places, waiting}
use Rattle.nvme_log.specs.Places.{one_if, is_served}

-- ---- places by a test of which are aborted
-- the places below n that are not aborted
abbrev pub left : (ℕ → Bool) → ℕ → List ℕ
left a n = filter (λ (i : ℕ). not (a i)) (upto n)

-- whether a place waits, where this many were picked
abbrev pub waits_by : (ℕ → Bool) → ℕ → ℕ → Bool
waits_by a p i = is_waiting (if a i then WasAborted else (if nat_lt (length (left a i)) p then WasPicked else Waits))

-- the fetched places of a region that no Abort names, ascending
abbrev pub unaborted : Past → ℕ → List ℕ
unaborted past r = left (λ (i : ℕ). is_aborted past r i) (length (fetched past r))

-- one more place is left where it isn't aborted
pub left-more : (a : ℕ → Bool) (n : ℕ) (b : Bool) → a n ≡ b → left a (suc n) ≡ left a n ++ (if b then [] else n ∷ [])
left-more a n b e = filter-append (λ (i : ℕ). not (a i)) (upto n) (n ∷ []) ∙ ap (λ (z : List ℕ). left a n ++ z) (one b e) where
  one : (b : Bool) → a n ≡ b → filter (λ (i : ℕ). not (a i)) (n ∷ []) ≡ (if b then [] else n ∷ [])
  one true e = rw e refl
  one false e = rw e refl

-- one more place waits where it is neither aborted nor picked
waits-more : (a : ℕ → Bool) (p n : ℕ) (b : Bool) → waits_by a p n ≡ b → filter (waits_by a p) (upto (suc n)) ≡ filter (waits_by a p) (upto n) ++ (if b then n ∷ [] else [])
waits-more a p n b e = filter-append (waits_by a p) (upto n) (n ∷ []) ∙ ap (λ (z : List ℕ). filter (waits_by a p) (upto n) ++ z) (one b e) where
  one : (b : Bool) → waits_by a p n ≡ b → filter (waits_by a p) (n ∷ []) ≡ (if b then n ∷ [] else [])
  one true e = rw e refl
  one false e = rw e refl

-- the places that wait are those left, but for the first that were picked
pub waits-drop : (a : ℕ → Bool) (p n : ℕ) → filter (waits_by a p) (upto n) ≡ drop p (left a n)
waits-drop a p zero = sym (drop_all p [] (omega arith))
waits-drop a p (suc n) = step (a n) refl (waits-drop a p n) where
  step : (b : Bool) → a n ≡ b → filter (waits_by a p) (upto n) ≡ drop p (left a n) → filter (waits_by a p) (upto (suc n)) ≡ drop p (left a (suc n))
  step true e h =
      waits-more a p n false (rw e refl) ∙ append-nil (filter (waits_by a p) (upto n)) ∙ h
      ∙ ap (drop p) (sym (left-more a n true e ∙ append-nil (left a n)))
  step false e h = elim (cases_lt (length (left a n)) p) [
    | inl below ↦
        waits-more a p n false (rw (e, lt-ltb (length (left a n)) p below) refl) ∙ append-nil (filter (waits_by a p) (upto n)) ∙ h
        ∙ drop_all p (left a n) (omega (arith, below))
        ∙ sym (ap (drop p) (left-more a n false e) ∙ drop_all p (left a n ++ n ∷ []) (omega (arith, below, length_push (left a n) n)))
    | inr from ↦
        waits-more a p n true (rw (e, le-ltb (length (left a n)) p from) refl) ∙ ap (λ (z : List ℕ). z ++ n ∷ []) h
        ∙ sym (ap (drop p) (left-more a n false e) ∙ drop-append-le p (left a n) (n ∷ []) from)
  ]

-- the places of a region that wait are those that no Abort names, but for the first that were picked
pub waiting_is-drop : (past : Past) (r : ℕ) → waiting past r ≡ drop (picked past r) (unaborted past r)
waiting_is-drop past r = waits-drop (λ (i : ℕ). is_aborted past r i) (picked past r) (length (fetched past r))

-- ---- the order of the places that wait
-- the numbers up to n are below n
pub upto-below : (n : ℕ) → All (λ (i : ℕ). i < n) (upto n)
upto-below zero = All-nil (λ (i : ℕ). i < zero)
upto-below (suc n) = All-push (λ (i : ℕ). i < suc n) (upto n) n (All-weaker (λ (i : ℕ). i < n) (λ (i : ℕ). i < suc n) (λ (i : ℕ) (h : i < n). omega (arith, h)) (upto n) (upto-below n)) (omega arith)

-- they stand in ascending order
pub upto-ascending : (n : ℕ) → AllPairs (λ (i j : ℕ). i < j) (upto n)
upto-ascending zero = λ i j d lt within. absurd (omega arith)
upto-ascending (suc n) = all_pairs_push (λ (i j : ℕ). i < j) (upto n) n (upto-ascending n) (λ k d lt. upto-below n k d lt)

-- the places that wait are fetched ones
pub waiting-below : (past : Past) (r : ℕ) → All (λ (i : ℕ). i < length (fetched past r)) (waiting past r)
waiting-below past r = All-filter (λ (i : ℕ). is_waiting (fate_of past r i)) (λ (i : ℕ). i < length (fetched past r)) (places past r) (upto-below (length (fetched past r)))

-- they stand in ascending order, so they are apart
pub waiting-ascending : (past : Past) (r : ℕ) → AllPairs (λ (i j : ℕ). i < j) (waiting past r)
waiting-ascending past r = AllPairs-filter (λ (i j : ℕ). i < j) (λ (i : ℕ). is_waiting (fate_of past r i)) (places past r) (upto-ascending (length (fetched past r)))

-- each of them waits
pub waiting-waits : (past : Past) (r : ℕ) → All (λ (i : ℕ). is_waiting (fate_of past r i) ≡ true) (waiting past r)
waiting-waits past r = filter_passes (λ (i : ℕ). is_waiting (fate_of past r i)) (places past r)

-- ---- how often an index stands in a list
abbrev pub times_among : ℕ → List ℕ → ℕ
times_among i xs = sum_by (λ (j : ℕ). one_if (j == i)) xs

-- an index stands once among those of the numbers below n that pass a test, where it is one of them
pub times-upto : (test : ℕ → Bool) (i n : ℕ) → times_among i (filter test (upto n)) ≡ one_if (nat_lt i n && test i)
times-upto test i zero = rw (le-ltb i 0 (omega arith)) refl
times-upto test i (suc n) =
    ap (times_among i) (filter-append test (upto n) (n ∷ []))
    ∙ sum_by-append (λ (j : ℕ). one_if (j == i)) (filter test (upto n)) (filter test (n ∷ []))
    ∙ ap (λ (z : ℕ). z + times_among i (filter test (n ∷ []))) (times-upto test i n)
    ∙ last (cases_order i n) where
      passes : (b : Bool) → test n ≡ b → times_among i (filter test (n ∷ [])) ≡ one_if (n == i && b)
      passes true e = rw e (both (n == i)) where
        both : (b : Bool) → 0 + one_if b ≡ one_if (b && true)
        both true = refl
        both false = refl
      passes false e = rw e (none (n == i)) where
        none : (b : Bool) → 0 ≡ one_if (b && false)
        none true = refl
        none false = refl

      last : (i ≡ n) ⊎ ((i < n) ⊎ (n < i)) → one_if (nat_lt i n && test i) + times_among i (filter test (n ∷ [])) ≡ one_if (nat_lt i (suc n) && test i)
      last (inl same) = rw (passes (test n) refl, le-ltb i n (omega (arith, same)), lt-ltb i (suc n) (omega (arith, same)), eq-eqb n i (sym same), same) (omega arith)
      last (inr (inl below)) = rw (passes (test n) refl, lt-ltb i n below, lt-ltb i (suc n) (omega (arith, below)), ne_eqb n i (λ e. omega (arith, e, below))) (add-zero (one_if (test i)))
      last (inr (inr above)) = rw (passes (test n) refl, le-ltb i n (omega (arith, above)), le-ltb i (suc n) (omega (arith, above)), ne_eqb n i (λ e. omega (arith, e, above))) refl

-- a place stands once among those that wait, where it is one of them
pub times-waiting : (past : Past) (r i : ℕ) → times_among i (waiting past r) ≡ one_if (nat_lt i (length (fetched past r)) && is_waiting (fate_of past r i))
times-waiting past r i = times-upto (λ (j : ℕ). is_waiting (fate_of past r j)) i (length (fetched past r))

-- a fetched place was picked or aborted, or it waits
pub served-or_waits : (past : Past) (r i : ℕ) → one_if (is_served past r i) + times_among i (waiting past r) ≡ one_if (nat_lt i (length (fetched past r)))
served-or_waits past r i = ap (λ (z : ℕ). one_if (is_served past r i) + z) (times-waiting past r i) ∙ one_of (nat_lt i (length (fetched past r))) (is_waiting (fate_of past r i)) where
  one_of : (b w : Bool) → one_if (b && not w) + one_if (b && w) ≡ one_if b
  one_of true true = refl
  one_of true false = refl
  one_of false w = refl

-- a list contains an index that stands in it
pub contains-times : (i : ℕ) (xs : List ℕ) → 1 ≤ times_among i xs → Contains xs i
contains-times i [] h = absurd (omega (arith, h))
contains-times i (x ∷ xs) h = step (eqb_tells x i) (contains-times i xs) where
  later : Contains xs i → Contains (x ∷ xs) i
  later c = (suc c.0, omega (arith, c.1), c.2)

  step : (((x == i) ≡ true) × (x ≡ i)) ⊎ (((x == i) ≡ false) × (x ≡ i → ⊥)) → (1 ≤ times_among i xs → Contains xs i) → Contains (x ∷ xs) i
  step (inl here) k = (zero, omega arith, here.1)
  step (inr apart) k =
      let none : one_if (x == i) ≡ 0 = rw apart.0 refl in
      later (k (omega (arith, h, none, sum_by-cons (λ (j : ℕ). one_if (j == i)) x xs)))

-- a fetched place that waits is among those that wait
pub waiting-contains : (past : Past) (r i : ℕ) → i < length (fetched past r) → is_waiting (fate_of past r i) ≡ true → Contains (waiting past r) i
waiting-contains past r i lt w =
    contains-times i (waiting past r) (rw (times-waiting past r i, lt-ltb i (length (fetched past r)) lt, w) (omega arith))

-- ---- what an event changes: a fetch
-- a fetch from the region
pub fetched-fetch : (past : Past) (r index : ℕ) (entry : Sqe) → fetched (event.Fetch r index entry ∷ past) r ≡ fetched past r ++ entry ∷ []
fetched-fetch past r index entry = rw (eq-eqb r r refl) refl

-- a fetch from another region
pub fetched-fetch_other : (past : Past) (region index : ℕ) (entry : Sqe) (r : ℕ) → (region ≡ r → ⊥) → fetched (event.Fetch region index entry ∷ past) r ≡ fetched past r
fetched-fetch_other past region index entry r other = rw (ne_eqb region r other) refl

-- the fetched place is not aborted yet, so it is left
pub unaborted-fetch : (past : Past) (r index : ℕ) (entry : Sqe) → is_aborted past r (length (fetched past r)) ≡ false
    → unaborted (event.Fetch r index entry ∷ past) r ≡ unaborted past r ++ length (fetched past r) ∷ []
unaborted-fetch past r index entry fresh =
    ap (left (λ (i : ℕ). is_aborted past r i)) (ap length (fetched-fetch past r index entry) ∙ length_push (fetched past r) entry ∙ add-one (length (fetched past r)))
    ∙ left-more (λ (i : ℕ). is_aborted past r i) (length (fetched past r)) false fresh

-- it waits behind those that waited
pub waiting-fetch : (past : Past) (r index : ℕ) (entry : Sqe) → is_aborted past r (length (fetched past r)) ≡ false
    → picked past r ≤ unaborted_below past r (length (fetched past r))
    → waiting (event.Fetch r index entry ∷ past) r ≡ waiting past r ++ length (fetched past r) ∷ []
waiting-fetch past r index entry fresh few =
    waiting_is-drop (event.Fetch r index entry ∷ past) r
    ∙ ap (drop (picked past r)) (unaborted-fetch past r index entry fresh)
    ∙ drop-append-le (picked past r) (unaborted past r) (length (fetched past r) ∷ []) few
    ∙ ap (λ (z : List ℕ). z ++ length (fetched past r) ∷ []) (sym (waiting_is-drop past r))

-- a log with the same fetches, picks and aborts of a region has the same places that wait
pub waiting-same : (past later : Past) (r : ℕ) → fetched later r ≡ fetched past r → picked later r ≡ picked past r → ((i : ℕ) → is_aborted later r i ≡ is_aborted past r i)
    → waiting later r ≡ waiting past r
waiting-same past later r f p a =
    let same : (λ (i : ℕ). is_aborted later r i) ≡ (λ (i : ℕ). is_aborted past r i) = λ t i. a i t in
    λ t. filter (waits_by (same t) (p t)) (upto (length (f t)))

-- and as many unaborted places below an index
pub unaborted_below-same : (past later : Past) (r : ℕ) → ((i : ℕ) → is_aborted later r i ≡ is_aborted past r i) → (n : ℕ) → unaborted_below later r n ≡ unaborted_below past r n
unaborted_below-same past later r a n =
    let same : (λ (i : ℕ). is_aborted later r i) ≡ (λ (i : ℕ). is_aborted past r i) = λ t i. a i t in
    λ t. length (left (same t) n)

-- the places of another region wait as before
pub waiting-fetch_other : (past : Past) (region index : ℕ) (entry : Sqe) (r : ℕ) → (region ≡ r → ⊥) → waiting (event.Fetch region index entry ∷ past) r ≡ waiting past r
waiting-fetch_other past region index entry r other =
    waiting-same past (event.Fetch region index entry ∷ past) r (fetched-fetch_other past region index entry r other) refl (λ i. refl)

-- ---- a pick
-- how many were picked, after a pick of the region's queue
pub picked-pick : (past : Past) (seen : List Seen) (pick : Pick) (r : ℕ) → has_region r (open_sq past pick.qid) ≡ true
    → picked (event.Pick seen pick ∷ past) r ≡ picked past r + pick.n
picked-pick past seen pick r own = rw own refl

-- and of another queue
pub picked-pick_other : (past : Past) (seen : List Seen) (pick : Pick) (r : ℕ) → has_region r (open_sq past pick.qid) ≡ false
    → picked (event.Pick seen pick ∷ past) r ≡ picked past r
picked-pick_other past seen pick r other = rw other refl

-- a pick of the region's queue takes the first places that wait
pub waiting-pick : (past : Past) (seen : List Seen) (pick : Pick) (r : ℕ) → has_region r (open_sq past pick.qid) ≡ true
    → waiting (event.Pick seen pick ∷ past) r ≡ drop pick.n (waiting past r)
waiting-pick past seen pick r own =
    waiting_is-drop (event.Pick seen pick ∷ past) r
    ∙ ap (λ (z : ℕ). drop z (unaborted past r)) (picked-pick past seen pick r own)
    ∙ sym (drop-drop pick.n (picked past r) (unaborted past r))
    ∙ ap (drop pick.n) (sym (waiting_is-drop past r))

-- a pick of another queue takes none of them
pub waiting-pick_other : (past : Past) (seen : List Seen) (pick : Pick) (r : ℕ) → has_region r (open_sq past pick.qid) ≡ false
    → waiting (event.Pick seen pick ∷ past) r ≡ waiting past r
waiting-pick_other past seen pick r other = waiting-same past (event.Pick seen pick ∷ past) r refl (picked-pick_other past seen pick r other) (λ i. refl)

-- ---- an abort
-- it names one place more of the region
pub is_aborted-abort : (past : Past) (r i j : ℕ) → is_aborted (event.Abort r i ∷ past) r j ≡ ((i == j) || is_aborted past r j)
is_aborted-abort past r i j = rw (eq-eqb r r refl) refl

-- and none of another region
pub is_aborted-abort_other : (past : Past) (region i r j : ℕ) → (region ≡ r → ⊥) → is_aborted (event.Abort region i ∷ past) r j ≡ is_aborted past r j
is_aborted-abort_other past region i r j other = rw (ne_eqb region r other) refl

-- the places of another region wait as before
pub waiting-abort_other : (past : Past) (region i r : ℕ) → (region ≡ r → ⊥) → waiting (event.Abort region i ∷ past) r ≡ waiting past r
waiting-abort_other past region i r other = waiting-same past (event.Abort region i ∷ past) r refl refl (λ j. is_aborted-abort_other past region i r j other)

-- what fails either of two tests, one after the other
filter-either : (e a : ℕ → Bool) (xs : List ℕ) → filter (λ (j : ℕ). not (e j || a j)) xs ≡ filter (λ (j : ℕ). not (e j)) (filter (λ (j : ℕ). not (a j)) xs)
filter-either e a [] = refl
filter-either e a (x ∷ xs) = step (e x) (a x) refl refl (filter-either e a xs) where
  step : (b c : Bool) → e x ≡ b → a x ≡ c → filter (λ (j : ℕ). not (e j || a j)) xs ≡ filter (λ (j : ℕ). not (e j)) (filter (λ (j : ℕ). not (a j)) xs)
      → filter (λ (j : ℕ). not (e j || a j)) (x ∷ xs) ≡ filter (λ (j : ℕ). not (e j)) (filter (λ (j : ℕ). not (a j)) (x ∷ xs))
  step true true p q h = rw (p, q) h
  step false true p q h = rw (p, q) h
  step true false p q h = rw (q, p) h
  step false false p q h = rw (q, p) (ap (λ (z : List ℕ). x ∷ z) h)

-- a list in which an index doesn't stand
filter-without : (i : ℕ) (xs : List ℕ) → times_among i xs ≡ 0 → filter (λ (j : ℕ). not (i == j)) xs ≡ xs
filter-without i [] h = refl
filter-without i (x ∷ xs) h = step (eqb_tells x i) (filter-without i xs) where
  step : (((x == i) ≡ true) × (x ≡ i)) ⊎ (((x == i) ≡ false) × (x ≡ i → ⊥)) → (times_among i xs ≡ 0 → filter (λ (j : ℕ). not (i == j)) xs ≡ xs)
      → filter (λ (j : ℕ). not (i == j)) (x ∷ xs) ≡ x ∷ xs
  step (inl here) k =
      let one : one_if (x == i) ≡ 1 = rw here.0 refl in
      absurd (omega (arith, h, one, sum_by-cons (λ (j : ℕ). one_if (j == i)) x xs))
  step (inr apart) k =
      let none : one_if (x == i) ≡ 0 = rw apart.0 refl in
      rw (ne_eqb i x (λ e. apart.1 (sym e))) (ap (λ (z : List ℕ). x ∷ z) (k (omega (arith, h, none, sum_by-cons (λ (j : ℕ). one_if (j == i)) x xs))))

-- an index that stands once is taken out of where it stands
takes_out : (p i : ℕ) (xs rest : List ℕ) → times_among i xs ≤ 1 → drop p xs ≡ i ∷ rest → filter (λ (j : ℕ). not (i == j)) xs ≡ take p xs ++ rest
takes_out p i xs rest once from =
    let whole : take p xs ++ i ∷ rest ≡ xs = ap (λ (z : List ℕ). take p xs ++ z) (sym from) ∙ take-append-drop p xs in
    let one : one_if (i == i) ≡ 1 = rw (eq-eqb i i refl) refl in
    let count : times_among i (take p xs) + times_among i (i ∷ rest) ≡ times_among i xs = sym (sum_by-append (λ (j : ℕ). one_if (j == i)) (take p xs) (i ∷ rest)) ∙ ap (times_among i) whole in
    let first : times_among i (take p xs) ≡ 0 = omega (arith, one, count, once, sum_by-cons (λ (j : ℕ). one_if (j == i)) i rest) in
    let later : times_among i rest ≡ 0 = omega (arith, one, count, once, sum_by-cons (λ (j : ℕ). one_if (j == i)) i rest) in
    let here : filter (λ (j : ℕ). not (i == j)) (i ∷ rest) ≡ filter (λ (j : ℕ). not (i == j)) rest = rw (eq-eqb i i refl) refl in
    ap (filter (λ (j : ℕ). not (i == j))) (sym whole)
    ∙ filter-append (λ (j : ℕ). not (i == j)) (take p xs) (i ∷ rest)
    ∙ (λ t. (filter-without i (take p xs) first) t ++ (here ∙ filter-without i rest later) t)

-- what is left from a place that waits on
from_place : (past : Past) (r i : ℕ) (xs ys : List ℕ) → waiting past r ≡ xs ++ i ∷ ys → drop (picked past r + length xs) (unaborted past r) ≡ i ∷ ys
from_place past r i xs ys split =
    sym (drop-drop (length xs) (picked past r) (unaborted past r))
    ∙ ap (drop (length xs)) (sym (waiting_is-drop past r) ∙ split) ∙ drop_at xs (i ∷ ys) (length xs) refl

-- a place that waits is aborted: those that were picked and those that wait before it are left, and those behind it
pub unaborted-abort_at : (past : Past) (r i : ℕ) (xs ys : List ℕ) → waiting past r ≡ xs ++ i ∷ ys
    → unaborted (event.Abort r i ∷ past) r ≡ take (picked past r + length xs) (unaborted past r) ++ ys
unaborted-abort_at past r i xs ys split =
    let same : (λ (j : ℕ). not (is_aborted (event.Abort r i ∷ past) r j)) ≡ (λ (j : ℕ). not ((i == j) || is_aborted past r j)) = λ t j. not (is_aborted-abort past r i j t) in
    ap (λ (f : ℕ → Bool). filter f (upto (length (fetched past r)))) same
    ∙ filter-either (λ (j : ℕ). i == j) (λ (j : ℕ). is_aborted past r j) (upto (length (fetched past r)))
    ∙ takes_out (picked past r + length xs) i (unaborted past r) ys
    (few (nat_lt i (length (fetched past r)) && not (is_aborted past r i)) (times-upto (λ (j : ℕ). not (is_aborted past r j)) i (length (fetched past r))))
    (from_place past r i xs ys split) where
      few : (b : Bool) → times_among i (unaborted past r) ≡ one_if b → times_among i (unaborted past r) ≤ 1
      few true e = omega (arith, e)
      few false e = omega (arith, e)

-- more places are left than were picked and wait before it
more_left : (past : Past) (r i : ℕ) (xs ys : List ℕ) → waiting past r ≡ xs ++ i ∷ ys
    → length (take (picked past r + length xs) (unaborted past r)) ≡ picked past r + length xs
more_left past r i xs ys split =
    length-take-le (picked past r + length xs) (unaborted past r)
    (omega (arith, length-drop (picked past r + length xs) (unaborted past r), ap length (from_place past r i xs ys split)))

-- then the others wait
pub waiting-abort_at : (past : Past) (r i : ℕ) (xs ys : List ℕ) → waiting past r ≡ xs ++ i ∷ ys → waiting (event.Abort r i ∷ past) r ≡ xs ++ ys
waiting-abort_at past r i xs ys split =
    waiting_is-drop (event.Abort r i ∷ past) r
    ∙ ap (drop (picked past r)) (unaborted-abort_at past r i xs ys split)
    ∙ drop-append-le (picked past r) (take (picked past r + length xs) (unaborted past r)) ys (omega (arith, more_left past r i xs ys split))
    ∙ ap (λ (z : List ℕ). z ++ ys)
    (drop-take (picked past r) (length xs) (unaborted past r)
    ∙ ap (take (length xs)) (sym (waiting_is-drop past r) ∙ split) ∙ take-append_seam xs (i ∷ ys))

-- and as many are left as were picked and wait
pub few_picked-abort_at : (past : Past) (r i : ℕ) (xs ys : List ℕ) → waiting past r ≡ xs ++ i ∷ ys
    → picked past r ≤ unaborted_below (event.Abort r i ∷ past) r (length (fetched past r))
few_picked-abort_at past r i xs ys split =
    omega (arith, ap length (unaborted-abort_at past r i xs ys split), length-append (take (picked past r + length xs) (unaborted past r)) ys, more_left past r i xs ys split)

-- the same of the oldest place that waits
pub waiting-abort : (past : Past) (r i : ℕ) (rest : List ℕ) → waiting past r ≡ i ∷ rest → waiting (event.Abort r i ∷ past) r ≡ rest
waiting-abort past r i rest oldest = waiting-abort_at past r i [] rest oldest

pub few_picked-abort : (past : Past) (r i : ℕ) (rest : List ℕ) → waiting past r ≡ i ∷ rest
    → picked past r ≤ unaborted_below (event.Abort r i ∷ past) r (length (fetched past r))
few_picked-abort past r i rest oldest = few_picked-abort_at past r i [] rest oldest

-- ---- fates
-- a log with the same picks and aborts of a region has the same fates
pub fate_of-same : (past later : Past) (r : ℕ) → picked later r ≡ picked past r → ((i : ℕ) → is_aborted later r i ≡ is_aborted past r i) → (i : ℕ) → fate_of later r i ≡ fate_of past r i
fate_of-same past later r p a i =
    let same : (λ (j : ℕ). is_aborted later r j) ≡ (λ (j : ℕ). is_aborted past r j) = λ t j. a j t in
    λ t. if same t i then WasAborted else (if nat_lt (length (left (same t) i)) (p t) then WasPicked else Waits)

-- a place has one fate
pub one_fate_of : (past : Past) (r i : ℕ) → one_if (is_aborted past r i) + one_if (is_picked (fate_of past r i)) + one_if (is_waiting (fate_of past r i)) ≡ 1
one_fate_of past r i = among (is_aborted past r i) (nat_lt (unaborted_below past r i) (picked past r)) where
  among : (a p : Bool) → one_if a + one_if (is_picked (if a then WasAborted else (if p then WasPicked else Waits)))
      + one_if (is_waiting (if a then WasAborted else (if p then WasPicked else Waits))) ≡ 1
  among true p = refl
  among false true = refl
  among false false = refl
