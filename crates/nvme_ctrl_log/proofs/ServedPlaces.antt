-- Which places of a region were picked or aborted, after one more event.
use Rattle.std.proofs.Common.{◌≡◌, ℕ, ◌+◌, ◌<◌, ◌≤◌, ◌==◌, nat_lt, Bool, true, false, if◌then◌else◌, List, [], ◌∷◌, ◌++◌, length, Some, ap, sym, refl, ◌∙◌, arith, inl, inr, ◌⊎◌}
use Rattle.std.specs.Prelude.{slice_get}
use Rattle.std.proofs.lemmas.List.{length_push}
use Rattle.std.proofs.lemmas.List.Sums.{sum_by-append, sum_by-cons}
use Rattle.std.proofs.lemmas.Bool.{eq-eqb, ne_eqb, cases_order, lt-ltb, le-ltb}
use Rattle.nvme_entry.specs.declared.submission.Sqe.{Sqe}
use Rattle.nvme_log.specs.declared.event.Event.TheVariants as event
use Rattle.nvme_log.specs.Rules.{Past}
use Rattle.nvme_log.specs.Places.{fetched, entry_at, picked, is_aborted, unaborted_below, waiting, one_if, is_served}
use Rattle.nvme_log.proofs.Waiting.{times_among, served-or_waits, fetched-fetch, waiting-fetch}
use Rattle.nvme_ctrl_log.proofs.LaterEvents.{with_events}
use Rattle.nvme_ctrl_log.proofs.AbortTargets.{slice_get-append_left, aborts_of}

-- a fetched entry stays where more is fetched
pub entry_stays : (past : Past) (region index r i : ℕ) (entry e : Sqe) → entry_at past r i ≡ Some e → entry_at (event.Fetch region index entry ∷ past) r i ≡ Some e
entry_stays past region index r i entry e h = stays (region == r) where
  stays : (b : Bool) → slice_get (if b then fetched past r ++ entry ∷ [] else fetched past r) i ≡ Some e
  stays true = slice_get-append_left (fetched past r) (entry ∷ []) i e h
  stays false = h

-- two tests that count the same are the same
pub one_if-same : (a b : Bool) → one_if a ≡ one_if b → a ≡ b
one_if-same true true e = refl
one_if-same false false e = refl
one_if-same true false e = absurd (omega (arith, e))
one_if-same false true e = absurd (omega (arith, e))

-- an index is below n + 1 where it is below n, or n
below-more : (i n : ℕ) → one_if (nat_lt i (n + 1)) ≡ one_if (nat_lt i n) + one_if (n == i)
below-more i n = last (cases_order i n) where
  last : (i ≡ n) ⊎ ((i < n) ⊎ (n < i)) → one_if (nat_lt i (n + 1)) ≡ one_if (nat_lt i n) + one_if (n == i)
  last (inl same) = rw (le-ltb i n (omega (arith, same)), lt-ltb i (n + 1) (omega (arith, same)), eq-eqb n i (sym same)) (omega arith)
  last (inr (inl below)) = rw (lt-ltb i n below, lt-ltb i (n + 1) (omega (arith, below)), ne_eqb n i (λ e. omega (arith, e, below))) (omega arith)
  last (inr (inr above)) = rw (le-ltb i n (omega (arith, above)), le-ltb i (n + 1) (omega (arith, above)), ne_eqb n i (λ e. omega (arith, e, above))) (omega arith)

-- ---- which places were served: picked or aborted
-- a fetch serves no place
pub served-fetch : (past : Past) (r index : ℕ) (entry : Sqe) → is_aborted past r (length (fetched past r)) ≡ false
    → picked past r ≤ unaborted_below past r (length (fetched past r)) → (i : ℕ)
    → is_served (event.Fetch r index entry ∷ past) r i ≡ is_served past r i
served-fetch past r index entry fresh few i =
    let n : ℕ = length (fetched past r) in
    let later = served-or_waits (event.Fetch r index entry ∷ past) r i in
    let longer : length (fetched (event.Fetch r index entry ∷ past) r) ≡ n + 1 = ap length (fetched-fetch past r index entry) ∙ length_push (fetched past r) entry in
    let bound : one_if (nat_lt i (length (fetched (event.Fetch r index entry ∷ past) r))) ≡ one_if (nat_lt i n) + one_if (n == i) =
    ap (λ (z : ℕ). one_if (nat_lt i z)) longer ∙ below-more i n in
    let one : times_among i (n ∷ []) ≡ one_if (n == i) = sum_by-cons (λ (j : ℕ). one_if (j == i)) n [] ∙ omega arith in
    let more : times_among i (waiting (event.Fetch r index entry ∷ past) r) ≡ times_among i (waiting past r) + one_if (n == i) =
    ap (times_among i) (waiting-fetch past r index entry fresh few) ∙ sum_by-append (λ (j : ℕ). one_if (j == i)) (waiting past r) (n ∷ [])
    ∙ ap (λ (z : ℕ). times_among i (waiting past r) + z) one in
    one_if-same (is_served (event.Fetch r index entry ∷ past) r i) (is_served past r i)
    (omega (arith, later, bound, more, served-or_waits past r i))

-- ---- which fetched places were picked, and which wait

-- ---- aborts of several places
-- what an abort leaves, aborts leave
pub aborts-leave : {A : Type 0} (word : Past → A) → ((past : Past) (r i : ℕ) → word (event.Abort r i ∷ past) ≡ word past)
    → (r : ℕ) (is : List ℕ) (past : Past) → word (with_events (aborts_of r is) past) ≡ word past
aborts-leave word left r [] past = refl
aborts-leave word left r (i ∷ is) past = aborts-leave word left r is (event.Abort r i ∷ past) ∙ left past r i
