-- Which fetched places of a region are picked, after one more event.
use Rattle.std.proofs.Common.{◌≡◌, ℕ, zero, suc, ◌+◌, ◌<◌, ◌≤◌, ◌==◌, ◌||◌, Bool, true, false, if◌then◌else◌, List, [], ◌∷◌, ◌++◌, length, take, Some, ap, sym, refl, ◌∙◌, subst, arith, inl, inr}
use Rattle.std.specs.Prelude.{slice_get}
use Rattle.std.proofs.lemmas.List.{length_push}
use Rattle.std.proofs.lemmas.List.Sums.{sum_by-append, sum_by-cons, sum_by-take-drop}
use Rattle.std.proofs.lemmas.Bool.{eq-eqb, ne_eqb, cases_eq, cases_lt, lt-ltb, le-ltb}
use Rattle.nvme_entry.specs.declared.submission.Sqe.{Sqe}
use Rattle.nvme_arbiter.specs.declared.pick.Pick.{Pick}
use Rattle.nvme_arbiter.specs.declared.pick.Seen.{Seen}
use Rattle.nvme_log.specs.declared.event.Event.TheVariants as event
use Rattle.nvme_log.specs.Rules.{Past}
use Rattle.nvme_log.specs.Queues.{open_sq, has_region}
use Rattle.nvme_log.specs.Places.{fetched, entry_at, picked, is_aborted, unaborted_below, fate_of, is_waiting, is_picked, waiting, one_if}
use Rattle.nvme_log.proofs.Waiting.{times_among, times-waiting, one_fate_of, fate_of-same, waiting-pick, waiting-abort_at, is_aborted-abort, is_aborted-abort_other}
use Rattle.nvme_jobs.specs.inside.Standing.{IsPickedPlace}

-- ---- entries
-- an item of a list is one of a longer list
pub slice_get-append_left : {X : Type 0} (xs ys : List X) (i : ℕ) (x : X) → slice_get xs i ≡ Some x → slice_get (xs ++ ys) i ≡ Some x
slice_get-append_left [] ys i x h = cc h
slice_get-append_left (y ∷ xs) ys zero x h = h
slice_get-append_left (y ∷ xs) ys (suc i) x h = slice_get-append_left xs ys i x h

-- a fetched entry stays where more is fetched
pub entry_stays : (past : Past) (region index r i : ℕ) (entry e : Sqe) → entry_at past r i ≡ Some e → entry_at (event.Fetch region index entry ∷ past) r i ≡ Some e
entry_stays past region index r i entry e h = stays (region == r) where
  stays : (b : Bool) → slice_get (if b then fetched past r ++ entry ∷ [] else fetched past r) i ≡ Some e
  stays true = slice_get-append_left (fetched past r) (entry ∷ []) i e h
  stays false = h

-- ---- which fetched places wait, and which were picked
-- a fetched place waits as often as it stands among those that wait
waits-times : (past : Past) (r i : ℕ) → i < length (fetched past r) → times_among i (waiting past r) ≡ one_if (is_waiting (fate_of past r i))
waits-times past r i lt = times-waiting past r i ∙ rw (lt-ltb i (length (fetched past r)) lt) refl

-- after a pick of the region's queue the first places that waited wait no more
waits-pick : (past : Past) (seen : List Seen) (pick : Pick) (r : ℕ) → has_region r (open_sq past pick.qid) ≡ true → (i : ℕ) → i < length (fetched past r)
    → one_if (is_waiting (fate_of past r i)) ≡ one_if (is_waiting (fate_of (event.Pick seen pick ∷ past) r i)) + times_among i (take pick.n (waiting past r))
waits-pick past seen pick r own i lt =
    omega (
      arith,
      waits-times past r i lt,
      waits-times (event.Pick seen pick ∷ past) r i lt,
      ap (times_among i) (waiting-pick past seen pick r own),
      sum_by-take-drop (λ (j : ℕ). one_if (j == i)) (waiting past r) pick.n,
    )

-- they are picked
pub is_picked-pick : (past : Past) (seen : List Seen) (pick : Pick) (r : ℕ) → has_region r (open_sq past pick.qid) ≡ true → (i : ℕ) → i < length (fetched past r)
    → one_if (is_picked (fate_of (event.Pick seen pick ∷ past) r i)) ≡ one_if (is_picked (fate_of past r i)) + times_among i (take pick.n (waiting past r))
is_picked-pick past seen pick r own i lt =
    omega (arith, waits-pick past seen pick r own i lt, one_fate_of past r i, one_fate_of (event.Pick seen pick ∷ past) r i)

-- a place stands once more in a list with it between others than in these
times_between : (i c : ℕ) (xs ys : List ℕ) → times_among i (xs ++ c ∷ ys) ≡ times_among i (xs ++ ys) + one_if (c == i)
times_between i c xs ys =
    omega (
      arith,
      sum_by-append (λ (j : ℕ). one_if (j == i)) xs (c ∷ ys),
      sum_by-append (λ (j : ℕ). one_if (j == i)) xs ys,
      sum_by-cons (λ (j : ℕ). one_if (j == i)) c ys,
    )

-- after an abort of a place that waits it waits no more
waits-abort_at : (past : Past) (r c : ℕ) (xs ys : List ℕ) → waiting past r ≡ xs ++ c ∷ ys → (i : ℕ) → i < length (fetched past r)
    → one_if (is_waiting (fate_of past r i)) ≡ one_if (is_waiting (fate_of (event.Abort r c ∷ past) r i)) + one_if (c == i)
waits-abort_at past r c xs ys split i lt =
    omega (
      arith,
      waits-times past r i lt,
      waits-times (event.Abort r c ∷ past) r i lt,
      ap (times_among i) (waiting-abort_at past r c xs ys split),
      ap (times_among i) split,
      times_between i c xs ys,
    )

-- either of two tests counts as both, where at most one passes
either-count : (b a : Bool) → one_if b + one_if a ≤ 1 → one_if (b || a) ≡ one_if b + one_if a
either-count true true h = absurd (omega (arith, h))
either-count true false h = omega arith
either-count false a h = omega arith

-- two tests that count the same are the same
one_if-same : (a b : Bool) → one_if a ≡ one_if b → a ≡ b
one_if-same true true e = refl
one_if-same false false e = refl
one_if-same true false e = absurd (omega (arith, e))
one_if-same false true e = absurd (omega (arith, e))

-- an abort of a place that waits leaves which places are picked
pub is_picked-abort_at : (past : Past) (r c : ℕ) (xs ys : List ℕ) → waiting past r ≡ xs ++ c ∷ ys → (i : ℕ) → i < length (fetched past r)
    → is_picked (fate_of (event.Abort r c ∷ past) r i) ≡ is_picked (fate_of past r i)
is_picked-abort_at past r c xs ys split i lt =
    let waits = waits-abort_at past r c xs ys split i lt in
    let before = one_fate_of past r i in
    let named : one_if (is_aborted (event.Abort r c ∷ past) r i) ≡ one_if (c == i) + one_if (is_aborted past r i) =
    ap one_if (is_aborted-abort past r c i) ∙ either-count (c == i) (is_aborted past r i) (omega (arith, waits, before)) in
    one_if-same (is_picked (fate_of (event.Abort r c ∷ past) r i)) (is_picked (fate_of past r i))
    (omega (arith, waits, before, named, one_fate_of (event.Abort r c ∷ past) r i))

-- ---- events that pick no I/O command
-- each place of an I/O queue that is picked was so before
abbrev pub PicksNoMore : Past → Past → Type 0
PicksNoMore past later = (r i : ℕ) → (r == 0) ≡ false → IsPickedPlace later r i → IsPickedPlace past r i

-- the two truth values are apart
apart : true ≡ false → ⊥
apart e = cc e

-- a fetch of a place that isn't aborted, behind all that were picked, picks nothing
pub picks-fetch : (past : Past) (region index : ℕ) (entry : Sqe) → is_aborted past region (length (fetched past region)) ≡ false
    → picked past region ≤ unaborted_below past region (length (fetched past region)) → PicksNoMore past (event.Fetch region index entry ∷ past)
picks-fetch past region index entry fresh few r i io it = elim (cases_eq region r) [
  | inl e ↦ subst (λ (z : ℕ). IsPickedPlace past z i) e (same (subst (λ (z : ℕ). IsPickedPlace (event.Fetch region index entry ∷ past) z i) (sym e) it))
  | inr d ↦ record { there = subst (λ (b : Bool). i < length (if b then fetched past r ++ entry ∷ [] else fetched past r)) (ne_eqb region r d) it.there; was_picked = it.was_picked }
] where
  unpicked : is_picked (fate_of past region (length (fetched past region))) ≡ false
  unpicked = rw (fresh, le-ltb (unaborted_below past region (length (fetched past region))) (picked past region) few) refl

  same : IsPickedPlace (event.Fetch region index entry ∷ past) region i → IsPickedPlace past region i
  same at =
      let n : ℕ = length (fetched past region) in
      let here = subst (λ (b : Bool). i < length (if b then fetched past region ++ entry ∷ [] else fetched past region)) (eq-eqb region region refl) at.there in
      let below : i < n + 1 = omega (arith, here, length_push (fetched past region) entry) in
      elim (cases_lt i n) [
        | inl lt ↦ record { there = lt; was_picked = at.was_picked }
        | inr le ↦
            let last : i ≡ n = omega (arith, below, le) in
            let got = subst (λ (z : ℕ). is_picked (fate_of past region z) ≡ true) last at.was_picked in
            absurd (apart (sym got ∙ unpicked))
      ]

-- nor does an abort of a place that waits
pub picks-abort : (past : Past) (region c : ℕ) (xs ys : List ℕ) → waiting past region ≡ xs ++ c ∷ ys → PicksNoMore past (event.Abort region c ∷ past)
picks-abort past region c xs ys split r i io it = elim (cases_eq region r) [
  | inl e ↦
      let here : waiting past r ≡ xs ++ c ∷ ys = ap (waiting past) (sym e) ∙ split in
      record {
        there = it.there;
        was_picked = sym (is_picked-abort_at past r c xs ys here i it.there)
            ∙ subst (λ (z : ℕ). is_picked (fate_of (event.Abort z c ∷ past) r i) ≡ true) e it.was_picked;
      }
  | inr d ↦
      let fate = fate_of-same past (event.Abort region c ∷ past) r refl (λ j. is_aborted-abort_other past region c r j d) i in
      record { there = it.there; was_picked = ap is_picked (sym fate) ∙ it.was_picked }
]
