-- Slots of the rings: each is fetched once and in order, and written where it is free.
use Rattle.std.proofs.Common.{◌≡◌, ℕ, ◌+◌, ◌*◌, ◌<◌, ◌≤◌, ◌/◌, ◌%◌, ◌==◌, Bool, true, false, [], ◌∷◌, ◌++◌, length, refl, sym, ap, ◌∙◌, subst, arith, ◌⊎◌, inl, inr, if◌then◌else◌, div-add-mod', mul-le-mul_right}
use Rattle.std.proofs.lemmas.Bool.{cases_Bool, eq-eqb, eqb-true, cases_lt}
use Rattle.std.proofs.lemmas.List.{length-append}
use Rattle.std.proofs.lemmas.Nat.{row_fits}
use Rattle.nvme_log.specs.declared.event.Event.TheVariants.{Fetch, Post}
use Rattle.nvme_log.specs.Rules.{Past, FrontRules}
use Rattle.nvme_log.specs.Places.{fetched}
use Rattle.nvme_log.specs.Completions.{posted_to}
use Rattle.nvme_log.proofs.Prefixes.{posted_to-after}
use Rattle.nvme_ctrl_log.specs.Notes.{Notes, Logged, Tail, EachNote, logged}
use Rattle.nvme_ctrl_log.specs.Doorbells.{sq_slots, cq_slots, submitted, consumed}
use Rattle.nvme_ctrl_log.specs.Account.{IsLawful}
use Rattle.nvme_ctrl_log.specs.Laws.{SlotsAreFetchedInOrder, SlotsAreFree, CompletionsTellTheHead}
use Rattle.nvme_ctrl_log.proofs.Posting.{posts_told}
use Rattle.nvme_ctrl_log.proofs.Noted.{EachNote-after, logged-append}

-- ---- submission queues
-- the host submitted nothing, or less than a ring more than was fetched
abbrev Fits : FrontRules → Notes → ℕ → Type 0
Fits rules notes r = (submitted rules notes r ≡ 0) ⊎ (submitted rules notes r < length (fetched (logged notes) r) + sq_slots rules r)

fits : (rules : FrontRules) (notes : Notes) → EachNote (IsLawful rules) notes → (r : ℕ) → Fits rules notes r
fits rules [] h r = inl refl
fits rules (Tail region slot ∷ notes) h r = elim (cases_Bool (region == r)) [
  | inl here ↦ subst (Fits rules (Tail region slot ∷ notes)) (eqb-true region r here) (inr h.0.fits)
  | inr other ↦ rw other (fits rules notes h.1 r)
]
fits rules (Logged (Fetch region i entry) ∷ notes) h r = elim (fits rules notes h.1 r) [
  | inl none ↦ inl none
  | inr few ↦ inr (by (region == r) few)
]
  where
    by : (b : Bool) → submitted rules notes r < length (fetched (logged notes) r) + sq_slots rules r
        → submitted rules notes r < length (if b then fetched (logged notes) r ++ entry ∷ [] else fetched (logged notes) r) + sq_slots rules r
    by true k = omega (arith, k, length-append (fetched (logged notes) r) (entry ∷ []))
    by false k = k
fits rules (note ∷ notes) h r = fits rules notes h.1 r

pub slots_are_fetched_in_order : SlotsAreFetchedInOrder
slots_are_fetched_in_order rules later before r i entry h =
    let all = EachNote-after (IsLawful rules) later (Logged (Fetch r i entry) ∷ before) h.each in
    let next : i ≡ length (fetched (logged before) r) = all.0.index_counts in
    let some : length (fetched (logged before) r) < submitted rules before r = all.0.fetches_submitted in
    record {
      next = next;
      was_submitted = omega (arith, next, some);
      is_kept = elim (fits rules before all.1 r) [
        | inl none ↦ omega (arith, none, some)
        | inr few ↦ omega (arith, few, next)
      ];
    }

-- ---- completion queues
-- two numbers with the same rest are a multiple apart
turn-apart : (s n m : ℕ) → n < m → m % s ≡ n % s → n / s * s + n % s ≡ n → m / s * s + m % s ≡ m → n + s ≤ m
turn-apart s n m less same whole_n whole_m = elim (cases_lt (n / s) (m / s)) [
  | inl below ↦ (let row : n / s * s + s ≤ m / s * s = row_fits (n / s) s (m / s) s below (omega arith) in omega (arith, row, same, whole_n, whole_m))
  | inr above ↦ (let row : m / s * s ≤ n / s * s = times-le (m / s) (n / s) s above in omega (arith, row, same, whole_n, whole_m))
]
  where
    times-le : (a b k : ℕ) → a ≤ b → a * k ≤ b * k
    times-le a b k h = mul-le-mul_right k h

pub slots_are_free : SlotsAreFree
slots_are_free rules later between before c r i s j first second h same =
    let middle : Notes = between ++ Logged (Post c r i first) ∷ before in
    let all = EachNote-after (IsLawful rules) later (Logged (Post c s j second) ∷ middle) h.each in
    let free : length (posted_to (logged middle) c) + 1 < consumed rules middle c + cq_slots rules c = all.0.posts_on_free_slot in
    let prefix = posted_to-after (logged between) (Post c r i first ∷ logged before) c in
    let split : posted_to (logged middle) c ≡ posted_to (logged between ++ Post c r i first ∷ logged before) c = ap (λ (p : Past). posted_to p c) (logged-append between (Logged (Post c r i first) ∷ before)) in
    let here : posted_to (Post c r i first ∷ logged before) c ≡ posted_to (logged before) c ++ first ∷ [] = rw (eq-eqb c c refl) refl in
    let one : length (posted_to (Post c r i first ∷ logged before) c) ≡ length (posted_to (logged before) c) + 1 = ap length here ∙ length-append (posted_to (logged before) c) (first ∷ []) in
    let grows : length (posted_to (Post c r i first ∷ logged before) c) + length prefix.0 ≡ length (posted_to (logged middle) c) =
    sym (length-append (posted_to (Post c r i first ∷ logged before) c) prefix.0) ∙ ap length prefix.1 ∙ ap length (sym split) in
    let n : ℕ = length (posted_to (logged before) c) in
    let m : ℕ = length (posted_to (logged middle) c) in
    let apart : n + cq_slots rules c ≤ m = turn-apart (cq_slots rules c) n m (omega (arith, one, grows)) same (div-add-mod' n (cq_slots rules c)) (div-add-mod' m (cq_slots rules c)) in
    omega (arith, apart, free)

pub completions_tell_the_head : CompletionsTellTheHead
completions_tell_the_head rules later before c r i cqe h =
    let it = posts_told rules before c r i cqe (EachNote-after (IsLawful rules) later (Logged (Post c r i cqe) ∷ before) h.each).0.posts_own in
    (it.sqhd, it.phase)
