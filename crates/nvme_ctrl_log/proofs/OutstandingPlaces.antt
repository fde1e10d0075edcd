-- How many places are outstanding, and one place that is changed.
use Rattle.std.proofs.Common.{◌≡◌, ℕ, ◌+◌, ◌<◌, Bool, true, false, not, ◌&&◌, ◌==◌, if◌then◌else◌, List, map, refl, ap, ◌∙◌, arith}
use Rattle.std.proofs.lemmas.Bool.{ne_eqb}
use Rattle.nvme_log.specs.declared.event.Event.TheVariants.{Abort}
use Rattle.nvme_log.specs.Rules.{Past, upto}
use Rattle.nvme_log.specs.Places.{places, one_if}
use Rattle.nvme_log.specs.Completions.{is_posted, takes_place}
use Rattle.nvme_log.specs.Laws.{count_of}
use Rattle.nvme_ctrl_log.proofs.LaterEvents.{with_events}
use Rattle.nvme_log.proofs.Counting.{counts_same, counts_change}

-- how many places of a region that were picked, or that an Abort command aborted, have no post
abbrev pub outstanding_of : Past → ℕ → ℕ
outstanding_of past r = count_of (λ (i : ℕ). takes_place past r i && not (is_posted past r i)) (places past r)

-- ---- aborts
-- a log with an abort of each of some places of a region after it
abbrev pub aborts : ℕ → List ℕ → Past → Past
aborts r0 is past = with_events (map (λ (i : ℕ). Abort r0 i) is) past

-- ---- a post
-- tests that agree but at one index of a region, which fails the first
pub count_one : (t u : ℕ → Bool) (b : Bool) (i n : ℕ) → (b ≡ true → i < n) → (b ≡ true → t i ≡ false) → ((j : ℕ) → (b && i == j) ≡ false → u j ≡ t j)
    → count_of u (upto n) ≡ count_of t (upto n) + (if b then one_if (u i) else 0)
count_one t u true i n lt none other =
    let change = counts_change t u i n (lt refl) (λ (j : ℕ) apart. other j (ne_eqb i j apart)) in
    let was : one_if (t i) ≡ 0 = ap one_if (none refl) in
    omega (arith, change, was)
count_one t u false i n lt none other = counts_same t u (λ (j : ℕ). other j refl) (upto n) ∙ omega arith
