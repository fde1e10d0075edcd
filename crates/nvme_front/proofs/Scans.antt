-- A scan of the submission rings, queue by queue.
use Rattle.std.proofs.Common.{◌≡◌, ◌≢◌, ◌∙◌, ℕ, ◌+◌, ◌-◌, ◌<◌, ◌≤◌, ◌⊎◌, Bool, List, [], length, map, get_or, inl, inr, Some, None, ap, sym, subst, arith}
use Rattle.std.specs.Prelude.{reverse, if◌then◌else◌}
use Rattle.std.proofs.Math.Nat.{le-min}
use Rattle.std.proofs.lemmas.Bool.{ne_eqb}
use Rattle.std.proofs.lemmas.List.{length-append}
use Rattle.std.proofs.lemmas.Option.{same_Some}
use Rattle.nvme_entry.specs.declared.submission.Sqe.{Sqe}
use Rattle.nvme_arbiter.specs.Limits.{highest_count}
use Rattle.nvme_log.specs.declared.event.Event.{Event}
use Rattle.nvme_log.specs.Limits.{window_of}
use Rattle.nvme_log.specs.Rules.{FrontRules, Past, window_at}
use Rattle.nvme_log.specs.Queues.{Queue, open_sq}
use Rattle.nvme_log.specs.Places.{waiting}
use Rattle.nvme_log.proofs.Waiting.{waiting-fetch_other}
use Rattle.nvme_front.specs.declared.region.SqRegion.{SqRegion}
use Rattle.nvme_front.specs.declared.state.FrontState.{FrontState}
use Rattle.nvme_lane.specs.View.{GetView}
use Rattle.nvme_front.specs.inside.State.{gets_of, rules_of, past_of, view_of}
use Rattle.nvme_front.specs.inside.Room.{IsConsistent}
use Rattle.nvme_front.specs.inside.Goes.{Goes, HasAdmin, IsSame, IsScanned}
use Rattle.nvme_front.specs.View.{known_in, NoneCanBePosted}
use Rattle.nvme_front.proofs.States.{Goes-same, rules-goes, same_view}
use Rattle.nvme_front.proofs.SqEnds.{known_in-read, known_in-set}
use Rattle.nvme_front.proofs.RunningFacts.{IsOpenOn, two_regions}
use Rattle.nvme_front.proofs.Fetches.{Fetched, fetch_past, fetch_goes, region_there, window_is}

-- a log that goes on is as long at least
pub goes_longer : (a b : FrontState) → Goes a b → length a.log.items ≤ length b.log.items
goes_longer a b g = omega (arith, length-append a.log.items g.grew.0, ap length g.grew.1)

-- whether a queue was scanned, by what a contract sees
abbrev pub IsScannedAt : FrontRules → Past → (ℕ → List Sqe) → ℕ → Type 0
IsScannedAt rules past known q =
    (queue : Queue) → open_sq past q ≡ Some queue
    → ((window_at rules queue.region ≤ length (waiting past queue.region)) × (waiting past queue.region ≢ [])) ⊎ (known queue.region ≡ [])

-- a queue that was scanned stays so where the same is seen
pub scanned_by : (a b : FrontState) → rules_of b ≡ rules_of a → past_of b ≡ past_of a → ((r : ℕ) → known_in (view_of b) r ≡ known_in (view_of a) r) → (q : ℕ)
    → IsScanned a q → IsScanned b q
scanned_by a b rules past known q h =
    subst (λ (k : ℕ → List Sqe). IsScannedAt (rules_of b) (past_of b) k q) (λ t r. sym (known r) t)
    (subst (λ (p : Past). IsScannedAt (rules_of b) p (known_in (view_of a)) q) (sym past)
    (subst (λ (x : FrontRules). IsScannedAt x (past_of a) (known_in (view_of a)) q) (sym rules) h))

-- so it does in the same front later on, and did before
pub scanned_on : (a b : FrontState) → IsSame a b → (q : ℕ) → IsScanned a q → IsScanned b q
scanned_on a b same q h =
    scanned_by a b (rules-goes a b (Goes-same a b same)) (ap (λ (xs : List Event). reverse xs) same.log)
    (λ r. ap (λ (sqs : List SqRegion). get_or (map (λ (g : GetView Sqe). g.known) (gets_of sqs)) r []) same.sqs) q h

-- nor is a completion ready that wasn't before
pub posted_same : (a b : FrontState) → IsSame a b → NoneCanBePosted (view_of a) → NoneCanBePosted (view_of b)
posted_same a b same = subst NoneCanBePosted (sym (same_view a b same))

-- a queue that isn't open gives nothing
pub scanned_none : (s : FrontState) (q : ℕ) → open_sq (past_of s) q ≡ None → IsScanned s q
scanned_none s q none queue is = absurd (cc (none, is))

-- nor does a queue whose window is full
pub scanned_full : (s : FrontState) → IsConsistent s → HasAdmin s → (q r : ℕ) → IsOpenOn (past_of s) q r → (d : SqRegion) → d ≡ get_or s.sqs.items r d → 2 ≤ d.end.slots
    → window_of d.end.slots ≤ length (waiting (past_of s) r) → IsScanned s q
scanned_full s kept admin q r o d read ring full queue is =
    let on : r ≡ queue.region = sym o.on ∙ ap (λ (x : Queue). x.region) (same_Some o.queue queue (sym o.is_open ∙ is)) in
    let some : 1 ≤ window_of d.end.slots = le-min {k = 1} {a = d.end.slots - 1} {b = highest_count} (omega (arith, ring)) (omega arith) in
    inl (subst (λ (x : ℕ). (window_at (rules_of s) x ≤ length (waiting (past_of s) x)) × (waiting (past_of s) x ≢ [])) on (
      omega (arith, full, window_is s kept admin q r o d read),
      λ none. omega (arith, some, full, ap (λ (is : List ℕ). length is) none),
    ))

-- nor does a queue whose ring is known to give nothing
pub scanned_empty : (s : FrontState) → IsConsistent s → HasAdmin s → (q r : ℕ) → IsOpenOn (past_of s) q r → (d : SqRegion) → d ≡ get_or s.sqs.items r d → d.end.known ≡ []
    → IsScanned s q
scanned_empty s kept admin q r o d read none queue is =
    let on : r ≡ queue.region = sym o.on ∙ ap (λ (x : Queue). x.region) (same_Some o.queue queue (sym o.is_open ∙ is)) in
    inr (subst (λ (x : ℕ). known_in (view_of s) x ≡ []) on (known_in-read s r d (region_there s kept admin q r o) read ∙ none))

-- ---- the other queues
module _ (a b : FrontState) (q r : ℕ) (d g : SqRegion) (entry : Sqe) (f : Fetched a b q r d g entry) (kept : IsConsistent a) (admin : HasAdmin a) (o : IsOpenOn (past_of a) q r) where
  -- after a fetch the other queues give nothing where they gave nothing
  pub others_scanned : (x : ℕ) → x ≢ q → IsScanned a x → IsScanned b x
  others_scanned x other was queue is =
      let here : open_sq (past_of a) x ≡ Some queue = ap (λ (p : Past). open_sq p x) (sym (fetch_past a b q r d g entry f)) ∙ is in
      let apart : r ≡ queue.region → ⊥ =
      λ e. other (two_regions a (kept.running admin) x q queue o.queue here o.is_open (sym e ∙ sym o.on)) in
      let waits : waiting (past_of b) queue.region ≡ waiting (past_of a) queue.region =
      ap (λ (p : Past). waiting p queue.region) (fetch_past a b q r d g entry f) ∙ waiting-fetch_other (past_of a) r d.fetched entry queue.region apart in
      let known : known_in (view_of b) queue.region ≡ known_in (view_of a) queue.region =
      known_in-set a b r g (region_there a kept admin q r o) f.sqs queue.region
      ∙ ap (λ (t : Bool). if t then g.end.known else known_in (view_of a) queue.region) (ne_eqb queue.region r (λ e. apart (sym e))) in
      let rules : window_at (rules_of b) queue.region ≡ window_at (rules_of a) queue.region =
      ap (λ (x : FrontRules). window_at x queue.region) (rules-goes a b (fetch_goes a b q r d g entry f)) in
      elim (was queue here) [
        | inl full ↦ inl (omega (arith, full.0, waits_length waits, rules), λ none. full.1 (sym waits ∙ none))
        | inr none ↦ inr (known ∙ none)
      ] where
        waits_length : {xs ys : List ℕ} → xs ≡ ys → length xs ≡ length ys
        waits_length e = ap (λ (is : List ℕ). length is) e
