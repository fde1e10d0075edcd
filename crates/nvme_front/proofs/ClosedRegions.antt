-- All places of a closed region are posted, so none of its commands is in hand.
use Rattle.std.proofs.Common.{◌≡◌, ℕ, ◌<◌, ◌==◌, ◌&&◌, ◌||◌, Bool, true, false, if◌then◌else◌, List, [], ◌∷◌, ◌++◌, length, map, Some, refl, sym, ap, ◌∙◌, subst, inl, inr}
use Rattle.std.specs.Prelude.{slice_get}
use Rattle.std.specs.List.{All, list_any}
use Rattle.std.proofs.lemmas.Bool.{eqb-true, ne_eqb, cases_eq}
use Rattle.std.proofs.lemmas.List.Elements.{All-head, All-tail}
use Rattle.std.proofs.lemmas.Option.{slice_get_within}
use Rattle.nvme_log.specs.declared.event.Event.TheVariants.{Fetch, Pick, SetArbitration, OpenSq, OpenCq, Closing, Abort, Post, ClosedSq, ClosedCq}
use Rattle.nvme_log.specs.Rules.{Past, Each}
use Rattle.nvme_log.specs.Queues.{is_closed_region}
use Rattle.nvme_log.specs.Places.{fetched}
use Rattle.nvme_log.specs.Completions.{is_posted}
use Rattle.nvme_log.specs.Account.{Deletes}
use Rattle.nvme_log.specs.Dispatches.{dispatched, place_at}
use Rattle.nvme_log.proofs.Posts.{all_below}
use Rattle.nvme_jobs.proofs.Tickets.{job_there}
use Rattle.nvme_jobs.specs.Hands.{in_hand, is_in_hand, job_in}
use Rattle.nvme_jobs.specs.JobAccount.{HasItsTicket}
use Rattle.nvme_jobs.specs.declared.dispatched.Dispatched.{Dispatched}
use Rattle.nvme_front.specs.View.{past_in}
use Rattle.nvme_front.specs.Laws.{ClosedRegionsHaveResults}

-- ---- closed regions
-- each fetched place of a closed region is posted
closed_posted : (past : Past) → Each Deletes past → (r i : ℕ) → is_closed_region past r ≡ true → i < length (fetched past r) → is_posted past r i ≡ true
closed_posted [] h r i closed there = cc closed
closed_posted (Fetch x j entry ∷ past) h r i closed there = elim (cases_eq x r) [
  | inl e ↦ let open_then = h.0.1 in let same = ap (is_closed_region past) e in absurd (cc)
  | inr d ↦ closed_posted past h.1 r i closed (subst (λ (b : Bool). i < length (if b then fetched past r ++ entry ∷ [] else fetched past r)) (ne_eqb x r d) there)
]
closed_posted (Post c x j cqe ∷ past) h r i closed there = either (x == r && j == i) (is_posted past r i) (closed_posted past h.1 r i closed there) where
  either : (a b : Bool) → b ≡ true → (a || b) ≡ true
  either true b e = refl
  either false b e = e
closed_posted (ClosedSq q x ∷ past) h r i closed there = by (x == r) refl closed (closed_posted past h.1 r i) where
  by : (b : Bool) → (x == r) ≡ b → (b || is_closed_region past r) ≡ true → (is_closed_region past r ≡ true → i < length (fetched past r) → is_posted past r i ≡ true)
      → is_posted past r i ≡ true
  by true e or later =
      let same : x ≡ r = eqb-true x r e in
      subst (λ (z : ℕ). is_posted past z i ≡ true) same
      (all_below (λ (k : ℕ). is_posted past x k) (length (fetched past x)) h.0.1 i (subst (λ (z : ℕ). i < length (fetched past z)) (sym same) there))
  by false e or later = later or there
closed_posted (Pick seen pick ∷ past) h r i closed there = closed_posted past h.1 r i closed there
closed_posted (SetArbitration settings ∷ past) h r i closed there = closed_posted past h.1 r i closed there
closed_posted (OpenSq q x cq class ∷ past) h r i closed there = closed_posted past h.1 r i closed there
closed_posted (OpenCq q x ∷ past) h r i closed there = closed_posted past h.1 r i closed there
closed_posted (Closing q x ∷ past) h r i closed there = closed_posted past h.1 r i closed there
closed_posted (Abort x j ∷ past) h r i closed there = closed_posted past h.1 r i closed there
closed_posted (ClosedCq q x ∷ past) h r i closed there = closed_posted past h.1 r i closed there

-- ---- commands in hand
-- one of some commands with a ticket is at a place
pub record IsAmong (past : Past) (r i : ℕ) : Type 0 where
  pub ticket : ℕ
  pub place : slice_get (dispatched past) ticket ≡ Some (place_at r i)

among : (past : Past) (r i : ℕ) (ds : List Dispatched) → All (HasItsTicket past) ds → list_any (λ (d : Dispatched). d.place.region == r && d.place.index == i) ds ≡ true → IsAmong past r i
among past r i [] all h = cc h
among past r i (d ∷ ds) all h =
    by (d.place.region == r) (d.place.index == i) refl refl h (among past r i ds (All-tail (HasItsTicket past) d ds all)) where
      by : (a b : Bool) → (d.place.region == r) ≡ a → (d.place.index == i) ≡ b → ((a && b) || list_any (λ (x : Dispatched). x.place.region == r && x.place.index == i) ds) ≡ true
          → (list_any (λ (x : Dispatched). x.place.region == r && x.place.index == i) ds ≡ true → IsAmong past r i) → IsAmong past r i
      by true true e f or later = record {
        ticket = d.ticket;
        place = All-head (HasItsTicket past) d ds all ∙ ap Some (λ t. place_at (eqb-true d.place.region r e t) (eqb-true d.place.index i f t));
      }
      by true false e f or later = later or
      by false b e f or later = later or

pub closed-have_results : ClosedRegionsHaveResults
closed-have_results v ends jobs unposted r i closed = by (is_in_hand v.hands r i) refl where
  by : (b : Bool) → is_in_hand v.hands r i ≡ b → b ≡ false
  by false e = refl
  by true e =
      let past : Past = past_in v in
      let it = among past r i (in_hand v.hands) jobs.places e in
      let there = job_there v.rules.sizes past 0 (dispatched past) (jobs.handed ++ map (job_in v.rules.sizes) v.hands.unhanded) jobs.jobs_are it.ticket (place_at r i) it.place in
      let within : i < length (fetched past r) = slice_get_within (fetched past r) i there.0.entry there.2.entry_is in
      let posted = closed_posted past ends.account.deletes r i closed within in
      let none = unposted r i e in
      absurd (cc)
