-- What a turn's answer means, from what its parts leave.
use Rattle.std.proofs.Common.{◌≡◌, ℕ, zero, suc, ◌+◌, ◌<◌, ◌≤◌, List, [], ◌∷◌, ◌++◌, length, Option, Some, None, refl, sym, subst, inl, inr, ⊎_elim, arith}
use Rattle.std.specs.List.{All, flat_map}
use Rattle.std.specs.Prelude.{IfSome, IsSome, IsNone}
use Rattle.std.proofs.lemmas.Bool.{cases_lt}
use Rattle.std.proofs.lemmas.Grind.{flat_map-append}
use Rattle.std.proofs.lemmas.List.{nil_from_length, append-nil}
use Rattle.std.proofs.lemmas.List.Elements.{All-cons, All-head, All-tail}
use Rattle.std.proofs.lemmas.Option.{same_Some}
use Rattle.nvme_pool.specs.Seat.{IsUnknown}
use Rattle.nvme_arbiter.specs.Limits.{highest_qid, queue_limit}
use Rattle.nvme_arbiter.specs.History.{History, settings_after, last_served, last_served_of, used_in_round}
use Rattle.nvme_arbiter.specs.Lawful.{lawful_pick}
use Rattle.nvme_arbiter.specs.Observation.{IsIdle}
use Rattle.nvme_arbiter.specs.Settings.{ArbitrationFields}
use Rattle.nvme_arbiter.specs.declared.settings.Mechanism.{Mechanism}
use Rattle.nvme_arbiter.specs.declared.settings.Mechanism.TheVariants.{RoundRobin, Weighted}
use Rattle.nvme_arbiter.specs.declared.pick.Pick.{Pick}
use Rattle.nvme_arbiter.specs.declared.pick.Seen.{Seen}
use Rattle.nvme_arbiter.proofs.Choices.{weighted_idle, round_robin_idle}
use Rattle.nvme_front.specs.declared.state.FrontState.{FrontState}
use Rattle.nvme_log.specs.Limits.{admin_events}
use Rattle.nvme_log.specs.Rules.{Past, upto}
use Rattle.nvme_log.specs.Queues.{Queue, Deletion, open_sq, pending}
use Rattle.nvme_log.specs.Places.{waiting, observation_of, seen_as}
use Rattle.nvme_log.specs.Histories.{arbitration_of}
use Rattle.nvme_front.specs.inside.State.{rules_of, past_of, view_of}
use Rattle.nvme_front.specs.inside.Room.{IsConsistent, IsRunning}
use Rattle.nvme_front.specs.inside.Goes.{HasAdmin, AllScanned}
use Rattle.nvme_front.specs.View.{known_in, NoneCanBePosted, HasUnposted, WaitsForNothing, IsIdleFront, IsStalledFront, IsFullLog, next_lawful, HasPlaces, LacksPlaces, NoneCanBePicked}
use Rattle.nvme_front.proofs.OpenQueues.{open_few}

-- ---- candidates
-- where no pick is lawful, nothing waits
lawful_idle : (m : Mechanism) (first : ArbitrationFields) (past : History) (seen : List Seen) → lawful_pick m first past seen ≡ None → IsIdle seen
lawful_idle RoundRobin first past seen none =
    (round_robin_idle (settings_after first past) (last_served past) seen).0 (subst (λ (o : Option Pick). IsNone o) (sym none) refl)
lawful_idle Weighted first past seen none =
    (weighted_idle (settings_after first past) (λ class. last_served_of class past) (λ level. used_in_round level past) seen).0 (subst (λ (o : Option Pick). IsNone o) (sym none) refl)

-- the parts of a list of which something is true of each
all_left : {X : Type 0} (P : X → Type 0) (xs ys : List X) → All P (xs ++ ys) → All P xs
all_left P [] ys h = λ i e lt. absurd (omega (arith, lt))
all_left P (x ∷ xs) ys h = All-cons P x xs (All-head P x (xs ++ ys) h) (all_left P xs ys (All-tail P x (xs ++ ys) h))

all_right : {X : Type 0} (P : X → Type 0) (xs ys : List X) → All P (xs ++ ys) → All P ys
all_right P [] ys h = h
all_right P (x ∷ xs) ys h = all_right P xs ys (All-tail P x (xs ++ ys) h)

-- no command waits in an open queue among those of which none is seen to wait
abbrev is_zero : Seen → Type 0
is_zero s = s.count ≡ 0

seen_zero : (past : Past) (q : ℕ) (o : Option Queue) (queue : Queue) → o ≡ Some queue → All is_zero (seen_as past q o) → waiting past queue.region ≡ []
seen_zero past q None queue is h = absurd (cc is)
seen_zero past q (Some other) queue is h =
    let one : length (waiting past other.region) ≡ 0 = All-head is_zero (record { qid = q; class = other.class; count = length (waiting past other.region) }) [] h in
    nil_from_length (waiting past queue.region) (subst (λ (x : Queue). length (waiting past x.region) ≡ 0) (same_Some other queue is) one)

queue_idle : (past : Past) (n q : ℕ) (queue : Queue) → q < n → open_sq past q ≡ Some queue → All is_zero (flat_map (λ (x : ℕ). seen_as past x (open_sq past x)) (upto n)) → waiting past queue.region ≡ []
queue_idle past zero q queue lt is h = absurd (omega (arith, lt))
queue_idle past (suc n) q queue lt is h =
    let f : ℕ → List Seen = λ (x : ℕ). seen_as past x (open_sq past x) in
    let parts : All is_zero (flat_map f (upto n) ++ flat_map f (n ∷ [])) = subst (All is_zero) (flat_map-append f (upto n) (n ∷ [])) h in
    elim (cases_lt q n) [
      | inl below ↦ queue_idle past n q queue below is (all_left is_zero (flat_map f (upto n)) (flat_map f (n ∷ [])) parts)
      | inr above ↦
          let here : All is_zero (f n) = subst (All is_zero) (append-nil (f n)) (all_right is_zero (flat_map f (upto n)) (flat_map f (n ∷ [])) parts) in
          let same : n ≡ q = omega (arith, lt, above) in
          seen_zero past n (open_sq past n) queue (subst (λ (x : ℕ). open_sq past x ≡ Some queue) (sym same) is) here
    ]

module _ (s : FrontState) (k : IsRunning s) where
  -- where arbitration has no next pick, no command waits in an open queue
  idle_waiting : next_lawful (view_of s) ≡ None → (q : ℕ) (queue : Queue) → open_sq (past_of s) q ≡ Some queue → waiting (past_of s) queue.region ≡ []
  idle_waiting none q queue is =
      let few : q ≤ highest_qid = open_few s k q queue is in
      queue_idle (past_of s) queue_limit q queue (omega (arith, few)) is
      (lawful_idle (rules_of s).mechanism (rules_of s).start.settings (arbitration_of (past_of s)) (observation_of (past_of s)) none)

  -- so where each queue was scanned, nothing waits for the front
  waits_for_nothing : next_lawful (view_of s) ≡ None → AllScanned s → (q : ℕ) (queue : Queue) → open_sq (past_of s) q ≡ Some queue
      → (waiting (past_of s) queue.region ≡ []) × (known_in (view_of s) queue.region ≡ [])
  waits_for_nothing none scanned q queue is =
      let empty = idle_waiting none q queue is in
      (empty, ⊎_elim (λ full. absurd (full.1 empty)) (λ known. known) (scanned q (open_few s k q queue is) queue is))

-- where arbitration has no next pick, or one whose places are not free, no pick can be made
pub none_picked : (s : FrontState) (o : Option Pick) → next_lawful (view_of s) ≡ o → IfSome o (LacksPlaces (rules_of s) (past_of s)) → NoneCanBePicked (view_of s)
none_picked s o is many = subst (λ (x : Option Pick). IfSome x (LacksPlaces (rules_of s) (past_of s))) (sym is) many

-- ---- what the answers mean
-- an idle front with no pending deletion
pub idle_front : (s : FrontState) → IsConsistent s → HasAdmin s → pending (past_of s) ≡ None → NoneCanBePosted (view_of s)
    → All IsUnknown s.jobs.hands.seat.ends → AllScanned s → next_lawful (view_of s) ≡ None → IsIdleFront (view_of s)
idle_front s kept admin none drained none_gained scanned no_pick = record {
  nothing = subst (λ (o : Option Deletion). WaitsForNothing (view_of s) o) (sym none) (waits_for_nothing s (kept.running admin) no_pick scanned);
  none_posted = drained;
  none_gained = none_gained;
}

-- an idle front whose deletion waits for a completion
pub deleting_front : (s : FrontState) (d : Deletion) → pending (past_of s) ≡ Some d → NoneCanBePosted (view_of s)
    → All IsUnknown s.jobs.hands.seat.ends → HasUnposted (past_of s) d.region → IsIdleFront (view_of s)
deleting_front s d some drained none_gained unposted = record {
  nothing = subst (λ (o : Option Deletion). WaitsForNothing (view_of s) o) (sym some) unposted;
  none_posted = drained;
  none_gained = none_gained;
}

-- a front whose next pick needs more places than are free
pub stalled_front : (s : FrontState) → NoneCanBePosted (view_of s) → All IsUnknown s.jobs.hands.seat.ends
    → (o : Option Pick) → next_lawful (view_of s) ≡ o → IfSome o (LacksPlaces (rules_of s) (past_of s)) → IsSome o → IsStalledFront (view_of s)
stalled_front s drained none_gained None is many some = absurd (cc some)
stalled_front s drained none_gained (Some pick) is many some = record { pick = pick; next = is; too_many = many; none_posted = drained; none_gained = none_gained }

-- a log with too few free events for the next admin pick
pub admin_log_full : (s : FrontState) → pending (past_of s) ≡ None → s.config.max_events < length s.log.items + admin_events
    → (o : Option Pick) → next_lawful (view_of s) ≡ o → IfSome o (λ (pick : Pick). (pick.qid ≡ 0) × HasPlaces (rules_of s) (past_of s) pick) → IsSome o → IsFullLog (view_of s)
admin_log_full s none few None is it some = absurd (cc some)
admin_log_full s none few (Some pick) is it some = inr (record { pick = pick; none_pending = none; next = is; of_admin = it.0; place = it.1; too_few = few })
