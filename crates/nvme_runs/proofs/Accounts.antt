-- A run that settled is the whole account of its workload.
use Rattle.std.proofs.Common.{◌≡◌, ℕ, zero, suc, ◌<◌, true, ◌||◌, List, [], ◌∷◌, length, get_or, map, reverse, take, inl, inr, refl, sym, ap, ◌∙◌, subst, arith}
use Rattle.std.proofs.Math.Seq.{take-length}
use Rattle.std.proofs.lemmas.List.{take-append-drop}
use Rattle.std.proofs.lemmas.Simd.{map-map}
use Rattle.std.specs.Prelude.{drop}
use mathlib.Core.List.{IsPrefix}
use Rattle.nvme_entry.specs.declared.submission.Sqe.{Sqe}
use Rattle.nvme_lane.specs.Feeder.{script_of, count_of}
use Rattle.nvme_lane.specs.declared.feeder.Feeder.{Feeder}
use Rattle.nvme_workload.specs.declared.plan.SqPlan.{SqPlan}
use Rattle.nvme_workload.specs.Plan.{Plan}
use Rattle.nvme_front.specs.declared.settled.Settled.{Settled}
use Rattle.nvme_front.specs.declared.settled.Sent.{Sent}
use Rattle.nvme_log.specs.declared.event.Event.{Event}
use Rattle.nvme_log.specs.Rules.{FrontRules, Past}
use Rattle.nvme_log.specs.Queues.{is_open_region, pending}
use Rattle.nvme_log.specs.Account.{IsAccount, IsWholeAccount}
use Rattle.nvme_front.specs.Hosts.{told, told_by, sent_at, submitted_at, collected_at}
use Rattle.nvme_front.specs.Settles.{IsSettled, settled_past}
use Rattle.nvme_front.specs.View.{FrontView, past_in}
use Rattle.nvme_log.specs.Queues.{is_serving, is_deleted_region}
use Rattle.nvme_lane.specs.declared.mode.Mode.{Mode}
use Rattle.nvme_lane.specs.declared.mode.Mode.TheVariants.{Loaded, Live}
use Rattle.nvme_runs.specs.Runs.{AllSubmitted, IsDue, is_loaded, rules_for, script_for}

-- what a feeder's pair of script and count says of what it submitted
abbrev sent_of : List Sqe × ℕ → List Sqe
sent_of p = take p.1 p.0

-- what is sent is what the feeders submitted
pub sent_is : (sent : List Sent) (feeders : List (Feeder Sqe)) (r : ℕ) → map told_by sent ≡ map told feeders → sent_at sent r ≡ submitted_at feeders r
sent_is sent feeders r e = ap (λ z. get_or z r []) (sym (map-map sent_of told_by sent) ∙ ap (map sent_of) e ∙ map-map sent_of told feeders)

-- the script at a place, and none where there is no feeder
abbrev written_at : List (Feeder Sqe) → ℕ → List Sqe
written_at feeders r = get_or (map (λ (f : Feeder Sqe). script_of f) feeders) r []

-- what a feeder submitted is the beginning of its script
pub submitted_first : (feeders : List (Feeder Sqe)) (r : ℕ) → IsPrefix (submitted_at feeders r) (written_at feeders r)
submitted_first [] r = ([], refl)
submitted_first (f ∷ fs) zero = (drop (count_of f) (script_of f), take-append-drop (count_of f) (script_of f))
submitted_first (f ∷ fs) (suc r) = submitted_first fs r

-- where a feeder that is there submitted its script to its end, that is what was submitted
pub submitted_whole : (feeders : List (Feeder Sqe)) (r : ℕ) → ((f : Feeder Sqe) → r < length feeders → count_of (get_or feeders r f) ≡ length (script_of (get_or feeders r f)))
    → submitted_at feeders r ≡ written_at feeders r
submitted_whole [] r h = refl
submitted_whole (f ∷ fs) zero h = ap (λ n. take n (script_of f)) (h f (omega arith)) ∙ take-length (script_of f)
submitted_whole (f ∷ fs) (suc r) h = submitted_whole fs r (λ g l. h g (omega arith))

-- an open region is served
open_serves : (past : Past) (r : ℕ) → is_open_region past r ≡ true → is_serving past r ≡ true
open_serves past r e = ap (λ z. z || is_deleted_region (pending past) r) e

-- a loaded run submits first
loads : (mode : Mode) → is_loaded mode ≡ true → mode ≡ Loaded
loads Loaded e = refl
loads Live e = cc

-- what is settled, of a front without late regions whose hosts had the scripts of a workload and submitted what was due
pub record IsRunTo (plan : Plan) (mode : Mode) (v : FrontView) (feeders : List (Feeder Sqe)) (s : Settled) : Type 0 where
  pub rules : v.rules ≡ rules_for plan
  pub account : IsAccount v.rules (sent_at s.sent.items) (settled_past s) (collected_at s.collected.items)
  pub scripts : map (λ (f : Feeder Sqe). script_of f) feeders ≡ map (λ (q : SqPlan). q.script) plan.submissions
  pub log : s.log.items ≡ v.log
  pub sent : map told_by s.sent.items ≡ map told feeders
  pub settled : IsSettled s
  pub submitted : AllSubmitted mode v feeders

-- what is due was sent to its end
sent_whole : (plan : Plan) (mode : Mode) (v : FrontView) (feeders : List (Feeder Sqe)) (s : Settled) → IsRunTo plan mode v feeders s → (r : ℕ) → IsDue mode v r
    → sent_at s.sent.items r ≡ script_for plan r
sent_whole plan mode v feeders s h r due =
    sent_is s.sent.items feeders r h.sent ∙ submitted_whole feeders r (λ f l. h.submitted r f l due) ∙ ap (λ z. get_or z r []) h.scripts

-- it is the whole account of the workload
pub whole_account : (plan : Plan) (mode : Mode) (v : FrontView) (feeders : List (Feeder Sqe)) (s : Settled) → IsRunTo plan mode v feeders s
    → IsWholeAccount (rules_for plan) (is_loaded mode) (script_for plan) (sent_at s.sent.items) (settled_past s) (collected_at s.collected.items)
whole_account plan mode v feeders s h =
    let past_is : settled_past s ≡ past_in v = ap (λ (log : List Event). reverse log) h.log in
    record {
      account = subst (λ (rules : FrontRules). IsAccount rules (sent_at s.sent.items) (settled_past s) (collected_at s.collected.items)) h.rules h.account;
      all_posted = h.settled.all_posted;
      none_waits = h.settled.none_waits;
      none_pending = h.settled.none_pending;
      all_collected = h.settled.all_collected;
      open_done = λ r opened. record {
        all_fetched = h.settled.open_fetched r opened;
        all_sent = sent_whole plan mode v feeders s h r (inr (open_serves (past_in v) r (subst (λ (past : Past). is_open_region past r ≡ true) past_is opened)));
      };
      sent_in_order = λ r.
          subst (λ z. IsPrefix z (script_for plan r)) (sym (sent_is s.sent.items feeders r h.sent))
          (subst (λ z. IsPrefix (submitted_at feeders r) (get_or z r [])) h.scripts (submitted_first feeders r));
      loaded_whole = λ loaded r. sent_whole plan mode v feeders s h r (inl (loads mode loaded));
    }
