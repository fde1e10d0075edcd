-- A front whose engine begins runs, at no notes.
use Rattle.std.proofs.Common.{◌≡◌, ℕ, zero, suc, Bool, false, List, [], ◌∷◌, ◌++◌, length, map, get_or, refl, sym, ap, ◌∙◌, subst, true≢false}
use Rattle.std.specs.Prelude.{reverse}
use Rattle.std.specs.List.{All}
use Rattle.std.proofs.lemmas.List.Elements.{All-head, All-tail, All-nil, All-same, All-weaker}
use Rattle.nvme_entry.specs.declared.submission.Sqe.{Sqe}
use Rattle.nvme_entry.specs.declared.completion.Cqe.{Cqe}
use Rattle.nvme_lane.specs.View.{GetView, PutView}
use Rattle.nvme_log.specs.declared.event.Event.{Event}
use Rattle.nvme_log.specs.Places.{fetched}
use Rattle.nvme_log.specs.Completions.{posted_to}
use Rattle.nvme_log.specs.Rules.{Past}
use Rattle.nvme_slots.specs.Pool.{AreApart}
use Rattle.nvme_engine.specs.Standing.{StandsAt}
use Rattle.nvme_engine.specs.declared.engine.Engine.{Engine}
use Rattle.nvme_jobs.specs.declared.dispatched.Dispatched.{Dispatched}
use Rattle.nvme_jobs.specs.Hands.{in_hand}
use Rattle.nvme_jobs.specs.inside.Jobs.{JobsView}
use Rattle.nvme_jobs.specs.inside.Standing.{AreFreshJobs, HoldsJobs}
use Rattle.nvme_jobs.proofs.JobSteps.{jobs-when-fresh}
use Rattle.nvme_front.specs.declared.region.SqRegion.{SqRegion}
use Rattle.nvme_front.specs.declared.state.FrontState.{FrontState}
use Rattle.nvme_front.specs.inside.Goes.{HasAdmin}
use Rattle.nvme_front.specs.inside.Room.{HoldsTags, IsConsistent, IsCounted, IsFresh, IsFreshSq, IsRoomy, IsRunning, IsTagged}
use Rattle.nvme_front.specs.inside.State.{gets_of, past_of, rules_of}

-- nothing was got or sent
none_got : (sqs : List SqRegion) (r : ℕ) → All IsFreshSq sqs → get_or (map (λ (g : GetView Sqe). g.got) (gets_of sqs)) r [] ≡ []
none_got [] r fresh = refl
none_got (x ∷ sqs) zero fresh = (All-head IsFreshSq x sqs fresh).nothing_got
none_got (x ∷ sqs) (suc r) fresh = none_got sqs r (All-tail IsFreshSq x sqs fresh)

none_sent : (puts : List (PutView Cqe)) (c : ℕ) → All (λ (p : PutView Cqe). p.sent ≡ []) puts → get_or (map (λ (p : PutView Cqe). p.sent) puts) c [] ≡ []
none_sent [] c fresh = refl
none_sent (p ∷ puts) zero fresh = All-head (λ (p : PutView Cqe). p.sent ≡ []) p puts fresh
none_sent (p ∷ puts) (suc c) fresh = none_sent puts c (All-tail (λ (p : PutView Cqe). p.sent ≡ []) p puts fresh)

-- no tag is out
first_tags : (j : JobsView) → AreFreshJobs j → HoldsTags [] j
first_tags j f =
    let none : in_hand j.hands ≡ [] = λ i. f.none_running i ++ f.none_unhanded i in
    record {
      each = All-same (IsTagged []) (in_hand j.hands) [] none (All-nil (IsTagged []));
      apart = subst (λ (ds : List Dispatched). AreApart (map (λ (d : Dispatched). d.tag) ds)) (sym none) tt;
      all = λ t out. absurd (true≢false (sym out));
    }

module _ (s : FrontState) (f : IsFresh s) (e : Engine) (stands : StandsAt (rules_of s) false [] e) where
  no_past : past_of s ≡ []
  no_past = ap (λ (es : List Event). reverse es) f.log

  running_first : IsRunning (record s { engine = e })
  running_first = record {
    notes = [];
    stands = subst (λ (l : Bool). StandsAt (rules_of s) l [] e) (sym f.in_time) stands;
    past_is = sym no_past;
    got = λ r. ap (λ (p : Past). fetched p r) no_past ∙ sym (none_got s.sqs.items r f.sqs);
    sent = λ c. ap (λ (p : Past). posted_to p c) no_past ∙ sym (none_sent s.cqs.items c f.cqs);
    counted = All-weaker IsFreshSq IsCounted (λ x fresh. fresh.none_fetched ∙ sym (ap (λ (es : List Sqe). length es) fresh.nothing_got)) s.sqs.items f.sqs;
    jobs = subst (λ (p : Past). HoldsJobs s.config.spaces p s.jobs) (sym no_past) (jobs-when-fresh s.config.spaces s.jobs f.jobs);
    tags = first_tags s.jobs f.jobs;
  }

-- there is room with another engine
pub room_with : (s : FrontState) (e : Engine) → IsRoomy s → IsRoomy (record s { engine = e })
room_with s e r = record { jobs = r.jobs; few_events = r.few_events; in_time = r.in_time; few_sqs = r.few_sqs; few_cqs = r.few_cqs; apart = r.apart }

-- so a fresh front whose engine began is consistent
pub consistent_first : (s u : FrontState) → IsFresh s → IsRoomy s → HasAdmin s → u ≡ record s { engine = u.engine } → StandsAt (rules_of s) false [] u.engine → IsConsistent u
consistent_first s u f r admin same stands = subst IsConsistent (sym same) (record {
  fresh = λ no. absurd (no admin);
  running = λ there. running_first s f u.engine stands;
  roomy = room_with s u.engine r;
})
