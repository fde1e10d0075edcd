-- A front with a region more.
use Rattle.std.proofs.Common.{◌≡◌, ◌≢◌, ◌⊎◌, ℕ, zero, suc, ◌+◌, ◌<◌, ◌==◌, Bool, true, false, not, List, [], ◌∷◌, ◌++◌, length, map, get_or, refl, sym, ap, ◌∙◌, subst, arith, inl, inr, ne_eqb, append_assoc}
use Rattle.std.specs.Prelude.{reverse}
use Rattle.std.specs.List.{All}
use Rattle.std.proofs.lemmas.List.{length-map, length_push, map-append}
use Rattle.std.proofs.lemmas.List.Elements.{All-append, All-cons, All-nil}
use Rattle.nvme_entry.specs.declared.submission.Sqe.{Sqe}
use Rattle.nvme_entry.specs.declared.completion.Cqe.{Cqe}
use Rattle.nvme_lane.specs.View.{GetView, PutView}
use Rattle.nvme_admin.specs.History.{Start, Kind, Submission, Completion}
use Rattle.nvme_admin.specs.declared.bounds.TheConstants.{MAX_REGIONS}
use Rattle.nvme_log.specs.declared.event.Event.{Event}
use Rattle.nvme_log.specs.Limits.{max_outstanding}
use Rattle.nvme_log.specs.Places.{fetched}
use Rattle.nvme_log.specs.Completions.{posted_to}
use Rattle.nvme_log.specs.Rules.{FrontRules, Past}
use Rattle.nvme_ctrl_log.specs.Making.{with_region}
use Rattle.nvme_ctrl_log.specs.Notes.{Notes}
use Rattle.nvme_slots.specs.Pool.{IsNew, AreApart}
use Rattle.nvme_slots.proofs.Pools.{IsNew-head, IsNew-tail, IsNew-append, IsNew-cons, IsNew-left, IsNew-right, AreApart-push}
use Rattle.nvme_engine.specs.Standing.{StandsAt, HasPool}
use Rattle.nvme_engine.specs.declared.engine.Engine.{Engine}
use Rattle.nvme_jobs.specs.inside.Jobs.{JobsView}
use Rattle.nvme_front.specs.declared.front.FrontConfig.{FrontConfig}
use Rattle.nvme_front.specs.declared.region.SqRegion.{SqRegion}
use Rattle.nvme_front.specs.declared.state.FrontState.{FrontState}
use Rattle.nvme_front.specs.Adding.{IsAdded, submissions, completions}
use Rattle.nvme_front.specs.View.{FrontView, is_address}
use Rattle.nvme_front.specs.inside.Goes.{HasAdmin}
use Rattle.nvme_front.specs.inside.Pushing.{HasSqMore, HasCqMore}
use Rattle.nvme_front.specs.inside.Room.{IsConsistent, IsCounted, IsFresh, IsFreshSq, IsRoomy, IsRunning, addresses_of}
use Rattle.nvme_front.specs.inside.State.{gets_of, past_of, rules_of, view_of}
use Rattle.nvme_front.proofs.RegionSteps.{adds_regions, sq_more-table, cq_more-table}
use Rattle.nvme_front.proofs.RegionLists.{rules_by}
use Rattle.nvme_front.proofs.Addresses.{address_is_new}
use Rattle.nvme_front.proofs.EngineRegions.{reordered_first, reordered_later}

-- ---- the engine stands at the rules with the region, in the front's order
module _ (rules : FrontRules) (gets : List (GetView Sqe)) (puts : List (PutView Cqe)) where
  abbrev at : List (GetView Sqe) → List (PutView Cqe) → FrontRules
  at g p = rules_by rules.mechanism rules.start rules.sizes g p

  pub sq_first : (g : GetView Sqe) (late : Bool) (e : Engine) → StandsAt (with_region Submission g.address g.slots (at gets puts)) late [] e → StandsAt (at (gets ++ g ∷ []) puts) late [] e
  sq_first g late e s =
      reordered_first (with_region Submission g.address g.slots (at gets puts)) (at (gets ++ g ∷ []) puts) refl refl refl
      (sq_more-table rules.start gets puts g) (adds_regions (gets ++ g ∷ []) puts).only late e s

  pub sq_later : (g : GetView Sqe) (notes : Notes) (e : Engine) → StandsAt (with_region Submission g.address g.slots (at gets puts)) true notes e → StandsAt (at (gets ++ g ∷ []) puts) true notes e
  sq_later g notes e s =
      reordered_later (with_region Submission g.address g.slots (at gets puts)) (at (gets ++ g ∷ []) puts) refl refl refl
      (sq_more-table rules.start gets puts g) (adds_regions (gets ++ g ∷ []) puts).only notes e s

  pub cq_first : (p : PutView Cqe) (late : Bool) (e : Engine) → StandsAt (with_region Completion p.address p.slots (at gets puts)) late [] e → StandsAt (at gets (puts ++ p ∷ [])) late [] e
  cq_first p late e s =
      reordered_first (with_region Completion p.address p.slots (at gets puts)) (at gets (puts ++ p ∷ [])) refl refl refl
      (cq_more-table rules.start gets puts p) (adds_regions gets (puts ++ p ∷ [])).only late e s

  pub cq_later : (p : PutView Cqe) (notes : Notes) (e : Engine) → StandsAt (with_region Completion p.address p.slots (at gets puts)) true notes e → StandsAt (at gets (puts ++ p ∷ [])) true notes e
  cq_later p notes e s =
      reordered_later (with_region Completion p.address p.slots (at gets puts)) (at gets (puts ++ p ∷ [])) refl refl refl
      (cq_more-table rules.start gets puts p) (adds_regions gets (puts ++ p ∷ [])).only notes e s

-- ---- the log
-- a log has an event or hasn't
has_event : (log : List Event) → (log ≡ []) ⊎ (log ≢ [])
has_event [] = inl refl
has_event (e ∷ log) = inr (λ h. cc)

-- whether a front is late, with its region more
pub no_event : (log : List Event) → log ≡ [] → not (length log == 0) ≡ false
no_event log none = ap (λ (es : List Event). not (length es == 0)) none

pub some_event : (log : List Event) → log ≢ [] → not (length log == 0) ≡ true
some_event [] some = absurd (some refl)
some_event (e ∷ log) some = ap not (ne_eqb (length (e ∷ log)) 0 (λ z. omega (arith, z)))

-- ---- lists with an item more
-- what is seen of a region that gave nothing yet
more_none : {X Y : Type 0} (f : X → List Y) (xs : List X) (x : X) (r : ℕ) → f x ≡ [] → get_or (map f (xs ++ x ∷ [])) r [] ≡ get_or (map f xs) r []
more_none f [] x zero none = none
more_none f [] x (suc r) none = refl
more_none f (y ∷ xs) x zero none = refl
more_none f (y ∷ xs) x (suc r) none = more_none f xs x r none

-- the ends that are seen
pub gets_with : (old new : List SqRegion) (x : SqRegion) → new ≡ old ++ x ∷ [] → gets_of new ≡ gets_of old ++ x.end ∷ []
gets_with old new x is = ap gets_of is ∙ map-append (λ (y : SqRegion). y.end) old (x ∷ [])

all_push : {X : Type 0} (P : X → Type 0) (xs : List X) (x : X) → All P xs → P x → All P (xs ++ x ∷ [])
all_push P xs x all one = All-append P xs (x ∷ []) all (All-cons P x [] one (All-nil P))

-- a new number between numbers that are apart
apart_with : (xs : List ℕ) (a : ℕ) (ys : List ℕ) → AreApart (xs ++ ys) → IsNew a (xs ++ ys) → AreApart (xs ++ a ∷ ys)
apart_with [] a ys apart new = (new, apart)
apart_with (x ∷ xs) a ys apart new = (
  IsNew-append x xs (a ∷ ys) (IsNew-left x xs ys apart.0) (IsNew-cons x a ys (λ e. IsNew-head a x (xs ++ ys) new (sym e)) (IsNew-right x xs ys apart.0)),
  apart_with xs a ys apart.1 (IsNew-tail a x (xs ++ ys) new),
)

-- ---- the rules and the regions of a front
abbrev start_of : FrontConfig → Start
start_of c = record { nsq = c.limits.nsq; ncq = c.limits.ncq; settings = c.settings }

-- the rules of a front with these parts
pub rules_told : (t : FrontState) (c : FrontConfig) (gets : List (GetView Sqe)) (puts : List (PutView Cqe)) → t.config ≡ c → gets_of t.sqs.items ≡ gets → t.cqs.items ≡ puts
    → rules_of t ≡ rules_by c.mechanism (start_of c) c.spaces gets puts
rules_told t c gets puts config sqs cqs = λ i. rules_by (config i).mechanism (start_of (config i)) (config i).spaces (sqs i) (cqs i)

-- what an engine did, told of a region by its parts
pub told_of : (kind : Kind) (a b n k : ℕ) → a ≡ b → n ≡ k → (e f : Engine) → f ≡ e → (rules : FrontRules) (late : Bool) (notes : Notes)
    → StandsAt (with_region kind a n rules) late notes e → StandsAt (with_region kind b k rules) late notes f
told_of kind a b n k address slots e f engine rules late notes stands =
    subst (λ (g : Engine). StandsAt (with_region kind b k rules) late notes g) (sym engine)
    (subst (λ (y : ℕ). StandsAt (with_region kind b y rules) late notes e) slots
    (subst (λ (y : ℕ). StandsAt (with_region kind y n rules) late notes e) address stands))

-- ---- a submission region more
module _ (s t : FrontState) (x : SqRegion) (m : HasSqMore s t x) where
  sq_count : length t.sqs.items ≡ length s.sqs.items + 1
  sq_count = ap (λ (xs : List SqRegion). length xs) m.sqs ∙ length_push s.sqs.items x

  sq_past : past_of t ≡ past_of s
  sq_past = ap (λ (es : List Event). reverse es) m.log

  sq_rules : rules_of t ≡ rules_by s.config.mechanism (start_of s.config) s.config.spaces (gets_of s.sqs.items ++ x.end ∷ []) s.cqs.items
  sq_rules = rules_told t s.config (gets_of s.sqs.items ++ x.end ∷ []) s.cqs.items m.config (gets_with s.sqs.items t.sqs.items x m.sqs) m.cqs

  sq_addresses : addresses_of t ≡ map (λ (sq : SqRegion). sq.end.address) s.sqs.items ++ x.end.address ∷ map (λ (p : PutView Cqe). p.address) s.cqs.items
  sq_addresses =
      (λ i. map (λ (sq : SqRegion). sq.end.address) (m.sqs i) ++ map (λ (p : PutView Cqe). p.address) (m.cqs i))
      ∙ ap (λ (ns : List ℕ). ns ++ map (λ (p : PutView Cqe). p.address) s.cqs.items) (map-append (λ (sq : SqRegion). sq.end.address) s.sqs.items (x ∷ []))
      ∙ append_assoc (map (λ (sq : SqRegion). sq.end.address) s.sqs.items) (x.end.address ∷ []) (map (λ (p : PutView Cqe). p.address) s.cqs.items)

  pub roomy_with_sq : IsRoomy s → s.jobs.room ≡ max_outstanding → length s.sqs.items < MAX_REGIONS → is_address (view_of s) x.end.address ≡ false → IsRoomy t
  roomy_with_sq r room few other = record {
    jobs = λ some. ap (λ (j : JobsView). j.room) m.jobs ∙ room;
    few_events = rw (m.log, m.config) r.few_events;
    in_time = λ none. m.late ∙ no_event s.log.items (sym m.log ∙ none);
    few_sqs = omega (arith, few, sq_count);
    few_cqs = rw m.cqs r.few_cqs;
    apart = subst AreApart (sym sq_addresses) (apart_with (map (λ (sq : SqRegion). sq.end.address) s.sqs.items) x.end.address (map (λ (p : PutView Cqe). p.address) s.cqs.items) r.apart
        (address_is_new s x.end.address other));
  }

  pub fresh_with_sq : IsFresh s → IsFreshSq x → t.engine ≡ s.engine → HasPool s.engine → IsFresh t
  fresh_with_sq f new engine pool = record {
    log = m.log ∙ f.log;
    in_time = m.late ∙ no_event s.log.items f.log;
    sqs = rw m.sqs (all_push IsFreshSq s.sqs.items x f.sqs new);
    cqs = rw m.cqs f.cqs;
    jobs = rw m.jobs f.jobs;
    pool = λ some. subst HasPool (sym engine) pool;
    few_slots = rw engine f.few_slots;
  }

  -- the engine got the region
  module _ (k : IsRunning s) (r : IsRoomy s) (new : IsFreshSq x)
      (early : (rules : FrontRules) (late : Bool) → StandsAt rules late [] s.engine → StandsAt (with_region Submission x.end.address x.end.slots rules) late [] t.engine)
      (later : (rules : FrontRules) (late : Bool) (notes : Notes) → StandsAt rules late notes s.engine → StandsAt (with_region Submission x.end.address x.end.slots rules) true notes t.engine) where
    sq_stands : StandsAt (rules_of t) t.late k.notes t.engine
    sq_stands = elim (has_event s.log.items) [
      | inl none ↦
          let no_notes : k.notes ≡ [] = k.stands.begun (k.past_is ∙ ap (λ (es : List Event). reverse es) none) in
          let in_time : t.late ≡ s.late = m.late ∙ no_event s.log.items none ∙ sym (r.in_time none) in
          let first : StandsAt (rules_of s) s.late [] s.engine = subst (λ (n : Notes). StandsAt (rules_of s) s.late n s.engine) no_notes k.stands in
          let there = sq_first (rules_of s) (gets_of s.sqs.items) s.cqs.items x.end s.late t.engine (early (rules_of s) s.late first) in
          subst (λ (n : Notes). StandsAt (rules_of t) t.late n t.engine) (sym no_notes)
          (subst (λ (l : Bool). StandsAt (rules_of t) l [] t.engine) (sym in_time)
          (subst (λ (z : FrontRules). StandsAt z s.late [] t.engine) (sym sq_rules) there))
      | inr some ↦
          let is_late : t.late ≡ true = m.late ∙ some_event s.log.items some in
          let there = sq_later (rules_of s) (gets_of s.sqs.items) s.cqs.items x.end k.notes t.engine (later (rules_of s) s.late k.notes k.stands) in
          subst (λ (l : Bool). StandsAt (rules_of t) l k.notes t.engine) (sym is_late)
          (subst (λ (z : FrontRules). StandsAt z true k.notes t.engine) (sym sq_rules) there)
    ]

    pub running_with_sq : IsRunning t
    running_with_sq = record {
      notes = k.notes;
      stands = sq_stands;
      past_is = k.past_is ∙ sym sq_past;
      got = λ i. ap (λ (p : Past). fetched p i) sq_past ∙ k.got i
          ∙ sym (ap (λ (gets : List (GetView Sqe)). get_or (map (λ (g : GetView Sqe). g.got) gets) i []) (gets_with s.sqs.items t.sqs.items x m.sqs)
          ∙ more_none (λ (g : GetView Sqe). g.got) (gets_of s.sqs.items) x.end i new.nothing_got);
      sent = λ c. ap (λ (p : Past). posted_to p c) sq_past ∙ k.sent c ∙ sym (ap (λ (puts : List (PutView Cqe)). get_or (map (λ (p : PutView Cqe). p.sent) puts) c []) m.cqs);
      counted = rw m.sqs (all_push IsCounted s.sqs.items x k.counted (new.none_fetched ∙ sym (ap (λ (es : List Sqe). length es) new.nothing_got)));
      jobs = rw (m.config, sq_past, m.jobs) k.jobs;
      tags = rw m.jobs k.tags;
    }

    pub consistent_with_sq : HasAdmin s → s.jobs.room ≡ max_outstanding → length s.sqs.items < MAX_REGIONS → is_address (view_of s) x.end.address ≡ false → IsConsistent t
    consistent_with_sq admin room few other =
        let more : HasAdmin t = (omega (arith, sq_count), subst (λ (puts : List (PutView Cqe)). 0 < length puts) (sym m.cqs) admin.1) in
        record {
          fresh = λ waits. absurd (waits more);
          running = λ there. running_with_sq;
          roomy = roomy_with_sq r room few other;
        }

-- ---- a completion region more
module _ (s t : FrontState) (x : PutView Cqe) (m : HasCqMore s t x) where
  cq_count : length t.cqs.items ≡ length s.cqs.items + 1
  cq_count = ap (λ (xs : List (PutView Cqe)). length xs) m.cqs ∙ length_push s.cqs.items x

  cq_past : past_of t ≡ past_of s
  cq_past = ap (λ (es : List Event). reverse es) m.log

  cq_rules : rules_of t ≡ rules_by s.config.mechanism (start_of s.config) s.config.spaces (gets_of s.sqs.items) (s.cqs.items ++ x ∷ [])
  cq_rules = rules_told t s.config (gets_of s.sqs.items) (s.cqs.items ++ x ∷ []) m.config (ap gets_of m.sqs) m.cqs

  cq_addresses : addresses_of t ≡ addresses_of s ++ x.address ∷ []
  cq_addresses =
      (λ i. map (λ (sq : SqRegion). sq.end.address) (m.sqs i) ++ map (λ (p : PutView Cqe). p.address) (m.cqs i))
      ∙ ap (λ (ns : List ℕ). map (λ (sq : SqRegion). sq.end.address) s.sqs.items ++ ns) (map-append (λ (p : PutView Cqe). p.address) s.cqs.items (x ∷ []))
      ∙ sym (append_assoc (map (λ (sq : SqRegion). sq.end.address) s.sqs.items) (map (λ (p : PutView Cqe). p.address) s.cqs.items) (x.address ∷ []))

  pub roomy_with_cq : IsRoomy s → length s.cqs.items < MAX_REGIONS → is_address (view_of s) x.address ≡ false → IsRoomy t
  roomy_with_cq r few other = record {
    jobs = λ some. ap (λ (j : JobsView). j.room) m.jobs ∙ r.jobs (subst (λ (xs : List SqRegion). 0 < length xs) m.sqs some);
    few_events = rw (m.log, m.config) r.few_events;
    in_time = λ none. m.late ∙ no_event s.log.items (sym m.log ∙ none);
    few_sqs = rw m.sqs r.few_sqs;
    few_cqs = omega (arith, few, cq_count);
    apart = subst AreApart (sym cq_addresses) (AreApart-push (addresses_of s) x.address r.apart (address_is_new s x.address other));
  }

  pub fresh_with_cq : IsFresh s → x.sent ≡ [] → t.engine ≡ s.engine → IsFresh t
  fresh_with_cq f new engine = record {
    log = m.log ∙ f.log;
    in_time = m.late ∙ no_event s.log.items f.log;
    sqs = rw m.sqs f.sqs;
    cqs = rw m.cqs (all_push (λ (p : PutView Cqe). p.sent ≡ []) s.cqs.items x f.cqs new);
    jobs = rw m.jobs f.jobs;
    pool = rw (m.sqs, engine) f.pool;
    few_slots = rw engine f.few_slots;
  }

  -- the engine got the region
  module _ (k : IsRunning s) (r : IsRoomy s) (new : x.sent ≡ [])
      (early : (rules : FrontRules) (late : Bool) → StandsAt rules late [] s.engine → StandsAt (with_region Completion x.address x.slots rules) late [] t.engine)
      (later : (rules : FrontRules) (late : Bool) (notes : Notes) → StandsAt rules late notes s.engine → StandsAt (with_region Completion x.address x.slots rules) true notes t.engine) where
    cq_stands : StandsAt (rules_of t) t.late k.notes t.engine
    cq_stands = elim (has_event s.log.items) [
      | inl none ↦
          let no_notes : k.notes ≡ [] = k.stands.begun (k.past_is ∙ ap (λ (es : List Event). reverse es) none) in
          let in_time : t.late ≡ s.late = m.late ∙ no_event s.log.items none ∙ sym (r.in_time none) in
          let first : StandsAt (rules_of s) s.late [] s.engine = subst (λ (n : Notes). StandsAt (rules_of s) s.late n s.engine) no_notes k.stands in
          let there = cq_first (rules_of s) (gets_of s.sqs.items) s.cqs.items x s.late t.engine (early (rules_of s) s.late first) in
          subst (λ (n : Notes). StandsAt (rules_of t) t.late n t.engine) (sym no_notes)
          (subst (λ (l : Bool). StandsAt (rules_of t) l [] t.engine) (sym in_time)
          (subst (λ (z : FrontRules). StandsAt z s.late [] t.engine) (sym cq_rules) there))
      | inr some ↦
          let is_late : t.late ≡ true = m.late ∙ some_event s.log.items some in
          let there = cq_later (rules_of s) (gets_of s.sqs.items) s.cqs.items x k.notes t.engine (later (rules_of s) s.late k.notes k.stands) in
          subst (λ (l : Bool). StandsAt (rules_of t) l k.notes t.engine) (sym is_late)
          (subst (λ (z : FrontRules). StandsAt z true k.notes t.engine) (sym cq_rules) there)
    ]

    pub running_with_cq : IsRunning t
    running_with_cq = record {
      notes = k.notes;
      stands = cq_stands;
      past_is = k.past_is ∙ sym cq_past;
      got = λ i. ap (λ (p : Past). fetched p i) cq_past ∙ k.got i
          ∙ sym (ap (λ (sqs : List SqRegion). get_or (map (λ (g : GetView Sqe). g.got) (gets_of sqs)) i []) m.sqs);
      sent = λ c. ap (λ (p : Past). posted_to p c) cq_past ∙ k.sent c
          ∙ sym (ap (λ (puts : List (PutView Cqe)). get_or (map (λ (p : PutView Cqe). p.sent) puts) c []) m.cqs ∙ more_none (λ (p : PutView Cqe). p.sent) s.cqs.items x c new);
      counted = rw m.sqs k.counted;
      jobs = rw (m.config, cq_past, m.jobs) k.jobs;
      tags = rw m.jobs k.tags;
    }

    pub consistent_with_cq : HasAdmin s → length s.cqs.items < MAX_REGIONS → is_address (view_of s) x.address ≡ false → IsConsistent t
    consistent_with_cq admin few other =
        let more : HasAdmin t = (subst (λ (sqs : List SqRegion). 0 < length sqs) (sym m.sqs) admin.0, omega (arith, cq_count)) in
        record {
          fresh = λ waits. absurd (waits more);
          running = λ there. running_with_cq;
          roomy = roomy_with_cq r few other;
        }

-- ---- what a caller sees
few_gets : (sqs : List SqRegion) → length sqs < MAX_REGIONS → length (gets_of sqs) < MAX_REGIONS
few_gets sqs few = omega (arith, few, length-map sqs (λ (x : SqRegion). x.end))

-- of a submission region more,
pub is_added-sq : (s t : FrontState) (x : SqRegion) (n : ℕ) → HasSqMore s t x → is_address (view_of s) x.end.address ≡ false → length s.sqs.items < MAX_REGIONS → n ≡ length s.sqs.items
    → IsAdded submissions x.end n (view_of s) (view_of t)
is_added-sq s t x n m other few number = record {
  not_used = other;
  room = few_gets s.sqs.items few;
  number_is = number ∙ sym (length-map s.sqs.items (λ (y : SqRegion). y.end));
  ends = gets_with s.sqs.items t.sqs.items x m.sqs;
  others = m.cqs;
  log = m.log;
  limit = ap (λ (c : FrontConfig). c.max_events) m.config;
  mechanism = ap (λ (c : FrontConfig). c.mechanism) m.config;
  start = ap start_of m.config;
  sizes = ap (λ (c : FrontConfig). c.spaces) m.config;
  hands = ap (λ (j : JobsView). j.hands) m.jobs;
  late_after_events = λ some. m.late ∙ some_event s.log.items some;
  in_time = λ none. m.late ∙ no_event s.log.items none;
}

-- and of a completion region more
pub is_added-cq : (s t : FrontState) (x : PutView Cqe) (n : ℕ) → HasCqMore s t x → is_address (view_of s) x.address ≡ false → length s.cqs.items < MAX_REGIONS → n ≡ length s.cqs.items
    → IsAdded completions x n (view_of s) (view_of t)
is_added-cq s t x n m other few number = record {
  not_used = other;
  room = few;
  number_is = number;
  ends = m.cqs;
  others = ap gets_of m.sqs;
  log = m.log;
  limit = ap (λ (c : FrontConfig). c.max_events) m.config;
  mechanism = ap (λ (c : FrontConfig). c.mechanism) m.config;
  start = ap start_of m.config;
  sizes = ap (λ (c : FrontConfig). c.spaces) m.config;
  hands = ap (λ (j : JobsView). j.hands) m.jobs;
  late_after_events = λ some. m.late ∙ some_event s.log.items some;
  in_time = λ none. m.late ∙ no_event s.log.items none;
}

-- as many submission regions stand in fronts that are seen alike
pub same_sqs : (s u : FrontState) → view_of u ≡ view_of s → length u.sqs.items ≡ length s.sqs.items
same_sqs s u same =
    sym (length-map u.sqs.items (λ (x : SqRegion). x.end)) ∙ ap (λ (v : FrontView). length v.gets) same ∙ length-map s.sqs.items (λ (x : SqRegion). x.end)
