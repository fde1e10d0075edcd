-- What holds of a front whose engine began.
use Rattle.std.proofs.Common.{◌≡◌, ◌≢◌, ℕ, ◌+◌, ◌<◌, ◌≤◌, ◌==◌, nat_lt, Bool, true, false, List, [], ◌∷◌, length, Option, Some, None, refl, sym, ap, ◌∙◌, subst, arith, inl, inr}
use Rattle.std.specs.Prelude.{find, option_map, if◌then◌else◌}
use Rattle.std.specs.List.{All}
use Rattle.std.proofs.lemmas.Bool.{eqb-true, ltb-false, ltb-true, ne_eqb}
use Rattle.std.proofs.lemmas.List.{length-append, length-map, length-reverse}
use Rattle.std.proofs.lemmas.List.Elements.{All-map}
use Rattle.std.proofs.lemmas.Option.{same_Some}
use Rattle.nvme_arbiter.specs.Limits.{highest_count, highest_qid}
use Rattle.nvme_arbiter.specs.History.{settings_after}
use Rattle.nvme_arbiter.specs.Laws.{IsMeasured}
use Rattle.nvme_arbiter.specs.Lawful.{lawful_pick}
use Rattle.nvme_arbiter.specs.declared.pick.Pick.{Pick}
use Rattle.nvme_arbiter.specs.declared.pick.Seen.{Seen}
use Rattle.nvme_entry.specs.declared.submission.Sqe.{Sqe}
use Rattle.nvme_log.specs.declared.event.Event.TheVariants.{Fetch}
use Rattle.nvme_log.specs.Limits.{max_outstanding}
use Rattle.nvme_log.specs.Rules.{FrontRules, Past}
use Rattle.nvme_log.specs.Queues.{Queue, admin_queue, open_sq}
use Rattle.nvme_log.specs.Places.{waiting, observation_of}
use Rattle.nvme_log.specs.Histories.{arbitration_of}
use Rattle.nvme_log.specs.Aborts.{places_for}
use Rattle.nvme_log.specs.Completions.{outstanding}
use Rattle.nvme_log.proofs.LoadedPlaces.{seen-in}
use Rattle.nvme_log.proofs.Members.{IsIn}
use Rattle.nvme_ctrl_log.specs.Notes.{Notes, logged}
use Rattle.nvme_ctrl_log.specs.Tags.{is_out}
use Rattle.nvme_engine.specs.Calls.{next_of}
use Rattle.nvme_engine.specs.Standing.{StandsAt, IsEngine}
use Rattle.nvme_jobs.specs.declared.dispatched.Dispatched.{Dispatched}
use Rattle.nvme_jobs.specs.Hands.{in_hand}
use Rattle.nvme_jobs.specs.inside.Standing.{IsOther}
use Rattle.nvme_front.specs.declared.state.FrontState.{FrontState}
use Rattle.nvme_front.specs.inside.State.{rules_of, past_of, view_of}
use Rattle.nvme_front.specs.inside.Room.{IsRunning, IsRoomy, tags_in}
use Rattle.nvme_front.specs.inside.Goes.{HasAdmin}
use Rattle.nvme_front.specs.View.{next_lawful, HasPlaces, LacksPlaces}
use Rattle.nvme_front.proofs.EngineFacts.{open_is_few, one_queue, admin_open, few_wait, fetch_is_other, few_tags, next_measured}
use Rattle.nvme_front.proofs.RegionLists.{number_of_sq}

-- a queue that is open under an identifier, on a region
pub record IsOpenOn (past : Past) (q r : ℕ) : Type 0 where
  pub queue : Queue
  pub is_open : open_sq past q ≡ Some queue
  pub on : queue.region ≡ r

-- where its region was told
pub open_on : (past : Past) (q r : ℕ) → Some r ≡ option_map (λ (queue : Queue). queue.region) (open_sq past q) → IsOpenOn past q r
open_on past q r told = by (open_sq past q) refl told where
  by : (o : Option Queue) → open_sq past q ≡ o → Some r ≡ option_map (λ (queue : Queue). queue.region) o → IsOpenOn past q r
  by None is told = absurd (cc told)
  by (Some queue) is told = record { queue = queue; is_open = is; on = same_Some queue.region r (sym told) }

-- no queue is open where none was told
pub none_open : (past : Past) (q : ℕ) → None ≡ option_map (λ (queue : Queue). queue.region) (open_sq past q) → open_sq past q ≡ None
none_open past q told = by (open_sq past q) refl told where
  by : (o : Option Queue) → open_sq past q ≡ o → None ≡ option_map (λ (queue : Queue). queue.region) o → open_sq past q ≡ None
  by None is told = is
  by (Some queue) is told = absurd (cc told)

-- what is found in a list is in it
found-in : {T : Type 0} (t : T → Bool) (x : T) (xs : List T) → find t xs ≡ Some x → IsIn x xs × (t x ≡ true)
found-in t x [] h = cc h
found-in t x (y ∷ xs) h = by (t y) refl h (found-in t x xs) where
  by : (b : Bool) → t y ≡ b → (if b then Some y else find t xs) ≡ Some x → (find t xs ≡ Some x → IsIn x xs × (t x ≡ true)) → IsIn x (y ∷ xs) × (t x ≡ true)
  by true e is rest = (inl (same_Some y x is), ap t (sym (same_Some y x is)) ∙ e)
  by false e is rest = let it = rest is in (inr it.0, it.1)

-- the queue of a pick is open, with as many commands that wait as are taken
pub record IsDue (past : Past) (pick : Pick) : Type 0 where
  pub queue : Queue
  pub is_open : open_sq past pick.qid ≡ Some queue
  pub at_least_one : 1 ≤ pick.n
  pub enough : pick.n ≤ length (waiting past queue.region)

-- a pick of an I/O queue needs a place for each command
pub io_places : (past : Past) (pick : Pick) → pick.qid ≢ 0 → places_for past pick ≡ pick.n
io_places past pick io = rw (ne_eqb pick.qid 0 io) refl

module _ (s : FrontState) (k : IsRunning s) where
  -- what the notes log is what the front logged
  was_open : (q : ℕ) (queue : Queue) → open_sq (past_of s) q ≡ Some queue → open_sq (logged k.notes) q ≡ Some queue
  was_open q queue is = subst (λ (p : Past). open_sq p q ≡ Some queue) (sym k.past_is) is

  -- its engine stands
  pub has_engine : IsEngine s.engine
  has_engine = record { rules = rules_of s; late = s.late; notes = k.notes; rest = []; stands = k.stands }

  -- ---- queues
  -- what the engine tells of a queue is so at the front's log
  pub told_region : (q : ℕ) (o : Option ℕ) → ((rules : FrontRules) (late : Bool) (notes : Notes) → StandsAt rules late notes s.engine
      → o ≡ option_map (λ (queue : Queue). queue.region) (open_sq (logged notes) q)) → o ≡ option_map (λ (queue : Queue). queue.region) (open_sq (past_of s) q)
  told_region q o told = told (rules_of s) s.late k.notes k.stands ∙ ap (λ (p : Past). option_map (λ (queue : Queue). queue.region) (open_sq p q)) k.past_is

  pub opened : (q x r : ℕ) (o : Option ℕ) → ((rules : FrontRules) (late : Bool) (notes : Notes) → StandsAt rules late notes s.engine
      → o ≡ option_map (λ (queue : Queue). queue.region) (open_sq (logged notes) q)) → o ≡ Some x → r ≡ x → IsOpenOn (past_of s) q r
  opened q x r o told is same = open_on (past_of s) q r (ap (λ (y : ℕ). Some y) same ∙ sym is ∙ told_region q o told)

  pub told_waiting : (q n : ℕ) → ((rules : FrontRules) (late : Bool) (notes : Notes) → StandsAt rules late notes s.engine
      → (queue : Queue) → open_sq (logged notes) q ≡ Some queue → n ≡ length (waiting (logged notes) queue.region)) → (r : ℕ) → IsOpenOn (past_of s) q r
      → n ≡ length (waiting (past_of s) r)
  told_waiting q n told r o =
      told (rules_of s) s.late k.notes k.stands o.queue (was_open q o.queue o.is_open)
      ∙ ap (λ (p : Past). length (waiting p o.queue.region)) k.past_is
      ∙ ap (λ (x : ℕ). length (waiting (past_of s) x)) o.on

  pub open_there : (q : ℕ) (queue : Queue) → open_sq (past_of s) q ≡ Some queue → (q ≤ highest_qid) × (queue.region < length s.sqs.items)
  open_there q queue is =
      let few = open_is_few (rules_of s) s.late k.notes [] s.engine k.stands q queue (was_open q queue is) in
      (few.0, omega (arith, few.1, number_of_sq s))

  pub two_regions : (p q : ℕ) (x y : Queue) → open_sq (past_of s) p ≡ Some x → open_sq (past_of s) q ≡ Some y → x.region ≡ y.region → p ≡ q
  two_regions p q x y at_p at_q = one_queue (rules_of s) s.late k.notes [] s.engine k.stands p q x y (was_open p x at_p) (was_open q y at_q)

  pub admin_there : HasAdmin s → open_sq (past_of s) 0 ≡ Some admin_queue
  admin_there admin =
      subst (λ (p : Past). open_sq p 0 ≡ Some admin_queue) k.past_is
      (admin_open (rules_of s) s.late k.notes [] s.engine k.stands (omega (arith, admin.0, number_of_sq s)))

  -- ---- places
  pub few_waiting : (r : ℕ) → length (waiting (past_of s) r) ≤ highest_count
  few_waiting r =
      subst (λ (p : Past). length (waiting p r) ≤ highest_count) k.past_is (few_wait (rules_of s) s.late k.notes [] s.engine k.stands r)

  pub fetch_other : (r index : ℕ) (entry : Sqe) → IsOther (past_of s) (Fetch r index entry)
  fetch_other r index entry =
      subst (λ (p : Past). IsOther p (Fetch r index entry)) k.past_is (fetch_is_other (rules_of s) s.late k.notes [] s.engine k.stands r index entry)

  -- ---- the pick that arbitration makes next
  module _ (pick : Pick) (next : next_lawful (view_of s) ≡ Some pick) where
    pub next_is : next_of (rules_of s) k.notes ≡ Some pick
    next_is =
        ap (λ (p : Past). lawful_pick (rules_of s).mechanism (rules_of s).start.settings (arbitration_of p) (observation_of p)) k.past_is ∙ next

    pub due : IsDue (past_of s) pick
    due =
        let it = subst (λ (p : Past). IsMeasured (rules_of s).mechanism (settings_after (rules_of s).start.settings (arbitration_of p)) (observation_of p) pick) k.past_is
        (next_measured (rules_of s) s.late k.notes [] s.engine k.stands pick next_is) in
        let found = found-in (λ (x : Seen). x.qid == pick.qid) it.queue (observation_of (past_of s)) it.was_seen in
        let sees = seen-in (past_of s) it.queue found.0 in
        record {
          queue = sees.queue;
          is_open = ap (open_sq (past_of s)) (sym (eqb-true it.queue.qid pick.qid found.1)) ∙ sees.is_open;
          at_least_one = it.at_least_one;
          enough = omega (arith, it.within_count, sees.counts);
        }

  -- ---- what the engine tells of arbitration
  pub told_seen : (seen : List Seen) → ((rules : FrontRules) (late : Bool) (notes : Notes) → StandsAt rules late notes s.engine → seen ≡ observation_of (logged notes))
      → seen ≡ observation_of (past_of s)
  told_seen seen told = told (rules_of s) s.late k.notes k.stands ∙ ap observation_of k.past_is

  pub told_next : (o : Option Pick) → ((rules : FrontRules) (late : Bool) (notes : Notes) → StandsAt rules late notes s.engine → o ≡ next_of rules notes)
      → next_lawful (view_of s) ≡ o
  told_next o told =
      sym (told (rules_of s) s.late k.notes k.stands
      ∙ ap (λ (p : Past). lawful_pick (rules_of s).mechanism (rules_of s).start.settings (arbitration_of p) (observation_of p)) k.past_is)

  module _ (pick : Pick) (b : Bool)
      (told : (rules : FrontRules) (late : Bool) (notes : Notes) → StandsAt rules late notes s.engine
      → b ≡ nat_lt max_outstanding (outstanding rules (logged notes) + places_for (logged notes) pick)) where
    lacks : b ≡ nat_lt max_outstanding (outstanding (rules_of s) (past_of s) + places_for (past_of s) pick)
    lacks =
        told (rules_of s) s.late k.notes k.stands
        ∙ ap (λ (p : Past). nat_lt max_outstanding (outstanding (rules_of s) p + places_for p pick)) k.past_is

    pub told_lacks : b ≡ true → LacksPlaces (rules_of s) (past_of s) pick
    told_lacks said = ltb-true max_outstanding (outstanding (rules_of s) (past_of s) + places_for (past_of s) pick) (sym lacks ∙ said)

    pub told_has : b ≡ false → HasPlaces (rules_of s) (past_of s) pick
    told_has said = ltb-false max_outstanding (outstanding (rules_of s) (past_of s) + places_for (past_of s) pick) (sym lacks ∙ said)

  -- ---- jobs
  -- each command in hand is outstanding
  few_in_hand : length (in_hand s.jobs.hands) ≤ outstanding (rules_of s) (past_of s)
  few_in_hand =
      let outs : All (λ (t : ℕ). is_out k.notes t ≡ true) (tags_in s.jobs) =
      All-map (λ (t : ℕ). is_out k.notes t ≡ true) (λ (d : Dispatched). d.tag) (in_hand s.jobs.hands) (λ i d lt. (k.tags.each i d lt).out) in
      let few : length (tags_in s.jobs) ≤ outstanding (rules_of s) (past_of s) =
      subst (λ (p : Past). length (tags_in s.jobs) ≤ outstanding (rules_of s) p) k.past_is
      (few_tags (rules_of s) s.late k.notes [] s.engine k.stands (tags_in s.jobs) k.tags.apart outs) in
      omega (arith, few, length-map (in_hand s.jobs.hands) (λ (d : Dispatched). d.tag))

  module _ (pick : Pick) (io : pick.qid ≢ 0) (places : HasPlaces (rules_of s) (past_of s) pick) where
    -- an I/O pick takes few commands
    pub few_picks : outstanding (rules_of s) (past_of s) + pick.n ≤ max_outstanding
    few_picks = omega (arith, places, io_places (past_of s) pick io)

    -- there is room for their jobs
    pub jobs_fit : IsRoomy s → HasAdmin s → length s.jobs.hands.unhanded + pick.n ≤ s.jobs.room
    jobs_fit roomy admin =
        omega (arith, few_picks, few_in_hand, length-append s.jobs.hands.running s.jobs.hands.unhanded, roomy.jobs admin.0)

    -- tickets don't run out: there are few events
    pub few_tickets : IsRoomy s → s.jobs.tickets + pick.n < 4294967296
    few_tickets roomy = omega (arith, few_picks, k.jobs.few, length-reverse s.log.items, roomy.few_events, s.config.few_events)
