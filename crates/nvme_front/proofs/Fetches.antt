-- A fetch, as the front makes it.
use Rattle.std.proofs.Common.{◌≡◌, ℕ, zero, suc, ◌+◌, ◌<◌, ◌≤◌, Bool, List, [], ◌∷◌, ◌++◌, map, length, set, get_or, Some, None, refl, sym, ap, subst, ◌∙◌, arith, inl, inr}
use Rattle.std.specs.Prelude.{reverse, if◌then◌else◌}
use Rattle.std.proofs.lemmas.Bool.{cases_eq, eq-eqb, ne_eqb}
use Rattle.std.proofs.lemmas.Bool.Decides.{eqb_tells}
use Rattle.std.proofs.lemmas.List.{length_push, set-get_or, length-reverse}
use Rattle.std.proofs.lemmas.List.Elements.{All-set}
use Rattle.std.proofs.lemmas.Option.{same_Some}
use Rattle.nvme_lane.specs.View.{SameGet, PutView}
use Rattle.nvme_entry.specs.declared.submission.Sqe.{Sqe}
use Rattle.nvme_entry.specs.declared.completion.Cqe.{Cqe}
use Rattle.nvme_log.specs.declared.event.Event.{Event}
use Rattle.nvme_log.specs.declared.event.Event.TheVariants.{Fetch}
use Rattle.nvme_log.specs.Limits.{window_of}
use Rattle.nvme_log.specs.Rules.{FrontRules, Past, slots_at, sq_regions_of, window_at}
use Rattle.nvme_log.specs.Queues.{Queue, open_sq, pending}
use Rattle.nvme_log.specs.Places.{fetched, waiting}
use Rattle.nvme_log.specs.Completions.{posted_to}
use Rattle.nvme_log.proofs.Waiting.{fetched-fetch, fetched-fetch_other}
use Rattle.nvme_ctrl_log.specs.Notes.{Notes, Logged, Tail, Kept, logged}
use Rattle.nvme_engine.specs.Calls.{MayFetch, HasFetched}
use Rattle.nvme_engine.specs.Standing.{StandsAt}
use Rattle.nvme_jobs.specs.inside.Jobs.{JobsView}
use Rattle.nvme_jobs.specs.inside.Standing.{HoldsJobs}
use Rattle.nvme_jobs.proofs.Leaving.{jobs-other}
use mathlib.Core.List.{IsPrefix}
use Rattle.nvme_front.specs.declared.region.SqRegion.{SqRegion}
use Rattle.nvme_front.specs.declared.state.FrontState.{FrontState}
use Rattle.nvme_front.specs.inside.State.{gets_of, rules_of, past_of, view_of}
use Rattle.nvme_front.specs.inside.Room.{IsConsistent, IsRunning, IsCounted, HoldsTags}
use Rattle.nvme_front.specs.inside.Goes.{coming_in, Goes, HasAdmin}
use Rattle.nvme_front.specs.Ends.{get_place, put_place}
use Rattle.nvme_front.specs.View.{NoneCanBePosted, got_in}
use Rattle.nvme_front.proofs.Comes.{comes-set, comes_next}
use Rattle.nvme_front.proofs.States.{past-push, places-set, rules-goes, kept_after, SameSeat-refl}
use Rattle.nvme_front.proofs.SameTags.{tags_stay}
use Rattle.nvme_front.proofs.SqEnds.{got_in-read, got_in-set, own_slots}
use Rattle.nvme_front.proofs.RunningFacts.{IsOpenOn, open_there, fetch_other}
use Rattle.nvme_front.proofs.ReadyPlaces.{fetch-ready}

-- a region that was put back as it was read
pub put_back : (xs : List SqRegion) (r : ℕ) (d g : SqRegion) → d ≡ get_or xs r d → g ≡ d → set xs r g ≡ xs
put_back xs r d g read same = ap (set xs r) (same ∙ read) ∙ set-get_or xs r d

-- a region that was read twice
pub same_read : (xs : List SqRegion) (r : ℕ) (x y : SqRegion) → r < length xs → x ≡ get_or xs r x → y ≡ get_or xs r y → x ≡ y
same_read [] r x y lt is also = absurd (omega (arith, lt))
same_read (z ∷ xs) zero x y lt is also = is ∙ sym also
same_read (z ∷ xs) (suc r) x y lt is also = same_read xs r x y (omega (arith, lt)) is also

-- no more was fetched from a region than the log has events
few_fetched : (past : Past) (r : ℕ) → length (fetched past r) ≤ length past
few_fetched [] r = omega arith
few_fetched (Fetch region index entry ∷ past) r = elim (eqb_tells region r) [
  | inl p ↦ rw p.0 (omega (arith, few_fetched past r, length_push (fetched past r) entry))
  | inr p ↦ rw p.0 (omega (arith, few_fetched past r))
]
few_fetched (e ∷ past) r = omega (arith, few_fetched past r)

-- ---- before the fetch: from the queue that is open on a region
module _ (a : FrontState) (kept : IsConsistent a) (admin : HasAdmin a) (q r : ℕ) (o : IsOpenOn (past_of a) q r) where
  -- its region is there
  pub region_there : r < length a.sqs.items
  region_there =
      let few = open_there a (kept.running admin) q o.queue o.is_open in
      omega (arith, few.1, o.on)

  module _ (d : SqRegion) (read : d ≡ get_or a.sqs.items r d) where
    -- as many commands were fetched as its ring gave
    pub counts : d.fetched ≡ length (fetched (past_of a) r)
    counts =
        let k = kept.running admin in
        let here : d.fetched ≡ length d.end.got =
        subst (λ (x : SqRegion). IsCounted x) (sym read) (k.counted r d region_there) in
        here ∙ ap (λ (xs : List Sqe). length xs) (sym (got_in-read a r d region_there read)) ∙ ap (λ (xs : List Sqe). length xs) (sym (k.got r))

    -- the next index fits
    pub index_fits : d.fetched + 1 < 4294967296
    index_fits = omega (arith, counts, few_fetched (past_of a) r, length-reverse a.log.items, kept.roomy.few_events, a.config.few_events)

    -- the window of its queue
    pub window_is : window_at (rules_of a) r ≡ window_of d.end.slots
    window_is = ap window_of (own_slots a r d region_there read)

    -- where it has room, the engine may be told of a fetch
    pub may_fetch : pending (past_of a) ≡ None → length (waiting (past_of a) r) < window_of d.end.slots
        → MayFetch (rules_of a) (kept.running admin).notes q d.end.slots d.fetched
    may_fetch none room =
        let k = kept.running admin in
        let slots : d.end.slots ≡ slots_at (sq_regions_of (rules_of a)) o.queue.region =
        sym (own_slots a r d region_there read) ∙ ap (slots_at (sq_regions_of (rules_of a))) (sym o.on) in
        let at_past : (p : Past) → past_of a ≡ p → open_sq p q ≡ Some o.queue = λ p is. subst (λ (x : Past). open_sq x q ≡ Some o.queue) is o.is_open in
        record {
          queue = o.queue;
          is_open = at_past (logged k.notes) (sym k.past_is);
          none_pending = ap (λ (p : Past). pending p) k.past_is ∙ none;
          room = omega (
            arith,
            room,
            ap (λ (p : Past). length (waiting p o.queue.region)) k.past_is,
            ap (λ (x : ℕ). length (waiting (past_of a) x)) o.on,
            ap window_of slots,
          );
          slots_are = slots;
          next = counts ∙ ap (λ (x : ℕ). length (fetched (past_of a) x)) (sym o.on) ∙ ap (λ (p : Past). length (fetched p o.queue.region)) (sym k.past_is);
        }

-- ---- the fetch
-- a command of a region was got, and the engine and the log were told. All else is as it was
pub record Fetched (a b : FrontState) (q r : ℕ) (d g : SqRegion) (entry : Sqe) : Type 0 where
  pub read : d ≡ get_or a.sqs.items r d
  pub sqs : b.sqs.items ≡ set a.sqs.items r g
  pub end : SameGet d.end g.end
  pub got : g.end.got ≡ d.end.got ++ entry ∷ []
  pub next : 0 < length d.end.known → d.end.known ≡ entry ∷ g.end.known
  pub counted : g.fetched ≡ d.fetched + 1
  pub slot : ℕ
  pub engine : (rules : FrontRules) (late : Bool) (notes : Notes) → StandsAt rules late notes a.engine → MayFetch rules notes q d.end.slots d.fetched
      → HasFetched rules late notes q slot d.fetched entry b.engine
  pub log : b.log.items ≡ a.log.items ++ Fetch r d.fetched entry ∷ []
  pub within : length a.log.items + 1 ≤ a.config.max_events
  pub cqs : b.cqs.items ≡ a.cqs.items
  pub jobs : b.jobs ≡ a.jobs
  pub late : b.late ≡ a.late
  pub config : b.config ≡ a.config
  pub alloc : b.alloc ≡ a.alloc

module _ (a b : FrontState) (q r : ℕ) (d g : SqRegion) (entry : Sqe) (f : Fetched a b q r d g entry) where
  -- the log with it
  pub fetch_past : past_of b ≡ Fetch r d.fetched entry ∷ past_of a
  fetch_past = ap (λ (xs : List Event). reverse xs) f.log ∙ past-push a.log.items (Fetch r d.fetched entry)

  -- the regions, and a log that goes on from the old one
  pub fetch_goes : Goes a b
  fetch_goes = record {
    grew = (Fetch r d.fetched entry ∷ [], sym f.log);
    config = f.config;
    alloc = f.alloc;
    late = f.late;
    gets = ap (λ (x : List SqRegion). map get_place (gets_of x)) f.sqs ∙ places-set a.sqs.items r d g f.read (λ t. (f.end.0 t, f.end.1 t, f.end.2 t));
    puts = ap (map put_place) f.cqs;
    comes = λ x. subst (λ (xs : List SqRegion). IsPrefix (coming_in a.sqs.items x) (coming_in xs x)) (sym f.sqs)
        (comes-set a.sqs.items r d g f.read (comes_next d g entry f.got f.next) x);
    came = rw f.jobs refl;
    seat = rw f.jobs (SameSeat-refl a.jobs.hands.seat);
    handed = rw f.jobs (omega arith);
    gained = rw f.jobs (omega arith);
    room = rw f.jobs refl;
  }

  module _ (kept : IsConsistent a) (admin : HasAdmin a) (o : IsOpenOn (past_of a) q r) (none : pending (past_of a) ≡ None)
      (room : length (waiting (past_of a) r) < window_of d.end.slots) where
    k : IsRunning a
    k = kept.running admin

    told : HasFetched (rules_of a) a.late k.notes q f.slot d.fetched entry b.engine
    unfolding k
    told = f.engine (rules_of a) a.late k.notes k.stands (may_fetch a kept admin q r o d f.read none room)

    -- its queue's region
    on : told.queue.region ≡ r
    unfolding k
    on = ap (λ (x : Queue). x.region) (same_Some told.queue o.queue (sym told.is_open ∙ ap (λ (p : Past). open_sq p q) k.past_is ∙ o.is_open)) ∙ o.on

    later : ℕ → Notes
    later x = Kept x d.fetched d.fetched ∷ Logged (Fetch x d.fetched entry) ∷ Tail x f.slot ∷ k.notes

    got_later : (x : ℕ) → fetched (past_of b) x ≡ got_in (view_of b) x
    unfolding k
    got_later x =
        let seen = got_in-set a b r g (region_there a kept admin q r o) f.sqs x in
        ap (λ (p : Past). fetched p x) fetch_past ∙ elim (cases_eq r x) [
          | inl same ↦
              let here : fetched (Fetch r d.fetched entry ∷ past_of a) x ≡ fetched (past_of a) x ++ entry ∷ [] =
              subst (λ (y : ℕ). fetched (Fetch r d.fetched entry ∷ past_of a) y ≡ fetched (past_of a) y ++ entry ∷ []) same (fetched-fetch (past_of a) r d.fetched entry) in
              let was : fetched (past_of a) x ≡ d.end.got =
              ap (fetched (past_of a)) (sym same) ∙ k.got r ∙ got_in-read a r d (region_there a kept admin q r o) f.read in
              let now : got_in (view_of b) x ≡ g.end.got = seen ∙ ap (λ (t : Bool). if t then g.end.got else got_in (view_of a) x) (eq-eqb x r (sym same)) in
              here ∙ ap (λ (xs : List Sqe). xs ++ entry ∷ []) was ∙ sym f.got ∙ sym now
          | inr other ↦
              let now : got_in (view_of b) x ≡ got_in (view_of a) x =
              seen ∙ ap (λ (t : Bool). if t then g.end.got else got_in (view_of a) x) (ne_eqb x r (λ e. other (sym e))) in
              fetched-fetch_other (past_of a) r d.fetched entry x other ∙ k.got x ∙ sym now
        ]

    -- the front runs at its log
    fetch_running : IsRunning b
    unfolding k later
    fetch_running = record {
      notes = later told.queue.region;
      stands = subst (λ (x : Bool). StandsAt (rules_of b) x (later told.queue.region) b.engine) (sym f.late)
          (subst (λ (x : FrontRules). StandsAt x a.late (later told.queue.region) b.engine) (sym (rules-goes a b fetch_goes)) told.stands);
      past_is = (λ t. Fetch (on t) d.fetched entry ∷ k.past_is t) ∙ sym fetch_past;
      got = got_later;
      sent = λ c. ap (λ (p : Past). posted_to p c) fetch_past ∙ k.sent c
          ∙ ap (λ (ps : List (PutView Cqe)). get_or (map (λ (p : PutView Cqe). p.sent) ps) c []) (sym f.cqs);
      counted = subst (λ (xs : List SqRegion). (i : ℕ) (x : SqRegion) → i < length xs → IsCounted (get_or xs i x)) (sym f.sqs)
          (All-set (λ (x : SqRegion). IsCounted x) a.sqs.items r g
          (omega (arith, f.counted, counts_got, ap (λ (xs : List Sqe). length xs) f.got, length_push d.end.got entry)) k.counted);
      jobs = subst (λ (p : Past). HoldsJobs b.config.spaces p b.jobs) (sym fetch_past)
          (rw (f.config, f.jobs) (jobs-other a.config.spaces (past_of a) (Fetch r d.fetched entry) a.jobs (fetch_other a k r d.fetched entry) k.jobs));
      tags = subst (λ (j : JobsView). HoldsTags (later told.queue.region) j) (sym f.jobs)
          (tags_stay k.notes (later told.queue.region) a.jobs (record { holders = λ t. refl; answers = λ x i. refl }) k.tags);
    } where
      counts_got : d.fetched ≡ length d.end.got
      counts_got =
          counts a kept admin q r o d f.read ∙ ap (λ (xs : List Sqe). length xs) (k.got r ∙ got_in-read a r d (region_there a kept admin q r o) f.read)

    -- so it is kept
    pub fetch_kept : IsConsistent b
    fetch_kept =
        let few : length b.log.items ≤ b.config.max_events =
        omega (arith, ap (λ (xs : List Event). length xs) f.log, length_push a.log.items (Fetch r d.fetched entry), ap (λ z. z.max_events) f.config, f.within) in
        kept_after a b admin kept.roomy fetch_goes few fetch_running

    -- and no completion is ready that wasn't before
    pub fetch_posted : NoneCanBePosted (view_of a) → NoneCanBePosted (view_of b)
    unfolding k
    fetch_posted = fetch-ready a b r d.fetched entry (fetch_other a k r d.fetched entry) fetch_past f.jobs f.cqs
