-- A front and its hosts at rest, and what is settled then.
use Rattle.std.proofs.Common.{◌≡◌, ℕ, ◌<◌, Bool, true, false, ◌||◌, List, [], ◌∷◌, ◌++◌, map, length, get_or, take, None, inl, inr, refl, sym, ap, subst, ◌∙◌, arith, length-append}
use Rattle.std.specs.Prelude.{reverse, Option, Vec}
use Rattle.std.specs.Global.{Global}
use Rattle.std.specs.List.{All}
use Rattle.std.proofs.lemmas.List.{append-nil, length-map, get_or_past}
use Rattle.std.proofs.lemmas.Simd.{map-map}
use Rattle.std.proofs.lemmas.Bool.{cases_lt}
use mathlib.Core.List.{IsPrefix}
use Rattle.nvme_entry.specs.declared.submission.Sqe.{Sqe}
use Rattle.nvme_entry.specs.declared.completion.Cqe.{Cqe}
use Rattle.nvme_lane.specs.View.{GetView, PutView}
use Rattle.nvme_lane.specs.Feeder.{script_of, count_of, put_of}
use Rattle.nvme_lane.specs.Drainer.{items_of, get_of}
use Rattle.nvme_lane.specs.declared.feeder.Feeder.{Feeder}
use Rattle.nvme_lane.specs.declared.drainer.Drainer.{Drainer}
use Rattle.nvme_pool.specs.Seat.{SeatView}
use Rattle.nvme_pool.specs.Worker.{WorkerView}
use Rattle.nvme_front.specs.declared.settled.Settled.{Settled}
use Rattle.nvme_front.specs.declared.settlement.Parts.{Parts}
use Rattle.nvme_log.specs.Rules.{FrontRules, Past}
use Rattle.nvme_log.specs.Queues.{Deletion, is_open_region, pending}
use Rattle.nvme_log.specs.Places.{fetched}
use Rattle.nvme_log.specs.Completions.{posted_to}
use Rattle.nvme_log.specs.Account.{IsAccount}
use Rattle.nvme_jobs.specs.JobAccount.{AccountsForJobs}
use Rattle.nvme_log.specs.Dispatches.{place_at}
use Rattle.nvme_jobs.specs.Executions.{ExecutesOnce}
use Rattle.nvme_jobs.proofs.Tickets.{each-is_executed_once}
use Rattle.nvme_jobs.specs.Answers.{AnswersHaveTickets}
use Rattle.nvme_jobs.specs.Hands.{Hands, in_hand}
use Rattle.nvme_jobs.specs.inside.Jobs.{IsClosed}
use Rattle.nvme_front.specs.Ends.{get_place, put_place}
use Rattle.nvme_front.specs.View.{FrontView, AccountsForEnds, past_in, got_in, known_in, sent_in}
use Rattle.nvme_log.specs.Account.{IsClear}
use Rattle.nvme_log.specs.Queues.{is_serving, is_deleted_region}
use Rattle.nvme_front.specs.Hosts.{ArePaired, AreHosts, IsAtRest, drainer_place, told, told_by, submitted_at, sent_at, taken_at, collected_at}
use Rattle.nvme_front.specs.Unsettled.{IsSameFront, TakesOf, Takes}
use Rattle.nvme_front.specs.inside.Resting.{Rests, Collects}
use Rattle.nvme_front.specs.Settles.{settled_past, IsSettled, IsSettledAccount, AnswersWereExecuted, CollectsMore, HandsBack}
use Rattle.nvme_front.proofs.Executions.{KeepsNone, executes_once}
use Rattle.nvme_front.proofs.Hosted.{seen_length, IsSameFront-trans}
use Rattle.nvme_log.proofs.Prefixes.{IsPrefix-refl}

-- a list that stays the same with another at its end
nothing_more : {X : Type 0} (xs ys : List X) → xs ++ ys ≡ xs → ys ≡ []
nothing_more xs [] e = refl
nothing_more xs (y ∷ ys) e = absurd (omega (arith, length-append xs (y ∷ ys), ap length e))

either_first : (a b : Bool) → b ≡ false → (a || b) ≡ true → a ≡ true
either_first true b e h = refl
either_first false b e h = cc (e, h)

-- while no deletion is pending, just the regions of open queues are served
open_served : (past : Past) (r : ℕ) → pending past ≡ None → is_serving past r ≡ true → is_open_region past r ≡ true
open_served past r none h = either_first (is_open_region past r) (is_deleted_region (pending past) r) (ap (λ (z : Option Deletion). is_deleted_region z r) none) h

served_open : (past : Past) (r : ℕ) → is_open_region past r ≡ true → is_serving past r ≡ true
served_open past r h = ap (λ (z : Bool). z || is_deleted_region (pending past) r) h

-- what was submitted, by what feeders tell
submitted_told : (f : List (Feeder Sqe)) → map (λ (x : Feeder Sqe). take (count_of x) (script_of x)) f ≡ map (λ (p : List Sqe × ℕ). take p.1 p.0) (map told f)
submitted_told f = sym (map-map (λ (p : List Sqe × ℕ). take p.1 p.0) told f)

-- hosts that have the addresses of the regions are as many
pub feeders_number : (v : FrontView) (f : List (Feeder Sqe)) (d : List (Drainer Cqe)) → AreHosts v f d → length f ≡ length v.gets
feeders_number v f d hosts = seen_length (λ (x : Feeder Sqe). (put_of x).address) (λ (g : GetView Sqe). g.address) f v.gets hosts.feeders_are

-- ---- after a look at each submission ring
module _ (v w : FrontView) (f f' : List (Feeder Sqe)) (quiet : Bool) (rests : Rests (length v.gets) quiet f f' v w) (same : length f ≡ length v.gets) where
  submitted_same : (r : ℕ) → submitted_at f' r ≡ submitted_at f r
  submitted_same r = ap (λ z. get_or z r []) (submitted_told f' ∙ ap (map (λ (p : List Sqe × ℕ). take p.1 p.0)) rests.feeders.told_is ∙ sym (submitted_told f))

  pub got_same : (r : ℕ) → got_in w r ≡ got_in v r
  got_same r = ap (λ z. get_or z r []) rests.front.got

  past_same : past_in w ≡ past_in v
  past_same = ap reverse rests.front.log

  -- all that was submitted to a served region was got, where nothing rests
  got_all : quiet ≡ true → (r : ℕ) → is_serving (past_in v) r ≡ true → got_in v r ≡ submitted_at f r
  got_all q r serving = elim (cases_lt r (length v.gets)) [
    | inl p ↦ sym (got_same r) ∙ sym (append-nil (got_in w r)) ∙ ap (λ z. got_in w r ++ z) (sym (rests.none q r p serving)) ∙ rests.rest r p ∙ submitted_same r
    | inr p ↦ get_or_past (map (λ (g : GetView Sqe). g.got) v.gets) r [] (rw length-map p)
        ∙ sym (get_or_past (map (λ (x : Feeder Sqe). take (count_of x) (script_of x)) f) r [] (rw (length-map, same) p))
  ]

  -- what was got begins what was submitted
  pub got_first : (r : ℕ) → IsPrefix (got_in w r) (submitted_at f r)
  got_first r = elim (cases_lt r (length v.gets)) [
    | inl p ↦ (known_in w r, rests.rest r p ∙ submitted_same r)
    | inr p ↦ subst (λ z. IsPrefix z (submitted_at f r)) (sym (got_same r ∙ get_or_past (map (λ (g : GetView Sqe). g.got) v.gets) r [] (rw length-map p))) (submitted_at f r, refl)
  ]

  -- a clear front whose served regions have nothing resting is at rest
  pub at_rest : quiet ≡ true → IsClear (past_in w) → IsAtRest v f
  at_rest q clear = record {
    clear = subst IsClear past_same clear;
    none_rests = λ r there. got_all q r (served_open (past_in v) r there);
  }

  -- where a command rests it is not
  pub not_at_rest : quiet ≡ false → IsAtRest v f → ⊥
  not_at_rest q rest =
      let s = rests.some q in
      let r = s.region in
      let all = rest.none_rests r (open_served (past_in v) r rest.clear.none_pending s.serving) in
      s.rests (nothing_more (got_in w r) (known_in w r) (rests.rest r s.below ∙ submitted_same r ∙ sym all ∙ sym (got_same r)))

  -- nor where the front isn't clear
  pub not_clear : (IsClear (past_in w) → ⊥) → IsAtRest v f → ⊥
  not_clear h rest = h (subst IsClear (sym past_same) rest.clear)

-- what was taken from a front that has the same rings for completions
pub takes_from : (v w : FrontView) (d d' : List (Drainer Cqe)) → w.puts ≡ v.puts → Takes w d d' → Takes v d d'
takes_from v w d d' puts t = record {
  places = t.places;
  taken = λ c. subst (λ (z : List (PutView Cqe)). TakesOf (get_or (map (λ (p : PutView Cqe). p.sent) z) c []) (taken_at d c) (taken_at d' c)) puts (t.taken c);
}

takes_prefix : (sent a b : List Cqe) → TakesOf sent a b → IsPrefix a b
takes_prefix sent a b h = elim h [
  | inl e ↦ subst (λ z. IsPrefix a z) (sym e) (IsPrefix-refl a)
  | inr p ↦ p.0
]

-- an account of other lists that go on as far
re_account : (rules : FrontRules) (past : Past) (got sent : ℕ → List Sqe) (put collected : ℕ → List Cqe) → IsAccount rules got past put
    → ((r : ℕ) → IsPrefix (fetched past r) (sent r)) → ((c : ℕ) → IsPrefix (collected c) (posted_to past c)) → IsAccount rules sent past collected
re_account rules past got sent put collected a fetches collects = record {
  fetched_in_order = fetches;
  indexes_count = a.indexes_count;
  served_while_open = a.served_while_open;
  observed = a.observed;
  effects_at_once = a.effects_at_once;
  effects_whole = a.effects_whole;
  deletes = a.deletes;
  posts_own = a.posts_own;
  leaves_places = a.leaves_places;
  lawful = a.lawful;
  collected_in_order = collects;
}

-- ---- after all was taken
module _ (v w u : FrontView) (f f' : List (Feeder Sqe)) (d d' : List (Drainer Cqe)) (s : Settled) (hosts : AreHosts v f d)
    (rests : Rests (length v.gets) true f f' v w) (clear : IsClear (past_in w)) (collects : Collects (length w.puts) d d' w u)
    (log : s.log.items ≡ u.log) (sent : map told_by s.sent.items ≡ map told f')
    (collected : map (λ (x : Vec Cqe Global). x.items) s.collected.items ≡ map (λ (x : Drainer Cqe). items_of x) d') where
  feeders_there : length f ≡ length v.gets
  feeders_there = seen_length (λ (x : Feeder Sqe). (put_of x).address) (λ (g : GetView Sqe). g.address) f v.gets hosts.feeders_are

  drainers_there : length d ≡ length v.puts
  drainers_there = seen_length (λ (x : Drainer Cqe). (get_of x).address) (λ (p : PutView Cqe). p.address) d v.puts hosts.drainers_are

  drainers_same : length d' ≡ length d
  drainers_same = seen_length drainer_place drainer_place d' d collects.takes.places

  past_u : settled_past s ≡ past_in u
  past_u = ap reverse log

  past_w : settled_past s ≡ past_in w
  past_w = ap reverse (log ∙ collects.front.log)

  past_v : settled_past s ≡ past_in v
  past_v = ap reverse (log ∙ collects.front.log ∙ rests.front.log)

  sent_is : (r : ℕ) → sent_at s.sent.items r ≡ submitted_at f r
  sent_is r =
      ap (λ z. get_or z r [])
      (sym (map-map (λ (p : List Sqe × ℕ). take p.1 p.0) told_by s.sent.items) ∙ ap (map (λ (p : List Sqe × ℕ). take p.1 p.0)) (sent ∙ rests.feeders.told_is) ∙ sym (submitted_told f))

  collected_is : (c : ℕ) → collected_at s.collected.items c ≡ taken_at d' c
  collected_is c = ap (λ z. get_or z c []) collected

  all_taken : (c : ℕ) → taken_at d' c ≡ sent_in w c
  all_taken c = elim (cases_lt c (length w.puts)) [
    | inl p ↦ collects.all c p
    | inr p ↦ get_or_past (map (λ (x : Drainer Cqe). items_of x) d') c [] (rw (length-map, drainers_same, drainers_there, ← rests.puts) p)
        ∙ sym (get_or_past (map (λ (q : PutView Cqe). q.sent) w.puts) c [] (rw length-map p))
  ]

  sent_u : (c : ℕ) → sent_in u c ≡ sent_in w c
  sent_u c = ap (λ z. get_or z c []) collects.front.sent

  got_u : (r : ℕ) → got_in u r ≡ got_in w r
  got_u r = ap (λ z. get_or z r []) collects.front.got

  pub collects_more : CollectsMore d s
  collects_more = record {
    count = sym (length-map s.collected.items (λ (x : Vec Cqe Global). x.items)) ∙ ap length collected ∙ length-map d' (λ (x : Drainer Cqe). items_of x) ∙ drainers_same;
    grew = λ c. subst (λ z. IsPrefix (taken_at d c) z) (sym (collected_is c)) (takes_prefix (sent_in w c) (taken_at d c) (taken_at d' c) (collects.takes.taken c));
  }

  module _ (fetches : (r : ℕ) → fetched (past_in u) r ≡ got_in u r) (posts : (c : ℕ) → posted_to (past_in u) c ≡ sent_in u c) where
    collected_all : (c : ℕ) → collected_at s.collected.items c ≡ posted_to (past_in u) c
    collected_all c = collected_is c ∙ all_taken c ∙ sym (sent_u c) ∙ sym (posts c)

    pub is_settled : IsSettled s
    is_settled =
        let done : IsClear (settled_past s) = subst IsClear (sym past_w) clear in
        record {
          all_posted = done.all_posted;
          none_waits = done.none_waits;
          none_pending = done.none_pending;
          open_fetched = λ r there.
              ap (λ (z : Past). fetched z r) past_u ∙ fetches r ∙ got_u r ∙ got_same v w f f' true rests feeders_there r
              ∙ got_all v w f f' true rests feeders_there refl r (served_open (past_in v) r (subst (λ (z : Past). is_open_region z r ≡ true) past_v there))
              ∙ sym (sent_is r);
          all_collected = λ c. collected_all c ∙ ap (λ (z : Past). posted_to z c) (sym past_u);
        }

    pub is_account : (0 < length u.gets → 0 < length u.puts → u.late ≡ false → AccountsForEnds u) → IsSettledAccount v s
    is_account accounts in_time x y =
        let all = IsSameFront-trans v w u rests.front collects.front in
        let gets = seen_length get_place get_place u.gets v.gets all.get_places in
        let puts = seen_length put_place put_place u.puts v.puts all.put_places in
        let a = accounts (rw gets x) (rw puts y) (all.late ∙ in_time) in
        let b : IsAccount u.rules (sent_at s.sent.items) (past_in u) (collected_at s.collected.items) =
        re_account u.rules (past_in u) (got_in u) (sent_at s.sent.items) (sent_in u) (collected_at s.collected.items) a.account
        (λ r. subst (λ z. IsPrefix z (sent_at s.sent.items r)) (sym (fetches r ∙ got_u r)) (subst (λ z. IsPrefix (got_in w r) z) (sym (sent_is r)) (got_first v w f f' true rests feeders_there r)))
        (λ c. subst (λ z. IsPrefix (collected_at s.collected.items c) z) (collected_all c) (IsPrefix-refl (collected_at s.collected.items c))) in
        subst (λ (z : FrontRules). IsAccount z (sent_at s.sent.items) (settled_past s) (collected_at s.collected.items)) all.rules
        (subst (λ (z : Past). IsAccount u.rules (sent_at s.sent.items) z (collected_at s.collected.items)) (sym past_u) b)

-- two lists that make an empty one are empty
both_empty : {X : Type 0} (xs ys : List X) → xs ++ ys ≡ [] → (xs ≡ []) × (ys ≡ [])
both_empty [] ys e = (refl, e)
both_empty (x ∷ xs) ys e = cc e

-- where nothing of a front is in hand and its pool was closed, each job was executed once, as the front before the looks says it
pub executes : (v u : FrontView) (past : Past) (workers : List WorkerView) → IsSameFront v u → past ≡ past_in u → AccountsForJobs u.rules.sizes (past_in u) u.hands → in_hand u.hands ≡ []
    → v.hands.came.handed ≡ [] → IsClosed u.hands.seat workers → All KeepsNone workers → ExecutesOnce v.rules.sizes past v.hands.seat workers
executes v u past workers same log account none before closed kept =
    let came : u.hands.came.handed ≡ [] = ap (λ (h : Hands). h.came.handed) same.hands ∙ before in
    let split : (u.hands.running ≡ []) × (u.hands.unhanded ≡ []) = both_empty u.hands.running u.hands.unhanded none in
    let once : ExecutesOnce u.rules.sizes (past_in u) u.hands.seat workers = executes_once u.rules.sizes (past_in u) u.hands workers account split.0 split.1 came closed kept in
    subst (λ (z : FrontRules). ExecutesOnce z.sizes past v.hands.seat workers) same.rules
    (subst (λ (z : Hands). ExecutesOnce u.rules.sizes past z.seat workers) same.hands
    (subst (λ (z : Past). ExecutesOnce u.rules.sizes z u.hands.seat workers) (sym log) once))

-- so each answered I/O command was executed once
pub answers_executed : (sizes : List ℕ) (past later : Past) (seat : SeatView) (workers : List WorkerView) → past ≡ later → AnswersHaveTickets later
    → ExecutesOnce sizes past seat workers → AnswersWereExecuted sizes past seat workers
answers_executed sizes past later seat workers same tickets once r i answered =
    let it = subst AnswersHaveTickets (sym same) tickets r i answered in
    (it.0, it.1, each-is_executed_once sizes past seat workers once it.0 (place_at r i) it.1)
