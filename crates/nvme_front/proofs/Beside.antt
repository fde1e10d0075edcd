-- A look at both ends of a ring changes what its ends know, and nothing else.
use Rattle.std.proofs.Common.{◌≡◌, ℕ, ◌<◌, ◌≤◌, List, [], map, length, set, get_or, refl, sym, ap, subst, ◌∙◌, arith, ◌++◌}
use Rattle.std.specs.Prelude.{slice_index_or, slice_set}
use Rattle.std.specs.List.{All}
use Rattle.std.specs.Vec.{with_item}
use Rattle.std.proofs.lemmas.List.{append-nil, map-set, get_or_default}
use Rattle.std.proofs.lemmas.List.Elements.{All-set}
use Rattle.std.proofs.lemmas.Simd.{map-map}
use Rattle.std.proofs.Math.Seq.{map-set_same}
use mathlib.Core.List.{IsPrefix}
use Rattle.nvme_entry.specs.declared.submission.Sqe.{Sqe}
use Rattle.nvme_entry.specs.declared.completion.Cqe.{Cqe}
use Rattle.nvme_lane.specs.View.{GetView, PutView, IsPair, SameGet, SamePut}
use Rattle.nvme_log.specs.Places.{fetched}
use Rattle.nvme_log.specs.Completions.{posted_to}
use Rattle.nvme_front.specs.declared.region.SqRegion.{SqRegion}
use Rattle.nvme_front.specs.declared.state.FrontState.{FrontState}
use Rattle.nvme_front.specs.inside.State.{gets_of, past_of, rules_of, view_of}
use Rattle.nvme_front.specs.inside.Room.{IsConsistent, IsRunning, IsFresh, IsFreshSq, IsCounted}
use Rattle.nvme_front.specs.inside.Goes.{Goes}
use Rattle.nvme_front.specs.Ends.{get_place, put_place}
use Rattle.nvme_front.proofs.Comes.{comes-same, comes-set, IsPrefix-onto}
use Rattle.nvme_front.proofs.States.{SameSeat-refl, look-read, places-set, put_places-set, rules-goes, sqs-goes, cqs-goes, admin-goes, roomy-goes}

-- a front with another end of a submission region, and of a completion region
abbrev pub looked_sq : FrontState → ℕ → SqRegion → GetView Sqe → FrontState
looked_sq s r d e = record s { sqs = with_item s.sqs r (record d { end = e }) }

abbrev pub looked_cq : FrontState → ℕ → PutView Cqe → FrontState
looked_cq s c e = record s { cqs = with_item s.cqs c e }

-- ---- what is kept
-- the same front, but for what the ends of its regions know
record IsKnowing (s t : FrontState) : Type 0 where
  log : t.log.items ≡ s.log.items
  engine : t.engine ≡ s.engine
  jobs : t.jobs ≡ s.jobs
  got : map (λ (g : GetView Sqe). g.got) (gets_of t.sqs.items) ≡ map (λ (g : GetView Sqe). g.got) (gets_of s.sqs.items)
  sent : map (λ (p : PutView Cqe). p.sent) t.cqs.items ≡ map (λ (p : PutView Cqe). p.sent) s.cqs.items
  counted : All IsCounted s.sqs.items → All IsCounted t.sqs.items
  fresh_sqs : All IsFreshSq s.sqs.items → All IsFreshSq t.sqs.items
  fresh_cqs : All (λ (p : PutView Cqe). p.sent ≡ []) s.cqs.items → All (λ (p : PutView Cqe). p.sent ≡ []) t.cqs.items

module _ (s t : FrontState) (g : Goes s t) (n : IsKnowing s t) where
  past_knowing : past_of t ≡ past_of s
  past_knowing = rw n.log refl

  runs_knowing : IsRunning s → IsRunning t
  runs_knowing k =
      let past = past_knowing in
      let rules : rules_of t ≡ rules_of s = rules-goes s t g in
      record {
        notes = k.notes;
        stands = rw (rules, g.late, n.engine) k.stands;
        past_is = k.past_is ∙ sym past;
        got = λ r. ap (λ p. fetched p r) past ∙ k.got r ∙ sym (ap (λ (xs : List (List Sqe)). get_or xs r []) n.got);
        sent = λ c. ap (λ p. posted_to p c) past ∙ k.sent c ∙ sym (ap (λ (xs : List (List Cqe)). get_or xs c []) n.sent);
        counted = n.counted k.counted;
        jobs = rw (g.config, past, n.jobs) k.jobs;
        tags = rw n.jobs k.tags;
      }

  fresh_knowing : IsFresh s → IsFresh t
  fresh_knowing k = record {
    log = n.log ∙ k.log;
    in_time = g.late ∙ k.in_time;
    sqs = n.fresh_sqs k.sqs;
    cqs = n.fresh_cqs k.cqs;
    jobs = rw n.jobs k.jobs;
    pool = rw (sqs-goes s t g, n.engine) k.pool;
    few_slots = rw n.engine k.few_slots;
  }

  kept-knowing : IsConsistent s → IsConsistent t
  kept-knowing k = record {
    fresh = λ none. fresh_knowing (k.fresh (λ admin. none (admin-goes s t g admin)));
    running = λ admin. runs_knowing (k.running (rw (sqs-goes s t g) at admin.0, rw (cqs-goes s t g) at admin.1));
    roomy = roomy-goes s t k.roomy g (rw (n.log, g.config) k.roomy.few_events);
  }

-- ---- submission regions
module _ (s : FrontState) (r : ℕ) (d : SqRegion) (e : GetView Sqe) (l : r < length s.sqs.items) (read : d ≡ get_or s.sqs.items r d) (got : e.got ≡ d.end.got) (more : IsPrefix d.end.known e.known) (same : SameGet d.end e) where
  place_same : get_place e ≡ get_place d.end
  place_same = λ t. (same.0 t, same.1 t, same.2 t)

  goes-sq : Goes s (looked_sq s r d e)
  goes-sq = record {
    grew = ([], append-nil s.log.items);
    config = refl;
    alloc = refl;
    late = refl;
    gets = places-set s.sqs.items r d (record d { end = e }) read place_same;
    puts = refl;
    comes = comes-set s.sqs.items r d (record d { end = e }) read (subst (λ (xs : List Sqe). IsPrefix (d.end.got ++ d.end.known) (xs ++ e.known)) (sym got) (IsPrefix-onto d.end.got d.end.known e.known more));
    came = refl;
    seat = SameSeat-refl _;
    handed = omega arith;
    gained = omega arith;
    room = refl;
  }

  got-set : map (λ (g : GetView Sqe). g.got) (gets_of (set s.sqs.items r (record d { end = e }))) ≡ map (λ (g : GetView Sqe). g.got) (gets_of s.sqs.items)
  got-set =
      map-map (λ (g : GetView Sqe). g.got) (λ (x : SqRegion). x.end) (set s.sqs.items r (record d { end = e }))
      ∙ map-set_same (λ (x : SqRegion). x.end.got) s.sqs.items r (record d { end = e }) d (got ∙ ap (λ (x : SqRegion). x.end.got) read)
      ∙ sym (map-map (λ (g : GetView Sqe). g.got) (λ (x : SqRegion). x.end) s.sqs.items)

  -- what holds of each region holds of the one that was read
  of_read : (P : SqRegion → Type 0) → All P s.sqs.items → P d
  of_read P h = subst P (sym read) (h r d l)

  knowing-sq : IsKnowing s (looked_sq s r d e)
  knowing-sq = record {
    log = refl;
    engine = refl;
    jobs = refl;
    got = got-set;
    sent = refl;
    counted = λ h. All-set IsCounted s.sqs.items r (record d { end = e }) (of_read IsCounted h ∙ ap length (sym got)) h;
    fresh_sqs = λ h.
        let it = of_read IsFreshSq h in
        All-set IsFreshSq s.sqs.items r (record d { end = e }) (record { nothing_got = got ∙ it.nothing_got; none_fetched = it.none_fetched }) h;
    fresh_cqs = λ h. h;
  }

  pub kept-sq : IsConsistent s → IsConsistent (looked_sq s r d e)
  kept-sq k = kept-knowing s (looked_sq s r d e) goes-sq knowing-sq k

  pub view-sq : (n : ℕ) → r ≡ n → view_of (looked_sq s r d e) ≡ record (view_of s) { gets = slice_set (gets_of s.sqs.items) n e }
  view-sq n same_n = rw (← same_n) (λ t. record (view_of s) { rules = rules-goes s (looked_sq s r d e) goes-sq t; gets = map-set (λ (x : SqRegion). x.end) s.sqs.items r (record d { end = e }) t })

  read-sq : (n : ℕ) → r ≡ n → (g : GetView Sqe) → slice_index_or (gets_of s.sqs.items) n g ≡ d.end
  read-sq n same_n g = rw (← same_n) (look-read (λ (x : SqRegion). x.end) g s.sqs.items r d l d read)

  pub got-sq : (n : ℕ) → r ≡ n → (g : GetView Sqe) → e.got ≡ (slice_index_or (gets_of s.sqs.items) n g).got
  got-sq n same_n g = got ∙ ap (λ (z : GetView Sqe). z.got) (sym (read-sq n same_n g))

  pub known-sq : (n : ℕ) → r ≡ n → (g : GetView Sqe) → IsPrefix (slice_index_or (gets_of s.sqs.items) n g).known e.known
  known-sq n same_n g = subst (λ (z : GetView Sqe). IsPrefix z.known e.known) (sym (read-sq n same_n g)) more

  pub place-sq : (n : ℕ) → r ≡ n → (g : GetView Sqe) → get_place e ≡ get_place (slice_index_or (gets_of s.sqs.items) n g)
  place-sq n same_n g = place_same ∙ ap get_place (sym (read-sq n same_n g))

-- ---- completion regions
module _ (s : FrontState) (c : ℕ) (d e : PutView Cqe) (l : c < length s.cqs.items) (read : d ≡ get_or s.cqs.items c d) (sent : e.sent ≡ d.sent) (same : SamePut d e) where
  put_same : put_place e ≡ put_place d
  put_same = λ t. (same.0 t, same.1 t, same.2 t)

  goes-cq : Goes s (looked_cq s c e)
  goes-cq = record {
    grew = ([], append-nil s.log.items);
    config = refl;
    alloc = refl;
    late = refl;
    gets = refl;
    puts = put_places-set s.cqs.items c d e read put_same;
    comes = comes-same s.sqs.items s.sqs.items refl;
    came = refl;
    seat = SameSeat-refl _;
    handed = omega arith;
    gained = omega arith;
    room = refl;
  }

  knowing-cq : IsKnowing s (looked_cq s c e)
  knowing-cq = record {
    log = refl;
    engine = refl;
    jobs = refl;
    got = refl;
    sent = map-set_same (λ (p : PutView Cqe). p.sent) s.cqs.items c e d (sent ∙ ap (λ (p : PutView Cqe). p.sent) read);
    counted = λ h. h;
    fresh_sqs = λ h. h;
    fresh_cqs = λ h.
        All-set (λ (p : PutView Cqe). p.sent ≡ []) s.cqs.items c e (sent ∙ subst (λ (p : PutView Cqe). p.sent ≡ []) (sym read) (h c d l)) h;
  }

  pub kept-cq : IsConsistent s → IsConsistent (looked_cq s c e)
  kept-cq k = kept-knowing s (looked_cq s c e) goes-cq knowing-cq k

  pub view-cq : (n : ℕ) → c ≡ n → view_of (looked_cq s c e) ≡ record (view_of s) { puts = slice_set s.cqs.items n e }
  view-cq n same_n = rw (← same_n) (λ t. record (view_of s) { rules = rules-goes s (looked_cq s c e) goes-cq t; puts = set s.cqs.items c e })

  read-cq : (n : ℕ) → c ≡ n → (p : PutView Cqe) → slice_index_or s.cqs.items n p ≡ d
  read-cq n same_n p = rw (← same_n) (get_or_default s.cqs.items c p d l ∙ sym read)

  pub sent-cq : (n : ℕ) → c ≡ n → (p : PutView Cqe) → e.sent ≡ (slice_index_or s.cqs.items n p).sent
  sent-cq n same_n p = sent ∙ ap (λ (z : PutView Cqe). z.sent) (sym (read-cq n same_n p))

  pub place-cq : (n : ℕ) → c ≡ n → (p : PutView Cqe) → put_place e ≡ put_place (slice_index_or s.cqs.items n p)
  place-cq n same_n p = put_same ∙ ap put_place (sym (read-cq n same_n p))

  pub free-cq : d.free ≤ e.free → (n : ℕ) → c ≡ n → (p : PutView Cqe) → (slice_index_or s.cqs.items n p).free ≤ e.free
  free-cq more n same_n p = subst (λ (z : PutView Cqe). z.free ≤ e.free) (sym (read-cq n same_n p)) more

-- a region that was read has the other end of its host's ring
pub pair-sq : (s : FrontState) (r : ℕ) (d : SqRegion) → r < length s.sqs.items → d ≡ get_or s.sqs.items r d → (n : ℕ) → r ≡ n → (p : PutView Sqe)
    → ((g : GetView Sqe) → IsPair p (slice_index_or (gets_of s.sqs.items) n g)) → IsPair p d.end
pair-sq s r d l read n same_n p h =
    subst (λ (z : GetView Sqe). IsPair p z) (look-read (λ (x : SqRegion). x.end) d.end s.sqs.items r d l d read) (rw (← same_n) at (h d.end))

pub pair-cq : (s : FrontState) (c : ℕ) (d : PutView Cqe) → c < length s.cqs.items → d ≡ get_or s.cqs.items c d → (n : ℕ) → c ≡ n → (g : GetView Cqe)
    → ((p : PutView Cqe) → IsPair (slice_index_or s.cqs.items n p) g) → IsPair d g
pair-cq s c d l read n same_n g h = subst (λ (z : PutView Cqe). IsPair z g) (sym read) (rw (← same_n) at (h d))
