-- What a front's lists say of what it keeps, from step to step.
use Rattle.std.proofs.Common.{◌≡◌, ℕ, ◌<◌, ◌≤◌, ◌==◌, List, [], ◌∷◌, ◌++◌, map, length, set, get_or, refl, sym, ap, subst, ◌∙◌, arith, inl, inr}
use Rattle.std.specs.Prelude.{reverse, if◌then◌else◌}
use Rattle.std.proofs.lemmas.List.{append-nil, length-map, map-set, get_or-map, get_or-set_same, get_or-set_other, reverse-append}
use Rattle.std.proofs.lemmas.Bool.Decides.{eqb_tells}
use Rattle.std.proofs.lemmas.Simd.{map-map}
use Rattle.std.proofs.Math.Seq.{map-set_same}
use Rattle.nvme_lane.proofs.Prefixes.{IsPrefix-trans}
use Rattle.nvme_lane.specs.View.{GetView, PutView, RingName}
use Rattle.nvme_entry.specs.declared.submission.Sqe.{Sqe}
use Rattle.nvme_entry.specs.declared.completion.Cqe.{Cqe}
use Rattle.nvme_admin.specs.History.{TableStep, RegionAdded, Submission, Completion}
use Rattle.nvme_log.specs.declared.event.Event.{Event}
use Rattle.nvme_log.specs.Rules.{Past}
use Rattle.nvme_log.specs.Places.{fetched}
use Rattle.nvme_log.specs.Completions.{posted_to}
use Rattle.nvme_pool.specs.Seat.{SeatView, SameSeat, rings_at}
use Rattle.nvme_slots.specs.Pool.{AreApart}
use Rattle.nvme_jobs.specs.Hands.{gained_count}
use Rattle.nvme_jobs.specs.inside.Jobs.{JobsView}
use Rattle.nvme_front.specs.declared.region.SqRegion.{SqRegion}
use Rattle.nvme_front.specs.declared.state.FrontState.{FrontState}
use Rattle.nvme_front.specs.Regions.{sq_steps, cq_steps}
use Rattle.nvme_front.specs.View.{FrontView, got_in, sent_in}
use Rattle.nvme_front.specs.inside.State.{gets_of, rules_of, past_of, view_of}
use Rattle.nvme_front.specs.inside.Room.{IsConsistent, IsRoomy, IsRunning, IsFresh, addresses_of}
use Rattle.nvme_front.specs.inside.Goes.{Goes, IsSame, HasAdmin, coming_at, coming_in}
use Rattle.nvme_front.specs.Ends.{get_place, put_place}
use Rattle.nvme_front.proofs.Comes.{comes-same}

-- ---- look-ups after a region was replaced
-- a list of what is seen of each item, after one was replaced
module _ {X Y : Type 0} (f : X → Y) (d : Y) (xs : List X) (k : ℕ) (x : X) where
  pub look-set : k < length xs → (n : ℕ) → get_or (map f (set xs k x)) n d ≡ (if n == k then f x else get_or (map f xs) n d)
  look-set h n = elim (eqb_tells n k) [
    | inl p ↦ rw p.0 (ap (λ (z : ℕ). get_or (map f (set xs k x)) z d) p.1 ∙ ap (λ (z : List Y). get_or z k d) (map-set f xs k x)
        ∙ get_or-set_same (map f xs) k (f x) d (rw length-map h))
    | inr p ↦ rw p.0 (ap (λ (z : List Y). get_or z n d) (map-set f xs k x) ∙ get_or-set_other (map f xs) k n (f x) d p.1)
  ]

  -- an item that was read, by the value read
  pub look-read : k < length xs → (y : X) → y ≡ get_or xs k y → get_or (map f xs) k d ≡ f y
  look-read h y read = get_or-map f xs k y d h ∙ ap f (sym read)

-- ---- the log backwards

pub past-push : (xs : List Event) (e : Event) → reverse (xs ++ e ∷ []) ≡ e ∷ reverse xs
past-push xs e = reverse-append xs (e ∷ [])

-- an event that was appended after room was made
pub noted : (old room new : List Event) (e : Event) → room ≡ old → new ≡ room ++ e ∷ [] → new ≡ old ++ e ∷ []
noted old room new e same grew = grew ∙ ap (λ (xs : List Event). xs ++ e ∷ []) same

-- ---- the same front later on
pub SameSeat-refl : (s : SeatView) → SameSeat s s
SameSeat-refl s = record { lane = refl; parts = refl; rings = refl }

pub Goes-refl : (s : FrontState) → Goes s s
Goes-refl s = record { grew = ([], append-nil s.log.items); config = refl; alloc = refl; late = refl; gets = refl; puts = refl; comes = comes-same s.sqs.items s.sqs.items refl; came = refl; seat = SameSeat-refl s.jobs.hands.seat; handed = omega arith; gained = omega arith; room = refl }

pub Goes-trans : (a b c : FrontState) → Goes a b → Goes b c → Goes a c
Goes-trans a b c g h = record {
  grew = IsPrefix-trans a.log.items b.log.items c.log.items g.grew h.grew;
  config = h.config ∙ g.config;
  alloc = h.alloc ∙ g.alloc;
  late = h.late ∙ g.late;
  gets = h.gets ∙ g.gets;
  puts = h.puts ∙ g.puts;
  comes = λ r. IsPrefix-trans (coming_in a.sqs.items r) (coming_in b.sqs.items r) (coming_in c.sqs.items r) (g.comes r) (h.comes r);
  came = h.came ∙ g.came;
  seat = record { lane = h.seat.lane ∙ g.seat.lane; parts = h.seat.parts ∙ g.seat.parts; rings = h.seat.rings ∙ g.seat.rings };
  handed = omega (arith, g.handed, h.handed);
  gained = omega (arith, g.gained, h.gained);
  room = h.room ∙ g.room;
}

pub Goes-same : (a b : FrontState) → IsSame a b → Goes a b
Goes-same a b s = record {
  grew = ([], append-nil a.log.items ∙ sym s.log);
  config = s.config;
  alloc = s.alloc;
  late = s.late;
  gets = ap (λ (x : List SqRegion). map get_place (gets_of x)) s.sqs;
  puts = ap (λ (x : List (PutView Cqe)). map put_place x) s.cqs;
  comes = comes-same a.sqs.items b.sqs.items (ap (map coming_at) s.sqs);
  came = ap (λ (j : JobsView). j.hands.came) s.jobs;
  seat = record {
    lane = ap (λ (j : JobsView). j.hands.seat.lane) s.jobs;
    parts = ap (λ (j : JobsView). j.hands.seat.parts) s.jobs;
    rings = ap (λ (j : JobsView). rings_at j.hands.seat.ends) s.jobs;
  };
  handed = omega (arith, ap (λ (j : JobsView). length j.hands.seat.handed) s.jobs);
  gained = omega (arith, ap (λ (j : JobsView). gained_count j.hands) s.jobs);
  room = ap (λ (j : JobsView). j.room) s.jobs;
}

-- a step that leaves the jobs and the config, and whose ends are of the same rings
pub Goes-log : (a b : FrontState) → (extra : List Event) → b.log.items ≡ a.log.items ++ extra → b.config ≡ a.config → b.alloc ≡ a.alloc → b.late ≡ a.late
    → b.sqs.items ≡ a.sqs.items → b.cqs.items ≡ a.cqs.items → b.jobs ≡ a.jobs → Goes a b
Goes-log a b extra log config alloc late sqs cqs jobs = record {
  grew = (extra, sym log);
  config = config;
  alloc = alloc;
  late = late;
  gets = ap (λ (x : List SqRegion). map get_place (gets_of x)) sqs;
  puts = ap (λ (x : List (PutView Cqe)). map put_place x) cqs;
  comes = comes-same a.sqs.items b.sqs.items (ap (map coming_at) sqs);
  came = ap (λ (j : JobsView). j.hands.came) jobs;
  seat = record {
    lane = ap (λ (j : JobsView). j.hands.seat.lane) jobs;
    parts = ap (λ (j : JobsView). j.hands.seat.parts) jobs;
    rings = ap (λ (j : JobsView). rings_at j.hands.seat.ends) jobs;
  };
  handed = omega (arith, ap (λ (j : JobsView). length j.hands.seat.handed) jobs);
  gained = omega (arith, ap (λ (j : JobsView). gained_count j.hands) jobs);
  room = ap (λ (j : JobsView). j.room) jobs;
}

pub IsSame-refl : (s : FrontState) → IsSame s s
IsSame-refl s = record { log = refl; sqs = refl; cqs = refl; engine = refl; jobs = refl; late = refl; config = refl; alloc = refl }

pub IsSame-sym : (a b : FrontState) → IsSame a b → IsSame b a
IsSame-sym a b g = record { log = sym g.log; sqs = sym g.sqs; cqs = sym g.cqs; engine = sym g.engine; jobs = sym g.jobs; late = sym g.late; config = sym g.config; alloc = sym g.alloc }

pub IsSame-trans : (a b c : FrontState) → IsSame a b → IsSame b c → IsSame a c
IsSame-trans a b c g h = record {
  log = h.log ∙ g.log;
  sqs = h.sqs ∙ g.sqs;
  cqs = h.cqs ∙ g.cqs;
  engine = h.engine ∙ g.engine;
  jobs = h.jobs ∙ g.jobs;
  late = h.late ∙ g.late;
  config = h.config ∙ g.config;
  alloc = h.alloc ∙ g.alloc;
}

-- the places of the ends, after a region was replaced by one with the same
pub places-set : (sqs : List SqRegion) (r : ℕ) (d g : SqRegion) → d ≡ get_or sqs r d → get_place g.end ≡ get_place d.end
    → map get_place (gets_of (set sqs r g)) ≡ map get_place (gets_of sqs)
places-set sqs r d g read same =
    map-map get_place (λ (s : SqRegion). s.end) (set sqs r g)
    ∙ map-set_same (λ (s : SqRegion). get_place s.end) sqs r g d (same ∙ ap (λ (s : SqRegion). get_place s.end) read)
    ∙ sym (map-map get_place (λ (s : SqRegion). s.end) sqs)

pub put_places-set : (cqs : List (PutView Cqe)) (c : ℕ) (d g : PutView Cqe) → d ≡ get_or cqs c d → put_place g ≡ put_place d → map put_place (set cqs c g) ≡ map put_place cqs
put_places-set cqs c d g read same = map-set_same put_place cqs c g d (same ∙ ap put_place read)

-- ---- the rules, the numbers of regions, and the room
abbrev steps_by : (p : RingName × ℕ × ℕ) → TableStep
steps_by p = RegionAdded Submission p.1 p.2

abbrev cq_steps_by : (p : RingName × ℕ × ℕ) → TableStep
cq_steps_by p = RegionAdded Completion p.1 p.2

sq_steps-places : (gets : List (GetView Sqe)) → sq_steps gets ≡ reverse (map steps_by (map get_place gets))
sq_steps-places gets = ap reverse (sym (map-map steps_by get_place gets))

cq_steps-places : (puts : List (PutView Cqe)) → cq_steps puts ≡ reverse (map cq_steps_by (map put_place puts))
cq_steps-places puts = ap reverse (sym (map-map cq_steps_by put_place puts))

pub rules-goes : (a b : FrontState) → Goes a b → rules_of b ≡ rules_of a
rules-goes a b g =
    let sq : sq_steps (gets_of b.sqs.items) ≡ sq_steps (gets_of a.sqs.items) =
    sq_steps-places (gets_of b.sqs.items) ∙ ap (λ (z : List (RingName × ℕ × ℕ)). reverse (map steps_by z)) g.gets ∙ sym (sq_steps-places (gets_of a.sqs.items)) in
    let cq : cq_steps b.cqs.items ≡ cq_steps a.cqs.items =
    cq_steps-places b.cqs.items ∙ ap (λ (z : List (RingName × ℕ × ℕ)). reverse (map cq_steps_by z)) g.puts ∙ sym (cq_steps-places a.cqs.items) in
    λ t. record {
      mechanism = (g.config t).mechanism;
      start = record { nsq = (g.config t).limits.nsq; ncq = (g.config t).limits.ncq; settings = (g.config t).settings };
      sizes = (g.config t).spaces;
      regions = cq t ++ sq t;
    }

length-places : {X Y : Type 0} (f : X → Y) (a b : List X) → map f b ≡ map f a → length b ≡ length a
length-places f a b e = sym (length-map b f) ∙ ap length e ∙ length-map a f

pub sqs-goes : (a b : FrontState) → Goes a b → length b.sqs.items ≡ length a.sqs.items
sqs-goes a b g =
    sym (length-map b.sqs.items (λ (s : SqRegion). s.end)) ∙ length-places get_place (gets_of a.sqs.items) (gets_of b.sqs.items) g.gets ∙ length-map a.sqs.items (λ (s : SqRegion). s.end)

pub cqs-goes : (a b : FrontState) → Goes a b → length b.cqs.items ≡ length a.cqs.items
cqs-goes a b g = length-places put_place a.cqs.items b.cqs.items g.puts

pub admin-goes : (a b : FrontState) → Goes a b → HasAdmin a → HasAdmin b
admin-goes a b g h = (rw (sqs-goes a b g) h.0, rw (cqs-goes a b g) h.1)

-- the addresses, by the places of the ends
abbrev address_at : (p : RingName × ℕ × ℕ) → ℕ
address_at p = p.1

sq_addresses : (sqs : List SqRegion) → map (λ (sq : SqRegion). sq.end.address) sqs ≡ map address_at (map get_place (gets_of sqs))
sq_addresses sqs =
    sym (map-map address_at (λ (sq : SqRegion). get_place sq.end) sqs)
    ∙ ap (map address_at) (sym (map-map get_place (λ (s : SqRegion). s.end) sqs))

cq_addresses : (cqs : List (PutView Cqe)) → map (λ (p : PutView Cqe). p.address) cqs ≡ map address_at (map put_place cqs)
cq_addresses cqs = sym (map-map address_at put_place cqs)

pub addresses-goes : (a b : FrontState) → Goes a b → addresses_of b ≡ addresses_of a
addresses-goes a b g =
    let sq : map (λ (sq : SqRegion). sq.end.address) b.sqs.items ≡ map (λ (sq : SqRegion). sq.end.address) a.sqs.items =
    sq_addresses b.sqs.items ∙ ap (map address_at) g.gets ∙ sym (sq_addresses a.sqs.items) in
    let cq : map (λ (p : PutView Cqe). p.address) b.cqs.items ≡ map (λ (p : PutView Cqe). p.address) a.cqs.items =
    cq_addresses b.cqs.items ∙ ap (map address_at) g.puts ∙ sym (cq_addresses a.cqs.items) in
    λ t. sq t ++ cq t

-- a log that begins an empty one
left_empty : (xs ys : List Event) → xs ++ ys ≡ [] → xs ≡ []
left_empty [] ys e = refl
left_empty (x ∷ xs) ys e = absurd (cc e)

-- where the regions stay, there is room as before
pub roomy-goes : (a b : FrontState) → IsRoomy a → Goes a b → length b.log.items ≤ b.config.max_events → IsRoomy b
roomy-goes a b r g few = record {
  jobs = λ some. g.room ∙ r.jobs (omega (arith, some, sqs-goes a b g));
  few_events = few;
  in_time = λ none. g.late ∙ r.in_time (left_empty a.log.items g.grew.0 (g.grew.1 ∙ none));
  few_sqs = rw (sqs-goes a b g) r.few_sqs;
  few_cqs = rw (cqs-goes a b g) r.few_cqs;
  apart = subst AreApart (sym (addresses-goes a b g)) r.apart;
}

-- ---- what is kept
-- what a front with both admin regions runs at is kept
pub kept_after : (a b : FrontState) → HasAdmin a → IsRoomy a → Goes a b → length b.log.items ≤ b.config.max_events → IsRunning b → IsConsistent b
kept_after a b admin roomy g few runs = record {
  fresh = λ no. absurd (no (admin-goes a b g admin));
  running = λ _. runs;
  roomy = roomy-goes a b roomy g few;
}

-- what a contract sees where nothing changed
pub same_view : (a b : FrontState) → IsSame a b → view_of b ≡ view_of a
same_view a b s =
    let rules : rules_of b ≡ rules_of a = rules-goes a b (Goes-same a b s) in
    λ t. record {
      rules = rules t;
      limit = (s.config t).max_events;
      late = s.late t;
      log = s.log t;
      gets = gets_of (s.sqs t);
      puts = s.cqs t;
      hands = (s.jobs t).hands;
    }

-- where the log, the ends and the rules are as they were, an engine and jobs that stand there run
pub running_same : (a b : FrontState) → IsSame a b → IsRunning a → IsRunning b
running_same a b s k =
    let rules : rules_of b ≡ rules_of a = rules-goes a b (Goes-same a b s) in
    let past : past_of b ≡ past_of a = ap reverse s.log in
    let view : view_of b ≡ view_of a = same_view a b s in
    record {
      notes = k.notes;
      stands = rw (rules, s.late, s.engine) k.stands;
      past_is = k.past_is ∙ sym past;
      got = λ r. ap (λ (p : Past). fetched p r) past ∙ k.got r ∙ sym (ap (λ (v : FrontView). got_in v r) view);
      sent = λ c. ap (λ (p : Past). posted_to p c) past ∙ k.sent c ∙ sym (ap (λ (v : FrontView). sent_in v c) view);
      counted = rw s.sqs k.counted;
      jobs = rw (s.config, past, s.jobs) k.jobs;
      tags = rw s.jobs k.tags;
    }

fresh_same : (a b : FrontState) → IsSame a b → IsFresh a → IsFresh b
fresh_same a b s k = record {
  log = s.log ∙ k.log;
  in_time = s.late ∙ k.in_time;
  sqs = rw s.sqs k.sqs;
  cqs = rw s.cqs k.cqs;
  jobs = rw s.jobs k.jobs;
  pool = rw (s.sqs, s.engine) k.pool;
  few_slots = rw s.engine k.few_slots;
}

-- nothing changed but the room of the log
pub kept_same : (a b : FrontState) → IsSame a b → IsConsistent a → IsConsistent b
kept_same a b s k =
    let g = Goes-same a b s in
    record {
      fresh = λ no. fresh_same a b s (k.fresh (λ admin. no (admin-goes a b g admin)));
      running = λ admin. running_same a b s (k.running (admin-goes b a (Goes-same b a (IsSame-sym a b s)) admin));
      roomy = roomy-goes a b k.roomy g (rw (s.log, s.config) k.roomy.few_events);
    }
