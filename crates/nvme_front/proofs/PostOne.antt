-- What the post of a completion asks of the regions, and what it leaves.
use Rattle.std.proofs.Common.{◌≡◌, ◌≢◌, ℕ, ◌+◌, ◌<◌, ◌≤◌, ◌==◌, ◌&&◌, ◌||◌, Bool, true, false, List, [], ◌∷◌, ◌++◌, length, map, set, get_or, Option, Some, None, refl, sym, ap, ◌∙◌, subst, arith, inl, inr}
use Rattle.std.specs.Prelude.{if◌then◌else◌, reverse, Result, Ok, Err, OnOk, IsSome}
use Rattle.std.proofs.lemmas.Bool.{cases_eq, eq-eqb, ne_eqb}
use Rattle.std.proofs.lemmas.List.{length-append, set-get_or, length_push}
use Rattle.nvme_entry.specs.declared.completion.Cqe.{Cqe}
use Rattle.nvme_lane.specs.View.{PutView, SamePut}
use Rattle.nvme_log.specs.declared.event.Event.{Event}
use Rattle.nvme_log.specs.declared.event.Event.TheVariants.{Post}
use Rattle.nvme_log.specs.declared.place.Place.{Place}
use Rattle.nvme_log.specs.Completions.{is_posted, posted_to}
use Rattle.nvme_log.specs.Account.{deleting_place}
use Rattle.nvme_log.specs.Aborts.{is_index}
use Rattle.nvme_log.specs.Places.{fetched, is_served}
use Rattle.nvme_log.specs.Queues.{open_cq, cq_region_of}
use Rattle.nvme_log.specs.Rules.{Past, cq_regions_of, slots_at}
use Rattle.nvme_log.proofs.WithoutPosts.{open_cq-posts}
use Rattle.nvme_ctrl_log.specs.Notes.{Notes, Logged, Head, logged}
use Rattle.nvme_ctrl.proofs.OpenRegions.{open_cq_is_few}
use Rattle.nvme_engine.specs.Calls.{HasPosted}
use Rattle.nvme_engine.specs.Standing.{StandsAt, IsEngine}
use Rattle.nvme_jobs.specs.Hands.{is_in_hand}
use Rattle.nvme_jobs.specs.inside.Jobs.{JobsView}
use Rattle.nvme_jobs.specs.inside.Standing.{HoldsJobs}
use Rattle.nvme_jobs.proofs.Leaving.{jobs-other}
use Rattle.nvme_front.specs.declared.region.SqRegion.{SqRegion}
use Rattle.nvme_front.specs.declared.state.FrontState.{FrontState}
use Rattle.nvme_front.specs.Ends.{get_place, put_place}
use Rattle.nvme_front.specs.View.{IsReadyPlace, sent_in, free_in}
use Rattle.nvme_front.specs.inside.State.{gets_of, rules_of, past_of, view_of}
use Rattle.nvme_front.specs.inside.Room.{IsConsistent, IsRunning}
use Rattle.nvme_front.specs.inside.Goes.{Goes, IsSame, HasAdmin, IsDrained, coming_at}
use Rattle.nvme_front.specs.inside.Loads.{PostsOnly}
use Rattle.nvme_front.proofs.Comes.{comes-same}
use Rattle.nvme_front.proofs.RegionLists.{number_of_cq, slots_of_cq}
use Rattle.nvme_front.proofs.States.{look-set, look-read, past-push, put_places-set, kept_after, rules-goes, SameSeat-refl}
use Rattle.nvme_front.proofs.TagSteps.{tags_kept, outs_posted}

-- nothing changed but the room of the log, where the completion regions are as they were
pub room_alone : (s t : FrontState) → t ≡ record s { cqs = t.cqs; log = t.log } → t.log.items ≡ s.log.items → t.cqs.items ≡ s.cqs.items → IsSame s t
room_alone s t only log cqs = record {
  log = log;
  sqs = ap (λ (x : FrontState). x.sqs.items) only;
  cqs = cqs;
  engine = ap (λ (x : FrontState). x.engine) only;
  jobs = ap (λ (x : FrontState). x.jobs) only;
  late = ap (λ (x : FrontState). x.late) only;
  config = ap (λ (x : FrontState). x.config) only;
  alloc = ap (λ (x : FrontState). x.alloc) only;
}

-- ---- an open completion queue
-- a front that runs has an engine
pub engine_stands : (s : FrontState) → IsRunning s → IsEngine s.engine
engine_stands s k = record { rules = rules_of s; late = s.late; notes = k.notes; rest = []; stands = k.stands }

module _ (s : FrontState) (k : IsRunning s) (cqid c : ℕ) (is_open : open_cq (past_of s) cqid ≡ Some c) where
  -- it is open for the engine
  pub open_there : open_cq (logged k.notes) cqid ≡ Some c
  open_there = ap (λ (p : Past). open_cq p cqid) k.past_is ∙ is_open

  -- its region is there
  pub open_region : c < length s.cqs.items
  open_region =
      let few = open_cq_is_few k.stands.their k.stands.their_late k.notes s.engine.controller s.engine.slots.items k.stands.stands cqid c open_there in
      omega (arith, few.1, ap (λ (rs : List _). length rs) k.stands.alike.cqs, number_of_cq s)

  -- with the slots that its end has
  pub open_slots : (d : PutView Cqe) → d ≡ get_or s.cqs.items c d → slots_at (cq_regions_of (rules_of s)) c ≡ d.slots
  open_slots d read = slots_of_cq s c ∙ look-read (λ (p : PutView Cqe). p.slots) 0 s.cqs.items c d open_region d read

-- ---- a region that was read
-- what is known to be free in it
pub free_read : (s : FrontState) (c : ℕ) (d : PutView Cqe) → c < length s.cqs.items → d ≡ get_or s.cqs.items c d → free_in (view_of s) c ≡ d.free
free_read s c d there read = look-read (λ (p : PutView Cqe). p.free) 0 s.cqs.items c d there d read

-- one that was put back as it was read
pub put_back : (cqs : List (PutView Cqe)) (c : ℕ) (d g : PutView Cqe) → d ≡ get_or cqs c d → g ≡ d → set cqs c g ≡ cqs
put_back cqs c d g read same = ap (set cqs c) (same ∙ read) ∙ set-get_or cqs c d

-- ---- a front after a post
-- from one before it: d is the completion region that was read, and g the region afterwards
pub record IsPosted (a b : FrontState) (k : IsRunning a) (c : ℕ) (cqe : Cqe) (p : Place) : Type 0 where
  pub d : PutView Cqe
  pub g : PutView Cqe
  pub there : c < length a.cqs.items
  pub read : d ≡ get_or a.cqs.items c d
  pub ring : SamePut d g
  pub sent : g.sent ≡ d.sent ++ cqe ∷ []
  pub posted : HasPosted (rules_of a) a.late k.notes c cqe p b.engine
  pub sqs : b.sqs.items ≡ a.sqs.items
  pub cqs : b.cqs.items ≡ set a.cqs.items c g
  pub log : b.log.items ≡ a.log.items ++ Post c p.region p.index cqe ∷ []
  pub room : length a.log.items + 1 ≤ a.config.max_events
  pub jobs : b.jobs ≡ a.jobs
  pub late : b.late ≡ a.late
  pub config : b.config ≡ a.config
  pub alloc : b.alloc ≡ a.alloc

module _ (a b : FrontState) (k : IsRunning a) (c : ℕ) (cqe : Cqe) (p : Place) (h : IsPosted a b k c cqe p) where
  -- the log backwards
  pub posted-past : past_of b ≡ Post c p.region p.index cqe ∷ past_of a
  posted-past = ap (λ (xs : List Event). reverse xs) h.log ∙ past-push a.log.items (Post c p.region p.index cqe)

  -- it is the same front
  pub posted-goes : Goes a b
  posted-goes = record {
    grew = (Post c p.region p.index cqe ∷ [], sym h.log);
    config = h.config;
    alloc = h.alloc;
    late = h.late;
    gets = ap (λ (x : List SqRegion). map get_place (gets_of x)) h.sqs;
    puts = ap (map put_place) h.cqs ∙ put_places-set a.cqs.items c h.d h.g h.read (λ i. (h.ring.0 i, h.ring.1 i, h.ring.2 i));
    comes = comes-same a.sqs.items b.sqs.items (ap (map coming_at) h.sqs);
    came = ap (λ (j : JobsView). j.hands.came) h.jobs;
    seat = rw h.jobs (SameSeat-refl a.jobs.hands.seat);
    handed = rw h.jobs (omega arith);
    gained = rw h.jobs (omega arith);
    room = ap (λ (j : JobsView). j.room) h.jobs;
  }

  -- what was put in each completion region
  sent_is : (x : ℕ) → posted_to (Post c p.region p.index cqe ∷ past_of a) x ≡ sent_in (view_of b) x
  sent_is x = elim (cases_eq c x) [
    | inl same ↦ subst (λ (y : ℕ). posted_to (Post c p.region p.index cqe ∷ past_of a) y ≡ sent_in (view_of b) y) same (
        let now : sent_in (view_of b) c ≡ h.g.sent = at c ∙ rw (eq-eqb c c refl) refl in
        let was : sent_in (view_of a) c ≡ h.d.sent = look-read (λ (q : PutView Cqe). q.sent) [] a.cqs.items c h.d h.there h.d h.read in
        rw (eq-eqb c c refl) (ap (λ (xs : List Cqe). xs ++ cqe ∷ []) (k.sent c ∙ was) ∙ sym h.sent ∙ sym now))
    | inr other ↦
        let now : sent_in (view_of b) x ≡ sent_in (view_of a) x = at x ∙ rw (ne_eqb x c (λ e. other (sym e))) refl in
        rw (ne_eqb c x other) (k.sent x ∙ sym now)
  ] where
    at : (y : ℕ) → sent_in (view_of b) y ≡ (if y == c then h.g.sent else sent_in (view_of a) y)
    at y = ap (λ (ps : List (PutView Cqe)). get_or (map (λ (q : PutView Cqe). q.sent) ps) y []) h.cqs ∙ look-set (λ (q : PutView Cqe). q.sent) [] a.cqs.items c h.g h.there y

  -- its engine stands at its log
  pub posted-runs : IsRunning b
  posted-runs =
      let rules : rules_of b ≡ rules_of a = rules-goes a b posted-goes in
      let spaces : b.config.spaces ≡ a.config.spaces = ap (λ z. z.spaces) h.config in
      let notes : Notes = Head c h.posted.slot ∷ Logged (Post c p.region p.index cqe) ∷ k.notes in
      let stands : StandsAt (rules_of a) a.late notes b.engine = h.posted.stands in
      let jobs : HoldsJobs a.config.spaces (Post c p.region p.index cqe ∷ past_of a) a.jobs = jobs-other a.config.spaces (past_of a) (Post c p.region p.index cqe) a.jobs tt k.jobs in
      record {
        notes = notes;
        stands = rw (rules, h.late) stands;
        past_is = ap (λ (q : Past). Post c p.region p.index cqe ∷ q) k.past_is ∙ sym posted-past;
        got = λ r. ap (λ (q : Past). fetched q r) posted-past ∙ k.got r ∙ ap (λ (sqs : List SqRegion). get_or (map (λ g. g.got) (gets_of sqs)) r []) (sym h.sqs);
        sent = λ x. ap (λ (q : Past). posted_to q x) posted-past ∙ sent_is x;
        counted = rw h.sqs k.counted;
        jobs = rw (spaces, posted-past, h.jobs) jobs;
        tags = rw h.jobs (tags_kept k.notes notes a.jobs a.jobs
            (outs_posted (rules_of a) a.late k.notes a.engine k.stands c h.posted.slot p.region p.index cqe h.posted.through) refl k.tags);
      }

  -- and it is kept
  pub posted-kept : IsConsistent a → HasAdmin a → IsConsistent b
  posted-kept kept admin =
      let long : length b.log.items ≡ length a.log.items + 1 = ap (λ (xs : List Event). length xs) h.log ∙ length_push a.log.items (Post c p.region p.index cqe) in
      let few : length b.log.items ≤ b.config.max_events = rw h.config (let room = h.room in omega (arith, long, room)) in
      kept_after a b admin kept.roomy posted-goes few posted-runs

  -- a ready place was ready before
  was_ready : (r i : ℕ) → IsReadyPlace (view_of b) r i → IsReadyPlace (view_of a) r i
  was_ready r i ready = record {
    served = ap (λ (q : Past). is_served q r i) (sym posted-past) ∙ ready.served;
    unposted = later (p.region == r && p.index == i) (is_posted (past_of a) r i) (ap (λ (q : Past). is_posted q r i) (sym posted-past) ∙ ready.unposted);
    has_result = ap (λ (j : JobsView). is_in_hand j.hands r i) (sym h.jobs) ∙ ready.has_result;
    not_deleting = ap (λ (q : Past). r == 0 && is_index i (deleting_place q)) (sym posted-past) ∙ ready.not_deleting;
  } where
    later : (x y : Bool) → (x || y) ≡ false → y ≡ false
    later true y e = cc e
    later false y e = e

  -- the other completion regions stay drained
  pub others_drained : (x : ℕ) → x ≢ c → IsDrained a x → IsDrained b x
  others_drained x other drained = λ r i ready region.
      let free : free_in (view_of b) x ≡ free_in (view_of a) x =
      ap (λ (ps : List (PutView Cqe)). get_or (map (λ (q : PutView Cqe). q.free) ps) x 0) h.cqs
      ∙ look-set (λ (q : PutView Cqe). q.free) 0 a.cqs.items c h.g h.there x ∙ rw (ne_eqb x c other) refl in
      free ∙ drained r i (was_ready r i ready) (ap (λ (q : Past). cq_region_of q r) (sym posted-past) ∙ region)

-- ---- from step to step
-- the log doesn't get shorter
pub goes-longer : (a b : FrontState) → Goes a b → length a.log.items ≤ length b.log.items
goes-longer a b g = let long = ap (λ (xs : List Event). length xs) g.grew.1 in omega (arith, length-append a.log.items g.grew.0, long)

-- posts alone, and then posts alone
pub posts-over : (a b c : FrontState) → PostsOnly a b → PostsOnly b c → PostsOnly a c
posts-over a b c first next = record { gets = next.gets ∙ first.gets; log = next.log ∙ first.log }

-- posts leave the completion queues open that are
pub open_stays : (a b : FrontState) → PostsOnly a b → (q : ℕ) → open_cq (past_of b) q ≡ open_cq (past_of a) q
open_stays a b posts q = sym (open_cq-posts (past_of b) q) ∙ ap (λ (p : Past). open_cq p q) posts.log ∙ open_cq-posts (past_of a) q

-- what holds anyway holds on success
pub on_ok : {T E P : Type 0} (r : Result T E) → P → OnOk r P
on_ok (Ok value) it = it
on_ok (Err error) it = tt

-- a place that is there isn't missing
pub not_missing : (o : Option Place) → IsSome o → o ≡ None → ⊥
not_missing None some none = cc some
not_missing (Some p) some none = cc none
