-- A command is fetched: its doorbell was rung, it was fetched, and its index is kept with it.
use Rattle.std.proofs.Common.{◌≡◌, ◌⊎◌, ℕ, zero, suc, ◌+◌, ◌-◌, ◌<◌, ◌≤◌, ◌%◌, ◌==◌, ◌&&◌, Bool, true, false, if◌then◌else◌, List, [], ◌∷◌, ◌++◌, length, Some, None, refl, sym, ap, ◌∙◌, subst, arith, inl, inr}
use Rattle.std.specs.Prelude.{slice_get, get_or}
use Rattle.std.proofs.Math.Nat.{min-le_left, min-le_right}
use Rattle.std.proofs.lemmas.Bool.{cases_eq, cases_lt, eq-eqb, eqb-true, ne_eqb, and_parts, and_from}
use Rattle.std.proofs.lemmas.List.{length_push, get_or-replicate}
use Rattle.std.proofs.lemmas.Nat.{mod_below}
use Rattle.std.proofs.lemmas.Option.{same_Some}
use Rattle.nvme_entry.specs.declared.submission.Sqe.{Sqe}
use Rattle.nvme_arbiter.specs.Limits.{highest_count}
use Rattle.nvme_admin.specs.declared.bounds.TheConstants.{MAX_REGIONS}
use Rattle.nvme_admin.specs.declared.region.Region.{Region}
use Rattle.nvme_log.specs.declared.event.Event.TheVariants.{Fetch}
use Rattle.nvme_log.specs.Limits.{window_of}
use Rattle.nvme_log.specs.Rules.{FrontRules, sq_regions_of, slots_at}
use Rattle.nvme_log.specs.Queues.{Queue, is_closed_region}
use Rattle.nvme_log.specs.Places.{fetched, waiting, entry_at}
use Rattle.nvme_log.specs.Completions.{unposted_of}
use Rattle.nvme_log.proofs.Waiting.{fetched-fetch, fetched-fetch_other}
use Rattle.nvme_ctrl_log.specs.Notes.{Notes, Logged, Tail, Kept, logged}
use Rattle.nvme_ctrl_log.specs.Doorbells.{gap, sq_slots, submitted}
use Rattle.nvme_ctrl_log.specs.Tags.{answer_of, cookie_of, all_fetches, all_posts}
use Rattle.nvme_ctrl_log.specs.Calls as calls_in_log
use Rattle.nvme_ctrl.specs.Calls as calls
use Rattle.nvme_ctrl_log.specs.Laws.{NoneDeleting}
use Rattle.nvme_ctrl.specs.Standing.{Stands}
use Rattle.nvme_ctrl.specs.declared.state.Controller.{Controller}
use Rattle.nvme_ctrl_content.proofs.FewUnposted.{few_unposted}
use Rattle.nvme_ctrl.proofs.HeldSlots.{few_hold_slots, not_deleted}
use Rattle.nvme_ctrl_content.proofs.OpenQueues.{open_region, not_closed_region}
use Rattle.nvme_ctrl_log.proofs.Sums.{sum_below}
use Rattle.nvme_engine.specs.Calls.{MayFetch, HasFetched}
use Rattle.nvme_engine.specs.Standing.{StandsAt, HasPlaces, AnswersByOutcome, pool_size, queue_depth}
use Rattle.nvme_engine.specs.declared.engine.Engine.{Engine}
use Rattle.nvme_engine.proofs.Endings.{few_wait}
use Rattle.nvme_engine.proofs.Calls.{Leaves, same_few, same_pool}
use Rattle.nvme_engine.proofs.Places.{places_fetched}
use Rattle.nvme_engine.proofs.OneDeletion.{none_deleting}
use Rattle.nvme_engine.proofs.Turn.{gap-one}

-- an item of a list with one more is that of the list, where the list has it
get-before : {T : Type 0} (xs : List T) (y x : T) (i : ℕ) → i < length xs → slice_get (xs ++ y ∷ []) i ≡ Some x → slice_get xs i ≡ Some x
get-before [] y x i below is = absurd (omega (arith, below))
get-before (z ∷ xs) y x zero below is = is
get-before (z ∷ xs) y x (suc i) below is = get-before xs y x i (omega (arith, below)) is

-- ---- what a queue has room for
module _ (rules : FrontRules) (late : Bool) (notes : Notes) (e : Engine) (s : StandsAt rules late notes e) (qid slots index : ℕ) (m : MayFetch rules notes qid slots index) where
  -- its ring, at the rules of the controller
  slots_are : sq_slots s.their m.queue.region ≡ slots
  slots_are = ap (λ (rs : List Region). slots_at rs m.queue.region) s.alike.sqs ∙ sym m.slots_are

  -- a ring with room for a command has two slots
  ring : 2 ≤ slots
  ring =
      let few = min-le_left (slots_at (sq_regions_of rules) m.queue.region - 1) highest_count in
      omega (arith, few, m.room, m.slots_are)

  -- no more commands wait than arbitration counts
  in_window : length (waiting (logged notes) m.queue.region) < highest_count
  in_window =
      let few = min-le_right (slots_at (sq_regions_of rules) m.queue.region - 1) highest_count in
      omega (arith, few, m.room)

  -- the doorbell is for one command more
  rung_once : submitted s.their (Tail m.queue.region ((index + 1) % slots) ∷ notes) m.queue.region ≡ length (fetched (logged notes) m.queue.region) + 1
  rung_once =
      let n : ℕ = length (fetched (logged notes) m.queue.region) in
      let is : submitted s.their (Tail m.queue.region ((index + 1) % slots) ∷ notes) m.queue.region
      ≡ submitted s.their notes m.queue.region + gap (sq_slots s.their m.queue.region) (submitted s.their notes m.queue.region % sq_slots s.their m.queue.region) ((index + 1) % slots) =
      ap (λ (b : Bool). if b then submitted s.their notes m.queue.region + gap (sq_slots s.their m.queue.region) (submitted s.their notes m.queue.region % sq_slots s.their m.queue.region) ((index + 1) % slots) else submitted s.their notes m.queue.region)
      (eq-eqb m.queue.region m.queue.region refl) in
      is
      ∙ (λ i. s.rung m.queue.region i + gap (slots_are i) (s.rung m.queue.region i % slots_are i) ((m.next i + 1) % slots))
      ∙ ap (λ (x : ℕ). n + x) (gap-one slots n ring)

  pub is_tail : calls_in_log.IsTailOf s.their notes qid ((index + 1) % slots)
  is_tail = record {
    queue = m.queue;
    is_open = m.is_open;
    is_tail = record {
      is_open = open_region s.their s.their_late (logged notes) s.stands.content s.stands.holds qid m.queue m.is_open;
      is_slot = (let below = mod_below (index + 1) slots (omega (arith, ring)) in omega (arith, below, slots_are));
      fits = omega (arith, rung_once, slots_are, ring);
    };
  }

  none : NoneDeleting (logged notes)
  none = none_deleting (logged notes) s.plain.deletes s.plain.alone m.none_pending

  -- its region is one of those that were added
  there : m.queue.region < length (sq_regions_of s.their)
  there = omega (arith, s.stands.holds.queues.sq_there m.queue.region _ (s.stands.holds.queues.attached qid m.queue m.is_open).attached, s.stands.holds.tabled.sq_number)

  -- fewer of its commands hold a slot than its depth
  in_depth : length (waiting (logged notes) m.queue.region) + unposted_of (logged notes) m.queue.region < queue_depth
  in_depth =
      let h = s.stands.holds in
      let few = few_unposted s.their s.their_late (logged notes) s.stands.content h m.queue.region
      (not_deleted s.their s.their_late (logged notes) s.stands.content h none m.queue.region) (omega (arith, there, h.tabled.sq_number)) in
      omega (arith, in_window, few, h.counts.unposted m.queue.region, h.counts.outstanding_is, s.places.few)

  -- that of its queue, where the depths are an engine's
  depth_is : (c : Controller) → calls.depths_of c ≡ calls.depths_of e.controller → calls.depth_of c qid ≡ queue_depth
  depth_is c same =
      let few = s.stands.numbers.sqs.few qid m.queue.region (s.stands.holds.lives.sqs qid m.queue m.is_open) in
      ap (λ (ds : List ℕ). get_or ds qid 0) (same ∙ s.depths) ∙ get_or-replicate MAX_REGIONS qid queue_depth 0 few

  -- a slot of the pool is free
  some_free : all_fetches (logged notes) < length e.slots.items + all_posts (logged notes)
  some_free =
      let regions : length (sq_regions_of s.their) ≤ MAX_REGIONS = omega (arith, ap (λ (rs : List Region). length rs) s.alike.sqs, s.alike.few_sqs) in
      let pool : pool_size ≤ length e.slots.items = s.pool in
      let waits = sum_below (λ (r : ℕ). length (waiting (logged notes) r)) highest_count m.queue.region (length (sq_regions_of s.their)) (few_wait rules late notes [] e s) there in_window in
      let held = (few_hold_slots s.their s.their_late notes e.controller e.slots.items s.stands).none_deleting none in
      omega (arith, regions, pool, waits, held, s.places.few)

  -- so the controller may fetch it, once its doorbell is rung
  pub may_fetch : (c : Controller) → calls.depths_of c ≡ calls.depths_of e.controller
      → calls_in_log.MayFetch s.their (Tail m.queue.region ((index + 1) % slots) ∷ notes) (calls.depth_of c qid) (length e.slots.items) qid
      (length (fetched (logged notes) m.queue.region) % sq_slots s.their m.queue.region)
  may_fetch c depths = record {
    queue = m.queue;
    is_open = m.is_open;
    submitted = omega (arith, rung_once);
    in_depth = omega (arith, in_depth, depth_is c depths);
    has_room = subst (λ (rs : List Region). length (waiting (logged notes) m.queue.region) < window_of (slots_at rs m.queue.region)) (sym s.alike.sqs) m.room;
    some_free = some_free;
    slot_is = refl;
  }

-- ---- the notes of the fetch
module _ (rules : FrontRules) (late : Bool) (notes : Notes) (e : Engine) (s : StandsAt rules late notes e) (qid slots index : ℕ) (m : MayFetch rules notes qid slots index)
    (entry : Sqe) (n : ℕ) (counts : n ≡ length (fetched (logged notes) m.queue.region)) where
  abbrev with_tail : Notes
  with_tail = Tail m.queue.region ((index + 1) % slots) ∷ notes

  abbrev with_fetch : Notes
  with_fetch = Kept m.queue.region n n ∷ Logged (Fetch m.queue.region n entry) ∷ with_tail

  -- it is fetched of its region alone
  one_more : length (fetched (logged with_fetch) m.queue.region) ≡ n + 1
  one_more = ap length (fetched-fetch (logged notes) m.queue.region n entry) ∙ length_push (fetched (logged notes) m.queue.region) entry ∙ ap (λ (x : ℕ). x + 1) (sym counts)

  as_before : (r : ℕ) → (m.queue.region ≡ r → ⊥) → fetched (logged with_fetch) r ≡ fetched (logged notes) r
  as_before r other = fetched-fetch_other (logged notes) m.queue.region n entry r other

  rung-fetch : (r : ℕ) → submitted s.their with_fetch r ≡ length (fetched (logged with_fetch) r)
  rung-fetch r = elim (cases_eq m.queue.region r) [
    | inl same ↦ subst (λ (x : ℕ). submitted s.their with_tail x ≡ length (fetched (logged with_fetch) x)) same
        (rung_once rules late notes e s qid slots index m ∙ ap (λ (x : ℕ). x + 1) (sym counts) ∙ sym one_more)
    | inr other ↦
        let here : submitted s.their with_tail r ≡ submitted s.their notes r = rw (ne_eqb m.queue.region r other) refl in
        here ∙ s.rung r ∙ ap length (sym (as_before r other))
  ]

  cookies-fetch : (r i : ℕ) → i < length (fetched (logged with_fetch) r) → cookie_of with_fetch r i ≡ Some i
  cookies-fetch r i below = by (m.queue.region == r && n == i) refl where
    by : (b : Bool) → (m.queue.region == r && n == i) ≡ b → (if b then Some n else cookie_of notes r i) ≡ Some i
    by true is = ap (λ (x : ℕ). Some x) (eqb-true n i (and_parts (m.queue.region == r) (n == i) is).1)
    by false is = s.cookies r i (elim (cases_eq m.queue.region r) [
      | inl same ↦ elim (cases_eq n i) [
        | inl at ↦ (let both = and_from (m.queue.region == r) (n == i) (eq-eqb m.queue.region r same) (eq-eqb n i at) in absurd (cc (both, is)))
        | inr beside ↦
            let size : length (fetched (logged with_fetch) r) ≡ n + 1 = ap (λ (x : ℕ). length (fetched (logged with_fetch) x)) (sym same) ∙ one_more in
            let here : n ≡ length (fetched (logged notes) r) = counts ∙ ap (λ (x : ℕ). length (fetched (logged notes) x)) same in
            omega (arith, below, size, here, beside)
      ]
      | inr other ↦ omega (arith, below, ap length (as_before r other))
    ])

  -- what was answered was fetched before
  answers-fetch : AnswersByOutcome rules with_fetch
  answers-fetch r i it answer io there answered = s.answers r i it answer io (before (cases_lt i (length (fetched (logged notes) r)))) answered where
    none : length (fetched (logged notes) r) ≤ i → answer_of notes r i ≡ None
    none past = s.stands.tags.unanswered.none r i past

    before : (i < length (fetched (logged notes) r)) ⊎ (length (fetched (logged notes) r) ≤ i) → entry_at (logged notes) r i ≡ Some it
    before (inr past) = (let no = none past in absurd (cc (no, answered)))
    before (inl below) = elim (cases_eq m.queue.region r) [
      | inl same ↦ get-before (fetched (logged notes) r) entry it i below
          (subst (λ (x : ℕ). slice_get (fetched (logged notes) x ++ entry ∷ []) i ≡ Some it) same
          (ap (λ (xs : List Sqe). slice_get xs i) (sym (fetched-fetch (logged notes) m.queue.region n entry)) ∙ subst (λ (x : ℕ). entry_at (logged with_fetch) x i ≡ Some it) (sym same) there))
      | inr other ↦ ap (λ (xs : List Sqe). slice_get xs i) (sym (as_before r other)) ∙ there
    ]

  places-fetch : HasPlaces s.their (logged with_fetch)
  places-fetch = places_fetched s.their s.their_late (logged notes) s.stands.content s.stands.holds qid m.queue m.is_open
      (subst (λ (rs : List Region). length (waiting (logged notes) m.queue.region) < window_of (slots_at rs m.queue.region)) (sym s.alike.sqs) m.room) n counts entry s.places

  not_closed : is_closed_region (logged notes) m.queue.region ≡ false
  not_closed = not_closed_region s.their s.their_late (logged notes) s.stands.content s.stands.holds qid m.queue m.is_open

  stands-fetch : (after : Engine) → Stands s.their s.their_late with_fetch after.controller after.slots.items → Leaves e after → StandsAt rules late with_fetch after
  stands-fetch after stands left = record {
    their = s.their;
    their_late = s.their_late;
    alike = s.alike;
    in_time = s.in_time;
    stands = stands;
    plain = record {
      none_passed = s.plain.none_passed;
      none_arranged = s.plain.none_arranged;
      deletes = ((m.none_pending, not_closed), s.plain.deletes);
      alone = (tt, s.plain.alone);
    };
    sq_rings = s.sq_rings;
    cq_rings = s.cq_rings;
    served = s.served;
    named = s.named;
    few = same_few e after (logged notes) left s.few;
    begun = λ none. absurd (cc none);
    rung = rung-fetch;
    read = s.read;
    cookies = cookies-fetch;
    answers = answers-fetch;
    untaken = s.untaken;
    lawful = s.lawful;
    places = places-fetch;
    pool = same_pool e after left s.pool;
    depths = left.depths ∙ s.depths;
    own = left.own ∙ s.own;
  }

-- ---- the call
module _ (rules : FrontRules) (late : Bool) (notes : Notes) (e : Engine) (s : StandsAt rules late notes e) (qid slots index : ℕ) (m : MayFetch rules notes qid slots index) where
  -- the doorbell that is rung is that of its queue
  pub tail_is : (c : Controller) → calls.TailRung s.their s.their_late notes qid ((index + 1) % slots) c e.slots.items
      → Stands s.their s.their_late (Tail m.queue.region ((index + 1) % slots) ∷ notes) c e.slots.items
  tail_is c rung =
      let same : rung.queue.region ≡ m.queue.region = ap (λ (q : Queue). q.region) (same_Some rung.queue m.queue (sym rung.is_open ∙ m.is_open)) in
      subst (λ (r : ℕ). Stands s.their s.their_late (Tail r ((index + 1) % slots) ∷ notes) c e.slots.items) same rung.stands

  pub has_fetched : (entry : Sqe) (after : Engine)
      → calls.HasFetched s.their s.their_late (Tail m.queue.region ((index + 1) % slots) ∷ notes) qid entry index after.controller after.slots.items
      → Leaves e after → HasFetched rules late notes qid ((index + 1) % slots) index entry after
  has_fetched entry after done left =
      let n : ℕ = length (fetched (logged notes) m.queue.region) in
      let before : Notes = Tail m.queue.region ((index + 1) % slots) ∷ notes in
      let same : done.may.queue.region ≡ m.queue.region = ap (λ (q : Queue). q.region) (same_Some done.may.queue m.queue (sym done.may.is_open ∙ m.is_open)) in
      let there : Stands s.their s.their_late (Kept m.queue.region n n ∷ Logged (Fetch m.queue.region n entry) ∷ before) after.controller after.slots.items =
      subst (λ (i : ℕ). Stands s.their s.their_late (Kept m.queue.region n i ∷ Logged (Fetch m.queue.region n entry) ∷ before) after.controller after.slots.items) m.next
      (subst (λ (r : ℕ). Stands s.their s.their_late (Kept r (length (fetched (logged notes) r)) index ∷ Logged (Fetch r (length (fetched (logged notes) r)) entry) ∷ before) after.controller after.slots.items) same done.stands) in
      record {
        queue = m.queue;
        is_open = m.is_open;
        stands = subst (λ (i : ℕ). StandsAt rules late (Kept m.queue.region i i ∷ Logged (Fetch m.queue.region i entry) ∷ before) after) (sym m.next)
            (stands-fetch rules late notes e s qid slots index m entry n refl after there left);
      }
