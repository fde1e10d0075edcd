-- A completion is posted, and the host's head doorbell follows it.
use Rattle.std.proofs.Common.{◌≡◌, ◌≢◌, ℕ, ◌+◌, ◌<◌, ◌≤◌, ◌%◌, ◌==◌, ◌&&◌, not, nat_lt, Bool, true, false, if◌then◌else◌, List, [], ◌∷◌, ◌++◌, length, Some, None, refl, sym, ap, ◌∙◌, subst, arith, inl, inr, eq-eqb, length-append}
use Rattle.std.proofs.lemmas.Bool.{cases_eq, ne_eqb, and_parts, ltb-true, false_from_ne_true}
use Rattle.std.proofs.lemmas.Nat.{mod_below}
use Rattle.std.proofs.lemmas.Option.{same_Some}
use Rattle.nvme_entry.specs.declared.completion.Cqe.{Cqe}
use Rattle.nvme_log.specs.declared.event.Event.TheVariants as event
use Rattle.nvme_log.specs.declared.place.Place.{Place}
use Rattle.nvme_log.specs.Rules.{FrontRules, Past, cq_regions_of, slots_at}
use Rattle.nvme_log.specs.Queues.{open_cq, is_closed_region, qid_of_region}
use Rattle.nvme_log.specs.Places.{fetched, fate_of, is_waiting, is_served, one_if}
use Rattle.nvme_log.specs.Aborts.{is_index}
use Rattle.nvme_log.specs.Completions.{is_posted, posts_of, posted_to}
use Rattle.nvme_log.specs.Account.{deleting_place}
use Rattle.nvme_log.proofs.Posts.{posts_of-some}
use Rattle.nvme_ctrl_log.specs.Notes.{Notes, Logged, Head, logged}
use Rattle.nvme_ctrl_log.specs.Doorbells.{gap, cq_slots, consumed}
use Rattle.nvme_ctrl_log.specs.Calls.{IsHeadOf}
use Rattle.nvme_ctrl_log.specs.Tags.{cookie_of, is_through}
use Rattle.nvme_ctrl_log.specs.Posts.{NonePostable, AllPosted}
use Rattle.nvme_ctrl.specs.Posts.{next_post_of}
use Rattle.nvme_ctrl.specs.Standing as ctrl
use Rattle.nvme_ctrl_content.specs.Standing.{times_ready, times_held, hand_of}
use Rattle.nvme_slots.specs.declared.slot.Slot.{Slot}
use Rattle.nvme_ctrl.specs.declared.state.Controller.{Controller}
use Rattle.nvme_ctrl.proofs.NoPosts.{none_postable}
use Rattle.nvme_ctrl.proofs.DoorbellCalls.{cq_is_open}
use Rattle.nvme_ctrl_content.proofs.DeletedQueues.{unheld_undeleting}
use Rattle.nvme_ctrl_log.proofs.Readying.{unposted-counts}
use Rattle.nvme_engine.proofs.Places.{places_posted}
use Rattle.nvme_engine.specs.Standing.{StandsAt}
use Rattle.nvme_engine.specs.Calls.{HasPosted}
use Rattle.nvme_engine.specs.declared.engine.Engine.{Engine}
use Rattle.nvme_engine.proofs.Deleting.{not_deleter}
use Rattle.nvme_engine.proofs.Calls.{Leaves, same_pool, same_few}
use Rattle.nvme_engine.proofs.Reading.{consumed_next}

-- a place that is posted once, and is counted once, was served and not posted before, and isn't in hand
record WasUnposted (served : Bool) (before held : ℕ) : Type 0 where
  was_served : served ≡ true
  none_before : before ≡ 0
  none_held : held ≡ 0

counted_once : (ready before held : ℕ) (served : Bool) → ready + (before + 1) + held ≡ one_if served → WasUnposted served before held
counted_once ready before held true e = record { was_served = refl; none_before = omega (arith, e); none_held = omega (arith, e) }
counted_once ready before held false e = absurd (omega (arith, e))

-- the ring of an open completion queue has two slots at least
ring_of : (rules : FrontRules) (late : Bool) (notes : Notes) (e : Engine) (s : StandsAt rules late notes e) (cqid x : ℕ) → open_cq (logged notes) cqid ≡ Some x
    → 2 ≤ cq_slots s.their x
ring_of rules late notes e s cqid x is =
    let below = s.stands.holds.queues.cq_there cqid x is in
    let number = s.stands.holds.tabled.cq_number in
    let count : length (cq_regions_of s.their) ≡ length (cq_regions_of rules) = ap length s.alike.cqs in
    subst (λ (regions : _). 2 ≤ slots_at regions x) (sym s.alike.cqs) (s.cq_rings x (omega (arith, below, number, count)))

-- to an open queue all is posted then, since its ring is empty
empty_ring : (rules : FrontRules) (late : Bool) (notes : Notes) (e : Engine) (s : StandsAt rules late notes e) (cqid x : ℕ) → open_cq (logged notes) cqid ≡ Some x
    → NonePostable s.their notes x → AllPosted notes x
empty_ring rules late notes e s cqid x is (inl full) = absurd (omega (arith, full, s.read x, ring_of rules late notes e s cqid x is))
empty_ring rules late notes e s cqid x is (inr all) = all

pub all_posted : (rules : FrontRules) (late : Bool) (notes : Notes) (e : Engine) (s : StandsAt rules late notes e) (cqid x : ℕ) → open_cq (logged notes) cqid ≡ Some x
    → next_post_of e.controller e.slots.items cqid ≡ None → AllPosted notes x
all_posted rules late notes e s cqid x is none =
    empty_ring rules late notes e s cqid x is (none_postable s.their s.their_late notes e.controller e.slots.items s.stands cqid x is none)

module _ (rules : FrontRules) (late : Bool) (notes : Notes) (e : Engine) (s : StandsAt rules late notes e) (cqid x : ℕ) (is_open : open_cq (logged notes) cqid ≡ Some x)
    (region index : ℕ) (cqe : Cqe) (queue : qid_of_region (logged notes) region ≡ Some cqe.sqid) (c : Controller) (slots : List Slot)
    (t : ctrl.Stands s.their s.their_late (Logged (event.Post x region index cqe) ∷ notes) c slots) where
  abbrev past : Past
  past = logged notes

  abbrev posted : Notes
  posted = Logged (event.Post x region index cqe) ∷ notes

  -- ---- the place that is posted
  posts_are : posts_of (event.Post x region index cqe ∷ past) region index ≡ posts_of past region index + 1
  posts_are =
      (λ j. if eq-eqb region region refl j && index == index then posts_of past region index + 1 else posts_of past region index)
      ∙ ap (λ (b : Bool). if b then posts_of past region index + 1 else posts_of past region index) (eq-eqb index index refl)

  counted : WasUnposted (is_served past region index) (posts_of past region index) (times_held region index (hand_of t.content))
  counted =
      counted_once (times_ready t.content region index) (posts_of past region index) (times_held region index (hand_of t.content)) (is_served past region index)
      (ap (λ (n : ℕ). times_ready t.content region index + n + times_held region index (hand_of t.content)) (sym posts_are) ∙ t.holds.ready.once region index)

  unposted : is_posted past region index ≡ false
  unposted = false_from_ne_true (is_posted past region index) (λ yes. absurd (omega (arith, counted.none_before, posts_of-some past region index yes)))

  -- its queue isn't deleted, and its command isn't that of the pending deletion
  pub not_closed : is_closed_region past region ≡ false
  not_closed = false_from_ne_true (is_closed_region past region) (λ closed.
      unposted-counts past region index counted.was_served unposted (sym (s.stands.holds.counts.unposted region) ∙ (s.stands.holds.queues.gone region closed).all_posted))

  not_deleting : (region == 0 && is_index index (deleting_place past)) ≡ false
  not_deleting =
      not_deleter notes s.plain region index
      (unheld_undeleting s.their s.their_late (event.Post x region index cqe ∷ past) t.content t.holds region index counted.none_held)

  was_fetched : index < length (fetched past region)
  was_fetched = ltb-true index (length (fetched past region)) (and_parts (nat_lt index (length (fetched past region))) (not (is_waiting (fate_of past region index))) counted.was_served).0

  -- ---- the ring
  posts_there : length (posted_to (event.Post x region index cqe ∷ past) x) ≡ length (posted_to past x) + 1
  posts_there =
      ap (λ (b : Bool). length (if b then posted_to past x ++ cqe ∷ [] else posted_to past x)) (eq-eqb x x refl)
      ∙ length-append (posted_to past x) (cqe ∷ [])

  posts_elsewhere : (y : ℕ) → x ≢ y → posted_to (event.Post x region index cqe ∷ past) y ≡ posted_to past y
  posts_elsewhere y other = ap (λ (b : Bool). if b then posted_to past y ++ cqe ∷ [] else posted_to past y) (ne_eqb x y other)

  module _ (size slot head : ℕ) (size_is : size ≡ slots_at (cq_regions_of rules) x) (slot_is : slot ≡ length (posted_to past x) % cq_slots s.their x) (head_is : head ≡ (slot + 1) % size) where
    same_size : size ≡ cq_slots s.their x
    same_size = size_is ∙ ap (λ (regions : _). slots_at regions x) (sym s.alike.cqs)

    ring : 2 ≤ cq_slots s.their x
    ring = ring_of rules late notes e s cqid x is_open

    follows : head ≡ (length (posted_to past x) % cq_slots s.their x + 1) % cq_slots s.their x
    follows = head_is ∙ (λ j. (slot_is j + 1) % same_size j)

    consumed_after : consumed s.their (Head x head ∷ posted) x ≡ length (posted_to past x) + 1
    consumed_after = consumed_next s.their posted x (length (posted_to past x)) head ring (s.read x) follows

    -- the doorbell may be rung
    pub may_ring : IsHeadOf s.their posted cqid head
    may_ring = record {
      region = x;
      is_open = is_open;
      is_head = record {
        is_open = cq_is_open s.their s.their_late notes e.controller e.slots.items s.stands cqid x is_open;
        is_slot = subst (λ (h : ℕ). h < cq_slots s.their x) (sym follows) (mod_below (length (posted_to past x) % cq_slots s.their x + 1) (cq_slots s.their x) (omega (arith, ring)));
        posted = omega (arith, consumed_after, posts_there);
      };
    }

    elsewhere : (y : ℕ) → x ≢ y → consumed s.their (Head x head ∷ posted) y ≡ consumed s.their notes y
    elsewhere y other =
        ap (λ (b : Bool). if b then consumed s.their notes y + gap (cq_slots s.their y) (consumed s.their notes y % cq_slots s.their y) head else consumed s.their notes y)
        (ne_eqb x y other)

    read_after : (y : ℕ) → consumed s.their (Head x head ∷ posted) y ≡ length (posted_to (event.Post x region index cqe ∷ past) y)
    read_after y = elim (cases_eq x y) [
      | inl same ↦ subst (λ (z : ℕ). consumed s.their (Head x head ∷ posted) z ≡ length (posted_to (event.Post x region index cqe ∷ past) z)) same (consumed_after ∙ sym posts_there)
      | inr other ↦
          elsewhere y other ∙ s.read y ∙ ap length (sym (posts_elsewhere y other))
    ]

    module _ (f : Engine) (left : Leaves e f) (rung : ctrl.Stands s.their s.their_late (Head x head ∷ posted) f.controller f.slots.items) where
      stands_posted : StandsAt rules late (Head x head ∷ posted) f
      stands_posted = record {
        their = s.their;
        their_late = s.their_late;
        alike = s.alike;
        in_time = s.in_time;
        stands = rung;
        plain = record { none_passed = s.plain.none_passed; none_arranged = s.plain.none_arranged; deletes = ((not_closed, not_deleting), s.plain.deletes); alone = (tt, s.plain.alone) };
        sq_rings = s.sq_rings;
        cq_rings = s.cq_rings;
        served = s.served;
        named = s.named;
        few = same_few e f past left s.few;
        begun = λ none. absurd (cc none);
        rung = s.rung;
        read = read_after;
        cookies = s.cookies;
        answers = s.answers;
        untaken = s.untaken;
        lawful = s.lawful;
        places = places_posted s.their past x region index cqe s.places;
        pool = same_pool e f left s.pool;
        depths = left.depths ∙ s.depths;
        own = left.own ∙ s.own;
      }

      -- what was kept with the command is its index
      pub has_posted : (p : Place) → p.region ≡ region → cookie_of notes region index ≡ Some p.index → is_through notes region index ≡ true → HasPosted rules late notes x cqe p f
      has_posted p at kept through =
          let same : p.index ≡ index = same_Some p.index index (sym kept ∙ s.cookies region index was_fetched) in
          record {
            slot = head;
            through = (λ j. is_through notes (at j) (same j)) ∙ through;
            stands = subst (λ (i : ℕ). StandsAt rules late (Head x head ∷ Logged (event.Post x p.region i cqe) ∷ notes) f) (sym same)
                (subst (λ (r : ℕ). StandsAt rules late (Head x head ∷ Logged (event.Post x r index cqe) ∷ notes) f) (sym at) stands_posted);
          }
