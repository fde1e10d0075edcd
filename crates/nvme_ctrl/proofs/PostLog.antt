-- After a post the tags of a controller are those of its log, and its notes are an account.
use Rattle.nvme_log.proofs.Turns.{admin-unaborted}
use Rattle.nvme_log.specs.Account.{PostsOwnBy}
use Rattle.nvme_ctrl_log.proofs.Noted.{each-event}
use Rattle.std.proofs.Common.{◌≡◌, ◌≢◌, ℕ, ◌+◌, ◌<◌, ◌≤◌, ◌%◌, ◌==◌, ◌&&◌, ◌⊎◌, not, Bool, true, false, if◌then◌else◌, List, [], ◌∷◌, ◌++◌, length, Option, Some, None, is_some, refl, get_or, sym, ap, ◌∙◌, subst, arith, length-append, inl, inr, eqb-true, MatchBool}
use Rattle.std.specs.Prelude.{All, slice_set}
use Rattle.std.proofs.lemmas.Bool.{cases_eq, eq-eqb, ne_eqb, or_left, or_right, and_parts}
use Rattle.std.proofs.lemmas.List.Sums.{get_or-le-sum_by}
use Rattle.std.proofs.lemmas.List.Elements.{All-nil, All-head, All-tail, All-same, All-weaker}
use Rattle.nvme_entry.specs.Status.{StatusCode}
use Rattle.nvme_entry.specs.declared.submission.Sqe.{Sqe}
use Rattle.nvme_entry.specs.declared.completion.Cqe.{Cqe}
use Rattle.nvme_log.specs.declared.place.Place.{Place}
use Rattle.nvme_log.specs.Rules.{FrontRules, Past}
use Rattle.nvme_log.specs.Places.{is_aborted, one_if, is_waiting, fate_of}
use Rattle.nvme_log.specs.Completions.{posted_to, own_status_by, own_dw0_by, IsOwnBy, is_posted}
use Rattle.nvme_log.specs.Dispatches.{place_at}
use Rattle.nvme_log.specs.Answers.{Answer, by_answers}
use Rattle.nvme_ctrl_log.specs.Notes.{Notes}
use Rattle.nvme_ctrl_log.specs.StatusFlags.{flags_or}
use Rattle.nvme_ctrl_log.specs.Tags.{is_place, holder, answer_of, is_through, answer_or, answers, is_out, all_fetches, all_posts, cookie_of, is_passed, flags_of}
use Rattle.nvme_ctrl_log.specs.Account.{IsLawfulEvent, IsAccount, PostsAnswer, PostsOwn}
use Rattle.nvme_slots.specs.declared.slot.Slot.{Slot}
use Rattle.nvme_ctrl_content.specs.Content.{Ready}
use Rattle.nvme_ctrl_content.specs.Standing.{Holds, answer_in, hand_of, times_held, held_upto}
use Rattle.nvme_slots.specs.Pool.{slot_at, put_item, flags_in, IsChain}
use Rattle.nvme_ctrl.specs.kept.State.{no_cq_state, cq_at}
use Rattle.nvme_ctrl_log.specs.Next.{IsNext}
use Rattle.nvme_ctrl.specs.Posts.{completion_of}
use Rattle.nvme_ctrl.specs.inside.Posting.{counted_post}
use Rattle.nvme_ctrl.specs.Calls.{HasPosted}
use Rattle.nvme_slots.specs.declared.chain.Chain.{Chain}
use Rattle.nvme_ctrl.specs.declared.state.CqState.{CqState}
use Rattle.nvme_ctrl.specs.declared.state.Controller.{Controller}
use Rattle.nvme_ctrl.specs.kept.Kept.{Item, ReadyItem, places_of, ready_state, ready_tags, readies_of, untaken, IsThrough, HoldsTags, StandsAt, HasReadyCookie, IsReadyOf, HasFlags}
use Rattle.nvme_ctrl.proofs.Cookies.{SameCookies, same_cookies-but, cookie_left, items_left, readies_left}
use Rattle.nvme_ctrl_content.proofs.NextEvents.{next-post, posts-as-ready, oldest_answerable, posts-else}
use Rattle.nvme_ctrl_content.proofs.OwnStatus.{All-unmap, IsAnswerable, ready_is_answerable}
use Rattle.nvme_ctrl_content.proofs.PostedPlaces.{ready_unanswered}
use Rattle.nvme_ctrl_content.proofs.ReadyHand.{times_held-append}
use Rattle.nvme_ctrl.proofs.PostCall.{freed, HasDone, PostCall, content, past_of, command, region, index, cqe_of, event_of, later, notes_after, content_after, controller_after, items_after, ready_in, oldest_is, is_ready, can_post, holds_after}
use Rattle.nvme_ctrl.proofs.PostNumbers.{numbers_after, counts_before, has_room, doorbells_after}
use Rattle.nvme_ctrl.proofs.PostItems.{tag, size_is, other_kept, tag_freed, ready_contents, has_after, tag_cookie}
use Rattle.nvme_ctrl_log.proofs.OutTags.{still_not_out-logged}
use Rattle.nvme_ctrl.proofs.SlotItems.{All-both, All-parts, at_put}
use Rattle.nvme_ctrl.specs.kept.QueueSets.{with_queue}
use Rattle.nvme_ctrl_content.proofs.Ordering.{first_is_next, order_posted}

-- ---- who holds a tag after a post
-- another place than the posted one keeps its tag
keeps_tag : (r i : ℕ) (o : Option Place) (q : Place) → o ≡ Some q → (q.region == r && q.index == i) ≡ false → (if is_place r i o then None else o) ≡ Some q
keeps_tag r i o q held other = rw (held, other) refl

-- the posted place gives its tag back
leaves_tag : (o : Option Place) (q : Place) → o ≡ Some q → (if is_place q.region q.index o then None else o) ≡ None
leaves_tag o q held = rw (held, eq-eqb q.region q.region refl, eq-eqb q.index q.index refl) refl

-- a tag that nobody has stays so
stays_free : (r i : ℕ) (o : Option Place) → o ≡ None → (if is_place r i o then None else o) ≡ None
stays_free r i o none = rw none refl

-- a place that doesn't stand among some is none of them
none_held_there : (r i : ℕ) (ps : List Place) → times_held r i ps ≡ 0 → All (λ (q : Place). (q.region == r && q.index == i) ≡ false) ps
none_held_there r i ps none k d lt =
    let q : Place = get_or ps k d in
    let here = get_or-le-sum_by (λ (z : Place). one_if (z.region == r && z.index == i)) ps k d lt in
    by (q.region == r && q.index == i) (omega (arith, none, here)) where
      by : (b : Bool) → one_if b ≡ 0 → b ≡ false
      by true h = absurd (omega (arith, h))
      by false h = refl

-- a post that a place doesn't have is one of another place
unposted_other : (b : Bool) (n : ℕ) → (if b then n + 1 else n) ≡ 0 → b ≡ false
unposted_other true n h = absurd (omega (arith, h))
unposted_other false n h = refl

-- the same with the places the other way round
swapped : (a b r i : ℕ) → (a == r && b == i) ≡ false → (r == a && i == b) ≡ false
swapped a b r i h = elim (cases_eq r a) [
  | inl same ↦ elim (cases_eq i b) [
    | inl also ↦ (let yes : (a == r && b == i) ≡ true = rw (eq-eqb a r (sym same), eq-eqb b i (sym also)) refl in cc)
    | inr other ↦ rw (ne_eqb i b other) (false_right (r == a))
  ]
  | inr other ↦ rw (ne_eqb r a other) refl
] where
  false_right : (x : Bool) → (x && false) ≡ false
  false_right true = refl
  false_right false = refl

-- ---- an executor that answers as the ready completion
-- the status and Dword 0 of an aborted place don't depend on the answer
own_by-answer : (rules : FrontRules) (past : Past) (x r i : ℕ) (cqe : Cqe) (one other : Sqe → Answer) → ((is_aborted past r i ≡ true) ⊎ ((e : Sqe) → one e ≡ other e))
    → IsOwnBy rules one past x r i cqe → IsOwnBy rules other past x r i cqe
own_by-answer rules past x r i cqe one other same h = record {
  entry = h.entry;
  is_there = h.is_there;
  region = h.region;
  sqid = h.sqid;
  cid = h.cid;
  status = h.status ∙ (elim same [
    | inl aborted ↦ rw aborted refl
    | inr alike ↦ ap (λ (a : Answer). own_status_by rules a past r i h.entry) (alike h.entry)
  ]);
  dw0 = h.dw0 ∙ (elim same [
    | inl aborted ↦ rw aborted refl
    | inr alike ↦ ap (λ (a : Answer). own_dw0_by rules a past r i h.entry) (alike h.entry)
  ]);
  sqhd = h.sqhd;
  phase = h.phase;
}

module _ (p : PostCall) where
  -- what holds of all that is ready holds of the command, and of what is ready afterwards
  of_item : (P : ReadyItem → Type 0) → All P (p.stands.items.readies p.x) → P p.item
  of_item P h = All-head P p.item p.rest (All-same P (p.item ∷ p.rest) (p.stands.items.readies p.x) (sym p.are) h)

  of_readies : (P : ReadyItem → Type 0) → ((y : ℕ) → All P (p.stands.items.readies y)) → (y : ℕ) → All P ((items_after p).readies y)
  of_readies P h = at_put (λ y items. All P items) p.stands.items.readies p.x p.rest
      (All-tail P p.item p.rest (All-same P (p.item ∷ p.rest) (p.stands.items.readies p.x) (sym p.are) (h p.x))) (λ y d. h y)

  -- ---- the places of the others
  abbrev IsOther : Place → Type 0
  IsOther q = (q.region == region p && q.index == index p) ≡ false

  -- what is ready afterwards is of other places
  readies_other : (y : ℕ) → All (λ (it : ReadyItem). IsOther it.ready.place) ((items_after p).readies y)
  readies_other y =
      All-unmap (λ (t : Ready). IsOther t.place) (λ (it : ReadyItem). it.ready) ((items_after p).readies y)
      (All-same (λ (t : Ready). IsOther t.place) (readies_of ((items_after p).readies y)) ((content_after p).cq y).ready (sym (ready_contents p y))
      (All-weaker (λ (t : Ready). IsAnswerable (later p) (hand_of (content_after p)) t.place.region t.place.index) (λ (t : Ready). IsOther t.place)
      (λ t a. swapped (region p) (index p) t.place.region t.place.index (unposted_other (region p == t.place.region && index p == t.place.index) _ a.no_posts))
      ((content_after p).cq y).ready (ready_is_answerable (later p) (content_after p) (hand_of (content_after p)) (holds_after p).ready y)))

  -- so is what the device has
  none_in_hand : times_held (region p) (index p) (content p).hand ≡ 0
  none_in_hand =
      let all = (oldest_answerable (past_of p) (content p) p.x p.item.ready (readies_of p.rest) p.stands.holds.ready (oldest_is p)).not_held in
      omega (arith, all, times_held-append (region p) (index p) (content p).hand (held_upto (content p).deletion (content p).nsq))

  outs_other : All (λ (it : Item). IsOther it.place) p.stands.items.outs
  outs_other =
      let held : List Item = p.stands.items.outs ++ untaken p.c (content p) p.stands.items in
      (All-parts (λ (it : Item). IsOther it.place) p.stands.items.outs (untaken p.c (content p) p.stands.items)
      (All-unmap IsOther (λ (it : Item). it.place) held
      (All-same IsOther (places_of held) (content p).hand (sym p.stands.has.outs.hand_is) (none_held_there (region p) (index p) (content p).hand none_in_hand)))).0

  -- ---- tags
  -- nobody has the tag of the command afterwards
  tag_left : holder (notes_after p) (tag p) ≡ None
  tag_left = by p.item.was_out refl where
    by : (b : Bool) → p.item.was_out ≡ b → holder (notes_after p) (tag p) ≡ None
    by true e = leaves_tag (holder p.notes (tag p)) p.item.ready.place
        (of_item (λ (it : ReadyItem). it.was_out ≡ true → holder p.notes it.tag ≡ Some it.ready.place) (p.stands.tags.held.readies p.x) e)
    by false e =
        let state : (slot_at p.slots (tag p)).state ≡ ready_state false p.item.ready.with_queue = (ready_in p).state ∙ ap (λ (b : Bool). ready_state b p.item.ready.with_queue) e in
        let more : 4 ≤ ready_state false p.item.ready.with_queue = ended p.item.ready.with_queue in
        stays_free (region p) (index p) (holder p.notes (tag p)) (p.stands.tags.held.none (tag p) (λ z. omega (arith, z, state, more)) (λ z. omega (arith, z, state, more)))
      where
        ended : (b : Bool) → 4 ≤ ready_state false b
        ended true = omega arith
        ended false = omega arith

  none_held_after : (t : ℕ) → (slot_at p.new t).state ≢ 2 → (slot_at p.new t).state ≢ 3 → holder (notes_after p) t ≡ None
  none_held_after t not_out not_answered = elim (cases_eq t (tag p)) [
    | inl same ↦ subst (λ (z : ℕ). holder (notes_after p) z ≡ None) (sym same) tag_left
    | inr other ↦ (
        let state : (slot_at p.new t).state ≡ (slot_at p.slots t).state = ap (λ (s : Slot). s.state) (other_kept p t other) in
        stays_free (region p) (index p) (holder p.notes t) (p.stands.tags.held.none t (λ e. not_out (state ∙ e)) (λ e. not_answered (state ∙ e))))
  ]

  -- what was answered before isn't out
  answered_after : (t : ℕ) → (slot_at p.new t).state ≡ 3 → is_out (notes_after p) t ≡ false
  answered_after t e = elim (cases_eq t (tag p)) [
    | inl same ↦ (
        let state : (slot_at p.new t).state ≡ (slot_at p.new (tag p)).state = ap (λ (z : ℕ). (slot_at p.new z).state) same in
        absurd (omega (arith, e, state, tag_freed p)))
    | inr other ↦ still_not_out-logged (event_of p) p.notes t (p.stands.tags.held.answered t (sym (ap (λ (s : Slot). s.state) (other_kept p t other)) ∙ e))
  ]

  -- a slot more is free, and a completion more is posted
  count_after : p.free.len + all_fetches (past_of p) ≡ length p.new + (all_posts (past_of p) + 1)
  count_after =
      omega (
        arith,
        p.stands.tags.free_count,
        (has_after p).free.chain.len_is,
        p.stands.has.free.chain.len_is,
        length-append p.stands.items.free (tag p ∷ []),
        size_is p,
      )

  pub tags_after : HoldsTags (notes_after p) (controller_after p) p.new (content_after p) (items_after p)
  tags_after =
      let h = p.stands.tags in
      record {
        untaken_are = h.untaken_are;
        held = record {
          outs = All-both (λ (it : Item). holder p.notes it.tag ≡ Some it.place) (λ (it : Item). IsOther it.place) (λ (it : Item). holder (notes_after p) it.tag ≡ Some it.place)
              (λ it held other. keeps_tag (region p) (index p) (holder p.notes it.tag) it.place held other) p.stands.items.outs h.held.outs outs_other;
          readies = λ y.
              All-both (λ (it : ReadyItem). it.was_out ≡ true → holder p.notes it.tag ≡ Some it.ready.place) (λ (it : ReadyItem). IsOther it.ready.place)
              (λ (it : ReadyItem). it.was_out ≡ true → holder (notes_after p) it.tag ≡ Some it.ready.place)
              (λ it held other out. keeps_tag (region p) (index p) (holder p.notes it.tag) it.ready.place (held out) other) ((items_after p).readies y)
              (of_readies (λ (it : ReadyItem). it.was_out ≡ true → holder p.notes it.tag ≡ Some it.ready.place) h.held.readies y) (readies_other y);
          none = none_held_after;
          answered = answered_after;
        };
        through = of_readies (λ (it : ReadyItem). IsThrough p.notes it.ready) h.through;
        unanswered = h.unanswered;
        hand_entries = h.hand_entries;
        free_count = count_after;
        cookies = record {
          windows = λ r. items_left p.notes p.slots p.new same (p.stands.items.windows r) (h.cookies.windows r);
          outs = items_left p.notes p.slots p.new same p.stands.items.outs h.cookies.outs;
          readies = λ y. readies_left p.notes p.slots p.new same ((items_after p).readies y) (of_readies (HasReadyCookie p.notes p.slots) h.cookies.readies y);
          deletes = λ r it is. cookie_left p.notes p.slots p.new same it.tag (place_at 0 it.index) (h.cookies.deletes r it is);
          none = h.cookies.none;
        };
        passed = record {
          all_handed = h.passed.all_handed;
          served = h.passed.served;
          readies = of_readies (IsReadyOf p.notes) h.passed.readies;
          deletes = h.passed.deletes;
        };
        flagged = record {
          none = h.flagged.none;
          readies = of_readies (HasFlags p.notes) h.flagged.readies;
        };
      } where
        same : SameCookies p.slots p.new
        same = same_cookies-but p.slots p.new (tag p) (other_kept p) (tag_cookie p)

  -- ---- the account
  through : IsThrough p.notes p.item.ready
  through = of_item (λ (it : ReadyItem). IsThrough p.notes it.ready) (p.stands.tags.through p.x)

  is_done : is_through p.notes (region p) (index p) ≡ true
  is_done = elim through [
    | inl aborted ↦ or_left (is_aborted (past_of p) (region p) (index p)) (is_some (answer_of p.notes (region p) (index p))) aborted
    | inr answered ↦ or_right (is_aborted (past_of p) (region p) (index p)) (is_some (answer_of p.notes (region p) (index p))) (rw answered refl)
  ]

  passed_as : p.item.ready.passed ≡ (region p == 0 && is_passed p.notes (index p))
  passed_as = of_item (IsReadyOf p.notes) (p.stands.tags.passed.readies p.x)

  -- the completion of a command that was not passed on
  is_own : p.late ≡ false → p.item.ready.passed ≡ false → IsOwnBy p.rules (by_answers (answers p.notes) (place_at (region p) (index p))) (past_of p) p.x (region p) (index p) (cqe_of p)
  is_own on_time carried =
      own_by-answer p.rules (past_of p) p.x (region p) (index p) (cqe_of p) (λ e. answer_in p.item.ready) (by_answers (answers p.notes) (place_at (region p) (index p)))
      (elim through [
        | inl aborted ↦ inl aborted
        | inr answered ↦ inr (λ e. sym (ap answer_or answered))
      ])
      (posts-as-ready p.rules (past_of p) (content p) p.x p.item.ready (readies_of p.rest) (cqe_of p)
      (subst (λ (late : Bool). Holds p.rules late (past_of p) (content p)) on_time p.stands.holds) (can_post p) carried)

  -- that of one that was
  of_device : p.late ≡ false → (region p == 0 && is_passed p.notes (index p)) ≡ true → is_posted (past_of p) (region p) (index p) ≡ false
      → is_waiting (fate_of (past_of p) (region p) (index p)) ≡ false → PostsAnswer p.rules p.notes p.x (index p) (cqe_of p)
  of_device on_time passed no_post done =
      let zero : region p ≡ 0 = eqb-true (region p) 0 (and_parts (region p == 0) (is_passed p.notes (index p)) passed).0 in
      let both = posts-else p.rules p.late (past_of p) (content p) p.x p.item.ready (readies_of p.rest) (cqe_of p) (λ e. answers p.notes (place_at 0 (index p))) p.stands.holds (can_post p) in
      elim through [
        | inl aborted ↦ absurd (admin-unaborted p.rules (past_of p) (each-event _ p.rules (λ past e it. it.effects_at_once) p.notes (p.stands.account on_time).each) (index p)
            (subst (λ (r : ℕ). is_aborted (past_of p) r (index p) ≡ true) zero aborted))
        | inr answered ↦ record {
          answer = answer_in p.item.ready;
          answered = subst (λ (r : ℕ). answer_of p.notes r (index p) ≡ Some (answer_in p.item.ready)) zero answered;
          status_is = (can_post p).status;
          dw0_is = (can_post p).dw0;
          other_status = both.status;
          other_dw0 = both.dw0;
          all_else = (
            subst (λ (r : ℕ). is_posted (past_of p) r (index p) ≡ false) zero no_post,
            subst (λ (r : ℕ). is_waiting (fate_of (past_of p) r (index p)) ≡ false) zero done,
            subst (λ (r : ℕ). IsOwnBy p.rules (λ e. answers p.notes (place_at 0 (index p))) (past_of p) p.x r (index p) (record (cqe_of p) { status = both.status; dw0 = both.dw0 })) zero both.own,
          );
        }
      ]

  posts_own : p.late ≡ false → is_posted (past_of p) (region p) (index p) ≡ false → is_waiting (fate_of (past_of p) (region p) (index p)) ≡ false
      → PostsOwn p.rules p.notes (event_of p)
  posts_own on_time no_post done = by (region p == 0 && is_passed p.notes (index p)) refl where
    by : (b : Bool) → (region p == 0 && is_passed p.notes (index p)) ≡ b
        → MatchBool b (PostsAnswer p.rules p.notes p.x (index p) (cqe_of p)) (PostsOwnBy p.rules (by_answers (answers p.notes)) (past_of p) (event_of p))
    by true e = of_device on_time e no_post done
    by false e = (no_post, done, is_own on_time (passed_as ∙ e))

  lawful_event : p.late ≡ false → IsLawfulEvent p.rules p.notes (event_of p)
  lawful_event on_time =
      let next : IsNext p.rules (past_of p) (event_of p) =
      next-post p.rules p.late (past_of p) (content p) p.x p.item.ready (readies_of p.rest) (cqe_of p) p.stands.holds (can_post p) (holds_after p).regions on_time in
      let first = ready_unanswered (past_of p) (content p) (hand_of (content p)) p.stands.holds.ready p.x p.item.ready (readies_of p.rest) (oldest_is p) in
      record {
        index_counts = next.index_counts;
        served_while_open = next.served_while_open;
        observed = tt;
        effects_at_once = next.effects_at_once;
        deletes = next.deletes;
        posts_own = posts_own on_time first.no_post first.was_served;
        fetches_submitted = tt;
        posts_on_free_slot = omega (arith, has_room p, p.stands.holds.tabled.cq_slots p.x, (p.stands.numbers.cqs.each p.cqid p.x p.life).slots);
        posts_what_is_through = is_done;
        posts_in_order = first_is_next p.notes (content p) p.stands.ordered p.x p.item.ready (readies_of p.rest) (cqe_of p) (oldest_is p);
      }

  pub account_after : p.late ≡ false → IsAccount p.rules (notes_after p)
  account_after on_time =
      let old = p.stands.account on_time in
      let own = (holds_after p).own on_time in
      record { each = (lawful_event on_time, old.each); lawful = (holds_after p).arbitration.lawful; effects_whole = own.effects_whole }

-- ---- all that stands afterwards
-- what the caller keeps with the command
kept : (p : PostCall) → cookie_of p.notes (region p) (index p) ≡ Some (command p).cookie
kept p = of_item p (HasReadyCookie p.notes p.slots) (p.stands.tags.cookies.readies p.x)

-- its flags are those of its place
flagged : (p : PostCall) → flags_in (command p) ≡ flags_or (cqe_of p).status (flags_of p.notes (region p) (index p))
flagged p = (ready_in p).flags ∙ of_item p (HasFlags p.notes) (p.stands.tags.flagged.readies p.x) ∙ ap (λ (s : StatusCode). flags_or s (flags_of p.notes (region p) (index p))) (sym (can_post p).status)

pub stands_after : (p : PostCall) → StandsAt p.rules p.late (notes_after p) (controller_after p) p.new
stands_after p = record {
  content = content_after p;
  items = items_after p;
  holds = holds_after p;
  numbers = numbers_after p;
  has = has_after p;
  doorbells = doorbells_after p;
  tags = tags_after p;
  shown = record { held = p.stands.shown.held; classed = p.stands.shown.classed };
  ordered = order_posted p.notes (content p) p.stands.ordered p.x p.item.ready (readies_of p.rest) (cqe_of p) (oldest_is p);
  regions = record { sqs = p.stands.regions.sqs; cqs = p.stands.regions.cqs };
  account = account_after p;
}

pub posted_call : (p : PostCall)
    → HasPosted p.rules p.late p.notes p.cqid (cq_at p.c.cqs p.cqid).ring.tail (cqe_of p) (command p).cookie (flags_in (command p)) (controller_after p) p.new
posted_call p = record {
  x = p.x;
  is_open = sym (p.stands.holds.lives.cqs p.cqid) ∙ p.life;
  region = region p;
  index = index p;
  queue = (is_ready p).queue ∙ ap (λ (q : ℕ). Some q) (sym (ready_in p).sqid);
  slot_is = (counts_before p).tail_is ∙ ap (λ (n : ℕ). length (posted_to (past_of p) p.x) % n) ((p.stands.numbers.cqs.each p.cqid p.x p.life).slots ∙ sym (p.stands.holds.tabled.cq_slots p.x));
  kept = kept p;
  flagged = flagged p;
  through = is_done p;
  stands = stands_after p;
}

-- the controller that the function leaves
abbrev pub left_by : Controller → List Slot → (cqid tag : ℕ) → CqState → Chain → Controller
left_by c slots cqid tag cq free = record (counted_post (record c { cqs = slice_set c.cqs cqid cq; readied = with_queue c.readied cqid (not (cq.ready.len == 0)) }) (slot_at slots tag)) { free = free }

-- no completion is ready in a queue that isn't open
none_open : (c : Controller) (slots : List Slot) (cqid : ℕ) → cq_at c.cqs cqid ≡ no_cq_state → IsChain slots (cq_at c.cqs cqid).ready []
none_open c slots cqid none = subst (λ (s : CqState). IsChain slots s.ready []) (sym none) (record { len_is = refl; inside = All-nil (λ (x : ℕ). x < length slots); apart = tt; linked = tt })

pub call_posts : (rules : FrontRules) (late : Bool) (notes : Notes) (c : Controller) (slots : List Slot) (cqid tag : ℕ) (cq : CqState) (free : Chain) (new : List Slot)
    → StandsAt rules late notes c slots → HasDone (cq_at c.cqs cqid) c.free slots (freed slots tag) tag cq free new
    → HasPosted rules late notes cqid (cq_at c.cqs cqid).ring.tail (completion_of c (slot_at slots tag) ((cq_at c.cqs cqid).phase == 1)) (slot_at slots tag).cookie (flags_in (slot_at slots tag)) (left_by c slots cqid tag cq free) new
call_posts rules late notes c slots cqid tag cq free new stands did = by (stands.content.cq_life cqid) refl where
  on : (x : ℕ) → stands.content.cq_life cqid ≡ Some x → (items : List ReadyItem) → stands.items.readies x ≡ items
      → HasPosted rules late notes cqid (cq_at c.cqs cqid).ring.tail (completion_of c (slot_at slots tag) ((cq_at c.cqs cqid).phase == 1)) (slot_at slots tag).cookie (flags_in (slot_at slots tag)) (left_by c slots cqid tag cq free) new
  on x life [] e = absurd (did.some (subst (λ (items : List ReadyItem). IsChain slots (cq_at c.cqs cqid).ready (ready_tags items)) e (stands.has.readies.chain cqid x life)))
  on x life (item ∷ rest) e =
      let same : item.tag ≡ tag = did.first item.tag (ready_tags rest) (subst (λ (items : List ReadyItem). IsChain slots (cq_at c.cqs cqid).ready (ready_tags items)) e (stands.has.readies.chain cqid x life)) in
      subst (λ (z : ℕ). HasPosted rules late notes cqid (cq_at c.cqs cqid).ring.tail (completion_of c (slot_at slots z) ((cq_at c.cqs cqid).phase == 1)) (slot_at slots z).cookie (flags_in (slot_at slots z)) (left_by c slots cqid z cq free) new) same
      (posted_call (record {
        rules = rules;
        late = late;
        notes = notes;
        c = c;
        slots = slots;
        cqid = cqid;
        x = x;
        item = item;
        rest = rest;
        cq = cq;
        free = free;
        new = new;
        stands = stands;
        life = life;
        are = e;
        did = subst (λ (z : ℕ). HasDone (cq_at c.cqs cqid) c.free slots (freed slots z) z cq free new) (sym same) did;
      }))

  by : (o : Option ℕ) → stands.content.cq_life cqid ≡ o
      → HasPosted rules late notes cqid (cq_at c.cqs cqid).ring.tail (completion_of c (slot_at slots tag) ((cq_at c.cqs cqid).phase == 1)) (slot_at slots tag).cookie (flags_in (slot_at slots tag)) (left_by c slots cqid tag cq free) new
  by None closed = absurd (did.some (none_open c slots cqid (stands.numbers.cqs.none cqid closed)))
  by (Some x) life = on x life (stands.items.readies x) refl

-- so do the steps of the function, one after another
pub steps_post : (rules : FrontRules) (late : Bool) (notes : Notes) (c put counted : Controller) (slots pool : List Slot) (cqid tag : ℕ) (old cq : CqState) (command : Slot) (free : Chain)
    (new : List Slot) (cqe : Cqe)
    → old ≡ cq_at c.cqs cqid → command ≡ slot_at slots tag → cqe ≡ completion_of c command (old.phase == 1) → put ≡ record c { cqs = slice_set c.cqs cqid cq; readied = with_queue c.readied cqid (not (cq.ready.len == 0)) }
    → counted ≡ counted_post put command → pool ≡ put_item slots tag (record command { state = 0 })
    → HasDone old counted.free slots pool tag cq free new → StandsAt rules late notes c slots
    → HasPosted rules late notes cqid old.ring.tail cqe command.cookie (flags_in command) (record counted { free = free }) new
steps_post rules late notes c put counted slots pool cqid tag old cq command free new cqe is_old is_command is_cqe is_put is_counted is_pool did stands =
    let first : cqe ≡ completion_of c (slot_at slots tag) ((cq_at c.cqs cqid).phase == 1) = is_cqe ∙ (λ j. completion_of c (is_command j) ((is_old j).phase == 1)) in
    let left : counted ≡ counted_post (record c { cqs = slice_set c.cqs cqid cq; readied = with_queue c.readied cqid (not (cq.ready.len == 0)) }) (slot_at slots tag) = is_counted ∙ (λ j. counted_post (is_put j) (is_command j)) in
    let pools : pool ≡ freed slots tag = is_pool ∙ ap (λ (s : Slot). put_item slots tag (record s { state = 0 })) is_command in
    let done : HasDone (cq_at c.cqs cqid) c.free slots (freed slots tag) tag cq free new =
    subst (λ (o : CqState). HasDone o c.free slots (freed slots tag) tag cq free new) is_old
    (subst (λ (b : Chain). HasDone old b slots (freed slots tag) tag cq free new) (ap (λ (k : Controller). k.free) left)
    (subst (λ (q : List Slot). HasDone old counted.free slots q tag cq free new) pools did)) in
    subst (λ (t : ℕ). HasPosted rules late notes cqid t cqe command.cookie (flags_in command) (record counted { free = free }) new) (sym (ap (λ (o : CqState). o.ring.tail) is_old))
    (subst (λ (s : Slot). HasPosted rules late notes cqid (cq_at c.cqs cqid).ring.tail cqe s.cookie (flags_in s) (record counted { free = free }) new) (sym is_command)
    (subst (λ (q : Cqe). HasPosted rules late notes cqid (cq_at c.cqs cqid).ring.tail q (slot_at slots tag).cookie (flags_in (slot_at slots tag)) (record counted { free = free }) new) (sym first)
    (subst (λ (k : Controller). HasPosted rules late notes cqid (cq_at c.cqs cqid).ring.tail (completion_of c (slot_at slots tag) ((cq_at c.cqs cqid).phase == 1)) (slot_at slots tag).cookie (flags_in (slot_at slots tag)) (record k { free = free }) new) (sym left)
    (call_posts rules late notes c slots cqid tag cq free new stands done))))
