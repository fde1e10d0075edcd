-- The phases of a queue at fetches, completions, finished deletions and picks.
use Rattle.std.proofs.Common.{◌≡◌, ℕ, ◌+◌, ◌<◌, ◌==◌, ◌&&◌, Bool, true, false, if◌then◌else◌, List, [], ◌∷◌, ◌++◌, length, map, Option, Some, None, refl, sym, ap, ◌∙◌, subst, arith, ◌⊎◌, inl, inr, eqb-true, zero, suc}
use Rattle.std.specs.Prelude.{slice_get}
use Rattle.std.specs.List.{list_any}
use Rattle.std.proofs.lemmas.Bool.{cases_Bool, cases_eq, eq-eqb, ne_eqb, or_cases, or_parts, or_right, or_left, and_parts, and_from}
use Rattle.std.proofs.lemmas.Option.{none-some, same_Some, slice_get_within}
use Rattle.std.proofs.lemmas.List.{append-nil}
use Rattle.nvme_entry.specs.AdminCommand.{admin_command_of}
use Rattle.nvme_entry.specs.declared.submission.Sqe.{Sqe}
use Rattle.nvme_entry.specs.declared.completion.Cqe.{Cqe}
use Rattle.nvme_entry.specs.declared.admin.AdminCommand.{AdminCommand}
use Rattle.nvme_entry.specs.declared.admin.AdminCommand.TheVariants.{DeleteSq, CreateSq}
use Rattle.nvme_arbiter.specs.Limits.{queue_limit}
use Rattle.nvme_arbiter.specs.declared.pick.Pick.{Pick}
use Rattle.nvme_arbiter.specs.declared.pick.Seen.{Seen}
use Rattle.nvme_arbiter.specs.declared.settings.Class.{Class}
use Rattle.nvme_admin.specs.History.{TableHistory, EntryApplied}
use Rattle.nvme_admin.specs.Changes.{IsDue, MayOpenSq, MayBeginDelete}
use Rattle.nvme_admin.specs.Checks.{is_success, is_open}
use Rattle.nvme_admin.specs.Accepted.{queue_table, sq_at, status_of, verdict_of}
use Rattle.nvme_admin.specs.declared.region.Region.{Region}
use Rattle.nvme_admin.specs.declared.verdict.SqEntry.{SqEntry}
use Rattle.nvme_admin.specs.declared.verdict.Verdict.{Verdict}
use Rattle.nvme_admin.specs.declared.verdict.Verdict.TheVariants as verdict
use Rattle.nvme_admin.proofs.Changed.{TellsChange-entry}
use Rattle.nvme_log.specs.declared.event.Event.TheVariants.{Fetch, OpenSq, Closing, Abort, Post, ClosedSq}
use Rattle.nvme_log.specs.declared.event.Event.TheVariants as event
use Rattle.nvme_log.specs.Rules.{FrontRules, Past, Each, upto, slots_at}
use Rattle.nvme_log.specs.Queues.{Queue, open_sq, has_region, is_open_region, qid_of_region}
use Rattle.nvme_log.specs.Places.{fetched, picked, waiting, entry_at}
use Rattle.nvme_log.specs.Histories.{table_history}
use Rattle.nvme_log.specs.Aborts.{is_index}
use Rattle.nvme_log.specs.Completions.{is_posted}
use Rattle.nvme_log.specs.Effects.{closing_of, made_by, made_last, effects_since, EffectsAtOnce}
use Rattle.nvme_log.specs.Laws.{as_open, StartsWithAdmin}
use Rattle.nvme_log.proofs.AbortAnswers.{entry-stays}
use Rattle.nvme_log.proofs.LoadedRegions.{region-owned}
use Rattle.nvme_log.proofs.Members.{IsIn}
use Rattle.nvme_log.proofs.Posts.{all_below}
use Rattle.nvme_log.proofs.Promise.{first-is_made}
use Rattle.nvme_log.proofs.Tables.{sync}
use Rattle.nvme_log.proofs.Turns.{opened-by, begun-by, closing_not_abort}
use Rattle.nvme_log.proofs.UsedRegions.{used_after, used-entry}
use Rattle.nvme_ctrl_log.specs.Deletions.{deleting, FollowsDeletions}
use Rattle.nvme_ctrl_log.specs.Doorbells.{sq_slots}
use Rattle.nvme_ctrl_log.specs.Making.{placing_in}
use Rattle.nvme_ctrl_log.proofs.FurtherHistories.{placing-stays}
use Rattle.nvme_ctrl_log.proofs.TakenCommands.{IsSound}
use Rattle.nvme_audit.specs.Lives.{turns_sq}
use Rattle.nvme_own_log.proofs.AdminTurns.{TakesNext, takes_next, few_picked, Turn, opens, deletes, neither, turn_of, regions_stay}
use Rattle.nvme_own_log.proofs.PickedCommands.{accepted_io, accepted_io_before, accepted_more, accepted_parts, made_is_by, pending_now, accepted_now}
use Rattle.nvme_own_log.proofs.Phases.{NoTurn, QuietBy, quiet_whole, IsPending, IsAccepted, NoneAccepted, AreAlone, Stage, untold, told_on, IsCreate, IsServed, Phase, closed, creating, made, told, deleting_it, going}

-- ---- lists
pub any_of : (t : ℕ → Bool) (xs : List ℕ) → list_any t xs ≡ true → (x : ℕ) × (t x ≡ true)
any_of t [] h = cc h
any_of t (x ∷ xs) h = elim (or_cases (t x) (list_any t xs) h) [
  | inl here ↦ (x, here)
  | inr later ↦ any_of t xs later
]

get_push : (xs : List Sqe) (y : Sqe) (p : ℕ) (x : Sqe) → slice_get (xs ++ y ∷ []) p ≡ Some x → (slice_get xs p ≡ Some x) ⊎ (p ≡ length xs)
get_push [] y zero x h = inr refl
get_push [] y (suc p) x h = absurd (none-some x h)
get_push (z ∷ xs) y zero x h = inl h
get_push (z ∷ xs) y (suc p) x h = elim (get_push xs y p x h) [
  | inl e ↦ inl e
  | inr e ↦ inr (ap (λ (k : ℕ). suc k) e ∙ refl)
]

aborts_turn_none : (q r : ℕ) (is : List ℕ) → NoTurn q (map (λ (i : ℕ). Abort r i) is)
aborts_turn_none q r is = ((λ s c k h. none s c k is h), (λ s h. closing_not_abort q s r is h)) where
  none : (s c : ℕ) (k : Class) (is : List ℕ) → IsIn (OpenSq q s c k) (map (λ (i : ℕ). Abort r i) is) → ⊥
  none s c k [] h = h
  none s c k (i ∷ is) (inl e) = cc e
  none s c k (i ∷ is) (inr h) = none s c k is h

module _ (rules : FrontRules) where
  -- the open queue of a region
  pub record IsOpenOn (past : Past) (q s : ℕ) : Type 0 where
    pub queue : Queue
    pub is_open : open_sq past q ≡ Some queue
    pub region : queue.region ≡ s

  pub open_on : (past : Past) → Each (EffectsAtOnce rules) past → (q s : ℕ) → is_open_region past s ≡ true → qid_of_region past s ≡ Some q → IsOpenOn past q s
  open_on past h q s is_open own =
      let some = any_of (λ (p : ℕ). has_region s (open_sq past p)) (upto queue_limit) is_open in
      by some.0 (open_sq past some.0) refl some.1 where
        by : (p : ℕ) (o : Option Queue) → open_sq past p ≡ o → has_region s o ≡ true → IsOpenOn past q s
        by p None is on = cc on
        by p (Some queue) is on =
            let region : queue.region ≡ s = eqb-true queue.region s on in
            let same : p ≡ q = same_Some p q (sym (region-owned rules past h p queue is) ∙ ap (qid_of_region past) region ∙ own) in
            record { queue = queue; is_open = subst (λ (k : ℕ). open_sq past k ≡ Some queue) same is; region = region }

  -- ---- fetches
  module _ (past : Past) (sound : IsSound rules past) (q s i : ℕ) (entry : Sqe) where
    served_fetch : (t : ℕ) → (s ≡ t → ⊥) → IsServed rules past t → IsServed rules (Fetch s i entry ∷ past) t
    served_fetch t other served k e at = served k e (subst (λ (b : Bool). slice_get (if b then fetched past t ++ entry ∷ [] else fetched past t) k ≡ Some e) (ne_eqb s t other) at)

    pending_fetch : (k : ℕ) (e : Sqe) → IsPending rules past k e → IsPending rules (Fetch s i entry ∷ past) k e
    pending_fetch k e p = (by (s == 0), p.1) where
      by : (b : Bool) → slice_get (if b then fetched past 0 ++ entry ∷ [] else fetched past 0) k ≡ Some e
      by true = entry-stays (fetched past 0) (entry ∷ []) k e p.0
      by false = p.0

    none_fetch : NoneAccepted rules past q → NoneAccepted rules (Fetch s i entry ∷ past) q
    none_fetch none k e p a turns = elim (by (s == 0) p.0) [
      | inl earlier ↦ none k e (earlier, p.1) a turns
      | inr last ↦ (let few = few_picked rules past sound in let below : k < picked past 0 = a.0 in omega (arith, few, below, last))
    ] where
      by : (b : Bool) → slice_get (if b then fetched past 0 ++ entry ∷ [] else fetched past 0) k ≡ Some e → (slice_get (fetched past 0) k ≡ Some e) ⊎ (k ≡ length (fetched past 0))
      by true at = get_push (fetched past 0) entry k e at
      by false at = inl at

    pub at_fetch : (st : Stage) → is_open_region past s ≡ true → EffectsAtOnce rules past (Fetch s i entry) → Phase rules past q st → Phase rules (Fetch s i entry ∷ past) q st
    at_fetch st is_open h (closed o served n y) =
        closed o (λ t own. served_fetch t (λ same. none-some _ (sym o ∙ (open_on past sound.effects q t (ap (is_open_region past) (sym same) ∙ is_open) own).is_open)) (served t own)) (none_fetch n) (quiet_whole q _ _ h)
    at_fetch st is_open h (creating k e r cqid class is p a o none made_is fresh served) =
        absurd (let same : Fetch s i entry ≡ OpenSq q r cqid class = first-is_made rules past (Fetch s i entry) (OpenSq q r cqid class) [] h none made_is in cc same)
    at_fetch st is_open h (made k e queue is p a o served y) =
        made k e queue is (pending_fetch k e p) a o
        (λ t own other. served_fetch t (λ same. let on = open_on past sound.effects q t (ap (is_open_region past) (sym same) ∙ is_open) own in
        other (sym on.region ∙ ap (λ (x : Queue). x.region) (same_Some on.queue queue (sym on.is_open ∙ o)))) (served t own other))
        (quiet_whole q _ _ h)
    at_fetch st is_open h (told queue o served n y) =
        told queue o
        (λ t own other. served_fetch t (λ same. let on = open_on past sound.effects q t (ap (is_open_region past) (sym same) ∙ is_open) own in
        other (sym on.region ∙ ap (λ (x : Queue). x.region) (same_Some on.queue queue (sym on.is_open ∙ o)))) (served t own other))
        (none_fetch n) (quiet_whole q _ _ h)
    at_fetch st is_open h (deleting_it k e queue more is p a l o none made_is m served) =
        absurd (let same : Fetch s i entry ≡ Closing q queue.region = first-is_made rules past (Fetch s i entry) (Closing q queue.region) more h none made_is in cc same)
    at_fetch st is_open h (going k e r cq is p a o own ends served y) =
        going k e r cq is (pending_fetch k e p) a o own
        (elim ends [
          | inl d ↦ inl d
          | inr all ↦ inr (served_fetch r (λ same. none-some _ (sym o ∙ (open_on past sound.effects q r (ap (is_open_region past) (sym same) ∙ is_open) own.0).is_open)) all)
        ])
        (λ t mine other. served_fetch t (λ same. none-some _ (sym o ∙ (open_on past sound.effects q t (ap (is_open_region past) (sym same) ∙ is_open) mine).is_open)) (served t mine other))
        (quiet_whole q _ _ h)

  -- ---- completions
  module _ (past : Past) (alone : AreAlone rules past) (q c s i : ℕ) (cqe : Cqe) where
    served_post : (t : ℕ) → IsServed rules past t → IsServed rules (Post c s i cqe ∷ past) t
    served_post t served k e at = or_right (s == t && i == k) (is_posted past t k) (served k e at)

    pending_before : (k : ℕ) (e : Sqe) → IsPending rules (Post c s i cqe ∷ past) k e → IsPending rules past k e
    pending_before k e p = (p.0, (or_parts (s == 0 && i == k) (is_posted past 0 k) p.1).1)

    pending_post : (k : ℕ) (e : Sqe) → (s == 0 && i == k) ≡ false → IsPending rules past k e → IsPending rules (Post c s i cqe ∷ past) k e
    pending_post k e other p = (p.0, rw other p.1)

    -- the completion of the one command that turns the queue
    none_left : (k : ℕ) (e : Sqe) → (s == 0 && i == k) ≡ true → IsPending rules past k e → turns_sq (admin_command_of e) q ≡ true → NoneAccepted rules (Post c s i cqe ∷ past) q
    none_left k e here p turns j o pending a turns_too =
        let same : k ≡ j = alone q k j e o p (pending_before j o pending) turns turns_too in
        let now : (s == 0 && i == j) ≡ true = ap (λ (z : ℕ). s == 0 && i == z) (sym same) ∙ here in
        let not_now : (s == 0 && i == j) ≡ false = (or_parts (s == 0 && i == j) (is_posted past 0 j) pending.1).0 in
        cc (now, not_now)

    -- the posted command turns the queue
    abbrev pub Turns : Sqe → Type 0
    Turns e = (s ≡ 0) × IsPending rules past i e × IsAccepted rules past i e × (turns_sq (admin_command_of e) q ≡ true)

    -- what the host is told by a completion: nothing, that the queue is there, or that it is gone
    pub data Telling : Stage → Type 0 where
      nothing : (st : Stage) → ((e : Sqe) → Turns e → ⊥) → Phase rules (Post c s i cqe ∷ past) q st → Telling st
      begins : (e : Sqe) (queue : Queue) → Turns e → IsCreate rules e q (sq_slots rules queue.region) queue.cqid → open_sq past q ≡ Some queue
          → Phase rules (Post c s i cqe ∷ past) q (told_on queue.region queue.cqid) → Telling untold
      finishes : (e : Sqe) (r cqid : ℕ) → Turns e → admin_command_of e ≡ DeleteSq q → open_sq past q ≡ None → Phase rules (Post c s i cqe ∷ past) q untold → Telling (told_on r cqid)

    -- the posted command is this one
    here_it_is : (k : ℕ) (e : Sqe) → (s == 0 && i == k) ≡ true → IsPending rules past k e → IsAccepted rules past k e → turns_sq (admin_command_of e) q ≡ true → Turns e
    here_it_is k e here p a turns =
        let parts = and_parts (s == 0) (i == k) here in
        let same : k ≡ i = sym (eqb-true i k parts.1) in
        (eqb-true s 0 parts.0, subst (λ (z : ℕ). IsPending rules past z e) same p, subst (λ (z : ℕ). IsAccepted rules past z e) same a, turns)

    -- another is posted, so none that turns it
    not_this : (k : ℕ) (e : Sqe) → (s == 0 && i == k) ≡ false → IsPending rules past k e → turns_sq (admin_command_of e) q ≡ true → (o : Sqe) → Turns o → ⊥
    not_this k e other p turns o t =
        let same : i ≡ k = alone q i k o e t.1 p t.3 turns in
        let now : (s == 0 && i == k) ≡ true = and_from (s == 0) (i == k) (eq-eqb s 0 t.0) (eq-eqb i k same) in
        cc (now, other)

    pub at_post : (st : Stage) → FollowsDeletions past (Post c s i cqe) → EffectsAtOnce rules past (Post c s i cqe) → Phase rules past q st → Telling st
    at_post st d h (closed o served n y) =
        nothing untold (λ e t. n i e t.1 t.2 t.3) (closed o (λ t own. served_post t (served t own)) (λ k e p a turns. n k e (pending_before k e p) a turns) (quiet_whole q _ _ h))
    at_post st d h (creating k e r cqid class is p a o none made_is fresh served) =
        absurd (let same : Post c s i cqe ≡ OpenSq q r cqid class = first-is_made rules past (Post c s i cqe) (OpenSq q r cqid class) [] h none made_is in cc same)
    at_post st d h (made k e queue is p a o served y) =
        let turns : turns_sq (admin_command_of e) q ≡ true = ap (λ (x : AdminCommand). turns_sq x q) is.command_is ∙ eq-eqb q q refl in
        elim (cases_Bool (s == 0 && i == k)) [
          | inl here ↦ begins e queue (here_it_is k e here p a turns) is o
              (told queue o (λ t own other. served_post t (served t own other)) (none_left k e here p turns) (quiet_whole q _ _ h))
          | inr other ↦ nothing untold (not_this k e other p turns) (made k e queue is (pending_post k e other p) a o (λ t own apart. served_post t (served t own apart)) (quiet_whole q _ _ h))
        ]
    at_post st d h (told queue o served n y) =
        nothing (told_on queue.region queue.cqid) (λ e t. n i e t.1 t.2 t.3)
        (told queue o (λ t own other. served_post t (served t own other)) (λ k e p a turns. n k e (pending_before k e p) a turns) (quiet_whole q _ _ h))
    at_post st d h (deleting_it k e queue more is p a l o none made_is m served) =
        absurd (let same : Post c s i cqe ≡ Closing q queue.region = first-is_made rules past (Post c s i cqe) (Closing q queue.region) more h none made_is in cc same)
    at_post st d h (going k e r cq is p a o own ends served y) =
        let turns : turns_sq (admin_command_of e) q ≡ true = ap (λ (x : AdminCommand). turns_sq x q) is ∙ eq-eqb q q refl in
        elim (cases_Bool (s == 0 && i == k)) [
          | inl here ↦
              let parts = and_parts (s == 0) (i == k) here in
              let ended : IsServed rules past r = elim ends [
                | inl deletes_it ↦
                    absurd (let no : (s == 0 && is_index i (deleting past r)) ≡ false = d.1 r in
                    let yes : (s == 0 && is_index i (deleting past r)) ≡ true = and_from (s == 0) (is_index i (deleting past r)) parts.0 (ap (is_index i) deletes_it ∙ eq-eqb k i (sym (eqb-true i k parts.1))) in cc (no, yes))
                | inr all ↦ all
              ] in
              finishes e r cq (here_it_is k e here p a turns) is o
              (closed o
              (λ t mine. elim (cases_eq t r) [
                | inl same ↦ served_post t (subst (IsServed rules past) (sym same) ended)
                | inr other ↦ served_post t (served t mine other)
              ])
              (none_left k e here p turns) (quiet_whole q _ _ h))
          | inr other ↦
              nothing (told_on r cq) (not_this k e other p turns)
              (going k e r cq is (pending_post k e other p) a o own
              (elim ends [ inl x ↦ inl x | inr all ↦ inr (served_post r all) ])
              (λ t mine apart. served_post t (served t mine apart)) (quiet_whole q _ _ h))
        ]

  -- ---- the end of a deletion
  pub at_closed : (past : Past) (q qid s : ℕ) (st : Stage) → FollowsDeletions past (ClosedSq qid s) → EffectsAtOnce rules past (ClosedSq qid s) → Phase rules past q st → Phase rules (ClosedSq qid s ∷ past) q st
  at_closed past q qid s st d h (closed o served n y) = closed o served n (quiet_whole q _ _ h)
  at_closed past q qid s st d h (creating k e r cqid class is p a o none made_is fresh served) =
      absurd (let same : ClosedSq qid s ≡ OpenSq q r cqid class = first-is_made rules past (ClosedSq qid s) (OpenSq q r cqid class) [] h none made_is in cc same)
  at_closed past q qid s st d h (made k e queue is p a o served y) = made k e queue is p a o served (quiet_whole q _ _ h)
  at_closed past q qid s st d h (told queue o served n y) = told queue o served n (quiet_whole q _ _ h)
  at_closed past q qid s st d h (deleting_it k e queue more is p a l o none made_is m served) =
      absurd (let same : ClosedSq qid s ≡ Closing q queue.region = first-is_made rules past (ClosedSq qid s) (Closing q queue.region) more h none made_is in cc same)
  at_closed past q qid s st d h (going k e r cq is p a o own ends served y) = going k e r cq is p a o own (by ends) served (quiet_whole q _ _ h) where
    by : (deleting past r ≡ Some k) ⊎ IsServed rules past r → (deleting (ClosedSq qid s ∷ past) r ≡ Some k) ⊎ IsServed rules (ClosedSq qid s ∷ past) r
    by (inr all) = inr all
    by (inl x) = elim (cases_eq s r) [
      | inl same ↦ inr (λ i entry at.
          subst (λ (z : ℕ). is_posted past z i ≡ true) same
          (all_below (λ (j : ℕ). is_posted past s j) (length (fetched past s)) d.2 i (slice_get_within (fetched past s) i entry (subst (λ (z : ℕ). entry_at past z i ≡ Some entry) (sym same) at))))
      | inr other ↦ inl (rw (ne_eqb s r other) x)
    ]

  -- ---- picks
  -- each region that was opened is used
  abbrev pub AreUsed : Past → Type 0
  AreUsed past = (s p : ℕ) → qid_of_region past s ≡ Some p → (queue_table rules.start (table_history rules past)).sq_region_used s ≡ true

  module _ (starts : StartsWithAdmin rules) (by_regions : placing_in rules ≡ None) (past : Past) (seen : List Seen) (pick : Pick) (sound : IsSound rules (event.Pick seen pick ∷ past)) (alone : AreAlone rules past)
      (used : AreUsed past) (unposted : pick.qid ≡ 0 → is_posted past 0 (picked past 0) ≡ false) (q : ℕ) where
    whole : effects_since past ≡ made_last rules past
    whole = sound.effects.0

    io : (pick.qid ≡ 0 → ⊥) → (st : Stage) → Phase rules past q st → Phase rules (event.Pick seen pick ∷ past) q st
    io other = by where
      quiet : QuietBy q [] (made_last rules (event.Pick seen pick ∷ past))
      quiet = quiet_whole q [] (made_last rules (event.Pick seen pick ∷ past)) (rw (ne_eqb pick.qid 0 other) refl)

      by : (st : Stage) → Phase rules past q st → Phase rules (event.Pick seen pick ∷ past) q st
      by st (closed o served n y) = closed o served (λ k e p a turns. n k e p (accepted_io_before rules past seen pick sound other k e a) turns) quiet
      by st (creating k e r cqid class is p a o none made_is fresh served) = absurd (let same : [] ≡ OpenSq q r cqid class ∷ [] = sym none ∙ whole ∙ made_is in cc same)
      by st (made k e queue is p a o served y) = made k e queue is p (accepted_io rules past seen pick sound other k e a) o served quiet
      by st (told queue o served n y) = told queue o served (λ k e p a turns. n k e p (accepted_io_before rules past seen pick sound other k e a) turns) quiet
      by st (deleting_it k e queue more is p a l o none made_is m served) = absurd (let same : [] ≡ Closing q queue.region ∷ more = sym none ∙ whole ∙ made_is in cc same)
      by st (going k e r cq is p a o own ends served y) = going k e r cq is p (accepted_io rules past seen pick sound other k e a) o own ends served quiet

    module _ (admin : pick.qid ≡ 0) where
      abbrev next : TakesNext rules past seen pick
      next = takes_next rules past seen pick sound admin

      abbrev table : TableHistory
      table = table_history rules past

      -- the open queues are those of the table
      queue_is : open_sq past q ≡ as_open (sq_at rules.start table q)
      queue_is = (sync rules starts past sound.effects.1 [] (append-nil (effects_since past) ∙ whole)).sq q

      plain : ((region cqid : ℕ) (class : Class) → verdict_of rules.start table next.entry ≡ verdict.OpenSq q region cqid class → ⊥) → (verdict_of rules.start table next.entry ≡ verdict.BeginDelete q → ⊥)
          → (is_success (status_of rules.start table next.entry) ≡ true → turns_sq (admin_command_of next.entry) q ≡ false) → (st : Stage) → Phase rules past q st → Phase rules (event.Pick seen pick ∷ past) q st
      plain opens_none deletes_none leaves = by where
        quiet : QuietBy q [] (made_last rules (event.Pick seen pick ∷ past))
        quiet rest is =
            let made_so : rest ≡ made_by past (verdict_of rules.start table next.entry) = is ∙ made_is_by rules past seen pick sound admin in (
              (λ r c k h. opens_none r c k (opened-by past (verdict_of rules.start table next.entry) q r c k (subst (IsIn (OpenSq q r c k)) made_so h))),
              (λ r h. deletes_none (begun-by past (verdict_of rules.start table next.entry) q r (subst (IsIn (Closing q r)) made_so h))),
            )

        none_more : NoneAccepted rules past q → NoneAccepted rules (event.Pick seen pick ∷ past) q
        none_more n k e p a turns = elim (accepted_parts rules past seen pick sound admin k e p a) [
          | inl earlier ↦ n k e p earlier turns
          | inr mine ↦
              let no : turns_sq (admin_command_of next.entry) q ≡ false = leaves mine.1 in
              let yes : turns_sq (admin_command_of next.entry) q ≡ true = ap (λ (x : Sqe). turns_sq (admin_command_of x) q) mine.0 ∙ turns in
              cc (no, yes)
        ]

        by : (st : Stage) → Phase rules past q st → Phase rules (event.Pick seen pick ∷ past) q st
        by st (closed o served n y) = closed o served (none_more n) quiet
        by st (creating k e r cqid class is p a o none made_is fresh served) = absurd (let same : [] ≡ OpenSq q r cqid class ∷ [] = sym none ∙ whole ∙ made_is in cc same)
        by st (made k e queue is p a o served y) = made k e queue is p (accepted_more rules past seen pick sound admin k e a) o served quiet
        by st (told queue o served n y) = told queue o served (none_more n) quiet
        by st (deleting_it k e queue more is p a l o none made_is m served) = absurd (let same : [] ≡ Closing q queue.region ∷ more = sym none ∙ whole ∙ made_is in cc same)
        by st (going k e r cq is p a o own ends served y) = going k e r cq is p (accepted_more rules past seen pick sound admin k e a) o own ends served quiet

      -- the pending command that turned the queue is another
      not_both : (k : ℕ) (e : Sqe) → IsPending rules past k e → IsAccepted rules past k e → turns_sq (admin_command_of e) q ≡ true → turns_sq (admin_command_of next.entry) q ≡ true → ⊥
      not_both k e p a turns turns_too =
          let same : k ≡ picked past 0 = alone q k (picked past 0) e next.entry p (pending_now rules past seen pick sound admin (unposted admin)) turns turns_too in
          let below : k < picked past 0 = a.0 in
          absurd (omega (arith, same, below))

      creates : (qsize prp1 cqid qprio : ℕ) (pc : Bool) (region : ℕ) (class : Class) → is_success (status_of rules.start table next.entry) ≡ true → admin_command_of next.entry ≡ CreateSq q qsize prp1 cqid qprio pc
          → verdict_of rules.start table next.entry ≡ verdict.OpenSq q region cqid class → ((queue_table rules.start table).placing ≡ None → slots_at (queue_table rules.start table).sq_regions region ≡ qsize + 1)
          → (st : Stage) → Phase rules past q st → Phase rules (event.Pick seen pick ∷ past) q st
      creates qsize prp1 cqid qprio pc region class success command_is verdict_is slots = by where
        turns : turns_sq (admin_command_of next.entry) q ≡ true
        turns = ap (λ (x : AdminCommand). turns_sq x q) command_is ∙ eq-eqb q q refl

        due : MayOpenSq (queue_table rules.start table) q region cqid class
        due = subst (IsDue (queue_table rules.start table)) verdict_is (TellsChange-entry rules.start table next.entry).due

        none_open : open_sq past q ≡ None
        none_open = queue_is ∙ ap as_open due.free

        slots_are : sq_slots rules region ≡ qsize + 1
        slots_are = ap (λ (rs : List Region). slots_at rs region) (sym (regions_stay rules past)) ∙ slots (placing-stays rules past ∙ by_regions)

        unopened : (o : Option ℕ) → qid_of_region past region ≡ o → qid_of_region past region ≡ None
        unopened None is = is
        unopened (Some p) is = absurd (let yes = used region p is in let no : (queue_table rules.start table).sq_region_used region ≡ false = due.unused in cc (yes, no))

        used_now : (queue_table rules.start (table_history rules (event.Pick seen pick ∷ past))).sq_region_used region ≡ true
        used_now =
            subst (λ (t : TableHistory). (queue_table rules.start t).sq_region_used region ≡ true) (sym (history_is))
            (used-entry rules.start table next.entry region ∙ ap (λ (v : Verdict). used_after v (queue_table rules.start table).sq_region_used region) verdict_is ∙ or_left (region == region) _ (eq-eqb region region refl)) where
              history_is : table_history rules (event.Pick seen pick ∷ past) ≡ EntryApplied next.entry ∷ table
              history_is = rw (eq-eqb pick.qid 0 admin, next.entry_is) refl

        by : (st : Stage) → Phase rules past q st → Phase rules (event.Pick seen pick ∷ past) q st
        by st (closed o served n y) =
            creating (picked past 0) next.entry region cqid class (record { qsize = qsize; prp1 = prp1; qprio = qprio; pc = pc; command_is = command_is; slots_are = slots_are })
            (pending_now rules past seen pick sound admin (unposted admin)) (accepted_now rules past seen pick sound admin success) o refl (made_is_by rules past seen pick sound admin ∙ ap (made_by past) verdict_is) (unopened (qid_of_region past region) refl, used_now) served
        by st (creating k e r c cl is p a o none made_is fresh served) = absurd (let same : [] ≡ OpenSq q r c cl ∷ [] = sym none ∙ whole ∙ made_is in cc same)
        by st (made k e queue is p a o served y) = absurd (none-some queue (sym none_open ∙ o))
        by st (told queue o served n y) = absurd (none-some queue (sym none_open ∙ o))
        by st (deleting_it k e queue more is p a l o none made_is m served) = absurd (none-some queue (sym none_open ∙ o))
        by st (going k e r cq is p a o own ends served y) = absurd (not_both k e p a (ap (λ (x : AdminCommand). turns_sq x q) is ∙ eq-eqb q q refl) turns)

      ends : is_success (status_of rules.start table next.entry) ≡ true → admin_command_of next.entry ≡ DeleteSq q → verdict_of rules.start table next.entry ≡ verdict.BeginDelete q
          → (st : Stage) → Phase rules past q st → Phase rules (event.Pick seen pick ∷ past) q st
      ends success command_is verdict_is = by where
        turns : turns_sq (admin_command_of next.entry) q ≡ true
        turns = ap (λ (x : AdminCommand). turns_sq x q) command_is ∙ eq-eqb q q refl

        due : MayBeginDelete (queue_table rules.start table) q
        due = subst (IsDue (queue_table rules.start table)) verdict_is (TellsChange-entry rules.start table next.entry).due

        not_closed : open_sq past q ≡ None → ⊥
        not_closed o = with_entry (sq_at rules.start table q) due.open_sq (sym queue_is ∙ o) where
          with_entry : (x : Option SqEntry) → is_open x ≡ true → as_open x ≡ None → ⊥
          with_entry None opened none = cc opened
          with_entry (Some entry) opened none = by_closing entry.closing refl opened none where
            by_closing : (b : Bool) → entry.closing ≡ b → is_open (Some entry) ≡ true → as_open (Some entry) ≡ None → ⊥
            by_closing true e opened_so none_so = let closed_now : is_open (Some entry) ≡ false = rw e refl in cc (closed_now, opened_so)
            by_closing false e opened_so none_so = let some : as_open (Some entry) ≡ Some (record { region = entry.region; cqid = entry.cqid; class = entry.class }) = rw e refl in none-some _ (sym none_so ∙ some)

        by : (st : Stage) → Phase rules past q st → Phase rules (event.Pick seen pick ∷ past) q st
        by st (closed o served n y) = absurd (not_closed o)
        by st (creating k e r c cl is p a o none made_is fresh served) = absurd (let same : [] ≡ OpenSq q r c cl ∷ [] = sym none ∙ whole ∙ made_is in cc same)
        by st (made k e queue is p a o served y) = absurd (not_both k e p a (ap (λ (x : AdminCommand). turns_sq x q) is.command_is ∙ eq-eqb q q refl) turns)
        by st (told queue o served n y) =
            deleting_it (picked past 0) next.entry queue (map (λ (i : ℕ). Abort queue.region i) (waiting past queue.region)) command_is (pending_now rules past seen pick sound admin (unposted admin)) (accepted_now rules past seen pick sound admin success)
            (rw (eq-eqb pick.qid 0 admin) next.oldest) o refl
            (made_is_by rules past seen pick sound admin ∙ ap (made_by past) verdict_is ∙ ap (closing_of past q) o)
            (aborts_turn_none q queue.region (waiting past queue.region)) served
        by st (deleting_it k e queue more is p a l o none made_is m served) = absurd (let same : [] ≡ Closing q queue.region ∷ more = sym none ∙ whole ∙ made_is in cc same)
        by st (going k e r cq is p a o own d served y) = absurd (not_closed o)

      of_admin : (st : Stage) → Phase rules past q st → Phase rules (event.Pick seen pick ∷ past) q st
      of_admin st phase = by (turn_of rules.start table next.entry q) where
        by : Turn (queue_table rules.start table).placing (queue_table rules.start table).sq_regions (verdict_of rules.start table next.entry) (admin_command_of next.entry) (is_success (status_of rules.start table next.entry)) q
            → Phase rules (event.Pick seen pick ∷ past) q st
        by (opens qsize prp1 cqid qprio pc region class success command_is verdict_is slots) = creates qsize prp1 cqid qprio pc region class success command_is verdict_is slots st phase
        by (deletes success command_is verdict_is) = ends success command_is verdict_is st phase
        by (neither a b c) = plain a b c st phase

    pub at_pick : (st : Stage) → Phase rules past q st → Phase rules (event.Pick seen pick ∷ past) q st
    at_pick st phase = elim (cases_eq pick.qid 0) [
      | inl admin ↦ of_admin admin st phase
      | inr other ↦ io other st phase
    ]
