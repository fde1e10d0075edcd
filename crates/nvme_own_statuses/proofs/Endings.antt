-- While a submission queue is closing in the table, its Delete is pending.
use Rattle.std.proofs.Common.{◌≡◌, ℕ, ◌<◌, ◌≤◌, ◌==◌, ◌&&◌, length, Bool, true, false, not, if◌then◌else◌, List, [], ◌∷◌, ◌++◌, Option, Some, None, refl, sym, ap, ◌∙◌, subst, arith, ◌⊎◌, inl, inr, eqb-true}
use Rattle.std.specs.Prelude.{slice_get, option_map}
use Rattle.std.proofs.lemmas.Bool.{cases_eq, eq-eqb, ne_eqb, or_parts, and_parts, and_from, false_from_ne_true}
use Rattle.std.proofs.lemmas.Option.{none-some, same_Some}
use Rattle.std.proofs.lemmas.List.{append-nil}
use Rattle.nvme_entry.specs.AdminCommand.{admin_command_of}
use Rattle.nvme_entry.specs.declared.submission.Sqe.{Sqe}
use Rattle.nvme_entry.specs.declared.completion.Cqe.{Cqe}
use Rattle.nvme_entry.specs.declared.admin.AdminCommand.{AdminCommand}
use Rattle.nvme_entry.specs.declared.admin.AdminCommand.TheVariants.{DeleteSq, CreateSq, DeleteCq, CreateCq, Abort, SetFeatures, GetFeatures, Other}
use Rattle.nvme_arbiter.specs.declared.settings.Class.{Class}
use Rattle.nvme_arbiter.specs.declared.pick.Pick.{Pick}
use Rattle.nvme_arbiter.specs.declared.pick.Seen.{Seen}
use Rattle.nvme_admin.specs.History.{Start, TableHistory, EntryApplied, Effects, Accepted}
use Rattle.nvme_admin.specs.QueueTable.{as_closing, unless_closing, io_sq_in, sq_in, table_in}
use Rattle.nvme_admin.specs.Checks.{is_success, is_open, status_over}
use Rattle.nvme_admin.specs.Accepted.{effects_of, queue_table, sq_at, status_of}
use Rattle.nvme_admin.specs.declared.verdict.SqEntry.{SqEntry}
use Rattle.nvme_admin.proofs.Changed.{finish-takes_one}
use Rattle.nvme_admin.proofs.Reached.{Passes, delete_sq-found}
use Rattle.nvme_log.specs.declared.event.Event.{Event}
use Rattle.nvme_log.specs.declared.event.Event.TheVariants as event
use Rattle.nvme_log.specs.Rules.{FrontRules, Past}
use Rattle.nvme_log.specs.Queues.{Queue, open_sq, qid_of_region}
use Rattle.nvme_log.specs.Places.{fetched, picked, entry_at}
use Rattle.nvme_log.specs.Histories.{table_history, applied}
use Rattle.nvme_log.specs.Aborts.{is_index}
use Rattle.nvme_log.specs.Completions.{is_posted, table_before}
use Rattle.nvme_log.specs.Effects.{made_last, effects_since, EffectsAtOnce}
use Rattle.nvme_log.specs.Account.{latest_admin_place}
use Rattle.nvme_log.specs.Laws.{as_open, StartsWithAdmin}
use Rattle.nvme_log.proofs.AbortAnswers.{entry-stays}
use Rattle.nvme_log.proofs.LoadedRegions.{region-owned}
use Rattle.nvme_log.proofs.Promise.{first-is_made}
use Rattle.nvme_log.proofs.Tables.{sync}
use Rattle.nvme_ctrl_log.specs.Notes.{Notes, Logged, logged}
use Rattle.nvme_ctrl_log.specs.Deletions.{deleting}
use Rattle.nvme_ctrl_log.specs.Making.{placing_in}
use Rattle.nvme_ctrl_log.proofs.TakenCommands.{IsSound}
use Rattle.nvme_audit.specs.Lives.{turns_sq}
use Rattle.nvme_own_log.proofs.AdminTurns.{TakesNext, takes_next, takes_other, few_picked}
use Rattle.nvme_own_log.proofs.Answered.{passes}
use Rattle.nvme_own_log.proofs.IoQueues.{sound}
use Rattle.nvme_own_log.proofs.OwnRegions.{opens_io}
use Rattle.nvme_own_log.proofs.Phases.{IsPending, IsAccepted, Stage, Phase, closed, creating, made, told, deleting_it, going, opened_fresh}
use Rattle.nvme_own_statuses.proofs.Starts.{StartsWithNoDeletion}
use Rattle.nvme_own_statuses.proofs.Standing.{Stands, stands_before, io_at}
use Rattle.nvme_own_statuses.proofs.TellsNotes.{split}

-- ---- the table
-- the end of a deletion leaves no closing queue
unless_closed : (o : Option SqEntry) (x : SqEntry) → unless_closing o ≡ Some x → x.closing ≡ true → ⊥
unless_closed None x is c = none-some x is
unless_closed (Some y) x is c = by y.closing refl is where
  by : (b : Bool) → y.closing ≡ b → (if b then None else Some y) ≡ Some x → ⊥
  by true e k = none-some x k
  by false e k = let same : y.closing ≡ x.closing = ap (λ (z : SqEntry). z.closing) (same_Some y x k) in cc (same, e, c)

-- a queue is closing after a command where it was, or this is its Delete
command_closes : (c : AdminCommand) (e : Effects) (q : ℕ) (x : SqEntry) → io_sq_in (Accepted c ∷ e) q ≡ Some x → x.closing ≡ true → (io_sq_in e q ≡ Some x) ⊎ (c ≡ DeleteSq q)
command_closes (CreateSq qid qsize prp1 cqid qprio pc) e q x is c = by (qid == q) _ refl is where
  by : (b : Bool) (y : SqEntry) → y.closing ≡ false → (if b then Some y else io_sq_in e q) ≡ Some x → (io_sq_in e q ≡ Some x) ⊎ (CreateSq qid qsize prp1 cqid qprio pc ≡ DeleteSq q)
  by true y f k = absurd (let same : y.closing ≡ x.closing = ap (λ (z : SqEntry). z.closing) (same_Some y x k) in cc (same, f, c))
  by false y f k = inl k
command_closes (DeleteSq qid) e q x is c = elim (cases_eq qid q) [
  | inl same ↦ inr (ap (λ (n : ℕ). DeleteSq n) same)
  | inr other ↦ inl (subst (λ (b : Bool). (if b then option_map as_closing (io_sq_in e q) else io_sq_in e q) ≡ Some x) (ne_eqb qid q other) is)
]
command_closes (DeleteCq qid) e q x is c = inl is
command_closes (CreateCq qid qsize prp1 pc) e q x is c = inl is
command_closes (Abort sqid cid) e q x is c = inl is
command_closes (SetFeatures fid sv cdw11) e q x is c = inl is
command_closes (GetFeatures fid) e q x is c = inl is
command_closes Other e q x is c = inl is

io_of : (e : Effects) (q : ℕ) → (q ≡ 0 → ⊥) → sq_in e q ≡ io_sq_in e q
io_of e q io = rw (ne_eqb q 0 io) refl

entry_closes : (start : Start) (h : TableHistory) (entry : Sqe) (q : ℕ) (x : SqEntry) → (q ≡ 0 → ⊥) → sq_at start (EntryApplied entry ∷ h) q ≡ Some x → x.closing ≡ true
    → (sq_at start h q ≡ Some x) ⊎ ((is_success (status_of start h entry) ≡ true) × (admin_command_of entry ≡ DeleteSq q))
unfolding effects_of queue_table status_of
entry_closes start h entry q x io is c = by (is_success (status_over (table_in start (effects_of start h)) entry)) refl is where
  by : (b : Bool) → is_success (status_over (table_in start (effects_of start h)) entry) ≡ b → sq_in (if b then Accepted (admin_command_of entry) ∷ effects_of start h else effects_of start h) q ≡ Some x
      → (sq_in (effects_of start h) q ≡ Some x) ⊎ ((is_success (status_over (table_in start (effects_of start h)) entry) ≡ true) × (admin_command_of entry ≡ DeleteSq q))
  by false e k = inl k
  by true e k = elim (command_closes (admin_command_of entry) (effects_of start h) q x (sym (io_of (Accepted (admin_command_of entry) ∷ effects_of start h) q io) ∙ k) c) [
    | inl before ↦ inl (io_of (effects_of start h) q io ∙ before)
    | inr delete ↦ inr (e, delete)
  ]

not_closed : (o : Option SqEntry) → is_open o ≡ true → as_open o ≡ None → ⊥
not_closed None opened none = cc opened
not_closed (Some x) opened none = by x.closing opened none where
  by : (b : Bool) → not b ≡ true → if◌then◌else◌ {A = Option Queue} b None (Some (record { region = x.region; cqid = x.cqid; class = x.class })) ≡ None → ⊥
  by true o n = cc o
  by false o n = cc n

pub delete_turns : (c : AdminCommand) (q : ℕ) → c ≡ DeleteSq q → turns_sq c q ≡ true
delete_turns c q is = ap (λ (x : AdminCommand). turns_sq x q) is ∙ eq-eqb q q refl

module _ (rules : FrontRules) where
  -- its deletion is to begin at once
  pub record IsDue (past : Past) (q place region : ℕ) : Type 0 where
    pub none : effects_since past ≡ []
    pub more : List Event
    pub made_is : made_last rules past ≡ event.Closing q region ∷ more
    pub latest : latest_admin_place past ≡ Some place

  -- its Delete is pending: the deletion is to begin at once, or it began and isn't finished
  pub record IsEnding (past : Past) (q : ℕ) : Type 0 where
    pub place : ℕ
    pub entry : Sqe
    pub region : ℕ
    pub pending : IsPending rules past place entry
    pub accepted : IsAccepted rules past place entry
    pub delete : admin_command_of entry ≡ DeleteSq q
    pub own : qid_of_region past region ≡ Some q
    pub how : IsDue past q place region ⊎ (deleting past region ≡ Some place)

  abbrev pub AreEnding : Past → Type 0
  AreEnding past = (q : ℕ) → (q ≡ 0 → ⊥) → (x : SqEntry) → sq_at rules.start (table_history rules past) q ≡ Some x → x.closing ≡ true → IsEnding past q

  -- an event that begins no deletion
  still : (past : Past) (e : Event) (q : ℕ) → EffectsAtOnce rules past e → ((p r : ℕ) → e ≡ event.Closing p r → ⊥) → (it : IsEnding past q)
      → ((r : ℕ) → qid_of_region past r ≡ Some q → deleting past r ≡ Some it.place
      → IsPending rules (e ∷ past) it.place it.entry × IsAccepted rules (e ∷ past) it.place it.entry × (qid_of_region (e ∷ past) r ≡ Some q) × (deleting (e ∷ past) r ≡ Some it.place))
      → IsEnding (e ∷ past) q
  still past e q h other it f = elim it.how [
    | inl due ↦ absurd (other q it.region (first-is_made rules past e (event.Closing q it.region) due.more h due.none due.made_is))
    | inr d ↦ (let z = f it.region it.own d in record { place = it.place; entry = it.entry; region = it.region; pending = z.0; accepted = z.1; delete = it.delete; own = z.2; how = inr z.3 })
  ]

  -- ---- a pick
  module _ (past : Past) (seen : List Seen) (pick : Pick) (s : IsSound rules (event.Pick seen pick ∷ past)) where
    accepted_later : (k : ℕ) (a : Sqe) → IsAccepted rules past k a → IsAccepted rules (event.Pick seen pick ∷ past) k a
    accepted_later k a ok = elim (cases_eq pick.qid 0) [
      | inr io ↦ (
        let lt : k < picked past 0 = ok.0 in omega (arith, lt, takes_other rules past seen pick s io),
        subst (λ (t : TableHistory). is_success (status_of rules.start t a) ≡ true) (let same : table_before rules past k ≡ table_before rules (event.Pick seen pick ∷ past) k = rw (ne_eqb pick.qid 0 io) refl in same) ok.1,
      )
      | inl z ↦
          let next : TakesNext rules past seen pick = takes_next rules past seen pick s z in
          let lt : k < picked past 0 = ok.0 in
          let old : table_before rules past k ≡ table_before rules (event.Pick seen pick ∷ past) k = rw (eq-eqb pick.qid 0 z, next.oldest, ne_eqb (picked past 0) k (λ e. omega (arith, lt, e))) refl in
          (omega (arith, next.one_more, lt), subst (λ (t : TableHistory). is_success (status_of rules.start t a) ≡ true) old ok.1)
    ]

    ending_later : (q : ℕ) → IsEnding past q → IsEnding (event.Pick seen pick ∷ past) q
    ending_later q it = still past (event.Pick seen pick) q s.effects.0 (λ p r same. cc same) it (λ r own d. (it.pending, accepted_later it.place it.entry it.accepted, own, d))

    -- of a Delete that is picked now
    module _ (starts : StartsWithAdmin rules) (z : pick.qid ≡ 0) (fresh : is_posted past 0 (picked past 0) ≡ false) (q : ℕ)
        (alone : (q k j : ℕ) (one other : Sqe) → IsPending rules past k one → IsPending rules past j other → turns_sq (admin_command_of one) q ≡ true → turns_sq (admin_command_of other) q ≡ true → k ≡ j) where
      abbrev next : TakesNext rules past seen pick
      next = takes_next rules past seen pick s z

      module _ (success : is_success (status_of rules.start (table_history rules past) next.entry) ≡ true) (delete : admin_command_of next.entry ≡ DeleteSq q) where
        here : IsPending rules past (picked past 0) next.entry
        here = (next.is_there, fresh)

        turns : turns_sq (admin_command_of next.entry) q ≡ true
        turns = delete_turns (admin_command_of next.entry) q delete

        accepted : IsAccepted rules (event.Pick seen pick ∷ past) (picked past 0) next.entry
        accepted =
            let now : table_history rules past ≡ table_before rules (event.Pick seen pick ∷ past) (picked past 0) = rw (eq-eqb pick.qid 0 z, next.oldest, eq-eqb (picked past 0) (picked past 0) refl) refl in
            (omega (arith, next.one_more), subst (λ (t : TableHistory). is_success (status_of rules.start t next.entry) ≡ true) now success)

        opened : open_sq past q ≡ None → ⊥
        opened none =
            let found = delete_sq-found (queue_table rules.start (table_history rules past)) q (subst (Passes (queue_table rules.start (table_history rules past))) delete (passes rules.start (table_history rules past) next.entry success)) in
            not_closed (sq_at rules.start (table_history rules past) q) found.1 (sym ((sync rules starts past s.effects.1 [] (append-nil (effects_since past) ∙ s.effects.0)).sq q) ∙ none)

        no_create : (k : ℕ) (e : Sqe) (qsize prp1 cqid qprio : ℕ) (pc : Bool) → IsPending rules past k e → admin_command_of e ≡ CreateSq q qsize prp1 cqid qprio pc → ⊥
        no_create k e qsize prp1 cqid qprio pc p is =
            let too : turns_sq (admin_command_of e) q ≡ true = ap (λ (x : AdminCommand). turns_sq x q) is ∙ eq-eqb q q refl in
            let same : picked past 0 ≡ k = alone q (picked past 0) k next.entry e here p turns too in
            let entry : next.entry ≡ e = same_Some next.entry e (sym next.is_there ∙ ap (entry_at past 0) same ∙ p.0) in
            let both : DeleteSq q ≡ CreateSq q qsize prp1 cqid qprio pc = sym delete ∙ ap (λ (x : Sqe). admin_command_of x) entry ∙ is in
            cc both

        begins : (st : Stage) → Phase rules (event.Pick seen pick ∷ past) q st → IsEnding (event.Pick seen pick ∷ past) q
        begins st (closed o served n y) = absurd (n (picked past 0) next.entry here accepted turns)
        begins st (creating k e r cqid class is p a o none made_is free served) = absurd (no_create k e is.qsize is.prp1 cqid is.qprio is.pc p is.command_is)
        begins st (made k e queue is p a o served y) = absurd (no_create k e is.qsize is.prp1 queue.cqid is.qprio is.pc p is.command_is)
        begins st (told queue o served n y) = absurd (n (picked past 0) next.entry here accepted turns)
        begins st (deleting_it k e queue more is p a l o none made_is m served) =
            record { place = k; entry = e; region = queue.region; pending = p; accepted = a; delete = is; own = region-owned rules (event.Pick seen pick ∷ past) s.effects q queue o; how = inl (record { none = none; more = more; made_is = made_is; latest = l }) }
        begins st (going k e r cq is p a o own ends served y) = absurd (opened o)

  -- ---- notes
  module _ (starts : StartsWithAdmin rules) (by_regions : placing_in rules ≡ None) (none_at_start : StartsWithNoDeletion rules) where
    ending_pick : (seen : List Seen) (pick : Pick) (notes : Notes) → Stands rules (Logged (event.Pick seen pick) ∷ notes) → AreEnding (logged notes) → AreEnding (event.Pick seen pick ∷ logged notes)
    ending_pick seen pick notes s before q io x is c = elim (cases_eq pick.qid 0) [
      | inr other ↦
          let same : table_history rules (event.Pick seen pick ∷ logged notes) ≡ table_history rules (logged notes) = rw (ne_eqb pick.qid 0 other) refl in
          ending_later (logged notes) seen pick is_sound q (before q io x (ap (λ (t : TableHistory). sq_at rules.start t q) (sym same) ∙ is) c)
      | inl z ↦
          let next : TakesNext rules (logged notes) seen pick = takes_next rules (logged notes) seen pick is_sound z in
          let after : table_history rules (event.Pick seen pick ∷ logged notes) ≡ EntryApplied next.entry ∷ table_history rules (logged notes) =
          (λ i. if eq-eqb pick.qid 0 z i then applied (next.entry_is i) ++ table_history rules (logged notes) else table_history rules (logged notes)) in
          elim (entry_closes rules.start (table_history rules (logged notes)) next.entry q x io (ap (λ (t : TableHistory). sq_at rules.start t q) (sym after) ∙ is) c) [
            | inl old ↦ ending_later (logged notes) seen pick is_sound q (before q io x old c)
            | inr new ↦
                let at = (io_at rules starts by_regions (Logged (event.Pick seen pick) ∷ notes) s).queue q io in
                begins (logged notes) seen pick is_sound starts z fresh q (io_at rules starts by_regions notes b).alone new.0 new.1 at.stage at.phase
          ]
    ] where
      b : Stands rules notes
      b = stands_before rules (Logged (event.Pick seen pick)) notes s

      is_sound : IsSound rules (event.Pick seen pick ∷ logged notes)
      is_sound = sound rules starts by_regions (Logged (event.Pick seen pick) ∷ notes) s.each s.lawful

      fresh : is_posted (logged notes) 0 (picked (logged notes) 0) ≡ false
      fresh = false_from_ne_true (is_posted (logged notes) 0 (picked (logged notes) 0)) (λ p. let few = (io_at rules starts by_regions notes b).picked_posts (picked (logged notes) 0) p in omega (arith, few))

    ending_fetch : (t j : ℕ) (entry : Sqe) (notes : Notes) → Stands rules (Logged (event.Fetch t j entry) ∷ notes) → AreEnding (logged notes) → AreEnding (event.Fetch t j entry ∷ logged notes)
    ending_fetch t j entry notes s before q io x is c =
        let it = before q io x is c in
        still (logged notes) (event.Fetch t j entry) q s.each.0.effects_at_once (λ p r same. cc same) it (λ r own d. ((longer (t == 0) it.place it.entry it.pending.0, it.pending.1), it.accepted, own, d)) where
          longer : (y : Bool) (k : ℕ) (a : Sqe) → entry_at (logged notes) 0 k ≡ Some a → slice_get (if y then fetched (logged notes) 0 ++ entry ∷ [] else fetched (logged notes) 0) k ≡ Some a
          longer true k a at = entry-stays (fetched (logged notes) 0) (entry ∷ []) k a at
          longer false k a at = at

    ending_post : (y t j : ℕ) (cqe : Cqe) (notes : Notes) → Stands rules (Logged (event.Post y t j cqe) ∷ notes) → AreEnding (logged notes) → AreEnding (event.Post y t j cqe ∷ logged notes)
    ending_post y t j cqe notes s before q io x is c =
        let it = before q io x is c in
        still (logged notes) (event.Post y t j cqe) q s.each.0.effects_at_once (λ p r same. cc same) it (λ r own d. ((it.pending.0, rw (other r it.place d) it.pending.1), it.accepted, own, d)) where
          other : (r k : ℕ) → deleting (logged notes) r ≡ Some k → (t == 0 && j == k) ≡ false
          other r k d = false_from_ne_true (t == 0 && j == k) (λ both.
              let parts = and_parts (t == 0) (j == k) both in
              let no : (t == 0 && is_index j (deleting (logged notes) r)) ≡ false = s.each.0.deletes.1 r in
              let yes : (t == 0 && is_index j (deleting (logged notes) r)) ≡ true = and_from (t == 0) (is_index j (deleting (logged notes) r)) parts.0 (ap (is_index j) d ∙ eq-eqb k j (sym (eqb-true j k parts.1))) in
              cc (no, yes))

    ending_open : (p t y : ℕ) (class : Class) (notes : Notes) → Stands rules (Logged (event.OpenSq p t y class) ∷ notes) → AreEnding (logged notes) → AreEnding (event.OpenSq p t y class ∷ logged notes)
    ending_open p t y class notes s before q io x is c =
        let it = before q io x is c in
        still (logged notes) (event.OpenSq p t y class) q s.each.0.effects_at_once (λ p r same. cc same) it
        (λ r own d. (it.pending, it.accepted, rw (ne_eqb t r (λ same. none-some q (sym free ∙ ap (qid_of_region (logged notes)) same ∙ own))) own, d)) where
          free : qid_of_region (logged notes) t ≡ None
          free =
              let at = (io_at rules starts by_regions notes (stands_before rules (Logged (event.OpenSq p t y class)) notes s)).queue p (opens_io rules (logged notes) p t y class s.each.0.effects_at_once) in
              (opened_fresh rules (logged notes) p t y class at.stage s.each.0.effects_at_once at.phase).0

    ending_closing : (p t : ℕ) (notes : Notes) → Stands rules (Logged (event.Closing p t) ∷ notes) → AreEnding (logged notes) → AreEnding (event.Closing p t ∷ logged notes)
    ending_closing p t notes s before q io x is c =
        let it = before q io x is c in
        let later : deleting (event.Closing p t ∷ logged notes) it.region ≡ Some it.place = elim it.how [
          | inl due ↦
              let same : event.Closing p t ≡ event.Closing q it.region = first-is_made rules (logged notes) (event.Closing p t) (event.Closing q it.region) due.more s.each.0.effects_at_once due.none due.made_is in
              let region : t ≡ it.region = cc same in
              rw (eq-eqb t it.region region) due.latest
          | inr d ↦ rw (ne_eqb t it.region (λ same. none-some it.place (sym s.each.0.deletes.0 ∙ ap (deleting (logged notes)) same ∙ d))) d
        ] in
        record { place = it.place; entry = it.entry; region = it.region; pending = it.pending; accepted = it.accepted; delete = it.delete; own = it.own; how = inr later }

    ending_closed : (p t : ℕ) (notes : Notes) → Stands rules (Logged (event.ClosedSq p t) ∷ notes) → AreEnding (logged notes) → AreEnding (event.ClosedSq p t ∷ logged notes)
    ending_closed p t notes s before q io x is c = elim (cases_eq p q) [
      | inl same ↦ absurd (unless_closed (sq_at rules.start (table_history rules (logged notes)) q) x (subst (λ (y : Bool). (if y then unless_closing (sq_at rules.start (table_history rules (logged notes)) q) else sq_at rules.start (table_history rules (logged notes)) q) ≡ Some x) (eq-eqb p q same) taken) c)
      | inr other ↦
          let it = before q io x (subst (λ (y : Bool). (if y then unless_closing (sq_at rules.start (table_history rules (logged notes)) q) else sq_at rules.start (table_history rules (logged notes)) q) ≡ Some x) (ne_eqb p q other) taken) c in
          still (logged notes) (event.ClosedSq p t) q s.each.0.effects_at_once (λ p r same. cc same) it
          (λ r own d. (it.pending, it.accepted, own, rw (ne_eqb t r (λ same. other (same_Some p q (sym s.each.0.deletes.1 ∙ ap (qid_of_region (logged notes)) same ∙ own)))) d))
    ] where
      taken : (if p == q then unless_closing (sq_at rules.start (table_history rules (logged notes)) q) else sq_at rules.start (table_history rules (logged notes)) q) ≡ Some x
      taken = sym (finish-takes_one rules.start (table_history rules (logged notes)) p q) ∙ is

    ending_effect : (e : Event) (notes : Notes) (q : ℕ) → EffectsAtOnce rules (logged notes) e → ((p r : ℕ) → e ≡ event.Closing p r → ⊥) → (it : IsEnding (logged notes) q)
        → (IsPending rules (logged notes) it.place it.entry → IsPending rules (e ∷ logged notes) it.place it.entry) → (IsAccepted rules (logged notes) it.place it.entry → IsAccepted rules (e ∷ logged notes) it.place it.entry)
        → ((r : ℕ) → qid_of_region (logged notes) r ≡ Some q → qid_of_region (e ∷ logged notes) r ≡ Some q) → ((r : ℕ) → deleting (logged notes) r ≡ Some it.place → deleting (e ∷ logged notes) r ≡ Some it.place) → IsEnding (e ∷ logged notes) q
    ending_effect e notes q h other it p a own d = still (logged notes) e q h other it (λ r mine ends. (p it.pending, a it.accepted, own r mine, d r ends))

    pub ending_at : (notes : Notes) → Stands rules notes → AreEnding (logged notes)
    ending_at [] s = λ q io x is c. absurd (let open_now = none_at_start q x is in cc (open_now, c))
    ending_at (Logged (event.Fetch r i entry) ∷ notes) s = ending_fetch r i entry notes s (ending_at notes (stands_before rules (Logged (event.Fetch r i entry)) notes s))
    ending_at (Logged (event.Pick seen pick) ∷ notes) s = ending_pick seen pick notes s (ending_at notes (stands_before rules (Logged (event.Pick seen pick)) notes s))
    ending_at (Logged (event.Post c r i cqe) ∷ notes) s = ending_post c r i cqe notes s (ending_at notes (stands_before rules (Logged (event.Post c r i cqe)) notes s))
    ending_at (Logged (event.OpenSq p r c k) ∷ notes) s = ending_open p r c k notes s (ending_at notes (stands_before rules (Logged (event.OpenSq p r c k)) notes s))
    ending_at (Logged (event.Closing p r) ∷ notes) s = ending_closing p r notes s (ending_at notes (stands_before rules (Logged (event.Closing p r)) notes s))
    ending_at (Logged (event.ClosedSq p r) ∷ notes) s = ending_closed p r notes s (ending_at notes (stands_before rules (Logged (event.ClosedSq p r)) notes s))
    ending_at (Logged e ∷ notes) s = λ q io x is c. ending_effect e notes q s.each.0.effects_at_once (λ p r same. cc same) (ending_at notes (stands_before rules (Logged e) notes s) q io x is c) (λ p. p) (λ a. a) (λ r own. own) (λ r d. d)
    ending_at (note ∷ notes) s = ending_at notes (stands_before rules note notes s)

    -- ---- the pick of a command that turns a queue
    -- no queue is closing at the pick of a pending command that turns it
    abbrev AreUnclosed : Past → Type 0
    AreUnclosed past = (k q : ℕ) (a : Sqe) → IsPending rules past k a → k < picked past 0 → turns_sq (admin_command_of a) q ≡ true → (q ≡ 0 → ⊥) → (x : SqEntry) → sq_at rules.start (table_before rules past k) q ≡ Some x → x.closing ≡ true → ⊥

    unclosed_pick : (seen : List Seen) (pick : Pick) (notes : Notes) → Stands rules (Logged (event.Pick seen pick) ∷ notes) → AreUnclosed (logged notes) → AreUnclosed (event.Pick seen pick ∷ logged notes)
    unclosed_pick seen pick notes s before k q a p lt turns io x is c = elim (cases_eq pick.qid 0) [
      | inr other ↦ old (rw (ne_eqb pick.qid 0 other) refl) (omega (arith, lt, takes_other rules (logged notes) seen pick is_sound other))
      | inl z ↦
          let next : TakesNext rules (logged notes) seen pick = takes_next rules (logged notes) seen pick is_sound z in
          elim (cases_eq k (picked (logged notes) 0)) [
            | inr apart ↦ old (rw (eq-eqb pick.qid 0 z, next.oldest, ne_eqb (picked (logged notes) 0) k (λ e. apart (sym e))) refl) (omega (arith, lt, apart, next.one_more))
            | inl here ↦
                let now : table_before rules (event.Pick seen pick ∷ logged notes) k ≡ table_history rules (logged notes) = rw (eq-eqb pick.qid 0 z, next.oldest, eq-eqb (picked (logged notes) 0) k (sym here)) refl in
                let it = ending_at notes b q io x (subst (λ (t : TableHistory). sq_at rules.start t q ≡ Some x) now is) c in
                let same : k ≡ it.place = (io_at rules starts by_regions notes b).alone q k it.place a it.entry p it.pending turns (delete_turns (admin_command_of it.entry) q it.delete) in
                let below : it.place < picked (logged notes) 0 = it.accepted.0 in
                omega (arith, here, same, below)
          ]
    ] where
      b : Stands rules notes
      b = stands_before rules (Logged (event.Pick seen pick)) notes s

      is_sound : IsSound rules (event.Pick seen pick ∷ logged notes)
      is_sound = sound rules starts by_regions (Logged (event.Pick seen pick) ∷ notes) s.each s.lawful

      old : table_before rules (event.Pick seen pick ∷ logged notes) k ≡ table_before rules (logged notes) k → k < picked (logged notes) 0 → ⊥
      old same few = before k q a p few turns io x (ap (λ (t : TableHistory). sq_at rules.start t q) (sym same) ∙ is) c

    unclosed_fetch : (t j : ℕ) (entry : Sqe) (notes : Notes) → Stands rules (Logged (event.Fetch t j entry) ∷ notes) → AreUnclosed (logged notes) → AreUnclosed (event.Fetch t j entry ∷ logged notes)
    unclosed_fetch t j entry notes s before k q a p lt turns io x is c = elim (split rules starts by_regions t j entry notes s 0 k a p.0) [
      | inl old ↦ before k q a (old, p.1) lt turns io x is c
      | inr new ↦ (
          let b = stands_before rules (Logged (event.Fetch t j entry)) notes s in
          let few : picked (logged notes) 0 ≤ length (fetched (logged notes) 0) = few_picked rules (logged notes) (sound rules starts by_regions notes b.each b.lawful) in
          omega (arith, lt, few, new.1))
    ]

    pub unclosed_at : (notes : Notes) → Stands rules notes → AreUnclosed (logged notes)
    unclosed_at [] s = λ k q a p lt turns io x is c. absurd (none-some a p.0)
    unclosed_at (Logged (event.Fetch r i entry) ∷ notes) s = unclosed_fetch r i entry notes s (unclosed_at notes (stands_before rules (Logged (event.Fetch r i entry)) notes s))
    unclosed_at (Logged (event.Pick seen pick) ∷ notes) s = unclosed_pick seen pick notes s (unclosed_at notes (stands_before rules (Logged (event.Pick seen pick)) notes s))
    unclosed_at (Logged (event.Post y r i cqe) ∷ notes) s =
        let before = unclosed_at notes (stands_before rules (Logged (event.Post y r i cqe)) notes s) in
        λ k q a p lt turns io x is c. before k q a (p.0, (or_parts (r == 0 && i == k) (is_posted (logged notes) 0 k) p.1).1) lt turns io x is c
    unclosed_at (Logged e ∷ notes) s = unclosed_at notes (stands_before rules (Logged e) notes s)
    unclosed_at (note ∷ notes) s = unclosed_at notes (stands_before rules note notes s)
