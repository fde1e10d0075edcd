-- The answers of admin commands are foreseen by the commands before them.
use Rattle.std.proofs.Common.{◌≡◌, ℕ, zero, suc, ◌+◌, ◌<◌, ◌≤◌, ◌==◌, ◌&&◌, nat_lt, Bool, true, false, not, if◌then◌else◌, List, [], ◌∷◌, ◌++◌, length, map, take, drop, reverse, filter, Option, Some, None, refl, sym, ap, ◌∙◌, subst, arith, add-one, append_assoc, ◌⊎◌, inl, inr}
use Rattle.std.specs.Prelude.{slice_get, option_and_then}
use Rattle.std.proofs.lemmas.Bool.{eq-eqb, ne_eqb, cases_eq, ltb-true, false_from_ne_true}
use Rattle.std.proofs.lemmas.Option.{none-some, same_Some, slice_get_within}
use Rattle.std.proofs.lemmas.List.{append-nil, take-append-le, reverse-append}
use Rattle.nvme_entry.specs.declared.submission.Sqe.{Sqe}
use Rattle.nvme_entry.specs.declared.completion.Cqe.{Cqe}
use Rattle.nvme_arbiter.specs.Lawful.{IsLawfulRun}
use Rattle.nvme_arbiter.specs.declared.pick.Seen.{Seen}
use Rattle.nvme_arbiter.specs.declared.pick.Pick.{Pick}
use Rattle.nvme_arbiter.proofs.PickLaws.{whole_is_limited}
use Rattle.nvme_admin.specs.Changes.{IsDue, MayBeginDelete}
use Rattle.nvme_admin.specs.Checks.{is_open}
use Rattle.nvme_admin.specs.History.{TableHistory, EntryApplied, DeletionFinished}
use Rattle.nvme_admin.specs.Accepted.{queue_table, sq_at, status_of, verdict_of}
use Rattle.nvme_admin.specs.declared.verdict.SqEntry.{SqEntry}
use Rattle.nvme_admin.specs.declared.verdict.Verdict.{Verdict}
use Rattle.nvme_admin.specs.declared.verdict.Verdict.TheVariants.{Done, BeginDelete, CloseCq}
use Rattle.nvme_admin.specs.declared.verdict.Verdict.TheVariants as verdict
use Rattle.nvme_admin.proofs.Changed.{TellsChange-entry}
use Rattle.nvme_log.specs.declared.event.Event.{Event}
use Rattle.nvme_log.specs.declared.event.Event.TheVariants.{Fetch, SetArbitration, OpenSq, OpenCq, Closing, Abort, Post, ClosedSq, ClosedCq}
use Rattle.nvme_log.specs.declared.event.Event.TheVariants as event
use Rattle.nvme_log.specs.Rules.{Past, FrontRules, Each, upto}
use Rattle.nvme_log.specs.Queues.{Queue, admin_queue, Deletion, open_sq, has_region, pending}
use Rattle.nvme_log.specs.Places.{fetched, picked, waiting, WasAborted, WasPicked, Waits, is_waiting, is_aborted, unaborted_below, entry_at}
use Rattle.nvme_log.specs.Histories.{arbitration_of, table_history, admin_entry, applied}
use Rattle.nvme_log.specs.Aborts.{is_index}
use Rattle.nvme_log.specs.Answers.{Executor, by_outcome}
use Rattle.nvme_log.specs.Completions.{table_before, own_status_by}
use Rattle.nvme_log.specs.Effects.{closing_of, made_by, made_of, made_last, effects_since, EffectsAtOnce}
use Rattle.nvme_log.specs.Account.{Observed, Deletes, PostsOwnBy, ServedWhileOpen, IsAccountBy}
use Rattle.nvme_log.specs.Dispatches.{place_at}
use Rattle.nvme_log.specs.Laws.{as_open, StartsWithAdmin, QueuesAre}
use Rattle.nvme_log.specs.Foreseen.{finished_after, foreseen, AnswersAreForeseen}
use Rattle.nvme_log.proofs.AbortAnswers.{entry-stays}
use Rattle.nvme_log.proofs.AdminPicks.{one_of_admin}
use Rattle.nvme_log.proofs.Fates.{length-upto}
use Rattle.nvme_log.proofs.LoadedPlaces.{are-counted}
use Rattle.nvme_log.proofs.LogLengths.{TakesWaiting, TakesSome, each-takes}
use Rattle.nvme_log.proofs.Members.{IsIn, in-first}
use Rattle.nvme_log.proofs.Prefixes.{Each-after, accounted_by}
use Rattle.nvme_log.proofs.Promise.{first-is_made}
use Rattle.nvme_log.proofs.Tables.{sync}
use Rattle.nvme_log.proofs.Turns.{in-waits, closing_not_abort, begun-by, admin-stays, region-io, admin-unaborted}
use Rattle.nvme_log.proofs.Waiting.{left, unaborted, waiting_is-drop, picked-pick, picked-pick_other}

-- ---- lists
keep_all : (xs : List ℕ) → filter (λ (i : ℕ). true) xs ≡ xs
keep_all [] = refl
keep_all (x ∷ xs) = ap (λ (ys : List ℕ). x ∷ ys) (keep_all xs)

get-drop : {T : Type 0} (p : ℕ) (xs : List T) → slice_get (drop p xs) 0 ≡ slice_get xs p
get-drop zero xs = refl
get-drop (suc p) [] = refl
get-drop (suc p) (x ∷ xs) = get-drop p xs

get-push : {T : Type 0} (xs : List T) (y : T) (p : ℕ) (x : T) → slice_get (xs ++ y ∷ []) p ≡ Some x → (slice_get xs p ≡ Some x) ⊎ ((p ≡ length xs) × (y ≡ x))
get-push [] y zero x h = inr (refl, same_Some y x h)
get-push [] y (suc p) x h = absurd (none-some x h)
get-push (z ∷ xs) y zero x h = inl h
get-push (z ∷ xs) y (suc p) x h = elim (get-push xs y p x h) [
  | inl e ↦ inl e
  | inr e ↦ inr (ap (λ (k : ℕ). suc k) e.0 ∙ refl, e.1)
]

get-upto : (n p j : ℕ) → slice_get (upto n) p ≡ Some j → p ≡ j
get-upto zero p j h = absurd (none-some j h)
get-upto (suc n) p j h = elim (get-push (upto n) n p j h) [
  | inl e ↦ get-upto n p j e
  | inr e ↦ e.0 ∙ length-upto n ∙ e.1
]

-- what stands at a place of a list
record StandsAt (xs : List Sqe) (k : ℕ) : Type 0 where
  pub entry : Sqe
  pub is : slice_get xs k ≡ Some entry

at-below : (xs : List Sqe) (k : ℕ) → k < length xs → StandsAt xs k
at-below [] k lt = absurd (omega (arith, lt))
at-below (x ∷ xs) zero lt = record { entry = x; is = refl }
at-below (x ∷ xs) (suc k) lt = let it = at-below xs k (omega (arith, lt)) in record { entry = it.entry; is = it.is }

take-one_more : (xs : List Sqe) (k : ℕ) (x : Sqe) → slice_get xs k ≡ Some x → take (suc k) xs ≡ take k xs ++ x ∷ []
take-one_more [] k x h = absurd (none-some x h)
take-one_more (y ∷ xs) zero x h = ap (λ (z : Sqe). z ∷ []) (same_Some y x h)
take-one_more (y ∷ xs) (suc k) x h = ap (λ (zs : List Sqe). y ∷ zs) (take-one_more xs k x h)

-- the first commands, the latest first
abbrev first_ones : ℕ → List Sqe → List Sqe
first_ones k xs = reverse (take k xs)

one-more : (xs : List Sqe) (k : ℕ) (x : Sqe) → slice_get xs k ≡ Some x → first_ones (k + 1) xs ≡ x ∷ first_ones k xs
one-more xs k x h = ap (λ (n : ℕ). first_ones n xs) (add-one k) ∙ ap reverse (take-one_more xs k x h) ∙ reverse-append (take k xs) (x ∷ [])

-- stay where the list grows
grown : (xs ys : List Sqe) (k : ℕ) → k ≤ length xs → first_ones k (xs ++ ys) ≡ first_ones k xs
grown xs ys k le = ap reverse (take-append-le k xs ys le)

-- ---- what a verdict finishes
record Begins (v : Verdict) : Type 0 where
  pub qid : ℕ
  pub is : v ≡ BeginDelete qid

record BeginsNone (v : Verdict) : Type 0 where
  pub none : (qid : ℕ) → v ≡ BeginDelete qid → ⊥
  pub same : (h : TableHistory) → finished_after v h ≡ h

begins : (v : Verdict) → Begins v ⊎ BeginsNone v
begins (Done status dw0) = inr (record { none = λ qid e. cc e; same = λ h. refl })
begins (verdict.OpenSq q r c k) = inr (record { none = λ qid e. cc e; same = λ h. refl })
begins (verdict.OpenCq q r) = inr (record { none = λ qid e. cc e; same = λ h. refl })
begins (BeginDelete q) = inl (record { qid = q; is = refl })
begins (CloseCq q) = inr (record { none = λ qid e. cc e; same = λ h. refl })
begins (verdict.Abort s c) = inr (record { none = λ qid e. cc e; same = λ h. refl })
begins (verdict.SetArbitration settings) = inr (record { none = λ qid e. cc e; same = λ h. refl })

-- an open queue of a table
record OpenHere (o : Option Queue) : Type 0 where
  pub queue : Queue
  pub is : o ≡ Some queue

open-entry : (o : Option SqEntry) → is_open o ≡ true → OpenHere (as_open o)
open-entry None h = cc h
open-entry (Some entry) h = by entry.closing refl h where
  by : (b : Bool) → entry.closing ≡ b → not b ≡ true → OpenHere (as_open (Some entry))
  by true e k = cc k
  by false e k = record { queue = record { region = entry.region; cqid = entry.cqid; class = entry.class }; is = ap (λ (b : Bool). if b then None else Some (record { region = entry.region; cqid = entry.cqid; class = entry.class })) e }

module _ (rules : FrontRules) where
  -- ---- the places of the admin queue
  admin-waiting : (past : Past) → Each (EffectsAtOnce rules) past → waiting past 0 ≡ drop (picked past 0) (upto (length (fetched past 0)))
  admin-waiting past h =
      let none : (λ (i : ℕ). is_aborted past 0 i) ≡ (λ (i : ℕ). false) = λ t i. false_from_ne_true (is_aborted past 0 i) (λ a. admin-unaborted rules past h i a) t in
      let all : unaborted past 0 ≡ upto (length (fetched past 0)) = ap (λ (f : ℕ → Bool). left f (length (fetched past 0))) none ∙ keep_all (upto (length (fetched past 0))) in
      waiting_is-drop past 0 ∙ ap (drop (picked past 0)) all

  -- the oldest that waits is the one behind those that were picked
  oldest-is : (past : Past) → Each (EffectsAtOnce rules) past → (j : ℕ) → slice_get (waiting past 0) 0 ≡ Some j → picked past 0 ≡ j
  oldest-is past h j is =
      get-upto (length (fetched past 0)) (picked past 0) j
      (sym (get-drop (picked past 0) (upto (length (fetched past 0)))) ∙ ap (λ (xs : List ℕ). slice_get xs 0) (sym (admin-waiting past h)) ∙ is)

  -- no other queue has the region
  own-region : (past : Past) (q : ℕ) → Each (EffectsAtOnce rules) past → q ≡ 0 → has_region 0 (open_sq past q) ≡ true
  own-region past q h z = ap (λ (k : ℕ). has_region 0 (open_sq past k)) z ∙ ap (has_region 0) (admin-stays rules past h)

  other-region : (past : Past) (q : ℕ) → Each (EffectsAtOnce rules) past → (q ≡ 0 → ⊥) → has_region 0 (open_sq past q) ≡ false
  other-region past q h io = by (open_sq past q) refl where
    by : (o : Option Queue) → open_sq past q ≡ o → has_region 0 o ≡ false
    by None is = refl
    by (Some queue) is = ne_eqb queue.region 0 (region-io rules past h q queue is io)

  -- ---- the table history
  abbrev fore : ℕ → List Sqe → TableHistory
  fore k entries = foreseen rules.start rules.regions (first_ones k entries)

  -- that which the picked admin commands let foresee
  abbrev fore_of : Past → TableHistory
  fore_of past = fore (picked past 0) (fetched past 0)

  -- no Closing is among what the latest command still makes
  abbrev NoneDue : Past → Type 0
  NoneDue past = (q r : ℕ) (rest : List Event) → effects_since past ++ rest ≡ made_last rules past → IsIn (Closing q r) rest → ⊥

  -- no deletion is due or pending: the history is as foreseen
  record IsDone (past : Past) : Type 0 where
    pub history : table_history rules past ≡ fore_of past
    pub none_pending : pending past ≡ None
    pub none_due : NoneDue past

  -- a command was picked that begins a deletion
  record IsPicked (past : Past) : Type 0 where
    pub qid : ℕ
    pub region : ℕ
    pub more : List Event
    pub history : DeletionFinished qid ∷ table_history rules past ≡ fore_of past
    pub none_yet : effects_since past ≡ []
    pub makes : made_last rules past ≡ Closing qid region ∷ more
    pub others : (q r : ℕ) → IsIn (Closing q r) more → ⊥

  -- a deletion is pending
  record IsGoing (past : Past) : Type 0 where
    pub qid : ℕ
    pub region : ℕ
    pub history : DeletionFinished qid ∷ table_history rules past ≡ fore_of past
    pub pending_is : pending past ≡ Some (record { qid = qid; region = region })
    pub none_due : NoneDue past

  abbrev Stage : Past → Type 0
  Stage past = IsDone past ⊎ (IsPicked past ⊎ IsGoing past)

  -- an effect that is no Closing
  due-less : (past : Past) (e : Event) → NoneDue past → (q r : ℕ) (rest : List Event) → (effects_since past ++ e ∷ []) ++ rest ≡ made_last rules past → IsIn (Closing q r) rest → ⊥
  due-less past e none q r rest is among = none q r (e ∷ rest) (sym (append_assoc (effects_since past) (e ∷ []) rest) ∙ is) (inr among)

  -- a command's first effect is a Closing, and so not another event
  not-first : (past : Past) (e : Event) (p : IsPicked past) → EffectsAtOnce rules past e → (e ≡ Closing p.qid p.region → ⊥) → ⊥
  not-first past e p h other = other (first-is_made rules past e (Closing p.qid p.region) p.more h p.none_yet p.makes)

  -- a Closing that is next isn't due nowhere
  not-due : (past : Past) (q r : ℕ) → EffectsAtOnce rules past (Closing q r) → NoneDue past → ⊥
  not-due past q r h none = none q r (Closing q r ∷ h.0) (sym (append_assoc (effects_since past) (Closing q r ∷ []) h.0) ∙ h.1) (inl refl)

  -- the events that leave history, places and the pending deletion
  plain : (past : Past) (e : Event) → table_history rules (e ∷ past) ≡ table_history rules past → fore_of (e ∷ past) ≡ fore_of past → pending (e ∷ past) ≡ pending past
      → (NoneDue past → NoneDue (e ∷ past)) → (IsPicked past → ⊥) → Stage past → Stage (e ∷ past)
  plain past e th fo pe due none (inl d) = inl (record { history = th ∙ d.history ∙ sym fo; none_pending = pe ∙ d.none_pending; none_due = due d.none_due })
  plain past e th fo pe due none (inr (inl p)) = absurd (none p)
  plain past e th fo pe due none (inr (inr g)) =
      inr (inr (record { qid = g.qid; region = g.region; history = ap (λ (t : TableHistory). DeletionFinished g.qid ∷ t) th ∙ g.history ∙ sym fo; pending_is = pe ∙ g.pending_is; none_due = due g.none_due }))

  -- a fetch leaves the first commands
  fore-fetch : (past : Past) (region index : ℕ) (entry : Sqe) (k : ℕ) → k ≤ length (fetched past 0)
      → fore k (fetched (Fetch region index entry ∷ past) 0) ≡ fore k (fetched past 0)
  fore-fetch past region index entry k le = by (region == 0) where
    by : (b : Bool) → fore k (if b then fetched past 0 ++ entry ∷ [] else fetched past 0) ≡ fore k (fetched past 0)
    by true = ap (foreseen rules.start rules.regions) (grown (fetched past 0) (entry ∷ []) k le)
    by false = refl

  -- no more was picked than was fetched
  few-picked : (past : Past) → Each (EffectsAtOnce rules) past → Each Observed past → IsLawfulRun rules.mechanism rules.start.settings (arbitration_of past)
      → picked past 0 ≤ length (fetched past 0)
  few-picked past h o l =
      let it = are-counted rules past h o l 0 in
      let none : (λ (i : ℕ). is_aborted past 0 i) ≡ (λ (i : ℕ). false) = λ t i. false_from_ne_true (is_aborted past 0 i) (λ a. admin-unaborted rules past h i a) t in
      let all : unaborted past 0 ≡ upto (length (fetched past 0)) = ap (λ (f : ℕ → Bool). left f (length (fetched past 0))) none ∙ keep_all (upto (length (fetched past 0))) in
      omega (arith, it.few_picked, ap length all, length-upto (length (fetched past 0)))

  -- ---- a pick of an admin command
  module _ (starts : StartsWithAdmin rules) (past : Past) (seen : List Seen) (pick : Pick) (effects : Each (EffectsAtOnce rules) past) (all : effects_since past ≡ made_last rules past)
      (admin : pick.qid ≡ 0) (one : pick.n ≡ 1) (takes : TakesWaiting past pick) (done : IsDone past) where
    abbrev first : ℕ
    first = picked past 0

    -- the entry that it takes
    oldest : slice_get (waiting past 0) 0 ≡ Some first
    oldest =
        let same : Some takes.queue ≡ Some admin_queue = sym takes.is_open ∙ ap (open_sq past) admin ∙ admin-stays rules past effects in
        let zero_is : takes.queue.region ≡ 0 = ap (λ (q : Queue). q.region) (same_Some _ _ same) in
        let is : waiting past 0 ≡ takes.first ∷ takes.others = ap (waiting past) (sym zero_is) ∙ takes.wait in
        let at : slice_get (waiting past 0) 0 ≡ Some takes.first = ap (λ (xs : List ℕ). slice_get xs 0) is in
        at ∙ ap Some (sym (oldest-is past effects takes.first at))

    there : StandsAt (fetched past 0) first
    there = at-below (fetched past 0) first (in-waits past 0 first (in-first first (waiting past 0) oldest)).0

    abbrev entry : Sqe
    entry = there.entry

    entry-is : admin_entry past ≡ Some entry
    entry-is = ap (option_and_then (entry_at past 0)) oldest ∙ there.is

    abbrev after : Past
    after = event.Pick seen pick ∷ past

    abbrev v : Verdict
    v = verdict_of rules.start (table_history rules past) entry

    history-is : table_history rules after ≡ EntryApplied entry ∷ table_history rules past
    history-is =
        ap (λ (b : Bool). if b then applied (admin_entry past) ++ table_history rules past else table_history rules past) (eq-eqb pick.qid 0 admin)
        ∙ ap (λ (o : Option Sqe). applied o ++ table_history rules past) entry-is

    picked-is : picked after 0 ≡ first + 1
    picked-is = picked-pick past seen pick 0 (own-region past pick.qid effects admin) ∙ ap (λ (n : ℕ). first + n) one

    -- what is foreseen
    fore-is : fore_of after ≡ finished_after v (EntryApplied entry ∷ table_history rules past)
    fore-is =
        ap (λ (n : ℕ). fore n (fetched past 0)) picked-is
        ∙ ap (foreseen rules.start rules.regions) (one-more (fetched past 0) first entry there.is)
        ∙ ap (λ (t : TableHistory). finished_after (verdict_of rules.start t entry) (EntryApplied entry ∷ t)) (sym done.history)

    makes : made_last rules after ≡ made_by past v
    makes = ap (λ (b : Bool). if b then made_of rules past (admin_entry past) else []) (eq-eqb pick.qid 0 admin) ∙ ap (made_of rules past) entry-is

    picked-stage : Stage after
    picked-stage = elim (begins v) [
      | inl b ↦
          let due : MayBeginDelete (queue_table rules.start (table_history rules past)) b.qid = subst (IsDue (queue_table rules.start (table_history rules past))) b.is (TellsChange-entry rules.start (table_history rules past) entry).due in
          let queues : QueuesAre rules (table_history rules past) past = sync rules starts past effects [] (append-nil (effects_since past) ∙ all) in
          let opened = open-entry (sq_at rules.start (table_history rules past) b.qid) due.open_sq in
          let is : open_sq past b.qid ≡ Some opened.queue = queues.sq b.qid ∙ opened.is in
          inr (inl (record {
            qid = b.qid;
            region = opened.queue.region;
            more = map (λ (i : ℕ). Abort opened.queue.region i) (waiting past opened.queue.region);
            history = ap (λ (t : TableHistory). DeletionFinished b.qid ∷ t) history-is ∙ sym (fore-is ∙ ap (λ (w : Verdict). finished_after w (EntryApplied entry ∷ table_history rules past)) b.is);
            none_yet = refl;
            makes = makes ∙ ap (made_by past) b.is ∙ ap (closing_of past b.qid) is;
            others = λ q r among. closing_not_abort q r opened.queue.region (waiting past opened.queue.region) among;
          }))
      | inr n ↦ inl (record {
        history = history-is ∙ sym (fore-is ∙ n.same (EntryApplied entry ∷ table_history rules past));
        none_pending = done.none_pending;
        none_due = λ q r rest is among. n.none q (begun-by past v q r (subst (IsIn (Closing q r)) (is ∙ makes) among));
      })
    ]

  -- a pick of an I/O command
  io-stage : (past : Past) (seen : List Seen) (pick : Pick) → Each (EffectsAtOnce rules) past → (pick.qid ≡ 0 → ⊥) → IsDone past → Stage (event.Pick seen pick ∷ past)
  io-stage past seen pick effects io done =
      let not_admin : (pick.qid == 0) ≡ false = ne_eqb pick.qid 0 io in
      inl (record {
        history = ap (λ (b : Bool). if b then applied (admin_entry past) ++ table_history rules past else table_history rules past) not_admin ∙ done.history
            ∙ ap (λ (n : ℕ). fore n (fetched past 0)) (sym (picked-pick_other past seen pick 0 (other-region past pick.qid effects io)));
        none_pending = done.none_pending;
        none_due = λ q r rest is among.
            let nothing : made_last rules (event.Pick seen pick ∷ past) ≡ [] = ap (λ (b : Bool). if b then made_of rules past (admin_entry past) else []) not_admin in
            let none : IsIn (Closing q r) [] = subst (IsIn (Closing q r)) (is ∙ nothing) among in
            none;
      })

  -- ---- each event
  module _ (starts : StartsWithAdmin rules) where
    -- nothing is due where a pick comes
    is-done : (past : Past) → effects_since past ≡ made_last rules past → pending past ≡ None → Stage past → IsDone past
    is-done past all none (inl d) = d
    is-done past all none (inr (inl p)) = absurd (let no : [] ≡ Closing p.qid p.region ∷ p.more = sym p.none_yet ∙ all ∙ p.makes in cc)
    is-done past all none (inr (inr g)) = absurd (let no : None ≡ Some (record { qid = g.qid; region = g.region }) = sym none ∙ g.pending_is in cc)

    -- nor where an event comes that is no effect
    not-picked : (past : Past) → effects_since past ≡ made_last rules past → IsPicked past → ⊥
    not-picked past all p = let no : [] ≡ Closing p.qid p.region ∷ p.more = sym p.none_yet ∙ all ∙ p.makes in cc

    stage-of : (past : Past) → Each (EffectsAtOnce rules) past → Each Deletes past → Each (ServedWhileOpen rules) past → Each Observed past
        → IsLawfulRun rules.mechanism rules.start.settings (arbitration_of past) → Stage past
    stage-of [] h d s o l = inl (record {
      history = refl;
      none_pending = refl;
      none_due = λ q r rest is among. let none : IsIn (Closing q r) [] = subst (IsIn (Closing q r)) is among in none;
    })
    stage-of (event.Pick seen pick ∷ past) h d s o l =
        let done = is-done past h.0 d.0 (stage-of past h.1 d.1 s.1 o.1 l.2) in
        let takes : Each TakesSome (event.Pick seen pick ∷ past) = each-takes rules (event.Pick seen pick ∷ past) s o l in
        elim (cases_eq pick.qid 0) [
          | inl admin ↦ picked-stage starts past seen pick h.1 h.0 admin (one_of_admin rules.mechanism rules.start.settings (arbitration_of past) seen pick l.0 (whole_is_limited rules.mechanism rules.start.settings (arbitration_of past) seen pick l.0 l.1) admin) takes.0 done
          | inr io ↦ io-stage past seen pick h.1 io done
        ]
    stage-of (Fetch region index entry ∷ past) h d s o l =
        plain past (Fetch region index entry) refl (fore-fetch past region index entry (picked past 0) (few-picked past h.1 o.1 l)) refl (λ due. due) (not-picked past h.0) (stage-of past h.1 d.1 s.1 o.1 l)
    stage-of (Post c r i cqe ∷ past) h d s o l =
        plain past (Post c r i cqe) refl refl refl (λ due. due) (not-picked past h.0) (stage-of past h.1 d.1 s.1 o.1 l)
    stage-of (ClosedSq q r ∷ past) h d s o l = by (stage-of past h.1 d.1 s.1 o.1 l) where
      by : Stage past → Stage (ClosedSq q r ∷ past)
      by (inl done) = absurd (let no : None ≡ Some (record { qid = q; region = r }) = sym done.none_pending ∙ d.0.0 in cc)
      by (inr (inl p)) = absurd (not-picked past h.0 p)
      by (inr (inr g)) =
          let same : q ≡ g.qid = ap (λ (x : Deletion). x.qid) (same_Some _ _ (sym d.0.0 ∙ g.pending_is)) in
          inl (record { history = ap (λ (z : ℕ). DeletionFinished z ∷ table_history rules past) same ∙ g.history; none_pending = refl; none_due = g.none_due })
    stage-of (Closing q r ∷ past) h d s o l = by (stage-of past h.1 d.1 s.1 o.1 l) where
      by : Stage past → Stage (Closing q r ∷ past)
      by (inl done) = absurd (not-due past q r h.0 done.none_due)
      by (inr (inr g)) = absurd (not-due past q r h.0 g.none_due)
      by (inr (inl p)) =
          let is : Closing q r ≡ Closing p.qid p.region = first-is_made rules past (Closing q r) (Closing p.qid p.region) p.more h.0 p.none_yet p.makes in
          let same : q ≡ p.qid = cc in
          inr (inr (record {
            qid = q;
            region = r;
            history = ap (λ (z : ℕ). DeletionFinished z ∷ table_history rules past) same ∙ p.history;
            pending_is = refl;
            none_due = λ k t rest made among.
                let begun : Closing q r ∷ rest ≡ Closing p.qid p.region ∷ p.more = ap (λ (es : List Event). (es ++ Closing q r ∷ []) ++ rest) (sym p.none_yet) ∙ made ∙ p.makes in
                let left : rest ≡ p.more = cc in
                p.others k t (subst (IsIn (Closing k t)) left among);
          }))
    stage-of (SetArbitration settings ∷ past) h d s o l =
        plain past (SetArbitration settings) refl refl refl (due-less past (SetArbitration settings)) (λ p. not-first past (SetArbitration settings) p h.0 (λ e. cc e)) (stage-of past h.1 d.1 s.1 o.1 l)
    stage-of (OpenSq qid region cqid class ∷ past) h d s o l =
        plain past (OpenSq qid region cqid class) refl refl refl (due-less past (OpenSq qid region cqid class)) (λ p. not-first past (OpenSq qid region cqid class) p h.0 (λ e. cc e)) (stage-of past h.1 d.1 s.1 o.1 l)
    stage-of (OpenCq qid region ∷ past) h d s o l =
        plain past (OpenCq qid region) refl refl refl (due-less past (OpenCq qid region)) (λ p. not-first past (OpenCq qid region) p h.0 (λ e. cc e)) (stage-of past h.1 d.1 s.1 o.1 l)
    stage-of (ClosedCq qid region ∷ past) h d s o l =
        plain past (ClosedCq qid region) refl refl refl (due-less past (ClosedCq qid region)) (λ p. not-first past (ClosedCq qid region) p h.0 (λ e. cc e)) (stage-of past h.1 d.1 s.1 o.1 l)
    stage-of (Abort region index ∷ past) h d s o l =
        plain past (Abort region index) refl refl refl (due-less past (Abort region index)) (λ p. not-first past (Abort region index) p h.0 (λ e. cc e)) (stage-of past h.1 d.1 s.1 o.1 l)

    -- ---- the table before each command
    before-is : (past : Past) → Each (EffectsAtOnce rules) past → Each Deletes past → Each (ServedWhileOpen rules) past → Each Observed past
        → IsLawfulRun rules.mechanism rules.start.settings (arbitration_of past) → (k : ℕ) → k < picked past 0
        → table_before rules past k ≡ fore k (fetched past 0)
    before-is [] h d s o l k lt = absurd (omega (arith, lt))
    before-is (Fetch region index entry ∷ past) h d s o l k lt =
        let few = few-picked past h.1 o.1 l in
        before-is past h.1 d.1 s.1 o.1 l k lt ∙ sym (fore-fetch past region index entry k (omega (arith, few, lt)))
    before-is (event.Pick seen pick ∷ past) h d s o l k lt = elim (cases_eq pick.qid 0) [
      | inr io ↦
          let not_admin : (pick.qid == 0) ≡ false = ne_eqb pick.qid 0 io in
          let same = picked-pick_other past seen pick 0 (other-region past pick.qid h.1 io) in
          ap (λ (b : Bool). if b && is_index k (slice_get (waiting past 0) 0) then table_history rules past else table_before rules past k) not_admin
          ∙ before-is past h.1 d.1 s.1 o.1 l.2 k (omega (arith, lt, same))
      | inl admin ↦
          let done = is-done past h.0 d.0 (stage-of past h.1 d.1 s.1 o.1 l.2) in
          let takes : Each TakesSome (event.Pick seen pick ∷ past) = each-takes rules (event.Pick seen pick ∷ past) s o l in
          let one = one_of_admin rules.mechanism rules.start.settings (arbitration_of past) seen pick l.0 (whole_is_limited rules.mechanism rules.start.settings (arbitration_of past) seen pick l.0 l.1) admin in
          let first = oldest starts past seen pick h.1 h.0 admin one takes.0 done in
          let more = picked-pick past seen pick 0 (own-region past pick.qid h.1 admin) in
          let turn : table_before rules (event.Pick seen pick ∷ past) k ≡ (if picked past 0 == k then table_history rules past else table_before rules past k) =
          (λ t. if eq-eqb pick.qid 0 admin t && is_index k (first t) then table_history rules past else table_before rules past k) in
          elim (cases_eq (picked past 0) k) [
            | inl same ↦ turn ∙ ap (λ (b : Bool). if b then table_history rules past else table_before rules past k) (eq-eqb (picked past 0) k same)
                ∙ done.history ∙ ap (λ (n : ℕ). fore n (fetched past 0)) same
            | inr other ↦ turn ∙ ap (λ (b : Bool). if b then table_history rules past else table_before rules past k) (ne_eqb (picked past 0) k other)
                ∙ before-is past h.1 d.1 s.1 o.1 l.2 k (omega (arith, lt, more, one, other))
          ]
    ]
    before-is (SetArbitration settings ∷ past) h d s o l k lt = before-is past h.1 d.1 s.1 o.1 l k lt
    before-is (e ∷ past) h d s o l k lt = before-is past h.1 d.1 s.1 o.1 l k lt

-- a place that doesn't wait was picked, where none is aborted
was-picked : (a : Bool) (u p k : ℕ) → a ≡ false → u ≡ k → is_waiting (if a then WasAborted else (if nat_lt u p then WasPicked else Waits)) ≡ false → k < p
was-picked a u p k none same w = by (nat_lt u p) refl (subst (λ (b : Bool). is_waiting (if b then WasAborted else (if nat_lt u p then WasPicked else Waits)) ≡ false) none w) where
  by : (b : Bool) → nat_lt u p ≡ b → is_waiting (if b then WasPicked else Waits) ≡ false → k < p
  by true e h = let lt : u < p = ltb-true u p e in omega (arith, lt, same)
  by false e h = cc h

pub answers_are_foreseen_by : (rules : FrontRules) (executor : Executor) (sent : ℕ → List Sqe) (past : Past) (collected : ℕ → List Cqe)
    → StartsWithAdmin rules → IsAccountBy rules executor sent past collected
    → (later before : Past) (c k : ℕ) (cqe : Cqe) (entry : Sqe) → past ≡ later ++ Post c 0 k cqe ∷ before → slice_get (sent 0) k ≡ Some entry
    → cqe.status ≡ status_of rules.start (foreseen rules.start rules.regions (reverse (take k (sent 0)))) entry
answers_are_foreseen_by rules executor sent past collected starts account later before c k cqe entry is there =
    let split : past ≡ (later ++ Post c 0 k cqe ∷ []) ++ before = is ∙ sym (append_assoc later (Post c 0 k cqe ∷ []) before) in
    let so_far = accounted_by rules executor sent (later ++ Post c 0 k cqe ∷ []) before collected (subst (λ (z : Past). IsAccountBy rules executor sent z collected) split account) in
    let own : PostsOwnBy rules executor before (Post c 0 k cqe) = (Each-after (PostsOwnBy rules executor) later (Post c 0 k cqe ∷ before) (subst (Each (PostsOwnBy rules executor)) is account.posts_own)).0 in
    let it = own.2 in
    let first = so_far.fetched_in_order 0 in
    let same : it.entry ≡ entry = same_Some _ _ (sym (entry-stays (fetched before 0) first.0 k it.entry it.is_there) ∙ ap (λ (xs : List Sqe). slice_get xs k) first.1 ∙ there) in
    let alone : (i : ℕ) → is_aborted before 0 i ≡ false = λ i. false_from_ne_true (is_aborted before 0 i) (λ a. admin-unaborted rules before so_far.effects_at_once i a) in
    let none : (λ (i : ℕ). not (is_aborted before 0 i)) ≡ (λ (i : ℕ). true) = λ t i. not (alone i t) in
    let below : unaborted_below before 0 k ≡ k = ap (λ (f : ℕ → Bool). length (filter f (upto k))) none ∙ ap length (keep_all (upto k)) ∙ length-upto k in
    let lt : k < picked before 0 = was-picked (is_aborted before 0 k) (unaborted_below before 0 k) (picked before 0) k (alone k) below own.1 in
    let table = before-is rules starts before so_far.effects_at_once so_far.deletes so_far.served_while_open so_far.observed so_far.lawful k lt in
    let within = slice_get_within (fetched before 0) k it.entry it.is_there in
    let grew : first_ones k (fetched before 0) ≡ first_ones k (sent 0) = sym (grown (fetched before 0) first.0 k (omega (arith, within))) ∙ ap (first_ones k) first.1 in
    let status : own_status_by rules (executor (place_at 0 k) it.entry) before 0 k it.entry ≡ status_of rules.start (table_before rules before k) it.entry = rw (alone k) refl in
    it.status ∙ status
    ∙ (λ t. status_of rules.start (table t) (same t))
    ∙ ap (λ (xs : List Sqe). status_of rules.start (foreseen rules.start rules.regions xs) entry) grew

pub answers_are_foreseen : AnswersAreForeseen
answers_are_foreseen rules = answers_are_foreseen_by rules (by_outcome rules)
