-- The admin commands are picked one by one, in order, and which of them turn a submission queue.
use Rattle.std.proofs.Common.{◌≡◌, ℕ, zero, suc, ◌+◌, ◌<◌, ◌≤◌, ◌==◌, Bool, true, false, if◌then◌else◌, List, [], ◌∷◌, ◌++◌, length, drop, filter, Option, Some, None, refl, sym, ap, ◌∙◌, subst, arith, ◌⊎◌, inl, inr}
use Rattle.std.specs.Prelude.{slice_get, option_and_then, unwrap_or}
use Rattle.std.proofs.lemmas.Bool.{cases_eq, ne_eqb, false_from_ne_true}
use Rattle.std.proofs.lemmas.Option.{none-some, same_Some}
use Rattle.std.proofs.lemmas.List.{length_push}
use Rattle.nvme_entry.specs.Status.{StatusCode}
use Rattle.nvme_entry.specs.AdminCommand.{admin_command_of}
use Rattle.nvme_entry.specs.declared.submission.Sqe.{Sqe}
use Rattle.nvme_entry.specs.declared.admin.AdminCommand.{AdminCommand}
use Rattle.nvme_entry.specs.declared.admin.AdminCommand.TheVariants.{DeleteSq, CreateSq, DeleteCq, CreateCq, Abort, SetFeatures, GetFeatures, Other}
use Rattle.nvme_arbiter.specs.declared.pick.Pick.{Pick}
use Rattle.nvme_arbiter.specs.declared.pick.Seen.{Seen}
use Rattle.nvme_arbiter.specs.declared.settings.Class.{Class}
use Rattle.nvme_admin.specs.declared.verdict.SqEntry.{SqEntry}
use Rattle.nvme_admin.specs.declared.verdict.Verdict.{Verdict}
use Rattle.nvme_admin.specs.declared.verdict.Verdict.TheVariants as verdict
use Rattle.nvme_arbiter.specs.Settings.{ArbitrationFields}
use Rattle.nvme_admin.specs.History.{Start, TableHistory, Placing, Effects, Accepted}
use Rattle.nvme_admin.specs.declared.region.Region.{Region}
use Rattle.nvme_admin.specs.QueueTable.{table_in, number_of_queues, placing_in, number_by, class_of, sq_named_in, sq_in, sq_regions_in}
use Rattle.nvme_admin.specs.Checks.{is_success, status_over, verdict_after, opened_sq, opened_cq}
use Rattle.nvme_admin.specs.Accepted.{effects_of, queue_table, status_of, verdict_of}
use Rattle.nvme_admin.proofs.Reached.{Passes, create_sq-found, create_sq-asked, status_over-passes}
use Rattle.nvme_log.specs.declared.event.Event.TheVariants.{Fetch}
use Rattle.nvme_log.specs.declared.event.Event.TheVariants as event
use Rattle.nvme_log.specs.Rules.{FrontRules, Past, Each, upto, sq_regions_of, slots_at}
use Rattle.nvme_log.specs.Queues.{Queue, admin_queue, open_sq, has_region}
use Rattle.nvme_log.specs.Places.{fetched, picked, waiting, is_aborted, entry_at}
use Rattle.nvme_log.specs.Histories.{table_history, admin_entry, applied}
use Rattle.nvme_log.specs.Effects.{EffectsAtOnce}
use Rattle.nvme_log.proofs.AdminPicks.{one_of_admin}
use Rattle.nvme_log.proofs.Fates.{length-upto}
use Rattle.nvme_log.proofs.LogLengths.{TakesWaiting}
use Rattle.nvme_log.proofs.Members.{IsIn}
use Rattle.nvme_log.proofs.Turns.{in-waits, admin-stays, region-io, admin-unaborted}
use Rattle.nvme_log.proofs.Waiting.{left, unaborted, waiting_is-drop, picked-pick, picked-pick_other}
use Rattle.nvme_ctrl_log.proofs.AskedSlots.{own}
use Rattle.nvme_ctrl_log.proofs.TakenCommands.{IsSound, sound-before}
use Rattle.nvme_audit.specs.Lives.{turns_sq}

-- ---- lists
keep_all : (xs : List ℕ) → filter (λ (i : ℕ). true) xs ≡ xs
keep_all [] = refl
keep_all (x ∷ xs) = ap (λ (ys : List ℕ). x ∷ ys) (keep_all xs)

get-drop : {T : Type 0} (p : ℕ) (xs : List T) → slice_get (drop p xs) 0 ≡ slice_get xs p
get-drop zero xs = refl
get-drop (suc p) [] = refl
get-drop (suc p) (x ∷ xs) = get-drop p xs

get-push : (xs : List ℕ) (y p x : ℕ) → slice_get (xs ++ y ∷ []) p ≡ Some x → (slice_get xs p ≡ Some x) ⊎ ((p ≡ length xs) × (y ≡ x))
get-push [] y zero x h = inr (refl, same_Some y x h)
get-push [] y (suc p) x h = absurd (none-some x h)
get-push (z ∷ xs) y zero x h = inl h
get-push (z ∷ xs) y (suc p) x h = elim (get-push xs y p x h) [
  | inl e ↦ inl e
  | inr e ↦ inr (ap (λ (k : ℕ). suc k) e.0 ∙ refl, e.1)
]

get-upto : (n p j : ℕ) → slice_get (upto n) p ≡ Some j → p ≡ j
get-upto zero p j h = absurd (none-some j h)
get-upto (suc n) p j h = elim (get-push (upto n) n p j h) [
  | inl e ↦ get-upto n p j e
  | inr e ↦ e.0 ∙ length-upto n ∙ e.1
]

at-below : (xs : List Sqe) (k : ℕ) → k < length xs → (entry : Sqe) × (slice_get xs k ≡ Some entry)
at-below [] k lt = absurd (omega (arith, lt))
at-below (x ∷ xs) zero lt = (x, refl)
at-below (x ∷ xs) (suc k) lt = at-below xs k (omega (arith, lt))

module _ (rules : FrontRules) where
  -- ---- the order of the picks
  admin-waiting : (past : Past) → Each (EffectsAtOnce rules) past → waiting past 0 ≡ drop (picked past 0) (upto (length (fetched past 0)))
  admin-waiting past h =
      let none : (λ (i : ℕ). is_aborted past 0 i) ≡ (λ (i : ℕ). false) = λ t i. false_from_ne_true (is_aborted past 0 i) (λ a. admin-unaborted rules past h i a) t in
      let all : unaborted past 0 ≡ upto (length (fetched past 0)) = ap (λ (f : ℕ → Bool). left f (length (fetched past 0))) none ∙ keep_all (upto (length (fetched past 0))) in
      waiting_is-drop past 0 ∙ ap (drop (picked past 0)) all

  oldest-is : (past : Past) → Each (EffectsAtOnce rules) past → (j : ℕ) → slice_get (waiting past 0) 0 ≡ Some j → picked past 0 ≡ j
  oldest-is past h j is =
      get-upto (length (fetched past 0)) (picked past 0) j
      (sym (get-drop (picked past 0) (upto (length (fetched past 0)))) ∙ ap (λ (xs : List ℕ). slice_get xs 0) (sym (admin-waiting past h)) ∙ is)

  own-region : (past : Past) (q : ℕ) → Each (EffectsAtOnce rules) past → q ≡ 0 → has_region 0 (open_sq past q) ≡ true
  own-region past q h z = ap (λ (k : ℕ). has_region 0 (open_sq past k)) z ∙ ap (has_region 0) (admin-stays rules past h)

  other-region : (past : Past) (q : ℕ) → Each (EffectsAtOnce rules) past → (q ≡ 0 → ⊥) → has_region 0 (open_sq past q) ≡ false
  other-region past q h io = by (open_sq past q) refl where
    by : (o : Option Queue) → open_sq past q ≡ o → has_region 0 o ≡ false
    by None is = refl
    by (Some queue) is = ne_eqb queue.region 0 (region-io rules past h q queue is io)

  -- a pick of the admin queue takes the command behind those that were picked
  pub record TakesNext (past : Past) (seen : List Seen) (pick : Pick) : Type 0 where
    pub oldest : slice_get (waiting past 0) 0 ≡ Some (picked past 0)
    pub entry : Sqe
    pub is_there : entry_at past 0 (picked past 0) ≡ Some entry
    pub entry_is : admin_entry past ≡ Some entry
    pub within : picked past 0 < length (fetched past 0)
    pub one_more : picked (event.Pick seen pick ∷ past) 0 ≡ picked past 0 + 1

  pub takes_next : (past : Past) (seen : List Seen) (pick : Pick) → IsSound rules (event.Pick seen pick ∷ past) → pick.qid ≡ 0 → TakesNext past seen pick
  takes_next past seen pick s admin = by s.takes.0 where
    by : TakesWaiting past pick → TakesNext past seen pick
    by t =
        let here : Some t.queue ≡ Some admin_queue = sym t.is_open ∙ ap (open_sq past) admin ∙ admin-stays rules past s.effects.1 in
        let region : t.queue.region ≡ 0 = ap (λ (x : Queue). x.region) (same_Some t.queue admin_queue here) in
        let waits : waiting past 0 ≡ t.first ∷ t.others = ap (waiting past) (sym region) ∙ t.wait in
        let oldest : slice_get (waiting past 0) 0 ≡ Some t.first = ap (λ (xs : List ℕ). slice_get xs 0) waits in
        let next : picked past 0 ≡ t.first = oldest-is past s.effects.1 t.first oldest in
        let there = in-waits past 0 t.first (subst (IsIn t.first) (sym waits) (inl refl)) in
        let at = at-below (fetched past 0) t.first there.0 in
        let one = one_of_admin rules.mechanism rules.start.settings _ seen pick s.lawful.0 s.lawful.1 admin in
        let more = picked-pick past seen pick 0 (own-region past pick.qid s.effects.1 admin) in
        record {
          oldest = oldest ∙ ap (λ (k : ℕ). Some k) (sym next);
          entry = at.0;
          is_there = ap (entry_at past 0) next ∙ at.1;
          entry_is = ap (option_and_then (entry_at past 0)) oldest ∙ at.1;
          within = omega (arith, next, there.0);
          one_more = omega (arith, one, more);
        }

  -- and one of another queue takes none
  pub takes_other : (past : Past) (seen : List Seen) (pick : Pick) → IsSound rules (event.Pick seen pick ∷ past) → (pick.qid ≡ 0 → ⊥) → picked (event.Pick seen pick ∷ past) 0 ≡ picked past 0
  takes_other past seen pick s io = picked-pick_other past seen pick 0 (other-region past pick.qid s.effects.1 io)

  -- no more are picked than were fetched
  pub few_picked : (past : Past) → IsSound rules past → picked past 0 ≤ length (fetched past 0)
  few_picked [] s = omega arith
  few_picked (Fetch region index entry ∷ past) s = by (region == 0) (few_picked past (sound-before rules (Fetch region index entry) past s)) where
    by : (b : Bool) → picked past 0 ≤ length (fetched past 0) → picked past 0 ≤ length (if b then fetched past 0 ++ entry ∷ [] else fetched past 0)
    by true few = omega (arith, few, length_push (fetched past 0) entry)
    by false few = few
  few_picked (event.Pick seen pick ∷ past) s =
      let few = few_picked past (sound-before rules (event.Pick seen pick) past s) in
      elim (cases_eq pick.qid 0) [
        | inl admin ↦ (let next = takes_next past seen pick s admin in omega (arith, next.one_more, next.within))
        | inr io ↦ omega (arith, takes_other past seen pick s io, few)
      ]
  few_picked (e ∷ past) s = few_picked past (sound-before rules e past s)

-- ---- what an admin command turns
-- where its check has come out so, its verdict opens this submission queue, begins its deletion, or does neither
pub data Turn (placing : Option Placing) (regions : List Region) (v : Verdict) (command : AdminCommand) (b : Bool) (q : ℕ) : Type 0 where
  opens : (qsize prp1 cqid qprio : ℕ) (pc : Bool) (region : ℕ) (class : Class) → b ≡ true → command ≡ CreateSq q qsize prp1 cqid qprio pc → v ≡ verdict.OpenSq q region cqid class
      → (placing ≡ None → slots_at regions region ≡ qsize + 1) → Turn placing regions v command b q
  deletes : b ≡ true → command ≡ DeleteSq q → v ≡ verdict.BeginDelete q → Turn placing regions v command b q
  neither : ((region cqid : ℕ) (class : Class) → v ≡ verdict.OpenSq q region cqid class → ⊥) → (v ≡ verdict.BeginDelete q → ⊥) → (b ≡ true → turns_sq command q ≡ false) → Turn placing regions v command b q

pub slots_get : (regions : List Region) (k : ℕ) (x : Region) → slice_get regions k ≡ Some x → slots_at regions k ≡ x.slots
slots_get [] k x e = absurd (none-some x e)
slots_get (y ∷ regions) zero x e = ap (λ (z : Region). z.slots) (same_Some y x e)
slots_get (y ∷ regions) (suc k) x e = slots_get regions k x e

opened_is : (qid q region cqid : ℕ) (class : Class) (o : Option SqEntry) → opened_sq qid o ≡ verdict.OpenSq q region cqid class → qid ≡ q
opened_is qid q region cqid class None e = cc e
opened_is qid q region cqid class (Some queue) e = cc e

opened_deletes : (qid q : ℕ) (o : Option SqEntry) → opened_sq qid o ≡ verdict.BeginDelete q → ⊥
opened_deletes qid q None e = cc e
opened_deletes qid q (Some queue) e = cc e

opened_cq_is : (qid q region cqid : ℕ) (class : Class) (o : Option ℕ) → opened_cq qid o ≡ verdict.OpenSq q region cqid class → ⊥
opened_cq_is qid q region cqid class None e = cc e
opened_cq_is qid q region cqid class (Some r) e = cc e

opened_cq_deletes : (qid q : ℕ) (o : Option ℕ) → opened_cq qid o ≡ verdict.BeginDelete q → ⊥
opened_cq_deletes qid q None e = cc e
opened_cq_deletes qid q (Some r) e = cc e

sets_is : (b : Bool) (status : StatusCode) (dw0 : ℕ) (settings : ArbitrationFields) (q region cqid : ℕ) (class : Class) → (if b then verdict.Done status dw0 else verdict.SetArbitration settings) ≡ verdict.OpenSq q region cqid class → ⊥
sets_is true status dw0 settings q region cqid class e = cc e
sets_is false status dw0 settings q region cqid class e = cc e

sets_deletes : (b : Bool) (status : StatusCode) (dw0 : ℕ) (settings : ArbitrationFields) (q : ℕ) → (if b then verdict.Done status dw0 else verdict.SetArbitration settings) ≡ verdict.BeginDelete q → ⊥
sets_deletes true status dw0 settings q e = cc e
sets_deletes false status dw0 settings q e = cc e

module _ (start : Start) (e : Effects) (q : ℕ) where
  turn_by : (command : AdminCommand) → Passes (table_in start e) command → Turn (placing_in e) (sq_regions_in e) (verdict_after (table_in start (Accepted command ∷ e)) command) command true q
  turn_by (CreateSq qid qsize prp1 cqid qprio pc) h = elim (cases_eq qid q) [
    | inl same ↦
        let found = create_sq-found (table_in start e) qid qsize prp1 cqid qprio pc h in
        let region : ℕ = unwrap_or (number_by (placing_in e) (length (sq_named_in e)) (sq_regions_in e) prp1) 0 in
        let opened : opened_sq qid (sq_in (Accepted (CreateSq qid qsize prp1 cqid qprio pc) ∷ e) qid) ≡ verdict.OpenSq qid region cqid (class_of qprio) =
        ap (λ (o : Option SqEntry). opened_sq qid o) (own qid _ _ _ found.not_admin) in
        opens qsize prp1 cqid qprio pc region (class_of qprio) refl (ap (λ (k : ℕ). CreateSq k qsize prp1 cqid qprio pc) same) (opened ∙ ap (λ (k : ℕ). verdict.OpenSq k region cqid (class_of qprio)) same)
        (λ by_regions. let asked = create_sq-asked (table_in start e) qid qsize prp1 cqid qprio pc by_regions h in
        let number : region ≡ asked.0 = ap (λ (o : Option ℕ). unwrap_or o 0) asked.1 in
        ap (slots_at (sq_regions_in e)) number ∙ slots_get (sq_regions_in e) asked.0 (record { address = prp1; slots = qsize + 1 }) asked.2)
    | inr other ↦ neither (λ region c class is. other (opened_is qid q region c class _ is)) (opened_deletes qid q _) (λ yes. ne_eqb qid q other)
  ]
  turn_by (DeleteSq qid) h = elim (cases_eq qid q) [
    | inl same ↦ deletes refl (ap (λ (k : ℕ). DeleteSq k) same) (ap (λ (k : ℕ). verdict.BeginDelete k) same)
    | inr other ↦ neither (λ region c class is. cc is) (λ is. other (cc is)) (λ yes. ne_eqb qid q other)
  ]
  turn_by (CreateCq qid qsize prp1 pc) h = neither (λ region c class is. opened_cq_is qid q region c class _ is) (opened_cq_deletes qid q _) (λ yes. refl)
  turn_by (DeleteCq qid) h = neither (λ region c class is. cc is) (λ is. cc is) (λ yes. refl)
  turn_by (Abort sqid cid) h = neither (λ region c class is. cc is) (λ is. cc is) (λ yes. refl)
  turn_by (SetFeatures fid sv cdw11) h = neither (λ region c class is. sets_is (fid == number_of_queues) _ _ _ q region c class is) (sets_deletes (fid == number_of_queues) _ _ _ q) (λ yes. refl)
  turn_by (GetFeatures fid) h = neither (λ region c class is. cc is) (λ is. cc is) (λ yes. refl)
  turn_by Other h = neither (λ region c class is. cc is) (λ is. cc is) (λ yes. refl)

  turn_if : (command : AdminCommand) (status : StatusCode) (b : Bool) → (b ≡ true → Passes (table_in start e) command)
      → Turn (placing_in e) (sq_regions_in e) (if b then verdict_after (table_in start (if b then Accepted command ∷ e else e)) command else verdict.Done status 0) command b q
  turn_if command status true passes = turn_by command (passes refl)
  turn_if command status false passes = neither (λ region c class is. cc is) (λ is. cc is) (λ yes. cc yes)

pub turn_of : (start : Start) (h : TableHistory) (entry : Sqe) (q : ℕ) → Turn (queue_table start h).placing (queue_table start h).sq_regions (verdict_of start h entry) (admin_command_of entry) (is_success (status_of start h entry)) q
unfolding effects_of queue_table status_of verdict_of
turn_of start h entry q =
    let e : Effects = effects_of start h in
    let status : StatusCode = status_over (table_in start e) entry in
    turn_if start e q (admin_command_of entry) status (is_success status) (status_over-passes (table_in start e) entry)

-- the regions of a table stay those of its rules
pub regions_stay : (rules : FrontRules) (past : Past) → (queue_table rules.start (table_history rules past)).sq_regions ≡ sq_regions_of rules
unfolding effects_of queue_table
regions_stay rules [] = refl
regions_stay rules (event.Pick seen pick ∷ past) = by (pick.qid == 0) (admin_entry past) (regions_stay rules past) where
  applies : (b : Bool) (command : AdminCommand) (e : Effects) → sq_regions_in (if b then Accepted command ∷ e else e) ≡ sq_regions_in e
  applies true command e = refl
  applies false command e = refl

  by : (b : Bool) (o : Option Sqe) → (queue_table rules.start (table_history rules past)).sq_regions ≡ sq_regions_of rules
      → (queue_table rules.start (if b then applied o ++ table_history rules past else table_history rules past)).sq_regions ≡ sq_regions_of rules
  by false o before = before
  by true None before = before
  by true (Some entry) before = applies _ (admin_command_of entry) (effects_of rules.start (table_history rules past)) ∙ before
regions_stay rules (event.ClosedSq qid region ∷ past) = regions_stay rules past
regions_stay rules (e ∷ past) = regions_stay rules past
